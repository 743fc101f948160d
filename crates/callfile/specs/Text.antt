-- The text of a call, as docs/CALLS.md gives it, which calls have one, and what it is to read a line. A reader must
-- believe this file, the texts of a side and of a bid in market, and that std's `decimal` and `signed_decimal` are what `{}` writes of a number.
use Rattle.std.specs.Prelude.{◌≡◌, ℕ, ◌≤◌, List, ◌++◌, ℤ, pos, negsuc, ◌≤ℤ◌, Some, None, codes, decimal, Option, ◌≢◌}
use Rattle.market.specs.Answers.{bid_text}
use Rattle.market.specs.Zones.{side_text}
use Rattle.market.specs.declared.block.Bid.{Bid}
use Rattle.market.specs.declared.block.BlockKey.{BlockKey}
use Rattle.market.specs.declared.call.Call.{Call}
use Rattle.market.specs.declared.call.Call.TheVariants.{Admit, Begin, Enter, Withdraw, Close, Clear, Settle, Annul}

unfoldable pub key_text : BlockKey → List ℕ
key_text k = codes "(" ++ decimal k.unit ++ codes " " ++ decimal k.number ++ codes ")"

unfoldable pub text : Call → List ℕ
text (Admit agent) = codes "(admit " ++ decimal agent ++ codes ")"
text (Begin session forward backward) =
    codes "(begin " ++ decimal session ++ codes " " ++ decimal forward ++ codes " " ++ decimal backward ++ codes ")"
text (Enter zone side bid) =
    codes "(enter " ++ decimal zone ++ codes " " ++ side_text side ++ codes " " ++ bid_text bid ++ codes ")"
text (Withdraw zone side key) =
    codes "(withdraw " ++ decimal zone ++ codes " " ++ side_text side ++ codes " " ++ key_text key ++ codes ")"
text Close = codes "(close)"
text Clear = codes "(clear)"
text Settle = codes "(settle)"
text Annul = codes "(annul)"

-- at most nine digits
unfoldable pub Short : ℕ → Type 0
Short n = n ≤ 999_999_999

unfoldable pub ShortPrice : ℤ → Type 0
ShortPrice p = (negsuc 999_999_998 ≤ℤ p) × (p ≤ℤ pos 999_999_999)

unfoldable pub ShortBid : Bid → Type 0
ShortBid b = Short b.agent × Short b.unit × Short b.number × Short b.stamp × ShortPrice b.price × Short b.volume

unfoldable pub ShortKey : BlockKey → Type 0
ShortKey k = Short k.unit × Short k.number

-- every number of the call has at most nine digits
unfoldable pub Writable : Call → Type 0
Writable (Admit agent) = Short agent
Writable (Begin session forward backward) = Short session × Short forward × Short backward
Writable (Enter zone side bid) = Short zone × ShortBid bid
Writable (Withdraw zone side key) = Short zone × ShortKey key
Writable Close = Unit {0}
Writable Clear = Unit {0}
Writable Settle = Unit {0}
Writable Annul = Unit {0}

-- the answer is the one call whose text the line is, and None if the line is the text of no call
abbrev pub Reads : List ℕ → Option Call → Type 0
Reads line None = (d : Call) → Writable d → line ≢ text d
Reads line (Some c) = Writable c × (line ≡ text c) × ((d : Call) → Writable d → line ≡ text d → d ≡ c)
