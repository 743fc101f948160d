-- The texts of a refusal and of a bid, as docs/CALLS.md gives them.
-- To believe: these texts, and that std's `decimal` and `signed_decimal` are what `{}` writes of a number.
use Rattle.std.specs.Prelude.{ℕ, List, ◌++◌, codes, decimal}
use Rattle.std.specs.Fmt.{signed_decimal}
use Rattle.market.specs.declared.block.Bid.{Bid}
use Rattle.market.specs.declared.refusal.Refusal.{Refusal}
use Rattle.market.specs.Refusals.{refusal_number}

abbrev pub refusal_text : Refusal → List ℕ
refusal_text why = codes "(no " ++ (decimal (refusal_number why) ++ codes ")")

unfoldable pub bid_text : Bid → List ℕ
bid_text b =
    codes "(" ++ (decimal b.agent ++ (codes " " ++ (decimal b.unit ++ (codes " " ++ (decimal b.number
    ++ (codes " " ++ (decimal b.stamp ++ (codes " " ++ (signed_decimal b.price ++ (codes " " ++ (decimal b.volume ++ codes ")")))))))))))
