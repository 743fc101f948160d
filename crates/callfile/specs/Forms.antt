-- The forms of the call file as readings: each takes its own text from the front of a line, or nothing. Nobody need
-- believe this file: the contract of `read_call` cites only Text. 40 is `(`, 41 is `)` and 32 is a space.
use Rattle.std.specs.Prelude.{ℕ, cond, List, length, ℤ, Some, None, codes, Option, ◌==◌}
use Rattle.std.specs.Option.{option_map}
use Rattle.std.specs.Str.{bytes_eq}
use Rattle.market.specs.declared.block.Bid.{Bid}
use Rattle.market.specs.declared.block.BlockKey.{BlockKey}
use Rattle.market.specs.declared.call.Call.{Call}
use Rattle.market.specs.declared.call.Call.TheVariants.{Admit, Begin, Enter, Withdraw, Close, Clear, Settle, Annul}
use Rattle.market.specs.declared.zone.Side.{Side}
use Rattle.market.specs.declared.zone.Side.TheVariants.{Sale, Purchase}
use Rattle.callfile.specs.Reading.{and_then, byte_of, word_of, number_of, price_of}

abbrev pub Reading : Type 0 → Type 0
Reading A = List ℕ → Option (A × List ℕ)

-- the byte b, and then f
abbrev pub past : {A : Type 0} → ℕ → Reading A → Reading A
past b f bs = and_then (byte_of b bs) f

-- f, and then the byte b
abbrev pub until : {A : Type 0} → ℕ → Reading A → Reading A
until b f bs = and_then (f bs) (λ p. option_map (λ rest. (p.0, rest)) (byte_of b p.1))

-- f, and then g
abbrev pub both : {A B : Type 0} → Reading A → Reading B → Reading (A × B)
both f g bs = and_then (f bs) (λ p. option_map (λ q. ((p.0, q.0), q.1)) (g p.1))

-- f, and what h makes of it
abbrev pub made : {A B : Type 0} → (A → B) → Reading A → Reading B
made h f bs = option_map (λ p. (h p.0, p.1)) (f bs)

abbrev pub bracketed : {A : Type 0} → Reading A → Reading A
bracketed f = past 40 (until 41 f)

abbrev pub field_of : Reading ℕ
field_of = past 32 number_of

-- what the word names, and what follows it
abbrev pub named : {A : Type 0} → (List ℕ → Option A) → Reading A
named f bs = and_then (word_of bs) (λ p. option_map (λ x. (x, p.1)) (f p.0))

abbrev pub side_named : List ℕ → Option Side
side_named name = cond (bytes_eq name (codes "sale")) (Some Sale) (cond (bytes_eq name (codes "purchase")) (Some Purchase) None)

abbrev pub side_of : Reading Side
side_of = named side_named

abbrev pub bid_from : ℕ × (ℕ × (ℕ × (ℕ × (ℤ × ℕ)))) → Bid
bid_from p =
    record {
      agent = p.0;
      unit = p.1.0;
      number = p.1.1.0;
      stamp = p.1.1.1.0;
      price = p.1.1.1.1.0;
      volume = p.1.1.1.1.1;
    }

abbrev pub bid_of : Reading Bid
bid_of = made bid_from (bracketed (both number_of (both field_of (both field_of (both field_of (both (past 32 price_of) field_of))))))

abbrev pub key_from : ℕ × ℕ → BlockKey
key_from p = record { unit = p.0; number = p.1 }

abbrev pub key_of : Reading BlockKey
key_of = made key_from (bracketed (both number_of field_of))

abbrev pub admit_of : Reading Call
admit_of = made Admit field_of

abbrev pub begin_of : Reading Call
begin_of = made (λ p. Begin p.0 p.1.0 p.1.1) (both field_of (both field_of field_of))

abbrev pub enter_of : Reading Call
enter_of = made (λ p. Enter p.0 p.1.0 p.1.1) (both field_of (both (past 32 side_of) (past 32 bid_of)))

abbrev pub withdraw_of : Reading Call
withdraw_of = made (λ p. Withdraw p.0 p.1.0 p.1.1) (both field_of (both (past 32 side_of) (past 32 key_of)))

abbrev pub call_named : List ℕ → Reading Call
call_named name rest =
    cond (bytes_eq name (codes "admit")) (admit_of rest)
    (cond (bytes_eq name (codes "begin")) (begin_of rest)
    (cond (bytes_eq name (codes "enter")) (enter_of rest)
    (cond (bytes_eq name (codes "withdraw")) (withdraw_of rest)
    (cond (bytes_eq name (codes "close")) (Some (Close, rest))
    (cond (bytes_eq name (codes "clear")) (Some (Clear, rest))
    (cond (bytes_eq name (codes "settle")) (Some (Settle, rest))
    (cond (bytes_eq name (codes "annul")) (Some (Annul, rest)) None)))))))

abbrev pub named_of : Reading Call
named_of bs = and_then (word_of bs) (λ p. call_named p.0 p.1)

-- f, and nothing after it
abbrev pub whole : {A : Type 0} → Reading A → List ℕ → Option A
whole f bs = and_then (f bs) (λ p. cond (length p.1 == 0) (Some p.0) None)

abbrev pub call_of : List ℕ → Option Call
call_of = whole (bracketed named_of)
