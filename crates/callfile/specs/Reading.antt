-- The small readings: each takes one part from the front of a line. Nobody need believe this file: the contract of
-- `read_call` cites only Text. 32 is a space, 48 is `0`, 45 is `-`.
use Rattle.std.specs.Prelude.{ℕ, zero, suc, ◌+◌, ◌-◌, ◌*◌, cond, ◌&&◌, ◌||◌, List, [], ◌∷◌, length, drop, ℤ, pos, negsuc, Some, None, Option, ◌==◌, nat_lt, slice_index}
use Rattle.std.specs.Borrow.{Bor}
use Rattle.std.specs.Option.{option_map}
use Rattle.std.specs.Int.{is_in_range}
use Rattle.callfile.specs.Tokens.{Part, open_part, close_part, word_part, number_part, token_of}

-- an answer, and the bytes that follow it
abbrev pub with_rest : {A : Type 0} → A × Bor (List ℕ) → A × List ℕ
with_rest p = (p.0, p.1.now)

abbrev pub word_with : Bor (List ℕ) × Bor (List ℕ) → List ℕ × List ℕ
word_with p = (p.0.now, p.1.now)

abbrev pub and_then : {A B : Type 0} → Option A → (A → Option B) → Option B
and_then None f = None
and_then (Some x) f = f x

-- what follows the byte b
abbrev pub byte_of : ℕ → List ℕ → Option (List ℕ)
byte_of b bs = cond (slice_index bs 0 == b) (Some (drop 1 bs)) None

abbrev pub word_from : Part → List ℕ → Option (List ℕ × List ℕ)
word_from open_part rest = None
word_from close_part rest = None
word_from (word_part w) rest = Some (w, rest)
word_from (number_part w) rest = None

abbrev pub word_of : List ℕ → Option (List ℕ × List ℕ)
word_of bs = and_then (token_of bs) (λ p. word_from p.0 p.1)

-- the number that digits write, after those of n
abbrev pub digits_from : ℕ → List ℕ → Option ℕ
digits_from n [] = Some n
digits_from n (c ∷ cs) = cond (is_in_range 48 57 c) (digits_from (n * 10 + (c - 48)) cs) None

-- one to nine digits, with no leading zero
abbrev pub numeral_of : List ℕ → Option ℕ
numeral_of ds =
    cond (length ds == 0 || (slice_index ds 0 == 48 && nat_lt 1 (length ds)) || nat_lt 9 (length ds)) None (digits_from 0 ds)

-- the value that f has for the numeral at the front
abbrev pub value_from : {A : Type 0} → (List ℕ → Option A) → Part → List ℕ → Option (A × List ℕ)
value_from f open_part rest = None
value_from f close_part rest = None
value_from f (word_part w) rest = None
value_from f (number_part w) rest = option_map (λ n. (n, rest)) (f w)

abbrev pub value_of : {A : Type 0} → (List ℕ → Option A) → List ℕ → Option (A × List ℕ)
value_of f bs = and_then (token_of bs) (λ p. value_from f p.0 p.1)

abbrev pub number_of : List ℕ → Option (ℕ × List ℕ)
number_of = value_of numeral_of

-- the number below zero, where n is not 0
abbrev pub below : ℕ → Option ℤ
below zero = None
below (suc n) = Some (negsuc n)

abbrev pub negative_of : List ℕ → Option ℤ
negative_of ds = and_then (numeral_of ds) below

abbrev pub signed_of : List ℕ → Option ℤ
signed_of text = cond (slice_index text 0 == 45) (negative_of (drop 1 text)) (option_map pos (numeral_of text))

abbrev pub price_of : List ℕ → Option (ℤ × List ℕ)
price_of = value_of signed_of
