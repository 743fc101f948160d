-- The part that a line begins with. A reader of the token reader must believe this file, in which bytes are numbers:
-- 40 is `(`, 41 is `)`, 45 is `-`, 48 to 57 are the digits and 97 to 122 the small letters.
use Rattle.std.specs.Prelude.{ℕ, ◌+◌, cond, List, length, take, take_while, drop, Some, None, Option, ◌==◌, slice_index}
use Rattle.std.specs.Borrow.{Bor}
use Rattle.std.specs.Int.{is_in_range}
use Rattle.callfile.specs.declared.token.Token.{Token}
use Rattle.callfile.specs.declared.token.Token.TheVariants.{Open, Close, Word, Number}

-- a token with the bytes that it borrows
pub data Part : Type 0 where
  open_part : Part
  close_part : Part
  word_part : List ℕ → Part
  number_part : List ℕ → Part

abbrev pub seen : Token → Part
seen Open = open_part
seen Close = close_part
seen (Word w) = word_part w.now
seen (Number w) = number_part w.now

-- a token, and the bytes that follow it
abbrev pub seen_with : Token × Bor (List ℕ) → Part × List ℕ
seen_with p = (seen p.0, p.1.now)

-- how many bytes at the front lie from low to high
abbrev pub front : ℕ → ℕ → List ℕ → ℕ
front low high bs = length (take_while (is_in_range low high) bs)

-- the first n bytes are the part
abbrev pub run_part : (List ℕ → Part) → ℕ → List ℕ → Option (Part × List ℕ)
run_part kind n bs = Some (kind (take n bs), drop n bs)

-- a minus sign stands only before a digit
abbrev pub signed_part : ℕ → List ℕ → Option (Part × List ℕ)
signed_part n bs = cond (n == 0) None (run_part number_part (n + 1) bs)

-- the part of a line that begins with c
abbrev pub token_at : ℕ → List ℕ → Option (Part × List ℕ)
token_at c bs =
    cond (c == 40) (Some (open_part, drop 1 bs))
    (cond (c == 41) (Some (close_part, drop 1 bs))
    (cond (is_in_range 97 122 c) (run_part word_part (front 97 122 bs) bs)
    (cond (is_in_range 48 57 c) (run_part number_part (front 48 57 bs) bs)
    (cond (c == 45) (signed_part (front 48 57 (drop 1 bs)) bs) None))))

-- the part that a line begins with, and what follows it
abbrev pub token_of : List ℕ → Option (Part × List ℕ)
token_of bs = token_at (slice_index bs 0) bs
