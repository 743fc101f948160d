-- Prices: numbers with or without a minus sign.
use Rattle.std.proofs.Common.{◌≡◌, ℕ, zero, suc, ◌≤◌, true, false, eqb, leb, List, [], ◌∷◌, ◌++◌, get_or, drop, ℤ, pos, negsuc, Some, decimal, refl, ap, ◌∙◌, subst, arith}
use Rattle.std.specs.Option.{option_map}
use Rattle.std.specs.Int.{is_in_range}
use Rattle.std.specs.Fmt.{signed_decimal}
use Rattle.std.specs.Str.{all_ascii_digits}
use Rattle.std.proofs.lemmas.Int.{ints}
use Rattle.std.proofs.lemmas.Bool.{and_parts, cond-false, leb-true, ne_eqb}
use Rattle.std.proofs.lemmas.Option.{none-some}
use Rattle.callfile.specs.Reading.{and_then, below, negative_of, numeral_of, price_of, signed_of}
use Rattle.callfile.specs.Tokens.{number_part, token_of}
use Rattle.callfile.specs.Text.{Short, ShortPrice}
use Rattle.callfile.proofs.Laws.{Lawful, value_lawful}
use Rattle.callfile.proofs.Numerals.{numeral_sound, numeral_complete, decimal_digits}
use Rattle.callfile.proofs.Tokens.{and_then_some, mapped_some, by_cases, marked, token_digits, token_minus, Ends}

below_sound : (n : ℕ) (z : ℤ) (ds : List ℕ) → Short n → ds ≡ 45 ∷ decimal n → below n ≡ Some z → ShortPrice z × (ds ≡ signed_decimal z)
unfolding Short ShortPrice
below_sound zero z ds short whole e = absurd (none-some _ e)
below_sound (suc n) z ds short whole e =
    let is : negsuc n ≡ z = cc in
    subst (λ y. ShortPrice y × (ds ≡ signed_decimal y)) is ((omega (arith, ints), omega (arith, ints)), whole)

above_sound : (n : ℕ) → Short n → ShortPrice (pos n)
unfolding Short ShortPrice
above_sound n short = (omega (arith, ints), omega (arith, ints))

signed_sound : (ds : List ℕ) (z : ℤ) → signed_of ds ≡ Some z → ShortPrice z × (ds ≡ signed_decimal z)
signed_sound ds z =
    by_cases (eqb (get_or ds 0 0) 45) (negative_of (drop 1 ds)) (option_map pos (numeral_of ds)) z
    (λ minus e.
    let found = and_then_some (numeral_of (drop 1 ds)) below z e in
    let is = numeral_sound (drop 1 ds) found.0 found.1 in
    below_sound found.0 z ds is.0 (marked 45 (omega arith) ds minus ∙ ap (λ l. 45 ∷ l) is.1) found.2)
    (λ _ e.
    let found = mapped_some pos (numeral_of ds) z e in
    let is = numeral_sound ds found.0 found.1 in
    subst (λ y. ShortPrice y × (ds ≡ signed_decimal y)) found.2 (above_sound found.0 is.0, is.1))

no_minus : (ds : List ℕ) → all_ascii_digits ds ≡ true → eqb (get_or ds 0 0) 45 ≡ false
no_minus [] d = refl
no_minus (c ∷ cs) d =
    let low : 48 ≤ c = leb-true 48 c (and_parts (leb 48 c) (leb c 57) (and_parts (is_in_range 48 57 c) (all_ascii_digits cs) d).0).0 in
    ne_eqb c 45 (λ e. omega arith)

short_above : (n : ℕ) → ShortPrice (pos n) → Short n
unfolding Short ShortPrice
short_above n h = omega (arith, ints)

short_below : (n : ℕ) → ShortPrice (negsuc n) → Short (suc n)
unfolding Short ShortPrice
short_below n h = omega (arith, ints)

signed_complete : (z : ℤ) → ShortPrice z → signed_of (signed_decimal z) ≡ Some z
signed_complete (pos n) short =
    let digits = decimal_digits n (short_above n short) in
    cond-false _ _ _ (no_minus (decimal n) digits.0) ∙ ap (λ o. option_map pos o) (numeral_complete n (short_above n short))
signed_complete (negsuc n) short = ap (λ o. and_then o below) (numeral_complete (suc n) (short_below n short))

token_signed : (z : ℤ) (rest : List ℕ) → ShortPrice z → Ends rest → token_of (signed_decimal z ++ rest) ≡ Some (number_part (signed_decimal z), rest)
token_signed (pos n) rest short ends =
    let digits = decimal_digits n (short_above n short) in
    token_digits (decimal n) rest digits.0 digits.1 ends
token_signed (negsuc n) rest short ends =
    let digits = decimal_digits (suc n) (short_below n short) in
    token_minus (decimal (suc n)) rest digits.0 digits.1 ends

pub price_lawful : Lawful price_of signed_decimal ShortPrice
price_lawful = value_lawful signed_sound signed_complete token_signed
