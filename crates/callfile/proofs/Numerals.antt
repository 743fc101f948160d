-- Numbers and their digits.
use Rattle.std.proofs.Common.{◌≡◌, ℕ, zero, suc, ◌+◌, ◌-◌, ◌*◌, ◌^◌, ◌<◌, ◌≤◌, Bool, true, false, cond, ◌&&◌, ◌||◌, eqb, ltb, List, [], ◌∷◌, length, get_or, drop, Some, None, decimal, sym, refl, ap, ◌∙◌, pow-suc, add-one, arith, rules}
use native.Mathlib.Nat.{pow-le-pow_right}
use Rattle.std.specs.Int.{is_in_range}
use Rattle.std.proofs.lemmas.List.{at_drop_more, at_drop_all}
use Rattle.std.proofs.lemmas.Bool.{and_from, and_parts, cond-true, cond-false}
use Rattle.std.proofs.lemmas.Fmt.{decimal_nonempty, decimal_digit, decimal-digits_value, digits_decimal, first_decimal, length-decimal-le, digits_value-decimal}
use Rattle.std.proofs.lemmas.Str.Parse.{IsNumeralModel, numerals_by_fold, digits_value_short}
use Rattle.std.specs.Str.{all_ascii_digits}
use Rattle.callfile.specs.Reading.{digits_from, numeral_of}
use Rattle.callfile.specs.Text.{Short}
use Rattle.callfile.proofs.Tokens.{cond_some, cond_none}

module _ (ds : List ℕ) (n i : ℕ) (so_far : digits_from n (drop i ds) ≡ digits_from 0 ds) where
  step : i < length ds → digits_from n (drop i ds) ≡ cond (is_in_range 48 57 (get_or ds i 0)) (digits_from (n * 10 + (get_or ds i 0 - 48)) (drop (i + 1) ds)) None
  step lt = at_drop_more (digits_from n) ds i 0 lt

  pub digits_stop : i < length ds → is_in_range 48 57 (get_or ds i 0) ≡ false → None ≡ digits_from 0 ds
  digits_stop lt out = sym (cond-false _ _ _ out) ∙ sym (step lt) ∙ so_far

  pub digits_more : i < length ds → is_in_range 48 57 (get_or ds i 0) ≡ true → digits_from (n * 10 + (get_or ds i 0 - 48)) (drop (i + 1) ds) ≡ digits_from 0 ds
  digits_more lt is = sym (cond-true _ _ _ is) ∙ sym (step lt) ∙ so_far

  pub digits_end : length ds ≤ i → Some n ≡ digits_from 0 ds
  digits_end past = sym (at_drop_all (digits_from n) ds i past) ∙ so_far

-- at most eight digits so far, and one more
pub short : (v i n : ℕ) → v < 10 ^ i → i < n → n ≤ 9 → v < 10 ^ 8
short v i n small lt le =
    let most : 10 ^ i ≤ 10 ^ 8 = let under : i ≤ 8 = omega arith in pow-le-pow_right (omega arith) under in
    omega arith

pub one_more : (v d i : ℕ) → v < 10 ^ i → d ≤ 9 → v * 10 + d < 10 ^ (i + 1)
one_more v d i small le =
    let more : 10 ^ (i + 1) ≡ 10 ^ i * 10 = ap (λ k. 10 ^ k) (add-one i) ∙ pow-suc 10 i in
    omega arith

pub below_nine : (v i : ℕ) → v < 10 ^ i → i ≤ 9 → v < 10 ^ 9
below_nine v i small le =
    let most : 10 ^ i ≤ 10 ^ 9 = pow-le-pow_right (omega arith) le in
    omega arith

pub ruleset digit_steps = (digits_stop, digits_more, digits_end, one_more, below_nine)

abbrev read_on : ℕ → List ℕ → ℕ
read_on n [] = n
read_on n (c ∷ cs) = read_on (n * 10 + (c - 48)) cs

own : IsNumeralModel (λ ds. all_ascii_digits ds ≡ true) (read_on 0)
own = numerals_by_fold _ (search rules) read_on (search rules)

digits_sound : (m : ℕ) (ds : List ℕ) (n : ℕ) → digits_from m ds ≡ Some n → (all_ascii_digits ds ≡ true) × (read_on m ds ≡ n)
digits_sound m [] n e = (refl, cc)
digits_sound m (c ∷ cs) n e =
    let found = cond_some (is_in_range 48 57 c) (digits_from (m * 10 + (c - 48)) cs) n e in
    let rest = digits_sound (m * 10 + (c - 48)) cs n found.1 in
    (and_from _ _ found.0 rest.0, rest.1)

digits_complete : (m : ℕ) (ds : List ℕ) → all_ascii_digits ds ≡ true → digits_from m ds ≡ Some (read_on m ds)
digits_complete m [] d = refl
digits_complete m (c ∷ cs) d =
    let both = and_parts (is_in_range 48 57 c) (all_ascii_digits cs) d in
    cond-true _ _ _ both.0 ∙ digits_complete (m * 10 + (c - 48)) cs both.1

-- what makes a text no numeral
abbrev unfit : List ℕ → Bool
unfit ds = eqb (length ds) 0 || (eqb (get_or ds 0 0) 48 && ltb 1 (length ds)) || ltb 9 (length ds)

-- a numeral is what `decimal` writes of its number
pub numeral_sound : (ds : List ℕ) (n : ℕ) → numeral_of ds ≡ Some n → Short n × (ds ≡ decimal n)
unfolding Short
numeral_sound ds n e =
    let found = cond_none (unfit ds) (digits_from 0 ds) n e in
    let read = digits_sound 0 ds n found.1 in
    let some : 0 < length ds = grind (arith, found.0) in
    let long : length ds ≤ 9 = grind (arith, found.0) in
    let lead : get_or ds 0 0 ≡ 48 → length ds ≡ 1 = λ z. grind (arith, found.0) in
    let small : read_on 0 ds < 10 ^ 9 = digits_value_short own ds 9 read.0 long in
    let value = read.1 in
    (omega arith, sym (decimal-digits_value own ds read.0 some lead (omega arith)) ∙ ap decimal value)

fit : (n : ℕ) → n < 2 ^ 64 → length (decimal n) ≤ 9 → unfit (decimal n) ≡ false
fit zero low long = ap unfit (decimal_digit 0 (omega arith))
fit (suc n) low long =
    let some : 0 < length (decimal (suc n)) = decimal_nonempty (suc n) low in
    let first : 48 < get_or (decimal (suc n)) 0 0 = first_decimal (suc n) (omega arith) low in
    grind arith

pub numeral_complete : (n : ℕ) → Short n → numeral_of (decimal n) ≡ Some n
unfolding Short
numeral_complete n h =
    let low : n < 2 ^ 64 = omega arith in
    let long : length (decimal n) ≤ 9 = length-decimal-le 9 n (omega arith) (omega arith) low in
    cond-false _ _ _ (fit n low long) ∙ digits_complete 0 (decimal n) (digits_decimal own n low) ∙ ap Some (digits_value-decimal own n low)

pub decimal_digits : (n : ℕ) → Short n → (all_ascii_digits (decimal n) ≡ true) × (0 < length (decimal n))
unfolding Short
decimal_digits n h = let low : n < 2 ^ 64 = omega arith in (digits_decimal own n low, decimal_nonempty n low)
