-- The ends of a bracket, as a fold finds them.
use Rattle.std.proofs.Common.{◌≡◌, Bool, List, [], ◌∷◌, filter, fold, map, ℤ, Bor, refl, ap, ◌∙◌, inl, inr, arith}
use borrow.Author.Differences.{ints}
use Rattle.std.specs.Int.{int_max, int_min}
use Rattle.std.proofs.lemmas.Int.{clamps}
use Rattle.std.proofs.lemmas.Bool.{cases_Bool}
use Rattle.auction.specs.declared.offer.Offer.{Offer}
use Rattle.auction.specs.Offers.{price_of}
use Rattle.auction.specs.Bracket.{highest, lowest}

max_swap : (a b c : ℤ) → int_max a (int_max b c) ≡ int_max b (int_max a c)
max_swap a b c = omega (arith, ints, clamps)

max_turned : (a b : ℤ) → int_max a b ≡ int_max b a
max_turned a b = omega (arith, ints, clamps)

min_turned : (a b : ℤ) → int_min a b ≡ int_min b a
min_turned a b = omega (arith, ints, clamps)

min_swap : (a b c : ℤ) → int_min a (int_min b c) ≡ int_min b (int_min a c)
min_swap a b c = omega (arith, ints, clamps)

module _ (test : Offer → Bool) where
  -- a price at the start counts as one at the end
  highest_start : (a z : ℤ) (os : List Offer) → highest test (int_max a z) os ≡ int_max a (highest test z os)
  highest_start a z [] = refl
  highest_start a z (o ∷ os) =
      elim (cases_Bool (test o)) [
        | inl e ↦ rw (e, highest_start a z os) (max_swap (price_of o) a (highest test z os))
        | inr e ↦ rw e (highest_start a z os)
      ]

  lowest_start : (a z : ℤ) (os : List Offer) → lowest test (int_min a z) os ≡ int_min a (lowest test z os)
  lowest_start a z [] = refl
  lowest_start a z (o ∷ os) =
      elim (cases_Bool (test o)) [
        | inl e ↦ rw (e, lowest_start a z os) (min_swap (price_of o) a (lowest test z os))
        | inr e ↦ rw e (lowest_start a z os)
      ]

  pub highest_folded : (z : ℤ) (os : List Offer) → fold int_max z (map price_of (filter test os)) ≡ highest test z os
  highest_folded z [] = refl
  highest_folded z (o ∷ os) =
      elim (cases_Bool (test o)) [
        | inl e ↦ rw e (highest_folded (int_max z (price_of o)) os ∙ ap (λ (y : ℤ). highest test y os) (max_turned z (price_of o)) ∙ highest_start (price_of o) z os)
        | inr e ↦ rw e (highest_folded z os)
      ]

  pub lowest_folded : (z : ℤ) (os : List Offer) → fold int_min z (map price_of (filter test os)) ≡ lowest test z os
  lowest_folded z [] = refl
  lowest_folded z (o ∷ os) =
      elim (cases_Bool (test o)) [
        | inl e ↦ rw e (lowest_folded (int_min z (price_of o)) os ∙ ap (λ (y : ℤ). lowest test y os) (min_turned z (price_of o)) ∙ lowest_start (price_of o) z os)
        | inr e ↦ rw e (lowest_folded z os)
      ]

  -- the prices read behind the references of a walk
  pub prices_behind : (xs : List (Bor Offer)) → map (λ (o : Bor Offer). price_of o.now) (filter (λ (o : Bor Offer). test o.now) xs) ≡ map price_of (filter test (map (λ (o : Bor Offer). o.now) xs))
  prices_behind [] = refl
  prices_behind (x ∷ xs) =
      elim (cases_Bool (test x.now)) [
        | inl e ↦ rw e (ap (λ (ps : List ℤ). price_of x.now ∷ ps) (prices_behind xs))
        | inr e ↦ rw e (prices_behind xs)
      ]
