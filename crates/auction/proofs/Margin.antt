-- What is matched lies up to the last tenth matched, and what is left over lies past it.
use Rattle.std.proofs.Common.{◌≡◌, ℕ, zero, suc, ◌+◌, ◌-◌, ◌<◌, ◌≤◌, List, [], ◌∷◌, length, get_or, ℤ, pos, ◌≤ℤ◌, refl, inl, inr, arith}
use borrow.Author.Differences.{ints}
use Rattle.std.specs.List.{AllByRecursion}
use Rattle.std.proofs.ByRecursion.{All-weaker}
use Rattle.std.proofs.lemmas.Bool.{cases_lt}
use Rattle.auction.specs.declared.offer.Offer.{Offer}
use Rattle.auction.specs.Offers.{price_of, volume_of, matched_of, Sorted}
use Rattle.auction.specs.Curve.{behind, nth_price, place, by_place, ahead, tie, nothing, fill, match_side}
use Rattle.rules.specs.Shares.{Shares}
use Rattle.auction.proofs.Matching.{match_all}
use Rattle.auction.proofs.Sides.{place_is, early, upto_le_bid, upto_le_ahead, upto_cons, in_its_tie, tenths, shared_out}

-- both parts of a list's facts
pub both : {X : Type 0} (P Q R : X → Type 0) → ((x : X) → P x → Q x → R x) → (xs : List X) → AllByRecursion P xs → AllByRecursion Q xs → AllByRecursion R xs
both P Q R f [] h k = tt
both P Q R f (x ∷ xs) (h, hs) (k, ks) = (f x h k, both P Q R f xs hs ks)

-- of an offer with any part matched, and of one with any part left over, where q tenths of a curve are matched
abbrev pub Early : (ℤ → ℤ) → ℕ → List ℤ → Offer → Type 0
Early rank q c o = 0 < matched_of o → (1 ≤ q) × (rank (price_of o) ≤ℤ rank (nth_price c q))

abbrev pub Late : (ℤ → ℤ) → ℕ → List ℤ → Offer → Type 0
Late rank q c o = matched_of o < volume_of o → (q < length c) × (rank (get_or c q (pos 0)) ≤ℤ rank (price_of o))

module _ (g : ℕ → ℕ → ℕ → ℕ) (shares : Shares g) (rank : ℤ → ℤ) where
  -- all tied tenths are matched whole where there are enough for all
  exact : (l s c v : ℕ) → l ≡ s → c + v ≤ s → v ≤ g l s (c + v) - g l s c
  exact l s c v e h =
      omega (
        arith,
        shares.slowly l s 0 c (omega arith) (omega arith) (omega arith),
        shares.none l s (omega arith),
        shares.slowly l s (c + v) s (omega arith) h (omega arith),
        shares.whole l s (omega arith),
      )

  fill_early : (m : ℤ) (l s c : ℕ) (os : List Offer) → AllByRecursion (λ o. 0 < matched_of o → rank (price_of o) ≤ℤ m) (fill g rank m l s c os)
  fill_early m l s c [] = tt
  fill_early m l s c (o ∷ os) =
      elim (place_is m (rank (price_of o))) [
        | inl e ↦ ((λ _. omega (arith, ints, e.1)), fill_early m l s (by_place c (c + volume_of o) c (place m (rank (price_of o)))) os)
        | inr (inl e) ↦ ((λ _. omega (arith, ints, e.1)), fill_early m l s (by_place c (c + volume_of o) c (place m (rank (price_of o)))) os)
        | inr (inr e) ↦ rw e.0 ((λ h. absurd (omega arith)), fill_early m l s c os)
      ]

  -- whole is the side, of which os is the rest
  fill_late : (m : ℤ) (l c : ℕ) (whole os : List Offer) → l ≤ tie rank m whole → c + tie rank m os ≤ tie rank m whole →
      AllByRecursion (λ o. volume_of o ≤ tie rank (rank (price_of o)) whole) os →
      AllByRecursion (λ o. matched_of o < volume_of o → ahead rank m whole + l < ahead rank (rank (price_of o)) whole + tie rank (rank (price_of o)) whole) (fill g rank m l (tie rank m whole) c os)
  fill_late m l c whole [] fits room own = tt
  fill_late m l c whole (o ∷ os) fits room (w, own) =
      elim (place_is m (rank (price_of o))) [
        | inl e ↦ let room' = rw e.0 at room in rw e.0 ((λ h. absurd (omega arith)), fill_late m l c whole os fits (omega arith) own)
        | inr (inl e) ↦ let room' = rw e.0 at room in
            rw e.0 (
              (λ h. elim (cases_lt l (tie rank m whole)) [
                | inl k ↦ rw e.1 (omega arith)
                | inr k ↦ absurd (omega (arith, h, exact l (tie rank m whole) c (volume_of o) (omega arith) (omega arith)))
              ]),
              fill_late m l (c + volume_of o) whole os fits (omega arith) own,
            )
        | inr (inr e) ↦ let room' = rw e.0 at room in
            rw e.0 ((λ h. omega (arith, h, upto_le_ahead rank m (rank (price_of o)) whole e.1, w)), fill_late m l c whole os fits (omega arith) own)
      ]

  nothing_early : (c : List ℤ) (os : List Offer) → AllByRecursion (Early rank 0 c) (nothing os)
  nothing_early c [] = tt
  nothing_early c (o ∷ os) = ((λ h. absurd (omega arith)), nothing_early c os)

  nothing_late : (whole os : List Offer) → AllByRecursion (λ o. volume_of o ≤ tie rank (rank (price_of o)) whole) os →
      AllByRecursion (λ o. matched_of o < volume_of o → 0 < ahead rank (rank (price_of o)) whole + tie rank (rank (price_of o)) whole) (nothing os)
  nothing_late whole [] own = tt
  nothing_late whole (o ∷ os) (w, own) = ((λ h. omega (arith, h, w)), nothing_late whole os own)

  module _ (k : ℕ) (p : ℤ) where
    pub match_early : (q : ℕ) (os : List Offer) → AllByRecursion (Early rank q (behind k p os)) (match_side g rank k p q os)
    match_early zero os = nothing_early (behind k p os) os
    match_early (suc n) os =
        let m : ℤ = rank (nth_price (behind k p os) (suc n)) in
        All-weaker (λ o. 0 < matched_of o → rank (price_of o) ≤ℤ m) (Early rank (suc n) (behind k p os)) (λ o h u. (omega arith, h u)) (match_side g rank k p (suc n) os)
        (fill_early m (suc n - (k + ahead rank m os)) (tie rank m os) 0 os)

    -- a tenth before the end of a tie's
    late_from : (q : ℕ) (os : List Offer) → Sorted rank (tenths k p ∷ os) → (o : Offer) → (matched_of o < volume_of o → q < k + (ahead rank (rank (price_of o)) os + tie rank (rank (price_of o)) os)) →
        rank p ≤ℤ rank (price_of o) → Late rank q (behind k p os) o
    late_from q os sorted o h b u =
        let e = upto_cons rank (rank (price_of o)) (tenths k p) os b in
        (omega (arith, h u, e, upto_le_bid rank (rank (price_of o)) (tenths k p ∷ os)), early rank (rank (price_of o)) (tenths k p ∷ os) q sorted (omega (arith, h u, e)))

    pub match_late : (q : ℕ) (os : List Offer) → Sorted rank (tenths k p ∷ os) → q ≤ length (behind k p os) → k ≤ q → AllByRecursion (Late rank q (behind k p os)) (match_side g rank k p q os)
    match_late zero os sorted l h =
        both (λ o. matched_of o < volume_of o → 0 < ahead rank (rank (price_of o)) os + tie rank (rank (price_of o)) os) (λ o. rank p ≤ℤ rank (price_of o)) (Late rank 0 (behind k p os))
        (λ o u b. late_from 0 os sorted o (λ w. omega (arith, u w)) b) (nothing os)
        (nothing_late os os (in_its_tie rank os)) (match_all g rank (λ z b. rank p ≤ℤ rank b.price) k p 0 os sorted.0)
    match_late (suc n) os sorted l h =
        let m : ℤ = rank (nth_price (behind k p os) (suc n)) in
        let out = shared_out rank k p n os sorted l h m refl in
        both (λ o. matched_of o < volume_of o → ahead rank m os + (suc n - (k + ahead rank m os)) < ahead rank (rank (price_of o)) os + tie rank (rank (price_of o)) os) (λ o. rank p ≤ℤ rank (price_of o))
        (Late rank (suc n) (behind k p os))
        (λ o u b. late_from (suc n) os sorted o (λ w. omega (arith, u w, out)) b)
        (match_side g rank k p (suc n) os)
        (fill_late m (suc n - (k + ahead rank m os)) 0 os os (omega (arith, out)) (omega arith) (in_its_tie rank os))
        (match_all g rank (λ z b. rank p ≤ℤ rank b.price) k p (suc n) os sorted.0)
