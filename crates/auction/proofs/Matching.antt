-- What is matched of a side: it sums to the amount less the tenths ahead, and stays within the bids.
use Rattle.std.proofs.Common.{◌≡◌, ℕ, zero, suc, ◌+◌, ◌-◌, ◌≤◌, List, [], ◌∷◌, length, ℤ, refl, ap, inl, inr, arith}
use Rattle.std.specs.List.{AllByRecursion}
use Rattle.std.proofs.lemmas.Bool.{cases_Bool}
use Rattle.market.specs.declared.block.Bid.{Bid}
use Rattle.market.specs.declared.zone.Zone.{Zone}
use Rattle.auction.specs.declared.offer.Offer.{Offer}
use Rattle.auction.specs.Offers.{price_of, volume_of, matched_of, Sorted, same_zone, part}
use Rattle.auction.specs.Curve.{behind, nth_price, place, by_place, ahead, tie, nothing, fill, match_side}
use Rattle.auction.specs.Books.{SameBids}
use Rattle.rules.specs.Shares.{Shares}
use Rattle.auction.proofs.Sides.{place_is, tenths, shared_out}

-- the volume matched in all
abbrev pub sum_of : List Offer → ℕ
sum_of [] = 0
sum_of (o ∷ os) = matched_of o + sum_of os

abbrev pub AllWithin : List Offer → Type 0
AllWithin os = AllByRecursion (λ o. matched_of o ≤ volume_of o) os

nothing_total : (os : List Offer) → sum_of (nothing os) ≡ 0
nothing_total [] = refl
nothing_total (o ∷ os) = omega (arith, nothing_total os)

nothing_within : (os : List Offer) → AllWithin (nothing os)
nothing_within [] = tt
nothing_within (o ∷ os) = (omega arith, nothing_within os)

module _ (g : ℕ → ℕ → ℕ → ℕ) (shares : Shares g) (rank : ℤ → ℤ) (m : ℤ) (l s : ℕ) (fits : l ≤ s) where
  fill_within : (c : ℕ) (os : List Offer) → c + tie rank m os ≤ s → AllWithin (fill g rank m l s c os)
  fill_within c [] h = tt
  fill_within c (o ∷ os) h =
      elim (place_is m (rank (price_of o))) [
        | inl e ↦ let h' = rw e.0 at h in rw e.0 (omega arith, fill_within c os (omega arith))
        | inr (inl e) ↦ let h' = rw e.0 at h in rw e.0 (omega (arith, shares.slowly l s c (c + volume_of o) fits (omega arith) (omega arith)), fill_within (c + volume_of o) os (omega arith))
        | inr (inr e) ↦ let h' = rw e.0 at h in rw e.0 (omega arith, fill_within c os (omega arith))
      ]

  fill_total : (c : ℕ) (os : List Offer) → c + tie rank m os ≤ s → sum_of (fill g rank m l s c os) + g l s c ≡ ahead rank m os + g l s (c + tie rank m os)
  fill_total c [] h = let e : c + 0 ≡ c = omega arith in rw e refl
  fill_total c (o ∷ os) h =
      elim (place_is m (rank (price_of o))) [
        | inl e ↦ let h' = rw e.0 at h in rw e.0 (let u : c + (0 + tie rank m os) ≡ c + tie rank m os = omega arith in omega (arith, fill_total c os (omega arith), ap (g l s) u))
        | inr (inl e) ↦ let h' = rw e.0 at h in
            rw e.0 (let u : c + (volume_of o + tie rank m os) ≡ (c + volume_of o) + tie rank m os = omega arith in
            omega (arith, fill_total (c + volume_of o) os (omega arith), ap (g l s) u, shares.rises l s c (c + volume_of o) fits (omega arith) (omega arith)))
        | inr (inr e) ↦ let h' = rw e.0 at h in rw e.0 (let u : c + (0 + tie rank m os) ≡ c + tie rank m os = omega arith in omega (arith, fill_total c os (omega arith), ap (g l s) u))
      ]

-- q tenths are matched of a side, k of them ahead of its blocks
pub record Matched (k q : ℕ) (os : List Offer) : Type 0 where
  pub sums : k + sum_of os ≡ q
  pub within : AllWithin os

pub side_matched : (g : ℕ → ℕ → ℕ → ℕ) → Shares g → (rank : ℤ → ℤ) (k : ℕ) (p : ℤ) (q : ℕ) (os : List Offer) → Sorted rank (tenths k p ∷ os) → q ≤ length (behind k p os) → k ≤ q → Matched k q (match_side g rank k p q os)
side_matched g shares rank k p zero os sorted l h = record { sums = omega (arith, nothing_total os); within = nothing_within os }
side_matched g shares rank k p (suc n) os sorted l h =
    let m : ℤ = rank (nth_price (behind k p os) (suc n)) in
    let out = shared_out rank k p n os sorted l h m refl in
    let a : ℕ = suc n - (k + ahead rank m os) in
    let fits : a ≤ tie rank m os = omega (arith, out) in
    let room : 0 + tie rank m os ≤ tie rank m os = omega arith in
    let zero' : 0 + tie rank m os ≡ tie rank m os = omega arith in
    record {
      sums = omega (arith, out, fill_total g shares rank m a (tie rank m os) fits 0 os room, ap (g a (tie rank m os)) zero', shares.none a (tie rank m os) fits, shares.whole a (tie rank m os) fits);
      within = fill_within g shares rank m a (tie rank m os) fits 0 os room;
    }

-- what holds of the zones and bids of a side holds of them when it is matched
nothing_all : (P : Zone → Bid → Type 0) (os : List Offer) → AllByRecursion (λ o. P o.zone o.block.bid) os → AllByRecursion (λ o. P o.zone o.block.bid) (nothing os)
nothing_all P [] h = tt
nothing_all P (o ∷ os) (h, hs) = (h, nothing_all P os hs)

module _ (g : ℕ → ℕ → ℕ → ℕ) (rank : ℤ → ℤ) where
  fill_all : (P : Zone → Bid → Type 0) (m : ℤ) (l s c : ℕ) (os : List Offer) → AllByRecursion (λ o. P o.zone o.block.bid) os → AllByRecursion (λ o. P o.zone o.block.bid) (fill g rank m l s c os)
  fill_all P m l s c [] h = tt
  fill_all P m l s c (o ∷ os) (h, hs) = (h, fill_all P m l s (by_place c (c + volume_of o) c (place m (rank (price_of o)))) os hs)

  pub match_all : (P : Zone → Bid → Type 0) (k : ℕ) (p : ℤ) (q : ℕ) (os : List Offer) → AllByRecursion (λ o. P o.zone o.block.bid) os → AllByRecursion (λ o. P o.zone o.block.bid) (match_side g rank k p q os)
  match_all P k p zero os h = nothing_all P os h
  match_all P k p (suc n) os h =
      let m : ℤ = rank (nth_price (behind k p os) (suc n)) in
      fill_all P m (suc n - (k + ahead rank m os)) (tie rank m os) 0 os h

-- and each zone keeps its bids
nothing_bids : (z : Zone) (os : List Offer) → SameBids (part z os) (part z (nothing os))
nothing_bids z [] = refl
nothing_bids z (o ∷ os) =
    elim (cases_Bool (same_zone z o.zone)) [
      | inl e ↦ rw e (ap (λ (bs : List Bid). o.block.bid ∷ bs) (nothing_bids z os))
      | inr e ↦ rw e (nothing_bids z os)
    ]

module _ (g : ℕ → ℕ → ℕ → ℕ) (rank : ℤ → ℤ) (z : Zone) where
  fill_bids : (m : ℤ) (l s c : ℕ) (os : List Offer) → SameBids (part z os) (part z (fill g rank m l s c os))
  fill_bids m l s c [] = refl
  fill_bids m l s c (o ∷ os) =
      let c' : ℕ = by_place c (c + volume_of o) c (place m (rank (price_of o))) in
      elim (cases_Bool (same_zone z o.zone)) [
        | inl e ↦ rw e (ap (λ (bs : List Bid). o.block.bid ∷ bs) (fill_bids m l s c' os))
        | inr e ↦ rw e (fill_bids m l s c' os)
      ]

  pub match_bids : (k : ℕ) (p : ℤ) (q : ℕ) (os : List Offer) → SameBids (part z os) (part z (match_side g rank k p q os))
  match_bids k p zero os = nothing_bids z os
  match_bids k p (suc n) os =
      let m : ℤ = rank (nth_price (behind k p os) (suc n)) in
      fill_bids m (suc n - (k + ahead rank m os)) (tie rank m os) 0 os
