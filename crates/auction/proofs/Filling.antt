-- Loops over the offers of a side, and over those that they fill in place.
use Rattle.std.proofs.Common.{◌≡◌, ℕ, zero, suc, ◌+◌, ◌-◌, ◌<◌, ◌≤◌, List, ◌∷◌, ◌++◌, length, get_or, take, drop, set, ℤ, sym, refl, ap, ◌∙◌, inl, inr, arith}
use Rattle.std.specs.List.{AllByRecursion}
use Rattle.std.proofs.ByRecursion.{All-get_or}
use Rattle.std.proofs.lemmas.List.{append_assoc, take_more_set, drop-set-lt, drop_more}
use Rattle.market.specs.Limits.{VolumeWithinLimits}
use Rattle.auction.specs.declared.offer.Offer.{Offer}
use Rattle.std.specs.declared.cmp.Ordering.{Ordering}
use Rattle.std.specs.declared.cmp.Ordering.TheVariants.{Less, Equal, Greater}
use Rattle.auction.specs.Curve.{behind, nth_price, place, by_place, ahead, tie, fill, match_side, with_matched, nothing}
use Rattle.auction.specs.Offers.{price_of, volume_of, Sorted}
use Rattle.auction.proofs.Sides.{blank, place_is, tenths, shared_out}

pub before_le : (v : ℕ) (x : Ordering) → by_place v 0 0 x ≤ v
before_le v Less = omega arith
before_le v Equal = omega arith
before_le v Greater = omega arith

pub tied_le : (v : ℕ) (x : Ordering) → by_place 0 v 0 x ≤ v
tied_le v Less = omega arith
tied_le v Equal = omega arith
tied_le v Greater = omega arith

pub volume_at : (os : List Offer) (i : ℕ) → i < length os → AllByRecursion (λ o. VolumeWithinLimits (volume_of o)) os → volume_of (get_or os i blank) ≤ 100000
volume_at os i h k = (All-get_or (λ o. VolumeWithinLimits (volume_of o)) os i blank h k).1

module _ (g : ℕ → ℕ → ℕ → ℕ) (rank : ℤ → ℤ) (m : ℤ) (l s c i : ℕ) (os : List Offer) (h : i < length os) where
  -- the room that is left for the offer at i
  room_at : c + tie rank m (drop i os) ≤ s → c + tie rank m (get_or os i blank ∷ drop (i + 1) os) ≤ s
  room_at k = rw (drop_more os i blank h) at k

  pub tied_room : c + tie rank m (drop i os) ≤ s → (x : Ordering) → x ≡ place m (rank (price_of (get_or os i blank))) → x ≡ Equal → c + volume_of (get_or os i blank) ≤ s
  tied_room k x e t = let k' = rw (sym e ∙ t) at (room_at k) in omega arith

  module _ (n c' : ℕ) (e : n ≡ by_place (volume_of (get_or os i blank)) (g l s (c + volume_of (get_or os i blank)) - g l s c) 0 (place m (rank (price_of (get_or os i blank)))))
      (e' : c' ≡ by_place c (c + volume_of (get_or os i blank)) c (place m (rank (price_of (get_or os i blank))))) where
    pub filled_more : (whole : List Offer) → take i os ++ fill g rank m l s c (drop i os) ≡ whole →
        take (i + 1) (set os i (with_matched (get_or os i blank) n)) ++ fill g rank m l s c' (drop (i + 1) (set os i (with_matched (get_or os i blank) n))) ≡ whole
    filled_more whole k =
        let x = with_matched (get_or os i blank) n in
        let k' : take i os ++ fill g rank m l s c (get_or os i blank ∷ drop (i + 1) os) ≡ whole = rw (drop_more os i blank h) at k in
        let a = take_more_set os i x h in
        let b = drop-set-lt (i + 1) os i x (omega arith) in
        rw (a, b, append_assoc, e, e') k'

    pub room_more : c + tie rank m (drop i os) ≤ s → c' + tie rank m (drop (i + 1) (set os i (with_matched (get_or os i blank) n))) ≤ s
    room_more k =
        let x = with_matched (get_or os i blank) n in
        rw (drop-set-lt (i + 1) os i x (omega arith), e')
        (elim (place_is m (rank (price_of (get_or os i blank)))) [
          | inl p ↦ let k' = rw p.0 at (room_at k) in rw p.0 (omega arith)
          | inr (inl p) ↦ let k' = rw p.0 at (room_at k) in rw p.0 (omega arith)
          | inr (inr p) ↦ let k' = rw p.0 at (room_at k) in rw p.0 (omega arith)
        ])

pub cleared_more : (i : ℕ) (os whole : List Offer) → i < length os → take i os ++ nothing (drop i os) ≡ whole →
    take (i + 1) (set os i (with_matched (get_or os i blank) 0)) ++ nothing (drop (i + 1) (set os i (with_matched (get_or os i blank) 0))) ≡ whole
cleared_more i os whole h k =
    let x = with_matched (get_or os i blank) 0 in
    let k' : take i os ++ nothing (get_or os i blank ∷ drop (i + 1) os) ≡ whole = rw (drop_more os i blank h) at k in
    rw (take_more_set os i x h, drop-set-lt (i + 1) os i x (omega arith), append_assoc) k'

-- the q-th tenth of a side, where q is not 0
pub shared_amount : (rank : ℤ → ℤ) (k : ℕ) (p : ℤ) (q : ℕ) (os : List Offer) → Sorted rank (tenths k p ∷ os) → q ≤ length (behind k p os) → k ≤ q → 1 ≤ q → (m : ℤ) → m ≡ rank (nth_price (behind k p os) q) →
    (k + ahead rank m os ≤ q) × (q ≤ k + ahead rank m os + tie rank m os)
shared_amount rank k p zero os sorted l h u m e = absurd (omega arith)
shared_amount rank k p (suc n) os sorted l h u m e = shared_out rank k p n os sorted l h m e

pub match_is : (g : ℕ → ℕ → ℕ → ℕ) (rank : ℤ → ℤ) (k : ℕ) (p : ℤ) (q : ℕ) (os : List Offer) → 1 ≤ q → (m : ℤ) → m ≡ rank (nth_price (behind k p os) q) →
    match_side g rank k p q os ≡ fill g rank m (q - (k + ahead rank m os)) (tie rank m os) 0 os
match_is g rank k p zero os h m e = absurd (omega arith)
match_is g rank k p (suc n) os h m e = rw e refl

-- a side as it is counted at its marginal price y, which the code holds as x
module _ (rank : ℤ → ℤ) (k : ℕ) (p : ℤ) (q : ℕ) (os : List Offer) (a s : ℕ) (x y : ℤ) (same : x ≡ y) (ahead-is : a ≡ ahead rank (rank x) os) (tie-is : s ≡ tie rank (rank x) os) (h : 1 ≤ q) (last : y ≡ nth_price (behind k p os) q) where
  pub counted_out : Sorted rank (tenths k p ∷ os) → q ≤ length (behind k p os) → k ≤ q → (k + a ≤ q) × (q - (k + a) ≤ s)
  counted_out sorted reached placed =
      let o = shared_amount rank k p q os sorted reached placed h (rank x) (ap rank (same ∙ last)) in
      (omega (arith, o), omega (arith, o))

  pub filled_is : (g : ℕ → ℕ → ℕ → ℕ) → fill g rank (rank x) (q - (k + a)) s 0 os ≡ match_side g rank k p q os
  filled_is g = rw (ahead-is, tie-is) (sym (match_is g rank k p q os h (rank x) (ap rank (same ∙ last))))
