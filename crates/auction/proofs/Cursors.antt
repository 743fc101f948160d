-- A walk along two curves, offer by offer.
use Rattle.std.proofs.Common.{◌≡◌, ℕ, suc, ◌+◌, ◌-◌, ◌*◌, ◌<◌, ◌≤◌, ◌⊎◌, List, [], ◌∷◌, ◌++◌, length, get_or, drop, replicate, ℤ, pos, ◌≤ℤ◌, ◌<ℤ◌, sym, ap, ◌∙◌, inl, inr, arith}
use borrow.Author.Differences.{ints}
use Rattle.std.specs.List.{AllByRecursion}
use Rattle.std.proofs.lemmas.List.{drop-drop, drop-append-le, drop-replicate, get_or-drop, get_or_append_left, get_or-replicate, length-replicate, length-append, length-drop}
use Rattle.std.proofs.ByRecursion.{All-weaker}
use Rattle.std.proofs.lemmas.Bool.{cases_lt}
use Rattle.market.specs.Limits.{VolumeWithinLimits, PriceWithinLimits, lowest_price, highest_price}
use Rattle.auction.specs.declared.offer.Offer.{Offer}
use Rattle.auction.specs.Offers.{price_of, volume_of, of_sales, of_purchases, Sorted}
use Rattle.auction.specs.Curve.{curve, behind, nth_price, Meet, Amount, amount, Crossed}
use Rattle.auction.specs.Ready.{Ready}
use Rattle.auction.proofs.Found.{amount_found}
use Rattle.auction.proofs.Sides.{rising, tenths, bid_cons}

-- q tenths along the curve c there are n tenths at the price p, and then the offers os
abbrev pub Stands : List ℤ → ℕ → ℕ → ℤ → List Offer → Type 0
Stands c q n p os = drop q c ≡ behind n p os

pub steps : (c : List ℤ) (q n s : ℕ) (p : ℤ) (os : List Offer) → s ≤ n → Stands c q n p os → Stands c (q + s) (n - s) p os
steps c q n s p os h k =
    let l : s ≤ length (replicate n p) = rw (length-replicate n p) h in
    sym (drop-drop s q c) ∙ ap (drop s) k ∙ drop-append-le s (replicate n p) (curve os) l ∙ ap (λ (xs : List ℤ). xs ++ curve os) (drop-replicate s n p)

-- the tenths at hand have the price
at_hand : (c : List ℤ) (q n j : ℕ) (p : ℤ) (os : List Offer) → j < n → Stands c q n p os → get_or c (q + j) (pos 0) ≡ p
at_hand c q n j p os h k =
    let l : j < length (replicate n p) = rw (length-replicate n p) h in
    sym (get_or-drop q c j (pos 0)) ∙ ap (λ (xs : List ℤ). get_or xs j (pos 0)) k ∙ get_or_append_left (replicate n p) (curve os) (pos 0) j l ∙ get_or-replicate n j p (pos 0) h

-- and there are as many
pub left_over : (c : List ℤ) (q n : ℕ) (p : ℤ) (os : List Offer) → Stands c q n p os → length c - q ≡ n + length (curve os)
left_over c q n p os k = sym (length-drop q c) ∙ ap length k ∙ length-append (replicate n p) (curve os) ∙ ap (λ (m : ℕ). m + length (curve os)) (length-replicate n p)

-- the curves of two sides, walked q tenths
module _ (c d : List ℤ) (q n m : ℕ) (a b : ℤ) (ss ps : List Offer) (w : Stands c q n a ss) (x : Stands d q m b ps) where
  pub walks_on : (s : ℕ) → 1 ≤ s → s ≤ n → s ≤ m → a ≤ℤ b → Meet c d (q + s) × (nth_price c (q + s) ≡ a) × (nth_price d (q + s) ≡ b)
  walks_on s k h l u =
      let i : q + s - 1 ≡ q + (s - 1) = omega arith in
      let e : nth_price c (q + s) ≡ a = rw i (at_hand c q n (s - 1) a ss (omega arith) w) in
      let f : nth_price d (q + s) ≡ b = rw i (at_hand d q m (s - 1) b ps (omega arith) x) in
      (record { counts = omega arith; sold = omega (arith, left_over c q n a ss w); bought = omega (arith, left_over d q m b ps x); agreed = rw (e, f) u }, e, f)

  -- the next tenth does not meet
  pub stops_apart : 0 < n → 0 < m → b <ℤ a → Meet c d (suc q) → ⊥
  stops_apart h l u meet =
      let i : suc q - 1 ≡ q + 0 = omega arith in
      let e : nth_price c (suc q) ≡ a = rw i (at_hand c q n 0 a ss h w) in
      let f : nth_price d (suc q) ≡ b = rw i (at_hand d q m 0 b ps l x) in
      let v : a ≤ℤ b = rw (e, f) at meet.agreed in
      omega (arith, ints)

  pub stops_sold : n ≡ 0 → ss ≡ [] → Meet c d (suc q) → ⊥
  stops_sold h e meet = omega (arith, left_over c q n a ss w, meet.sold, ap (λ (os : List Offer). length (curve os)) e)

  pub stops_bought : m ≡ 0 → ps ≡ [] → Meet c d (suc q) → ⊥
  stops_bought h e meet = omega (arith, left_over d q m b ps x, meet.bought, ap (λ (os : List Offer). length (curve os)) e)

-- of sorted sides it is enough that the curves do not meet at the next tenth
pub amount_by_next : (ss ps : List Offer) (q : ℕ) → Sorted of_sales ss → Sorted of_purchases ps → (q ≡ 0) ⊎ Meet (curve ss) (curve ps) q → (Meet (curve ss) (curve ps) (suc q) → ⊥) → Amount (curve ss) (curve ps) q
amount_by_next ss ps q sorted sorted' reached stop = record {
  reached = reached;
  largest = λ n meet. elim (cases_lt q n) [
    | inl l ↦ absurd (stop (next n meet l))
    | inr l ↦ l
  ];
}
  where
    next : (n : ℕ) → Meet (curve ss) (curve ps) n → q < n → Meet (curve ss) (curve ps) (suc q)
    next n meet l =
        let u = rising of_sales ss (suc q - 1) (n - 1) sorted (omega arith) (omega (arith, meet.sold)) in
        let v = rising of_purchases ps (suc q - 1) (n - 1) sorted' (omega arith) (omega (arith, meet.bought)) in
        record { counts = omega arith; sold = omega (arith, meet.sold); bought = omega (arith, meet.bought); agreed = omega (arith, ints, meet.agreed) }

-- there is one amount
pub amount_only : (c d : List ℤ) (q r : ℕ) → Amount c d q → Amount c d r → q ≡ r
amount_only c d q r h k = let a = up_to q r h.reached k.largest in let b = up_to r q k.reached h.largest in omega arith
  where
    up_to : (m n : ℕ) → (m ≡ 0) ⊎ Meet c d m → ((i : ℕ) → Meet c d i → i ≤ n) → m ≤ n
    up_to m n (inl e) l = omega arith
    up_to m n (inr e) l = l m e

-- every offer is of a volume within the limits
abbrev pub Volumes : List Offer → Type 0
Volumes os = AllByRecursion (λ x. VolumeWithinLimits (volume_of x)) os

-- two sides walked q tenths: the cursors, and what the last tenths matched cost
pub record Walked (c d : List ℤ) (q : ℕ) (ss : List Offer) (n : ℕ) (a : ℤ) (ps : List Offer) (m : ℕ) (b : ℤ) (u v : ℤ) : Type 0 where
  pub sale_volumes : Volumes ss
  pub purchase_volumes : Volumes ps
  pub sale_stands : Stands c q n a ss
  pub purchase_stands : Stands d q m b ps
  pub sale_ended : n ≡ 0 → ss ≡ []
  pub purchase_ended : m ≡ 0 → ps ≡ []
  pub reached : (q ≡ 0) ⊎ (Meet c d q × (nth_price c q ≡ u) × (nth_price d q ≡ v))

-- the curves of a side are short enough to count
curve_short : (os : List Offer) → Volumes os → length (curve os) ≤ 100000 * length os
curve_short [] h = omega arith
curve_short (x ∷ os) (h, hs) = omega (arith, bid_cons x os, curve_short os hs)

pub behind_short : (k : ℕ) (p : ℤ) (os : List Offer) → k ≤ 30000000 → Volumes os → length os ≤ 512 → length (behind k p os) ≤ 81200000
behind_short k p os h hs l = omega (arith, bid_cons (tenths k p) os, curve_short os hs)

-- s more tenths, which meet, after which the cursors take up the next offers
pub walk_more : (c d : List ℤ) (q : ℕ) (ss : List Offer) (n : ℕ) (a : ℤ) (ps : List Offer) (m : ℕ) (b u v : ℤ) → Walked c d q ss n a ps m b u v →
    (s : ℕ) → 1 ≤ s → s ≤ n → s ≤ m → a ≤ℤ b →
    (ss' : List Offer) (n' : ℕ) (a' : ℤ) → Volumes ss' → behind n' a' ss' ≡ behind (n - s) a ss → (n' ≡ 0 → ss' ≡ []) →
    (ps' : List Offer) (m' : ℕ) (b' : ℤ) → Volumes ps' → behind m' b' ps' ≡ behind (m - s) b ps → (m' ≡ 0 → ps' ≡ []) →
    Walked c d (q + s) ss' n' a' ps' m' b' a b
walk_more c d q ss n a ps m b u v w s h h₁ h₂ le ss' n' a' volumes same ended ps' m' b' volumes' same' ended' = record {
  sale_volumes = volumes;
  purchase_volumes = volumes';
  sale_stands = steps c q n s a ss h₁ w.sale_stands ∙ sym same;
  purchase_stands = steps d q m s b ps h₂ w.purchase_stands ∙ sym same';
  sale_ended = ended;
  purchase_ended = ended';
  reached = inr (walks_on c d q n m a b ss ps w.sale_stands w.purchase_stands s h h₁ h₂ le);
}

-- where the walk stops, the amount is found with the prices of its last tenths
pub walk_ends : (k : ℕ) (o : ℤ) (ss : List Offer) (l : ℕ) (p : ℤ) (ps : List Offer) (q : ℕ) (ss' : List Offer) (n : ℕ) (a : ℤ) (ps' : List Offer) (m : ℕ) (b u v : ℤ) →
    Walked (behind k o ss) (behind l p ps) q ss' n a ps' m b u v → Sorted of_sales (tenths k o ∷ ss) → Sorted of_purchases (tenths l p ∷ ps) →
    (Meet (behind k o ss) (behind l p ps) (suc q) → ⊥) → Crossed (behind k o ss) (behind l p ps) q u v
walk_ends k o ss l p ps q ss' n a ps' m b u v w rises falls stop = record {
  found = amount_only c d q (amount c d) (amount_by_next (tenths k o ∷ ss) (tenths l p ∷ ps) q rises falls (met w.reached) stop) (amount_found c d);
  sale = λ h. sale_at h w.reached;
  purchase = λ h. purchase_at h w.reached;
}
  where
    c : List ℤ
    c = behind k o ss

    d : List ℤ
    d = behind l p ps

    met : (q ≡ 0) ⊎ (Meet c d q × (nth_price c q ≡ u) × (nth_price d q ≡ v)) → (q ≡ 0) ⊎ Meet c d q
    met (inl e) = inl e
    met (inr e) = inr e.0

    sale_at : 1 ≤ q → (q ≡ 0) ⊎ (Meet c d q × (nth_price c q ≡ u) × (nth_price d q ≡ v)) → u ≡ nth_price c q
    sale_at h (inl e) = absurd (omega arith)
    sale_at h (inr e) = sym e.1

    purchase_at : 1 ≤ q → (q ≡ 0) ⊎ (Meet c d q × (nth_price c q ≡ u) × (nth_price d q ≡ v)) → v ≡ nth_price d q
    purchase_at h (inl e) = absurd (omega arith)
    purchase_at h (inr e) = sym e.2

-- a side stands in order behind the tenths of the line
pub behind_lowest : (k : ℕ) (os : List Offer) → Ready of_sales os → Sorted of_sales (tenths k lowest_price ∷ os)
behind_lowest k os h = (All-weaker (λ o. PriceWithinLimits (price_of o)) (λ o. of_sales lowest_price ≤ℤ of_sales (price_of o)) (λ o l. l.0) os h.prices, h.sorted)

pub behind_highest : (k : ℕ) (os : List Offer) → Ready of_purchases os → Sorted of_purchases (tenths k highest_price ∷ os)
behind_highest k os h = (All-weaker (λ o. PriceWithinLimits (price_of o)) (λ o. of_purchases highest_price ≤ℤ of_purchases (price_of o)) (λ o l. omega (arith, ints, l.1)) os h.prices, h.sorted)
