-- The bracket's prices support what is matched, and there is one.
use Rattle.std.proofs.Common.{◌≡◌, ℕ, zero, suc, ◌-◌, ◌<◌, ◌≤◌, Bool, true, List, [], ◌∷◌, length, get_or, ℤ, pos, neg_ℤ, ◌≤ℤ◌, ◌<ℤ◌, inl, inr, arith}
use borrow.Author.Differences.{ints}
use Rattle.std.specs.List.{AllByRecursion}
use Rattle.std.proofs.ByRecursion.{All-weaker}
use Rattle.std.proofs.lemmas.Int.{by_lt_z, clamps}
use Rattle.std.proofs.lemmas.Bool.{cases_Bool, cases_lt, both_ways, ltb-true, lt-ltb}
use Rattle.auction.specs.declared.offer.Offer.{Offer}
use Rattle.auction.specs.Offers.{price_of, volume_of, matched_of, of_sales, of_purchases, Sorted}
use Rattle.auction.specs.Books.{SaleFair, PurchaseFair}
use Rattle.auction.specs.Curve.{curve, behind, nth_price, Meet, Amount, match_side}
use Rattle.market.specs.Limits.{lowest_price, highest_price}
use Rattle.auction.specs.Bracket.{part_matched, part_left, highest, lowest, low_end, high_end}
use Rattle.rules.specs.Shares.{Shares}
use Rattle.auction.proofs.Sides.{rising, at_least, tenths}
use Rattle.auction.proofs.Margin.{both, Early, Late, match_early, match_late}

module _ (test : Offer → Bool) (z p : ℤ) where
  highest_le : (os : List Offer) → z ≤ℤ p → AllByRecursion (λ o. test o ≡ true → price_of o ≤ℤ p) os → highest test z os ≤ℤ p
  highest_le [] h k = h
  highest_le (o ∷ os) h (k, ks) =
      elim (cases_Bool (test o)) [
        | inl e ↦ rw e (let u = k e in let ih = highest_le os h ks in omega (arith, ints, clamps))
        | inr e ↦ rw e (highest_le os h ks)
      ]

  highest_out : (os : List Offer) → highest test z os ≤ℤ p → (z ≤ℤ p) × AllByRecursion (λ o. test o ≡ true → price_of o ≤ℤ p) os
  highest_out [] h = (h, tt)
  highest_out (o ∷ os) h =
      elim (cases_Bool (test o)) [
        | inl e ↦ let h' = rw e at h in let ih = highest_out os (omega (arith, ints, clamps)) in (ih.0, ((λ _. omega (arith, ints, clamps)), ih.1))
        | inr e ↦ let ih = highest_out os (rw e at h) in (ih.0, ((λ t. absurd (both_ways (test o) e t)), ih.1))
      ]

  lowest_ge : (os : List Offer) → p ≤ℤ z → AllByRecursion (λ o. test o ≡ true → p ≤ℤ price_of o) os → p ≤ℤ lowest test z os
  lowest_ge [] h k = h
  lowest_ge (o ∷ os) h (k, ks) =
      elim (cases_Bool (test o)) [
        | inl e ↦ rw e (let u = k e in let ih = lowest_ge os h ks in omega (arith, ints, clamps))
        | inr e ↦ rw e (lowest_ge os h ks)
      ]

  lowest_out : (os : List Offer) → p ≤ℤ lowest test z os → (p ≤ℤ z) × AllByRecursion (λ o. test o ≡ true → p ≤ℤ price_of o) os
  lowest_out [] h = (h, tt)
  lowest_out (o ∷ os) h =
      elim (cases_Bool (test o)) [
        | inl e ↦ let h' = rw e at h in let ih = lowest_out os (omega (arith, ints, clamps)) in (ih.0, ((λ _. omega (arith, ints, clamps)), ih.1))
        | inr e ↦ let ih = lowest_out os (rw e at h) in (ih.0, ((λ t. absurd (both_ways (test o) e t)), ih.1))
      ]

-- the price p supports what is matched of the two sides
pub record Fair (p : ℤ) (ss ps : List Offer) : Type 0 where
  pub sold : AllByRecursion (λ o. SaleFair p o.block) ss
  pub bought : AllByRecursion (λ o. PurchaseFair p o.block) ps

-- each price of the bracket does
pub bracket_supports : (ss ps : List Offer) (p : ℤ) → low_end ss ps ≤ℤ p → p ≤ℤ high_end ss ps → Fair p ss ps
unfolding low_end high_end
bracket_supports ss ps p l h = record {
  sold = both (λ o. part_matched o ≡ true → price_of o ≤ℤ p) (λ o. part_left o ≡ true → p ≤ℤ price_of o) (λ o. SaleFair p o.block)
      (λ o u v. record { no_loss = λ k. u (lt-ltb 0 (matched_of o) k); none_short = λ k. v (lt-ltb (matched_of o) (volume_of o) k) }) ss
      lows.1 highs.1;
  bought = both (λ o. part_matched o ≡ true → p ≤ℤ price_of o) (λ o. part_left o ≡ true → price_of o ≤ℤ p) (λ o. PurchaseFair p o.block)
      (λ o u v. record { no_loss = λ k. u (lt-ltb 0 (matched_of o) k); none_short = λ k. v (lt-ltb (matched_of o) (volume_of o) k) }) ps
      highs'.1 lows'.1;
}
  where
    lows : (highest part_left lowest_price ps ≤ℤ p) × AllByRecursion (λ o. part_matched o ≡ true → price_of o ≤ℤ p) ss
    lows = highest_out part_matched (highest part_left lowest_price ps) p ss l

    lows' : (lowest_price ≤ℤ p) × AllByRecursion (λ o. part_left o ≡ true → price_of o ≤ℤ p) ps
    lows' = highest_out part_left lowest_price p ps lows.0

    highs' : (p ≤ℤ lowest part_left highest_price ss) × AllByRecursion (λ o. part_matched o ≡ true → p ≤ℤ price_of o) ps
    highs' = lowest_out part_matched (lowest part_left highest_price ss) p ps h

    highs : (p ≤ℤ highest_price) × AllByRecursion (λ o. part_left o ≡ true → p ≤ℤ price_of o) ss
    highs = lowest_out part_left highest_price p ss highs'.0

-- and a price within the limits that does lies in the bracket
pub in_bracket : (ss ps : List Offer) (p : ℤ) → Fair p ss ps → lowest_price ≤ℤ p → p ≤ℤ highest_price → (low_end ss ps ≤ℤ p) × (p ≤ℤ high_end ss ps)
unfolding low_end high_end
in_bracket ss ps p s l h = (
  highest_le part_matched (highest part_left lowest_price ps) p ss
      (highest_le part_left lowest_price p ps l (All-weaker (λ o. PurchaseFair p o.block) (λ o. part_left o ≡ true → price_of o ≤ℤ p) (λ o f t. f.none_short (ltb-true (matched_of o) (volume_of o) t)) ps s.bought))
      (All-weaker (λ o. SaleFair p o.block) (λ o. part_matched o ≡ true → price_of o ≤ℤ p) (λ o f t. f.no_loss (ltb-true 0 (matched_of o) t)) ss s.sold),
  lowest_ge part_matched (lowest part_left highest_price ss) p ps
      (lowest_ge part_left highest_price p ss h (All-weaker (λ o. SaleFair p o.block) (λ o. part_left o ≡ true → p ≤ℤ price_of o) (λ o f t. f.none_short (ltb-true (matched_of o) (volume_of o) t)) ss s.sold))
      (All-weaker (λ o. PurchaseFair p o.block) (λ o. part_matched o ≡ true → p ≤ℤ price_of o) (λ o f t. f.no_loss (ltb-true 0 (matched_of o) t)) ps s.bought),
)

-- what a price has to meet, over two curves where q tenths are matched
pub record Between (c d : List ℤ) (q : ℕ) (p : ℤ) : Type 0 where
  pub last_sale : 1 ≤ q → nth_price c q ≤ℤ p
  pub next_purchase : q < length d → get_or d q (pos 0) ≤ℤ p
  pub last_purchase : 1 ≤ q → p ≤ℤ nth_price d q
  pub next_sale : q < length c → p ≤ℤ get_or c q (pos 0)
  pub above : lowest_price ≤ℤ p
  pub below : p ≤ℤ highest_price

-- past the amount the sale is the dearer
pub apart : (c d : List ℤ) (q : ℕ) → Amount c d q → q < length c → q < length d → get_or d q (pos 0) <ℤ get_or c q (pos 0)
apart c d q amount l l' =
    by_lt_z (get_or d q (pos 0)) (get_or c q (pos 0))
    (λ h. h)
    (λ h. let e : suc q - 1 ≡ q = omega arith in
    let meet : Meet c d (suc q) = record { counts = omega arith; sold = omega arith; bought = omega arith; agreed = rw e h } in
    absurd (omega (arith, amount.largest (suc q) meet)))

abbrev pub Limited : List Offer → Type 0
Limited os = AllByRecursion (λ o. (lowest_price ≤ℤ price_of o) × (price_of o ≤ℤ highest_price)) os

pub ranged : (os : List Offer) (j : ℕ) → Limited os → j < length (curve os) → (lowest_price ≤ℤ get_or (curve os) j (pos 0)) × (get_or (curve os) j (pos 0) ≤ℤ highest_price)
ranged os j h l =
    let u = at_least of_sales lowest_price os j (All-weaker (λ o. (lowest_price ≤ℤ price_of o) × (price_of o ≤ℤ highest_price)) (λ o. lowest_price ≤ℤ of_sales (price_of o)) (λ o k. k.0) os h) l in
    let v = at_least of_purchases (neg_ℤ highest_price) os j (All-weaker (λ o. (lowest_price ≤ℤ price_of o) × (price_of o ≤ℤ highest_price)) (λ o. neg_ℤ highest_price ≤ℤ of_purchases (price_of o)) (λ o k. omega (arith, ints, k.1)) os h) l in
    (u, omega (arith, ints, v))

-- of two sorted sides within the limits there is such a price
module _ (ss ps : List Offer) (sorted : Sorted of_sales ss) (sorted' : Sorted of_purchases ps) (limited : Limited ss) (limited' : Limited ps) where
  at_start : Amount (curve ss) (curve ps) 0 → (p : ℤ) × Between (curve ss) (curve ps) 0 p
  at_start amount =
      elim (cases_lt 0 (length (curve ps))) [
        | inl l ↦ let r = ranged ps 0 limited' l in
            (get_or (curve ps) 0 (pos 0), record { last_sale = λ k. absurd (omega arith); next_purchase = λ k. omega (arith, ints); last_purchase = λ k. absurd (omega arith); next_sale = λ k. omega (arith, ints, apart (curve ss) (curve ps) 0 amount k l); above = r.0; below = r.1 })
        | inr l ↦ (lowest_price, record { last_sale = λ k. absurd (omega arith); next_purchase = λ k. absurd (omega arith); last_purchase = λ k. absurd (omega arith); next_sale = λ k. (ranged ss 0 limited k).0; above = omega (arith, ints); below = omega (arith, ints) })
      ]

  at_meet : (k : ℕ) → Amount (curve ss) (curve ps) (suc k) → Meet (curve ss) (curve ps) (suc k) → (p : ℤ) × Between (curve ss) (curve ps) (suc k) p
  at_meet k amount meet =
      elim (cases_lt (suc k) (length (curve ps))) [ inl l ↦ by_lt_z sale next (at_next l) (λ h. at_sale (λ _. h)) | inr l ↦ at_sale (λ h. absurd (omega (arith, h, l))) ]
    where
      sale : ℤ
      sale = nth_price (curve ss) (suc k)

      next : ℤ
      next = get_or (curve ps) (suc k) (pos 0)

      at_sale : (suc k < length (curve ps) → next ≤ℤ sale) → (p : ℤ) × Between (curve ss) (curve ps) (suc k) p
      at_sale h =
          let r = ranged ss (suc k - 1) limited (omega (arith, meet.sold)) in
          (sale, record { last_sale = λ _. omega (arith, ints); next_purchase = h; last_purchase = λ _. meet.agreed; next_sale = λ l. rising of_sales ss (suc k - 1) (suc k) sorted (omega arith) l; above = r.0; below = r.1 })

      at_next : suc k < length (curve ps) → sale <ℤ next → (p : ℤ) × Between (curve ss) (curve ps) (suc k) p
      at_next l h =
          let r = ranged ps (suc k) limited' l in
          let u = rising of_purchases ps (suc k - 1) (suc k) sorted' (omega arith) l in
          (next, record { last_sale = λ _. omega (arith, ints, h); next_purchase = λ _. omega (arith, ints); last_purchase = λ _. omega (arith, ints, u); next_sale = λ v. omega (arith, ints, apart (curve ss) (curve ps) (suc k) amount v l); above = r.0; below = r.1 })

  pub between : (q : ℕ) → Amount (curve ss) (curve ps) q → (p : ℤ) × Between (curve ss) (curve ps) q p
  between zero amount = at_start amount
  between (suc k) amount = elim amount.reached [ inl e ↦ absurd (omega arith) | inr meet ↦ at_meet k amount meet ]

pub amount_bounds : (c d : List ℤ) (q : ℕ) → Amount c d q → (q ≤ length c) × (q ≤ length d)
amount_bounds c d q amount = elim amount.reached [ inl e ↦ (omega arith, omega arith) | inr meet ↦ (meet.sold, meet.bought) ]

-- such a price supports the two sides, k and n tenths ahead of whose blocks are matched too
pub between_supports : (g : ℕ → ℕ → ℕ → ℕ) → Shares g → (ss ps : List Offer) (k n : ℕ) (a b : ℤ) (q : ℕ) (p : ℤ) →
    Sorted of_sales (tenths k a ∷ ss) → Sorted of_purchases (tenths n b ∷ ps) → q ≤ length (behind k a ss) → q ≤ length (behind n b ps) → k ≤ q → n ≤ q →
    Between (behind k a ss) (behind n b ps) q p → Fair p (match_side g of_sales k a q ss) (match_side g of_purchases n b q ps)
between_supports g shares ss ps k n a b q p sorted sorted' l l' i j h = record {
  sold = both (Early of_sales q (behind k a ss)) (Late of_sales q (behind k a ss)) (λ o. SaleFair p o.block)
      (λ o u v. record { no_loss = λ w. omega (arith, ints, (u w).1, h.last_sale (u w).0); none_short = λ w. omega (arith, ints, (v w).1, h.next_sale (v w).0) })
      (match_side g of_sales k a q ss) (match_early g shares of_sales k a q ss) (match_late g shares of_sales k a q ss sorted l i);
  bought = both (Early of_purchases q (behind n b ps)) (Late of_purchases q (behind n b ps)) (λ o. PurchaseFair p o.block)
      (λ o u v. record { no_loss = λ w. omega (arith, ints, (u w).1, h.last_purchase (u w).0); none_short = λ w. omega (arith, ints, (v w).1, h.next_purchase (v w).0) })
      (match_side g of_purchases n b q ps) (match_early g shares of_purchases n b q ps) (match_late g shares of_purchases n b q ps sorted' l' j);
}
