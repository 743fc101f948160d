-- The downward search finds the amount.
use Rattle.std.proofs.Common.{◌≡◌, ℕ, zero, suc, ◌≤◌, min, Bool, true, ◌⊎◌, length, ◌≤ℤ◌, sym, refl, inl, inr, arith}
use borrow.Author.Differences.{ints}
use lib.Signed.{le_z}
use Rattle.std.proofs.lemmas.Bool.{cases_Bool, cases_lt, both_ways}
use Rattle.auction.specs.Curve.{nth_price, Meet, down_from, amount}
use Rattle.auction.specs.Best.{AmountFound}

-- the search stays within its start, and stops at 0 or where the test passes
stops : (test : ℕ → Bool) (n : ℕ) → (down_from test n ≡ 0) ⊎ ((1 ≤ down_from test n) × (down_from test n ≤ n) × (test (down_from test n) ≡ true))
stops test zero = inl refl
stops test (suc n) =
    elim (cases_Bool (test (suc n))) [
      | inl e ↦ inr (rw e (omega arith, omega arith, e))
      | inr e ↦ rw e (elim (stops test n) [ inl z ↦ inl z | inr h ↦ inr (h.0, omega (arith, h.1), h.2) ])
    ]

-- and it passes no number where the test passes
highest : (test : ℕ → Bool) (n k : ℕ) → 1 ≤ k → k ≤ n → test k ≡ true → k ≤ down_from test n
highest test zero k h l t = omega arith
highest test (suc n) k h l t =
    elim (cases_Bool (test (suc n))) [
      | inl e ↦ rw e l
      | inr e ↦ elim (cases_lt n k) [
        | inl u ↦ let v : k ≡ suc n = omega arith in absurd (both_ways (test (suc n)) e (rw v at t))
        | inr u ↦ rw e (highest test n k h u t)
      ]
    ]

pub amount_found : AmountFound
unfolding amount
amount_found ss ps = record { reached = reached (stops test top); largest = λ n meet. highest test top n meet.counts (omega (arith, meet.sold, meet.bought)) (passes n meet.agreed) }
  where
    test : ℕ → Bool
    test n = le_z (nth_price ss n) (nth_price ps n)

    top : ℕ
    top = min (length ss) (length ps)

    passes : (n : ℕ) → nth_price ss n ≤ℤ nth_price ps n → test n ≡ true
    passes n h = let e : true ≡ le_z (nth_price ss n) (nth_price ps n) = omega (arith, ints) in sym e

    reached : (down_from test top ≡ 0) ⊎ ((1 ≤ down_from test top) × (down_from test top ≤ top) × (test (down_from test top) ≡ true)) → (down_from test top ≡ 0) ⊎ Meet ss ps (down_from test top)
    reached (inl z) = inl z
    reached (inr h) = inr (record { counts = h.0; sold = omega (arith, h.1); bought = omega (arith, h.1); agreed = omega (arith, ints, h.2) })
