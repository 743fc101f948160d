-- What follows from the laws of a sharing rule, for every amount, tied volume and volume counted.
use Rattle.std.proofs.Common.{◌≡◌, ℕ, ◌+◌, ◌≤◌, ⊎_elim, arith}
use Rattle.std.proofs.lemmas.Bool.{cases_lt}
use Rattle.rules.specs.Shares.{Shares, share}

module _ (g : ℕ → ℕ → ℕ → ℕ) (laws : Shares g) where
  -- the laws apply, or nothing is given
  pub by_cases : {P : Type 0} (l s c : ℕ) → (l ≤ s → c ≤ s → P) → (g l s c ≡ 0 → P) → P
  by_cases l s c p q =
      ⊎_elim
      (λ h. q (laws.outside l s c (λ b. omega (arith, b.0))))
      (λ h. ⊎_elim (λ k. q (laws.outside l s c (λ b. omega (arith, b.1)))) (p h) (cases_lt s c))
      (cases_lt s l)

  pub at_most_counted : (l s c : ℕ) → g l s c ≤ c
  at_most_counted l s c = by_cases l s c (λ h k. omega (arith, laws.slowly l s 0 c h (omega arith) k, laws.none l s h)) (λ e. omega arith)

  pub at_most_amount : (l s c : ℕ) → g l s c ≤ l
  at_most_amount l s c = by_cases l s c (λ h k. omega (arith, laws.rises l s c s h k (omega arith), laws.whole l s h)) (λ e. omega arith)

  pub nothing_to_share : (s c : ℕ) → g 0 s c ≡ 0
  nothing_to_share s c = omega (arith, at_most_amount 0 s c)

  pub given_rises : (l s c v : ℕ) → c + v ≤ s → g l s c ≤ g l s (c + v)
  given_rises l s c v k = by_cases l s c (λ h _. laws.rises l s c (c + v) h (omega arith) k) (λ e. omega arith)

  pub share_adds : (l s c v : ℕ) → c + v ≤ s → g l s c + share g l s c v ≡ g l s (c + v)
  share_adds l s c v k = omega (arith, given_rises l s c v k)

  pub share_fits : (l s c v : ℕ) → share g l s c v ≤ v
  share_fits l s c v = by_cases l s (c + v) (λ h k. omega (arith, laws.slowly l s c (c + v) h (omega arith) k)) (λ e. omega arith)
