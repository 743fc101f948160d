-- Rounding of tenths of a cent to whole cents. To believe: `nearest_cent`, where `negsuc n` is -(n + 1).
-- Everything else about rounding follows from the law `Rounds`, which does not say where a half goes.
use Rattle.std.specs.Prelude.{◌≡◌, ℕ, suc, ◌+◌, ◌/◌, ◌≤◌, ℤ, pos, negsuc, ◌-ℤ◌, ◌*ℤ◌, neg_ℤ, unsigned_abs}

-- the nearest whole number of cents; a half goes away from zero
unfoldable pub nearest_cent : ℤ → ℤ
nearest_cent (pos n) = pos ((n + 5) / 10)
nearest_cent (negsuc n) = neg_ℤ (pos ((suc n + 5) / 10))

-- how far an amount lies from a number of cents, in tenths of a cent
abbrev pub away : ℤ → ℤ → ℕ
away amount cents = unsigned_abs (amount -ℤ pos 10 *ℤ cents)

-- the law of rounding to the nearest cent
pub record Rounds (round : ℤ → ℤ) : Type 0 where
  -- at most half a cent is lost or won
  pub half : (amount : ℤ) → away amount (round amount) ≤ 5
  -- no number of cents is nearer
  pub nearest : (amount cents : ℤ) → away amount (round amount) ≤ away amount cents
  -- for the seller as for the purchaser
  pub symmetric : (amount : ℤ) → round (neg_ℤ amount) ≡ neg_ℤ (round amount)
