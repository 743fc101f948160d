-- Rounding keeps its law.
use Rattle.std.proofs.Common.{◌≡◌, zero, suc, ◌≤◌, ℤ, pos, negsuc, ◌+ℤ◌, ◌-ℤ◌, neg_ℤ, ◌≤ℤ◌, refl, arith}
use lib.Signed.{quot_z, rem_z}
use Rattle.std.proofs.lemmas.Int.{ints, to_z-of_z}
use Rattle.settlement.specs.Rounding.{Rounds, away, nearest_cent}

half : (amount : ℤ) → away amount (nearest_cent amount) ≤ 5
unfolding nearest_cent
half (pos n) = omega (arith, ints)
half (negsuc n) = omega (arith, ints)

-- whatever is within half a cent is nearest
within_nearest : (amount cents other : ℤ) → away amount cents ≤ 5 → away amount cents ≤ away amount other
within_nearest amount cents other h = omega (arith, ints)

symmetric : (amount : ℤ) → nearest_cent (neg_ℤ amount) ≡ neg_ℤ (nearest_cent amount)
unfolding nearest_cent
symmetric (pos zero) = refl
symmetric (pos (suc n)) = refl
symmetric (negsuc n) = omega (arith, ints)

pub rounds : Rounds nearest_cent
rounds = record { half = half; nearest = λ amount cents. within_nearest amount (nearest_cent amount) cents (half amount); symmetric = symmetric }

-- the quotient towards zero, and the remainder that decides whether a cent is added to its size
pub quotient_up : (z : ℤ) → pos 5 ≤ℤ rem_z z (pos 10) → quot_z z (pos 10) +ℤ pos 1 ≡ nearest_cent z
unfolding nearest_cent
quotient_up (pos n) h = omega (arith, ints)
quotient_up (negsuc n) h = omega (arith, ints)

pub quotient_down : (z : ℤ) → rem_z z (pos 10) ≤ℤ neg_ℤ (pos 5) → quot_z z (pos 10) -ℤ pos 1 ≡ nearest_cent z
unfolding nearest_cent
quotient_down (pos n) h = omega (arith, ints)
quotient_down (negsuc n) h = omega (arith, ints)

pub quotient_stays : (z : ℤ) → rem_z z (pos 10) ≤ℤ pos 4 → neg_ℤ (pos 4) ≤ℤ rem_z z (pos 10) → quot_z z (pos 10) ≡ nearest_cent z
unfolding nearest_cent
quotient_stays (pos n) h k = omega (arith, ints)
quotient_stays (negsuc n) h k = omega (arith, ints)

pub ruleset quotients = (ints, to_z-of_z, quotient_up, quotient_down, rounds)
