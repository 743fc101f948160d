-- The half of a whole number, rounded down.
use Rattle.std.proofs.Common.{◌≡◌, ℤ, pos, negsuc, ◌+ℤ◌, ◌≤ℤ◌, ◌<ℤ◌, refl, arith}
use lib.Signed.{shr_z}
use Rattle.std.proofs.lemmas.Int.{ints}
use Rattle.rules.specs.Prices.{half_down}

-- a shift by one place rounds down
pub shift_halves : (z : ℤ) → shr_z z 2 ≡ half_down z
shift_halves (pos n) = refl
shift_halves (negsuc n) = refl

pub half_rounds : (z : ℤ) → ((half_down z +ℤ half_down z) ≤ℤ z) × (z <ℤ (half_down z +ℤ half_down z +ℤ pos 2))
half_rounds (pos n) = (omega (arith, ints), omega (arith, ints))
half_rounds (negsuc n) = (omega (arith, ints), omega (arith, ints))
