-- Products of signed numbers, and the size of a rounded amount.
use Rattle.std.proofs.Common.{suc, ◌^◌, ◌<◌, ◌≤◌, ℤ, pos, negsuc, ◌*ℤ◌, nat_abs, mul-le-mul_right, arith, w32, SFits}
use Rattle.std.proofs.lemmas.Int.{ints}
use Rattle.settlement.specs.Rounding.{nearest_cent}
use Rattle.settlement.proofs.Roundings.{rounds}

pub product_small : (a b : ℤ) → SFits w32 a → nat_abs b < 2 ^ 32 → nat_abs (a *ℤ b) < 2 ^ 63
product_small (pos a) (pos b) f h = let k : a ≤ 2 ^ 31 = omega (arith, f.sfits) in omega (arith, ints, mul-le-mul_right b k)
product_small (pos a) (negsuc b) f h = let k : a ≤ 2 ^ 31 = omega (arith, f.sfits) in omega (arith, ints, mul-le-mul_right (suc b) k)
product_small (negsuc a) (pos b) f h = let k : suc a ≤ 2 ^ 31 = omega (arith, f.sfits) in omega (arith, ints, mul-le-mul_right b k)
product_small (negsuc a) (negsuc b) f h = let k : suc a ≤ 2 ^ 31 = omega (arith, f.sfits) in omega (arith, ints, mul-le-mul_right (suc b) k)

pub cents_small : (z : ℤ) → nat_abs z < 2 ^ 63 → nat_abs (nearest_cent z) ≤ 2 ^ 60
cents_small z h = omega (arith, ints, rounds.half z)
