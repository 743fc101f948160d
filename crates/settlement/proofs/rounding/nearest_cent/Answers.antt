use Rattle.std.proofs.Common.{pos, neg_ℤ, ◌≤ℤ◌, arith}
use lib.Signed.{rem_z}
use Rattle.std.proofs.lemmas.Int.{ints, to_z-of_z}
use Rattle.settlement.proofs.Roundings.{quotient_stays}
use Rattle.settlement.proofs.rounding.nearest_cent.Goals as goal

pub returns-in-minus4-to-4-clause-value : goal.returns-in-minus4-to-4-clause-value
returns-in-minus4-to-4-clause-value c =
    let z = c.args.amount in
    let h : rem_z z (pos 10) ≤ℤ pos 4 = grind (arith, ints, to_z-of_z) in
    let k : neg_ℤ (pos 4) ≤ℤ rem_z z (pos 10) = grind (arith, ints, to_z-of_z) in
    grind (arith, ints, to_z-of_z, quotient_stays z h k)
