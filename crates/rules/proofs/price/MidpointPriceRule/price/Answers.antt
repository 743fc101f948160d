use Rattle.std.proofs.Common.{◌+ℤ◌, arith}
use Rattle.std.proofs.lemmas.Int.{ints, to_z-of_z}
use Rattle.rules.proofs.Halves.{shift_halves, half_rounds}
use Rattle.rules.proofs.price.MidpointPriceRule.price.Goals as goal

pub returns : goal.returns
returns c =
    let shifted = shift_halves (c.args.low +ℤ c.args.high) in
    let rounds = half_rounds (c.args.low +ℤ c.args.high) in
    record {
      value = grind (arith, ints, to_z-of_z);
      rounded = λ _. (grind (arith, ints, to_z-of_z), grind (arith, ints, to_z-of_z));
    }
