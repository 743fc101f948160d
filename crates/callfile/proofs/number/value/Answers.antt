use Rattle.std.proofs.Common.{length, arith}
use Rattle.callfile.proofs.Numerals.{short}
use Rattle.callfile.proofs.number.value.Goals as goal

pub overflow_mul-value : goal.overflow_mul-value
overflow_mul-value c = omega (arith, short c.loop-digit.value c.loop-digit.digit-index (length c.args.digits.now) c.loop-digit.invariant.1 c.loop-digit-test.true c.requires)

pub overflow_add-value : goal.overflow_add-value
overflow_add-value c = omega (arith, short c.loop-digit.value c.loop-digit.digit-index (length c.args.digits.now) c.loop-digit.invariant.1 c.loop-digit-test.true c.requires)
