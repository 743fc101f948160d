use Rattle.std.proofs.Common.{arith, refl}
use Rattle.std.proofs.lemmas.Fn.{says_at}
use Rattle.std.proofs.lemmas.Int.{ints}
use Rattle.settlement.proofs.Sums.{total_more}
use Rattle.settlement.proofs.sides.summed.Goals as goal

pub overflow_add-sum : goal.overflow_add-sum
overflow_add-sum g c = omega (arith, ints, c.loop-row.invariant.small, c.requires.small c.row-item.result c.addend.result (says_at g.F.Fn c.addend.ensures refl))

pub loop-row-preserved : goal.loop-row-preserved
loop-row-preserved g c =
    let small = c.requires.small c.row-item.result c.addend.result (says_at g.F.Fn c.addend.ensures refl) in
    record {
      value = λ number is.
          let here = is c.row-item.result c.addend.result (says_at g.F.Fn c.addend.ensures refl) in
          let more = total_more number c.args.blocks.now c.loop-row.row-index c.row-item.result c.loop-row-test.true c.row-item.is in
          omega (arith, ints, small, here, more, c.loop-row.invariant.value number is, c.loop-row.invariant.small);
      small = omega (arith, ints, c.loop-row.invariant.small, small);
    }
