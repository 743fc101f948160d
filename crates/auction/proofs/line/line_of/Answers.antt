use borrow.Author.Differences.{ints}
use Rattle.std.proofs.Common.{sym, arith}
use Rattle.auction.proofs.Best.{line_there, line_back, line_enough}
use Rattle.auction.proofs.line.line_of.Goals as goal

pub returns-then-flow-forward : goal.returns-then-flow-forward
returns-then-flow-forward c = sym (line_there c.args.capacities.forward c.args.capacities.backward c.args.flow (omega (arith, ints, c.if-flow-forward.true)))

pub returns-then-flow-backward : goal.returns-then-flow-backward
returns-then-flow-backward c = sym (line_back c.args.capacities.forward c.args.capacities.backward c.args.flow (omega (arith, ints, c.if-flow-backward.true)))

pub returns-else-flow-backward : goal.returns-else-flow-backward
returns-else-flow-backward c = sym (line_enough c.args.capacities.forward c.args.capacities.backward c.args.flow (omega (arith, ints, c.if-flow-forward.false)) (omega (arith, ints, c.if-flow-backward.false)))
