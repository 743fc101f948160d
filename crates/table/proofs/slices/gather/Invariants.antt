use Rattle.std.proofs.Common.{◌≡◌, map, length, take}
use Rattle.std.specs.List.{AllByRecursion}
use Rattle.table.proofs.slices.gather.Given as goal

abbrev pub invariant-loop-i : goal.invariant-loop-i
invariant-loop-i g l =
    (length l.codes ≡ length l.rows)
    × (take l.i l.codes ≡ map (λ x. g.R.Record.code (g.R.Record.order.named x)) (take l.i l.rows))
    × AllByRecursion (λ x. g.R.Record.coded (g.R.Record.order.named x)) (take l.i l.rows)
