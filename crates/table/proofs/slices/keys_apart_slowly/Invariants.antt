use Rattle.std.proofs.Common.{take}
use Rattle.table.specs.Rows.{Apart}
use Rattle.table.proofs.slices.keys_apart_slowly.Given as goal

abbrev pub invariant-loop-i : goal.invariant-loop-i
invariant-loop-i g l = Apart g.R.Record.order (take l.i l.rows)
