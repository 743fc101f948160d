use Rattle.std.proofs.Common.{◌≡◌, ◌≤◌, length, take}
use Rattle.table.proofs.Sieves.{Marked}
use Rattle.table.specs.Codes.{Distinct}
use Rattle.table.proofs.slices.sifted.Given as goal

abbrev pub invariant-loop-i : goal.invariant-loop-i
invariant-loop-i l = (l.looks ≤ 16) × (length l.seen ≡ 8101) × Marked l.seen l.codes l.i × Distinct (take l.i l.codes)
