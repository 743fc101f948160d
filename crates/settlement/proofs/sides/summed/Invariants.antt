use Rattle.std.proofs.Common.{◌≡◌, ◌*◌, ◌^◌, ◌≤◌, ℤ, take, nat_abs}
use Rattle.std.specs.Fn.{FnReturnsAt}
use Rattle.settlement.specs.Postings.{total}
use Rattle.settlement.proofs.sides.summed.Given as goal

abbrev pub invariant-loop-row : goal.invariant-loop-row
invariant-loop-row g l = record {
  value : (number : g.row.B.Denot → ℤ) → ((row : g.row.B.Denot) (r : ℤ) → FnReturnsAt g.F.Fn l.addend row r → r ≡ number row) → l.sum ≡ total number (take l.row-index l.blocks);
  small : nat_abs l.sum ≤ l.row-index * 2 ^ 60;
}
