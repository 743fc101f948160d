use Rattle.std.proofs.Common.{◌≡◌, ◌*◌, map, drop, pos, ◌+ℤ◌, neg_ℤ, ◌≤ℤ◌}
use Rattle.auction.specs.Books.{money}
use Rattle.auction.proofs.sums.money_of.Given as goal

-- what is left makes up the sum
abbrev pub invariant-loop-row : goal.invariant-loop-row
invariant-loop-row g l =
    (l.sum +ℤ money (map g.R.BlockRow.held (drop l.row-index l.rows)) ≡ money (map g.R.BlockRow.held l.rows))
    × (neg_ℤ (pos (30000000000 * l.row-index)) ≤ℤ l.sum) × (l.sum ≤ℤ pos (30000000000 * l.row-index))
