use Rattle.std.proofs.Common.{◌≡◌, ◌++◌, map, take, drop}
use Rattle.auction.specs.Offers.{part}
use Rattle.auction.proofs.merge.write_back.Given as goal

-- the rows written so far, and the zone's offers that are left, make up the whole
abbrev pub invariant-loop-row : goal.invariant-loop-row
invariant-loop-row g l =
    (map g.R.BlockRow.held (take l.row-index l.rows) ++ part l.zone l.offers ≡ part l.zone l.initial.offers)
    × (drop l.row-index l.rows ≡ drop l.row-index l.initial.rows)
