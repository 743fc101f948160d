use Rattle.std.proofs.Common.{◌≡◌, [], arith}
use Rattle.std.proofs.lemmas.List.{set-get_or}
use Rattle.auction.specs.Offers.{part}
use Rattle.auction.proofs.Weaving.{written_first}
use Rattle.auction.proofs.merge.write_back.Goals as goal

pub returns-in_default : goal.returns-in_default
returns-in_default g c =
    let z : part c.args.zone c.loop-row.offers.now ≡ [] = c.in_default.ensures in
    rw (set-get_or c.loop-row.rows c.loop-row.row-index c.row-item.result)
    (written_first g.R.BlockRow.held c.args.rows.now c.loop-row.rows c.loop-row.row-index _ _ c.loop-row.invariant.0 z c.loop-row.invariant.1 (omega arith))
