use borrow.Author.Differences.{ints}
use Rattle.std.proofs.Common.{◌<◌, ◌≤◌, length, arith, rules}
use Rattle.auction.proofs.Totals.{total_more, total_all}
use Rattle.auction.proofs.sums.total_in.Goals as goal

pub loop-offer-preserved : goal.loop-offer-preserved
loop-offer-preserved c =
    let os = c.args.offers.now in
    let i = c.loop-offer.offer-index in
    let h : i < length os = search rules in
    let e = total_more c.args.zone os i h in
    (omega (arith, e, c.matched_in.ensures, c.loop-offer.invariant.0), omega (arith, c.loop-offer.invariant.1))

pub returns : goal.returns
returns c =
    let os = c.args.offers.now in
    let h : length os ≤ c.loop-offer.offer-index = search rules in
    let e = total_all c.args.zone os c.loop-offer.offer-index h in
    omega (arith, ints, e, c.loop-offer.invariant.0, c.loop-offer.invariant.1, c.loop-offer.auto.offer-index-end, c.requires)
