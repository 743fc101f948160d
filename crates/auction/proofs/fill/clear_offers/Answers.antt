use Rattle.std.proofs.Common.{◌<◌, ◌≤◌, length, sym, ◌∙◌, rules}
use Rattle.std.proofs.lemmas.List.{append-nil, take_all, drop_all}
use Rattle.auction.specs.Curve.{nothing}
use Rattle.auction.proofs.Filling.{cleared_more}
use Rattle.auction.proofs.fill.clear_offers.Goals as goal

pub loop-offer-preserved : goal.loop-offer-preserved
loop-offer-preserved c =
    let h : c.loop-offer.offer-index < length c.loop-offer.offers = search rules in
    cleared_more c.loop-offer.offer-index c.loop-offer.offers (nothing c.args.offers.now) h c.loop-offer.invariant

pub returns : goal.returns
returns c =
    let h : length c.loop-offer.offers ≤ c.loop-offer.offer-index = search rules in
    let k = rw (take_all c.loop-offer.offer-index c.loop-offer.offers h, drop_all c.loop-offer.offer-index c.loop-offer.offers h) at c.loop-offer.invariant in
    sym (append-nil c.loop-offer.offers) ∙ k
