use Rattle.std.proofs.Common.{◌≡◌, ◌++◌, take, drop}
use Rattle.auction.specs.Curve.{nothing}
use Rattle.auction.proofs.fill.clear_offers.Given as goal

-- what is done, and what is left to do, make up the whole
abbrev pub invariant-loop-offer : goal.invariant-loop-offer
invariant-loop-offer l = take l.offer-index l.offers ++ nothing (drop l.offer-index l.offers) ≡ nothing l.initial.offers
