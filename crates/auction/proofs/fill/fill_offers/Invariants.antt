use Rattle.std.proofs.Common.{◌≡◌, ◌+◌, ◌≤◌, ◌++◌, take, drop}
use Rattle.auction.specs.Curve.{fill, tie}
use Rattle.auction.specs.Offers.{rank_of}
use Rattle.auction.proofs.fill.fill_offers.Given as goal

-- what is done, and what is left to do, make up the whole
abbrev pub invariant-loop-offer : goal.invariant-loop-offer
invariant-loop-offer g l =
    (take l.offer-index l.offers ++ fill (g.S.SharingRule.meaning l.rule) (rank_of l.side) (rank_of l.side l.marginal) l.shared.amount l.shared.tied l.passed (drop l.offer-index l.offers)
    ≡ fill (g.S.SharingRule.meaning l.rule) (rank_of l.side) (rank_of l.side l.marginal) l.shared.amount l.shared.tied 0 l.initial.offers)
    × (l.passed + tie (rank_of l.side) (rank_of l.side l.marginal) (drop l.offer-index l.offers) ≤ l.shared.tied)
