use Rattle.std.proofs.Common.{◌≡◌, ◌+◌, ◌*◌, ◌≤◌, drop}
use Rattle.auction.specs.Curve.{ahead, tie}
use Rattle.auction.specs.Offers.{rank_of}
use Rattle.auction.proofs.fill.standing.Given as goal

-- what is left makes up the sums
abbrev pub invariant-loop-offer : goal.invariant-loop-offer
invariant-loop-offer l =
    (l.ahead + ahead (rank_of l.side) (rank_of l.side l.marginal) (drop l.offer-index l.offers) ≡ ahead (rank_of l.side) (rank_of l.side l.marginal) l.offers)
    × (l.tied + tie (rank_of l.side) (rank_of l.side l.marginal) (drop l.offer-index l.offers) ≡ tie (rank_of l.side) (rank_of l.side l.marginal) l.offers)
    × (l.ahead ≤ 100000 * l.offer-index) × (l.tied ≤ 100000 * l.offer-index)
