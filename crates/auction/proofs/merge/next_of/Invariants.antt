use Rattle.std.proofs.Common.{◌≡◌, length}
use Rattle.auction.specs.Offers.{part}
use Rattle.auction.proofs.merge.next_of.Given as goal

-- no offer of the zone was passed
abbrev pub invariant-loop-first : goal.invariant-loop-first
invariant-loop-first l = part l.zone l.offers ≡ part l.zone l.initial.offers

abbrev pub decreases-loop-first : goal.decreases-loop-first
decreases-loop-first l = length l.offers
