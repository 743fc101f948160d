use Rattle.std.proofs.Common.{◌≡◌, ◌+◌, ◌*◌, ◌≤◌, drop}
use Rattle.auction.specs.Books.{total}
use Rattle.auction.specs.Offers.{part}
use Rattle.auction.proofs.sums.total_in.Given as goal

-- what is left makes up the total
abbrev pub invariant-loop-offer : goal.invariant-loop-offer
invariant-loop-offer l = (l.sum + total (part l.zone (drop l.offer-index l.offers)) ≡ total (part l.zone l.offers)) × (l.sum ≤ l.offer-index * 4294967296)
