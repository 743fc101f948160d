use Rattle.std.proofs.Common.{sym, ◌∙◌, w32}
use Rattle.std.proofs.lemmas.Int.{to_z-of_z}
use Rattle.auction.specs.Curve.{place}
use Rattle.auction.proofs.Sides.{place_turned}
use Rattle.auction.proofs.side.place_of.Goals as goal

pub returns-in-Sale : goal.returns-in-Sale
unfolding place
returns-in-Sale c = let e = rw (to_z-of_z w32 c.args.price c.ranges.price, to_z-of_z w32 c.args.marginal c.ranges.marginal) at c.cmp.ensures in rw c.in-Sale.is e

pub returns-in-Purchase : goal.returns-in-Purchase
unfolding place
returns-in-Purchase c =
    let e = rw (to_z-of_z w32 c.args.price c.ranges.price, to_z-of_z w32 c.args.marginal c.ranges.marginal) at c.cmp-in-Purchase.ensures in
    rw c.in-Purchase.is (e ∙ sym (place_turned c.args.marginal c.args.price))
