use Rattle.std.proofs.Common.{◌-◌, length}
use Rattle.market.specs.Limits.{lowest_price, highest_price}
use Rattle.auction.specs.Curve.{behind}
use Rattle.auction.proofs.Cursors.{Walked}
use Rattle.auction.proofs.crossing.find_crossing.Given as goal

abbrev pub invariant-loop-sale : goal.invariant-loop-sale
invariant-loop-sale l =
    Walked (behind l.fn.carried.brought lowest_price l.sales) (behind l.fn.carried.taken highest_price l.purchases) l.amount
    l.sale.offers.now l.sale.left l.sale.price l.purchase.offers.now l.purchase.left l.purchase.price l.last_sale l.last_purchase

abbrev pub decreases-loop-sale : goal.decreases-loop-sale
decreases-loop-sale l = length (behind l.fn.carried.brought lowest_price l.sales) - l.amount
