use borrow.Author.Differences.{ints}
use Rattle.std.proofs.Common.{◌≡◌, ℕ, ◌-◌, ◌<◌, ◌≤◌, min, ◌≤ℤ◌, ◌<ℤ◌, ap, ◌∙◌, arith, w32, SFits, rules}
use Rattle.std.proofs.lemmas.Int.{to_z-of_z}
use Rattle.market.specs.Limits.{lowest_price, highest_price}
use Rattle.auction.specs.declared.crossing.Cursor.{Cursor}
use Rattle.auction.specs.Curve.{behind}
use Rattle.auction.proofs.Cursors.{walk_more, walk_ends, left_over, behind_short, behind_lowest, behind_highest, stops_apart, stops_sold, stops_bought}
use Rattle.auction.proofs.crossing.find_crossing.Goals as goal

-- the least of two volumes above zero
step_is : (s a b : ℕ) → s ≡ min a b → 0 < a → 0 < b → (1 ≤ s) × (s ≤ a) × (s ≤ b)
step_is s a b e h k = (omega arith, omega arith, omega arith)

pub overflow_add-amount : goal.overflow_add-amount
overflow_add-amount c =
    let l = left_over (behind c.args.carried.brought lowest_price c.args.sales.now) c.loop-sale.amount c.loop-sale.sale.left c.loop-sale.sale.price c.loop-sale.sale.offers.now c.loop-sale.invariant.sale_stands in
    let s = behind_short c.args.carried.brought lowest_price c.args.sales.now c.args.carried.within.0 c.requires.rising.volumes c.requires.rising.few in
    let i = step_is c.min-step.result c.loop-sale.sale.left c.loop-sale.purchase.left c.min-step.ensures c.loop-sale-test.true c.if-purchase-gt0.true in
    omega (arith, l, s, i)

pub loop-sale-smaller : goal.loop-sale-smaller
loop-sale-smaller c =
    let l = left_over (behind c.args.carried.brought lowest_price c.args.sales.now) c.loop-sale.amount c.loop-sale.sale.left c.loop-sale.sale.price c.loop-sale.sale.offers.now c.loop-sale.invariant.sale_stands in
    let i = step_is c.min-step.result c.loop-sale.sale.left c.loop-sale.purchase.left c.min-step.ensures c.loop-sale-test.true c.if-purchase-gt0.true in
    omega (arith, l, i)

pub loop-sale-preserved : goal.loop-sale-preserved
loop-sale-preserved c =
    let x = c.loop-sale.sale in
    let y = c.loop-sale.purchase in
    let s = c.min-step.result in
    let f : SFits w32 x.price = search rules in
    let g : SFits w32 y.price = search rules in
    let i = step_is s x.left y.left c.min-step.ensures c.loop-sale-test.true c.if-purchase-gt0.true in
    let le : x.price ≤ℤ y.price = omega (arith, ints, c.if-sale-purchase.true) in
    let a = c.filled-sale-in-loop-sale in
    let b = c.filled-purchase-in-loop-sale in
    let e : behind a.result.left a.result.price a.result.offers.now ≡ behind (x.left - s) x.price x.offers.now =
    a.ensures.same ∙ ap (λ (r : Cursor). behind r.left r.price r.offers.now) c.passed.ensures in
    let e' : behind b.result.left b.result.price b.result.offers.now ≡ behind (y.left - s) y.price y.offers.now =
    b.ensures.same ∙ ap (λ (r : Cursor). behind r.left r.price r.offers.now) c.passed-in-loop-sale.ensures in
    rw (to_z-of_z w32 x.price f, to_z-of_z w32 y.price g)
    (walk_more _ _ c.loop-sale.amount x.offers.now x.left x.price y.offers.now y.left y.price _ _ c.loop-sale.invariant
    s i.0 i.1 i.2 le
    a.result.offers.now a.result.left a.result.price a.ensures.bids e a.ensures.ended
    b.result.offers.now b.result.left b.result.price b.ensures.bids e' b.ensures.ended)

pub returns-else-sale-purchase : goal.returns-else-sale-purchase
returns-else-sale-purchase c =
    let x = c.loop-sale.sale in
    let y = c.loop-sale.purchase in
    let f : SFits w32 x.price = search rules in
    let g : SFits w32 y.price = search rules in
    let gt : y.price <ℤ x.price = omega (arith, ints, c.if-sale-purchase.false) in
    walk_ends c.args.carried.brought lowest_price c.args.sales.now c.args.carried.taken highest_price c.args.purchases.now c.loop-sale.amount x.offers.now x.left x.price y.offers.now y.left y.price _ _ c.loop-sale.invariant
    (behind_lowest c.args.carried.brought c.args.sales.now c.requires.rising) (behind_highest c.args.carried.taken c.args.purchases.now c.requires.falling)
    (stops_apart (behind c.args.carried.brought lowest_price c.args.sales.now) (behind c.args.carried.taken highest_price c.args.purchases.now) c.loop-sale.amount x.left y.left x.price y.price x.offers.now y.offers.now c.loop-sale.invariant.sale_stands c.loop-sale.invariant.purchase_stands
    c.loop-sale-test.true c.if-purchase-gt0.true gt)

pub returns-else-purchase-gt0 : goal.returns-else-purchase-gt0
returns-else-purchase-gt0 c =
    let x = c.loop-sale.sale in
    let y = c.loop-sale.purchase in
    let z : y.left ≡ 0 = omega (arith, c.if-purchase-gt0.false) in
    walk_ends c.args.carried.brought lowest_price c.args.sales.now c.args.carried.taken highest_price c.args.purchases.now c.loop-sale.amount x.offers.now x.left x.price y.offers.now y.left y.price _ _ c.loop-sale.invariant
    (behind_lowest c.args.carried.brought c.args.sales.now c.requires.rising) (behind_highest c.args.carried.taken c.args.purchases.now c.requires.falling)
    (stops_bought (behind c.args.carried.brought lowest_price c.args.sales.now) (behind c.args.carried.taken highest_price c.args.purchases.now) c.loop-sale.amount x.left y.left x.price y.price x.offers.now y.offers.now c.loop-sale.invariant.sale_stands c.loop-sale.invariant.purchase_stands
    z (c.loop-sale.invariant.purchase_ended z))

pub returns-after-loop-sale : goal.returns-after-loop-sale
returns-after-loop-sale c =
    let x = c.loop-sale.sale in
    let y = c.loop-sale.purchase in
    let z : x.left ≡ 0 = omega (arith, c.loop-sale-test.false) in
    walk_ends c.args.carried.brought lowest_price c.args.sales.now c.args.carried.taken highest_price c.args.purchases.now c.loop-sale.amount x.offers.now x.left x.price y.offers.now y.left y.price _ _ c.loop-sale.invariant
    (behind_lowest c.args.carried.brought c.args.sales.now c.requires.rising) (behind_highest c.args.carried.taken c.args.purchases.now c.requires.falling)
    (stops_sold (behind c.args.carried.brought lowest_price c.args.sales.now) (behind c.args.carried.taken highest_price c.args.purchases.now) c.loop-sale.amount x.left y.left x.price y.price x.offers.now y.offers.now c.loop-sale.invariant.sale_stands c.loop-sale.invariant.purchase_stands
    z (c.loop-sale.invariant.sale_ended z))
