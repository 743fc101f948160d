use Rattle.std.proofs.Common.{◌≡◌, ◌≤◌, ◌∙◌, arith, w32, to_z, of_z}
use Rattle.std.proofs.lemmas.Int.{to_z-of_z}
use Rattle.auction.specs.Offers.{rank_of}
use Rattle.auction.proofs.Filling.{counted_out, filled_is}
use Rattle.auction.proofs.fill.match_offers.Goals as goal

pub overflow_add-shared : goal.overflow_add-shared
overflow_add-shared g c =
    let h : 1 ≤ c.args.amount = omega (arith, c.if-amount-eq0.false) in
    let o = counted_out (rank_of c.args.side) c.args.first c.args.limit c.args.amount c.args.offers.now c.standing-ahead.result.0 c.standing-ahead.result.1 (to_z w32 (of_z w32 c.args.marginal)) c.args.marginal (to_z-of_z w32 c.args.marginal c.ranges.marginal) c.standing-ahead.ensures.ahead c.standing-ahead.ensures.tied h (c.requires.last h) (c.requires.sorted, c.requires.side.sorted) c.requires.reached c.requires.placed in
    omega (arith, o)

pub overflow_sub-shared : goal.overflow_sub-shared
overflow_sub-shared g c =
    let h : 1 ≤ c.args.amount = omega (arith, c.if-amount-eq0.false) in
    (counted_out (rank_of c.args.side) c.args.first c.args.limit c.args.amount c.args.offers.now c.standing-ahead.result.0 c.standing-ahead.result.1 (to_z w32 (of_z w32 c.args.marginal)) c.args.marginal (to_z-of_z w32 c.args.marginal c.ranges.marginal) c.standing-ahead.ensures.ahead c.standing-ahead.ensures.tied h (c.requires.last h) (c.requires.sorted, c.requires.side.sorted) c.requires.reached c.requires.placed).0

pub invariant_of-shared : goal.invariant_of-shared
invariant_of-shared g c =
    let h : 1 ≤ c.args.amount = omega (arith, c.if-amount-eq0.false) in
    record { enough = (counted_out (rank_of c.args.side) c.args.first c.args.limit c.args.amount c.args.offers.now c.standing-ahead.result.0 c.standing-ahead.result.1 (to_z w32 (of_z w32 c.args.marginal)) c.args.marginal (to_z-of_z w32 c.args.marginal c.ranges.marginal) c.standing-ahead.ensures.ahead c.standing-ahead.ensures.tied h (c.requires.last h) (c.requires.sorted, c.requires.side.sorted) c.requires.reached c.requires.placed).1 }

pub returns-then-amount-eq0 : goal.returns-then-amount-eq0
returns-then-amount-eq0 g c =
    let e : c.args.amount ≡ 0 = omega (arith, c.if-amount-eq0.true) in
    rw e c.clear_offers.ensures

pub returns : goal.returns
returns g c =
    let h : 1 ≤ c.args.amount = omega (arith, c.if-amount-eq0.false) in
    c.fill_offers.ensures ∙ filled_is (rank_of c.args.side) c.args.first c.args.limit c.args.amount c.args.offers.now c.standing-ahead.result.0 c.standing-ahead.result.1 (to_z w32 (of_z w32 c.args.marginal)) c.args.marginal (to_z-of_z w32 c.args.marginal c.ranges.marginal) c.standing-ahead.ensures.ahead c.standing-ahead.ensures.tied h (c.requires.last h) (g.S.SharingRule.meaning c.args.rule.now)
