use Rattle.std.proofs.Common.{◌≡◌, ℕ, ap, ◌∙◌, arith, w32, SFits, rules}
use Rattle.std.proofs.lemmas.Int.{to_z-of_z}
use Rattle.market.specs.Limits.{lowest_price, highest_price}
use Rattle.auction.specs.Clearing.{cleared}
use Rattle.auction.specs.Curve.{behind, amount, match_side}
use Rattle.auction.specs.Offers.{of_sales, of_purchases}
use Rattle.auction.proofs.Cursors.{behind_lowest, behind_highest}
use Rattle.auction.proofs.Found.{amount_found}
use Rattle.auction.proofs.Supporting.{amount_bounds}
use Rattle.auction.proofs.pool.clear_pool.Goals as goal

pub match_offers-requires : goal.match_offers-requires
match_offers-requires g c =
    let s = behind c.args.carried.brought lowest_price c.args.sales.now in
    let d = behind c.args.carried.taken highest_price c.args.purchases.now in
    let e : c.find_crossing-crossing.result.amount ≡ amount s d = c.find_crossing-crossing.ensures.found in
    let b = amount_bounds s d (amount s d) (amount_found s d) in
    let f : SFits w32 c.find_crossing-crossing.result.sale = search rules in
    record {
      side = c.requires.rising;
      sorted = (behind_lowest c.args.carried.brought c.args.sales.now c.requires.rising).0;
      placed = omega (arith, e, c.requires.room.brings);
      reached = omega (arith, e, b);
      last = λ h. to_z-of_z w32 c.find_crossing-crossing.result.sale f ∙ c.find_crossing-crossing.ensures.sale h;
    }

pub match_offers-requires-2 : goal.match_offers-requires-2
match_offers-requires-2 g c =
    let s = behind c.args.carried.brought lowest_price c.args.sales.now in
    let d = behind c.args.carried.taken highest_price c.args.purchases.now in
    let e : c.find_crossing-crossing.result.amount ≡ amount s d = c.find_crossing-crossing.ensures.found in
    let b = amount_bounds s d (amount s d) (amount_found s d) in
    let f : SFits w32 c.find_crossing-crossing.result.purchase = search rules in
    record {
      side = search rules;
      sorted = (behind_highest c.args.carried.taken c.args.purchases.now c.requires.falling).0;
      placed = omega (arith, e, c.requires.room.takes);
      reached = omega (arith, e, b);
      last = λ h. to_z-of_z w32 c.find_crossing-crossing.result.purchase f ∙ c.find_crossing-crossing.ensures.purchase h;
    }

pub returns : goal.returns
unfolding cleared
returns g c =
    let m = g.S.SharingRule.meaning c.args.rule.now in
    record {
      sold = c.match_offers.ensures ∙ ap (λ (q : ℕ). match_side m of_sales c.args.carried.brought lowest_price q c.args.sales.now) c.find_crossing-crossing.ensures.found;
      bought = c.match_offers-2.ensures ∙ ap (λ (q : ℕ). match_side m of_purchases c.args.carried.taken highest_price q c.args.purchases.now) c.find_crossing-crossing.ensures.found;
      bracket = c.bracket_of.ensures;
    }
