use Rattle.std.proofs.Common.{◌≡◌, ℕ, ◌+◌, ◌≤◌, List, length, take, sym, ap, ◌∙◌, subst, arith}
use Rattle.std.proofs.lemmas.List.{take_all}
use Rattle.auction.specs.declared.offer.Offer.{Offer}
use Rattle.auction.specs.Clearing.{Pool, together, cleared}
use Rattle.auction.specs.Offers.{of_sales, of_purchases, merged}
use Rattle.auction.specs.Ready.{Ready}
use Rattle.auction.specs.Tables.{sale_blocks, purchase_blocks, book}
use Rattle.auction.proofs.Tables.{sales_ready, purchases_ready, pool_same}
use Rattle.auction.proofs.zones.clear_together.Goals as goal

-- a list that fills its places
whole : (os ws : List Offer) (n : ℕ) → length os ≤ n → take n os ≡ ws → os ≡ ws
whole os ws n l e = sym (take_all n os l) ∙ e

pub clear_pool-requires : goal.clear_pool-requires
clear_pool-requires g c =
    let s = whole c.merge.new.offers (merged of_sales (sale_blocks c.args.one.now.sales.now) (sale_blocks c.args.two.now.sales.now)) (length c.args.one.now.sales.now + length c.args.two.now.sales.now) (omega (arith, c.merge.auto.offers, c.requires.places.0)) c.merge.ensures in
    let p = whole c.merge-2.new.offers (merged of_purchases (purchase_blocks c.args.one.now.purchases.now) (purchase_blocks c.args.two.now.purchases.now)) (length c.args.one.now.purchases.now + length c.args.two.now.purchases.now) (omega (arith, c.merge-2.auto.offers, c.requires.places.1)) c.merge-2.ensures in
    record {
      rising = subst (Ready of_sales) (sym s) (sales_ready c.args.one.now.sales.now c.args.two.now.sales.now c.args.one.now.purchases.now c.args.two.now.purchases.now c.requires.one c.requires.two);
      falling = subst (Ready of_purchases) (sym p) (purchases_ready c.args.one.now.sales.now c.args.two.now.sales.now c.args.one.now.purchases.now c.args.two.now.purchases.now c.requires.one c.requires.two);
      room = record { brings = omega arith; takes = omega arith };
    }

pub returns : goal.returns
returns g c =
    let s = whole c.merge.new.offers (merged of_sales (sale_blocks c.args.one.now.sales.now) (sale_blocks c.args.two.now.sales.now)) (length c.args.one.now.sales.now + length c.args.two.now.sales.now) (omega (arith, c.merge.auto.offers, c.requires.places.0)) c.merge.ensures in
    let p = whole c.merge-2.new.offers (merged of_purchases (purchase_blocks c.args.one.now.purchases.now) (purchase_blocks c.args.two.now.purchases.now)) (length c.args.one.now.purchases.now + length c.args.two.now.purchases.now) (omega (arith, c.merge-2.auto.offers, c.requires.places.1)) c.merge-2.ensures in
    let x : ◌≡◌ {A = Pool} (record { sales = c.merge.new.offers; purchases = c.merge-2.new.offers; brought = 0; taken = 0 }) (together (book c.args.one.now.sales.now c.args.one.now.purchases.now) (book c.args.two.now.sales.now c.args.two.now.purchases.now)) = pool_same _ _ _ _ 0 0 s p in
    record {
      sold = c.clear_pool.ensures.sold ∙ ap (λ (y : Pool). (cleared (g.S.SharingRule.meaning c.args.rule.now) y).sales) x;
      bought = c.clear_pool.ensures.bought ∙ ap (λ (y : Pool). (cleared (g.S.SharingRule.meaning c.args.rule.now) y).purchases) x;
      bracket = c.clear_pool.ensures.bracket;
    }
