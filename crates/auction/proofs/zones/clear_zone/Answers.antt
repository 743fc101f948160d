use Rattle.std.proofs.Common.{◌≡◌, ℕ, sym, ap, ◌∙◌, subst}
use Rattle.auction.specs.Clearing.{Pool, Room, zone_pool, cleared}
use Rattle.auction.specs.Offers.{of_sales, of_purchases}
use Rattle.auction.specs.Ready.{Ready}
use Rattle.auction.specs.Tables.{book}
use Rattle.auction.proofs.Tables.{sales_alone, purchases_alone, pool_same}
use Rattle.auction.proofs.zones.clear_zone.Goals as goal

pub clear_pool-requires : goal.clear_pool-requires
clear_pool-requires g c =
    let x : ◌≡◌ {A = Pool} (record { sales = c.load.new.offers; purchases = c.load-2.new.offers; brought = c.args.carried.brought; taken = c.args.carried.taken }) (zone_pool c.args.zone (book c.args.places.now.sales.now c.args.places.now.purchases.now) c.args.carried.brought c.args.carried.taken) = pool_same _ _ _ _ c.args.carried.brought c.args.carried.taken c.load.ensures c.load-2.ensures in
    record {
      rising = subst (Ready of_sales) (sym c.load.ensures) (sales_alone c.args.zone c.args.places.now.sales.now c.args.places.now.purchases.now c.requires.tables);
      falling = subst (Ready of_purchases) (sym c.load-2.ensures) (purchases_alone c.args.zone c.args.places.now.sales.now c.args.places.now.purchases.now c.requires.tables);
      room = subst Room (sym x) c.requires.room;
    }

pub returns : goal.returns
returns g c =
    let m : ℕ → ℕ → ℕ → ℕ = g.S.SharingRule.meaning c.args.rule.now in
    let x : ◌≡◌ {A = Pool} (record { sales = c.load.new.offers; purchases = c.load-2.new.offers; brought = c.args.carried.brought; taken = c.args.carried.taken }) (zone_pool c.args.zone (book c.args.places.now.sales.now c.args.places.now.purchases.now) c.args.carried.brought c.args.carried.taken) = pool_same _ _ _ _ c.args.carried.brought c.args.carried.taken c.load.ensures c.load-2.ensures in
    record {
      sold = c.clear_pool.ensures.sold ∙ ap (λ (z : Pool). (cleared m z).sales) x;
      bought = c.clear_pool.ensures.bought ∙ ap (λ (z : Pool). (cleared m z).purchases) x;
      bracket = c.clear_pool.ensures.bracket;
    }
