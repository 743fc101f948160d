use Rattle.auction.specs.Best.{Prices}
use Rattle.auction.specs.Tables.{book}
use Rattle.rules.specs.Shares.{Shares}
use Rattle.auction.proofs.Best.{clearing_is_best}
use Rattle.auction.proofs.Tables.{book_sound, tables_worth}
use Rattle.auction.proofs.engine.Engine.clear.Goals as goal

pub surplus_of-requires : goal.surplus_of-requires
surplus_of-requires g c =
    let shares : Shares (g.S.SharingRule.meaning c.args.self.now.sharing_rule) = g.met.S.SharingRule.lawful c.args.self.now.sharing_rule in
    let prices : Prices (g.P.PriceRule.meaning c.args.self.now.price_rule) = g.met.P.PriceRule.within c.args.self.now.price_rule in
    let w = clearing_is_best _ _ shares prices c.args.capacities.forward c.args.capacities.backward (book c.args.sales_one.now c.args.purchases_one.now) (book c.args.sales_two.now c.args.purchases_two.now) (book_sound _ _ c.requires.one) (book_sound _ _ c.requires.two) in
    let t = c.clear_tables-price_one in
    record {
      one = tables_worth _ _ t.new.one.sales.now t.new.one.purchases.now _ c.requires.one t.ensures.clears.zone₁ w.same₁ w.feasible.within₁;
      two = tables_worth _ _ t.new.two.sales.now t.new.two.purchases.now _ c.requires.two t.ensures.clears.zone₂ w.same₂ w.feasible.within₂;
    }

pub returns-clause-well : goal.returns-clause-well
returns-clause-well g c =
    let shares : Shares (g.S.SharingRule.meaning c.args.self.now.sharing_rule) = g.met.S.SharingRule.lawful c.args.self.now.sharing_rule in
    let prices : Prices (g.P.PriceRule.meaning c.args.self.now.price_rule) = g.met.P.PriceRule.within c.args.self.now.price_rule in
    clearing_is_best _ _ shares prices c.args.capacities.forward c.args.capacities.backward _ _ (book_sound _ _ c.requires.one) (book_sound _ _ c.requires.two)
