use Rattle.auction.specs.Clearing.{zone_pool}
use Rattle.auction.specs.Tables.{book_of_places}
use Rattle.auction.proofs.Merging.{part_alone}
use Rattle.auction.proofs.Steps.{zone_fits, zone_written}
use Rattle.auction.proofs.engine.Engine.clear_alone.Goals as goal

pub write_zone-requires : goal.write_zone-requires
write_zone-requires g c =
    let b = book_of_places c.args.places.now in
    zone_fits (g.S.SharingRule.meaning c.args.self.now.sharing_rule) _ _ c.args.zone (zone_pool c.args.zone b c.args.carried.brought c.args.carried.taken) (part_alone c.args.zone b.sales) (part_alone c.args.zone b.purchases) _ _ c.clear_zone-low.ensures.sold c.clear_zone-low.ensures.bought

pub returns-clause-tables : goal.returns-clause-tables
returns-clause-tables g c =
    let b = book_of_places c.args.places.now in
    zone_written (g.S.SharingRule.meaning c.args.self.now.sharing_rule) c.args.places.now.sales.now c.args.places.now.purchases.now c.args.zone (zone_pool c.args.zone b c.args.carried.brought c.args.carried.taken) (part_alone c.args.zone b.sales) (part_alone c.args.zone b.purchases) _ _ c.clear_zone-low.ensures.sold c.clear_zone-low.ensures.bought
    c.write_zone.new.places.sales.now c.write_zone.new.places.purchases.now c.write_zone.ensures.sales c.write_zone.ensures.purchases
