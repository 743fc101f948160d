use Rattle.std.proofs.Common.{ℕ}
use Rattle.market.specs.declared.zone.Zone.TheVariants.{One, Two}
use Rattle.auction.specs.Clearing.{together}
use Rattle.auction.specs.Offers.{of_sales, of_purchases}
use Rattle.auction.specs.Tables.{book_of_places}
use Rattle.auction.proofs.Merging.{part_one, part_two}
use Rattle.auction.proofs.Steps.{zone_fits, zone_written}
use Rattle.auction.proofs.engine.Engine.clear_common.Goals as goal

pub write_zone-requires : goal.write_zone-requires
write_zone-requires g c =
    let m : ℕ → ℕ → ℕ → ℕ = g.S.SharingRule.meaning c.args.self.now.sharing_rule in
    let b₁ = book_of_places c.args.one.now in
    let b₂ = book_of_places c.args.two.now in
    zone_fits m c.args.one.now.sales.now c.args.one.now.purchases.now One (together b₁ b₂) (part_one of_sales b₁.sales b₂.sales) (part_one of_purchases b₁.purchases b₂.purchases) c.clear_together-low.new.sold c.clear_together-low.new.bought c.clear_together-low.ensures.sold c.clear_together-low.ensures.bought

pub write_zone-requires-in-Enough : goal.write_zone-requires-in-Enough
write_zone-requires-in-Enough g c =
    let m : ℕ → ℕ → ℕ → ℕ = g.S.SharingRule.meaning c.args.self.now.sharing_rule in
    let b₁ = book_of_places c.args.one.now in
    let b₂ = book_of_places c.args.two.now in
    zone_fits m c.args.two.now.sales.now c.args.two.now.purchases.now Two (together b₁ b₂) (part_two of_sales b₁.sales b₂.sales) (part_two of_purchases b₁.purchases b₂.purchases) c.clear_together-low.new.sold c.clear_together-low.new.bought c.clear_together-low.ensures.sold c.clear_together-low.ensures.bought

pub returns-in-Enough-clause-one : goal.returns-in-Enough-clause-one
returns-in-Enough-clause-one g c = λ _.
    let m : ℕ → ℕ → ℕ → ℕ = g.S.SharingRule.meaning c.args.self.now.sharing_rule in
    let b₁ = book_of_places c.args.one.now in
    let b₂ = book_of_places c.args.two.now in
    zone_written m c.args.one.now.sales.now c.args.one.now.purchases.now One (together b₁ b₂) (part_one of_sales b₁.sales b₂.sales) (part_one of_purchases b₁.purchases b₂.purchases) c.clear_together-low.new.sold c.clear_together-low.new.bought c.clear_together-low.ensures.sold c.clear_together-low.ensures.bought
    c.write_zone.new.places.sales.now c.write_zone.new.places.purchases.now c.write_zone.ensures.sales c.write_zone.ensures.purchases

pub returns-in-Enough-clause-two : goal.returns-in-Enough-clause-two
returns-in-Enough-clause-two g c = λ _.
    let m : ℕ → ℕ → ℕ → ℕ = g.S.SharingRule.meaning c.args.self.now.sharing_rule in
    let b₁ = book_of_places c.args.one.now in
    let b₂ = book_of_places c.args.two.now in
    zone_written m c.args.two.now.sales.now c.args.two.now.purchases.now Two (together b₁ b₂) (part_two of_sales b₁.sales b₂.sales) (part_two of_purchases b₁.purchases b₂.purchases) c.clear_together-low.new.sold c.clear_together-low.new.bought c.clear_together-low.ensures.sold c.clear_together-low.ensures.bought
    c.write_zone-in-Enough.new.places.sales.now c.write_zone-in-Enough.new.places.purchases.now c.write_zone-in-Enough.ensures.sales c.write_zone-in-Enough.ensures.purchases
