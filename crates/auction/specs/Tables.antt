-- The block tables that are cleared, as lists of their counted rows. To believe: that they are sound as their checks leave them, and no
-- longer than a table may be.
use Rattle.std.specs.Prelude.{◌≤◌, List, map, length}
use Rattle.std.specs.List.{AllByRecursion}
use Rattle.table.specs.Rows.{Sound}
use Rattle.market.specs.declared.block.Block.{Block}
use Rattle.market.specs.declared.places.ZonePlaces.{ZonePlaces}
use Rattle.market.specs.declared.purchase.Purchase.{Purchase}
use Rattle.market.specs.declared.sale.Sale.{Sale}
use Rattle.market.specs.Limits.{BlockWithinLimits, PriceWithinLimits}
use Rattle.market.specs.Precedence.{sale_order, purchase_order}
use Rattle.auction.specs.Books.{Book}

abbrev pub sale_blocks : List Sale → List Block
sale_blocks xs = map (λ x. x.block) xs

abbrev pub purchase_blocks : List Purchase → List Block
purchase_blocks xs = map (λ x. x.block) xs

abbrev pub book : List Sale → List Purchase → Book
book ss ps = record { sales = sale_blocks ss; purchases = purchase_blocks ps }

-- the blocks in the places of one zone
abbrev pub book_of_places : ZonePlaces → Book
book_of_places z = book z.sales.now z.purchases.now

-- the tables of one zone
pub record TablesSound (ss : List Sale) (ps : List Purchase) : Type 0 where
  pub sales : Sound sale_order (λ s. BlockWithinLimits s.block) ss
  pub purchases : Sound purchase_order (λ p. BlockWithinLimits p.block) ps
  pub few_sales : length ss ≤ 256
  pub few_purchases : length ps ≤ 256

-- no price outside its limits, and no more matched than a block may bid for
abbrev pub WorthWithinLimits : List Block → Type 0
WorthWithinLimits bs = AllByRecursion (λ b. PriceWithinLimits b.bid.price × (b.matched ≤ 100000)) bs

-- and so of the tables of one zone, which are no longer than they may be
pub record TablesWorth (ss : List Sale) (ps : List Purchase) : Type 0 where
  pub sales : WorthWithinLimits (sale_blocks ss)
  pub purchases : WorthWithinLimits (purchase_blocks ps)
  pub few_sales : length ss ≤ 256
  pub few_purchases : length ps ≤ 256
