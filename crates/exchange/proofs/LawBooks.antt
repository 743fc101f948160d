-- Sound standing blocks are sound books, so that what the definitions make of them is cleared well.
use Rattle.std.proofs.Common.{◌≡◌, ℕ, true, List, [], ◌∷◌, map, ℤ, ◌≤ℤ◌, refl, ap, ◌∙◌}
use Rattle.std.proofs.ByRecursion.{All-map, All-weaker}
use Rattle.market.specs.declared.block.Block.{Block}
use Rattle.market.specs.declared.purchase.Purchase.{Purchase}
use Rattle.market.specs.declared.sale.Sale.{Sale}
use Rattle.market.specs.declared.zone.Zone.{Zone}
use Rattle.market.specs.declared.zone.Zone.TheVariants.{One, Two}
use Rattle.rules.specs.Shares.{Shares}
use Rattle.table.specs.Rows.{Pairwise}
use Rattle.auction.specs.Best.{BookSound, ClearedWell, InOrder, Prices}
use Rattle.auction.specs.Offers.{comes_first, of_purchases, of_sales}
use Rattle.auction.proofs.Merging.{first_ranked}
use Rattle.auction.specs.Books.{Book}
use Rattle.auction.proofs.Best.{clearing_is_best}
use Rattle.auction.proofs.Tables.{purchase_prices, sale_prices}
use Rattle.exchange.specs.After.{ZoneHolding, ZoneStanding}
use Rattle.auction.specs.Tables.{purchase_blocks, sale_blocks}
use Rattle.exchange.specs.History.{History, begun, outcome, standing_book, standing_purchases, standing_sales}
use Rattle.session.specs.Tables.{ZoneTables, as_purchases, as_sales, rows_of}

-- rows in the order of precedence have their blocks in the order of their ranks
blocks_in_order : {X : Type 0} (block : X → Block) (rank : ℤ → ℤ) (xs : List X) → Pairwise (λ x y. comes_first rank (block x) (block y) ≡ true) xs → InOrder rank (map block xs)
blocks_in_order block rank [] h = tt
blocks_in_order block rank (x ∷ xs) (h, hs) =
    (All-map (λ c. rank (block x).bid.price ≤ℤ rank c.bid.price) block xs (All-weaker (λ y. comes_first rank (block x) (block y) ≡ true) (λ y. rank (block x).bid.price ≤ℤ rank (block y).bid.price) (λ y e. first_ranked rank (block x) (block y) e) xs h), blocks_in_order block rank xs hs)

pub standing_sound : (z : Zone) (h : History) → ZoneStanding z h → BookSound (standing_book z h)
unfolding comes_first
standing_sound z h s = record {
  sales_rise = blocks_in_order (λ (x : Sale). x.block) of_sales (standing_sales z h) s.sales.rising;
  purchases_fall = blocks_in_order (λ (x : Purchase). x.block) of_purchases (standing_purchases z h) s.purchases.rising;
  sales_limited = sale_prices (standing_sales z h) s.sales.within;
  purchases_limited = purchase_prices (standing_purchases z h) s.purchases.within;
}

pub outcome_well : (g : ℕ → ℕ → ℕ → ℕ) (f : ℤ → ℤ → ℤ) → Shares g → Prices f → (h : History) → ZoneStanding One h → ZoneStanding Two h →
    ClearedWell (begun h).there (begun h).back (standing_book One h) (standing_book Two h) (outcome g f h)
outcome_well g f shares prices h one two =
    clearing_is_best g f shares prices (begun h).there (begun h).back (standing_book One h) (standing_book Two h) (standing_sound One h one) (standing_sound Two h two)

-- rows of blocks have those blocks
pub blocks_as_sales : (bs : List Block) → sale_blocks (as_sales bs) ≡ bs
blocks_as_sales [] = refl
blocks_as_sales (b ∷ bs) = ap (λ cs. b ∷ cs) (blocks_as_sales bs)

pub blocks_as_purchases : (bs : List Block) → purchase_blocks (as_purchases bs) ≡ bs
blocks_as_purchases [] = refl
blocks_as_purchases (b ∷ bs) = ap (λ cs. b ∷ cs) (blocks_as_purchases bs)

-- tables that hold the standing blocks of a zone hold its book
pub held_standing : (z : Zone) (h : History) (t : ZoneTables) → ZoneHolding t (standing_sales z h) (standing_purchases z h) →
    ◌≡◌ {A = Book} (record { sales = sale_blocks (rows_of t.sales); purchases = purchase_blocks (rows_of t.purchases) }) (standing_book z h)
held_standing z h t k =
    ap (λ (ss : List Sale). record { sales = sale_blocks ss; purchases = purchase_blocks (rows_of t.purchases) }) k.sales.rows
    ∙ ap (λ (ps : List Purchase). record { sales = sale_blocks (standing_sales z h); purchases = purchase_blocks ps }) k.purchases.rows
