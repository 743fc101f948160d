-- Sound tables give sides that are ready to clear.
use Rattle.std.proofs.Common.{◌≡◌, ℕ, true, List, [], ◌∷◌, ◌++◌, length, drop, ◌≤ℤ◌, sym, refl, ap, ◌∙◌, arith}
use Rattle.std.specs.List.{AllByRecursion}
use Rattle.std.proofs.ByRecursion.{All-weaker, All-map}
use Rattle.std.proofs.lemmas.List.{length-map, drop_all, append-nil}
use Rattle.table.specs.Rows.{Rising}
use Rattle.market.specs.declared.block.Block.{Block}
use Rattle.market.specs.declared.purchase.Purchase.{Purchase}
use Rattle.market.specs.declared.sale.Sale.{Sale}
use Rattle.market.specs.declared.zone.Zone.{Zone}
use Rattle.market.specs.Limits.{BlockWithinLimits, PriceWithinLimits, VolumeWithinLimits}
use Rattle.market.specs.Precedence.{sale_order, purchase_order}
use Rattle.auction.specs.Offers.{of_sales, of_purchases, comes_first, merged, alone, in_zone, part}
use Rattle.auction.specs.declared.offer.Offer.{Offer}
use Rattle.auction.specs.Books.{Book, BookSame, BookWithin, SameBids, Within}
use Rattle.auction.specs.Best.{InOrder, InLimits, BookSound}
use Rattle.auction.specs.Clearing.{Pool, cleared}
use Rattle.auction.specs.Ready.{Ready}
use Rattle.auction.specs.Tables.{sale_blocks, purchase_blocks, book, TablesSound, TablesWorth, WorthWithinLimits}
use Rattle.auction.proofs.Duality.{same_first, same_rest, same_none, same_some}
use Rattle.auction.proofs.Merging.{first_ranked, all_merged, sorted_merged, all_alone, sorted_alone}
use Rattle.auction.proofs.Pools.{kept_sales, kept_purchases}
use Rattle.auction.proofs.Weaving.{merged_length}

-- the order of the rows is that of the ranks
sales_order : (xs : List Sale) → Rising sale_order xs → InOrder of_sales (sale_blocks xs)
unfolding comes_first
sales_order [] h = tt
sales_order (x ∷ xs) (h, hs) =
    (All-map (λ c. of_sales x.block.bid.price ≤ℤ of_sales c.bid.price) (λ y. y.block) xs (All-weaker (λ y. sale_order.precedes x y ≡ true) (λ y. of_sales x.block.bid.price ≤ℤ of_sales y.block.bid.price) (λ y e. first_ranked of_sales x.block y.block e) xs h), sales_order xs hs)

purchases_order : (xs : List Purchase) → Rising purchase_order xs → InOrder of_purchases (purchase_blocks xs)
unfolding comes_first
purchases_order [] h = tt
purchases_order (x ∷ xs) (h, hs) =
    (All-map (λ c. of_purchases x.block.bid.price ≤ℤ of_purchases c.bid.price) (λ y. y.block) xs (All-weaker (λ y. purchase_order.precedes x y ≡ true) (λ y. of_purchases x.block.bid.price ≤ℤ of_purchases y.block.bid.price) (λ y e. first_ranked of_purchases x.block y.block e) xs h), purchases_order xs hs)

pub sale_prices : (xs : List Sale) → AllByRecursion (λ s. BlockWithinLimits s.block) xs → InLimits (sale_blocks xs)
sale_prices xs h = All-map (λ b. PriceWithinLimits b.bid.price) (λ x. x.block) xs (All-weaker (λ x. BlockWithinLimits x.block) (λ x. PriceWithinLimits x.block.bid.price) (λ x k. k.0.1) xs h)

sale_volumes : (xs : List Sale) → AllByRecursion (λ s. BlockWithinLimits s.block) xs → AllByRecursion (λ b. VolumeWithinLimits b.bid.volume) (sale_blocks xs)
sale_volumes xs h = All-map (λ b. VolumeWithinLimits b.bid.volume) (λ x. x.block) xs (All-weaker (λ x. BlockWithinLimits x.block) (λ x. VolumeWithinLimits x.block.bid.volume) (λ x k. k.0.2) xs h)

pub purchase_prices : (xs : List Purchase) → AllByRecursion (λ s. BlockWithinLimits s.block) xs → InLimits (purchase_blocks xs)
purchase_prices xs h = All-map (λ b. PriceWithinLimits b.bid.price) (λ x. x.block) xs (All-weaker (λ x. BlockWithinLimits x.block) (λ x. PriceWithinLimits x.block.bid.price) (λ x k. k.0.1) xs h)

purchase_volumes : (xs : List Purchase) → AllByRecursion (λ s. BlockWithinLimits s.block) xs → AllByRecursion (λ b. VolumeWithinLimits b.bid.volume) (purchase_blocks xs)
purchase_volumes xs h = All-map (λ b. VolumeWithinLimits b.bid.volume) (λ x. x.block) xs (All-weaker (λ x. BlockWithinLimits x.block) (λ x. VolumeWithinLimits x.block.bid.volume) (λ x k. k.0.2) xs h)

pub book_sound : (ss : List Sale) (ps : List Purchase) → TablesSound ss ps → BookSound (book ss ps)
book_sound ss ps h = record {
  sales_rise = sales_order ss h.sales.rising;
  purchases_fall = purchases_order ps h.purchases.rising;
  sales_limited = sale_prices ss h.sales.within;
  purchases_limited = purchase_prices ps h.purchases.within;
}

pub sales_ready : (xs ys : List Sale) (ps qs : List Purchase) → TablesSound xs ps → TablesSound ys qs → Ready of_sales (merged of_sales (sale_blocks xs) (sale_blocks ys))
sales_ready xs ys ps qs h k = record {
  sorted = sorted_merged of_sales (sale_blocks xs) (sale_blocks ys) (sales_order xs h.sales.rising) (sales_order ys k.sales.rising);
  prices = all_merged of_sales (λ _ b. PriceWithinLimits b.bid.price) (sale_blocks xs) (sale_blocks ys) (sale_prices xs h.sales.within) (sale_prices ys k.sales.within);
  volumes = all_merged of_sales (λ _ b. VolumeWithinLimits b.bid.volume) (sale_blocks xs) (sale_blocks ys) (sale_volumes xs h.sales.within) (sale_volumes ys k.sales.within);
  few = omega (arith, merged_length of_sales (sale_blocks xs) (sale_blocks ys), length-map xs (λ x. x.block), length-map ys (λ x. x.block), h.few_sales, k.few_sales);
}

pub purchases_ready : (xs ys : List Sale) (ps qs : List Purchase) → TablesSound xs ps → TablesSound ys qs → Ready of_purchases (merged of_purchases (purchase_blocks ps) (purchase_blocks qs))
purchases_ready xs ys ps qs h k = record {
  sorted = sorted_merged of_purchases (purchase_blocks ps) (purchase_blocks qs) (purchases_order ps h.purchases.rising) (purchases_order qs k.purchases.rising);
  prices = all_merged of_purchases (λ _ b. PriceWithinLimits b.bid.price) (purchase_blocks ps) (purchase_blocks qs) (purchase_prices ps h.purchases.within) (purchase_prices qs k.purchases.within);
  volumes = all_merged of_purchases (λ _ b. VolumeWithinLimits b.bid.volume) (purchase_blocks ps) (purchase_blocks qs) (purchase_volumes ps h.purchases.within) (purchase_volumes qs k.purchases.within);
  few = omega (arith, merged_length of_purchases (purchase_blocks ps) (purchase_blocks qs), length-map ps (λ x. x.block), length-map qs (λ x. x.block), h.few_purchases, k.few_purchases);
}

-- a zone alone
pub sales_alone : (z : Zone) (xs : List Sale) (ps : List Purchase) → TablesSound xs ps → Ready of_sales (alone z (sale_blocks xs))
sales_alone z xs ps h = record {
  sorted = sorted_alone of_sales z (sale_blocks xs) (sales_order xs h.sales.rising);
  prices = all_alone (λ _ b. PriceWithinLimits b.bid.price) z (sale_blocks xs) (sale_prices xs h.sales.within);
  volumes = all_alone (λ _ b. VolumeWithinLimits b.bid.volume) z (sale_blocks xs) (sale_volumes xs h.sales.within);
  few = omega (arith, length-map (sale_blocks xs) (in_zone z), length-map xs (λ x. x.block), h.few_sales);
}

pub purchases_alone : (z : Zone) (xs : List Sale) (ps : List Purchase) → TablesSound xs ps → Ready of_purchases (alone z (purchase_blocks ps))
purchases_alone z xs ps h = record {
  sorted = sorted_alone of_purchases z (purchase_blocks ps) (purchases_order ps h.purchases.rising);
  prices = all_alone (λ _ b. PriceWithinLimits b.bid.price) z (purchase_blocks ps) (purchase_prices ps h.purchases.within);
  volumes = all_alone (λ _ b. VolumeWithinLimits b.bid.volume) z (purchase_blocks ps) (purchase_volumes ps h.purchases.within);
  few = omega (arith, length-map (purchase_blocks ps) (in_zone z), length-map ps (λ x. x.block), h.few_purchases);
}

-- a pool by its parts
pub pool_same : (ss ss' ps ps' : List Offer) (n m : ℕ) → ss ≡ ss' → ps ≡ ps' → ◌≡◌ {A = Pool} (record { sales = ss; purchases = ps; brought = n; taken = m }) (record { sales = ss'; purchases = ps'; brought = n; taken = m })
pool_same ss ss' ps ps' n m e e' = rw (e, e') refl

-- a zone keeps as many blocks as it has
length_same : (bs cs : List Block) → SameBids bs cs → length cs ≡ length bs
length_same bs cs e = sym (length-map cs (λ b. b.bid)) ∙ ap length (sym e) ∙ length-map bs (λ b. b.bid)

pub kept_length : (g : ℕ → ℕ → ℕ → ℕ) (b : Book) (z : Zone) (x : Pool) → part z x.sales ≡ b.sales → part z x.purchases ≡ b.purchases →
    (length (part z (cleared g x).sales) ≡ length b.sales) × (length (part z (cleared g x).purchases) ≡ length b.purchases)
kept_length g b z x e e' = (length_same b.sales (part z (cleared g x).sales) (kept_sales g b z x e), length_same b.purchases (part z (cleared g x).purchases) (kept_purchases g b z x e'))

-- all the rows are written
pub written : (ps bs : List Block) → length ps ≡ length bs → ps ++ drop (length ps) bs ≡ ps
written ps bs e = rw (drop_all (length ps) bs (omega (arith, e))) (append-nil ps)

-- the limits still hold when other volumes are matched
pub worth_kept : (bs cs : List Block) → SameBids bs cs → Within cs → AllByRecursion (λ b. PriceWithinLimits b.bid.price) bs → AllByRecursion (λ b. VolumeWithinLimits b.bid.volume) bs → WorthWithinLimits cs
worth_kept [] [] same h p v = tt
worth_kept [] (c ∷ cs) same h p v = same_none c cs same
worth_kept (b ∷ bs) [] same h p v = same_some b bs same
worth_kept (b ∷ bs) (c ∷ cs) same (h, hs) (p, ps) (v, vs) =
    let e = same_first b c bs cs same in
    let p' = rw e at p in
    let v' = rw e at v in
    ((p', omega (arith, h, v'.1)), worth_kept bs cs (same_rest b c bs cs same) hs ps vs)

same_length : (bs cs : List Block) → SameBids bs cs → length cs ≡ length bs
same_length bs cs e = sym (length-map cs (λ b. b.bid)) ∙ ap length (sym e) ∙ length-map bs (λ b. b.bid)

pub tables_worth : (ss : List Sale) (ps : List Purchase) (ss' : List Sale) (ps' : List Purchase) (y : Book) → TablesSound ss ps → book ss' ps' ≡ y → BookSame (book ss ps) y → BookWithin y → TablesWorth ss' ps'
tables_worth ss ps ss' ps' y h e same within =
    let bs : sale_blocks ss' ≡ y.sales = ap (λ (b : Book). b.sales) e in
    let cs : purchase_blocks ps' ≡ y.purchases = ap (λ (b : Book). b.purchases) e in
    record {
      sales = rw bs (worth_kept (sale_blocks ss) y.sales same.sales_same within.sales_within (sale_prices ss h.sales.within) (sale_volumes ss h.sales.within));
      purchases = rw cs (worth_kept (purchase_blocks ps) y.purchases same.purchases_same within.purchases_within (purchase_prices ps h.purchases.within) (purchase_volumes ps h.purchases.within));
      few_sales = omega (arith, length-map ss' (λ s. s.block), ap length bs, same_length _ _ same.sales_same, length-map ss (λ s. s.block), h.few_sales);
      few_purchases = omega (arith, length-map ps' (λ p. p.block), ap length cs, same_length _ _ same.purchases_same, length-map ps (λ p. p.block), h.few_purchases);
    }
