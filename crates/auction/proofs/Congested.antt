-- A zone that exports more has no lower price.
use Rattle.std.proofs.Common.{ℕ, ◌<◌, ◌≤◌, List, [], ◌∷◌, ℤ, ◌≤ℤ◌, ◌<ℤ◌, inl, inr, arith}
use borrow.Author.Differences.{ints}
use Rattle.std.specs.List.{AllByRecursion}
use Rattle.std.proofs.lemmas.Bool.{cases_lt}
use Rattle.std.proofs.lemmas.Int.{by_lt_z}
use Rattle.market.specs.declared.block.Block.{Block}
use Rattle.auction.specs.Books.{total, Within, SameBids, SaleFair, PurchaseFair, Book, BookSame, BookWithin, Supports, exported}
use Rattle.auction.proofs.Duality.{same_first, same_rest, same_none, same_some}

-- at the higher price p no less of a sale at P is matched than at q, and no more of a purchase
more_sold : (p q P : ℤ) (x y V : ℕ) → q <ℤ p → (x < V → p ≤ℤ P) → (0 < y → P ≤ℤ q) → y ≤ V → y ≤ x
more_sold p q P x y V h short earns l =
    elim (cases_lt x y) [ inl k ↦ let a = short (omega arith) in let b = earns (omega arith) in absurd (omega (arith, ints)) | inr k ↦ k ]

less_bought : (p q P : ℤ) (x y V : ℕ) → q <ℤ p → (0 < x → p ≤ℤ P) → (y < V → P ≤ℤ q) → x ≤ V → x ≤ y
less_bought p q P x y V h earns short l =
    elim (cases_lt y x) [ inl k ↦ let a = short (omega arith) in let b = earns (omega arith) in absurd (omega (arith, ints)) | inr k ↦ k ]

sales_more : (p q : ℤ) (bs cs : List Block) → q <ℤ p → SameBids bs cs → AllByRecursion (SaleFair p) bs → AllByRecursion (SaleFair q) cs → Within cs → total cs ≤ total bs
sales_more p q [] [] h same f g w = omega arith
sales_more p q [] (c ∷ cs) h same f g w = same_none c cs same
sales_more p q (b ∷ bs) [] h same f g w = same_some b bs same
sales_more p q (b ∷ bs) (c ∷ cs) h same (f, fs) (g, gs) (w, ws) =
    omega (arith, sales_more p q bs cs h (same_rest b c bs cs same) fs gs ws, more_sold p q c.bid.price b.matched c.matched c.bid.volume h (rw (← same_first b c bs cs same) f.none_short) g.no_loss w)

purchases_less : (p q : ℤ) (bs cs : List Block) → q <ℤ p → SameBids bs cs → AllByRecursion (PurchaseFair p) bs → AllByRecursion (PurchaseFair q) cs → Within bs → total bs ≤ total cs
purchases_less p q [] [] h same f g w = omega arith
purchases_less p q [] (c ∷ cs) h same f g w = same_none c cs same
purchases_less p q (b ∷ bs) [] h same f g w = same_some b bs same
purchases_less p q (b ∷ bs) (c ∷ cs) h same (f, fs) (g, gs) (w, ws) =
    omega (arith, purchases_less p q bs cs h (same_rest b c bs cs same) fs gs ws, less_bought p q b.bid.price b.matched c.matched b.bid.volume h f.no_loss (rw (same_first b c bs cs same) g.none_short) w)

-- where one zone's blocks are matched so that more is exported, the price that supports them is no lower
pub export_raises_price : (p q : ℤ) (x y : Book) → BookSame x y → BookWithin y → BookWithin x → Supports p x → Supports q y → exported x <ℤ exported y → p ≤ℤ q
export_raises_price p q x y same wy wx fx fy h =
    by_lt_z q p
    (λ k. let s = sales_more p q x.sales y.sales k same.sales_same fx.sales_fair fy.sales_fair wy.sales_within in
    let b = purchases_less p q x.purchases y.purchases k same.purchases_same fx.purchases_fair fy.purchases_fair wx.purchases_within in
    absurd (omega (arith, ints)))
    (λ k. k)
