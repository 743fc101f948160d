-- What a clearing writes into the tables.
use Rattle.std.proofs.Common.{◌≡◌, ℕ, ◌^◌, ◌<◌, ◌≤◌, List, [], ◌∷◌, ◌++◌, drop, ℤ, pos, negsuc, neg_ℤ, ◌≤ℤ◌, sym, refl, ap, ◌∙◌, subst, arith, w32, SFits}
use lib.Signed.{mag}
use Rattle.std.proofs.lemmas.Int.{ints}
use Rattle.auction.specs.Best.{ClearedWell}
use Rattle.auction.specs.Books.{Book, flow}
use Rattle.auction.specs.Clearing.{Outcome}
use Rattle.auction.specs.Tables.{book, purchase_blocks, sale_blocks}
use Rattle.market.specs.declared.purchase.Purchase.{Purchase}
use Rattle.market.specs.declared.sale.Sale.{Sale}
use Rattle.session.specs.Outcomes.{Four, four, scheduled}
use Rattle.session.specs.Tables.{as_purchases, as_sales}
use Rattle.session.specs.declared.session.Session.{Session}
use Rattle.session.proofs.Joins.{four_same}

pub sales_again : (xs : List Sale) → as_sales (sale_blocks xs) ≡ xs
sales_again [] = refl
sales_again (x ∷ xs) = ap (λ ys. x ∷ ys) (sales_again xs)

pub purchases_again : (xs : List Purchase) → as_purchases (purchase_blocks xs) ≡ xs
purchases_again [] = refl
purchases_again (x ∷ xs) = ap (λ ys. x ∷ ys) (purchases_again xs)

sales_of : (b : Book) (ss : List Sale) (ps : List Purchase) → book ss ps ≡ b → ss ≡ as_sales b.sales
sales_of b ss ps e = sym (sales_again ss) ∙ ap (λ (z : Book). as_sales z.sales) e

purchases_of : (b : Book) (ss : List Sale) (ps : List Purchase) → book ss ps ≡ b → ps ≡ as_purchases b.purchases
purchases_of b ss ps e = sym (purchases_again ps) ∙ ap (λ (z : Book). as_purchases z.purchases) e

pub places_scheduled : (o : Outcome) (s : Session) (t : Four) (a : List Sale) (b : List Purchase) (c : List Sale) (d : List Purchase) → book a b ≡ o.schedule.zone₁ → book c d ≡ o.schedule.zone₂ →
    four (a ++ drop s.one.sales t.sales₁) (b ++ drop s.one.purchases t.purchases₁) (c ++ drop s.two.sales t.sales₂) (d ++ drop s.two.purchases t.purchases₂) ≡ scheduled o s t
places_scheduled o s t a b c d e f =
    four_same _ _ _ _ _ _ _ _
    (ap (λ (x : List Sale). x ++ drop s.one.sales t.sales₁) (sales_of o.schedule.zone₁ a b e))
    (ap (λ (x : List Purchase). x ++ drop s.one.purchases t.purchases₁) (purchases_of o.schedule.zone₁ a b e))
    (ap (λ (x : List Sale). x ++ drop s.two.sales t.sales₂) (sales_of o.schedule.zone₂ c d f))
    (ap (λ (x : List Purchase). x ++ drop s.two.purchases t.purchases₂) (purchases_of o.schedule.zone₂ c d f))

small_flow : (z : ℤ) (there back : ℕ) → there ≤ 30000000 → back ≤ 30000000 → z ≤ℤ pos there → neg_ℤ z ≤ℤ pos back → mag z < 2 ^ 31
small_flow (pos n) there back p q u v = omega (arith, ints)
small_flow (negsuc n) there back p q u v = omega (arith, ints)

-- the flow that a line within its limits carries is a number of 32 bits
pub flow_fits : (there back : ℕ) (b₁ b₂ : Book) (o : Outcome) (z : ℤ) → there ≤ 30000000 → back ≤ 30000000 → ClearedWell there back b₁ b₂ o → z ≡ o.flow_out → SFits w32 z
flow_fits there back b₁ b₂ o z p q w e =
    let f : flow o.schedule ≡ z = sym (e ∙ w.flows) in
    record { sfits = small_flow z there back p q (subst (λ (x : ℤ). x ≤ℤ pos there) f w.feasible.there) (subst (λ (x : ℤ). neg_ℤ x ≤ℤ pos back) f w.feasible.back) }
