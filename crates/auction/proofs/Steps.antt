-- The steps of a clearing make up the whole of it.
use Rattle.std.proofs.Common.{◌≡◌, ℕ, ◌≤◌, List, ◌++◌, length, drop, ℤ, pos, ◌-ℤ◌, neg_ℤ, ◌<ℤ◌, sym, refl, ap, ◌∙◌, arith}
use borrow.Author.Differences.{ints}
use Rattle.std.proofs.lemmas.List.{length-map}
use Rattle.market.specs.declared.block.Block.{Block}
use Rattle.market.specs.declared.purchase.Purchase.{Purchase}
use Rattle.market.specs.declared.sale.Sale.{Sale}
use Rattle.market.specs.declared.zone.Zone.{Zone}
use Rattle.market.specs.declared.zone.Zone.TheVariants.{One, Two}
use Rattle.auction.specs.declared.line.Line.{Line}
use Rattle.auction.specs.declared.line.Line.TheVariants.{Enough, There, Back}
use Rattle.auction.specs.declared.offer.Offer.{Offer}
use Rattle.rules.specs.Shares.{Shares}
use Rattle.auction.specs.Best.{BookSound}
use Rattle.auction.specs.Books.{Book, exported, imported, total}
use Rattle.auction.specs.Clearing.{Pool, Room, book_of, cleared, exporting, importing, price_in, together}
use Rattle.auction.specs.Offers.{part}
use Rattle.auction.specs.Steps.{CommonFound, Clears}
use Rattle.auction.specs.Tables.{sale_blocks, purchase_blocks, book}
use Rattle.auction.proofs.Best.{whole₁, whole₂, whole_balanced, sells_enough, buys_enough, over_there, over_back}
use Rattle.auction.proofs.Pools.{exporting_room, importing_room}
use Rattle.auction.proofs.Tables.{kept_length, written}

-- a book by its two lists
book_parts : (ss ss' ps ps' : List Block) → ss ≡ ss' → ps ≡ ps' → ◌≡◌ {A = Book} (record { sales = ss; purchases = ps }) (record { sales = ss'; purchases = ps' })
book_parts ss ss' ps ps' e e' = rw (e, e') refl

-- the tables of one zone, written from a pool x that is cleared and then holds the offers os and us
module _ (g : ℕ → ℕ → ℕ → ℕ) (ss : List Sale) (ps : List Purchase) (z : Zone) (x : Pool) (e : part z x.sales ≡ sale_blocks ss) (e' : part z x.purchases ≡ purchase_blocks ps)
    (os us : List Offer) (k : os ≡ (cleared g x).sales) (k' : us ≡ (cleared g x).purchases) where
  sales_kept : length (part z os) ≡ length (sale_blocks ss)
  sales_kept = ap (λ (xs : List Offer). length (part z xs)) k ∙ (kept_length g (book ss ps) z x e e').0

  purchases_kept : length (part z us) ≡ length (purchase_blocks ps)
  purchases_kept = ap (λ (xs : List Offer). length (part z xs)) k' ∙ (kept_length g (book ss ps) z x e e').1

  pub zone_fits : (length (part z os) ≤ length ss) × (length (part z us) ≤ length ps)
  zone_fits = (omega (arith, sales_kept, length-map ss (λ s. s.block)), omega (arith, purchases_kept, length-map ps (λ p. p.block)))

  pub zone_written : (ss' : List Sale) (ps' : List Purchase) → sale_blocks ss' ≡ part z os ++ drop (length (part z os)) (sale_blocks ss) → purchase_blocks ps' ≡ part z us ++ drop (length (part z us)) (purchase_blocks ps) →
      book ss' ps' ≡ book_of z (cleared g x)
  zone_written ss' ps' h h' =
      book_parts _ _ _ _ (h ∙ written (part z os) (sale_blocks ss) sales_kept ∙ ap (part z) k) (h' ∙ written (part z us) (purchase_blocks ps) purchases_kept ∙ ap (part z) k')

module _ (g : ℕ → ℕ → ℕ → ℕ) (f : ℤ → ℤ → ℤ) (forward backward : ℕ) (b₁ b₂ : Book) (l : Line) (p e : ℤ) (h : CommonFound g f forward backward b₁ b₂ l p e) (c₁ c₂ : Book) where
  pub clears_enough : l ≡ Enough → c₁ ≡ book_of One (cleared g (together b₁ b₂)) → c₂ ≡ book_of Two (cleared g (together b₁ b₂)) → Clears g f forward backward b₁ b₂ c₁ c₂ p p e
  clears_enough i k₁ k₂ =
      let n = sym h.line_is ∙ i in
      record { zone₁ = rw n k₁; zone₂ = rw n k₂; price₁ = rw n h.price_is; price₂ = rw n h.price_is; carried = rw n h.flow_is }

  pub clears_there : (p₁ p₂ d : ℤ) → l ≡ There → c₁ ≡ book_of One (cleared g (exporting One forward b₁)) → c₂ ≡ book_of Two (cleared g (importing Two forward b₂)) →
      p₁ ≡ price_in f (cleared g (exporting One forward b₁)) → p₂ ≡ price_in f (cleared g (importing Two forward b₂)) → d ≡ pos forward → Clears g f forward backward b₁ b₂ c₁ c₂ p₁ p₂ d
  clears_there p₁ p₂ d i k₁ k₂ q₁ q₂ m =
      let n = sym h.line_is ∙ i in
      record { zone₁ = rw n k₁; zone₂ = rw n k₂; price₁ = rw n q₁; price₂ = rw n q₂; carried = rw n m }

  pub clears_back : (p₁ p₂ d : ℤ) → l ≡ Back → c₁ ≡ book_of One (cleared g (importing One backward b₁)) → c₂ ≡ book_of Two (cleared g (exporting Two backward b₂)) →
      p₁ ≡ price_in f (cleared g (importing One backward b₁)) → p₂ ≡ price_in f (cleared g (exporting Two backward b₂)) → d ≡ neg_ℤ (pos backward) → Clears g f forward backward b₁ b₂ c₁ c₂ p₁ p₂ d
  clears_back p₁ p₂ d i k₁ k₂ q₁ q₂ m =
      let n = sym h.line_is ∙ i in
      record { zone₁ = rw n k₁; zone₂ = rw n k₂; price₁ = rw n q₁; price₂ = rw n q₂; carried = rw n m }

  module _ (shares : Shares g) (s₁ : BookSound b₁) (s₂ : BookSound b₂) where
    even : exported (book_of One (cleared g (together b₁ b₂))) ≡ imported (book_of Two (cleared g (together b₁ b₂)))
    even = whole_balanced g shares b₁ b₂ s₁ s₂

    turned : (k a c : ℕ) → pos k <ℤ neg_ℤ (pos a -ℤ pos c) → pos k <ℤ (pos c -ℤ pos a)
    turned k a c u = omega (arith, ints)

    pub room_there : l ≡ There → Room (exporting One forward b₁) × Room (importing Two forward b₂)
    room_there i =
        let y₁ = whole₁ g shares b₁ b₂ s₁ s₂ in
        let y₂ = whole₂ g shares b₁ b₂ s₁ s₂ in
        let over = over_there forward backward (exported (book_of One (cleared g (together b₁ b₂)))) (sym i ∙ h.line_is) in (
          exporting_room One forward b₁ s₁ (sells_enough b₁ (book_of One (cleared g (together b₁ b₂))) One forward y₁.same y₁.within over),
          importing_room Two forward b₂ s₂ (buys_enough b₂ (book_of Two (cleared g (together b₁ b₂))) Two forward y₂.same y₂.within (rw (← even) over)),
        )

    pub room_back : l ≡ Back → Room (importing One backward b₁) × Room (exporting Two backward b₂)
    room_back i =
        let y = cleared g (together b₁ b₂) in
        let y₁ = whole₁ g shares b₁ b₂ s₁ s₂ in
        let y₂ = whole₂ g shares b₁ b₂ s₁ s₂ in
        let over = over_back forward backward (exported (book_of One y)) (sym i ∙ h.line_is) in (
          importing_room One backward b₁ s₁ (buys_enough b₁ (book_of One y) One backward y₁.same y₁.within (turned backward (total (part One y.sales)) (total (part One y.purchases)) over)),
          exporting_room Two backward b₂ s₂ (sells_enough b₂ (book_of Two y) Two backward y₂.same y₂.within (turned backward (total (part Two y.purchases)) (total (part Two y.sales)) (rw even at over))),
        )
