-- The clearing is a balanced schedule that its prices support, and no other is better.
use Rattle.std.proofs.Common.{◌≡◌, ℕ, zero, suc, ◌+◌, ◌≤◌, true, false, ◌⊎◌, List, [], ◌∷◌, length, ℤ, pos, negsuc, ◌-ℤ◌, ◌*ℤ◌, neg_ℤ, ◌≤ℤ◌, ◌<ℤ◌, sym, refl, ◌∙◌, inl, inr, arith}
use borrow.Author.Differences.{ints}
use lib.Signed.{le_z}
use Rattle.std.specs.List.{AllByRecursion}
use Rattle.std.proofs.lemmas.Int.{by_lt_z}
use Rattle.market.specs.declared.block.Block.{Block}
use Rattle.market.specs.declared.zone.Zone.{Zone}
use Rattle.market.specs.declared.zone.Zone.TheVariants.{One, Two}
use Rattle.auction.specs.declared.line.Line.TheVariants.{Enough, There, Back}
use Rattle.auction.specs.Offers.{of_sales, of_purchases, alone, part}
use Rattle.auction.specs.Curve.{curve}
use Rattle.auction.specs.Books.{Book, Schedule, BookSame, BookWithin, Supports, Feasible, exported, imported, total}
use Rattle.auction.specs.Bracket.{low_end, high_end}
use Rattle.rules.specs.Shares.{Shares}
use Rattle.auction.specs.Clearing.{Pool, line, matched_amount, together, exporting, importing, book_of, cleared, price_in, common, split}
use Rattle.auction.specs.Best.{BookSound, Prices, Priced, ClearedWell, ClearingIsBest, TenthsPlaced}
use Rattle.auction.proofs.Congested.{export_raises_price}
use Rattle.auction.proofs.Duality.{weak_duality}
use Rattle.auction.proofs.Matching.{sum_of}
use Rattle.auction.proofs.Merging.{part_alone, all_alone, part_one, part_two, sum_parts}
use Rattle.auction.proofs.Pools.{PoolCleared, pool_cleared, ZoneCleared, zone_cleared, together_sound, together_room, alone_sound, exporting_room, importing_room, total_le}
use Rattle.auction.proofs.Kept.{zones_kept}

-- how the line stands to a flow
pub line_is : (cap₁₂ cap₂₁ : ℕ) (f : ℤ) →
    ((line cap₁₂ cap₂₁ f ≡ Enough) × (f ≤ℤ pos cap₁₂) × (neg_ℤ f ≤ℤ pos cap₂₁))
    ⊎ (((line cap₁₂ cap₂₁ f ≡ There) × (pos cap₁₂ <ℤ f)) ⊎ ((line cap₁₂ cap₂₁ f ≡ Back) × (pos cap₂₁ <ℤ neg_ℤ f)))
unfolding line
line_is cap₁₂ cap₂₁ f =
    by_lt_z (pos cap₁₂) f
    (λ h. let e : false ≡ le_z f (pos cap₁₂) = omega (arith, ints) in inr (inl (rw (← e) refl, h)))
    (λ h. let e : true ≡ le_z f (pos cap₁₂) = omega (arith, ints) in
    by_lt_z (pos cap₂₁) (neg_ℤ f)
    (λ k. let e' : false ≡ le_z (neg_ℤ f) (pos cap₂₁) = omega (arith, ints) in inr (inr (rw (← e, ← e') refl, k)))
    (λ k. let e' : true ≡ le_z (neg_ℤ f) (pos cap₂₁) = omega (arith, ints) in inl (rw (← e, ← e') refl, h, k)))

pub line_there : (cap₁₂ cap₂₁ : ℕ) (f : ℤ) → pos cap₁₂ <ℤ f → line cap₁₂ cap₂₁ f ≡ There
line_there cap₁₂ cap₂₁ f h =
    elim (line_is cap₁₂ cap₂₁ f) [ inl k ↦ absurd (omega (arith, ints, k.1)) | inr (inl k) ↦ k.0 | inr (inr k) ↦ absurd (omega (arith, ints, k.1)) ]

pub line_back : (cap₁₂ cap₂₁ : ℕ) (f : ℤ) → pos cap₂₁ <ℤ neg_ℤ f → line cap₁₂ cap₂₁ f ≡ Back
line_back cap₁₂ cap₂₁ f h =
    elim (line_is cap₁₂ cap₂₁ f) [ inl k ↦ absurd (omega (arith, ints, k.2)) | inr (inl k) ↦ absurd (omega (arith, ints, k.1)) | inr (inr k) ↦ k.0 ]

pub line_enough : (cap₁₂ cap₂₁ : ℕ) (f : ℤ) → f ≤ℤ pos cap₁₂ → neg_ℤ f ≤ℤ pos cap₂₁ → line cap₁₂ cap₂₁ f ≡ Enough
line_enough cap₁₂ cap₂₁ f h h' =
    elim (line_is cap₁₂ cap₂₁ f) [ inl k ↦ k.0 | inr (inl k) ↦ absurd (omega (arith, ints, k.1)) | inr (inr k) ↦ absurd (omega (arith, ints, k.1)) ]

-- and the other way round
pub over_there : (cap₁₂ cap₂₁ : ℕ) (f : ℤ) → There ≡ line cap₁₂ cap₂₁ f → pos cap₁₂ <ℤ f
over_there cap₁₂ cap₂₁ f e =
    elim (line_is cap₁₂ cap₂₁ f) [
      | inl k ↦ let z : ◌≡◌ {A = ℕ} 0 1 = cc k.0 in absurd (omega arith)
      | inr (inl k) ↦ k.1
      | inr (inr k) ↦ let z : ◌≡◌ {A = ℕ} 0 1 = cc k.0 in absurd (omega arith)
    ]

pub over_back : (cap₁₂ cap₂₁ : ℕ) (f : ℤ) → Back ≡ line cap₁₂ cap₂₁ f → pos cap₂₁ <ℤ neg_ℤ f
over_back cap₁₂ cap₂₁ f e =
    elim (line_is cap₁₂ cap₂₁ f) [
      | inl k ↦ let z : ◌≡◌ {A = ℕ} 0 1 = cc k.0 in absurd (omega arith)
      | inr (inl k) ↦ let z : ◌≡◌ {A = ℕ} 0 1 = cc k.0 in absurd (omega arith)
      | inr (inr k) ↦ k.1
    ]

-- two schedules of the bids of one book
pub same_both : (b x y : Book) → BookSame b x → BookSame b y → BookSame x y
same_both b x y h k = record { sales_same = sym h.sales_same ∙ k.sales_same; purchases_same = sym h.purchases_same ∙ k.purchases_same }

-- the income of a full line
gains : (k : ℕ) (d : ℤ) → pos 0 ≤ℤ d → pos 0 ≤ℤ (pos k *ℤ d)
gains k (pos m) h = omega (arith, ints)
gains k (negsuc m) h = absurd (omega (arith, ints))

gains_back : (k : ℕ) (d : ℤ) → d ≤ℤ pos 0 → pos 0 ≤ℤ (neg_ℤ (pos k) *ℤ d)
gains_back k (pos m) h = let e : m ≡ 0 = omega (arith, ints) in rw e (omega (arith, ints))
gains_back zero (negsuc m) h = omega (arith, ints)
gains_back (suc k) (negsuc m) h = omega (arith, ints)

level_gains : (f p : ℤ) → pos 0 ≤ℤ (f *ℤ (p -ℤ p))
level_gains f p = let e : p -ℤ p ≡ pos 0 = omega (arith, ints) in rw e (omega (arith, ints))

-- a zone's blocks offer no less than it exports
module _ (b y : Book) (z : Zone) (k : ℕ) (same : BookSame b y) (within : BookWithin y) where
  pub sells_enough : pos k <ℤ exported y → k ≤ length (curve (alone z b.sales))
  sells_enough h = let t = total_le z b.sales y.sales same.sales_same within.sales_within in omega (arith, ints)

  pub buys_enough : pos k <ℤ imported y → k ≤ length (curve (alone z b.purchases))
  buys_enough h = let t = total_le z b.purchases y.purchases same.purchases_same within.purchases_within in omega (arith, ints)

module _ (g : ℕ → ℕ → ℕ → ℕ) (shares : Shares g) where
  -- the zones as one
  module _ (b₁ b₂ : Book) (s₁ : BookSound b₁) (s₂ : BookSound b₂) where
    pub whole : PoolCleared (together b₁ b₂) (cleared g (together b₁ b₂))
    whole = pool_cleared g shares (together b₁ b₂) (together_sound b₁ b₂ s₁ s₂) (together_room b₁ b₂)

    pub whole₁ : ZoneCleared b₁ One (cleared g (together b₁ b₂))
    whole₁ = zone_cleared g b₁ One (together b₁ b₂) whole (part_one of_sales b₁.sales b₂.sales) (part_one of_purchases b₁.purchases b₂.purchases)

    pub whole₂ : ZoneCleared b₂ Two (cleared g (together b₁ b₂))
    whole₂ = zone_cleared g b₂ Two (together b₁ b₂) whole (part_two of_sales b₁.sales b₂.sales) (part_two of_purchases b₁.purchases b₂.purchases)

    -- what one zone sends the other gets
    pub whole_balanced : exported (book_of One (cleared g (together b₁ b₂))) ≡ imported (book_of Two (cleared g (together b₁ b₂)))
    whole_balanced =
        let y = cleared g (together b₁ b₂) in
        let s = sum_parts y.sales in
        let p = sum_parts y.purchases in
        let u = whole.sold.sums in
        let v = whole.bought.sums in
        evens (total (part One y.sales)) (total (part Two y.sales)) (total (part One y.purchases)) (total (part Two y.purchases)) (sum_of y.sales) (sum_of y.purchases) (matched_amount (together b₁ b₂)) s p u v
      where
        evens : (a b c d m n q : ℕ) → a + b ≡ m → c + d ≡ n → 0 + m ≡ q → 0 + n ≡ q → pos a -ℤ pos c ≡ pos d -ℤ pos b
        evens a b c d m n q s p u v = omega (arith, ints)

  -- a zone alone
  module _ (z : Zone) (k : ℕ) (b : Book) (s : BookSound b) where
    pub sends : k ≤ length (curve (alone z b.sales)) → PoolCleared (exporting z k b) (cleared g (exporting z k b))
    sends l = pool_cleared g shares (exporting z k b) (alone_sound z 0 k b s) (exporting_room z k b s l)

    pub gets : k ≤ length (curve (alone z b.purchases)) → PoolCleared (importing z k b) (cleared g (importing z k b))
    gets l = pool_cleared g shares (importing z k b) (alone_sound z k 0 b s) (importing_room z k b s l)

    pub sends_zone : k ≤ length (curve (alone z b.sales)) → ZoneCleared b z (cleared g (exporting z k b))
    sends_zone l = zone_cleared g b z (exporting z k b) (sends l) (part_alone z b.sales) (part_alone z b.purchases)

    pub gets_zone : k ≤ length (curve (alone z b.purchases)) → ZoneCleared b z (cleared g (importing z k b))
    gets_zone l = zone_cleared g b z (importing z k b) (gets l) (part_alone z b.sales) (part_alone z b.purchases)

    pub sends_tenths : k ≤ length (curve (alone z b.sales)) → exported (book_of z (cleared g (exporting z k b))) ≡ pos k
    sends_tenths l =
        let h = sends l in
        let e = zones_kept g z (exporting z k b) (all_alone (λ w _. w ≡ z) z b.sales (zones_are z b.sales)) (all_alone (λ w _. w ≡ z) z b.purchases (zones_are z b.purchases)) in
        out (total (part z (cleared g (exporting z k b)).sales)) (total (part z (cleared g (exporting z k b)).purchases)) _ _ (matched_amount (exporting z k b)) e.0 e.1 h.sold.sums h.bought.sums
      where
        zones_are : (w : Zone) (bs : List Block) → AllByRecursion (λ _. w ≡ w) bs
        zones_are w [] = tt
        zones_are w (c ∷ cs) = (refl, zones_are w cs)

        out : (a c m n q : ℕ) → a ≡ m → c ≡ n → 0 + m ≡ q → k + n ≡ q → pos a -ℤ pos c ≡ pos k
        out a c m n q s p u v = omega (arith, ints)

    pub gets_tenths : k ≤ length (curve (alone z b.purchases)) → imported (book_of z (cleared g (importing z k b))) ≡ pos k
    gets_tenths l =
        let h = gets l in
        let e = zones_kept g z (importing z k b) (all_alone (λ w _. w ≡ z) z b.sales (zones_are z b.sales)) (all_alone (λ w _. w ≡ z) z b.purchases (zones_are z b.purchases)) in
        into (total (part z (cleared g (importing z k b)).sales)) (total (part z (cleared g (importing z k b)).purchases)) _ _ (matched_amount (importing z k b)) e.0 e.1 h.sold.sums h.bought.sums
      where
        zones_are : (w : Zone) (bs : List Block) → AllByRecursion (λ _. w ≡ w) bs
        zones_are w [] = tt
        zones_are w (c ∷ cs) = (refl, zones_are w cs)

        into : (a c m n q : ℕ) → a ≡ m → c ≡ n → k + m ≡ q → 0 + n ≡ q → pos c -ℤ pos a ≡ pos k
        into a c m n q s p u v = omega (arith, ints)

pub tenths_placed : TenthsPlaced
tenths_placed g shares k b₁ b₂ s₁ s₂ = (
  (λ h. record {
    out = (exporting_room One k b₁ s₁ (sells_enough b₁ y₁ One k w₁.same w₁.within h)).takes;
    into = (importing_room Two k b₂ s₂ (buys_enough b₂ y₂ Two k w₂.same w₂.within (rw (← even) h))).brings;
  }),
  (λ h. record {
    out = (exporting_room Two k b₂ s₂ (sells_enough b₂ y₂ Two k w₂.same w₂.within h)).takes;
    into = (importing_room One k b₁ s₁ (buys_enough b₁ y₁ One k w₁.same w₁.within (turned (total y₁.sales) (total y₁.purchases) (total y₂.sales) (total y₂.purchases) even h))).brings;
  }),
)
  where
    y₁ : Book
    y₁ = book_of One (cleared g (together b₁ b₂))

    y₂ : Book
    y₂ = book_of Two (cleared g (together b₁ b₂))

    w₁ : ZoneCleared b₁ One (cleared g (together b₁ b₂))
    w₁ = whole₁ g shares b₁ b₂ s₁ s₂

    w₂ : ZoneCleared b₂ Two (cleared g (together b₁ b₂))
    w₂ = whole₂ g shares b₁ b₂ s₁ s₂

    even : exported y₁ ≡ imported y₂
    even = whole_balanced g shares b₁ b₂ s₁ s₂

    turned : (a c d e : ℕ) → pos a -ℤ pos c ≡ pos e -ℤ pos d → pos k <ℤ (pos d -ℤ pos e) → pos k <ℤ (pos c -ℤ pos a)
    turned a c d e u v = omega (arith, ints)

-- a zone e that exports k tenths alone has no higher price than a zone i that imports them, where the two as one exchange more
pub congested : (k : ℕ) (e i : Zone) (b c : Book) (y x v : Pool) (p q : ℤ) →
    ZoneCleared b e y → ZoneCleared c i y → low_end y.sales y.purchases ≤ℤ high_end y.sales y.purchases →
    ZoneCleared b e x → Supports p (book_of e x) → ZoneCleared c i v → Supports q (book_of i v) →
    pos k <ℤ exported (book_of e y) → pos k <ℤ imported (book_of i y) → exported (book_of e x) ≡ pos k → imported (book_of i v) ≡ pos k → p ≤ℤ q
congested k e i b c y x v p q ye yi opened xe sp vi sq over over' sent got =
    let m : ℤ = low_end y.sales y.purchases in
    let here : m ≤ℤ m = omega (arith, ints) in
    let h₁ = export_raises_price p m (book_of e x) (book_of e y) (same_both b (book_of e x) (book_of e y) xe.same ye.same) ye.within xe.within sp (ye.supported m here opened) (rw sent over) in
    let h₂ = export_raises_price m q (book_of i y) (book_of i v) (same_both c (book_of i y) (book_of i v) yi.same vi.same) vi.within yi.within (yi.supported m here opened) sq
    (less (total (part i y.sales)) (total (part i y.purchases)) (total (part i v.sales)) (total (part i v.purchases)) over' got) in
    joined m h₁ h₂
  where
    less : (a d n l : ℕ) → pos k <ℤ (pos d -ℤ pos a) → pos l -ℤ pos n ≡ pos k → (pos a -ℤ pos d) <ℤ (pos n -ℤ pos l)
    less a d n l u w = omega (arith, ints)

    joined : (m : ℤ) → p ≤ℤ m → m ≤ℤ q → p ≤ℤ q
    joined m u w = omega (arith, ints)

-- the zones as one, where the line carries the flow
module _ (g : ℕ → ℕ → ℕ → ℕ) (f : ℤ → ℤ → ℤ) (shares : Shares g) (prices : Prices f) (cap₁₂ cap₂₁ : ℕ) (b₁ b₂ : Book) (s₁ : BookSound b₁) (s₂ : BookSound b₂) where
  common_well : exported (book_of One (cleared g (together b₁ b₂))) ≤ℤ pos cap₁₂ → neg_ℤ (exported (book_of One (cleared g (together b₁ b₂)))) ≤ℤ pos cap₂₁ →
      ClearedWell cap₁₂ cap₂₁ b₁ b₂ (common f (cleared g (together b₁ b₂)))
  common_well there back =
      let y = cleared g (together b₁ b₂) in
      let w₁ = whole₁ g shares b₁ b₂ s₁ s₂ in
      let w₂ = whole₂ g shares b₁ b₂ s₁ s₂ in
      let at = prices (low_end y.sales y.purchases) (high_end y.sales y.purchases) (whole g shares b₁ b₂ s₁ s₂).open_bracket in
      let p : ℤ = price_in f y in
      let x : Schedule = record { zone₁ = book_of One y; zone₂ = book_of Two y } in
      let feasible : Feasible cap₁₂ cap₂₁ x = record { within₁ = w₁.within; within₂ = w₂.within; balanced = whole_balanced g shares b₁ b₂ s₁ s₂; there = there; back = back } in
      let u₁ = w₁.supported p at.0 at.1 in
      let u₂ = w₂.supported p at.0 at.1 in
      record {
        same₁ = w₁.same;
        same₂ = w₂.same;
        feasible = feasible;
        flows = refl;
        supported₁ = u₁;
        supported₂ = u₂;
        best = λ v e₁ e₂ fv. weak_duality cap₁₂ cap₂₁ p p x v feasible u₁ u₂ (inl refl) (same_both b₁ (book_of One y) v.zone₁ w₁.same e₁) (same_both b₂ (book_of Two y) v.zone₂ w₂.same e₂) fv;
        income = level_gains (exported (book_of One y)) p;
        priced = inl refl;
      }

  -- the line full from zone 1 to zone 2
  there_well : pos cap₁₂ <ℤ exported (book_of One (cleared g (together b₁ b₂))) →
      ClearedWell cap₁₂ cap₂₁ b₁ b₂ (split f (pos cap₁₂) (cleared g (exporting One cap₁₂ b₁)) (cleared g (importing Two cap₁₂ b₂)))
  there_well over =
      let y = cleared g (together b₁ b₂) in
      let y₁ = whole₁ g shares b₁ b₂ s₁ s₂ in
      let y₂ = whole₂ g shares b₁ b₂ s₁ s₂ in
      let over' : pos cap₁₂ <ℤ imported (book_of Two y) = rw (← whole_balanced g shares b₁ b₂ s₁ s₂) over in
      let l₁ = sells_enough b₁ (book_of One y) One cap₁₂ y₁.same y₁.within over in
      let l₂ = buys_enough b₂ (book_of Two y) Two cap₁₂ y₂.same y₂.within over' in
      let x₁ = cleared g (exporting One cap₁₂ b₁) in
      let x₂ = cleared g (importing Two cap₁₂ b₂) in
      let w₁ = sends_zone g shares One cap₁₂ b₁ s₁ l₁ in
      let w₂ = gets_zone g shares Two cap₁₂ b₂ s₂ l₂ in
      let at₁ = prices (low_end x₁.sales x₁.purchases) (high_end x₁.sales x₁.purchases) (sends g shares One cap₁₂ b₁ s₁ l₁).open_bracket in
      let at₂ = prices (low_end x₂.sales x₂.purchases) (high_end x₂.sales x₂.purchases) (gets g shares Two cap₁₂ b₂ s₂ l₂).open_bracket in
      let p₁ : ℤ = price_in f x₁ in
      let p₂ : ℤ = price_in f x₂ in
      let u₁ = w₁.supported p₁ at₁.0 at₁.1 in
      let u₂ = w₂.supported p₂ at₂.0 at₂.1 in
      let e₁ = sends_tenths g shares One cap₁₂ b₁ s₁ l₁ in
      let e₂ = gets_tenths g shares Two cap₁₂ b₂ s₂ l₂ in
      let dearer : p₁ ≤ℤ p₂ = congested cap₁₂ One Two b₁ b₂ y x₁ x₂ p₁ p₂ y₁ y₂ (whole g shares b₁ b₂ s₁ s₂).open_bracket w₁ u₁ w₂ u₂ over over' e₁ e₂ in
      let x : Schedule = record { zone₁ = book_of One x₁; zone₂ = book_of Two x₂ } in
      let feasible : Feasible cap₁₂ cap₂₁ x = record { within₁ = w₁.within; within₂ = w₂.within; balanced = e₁ ∙ sym e₂; there = rw e₁ (at_capacity cap₁₂); back = rw e₁ (not_back cap₁₂ cap₂₁) } in
      let full : Priced cap₁₂ cap₂₁ p₁ p₂ (pos cap₁₂) = full_priced p₁ p₂ dearer in
      record {
        same₁ = w₁.same;
        same₂ = w₂.same;
        feasible = feasible;
        flows = sym e₁;
        supported₁ = u₁;
        supported₂ = u₂;
        best = λ v d₁ d₂ fv. weak_duality cap₁₂ cap₂₁ p₁ p₂ x v feasible u₁ u₂ (rw e₁ full) (same_both b₁ (book_of One x₁) v.zone₁ w₁.same d₁) (same_both b₂ (book_of Two x₂) v.zone₂ w₂.same d₂) fv;
        income = gains cap₁₂ (p₂ -ℤ p₁) (apart p₁ p₂ dearer);
        priced = full;
      }
    where
      at_capacity : (k : ℕ) → pos k ≤ℤ pos k
      at_capacity k = omega (arith, ints)

      not_back : (k n : ℕ) → neg_ℤ (pos k) ≤ℤ pos n
      not_back k n = omega (arith, ints)

      apart : (p q : ℤ) → p ≤ℤ q → pos 0 ≤ℤ (q -ℤ p)
      apart p q h = omega (arith, ints)

      full_priced : (p q : ℤ) → p ≤ℤ q → Priced cap₁₂ cap₂₁ p q (pos cap₁₂)
      full_priced p q h = by_lt_z p q (λ k. inr (inl (k, refl))) (λ k. inl (omega (arith, ints)))

  -- and from zone 2 to zone 1
  back_well : pos cap₂₁ <ℤ neg_ℤ (exported (book_of One (cleared g (together b₁ b₂)))) →
      ClearedWell cap₁₂ cap₂₁ b₁ b₂ (split f (neg_ℤ (pos cap₂₁)) (cleared g (importing One cap₂₁ b₁)) (cleared g (exporting Two cap₂₁ b₂)))
  back_well over =
      let y = cleared g (together b₁ b₂) in
      let y₁ = whole₁ g shares b₁ b₂ s₁ s₂ in
      let y₂ = whole₂ g shares b₁ b₂ s₁ s₂ in
      let even = whole_balanced g shares b₁ b₂ s₁ s₂ in
      let over₁ : pos cap₂₁ <ℤ imported (book_of One y) = turned (total (part One y.sales)) (total (part One y.purchases)) over in
      let over₂ : pos cap₂₁ <ℤ exported (book_of Two y) = turned (total (part Two y.purchases)) (total (part Two y.sales)) (rw even at over) in
      let l₁ = buys_enough b₁ (book_of One y) One cap₂₁ y₁.same y₁.within over₁ in
      let l₂ = sells_enough b₂ (book_of Two y) Two cap₂₁ y₂.same y₂.within over₂ in
      let x₁ = cleared g (importing One cap₂₁ b₁) in
      let x₂ = cleared g (exporting Two cap₂₁ b₂) in
      let w₁ = gets_zone g shares One cap₂₁ b₁ s₁ l₁ in
      let w₂ = sends_zone g shares Two cap₂₁ b₂ s₂ l₂ in
      let at₁ = prices (low_end x₁.sales x₁.purchases) (high_end x₁.sales x₁.purchases) (gets g shares One cap₂₁ b₁ s₁ l₁).open_bracket in
      let at₂ = prices (low_end x₂.sales x₂.purchases) (high_end x₂.sales x₂.purchases) (sends g shares Two cap₂₁ b₂ s₂ l₂).open_bracket in
      let p₁ : ℤ = price_in f x₁ in
      let p₂ : ℤ = price_in f x₂ in
      let u₁ = w₁.supported p₁ at₁.0 at₁.1 in
      let u₂ = w₂.supported p₂ at₂.0 at₂.1 in
      let e₁ = gets_tenths g shares One cap₂₁ b₁ s₁ l₁ in
      let e₂ = sends_tenths g shares Two cap₂₁ b₂ s₂ l₂ in
      let d₁ : exported (book_of One x₁) ≡ neg_ℤ (pos cap₂₁) = opposite (total (part One x₁.sales)) (total (part One x₁.purchases)) cap₂₁ e₁ in
      let d₂ : imported (book_of Two x₂) ≡ neg_ℤ (pos cap₂₁) = opposite (total (part Two x₂.purchases)) (total (part Two x₂.sales)) cap₂₁ e₂ in
      let dearer : p₂ ≤ℤ p₁ = congested cap₂₁ Two One b₂ b₁ y x₂ x₁ p₂ p₁ y₂ y₁ (whole g shares b₁ b₂ s₁ s₂).open_bracket w₂ u₂ w₁ u₁ over₂ over₁ e₂ e₁ in
      let x : Schedule = record { zone₁ = book_of One x₁; zone₂ = book_of Two x₂ } in
      let feasible : Feasible cap₁₂ cap₂₁ x = record { within₁ = w₁.within; within₂ = w₂.within; balanced = d₁ ∙ sym d₂; there = rw d₁ (not_there cap₁₂ cap₂₁); back = rw d₁ (at_capacity cap₂₁) } in
      let full : Priced cap₁₂ cap₂₁ p₁ p₂ (neg_ℤ (pos cap₂₁)) = full_priced p₁ p₂ dearer in
      record {
        same₁ = w₁.same;
        same₂ = w₂.same;
        feasible = feasible;
        flows = sym d₁;
        supported₁ = u₁;
        supported₂ = u₂;
        best = λ v c₁ c₂ fv. weak_duality cap₁₂ cap₂₁ p₁ p₂ x v feasible u₁ u₂ (rw d₁ full) (same_both b₁ (book_of One x₁) v.zone₁ w₁.same c₁) (same_both b₂ (book_of Two x₂) v.zone₂ w₂.same c₂) fv;
        income = gains_back cap₂₁ (p₂ -ℤ p₁) (apart p₁ p₂ dearer);
        priced = full;
      }
    where
      turned : (a c : ℕ) → pos cap₂₁ <ℤ neg_ℤ (pos a -ℤ pos c) → pos cap₂₁ <ℤ (pos c -ℤ pos a)
      turned a c h = omega (arith, ints)

      opposite : (a c k : ℕ) → pos c -ℤ pos a ≡ pos k → pos a -ℤ pos c ≡ neg_ℤ (pos k)
      opposite a c k h = omega (arith, ints)

      at_capacity : (k : ℕ) → neg_ℤ (neg_ℤ (pos k)) ≤ℤ pos k
      at_capacity k = omega (arith, ints)

      not_there : (n k : ℕ) → neg_ℤ (pos k) ≤ℤ pos n
      not_there n k = omega (arith, ints)

      apart : (p q : ℤ) → q ≤ℤ p → (q -ℤ p) ≤ℤ pos 0
      apart p q h = omega (arith, ints)

      full_priced : (p q : ℤ) → q ≤ℤ p → Priced cap₁₂ cap₂₁ p q (neg_ℤ (pos cap₂₁))
      full_priced p q h = by_lt_z q p (λ k. inr (inr (k, omega (arith, ints)))) (λ k. inl (omega (arith, ints)))

pub clearing_is_best : ClearingIsBest
clearing_is_best g f shares prices cap₁₂ cap₂₁ b₁ b₂ s₁ s₂ =
    elim (line_is cap₁₂ cap₂₁ (exported (book_of One (cleared g (together b₁ b₂))))) [
      | inl h ↦ rw h.0 (common_well g f shares prices cap₁₂ cap₂₁ b₁ b₂ s₁ s₂ h.1 h.2)
      | inr (inl h) ↦ rw h.0 (there_well g f shares prices cap₁₂ cap₂₁ b₁ b₂ s₁ s₂ h.1)
      | inr (inr h) ↦ rw h.0 (back_well g f shares prices cap₁₂ cap₂₁ b₁ b₂ s₁ s₂ h.1)
    ]
