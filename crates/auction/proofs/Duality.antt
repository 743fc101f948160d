-- Weak duality: a schedule that prices support has the greatest surplus.
use Rattle.std.proofs.Common.{◌≡◌, ℕ, ◌+◌, ◌-◌, ◌<◌, ◌≤◌, ◌⊎◌, List, [], ◌∷◌, ℤ, pos, ◌+ℤ◌, ◌-ℤ◌, ◌*ℤ◌, neg_ℤ, ◌≤ℤ◌, ◌<ℤ◌, sym, ap, ◌∙◌, inl, inr, mul-le-mul_right, arith}
use borrow.Author.Differences.{ints, up, down}
use Rattle.std.specs.List.{AllByRecursion}
use Rattle.std.proofs.lemmas.Bool.{cases_order}
use Rattle.market.specs.declared.block.Block.{Block}
use Rattle.auction.specs.Books.{total, money, Within, SameBids, SaleFair, PurchaseFair, Book, gain, BookWithin, BookSame, Supports, Schedule, Feasible, flow, surplus}
use Rattle.auction.specs.Best.{Priced}

-- lists of the same bids, block by block
pub same_first : (b c : Block) (bs cs : List Block) → SameBids (b ∷ bs) (c ∷ cs) → b.bid ≡ c.bid
same_first b c bs cs h = cc

pub same_rest : (b c : Block) (bs cs : List Block) → SameBids (b ∷ bs) (c ∷ cs) → SameBids bs cs
same_rest b c bs cs h = cc

pub same_none : {A : Type 0} (c : Block) (cs : List Block) → SameBids [] (c ∷ cs) → A
same_none c cs h = let z : ◌≡◌ {A = ℕ} 0 1 = cc in absurd (omega arith)

pub same_some : {A : Type 0} (b : Block) (bs : List Block) → SameBids (b ∷ bs) [] → A
same_some b bs h = let z : ◌≡◌ {A = ℕ} 0 1 = cc in absurd (omega arith)

-- `◌≤ℤ◌` binds more tightly than the sums and products, so these stand in parentheses
pub times : (a b : ℤ) (d : ℕ) → a ≤ℤ b → (a *ℤ pos d) ≤ℤ (b *ℤ pos d)
times a b d h =
    let k : up a + down b ≤ up b + down a = omega (arith, ints) in
    omega (arith, ints, mul-le-mul_right d k)

-- the larger price goes with the larger volume
pub cross : (a b : ℤ) (m n : ℕ) → a ≤ℤ b → n ≤ m → (a *ℤ pos m +ℤ b *ℤ pos n) ≤ℤ (a *ℤ pos n +ℤ b *ℤ pos m)
cross a b m n h l =
    let k : up a + down b ≤ up b + down a = omega (arith, ints) in
    let e : m ≡ n + (m - n) = omega arith in
    rw e (omega (arith, ints, mul-le-mul_right (m - n) k))

-- one block: at the price p, the volume x of a sale at P earns at least what y would
sale_best : (p P : ℤ) (x y V : ℕ) → (0 < x → P ≤ℤ p) → (x < V → p ≤ℤ P) → y ≤ V → (P *ℤ pos x +ℤ p *ℤ pos y) ≤ℤ (P *ℤ pos y +ℤ p *ℤ pos x)
sale_best p P x y V earns short l =
    elim (cases_order x y) [
      | inl e ↦ rw e (omega (arith, ints))
      | inr (inl h) ↦ let k : x < V = omega arith in omega (arith, ints, cross p P y x (short k) (omega arith))
      | inr (inr h) ↦ let k : 0 < x = omega arith in omega (arith, ints, cross P p x y (earns k) (omega arith))
    ]

purchase_best : (p P : ℤ) (x y V : ℕ) → (0 < x → p ≤ℤ P) → (x < V → P ≤ℤ p) → y ≤ V → (P *ℤ pos y +ℤ p *ℤ pos x) ≤ℤ (P *ℤ pos x +ℤ p *ℤ pos y)
purchase_best p P x y V earns short l =
    elim (cases_order x y) [
      | inl e ↦ rw e (omega (arith, ints))
      | inr (inl h) ↦ let k : x < V = omega arith in omega (arith, ints, cross P p y x (short k) (omega arith))
      | inr (inr h) ↦ let k : 0 < x = omega arith in omega (arith, ints, cross p P x y (earns k) (omega arith))
    ]

-- two such comparisons add up. Over variables, since `omega` meets a bound of its own over the lists' sums
step : (p u v m n : ℤ) (x y s t : ℕ) → (v +ℤ p *ℤ pos x) ≤ℤ (u +ℤ p *ℤ pos y) → (n +ℤ p *ℤ pos s) ≤ℤ (m +ℤ p *ℤ pos t) → ((v +ℤ n) +ℤ p *ℤ pos (x + s)) ≤ℤ ((u +ℤ m) +ℤ p *ℤ pos (y + t))
step p u v m n x y s t h k = omega (arith, ints)

-- a zone's sales, and its purchases
pub sales_best : (p : ℤ) (bs cs : List Block) → SameBids bs cs → AllByRecursion (SaleFair p) bs → Within cs → (money bs +ℤ p *ℤ pos (total cs)) ≤ℤ (money cs +ℤ p *ℤ pos (total bs))
sales_best p [] [] same fair within = omega (arith, ints)
sales_best p [] (c ∷ cs) same fair within = same_none c cs same
sales_best p (b ∷ bs) [] same fair within = same_some b bs same
sales_best p (b ∷ bs) (c ∷ cs) same (f, fair) (w, within) =
    let e = same_first b c bs cs same in
    let w' = rw (← e) at w in
    rw (← e) (step p _ _ _ _ _ _ _ _ (sale_best p b.bid.price b.matched c.matched b.bid.volume f.no_loss f.none_short w') (sales_best p bs cs (same_rest b c bs cs same) fair within))

pub purchases_best : (p : ℤ) (bs cs : List Block) → SameBids bs cs → AllByRecursion (PurchaseFair p) bs → Within cs → (money cs +ℤ p *ℤ pos (total bs)) ≤ℤ (money bs +ℤ p *ℤ pos (total cs))
purchases_best p [] [] same fair within = omega (arith, ints)
purchases_best p [] (c ∷ cs) same fair within = same_none c cs same
purchases_best p (b ∷ bs) [] same fair within = same_some b bs same
purchases_best p (b ∷ bs) (c ∷ cs) same (f, fair) (w, within) =
    let e = same_first b c bs cs same in
    let w' = rw (← e) at w in
    rw (← e) (step p _ _ _ _ _ _ _ _ (purchase_best p b.bid.price b.matched c.matched b.bid.volume f.no_loss f.none_short w') (purchases_best p bs cs (same_rest b c bs cs same) fair within))

-- a zone: A and B are the money of its sales and its purchases, s and b their totals
-- over variables for the products: with the products written out `omega` left some facts out, at a bound of its own
zone_step : (A B A' B' S T S' T' : ℤ) → (A +ℤ S') ≤ℤ (A' +ℤ S) → (B' +ℤ T) ≤ℤ (B +ℤ T') → ((B' -ℤ A') +ℤ (S' +ℤ T)) ≤ℤ ((B -ℤ A) +ℤ (S +ℤ T'))
zone_step A B A' B' S T S' T' h k = omega (arith, ints)

pub spread : (p : ℤ) (m n : ℕ) → p *ℤ pos (m + n) ≡ p *ℤ pos m +ℤ p *ℤ pos n
spread p m n = omega (arith, ints)

pub zone_best : (p : ℤ) (x y : Book) → BookSame x y → Supports p x → BookWithin y →
    (gain y +ℤ p *ℤ pos (total y.sales + total x.purchases)) ≤ℤ (gain x +ℤ p *ℤ pos (total x.sales + total y.purchases))
zone_best p x y same fair within =
    rw (spread p (total y.sales) (total x.purchases), spread p (total x.sales) (total y.purchases)) (zone_step (money x.sales) (money x.purchases) (money y.sales) (money y.purchases) (p *ℤ pos (total x.sales)) (p *ℤ pos (total x.purchases)) (p *ℤ pos (total y.sales)) (p *ℤ pos (total y.purchases))
    (sales_best p x.sales y.sales same.sales_same fair.sales_fair within.sales_within) (purchases_best p x.purchases y.purchases same.purchases_same fair.purchases_fair within.purchases_within))

-- the flow's part: m is what x sends beyond y, n what y sends beyond x
flow_same : (p₁ p₂ : ℤ) (m n : ℕ) → p₁ ≡ p₂ → (p₁ *ℤ pos m +ℤ p₂ *ℤ pos n) ≤ℤ (p₁ *ℤ pos n +ℤ p₂ *ℤ pos m)
flow_same p₁ p₂ m n e = rw e (omega (arith, ints))

flow_best : (cap₁₂ cap₂₁ : ℕ) (p₁ p₂ : ℤ) (s b s' b' : ℕ) → (p₁ ≡ p₂) ⊎ (((p₁ <ℤ p₂) × (pos s -ℤ pos b ≡ pos cap₁₂)) ⊎ ((p₂ <ℤ p₁) × (neg_ℤ (pos s -ℤ pos b) ≡ pos cap₂₁))) → (pos s' -ℤ pos b') ≤ℤ pos cap₁₂ → neg_ℤ (pos s' -ℤ pos b') ≤ℤ pos cap₂₁ →
    (p₁ *ℤ pos (s + b') +ℤ p₂ *ℤ pos (s' + b)) ≤ℤ (p₁ *ℤ pos (s' + b) +ℤ p₂ *ℤ pos (s + b'))
flow_best cap₁₂ cap₂₁ p₁ p₂ s b s' b' (inl e) there back = flow_same p₁ p₂ (s + b') (s' + b) e
flow_best cap₁₂ cap₂₁ p₁ p₂ s b s' b' (inr (inl h)) there back = cross p₁ p₂ (s + b') (s' + b) (omega (arith, ints)) (omega (arith, ints))
flow_best cap₁₂ cap₂₁ p₁ p₂ s b s' b' (inr (inr h)) there back = let k = cross p₂ p₁ (s' + b) (s + b') (omega (arith, ints)) (omega (arith, ints)) in omega (arith, ints, k)

joined : (Z₁ Z₂ Z₁' Z₂' M N U V M' N' : ℤ) → (Z₁' +ℤ N) ≤ℤ (Z₁ +ℤ M) → (Z₂' +ℤ U) ≤ℤ (Z₂ +ℤ V) → (M +ℤ N') ≤ℤ (N +ℤ M') → U +ℤ N' ≡ V +ℤ M' → (Z₁' +ℤ Z₂') ≤ℤ (Z₁ +ℤ Z₂)
joined Z₁ Z₂ Z₁' Z₂' M N U V M' N' h k f e = omega (arith, ints)

-- equal volumes at one price
level : (p : ℤ) (u n v m : ℕ) → u + n ≡ v + m → p *ℤ pos u +ℤ p *ℤ pos n ≡ p *ℤ pos v +ℤ p *ℤ pos m
level p u n v m e = sym (spread p u n) ∙ ap (λ (t : ℕ). p *ℤ pos t) e ∙ spread p v m

pub weak_duality : (cap₁₂ cap₂₁ : ℕ) (p₁ p₂ : ℤ) (x y : Schedule) →
    Feasible cap₁₂ cap₂₁ x → Supports p₁ x.zone₁ → Supports p₂ x.zone₂ → Priced cap₁₂ cap₂₁ p₁ p₂ (flow x) →
    BookSame x.zone₁ y.zone₁ → BookSame x.zone₂ y.zone₂ → Feasible cap₁₂ cap₂₁ y →
    surplus y ≤ℤ surplus x
weak_duality cap₁₂ cap₂₁ p₁ p₂ x y fx s₁ s₂ priced same₁ same₂ fy =
    let m : ℕ = total x.zone₁.sales + total y.zone₁.purchases in
    let n : ℕ = total y.zone₁.sales + total x.zone₁.purchases in
    let v : ℕ = total x.zone₂.sales + total y.zone₂.purchases in
    let u : ℕ = total y.zone₂.sales + total x.zone₂.purchases in
    joined (gain x.zone₁) (gain x.zone₂) (gain y.zone₁) (gain y.zone₂) (p₁ *ℤ pos m) (p₁ *ℤ pos n) (p₂ *ℤ pos u) (p₂ *ℤ pos v) (p₂ *ℤ pos m) (p₂ *ℤ pos n)
    (zone_best p₁ x.zone₁ y.zone₁ same₁ s₁ fy.within₁)
    (zone_best p₂ x.zone₂ y.zone₂ same₂ s₂ fy.within₂)
    (flow_best cap₁₂ cap₂₁ p₁ p₂ _ _ _ _ priced fy.there fy.back)
    (level p₂ u n v m (omega (arith, ints, fx.balanced, fy.balanced)))
