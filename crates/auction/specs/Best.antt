-- What is proved of a clearing. To believe: the hypotheses, which are the checks of the tables and the laws of the two rules, and the
-- words of the schedules.
use Rattle.std.specs.Prelude.{◌≡◌, ℕ, ◌≤◌, ◌⊎◌, List, [], ◌∷◌, ℤ, pos, ◌-ℤ◌, ◌*ℤ◌, neg_ℤ, ◌≤ℤ◌, ◌<ℤ◌}
use Rattle.std.specs.List.{AllByRecursion}
use Rattle.market.specs.declared.block.Block.{Block}
use Rattle.market.specs.declared.zone.Zone.TheVariants.{One, Two}
use Rattle.auction.specs.Offers.{of_sales, of_purchases}
use Rattle.auction.specs.Curve.{Amount, amount}
use Rattle.auction.specs.Books.{Book, Schedule, BookSame, Supports, Feasible, flow, surplus, exported}
use Rattle.market.specs.Limits.{PriceWithinLimits}
use Rattle.rules.specs.Shares.{Shares}
use Rattle.auction.specs.Clearing.{Pool, Outcome, matched_amount, together, exporting, importing, book_of, cleared, clearing}

abbrev pub InLimits : List Block → Type 0
InLimits bs = AllByRecursion (λ b. PriceWithinLimits b.bid.price) bs

-- the ranks of the blocks never fall
abbrev pub InOrder : (ℤ → ℤ) → List Block → Type 0
InOrder rank [] = Unit {0}
InOrder rank (b ∷ bs) = AllByRecursion (λ c. rank b.bid.price ≤ℤ rank c.bid.price) bs × InOrder rank bs

-- the blocks of a zone as the checks leave them: sales by rising price, purchases by falling price, every price within the limits
pub record BookSound (z : Book) : Type 0 where
  pub sales_rise : InOrder of_sales z.sales
  pub purchases_fall : InOrder of_purchases z.purchases
  pub sales_limited : InLimits z.sales
  pub purchases_limited : InLimits z.purchases

-- the prices are the same, or the line is full towards the dearer zone
abbrev pub Priced : ℕ → ℕ → ℤ → ℤ → ℤ → Type 0
Priced cap₁₂ cap₂₁ p₁ p₂ f = (p₁ ≡ p₂) ⊎ (((p₁ <ℤ p₂) × (f ≡ pos cap₁₂)) ⊎ ((p₂ <ℤ p₁) × (neg_ℤ f ≡ pos cap₂₁)))

pub record ClearedWell (cap₁₂ cap₂₁ : ℕ) (b₁ b₂ : Book) (o : Outcome) : Type 0 where
  -- a balanced schedule of these bids within the capacities, with the flow that is answered
  pub same₁ : BookSame b₁ o.schedule.zone₁
  pub same₂ : BookSame b₂ o.schedule.zone₂
  pub feasible : Feasible cap₁₂ cap₂₁ o.schedule
  pub flows : o.flow_out ≡ flow o.schedule
  -- at the zone prices no block trades at a loss and none is short that would have gained
  pub supported₁ : Supports o.price₁ o.schedule.zone₁
  pub supported₂ : Supports o.price₂ o.schedule.zone₂
  -- every schedule of these bids within the capacities has at most this surplus
  pub best : (y : Schedule) → BookSame b₁ y.zone₁ → BookSame b₂ y.zone₂ → Feasible cap₁₂ cap₂₁ y → surplus y ≤ℤ surplus o.schedule
  -- the flow never loses, and if the prices differ it is at the capacity towards the dearer zone
  pub income : pos 0 ≤ℤ (o.flow_out *ℤ (o.price₂ -ℤ o.price₁))
  pub priced : Priced cap₁₂ cap₂₁ o.price₁ o.price₂ o.flow_out

-- a price rule answers from the low end to the high end
abbrev pub Prices : (ℤ → ℤ → ℤ) → Type 0
Prices f = (low high : ℤ) → low ≤ℤ high → (low ≤ℤ f low high) × (f low high ≤ℤ high)

-- whatever the two rules, as long as they keep their laws
abbrev pub ClearingIsBest : Type 0
ClearingIsBest =
    (g : ℕ → ℕ → ℕ → ℕ) (f : ℤ → ℤ → ℤ) → Shares g → Prices f → (cap₁₂ cap₂₁ : ℕ) (b₁ b₂ : Book) → BookSound b₁ → BookSound b₂ →
    ClearedWell cap₁₂ cap₂₁ b₁ b₂ (clearing g f cap₁₂ cap₂₁ b₁ b₂)

-- the amount that is searched for is the amount
abbrev pub AmountFound : Type 0
AmountFound = (c d : List ℤ) → Amount c d (amount c d)

-- where the zones as one send more than k tenths out of a zone, that zone alone sells the k tenths that the line takes out, and the other
-- buys the k tenths that it brings in
pub record Placed (k : ℕ) (x₁ x₂ : Pool) : Type 0 where
  pub out : k ≤ matched_amount x₁
  pub into : k ≤ matched_amount x₂

abbrev pub TenthsPlaced : Type 0
TenthsPlaced =
    (g : ℕ → ℕ → ℕ → ℕ) → Shares g → (k : ℕ) (b₁ b₂ : Book) → BookSound b₁ → BookSound b₂ →
    (pos k <ℤ exported (book_of One (cleared g (together b₁ b₂))) → Placed k (exporting One k b₁) (importing Two k b₂))
    × (pos k <ℤ exported (book_of Two (cleared g (together b₁ b₂))) → Placed k (exporting Two k b₂) (importing One k b₁))
