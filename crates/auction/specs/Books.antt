-- Schedules of two zones. To believe: what a schedule is, its flow and its surplus, when it is balanced within the capacities, and when
-- a block trades at a loss or is short and would have gained.
use Rattle.std.specs.Prelude.{◌≡◌, ℕ, ◌+◌, ◌<◌, ◌≤◌, List, [], ◌∷◌, map, ℤ, pos, ◌+ℤ◌, ◌-ℤ◌, ◌*ℤ◌, neg_ℤ, ◌≤ℤ◌}
use Rattle.std.specs.List.{AllByRecursion}
use Rattle.market.specs.declared.block.Block.{Block}

-- the volume matched in all
abbrev pub total : List Block → ℕ
total [] = 0
total (b ∷ bs) = b.matched + total bs

-- the price times the volume matched, in all
abbrev pub money : List Block → ℤ
money [] = pos 0
money (b ∷ bs) = b.bid.price *ℤ pos b.matched +ℤ money bs

-- no block is matched beyond what it bid for
abbrev pub Within : List Block → Type 0
Within bs = AllByRecursion (λ b. b.matched ≤ b.bid.volume) bs

-- two lists of the same bids, with maybe other volumes matched
abbrev pub SameBids : List Block → List Block → Type 0
SameBids bs cs = map (λ b. b.bid) bs ≡ map (λ b. b.bid) cs

-- the blocks of one zone, each with the part of it that is matched
pub record Book : Type 0 where
  pub sales : List Block
  pub purchases : List Block

-- what the zone sells beyond what it buys, and what it buys beyond what it sells
abbrev pub exported : Book → ℤ
exported z = pos (total z.sales) -ℤ pos (total z.purchases)

abbrev pub imported : Book → ℤ
imported z = pos (total z.purchases) -ℤ pos (total z.sales)

-- the worth of what is bought less the cost of what is sold
abbrev pub gain : Book → ℤ
gain z = money z.purchases -ℤ money z.sales

pub record BookWithin (z : Book) : Type 0 where
  pub sales_within : Within z.sales
  pub purchases_within : Within z.purchases

pub record BookSame (z w : Book) : Type 0 where
  pub sales_same : SameBids z.sales w.sales
  pub purchases_same : SameBids z.purchases w.purchases

-- at the zone's price p a sale does not trade at a loss, and is not short where it would have gained
pub record SaleFair (p : ℤ) (b : Block) : Type 0 where
  pub no_loss : 0 < b.matched → b.bid.price ≤ℤ p
  pub none_short : b.matched < b.bid.volume → p ≤ℤ b.bid.price

-- and so of a purchase
pub record PurchaseFair (p : ℤ) (b : Block) : Type 0 where
  pub no_loss : 0 < b.matched → p ≤ℤ b.bid.price
  pub none_short : b.matched < b.bid.volume → b.bid.price ≤ℤ p

-- the price p supports what is matched in the zone
pub record Supports (p : ℤ) (z : Book) : Type 0 where
  pub sales_fair : AllByRecursion (SaleFair p) z.sales
  pub purchases_fair : AllByRecursion (PurchaseFair p) z.purchases

-- the blocks of the two zones with what is matched of each
pub record Schedule : Type 0 where
  pub zone₁ : Book
  pub zone₂ : Book

-- from zone 1 to zone 2
abbrev pub flow : Schedule → ℤ
flow s = exported s.zone₁

abbrev pub surplus : Schedule → ℤ
surplus s = gain s.zone₁ +ℤ gain s.zone₂

-- each block from nothing to what it bid for, balanced, with a flow that the line carries: cap₁₂ from zone 1 to zone 2, and cap₂₁ back
pub record Feasible (cap₁₂ cap₂₁ : ℕ) (s : Schedule) : Type 0 where
  pub within₁ : BookWithin s.zone₁
  pub within₂ : BookWithin s.zone₂
  pub balanced : flow s ≡ imported s.zone₂
  pub there : flow s ≤ℤ pos cap₁₂
  pub back : neg_ℤ (flow s) ≤ℤ pos cap₂₁
