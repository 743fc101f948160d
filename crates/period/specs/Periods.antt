-- Clearing the ladders of a period: what it is refused for, and what it leaves in them.
-- To believe: the causes in their order; and that counted blocks get what the clearing gives them, and all else stays.
use Rattle.std.specs.Prelude.{◌≡◌, ℕ, ◌≤◌, List, [], ◌∷◌, drop, ℤ, Ok, Err, Result}
use Rattle.table.specs.Edits.{Fitting}
use Rattle.table.specs.Rows.{Sound}
use Rattle.table.specs.declared.table.Table.{Table}
use Rattle.market.specs.Limits.{BlockWithinLimits}
use Rattle.market.specs.Precedence.{purchase_order, sale_order}
use Rattle.market.specs.Refusals.{Cause}
use Rattle.market.specs.declared.refusal.Refusal.{Refusal}
use Rattle.market.specs.declared.refusal.Refusal.TheVariants.{TableSize, TableDisturbed, CapacityLimit}
use Rattle.auction.specs.Best.{ClearedWell}
use Rattle.auction.specs.Books.{Book, surplus}
use Rattle.auction.specs.Clearing.{clearing}
use Rattle.auction.specs.Steps.{Clears}
use Rattle.auction.specs.Tables as tables
use Rattle.auction.specs.declared.engine.Clearing.{Clearing}
use Rattle.ladders.specs.Ladders.{SameLadders, standing}
use Rattle.ladders.specs.declared.ladders.Ladder.{Ladder}
use Rattle.ladders.specs.declared.ladders.Ladders.{Ladders}

abbrev pub Fits : {X : Type 0} → Table X → Type 0
Fits t = Fitting 256 t.rows.now t.count

abbrev pub LadderFits : Ladder → Type 0
LadderFits l = Fits l.sales × Fits l.purchases

abbrev pub LadderSound : Ladder → Type 0
LadderSound l =
    Sound sale_order (λ s. BlockWithinLimits s.block) (standing l.sales)
    × Sound purchase_order (λ p. BlockWithinLimits p.block) (standing l.purchases)

abbrev pub clear_causes : ℕ → ℕ → Ladders → List Cause
clear_causes forward backward l =
    record { why = TableSize; holds = LadderFits l.one × LadderFits l.two → ⊥ }
    ∷ record { why = TableDisturbed; holds = LadderSound l.one × LadderSound l.two → ⊥ }
    ∷ record { why = CapacityLimit; holds = (forward ≤ 30000000) × (backward ≤ 30000000) → ⊥ }
    ∷ []

-- the standing blocks of a zone
abbrev pub book : Ladder → Book
book l = tables.book (standing l.sales) (standing l.purchases)

-- the places behind the counted ones, and the count
abbrev pub KeptBehind : {X : Type 0} → Table X → Table X → Type 0
KeptBehind t u = (drop t.count u.rows.now ≡ drop t.count t.rows.now) × (u.count ≡ t.count)

abbrev pub Behind : Ladder → Ladder → Type 0
Behind l m = KeptBehind l.sales m.sales × KeptBehind l.purchases m.purchases

-- g is what the sharing rule means, and f what the price rule means; the ladders l become m
module _ (g : ℕ → ℕ → ℕ → ℕ) (f : ℤ → ℤ → ℤ) (forward backward : ℕ) where
  pub record Cleared (l₁ l₂ m₁ m₂ : Ladder) (c : Clearing) : Type 0 where
    -- volumes, prices and flow are those of the definitions
    pub clears : Clears g f forward backward (book l₁) (book l₂) (book m₁) (book m₂) c.price_one c.price_two c.flow
    pub gained : c.surplus ≡ surplus (clearing g f forward backward (book l₁) (book l₂)).schedule
    -- balanced, supported by its prices, and no schedule of these blocks is better
    pub well : ClearedWell forward backward (book l₁) (book l₂) (clearing g f forward backward (book l₁) (book l₂))
    -- all else stays
    pub behind₁ : Behind l₁ m₁
    pub behind₂ : Behind l₂ m₂

  abbrev pub AfterClear : Ladders → Ladders → Result Clearing Refusal → Type 0
  AfterClear l m (Ok c) = Cleared l.one l.two m.one m.two c
  AfterClear l m (Err why) = SameLadders l m
