-- What the entries of a session change: positions, the exchange's income and its residue.
-- To believe: a position gains the entries of its agent's blocks, the income the income entry, the residue a tenth of all remainders.
use Rattle.std.specs.Prelude.{◌≡◌, ℕ, suc, ◌/◌, Bool, true, false, cond, ◌||◌, List, [], ◌∷◌, map, ℤ, pos, negsuc, ◌+ℤ◌, ◌-ℤ◌, ◌*ℤ◌, neg_ℤ, ◌==◌}
use Rattle.std.specs.List.{AllByRecursion}
use Rattle.market.specs.Limits.{PositionWithinLimits}
use Rattle.market.specs.declared.account.Account.{Account}
use Rattle.settlement.specs.Rounding.{nearest_cent}
use Rattle.settlement.specs.Entries.{Due, Outcome, block_entries, income_due, session_dues}
use Rattle.settlement.specs.declared.entry.Entry.{Entry}

-- the sum of a number over a list
abbrev pub total : {X : Type 0} → (X → ℤ) → List X → ℤ
total f [] = pos 0
total f (x ∷ xs) = f x +ℤ total f xs

-- the cents of the entries of one agent
abbrev pub posted : ℕ → List Entry → ℤ
posted agent = total (λ e. cond (e.agent == agent) e.cents (pos 0))

abbrev pub account_after : List Entry → Account → Account
account_after es a = record { agent = a.agent; position = a.position +ℤ posted a.agent es }

abbrev pub accounts_after : Outcome → List Account → List Account
accounts_after o = map (account_after (block_entries o))

abbrev pub has_account : List Account → ℕ → Bool
has_account [] agent = false
has_account (a ∷ rest) agent = a.agent == agent || has_account rest agent

-- the agent of every matched block has an account
abbrev pub KnownAgents : Outcome → List Account → Type 0
KnownAgents o accounts = AllByRecursion (λ e. has_account accounts e.agent ≡ true) (block_entries o)

abbrev pub income_of : Outcome → ℤ
income_of o = nearest_cent (income_due o).exact

-- what rounding leaves of an exact amount
abbrev pub remainder : Due → ℤ
remainder d = d.exact -ℤ pos 10 *ℤ nearest_cent d.exact

-- a tenth, rounded towards zero
abbrev pub tenth : ℤ → ℤ
tenth (pos n) = pos (n / 10)
tenth (negsuc n) = neg_ℤ (pos (suc n / 10))

abbrev pub residue_of : Outcome → ℤ
residue_of o = tenth (total remainder (session_dues o))

-- no position, nor the income, nor the residue, stands past its limits after the last entry
pub record WithinLimits (o : Outcome) (accounts : List Account) (income residue : ℤ) : Type 0 where
  pub positions : AllByRecursion (λ a. PositionWithinLimits a.position) (accounts_after o accounts)
  pub incomes : PositionWithinLimits (income +ℤ income_of o)
  pub residues : PositionWithinLimits (residue +ℤ residue_of o)
