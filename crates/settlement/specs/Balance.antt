-- Matched volumes that balance with the flow, and what follows: a settlement adds up to zero.
-- To believe: `Balanced`. The rest is proved.
use Rattle.std.specs.Prelude.{◌≡◌, ℕ, ◌*◌, ◌≤◌, List, length, pos, ◌+ℤ◌, ◌*ℤ◌, sum_by, unsigned_abs}
use Rattle.market.specs.Precedence.{account_order}
use Rattle.market.specs.declared.account.Account.{Account}
use Rattle.table.specs.Rows.{Apart}
use Rattle.settlement.specs.Entries.{Outcome, Trade, buying, entries_of, selling, session_dues}
use Rattle.settlement.specs.Postings.{KnownAgents, accounts_after, income_of, remainder, residue_of, total}

abbrev pub matched : {X : Type 0} → Trade X → List X → ℕ
matched t = sum_by (λ x. (t.block x).matched)

-- zone 1 sells the flow beyond what it buys, and zone 2 buys it beyond what it sells
pub record Balanced (o : Outcome) : Type 0 where
  pub exported : pos (matched selling o.one.sales) ≡ pos (matched buying o.one.purchases) +ℤ o.flow
  pub imported : pos (matched buying o.two.purchases) ≡ pos (matched selling o.two.sales) +ℤ o.flow

-- what holds of the entries of a balanced session
pub record AddsUp (o : Outcome) : Type 0 where
  -- what is due adds up to zero, exactly
  pub zero_sum : total (λ d. d.exact) (session_dues o) ≡ pos 0
  -- the remainders add up to whole cents
  pub whole : pos 10 *ℤ residue_of o ≡ total remainder (session_dues o)
  -- the residue is what the entries lack
  pub opposite : total (λ e. e.cents) (entries_of o) +ℤ residue_of o ≡ pos 0
  -- at most half a cent for each entry
  pub small : 2 * unsigned_abs (residue_of o) ≤ length (entries_of o)

-- where no agent has two accounts and every agent of a matched block has one, nothing is lost between the accounts, the income and the residue
abbrev pub NothingLost : Outcome → List Account → Type 0
NothingLost o accounts = Apart account_order accounts → KnownAgents o accounts →
    total (λ a. a.position) (accounts_after o accounts) +ℤ income_of o +ℤ residue_of o ≡ total (λ a. a.position) accounts
