-- What settling a cleared session answers and leaves.
-- To believe: the causes of a refusal in their order, and that an accepted settlement writes the entries, posts them, and adds the
-- session's income and residue to those of the exchange; a refusal changes nothing.
use Rattle.std.specs.Prelude.{◌≡◌, ◌<◌, List, [], ◌∷◌, ◌++◌, length, drop, ℤ, ◌+ℤ◌, Ok, Err, Result}
use Rattle.market.specs.Limits.{AccountWithinLimits}
use Rattle.market.specs.Precedence.{account_order}
use Rattle.market.specs.Refusals.{Cause}
use Rattle.market.specs.declared.account.Account.{Account}
use Rattle.market.specs.declared.refusal.Refusal.{Refusal}
use Rattle.market.specs.declared.refusal.Refusal.TheVariants.{TableDisturbed, NoAccount, EntryPlaces, PositionLimit}
use Rattle.table.specs.Rows.{Sound}
use Rattle.settlement.specs.Balance.{AddsUp, Balanced, NothingLost}
use Rattle.settlement.specs.Entries.{Outcome, entries_of}
use Rattle.settlement.specs.Postings.{KnownAgents, WithinLimits, accounts_after, income_of, residue_of}
use Rattle.settlement.specs.declared.entry.Entry.{Entry}
use Rattle.settlement.specs.declared.settle.Settled.{Settled}

-- the income and the residue are those of the exchange before the session
abbrev pub settle_causes : Outcome → List Account → List Entry → ℤ → ℤ → List Cause
settle_causes o accounts entries income residue =
    record { why = TableDisturbed; holds = Balanced o → ⊥ }
    ∷ record { why = NoAccount; holds = KnownAgents o accounts → ⊥ }
    ∷ record { why = EntryPlaces; holds = length entries < length (entries_of o) }
    ∷ record { why = PositionLimit; holds = WithinLimits o accounts income residue → ⊥ }
    ∷ []

-- what is reported of an accepted settlement
pub record Reported (o : Outcome) (income residue : ℤ) (s : Settled) : Type 0 where
  pub entries : s.entries ≡ length (entries_of o)
  pub incomes : s.session.income ≡ income_of o
  pub residues : s.session.residue ≡ residue_of o
  pub total_incomes : s.exchange.income ≡ income +ℤ income_of o
  pub total_residues : s.exchange.residue ≡ residue +ℤ residue_of o

-- what an accepted settlement leaves: the accounts and the entry list before it and after it
pub record Settles (o : Outcome) (income residue : ℤ) (accounts accounts' : List Account) (entries entries' : List Entry) (s : Settled) : Type 0 where
  pub wrote : entries' ≡ entries_of o ++ drop (length (entries_of o)) entries
  pub posts : accounts' ≡ accounts_after o accounts
  pub reports : Reported o income residue s
  pub stays_sound : Sound account_order AccountWithinLimits accounts → Sound account_order AccountWithinLimits accounts'
  pub adds_up : AddsUp o
  pub nothing_lost : NothingLost o accounts

-- the answer of a settlement with what it leaves
abbrev pub Settlement : Outcome → ℤ → ℤ → List Account → List Account → List Entry → List Entry → Result Settled Refusal → Type 0
Settlement o income residue accounts accounts' entries entries' (Ok s) = Settles o income residue accounts accounts' entries entries' s
Settlement o income residue accounts accounts' entries entries' (Err _) = (accounts' ≡ accounts) × (entries' ≡ entries)
