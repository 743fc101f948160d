-- What holds of an exchange and its tables after every history. To believe: that this is what a market may expect of its exchange.
use Rattle.std.specs.Prelude.{◌≡◌, ℕ, Bool, false, cond, ◌||◌, List, [], ◌∷◌, length, ℤ, filter, ◌==◌, nat_eq}
use Rattle.market.specs.declared.account.Account.{Account}
use Rattle.market.specs.declared.call.Call.{Call}
use Rattle.market.specs.declared.call.Call.TheVariants.{Admit, Begin, Enter, Withdraw, Close, Clear, Settle, Annul}
use Rattle.market.specs.declared.zone.Zone.TheVariants.{One, Two}
use Rattle.auction.specs.Best.{ClearedWell}
use Rattle.auction.specs.Books.{Schedule, surplus}
use Rattle.auction.specs.Clearing.{Outcome}
use Rattle.auction.specs.Tables.{book}
use Rattle.exchange.specs.After.{AddsToZero, ResiduesSmall, carried_by, outcome_by}
use Rattle.exchange.specs.History.{History, accepted, begun, refused, standing_book}
use Rattle.session.specs.Tables.{Blocks, Places, blocks_in, lent, rows_of}
use Rattle.auction.specs.declared.engine.Engine.{Engine}
use Rattle.exchange.specs.declared.exchange.Exchange.{Exchange}
use Rattle.exchange.specs.declared.exchange.Exchange.TheVariants as exchange
use Rattle.session.specs.declared.ledger.Ledger.{Ledger}
use Rattle.session.specs.declared.report.Report.{Report}
use Rattle.exchange.specs.declared.state.Cleared.{Cleared}

abbrev pub admitted_after : ℕ → Call → Bool → Bool
admitted_after agent (Admit a) so_far = a == agent || so_far
admitted_after agent (Begin n there back) so_far = so_far
admitted_after agent (Enter z s b) so_far = so_far
admitted_after agent (Withdraw z s k) so_far = so_far
admitted_after agent Close so_far = so_far
admitted_after agent Clear so_far = so_far
admitted_after agent Settle so_far = so_far
admitted_after agent Annul so_far = so_far

-- whether the agent was admitted
abbrev pub admitted : ℕ → History → Bool
admitted agent [] = false
admitted agent (refused c why ∷ h) = admitted agent h
admitted agent (accepted c ∷ h) = admitted_after agent c (admitted agent h)

-- how many accounts the agent has
abbrev pub accounts_of_agent : ℕ → List Account → ℕ
accounts_of_agent agent accounts = length (filter (λ a. nat_eq a.agent agent) accounts)

-- the schedule that the tables hold: every counted block with the part of it that is matched
abbrev pub schedule_in : Blocks → Schedule
schedule_in t = record {
  zone₁ = book (rows_of t.one.sales) (rows_of t.one.purchases);
  zone₂ = book (rows_of t.two.sales) (rows_of t.two.purchases);
}

-- the tables and what was reported of them, as the outcome of a clearing
abbrev pub held_outcome : Blocks → Report → Outcome
held_outcome t r = record { schedule = schedule_in t; flow_out = r.flow; price₁ = r.price_one; price₂ = r.price_two }

module _ {P S : Type 0} (pricing : P → ℤ → ℤ → ℤ) (sharing : S → ℕ → ℕ → ℕ → ℕ) (e : Engine P S) (h : History) where
  -- in every state
  pub record LedgerLaw (l : Ledger) (t : Places) : Type 0 where
    -- each admitted agent has one account, and no one else has
    pub one_account : (agent : ℕ) → accounts_of_agent agent (rows_of (lent t.accounts l.accounts)) ≡ cond (admitted agent h) 1 0
    -- positions, income and residue are what is posted for the schedules settled so far
    pub positions : rows_of (lent t.accounts l.accounts) ≡ (carried_by pricing sharing e h).accounts
    pub income : l.totals.income ≡ (carried_by pricing sharing e h).income
    pub residue : l.totals.residue ≡ (carried_by pricing sharing e h).residue
    pub adds_up : AddsToZero (carried_by pricing sharing e h)
    pub residues : ResiduesSmall (sharing e.sharing_rule) (pricing e.price_rule) h

  -- while it is cleared
  pub record ClearedLaw (s : Cleared P S) (t : Places) : Type 0 where
    pub ledger : LedgerLaw s.ledger t
    -- the matched volumes and the zone prices are those that the definitions give for the standing blocks
    pub volumes : schedule_in (blocks_in s.session t) ≡ (outcome_by pricing sharing e h).schedule
    pub price₁ : s.report.price_one ≡ (outcome_by pricing sharing e h).price₁
    pub price₂ : s.report.price_two ≡ (outcome_by pricing sharing e h).price₂
    -- a balanced schedule of the standing blocks within the capacities, with the flow that was reported, and none better; no block trades
    -- at a loss and none is short that would have gained; no congestion income is below zero
    pub well : ClearedWell (begun h).there (begun h).back (standing_book One h) (standing_book Two h) (held_outcome (blocks_in s.session t) s.report)
    -- and with the surplus that was reported
    pub gained : s.report.surplus ≡ surplus (schedule_in (blocks_in s.session t))

  abbrev pub Law : Exchange P S → Places → Type 0
  Law (exchange.Idle s) t = LedgerLaw s.ledger t
  Law (exchange.Open s) t = LedgerLaw s.ledger t
  Law (exchange.Closed s) t = LedgerLaw s.ledger t
  Law (exchange.Cleared s) t = ClearedLaw s t
