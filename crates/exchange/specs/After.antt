-- What an exchange and the tables lent to it are after a history. To believe: nothing; what matters follows from it in Law.
use Rattle.std.specs.Prelude.{◌≡◌, ℕ, ◌*◌, ◌≤◌, List, [], ◌∷◌, length, ℤ, pos, ◌+ℤ◌, unsigned_abs}
use Rattle.table.specs.Rows.{Sound}
use Rattle.market.specs.declared.call.Call.{Call}
use Rattle.market.specs.declared.call.Call.TheVariants.{Admit, Begin, Enter, Withdraw, Close, Clear, Settle, Annul}
use Rattle.market.specs.declared.purchase.Purchase.{Purchase}
use Rattle.market.specs.declared.sale.Sale.{Sale}
use Rattle.market.specs.declared.zone.Zone.{Zone}
use Rattle.market.specs.declared.zone.Zone.TheVariants.{One, Two}
use Rattle.auction.specs.Clearing.{Outcome}
use Rattle.settlement.specs.Entries.{entries_of}
use Rattle.settlement.specs.Postings.{residue_of, total}
use Rattle.session.specs.Outcomes.{Reports}
use Rattle.exchange.specs.History.{Carried, History, accepted, begun, carried, cleared', closed, idle, open', outcome, phase, refused, standing_purchases, standing_sales, to_settle}
use Rattle.session.specs.Tables.{Blocks, Counted, Kind, Places, ZoneTables, account_kind, as_purchases, as_sales, blocks_in, lent, purchase_kind, rows_of, sale_kind}
use Rattle.auction.specs.declared.engine.Engine.{Engine}
use Rattle.exchange.specs.declared.exchange.Exchange.{Exchange}
use Rattle.exchange.specs.declared.exchange.Exchange.TheVariants as exchange
use Rattle.session.specs.declared.ledger.Ledger.{Ledger}
use Rattle.session.specs.declared.session.Session.{Session}
use Rattle.exchange.specs.declared.state.Cleared.{Cleared}
use Rattle.exchange.specs.declared.state.Closed.{Closed}
use Rattle.exchange.specs.declared.state.Idle.{Idle}
use Rattle.exchange.specs.declared.state.Open.{Open}

-- the counted rows of a table are xs
pub record Holding {X : Type 0} (t : Counted X) (xs : List X) : Type 0 where
  pub within : t.count ≤ length t.places
  pub rows : rows_of t ≡ xs

pub record ZoneHolding (t : ZoneTables) (ss : List Sale) (ps : List Purchase) : Type 0 where
  pub sales : Holding t.sales ss
  pub purchases : Holding t.purchases ps

abbrev pub SoundRows : {X K : Type 0} → Kind X K → List X → Type 0
SoundRows k xs = Sound k.order k.limits xs

-- the standing blocks of a zone are within their limits, in order, with no key twice
pub record ZoneStanding (z : Zone) (h : History) : Type 0 where
  pub sales : SoundRows sale_kind (standing_sales z h)
  pub purchases : SoundRows purchase_kind (standing_purchases z h)

module _ (g : ℕ → ℕ → ℕ → ℕ) (f : ℤ → ℤ → ℤ) where
  -- each settle moved the residue by at most half a cent for each entry that it wrote; h is what happened before the call
  abbrev pub ResiduesAfter : Call → History → Type 0 → Type 0
  ResiduesAfter (Admit a) h so_far = so_far
  ResiduesAfter (Begin n there back) h so_far = so_far
  ResiduesAfter (Enter z s b) h so_far = so_far
  ResiduesAfter (Withdraw z s k) h so_far = so_far
  ResiduesAfter Close h so_far = so_far
  ResiduesAfter Clear h so_far = so_far
  ResiduesAfter Settle h so_far = (2 * unsigned_abs (residue_of (to_settle (outcome g f h))) ≤ length (entries_of (to_settle (outcome g f h)))) × so_far
  ResiduesAfter Annul h so_far = so_far

  abbrev pub ResiduesSmall : History → Type 0
  ResiduesSmall [] = Unit {0}
  ResiduesSmall (refused c why ∷ h) = ResiduesSmall h
  ResiduesSmall (accepted c ∷ h) = ResiduesAfter c h (ResiduesSmall h)

-- positions, income and residue add up to zero
abbrev pub AddsToZero : Carried → Type 0
AddsToZero x = total (λ a. a.position) x.accounts +ℤ x.income +ℤ x.residue ≡ pos 0

module _ {P S : Type 0} (pricing : P → ℤ → ℤ → ℤ) (sharing : S → ℕ → ℕ → ℕ → ℕ) (e : Engine P S) (h : History) where
  -- what is carried from session to session
  abbrev pub carried_by : Carried
  carried_by = carried (sharing e.sharing_rule) (pricing e.price_rule) h

  abbrev pub outcome_by : Outcome
  outcome_by = outcome (sharing e.sharing_rule) (pricing e.price_rule) h

  pub record LedgerAfter (l : Ledger) (t : Places) : Type 0 where
    pub accounts : Holding (lent t.accounts l.accounts) carried_by.accounts
    pub sound : SoundRows account_kind carried_by.accounts
    pub number : l.last_session ≡ (begun h).number
    pub income : l.totals.income ≡ carried_by.income
    pub residue : l.totals.residue ≡ carried_by.residue
    pub adds_up : AddsToZero carried_by
    pub residues : ResiduesSmall (sharing e.sharing_rule) (pricing e.price_rule) h

  pub record SessionAfter (s : Session) : Type 0 where
    pub there : s.capacities.forward ≡ (begun h).there
    pub back : s.capacities.backward ≡ (begun h).back
    pub sound₁ : ZoneStanding One h
    pub sound₂ : ZoneStanding Two h

  -- nothing is matched of the standing blocks, which the tables hold
  pub record Unmatched (t : Blocks) : Type 0 where
    pub one : ZoneHolding t.one (standing_sales One h) (standing_purchases One h)
    pub two : ZoneHolding t.two (standing_sales Two h) (standing_purchases Two h)

  -- the tables hold the schedule of the outcome
  pub record Matched (t : Blocks) : Type 0 where
    pub one : ZoneHolding t.one (as_sales outcome_by.schedule.zone₁.sales) (as_purchases outcome_by.schedule.zone₁.purchases)
    pub two : ZoneHolding t.two (as_sales outcome_by.schedule.zone₂.sales) (as_purchases outcome_by.schedule.zone₂.purchases)

  pub record AfterIdle (s : Idle P S) (t : Places) : Type 0 where
    pub ruled : s.engine ≡ e
    pub phased : phase h ≡ idle
    pub ledger : LedgerAfter s.ledger t

  pub record AfterOpen (s : Open P S) (t : Places) : Type 0 where
    pub ruled : s.engine ≡ e
    pub phased : phase h ≡ open'
    pub ledger : LedgerAfter s.ledger t
    pub session : SessionAfter s.session
    pub blocks : Unmatched (blocks_in s.session t)

  pub record AfterClosed (s : Closed P S) (t : Places) : Type 0 where
    pub ruled : s.engine ≡ e
    pub phased : phase h ≡ closed
    pub ledger : LedgerAfter s.ledger t
    pub session : SessionAfter s.session
    pub blocks : Unmatched (blocks_in s.session t)

  pub record AfterCleared (s : Cleared P S) (t : Places) : Type 0 where
    pub ruled : s.engine ≡ e
    pub phased : phase h ≡ cleared'
    pub ledger : LedgerAfter s.ledger t
    pub session : SessionAfter s.session
    pub blocks : Matched (blocks_in s.session t)
    pub report : Reports outcome_by s.report

  abbrev pub After : Exchange P S → Places → Type 0
  After (exchange.Idle s) t = AfterIdle s t
  After (exchange.Open s) t = AfterOpen s t
  After (exchange.Closed s) t = AfterClosed s t
  After (exchange.Cleared s) t = AfterCleared s t
