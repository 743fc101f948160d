-- What each call makes of a state and of what is lent to it. To believe: these are what the calls are for (docs/MARKET.md).
use Rattle.std.specs.Prelude.{◌≡◌, ℕ, List, Ok, Err, Result}
use Rattle.market.specs.declared.account.Account.{Account}
use Rattle.market.specs.declared.block.Bid.{Bid}
use Rattle.market.specs.declared.block.BlockKey.{BlockKey}
use Rattle.market.specs.declared.refusal.Refusal.{Refusal}
use Rattle.market.specs.declared.zone.Side.{Side}
use Rattle.auction.specs.Clearing.{Outcome}
use Rattle.settlement.specs.Entries as settled
use Rattle.settlement.specs.declared.entry.Entry.{Entry}
use Rattle.settlement.specs.declared.settle.Settled.{Settled}
use Rattle.session.specs.Changes.{Admits, Carries, empty_session, new_ledger, with_number}
use Rattle.session.specs.Outcomes.{Four, IsNow, Posts, ReportsAndWrites, blocks_at}
use Rattle.session.specs.Tables.{Blocks, entered_in, in_zone, withdrawn_in, zone_at}
use Rattle.auction.specs.declared.engine.Engine.{Engine}
use Rattle.exchange.specs.declared.state.Cleared.{Cleared}
use Rattle.exchange.specs.declared.state.Closed.{Closed}
use Rattle.exchange.specs.declared.state.Idle.{Idle}
use Rattle.exchange.specs.declared.state.Open.{Open}
use Rattle.exchange.specs.declared.state.Refused.{Refused}

-- a call on a state: an accepted one leaves what Then says, and a refused one hands the same state back and leaves y as x was
abbrev pub Moves : {S U T : Type 0} → S → T → (U → T → Type 0) → Result U (Refused S) → T → Type 0
Moves s x Then (Ok u) y = Then u y
Moves s x Then (Err e) y = (e.state ≡ s) × (y ≡ x)

-- the answer without the state
abbrev pub reason : {S U : Type 0} → Result U (Refused S) → Result U Refusal
reason (Ok u) = Ok u
reason (Err e) = Err e.why

module _ {P S : Type 0} where
  -- a new exchange is idle, with no account, no block and no session begun
  abbrev pub new_idle : Engine P S → Idle P S
  new_idle e = record { engine = e; ledger = new_ledger }

  -- one account more
  abbrev pub IdleAdmits : ℕ → List Account → Idle P S → Idle P S → List Account → Type 0
  IdleAdmits agent xs s o ys = (o.engine ≡ s.engine) × Admits agent xs s.ledger o.ledger ys

  abbrev pub OpenAdmits : ℕ → List Account → Open P S → Open P S → List Account → Type 0
  OpenAdmits agent xs s o ys = (o.engine ≡ s.engine) × Admits agent xs s.ledger o.ledger ys × (o.session ≡ s.session)

  -- no block is counted, and the capacities are those of the call
  pub record BegunFrom (s : Idle P S) (number there back : ℕ) (o : Open P S) : Type 0 where
    pub engine : o.engine ≡ s.engine
    pub ledger : o.ledger ≡ with_number s.ledger number
    pub capacities : Carries o.session.capacities there back
    pub session : o.session ≡ empty_session o.session.capacities

  abbrev pub Begins : Idle P S → ℕ → ℕ → ℕ → Result (Open P S) (Refused (Idle P S)) → Type 0
  Begins s number there back r = Moves s (tt {0}) (λ o x. BegunFrom s number there back o) r (tt {0})

  -- the tables of blocks become next, and nothing else changes
  pub record ChangedBlocks (s : Open P S) (next : Blocks) (o : Open P S) (t : Four) : Type 0 where
    pub engine : o.engine ≡ s.engine
    pub ledger : o.ledger ≡ s.ledger
    pub capacities : o.session.capacities ≡ s.session.capacities
    pub blocks : IsNow next o.session t

  abbrev pub Enters : ℕ → Side → Bid → Open P S → Four → Result (Open P S) (Refused (Open P S)) → Four → Type 0
  Enters n side b s t r u = Moves s t (ChangedBlocks s (in_zone (zone_at n) (entered_in side b) (blocks_at s.session t))) r u

  abbrev pub Withdraws : ℕ → Side → BlockKey → Open P S → Four → Result (Open P S) (Refused (Open P S)) → Four → Type 0
  Withdraws n side k s t r u = Moves s t (ChangedBlocks s (in_zone (zone_at n) (withdrawn_in side k) (blocks_at s.session t))) r u

  abbrev pub closes : Open P S → Closed P S
  closes s = record { engine = s.engine; ledger = s.ledger; session = s.session }

  abbrev pub annulled_open : Open P S → Idle P S
  annulled_open s = record { engine = s.engine; ledger = s.ledger }

  abbrev pub annulled_closed : Closed P S → Idle P S
  annulled_closed s = record { engine = s.engine; ledger = s.ledger }

  abbrev pub annulled_cleared : Cleared P S → Idle P S
  annulled_cleared s = record { engine = s.engine; ledger = s.ledger }

  -- the tables hold the schedule of the clearing, and its numbers are reported
  pub record ClearedFrom (o : Outcome) (s : Closed P S) (t : Four) (c : Cleared P S) (u : Four) : Type 0 where
    pub engine : c.engine ≡ s.engine
    pub ledger : c.ledger ≡ s.ledger
    pub session : c.session ≡ s.session
    pub cleared : ReportsAndWrites o s.session t c.report u

  abbrev pub ClearsFrom : Outcome → Closed P S → Four → Result (Cleared P S) (Refused (Closed P S)) → Four → Type 0
  ClearsFrom o s t r u = Moves s t (ClearedFrom o s t) r u

  -- the entries are written and posted, and the exchange is idle
  pub record SettledFrom (o : settled.Outcome) (s : Cleared P S) (xs : List Account) (es : List Entry) (d : Idle P S × Settled) (ys : List Account) (fs : List Entry) : Type 0 where
    pub engine : d.0.engine ≡ s.engine
    pub ledger : d.0.ledger ≡ record { accounts = s.ledger.accounts; last_session = s.ledger.last_session; totals = d.1.exchange }
    pub posted : Posts o s.ledger xs es (Ok d.1) ys fs

  abbrev pub SettlesFrom : settled.Outcome → Cleared P S → List Account → List Entry → Result (Idle P S × Settled) (Refused (Cleared P S)) → List Account → List Entry → Type 0
  SettlesFrom o s xs es (Ok d) ys fs = SettledFrom o s xs es d ys fs
  SettlesFrom o s xs es (Err e) ys fs = (e.state ≡ s) × (ys ≡ xs) × (fs ≡ es)
