-- What a call does to an exchange, in whichever state it is. To believe: which calls belong to which states, and that a call of another
-- state is refused as such and changes nothing.
use Rattle.std.specs.Prelude.{◌≡◌, ℕ, List, ℤ, Ok, Err, Result}
use Rattle.market.specs.Refusals.{FirstCause}
use Rattle.market.specs.declared.account.Account.{Account}
use Rattle.market.specs.declared.call.Call.{Call}
use Rattle.market.specs.declared.call.Call.TheVariants.{Admit, Begin, Enter, Withdraw, Close, Clear, Settle, Annul}
use Rattle.market.specs.declared.refusal.Refusal.TheVariants.{WrongState}
use Rattle.settlement.specs.declared.settle.Settled.{Settled}
use Rattle.session.specs.Causes.{admit_causes, begin_causes, clear_causes, enter_causes, settle_causes, withdraw_causes}
use Rattle.session.specs.Outcomes.{Four, blocks_at, four, held_for, outcome_at}
use Rattle.session.specs.Tables.{Places, lent, places, zone_at}
use Rattle.exchange.specs.Calls.{Begins, ClearsFrom, Enters, IdleAdmits, Moves, OpenAdmits, SettlesFrom, Withdraws, annulled_cleared, annulled_closed, annulled_open, closes, reason}
use Rattle.exchange.specs.declared.exchange.Answer.{Answer}
use Rattle.exchange.specs.declared.exchange.Answer.TheVariants as answer
use Rattle.exchange.specs.declared.exchange.Exchange.{Exchange}
use Rattle.exchange.specs.declared.exchange.Exchange.TheVariants as exchange
use Rattle.exchange.specs.declared.state.Cleared.{Cleared}
use Rattle.exchange.specs.declared.state.Closed.{Closed}
use Rattle.exchange.specs.declared.state.Idle.{Idle}
use Rattle.exchange.specs.declared.state.Open.{Open}
use Rattle.exchange.specs.declared.state.Refused.{Refused}

-- the places of the tables of blocks, and other places for them or for the accounts
abbrev pub four_in : Places → Four
four_in t = four t.sales₁ t.purchases₁ t.sales₂ t.purchases₂

abbrev pub with_blocks : Places → Four → Places
with_blocks t f = places f.sales₁ f.purchases₁ f.sales₂ f.purchases₂ t.accounts t.entries

abbrev pub with_accounts : Places → List Account → Places
with_accounts t xs = places t.sales₁ t.purchases₁ t.sales₂ t.purchases₂ xs t.entries

-- the exchange after a call of a state: onward where it is accepted, and as it was where it is refused
abbrev pub next : {U V X : Type 0} → (U → X) → (V → X) → Result U (Refused V) → X
next onward same (Ok u) = onward u
next onward same (Err e) = same e.state

-- and its answer
abbrev pub answered : {U V : Type 0} → (U → Answer) → Result U (Refused V) → Answer
answered with' (Ok u) = with' u
answered with' (Err e) = answer.Refused e.why

abbrev pub accepting : {U : Type 0} → U → Answer
accepting u = answer.Accepted

module _ {P S : Type 0} where
  abbrev pub reporting : Cleared P S → Answer
  reporting s = answer.Cleared s.report

  abbrev pub settling : Idle P S × Settled → Answer
  settling d = answer.Settled d.1

  abbrev pub settled_idle : Idle P S × Settled → Exchange P S
  settled_idle d = exchange.Idle d.0

  -- y and a are what the result r of a state's own call comes to
  abbrev pub ComesTo : {U V : Type 0} → (U → Exchange P S) → (V → Exchange P S) → (U → Answer) → Result U (Refused V) → Exchange P S → Answer → Type 0
  ComesTo onward same with' r y a = (y ≡ next onward same r) × (a ≡ answered with' r)

  -- an accepted call that has nothing to check
  abbrev pub TurnsTo : Exchange P S → Places → Exchange P S → Answer → Places → Type 0
  TurnsTo z t y a u = (y ≡ z) × (a ≡ answer.Accepted) × (u ≡ t)

  abbrev pub OfAnotherState : Exchange P S → Places → Exchange P S → Answer → Places → Type 0
  OfAnotherState x t y a u = (y ≡ x) × (a ≡ answer.Refused WrongState) × (u ≡ t)

  module _ (pricing : P → ℤ → ℤ → ℤ) (sharing : S → ℕ → ℕ → ℕ → ℕ) where
    abbrev pub IdleDoes : Idle P S → Places → Call → Exchange P S → Answer → Places → Type 0
    IdleDoes s t (Admit agent) y a u =
        (r : Result (Idle P S) (Refused (Idle P S)))
        × FirstCause (admit_causes agent (lent t.accounts s.ledger.accounts)) (reason r)
        × Moves s t.accounts (IdleAdmits agent t.accounts s) r u.accounts
        × (u ≡ with_accounts t u.accounts)
        × ComesTo exchange.Idle exchange.Idle accepting r y a
    IdleDoes s t (Begin n there back) y a u =
        (r : Result (Open P S) (Refused (Idle P S)))
        × FirstCause (begin_causes s.ledger.last_session n there back) (reason r)
        × Begins s n there back r
        × (u ≡ t)
        × ComesTo exchange.Open exchange.Idle accepting r y a
    IdleDoes s t (Enter z side b) y a u = OfAnotherState (exchange.Idle s) t y a u
    IdleDoes s t (Withdraw z side k) y a u = OfAnotherState (exchange.Idle s) t y a u
    IdleDoes s t Close y a u = OfAnotherState (exchange.Idle s) t y a u
    IdleDoes s t Clear y a u = OfAnotherState (exchange.Idle s) t y a u
    IdleDoes s t Settle y a u = OfAnotherState (exchange.Idle s) t y a u
    IdleDoes s t Annul y a u = OfAnotherState (exchange.Idle s) t y a u

    abbrev pub OpenDoes : Open P S → Places → Call → Exchange P S → Answer → Places → Type 0
    OpenDoes s t (Admit agent) y a u =
        (r : Result (Open P S) (Refused (Open P S)))
        × FirstCause (admit_causes agent (lent t.accounts s.ledger.accounts)) (reason r)
        × Moves s t.accounts (OpenAdmits agent t.accounts s) r u.accounts
        × (u ≡ with_accounts t u.accounts)
        × ComesTo exchange.Open exchange.Open accepting r y a
    OpenDoes s t (Begin n there back) y a u = OfAnotherState (exchange.Open s) t y a u
    OpenDoes s t (Enter z side b) y a u =
        (r : Result (Open P S) (Refused (Open P S)))
        × FirstCause (enter_causes (zone_at z) side b (blocks_at s.session (four_in t)) (lent t.accounts s.ledger.accounts)) (reason r)
        × Enters z side b s (four_in t) r (four_in u)
        × (u ≡ with_blocks t (four_in u))
        × ComesTo exchange.Open exchange.Open accepting r y a
    OpenDoes s t (Withdraw z side k) y a u =
        (r : Result (Open P S) (Refused (Open P S)))
        × FirstCause (withdraw_causes (zone_at z) side k (blocks_at s.session (four_in t))) (reason r)
        × Withdraws z side k s (four_in t) r (four_in u)
        × (u ≡ with_blocks t (four_in u))
        × ComesTo exchange.Open exchange.Open accepting r y a
    OpenDoes s t Close y a u = TurnsTo (exchange.Closed (closes s)) t y a u
    OpenDoes s t Clear y a u = OfAnotherState (exchange.Open s) t y a u
    OpenDoes s t Settle y a u = OfAnotherState (exchange.Open s) t y a u
    OpenDoes s t Annul y a u = TurnsTo (exchange.Idle (annulled_open s)) t y a u

    abbrev pub ClosedDoes : Closed P S → Places → Call → Exchange P S → Answer → Places → Type 0
    ClosedDoes s t (Admit agent) y a u = OfAnotherState (exchange.Closed s) t y a u
    ClosedDoes s t (Begin n there back) y a u = OfAnotherState (exchange.Closed s) t y a u
    ClosedDoes s t (Enter z side b) y a u = OfAnotherState (exchange.Closed s) t y a u
    ClosedDoes s t (Withdraw z side k) y a u = OfAnotherState (exchange.Closed s) t y a u
    ClosedDoes s t Close y a u = OfAnotherState (exchange.Closed s) t y a u
    ClosedDoes s t Clear y a u =
        (r : Result (Cleared P S) (Refused (Closed P S)))
        × FirstCause (clear_causes (blocks_at s.session (four_in t))) (reason r)
        × ClearsFrom (outcome_at (sharing s.engine.sharing_rule) (pricing s.engine.price_rule) s.session (four_in t)) s (four_in t) r (four_in u)
        × (u ≡ with_blocks t (four_in u))
        × ComesTo exchange.Cleared exchange.Closed reporting r y a
    ClosedDoes s t Settle y a u = OfAnotherState (exchange.Closed s) t y a u
    ClosedDoes s t Annul y a u = TurnsTo (exchange.Idle (annulled_closed s)) t y a u

    abbrev pub ClearedDoes : Cleared P S → Places → Call → Exchange P S → Answer → Places → Type 0
    ClearedDoes s t (Admit agent) y a u = OfAnotherState (exchange.Cleared s) t y a u
    ClearedDoes s t (Begin n there back) y a u = OfAnotherState (exchange.Cleared s) t y a u
    ClearedDoes s t (Enter z side b) y a u = OfAnotherState (exchange.Cleared s) t y a u
    ClearedDoes s t (Withdraw z side k) y a u = OfAnotherState (exchange.Cleared s) t y a u
    ClearedDoes s t Close y a u = OfAnotherState (exchange.Cleared s) t y a u
    ClearedDoes s t Clear y a u = OfAnotherState (exchange.Cleared s) t y a u
    ClearedDoes s t Settle y a u =
        (r : Result (Idle P S × Settled) (Refused (Cleared P S)))
        × FirstCause (settle_causes (held_for s.session s.report (four_in t)) (blocks_at s.session (four_in t)) (lent t.accounts s.ledger.accounts) t.entries s.ledger.totals.income s.ledger.totals.residue) (reason r)
        × SettlesFrom (held_for s.session s.report (four_in t)) s t.accounts t.entries r u.accounts u.entries
        × (four_in u ≡ four_in t)
        × ComesTo settled_idle exchange.Cleared settling r y a
    ClearedDoes s t Annul y a u = TurnsTo (exchange.Idle (annulled_cleared s)) t y a u

    abbrev pub Does : Exchange P S → Places → Call → Exchange P S → Answer → Places → Type 0
    Does (exchange.Idle s) = IdleDoes s
    Does (exchange.Open s) = OpenDoes s
    Does (exchange.Closed s) = ClosedDoes s
    Does (exchange.Cleared s) = ClearedDoes s
