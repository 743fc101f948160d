-- What a call answers and leaves behind. To believe: a refused call leaves what was lent to it as it was, and hands the same state back.
use Rattle.std.specs.Prelude.{◌≡◌, ℕ, ◌+◌, List, pos, Some, None, Ok, Err, Option, Result}
use Rattle.market.specs.declared.account.Account.{Account}
use Rattle.market.specs.declared.purchase.Purchase.{Purchase}
use Rattle.market.specs.declared.refusal.Refusal.{Refusal}
use Rattle.market.specs.declared.sale.Sale.{Sale}
use Rattle.session.specs.Tables.{Blocks, Counted, Kind, Stands, ZoneTables, account_kind, lent, new_account, put_in, taken_out}
use Rattle.market.specs.declared.capacities.Capacities.{Capacities}
use Rattle.session.specs.declared.ledger.Ledger.{Ledger}
use Rattle.session.specs.declared.session.Session.{Session}
use Rattle.session.specs.declared.session.ZoneCounts.{ZoneCounts}

-- an accepted call leaves what Then says of its answer and of y; a refused one leaves y as x was
abbrev pub Leaves : {A T : Type 0} → T → (A → T → Type 0) → Result A Refusal → T → Type 0
Leaves x Then (Ok a) y = Then a y
Leaves x Then (Err why) y = y ≡ x

-- what an accepted check has found
abbrev pub Passed : {A : Type 0} → Type 0 → Result A Refusal → Type 0
Passed P (Ok a) = P
Passed P (Err why) = Unit {0}

-- the new count and the new places are those of a table
abbrev pub Becomes : {X : Type 0} → Counted X → ℕ → List X → Type 0
Becomes t n xs = (n ≡ t.count) × (xs ≡ t.places)

abbrev pub Found : {X K : Type 0} → Kind X K → K → Counted X → Option ℕ → List X → Type 0
Found k key t (Some n) xs = Stands k key t × Becomes (taken_out k key t) n xs
Found k key t None xs = (Stands k key t → ⊥) × (xs ≡ t.places)

-- one more account
abbrev pub admitted_in : ℕ → List Account → Ledger → Counted Account
admitted_in agent xs l = put_in account_kind (new_account agent) (lent xs l.accounts)

abbrev pub Admits : ℕ → List Account → Ledger → Ledger → List Account → Type 0
Admits agent xs l m ys = (m ≡ record { accounts = l.accounts + 1; last_session = l.last_session; totals = l.totals }) × (ys ≡ (admitted_in agent xs l).places)

-- the tables of a zone become next, or stay as they were where the call is refused
abbrev pub ZoneBecomes : List Sale → List Purchase → ZoneTables → Result ZoneCounts Refusal → List Sale → List Purchase → Type 0
ZoneBecomes ss ps next (Ok m) ts qs = Becomes next.sales m.sales ts × Becomes next.purchases m.purchases qs
ZoneBecomes ss ps next (Err why) ts qs = (ts ≡ ss) × (qs ≡ ps)

-- and of both zones, under the same capacities
abbrev pub SessionBecomes : Session → List Sale → List Purchase → List Sale → List Purchase → Blocks → Result Session Refusal → List Sale → List Purchase → List Sale → List Purchase → Type 0
SessionBecomes s a b c d next (Ok m) a' b' c' d' =
    (m.capacities ≡ s.capacities)
    × Becomes next.one.sales m.one.sales a' × Becomes next.one.purchases m.one.purchases b'
    × Becomes next.two.sales m.two.sales c' × Becomes next.two.purchases m.two.purchases d'
SessionBecomes s a b c d next (Err why) a' b' c' d' = (a' ≡ a) × (b' ≡ b) × (c' ≡ c) × (d' ≡ d)

-- a session in which no block stands
abbrev pub empty_session : Capacities → Session
empty_session c = record { capacities = c; one = record { sales = 0; purchases = 0 }; two = record { sales = 0; purchases = 0 } }

abbrev pub new_ledger : Ledger
new_ledger = record { accounts = 0; last_session = 0; totals = record { income = pos 0; residue = pos 0 } }

abbrev pub with_number : Ledger → ℕ → Ledger
with_number l n = record { accounts = l.accounts; last_session = n; totals = l.totals }

-- the capacities are these
abbrev pub Carries : Capacities → ℕ → ℕ → Type 0
Carries c there back = (c.forward ≡ there) × (c.backward ≡ back)

abbrev pub BegunWith : Ledger → ℕ → ℕ → ℕ → Result (Ledger × Capacities) Refusal → Type 0
BegunWith l n there back (Ok r) = (r.0 ≡ with_number l n) × Carries r.1 there back
BegunWith l n there back (Err why) = Unit {0}
