-- Whole runs: any list of calls, each with its answer, nothing else touching the exchange and what is lent to it.
-- To believe: that Law says what a market may expect, and that before and after each call means what Throughout says.
use Rattle.std.specs.Prelude.{◌≡◌, ℕ, List, [], ◌∷◌, ℤ, Result}
use Rattle.market.specs.declared.call.Call.{Call}
use Rattle.auction.specs.declared.engine.Engine.{Engine}
use Rattle.session.specs.Tables.{Places}
use Rattle.exchange.specs.After.{After}
use Rattle.exchange.specs.Applying.{Does, answered, next}
use Rattle.exchange.specs.History.{History, event}
use Rattle.exchange.specs.Law.{Law}
use Rattle.exchange.specs.declared.exchange.Answer.{Answer}
use Rattle.exchange.specs.declared.exchange.Exchange.{Exchange}
use Rattle.exchange.specs.declared.state.Refused.{Refused}

-- the history that calls and their answers add, as far as both go
abbrev pub told : List Call → List Answer → History → History
told [] answers h = h
told (c ∷ calls) [] h = h
told (c ∷ calls) (a ∷ answers) h = told calls answers (event c a ∷ h)

module _ {P S : Type 0} (pricing : P → ℤ → ℤ → ℤ) (sharing : S → ℕ → ℕ → ℕ → ℕ) where
  -- the exchange, which holds the rules of e, and its tables are what the history says, and keep the law
  pub record LawfulAfter (e : Engine P S) (h : History) (x : Exchange P S) (t : Places) : Type 0 where
    pub after : After pricing sharing e h x t
    pub law : Law pricing sharing e h x t

  -- whatever happened before, the law holds after the call too, for the history with this call and its answer
  abbrev pub Step : Call → Answer → Exchange P S → Places → Exchange P S → Places → Type 0
  Step c a x t y u = (e : Engine P S) (h : History) → LawfulAfter e h x t → LawfulAfter e (event c a ∷ h) y u

  -- the same of a call of a state, whose result is r
  abbrev pub ResultStep : {U V : Type 0} → Call → (U → Exchange P S) → (V → Exchange P S) → (U → Answer) → Exchange P S → Places → Result U (Refused V) → Places → Type 0
  ResultStep c onward same with' x t r u = Step c (answered with' r) x t (next onward same r) u

  -- from (x, t), after the history h, the calls are answered so, each does what such a call does, and they lead to (z, v); before and
  -- after each call the law holds
  abbrev pub Throughout : Engine P S → History → Exchange P S → Places → List Call → List Answer → Exchange P S → Places → Type 0
  Throughout e h x t [] answers z v = LawfulAfter e h x t × (z ≡ x) × (v ≡ t)
  Throughout e h x t (c ∷ calls) [] z v = LawfulAfter e h x t × (z ≡ x) × (v ≡ t)
  Throughout e h x t (c ∷ calls) (a ∷ answers) z v =
      LawfulAfter e h x t × ((y : Exchange P S) × (u : Places) × Does pricing sharing x t c y a u × Throughout e (event c a ∷ h) y u calls answers z v)
