-- What a line of a call file does to an exchange. To believe: that a line which is the text of a call makes that call, and that any other
-- line is refused as no form and changes nothing.
use Rattle.std.specs.Prelude.{◌≡◌, ℕ, List, ℤ, Some, Option}
use Rattle.market.specs.declared.call.Call.{Call}
use Rattle.market.specs.declared.refusal.Refusal.TheVariants.{NoForm}
use Rattle.callfile.specs.Text.{Writable, text}
use Rattle.session.specs.Tables.{Places}
use Rattle.exchange.specs.Applying.{Does}
use Rattle.exchange.specs.Runs.{Step}
use Rattle.exchange.specs.declared.exchange.Answer.{Answer}
use Rattle.exchange.specs.declared.exchange.Answer.TheVariants.{Refused}
use Rattle.exchange.specs.declared.exchange.Exchange.{Exchange}

-- the line is the text of the call; it is None where it is too long
abbrev pub Says : Option (List ℕ) → Call → Type 0
Says line c = Writable c × (line ≡ Some (text c))

module _ {P S : Type 0} (pricing : P → ℤ → ℤ → ℤ) (sharing : S → ℕ → ℕ → ℕ → ℕ) where
  -- what the line leads to: the exchange y, the answer a and the places u
  pub record AnswersLine (line : Option (List ℕ)) (x : Exchange P S) (t : Places) (y : Exchange P S) (a : Answer) (u : Places) : Type 0 where
    pub does : (c : Call) → Says line c → Does pricing sharing x t c y a u
    pub step : (c : Call) → Says line c → Step pricing sharing c a x t y u
    pub none : ((c : Call) → Says line c → ⊥) → (a ≡ Refused NoForm) × (y ≡ x) × (u ≡ t)
