-- How the first cause of a list follows from the first causes of its parts.
use Rattle.std.proofs.Common.{List, [], ◌∷◌, ◌++◌, Ok, Err, Result}
use Rattle.market.specs.Refusals.{Cause, FirstCause}
use Rattle.market.specs.declared.refusal.Refusal.{Refusal}

-- the front refuses
pub first_refuses : (A B : Type 0) (cs ds : List Cause) (w : Refusal) → FirstCause {A = A} cs (Err w) → FirstCause {A = B} (cs ++ ds) (Err w)
first_refuses A B [] ds w h = absurd h
first_refuses A B (c ∷ cs) ds w h = (h.0, λ n. first_refuses A B cs ds w (h.1 n))

-- the front accepts
pub first_accepts : {A B : Type 0} (cs ds : List Cause) (x : A) (r : Result B Refusal) → FirstCause cs (Ok x) → FirstCause ds r → FirstCause (cs ++ ds) r
first_accepts [] ds x r h k = k
first_accepts (c ∷ cs) ds x r h k = (λ y. absurd (h.0 y), λ n. first_accepts cs ds x r (h.1 n) k)

-- a cause that does not hold
pub first_later : {A : Type 0} (c : Cause) (cs : List Cause) (r : Result A Refusal) → (c.holds → ⊥) → FirstCause cs r → FirstCause (c ∷ cs) r
first_later c cs r n k = (λ y. absurd (n y), λ _. k)
