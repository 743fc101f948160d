-- Lines, one byte after the other.
use Rattle.std.proofs.Common.{◌≡◌, ℕ, Bool, true, false, cond, eqb, List, [], ◌∷◌, ◌++◌, is_err, IfOk, Ok, Err, Option, Result, refl, subst}
use Rattle.service.specs.Lines.{Answered, begun_after, ended}

pub begun_more : (line : List ℕ) (byte : ℕ) (rest : List ℕ) → begun_after (begun_after line (byte ∷ [])) rest ≡ begun_after line (byte ∷ rest)
begun_more line byte rest =
    let P : Bool → Type 0 = λ b. begun_after (cond b [] (line ++ byte ∷ [])) rest ≡ cond b (begun_after [] rest) (begun_after (line ++ byte ∷ []) rest) in
    elim (eqb byte 10) as P [ true ↦ refl | false ↦ refl ]

pub answered_more : {S : Type 0} (turns : S → Option (List ℕ) → S → Type 0) (s m t : S) (line : List ℕ) (byte : ℕ) (rest : List ℕ)
    → Answered turns s (ended line (byte ∷ [])) m → Answered turns m (ended (begun_after line (byte ∷ [])) rest) t → Answered turns s (ended line (byte ∷ rest)) t
answered_more turns s m t line byte rest =
    let P : Bool → Type 0 = λ b. Answered turns s (cond b (line ∷ []) []) m → Answered turns m (ended (cond b [] (line ++ byte ∷ [])) rest) t → Answered turns s (cond b (line ∷ ended [] rest) (ended (line ++ byte ∷ []) rest)) t in
    elim (eqb byte 10) as P [
      | true ↦ λ one more. (one.0, one.1, subst (λ x. Answered turns x (ended [] rest) t) one.2 more)
      | false ↦ λ same more. subst (λ x. Answered turns x (ended (line ++ byte ∷ []) rest) t) same more
    ]

pub answered_append : {S : Type 0} (turns : S → Option (List ℕ) → S → Type 0) (s m t : S) (xs ys : List (List ℕ))
    → Answered turns s xs m → Answered turns m ys t → Answered turns s (xs ++ ys) t
answered_append turns s m t [] ys same more = subst (λ x. Answered turns x ys t) same more
answered_append turns s m t (x ∷ xs) ys one more = (one.0, one.1, answered_append turns one.0 m t xs ys one.2 more)

pub made_ok : {X Y : Type 0} (r : Result X Y) (P : Type 0) → is_err r ≡ false → IfOk r (λ _. P) → P
made_ok (Ok x) P e h = h
made_ok (Err y) P e h = absurd (subst (λ (b : Bool). cond b (Unit {0}) ⊥) e tt)

pub made_all : {X Y : Type 0} (r : Result X Y) (P : Type 0) → P → IfOk r (λ _. P)
made_all (Ok x) P h = h
made_all (Err y) P h = tt
