-- Lemmas for the laws of the orders: the lexical order of lists of integers is strict and total. To believe: nothing.
use Rattle.std.specs.Prelude.{◌≡◌, ℕ, true, false, List, [], ◌∷◌, ℤ, ◌≢◌, int_lt, refl}
use Rattle.std.proofs.Common.{⊎_elim, arith}
use Rattle.std.proofs.lemmas.Int.{ints}
use Rattle.std.proofs.lemmas.Bool.{cases_Bool}
use Rattle.market.specs.Precedence.{lex}

below_itself : (x : ℤ) → int_lt x x ≡ false
below_itself x = grind (arith, ints)

pub lex_never : (xs : List ℤ) → lex xs xs ≡ false
lex_never [] = refl
lex_never (x ∷ xs) = rw (below_itself x) (lex_never xs)

pub lex_chains : (xs ys zs : List ℤ) → lex xs ys ≡ true → lex ys zs ≡ true → lex xs zs ≡ true
lex_chains [] [] zs h k = absurd (let z : ◌≡◌ {A = ℕ} 0 1 = cc in let w : ⊥ = omega arith in w)
lex_chains [] (y ∷ ys) [] h k = absurd (let z : ◌≡◌ {A = ℕ} 0 1 = cc in let w : ⊥ = omega arith in w)
lex_chains [] (y ∷ ys) (z ∷ zs) h k = refl
lex_chains (x ∷ xs) [] zs h k = absurd (let z : ◌≡◌ {A = ℕ} 0 1 = cc in let w : ⊥ = omega arith in w)
lex_chains (x ∷ xs) (y ∷ ys) [] h k = absurd (let z : ◌≡◌ {A = ℕ} 0 1 = cc in let w : ⊥ = omega arith in w)
lex_chains (x ∷ xs) (y ∷ ys) (z ∷ zs) h k = let ih = lex_chains xs ys zs in grind (arith, ints)

pub lex_total : (xs ys : List ℤ) → lex xs ys ≡ false → lex ys xs ≡ false → xs ≡ ys
lex_total [] [] h k = refl
lex_total [] (y ∷ ys) h k = absurd (let z : ◌≡◌ {A = ℕ} 0 1 = cc in let w : ⊥ = omega arith in w)
lex_total (x ∷ xs) [] h k = absurd (let z : ◌≡◌ {A = ℕ} 0 1 = cc in let w : ⊥ = omega arith in w)
lex_total (x ∷ xs) (y ∷ ys) h k =
    let a : lex xs ys ≡ false = grind (arith, ints) in
    let b : lex ys xs ≡ false = grind (arith, ints) in
    let e : x ≡ y = grind (arith, ints) in
    let t = lex_total xs ys a b in
    cc

-- lists that differ: one comes first
pub lex_apart : (xs ys : List ℤ) → (xs ≢ ys) → lex xs ys ≡ false → lex ys xs ≡ true
lex_apart xs ys n h =
    ⊎_elim (λ t. t) (λ f. absurd (n (lex_total xs ys h f))) (cases_Bool (lex ys xs))
