-- Sums of integers over lists.
use Rattle.std.proofs.Common.{◌≡◌, ℕ, ◌+◌, ◌<◌, List, [], ◌∷◌, ◌++◌, length, get_or, take, ℤ, ◌+ℤ◌, sym, ap, ◌∙◌, arith}
use Rattle.std.proofs.lemmas.List.{take_more}
use Rattle.std.proofs.lemmas.Int.{ints}
use Rattle.settlement.specs.Postings.{total}

pub total_append : {X : Type 0} (f : X → ℤ) (xs ys : List X) → total f (xs ++ ys) ≡ total f xs +ℤ total f ys
total_append f [] ys = omega (arith, ints)
total_append f (x ∷ xs) ys = omega (arith, ints, total_append f xs ys)

-- over the first items, and one more, r
pub total_more : {X : Type 0} (f : X → ℤ) (xs : List X) (i : ℕ) (r : X) → i < length xs → r ≡ get_or xs i r → total f (take (i + 1) xs) ≡ total f (take i xs) +ℤ f r
total_more f xs i r within here =
    ap (total f) (take_more xs i r within ∙ ap (λ y. take i xs ++ y ∷ []) (sym here)) ∙ omega (arith, ints, total_append f (take i xs) (r ∷ []))
