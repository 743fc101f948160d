-- Lists in which each element stands to each later one in a relation.
use Rattle.std.proofs.Common.{◌≡◌, ℕ, zero, suc, ◌+◌, ◌<◌, Bool, true, false, Decides, List, [], ◌∷◌, ◌++◌, length, get_or, take, drop, sym, refl, ap, ◌∙◌, subst, arith}
use Rattle.std.specs.List.{insert, remove, AllAdjacentBelow, AllByRecursion, IsAllAdjacentAnswer}
use Rattle.std.proofs.ByRecursion.{All-append, All-take, All-drop, All-from_get_or, All-get_or, All-push, All-weaker}
use Rattle.std.proofs.lemmas.Bool.{both_ways}
use Rattle.std.proofs.lemmas.List.{get_or-take, length-take-le, take_more}
use Rattle.std.proofs.lemmas.Bool.Decides.{Decides-like}
use Rattle.table.specs.Rows.{Pairwise}

pub all_inserted : {X : Type 0} (P : X → Type 0) (xs : List X) (i : ℕ) (x : X) → AllByRecursion P xs → P x → AllByRecursion P (insert xs i x)
all_inserted P xs i x h k = All-append P (take i xs) (x ∷ drop i xs) (All-take P i xs h) (k, All-drop P i xs h)

pub all_removed : {X : Type 0} (P : X → Type 0) (xs : List X) (i : ℕ) → AllByRecursion P xs → AllByRecursion P (remove xs i)
all_removed P xs i h = All-append P (take i xs) (drop (suc i) xs) (All-take P i xs h) (All-drop P (suc i) xs h)

pub pairwise_weaker : {X : Type 0} (R S : X → X → Type 0) → ((x y : X) → R x y → S x y) → (xs : List X) → Pairwise R xs → Pairwise S xs
pairwise_weaker R S f [] h = tt
pairwise_weaker R S f (x ∷ xs) h = (All-weaker (R x) (S x) (f x) xs h.0, pairwise_weaker R S f xs h.1)

module _ {X : Type 0} (R : X → X → Type 0) where
  pub pairwise_removed : (xs : List X) (i : ℕ) → Pairwise R xs → Pairwise R (remove xs i)
  pairwise_removed [] zero h = tt
  pairwise_removed [] (suc i) h = tt
  pairwise_removed (x ∷ xs) zero h = h.1
  pairwise_removed (x ∷ xs) (suc i) h = (all_removed (R x) xs i h.0, pairwise_removed xs i h.1)

  pub pairwise_inserted : ((x y : X) → R x y → R y x) → (xs : List X) (i : ℕ) (x : X) → Pairwise R xs → AllByRecursion (λ y. R y x) xs → Pairwise R (insert xs i x)
  pairwise_inserted turned xs zero x h k = (All-weaker (λ y. R y x) (R x) (λ y. turned y x) xs k, h)
  pairwise_inserted turned [] (suc i) x h k = (tt, tt)
  pairwise_inserted turned (y ∷ ys) (suc i) x h k = (all_inserted (R y) ys i x h.0 k.0, pairwise_inserted turned ys i x h.1 k.1)

  -- by places
  pub pairwise_from : (xs : List X) → ((i j : ℕ) (d : X) → i < j → j < length xs → R (get_or xs i d) (get_or xs j d)) → Pairwise R xs
  pairwise_from [] h = tt
  pairwise_from (x ∷ xs) h =
      (All-from_get_or (R x) xs x (λ i l. h 0 (suc i) x (omega arith) (omega arith)), pairwise_from xs (λ i j d p q. h (suc i) (suc j) d (omega arith) (omega arith)))

  -- one element more, at the end
  pub pairwise_push : (xs : List X) (x : X) → Pairwise R xs → AllByRecursion (λ y. R y x) xs → Pairwise R (xs ++ x ∷ [])
  pairwise_push [] x h k = (tt, tt)
  pairwise_push (y ∷ ys) x h k = (All-push (R y) ys x h.0 k.0, pairwise_push ys x h.1 k.1)

  -- one element more, read from the list
  pub pairwise_more : (xs : List X) (i : ℕ) (r : X) → i < length xs → r ≡ get_or xs i r → Pairwise R (take i xs) → AllByRecursion (λ y. R y r) (take i xs) → Pairwise R (take (i + 1) xs)
  pairwise_more xs i r b e h k =
      let next : take (i + 1) xs ≡ take i xs ++ r ∷ [] = take_more xs i r b ∙ ap (λ y. take i xs ++ y ∷ []) (sym e) in
      subst (λ ys. Pairwise R ys) (sym next) (pairwise_push (take i xs) r h k)

  pub pairwise_get_or : (xs : List X) (i j : ℕ) (d : X) → Pairwise R xs → i < j → j < length xs → R (get_or xs i d) (get_or xs j d)
  pairwise_get_or [] i j d h b l = absurd (let z : ⊥ = omega arith in z)
  pairwise_get_or (x ∷ xs) i zero d h b l = absurd (let z : ⊥ = omega arith in z)
  pairwise_get_or (x ∷ xs) zero (suc j) d h b l = All-get_or (R x) xs j d (omega arith) h.0
  pairwise_get_or (x ∷ xs) (suc i) (suc j) d h b l = pairwise_get_or xs i j d h.1 (omega arith) (omega arith)

  -- each element before one that is read from the list stands to it
  pub pairwise_before : (xs : List X) (i : ℕ) (r : X) → i < length xs → r ≡ get_or xs i r → Pairwise R xs → AllByRecursion (λ y. R y r) (take i xs)
  pairwise_before xs i r b e h =
      let len : length (take i xs) ≡ i = length-take-le i xs (omega arith) in
      All-from_get_or (λ y. R y r) (take i xs) r
      (λ j l.
      let s : j < i = omega arith in
      let step : R (get_or xs j r) (get_or xs i r) = pairwise_get_or xs j i r h s b in
      subst (λ x. R x r) (sym (get_or-take i xs j r s)) (subst (λ y. R (get_or xs j r) y) (sym e) step))

  -- where the relation chains, neighbours are enough
  pub pairwise_chain : ((x y z : X) → R x y → R y z → R x z) → (xs : List X) → AllAdjacentBelow R xs (length xs) → Pairwise R xs
  pairwise_chain chains [] h = tt
  pairwise_chain chains (x ∷ []) h = (tt, tt)
  pairwise_chain chains (x ∷ y ∷ ys) h =
      let up : R x y = h 0 x (omega arith) in
      let rest = pairwise_chain chains (y ∷ ys) (λ k d l. let e : suc k + 1 ≡ suc (k + 1) = omega arith in rw e at (h (suc k) d (omega arith))) in
      ((up, All-weaker (R y) (R x) (λ z. chains x y z up) ys rest.0), rest)

  module _ (test : X → X → Bool) (each : (x y : X) → Decides (test x y) (R x y)) where
    -- what `is_sorted_by` answers by a test
    pub neighbours_decide : (xs : List X) (r : Bool) → IsAllAdjacentAnswer (λ x y b. b ≡ test x y) xs r → Decides r (AllAdjacentBelow R xs (length xs))
    neighbours_decide xs true h = (λ e k d l. (each _ _).0 (sym (h k d l)), λ _. refl)
    neighbours_decide [] false h = absurd (let z : ⊥ = omega (arith, h.1) in z)
    neighbours_decide (x ∷ xs) false h =
        (λ e. absurd (both_ways false refl e), λ n. absurd (both_ways _ (sym (h.2 x)) ((each _ _).1 (n h.0 x h.1))))

    pub pairwise_decides : ((x y z : X) → R x y → R y z → R x z) → (xs : List X) (r : Bool) → IsAllAdjacentAnswer (λ x y b. b ≡ test x y) xs r → Decides r (Pairwise R xs)
    pairwise_decides chains xs r h =
        Decides-like r (pairwise_chain chains xs) (λ p k d l. pairwise_get_or xs k (k + 1) d p (omega arith) l) (neighbours_decide xs r h)
