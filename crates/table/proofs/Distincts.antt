-- Numbers none of which stands twice: kept by a sort, seen at neighbours once sorted, and the same as keys that stand apart.
use Rattle.std.proofs.Common.{◌≡◌, ℕ, ◌+◌, ◌<◌, Bool, true, false, List, ◌∷◌, [], map, eqb, length, get_or, Decides, sym, ap, ◌∙◌, subst, ⊎_elim, arith}
use Rattle.std.specs.List.Sorted.{IsPermutation, IsNonDecreasing}
use Rattle.std.specs.List.{AllByRecursion, IsDistinct}
use Rattle.std.proofs.ByRecursion.{All-get_or}
use Rattle.std.proofs.lemmas.Bool.{both_ways, cases_Bool, cases_lt}
use Rattle.std.proofs.lemmas.Bool.Decides.{nat_tests}
use Rattle.std.proofs.lemmas.List.{get_or_default, get_or-map, length-map}
use Rattle.std.proofs.lemmas.Map.Keys.{apart_from_distinct, IsDistinct-from_apart, IsDistinct-IsPermutation}
use Rattle.table.specs.Codes.{Changing, Distinct}
use Rattle.table.specs.Order.{Order, Lawful}
use Rattle.table.specs.Rows.{Apart, Climbing}
use Rattle.table.proofs.Pairs.{pairwise_from, pairwise_get_or, pairwise_weaker}

-- it is enough that no number stands at a later place too
pub distinct_from_later : (cs : List ℕ) → ((i j : ℕ) → i < j → j < length cs → get_or cs i 0 ≡ get_or cs j 0 → ⊥) → Distinct cs
distinct_from_later cs h i j li lj ne e =
    ⊎_elim (λ l. h i j l lj e) (λ l. h j i (⊎_elim (λ k. k) (λ k. absurd (ne (omega arith))) (cases_lt j i)) li (sym e)) (cases_lt i j)

pub distinct_from_keys : (cs : List ℕ) → IsDistinct eqb cs → Distinct cs
distinct_from_keys cs h =
    distinct_from_later cs (λ i j p l e. let a = apart_from_distinct eqb cs i j 0 h p l in grind (arith, nat_tests))

pub keys_from_distinct : (cs : List ℕ) → Distinct cs → IsDistinct eqb cs
keys_from_distinct cs d =
    IsDistinct-from_apart eqb cs (λ i j e p l.
    let n = d i j (omega arith) l (λ z. omega arith) in
    grind (arith, nat_tests, get_or_default cs i e 0 (omega arith), get_or_default cs j e 0 l))

pub distinct_shuffled : (cs ds : List ℕ) → IsPermutation cs ds → Distinct cs → Distinct ds
distinct_shuffled cs ds s d =
    distinct_from_keys ds (IsDistinct-IsPermutation eqb (λ x y. grind (arith, nat_tests)) cs ds s (keys_from_distinct cs d))

-- sorted numbers that change from each to the next
pub distinct_from_changing : (cs : List ℕ) → IsNonDecreasing cs → Changing cs → Distinct cs
distinct_from_changing cs up ch =
    distinct_from_later cs (λ i j l h e.
    let a = up i (i + 1) 0 (omega arith) (omega arith) in
    let b = up (i + 1) j 0 (omega arith) h in
    ch i (omega arith) (omega arith))

pub changing_from_distinct : (cs : List ℕ) → Distinct cs → Changing cs
changing_from_distinct cs d i l e = d i (i + 1) (omega arith) l (λ x. omega arith) e

module _ {X K : Type 0} (o : Order X K) (l : Lawful o) (code : K → ℕ) (coded : K → Type 0) (tells : (a b : K) → coded a → coded b → code a ≡ code b → o.same a b ≡ true) where
  -- keys with different codes are not the same
  same_not : (a b : K) → (code a ≡ code b → ⊥) → o.same a b ≡ false
  same_not a b n = ⊎_elim (λ t. absurd (n (ap code ((l.alike a b).0 t)))) (λ f. f) (cases_Bool (o.same a b))

  apart_from_distinct_codes : (xs : List X) → Distinct (map (λ x. code (o.named x)) xs) → Apart o xs
  apart_from_distinct_codes xs d =
      pairwise_from (λ x y. o.same (o.named x) (o.named y) ≡ false) xs (λ i j e p q.
      let f : X → ℕ = λ x. code (o.named x) in
      let len : length (map f xs) ≡ length xs = length-map xs f in
      same_not _ _ (λ z. d i j (omega arith) (omega arith) (λ w. omega arith) (get_or-map f xs i e 0 (omega arith) ∙ z ∙ sym (get_or-map f xs j e 0 q))))

  -- rising codes need no other test
  pub apart_from_climbing : (xs : List X) → Climbing (λ x. code (o.named x)) xs → Apart o xs
  apart_from_climbing =
      pairwise_weaker (λ x y. code (o.named x) < code (o.named y)) (λ x y. o.same (o.named x) (o.named y) ≡ false)
      (λ x y p. same_not (o.named x) (o.named y) (λ e. omega arith))

  distinct_from_apart : (xs : List X) → AllByRecursion (λ x. coded (o.named x)) xs → Apart o xs → Distinct (map (λ x. code (o.named x)) xs)
  distinct_from_apart [] c h = λ i j li lj ne e. omega arith
  distinct_from_apart (y ∷ ys) c h =
      let xs = y ∷ ys in
      let f : X → ℕ = λ x. code (o.named x) in
      let len : length (map f xs) ≡ length xs = length-map xs f in
      distinct_from_later (map f xs) (λ i j p q e.
      let same = sym (get_or-map f xs i y 0 (omega arith)) ∙ e ∙ get_or-map f xs j y 0 (omega arith) in
      both_ways _ (pairwise_get_or (λ x w. o.same (o.named x) (o.named w) ≡ false) xs i j y h p (omega arith)) (tells (o.named (get_or xs i y)) (o.named (get_or xs j y)) (All-get_or (λ x. coded (o.named x)) xs i y (omega arith) c) (All-get_or (λ x. coded (o.named x)) xs j y (omega arith) c) same))

  -- a test of the codes is a test of the keys
  pub apart_decides : (xs : List X) (cs : List ℕ) (r : Bool) → cs ≡ map (λ x. code (o.named x)) xs → AllByRecursion (λ x. coded (o.named x)) xs → Decides r (Distinct cs) → Decides r (Apart o xs)
  apart_decides xs cs r e c d =
      (λ t. apart_from_distinct_codes xs (subst Distinct e (d.0 t)), λ a. d.1 (subst Distinct (sym e) (distinct_from_apart xs c a)))
