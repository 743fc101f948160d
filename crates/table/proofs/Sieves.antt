-- Numbers marked at their remainders: a number at a place not marked yet is another than those before it.
use Rattle.std.proofs.Common.{◌≡◌, ℕ, ◌+◌, ◌<◌, Bool, true, false, List, eqb, length, get_or, take, set, sym, ap, ◌∙◌, ⊎_elim, arith}
use Rattle.std.specs.List.{AllWithin, HoldsAt}
use Rattle.std.proofs.lemmas.List.{get_or-set_same, get_or-set_other, get_or-take, length-take, length-take-le}
use Rattle.std.proofs.lemmas.Bool.{both_ways, cases_eq, cases_lt}
use Rattle.std.proofs.lemmas.Bool.Decides.{nat_tests}
use Rattle.table.specs.Codes.{Distinct, Lacking, spot}
use Rattle.table.proofs.Distincts.{distinct_from_later}

-- each number before the place i is marked
abbrev pub Marked : List Bool → List ℕ → ℕ → Type 0
Marked seen cs i = (k : ℕ) → k < i → get_or seen (spot (get_or cs k 0)) false ≡ true

-- the number at the place i is none of those before it
abbrev pub Fresh : List ℕ → ℕ → Type 0
Fresh cs i = Lacking (take i cs) (get_or cs i 0)

pub marked_more : (seen : List Bool) (cs : List ℕ) (i s : ℕ) → s < length seen → s ≡ spot (get_or cs i 0) → Marked seen cs i → Marked (set seen s true) cs (i + 1)
marked_more seen cs i s b e h k l =
    ⊎_elim
    (λ q. grind (arith, q, get_or-set_same seen s true false b))
    (λ n. get_or-set_other seen s (spot (get_or cs k 0)) true false n ∙ h k (⊎_elim (λ z. z) (λ z. absurd (let w : k ≡ i = omega arith in n (ap (λ x. spot (get_or cs x 0)) w ∙ sym e))) (cases_lt k i)))
    (cases_eq (spot (get_or cs k 0)) s)

pub distinct_more : (cs : List ℕ) (i : ℕ) → i < length cs → Fresh cs i → Distinct (take i cs) → Distinct (take (i + 1) cs)
distinct_more cs i b f d =
    let len : length (take i cs) ≡ i = length-take-le i cs (omega arith) in
    let long : length (take (i + 1) cs) ≡ i + 1 = length-take-le (i + 1) cs (omega arith) in
    distinct_from_later (take (i + 1) cs) (λ j k l h e.
    let first : get_or cs j 0 ≡ get_or cs k 0 = sym (get_or-take (i + 1) cs j 0 (omega arith)) ∙ e ∙ get_or-take (i + 1) cs k 0 (omega arith) in
    let under : get_or (take i cs) j 0 ≡ get_or cs j 0 = get_or-take i cs j 0 (omega arith) in
    ⊎_elim
    (λ z. d j k (omega arith) (omega arith) (λ w. omega arith) (under ∙ first ∙ sym (get_or-take i cs k 0 z)))
    (λ z. let w : k ≡ i = omega arith in f j (omega arith) (under ∙ first ∙ ap (λ x. get_or cs x 0) w))
    (cases_lt k i))

pub fresh_unmarked : (seen : List Bool) (cs : List ℕ) (i s : ℕ) → s ≡ spot (get_or cs i 0) → get_or seen s false ≡ false → Marked seen cs i → Fresh cs i
fresh_unmarked seen cs i s e f h j l q =
    let b : j < i = omega (arith, length-take i cs) in
    both_ways (get_or seen s false) f (ap (λ x. get_or seen x false) (e ∙ ap spot (sym q ∙ get_or-take i cs j 0 b)) ∙ h j b)

-- what `contains` answers of the numbers before the place i
pub fresh_within : (cs : List ℕ) (i : ℕ) → AllWithin (λ y. eqb y (get_or cs i 0) ≡ false) (take i cs) 0 (length (take i cs)) → Fresh cs i
fresh_within cs i h j l q = let n = h j 0 (omega arith) l in grind (arith, nat_tests)

pub not_distinct : (cs : List ℕ) (i : ℕ) → i < length cs → (k : ℕ) × (k < length (take i cs)) × HoldsAt (λ y. eqb y (get_or cs i 0) ≡ true) (take i cs) k → Distinct cs → ⊥
not_distinct cs i b m d =
    let before : m.0 < i = omega (arith, m.1, length-take i cs) in
    let n = m.2 0 in
    d m.0 i (omega arith) b (λ z. omega arith) (grind (arith, nat_tests, get_or-take i cs m.0 0 before))
