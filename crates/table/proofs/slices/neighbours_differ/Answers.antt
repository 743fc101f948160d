use Rattle.std.proofs.Common.{◌+◌, ◌≡◌, eqb, not, sym, ◌∙◌, arith, rules}
use Rattle.std.proofs.lemmas.Bool.Decides.{Decides-eqb, Decides-like, Decides-not}
use Rattle.std.proofs.lemmas.List.{get_or_default}
use Rattle.std.proofs.lemmas.List.Sorted.{answers_always}
use Rattle.table.proofs.Pairs.{neighbours_decide}
use Rattle.table.proofs.slices.neighbours_differ.Goals as goal

pub returns : goal.returns
returns c =
    let cs = c.args.codes.now in
    Decides-like c.is_sorted_by.result (λ h i l. h i 0 l) (λ h i d l e. h i l (sym (get_or_default cs i d 0 (omega arith)) ∙ e ∙ get_or_default cs (i + 1) d 0 l))
    (neighbours_decide (λ x y. x ≡ y → ⊥) (λ x y. not (eqb x y)) (λ x y. Decides-not (eqb x y) (Decides-eqb x y)) cs c.is_sorted_by.result (c.is_sorted_by.ensures.cases (λ x y. not (eqb x y)) (answers_always _ _ _ (λ k a r q h. search rules))))
