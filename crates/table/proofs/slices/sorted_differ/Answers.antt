use Rattle.std.proofs.lemmas.List.Sorted.{IsNonDecreasingBy-from_sort, IsPermutation-sym}
use Rattle.table.proofs.Distincts.{changing_from_distinct, distinct_from_changing, distinct_shuffled}
use Rattle.table.proofs.slices.sorted_differ.Goals as goal

pub returns : goal.returns
returns c =
    let s = c.sort_unstable.ensures in
    let up = IsNonDecreasingBy-from_sort (λ x. x) _ s.sorted in
    (λ e. distinct_shuffled _ _ (IsPermutation-sym _ _ s.permutation) (distinct_from_changing _ up (c.neighbours_differ.ensures.0 e)), λ d. c.neighbours_differ.ensures.1 (changing_from_distinct _ (distinct_shuffled _ _ s.permutation d)))
