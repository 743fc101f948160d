use Rattle.std.proofs.Common.{ℕ, ◌<◌, ltb, arith, rules}
use Rattle.std.proofs.lemmas.Bool.Decides.{Decides-ltb}
use Rattle.std.proofs.lemmas.List.Sorted.{answers_always}
use Rattle.table.proofs.Pairs.{pairwise_decides}
use Rattle.table.proofs.slices.codes_climb.Goals as goal

pub returns : goal.returns
returns g c =
    let f : g.row.R.Denot → ℕ = λ x. g.R.Record.code (g.R.Record.order.named x) in
    pairwise_decides (λ x y. f x < f y) (λ x y. ltb (f x) (f y)) (λ x y. Decides-ltb (f x) (f y)) (λ x y z p q. omega arith) c.args.rows.now c.is_sorted_by.result (c.is_sorted_by.ensures.cases (λ x y. ltb (f x) (f y)) (answers_always _ _ _ (λ k a r q h. search rules)))
