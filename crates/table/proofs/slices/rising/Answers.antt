use Rattle.std.proofs.Common.{◌≡◌, true, rules}
use Rattle.std.proofs.lemmas.List.Sorted.{answers_always}
use Rattle.table.proofs.Pairs.{pairwise_decides}
use Rattle.table.proofs.slices.rising.Goals as goal

pub returns : goal.returns
returns g c =
    let o = g.R.Record.order in
    pairwise_decides (λ x y. o.precedes x y ≡ true) o.precedes (λ x y. (λ e. e, λ e. e)) g.met.R.Record.lawful.chains c.args.rows.now c.is_sorted_by.result (c.is_sorted_by.ensures.cases o.precedes (answers_always _ _ _ (λ f a r q h. search rules)))
