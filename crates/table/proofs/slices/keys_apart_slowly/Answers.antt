use Rattle.std.proofs.Common.{◌≡◌, false, sym, refl}
use Rattle.std.proofs.lemmas.Bool.{both_ways}
use Rattle.table.proofs.Pairs.{pairwise_before, pairwise_more}
use Rattle.table.proofs.slices.keys_apart_slowly.Goals as goal

pub returns-then-not-lacks : goal.returns-then-not-lacks
returns-then-not-lacks g c =
    let o = g.R.Record.order in
    let before = pairwise_before (λ x y. o.same (o.named x) (o.named y) ≡ false) c.args.rows.now c.loop-i.i c.index-rows-i.result c.loop-i-test.true c.index-rows-i.is in
    (λ e. absurd (both_ways false refl e), λ h. absurd (both_ways c.lacks.result c.if-not-lacks.true (c.lacks.ensures.1 (rw (sym c.key.ensures) at (before h)))))

pub loop-i-preserved : goal.loop-i-preserved
loop-i-preserved g c =
    let o = g.R.Record.order in
    pairwise_more (λ x y. o.same (o.named x) (o.named y) ≡ false) c.args.rows.now c.loop-i.i c.index-rows-i.result c.loop-i-test.true c.index-rows-i.is c.loop-i.invariant (rw c.key.ensures at (c.lacks.ensures.0 c.if-not-lacks.false))
