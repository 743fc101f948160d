use Rattle.std.proofs.Common.{◌≤◌, false, refl, arith, length-set, rules}
use Rattle.std.proofs.lemmas.Bool.{both_ways}
use Rattle.std.proofs.lemmas.List.{take_all}
use Rattle.table.proofs.Sieves.{Fresh, marked_more, distinct_more, fresh_within, fresh_unmarked, not_distinct}
use Rattle.table.proofs.slices.sifted.Goals.{then-seen-spot+else-looks-eq-LOOKS+else-contains, else-seen-spot}
use Rattle.table.proofs.slices.sifted.Goals as goal

pub returns-then-contains : goal.returns-then-contains
returns-then-contains c =
    (λ e. absurd (both_ways false refl e), λ d. absurd (not_distinct c.args.codes.now c.loop-i.i c.loop-i-test.true c.if-contains.ensures.cases d))

pub loop-i-preserved : goal.loop-i-preserved
loop-i-preserved c =
    let cs = c.args.codes.now in
    let i = c.loop-i.i in
    let s = c.spot_of-spot.result in
    let seen = c.loop-i.seen in
    let h = c.loop-i.invariant in
    let is = c.spot_of-spot.ensures.value in
    let below = c.spot_of-spot.ensures.below in
    let long = h.1 in
    let few : c.if-seen-spot.looks ≤ 16 = search rules in
    let fresh : Fresh cs i =
    elim c.if-seen-spot.branch [
      | then-seen-spot+else-looks-eq-LOOKS+else-contains w ↦ fresh_within cs i w.if-contains.ensures.cases
      | else-seen-spot w ↦ fresh_unmarked seen cs i s is w.if-seen-spot.false h.2
    ] in
    (few, simp length-set long, marked_more seen cs i s (omega arith) is h.2, distinct_more cs i c.loop-i-test.true fresh h.3)

pub returns : goal.returns
returns c =
    let all = take_all c.loop-i.i c.args.codes.now c.loop-i-test.false in
    (λ _. rw all at c.loop-i.invariant.3, λ _. refl)
