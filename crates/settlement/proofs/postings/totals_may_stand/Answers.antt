use Rattle.std.proofs.Common.{◌+ℤ◌, arith, w64, SFits, rules}
use Rattle.std.proofs.lemmas.Int.{ints}
use Rattle.settlement.specs.Postings.{income_of, residue_of}
use Rattle.settlement.specs.Sessions.{outcome_of}
use Rattle.settlement.proofs.Deciding.{decides_at, decides_first, decides_second}
use Rattle.settlement.proofs.postings.totals_may_stand.Goals as goal

pub returns-then-may_stand : goal.returns-then-may_stand
returns-then-may_stand c =
    let o = outcome_of c.args.session in
    let i : SFits w64 c.args.totals.income = search rules in
    let r : SFits w64 c.args.totals.residue = search rules in
    decides_second (λ p q. (p, q)) (λ pq. pq.1) c.if-may_stand.true
    (decides_at (c.args.totals.income +ℤ income_of o) c.may_stand.ensures (omega (arith, ints, c.income.ensures.value)))
    (decides_at (c.args.totals.residue +ℤ residue_of o) c.may_stand-then-may_stand.ensures (omega (arith, ints, c.residue.ensures.value, c.residue.ensures.bound)))

pub returns-else-may_stand : goal.returns-else-may_stand
returns-else-may_stand c =
    let i : SFits w64 c.args.totals.income = search rules in
    decides_first (λ pq. pq.0) c.if-may_stand.false (decides_at (c.args.totals.income +ℤ income_of (outcome_of c.args.session)) c.may_stand.ensures (omega (arith, ints, c.income.ensures.value)))
