use Rattle.std.proofs.Common.{cond, eqb, pos, arith}
use Rattle.std.proofs.lemmas.Int.{ints}
use Rattle.settlement.specs.Sessions.{outcome_of}
use Rattle.settlement.proofs.Parts.{block_total}
use Rattle.settlement.proofs.session.ClearedSession.posted_cents.Goals as goal

pub returns-clause-value : goal.returns-clause-value
returns-clause-value c =
    let parts = block_total (λ e. cond (eqb e.agent c.args.agent) e.cents (pos 0)) (outcome_of c.args.self) in
    omega (arith, ints, parts, c.posted_cents.ensures.value, c.posted_cents-2.ensures.value)
