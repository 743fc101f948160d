use Rattle.std.proofs.Common.{arith}
use Rattle.std.proofs.lemmas.Int.{ints}
use Rattle.settlement.specs.Sessions.{outcome_of}
use Rattle.settlement.proofs.Adding.{adds_up}
use Rattle.settlement.proofs.session.ClearedSession.residue.Goals as goal

pub returns-clause-value : goal.returns-clause-value
returns-clause-value c = omega (arith, ints, (adds_up (outcome_of c.args.self) c.requires).opposite, c.total_cents.ensures.value)

pub returns-clause-small : goal.returns-clause-small
returns-clause-small c =
    let up = adds_up (outcome_of c.args.self) c.requires in
    omega (arith, ints, up.opposite, up.small, c.total_cents.ensures.value)
