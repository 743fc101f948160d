use Rattle.std.proofs.Common.{arith}
use Rattle.std.proofs.lemmas.Int.{ints}
use Rattle.settlement.specs.Sessions.{outcome_of}
use Rattle.settlement.proofs.Parts.{cents_parts}
use Rattle.settlement.proofs.session.ClearedSession.total_cents.Goals as goal

pub returns-clause-value : goal.returns-clause-value
returns-clause-value c =
    omega (arith, ints, cents_parts (outcome_of c.args.self), c.total_cents.ensures.value, c.total_cents-2.ensures.value, c.income.ensures.value)
