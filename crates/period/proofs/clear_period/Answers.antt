use Rattle.std.proofs.Common.{◌≡◌, [], Err, ap, sym, subst, ◌∙◌}
use Rattle.std.proofs.lemmas.Result.{err_from_is_err_and}
use Rattle.market.specs.Refusals.{FirstCause}
use Rattle.market.specs.declared.capacities.Capacities.{Capacities}
use Rattle.market.proofs.Causes.{first_refuses}
use Rattle.auction.specs.declared.engine.Clearing.{Clearing}
use Rattle.period.specs.Periods.{clear_causes}
use Rattle.period.proofs.clear_period.Goals as goal

pub returns-in_err-capacities-clause-why : goal.returns-in_err-capacities-clause-why
returns-in_err-capacities-clause-why g c =
    let causes = clear_causes c.args.forward c.args.backward c.args.ladders.now in
    let d = err_from_is_err_and c.from_residual.result c.from_residual.ensures.1 in
    let is : c.from_residual.result ≡ Err c.in_err-capacities.field-0.0 = d.1 ∙ ap Err d.2 in
    let refused = subst (λ r. FirstCause {A = Capacities} causes r) c.in_err-capacities.was c.check.ensures.why in
    subst (λ r. FirstCause {A = Clearing} causes r) (sym is) (first_refuses Capacities Clearing causes [] c.in_err-capacities.field-0.0 refused)
