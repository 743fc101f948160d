use Rattle.std.proofs.Common.{◌≡◌, refl, subst, rules}
use Rattle.market.specs.declared.call.Call.TheVariants.{Clear}
use Rattle.session.specs.Lending.{held_in, places_held}
use Rattle.session.specs.Tables.{Places}
use Rattle.exchange.specs.Applying.{ClosedDoes, reporting}
use Rattle.exchange.specs.Runs.{Step}
use Rattle.exchange.specs.declared.exchange.Exchange.TheVariants as exchange
use Rattle.exchange.proofs.CallSteps.{step_as}
use Rattle.exchange.proofs.applying.apply_closed.Goals as goal

pub returns-in-Clear-clause-does : goal.returns-in-Clear-clause-does
returns-in-Clear-clause-does g c =
    let k = c.clear.ensures in
    let t : Places = places_held c.clear.new.blocks c.args.lent.now.accounts.now c.args.lent.now.entries.now in
    let done : ClosedDoes g.P.PriceRule.meaning g.S.SharingRule.meaning c.args.state (held_in c.args.lent.now) Clear c.come_to.result.0 c.come_to.result.1 t = (c.clear.result, k.why, k.after, refl, c.come_to.ensures) in
    rw c.in-Clear.is (subst (λ (u : Places). ClosedDoes g.P.PriceRule.meaning g.S.SharingRule.meaning c.args.state (held_in c.args.lent.now) Clear c.come_to.result.0 c.come_to.result.1 u) (search rules) done)

pub returns-in-Clear-clause-step : goal.returns-in-Clear-clause-step
returns-in-Clear-clause-step g c =
    let t : Places = places_held c.clear.new.blocks c.args.lent.now.accounts.now c.args.lent.now.entries.now in
    let done : Step g.P.PriceRule.meaning g.S.SharingRule.meaning Clear c.come_to.result.1 (exchange.Closed c.args.state) (held_in c.args.lent.now) c.come_to.result.0 t =
    step_as g.P.PriceRule.meaning g.S.SharingRule.meaning _ exchange.Cleared exchange.Closed reporting _ _ c.clear.result _ _ _ c.come_to.ensures (c.clear.ensures.step (held_in c.args.lent.now)) in
    rw c.in-Clear.is (subst (λ (u : Places). Step g.P.PriceRule.meaning g.S.SharingRule.meaning Clear c.come_to.result.1 (exchange.Closed c.args.state) (held_in c.args.lent.now) c.come_to.result.0 u) (search rules) done)
