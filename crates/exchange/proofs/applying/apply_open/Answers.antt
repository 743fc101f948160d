use Rattle.std.proofs.Common.{◌≡◌, refl, subst, rules}
use Rattle.market.specs.declared.call.Call.TheVariants.{Enter, Withdraw}
use Rattle.session.specs.Lending.{held_in, places_held}
use Rattle.session.specs.Tables.{Places}
use Rattle.exchange.specs.Applying.{OpenDoes, accepting}
use Rattle.exchange.specs.Runs.{Step}
use Rattle.exchange.specs.declared.exchange.Exchange.TheVariants as exchange
use Rattle.exchange.proofs.CallSteps.{step_as}
use Rattle.exchange.proofs.applying.apply_open.Goals as goal

pub returns-in-Admit : goal.returns-in-Admit
returns-in-Admit g c =
    let k = c.admit.ensures in
    let w = c.come_to.ensures in
    rw c.in-Admit.is (record {
      does = (c.admit.result, k.why, k.after, refl, w);
      step = step_as g.P.PriceRule.meaning g.S.SharingRule.meaning _ exchange.Open exchange.Open accepting _ _ c.admit.result _ _ _ w (k.step (held_in c.args.lent.now));
      lent = ((refl, refl), (refl, refl), (refl, refl), (refl, refl), (refl, c.admit.auto.accounts), (refl, refl));
    })

pub returns-in-Enter-clause-does : goal.returns-in-Enter-clause-does
returns-in-Enter-clause-does g c =
    let k = c.enter.ensures in
    let t : Places = places_held c.enter.new.blocks c.args.lent.now.accounts.now c.args.lent.now.entries.now in
    let done : OpenDoes g.P.PriceRule.meaning g.S.SharingRule.meaning c.args.state (held_in c.args.lent.now) (Enter c.in-Enter.zone c.in-Enter.side c.in-Enter.bid) c.come_to-in-Enter.result.0 c.come_to-in-Enter.result.1 t = (c.enter.result, k.why, k.after, refl, c.come_to-in-Enter.ensures) in
    rw c.in-Enter.is (subst (λ (u : Places). OpenDoes g.P.PriceRule.meaning g.S.SharingRule.meaning c.args.state (held_in c.args.lent.now) (Enter c.in-Enter.zone c.in-Enter.side c.in-Enter.bid) c.come_to-in-Enter.result.0 c.come_to-in-Enter.result.1 u) (search rules) done)

pub returns-in-Enter-clause-step : goal.returns-in-Enter-clause-step
returns-in-Enter-clause-step g c =
    let t : Places = places_held c.enter.new.blocks c.args.lent.now.accounts.now c.args.lent.now.entries.now in
    let done : Step g.P.PriceRule.meaning g.S.SharingRule.meaning (Enter c.in-Enter.zone c.in-Enter.side c.in-Enter.bid) c.come_to-in-Enter.result.1 (exchange.Open c.args.state) (held_in c.args.lent.now) c.come_to-in-Enter.result.0 t =
    step_as g.P.PriceRule.meaning g.S.SharingRule.meaning _ exchange.Open exchange.Open accepting _ _ c.enter.result _ _ _ c.come_to-in-Enter.ensures (c.enter.ensures.step c.args.lent.now.entries.now) in
    rw c.in-Enter.is (subst (λ (u : Places). Step g.P.PriceRule.meaning g.S.SharingRule.meaning (Enter c.in-Enter.zone c.in-Enter.side c.in-Enter.bid) c.come_to-in-Enter.result.1 (exchange.Open c.args.state) (held_in c.args.lent.now) c.come_to-in-Enter.result.0 u) (search rules) done)

pub returns-in-Withdraw-clause-does : goal.returns-in-Withdraw-clause-does
returns-in-Withdraw-clause-does g c =
    let k = c.withdraw.ensures in
    let t : Places = places_held c.withdraw.new.blocks c.args.lent.now.accounts.now c.args.lent.now.entries.now in
    let done : OpenDoes g.P.PriceRule.meaning g.S.SharingRule.meaning c.args.state (held_in c.args.lent.now) (Withdraw c.in-Withdraw.zone c.in-Withdraw.side c.in-Withdraw.key) c.come_to-in-Withdraw.result.0 c.come_to-in-Withdraw.result.1 t = (c.withdraw.result, k.why, k.after, refl, c.come_to-in-Withdraw.ensures) in
    rw c.in-Withdraw.is (subst (λ (u : Places). OpenDoes g.P.PriceRule.meaning g.S.SharingRule.meaning c.args.state (held_in c.args.lent.now) (Withdraw c.in-Withdraw.zone c.in-Withdraw.side c.in-Withdraw.key) c.come_to-in-Withdraw.result.0 c.come_to-in-Withdraw.result.1 u) (search rules) done)

pub returns-in-Withdraw-clause-step : goal.returns-in-Withdraw-clause-step
returns-in-Withdraw-clause-step g c =
    let t : Places = places_held c.withdraw.new.blocks c.args.lent.now.accounts.now c.args.lent.now.entries.now in
    let done : Step g.P.PriceRule.meaning g.S.SharingRule.meaning (Withdraw c.in-Withdraw.zone c.in-Withdraw.side c.in-Withdraw.key) c.come_to-in-Withdraw.result.1 (exchange.Open c.args.state) (held_in c.args.lent.now) c.come_to-in-Withdraw.result.0 t =
    step_as g.P.PriceRule.meaning g.S.SharingRule.meaning _ exchange.Open exchange.Open accepting _ _ c.withdraw.result _ _ _ c.come_to-in-Withdraw.ensures (c.withdraw.ensures.step (held_in c.args.lent.now)) in
    rw c.in-Withdraw.is (subst (λ (u : Places). Step g.P.PriceRule.meaning g.S.SharingRule.meaning (Withdraw c.in-Withdraw.zone c.in-Withdraw.side c.in-Withdraw.key) c.come_to-in-Withdraw.result.1 (exchange.Open c.args.state) (held_in c.args.lent.now) c.come_to-in-Withdraw.result.0 u) (search rules) done)
