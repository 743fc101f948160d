use Rattle.std.proofs.Common.{refl}
use Rattle.session.specs.Lending.{held_in}
use Rattle.exchange.specs.Applying.{accepting}
use Rattle.exchange.specs.declared.exchange.Exchange.TheVariants as exchange
use Rattle.exchange.proofs.CallSteps.{step_as}
use Rattle.exchange.proofs.applying.apply_idle.Goals as goal

pub returns-in-Admit : goal.returns-in-Admit
returns-in-Admit g c =
    let k = c.admit.ensures in
    let w = c.come_to.ensures in
    rw c.in-Admit.is (record {
      does = (c.admit.result, k.why, k.after, refl, w);
      step = step_as g.P.PriceRule.meaning g.S.SharingRule.meaning _ exchange.Idle exchange.Idle accepting _ _ c.admit.result _ _ _ w (k.step (held_in c.args.lent.now));
      lent = ((refl, refl), (refl, refl), (refl, refl), (refl, refl), (refl, c.admit.auto.accounts), (refl, refl));
    })

pub returns-in-Begin : goal.returns-in-Begin
returns-in-Begin g c =
    let k = c.begin.ensures in
    let w = c.come_to-in-Begin.ensures in
    rw c.in-Begin.is (record {
      does = (c.begin.result, k.why, k.after, refl, w);
      step = step_as g.P.PriceRule.meaning g.S.SharingRule.meaning _ exchange.Open exchange.Idle accepting _ _ c.begin.result _ _ _ w (k.step (held_in c.args.lent.now));
      lent = ((refl, refl), (refl, refl), (refl, refl), (refl, refl), (refl, refl), (refl, refl));
    })
