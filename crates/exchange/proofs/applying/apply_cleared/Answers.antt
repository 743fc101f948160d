use Rattle.std.proofs.Common.{refl}
use Rattle.exchange.specs.Applying.{settled_idle, settling}
use Rattle.exchange.specs.declared.exchange.Exchange.TheVariants as exchange
use Rattle.exchange.proofs.CallSteps.{step_as}
use Rattle.exchange.proofs.applying.apply_cleared.Goals as goal

pub returns-in-Settle : goal.returns-in-Settle
returns-in-Settle g c =
    let k = c.settle.ensures in
    let w = c.come_to.ensures in
    rw c.in-Settle.is (record {
      does = (c.settle.result, k.why, k.after, refl, w);
      step = step_as g.P.PriceRule.meaning g.S.SharingRule.meaning _ settled_idle exchange.Cleared settling _ _ c.settle.result _ _ _ w k.step;
      lent = ((refl, refl), (refl, refl), (refl, refl), (refl, refl), (refl, c.settle.auto.accounts), (refl, c.settle.auto.entries));
    })
