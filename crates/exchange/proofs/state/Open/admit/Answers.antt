use Rattle.std.proofs.Common.{Ok, Err, rules}
use Rattle.exchange.specs.Applying.{with_accounts}
use Rattle.exchange.proofs.CallSteps.{open_admit, with_step}
use Rattle.exchange.proofs.state.Open.admit.Goals as goal

pub returns-in-Ok : goal.returns-in-Ok
returns-in-Ok g c =
    let a = c.args in
    with_step (λ why after. λ t. open_admit g.P.PriceRule.meaning g.S.SharingRule.meaning g.met.S.SharingRule.lawful g.met.P.PriceRule.within a.agent a.self (with_accounts t a.accounts.now) c.admit.new.accounts (Ok _) why after)
    c.in-Ok.ensures.why (search rules)

pub returns-in-Err : goal.returns-in-Err
returns-in-Err g c =
    let a = c.args in
    with_step (λ why after. λ t. open_admit g.P.PriceRule.meaning g.S.SharingRule.meaning g.met.S.SharingRule.lawful g.met.P.PriceRule.within a.agent a.self (with_accounts t a.accounts.now) c.admit.new.accounts (Err _) why after)
    c.in-Err.ensures.why (search rules)
