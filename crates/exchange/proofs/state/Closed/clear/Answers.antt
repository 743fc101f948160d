use Rattle.std.proofs.Common.{Ok, Err, refl, rules}
use Rattle.session.specs.Lending.{four_held}
use Rattle.exchange.specs.Applying.{with_blocks}
use Rattle.exchange.proofs.CallSteps.{closed_clear, with_step}
use Rattle.exchange.proofs.state.Closed.clear.Goals as goal

pub returns-in-Ok : goal.returns-in-Ok
returns-in-Ok g c =
    let a = c.args in
    let p = with_step (λ why after. λ t. closed_clear g.P.PriceRule.meaning g.S.SharingRule.meaning g.met.S.SharingRule.lawful g.met.P.PriceRule.within a.self
    (with_blocks t (four_held a.blocks.now)) (with_blocks t (four_held c.clear_session.new.blocks)) (Ok _) after refl refl)
    c.in-Ok.ensures.why (search rules) in
    record { why = p.why; after = p.after; lent = c.in-Ok.ensures.lent; step = p.step }

pub returns-in-Err : goal.returns-in-Err
returns-in-Err g c =
    let a = c.args in
    let p = with_step (λ why after. λ t. closed_clear g.P.PriceRule.meaning g.S.SharingRule.meaning g.met.S.SharingRule.lawful g.met.P.PriceRule.within a.self
    (with_blocks t (four_held a.blocks.now)) (with_blocks t (four_held c.clear_session.new.blocks)) (Err _) after refl refl)
    c.in-Err.ensures.why (search rules) in
    record { why = p.why; after = p.after; lent = c.in-Err.ensures.lent; step = p.step }
