use Rattle.std.proofs.Common.{Ok, Err, refl, rules}
use Rattle.session.specs.Causes.{withdraw_causes}
use Rattle.session.specs.Lending.{blocks_held, four_held}
use Rattle.session.specs.Tables.{Places, zone_at}
use Rattle.session.specs.declared.session.Session.{Session}
use Rattle.session.proofs.Joins.{err_as, four_same, ok_as}
use Rattle.exchange.specs.Applying.{with_blocks}
use Rattle.exchange.specs.declared.state.Open.{Open}
use Rattle.exchange.proofs.CallSteps.{open_withdraw, with_step}
use Rattle.exchange.proofs.state.Open.withdraw.Goals as goal

pub returns-in-Ok : goal.returns-in-Ok
returns-in-Ok g c =
    let a = c.args in
    let k = c.in-Ok.ensures in
    let before : Places → Places = λ t. with_blocks t (four_held a.blocks.now) in
    let later : Places → Places = λ t. with_blocks t (four_held c.withdraw.new.blocks) in
    let p = with_step (λ why after. λ t. open_withdraw g.P.PriceRule.meaning g.S.SharingRule.meaning g.met.S.SharingRule.lawful g.met.P.PriceRule.within a.zone a.side a.key a.self (before t) (later t) (Ok _) why after refl refl)
    (ok_as (withdraw_causes (zone_at a.zone) a.side a.key (blocks_held a.self.session a.blocks.now)) c.in-Ok.session _ k.why)
    (search rules) in
    record { why = p.why; after = p.after; lent = k.lent; step = p.step }

pub returns-in-Err : goal.returns-in-Err
returns-in-Err g c =
    let a = c.args in
    let k = c.in-Err.ensures in
    let before : Places → Places = λ t. with_blocks t (four_held a.blocks.now) in
    let later : Places → Places = λ t. with_blocks t (four_held c.withdraw.new.blocks) in
    let p = with_step (λ why after. λ t. open_withdraw g.P.PriceRule.meaning g.S.SharingRule.meaning g.met.S.SharingRule.lawful g.met.P.PriceRule.within a.zone a.side a.key a.self (before t) (later t) (Err _) why after refl refl)
    (err_as Session (Open g.row.P.Denot g.row.S.Denot) (withdraw_causes (zone_at a.zone) a.side a.key (blocks_held a.self.session a.blocks.now)) c.in-Err.why k.why)
    (search (rules, four_same)) in
    record { why = p.why; after = p.after; lent = k.lent; step = p.step }
