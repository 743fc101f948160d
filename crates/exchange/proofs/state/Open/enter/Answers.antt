use Rattle.std.proofs.Common.{List, Ok, Err, refl, rules}
use Rattle.session.specs.Causes.{enter_causes}
use Rattle.session.specs.Lending.{blocks_held, places_held}
use Rattle.session.specs.Tables.{Places, lent, zone_at}
use Rattle.session.specs.declared.session.Session.{Session}
use Rattle.session.proofs.Joins.{err_as, four_same, ok_as}
use Rattle.settlement.specs.declared.entry.Entry.{Entry}
use Rattle.exchange.specs.declared.state.Open.{Open}
use Rattle.exchange.proofs.CallSteps.{open_enter, with_step}
use Rattle.exchange.proofs.state.Open.enter.Goals as goal

pub returns-in-Ok : goal.returns-in-Ok
returns-in-Ok g c =
    let a = c.args in
    let k = c.in-Ok.ensures in
    let before : List Entry → Places = λ es. places_held a.blocks.now a.accounts.now es in
    let later : List Entry → Places = λ es. places_held c.enter.new.blocks a.accounts.now es in
    let p = with_step (λ why after. λ es. open_enter g.P.PriceRule.meaning g.S.SharingRule.meaning g.met.S.SharingRule.lawful g.met.P.PriceRule.within a.zone a.side a.bid a.self (before es) (later es) (Ok _) why after refl refl)
    (ok_as (enter_causes (zone_at a.zone) a.side a.bid (blocks_held a.self.session a.blocks.now) (lent a.accounts.now a.self.ledger.accounts)) c.in-Ok.session _ k.why)
    (search rules) in
    record { why = p.why; after = p.after; lent = k.lent; step = p.step }

pub returns-in-Err : goal.returns-in-Err
returns-in-Err g c =
    let a = c.args in
    let k = c.in-Err.ensures in
    let before : List Entry → Places = λ es. places_held a.blocks.now a.accounts.now es in
    let later : List Entry → Places = λ es. places_held c.enter.new.blocks a.accounts.now es in
    let p = with_step (λ why after. λ es. open_enter g.P.PriceRule.meaning g.S.SharingRule.meaning g.met.S.SharingRule.lawful g.met.P.PriceRule.within a.zone a.side a.bid a.self (before es) (later es) (Err _) why after refl refl)
    (err_as Session (Open g.row.P.Denot g.row.S.Denot) (enter_causes (zone_at a.zone) a.side a.bid (blocks_held a.self.session a.blocks.now) (lent a.accounts.now a.self.ledger.accounts)) c.in-Err.why k.why)
    (search (rules, four_same)) in
    record { why = p.why; after = p.after; lent = k.lent; step = p.step }
