use Rattle.std.proofs.Common.{Ok, Err, refl}
use Rattle.session.proofs.Joins.{err_as}
use Rattle.session.specs.Causes.{settle_causes}
use Rattle.session.specs.Lending.{blocks_held, four_held, places_held}
use Rattle.session.specs.Outcomes.{Four, held_for}
use Rattle.session.specs.Tables.{Places, lent}
use Rattle.settlement.specs.declared.settle.Settled.{Settled}
use Rattle.exchange.specs.declared.state.Idle.{Idle}
use Rattle.exchange.proofs.CallSteps.{cleared_settle, with_step}
use Rattle.exchange.proofs.state.Cleared.settle.Goals as goal

pub returns-in-Ok : goal.returns-in-Ok
returns-in-Ok g c =
    let a = c.args in
    let k = c.in-Ok.ensures in
    let l = c.settle_session.new in
    let before : Places = places_held a.blocks.now a.accounts.now a.entries.now in
    let later : Places = places_held a.blocks.now l.accounts l.entries in
    with_step (λ why after. cleared_settle g.P.PriceRule.meaning g.S.SharingRule.meaning g.met.S.SharingRule.lawful g.met.P.PriceRule.within a.self before later (Ok _) why after refl) k.why (record {
      engine = refl;
      ledger = c.with_totals-ledger.ensures;
      posted = k.after;
    })

pub returns-in-Err : goal.returns-in-Err
returns-in-Err g c =
    let a = c.args in
    let k = c.in-Err.ensures in
    let l = c.settle_session.new in
    let t : Four = four_held a.blocks.now in
    let before : Places = places_held a.blocks.now a.accounts.now a.entries.now in
    let later : Places = places_held a.blocks.now l.accounts l.entries in
    let causes = settle_causes (held_for a.self.session a.self.report t) (blocks_held a.self.session a.blocks.now) (lent a.accounts.now a.self.ledger.accounts) a.entries.now a.self.ledger.totals.income a.self.ledger.totals.residue in
    with_step (λ why after. cleared_settle g.P.PriceRule.meaning g.S.SharingRule.meaning g.met.S.SharingRule.lawful g.met.P.PriceRule.within a.self before later (Err _) why after refl)
    (err_as Settled (Idle g.row.P.Denot g.row.S.Denot × Settled) causes c.in-Err.why k.why) (refl, k.after.0, k.after.1)
