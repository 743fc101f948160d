use Rattle.std.proofs.Common.{List, take, refl}
use Rattle.std.proofs.lemmas.Result.{err_from_is_err_and}
use Rattle.market.proofs.Causes.{first_accepts, first_refuses}
use Rattle.market.specs.Refusals.{Cause}
use Rattle.settlement.specs.Settling.{settle_causes}
use Rattle.settlement.specs.declared.settle.Settled.{Settled}
use Rattle.session.specs.Causes.{five_causes}
use Rattle.session.specs.Lending.{blocks_held, four_held}
use Rattle.session.specs.Outcomes.{held_for}
use Rattle.session.specs.Tables.{lent}
use Rattle.session.proofs.counted.settle_session.Goals as goal

pub returns-in_err-check_all : goal.returns-in_err-check_all
returns-in_err-check_all g c =
    let a = c.args in
    let later : List Cause = settle_causes (held_for a.session a.report (four_held a.blocks.now)) (take a.ledger.accounts a.accounts.now) a.entries.now a.ledger.totals.income a.ledger.totals.residue in
    let d = err_from_is_err_and c.from_residual.result c.from_residual.ensures.1 in
    rw (d.1, d.2) (record {
      why = first_refuses (Unit {0}) Settled (five_causes (blocks_held a.session a.blocks.now) (lent a.accounts.now a.ledger.accounts)) later c.in_err-check_all.field-0.0 c.in_err-check_all.ensures.why;
      after = (refl, refl);
    })

pub returns : goal.returns
returns g c =
    let a = c.args in
    let later : List Cause = settle_causes (held_for a.session a.report (four_held a.blocks.now)) (take a.ledger.accounts a.accounts.now) a.entries.now a.ledger.totals.income a.ledger.totals.residue in
    record {
      why = first_accepts {A = Unit {0}} {B = Settled} (five_causes (blocks_held a.session a.blocks.now) (lent a.accounts.now a.ledger.accounts)) later (tt {0}) c.settle_counted.result c.in_ok-check_all.ensures.why c.settle_counted.ensures.why;
      after = c.settle_counted.ensures.after;
    }
