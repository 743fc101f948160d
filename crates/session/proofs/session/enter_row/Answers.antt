use Rattle.std.proofs.Common.{ℕ, List, ◌++◌, Err}
use Rattle.std.proofs.lemmas.Result.{err_from_is_err_and}
use Rattle.market.proofs.Causes.{first_accepts, first_refuses}
use Rattle.market.specs.Entering.{bid_causes}
use Rattle.market.specs.Refusals.{Cause}
use Rattle.session.specs.Causes.{owned_causes, standing_causes}
use Rattle.session.specs.Lending.{seen}
use Rattle.session.specs.Tables.{kind, lent}
use Rattle.session.proofs.session.enter_row.Goals as goal

pub returns-in_err-check_tables-clause-why : goal.returns-in_err-check_tables-clause-why
returns-in_err-check_tables-clause-why g c =
    let a = c.args in
    let k = kind g.R.Record.order g.R.Record.limits g.R.Record.MAX in
    let d = err_from_is_err_and c.from_residual.result c.from_residual.ensures.1 in
    rw (d.1, d.2) (first_refuses (Unit {0}) ℕ (standing_causes k (lent a.rows.now a.count) (seen a.accounts)) (bid_causes a.bid ++ owned_causes k a.row a.bid.agent (lent a.rows.now a.count) (seen a.accounts)) c.in_err-check_tables.field-0.0 c.in_err-check_tables.ensures)

pub returns-in_err-check-clause-why : goal.returns-in_err-check-clause-why
returns-in_err-check-clause-why g c =
    let a = c.args in
    let k = kind g.R.Record.order g.R.Record.limits g.R.Record.MAX in
    let later : List Cause = owned_causes k a.row a.bid.agent (lent a.rows.now a.count) (seen a.accounts) in
    let d = err_from_is_err_and c.from_residual-in_err-check.result c.from_residual-in_err-check.ensures.1 in
    rw (d.1, d.2) (first_accepts {A = Unit {0}} {B = ℕ} (standing_causes k (lent a.rows.now a.count) (seen a.accounts)) (bid_causes a.bid ++ later) tt (Err c.in_err-check.field-0.0) c.in_ok-check_tables.ensures
    (first_refuses (Unit {0}) ℕ (bid_causes a.bid) later c.in_err-check.field-0.0 c.in_err-check.ensures))

pub returns-clause-why : goal.returns-clause-why
returns-clause-why g c =
    let a = c.args in
    let k = kind g.R.Record.order g.R.Record.limits g.R.Record.MAX in
    let later : List Cause = owned_causes k a.row a.bid.agent (lent a.rows.now a.count) (seen a.accounts) in
    first_accepts {A = Unit {0}} {B = ℕ} (standing_causes k (lent a.rows.now a.count) (seen a.accounts)) (bid_causes a.bid ++ later) tt c.put_owned.result c.in_ok-check_tables.ensures
    (first_accepts {A = Unit {0}} {B = ℕ} (bid_causes a.bid) later tt c.put_owned.result c.in_ok-check.ensures c.put_owned.ensures.why)
