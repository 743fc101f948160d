use Rattle.std.proofs.Common.{refl}
use Rattle.std.proofs.lemmas.Result.{err_from_is_err_and}
use Rattle.session.specs.Causes.{clear_causes}
use Rattle.session.specs.Lending.{blocks_held}
use Rattle.session.specs.declared.report.Report.{Report}
use Rattle.session.proofs.Joins.{err_as, ok_as}
use Rattle.session.proofs.counted.clear_session.Goals as goal

pub returns-in_err-check : goal.returns-in_err-check
returns-in_err-check g c =
    let d = err_from_is_err_and c.from_residual.result c.from_residual.ensures.1 in
    rw (d.1, d.2) (record {
      why = err_as (Unit {0}) Report (clear_causes (blocks_held c.args.session c.args.blocks.now)) c.in_err-check.field-0.0 c.in_err-check.ensures.why;
      after = refl;
      lent = ((refl, refl), (refl, refl), (refl, refl), (refl, refl));
    })

pub returns : goal.returns
returns g c = record {
  why = ok_as (clear_causes (blocks_held c.args.session c.args.blocks.now)) (tt {0}) c.clear_counted.result c.in_ok-check.ensures.why;
  after = (c.clear_counted.ensures.report, c.clear_counted.ensures.places);
  lent = c.clear_counted.ensures.lent;
}
