use Rattle.std.proofs.Common.{sym, ◌∙◌, rules}
use Rattle.service.specs.Lines.{last_line}
use Rattle.service.proofs.Lines.{answered_append, made_all, made_ok}
use Rattle.service.proofs.serve.Goals as goal

pub loop-preserved : goal.loop-preserved
loop-preserved g c =
    let turns = g.S.Service.turns in
    let line = c.loop.invariant.1.0 in
    let here = c.loop.invariant.1.1 in
    let lines = c.loop.invariant.2.0 in
    let done = c.take_piece-next.result.1 in
    let ok = sym c.is_err.ensures.value ∙ c.if-is_err.false in (
      search rules,
      (_, made_ok done _ ok (c.take_piece-next.ensures.within line here)),
      (_, answered_append turns c.args.service c.loop.service c.take_piece-next.result.0 lines _ c.loop.invariant.2.1 (made_ok done _ ok (c.take_piece-next.ensures.answered line here))),
    )

pub returns : goal.returns
returns g c =
    let turns = g.S.Service.turns in
    let line = c.loop.invariant.1.0 in
    let here = c.loop.invariant.1.1 in
    let lines = c.loop.invariant.2.0 in
    made_all c.finish.result.1 _ (_, answered_append turns c.args.service c.loop.service c.finish.result.0 lines (last_line line) c.loop.invariant.2.1 (c.finish.ensures line here))
