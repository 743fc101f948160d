use Rattle.std.proofs.Common.{length, ◌∙◌, rules}
use Rattle.auction.specs.declared.engine.Engine.{Engine}
use Rattle.std.proofs.lemmas.List.{drop-set-lt, get_or-take, length-set}
use Rattle.session.specs.Lending.{held_in}
use Rattle.exchange.specs.History.{History}
use Rattle.exchange.specs.Runs.{LawfulAfter, Throughout}
use Rattle.exchange.proofs.LawRuns.{throughout_all, throughout_ends, throughout_more}
use Rattle.exchange.proofs.run.run.Given as given
use Rattle.exchange.proofs.run.run.Goals as goal

pub loop-i-preserved : goal.loop-i-preserved
loop-i-preserved g c =
    let f = g.P.PriceRule.meaning in
    let m = g.S.SharingRule.meaning in
    let a = c.args in
    let l = c.loop-i in
    let s = c.apply-next.new in
    let before = held_in a.lent.now in
    let here = held_in l.lent in
    let later = held_in s.lent in (
      λ e h k. throughout_more f m e h a.first before l.i a.calls.now l.answers l.current here _ _ c.apply-next.result.1 c.apply-next.result.0 later (search rules) (search rules) (get_or-take c.min-n.result a.calls.now l.i _ (search rules)) (l.invariant.0 e h k) c.apply-next.ensures.step c.apply-next.ensures.does,
      length-set l.answers l.i c.apply-next.result.1 ∙ l.invariant.1,
      drop-set-lt (length a.calls.now) l.answers l.i c.apply-next.result.1 (search rules) ∙ l.invariant.2,
      search rules,
    )

-- the run to its end, at what the function returns
ended : (g : given.Over) (c : goal.After-loop-i g) (e : Engine g.row.P.Denot g.row.S.Denot) (h : History) →
    LawfulAfter g.P.PriceRule.meaning g.S.SharingRule.meaning e h c.args.first (held_in c.args.lent.now) →
    Throughout g.P.PriceRule.meaning g.S.SharingRule.meaning e h c.args.first (held_in c.args.lent.now)
    c.args.calls.now c.loop-i.answers c.loop-i.current (held_in c.loop-i.lent)
ended g c e h k = throughout_all g.P.PriceRule.meaning g.S.SharingRule.meaning e h _ _ c.loop-i.i c.args.calls.now c.loop-i.answers c.loop-i.current _ (search rules) (c.loop-i.invariant.0 e h k)

pub returns : goal.returns
returns g c = record {
  throughout = ended g c;
  ends = λ e h k. throughout_ends g.P.PriceRule.meaning g.S.SharingRule.meaning e h _ _ c.args.calls.now c.loop-i.answers c.loop-i.current _ (ended g c e h k);
  rest = c.loop-i.invariant.2;
  size = c.loop-i.invariant.1;
  lent = c.loop-i.invariant.3;
}
