use Rattle.std.proofs.Common.{[], sym, subst}
use Rattle.session.specs.Lending.{held_in}
use Rattle.session.specs.Tables.{Places}
use Rattle.exchange.specs.Calls.{new_idle}
use Rattle.exchange.specs.Runs.{LawfulAfter, Throughout}
use Rattle.exchange.specs.declared.exchange.Exchange.TheVariants as exchange
use Rattle.exchange.specs.declared.state.Idle.{Idle}
use Rattle.exchange.proofs.LawRuns.{after_new, lawful_after}
use Rattle.exchange.proofs.run.whole.Goals as goal

pub returns : goal.returns
returns g c =
    let f = g.P.PriceRule.meaning in
    let m = g.S.SharingRule.meaning in
    let a = c.args in
    let e = a.engine in
    let l = c.run.new in
    let t : Places = held_in a.lent.now in
    let u : Places = held_in l.lent in
    let p = c.new.ensures in
    let fresh : LawfulAfter f m e [] (exchange.Idle (new_idle e)) t = lawful_after f m e (g.met.S.SharingRule.lawful e.sharing_rule) (g.met.P.PriceRule.within e.price_rule) [] (exchange.Idle (new_idle e)) t (after_new f m e t) in
    let new : LawfulAfter f m e [] (exchange.Idle c.new.result) t = subst (λ (y : Idle g.row.P.Denot g.row.S.Denot). LawfulAfter f m e [] (exchange.Idle y) t) (sym p) fresh in
    record {
      throughout = subst (λ (y : Idle g.row.P.Denot g.row.S.Denot). Throughout f m e [] (exchange.Idle y) t a.calls.now l.answers c.run.result u) p (c.run.ensures.throughout e [] new);
      ends = c.run.ensures.ends e [] new;
      lent = c.run.ensures.lent;
      rest = c.run.ensures.rest;
      size = c.run.ensures.size;
    }
