use Rattle.std.proofs.Common.{◌≡◌, length, take, drop}
use Rattle.auction.specs.declared.engine.Engine.{Engine}
use Rattle.session.specs.Lending.{SameLent, held_in}
use Rattle.exchange.specs.History.{History}
use Rattle.exchange.specs.Runs.{LawfulAfter, Throughout}
use Rattle.exchange.proofs.run.run.Given as goal

-- the run so far, the places of answers that no call has, and the places that are lent
abbrev pub invariant-loop-i : goal.invariant-loop-i
invariant-loop-i g l =
    let f = g.P.PriceRule.meaning in
    let m = g.S.SharingRule.meaning in
    let before = held_in l.initial.lent in
    let here = held_in l.lent in
    ((e : Engine g.row.P.Denot g.row.S.Denot) (h : History) → LawfulAfter f m e h l.initial.current before → Throughout f m e h l.initial.current before (take l.i l.calls) (take l.i l.answers) l.current here)
    × (length l.answers ≡ length l.initial.answers)
    × (drop (length l.calls) l.answers ≡ drop (length l.calls) l.initial.answers)
    × SameLent l.initial.lent l.lent
