use Rattle.std.proofs.Common.{take, ℤ, w32, SFits, to_z, of_z, rules}
use Rattle.std.proofs.lemmas.Int.{to_z-of_z}
use Rattle.session.specs.Lending.{four_held}
use Rattle.session.specs.Outcomes.{Four, held_for}
use Rattle.session.proofs.Settles.{SettlingAt, posts_counted, settling_as}
use Rattle.session.proofs.counted.settle_counted.Goals as goal

abbrev short : ℤ → ℤ
short z = to_z w32 (of_z w32 z)

pub returns : goal.returns
returns g c =
    let a = c.args in
    let t : Four = four_held a.blocks.now in
    let p = a.report.price_one in
    let q = a.report.price_two in
    let f = a.report.flow in
    let i = a.ledger.totals.income in
    let j = a.ledger.totals.residue in
    let fits_one : SFits w32 p = search rules in
    let fits-two : SFits w32 q = search rules in
    let fits-flow : SFits w32 f = search rules in
    let h : SettlingAt a.session t (take a.ledger.accounts a.accounts.now) a.entries.now i j c.settle.result c.settle.new.accounts c.settle.new.entries (short p) (short q) (short f) = (c.settle.ensures.cause, c.settle.ensures.settlement) in
    let k = settling_as a.session t (take a.ledger.accounts a.accounts.now) a.entries.now i j c.settle.result c.settle.new.accounts c.settle.new.entries p (short p) q (short q) f (short f) (to_z-of_z w32 p fits_one) (to_z-of_z w32 q fits-two) (to_z-of_z w32 f fits-flow) h in
    record {
      why = k.0;
      after = posts_counted (held_for a.session a.report t) a.ledger a.accounts.now a.entries.now c.settle.result c.settle.new.accounts c.settle.new.entries k.1;
    }
