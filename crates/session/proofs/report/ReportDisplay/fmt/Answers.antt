use Rattle.std.proofs.Common.{w32, w64, SFits, rules}
use Rattle.std.proofs.lemmas.Int.{to_z-of_z}
use Rattle.session.proofs.report.ReportDisplay.fmt.Goals as goal

pub returns-clause-writes : goal.returns-clause-writes
returns-clause-writes g c =
    let one : SFits w32 c.args.self.now.price_one = search rules in
    let two : SFits w32 c.args.self.now.price_two = search rules in
    let f : SFits w32 c.args.self.now.flow = search rules in
    let s : SFits w64 c.args.self.now.surplus = search rules in
    let shows = simp to_z-of_z at c.write.ensures.writes in
    search
