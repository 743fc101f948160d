use Rattle.std.proofs.Common.{sym, ◌∙◌}
use Rattle.table.proofs.Sounds.{sound_removed, was_removed}
use Rattle.table.proofs.table.Table.remove.Goals as goal

pub returns-clause-keeps : goal.returns-clause-keeps
returns-clause-keeps g c =
    let o = g.R.Record.order in
    let l = g.met.R.Record.lawful in
    let xs = c.args.self.now.rows.now in
    let n = c.args.self.now.count in
    sound_removed o l g.R.Record.limits c.args.key xs c.close_at.new.rows n _ (was_removed o l c.args.key xs c.close_at.new.rows n c.min-n.result c.in-Some.p c.min-n.ensures (sym c.find.ensures ∙ c.in-Some.is) c.close_at.ensures)
