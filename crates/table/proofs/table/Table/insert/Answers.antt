use Rattle.std.proofs.Common.{◌≡◌, take, rules}
use Rattle.std.proofs.lemmas.List.{length-take-le}
use Rattle.std.proofs.lemmas.List.Sums.{prefix_len-le-length}
use Rattle.table.specs.Rows.{rank}
use Rattle.table.proofs.Keys.{found_none}
use Rattle.table.proofs.Sounds.{sound_inserted}
use Rattle.table.proofs.table.Table.insert.Goals as goal

pub open_at-requires : goal.open_at-requires
open_at-requires g c = search (rules, length-take-le, prefix_len-le-length)

pub returns-clause-keeps : goal.returns-clause-keeps
returns-clause-keeps g c =
    let o = g.R.Record.order in
    let r = c.args.row in
    let xs = c.args.self.now.rows.now in
    let n = c.args.self.now.count in
    let first : c.place-p.result ≡ rank o r (take n xs) = search rules in
    sound_inserted o g.met.R.Record.lawful g.R.Record.limits r xs c.open_at.new.rows n (search rules) (search (rules, found_none)) (rw first at c.open_at.ensures)
