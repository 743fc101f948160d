use Rattle.table.proofs.Distincts.{apart_decides}
use Rattle.table.proofs.slices.codes_apart.Goals as goal

pub returns : goal.returns
returns g c =
    apart_decides g.R.Record.order g.met.R.Record.lawful g.R.Record.code g.R.Record.coded g.met.R.Record.tells c.args.rows.now c.gather.new.codes c.all_differ.result c.gather.ensures.codes c.gather.ensures.coded c.all_differ.ensures
