use Rattle.table.proofs.Distincts.{apart_from_climbing}
use Rattle.table.proofs.slices.keys_apart.Goals as goal

pub returns-then-codes_climb : goal.returns-then-codes_climb
returns-then-codes_climb g c =
    (λ e. apart_from_climbing g.R.Record.order g.met.R.Record.lawful g.R.Record.code g.R.Record.coded g.met.R.Record.tells c.args.rows.now (c.codes_climb.ensures.0 e), λ a. c.if-codes_climb.true)
