use Rattle.std.proofs.Common.{sym, rules}
use Rattle.callfile.specs.Reading.{signed_of}
use Rattle.callfile.proofs.Laws.{text_value}
use Rattle.callfile.proofs.parts.I32Part.read.Goals as goal

pub returns : goal.returns
returns c =
    let e = text_value signed_of c.args.line.now c.in_ok-text.text.now c.in_ok-text.rest.now c.in_ok-signed.field-0 (sym c.in_ok-text.ensures) (sym c.in_ok-signed.ensures) in
    search rules
