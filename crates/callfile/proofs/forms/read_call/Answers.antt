use Rattle.std.proofs.Common.{◌≡◌, rules}
use Rattle.callfile.specs.Forms.{call_of}
use Rattle.callfile.proofs.Calls.{reads_from, long_from}
use Rattle.callfile.proofs.forms.read_call.Goals as goal

pub returns-in_err-call : goal.returns-in_err-call
returns-in_err-call c =
    let e : c.from_residual.result ≡ call_of c.args.line.now = search rules in
    record { reads = reads_from _ _ e; long = long_from _ _ e }

pub returns : goal.returns
returns c =
    let e : c.then_some.result ≡ call_of c.args.line.now = search rules in
    record { reads = reads_from _ _ e; long = long_from _ _ e }
