-- The text of an accepted clearing, as docs/CALLS.md gives it.
-- To believe: this text, and that std's `signed_decimal` is what `{}` writes of a number.
use Rattle.std.specs.Prelude.{ℕ, List, ◌++◌, codes}
use Rattle.std.specs.Fmt.{signed_decimal}
use Rattle.session.specs.declared.report.Report.{Report}

abbrev pub report_text : Report → List ℕ
report_text r =
    codes "(cleared (price " ++ (signed_decimal r.price_one ++ (codes " " ++ (signed_decimal r.price_two
    ++ (codes ") (flow " ++ (signed_decimal r.flow ++ (codes ") (surplus " ++ (signed_decimal r.surplus ++ codes "))")))))))
