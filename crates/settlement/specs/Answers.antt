-- The texts of an entry and of an accepted settlement, as docs/CALLS.md gives them.
-- To believe: these texts, and that std's `decimal` and `signed_decimal` are what `{}` writes of a number.
use Rattle.std.specs.Prelude.{ℕ, List, ◌++◌, codes, decimal}
use Rattle.std.specs.Fmt.{signed_decimal}
use Rattle.settlement.specs.declared.entry.Entry.{Entry}
use Rattle.settlement.specs.declared.settle.Settled.{Settled}

abbrev pub entry_text : Entry → List ℕ
entry_text e =
    codes "(entry " ++ (decimal e.agent ++ (codes " " ++ (decimal e.unit ++ (codes " " ++ (decimal e.number
    ++ (codes " " ++ (signed_decimal e.cents ++ codes ")")))))))

abbrev pub settled_text : Settled → List ℕ
settled_text s = codes "(settled (income " ++ (signed_decimal s.session.income ++ (codes ") (residue " ++ (signed_decimal s.session.residue ++ codes "))")))
