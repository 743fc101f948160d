-- The lines of entries, one entry after another.
use Rattle.std.proofs.Common.{◌≡◌, ℕ, ◌+◌, ◌<◌, List, [], ◌∷◌, ◌++◌, length, get_or, take, sym, refl, ap, ◌∙◌, append_assoc}
use Rattle.std.proofs.lemmas.List.{take_more}
use Rattle.settlement.specs.Answers.{entry_text}
use Rattle.settlement.specs.declared.entry.Entry.{Entry}
use Rattle.lines.specs.Answers.{entry_lines, newline}

pub lines_push : (es : List Entry) (e : Entry) → entry_lines (es ++ e ∷ []) ≡ entry_lines es ++ (entry_text e ++ newline)
lines_push [] e = refl
lines_push (x ∷ es) e =
    ap (λ (l : List ℕ). entry_text x ++ (newline ++ l)) (lines_push es e)
    ∙ sym (append_assoc (entry_text x) (newline ++ entry_lines es) (entry_text e ++ newline))

pub lines_more : (es : List Entry) (i : ℕ) (d : Entry) → i < length es → entry_lines (take i es) ++ (entry_text (get_or es i d) ++ newline) ≡ entry_lines (take (i + 1) es)
lines_more es i d h = sym (ap entry_lines (take_more es i d h) ∙ lines_push (take i es) (get_or es i d))
