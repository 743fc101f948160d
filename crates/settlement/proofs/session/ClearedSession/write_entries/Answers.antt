use Rattle.std.proofs.Common.{◌≡◌, ◌+◌, ◌-◌, ◌<◌, ◌≤◌, [], ◌∷◌, ◌++◌, length, set, sym, ap, ◌∙◌, arith, length-append, w64, to_z, of_z}
use borrow.Rule.Slice.PartMut.{put_mid}
use Rattle.std.proofs.lemmas.Int.{ints}
use Rattle.settlement.specs.Entries.{entries_of, entry, income_due, zone_entries}
use Rattle.settlement.specs.Writing.{written}
use Rattle.settlement.specs.Sessions.{outcome_of}
use Rattle.settlement.specs.declared.entry.Entry.{Entry}
use Rattle.settlement.proofs.Parts.{block_parts, entry_parts, session_count}
use Rattle.settlement.proofs.Writes.{length_written, written_behind, written_push}
use Rattle.settlement.proofs.session.ClearedSession.write_entries.Goals as goal

pub write_income-requires : goal.write_income-requires
write_income-requires c =
    let o = outcome_of c.args.self in
    let one = zone_entries o.one in
    let two = zone_entries o.two in
    let xs = c.args.entries.now in
    let fit : length one + length two ≤ length xs = omega (arith, session_count o, c.requires) in
    let both = written_behind one two xs c.write-first.new.entries c.write-second.new.entries c.write-first.result c.write-first.ensures.count fit c.write-first.ensures.entries c.write-second.ensures.entries in
    omega (arith, ap length both, length_written 0 (one ++ two) xs (omega (arith, fit, length-append one two)), session_count o, c.requires, c.write-first.ensures.count, c.write-second.ensures.count)

pub returns : goal.returns
returns c =
    let o = outcome_of c.args.self in
    let one = zone_entries o.one in
    let two = zone_entries o.two in
    let xs = c.args.entries.now in
    let n = c.write-first.result in
    let place = n + c.write-second.result in
    let first = c.write-first.new.entries in
    let blocks = put_mid n (length first - n) first c.write-second.new.entries in
    let fit : length one + length two ≤ length xs = omega (arith, session_count o, c.requires) in
    let both = written_behind one two xs first c.write-second.new.entries n c.write-first.ensures.count fit c.write-first.ensures.entries c.write-second.ensures.entries in
    let size : place ≡ length (one ++ two) = omega (arith, length-append one two, c.write-first.ensures.count, c.write-second.ensures.count) in
    let same : length blocks ≡ length xs = ap length both ∙ length_written 0 (one ++ two) xs (omega (arith, fit, length-append one two)) in
    let room : place < length blocks = omega (arith, size, same, session_count o, c.requires, length-append one two) in
    let all : entries_of o ≡ (one ++ two) ++ entry (income_due o) ∷ [] = entry_parts o ∙ ap (λ es. es ++ entry (income_due o) ∷ []) (block_parts o) in
    let out : to_z w64 (of_z w64 c.income.result) ≡ c.income.result = omega (arith, ints) in
    let wrote : Entry = record { agent = 0; unit = 0; number = 0; cents = to_z w64 (of_z w64 c.income.result) } in
    let last : wrote ≡ entry (income_due o) = ap (λ z. record { agent = 0; unit = 0; number = 0; cents = z }) (out ∙ c.income.ensures.value) in
    c.write_income.ensures ∙ ap (set blocks place) last ∙ written_push (one ++ two) xs blocks place (entry (income_due o)) both size room same ∙ ap (λ es. written 0 es xs) (sym all)
