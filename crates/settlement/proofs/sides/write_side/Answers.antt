use Rattle.std.proofs.Common.{[], ◌∷◌, ◌++◌, ◌<◌, length, set, take, ℤ, sym, ap, ◌∙◌, arith, append-nil, length-append, w32, to_z, of_z}
use Rattle.std.proofs.lemmas.Int.{to_z-of_z}
use Rattle.settlement.specs.Entries.{due, entry, side_entries, trade_of}
use Rattle.settlement.specs.Writing.{written}
use Rattle.settlement.proofs.Rows.{entries_more, entries_none, entries_one, places_left}
use Rattle.settlement.proofs.Writes.{written_push}
use Rattle.settlement.proofs.sides.write_side.Goals as goal
use Rattle.settlement.proofs.sides.write_side.Goals.{then-is_matched, else-is_matched}

pub bounds-entries-place : goal.bounds-entries-place
bounds-entries-place g c =
    let t = trade_of g.B.BlockRow.held g.B.BlockRow.traded in
    let xs = c.args.blocks.now in
    let same = ap (λ (z : ℤ). length (side_entries t z xs)) (to_z-of_z w32 c.args.price c.ranges.price) in
    let left = places_left t (to_z w32 (of_z w32 c.args.price)) xs c.loop-row.row-index c.row-item.result c.loop-row-test.true c.row-item.is (sym c.is_matched.ensures ∙ c.if-is_matched.true) in
    omega (arith, left, same, c.requires, c.loop-row.invariant.place, c.loop-row.auto.entries)

pub loop-row-preserved : goal.loop-row-preserved
loop-row-preserved g c =
    let t = trade_of g.B.BlockRow.held g.B.BlockRow.traded in
    let p = to_z w32 (of_z w32 c.args.price) in
    let xs = c.args.blocks.now in
    let i = c.loop-row.row-index in
    let r = c.row-item.result in
    let es = side_entries t p (take i xs) in
    let more = entries_more t p xs i r c.loop-row-test.true c.row-item.is in
    let start = c.args.entries.now in
    elim c.if-is_matched.branch [
      | then-is_matched w ↦
          let matched = sym c.is_matched.ensures ∙ w.if-is_matched.true in
          let same = ap (λ (z : ℤ). length (side_entries t z xs)) (to_z-of_z w32 c.args.price c.ranges.price) in
          let room : c.loop-row.place < length c.loop-row.entries = omega (arith, places_left t p xs i r c.loop-row-test.true c.row-item.is matched, same, c.requires, c.loop-row.invariant.place, c.loop-row.auto.entries) in
          let one = more ∙ ap (λ ys. es ++ ys) (entries_one t p r matched) in
          record {
            entries = w.entries-is ∙ ap (λ y. set c.loop-row.entries c.loop-row.place y) w.row_entry.ensures ∙ written_push es start c.loop-row.entries c.loop-row.place (entry (due t p r)) c.loop-row.invariant.entries c.loop-row.invariant.place room c.loop-row.auto.entries ∙ ap (λ ys. written 0 ys start) (sym one);
            place = omega (arith, ap length one, length-append es (entry (due t p r) ∷ []), w.place-is, c.loop-row.invariant.place);
          }
      | else-is_matched w ↦ let none = more ∙ ap (λ ys. es ++ ys) (entries_none t p r (sym c.is_matched.ensures ∙ w.if-is_matched.false)) ∙ append-nil es in record { entries = w.entries-is ∙ c.loop-row.invariant.entries ∙ ap (λ ys. written 0 ys start) (sym none); place = w.place-is ∙ c.loop-row.invariant.place ∙ ap length (sym none) }
    ]
