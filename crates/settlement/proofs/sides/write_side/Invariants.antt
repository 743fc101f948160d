use Rattle.std.proofs.Common.{◌≡◌, length, take}
use Rattle.settlement.specs.Entries.{side_entries, trade_of}
use Rattle.settlement.specs.Writing.{written}
use Rattle.settlement.proofs.sides.write_side.Given as goal

-- the entries of the rows so far stand over the first places
abbrev pub invariant-loop-row : goal.invariant-loop-row
invariant-loop-row g l = record {
  entries : l.entries ≡ written 0 (side_entries (trade_of g.B.BlockRow.held g.B.BlockRow.traded) l.price (take l.row-index l.blocks)) l.initial.entries;
  place : l.place ≡ length (side_entries (trade_of g.B.BlockRow.held g.B.BlockRow.traded) l.price (take l.row-index l.blocks));
}
