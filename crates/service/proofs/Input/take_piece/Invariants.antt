use Rattle.std.proofs.Common.{◌≡◌, ℕ, List, drop}
use Rattle.service.specs.Lines.{Answered, Within, begun_after, ended}
use Rattle.service.proofs.Input.take_piece.Given as goal

-- from where the input stands, what is left of the piece leads where the whole piece does
abbrev pub invariant-loop-byte : goal.invariant-loop-byte
invariant-loop-byte g l =
    (line : List ℕ) → Within l.initial.self.line line →
    (begun : List ℕ) × Within l.self.line begun
    × (begun_after begun (drop l.byte-index l.piece) ≡ begun_after line l.piece)
    × ((t : _) → Answered g.S.Service.turns l.service (ended begun (drop l.byte-index l.piece)) t → Answered g.S.Service.turns l.initial.service (ended line l.piece) t)
