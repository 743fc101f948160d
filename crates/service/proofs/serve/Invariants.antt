use Rattle.std.proofs.Common.{◌≡◌, ℕ, List, length}
use Rattle.service.specs.Lines.{Answered, Within}
use Rattle.service.proofs.serve.Given as goal

-- nothing but lines that were answered has turned the service
abbrev pub invariant-loop : goal.invariant-loop
invariant-loop g l =
    (length l.piece ≡ 4096)
    × ((line : List ℕ) × Within l.taken.line line)
    × ((lines : List (List ℕ)) × Answered g.S.Service.turns l.initial.service lines l.service)
