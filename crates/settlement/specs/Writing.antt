-- Writing into a list, for the functions that write one part of the entries after another. Nothing of the market stands here.
use Rattle.std.specs.Prelude.{ℕ, ◌+◌, List, ◌++◌, length, take, drop}

-- a list with others written over it from a place on
abbrev pub written : {X : Type 0} → ℕ → List X → List X → List X
written place ys xs = take place xs ++ (ys ++ drop (place + length ys) xs)
