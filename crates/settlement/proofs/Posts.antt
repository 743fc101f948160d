-- Posting account by account.
use Rattle.std.proofs.Common.{◌≡◌, ℕ, ◌+◌, ◌<◌, Bool, true, false, List, [], ◌∷◌, ◌++◌, map, length, get_or, take, drop, Decides, MatchBool, refl, ap, ◌∙◌, arith}
use lib.ListN.{length-map}
use Rattle.std.specs.List.{AllByRecursion, AllWithin, HoldsAt}
use Rattle.std.proofs.ByRecursion.{All-map, all_from_every, every_from_all}
use Rattle.std.proofs.lemmas.Bool.{false≢true}
use Rattle.std.proofs.lemmas.List.{drop_more, get_or_at, length-take-le}

pub all_mapped : {X Y : Type 0} (P : Y → Type 0) (f : X → Y) (xs : List X) → AllByRecursion P (map f xs) → AllByRecursion (λ x. P (f x)) xs
all_mapped P f [] h = tt
all_mapped P f (x ∷ xs) (here, h) = (here, all_mapped P f xs h)

-- where the first i elements have been mapped, the next one is as it was
module _ {X : Type 0} (f : X → X) (xs ys : List X) (i : ℕ) (so_far : ys ≡ map f (take i xs) ++ drop i xs) where
  pub next_unmapped : (d : X) → i < length xs → get_or ys i d ≡ get_or xs i d
  next_unmapped d h =
      let size : length (map f (take i xs)) ≡ i = length-map (take i xs) f ∙ length-take-le i xs (omega arith) in
      ap (λ l. get_or l i d) (so_far ∙ ap (λ l. map f (take i xs) ++ l) (drop_more xs i d h)) ∙ get_or_at (map f (take i xs)) (get_or xs i d) (drop (i + 1) xs) d i size

-- what a call of `all` answers
pub all_by_answer : {X Y : Type 0} (P : Y → Type 0) (f : X → Y) (d : X) (r : Bool) (xs : List X) → MatchBool r (AllWithin (λ x. P (f x)) xs 0 (length xs)) ((k : ℕ) × (k < length xs) × HoldsAt (λ x. P (f x) → ⊥) xs k) → Decides r (AllByRecursion P (map f xs))
all_by_answer P f d true xs h = (λ _. All-map P f xs (all_from_every (λ x. P (f x)) xs h), λ _. refl)
all_by_answer P f d false xs h =
    (λ e. absurd (false≢true e), λ all. absurd (h.2 d (every_from_all (λ x. P (f x)) xs (all_mapped P f xs all) h.0 d (omega arith) h.1)))
