-- The entries of one side, row by row.
use Rattle.std.proofs.Common.{◌≡◌, ℕ, ◌+◌, ◌<◌, true, false, cond, List, [], ◌∷◌, ◌++◌, map, length, get_or, take, drop, ℤ, ◌+ℤ◌, filter, sym, refl, ap, ◌∙◌, arith, length-append}
use Rattle.std.specs.List.{AllByRecursion}
use Rattle.std.proofs.lemmas.List.{map-append, take_more, take-append-drop}
use Rattle.std.proofs.lemmas.List.Elements.{filter-append}
use Rattle.settlement.specs.Entries.{Trade, due, dues, entry, is_matched, side_entries}
use Rattle.settlement.specs.Postings.{total}
use Rattle.settlement.specs.declared.entry.Entry.{Entry}
use Rattle.settlement.proofs.Sums.{total_append}

pub all_parts : {X : Type 0} (P : X → Type 0) (xs ys : List X) → AllByRecursion P (xs ++ ys) → AllByRecursion P xs × AllByRecursion P ys
all_parts P [] ys h = (tt, h)
all_parts P (x ∷ xs) ys (here, h) = let parts = all_parts P xs ys h in ((here, parts.0), parts.1)

module _ {X : Type 0} (t : Trade X) (p : ℤ) where
  entries_append : (xs ys : List X) → side_entries t p (xs ++ ys) ≡ side_entries t p xs ++ side_entries t p ys
  entries_append xs ys =
      ap (λ zs. map entry (map (due t p) zs)) (filter-append (is_matched t) xs ys) ∙ ap (map entry) (map-append (due t p) (filter (is_matched t) xs) (filter (is_matched t) ys)) ∙ map-append entry (dues t p xs) (dues t p ys)

  -- what the entries add up to, row by row
  pub total_rows : (f : Entry → ℤ) (xs : List X) → total f (side_entries t p xs) ≡ total (λ x. total f (side_entries t p (x ∷ []))) xs
  total_rows f [] = refl
  total_rows f (x ∷ xs) =
      ap (total f) (entries_append (x ∷ []) xs) ∙ total_append f (side_entries t p (x ∷ [])) (side_entries t p xs) ∙ ap (λ z. total f (side_entries t p (x ∷ [])) +ℤ z) (total_rows f xs)

  pub entries_none : (x : X) → is_matched t x ≡ false → side_entries t p (x ∷ []) ≡ []
  entries_none x e = ap (λ b. map entry (map (due t p) (cond b (x ∷ []) []))) e

  pub entries_one : (x : X) → is_matched t x ≡ true → side_entries t p (x ∷ []) ≡ entry (due t p x) ∷ []
  entries_one x e = ap (λ b. map entry (map (due t p) (cond b (x ∷ []) []))) e

  -- the entries of the first rows, and of one more, r
  module _ (xs : List X) (i : ℕ) (r : X) (within : i < length xs) (here : r ≡ get_or xs i r) where
    pub entries_more : side_entries t p (take (i + 1) xs) ≡ side_entries t p (take i xs) ++ side_entries t p (r ∷ [])
    entries_more =
        ap (side_entries t p) (take_more xs i r within ∙ ap (λ y. take i xs ++ y ∷ []) (sym here)) ∙ entries_append (take i xs) (r ∷ [])

    pub places_left : is_matched t r ≡ true → length (side_entries t p (take i xs)) < length (side_entries t p xs)
    places_left m =
        let n = i + 1 in
        let all = ap (side_entries t p) (sym (take-append-drop n xs)) ∙ entries_append (take n xs) (drop n xs) in
        omega (arith, ap length all, length-append (side_entries t p (take n xs)) (side_entries t p (drop n xs)), ap length entries_more, length-append (side_entries t p (take i xs)) (side_entries t p (r ∷ [])), ap length (entries_one r m))
