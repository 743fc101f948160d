-- Entries written one after another.
use Rattle.std.proofs.Common.{◌≡◌, ℕ, ◌+◌, ◌-◌, ◌<◌, ◌≤◌, List, [], ◌∷◌, ◌++◌, length, take, drop, set, sym, ap, ◌∙◌, add-zero, add-one, append-nil, arith, length-append, length-drop, length-take}
use borrow.Rule.Slice.PartMut.{mid_of, post_of, put_mid}
use Rattle.std.proofs.lemmas.List.{append_assoc, take-append-drop, length-take-le, take_all, take_at, drop_all, drop_at, drop-drop, set_split}
use Rattle.settlement.specs.Writing.{written}

module _ {X : Type 0} where
  pub written_none : (place : ℕ) (xs : List X) → written place [] xs ≡ xs
  written_none place xs = rw add-zero (take-append-drop place xs)

  pub written_one : (place : ℕ) (y : X) (xs : List X) → place < length xs → set xs place y ≡ written place (y ∷ []) xs
  written_one place y xs h = rw add-one (set_split xs place y h)

  pub written_then : (place : ℕ) (es fs xs : List X) → place + length es ≤ length xs → written (place + length es) fs (written place es xs) ≡ written place (es ++ fs) xs
  written_then place es fs xs h =
      let front = take place xs in
      let k = place + length es in
      let rest = drop k xs in
      let all = written place es xs in
      let whole : all ≡ (front ++ es) ++ rest = sym (append_assoc front es rest) in
      let len : length (front ++ es) ≡ k = length-append front es ∙ ap (λ n. n + length es) (length-take-le place xs (omega arith)) in
      let before : take k all ≡ front ++ es = ap (take k) whole ∙ take_at (front ++ es) rest k len in
      let behind : drop (k + length fs) all ≡ drop (k + length fs) xs = sym (drop-drop (length fs) k all) ∙ ap (drop (length fs)) (ap (drop k) whole ∙ drop_at (front ++ es) rest k len) ∙ drop-drop (length fs) k xs in
      let size : k + length fs ≡ place + length (es ++ fs) = omega (arith, length-append es fs) in
      let last = drop (place + length (es ++ fs)) xs in
      ap (λ a. a ++ (fs ++ drop (k + length fs) all)) before ∙ ap (λ d. (front ++ es) ++ (fs ++ d)) (behind ∙ ap (λ n. drop n xs) size) ∙ append_assoc front es (fs ++ last) ∙ ap (λ r. front ++ r) (sym (append_assoc es fs last))

  -- the same after a first list has been written
  pub written_next : (place n : ℕ) (es fs xs ys : List X) → place + length es ≤ length xs → ys ≡ written place es xs → n ≡ place + length es → written n fs ys ≡ written place (es ++ fs) xs
  written_next place n es fs xs ys h e k = ap (λ m. written m fs ys) k ∙ ap (λ l. written (place + length es) fs l) e ∙ written_then place es fs xs h

  -- one element more over the next place
  pub written_push : (es xs ys : List X) (place : ℕ) (y : X) → ys ≡ written 0 es xs → place ≡ length es → place < length ys → length ys ≡ length xs → set ys place y ≡ written 0 (es ++ y ∷ []) xs
  written_push es xs ys place y e k room same =
      written_one place y ys room ∙ written_next 0 place es (y ∷ []) xs ys (omega arith) e (omega arith)

  pub length_written : (place : ℕ) (es xs : List X) → place + length es ≤ length xs → length (written place es xs) ≡ length xs
  length_written place es xs h = simp (length-append, length-take, length-drop) (omega arith)

  -- one list over the first places, and another one over those behind it
  pub written_behind : (es fs xs ys zs : List X) (n : ℕ) → n ≡ length es → length es + length fs ≤ length xs → ys ≡ written 0 es xs → zs ≡ written 0 fs (mid_of n (length ys - n) ys) → put_mid n (length ys - n) ys zs ≡ written 0 (es ++ fs) xs
  written_behind es fs xs ys zs n k h e f =
      let rest : length (drop n ys) ≤ length ys - n = omega (arith, length-drop n ys) in
      let behind : zs ++ post_of n (length ys - n) ys ≡ fs ++ drop (n + length fs) ys =
      ap (λ l. zs ++ l) (drop_all (length ys - n) (drop n ys) rest) ∙ append-nil zs ∙ f ∙ ap (λ l. fs ++ drop (0 + length fs) l) (take_all (length ys - n) (drop n ys) rest) ∙ ap (λ l. fs ++ l) (drop-drop (0 + length fs) n ys ∙ ap (λ m. drop m ys) (omega arith)) in
      ap (λ l. take n ys ++ l) behind ∙ written_next 0 n es fs xs ys (omega arith) e (omega arith)
