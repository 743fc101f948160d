-- What an edit keeps of a sound table.
use Rattle.std.proofs.Common.{◌≡◌, ℕ, ◌+◌, ◌-◌, ◌<◌, min, Bool, true, false, cond, List, [], ◌∷◌, ◌++◌, length, take, drop, Some, refl, sym, ap, ◌∙◌, subst, ⊎_elim, one-add, arith}
use Rattle.std.specs.List.{insert, remove, AllByRecursion}
use Rattle.std.proofs.ByRecursion.{All-weaker}
use Rattle.std.proofs.lemmas.Bool.{both_ways, cases_Bool}
use Rattle.std.proofs.lemmas.List.{length-take, length-take-le, take_at, take_min}
use Rattle.std.proofs.lemmas.List.Edits.{length-insert, length-remove}
use Rattle.std.proofs.lemmas.List.Sums.{prefix_len-le-length}
use Rattle.table.specs.Order.{Order, Lawful}
use Rattle.table.specs.Rows.{Absent, Rising, Sound, found, rank, seat, with_row, without}
use Rattle.table.specs.Edits.{Removed}
use Rattle.table.proofs.Keys.{absent_everywhere, found_at}
use Rattle.table.proofs.Pairs.{all_inserted, all_removed, pairwise_inserted, pairwise_removed}

module _ {X K : Type 0} (o : Order X K) (l : Lawful o) where
  -- `same` does not depend on the order of its keys
  other_way : (a b : K) → o.same a b ≡ false → o.same b a ≡ false
  other_way a b e =
      ⊎_elim (λ t. absurd (both_ways (o.same a b) e ((l.alike a b).1 (sym ((l.alike b a).0 t))))) (λ f. f) (cases_Bool (o.same b a))

  rising_put : (r : X) (xs : List X) → Rising o xs → AllByRecursion (λ y. o.same (o.named y) (o.named r) ≡ false) xs → Rising o (with_row o r xs)
  rising_put r [] h d = (tt, tt)
  rising_put r (x ∷ xs) h d =
      let P : Bool → Type 0 = λ b. o.precedes x r ≡ b → Rising o (insert (x ∷ xs) (cond b (1 + rank o r xs) 0) r) in
      let go : P (o.precedes x r) =
      elim (o.precedes x r) as P [
        | true ↦ λ t. rw one-add (all_inserted (λ y. o.precedes x y ≡ true) xs (rank o r xs) r h.0 t, rising_put r xs h.1 d.1)
        | false ↦ λ t.
            let f = l.apart x r d.0 t in
            ((f, All-weaker (λ y. o.precedes x y ≡ true) (λ y. o.precedes r y ≡ true) (λ y. l.chains r x y f) xs h.0), h)
      ] in
      go refl

  module _ (limits : X → Type 0) where
    sound_put : (r : X) (xs : List X) → limits r → Absent o (o.named r) xs → Sound o limits xs → Sound o limits (with_row o r xs)
    sound_put r xs w a s =
        let fresh = absent_everywhere o (o.named r) xs a in
        record {
          within = all_inserted limits xs (rank o r xs) r s.within w;
          rising = rising_put r xs s.rising fresh;
          apart = pairwise_inserted (λ x y. o.same (o.named x) (o.named y) ≡ false) (λ x y. other_way (o.named x) (o.named y)) xs (rank o r xs) r s.apart fresh;
        }

    sound_out : (xs : List X) (i : ℕ) → Sound o limits xs → Sound o limits (remove xs i)
    sound_out xs i s =
        record {
          within = all_removed limits xs i s.within;
          rising = pairwise_removed (λ x y. o.precedes x y ≡ true) xs i s.rising;
          apart = pairwise_removed (λ x y. o.same (o.named x) (o.named y) ≡ false) xs i s.apart;
        }

    -- after an insert: xs is the slice before it, ys after it
    pub sound_inserted : (r : X) (xs ys : List X) (n : ℕ) → n < length xs → Absent o (o.named r) (take n xs) → ys ≡ with_row o r (take n xs) ++ drop (n + 1) xs → limits r → Sound o limits (take n xs) → Sound o limits (take (n + 1) ys)
    sound_inserted r xs ys n h a q w s =
        let size : length (with_row o r (take n xs)) ≡ n + 1 = omega (arith, length-take-le n xs (omega arith), length-insert (take n xs) (rank o r (take n xs)) r (prefix_len-le-length (λ y. o.precedes y r) (take n xs))) in
        let is : take (n + 1) ys ≡ with_row o r (take n xs) = ap (take (n + 1)) q ∙ take_at (with_row o r (take n xs)) (drop (n + 1) xs) (n + 1) size in
        subst (λ zs. Sound o limits zs) (sym is) (sound_put r (take n xs) w a s)

    -- after a removal
    pub sound_removed : (k : K) (xs ys : List X) (n m : ℕ) → Removed o k xs n ys m true → Sound o limits (take n xs) → Sound o limits (take m ys)
    sound_removed k xs ys n m e s =
        let cs = without o k (take n xs) in
        let size : length cs ≡ m = omega (arith, length-remove (take n xs) (seat o k (take n xs)) e.0, e.2) in
        let left : take m ys ≡ cs = ap (take m) e.1 ∙ take_at cs (drop m xs) m size in
        subst (λ zs. Sound o limits zs) (sym left) (sound_out (take n xs) (seat o k (take n xs)) s)

  -- the row at p is taken out, where n of the slice's places are counted
  pub was_removed : (k : K) (xs ys : List X) (count n p : ℕ) → n ≡ min count (length xs) → found o k (take count xs) ≡ Some p → ys ≡ remove (take n xs) p ++ drop (n - 1) xs → Removed o k xs count ys (n - 1) true
  was_removed k xs ys count n p e f q =
      let place = found_at o k (take count xs) p f in
      let same : take n xs ≡ take count xs = ap (λ j. take j xs) e ∙ take_min count xs in
      let is : ys ≡ remove (take count xs) p ++ drop (n - 1) xs = rw same at q in
      (place.1, rw place.0 at is, omega (arith, length-take count xs))
