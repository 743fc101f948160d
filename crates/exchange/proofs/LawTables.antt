-- A table that is edited holds the rows that the edit leaves, and they are sound.
use Rattle.std.proofs.Common.{◌≡◌, ℕ, ◌+◌, ◌-◌, ◌<◌, ◌≤◌, true, false, not, List, [], ◌∷◌, ◌++◌, length, take, drop, neg_ℤ, sym, refl, ap, ◌∙◌, subst, ⊎_elim, arith, length-append}
use Rattle.std.proofs.lemmas.List.Edits.{length-insert, length-remove}
use Rattle.std.proofs.lemmas.List.{length-take-le, take_at}
use Rattle.std.proofs.lemmas.List.Sums.{prefix_len-le-length}
use Rattle.std.proofs.lemmas.Bool.{cases_lt}
use Rattle.std.proofs.lemmas.Bool.Decides.{Decides-eqb, nat_tests}
use Rattle.table.specs.Order.{Lawful}
use Rattle.table.specs.Rows.{Absent, Present, rank, seat, with_row, without}
use Rattle.table.proofs.Pairs.{all_removed, pairwise_removed}
use Rattle.table.proofs.Sounds.{sound_inserted}
use Rattle.market.specs.Keys.{key_decides, ranks_apart}
use Rattle.market.specs.Lexes.{lex_chains, lex_never}
use Rattle.market.specs.Precedence.{account_order, purchase_order, purchase_rank, sale_order, sale_rank}
use Rattle.exchange.specs.After.{Holding, SoundRows}
use Rattle.session.specs.Tables.{Counted, Full, Kind, Stands, lent, put_in, rows_of, taken_out}

pub sale_lawful : Lawful sale_order
sale_lawful = record {
  alike = key_decides;
  never = λ x. lex_never (sale_rank x.block.bid);
  chains = λ x y z. lex_chains (sale_rank x.block.bid) (sale_rank y.block.bid) (sale_rank z.block.bid);
  apart = λ x y. ranks_apart x.block.bid.price y.block.bid.price x.block.bid y.block.bid;
}

pub purchase_lawful : Lawful purchase_order
purchase_lawful = record {
  alike = key_decides;
  never = λ x. lex_never (purchase_rank x.block.bid);
  chains = λ x y z. lex_chains (purchase_rank x.block.bid) (purchase_rank y.block.bid) (purchase_rank z.block.bid);
  apart = λ x y. ranks_apart (neg_ℤ x.block.bid.price) (neg_ℤ y.block.bid.price) x.block.bid y.block.bid;
}

pub account_lawful : Lawful account_order
account_lawful = record {
  alike = Decides-eqb;
  never = λ x. grind (arith, nat_tests);
  chains = λ x y z e f. grind (arith, nat_tests);
  apart = λ x y e f. grind (arith, nat_tests);
}

module _ {X K : Type 0} (k : Kind X K) where
  pub absent_unless : (key : K) (xs : List X) → (Present k.order key xs → ⊥) → Absent k.order key xs
  absent_unless key xs n =
      ⊎_elim (λ h. absurd (n h)) (λ h. omega (arith, prefix_len-le-length (λ y. not (k.order.same (k.order.named y) key)) xs)) (cases_lt (seat k.order key xs) (length xs))

  size_with : (x : X) (xs : List X) → length (with_row k.order x xs) ≡ length xs + 1
  size_with x xs = length-insert xs (rank k.order x xs) x (prefix_len-le-length (λ y. k.order.precedes y x) xs)

  -- a row more
  pub holding_put : (x : X) (t : Counted X) (xs : List X) → (Full t → ⊥) → Holding t xs → Holding (put_in k x t) (with_row k.order x xs)
  holding_put x t xs room h =
      let under : t.count < length t.places = ⊎_elim (λ l. l) (λ l. absurd (room l)) (cases_lt t.count (length t.places)) in
      let len : length (rows_of t) ≡ t.count = length-take-le t.count t.places h.within in
      let size : length (with_row k.order x (rows_of t)) ≡ t.count + 1 = size_with x (rows_of t) ∙ ap (λ n. n + 1) len in
      record {
        within = omega (arith, length-append (with_row k.order x (rows_of t)) (drop (t.count + 1) t.places), size);
        rows = take_at (with_row k.order x (rows_of t)) (drop (t.count + 1) t.places) (t.count + 1) size ∙ ap (with_row k.order x) h.rows;
      }

  -- a row less
  pub holding_out : (key : K) (t : Counted X) (xs : List X) → Stands k key t → Holding t xs → Holding (taken_out k key t) (without k.order key xs)
  holding_out key t xs there h =
      let len : length (rows_of t) ≡ t.count = length-take-le t.count t.places h.within in
      let one : length (without k.order key (rows_of t)) + 1 ≡ length (rows_of t) = length-remove (rows_of t) (seat k.order key (rows_of t)) there in
      let size : length (without k.order key (rows_of t)) ≡ t.count - 1 = omega arith in
      record {
        within = omega (arith, length-append (without k.order key (rows_of t)) (drop (t.count - 1) t.places), size);
        rows = take_at (without k.order key (rows_of t)) (drop (t.count - 1) t.places) (t.count - 1) size ∙ ap (without k.order key) h.rows;
      }

  pub sound_with : Lawful k.order → (x : X) (xs : List X) → k.limits x → (Present k.order (k.order.named x) xs → ⊥) → SoundRows k xs → SoundRows k (with_row k.order x xs)
  sound_with lawful x xs limits free s =
      let n : ℕ = length xs in
      let ys : List X = xs ++ x ∷ [] in
      let front : take n ys ≡ xs = take_at xs (x ∷ []) n refl in
      let zs : List X = with_row k.order x (take n ys) ++ drop (n + 1) ys in
      let long : n < length ys = omega (arith, length-append xs (x ∷ [])) in
      let absent : Absent k.order (k.order.named x) (take n ys) = subst (Absent k.order (k.order.named x)) (sym front) (absent_unless (k.order.named x) xs free) in
      let sound = sound_inserted k.order lawful k.limits x ys zs n long absent refl limits (subst (λ rs. SoundRows k rs) (sym front) s) in
      let is : take (n + 1) zs ≡ with_row k.order x (take n ys) = take_at (with_row k.order x (take n ys)) (drop (n + 1) ys) (n + 1) (size_with x (take n ys) ∙ ap (λ rs. length rs + 1) front) in
      subst (λ rs. SoundRows k rs) (is ∙ ap (with_row k.order x) front) sound

  pub sound_without : (key : K) (xs : List X) → SoundRows k xs → SoundRows k (without k.order key xs)
  sound_without key xs s = record {
    within = all_removed k.limits xs (seat k.order key xs) s.within;
    rising = pairwise_removed (λ x y. k.order.precedes x y ≡ true) xs (seat k.order key xs) s.rising;
    apart = pairwise_removed (λ x y. k.order.same (k.order.named x) (k.order.named y) ≡ false) xs (seat k.order key xs) s.apart;
  }

-- rows that are written over the counted ones
pub holding_over : {X : Type 0} (xs ys : List X) (n : ℕ) → n ≤ length xs → length ys ≡ n → Holding (lent (ys ++ drop n xs) n) ys
holding_over xs ys n in' size = record {
  within = omega (arith, length-append ys (drop n xs), size);
  rows = take_at ys (drop n xs) n size;
}

-- no rows
pub holding_none : {X : Type 0} (xs : List X) → Holding (lent xs 0) []
holding_none xs = record { within = omega arith; rows = refl }

pub sound_none : {X K : Type 0} (k : Kind X K) → SoundRows k []
sound_none k = record { within = tt; rising = tt; apart = tt }
