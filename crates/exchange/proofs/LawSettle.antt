-- What a settle keeps: a cleared session is balanced, so that nothing is lost.
use Rattle.std.proofs.Common.{◌≡◌, ℕ, ◌+◌, ◌*◌, ◌≤◌, List, [], ◌∷◌, length, ℤ, pos, ◌+ℤ◌, ◌-ℤ◌, nat_abs, refl, ap, ◌∙◌, arith}
use Rattle.std.proofs.lemmas.Int.{ints}
use Rattle.std.proofs.lemmas.List.Sums.{sum_by-cons}
use Rattle.table.specs.Rows.{Apart}
use Rattle.market.specs.Precedence.{account_order}
use Rattle.market.specs.declared.block.Block.{Block}
use Rattle.market.specs.declared.purchase.Purchase.{Purchase}
use Rattle.market.specs.declared.sale.Sale.{Sale}
use Rattle.auction.specs.Best.{ClearedWell}
use Rattle.auction.specs.Books.{Book}
use Rattle.auction.specs.Books as auction
use Rattle.auction.specs.Clearing as cleared
use Rattle.settlement.specs.Balance.{Balanced, matched}
use Rattle.settlement.specs.Entries.{Outcome, ZoneOutcome, buying, entries_of, selling}
use Rattle.settlement.specs.Postings.{KnownAgents, accounts_after, income_of, residue_of, total}
use Rattle.settlement.proofs.Adding.{adds_up}
use Rattle.settlement.proofs.Keeping.{nothing_lost}
use Rattle.exchange.specs.After.{AddsToZero, Matched, outcome_by}
use Rattle.session.specs.Outcomes.{Reports}
use Rattle.exchange.specs.History.{Carried, History, settled_with, to_settle}
use Rattle.session.specs.Tables.{Blocks, as_purchases, as_sales, rows_of}
use Rattle.auction.specs.declared.engine.Engine.{Engine}
use Rattle.session.specs.declared.report.Report.{Report}

cong₃ : {A B C D : Type 0} (f : A → B → C → D) {a a' : A} {b b' : B} {c c' : C} → a ≡ a' → b ≡ b' → c ≡ c' → f a b c ≡ f a' b' c'
cong₃ f {a} {a'} {b} {b'} {c} {c'} p q r = ap (λ x. f x b c) p ∙ ap (λ y. f a' y c) q ∙ ap (λ z. f a' b' z) r

-- what is matched of rows of blocks
sold_as_rows : (bs : List Block) → matched selling (as_sales bs) ≡ auction.total bs
sold_as_rows [] = refl
sold_as_rows (b ∷ bs) = sum_by-cons {X = Sale} (λ s. s.block.matched) (record { block = b }) (as_sales bs) ∙ ap (λ n. b.matched + n) (sold_as_rows bs)

bought_as_rows : (bs : List Block) → matched buying (as_purchases bs) ≡ auction.total bs
bought_as_rows [] = refl
bought_as_rows (b ∷ bs) = sum_by-cons {X = Purchase} (λ p. p.block.matched) (record { block = b }) (as_purchases bs) ∙ ap (λ n. b.matched + n) (bought_as_rows bs)

sold_beyond : (m k s p : ℕ) (f : ℤ) → m ≡ s → k ≡ p → f ≡ pos s -ℤ pos p → pos m ≡ pos k +ℤ f
sold_beyond m k s p f e₁ e₂ e = omega (arith, ints)

-- what is cleared well is balanced
pub well_balanced : (there back : ℕ) (b₁ b₂ : Book) (o : cleared.Outcome) → ClearedWell there back b₁ b₂ o → Balanced (to_settle o)
well_balanced there back b₁ b₂ o w =
    let one : Book = o.schedule.zone₁ in
    let two : Book = o.schedule.zone₂ in
    record {
      exported = sold_beyond (matched selling (as_sales one.sales)) (matched buying (as_purchases one.purchases)) (auction.total one.sales) (auction.total one.purchases) o.flow_out (sold_as_rows one.sales) (bought_as_rows one.purchases) w.flows;
      imported = sold_beyond (matched buying (as_purchases two.purchases)) (matched selling (as_sales two.sales)) (auction.total two.purchases) (auction.total two.sales) o.flow_out (bought_as_rows two.purchases) (sold_as_rows two.sales) (w.flows ∙ w.feasible.balanced);
    }

still_zero : (a b i r j q : ℤ) → a +ℤ j +ℤ q ≡ b → b +ℤ i +ℤ r ≡ pos 0 → a +ℤ (i +ℤ j) +ℤ (r +ℤ q) ≡ pos 0
still_zero a b i r j q e k = omega (arith, ints)

-- a settle keeps the sum
pub settled_adds : (o : Outcome) (x : Carried) → Balanced o → Apart account_order x.accounts → KnownAgents o x.accounts → AddsToZero x → AddsToZero (settled_with o x)
settled_adds o x balanced apart known k =
    still_zero (total (λ a. a.position) (accounts_after o x.accounts)) (total (λ a. a.position) x.accounts) x.income x.residue (income_of o) (residue_of o)
    (nothing_lost o x.accounts balanced apart known) k

-- and moves the residue by little
pub settled_little : (o : Outcome) → Balanced o → 2 * nat_abs (residue_of o) ≤ length (entries_of o)
settled_little o balanced = (adds_up o balanced).small

-- ---- what the tables hold, as it is settled
abbrev pub held_session : Blocks → Report → Outcome
held_session t r = record {
  one = record { sales = rows_of t.one.sales; purchases = rows_of t.one.purchases; price = r.price_one };
  two = record { sales = rows_of t.two.sales; purchases = rows_of t.two.purchases; price = r.price_two };
  flow = r.flow;
}

module _ {P S : Type 0} (pricing : P → ℤ → ℤ → ℤ) (sharing : S → ℕ → ℕ → ℕ → ℕ) (e : Engine P S) (h : History) where
  pub held_to_settle : (t : Blocks) (r : Report) → Matched pricing sharing e h t → Reports (outcome_by pricing sharing e h) r → held_session t r ≡ to_settle (outcome_by pricing sharing e h)
  held_to_settle t r m k =
      let zone : List Sale → List Purchase → ℤ → ZoneOutcome = λ ss ps p. record { sales = ss; purchases = ps; price = p } in
      let one : (held_session t r).one ≡ (to_settle (outcome_by pricing sharing e h)).one = cong₃ zone m.one.sales.rows m.one.purchases.rows k.price₁ in
      let two : (held_session t r).two ≡ (to_settle (outcome_by pricing sharing e h)).two = cong₃ zone m.two.sales.rows m.two.purchases.rows k.price₂ in
      let whole : ZoneOutcome → ZoneOutcome → ℤ → Outcome = λ y z f. record { one = y; two = z; flow = f } in
      cong₃ whole one two k.flow
