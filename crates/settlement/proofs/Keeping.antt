-- Between the accounts, the income and the residue nothing is lost.
use Rattle.std.proofs.Common.{◌≡◌, ℕ, Bool, true, false, cond, ◌||◌, eqb, List, [], ◌∷◌, map, ℤ, pos, ◌+ℤ◌, sym, refl, ap, ◌∙◌, arith}
use Rattle.std.specs.List.{AllByRecursion}
use Rattle.std.proofs.lemmas.Int.{ints}
use Rattle.std.proofs.lemmas.Bool.{eqb-true, eq-eqb, ne_eqb, eqb-false, false≢true}
use Rattle.market.specs.Precedence.{account_order}
use Rattle.market.specs.declared.account.Account.{Account}
use Rattle.table.specs.Rows.{Apart}
use Rattle.settlement.specs.Balance.{Balanced, NothingLost}
use Rattle.settlement.specs.Entries.{Outcome, block_entries}
use Rattle.settlement.specs.Postings.{account_after, accounts_after, has_account, income_of, posted, residue_of, total}
use Rattle.settlement.specs.declared.entry.Entry.{Entry}
use Rattle.settlement.proofs.Adding.{adds_up}
use Rattle.settlement.proofs.Parts.{block_cents}

total_plus : {X : Type 0} (f g : X → ℤ) (xs : List X) → total (λ x. f x +ℤ g x) xs ≡ total f xs +ℤ total g xs
total_plus f g [] = refl
total_plus f g (x ∷ xs) = omega (arith, ints, total_plus f g xs)

total_none : {X : Type 0} (xs : List X) → total (λ x. pos 0) xs ≡ pos 0
total_none [] = refl
total_none (x ∷ xs) = omega (arith, ints, total_none xs)

-- what an amount for one agent adds to an account
abbrev credit : ℕ → ℤ → Account → ℤ
credit agent cents a = cond (eqb agent a.agent) cents (pos 0)

credit_other : (agent : ℕ) (cents : ℤ) (a : Account) → (agent ≡ a.agent → ⊥) → credit agent cents a ≡ pos 0
credit_other agent cents a n = ap (λ b. cond b cents (pos 0)) (ne_eqb agent a.agent n)

credit_own : (agent : ℕ) (cents : ℤ) (a : Account) → agent ≡ a.agent → credit agent cents a ≡ cents
credit_own agent cents a e = ap (λ b. cond b cents (pos 0)) (eq-eqb agent a.agent e)

-- no account of these is the agent's
no_owner : (agent : ℕ) (cents : ℤ) (own : Account) (xs : List Account) → agent ≡ own.agent → AllByRecursion (λ y. eqb own.agent y.agent ≡ false) xs → total (credit agent cents) xs ≡ pos 0
no_owner agent cents own [] e h = refl
no_owner agent cents own (x ∷ xs) e (here, h) =
    omega (arith, ints, credit_other agent cents x (λ same. eqb-false own.agent x.agent here (sym e ∙ same)), no_owner agent cents own xs e h)

-- exactly one is
one_owner : (agent : ℕ) (cents : ℤ) (xs : List Account) → Apart account_order xs → has_account xs agent ≡ true → total (credit agent cents) xs ≡ cents
one_owner agent cents [] apart h = absurd (false≢true h)
one_owner agent cents (x ∷ xs) (others, apart) h =
    let P : Bool → Type 0 = λ b. eqb x.agent agent ≡ b → (b || has_account xs agent) ≡ true → total (credit agent cents) (x ∷ xs) ≡ cents in
    let go : P (eqb x.agent agent) =
    elim (eqb x.agent agent) as P [
      | true ↦ λ t _. let e : agent ≡ x.agent = sym (eqb-true x.agent agent t) in omega (arith, ints, credit_own agent cents x e, no_owner agent cents x xs e others)
      | false ↦ λ f k. omega (arith, ints, credit_other agent cents x (λ e. eqb-false x.agent agent f (sym e)), one_owner agent cents xs apart k)
    ] in
    go refl h

-- all that is posted
pub all_posted : (es : List Entry) (xs : List Account) → Apart account_order xs → AllByRecursion (λ e. has_account xs e.agent ≡ true) es → total (λ a. posted a.agent es) xs ≡ total (λ e. e.cents) es
all_posted [] xs apart known = total_none xs
all_posted (e ∷ es) xs apart (here, known) =
    total_plus (credit e.agent e.cents) (λ a. posted a.agent es) xs ∙ ap (λ z. z +ℤ total (λ a. posted a.agent es) xs) (one_owner e.agent e.cents xs apart here) ∙ ap (λ z. e.cents +ℤ z) (all_posted es xs apart known)

positions_after : (es : List Entry) (xs : List Account) → total (λ a. a.position) (map (account_after es) xs) ≡ total (λ a. a.position) xs +ℤ total (λ a. posted a.agent es) xs
positions_after es [] = refl
positions_after es (x ∷ xs) = omega (arith, ints, positions_after es xs)

-- over plain numbers
settled_sum : (after before blocks all income residue : ℤ) → after ≡ before +ℤ blocks → all ≡ blocks +ℤ income → all +ℤ residue ≡ pos 0 → after +ℤ income +ℤ residue ≡ before
settled_sum after before blocks all income residue e f g = omega (arith, ints)

pub nothing_lost : (o : Outcome) (xs : List Account) → Balanced o → NothingLost o xs
nothing_lost o xs b apart known =
    let es = block_entries o in
    settled_sum (total (λ a. a.position) (accounts_after o xs)) (total (λ a. a.position) xs) (total (λ e. e.cents) es) _ (income_of o) (residue_of o)
    (positions_after es xs ∙ ap (λ z. total (λ a. a.position) xs +ℤ z) (all_posted es xs apart known)) (block_cents o) (adds_up o b).opposite
