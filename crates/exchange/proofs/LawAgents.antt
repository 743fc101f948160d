-- Who has an account: each admitted agent has one, and no one else has.
use Rattle.std.proofs.Common.{◌≡◌, ℕ, zero, suc, ◌+◌, ◌≤◌, Bool, true, false, cond, eqb, ltb, List, [], ◌∷◌, map, length, ℤ, filter, sym, refl, ap, ◌∙◌, ⊎_elim, arith}
use Rattle.std.specs.List.{insert, AllByRecursion}
use Rattle.std.proofs.lemmas.Bool.{cases_Bool, eqb-true}
use Rattle.std.proofs.lemmas.Bool.Decides.{nat_tests}
use Rattle.std.proofs.ByRecursion.{All-weaker}
use Rattle.table.specs.Rows.{Apart, rank}
use Rattle.market.specs.Precedence.{account_order}
use Rattle.market.specs.declared.account.Account.{Account}
use Rattle.market.specs.declared.call.Call.{Call}
use Rattle.market.specs.declared.call.Call.TheVariants.{Admit, Begin, Enter, Withdraw, Close, Clear, Settle, Annul}
use Rattle.settlement.specs.Entries.{block_entries}
use Rattle.settlement.specs.Postings.{account_after}
use Rattle.settlement.specs.declared.entry.Entry.{Entry}
use Rattle.exchange.specs.History.{History, accepted, carried, carried_after, outcome, refused, to_settle}
use Rattle.exchange.specs.Law.{accounts_of_agent, admitted, admitted_after}
use Rattle.session.specs.Tables.{new_account}

-- an account more, wherever it is put
of_agent_inserted : (agent : ℕ) (xs : List Account) (i : ℕ) (a : Account) →
    accounts_of_agent agent (insert xs i a) ≡ cond (eqb a.agent agent) 1 0 + accounts_of_agent agent xs
of_agent_inserted agent xs zero a = grind (arith, nat_tests)
of_agent_inserted agent [] (suc i) a = grind (arith, nat_tests)
of_agent_inserted agent (x ∷ xs) (suc i) a = let k = of_agent_inserted agent xs i a in grind (arith, nat_tests)

-- postings change no agent
of_agent_posted : (agent : ℕ) (es : List Entry) (xs : List Account) → accounts_of_agent agent (map (account_after es) xs) ≡ accounts_of_agent agent xs
of_agent_posted agent es [] = refl
of_agent_posted agent es (x ∷ xs) =
    let P : Bool → Type 0 = λ b. length (cond b (account_after es x ∷ filter (λ a. eqb a.agent agent) (map (account_after es) xs)) (filter (λ a. eqb a.agent agent) (map (account_after es) xs))) ≡ length (cond b (x ∷ filter (λ a. eqb a.agent agent) xs) (filter (λ a. eqb a.agent agent) xs)) in
    let go : P (eqb x.agent agent) = elim (eqb x.agent agent) as P [ true ↦ ap suc (of_agent_posted agent es xs) | false ↦ of_agent_posted agent es xs ] in
    go

of_agent_none : (agent : ℕ) (xs : List Account) → AllByRecursion (λ y. eqb y.agent agent ≡ false) xs → accounts_of_agent agent xs ≡ 0
of_agent_none agent [] h = refl
of_agent_none agent (x ∷ xs) h = let k = of_agent_none agent xs h.1 in rw h.0 k

-- no agent has two accounts where no key stands twice
pub one_at_most : (agent : ℕ) (xs : List Account) → Apart account_order xs → accounts_of_agent agent xs ≤ 1
one_at_most agent [] h = omega arith
one_at_most agent (x ∷ xs) h =
    ⊎_elim
    (λ t.
    let same : x.agent ≡ agent = eqb-true x.agent agent t in
    let others : AllByRecursion (λ y. eqb y.agent agent ≡ false) xs = All-weaker (λ y. eqb x.agent y.agent ≡ false) (λ y. eqb y.agent agent ≡ false) (λ y d. grind (arith, nat_tests)) xs h.0 in
    let none = of_agent_none agent xs others in
    rw t (omega arith))
    (λ t. rw t (one_at_most agent xs h.1))
    (cases_Bool (eqb x.agent agent))

module _ (g : ℕ → ℕ → ℕ → ℕ) (f : ℤ → ℤ → ℤ) (agent : ℕ) where
  of_agent_after : (c : Call) (h : History) → admitted agent h ≡ ltb 0 (accounts_of_agent agent (carried g f h).accounts) → admitted_after agent c (admitted agent h) ≡ ltb 0 (accounts_of_agent agent (carried_after g f c h (carried g f h)).accounts)
  of_agent_after (Admit a) h k = let e = of_agent_inserted agent (carried g f h).accounts (rank account_order (new_account a) (carried g f h).accounts) (new_account a) in grind (arith, nat_tests)
  of_agent_after (Begin n there back) h k = k
  of_agent_after (Enter z s b) h k = k
  of_agent_after (Withdraw z s key) h k = k
  of_agent_after Close h k = k
  of_agent_after Clear h k = k
  of_agent_after Settle h k = k ∙ ap (ltb 0) (sym (of_agent_posted agent (block_entries (to_settle (outcome g f h))) (carried g f h).accounts))
  of_agent_after Annul h k = k

  -- whoever was admitted has an account, and no one else has
  pub of_agent_admitted : (h : History) → admitted agent h ≡ ltb 0 (accounts_of_agent agent (carried g f h).accounts)
  of_agent_admitted [] = refl
  of_agent_admitted (refused c why ∷ h) = of_agent_admitted h
  of_agent_admitted (accepted c ∷ h) = of_agent_after c h (of_agent_admitted h)

  pub one_account : (h : History) → Apart account_order (carried g f h).accounts → accounts_of_agent agent (carried g f h).accounts ≡ cond (admitted agent h) 1 0
  one_account h apart =
      let most = one_at_most agent (carried g f h).accounts apart in
      let some = of_agent_admitted h in
      grind (arith, nat_tests)
