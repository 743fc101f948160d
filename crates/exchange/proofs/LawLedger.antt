-- What each accepted call does to what is carried from session to session.
use Rattle.std.proofs.Common.{◌≡◌, ℕ, zero, suc, true, false, List, [], ◌∷◌, map, ℤ, ◌+ℤ◌, sym, refl, ap, ◌∙◌, subst, subst₂, arith}
use Rattle.std.specs.List.{insert, AllByRecursion}
use Rattle.std.proofs.ByRecursion.{All-map, All-weaker}
use Rattle.std.proofs.lemmas.Int.{ints}
use Rattle.table.specs.Rows.{Pairwise, Present, rank, with_row}
use Rattle.market.specs.Limits.{AccountWithinLimits, AgentWithinLimits, PositionWithinLimits}
use Rattle.market.specs.Precedence.{account_order}
use Rattle.market.specs.declared.account.Account.{Account}
use Rattle.market.specs.declared.call.Call.TheVariants.{Admit, Settle}
use Rattle.settlement.specs.Balance.{Balanced}
use Rattle.settlement.specs.Entries.{Outcome, block_entries}
use Rattle.settlement.specs.Postings.{KnownAgents, account_after, accounts_after, total}
use Rattle.settlement.specs.declared.entry.Entry.{Entry}
use Rattle.exchange.specs.After.{AddsToZero, Holding, LedgerAfter, ResiduesSmall, SoundRows, carried_by, outcome_by}
use Rattle.session.specs.Changes.{Admits, admitted_in}
use Rattle.exchange.specs.History.{Carried, History, accepted, begun, to_settle}
use Rattle.session.specs.Tables.{Full, Places, Stands, account_kind, lent, new_account}
use Rattle.auction.specs.declared.engine.Engine.{Engine}
use Rattle.session.specs.declared.ledger.Ledger.{Ledger}
use Rattle.exchange.proofs.LawSettle.{settled_adds, settled_little}
use Rattle.exchange.proofs.LawTables.{account_lawful, holding_put, sound_with}

-- ---- admit
total_inserted : {X : Type 0} (f : X → ℤ) (xs : List X) (i : ℕ) (x : X) → total f (insert xs i x) ≡ f x +ℤ total f xs
total_inserted f xs zero x = refl
total_inserted f [] (suc i) x = refl
total_inserted f (y ∷ ys) (suc i) x = let k = total_inserted f ys i x in omega (arith, ints)

-- a new account changes no sum
pub total_admitted : (agent : ℕ) (xs : List Account) → total (λ a. a.position) (with_row account_order (new_account agent) xs) ≡ total (λ a. a.position) xs
total_admitted agent xs = let k = total_inserted (λ (a : Account). a.position) xs (rank account_order (new_account agent) xs) (new_account agent) in omega (arith, ints)

pub admitted_adds : (agent : ℕ) (x : Carried) → AddsToZero x → AddsToZero (record { accounts = with_row account_order (new_account agent) x.accounts; income = x.income; residue = x.residue })
admitted_adds agent x k = ap (λ s. s +ℤ x.income +ℤ x.residue) (total_admitted agent x.accounts) ∙ k

pub admitted_sound : (agent : ℕ) (xs : List Account) → AgentWithinLimits agent → (Present account_order agent xs → ⊥) → SoundRows account_kind xs → SoundRows account_kind (with_row account_order (new_account agent) xs)
admitted_sound agent xs limits free s = sound_with account_kind account_lawful (new_account agent) xs (limits, (omega (arith, ints), omega (arith, ints))) free s

-- ---- settle
-- postings keep agents, and so their order
posted_pairs : (R : Account → Account → Type 0) (es : List Entry) → ((x y : Account) → R x y → R (account_after es x) (account_after es y)) → (xs : List Account) → Pairwise R xs → Pairwise R (map (account_after es) xs)
posted_pairs R es same [] h = tt
posted_pairs R es same (x ∷ xs) h =
    (All-map (R (account_after es x)) (account_after es) xs (All-weaker (R x) (λ y. R (account_after es x) (account_after es y)) (same x) xs h.0), posted_pairs R es same xs h.1)

posted_within : (es : List Entry) (xs : List Account) → AllByRecursion AccountWithinLimits xs → AllByRecursion (λ a. PositionWithinLimits a.position) (map (account_after es) xs) → AllByRecursion AccountWithinLimits (map (account_after es) xs)
posted_within es [] h k = tt
posted_within es (x ∷ xs) h k = ((h.0.0, k.0), posted_within es xs h.1 k.1)

pub settled_sound : (o : Outcome) (xs : List Account) → AllByRecursion (λ a. PositionWithinLimits a.position) (accounts_after o xs) → SoundRows account_kind xs → SoundRows account_kind (accounts_after o xs)
settled_sound o xs limits s = record {
  within = posted_within (block_entries o) xs s.within limits;
  rising = posted_pairs (λ x y. account_order.precedes x y ≡ true) (block_entries o) (λ x y e. e) xs s.rising;
  apart = posted_pairs (λ x y. account_order.same (account_order.named x) (account_order.named y) ≡ false) (block_entries o) (λ x y e. e) xs s.apart;
}

module _ {P S : Type 0} (pricing : P → ℤ → ℤ → ℤ) (sharing : S → ℕ → ℕ → ℕ → ℕ) (e : Engine P S) where
  -- a history k that carries what h carries
  pub ledger_kept : (h k : History) (l : Ledger) (t u : Places) → u.accounts ≡ t.accounts → carried_by pricing sharing e k ≡ carried_by pricing sharing e h → (begun k).number ≡ (begun h).number →
      (ResiduesSmall (sharing e.sharing_rule) (pricing e.price_rule) h → ResiduesSmall (sharing e.sharing_rule) (pricing e.price_rule) k) →
      LedgerAfter pricing sharing e h l t → LedgerAfter pricing sharing e k l u
  ledger_kept h k l t u places same number small a = record {
    accounts = subst₂ (λ (xs : List Account) (ys : List Account). Holding (lent xs l.accounts) ys) (sym places) (ap (λ (c : Carried). c.accounts) (sym same)) a.accounts;
    sound = subst (λ (c : Carried). SoundRows account_kind c.accounts) (sym same) a.sound;
    number = a.number ∙ sym number;
    income = a.income ∙ ap (λ (c : Carried). c.income) (sym same);
    residue = a.residue ∙ ap (λ (c : Carried). c.residue) (sym same);
    adds_up = subst (λ (c : Carried). AddsToZero c) (sym same) a.adds_up;
    residues = small a.residues;
  }

  -- an account more
  pub ledger_admitted : (h : History) (agent : ℕ) (l m : Ledger) (t u : Places) → AgentWithinLimits agent → (Stands account_kind agent (lent t.accounts l.accounts) → ⊥) → (Full (lent t.accounts l.accounts) → ⊥) →
      Admits agent t.accounts l m u.accounts → LedgerAfter pricing sharing e h l t → LedgerAfter pricing sharing e (accepted (Admit agent) ∷ h) m u
  ledger_admitted h agent l m t u limits free room (is, put) a =
      let xs : List Account = (carried_by pricing sharing e h).accounts in
      let held : Holding (admitted_in agent t.accounts l) (with_row account_order (new_account agent) xs) = holding_put account_kind (new_account agent) (lent t.accounts l.accounts) xs room a.accounts in
      let absent : Present account_order agent xs → ⊥ = λ p. free (subst (λ (rs : List Account). Present account_order agent rs) (sym a.accounts.rows) p) in
      record {
        accounts = subst₂ (λ (n : ℕ) (ys : List Account). Holding (lent ys n) (with_row account_order (new_account agent) xs)) (sym (ap (λ (r : Ledger). r.accounts) is)) (sym put) held;
        sound = admitted_sound agent xs limits absent a.sound;
        number = ap (λ (r : Ledger). r.last_session) is ∙ a.number;
        income = ap (λ (r : Ledger). r.totals.income) is ∙ a.income;
        residue = ap (λ (r : Ledger). r.totals.residue) is ∙ a.residue;
        adds_up = admitted_adds agent (carried_by pricing sharing e h) a.adds_up;
        residues = a.residues;
      }

  -- the entries of the session posted
  pub ledger_settled : (h : History) (l m : Ledger) (t u : Places) → Balanced (to_settle (outcome_by pricing sharing e h)) → KnownAgents (to_settle (outcome_by pricing sharing e h)) (carried_by pricing sharing e h).accounts →
      AllByRecursion (λ a. PositionWithinLimits a.position) (accounts_after (to_settle (outcome_by pricing sharing e h)) (carried_by pricing sharing e h).accounts) →
      m.last_session ≡ l.last_session → m.totals.income ≡ (carried_by pricing sharing e (accepted Settle ∷ h)).income → m.totals.residue ≡ (carried_by pricing sharing e (accepted Settle ∷ h)).residue →
      Holding (lent u.accounts m.accounts) (accounts_after (to_settle (outcome_by pricing sharing e h)) (carried_by pricing sharing e h).accounts) →
      LedgerAfter pricing sharing e h l t → LedgerAfter pricing sharing e (accepted Settle ∷ h) m u
  ledger_settled h l m t u balanced known limits number income residue held a = record {
    accounts = held;
    sound = settled_sound (to_settle (outcome_by pricing sharing e h)) (carried_by pricing sharing e h).accounts limits a.sound;
    number = number ∙ a.number;
    income = income;
    residue = residue;
    adds_up = settled_adds (to_settle (outcome_by pricing sharing e h)) (carried_by pricing sharing e h) balanced a.sound.apart known a.adds_up;
    residues = (settled_little (to_settle (outcome_by pricing sharing e h)) balanced, a.residues);
  }
