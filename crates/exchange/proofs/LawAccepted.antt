-- What an accepted call was checked for: none of its causes holds.
use Rattle.std.proofs.Common.{◌≡◌, ℕ, ◌<◌, ◌≤◌, Bool, true, List, [], ◌∷◌, length, ℤ, ◌≤ℤ◌, Ok, ⊎_elim, arith}
use Rattle.std.specs.List.{AllByRecursion}
use Rattle.std.proofs.lemmas.Int.{ints}
use Rattle.std.proofs.lemmas.Bool.{cases_Bool, cases_lt, both_ways}
use Rattle.table.specs.Rows.{seat}
use Rattle.market.specs.Limits.{AgentWithinLimits, BidWithinLimits, NameWithinLimits, PositionWithinLimits}
use Rattle.market.specs.Refusals.{FirstCause}
use Rattle.market.specs.declared.account.Account.{Account}
use Rattle.market.specs.declared.block.Bid.{Bid}
use Rattle.market.specs.declared.block.BlockKey.{BlockKey}
use Rattle.settlement.specs.Entries.{Outcome}
use Rattle.settlement.specs.Postings.{KnownAgents, WithinLimits}
use Rattle.settlement.specs.declared.entry.Entry.{Entry}
use Rattle.session.specs.Causes.{admit_causes, row_enter_causes, row_withdraw_causes, settle_causes}
use Rattle.session.specs.Tables.{Blocks, Counted, Full, Kind, Stands, account_kind, rows_of}

-- facts that hold if they cannot fail
abbrev Stable : Type 0 → Type 0
Stable P = ((P → ⊥) → ⊥) → P

stable_le : (a b : ℕ) → Stable (a ≤ b)
stable_le a b n = ⊎_elim (λ h. absurd (n (λ k. omega arith))) (λ h. h) (cases_lt b a)

stable_lt : (a b : ℕ) → Stable (a < b)
stable_lt a b n = ⊎_elim (λ h. h) (λ h. absurd (n (λ k. omega arith))) (cases_lt a b)

stable_le_int : (a b : ℤ) → Stable (a ≤ℤ b)
stable_le_int a b n = grind (arith, ints)

stable_both : {P Q : Type 0} → Stable P → Stable Q → Stable (P × Q)
stable_both p q n = (p (λ no-p. n (λ k. no-p k.0)), q (λ no-q. n (λ k. no-q k.1)))

stable_true : (b : Bool) → Stable (b ≡ true)
stable_true b n = ⊎_elim (λ t. t) (λ f. absurd (n (λ t. both_ways b f t))) (cases_Bool b)

stable_all : {X : Type 0} (P : X → Type 0) → ((x : X) → Stable (P x)) → (xs : List X) → Stable (AllByRecursion P xs)
stable_all P each [] n = tt
stable_all P each (x ∷ xs) n = stable_both (each x) (stable_all P each xs) n

stable_positions : (p : ℤ) → Stable (PositionWithinLimits p)
stable_positions p = stable_both (stable_le_int _ p) (stable_le_int p _)

pub accepted_admit : {A : Type 0} (agent : ℕ) (t : Counted Account) (x : A) → FirstCause (admit_causes agent t) (Ok x) → AgentWithinLimits agent × (Stands account_kind agent t → ⊥) × (Full t → ⊥)
accepted_admit agent t x h =
    let h₁ = h.1 h.0 in
    let h₂ = h₁.1 h₁.0 in
    let h₃ = h₂.1 h₂.0 in
    let h₄ = h₃.1 h₃.0 in
    (stable_both (stable_le 1 agent) (stable_le agent 9999) h₂.0, h₃.0, h₄.0)

pub record RowAccepted {X K : Type 0} (k : Kind X K) (x : X) (b : Bid) (t : Counted X) : Type 0 where
  pub limits : BidWithinLimits b
  pub free : Stands k (k.order.named x) t → ⊥
  pub room : Full t → ⊥

pub accepted_enter : {A X K : Type 0} (k : Kind X K) (x : X) (b : Bid) (t : Counted X) (accounts : Counted Account) (r : A) → FirstCause (row_enter_causes k x b t accounts) (Ok r) → RowAccepted k x b t
accepted_enter k x b t accounts r h =
    let h₁ = h.1 h.0 in
    let h₂ = h₁.1 h₁.0 in
    let h₃ = h₂.1 h₂.0 in
    let h₄ = h₃.1 h₃.0 in
    let h₅ = h₄.1 h₄.0 in
    let h₆ = h₅.1 h₅.0 in
    let h₇ = h₆.1 h₆.0 in
    let agent = stable_both (stable_le 1 b.agent) (stable_le b.agent 9999) in
    let unit = stable_both (stable_le 1 b.unit) (stable_le b.unit 999999) in
    let number = stable_both (stable_le 1 b.number) (stable_le b.number 25) in
    let stamp = stable_le b.stamp 999999999 in
    let names : NameWithinLimits b = (agent (λ n. h₂.0 (λ k. n k.0)), unit (λ n. h₂.0 (λ k. n k.1)), number (λ n. h₂.0 (λ k. n k.2)), stamp (λ n. h₂.0 (λ k. n k.3))) in
    record {
      limits = (names, stable_both (stable_le_int _ b.price) (stable_le_int b.price _) h₃.0, stable_both (stable_le 1 b.volume) (stable_le b.volume 100000) h₄.0);
      free = h₆.0;
      room = h₇.0;
    }

pub accepted_withdraw : {A X : Type 0} (k : Kind X BlockKey) (key : BlockKey) (t : Counted X) (r : A) → FirstCause (row_withdraw_causes k key t) (Ok r) → Stands k key t
accepted_withdraw k key t r h =
    let h₁ = h.1 h.0 in
    let h₂ = h₁.1 h₁.0 in
    let h₃ = h₂.1 h₂.0 in
    stable_lt (seat k.order key (rows_of t)) (length (rows_of t)) h₃.0

pub accepted_settle : {A : Type 0} (o : Outcome) (t : Blocks) (accounts : Counted Account) (entries : List Entry) (income residue : ℤ) (r : A) → FirstCause (settle_causes o t accounts entries income residue) (Ok r) →
    KnownAgents o (rows_of accounts) × WithinLimits o (rows_of accounts) income residue
accepted_settle o t accounts entries income residue r h =
    let h₁ = h.1 h.0 in
    let h₂ = h₁.1 h₁.0 in
    let h₃ = h₂.1 h₂.0 in
    let h₄ = h₃.1 h₃.0 in
    let h₅ = h₄.1 h₄.0 in
    let known : KnownAgents o (rows_of accounts) = stable_all _ (λ e. stable_true _) _ h₃.0 in
    let within : WithinLimits o (rows_of accounts) income residue = record {
      positions = stable_all _ (λ a. stable_positions a.position) _ (λ n. h₅.0 (λ w. n w.positions));
      incomes = stable_positions _ (λ n. h₅.0 (λ w. n w.incomes));
      residues = stable_positions _ (λ n. h₅.0 (λ w. n w.residues));
    } in
    (known, within)
