-- The step of each call, refused or accepted, from what the call promises of its result and of what it leaves.
use Rattle.std.proofs.Common.{◌≡◌, ℕ, List, ◌∷◌, ◌++◌, map, length, drop, ℤ, ◌+ℤ◌, Ok, Err, Result, sym, refl, ap, ◌∙◌, subst, subst₂}
use Rattle.std.proofs.lemmas.List.{length-map, length-take-le}
use Rattle.rules.specs.Shares.{Shares}
use Rattle.market.specs.Refusals.{FirstCause}
use Rattle.market.specs.declared.account.Account.{Account}
use Rattle.market.specs.declared.block.Bid.{Bid}
use Rattle.market.specs.declared.block.Block.{Block}
use Rattle.market.specs.declared.block.BlockKey.{BlockKey}
use Rattle.market.specs.declared.call.Call.{Call}
use Rattle.market.specs.declared.call.Call.TheVariants.{Admit, Enter, Withdraw, Clear, Settle}
use Rattle.market.specs.declared.purchase.Purchase.{Purchase}
use Rattle.market.specs.declared.refusal.Refusal.{Refusal}
use Rattle.market.specs.declared.sale.Sale.{Sale}
use Rattle.market.specs.declared.zone.Side.{Side}
use Rattle.market.specs.declared.zone.Zone.TheVariants.{One, Two}
use Rattle.auction.specs.Best.{Prices}
use Rattle.auction.specs.Books.{Book, SameBids}
use Rattle.auction.specs.Clearing.{clearing}
use Rattle.auction.specs.Clearing as cleared
use Rattle.auction.specs.Tables.{book}
use Rattle.auction.specs.declared.engine.Engine.{Engine}
use Rattle.settlement.specs.Entries as settled
use Rattle.settlement.specs.Postings.{income_of, residue_of}
use Rattle.settlement.specs.declared.entry.Entry.{Entry}
use Rattle.settlement.specs.declared.settle.Settled.{Settled}
use Rattle.session.specs.Causes.{admit_causes, enter_causes, settle_causes, withdraw_causes}
use Rattle.session.specs.Outcomes.{Four, Reports, blocks_at, held_for, outcome_at, scheduled}
use Rattle.session.specs.Tables.{Blocks, Counted, Places, blocks_in, lent, places, rows_of, zone_at}
use Rattle.session.specs.declared.ledger.Ledger.{Ledger}
use Rattle.session.specs.declared.session.Session.{Session}
use Rattle.exchange.specs.After.{After, AfterClosed, Holding, Matched, outcome_by}
use Rattle.exchange.specs.Applying.{ComesTo, accepting, four_in, reporting, settled_idle, settling, with_accounts}
use Rattle.exchange.specs.Calls.{ClearsFrom, ClearedFrom, Enters, IdleAdmits, Moves, OpenAdmits, SettlesFrom, Withdraws, reason}
use Rattle.exchange.specs.History.{History, accepted, begun, event, refused, standing_book}
use Rattle.exchange.specs.Runs.{LawfulAfter, ResultStep, Step}
use Rattle.exchange.specs.declared.exchange.Answer.{Answer}
use Rattle.exchange.specs.declared.exchange.Answer.TheVariants as answer
use Rattle.exchange.specs.declared.exchange.Exchange.{Exchange}
use Rattle.exchange.specs.declared.exchange.Exchange.TheVariants as exchange
use Rattle.exchange.specs.declared.state.Cleared.{Cleared}
use Rattle.exchange.specs.declared.state.Closed.{Closed}
use Rattle.exchange.specs.declared.state.Idle.{Idle}
use Rattle.exchange.specs.declared.state.Open.{Open}
use Rattle.exchange.specs.declared.state.Refused.{Refused}
use Rattle.exchange.proofs.LawAccepted.{accepted_settle}
use Rattle.exchange.proofs.LawBooks.{held_standing, outcome_well}
use Rattle.exchange.proofs.LawCalls.{enters_step, idle_admits_step, open_admits_step, withdraws_step}
use Rattle.exchange.proofs.LawRuns.{lawful_after}
use Rattle.exchange.proofs.LawSteps.{after_refused, cleared_settled, closed_cleared}
use Rattle.exchange.proofs.LawTables.{holding_over}

-- the same places, table by table
same_places : (t u : Places) → four_in u ≡ four_in t → u.accounts ≡ t.accounts → u.entries ≡ t.entries → u ≡ t
same_places t u p q r =
    let at : Four → List Account → List Entry → Places = λ f xs es. places f.sales₁ f.purchases₁ f.sales₂ f.purchases₂ xs es in
    ap (λ (f : Four). at f u.accounts u.entries) p ∙ ap (λ (xs : List Account). at (four_in t) xs u.entries) q ∙ ap (λ (es : List Entry). at (four_in t) t.accounts es) r

-- a table that held blocks holds, over them, another schedule of the same bids
over_standing : {X : Type 0} (row : Block → X) (block : X → Block) (t : Counted X) (xs : List X) (bs : List Block) → Holding t xs → SameBids (map block xs) bs →
    Holding (lent (map row bs ++ drop t.count t.places) t.count) (map row bs)
over_standing row block t xs bs k same =
    let size : length (map row bs) ≡ t.count = length-map bs row ∙ sym (length-map bs (λ (b : Block). b.bid)) ∙ ap (λ (ys : List Bid). length ys) (sym same) ∙ length-map (map block xs) (λ (b : Block). b.bid) ∙ length-map xs block ∙ ap (λ (ys : List _). length ys) (sym k.rows) ∙ length-take-le t.count t.places k.within in
    holding_over t.places (map row bs) t.count k.within size

module _ {P S : Type 0} (pricing : P → ℤ → ℤ → ℤ) (sharing : S → ℕ → ℕ → ℕ → ℕ) (shares : (s : S) → Shares (sharing s)) (prices : (p : P) → Prices (pricing p)) where
  lawful : (e : Engine P S) (h : History) (x : Exchange P S) (t : Places) → After pricing sharing e h x t → LawfulAfter pricing sharing e h x t
  lawful e = lawful_after pricing sharing e (shares e.sharing_rule) (prices e.price_rule)

  pub refused_step : (c : Call) (why : Refusal) (x y : Exchange P S) (t u : Places) → y ≡ x → u ≡ t → Step pricing sharing c (answer.Refused why) x t y u
  refused_step c why x y t u p q = λ e h l.
      lawful e (refused c why ∷ h) y u (subst₂ (λ (w : Exchange P S) (v : Places). After pricing sharing e (refused c why ∷ h) w v) (sym p) (sym q) (after_refused pricing sharing e c why h x t l.after))

  pub idle_admit : (agent : ℕ) (s : Idle P S) (t : Places) (ys : List Account) (r : Result (Idle P S) (Refused (Idle P S))) → FirstCause (admit_causes agent (lent t.accounts s.ledger.accounts)) (reason r) →
      Moves s t.accounts (IdleAdmits agent t.accounts s) r ys → ResultStep pricing sharing (Admit agent) exchange.Idle exchange.Idle accepting (exchange.Idle s) t r (with_accounts t ys)
  idle_admit agent s t ys (Ok o) why does = λ e h l.
      lawful e (accepted (Admit agent) ∷ h) (exchange.Idle o) (with_accounts t ys) (idle_admits_step pricing sharing e h agent s o t (with_accounts t ys) why does l.after)
  idle_admit agent s t ys (Err f) why does =
      refused_step (Admit agent) f.why (exchange.Idle s) (exchange.Idle f.state) t (with_accounts t ys) (ap (λ (w : Idle P S). exchange.Idle w) does.0) (ap (λ (xs : List Account). with_accounts t xs) does.1)

  pub open_admit : (agent : ℕ) (s : Open P S) (t : Places) (ys : List Account) (r : Result (Open P S) (Refused (Open P S))) → FirstCause (admit_causes agent (lent t.accounts s.ledger.accounts)) (reason r) →
      Moves s t.accounts (OpenAdmits agent t.accounts s) r ys → ResultStep pricing sharing (Admit agent) exchange.Open exchange.Open accepting (exchange.Open s) t r (with_accounts t ys)
  open_admit agent s t ys (Ok o) why does = λ e h l.
      lawful e (accepted (Admit agent) ∷ h) (exchange.Open o) (with_accounts t ys) (open_admits_step pricing sharing e h agent s o t (with_accounts t ys) why does refl l.after)
  open_admit agent s t ys (Err f) why does =
      refused_step (Admit agent) f.why (exchange.Open s) (exchange.Open f.state) t (with_accounts t ys) (ap (λ (w : Open P S). exchange.Open w) does.0) (ap (λ (xs : List Account). with_accounts t xs) does.1)

  pub open_enter : (n : ℕ) (side : Side) (b : Bid) (s : Open P S) (t u : Places) (r : Result (Open P S) (Refused (Open P S))) →
      FirstCause (enter_causes (zone_at n) side b (blocks_at s.session (four_in t)) (lent t.accounts s.ledger.accounts)) (reason r) → Enters n side b s (four_in t) r (four_in u) →
      u.accounts ≡ t.accounts → u.entries ≡ t.entries → ResultStep pricing sharing (Enter n side b) exchange.Open exchange.Open accepting (exchange.Open s) t r u
  open_enter n side b s t u (Ok o) why does p q = λ e h l.
      lawful e (accepted (Enter n side b) ∷ h) (exchange.Open o) u (enters_step pricing sharing e h n side b s o t u (lent t.accounts s.ledger.accounts) why does p l.after)
  open_enter n side b s t u (Err f) why does p q =
      refused_step (Enter n side b) f.why (exchange.Open s) (exchange.Open f.state) t u (ap (λ (w : Open P S). exchange.Open w) does.0) (same_places t u does.1 p q)

  pub open_withdraw : (n : ℕ) (side : Side) (k : BlockKey) (s : Open P S) (t u : Places) (r : Result (Open P S) (Refused (Open P S))) →
      FirstCause (withdraw_causes (zone_at n) side k (blocks_at s.session (four_in t))) (reason r) → Withdraws n side k s (four_in t) r (four_in u) →
      u.accounts ≡ t.accounts → u.entries ≡ t.entries → ResultStep pricing sharing (Withdraw n side k) exchange.Open exchange.Open accepting (exchange.Open s) t r u
  open_withdraw n side k s t u (Ok o) why does p q = λ e h l.
      lawful e (accepted (Withdraw n side k) ∷ h) (exchange.Open o) u (withdraws_step pricing sharing e h n side k s o t u why does p l.after)
  open_withdraw n side k s t u (Err f) why does p q =
      refused_step (Withdraw n side k) f.why (exchange.Open s) (exchange.Open f.state) t u (ap (λ (w : Open P S). exchange.Open w) does.0) (same_places t u does.1 p q)

  -- what the definitions make of the counted blocks is what they make of the standing ones
  outcome_standing : (e : Engine P S) (h : History) (s : Closed P S) (t : Places) → AfterClosed pricing sharing e h s t →
      outcome_at (sharing s.engine.sharing_rule) (pricing s.engine.price_rule) s.session (four_in t) ≡ outcome_by pricing sharing e h
  outcome_standing e h s t a =
      let at : Engine P S → ℕ → ℕ → Book → Book → cleared.Outcome = λ x m n b c. clearing (sharing x.sharing_rule) (pricing x.price_rule) m n b c in
      let q = blocks_in s.session t in
      let b₁ : Book = book (rows_of q.one.sales) (rows_of q.one.purchases) in
      let b₂ : Book = book (rows_of q.two.sales) (rows_of q.two.purchases) in
      ap (λ (x : Engine P S). at x s.session.capacities.forward s.session.capacities.backward b₁ b₂) a.ruled
      ∙ ap (λ (m : ℕ). at e m s.session.capacities.backward b₁ b₂) a.session.there
      ∙ ap (λ (n : ℕ). at e (begun h).there n b₁ b₂) a.session.back
      ∙ ap (λ (b : Book). at e (begun h).there (begun h).back b b₂) (held_standing One h q.one a.blocks.one)
      ∙ ap (λ (b : Book). at e (begun h).there (begun h).back (standing_book One h) b) (held_standing Two h q.two a.blocks.two)

  -- the tables hold the schedule that clear wrote over the standing blocks
  matched_over : (e : Engine P S) (h : History) (s : Closed P S) (t : Places) → AfterClosed pricing sharing e h s t → Matched pricing sharing e h (blocks_at s.session (scheduled (outcome_by pricing sharing e h) s.session (four_in t)))
  matched_over e h s t a =
      let well = outcome_well (sharing e.sharing_rule) (pricing e.price_rule) (shares e.sharing_rule) (prices e.price_rule) h a.session.sound₁ a.session.sound₂ in
      record {
        one = record {
          sales = over_standing (λ b. record { block = b }) (λ (x : Sale). x.block) _ _ _ a.blocks.one.sales well.same₁.sales_same;
          purchases = over_standing (λ b. record { block = b }) (λ (x : Purchase). x.block) _ _ _ a.blocks.one.purchases well.same₁.purchases_same;
        };
        two = record {
          sales = over_standing (λ b. record { block = b }) (λ (x : Sale). x.block) _ _ _ a.blocks.two.sales well.same₂.sales_same;
          purchases = over_standing (λ b. record { block = b }) (λ (x : Purchase). x.block) _ _ _ a.blocks.two.purchases well.same₂.purchases_same;
        };
      }

  cleared_ok : (e : Engine P S) (h : History) (s : Closed P S) (c : Cleared P S) (t u : Places) →
      ClearedFrom (outcome_at (sharing s.engine.sharing_rule) (pricing s.engine.price_rule) s.session (four_in t)) s (four_in t) c (four_in u) → u.accounts ≡ t.accounts →
      AfterClosed pricing sharing e h s t → After pricing sharing e (accepted Clear ∷ h) (exchange.Cleared c) u
  cleared_ok e h s c t u does p a =
      let q = outcome_standing e h s t a in
      let o : cleared.Outcome = outcome_by pricing sharing e h in
      let wrote : four_in u ≡ scheduled o s.session (four_in t) = does.cleared.1 ∙ ap (λ (x : cleared.Outcome). scheduled x s.session (four_in t)) q in
      let held : blocks_in c.session u ≡ blocks_at s.session (scheduled o s.session (four_in t)) = ap (λ (x : Session). blocks_at x (four_in u)) does.session ∙ ap (λ (f : Four). blocks_at s.session f) wrote in
      closed_cleared pricing sharing e h s c t u does.engine does.ledger does.session p
      (subst (λ (x : Blocks). Matched pricing sharing e h x) (sym held) (matched_over e h s t a))
      (subst (λ (x : cleared.Outcome). Reports x c.report) q does.cleared.0) a

  pub closed_clear : (s : Closed P S) (t u : Places) (r : Result (Cleared P S) (Refused (Closed P S))) →
      ClearsFrom (outcome_at (sharing s.engine.sharing_rule) (pricing s.engine.price_rule) s.session (four_in t)) s (four_in t) r (four_in u) →
      u.accounts ≡ t.accounts → u.entries ≡ t.entries → ResultStep pricing sharing Clear exchange.Cleared exchange.Closed reporting (exchange.Closed s) t r u
  closed_clear s t u (Ok c) does p q = λ e h l. lawful e (accepted Clear ∷ h) (exchange.Cleared c) u (cleared_ok e h s c t u does p l.after)
  closed_clear s t u (Err f) does p q = refused_step Clear f.why (exchange.Closed s) (exchange.Closed f.state) t u (ap (λ (w : Closed P S). exchange.Closed w) does.0) (same_places t u does.1 p q)

  pub cleared_settle : (s : Cleared P S) (t u : Places) (r : Result (Idle P S × Settled) (Refused (Cleared P S))) →
      FirstCause (settle_causes (held_for s.session s.report (four_in t)) (blocks_at s.session (four_in t)) (lent t.accounts s.ledger.accounts) t.entries s.ledger.totals.income s.ledger.totals.residue) (reason r) →
      SettlesFrom (held_for s.session s.report (four_in t)) s t.accounts t.entries r u.accounts u.entries → four_in u ≡ four_in t →
      ResultStep pricing sharing Settle settled_idle exchange.Cleared settling (exchange.Cleared s) t r u
  cleared_settle s t u (Ok d) why does p = λ e h l.
      let o : settled.Outcome = held_for s.session s.report (four_in t) in
      let k = accepted_settle o (blocks_at s.session (four_in t)) (lent t.accounts s.ledger.accounts) t.entries s.ledger.totals.income s.ledger.totals.residue d why in
      let n = s.ledger.accounts in
      let last = s.ledger.last_session in
      let at : ℤ → ℤ → Ledger = λ i j. record { accounts = n; last_session = last; totals = record { income = i; residue = j } } in
      let told = does.posted.0.reports in
      let ledger : d.0.ledger ≡ at (s.ledger.totals.income +ℤ income_of o) (s.ledger.totals.residue +ℤ residue_of o) = does.ledger ∙ ap (λ i. at i d.1.exchange.residue) told.total_incomes ∙ ap (λ j. at (s.ledger.totals.income +ℤ income_of o) j) told.total_residues in
      lawful e (accepted Settle ∷ h) (exchange.Idle d.0) u
      (cleared_settled pricing sharing e (shares e.sharing_rule) (prices e.price_rule) h s d.0 t u o refl does.engine k.0 k.1 ledger does.posted.1 l.after)
  cleared_settle s t u (Err f) why does p = refused_step Settle f.why (exchange.Cleared s) (exchange.Cleared f.state) t u (ap (λ (w : Cleared P S). exchange.Cleared w) does.0) (same_places t u p does.1 does.2)

-- what a call promises of its result and of what it leaves, with the step that follows
pub with_step : {A B C : Type 0} → (A → B → C) → A → B → record { why : A; after : B; step : C }
with_step f a b = record { why = a; after = b; step = f a b }

-- the step of a state's own call, as the step of the exchange
pub step_as : {P S U V : Type 0} (pricing : P → ℤ → ℤ → ℤ) (sharing : S → ℕ → ℕ → ℕ → ℕ) (c : Call) (onward : U → Exchange P S) (same : V → Exchange P S) (with' : U → Answer) (x : Exchange P S) (t : Places) (r : Result U (Refused V)) (u : Places) (y : Exchange P S) (a : Answer) →
    ComesTo onward same with' r y a → ResultStep pricing sharing c onward same with' x t r u → Step pricing sharing c a x t y u
step_as {P = P} {S = S} pricing sharing c onward same with' x t r u y a w s = λ e h l.
    subst₂ (λ (z : Exchange P S) (b : Answer). LawfulAfter pricing sharing e (event c b ∷ h) z u) (sym w.0) (sym w.1) (s e h l)
