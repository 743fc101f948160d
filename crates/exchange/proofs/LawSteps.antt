-- What is after a history is, with an accepted or a refused call more, after the history with that event.
use Rattle.std.proofs.Common.{◌≡◌, ℕ, List, ◌∷◌, ◌++◌, length, drop, ℤ, ◌+ℤ◌, Some, sym, refl, ap, ◌∙◌, subst, subst₂}
use Rattle.std.specs.List.{AllByRecursion}
use Rattle.std.proofs.lemmas.List.{length-map, length-take-le}
use Rattle.rules.specs.Shares.{Shares}
use Rattle.auction.specs.Best.{Prices}
use Rattle.auction.specs.Books.{Book, surplus}
use Rattle.auction.specs.Clearing.{clearing}
use Rattle.auction.specs.Clearing as cleared
use Rattle.settlement.specs.Balance.{Balanced}
use Rattle.settlement.specs.Entries.{Outcome, block_entries}
use Rattle.settlement.specs.Postings.{KnownAgents, WithinLimits, account_after, accounts_after, income_of, residue_of}
use Rattle.market.specs.Limits.{AgentWithinLimits, BidWithinLimits, PositionWithinLimits}
use Rattle.market.specs.Precedence.{key_of}
use Rattle.market.specs.declared.account.Account.{Account}
use Rattle.market.specs.declared.block.Bid.{Bid}
use Rattle.market.specs.declared.block.BlockKey.{BlockKey}
use Rattle.market.specs.declared.call.Call.{Call}
use Rattle.market.specs.declared.call.Call.TheVariants.{Admit, Enter, Withdraw, Close, Clear, Settle}
use Rattle.market.specs.declared.purchase.Purchase as purchase
use Rattle.market.specs.declared.refusal.Refusal.{Refusal}
use Rattle.market.specs.declared.sale.Sale as sale
use Rattle.market.specs.declared.zone.Side.{Side}
use Rattle.market.specs.declared.zone.Zone.{Zone}
use Rattle.market.specs.declared.zone.Zone.TheVariants.{One, Two}
use Rattle.exchange.specs.After.{After, AfterCleared, AfterClosed, AfterIdle, AfterOpen, Holding, LedgerAfter, Matched, SessionAfter, SoundRows, Unmatched, ZoneHolding, ZoneStanding, carried_by, outcome_by}
use Rattle.session.specs.Outcomes.{Reports}
use Rattle.session.specs.Changes.{Admits, Becomes}
use Rattle.auction.specs.Tables.{purchase_blocks, sale_blocks}
use Rattle.exchange.specs.History.{Begun, History, accepted, begun, outcome, phase, refused, standing_book, standing_purchases, standing_sales, to_settle}
use Rattle.session.specs.Tables.{Blocks, Counted, Full, Places, Stands, account_kind, as_purchases, as_sales, blocks_in, blocks_of, entered_in, in_zone, lent, purchase_kind, rows_of, sale_kind, withdrawn_in, zone_at}
use Rattle.market.specs.declared.capacities.Capacities.{Capacities}
use Rattle.auction.specs.declared.engine.Engine.{Engine}
use Rattle.exchange.specs.declared.exchange.Exchange.{Exchange}
use Rattle.exchange.specs.declared.exchange.Exchange.TheVariants as exchange
use Rattle.session.specs.declared.ledger.Ledger.{Ledger}
use Rattle.session.specs.declared.report.Report.{Report}
use Rattle.session.specs.declared.session.Session.{Session}
use Rattle.exchange.specs.declared.state.Cleared.{Cleared}
use Rattle.exchange.specs.declared.state.Closed.{Closed}
use Rattle.exchange.specs.declared.state.Idle.{Idle}
use Rattle.exchange.specs.declared.state.Open.{Open}
use Rattle.exchange.proofs.LawBlocks.{BlocksAfter, Roomy, StandsOn, blocks_entered, blocks_withdrawn, tables_of}
use Rattle.exchange.proofs.LawBooks.{outcome_well}
use Rattle.exchange.proofs.LawLedger.{ledger_admitted, ledger_kept, ledger_settled}
use Rattle.exchange.proofs.LawSettle.{held_session, held_to_settle, well_balanced}
use Rattle.exchange.proofs.LawTables.{holding_over}

-- ---- a history k in which the session stands as in h
pub record SameSession (h k : History) : Type 0 where
  pub begins : begun k ≡ begun h
  pub sales₁ : standing_sales One k ≡ standing_sales One h
  pub purchases₁ : standing_purchases One k ≡ standing_purchases One h
  pub sales₂ : standing_sales Two k ≡ standing_sales Two h
  pub purchases₂ : standing_purchases Two k ≡ standing_purchases Two h

pub same_refused : (c : Call) (why : Refusal) (h : History) → SameSession h (refused c why ∷ h)
same_refused c why h = record { begins = refl; sales₁ = refl; purchases₁ = refl; sales₂ = refl; purchases₂ = refl }

pub same_admitted : (agent : ℕ) (h : History) → SameSession h (accepted (Admit agent) ∷ h)
same_admitted agent h = record { begins = refl; sales₁ = refl; purchases₁ = refl; sales₂ = refl; purchases₂ = refl }

pub same_closed : (h : History) → SameSession h (accepted Close ∷ h)
same_closed h = record { begins = refl; sales₁ = refl; purchases₁ = refl; sales₂ = refl; purchases₂ = refl }

pub same_cleared : (h : History) → SameSession h (accepted Clear ∷ h)
same_cleared h = record { begins = refl; sales₁ = refl; purchases₁ = refl; sales₂ = refl; purchases₂ = refl }

standing_kept : (z : Zone) (h k : History) → standing_sales z k ≡ standing_sales z h → standing_purchases z k ≡ standing_purchases z h → ZoneStanding z h → ZoneStanding z k
standing_kept z h k e f a = record {
  sales = subst (λ (xs : List sale.Sale). SoundRows sale_kind xs) (sym e) a.sales;
  purchases = subst (λ (xs : List purchase.Purchase). SoundRows purchase_kind xs) (sym f) a.purchases;
}

book_kept : (z : Zone) (h k : History) → standing_sales z k ≡ standing_sales z h → standing_purchases z k ≡ standing_purchases z h → standing_book z k ≡ standing_book z h
book_kept z h k e f =
    ap (λ (ss : List sale.Sale). record { sales = sale_blocks ss; purchases = purchase_blocks (standing_purchases z k) }) e
    ∙ ap (λ (ps : List purchase.Purchase). record { sales = sale_blocks (standing_sales z h); purchases = purchase_blocks ps }) f

pub outcome_kept : (g : ℕ → ℕ → ℕ → ℕ) (f : ℤ → ℤ → ℤ) (h k : History) → SameSession h k → outcome g f k ≡ outcome g f h
outcome_kept g f h k s =
    ap (λ (x : Begun). clearing g f x.there x.back (standing_book One k) (standing_book Two k)) s.begins
    ∙ ap (λ (b : Book). clearing g f (begun h).there (begun h).back b (standing_book Two k)) (book_kept One h k s.sales₁ s.purchases₁)
    ∙ ap (λ (b : Book). clearing g f (begun h).there (begun h).back (standing_book One h) b) (book_kept Two h k s.sales₂ s.purchases₂)

lent_becomes : {X : Type 0} (t : Counted X) (n : ℕ) (xs : List X) → Becomes t n xs → lent xs n ≡ t
lent_becomes t n xs (e, f) = ap (λ k. lent xs k) e ∙ ap (λ ys. lent ys t.count) f

-- counts and places, table by table, as the four tables
pub blocks_become : (m : Session) (a : List sale.Sale) (b : List purchase.Purchase) (c : List sale.Sale) (d : List purchase.Purchase) (next : Blocks) →
    Becomes next.one.sales m.one.sales a → Becomes next.one.purchases m.one.purchases b → Becomes next.two.sales m.two.sales c → Becomes next.two.purchases m.two.purchases d →
    blocks_of m a b c d ≡ next
blocks_become m a b c d next p q r s =
    let four : Counted sale.Sale → Counted purchase.Purchase → Counted sale.Sale → Counted purchase.Purchase → Blocks = λ w x y z. record { one = record { sales = w; purchases = x }; two = record { sales = y; purchases = z } } in
    let p' = lent_becomes next.one.sales m.one.sales a p in
    let q' = lent_becomes next.one.purchases m.one.purchases b q in
    let r' = lent_becomes next.two.sales m.two.sales c r in
    let s' = lent_becomes next.two.purchases m.two.purchases d s in
    ap (λ w. four w (lent b m.one.purchases) (lent c m.two.sales) (lent d m.two.purchases)) p'
    ∙ ap (λ x. four next.one.sales x (lent c m.two.sales) (lent d m.two.purchases)) q'
    ∙ ap (λ y. four next.one.sales next.one.purchases y (lent d m.two.purchases)) r'
    ∙ ap (λ z. four next.one.sales next.one.purchases next.two.sales z) s'

module _ {P S : Type 0} (pricing : P → ℤ → ℤ → ℤ) (sharing : S → ℕ → ℕ → ℕ → ℕ) (e : Engine P S) where
  session_kept : (h k : History) (s : Session) → SameSession h k → SessionAfter pricing sharing e h s → SessionAfter pricing sharing e k s
  session_kept h k s same a = record {
    there = a.there ∙ ap (λ (x : Begun). x.there) (sym same.begins);
    back = a.back ∙ ap (λ (x : Begun). x.back) (sym same.begins);
    sound₁ = standing_kept One h k same.sales₁ same.purchases₁ a.sound₁;
    sound₂ = standing_kept Two h k same.sales₂ same.purchases₂ a.sound₂;
  }

  unmatched_kept : (h k : History) (t : Blocks) → SameSession h k → Unmatched pricing sharing e h t → Unmatched pricing sharing e k t
  unmatched_kept h k t same a = record {
    one = subst₂ (λ (ss : List sale.Sale) (ps : List purchase.Purchase). ZoneHolding t.one ss ps) (sym same.sales₁) (sym same.purchases₁) a.one;
    two = subst₂ (λ (ss : List sale.Sale) (ps : List purchase.Purchase). ZoneHolding t.two ss ps) (sym same.sales₂) (sym same.purchases₂) a.two;
  }

  matched_kept : (h k : History) (t : Blocks) → SameSession h k → Matched pricing sharing e h t → Matched pricing sharing e k t
  matched_kept h k t same a =
      let o = outcome_kept (sharing e.sharing_rule) (pricing e.price_rule) h k same in
      record {
        one = subst (λ (x : cleared.Outcome). ZoneHolding t.one (as_sales x.schedule.zone₁.sales) (as_purchases x.schedule.zone₁.purchases)) (sym o) a.one;
        two = subst (λ (x : cleared.Outcome). ZoneHolding t.two (as_sales x.schedule.zone₂.sales) (as_purchases x.schedule.zone₂.purchases)) (sym o) a.two;
      }

  reported_kept : (h k : History) (r : Report) → SameSession h k → Reports (outcome_by pricing sharing e h) r → Reports (outcome_by pricing sharing e k) r
  reported_kept h k r same a =
      let o = sym (outcome_kept (sharing e.sharing_rule) (pricing e.price_rule) h k same) in
      record {
        price₁ = a.price₁ ∙ ap (λ (x : cleared.Outcome). x.price₁) o;
        price₂ = a.price₂ ∙ ap (λ (x : cleared.Outcome). x.price₂) o;
        flow = a.flow ∙ ap (λ (x : cleared.Outcome). x.flow_out) o;
        gained = a.gained ∙ ap (λ (x : cleared.Outcome). surplus x.schedule) o;
      }

  -- ---- refused
  pub after_refused : (c : Call) (why : Refusal) (h : History) (x : Exchange P S) (t : Places) → After pricing sharing e h x t → After pricing sharing e (refused c why ∷ h) x t
  after_refused c why h (exchange.Idle s) t a = record { ruled = a.ruled; phased = a.phased; ledger = ledger_kept pricing sharing e h (refused c why ∷ h) s.ledger t t refl refl refl (λ r. r) a.ledger }
  after_refused c why h (exchange.Open s) t a = record {
    ruled = a.ruled;
    phased = a.phased;
    ledger = ledger_kept pricing sharing e h (refused c why ∷ h) s.ledger t t refl refl refl (λ r. r) a.ledger;
    session = session_kept h (refused c why ∷ h) s.session (same_refused c why h) a.session;
    blocks = unmatched_kept h (refused c why ∷ h) (blocks_in s.session t) (same_refused c why h) a.blocks;
  }
  after_refused c why h (exchange.Closed s) t a = record {
    ruled = a.ruled;
    phased = a.phased;
    ledger = ledger_kept pricing sharing e h (refused c why ∷ h) s.ledger t t refl refl refl (λ r. r) a.ledger;
    session = session_kept h (refused c why ∷ h) s.session (same_refused c why h) a.session;
    blocks = unmatched_kept h (refused c why ∷ h) (blocks_in s.session t) (same_refused c why h) a.blocks;
  }
  after_refused c why h (exchange.Cleared s) t a = record {
    ruled = a.ruled;
    phased = a.phased;
    ledger = ledger_kept pricing sharing e h (refused c why ∷ h) s.ledger t t refl refl refl (λ r. r) a.ledger;
    session = session_kept h (refused c why ∷ h) s.session (same_refused c why h) a.session;
    blocks = matched_kept h (refused c why ∷ h) (blocks_in s.session t) (same_refused c why h) a.blocks;
    report = reported_kept h (refused c why ∷ h) s.report (same_refused c why h) a.report;
  }

  -- ---- admit
  pub idle_admitted : (h : History) (agent : ℕ) (s s' : Idle P S) (t u : Places) → s'.engine ≡ s.engine → AgentWithinLimits agent → (Stands account_kind agent (lent t.accounts s.ledger.accounts) → ⊥) → (Full (lent t.accounts s.ledger.accounts) → ⊥) →
      Admits agent t.accounts s.ledger s'.ledger u.accounts → AfterIdle pricing sharing e h s t → AfterIdle pricing sharing e (accepted (Admit agent) ∷ h) s' u
  idle_admitted h agent s s' t u engines limits free room admits a = record {
    ruled = engines ∙ a.ruled;
    phased = a.phased;
    ledger = ledger_admitted pricing sharing e h agent s.ledger s'.ledger t u limits free room admits a.ledger;
  }

  pub open_admitted : (h : History) (agent : ℕ) (s s' : Open P S) (t u : Places) → s'.engine ≡ s.engine → s'.session ≡ s.session → blocks_in s'.session u ≡ blocks_in s.session t →
      AgentWithinLimits agent → (Stands account_kind agent (lent t.accounts s.ledger.accounts) → ⊥) → (Full (lent t.accounts s.ledger.accounts) → ⊥) →
      Admits agent t.accounts s.ledger s'.ledger u.accounts → AfterOpen pricing sharing e h s t → AfterOpen pricing sharing e (accepted (Admit agent) ∷ h) s' u
  open_admitted h agent s s' t u engines sessions blocks limits free room admits a =
      let k : History = accepted (Admit agent) ∷ h in
      record {
        ruled = engines ∙ a.ruled;
        phased = a.phased;
        ledger = ledger_admitted pricing sharing e h agent s.ledger s'.ledger t u limits free room admits a.ledger;
        session = subst (λ (x : Session). SessionAfter pricing sharing e k x) (sym sessions) (session_kept h k s.session (same_admitted agent h) a.session);
        blocks = subst (λ (x : Blocks). Unmatched pricing sharing e k x) (sym blocks) (unmatched_kept h k (blocks_in s.session t) (same_admitted agent h) a.blocks);
      }

  -- ---- enter and withdraw
  blocks_after : (h : History) (s : Session) (t : Blocks) → SessionAfter pricing sharing e h s → Unmatched pricing sharing e h t → BlocksAfter h t
  blocks_after h s t a b = record { one = record { holds = b.one; sound = a.sound₁ }; two = record { holds = b.two; sound = a.sound₂ } }

  -- a history k with the same capacities, whose standing blocks the tables hold
  open_after : (h k : History) (s s' : Open P S) (t u : Places) (next : Blocks) → s'.engine ≡ s.engine → s'.session.capacities ≡ s.session.capacities → blocks_in s'.session u ≡ next →
      phase k ≡ phase h → begun k ≡ begun h → LedgerAfter pricing sharing e k s'.ledger u → BlocksAfter k next → AfterOpen pricing sharing e h s t → AfterOpen pricing sharing e k s' u
  open_after h k s s' t u next engines capacities blocks phases begins ledger b a = record {
    ruled = engines ∙ a.ruled;
    phased = phases ∙ a.phased;
    ledger = ledger;
    session = record {
      there = ap (λ (c : Capacities). c.forward) capacities ∙ a.session.there ∙ ap (λ (x : Begun). x.there) (sym begins);
      back = ap (λ (c : Capacities). c.backward) capacities ∙ a.session.back ∙ ap (λ (x : Begun). x.back) (sym begins);
      sound₁ = b.one.sound;
      sound₂ = b.two.sound;
    };
    blocks = subst (λ (x : Blocks). Unmatched pricing sharing e k x) (sym blocks) (record { one = b.one.holds; two = b.two.holds });
  }

  pub open_entered : (h : History) (n : ℕ) (z : Zone) (side : Side) (b : Bid) (s s' : Open P S) (t u : Places) → zone_at n ≡ Some z →
      s'.engine ≡ s.engine → s'.ledger ≡ s.ledger → u.accounts ≡ t.accounts → s'.session.capacities ≡ s.session.capacities →
      blocks_in s'.session u ≡ in_zone (Some z) (entered_in side b) (blocks_in s.session t) →
      BidWithinLimits b → (StandsOn side (key_of b) (tables_of z (blocks_in s.session t)) → ⊥) → Roomy side (tables_of z (blocks_in s.session t)) →
      AfterOpen pricing sharing e h s t → AfterOpen pricing sharing e (accepted (Enter n side b) ∷ h) s' u
  open_entered h n z side b s s' t u named engines ledgers accounts capacities blocks limits free room a =
      let k : History = accepted (Enter n side b) ∷ h in
      open_after h k s s' t u (in_zone (Some z) (entered_in side b) (blocks_in s.session t)) engines capacities blocks refl refl
      (subst (λ (l : Ledger). LedgerAfter pricing sharing e k l u) (sym ledgers) (ledger_kept pricing sharing e h k s.ledger t u accounts refl refl (λ r. r) a.ledger))
      (blocks_entered n z named h side b (blocks_in s.session t) limits free room (blocks_after h s.session (blocks_in s.session t) a.session a.blocks)) a

  pub open_withdrawn : (h : History) (n : ℕ) (z : Zone) (side : Side) (key : BlockKey) (s s' : Open P S) (t u : Places) → zone_at n ≡ Some z →
      s'.engine ≡ s.engine → s'.ledger ≡ s.ledger → u.accounts ≡ t.accounts → s'.session.capacities ≡ s.session.capacities →
      blocks_in s'.session u ≡ in_zone (Some z) (withdrawn_in side key) (blocks_in s.session t) →
      StandsOn side key (tables_of z (blocks_in s.session t)) →
      AfterOpen pricing sharing e h s t → AfterOpen pricing sharing e (accepted (Withdraw n side key) ∷ h) s' u
  open_withdrawn h n z side key s s' t u named engines ledgers accounts capacities blocks there a =
      let k : History = accepted (Withdraw n side key) ∷ h in
      open_after h k s s' t u (in_zone (Some z) (withdrawn_in side key) (blocks_in s.session t)) engines capacities blocks refl refl
      (subst (λ (l : Ledger). LedgerAfter pricing sharing e k l u) (sym ledgers) (ledger_kept pricing sharing e h k s.ledger t u accounts refl refl (λ r. r) a.ledger))
      (blocks_withdrawn n z named h side key (blocks_in s.session t) there (blocks_after h s.session (blocks_in s.session t) a.session a.blocks)) a

  -- ---- clear
  pub closed_cleared : (h : History) (s : Closed P S) (s' : Cleared P S) (t u : Places) → s'.engine ≡ s.engine → s'.ledger ≡ s.ledger → s'.session ≡ s.session → u.accounts ≡ t.accounts →
      Matched pricing sharing e h (blocks_in s'.session u) → Reports (outcome_by pricing sharing e h) s'.report →
      AfterClosed pricing sharing e h s t → AfterCleared pricing sharing e (accepted Clear ∷ h) s' u
  closed_cleared h s s' t u engines ledgers sessions accounts matched reported a =
      let k : History = accepted Clear ∷ h in
      record {
        ruled = engines ∙ a.ruled;
        phased = refl;
        ledger = subst (λ (l : Ledger). LedgerAfter pricing sharing e k l u) (sym ledgers) (ledger_kept pricing sharing e h k s.ledger t u accounts refl refl (λ r. r) a.ledger);
        session = subst (λ (x : Session). SessionAfter pricing sharing e k x) (sym sessions) (session_kept h k s.session (same_cleared h) a.session);
        blocks = matched_kept h k (blocks_in s'.session u) (same_cleared h) matched;
        report = reported_kept h k s'.report (same_cleared h) reported;
      }

  -- ---- settle
  module _ (shares : Shares (sharing e.sharing_rule)) (prices : Prices (pricing e.price_rule)) where
    pub cleared_settled : (h : History) (s : Cleared P S) (s' : Idle P S) (t u : Places) (o : Outcome) → o ≡ held_session (blocks_in s.session t) s.report → s'.engine ≡ s.engine →
        KnownAgents o (rows_of (lent t.accounts s.ledger.accounts)) → WithinLimits o (rows_of (lent t.accounts s.ledger.accounts)) s.ledger.totals.income s.ledger.totals.residue →
        s'.ledger ≡ record { accounts = s.ledger.accounts; last_session = s.ledger.last_session; totals = record { income = s.ledger.totals.income +ℤ income_of o; residue = s.ledger.totals.residue +ℤ residue_of o } } →
        u.accounts ≡ accounts_after o (rows_of (lent t.accounts s.ledger.accounts)) ++ drop s.ledger.accounts t.accounts →
        AfterCleared pricing sharing e h s t → AfterIdle pricing sharing e (accepted Settle ∷ h) s' u
    cleared_settled h s s' t u o held engines known within ledgers posted a =
        let n : ℕ = s.ledger.accounts in
        let xs : List Account = rows_of (lent t.accounts n) in
        let ys : List Account = (carried_by pricing sharing e h).accounts in
        let p : Outcome = to_settle (outcome_by pricing sharing e h) in
        let q : o ≡ p = held ∙ held_to_settle pricing sharing e h (blocks_in s.session t) s.report a.blocks a.report in
        let r : xs ≡ ys = a.ledger.accounts.rows in
        let well = outcome_well (sharing e.sharing_rule) (pricing e.price_rule) shares prices h a.session.sound₁ a.session.sound₂ in
        let balanced : Balanced p = well_balanced (begun h).there (begun h).back (standing_book One h) (standing_book Two h) (outcome_by pricing sharing e h) well in
        let size : length (accounts_after o xs) ≡ n = length-map xs (account_after (block_entries o)) ∙ length-take-le n t.accounts a.ledger.accounts.within in
        let over : Holding (lent (accounts_after o xs ++ drop n t.accounts) n) (accounts_after o xs) = holding_over t.accounts (accounts_after o xs) n a.ledger.accounts.within size in
        let counted : Holding (lent u.accounts s'.ledger.accounts) (accounts_after o xs) = subst₂ (λ (zs : List Account) (m : ℕ). Holding (lent zs m) (accounts_after o xs)) (sym posted) (sym (ap (λ (l : Ledger). l.accounts) ledgers)) over in
        record {
          ruled = engines ∙ a.ruled;
          phased = refl;
          ledger = ledger_settled pricing sharing e h s.ledger s'.ledger t u balanced
              (subst₂ (λ (x : Outcome) (zs : List Account). KnownAgents x zs) q r known)
              (subst₂ (λ (x : Outcome) (zs : List Account). AllByRecursion (λ b. PositionWithinLimits b.position) (accounts_after x zs)) q r within.positions)
              (ap (λ (l : Ledger). l.last_session) ledgers)
              (ap (λ (l : Ledger). l.totals.income) ledgers ∙ ap (λ i. i +ℤ income_of o) a.ledger.income ∙ ap (λ (x : Outcome). (carried_by pricing sharing e h).income +ℤ income_of x) q)
              (ap (λ (l : Ledger). l.totals.residue) ledgers ∙ ap (λ i. i +ℤ residue_of o) a.ledger.residue ∙ ap (λ (x : Outcome). (carried_by pricing sharing e h).residue +ℤ residue_of x) q)
              (subst₂ (λ (x : Outcome) (zs : List Account). Holding (lent u.accounts s'.ledger.accounts) (accounts_after x zs)) q r counted)
              a.ledger;
        }
