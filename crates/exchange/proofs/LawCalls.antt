-- The step of each call, from what the call promises of its answer and of what it leaves.
use Rattle.std.proofs.Common.{◌≡◌, ℕ, ◌∷◌, ℤ, Some, None, Ok, Option, refl, ap, ◌∙◌}
use Rattle.market.specs.Limits.{BidWithinLimits}
use Rattle.market.specs.Precedence.{key_of}
use Rattle.market.specs.Refusals.{FirstCause}
use Rattle.market.specs.declared.account.Account.{Account}
use Rattle.market.specs.declared.block.Bid.{Bid}
use Rattle.market.specs.declared.block.BlockKey.{BlockKey}
use Rattle.market.specs.declared.call.Call.TheVariants.{Admit, Enter, Withdraw}
use Rattle.market.specs.declared.zone.Side.{Side}
use Rattle.market.specs.declared.zone.Side.TheVariants.{Sale, Purchase}
use Rattle.market.specs.declared.zone.Zone.{Zone}
use Rattle.market.specs.declared.zone.Zone.TheVariants.{One, Two}
use Rattle.auction.specs.declared.engine.Engine.{Engine}
use Rattle.exchange.specs.After.{AfterIdle, AfterOpen}
use Rattle.session.specs.Outcomes.{Four}
use Rattle.exchange.specs.Applying.{four_in}
use Rattle.exchange.specs.Calls.{ChangedBlocks, IdleAdmits, OpenAdmits}
use Rattle.session.specs.Causes.{admit_causes, enter_causes, side_enter_causes, side_withdraw_causes, withdraw_causes}
use Rattle.exchange.specs.History.{History, accepted}
use Rattle.session.specs.Tables.{Blocks, Counted, Places, ZoneTables, blocks_in, entered_in, in_zone, lent, purchase_kind, purchase_row, sale_kind, sale_row, withdrawn_in, zone_at}
use Rattle.session.specs.declared.session.Session.{Session}
use Rattle.exchange.specs.declared.state.Idle.{Idle}
use Rattle.exchange.specs.declared.state.Open.{Open}
use Rattle.exchange.proofs.LawAccepted.{accepted_admit, accepted_enter, accepted_withdraw}
use Rattle.exchange.proofs.LawBlocks.{Roomy, StandsOn, tables_of}
use Rattle.exchange.proofs.LawSteps.{blocks_become, idle_admitted, open_admitted, open_entered, open_withdrawn}

side_entered : {A : Type 0} (s : Side) (b : Bid) (t : ZoneTables) (accounts : Counted Account) (r : A) → FirstCause (side_enter_causes s b t accounts) (Ok r) → BidWithinLimits b × (StandsOn s (key_of b) t → ⊥) × Roomy s t
side_entered Sale b t accounts r h = let a = accepted_enter sale_kind (sale_row b) b t.sales accounts r h in (a.limits, a.free, a.room)
side_entered Purchase b t accounts r h = let a = accepted_enter purchase_kind (purchase_row b) b t.purchases accounts r h in (a.limits, a.free, a.room)

side_withdrawn : {A : Type 0} (s : Side) (k : BlockKey) (t : ZoneTables) (r : A) → FirstCause (side_withdraw_causes s k t) (Ok r) → StandsOn s k t
side_withdrawn Sale k t r h = accepted_withdraw sale_kind k t.sales r h
side_withdrawn Purchase k t r h = accepted_withdraw purchase_kind k t.purchases r h

zone_entered_in : {A : Type 0} (z : Zone) (s : Side) (b : Bid) (t : Blocks) (accounts : Counted Account) (r : A) → FirstCause (enter_causes (Some z) s b t accounts) (Ok r) → BidWithinLimits b × (StandsOn s (key_of b) (tables_of z t) → ⊥) × Roomy s (tables_of z t)
zone_entered_in One s b t accounts r h = side_entered s b t.one accounts r h
zone_entered_in Two s b t accounts r h = side_entered s b t.two accounts r h

zone_withdrawn_in : {A : Type 0} (z : Zone) (s : Side) (k : BlockKey) (t : Blocks) (r : A) → FirstCause (withdraw_causes (Some z) s k t) (Ok r) → StandsOn s k (tables_of z t)
zone_withdrawn_in One s k t r h = side_withdrawn s k t.one r h
zone_withdrawn_in Two s k t r h = side_withdrawn s k t.two r h

module _ {P S : Type 0} (pricing : P → ℤ → ℤ → ℤ) (sharing : S → ℕ → ℕ → ℕ → ℕ) (e : Engine P S) (h : History) where
  pub idle_admits_step : (agent : ℕ) (s o : Idle P S) (t u : Places) → FirstCause (admit_causes agent (lent t.accounts s.ledger.accounts)) (Ok o) → IdleAdmits agent t.accounts s o u.accounts →
      AfterIdle pricing sharing e h s t → AfterIdle pricing sharing e (accepted (Admit agent) ∷ h) o u
  idle_admits_step agent s o t u why does a =
      let k = accepted_admit agent (lent t.accounts s.ledger.accounts) o why in
      idle_admitted pricing sharing e h agent s o t u does.0 k.0 k.1 k.2 does.1 a

  pub open_admits_step : (agent : ℕ) (s o : Open P S) (t u : Places) → FirstCause (admit_causes agent (lent t.accounts s.ledger.accounts)) (Ok o) → OpenAdmits agent t.accounts s o u.accounts → four_in u ≡ four_in t →
      AfterOpen pricing sharing e h s t → AfterOpen pricing sharing e (accepted (Admit agent) ∷ h) o u
  open_admits_step agent s o t u why does same a =
      let k = accepted_admit agent (lent t.accounts s.ledger.accounts) o why in
      let at : Session → Four → Blocks = λ x y. record { one = record { sales = lent y.sales₁ x.one.sales; purchases = lent y.purchases₁ x.one.purchases }; two = record { sales = lent y.sales₂ x.two.sales; purchases = lent y.purchases₂ x.two.purchases } } in
      let blocks : blocks_in o.session u ≡ blocks_in s.session t = ap (λ (x : Session). at x (four_in u)) does.2 ∙ ap (λ (y : Four). at s.session y) same in
      open_admitted pricing sharing e h agent s o t u does.0 does.2 blocks k.0 k.1 k.2 does.1 a

  -- w is the zone that the number names
  entered_at : (n : ℕ) (side : Side) (b : Bid) (s o : Open P S) (t u : Places) (accounts : Counted Account) (w : Option Zone) → zone_at n ≡ w → FirstCause (enter_causes w side b (blocks_in s.session t) accounts) (Ok o) →
      ChangedBlocks s (in_zone w (entered_in side b) (blocks_in s.session t)) o (four_in u) → u.accounts ≡ t.accounts → AfterOpen pricing sharing e h s t → AfterOpen pricing sharing e (accepted (Enter n side b) ∷ h) o u
  entered_at n side b s o t u accounts None named why does same a =
      let h₁ = why.1 why.0 in
      let h₂ = h₁.1 h₁.0 in
      absurd (h₂.0 tt)
  entered_at n side b s o t u accounts (Some z) named why does same a =
      let k = zone_entered_in z side b (blocks_in s.session t) accounts o why in
      let next : Blocks = in_zone (Some z) (entered_in side b) (blocks_in s.session t) in
      let blocks = blocks_become o.session u.sales₁ u.purchases₁ u.sales₂ u.purchases₂ next does.blocks.sales₁ does.blocks.purchases₁ does.blocks.sales₂ does.blocks.purchases₂ in
      open_entered pricing sharing e h n z side b s o t u named does.engine does.ledger same does.capacities blocks k.0 k.1 k.2 a

  pub enters_step : (n : ℕ) (side : Side) (b : Bid) (s o : Open P S) (t u : Places) (accounts : Counted Account) → FirstCause (enter_causes (zone_at n) side b (blocks_in s.session t) accounts) (Ok o) →
      ChangedBlocks s (in_zone (zone_at n) (entered_in side b) (blocks_in s.session t)) o (four_in u) → u.accounts ≡ t.accounts → AfterOpen pricing sharing e h s t → AfterOpen pricing sharing e (accepted (Enter n side b) ∷ h) o u
  enters_step n side b s o t u accounts = entered_at n side b s o t u accounts (zone_at n) refl

  withdrawn_at : (n : ℕ) (side : Side) (key : BlockKey) (s o : Open P S) (t u : Places) (w : Option Zone) → zone_at n ≡ w → FirstCause (withdraw_causes w side key (blocks_in s.session t)) (Ok o) →
      ChangedBlocks s (in_zone w (withdrawn_in side key) (blocks_in s.session t)) o (four_in u) → u.accounts ≡ t.accounts → AfterOpen pricing sharing e h s t → AfterOpen pricing sharing e (accepted (Withdraw n side key) ∷ h) o u
  withdrawn_at n side key s o t u None named why does same a = absurd (why.0 tt)
  withdrawn_at n side key s o t u (Some z) named why does same a =
      let k = zone_withdrawn_in z side key (blocks_in s.session t) o why in
      let next : Blocks = in_zone (Some z) (withdrawn_in side key) (blocks_in s.session t) in
      let blocks = blocks_become o.session u.sales₁ u.purchases₁ u.sales₂ u.purchases₂ next does.blocks.sales₁ does.blocks.purchases₁ does.blocks.sales₂ does.blocks.purchases₂ in
      open_withdrawn pricing sharing e h n z side key s o t u named does.engine does.ledger same does.capacities blocks k a

  pub withdraws_step : (n : ℕ) (side : Side) (key : BlockKey) (s o : Open P S) (t u : Places) → FirstCause (withdraw_causes (zone_at n) side key (blocks_in s.session t)) (Ok o) →
      ChangedBlocks s (in_zone (zone_at n) (withdrawn_in side key) (blocks_in s.session t)) o (four_in u) → u.accounts ≡ t.accounts → AfterOpen pricing sharing e h s t → AfterOpen pricing sharing e (accepted (Withdraw n side key) ∷ h) o u
  withdraws_step n side key s o t u = withdrawn_at n side key s o t u (zone_at n) refl
