-- What an exchange and its tables are after a history keeps the law.
use Rattle.std.proofs.Common.{◌≡◌, ℕ, List, ℤ, sym, ap, ◌∙◌, subst}
use Rattle.market.specs.declared.block.Block.{Block}
use Rattle.market.specs.declared.purchase.Purchase.{Purchase}
use Rattle.market.specs.declared.sale.Sale.{Sale}
use Rattle.market.specs.declared.zone.Zone.TheVariants.{One, Two}
use Rattle.rules.specs.Shares.{Shares}
use Rattle.auction.specs.Best.{ClearedWell, Prices}
use Rattle.auction.specs.Books.{Book, Schedule, surplus}
use Rattle.auction.specs.Clearing.{Outcome}
use Rattle.exchange.specs.After.{After, AfterCleared, Holding, LedgerAfter, Matched, ZoneHolding, outcome_by}
use Rattle.session.specs.Outcomes.{Reports}
use Rattle.auction.specs.Tables.{purchase_blocks, sale_blocks}
use Rattle.exchange.specs.History.{History, begun, standing_book}
use Rattle.exchange.specs.Law.{ClearedLaw, Law, LedgerLaw, accounts_of_agent, held_outcome, schedule_in}
use Rattle.session.specs.Tables.{Blocks, Counted, Places, ZoneTables, as_purchases, as_sales, blocks_in, rows_of}
use Rattle.auction.specs.declared.engine.Engine.{Engine}
use Rattle.exchange.specs.declared.exchange.Exchange.{Exchange}
use Rattle.exchange.specs.declared.exchange.Exchange.TheVariants as exchange
use Rattle.session.specs.declared.ledger.Ledger.{Ledger}
use Rattle.session.specs.declared.report.Report.{Report}
use Rattle.exchange.specs.declared.state.Cleared.{Cleared}
use Rattle.exchange.proofs.LawAgents.{one_account}
use Rattle.exchange.proofs.LawBooks.{blocks_as_purchases, blocks_as_sales, outcome_well}

-- a table that holds rows of blocks has those blocks
held_sales : (t : Counted Sale) (bs : List Block) → Holding t (as_sales bs) → sale_blocks (rows_of t) ≡ bs
held_sales t bs h = ap sale_blocks h.rows ∙ blocks_as_sales bs

held_purchases : (t : Counted Purchase) (bs : List Block) → Holding t (as_purchases bs) → purchase_blocks (rows_of t) ≡ bs
held_purchases t bs h = ap purchase_blocks h.rows ∙ blocks_as_purchases bs

held_book : (t : ZoneTables) (b : Book) → ZoneHolding t (as_sales b.sales) (as_purchases b.purchases) →
    ◌≡◌ {A = Book} (record { sales = sale_blocks (rows_of t.sales); purchases = purchase_blocks (rows_of t.purchases) }) b
held_book t b h =
    let e = held_sales t.sales b.sales h.sales in
    let f = held_purchases t.purchases b.purchases h.purchases in
    ap (λ (xs : List Block). record { sales = xs; purchases = purchase_blocks (rows_of t.purchases) }) e
    ∙ ap (λ (ys : List Block). record { sales = b.sales; purchases = ys }) f

module _ {P S : Type 0} (pricing : P → ℤ → ℤ → ℤ) (sharing : S → ℕ → ℕ → ℕ → ℕ) (e : Engine P S) (h : History) where
  pub held_schedule : (t : Blocks) → Matched pricing sharing e h t → schedule_in t ≡ (outcome_by pricing sharing e h).schedule
  held_schedule t m =
      let o : Schedule = (outcome_by pricing sharing e h).schedule in
      ap (λ (b : Book). record { zone₁ = b; zone₂ = (schedule_in t).zone₂ }) (held_book t.one o.zone₁ m.one)
      ∙ ap (λ (b : Book). record { zone₁ = o.zone₁; zone₂ = b }) (held_book t.two o.zone₂ m.two)

  pub held_well : (t : Blocks) (r : Report) → Matched pricing sharing e h t → Reports (outcome_by pricing sharing e h) r → held_outcome t r ≡ outcome_by pricing sharing e h
  held_well t r m k =
      let o : Outcome = outcome_by pricing sharing e h in
      let of : Schedule → ℤ → ℤ → ℤ → Outcome = λ s f p q. record { schedule = s; flow_out = f; price₁ = p; price₂ = q } in
      ap (λ s. of s r.flow r.price_one r.price_two) (held_schedule t m)
      ∙ ap (λ f. of o.schedule f r.price_one r.price_two) k.flow
      ∙ ap (λ p. of o.schedule o.flow_out p r.price_two) k.price₁
      ∙ ap (λ q. of o.schedule o.flow_out o.price₁ q) k.price₂

  pub ledger_law : (l : Ledger) (t : Places) → LedgerAfter pricing sharing e h l t → LedgerLaw pricing sharing e h l t
  ledger_law l t a = record {
    one_account = λ agent. ap (accounts_of_agent agent) a.accounts.rows ∙ one_account (sharing e.sharing_rule) (pricing e.price_rule) agent h a.sound.apart;
    positions = a.accounts.rows;
    income = a.income;
    residue = a.residue;
    adds_up = a.adds_up;
    residues = a.residues;
  }

  module _ (shares : Shares (sharing e.sharing_rule)) (prices : Prices (pricing e.price_rule)) where
    pub cleared_law : (s : Cleared P S) (t : Places) → AfterCleared pricing sharing e h s t → ClearedLaw pricing sharing e h s t
    cleared_law s t a =
        let well = outcome_well (sharing e.sharing_rule) (pricing e.price_rule) shares prices h a.session.sound₁ a.session.sound₂ in
        let volumes = held_schedule (blocks_in s.session t) a.blocks in
        let same = held_well (blocks_in s.session t) s.report a.blocks a.report in
        record {
          ledger = ledger_law s.ledger t a.ledger;
          volumes = volumes;
          price₁ = a.report.price₁;
          price₂ = a.report.price₂;
          well = subst (λ (o : Outcome). ClearedWell (begun h).there (begun h).back (standing_book One h) (standing_book Two h) o) (sym same) well;
          gained = a.report.gained ∙ ap surplus (sym volumes);
        }

    -- whatever the history, and under every price rule and sharing rule that keep their laws
    pub law_holds : (x : Exchange P S) (t : Places) → After pricing sharing e h x t → Law pricing sharing e h x t
    law_holds (exchange.Idle s) t a = ledger_law s.ledger t a.ledger
    law_holds (exchange.Open s) t a = ledger_law s.ledger t a.ledger
    law_holds (exchange.Closed s) t a = ledger_law s.ledger t a.ledger
    law_holds (exchange.Cleared s) t a = cleared_law s t a
