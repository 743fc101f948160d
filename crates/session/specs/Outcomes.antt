-- What clearing and settling a session's counted rows come to. To believe: the definitions of the auction and of the settlement are
-- applied to the counted rows, and the places behind keep what they held.
use Rattle.std.specs.Prelude.{◌≡◌, ℕ, List, ◌++◌, take, drop, ℤ, Ok, Err, Result}
use Rattle.market.specs.declared.account.Account.{Account}
use Rattle.market.specs.declared.purchase.Purchase.{Purchase}
use Rattle.market.specs.declared.refusal.Refusal.{Refusal}
use Rattle.market.specs.declared.sale.Sale.{Sale}
use Rattle.auction.specs.Books.{surplus}
use Rattle.auction.specs.Clearing.{Outcome, clearing}
use Rattle.auction.specs.Tables.{book}
use Rattle.settlement.specs.Entries as settled
use Rattle.settlement.specs.Postings.{accounts_after}
use Rattle.settlement.specs.Settling.{Settles}
use Rattle.settlement.specs.declared.entry.Entry.{Entry}
use Rattle.settlement.specs.declared.settle.Settled.{Settled}
use Rattle.session.specs.Changes.{Becomes}
use Rattle.session.specs.Tables.{Blocks, as_purchases, as_sales, blocks_of}
use Rattle.session.specs.declared.ledger.Ledger.{Ledger}
use Rattle.session.specs.declared.report.Report.{Report}
use Rattle.session.specs.declared.session.Session.{Session}

-- the places of the four tables of blocks
pub record Four : Type 0 where
  pub sales₁ : List Sale
  pub purchases₁ : List Purchase
  pub sales₂ : List Sale
  pub purchases₂ : List Purchase

abbrev pub four : List Sale → List Purchase → List Sale → List Purchase → Four
four a b c d = record { sales₁ = a; purchases₁ = b; sales₂ = c; purchases₂ = d }

abbrev pub blocks_at : Session → Four → Blocks
blocks_at s t = blocks_of s t.sales₁ t.purchases₁ t.sales₂ t.purchases₂

-- the counts of the session and the places are those of the blocks
pub record IsNow (next : Blocks) (s : Session) (t : Four) : Type 0 where
  pub sales₁ : Becomes next.one.sales s.one.sales t.sales₁
  pub purchases₁ : Becomes next.one.purchases s.one.purchases t.purchases₁
  pub sales₂ : Becomes next.two.sales s.two.sales t.sales₂
  pub purchases₂ : Becomes next.two.purchases s.two.purchases t.purchases₂

-- what the definitions make of the counted blocks, under the sharing rule g and the price rule f
abbrev pub outcome_at : (ℕ → ℕ → ℕ → ℕ) → (ℤ → ℤ → ℤ) → Session → Four → Outcome
outcome_at g f s t =
    clearing g f s.capacities.forward s.capacities.backward
    (book (take s.one.sales t.sales₁) (take s.one.purchases t.purchases₁))
    (book (take s.two.sales t.sales₂) (take s.two.purchases t.purchases₂))

-- the first places hold the schedule of an outcome, and the places behind what they held
abbrev pub scheduled : Outcome → Session → Four → Four
scheduled o s t =
    four (as_sales o.schedule.zone₁.sales ++ drop s.one.sales t.sales₁)
    (as_purchases o.schedule.zone₁.purchases ++ drop s.one.purchases t.purchases₁)
    (as_sales o.schedule.zone₂.sales ++ drop s.two.sales t.sales₂)
    (as_purchases o.schedule.zone₂.purchases ++ drop s.two.purchases t.purchases₂)

pub record Reports (o : Outcome) (r : Report) : Type 0 where
  pub price₁ : r.price_one ≡ o.price₁
  pub price₂ : r.price_two ≡ o.price₂
  pub flow : r.flow ≡ o.flow_out
  pub gained : r.surplus ≡ surplus o.schedule

abbrev pub ReportsAndWrites : Outcome → Session → Four → Report → Four → Type 0
ReportsAndWrites o s t r u = Reports o r × (u ≡ scheduled o s t)

-- what the tables hold, with the prices and the flow that were reported, as it is settled
abbrev pub held_for : Session → Report → Four → settled.Outcome
held_for s r t = record {
  one = record { sales = take s.one.sales t.sales₁; purchases = take s.one.purchases t.purchases₁; price = r.price_one };
  two = record { sales = take s.two.sales t.sales₂; purchases = take s.two.purchases t.purchases₂; price = r.price_two };
  flow = r.flow;
}

-- an accepted settlement writes and posts its entries, to the counted accounts only; a refused one changes nothing
abbrev pub Posts : settled.Outcome → Ledger → List Account → List Entry → Result Settled Refusal → List Account → List Entry → Type 0
Posts o l xs es (Ok s) ys fs =
    Settles o l.totals.income l.totals.residue (take l.accounts xs) (accounts_after o (take l.accounts xs)) es fs s
    × (ys ≡ accounts_after o (take l.accounts xs) ++ drop l.accounts xs)
Posts o l xs es (Err why) ys fs = (ys ≡ xs) × (fs ≡ es)
