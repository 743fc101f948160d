-- What the definitions give for a session of which all is known: its blocks are put into their tables, cleared and settled.
use Rattle.std.specs.Prelude.{◌≡◌, ℕ, List, [], ◌∷◌, map, ℤ, pos}
use Rattle.table.specs.Rows.{with_row}
use Rattle.market.specs.Entering.{fresh}
use Rattle.market.specs.Precedence.{purchase_order, sale_order}
use Rattle.market.specs.declared.account.Account.{Account}
use Rattle.market.specs.declared.block.Bid.{Bid}
use Rattle.market.specs.declared.block.Block.{Block}
use Rattle.market.specs.declared.purchase.Purchase.{Purchase}
use Rattle.market.specs.declared.sale.Sale.{Sale}
use Rattle.auction.specs.Books.{Book, surplus}
use Rattle.auction.specs.Clearing.{Outcome, clearing}
use Rattle.settlement.specs.Entries as due
use Rattle.settlement.specs.Postings.{accounts_after, residue_of}
use Rattle.settlement.specs.declared.entry.Entry.{Entry}

-- the bids of a zone, in any order
pub record Bids : Type 0 where
  pub sales : List Bid
  pub purchases : List Bid

pub record Session : Type 0 where
  pub sharing : ℕ → ℕ → ℕ → ℕ
  pub pricing : ℤ → ℤ → ℤ
  pub there : ℕ
  pub back : ℕ
  pub one : Bids
  pub two : Bids

-- the volumes matched of zone 1's sales and purchases and of zone 2's, each in the order of its table, the two prices, the flow and the
-- surplus; then the entries, the residue, and where agents 1, 2 and 3 stand who stood at zero
pub record Given : Type 0 where
  pub sales₁ : List ℕ
  pub purchases₁ : List ℕ
  pub sales₂ : List ℕ
  pub purchases₂ : List ℕ
  pub price₁ : ℤ
  pub price₂ : ℤ
  pub flow : ℤ
  pub surplus : ℤ
  pub entries : List Entry
  pub residue : ℤ
  pub positions : List ℤ

-- a session beside what it is said to give
pub record Case : Type 0 where
  pub of : Session
  pub said : Given

-- short ways to write them
abbrev pub bid : ℕ → ℕ → ℕ → ℕ → ℤ → ℕ → Bid
bid a u n t p v = record { agent = a; unit = u; number = n; stamp = t; price = p; volume = v }

abbrev pub bids : List Bid → List Bid → Bids
bids ss ps = record { sales = ss; purchases = ps }

abbrev pub session : (ℕ → ℕ → ℕ → ℕ) → (ℤ → ℤ → ℤ) → ℕ → ℕ → Bids → Bids → Session
session g f m n b c = record { sharing = g; pricing = f; there = m; back = n; one = b; two = c }

abbrev pub entry : ℕ → ℕ → ℕ → ℤ → Entry
entry a u n c = record { agent = a; unit = u; number = n; cents = c }

abbrev pub gives : List ℕ → List ℕ → List ℕ → List ℕ → ℤ → ℤ → ℤ → ℤ → List Entry → ℤ → List ℤ → Given
gives a b c d p q f s es r is = record {
  sales₁ = a;
  purchases₁ = b;
  sales₂ = c;
  purchases₂ = d;
  price₁ = p;
  price₂ = q;
  flow = f;
  surplus = s;
  entries = es;
  residue = r;
  positions = is;
}

abbrev pub case : Session → Given → Case
case s g = record { of = s; said = g }

-- the tables after all bids are entered, the first of the list last
abbrev pub sale_table : List Bid → List Sale
sale_table [] = []
sale_table (b ∷ bs) = with_row sale_order (record { block = fresh b }) (sale_table bs)

abbrev pub purchase_table : List Bid → List Purchase
purchase_table [] = []
purchase_table (b ∷ bs) = with_row purchase_order (record { block = fresh b }) (purchase_table bs)

abbrev pub standing : Bids → Book
standing b = record { sales = map (λ s. s.block) (sale_table b.sales); purchases = map (λ p. p.block) (purchase_table b.purchases) }

abbrev pub cleared_session : Session → Outcome
cleared_session s = clearing s.sharing s.pricing s.there s.back (standing s.one) (standing s.two)

-- a clearing as the settlement sees it
abbrev pub zone_outcome : ℤ → Book → due.ZoneOutcome
zone_outcome p b = record { sales = map (λ x. record { block = x }) b.sales; purchases = map (λ x. record { block = x }) b.purchases; price = p }

abbrev pub to_settle : Outcome → due.Outcome
to_settle o = record { one = zone_outcome o.price₁ o.schedule.zone₁; two = zone_outcome o.price₂ o.schedule.zone₂; flow = o.flow_out }

abbrev pub newcomers : List Account
newcomers = record { agent = 1; position = pos 0 } ∷ record { agent = 2; position = pos 0 } ∷ record { agent = 3; position = pos 0 } ∷ []

abbrev pub volumes : List Block → List ℕ
volumes bs = map (λ b. b.matched) bs

abbrev pub shown : Outcome → Given
shown o = gives
    (volumes o.schedule.zone₁.sales) (volumes o.schedule.zone₁.purchases) (volumes o.schedule.zone₂.sales) (volumes o.schedule.zone₂.purchases)
    o.price₁ o.price₂ o.flow_out (surplus o.schedule)
    (due.entries_of (to_settle o)) (residue_of (to_settle o)) (map (λ a. a.position) (accounts_after (to_settle o) newcomers))

-- each session gives what it is said to give
abbrev pub ComeOut : List Case → Type 0
ComeOut cs = map (λ c. shown (cleared_session c.of)) cs ≡ map (λ c. c.said) cs
