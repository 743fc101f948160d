-- What has happened to an exchange, the newest event first, and what it comes to. A refused call changes nothing.
-- To believe: what each accepted call does to the standing blocks, to the accounts and to the rest (docs/MARKET.md).
use Rattle.std.specs.Prelude.{ℕ, Bool, true, false, cond, ◌&&◌, List, [], ◌∷◌, ℤ, pos, ◌+ℤ◌, Some, None, Option}
use Rattle.table.specs.Rows.{with_row, without}
use Rattle.market.specs.Precedence.{account_order, purchase_order, sale_order}
use Rattle.market.specs.declared.account.Account.{Account}
use Rattle.market.specs.declared.block.Bid.{Bid}
use Rattle.market.specs.declared.block.BlockKey.{BlockKey}
use Rattle.market.specs.declared.call.Call.{Call}
use Rattle.market.specs.declared.call.Call.TheVariants.{Admit, Begin, Enter, Withdraw, Close, Clear, Settle, Annul}
use Rattle.market.specs.declared.purchase.Purchase as purchase
use Rattle.market.specs.declared.refusal.Refusal.{Refusal}
use Rattle.market.specs.declared.sale.Sale as sale
use Rattle.market.specs.declared.zone.Side.{Side}
use Rattle.market.specs.declared.zone.Side.TheVariants.{Sale, Purchase}
use Rattle.market.specs.declared.zone.Zone.{Zone}
use Rattle.market.specs.declared.zone.Zone.TheVariants.{One, Two}
use Rattle.table.specs.Order.{Order}
use Rattle.auction.specs.Books.{Book}
use Rattle.auction.specs.Clearing.{clearing}
use Rattle.auction.specs.Tables.{book}
use Rattle.auction.specs.Clearing as cleared
use Rattle.settlement.specs.Entries as settled
use Rattle.settlement.specs.Postings.{accounts_after, income_of, residue_of}
use Rattle.session.specs.Tables.{as_purchases, as_sales, new_account, purchase_row, sale_row, zone_at}
use Rattle.exchange.specs.declared.exchange.Answer.{Answer}
use Rattle.exchange.specs.declared.exchange.Answer.TheVariants as answer

pub data Event : Type 0 where
  accepted : Call → Event
  refused : Call → Refusal → Event

abbrev pub History : Type 0
History = List Event

-- a call and its answer, as an event
abbrev pub event : Call → Answer → Event
event c answer.Accepted = accepted c
event c (answer.Cleared report) = accepted c
event c (answer.Settled amounts) = accepted c
event c (answer.Refused why) = refused c why

pub data Phase : Type 0 where
  idle : Phase
  open' : Phase
  closed : Phase
  cleared' : Phase

abbrev pub phase_after : Call → Phase → Phase
phase_after (Admit a) p = p
phase_after (Begin n there back) p = open'
phase_after (Enter z s b) p = p
phase_after (Withdraw z s k) p = p
phase_after Close p = closed
phase_after Clear p = cleared'
phase_after Settle p = idle
phase_after Annul p = idle

abbrev pub phase : History → Phase
phase [] = idle
phase (refused c why ∷ h) = phase h
phase (accepted c ∷ h) = phase_after c (phase h)

-- what began last: the session's number, and the capacities from zone 1 to zone 2 and back
pub record Begun : Type 0 where
  pub number : ℕ
  pub there : ℕ
  pub back : ℕ

abbrev pub begun_after : Call → Begun → Begun
begun_after (Admit a) x = x
begun_after (Begin n there back) x = record { number = n; there = there; back = back }
begun_after (Enter z s b) x = x
begun_after (Withdraw z s k) x = x
begun_after Close x = x
begun_after Clear x = x
begun_after Settle x = x
begun_after Annul x = x

abbrev pub begun : History → Begun
begun [] = record { number = 0; there = 0; back = 0 }
begun (refused c why ∷ h) = begun h
begun (accepted c ∷ h) = begun_after c (begun h)

abbrev pub same_side : Side → Side → Bool
same_side Sale Sale = true
same_side Sale Purchase = false
same_side Purchase Sale = false
same_side Purchase Purchase = true

-- whether a number names the zone
abbrev pub names : Option Zone → Zone → Bool
names (Some One) One = true
names (Some One) Two = false
names (Some Two) One = false
names (Some Two) Two = true
names None z = false

-- The standing blocks of a zone and side, in their precedence: entered there and not withdrawn since the last begin
module _ {X : Type 0} (o : Order X BlockKey) (row : Bid → X) (z : Zone) (s : Side) where
  abbrev pub if_here : ℕ → Side → List X → List X → List X
  if_here n t xs ys = cond (names (zone_at n) z && same_side t s) xs ys

  abbrev pub standing_after : Call → List X → List X
  standing_after (Admit a) xs = xs
  standing_after (Begin n there back) xs = []
  standing_after (Enter n t b) xs = if_here n t (with_row o (row b) xs) xs
  standing_after (Withdraw n t k) xs = if_here n t (without o k xs) xs
  standing_after Close xs = xs
  standing_after Clear xs = xs
  standing_after Settle xs = xs
  standing_after Annul xs = xs

  abbrev pub standing : History → List X
  standing [] = []
  standing (refused c why ∷ h) = standing h
  standing (accepted c ∷ h) = standing_after c (standing h)

abbrev pub standing_sales : Zone → History → List sale.Sale
standing_sales z = standing sale_order sale_row z Sale

abbrev pub standing_purchases : Zone → History → List purchase.Purchase
standing_purchases z = standing purchase_order purchase_row z Purchase

abbrev pub standing_book : Zone → History → Book
standing_book z h = book (standing_sales z h) (standing_purchases z h)

-- an outcome of the clearing, as it is settled
abbrev pub to_settle : cleared.Outcome → settled.Outcome
to_settle o = record {
  one = record { sales = as_sales o.schedule.zone₁.sales; purchases = as_purchases o.schedule.zone₁.purchases; price = o.price₁ };
  two = record { sales = as_sales o.schedule.zone₂.sales; purchases = as_purchases o.schedule.zone₂.purchases; price = o.price₂ };
  flow = o.flow_out;
}

-- what an exchange carries from session to session: accounts, income and residue
pub record Carried : Type 0 where
  pub accounts : List Account
  pub income : ℤ
  pub residue : ℤ

abbrev pub settled_with : settled.Outcome → Carried → Carried
settled_with o x = record { accounts = accounts_after o x.accounts; income = x.income +ℤ income_of o; residue = x.residue +ℤ residue_of o }

-- g is what the sharing rule means, and f what the price rule means
module _ (g : ℕ → ℕ → ℕ → ℕ) (f : ℤ → ℤ → ℤ) where
  -- what the definitions make of the standing blocks
  abbrev pub outcome : History → cleared.Outcome
  outcome h = clearing g f (begun h).there (begun h).back (standing_book One h) (standing_book Two h)

  -- h is what happened before the call
  abbrev pub carried_after : Call → History → Carried → Carried
  carried_after (Admit a) h x = record { accounts = with_row account_order (new_account a) x.accounts; income = x.income; residue = x.residue }
  carried_after (Begin n there back) h x = x
  carried_after (Enter z s b) h x = x
  carried_after (Withdraw z s k) h x = x
  carried_after Close h x = x
  carried_after Clear h x = x
  carried_after Settle h x = settled_with (to_settle (outcome h)) x
  carried_after Annul h x = x

  abbrev pub carried : History → Carried
  carried [] = record { accounts = []; income = pos 0; residue = pos 0 }
  carried (refused c why ∷ h) = carried h
  carried (accepted c ∷ h) = carried_after c h (carried h)
