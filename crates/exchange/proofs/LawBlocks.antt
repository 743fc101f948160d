-- What an accepted enter or withdraw does to the standing blocks, and to the tables that hold them.
use Rattle.std.proofs.Common.{◌≡◌, ℕ, true, cond, ◌&&◌, List, ◌∷◌, Some, Option, sym, refl, ap, ◌∙◌, subst, subst₂, arith}
use Rattle.table.specs.Order.{Order}
use Rattle.table.specs.Rows.{Present, with_row, without}
use Rattle.market.specs.Limits.{BidWithinLimits}
use Rattle.market.specs.Precedence.{key_of, purchase_order, sale_order}
use Rattle.market.specs.declared.block.Bid.{Bid}
use Rattle.market.specs.declared.block.BlockKey.{BlockKey}
use Rattle.market.specs.declared.call.Call.TheVariants.{Enter, Withdraw}
use Rattle.market.specs.declared.purchase.Purchase as purchase
use Rattle.market.specs.declared.sale.Sale as sale
use Rattle.market.specs.declared.zone.Side.{Side}
use Rattle.market.specs.declared.zone.Side.TheVariants.{Sale, Purchase}
use Rattle.market.specs.declared.zone.Zone.{Zone}
use Rattle.market.specs.declared.zone.Zone.TheVariants.{One, Two}
use Rattle.exchange.specs.After.{SoundRows, ZoneHolding, ZoneStanding}
use Rattle.exchange.specs.History.{History, accepted, names, same_side, standing, standing_purchases, standing_sales}
use Rattle.session.specs.Tables.{Blocks, Full, Stands, ZoneTables, entered_in, in_zone, purchase_kind, purchase_row, sale_kind, sale_row, withdrawn_in, zone_at}
use Rattle.exchange.proofs.LawTables.{holding_out, holding_put, purchase_lawful, sale_lawful, sound_with, sound_without}

-- ---- one zone's tables and standing blocks, with the side named
abbrev pub sales_with : Side → Bid → List sale.Sale → List sale.Sale
sales_with Sale b ss = with_row sale_order (sale_row b) ss
sales_with Purchase b ss = ss

abbrev pub purchases_with : Side → Bid → List purchase.Purchase → List purchase.Purchase
purchases_with Sale b ps = ps
purchases_with Purchase b ps = with_row purchase_order (purchase_row b) ps

abbrev pub sales_without : Side → BlockKey → List sale.Sale → List sale.Sale
sales_without Sale k ss = without sale_order k ss
sales_without Purchase k ss = ss

abbrev pub purchases_without : Side → BlockKey → List purchase.Purchase → List purchase.Purchase
purchases_without Sale k ps = ps
purchases_without Purchase k ps = without purchase_order k ps

-- the side's table has a place left
abbrev pub Roomy : Side → ZoneTables → Type 0
Roomy Sale t = Full t.sales → ⊥
Roomy Purchase t = Full t.purchases → ⊥

-- a row of the side's table has the key
abbrev pub StandsOn : Side → BlockKey → ZoneTables → Type 0
StandsOn Sale k t = Stands sale_kind k t.sales
StandsOn Purchase k t = Stands purchase_kind k t.purchases

pub zone_entered : (s : Side) (b : Bid) (t : ZoneTables) (ss : List sale.Sale) (ps : List purchase.Purchase) → Roomy s t → ZoneHolding t ss ps → ZoneHolding (entered_in s b t) (sales_with s b ss) (purchases_with s b ps)
zone_entered Sale b t ss ps room h = record { sales = holding_put sale_kind (sale_row b) t.sales ss room h.sales; purchases = h.purchases }
zone_entered Purchase b t ss ps room h = record { sales = h.sales; purchases = holding_put purchase_kind (purchase_row b) t.purchases ps room h.purchases }

pub zone_withdrawn : (s : Side) (k : BlockKey) (t : ZoneTables) (ss : List sale.Sale) (ps : List purchase.Purchase) → StandsOn s k t → ZoneHolding t ss ps → ZoneHolding (withdrawn_in s k t) (sales_without s k ss) (purchases_without s k ps)
zone_withdrawn Sale k t ss ps there h = record { sales = holding_out sale_kind k t.sales ss there h.sales; purchases = h.purchases }
zone_withdrawn Purchase k t ss ps there h = record { sales = h.sales; purchases = holding_out purchase_kind k t.purchases ps there h.purchases }

-- ---- the standing blocks after the call, where w is the zone that the number names
module _ {X : Type 0} (o : Order X BlockKey) (row : Bid → X) (z : Zone) (s : Side) (n : ℕ) (w : Option Zone) (named : zone_at n ≡ w) (h : History) where
  pub standing_entered : (t : Side) (b : Bid) → standing o row z s (accepted (Enter n t b) ∷ h) ≡ cond (names w z && same_side t s) (with_row o (row b) (standing o row z s h)) (standing o row z s h)
  standing_entered t b = ap (λ (v : Option Zone). cond (names v z && same_side t s) (with_row o (row b) (standing o row z s h)) (standing o row z s h)) named

  pub standing_withdrawn : (t : Side) (k : BlockKey) → standing o row z s (accepted (Withdraw n t k) ∷ h) ≡ cond (names w z && same_side t s) (without o k (standing o row z s h)) (standing o row z s h)
  standing_withdrawn t k = ap (λ (v : Option Zone). cond (names v z && same_side t s) (without o k (standing o row z s h)) (standing o row z s h)) named

-- the lists of a zone that a call names, and of one that it does not
named_sales : (s : Side) (b : Bid) (ss : List sale.Sale) → cond (true && same_side s Sale) (with_row sale_order (sale_row b) ss) ss ≡ sales_with s b ss
named_sales Sale b ss = refl
named_sales Purchase b ss = refl

named_purchases : (s : Side) (b : Bid) (ps : List purchase.Purchase) → cond (true && same_side s Purchase) (with_row purchase_order (purchase_row b) ps) ps ≡ purchases_with s b ps
named_purchases Sale b ps = refl
named_purchases Purchase b ps = refl

named_sales_out : (s : Side) (k : BlockKey) (ss : List sale.Sale) → cond (true && same_side s Sale) (without sale_order k ss) ss ≡ sales_without s k ss
named_sales_out Sale k ss = refl
named_sales_out Purchase k ss = refl

named_purchases_out : (s : Side) (k : BlockKey) (ps : List purchase.Purchase) → cond (true && same_side s Purchase) (without purchase_order k ps) ps ≡ purchases_without s k ps
named_purchases_out Sale k ps = refl
named_purchases_out Purchase k ps = refl

abbrev pub other_zone : Zone → Zone
other_zone One = Two
other_zone Two = One

module _ (n : ℕ) (z : Zone) (named : zone_at n ≡ Some z) (h : History) where
  -- the zone that is named has the row more, or the row less, on the side that is named
  pub sales_entered : (s : Side) (b : Bid) → standing_sales z (accepted (Enter n s b) ∷ h) ≡ sales_with s b (standing_sales z h)
  sales_entered s b = elim z as (λ y. zone_at n ≡ Some y → standing_sales y (accepted (Enter n s b) ∷ h) ≡ sales_with s b (standing_sales y h)) [
    | One ↦ λ e. standing_entered sale_order sale_row One Sale n (Some One) e h s b ∙ named_sales s b (standing_sales One h)
    | Two ↦ λ e. standing_entered sale_order sale_row Two Sale n (Some Two) e h s b ∙ named_sales s b (standing_sales Two h)
  ] named

  pub purchases_entered : (s : Side) (b : Bid) → standing_purchases z (accepted (Enter n s b) ∷ h) ≡ purchases_with s b (standing_purchases z h)
  purchases_entered s b = elim z as (λ y. zone_at n ≡ Some y → standing_purchases y (accepted (Enter n s b) ∷ h) ≡ purchases_with s b (standing_purchases y h)) [
    | One ↦ λ e. standing_entered purchase_order purchase_row One Purchase n (Some One) e h s b ∙ named_purchases s b (standing_purchases One h)
    | Two ↦ λ e. standing_entered purchase_order purchase_row Two Purchase n (Some Two) e h s b ∙ named_purchases s b (standing_purchases Two h)
  ] named

  pub sales_withdrawn : (s : Side) (k : BlockKey) → standing_sales z (accepted (Withdraw n s k) ∷ h) ≡ sales_without s k (standing_sales z h)
  sales_withdrawn s k = elim z as (λ y. zone_at n ≡ Some y → standing_sales y (accepted (Withdraw n s k) ∷ h) ≡ sales_without s k (standing_sales y h)) [
    | One ↦ λ e. standing_withdrawn sale_order sale_row One Sale n (Some One) e h s k ∙ named_sales_out s k (standing_sales One h)
    | Two ↦ λ e. standing_withdrawn sale_order sale_row Two Sale n (Some Two) e h s k ∙ named_sales_out s k (standing_sales Two h)
  ] named

  pub purchases_withdrawn : (s : Side) (k : BlockKey) → standing_purchases z (accepted (Withdraw n s k) ∷ h) ≡ purchases_without s k (standing_purchases z h)
  purchases_withdrawn s k = elim z as (λ y. zone_at n ≡ Some y → standing_purchases y (accepted (Withdraw n s k) ∷ h) ≡ purchases_without s k (standing_purchases y h)) [
    | One ↦ λ e. standing_withdrawn purchase_order purchase_row One Purchase n (Some One) e h s k ∙ named_purchases_out s k (standing_purchases One h)
    | Two ↦ λ e. standing_withdrawn purchase_order purchase_row Two Purchase n (Some Two) e h s k ∙ named_purchases_out s k (standing_purchases Two h)
  ] named

  -- the other zone's blocks stay
  pub elsewhere_entered : {X : Type 0} (o : Order X BlockKey) (row : Bid → X) (s t : Side) (b : Bid) → standing o row (other_zone z) s (accepted (Enter n t b) ∷ h) ≡ standing o row (other_zone z) s h
  elsewhere_entered o row s t b = elim z as (λ y. zone_at n ≡ Some y → standing o row (other_zone y) s (accepted (Enter n t b) ∷ h) ≡ standing o row (other_zone y) s h) [
    | One ↦ λ e. standing_entered o row Two s n (Some One) e h t b
    | Two ↦ λ e. standing_entered o row One s n (Some Two) e h t b
  ] named

  pub elsewhere_withdrawn : {X : Type 0} (o : Order X BlockKey) (row : Bid → X) (s t : Side) (k : BlockKey) → standing o row (other_zone z) s (accepted (Withdraw n t k) ∷ h) ≡ standing o row (other_zone z) s h
  elsewhere_withdrawn o row s t k = elim z as (λ y. zone_at n ≡ Some y → standing o row (other_zone y) s (accepted (Withdraw n t k) ∷ h) ≡ standing o row (other_zone y) s h) [
    | One ↦ λ e. standing_withdrawn o row Two s n (Some One) e h t k
    | Two ↦ λ e. standing_withdrawn o row One s n (Some Two) e h t k
  ] named

-- ---- the sound lists of a zone
-- no row of the side has the key
abbrev pub Free : Side → BlockKey → List sale.Sale → List purchase.Purchase → Type 0
Free Sale k ss ps = Present sale_order k ss → ⊥
Free Purchase k ss ps = Present purchase_order k ps → ⊥

pub free_held : (s : Side) (k : BlockKey) (t : ZoneTables) (ss : List sale.Sale) (ps : List purchase.Purchase) → ZoneHolding t ss ps → (StandsOn s k t → ⊥) → Free s k ss ps
free_held Sale k t ss ps h n = λ p. n (subst (λ (xs : List sale.Sale). Present sale_order k xs) (sym h.sales.rows) p)
free_held Purchase k t ss ps h n = λ p. n (subst (λ (xs : List purchase.Purchase). Present purchase_order k xs) (sym h.purchases.rows) p)

sales_sound : (s : Side) (b : Bid) (ss : List sale.Sale) (ps : List purchase.Purchase) → BidWithinLimits b → Free s (key_of b) ss ps → SoundRows sale_kind ss → SoundRows sale_kind (sales_with s b ss)
sales_sound Sale b ss ps limits free sound = sound_with sale_kind sale_lawful (sale_row b) ss (limits, omega arith) free sound
sales_sound Purchase b ss ps limits free sound = sound

purchases_sound : (s : Side) (b : Bid) (ss : List sale.Sale) (ps : List purchase.Purchase) → BidWithinLimits b → Free s (key_of b) ss ps → SoundRows purchase_kind ps → SoundRows purchase_kind (purchases_with s b ps)
purchases_sound Sale b ss ps limits free sound = sound
purchases_sound Purchase b ss ps limits free sound = sound_with purchase_kind purchase_lawful (purchase_row b) ps (limits, omega arith) free sound

sales_sound_out : (s : Side) (k : BlockKey) (ss : List sale.Sale) → SoundRows sale_kind ss → SoundRows sale_kind (sales_without s k ss)
sales_sound_out Sale k ss sound = sound_without sale_kind k ss sound
sales_sound_out Purchase k ss sound = sound

purchases_sound_out : (s : Side) (k : BlockKey) (ps : List purchase.Purchase) → SoundRows purchase_kind ps → SoundRows purchase_kind (purchases_without s k ps)
purchases_sound_out Sale k ps sound = sound
purchases_sound_out Purchase k ps sound = sound_without purchase_kind k ps sound

-- ---- one zone, after the call
-- what a zone has to show of a history: its tables hold the standing blocks, and these are sound
pub record ZoneAfter (z : Zone) (h : History) (t : ZoneTables) : Type 0 where
  pub holds : ZoneHolding t (standing_sales z h) (standing_purchases z h)
  pub sound : ZoneStanding z h

pub zone_along : (z : Zone) (h : History) (t : ZoneTables) (ss : List sale.Sale) (ps : List purchase.Purchase) → standing_sales z h ≡ ss → standing_purchases z h ≡ ps → ZoneHolding t ss ps → SoundRows sale_kind ss → SoundRows purchase_kind ps → ZoneAfter z h t
zone_along z h t ss ps e f holds sales purchases = record {
  holds = subst₂ (λ (xs : List sale.Sale) (ys : List purchase.Purchase). ZoneHolding t xs ys) (sym e) (sym f) holds;
  sound = record { sales = subst (λ (xs : List sale.Sale). SoundRows sale_kind xs) (sym e) sales; purchases = subst (λ (ys : List purchase.Purchase). SoundRows purchase_kind ys) (sym f) purchases };
}

module _ (n : ℕ) (z : Zone) (named : zone_at n ≡ Some z) (h : History) where
  pub here_entered : (s : Side) (b : Bid) (t : ZoneTables) → BidWithinLimits b → (StandsOn s (key_of b) t → ⊥) → Roomy s t → ZoneAfter z h t → ZoneAfter z (accepted (Enter n s b) ∷ h) (entered_in s b t)
  here_entered s b t limits free room a =
      let ss = standing_sales z h in
      let ps = standing_purchases z h in
      let absent = free_held s (key_of b) t ss ps a.holds free in
      zone_along z (accepted (Enter n s b) ∷ h) (entered_in s b t) (sales_with s b ss) (purchases_with s b ps) (sales_entered n z named h s b) (purchases_entered n z named h s b) (zone_entered s b t ss ps room a.holds)
      (sales_sound s b ss ps limits absent a.sound.sales) (purchases_sound s b ss ps limits absent a.sound.purchases)

  pub here_withdrawn : (s : Side) (k : BlockKey) (t : ZoneTables) → StandsOn s k t → ZoneAfter z h t → ZoneAfter z (accepted (Withdraw n s k) ∷ h) (withdrawn_in s k t)
  here_withdrawn s k t there a =
      let ss = standing_sales z h in
      let ps = standing_purchases z h in
      zone_along z (accepted (Withdraw n s k) ∷ h) (withdrawn_in s k t) (sales_without s k ss) (purchases_without s k ps) (sales_withdrawn n z named h s k) (purchases_withdrawn n z named h s k) (zone_withdrawn s k t ss ps there a.holds)
      (sales_sound_out s k ss a.sound.sales) (purchases_sound_out s k ps a.sound.purchases)

  pub there_entered : (s : Side) (b : Bid) (t : ZoneTables) → ZoneAfter (other_zone z) h t → ZoneAfter (other_zone z) (accepted (Enter n s b) ∷ h) t
  there_entered s b t a =
      zone_along (other_zone z) (accepted (Enter n s b) ∷ h) t (standing_sales (other_zone z) h) (standing_purchases (other_zone z) h)
      (elsewhere_entered n z named h sale_order sale_row Sale s b) (elsewhere_entered n z named h purchase_order purchase_row Purchase s b) a.holds a.sound.sales a.sound.purchases

  pub there_withdrawn : (s : Side) (k : BlockKey) (t : ZoneTables) → ZoneAfter (other_zone z) h t → ZoneAfter (other_zone z) (accepted (Withdraw n s k) ∷ h) t
  there_withdrawn s k t a =
      zone_along (other_zone z) (accepted (Withdraw n s k) ∷ h) t (standing_sales (other_zone z) h) (standing_purchases (other_zone z) h)
      (elsewhere_withdrawn n z named h sale_order sale_row Sale s k) (elsewhere_withdrawn n z named h purchase_order purchase_row Purchase s k) a.holds a.sound.sales a.sound.purchases

-- ---- both zones
pub record BlocksAfter (h : History) (t : Blocks) : Type 0 where
  pub one : ZoneAfter One h t.one
  pub two : ZoneAfter Two h t.two

abbrev pub tables_of : Zone → Blocks → ZoneTables
tables_of One t = t.one
tables_of Two t = t.two

pub blocks_entered : (n : ℕ) (z : Zone) → zone_at n ≡ Some z → (h : History) (s : Side) (b : Bid) (t : Blocks) → BidWithinLimits b → (StandsOn s (key_of b) (tables_of z t) → ⊥) → Roomy s (tables_of z t) →
    BlocksAfter h t → BlocksAfter (accepted (Enter n s b) ∷ h) (in_zone (Some z) (entered_in s b) t)
blocks_entered n One named h s b t limits free room a = record { one = here_entered n One named h s b t.one limits free room a.one; two = there_entered n One named h s b t.two a.two }
blocks_entered n Two named h s b t limits free room a = record { one = there_entered n Two named h s b t.one a.one; two = here_entered n Two named h s b t.two limits free room a.two }

pub blocks_withdrawn : (n : ℕ) (z : Zone) → zone_at n ≡ Some z → (h : History) (s : Side) (k : BlockKey) (t : Blocks) → StandsOn s k (tables_of z t) →
    BlocksAfter h t → BlocksAfter (accepted (Withdraw n s k) ∷ h) (in_zone (Some z) (withdrawn_in s k) t)
blocks_withdrawn n One named h s k t there a = record { one = here_withdrawn n One named h s k t.one there a.one; two = there_withdrawn n One named h s k t.two a.two }
blocks_withdrawn n Two named h s k t there a = record { one = there_withdrawn n Two named h s k t.one a.one; two = here_withdrawn n Two named h s k t.two there a.two }
