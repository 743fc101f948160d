-- What is lent to a call, as lists. To believe: what a table holds is what its reference points to, and a look at a table shows it; two
-- such values lend the same places if each of their slices is the same one, with as many places.
use Rattle.std.specs.Prelude.{List}
use Rattle.market.specs.Places.{SameSlice}
use Rattle.market.specs.declared.account.Account.{Account}
use Rattle.market.specs.declared.places.BlockPlaces.{BlockPlaces}
use Rattle.market.specs.declared.places.ZonePlaces.{ZonePlaces}
use Rattle.settlement.specs.declared.entry.Entry.{Entry}
use Rattle.table.specs.declared.table.Table.{Table}
use Rattle.table.specs.declared.view.View.{View}
use Rattle.session.specs.Outcomes.{Four, four}
use Rattle.session.specs.Tables.{Blocks, Counted, Places, ZoneTables, blocks_of, lent, places, zone_tables}
use Rattle.session.specs.declared.lent.Lent.{Lent}
use Rattle.session.specs.declared.session.Session.{Session}
use Rattle.session.specs.declared.session.ZoneCounts.{ZoneCounts}

-- a table that is looked at, and one that is lent
abbrev pub seen : {X : Type 0} → View X → Counted X
seen v = lent v.rows.now v.count

abbrev pub held : {X : Type 0} → Table X → Counted X
held t = lent t.rows.now t.count

-- the two tables of a zone, and the four of both
abbrev pub zone_held : ZoneCounts → ZonePlaces → ZoneTables
zone_held n t = zone_tables n t.sales.now t.purchases.now

abbrev pub blocks_held : Session → BlockPlaces → Blocks
blocks_held s t = blocks_of s t.sales_one.now t.purchases_one.now t.sales_two.now t.purchases_two.now

abbrev pub four_held : BlockPlaces → Four
four_held t = four t.sales_one.now t.purchases_one.now t.sales_two.now t.purchases_two.now

-- everything that is lent
abbrev pub places_held : BlockPlaces → List Account → List Entry → Places
places_held t xs es = places t.sales_one.now t.purchases_one.now t.sales_two.now t.purchases_two.now xs es

abbrev pub held_in : Lent → Places
held_in l = places l.sales_one.now l.purchases_one.now l.sales_two.now l.purchases_two.now l.accounts.now l.entries.now

abbrev pub SameLent : Lent → Lent → Type 0
SameLent a b =
    SameSlice a.sales_one b.sales_one
    × SameSlice a.purchases_one b.purchases_one
    × SameSlice a.sales_two b.sales_two
    × SameSlice a.purchases_two b.purchases_two
    × SameSlice a.accounts b.accounts
    × SameSlice a.entries b.entries
