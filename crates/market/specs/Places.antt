-- The places of the block tables, as they are lent to a call. To believe: that a slice lent by a field is the same slice afterwards if it
-- is the same reference and has as many places as before, and that two such values lend the same places if each of their slices is the
-- same; a contract that says so lets the lender know what its own slices hold afterwards.
use Rattle.std.specs.Prelude.{◌≡◌, List, length}
use Rattle.std.specs.Borrow.{MutBor}
use Rattle.market.specs.declared.places.BlockPlaces.{BlockPlaces}
use Rattle.market.specs.declared.places.ZonePlaces.{ZonePlaces}

-- b is the reference a, with as many places as a had, whatever they hold
abbrev pub SameSlice : {X : Type 0} → MutBor (List X) → MutBor (List X) → Type 0
SameSlice a b = (b.ghost_name ≡ a.ghost_name) × (length b.now ≡ length a.now)

abbrev pub SameZonePlaces : ZonePlaces → ZonePlaces → Type 0
SameZonePlaces a b = SameSlice a.sales b.sales × SameSlice a.purchases b.purchases

abbrev pub SamePlaces : BlockPlaces → BlockPlaces → Type 0
SamePlaces a b =
    SameSlice a.sales_one b.sales_one
    × SameSlice a.purchases_one b.purchases_one
    × SameSlice a.sales_two b.sales_two
    × SameSlice a.purchases_two b.purchases_two
