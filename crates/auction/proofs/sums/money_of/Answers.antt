use borrow.Author.Differences.{ints}
use Rattle.std.proofs.Common.{◌≡◌, ℕ, ◌+◌, ◌*◌, ◌<◌, ◌≤◌, List, map, length, get_or, drop, ℤ, pos, ◌+ℤ◌, ◌*ℤ◌, neg_ℤ, ◌≤ℤ◌, sym, ap, ◌∙◌, subst, arith, w32, w64, SFits, to_z, of_z, rules}
use Rattle.std.specs.List.{AllByRecursion}
use Rattle.std.proofs.ByRecursion.{All-get_or}
use Rattle.std.proofs.lemmas.List.{drop_all}
use Rattle.std.proofs.lemmas.Int.{to_z-of_z}
use Rattle.market.specs.declared.block.Block.{Block}
use Rattle.market.specs.Limits.{PriceWithinLimits}
use Rattle.auction.specs.Books.{money}
use Rattle.auction.proofs.Totals.{worth_bounds, all_unmap}
use Rattle.auction.proofs.Weaving.{read_drop}
use Rattle.auction.proofs.sums.money_of.Goals as goal

row_limits : {X : Type 0} (f : X → Block) (xs : List X) (i : ℕ) (x : X) → i < length xs → x ≡ get_or xs i x → AllByRecursion (λ y. PriceWithinLimits (f y).bid.price × ((f y).matched ≤ 100000)) xs → PriceWithinLimits (f x).bid.price × ((f x).matched ≤ 100000)
row_limits {X} f xs i x h e k = subst (λ (y : X). PriceWithinLimits (f y).bid.price × ((f y).matched ≤ 100000)) (sym e) (All-get_or (λ y. PriceWithinLimits (f y).bid.price × ((f y).matched ≤ 100000)) xs i x h k)

worth_of : (r : ℤ) (b d : Block) → SFits w32 b.bid.price → r ≡ to_z w32 (of_z w32 b.bid.price) *ℤ pos b.matched → b ≡ d → r ≡ d.bid.price *ℤ pos d.matched
worth_of r b d p e k = e ∙ ap (λ (z : ℤ). z *ℤ pos b.matched) (to_z-of_z w32 b.bid.price p) ∙ ap (λ (a : Block). a.bid.price *ℤ pos a.matched) k

-- one more row: s is the sum so far, m what the row is worth, and a what is left after it
sum_more : (s m a w t : ℤ) (i : ℕ) → s +ℤ w ≡ t → w ≡ m +ℤ a → (s +ℤ m) +ℤ a ≡ t
sum_more s m a w t i h e = omega (arith, ints)

sum_bounds : (s m : ℤ) (i : ℕ) → i < 256 → neg_ℤ (pos (30000000000 * i)) ≤ℤ s → s ≤ℤ pos (30000000000 * i) → neg_ℤ (pos 30000000000) ≤ℤ m → m ≤ℤ pos 30000000000 →
    SFits w64 (s +ℤ m) × (neg_ℤ (pos (30000000000 * (i + 1))) ≤ℤ (s +ℤ m)) × ((s +ℤ m) ≤ℤ pos (30000000000 * (i + 1)))
sum_bounds s m i n h k u v = (omega (arith, ints), omega (arith, ints), omega (arith, ints))

pub loop-row-init : goal.loop-row-init
loop-row-init g c = (omega (arith, ints), omega (arith, ints), omega (arith, ints))

pub overflow_add-sum : goal.overflow_add-sum
overflow_add-sum g c =
    let f = g.R.BlockRow.held in
    let xs = c.args.rows.now in
    let i = c.loop-row.row-index in
    let x = c.row-item.result in
    let h : i < length xs = search rules in
    let p : SFits w32 c.block-block.result.bid.price = search rules in
    let q : SFits w64 c.worth-sum.result = search rules in
    let v : c.worth-sum.result ≡ (f x).bid.price *ℤ pos (f x).matched = worth_of c.worth-sum.result c.block-block.result (f x) p c.worth-sum.ensures c.block-block.ensures in
    let l = row_limits f xs i x h c.row-item.is (all_unmap (λ b. PriceWithinLimits b.bid.price × (b.matched ≤ 100000)) f xs c.requires.limits) in
    let b = worth_bounds (f x).bid.price (f x).matched l.0 l.1 in
    let n : i < 256 = omega (arith, h, c.requires.few) in
    let k = sum_bounds _ ((f x).bid.price *ℤ pos (f x).matched) i n c.loop-row.invariant.1 c.loop-row.invariant.2 b.0 b.1 in
    rw (to_z-of_z w64 c.worth-sum.result q, v) k.0

pub loop-row-preserved : goal.loop-row-preserved
loop-row-preserved g c =
    let f = g.R.BlockRow.held in
    let xs = c.args.rows.now in
    let i = c.loop-row.row-index in
    let x = c.row-item.result in
    let h : i < length xs = search rules in
    let p : SFits w32 c.block-block.result.bid.price = search rules in
    let q : SFits w64 c.worth-sum.result = search rules in
    let v : c.worth-sum.result ≡ (f x).bid.price *ℤ pos (f x).matched = worth_of c.worth-sum.result c.block-block.result (f x) p c.worth-sum.ensures c.block-block.ensures in
    let l = row_limits f xs i x h c.row-item.is (all_unmap (λ b. PriceWithinLimits b.bid.price × (b.matched ≤ 100000)) f xs c.requires.limits) in
    let b = worth_bounds (f x).bid.price (f x).matched l.0 l.1 in
    let n : i < 256 = omega (arith, h, c.requires.few) in
    let m = (f x).bid.price *ℤ pos (f x).matched in
    let k = sum_bounds _ m i n c.loop-row.invariant.1 c.loop-row.invariant.2 b.0 b.1 in
    let e : money (map f (drop i xs)) ≡ m +ℤ money (map f (drop (i + 1) xs)) = ap money (read_drop f xs i x h c.row-item.is) in
    rw (to_z-of_z w64 c.worth-sum.result q, v, to_z-of_z w64 _ k.0)
    (sum_more _ m (money (map f (drop (i + 1) xs))) (money (map f (drop i xs))) (money (map f xs)) i c.loop-row.invariant.0 e, k.1, k.2)

pub returns : goal.returns
returns g c =
    let h : length c.args.rows.now ≤ c.loop-row.row-index = search rules in
    let e = rw (drop_all c.loop-row.row-index c.args.rows.now h) at c.loop-row.invariant.0 in
    let l : c.loop-row.row-index ≤ 256 = omega (arith, c.loop-row.auto.row-index-end, c.requires.few) in
    record { value = omega (arith, ints, e); within = (omega (arith, ints, c.loop-row.invariant.1), omega (arith, ints, c.loop-row.invariant.2)) }
