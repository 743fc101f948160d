use Rattle.std.proofs.Common.{◌≡◌, ◌+◌, [], map, length, arith}
use Rattle.std.proofs.lemmas.List.{length-map, set-get_or}
use Rattle.auction.specs.Offers.{rank_of, merged}
use Rattle.auction.proofs.Sides.{blank}
use Rattle.auction.proofs.Weaving.{merged_length, nothing_left, whole_taken}
use Rattle.auction.proofs.merge.merge.Goals as goal

pub returns-in_default : goal.returns-in_default
returns-in_default g c =
    let f = g.R.BlockRow.held in
    let os = c.loop-place.offers in
    let whole = merged (rank_of g.R.BlockRow.traded) (map f c.args.one.now) (map f c.args.two.now) in
    let l : length whole ≡ length c.args.one.now + length c.args.two.now = omega (arith, merged_length (rank_of g.R.BlockRow.traded) (map f c.args.one.now) (map f c.args.two.now), length-map c.args.one.now f, length-map c.args.two.now f) in
    let z : merged (rank_of g.R.BlockRow.traded) (map f c.loop-place.one.now) (map f c.loop-place.two.now) ≡ [] = c.in_default.ensures in
    rw (set-get_or os c.loop-place.place-index blank) (whole_taken os whole _ c.loop-place.place-index _ c.loop-place.invariant (omega arith) l z)

pub returns : goal.returns
returns g c =
    let f = g.R.BlockRow.held in
    let os = c.loop-place.offers in
    let whole = merged (rank_of g.R.BlockRow.traded) (map f c.args.one.now) (map f c.args.two.now) in
    let l : length whole ≡ length c.args.one.now + length c.args.two.now = omega (arith, merged_length (rank_of g.R.BlockRow.traded) (map f c.args.one.now) (map f c.args.two.now), length-map c.args.one.now f, length-map c.args.two.now f) in
    let z = nothing_left os whole _ c.loop-place.place-index c.loop-place.invariant (omega arith) (omega (arith, l)) in
    whole_taken os whole _ c.loop-place.place-index _ c.loop-place.invariant (omega arith) l z
