use Rattle.std.proofs.Common.{◌≡◌, true, false, sym, ap, ◌∙◌, w32, SFits, rules}
use Rattle.std.proofs.lemmas.Int.{to_z-of_z}
use Rattle.market.specs.Precedence.{lex, at_one_price}
use Rattle.std.specs.declared.cmp.Ordering.TheVariants.{Less, Equal, Greater}
use Rattle.auction.specs.Curve.{place, by_place}
use Rattle.auction.specs.Offers.{rank_of}
use Rattle.auction.proofs.Merging.{first_by_place}
use Rattle.auction.proofs.side.stands_first.Goals as goal

pub returns-in-Less : goal.returns-in-Less
returns-in-Less c =
    let b = c.args.block.now in
    let o = c.args.other.now in
    let rank = rank_of c.args.side in
    let f : SFits w32 b.bid.price = search rules in
    let f' : SFits w32 o.bid.price = search rules in
    let e = rw (to_z-of_z w32 b.bid.price f, to_z-of_z w32 o.bid.price f') at c.place_of.ensures in
    let p : place (rank o.bid.price) (rank b.bid.price) ≡ Less = sym e ∙ c.in-Less.is in
    let k = first_by_place rank b o ∙ ap (by_place true (lex (at_one_price b.bid) (at_one_price o.bid)) false) p in
    sym k

pub returns-in-Equal : goal.returns-in-Equal
returns-in-Equal c =
    let b = c.args.block.now in
    let o = c.args.other.now in
    let rank = rank_of c.args.side in
    let f : SFits w32 b.bid.price = search rules in
    let f' : SFits w32 o.bid.price = search rules in
    let e = rw (to_z-of_z w32 b.bid.price f, to_z-of_z w32 o.bid.price f') at c.place_of.ensures in
    let p : place (rank o.bid.price) (rank b.bid.price) ≡ Equal = sym e ∙ c.in-Equal.is in
    let k = first_by_place rank b o ∙ ap (by_place true (lex (at_one_price b.bid) (at_one_price o.bid)) false) p in
    c.wins_tie.ensures ∙ sym k

pub returns-in-Greater : goal.returns-in-Greater
returns-in-Greater c =
    let b = c.args.block.now in
    let o = c.args.other.now in
    let rank = rank_of c.args.side in
    let f : SFits w32 b.bid.price = search rules in
    let f' : SFits w32 o.bid.price = search rules in
    let e = rw (to_z-of_z w32 b.bid.price f, to_z-of_z w32 o.bid.price f') at c.place_of.ensures in
    let p : place (rank o.bid.price) (rank b.bid.price) ≡ Greater = sym e ∙ c.in-Greater.is in
    let k = first_by_place rank b o ∙ ap (by_place true (lex (at_one_price b.bid) (at_one_price o.bid)) false) p in
    sym k
