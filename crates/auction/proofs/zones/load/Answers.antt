use Rattle.std.proofs.Common.{◌+◌, ◌≤◌, map, length, sym, ap, ◌∙◌, arith}
use Rattle.std.proofs.lemmas.List.{take_all}
use Rattle.market.specs.declared.zone.Zone.{Zone}
use Rattle.auction.specs.Offers.{rank_of, alone}
use Rattle.auction.proofs.Weaving.{merged_alone}
use Rattle.auction.proofs.zones.load.Goals as goal

pub returns-in-One : goal.returns-in-One
returns-in-One g c =
    let n = length c.args.rows.now in
    let os = c.merge.new.offers in
    let l : length os ≤ n + 0 = omega (arith, c.merge.auto.offers, c.requires) in
    sym (take_all (n + 0) os l) ∙ c.merge.ensures ∙ merged_alone (rank_of g.R.BlockRow.traded) (map g.R.BlockRow.held c.args.rows.now) ∙ ap (λ (z : Zone). alone z (map g.R.BlockRow.held c.args.rows.now)) (sym c.in-One.is)

pub returns-in-Two : goal.returns-in-Two
returns-in-Two g c =
    let n = length c.args.rows.now in
    let os = c.merge-in-Two.new.offers in
    let l : length os ≤ 0 + n = omega (arith, c.merge-in-Two.auto.offers, c.requires) in
    sym (take_all (0 + n) os l) ∙ c.merge-in-Two.ensures ∙ ap (λ (z : Zone). alone z (map g.R.BlockRow.held c.args.rows.now)) (sym c.in-Two.is)
