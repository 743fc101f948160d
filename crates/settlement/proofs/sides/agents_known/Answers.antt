use Rattle.std.proofs.Common.{◌≡◌, true, filter, Decides, sym, subst, rules, tests}
use Rattle.std.specs.List.{AllByRecursion}
use Rattle.std.proofs.lemmas.Iterator.{YieldsList-from_slice}
use Rattle.std.proofs.lemmas.Iterator.Consumers.{YieldsList-from_filter}
use Rattle.std.proofs.lemmas.Iterator.Search.{all_from_yields_List}
use Rattle.settlement.specs.Entries.{is_matched, side_entries, trade_of}
use Rattle.settlement.specs.Postings.{has_account}
use Rattle.settlement.specs.declared.entry.Entry.{Entry}
use Rattle.settlement.proofs.Owners.{known_rows}
use Rattle.settlement.proofs.sides.agents_known.Goals as goal

pub returns : goal.returns
returns g c =
    let t = trade_of g.B.BlockRow.held g.B.BlockRow.traded in
    let xs = c.args.blocks.now in
    let accounts = c.args.accounts.now in
    let all = all_from_yields_List (λ (x : g.row.B.Denot). has_account accounts (t.block x).bid.agent) _ _ c.all.result c.all.ensures.ran (YieldsList-from_filter _ (is_matched t) (YieldsList-from_slice xs cc) c.filter.ensures.closure (λ x r q k. search (rules, tests))) (λ x b q k. search (rules, tests)) in
    λ price. subst (λ b. Decides b (AllByRecursion (λ (e : Entry). has_account accounts e.agent ≡ true) (side_entries t price xs))) (sym all) (known_rows accounts t price (filter (is_matched t) xs))
