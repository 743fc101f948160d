use Rattle.std.proofs.Common.{rules, ◌∙◌, eqb, refl, ◌||◌, tests}
use Rattle.std.specs.List.{list_any}
use Rattle.std.proofs.lemmas.Iterator.{YieldsList-from_slice}
use Rattle.std.proofs.lemmas.Iterator.Search.{any_from_yields_List}
use Rattle.std.proofs.lemmas.List.Recursion.{same_from_clauses}
use Rattle.market.specs.declared.account.Account.{Account}
use Rattle.settlement.specs.Postings.{has_account}
use Rattle.settlement.proofs.accounts.has_account.Goals as goal

pub returns : goal.returns
returns c =
    let agent = c.args.agent in
    let xs = c.args.accounts.now in
    let own = λ (a : Account). eqb a.agent agent in
    let found = any_from_yields_List own _ _ c.any.result c.any.ensures.ran (YieldsList-from_slice xs cc) (λ x b q k. search (rules, tests)) in
    found ∙ same_from_clauses (list_any own) (λ ys. has_account ys agent) (λ a b. own a || b) refl (λ _ _. refl) (λ _ _. refl) xs
