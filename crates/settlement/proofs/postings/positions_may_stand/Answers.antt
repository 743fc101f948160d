use Rattle.std.proofs.Common.{pos, rules, tests}
use Rattle.std.proofs.lemmas.Iterator.{YieldsList-from_slice, cases_from_all}
use Rattle.market.specs.Limits.{PositionWithinLimits}
use Rattle.market.specs.declared.account.Account.{Account}
use Rattle.settlement.specs.Entries.{block_entries}
use Rattle.settlement.specs.Postings.{account_after}
use Rattle.settlement.specs.Sessions.{outcome_of}
use Rattle.settlement.proofs.Posts.{all_by_answer}
use Rattle.settlement.proofs.postings.positions_may_stand.Goals as goal

pub returns : goal.returns
returns c =
    let after = account_after (block_entries (outcome_of c.args.session)) in
    let xs = c.args.accounts.now in
    all_by_answer (λ a. PositionWithinLimits a.position) after (record { agent = 0; position = pos 0 }) c.all.result xs
    (cases_from_all _ _ c.all.result (λ (a : Account). PositionWithinLimits (after a).position) (λ (a : Account). PositionWithinLimits (after a).position → ⊥) c.all.ensures.ran (YieldsList-from_slice xs cc) (λ x q k. search (rules, tests)) (λ x q k. search (rules, tests)))
