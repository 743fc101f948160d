use Rattle.std.proofs.Common.{◌≡◌, ◌<◌, length, get_or, set, pos, ◌+ℤ◌, sym, ap, ◌∙◌, subst, arith, w64, to_z, of_z}
use mir.Syntax.{w128}
use Rattle.std.proofs.lemmas.List.Edits.{map_over_more}
use Rattle.std.proofs.ByRecursion.{All-get_or}
use Rattle.std.proofs.lemmas.List.{get_or_default}
use Rattle.std.proofs.lemmas.Int.{ints}
use Rattle.market.specs.Limits.{PositionWithinLimits}
use Rattle.market.specs.declared.account.Account.{Account}
use Rattle.settlement.specs.Entries.{block_entries}
use Rattle.settlement.specs.Postings.{account_after, posted}
use Rattle.settlement.specs.Sessions.{outcome_of}
use Rattle.settlement.proofs.Posts.{all_mapped, next_unmapped}
use Rattle.settlement.proofs.postings.post.Goals as goal

pub overflow_cast-account : goal.overflow_cast-account
overflow_cast-account c =
    let es = block_entries (outcome_of c.args.session) in
    let xs = c.args.accounts.now in
    let ys = c.loop-account.accounts in
    let i = c.loop-account.account-index in
    let blank : Account = record { agent = 0; position = pos 0 } in
    let a = get_or ys i blank in
    let is : to_z w128 (of_z w128 c.position_after.result) ≡ a.position +ℤ posted a.agent es = omega (arith, ints, c.position_after.ensures.value) in
    let same = next_unmapped (account_after es) xs ys i c.loop-account.invariant blank c.loop-account-test.true in
    let here = All-get_or (λ b. PositionWithinLimits (account_after es b).position) xs i blank c.loop-account-test.true (all_mapped (λ b. PositionWithinLimits b.position) (account_after es) xs c.requires) in
    let there = subst (λ b. PositionWithinLimits (account_after es b).position) (sym same) here in
    omega (arith, ints, is, there.0, there.1)

pub loop-account-preserved : goal.loop-account-preserved
loop-account-preserved c =
    let es = block_entries (outcome_of c.args.session) in
    let xs = c.args.accounts.now in
    let ys = c.loop-account.accounts in
    let i = c.loop-account.account-index in
    let blank : Account = record { agent = 0; position = pos 0 } in
    let a = get_or ys i blank in
    let same = next_unmapped (account_after es) xs ys i c.loop-account.invariant blank c.loop-account-test.true in
    let here = All-get_or (λ b. PositionWithinLimits (account_after es b).position) xs i blank c.loop-account-test.true (all_mapped (λ b. PositionWithinLimits b.position) (account_after es) xs c.requires) in
    let there = subst (λ b. PositionWithinLimits (account_after es b).position) (sym same) here in
    let is : to_z w64 (of_z w64 (to_z w128 (of_z w128 c.position_after.result))) ≡ a.position +ℤ posted a.agent es = omega (arith, ints, c.position_after.ensures.value, there.0, there.1) in
    let room : i < length ys = omega (arith, c.loop-account.auto.accounts, c.loop-account-test.true) in
    ap (λ z. set ys i (record { agent = a.agent; position = z })) is ∙ map_over_more (account_after es) xs ys i a c.loop-account-test.true c.loop-account.invariant (get_or_default ys i blank a room)
