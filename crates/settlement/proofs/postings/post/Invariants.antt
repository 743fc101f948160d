use Rattle.std.proofs.Common.{◌≡◌, ◌++◌, map, take, drop}
use Rattle.settlement.specs.Entries.{block_entries}
use Rattle.settlement.specs.Postings.{account_after}
use Rattle.settlement.specs.Sessions.{outcome_of}
use Rattle.settlement.proofs.postings.post.Given as goal

abbrev pub invariant-loop-account : goal.invariant-loop-account
invariant-loop-account l = l.accounts ≡ map (account_after (block_entries (outcome_of l.session))) (take l.account-index l.initial.accounts) ++ drop l.account-index l.initial.accounts
