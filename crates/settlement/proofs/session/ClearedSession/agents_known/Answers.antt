use Rattle.std.proofs.Common.{◌≡◌, true}
use Rattle.settlement.specs.Entries.{block_entries, zone_entries}
use Rattle.settlement.specs.Postings.{has_account}
use Rattle.settlement.specs.Sessions.{outcome_of}
use Rattle.settlement.specs.declared.entry.Entry.{Entry}
use Rattle.settlement.proofs.Parts.{both_true, both_false, block_parts}
use Rattle.settlement.proofs.session.ClearedSession.agents_known.Goals as goal

pub returns-then-agents_known : goal.returns-then-agents_known
returns-then-agents_known c =
    let o = outcome_of c.args.self in
    let known : Entry → Type 0 = λ e. has_account c.args.accounts.now e.agent ≡ true in
    both_true known (zone_entries o.one) (zone_entries o.two) (block_entries o) (block_parts o) c.if-agents_known.true c.agents_known.ensures c.agents_known-then-agents_known.ensures

pub returns-else-agents_known : goal.returns-else-agents_known
returns-else-agents_known c =
    let o = outcome_of c.args.self in
    let known : Entry → Type 0 = λ e. has_account c.args.accounts.now e.agent ≡ true in
    both_false known (zone_entries o.one) (zone_entries o.two) (block_entries o) (block_parts o) c.if-agents_known.false c.agents_known.ensures
