use Rattle.std.proofs.Common.{◌≡◌, true}
use Rattle.settlement.specs.Entries.{buying, selling, side_entries, zone_entries}
use Rattle.settlement.specs.Postings.{has_account}
use Rattle.settlement.specs.Sessions.{zone_of}
use Rattle.settlement.specs.declared.entry.Entry.{Entry}
use Rattle.settlement.proofs.Parts.{both_true, both_false, zone_parts}
use Rattle.settlement.proofs.session.ClearedZone.agents_known.Goals as goal

pub returns-then-agents_known : goal.returns-then-agents_known
returns-then-agents_known c =
    let z = zone_of c.args.self in
    let known : Entry → Type 0 = λ e. has_account c.args.accounts.now e.agent ≡ true in
    both_true known (side_entries selling z.price z.sales) (side_entries buying z.price z.purchases) (zone_entries z) (zone_parts z) c.if-agents_known.true (c.agents_known.ensures z.price) (c.agents_known-then-agents_known.ensures z.price)

pub returns-else-agents_known : goal.returns-else-agents_known
returns-else-agents_known c =
    let z = zone_of c.args.self in
    let known : Entry → Type 0 = λ e. has_account c.args.accounts.now e.agent ≡ true in
    both_false known (side_entries selling z.price z.sales) (side_entries buying z.price z.purchases) (zone_entries z) (zone_parts z) c.if-agents_known.false (c.agents_known.ensures z.price)
