use Rattle.std.proofs.Common.{◌<◌, ◌++◌, length, drop, refl, ap, ◌∙◌, zero-add, arith}
use Rattle.std.proofs.lemmas.Bool.{false≢true}
use Rattle.settlement.specs.Entries.{entries_of}
use Rattle.settlement.specs.Sessions.{outcome_of}
use Rattle.settlement.proofs.Adding.{adds_up}
use Rattle.settlement.proofs.Causes.{no_cause, past_limits}
use Rattle.settlement.proofs.Keeping.{nothing_lost}
use Rattle.settlement.proofs.Sounding.{sound_posted}
use Rattle.settlement.proofs.settle.settle.Goals as goal

pub returns-then-not-limits_kept : goal.returns-then-not-limits_kept
returns-then-not-limits_kept c =
    let room : length c.args.entries.now < length (entries_of (outcome_of c.args.session)) → ⊥ = λ h. omega (arith, c.entry_count-count.ensures.value) in
    record {
      cause = past_limits (outcome_of c.args.session) c.args.accounts.now c.args.entries.now c.args.totals.income c.args.totals.residue (c.if-not-is_balanced.ensures.0 refl) (c.if-not-agents_known.ensures.0 refl) room (λ w. false≢true (c.if-not-limits_kept.ensures.1 w));
      settlement = (refl, refl);
    }

pub report-settled-requires-clause-position_limits : goal.report-settled-requires-clause-position_limits
report-settled-requires-clause-position_limits c = let w = c.if-not-limits_kept.ensures.0 refl in (w.incomes, w.residues)

pub returns : goal.returns
returns c =
    let o = outcome_of c.args.session in
    let xs = c.args.accounts.now in
    let balanced = c.if-not-is_balanced.ensures.0 refl in
    let room : length c.args.entries.now < length (entries_of o) → ⊥ = λ h. omega (arith, c.entry_count-count.ensures.value) in
    let within = c.if-not-limits_kept.ensures.0 refl in
    record {
      cause = no_cause o xs c.args.entries.now c.args.totals.income c.args.totals.residue balanced (c.if-not-agents_known.ensures.0 refl) room within c.report-settled.result;
      settlement = record {
        wrote = c.write_entries.ensures ∙ ap (λ n. entries_of o ++ drop n c.args.entries.now) (zero-add (length (entries_of o)));
        posts = c.post.ensures;
        reports = c.report-settled.ensures;
        stays_sound = sound_posted o xs c.post.new.accounts c.post.ensures within.positions;
        adds_up = adds_up o balanced;
        nothing_lost = nothing_lost o xs balanced;
      };
    }
