use Rattle.std.proofs.Common.{[], sym, subst}
use Rattle.std.proofs.Common.{refl}
use Rattle.fw_flow.specs.Dataflow.{system_of}
use Rattle.fw_progress.specs.History.{AreKeptAdmissible}
use Rattle.fw_progress.proofs.ProgressLaws.{new_of}
use Rattle.fw_progress.proofs.StartLaws.{first-counts, largest-stands}
use Rattle.fw_progress.proofs.progress.Progress.new.Goals as goal

pub returns-clause-progress : goal.returns-clause-progress
returns-clause-progress c = λ k. new_of c.args.flow.now _ c.in_ok-counts.ensures.counts_of c.in_ok-no_stamps_each.ensures c.in_ok-kept.ensures c.new.ensures

pub returns-clause-stands : goal.returns-clause-stands
returns-clause-stands c =
    let flow = c.args.flow.now in
    let sys = system_of flow c.args.batches.now in
    let counts = first-counts flow c.args.batches.now c.in_ok-counts.counts c.in_ok-counts.ensures in
    let both = largest-stands flow c.in_ok-counts.counts c.in_ok-kept.kept.items c.flow_is_well_formed.ensures c.in_ok-counts.ensures.counts_of c.in_ok-kept.ensures sys [] refl counts in
    record { counts = counts; kept = subst (AreKeptAdmissible sys [] c.in_ok-kept.kept.items) (sym c.new.ensures) both.0 }

pub returns-clause-complete : goal.returns-clause-complete
returns-clause-complete c =
    let flow = c.args.flow.now in
    let sys = system_of flow c.args.batches.now in
    let counts = first-counts flow c.args.batches.now c.in_ok-counts.counts c.in_ok-counts.ensures in
    (largest-stands flow c.in_ok-counts.counts c.in_ok-kept.kept.items c.flow_is_well_formed.ensures c.in_ok-counts.ensures.counts_of c.in_ok-kept.ensures sys [] refl counts).1
