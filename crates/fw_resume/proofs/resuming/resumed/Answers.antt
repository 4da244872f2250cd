use Rattle.std.proofs.Common.{true, Bool, List, length, map, replicate, ap, refl, sym, subst, ◌∙◌}
use Rattle.fw_frontier.specs.Front.{Front}
use Rattle.fw_flow.specs.Dataflow.{system_of}
use Rattle.fw_model.specs.Machine.{AreCanonical, events}
use Rattle.fw_model.proofs.DomainLaws.{has_epochs}
use Rattle.fw_regain.specs.Down.{down}
use Rattle.fw_regain.proofs.DownLaws.{down-reached}
use Rattle.fw_root.specs.declared.root.NodeFronts.{NodeFronts}
use Rattle.fw_resume.specs.Lost.{AreLostTold}
use Rattle.fw_resume.specs.Resumed.{AreEntriesLeft}
use Rattle.fw_resume.proofs.StartLaws.{fronts_each, length-map', settled-canonical}
use Rattle.fw_resume.proofs.resuming.resumed.Goals as goal

pub lost_of-requires : goal.lost_of-requires
lost_of-requires c =
    ap (λ (xs : List NodeFronts). length xs) c.as_slice-fronts.ensures ∙ fronts_each c.args.flow c.args.batches.now c.args.root.now c.requires.sound

pub traces_of-requires-clause-low_each : goal.traces_of-requires-clause-low_each
traces_of-requires-clause-low_each c =
    let fronts = c.as_slice-fronts.result.now in
    ap (λ (xs : List Front). length xs) (c.deref.ensures.value ∙ c.in_ok-low.ensures) ∙ length-map' (λ (f : NodeFronts). f.low) fronts
    ∙ ap (λ (xs : List NodeFronts). length xs) c.as_slice-fronts.ensures ∙ fronts_each c.args.flow c.args.batches.now c.args.root.now c.requires.sound

pub traces_of-requires-clause-epochs : goal.traces_of-requires-clause-epochs
traces_of-requires-clause-epochs c = has_epochs (system_of c.args.flow c.args.batches.now) c.requires.well_formed

pub of_counts-requires-clause-settled_each : goal.of_counts-requires-clause-settled_each
of_counts-requires-clause-settled_each c =
    let fronts = c.as_slice-fronts.result.now in
    ap (λ (xs : List Front). length xs) c.in_ok-settled.ensures ∙ length-map' (λ (f : NodeFronts). f.settled) fronts
    ∙ ap (λ (xs : List NodeFronts). length xs) c.as_slice-fronts.ensures ∙ fronts_each c.args.flow c.args.batches.now c.args.root.now c.requires.sound

pub of_counts-requires-clause-settled : goal.of_counts-requires-clause-settled
of_counts-requires-clause-settled c =
    subst (AreCanonical c.args.flow) (sym (c.in_ok-settled.ensures ∙ ap (map (λ (f : NodeFronts). f.settled)) c.as_slice-fronts.ensures))
    (settled-canonical c.args.flow c.args.batches.now c.args.root.now c.requires.sound)

pub parts_of-requires-clause-low : goal.parts_of-requires-clause-low
parts_of-requires-clause-low c = c.in_ok-low.ensures ∙ ap (map (λ (f : NodeFronts). f.low)) c.as_slice-fronts.ensures

pub parts_of-requires-clause-one_each : goal.parts_of-requires-clause-one_each
parts_of-requires-clause-one_each c =
    let fronts = c.as_slice-fronts.result.now in
    ap (λ (xs : List Front). length xs) c.in_ok-low.ensures ∙ length-map' (λ (f : NodeFronts). f.low) fronts
    ∙ ap (λ (xs : List NodeFronts). length xs) c.as_slice-fronts.ensures ∙ fronts_each c.args.flow c.args.batches.now c.args.root.now c.requires.sound

pub returns-clause-by : goal.returns-clause-by
returns-clause-by c =
    let flow = c.args.flow in
    let first = c.in_ok-running.ensures.first in
    record {
      runs = first.runs;
      epochs = first.epochs;
      parts = c.in_ok-parts.ensures;
      progress = c.in_ok-progress.ensures.progress c.in_ok-progress.ensures.ready;
      settled = c.in_ok-progress.ensures.settled ∙ c.in_ok-settled.ensures ∙ ap (map (λ (f : NodeFronts). f.settled)) c.as_slice-fronts.ensures;
      live = c.in_ok-progress.ensures.ready;
      traces = c.in_ok-traces.ensures.ready.lists;
      traced = c.in_ok-traces.ensures.ready.ready;
      failed = c.in_ok-failed.ensures.items_if_clones_equal (λ y e. e) ∙ ap (λ n. replicate {A = Bool} n true) c.nodes.ensures.count;
      lost = subst (λ (fs : List NodeFronts). AreLostTold flow fs (length flow.nodes) c.in_ok-lost.lost.items) c.as_slice-fronts.ensures c.in_ok-lost.ensures.told;
      ready = first.ready;
    }

pub returns-clause-knows : goal.returns-clause-knows
returns-clause-knows c = λ state of left.
    let sys = system_of c.args.flow c.args.batches.now in
    let counts = c.in_ok-counts.ensures.of_state state of.well_formed of.reached of.of_state in
    let low = c.deref.ensures.value ∙ c.in_ok-low.ensures ∙ ap (map (λ (f : NodeFronts). f.low)) c.as_slice-fronts.ensures ∙ of.of_state.low in
    record {
      progress = (c.in_ok-progress.ensures.complete sys (events state.history) refl counts).0;
      traces = c.in_ok-traces.ensures.held (down sys state) of.well_formed (down-reached sys state of.reached) counts low
          (subst (AreEntriesLeft sys state) (sym c.entries.ensures.all) left);
      lost = c.in_ok-lost.ensures.held sys state c.args.root.now refl (sym c.as_slice-fronts.ensures) of.of_state;
    }
