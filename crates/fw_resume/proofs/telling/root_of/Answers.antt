use Rattle.std.proofs.Common.{◌<◌, ◌^◌, List, Option, length, sym, subst, ◌∙◌}
use Rattle.std.specs.List.{AllZip}
use Rattle.fw_flow.specs.Dataflow.{system_of}
use Rattle.fw_frontier.specs.declared.state.SentCount.{SentCount}
use Rattle.fw_keep.specs.Stored.{Records}
use Rattle.fw_model.specs.Machine.{Machine}
use Rattle.fw_root.specs.OfFlow.{Given}
use Rattle.fw_root.specs.Sound.{IsMark, IsRootFor}
use Rattle.fw_root.specs.declared.root.OwedAt.{OwedAt}
use Rattle.fw_root.specs.declared.root.Root.{Root}
use Rattle.fw_running.specs.Stands.{Stands}
use Rattle.fw_resume.specs.Counted.{AreOwedOf, ArePendingOf, AreSmall}
use Rattle.fw_resume.specs.Fronts.{AreFrontsTold}
use Rattle.fw_resume.specs.Names.{AreOthers}
use Rattle.fw_resume.specs.RootTold.{IsToldBy}
use Rattle.fw_resume.specs.Sends.{AreSendsTold}
use Rattle.fw_resume.proofs.RootLaws.{is_root}
use Rattle.fw_resume.proofs.SoundRootLaws.{root_sound}
use Rattle.fw_resume.proofs.TellingLaws.{all_there, resumable, told-named, told_by}
use Rattle.fw_resume.proofs.telling.root_of.Goals as goal
use Rattle.fw_resume.proofs.telling.root_of.Goals.{After-of-8}

-- the root that is made
abbrev made : After-of-8 → Root
made c = record {
  mark = c.args.mark;
  next_id = c.next_id.result;
  injected = c.of.result;
  bounds = c.of-2.result;
  fronts = c.of-3.result;
  writes = c.of-4.result;
  others = c.of-5.result;
  pending = c.of-6.result;
  owed = c.of-7.result;
  sends = c.of-8.result;
}

told : (c : After-of-8) → IsToldBy c.args.running.now (made c)
told c =
    let running = c.args.running.now in
    told_by running (made c) c.deref.result.now c.deref-2.result.now c.deref-3.result.now c.entries.result.now c.counts.result.now (c.deref.ensures.value ∙ c.in_ok-inputs.ensures)
    (c.deref-2.ensures.value ∙ c.in_ok-outputs.ensures) (c.deref-3.ensures.value ∙ c.in_ok-sequences.ensures) c.entries.ensures.all c.counts.ensures c.next_id.ensures
    (c.of.ensures ∙ c.in_ok-injected_of.ensures) (c.of-2.ensures ∙ c.in_ok-bounds_of.ensures)
    (subst (AreFrontsTold running (length running.flow.nodes)) (sym c.of-3.ensures) c.in_ok-fronts_of.ensures) (c.of-4.ensures ∙ c.in_ok-names_of.ensures)
    (subst (AreOthers running.parts.keep) (sym c.of-5.ensures) c.in_ok-others_of.ensures)
    (subst (ArePendingOf running.progress.counts (length running.flow.edges)) (sym c.of-6.ensures) c.in_ok-pending_of.ensures.all)
    (subst (AreOwedOf running.progress.counts (length running.flow.nodes)) (sym c.of-7.ensures) c.in_ok-owed_of.ensures.all)
    (subst (λ (all : List (List SentCount)). AllZip (AreSendsTold c.counts.result.now) c.deref-3.result.now all) (sym c.of-8.ensures) c.in_ok-sends_of.ensures)

sound : (c : After-of-8) (batches : Given) (records : Option Records) (state : Machine) → Stands (system_of c.args.running.now.flow batches) c.args.running.now records state
    → IsMark c.args.mark → c.args.running.now.parts.keep.next < 2 ^ 62 → IsRootFor c.args.running.now.flow batches (made c)
sound c batches records state s mark next =
    root_sound batches records state c.args.running.now (made c) c.requires.shaped s (told c) c.entries.ensures.catalogue
    (subst AreSmall (sym c.of-6.ensures) c.in_ok-pending_of.ensures.small) (subst (λ (os : List OwedAt). length os < 2 ^ 64) (sym c.of-7.ensures) c.in_ok-owed_of.ensures.few) mark next

pub sends_of-requires : goal.sends_of-requires
sends_of-requires c =
    all_there c.args.running.now.flow c.args.running.now.progress.counts c.counts.result.now c.deref-3.result.now c.requires.shaped.progress.counts c.counts.ensures
    (c.deref-3.ensures.value ∙ c.in_ok-sequences.ensures)

pub returns-clause-told : goal.returns-clause-told
returns-clause-told c = told (goal.at.returns-clause-told c).After-of-8

pub returns-clause-root : goal.returns-clause-root
returns-clause-root c =
    let at = (goal.at.returns-clause-root c).After-of-8 in
    λ sys records state s. is_root sys records state c.args.running.now (made at) c.requires.shaped s (told at)

pub returns-clause-named : goal.returns-clause-named
returns-clause-named c =
    let at = (goal.at.returns-clause-named c).After-of-8 in
    λ sys records state s. told-named sys records state c.args.running.now (made at) s (told at)

pub returns-clause-sound : goal.returns-clause-sound
returns-clause-sound c = sound (goal.at.returns-clause-sound c).After-of-8

pub returns-clause-resumable : goal.returns-clause-resumable
returns-clause-resumable c =
    let at = (goal.at.returns-clause-resumable c).After-of-8 in
    λ batches records state s mark next.
    resumable batches records state c.args.running.now (made at) c.requires.shaped s (told at) (sound at batches records state s mark next)
