use Rattle.std.proofs.Common.{refl, ap, ◌∙◌}
use Rattle.fw_frontier.specs.Front.{IsFrontOf}
use Rattle.fw_flow.specs.Dataflow.{bounds_of}
use Rattle.fw_model.specs.Inclusions.{limit_of, note_node}
use Rattle.fw_model.specs.Lowerings.{choice_of}
use Rattle.fw_model.specs.Machine.{front_of}
use Rattle.fw_model.specs.Offers.{covers_of}
use Rattle.fw_model.proofs.InclusionLaws.{node-there}
use Rattle.fw_flow.specs.declared.side.Inclusion.TheVariants.{OfNote}
use Rattle.fw_certify.proofs.CodeLaws.{note-absent, note-refused, note-taken, of_values}
use Rattle.fw_certify.proofs.judge.take_note.Goals as goal

pub returns-in-Present : goal.returns-in-Present
returns-in-Present c =
    let flow = c.args.flow.now in
    let offers = c.args.offers.now in
    let cuts = c.args.values.now.cuts.items in
    let notices = c.args.values.now.notices.items in
    let choice = choice_of cuts notices in
    note-absent flow offers c.args.limit choice c.args.to.now c.in-Present.is

pub returns-then-not-is_meet : goal.returns-then-not-is_meet
returns-then-not-is_meet c =
    let flow = c.args.flow.now in
    let offers = c.args.offers.now in
    let cuts = c.args.values.now.cuts.items in
    let notices = c.args.values.now.notices.items in
    let choice = choice_of cuts notices in
    let limit = c.args.limit in
    let named = of_values (λ h. IsFrontOf (bounds_of flow (note_node flow limit)) c.in_ok-bound.bound (limit_of flow (covers_of flow offers) limit h)) cuts c.deref.result.now notices c.deref-2.result.now c.deref.ensures.value c.deref-2.ensures.value c.in_ok-bound.ensures in
    let old = c.requires.of_flow.notices (note_node flow limit) (node-there flow (OfNote limit) c.flow_is_well_formed.ensures c.requires.there) in
    note-refused flow offers limit choice c.in_ok-bound.bound c.in-At.front c.notice_at.result.now c.args.to.now c.is_meet.result c.in-At.is c.requires.to old named
    (c.notice_at.ensures ∙ ap (λ xs. front_of xs c.note_node-node.result) c.deref-3.ensures.value ∙ ap (front_of notices) c.note_node-node.ensures) c.if-not-is_meet.true c.is_meet.ensures

pub returns : goal.returns
returns c =
    let flow = c.args.flow.now in
    let offers = c.args.offers.now in
    let cuts = c.args.values.now.cuts.items in
    let notices = c.args.values.now.notices.items in
    let choice = choice_of cuts notices in
    let limit = c.args.limit in
    let named = of_values (λ h. IsFrontOf (bounds_of flow (note_node flow limit)) c.in_ok-bound.bound (limit_of flow (covers_of flow offers) limit h)) cuts c.deref.result.now notices c.deref-2.result.now c.deref.ensures.value c.deref-2.ensures.value c.in_ok-bound.ensures in
    let old = c.requires.of_flow.notices (note_node flow limit) (node-there flow (OfNote limit) c.flow_is_well_formed.ensures c.requires.there) in
    note-taken flow offers limit cuts notices _ c.in_ok-bound.bound c.in-At.front c.notice_at.result.now c.in_ok-taken.taken c.args.to.now c.note_node-node.result c.place.result c.is_meet.result c.in-At.is c.requires.to old named
    (c.notice_at.ensures ∙ ap (λ xs. front_of xs c.note_node-node.result) c.deref-3.ensures.value ∙ ap (front_of notices) c.note_node-node.ensures) c.if-not-is_meet.false c.is_meet.ensures c.note_node-node.ensures c.place.ensures c.in_ok-taken.ensures refl
