use Rattle.std.proofs.Common.{subst}
use Rattle.fw_frontier.specs.Front.{IsFrontOf}
use Rattle.fw_flow.specs.Dataflow.{bounds_of}
use Rattle.fw_model.specs.Lowerings.{choice_of}
use Rattle.fw_model.specs.Inclusions.{note_node, limit_of}
use Rattle.fw_monitor.proofs.LoweringLaws.{note_tested}
use Rattle.fw_monitor.proofs.descent.lower_note.Goals as goal
use Rattle.fw_model.specs.Offers.{covers_of}

pub returns : goal.returns
returns c =
    let flow = c.args.flow.now in
    let offers = c.args.offers.now in
    let limit = c.args.limit.now in
    let cuts = c.args.cuts.now in
    let notices = c.args.notices.now.items in
    let names = subst (λ xs. IsFrontOf (bounds_of flow (note_node flow limit)) c.in_ok-bound.bound (limit_of flow (covers_of flow offers) limit (choice_of cuts xs))) c.deref.ensures.value c.in_ok-bound.ensures in
    note_tested flow offers limit cuts notices c.lower_notice.new.notices.items c.note_node.result c.in_ok-bound.bound c.in_ok-value.value
    c.flow_is_well_formed.ensures c.requires.there c.requires.encloses names c.note_node.ensures c.in_ok-value.ensures
