use Rattle.std.proofs.Common.{◌≡◌, ap, ◌∙◌}
use Rattle.fw_flow.specs.Dataflow.{bounds_of}
use Rattle.fw_progress.specs.Covers.{sent_inside}
use Rattle.fw_progress.proofs.SentCoverLaws.{sent-stand}
use Rattle.fw_progress.proofs.traces.Traces.sent_cover.Goals as goal

pub returns-clause-cover : goal.returns-clause-cover
returns-clause-cover c =
    let flow = c.args.flow.now in
    let traces = c.args.self.now in
    let f = c.args.f.now in
    let stand : c.deref.result.now ≡ sent_inside flow traces c.args.edge f = c.deref.ensures.value ∙ c.in_ok-sent.ensures in
    sent-stand flow c.args.edge f traces c.deref.result.now c.domain.result c.cover_of.result c.flow_is_well_formed.ensures c.requires.there stand
    (c.domain.ensures ∙ ap (bounds_of flow) c.dst.ensures) c.cover_of.ensures
