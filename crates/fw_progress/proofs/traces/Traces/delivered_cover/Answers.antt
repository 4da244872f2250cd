use Rattle.std.proofs.Common.{◌≡◌, ◌<◌, [], length, ap, ◌∙◌, arith}
use Rattle.fw_lemmas.proofs.Lists.{read_at}
use Rattle.fw_flow.specs.Dataflow.{bounds_of}
use Rattle.fw_progress.specs.Trace.{delivered_on}
use Rattle.fw_progress.proofs.CoverLaws.{delivered-covers}
use Rattle.fw_progress.proofs.traces.Traces.delivered_cover.Goals as goal

pub returns-clause-cover : goal.returns-clause-cover
returns-clause-cover c =
    let flow = c.args.flow.now in
    let traces = c.args.self.now in
    let lists = c.requires.traces c.if-self.false in
    let on = c.place.ensures in
    let there : c.place.result < length traces.delivered.items = omega (arith, on, lists.delivered_each, c.requires.there) in
    let kept : c.index.result.now ≡ delivered_on traces c.args.edge = read_at traces.delivered.items c.args.edge c.place.result c.index.result.now [] on there c.index.ensures in
    delivered-covers flow c.args.edge c.args.f.now traces c.index.result.now c.domain.result c.cover.result c.flow_is_well_formed.ensures c.requires.there kept
    (c.domain.ensures ∙ ap (bounds_of flow) c.dst.ensures) c.cover.ensures
