use Rattle.std.proofs.Common.{◌≡◌, ◌<◌, length, arith}
use Rattle.std.proofs.lemmas.Result.{IfOk-weaker}
use Rattle.fw_lemmas.proofs.Lists.{read_at}
use Rattle.fw_progress.specs.Trace.{no_tally, counted_of}
use Rattle.fw_progress.proofs.CoverLaws.{sent-counts}
use Rattle.fw_progress.proofs.traces.Traces.sent_count.Goals as goal

pub returns-clause-count : goal.returns-clause-count
returns-clause-count c = λ sys h s b l counts t.
    let flow = c.args.flow.now in
    let traces = c.args.self.now in
    let lists = c.requires.traces c.if-self.false in
    let at = c.place.ensures in
    let there : c.place.result < length traces.counted.items = omega (arith, at, lists.counted_each, c.requires.there) in
    let tally : c.index.result.now ≡ counted_of traces c.args.node = read_at traces.counted.items c.args.node c.place.result c.index.result.now no_tally at there c.index.ensures in
    IfOk-weaker c.count.result _ _
    (λ n k. sent-counts flow c.args.node c.args.f.now traces c.index.result.now n c.flow_is_well_formed.ensures tally k sys h s b l counts t)
    c.count.ensures
