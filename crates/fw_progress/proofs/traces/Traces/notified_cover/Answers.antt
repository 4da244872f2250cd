use Rattle.std.proofs.Common.{◌≡◌, ◌<◌, [], length, arith}
use Rattle.fw_lemmas.proofs.Lists.{read_at}
use Rattle.fw_progress.specs.Trace.{stamps_notified}
use Rattle.fw_progress.proofs.CoverLaws.{notified-covers}
use Rattle.fw_progress.proofs.traces.Traces.notified_cover.Goals as goal

pub returns-clause-cover : goal.returns-clause-cover
returns-clause-cover c =
    let flow = c.args.flow.now in
    let traces = c.args.self.now in
    let lists = c.requires.traces c.if-self.false in
    let at = c.place.ensures in
    let there : c.place.result < length traces.notified.items = omega (arith, at, lists.notified_each, c.requires.there) in
    let kept : c.index.result.now ≡ stamps_notified traces c.args.node = read_at traces.notified.items c.args.node c.place.result c.index.result.now [] at there c.index.ensures in
    notified-covers flow c.args.node c.args.f.now traces c.index.result.now c.domain.result c.cover.result c.flow_is_well_formed.ensures kept c.domain.ensures c.cover.ensures
