use Rattle.std.proofs.Common.{set, ap, subst, arith}
use Rattle.fw_frontier.specs.Front.{IsFrontOf}
use Rattle.fw_flow.specs.Dataflow.{bounds_of}
use Rattle.fw_model.specs.Machine.{family_of}
use Rattle.fw_progress.specs.Counts.{target_by}
use Rattle.fw_progress.proofs.LeapLaws.{low_unmarked, low_read}
use Rattle.fw_progress.proofs.ProposedLaws.{one_lowered}
use Rattle.fw_progress.proofs.leap.lower_at.Goals as goal

pub returns-then-subset-clause-low : goal.returns-then-subset-clause-low
returns-then-subset-clause-low c = λ e.
    let flow = c.args.flow.now in
    let counts = c.args.counts.now in
    let p = c.args.node in
    let fronts = c.args.next.now.items in
    let f = c.in_ok-front.front in
    let at = c.place-place.ensures in
    let names = subst (λ xs. IsFrontOf (bounds_of flow p) f (target_by flow counts (family_of flow xs) p)) c.deref.ensures.value c.in_ok-front.ensures in
    low_read flow counts c.args.marks.now fronts p c.place-place.result c.index.result.now f c.subset.result at (omega (arith, c.requires.there, c.requires.one_each, at)) c.index.ensures
    names c.subset.ensures.domain c.if-subset.true

pub returns-then-not-is_marked-clause-low : goal.returns-then-not-is_marked-clause-low
returns-then-not-is_marked-clause-low c = λ e.
    low_unmarked c.args.flow.now c.args.counts.now c.args.marks.now c.args.next.now.items c.args.node c.place-place.result c.is_marked.result c.place-place.ensures c.is_marked.ensures c.if-not-is_marked.true

pub returns-clause-lowered : goal.returns-clause-lowered
returns-clause-lowered c = λ e.
    let flow = c.args.flow.now in
    let counts = c.args.counts.now in
    let p = c.args.node in
    let fronts = c.args.next.now.items in
    let f = c.in_ok-front.front in
    let at = c.place-place.ensures in
    let names = subst (λ xs. IsFrontOf (bounds_of flow p) f (target_by flow counts (family_of flow xs) p)) c.deref.ensures.value c.in_ok-front.ensures in
    one_lowered flow counts c.args.marks.now fronts _ p c.place-place.result c.index.result.now f c.subset.result c.is_marked.result at (omega (arith, c.requires.there, c.requires.one_each, at))
    c.index.ensures names c.subset.ensures.domain c.if-subset.false c.is_marked.ensures c.if-not-is_marked.false (ap (λ k. set fronts k f) at)
