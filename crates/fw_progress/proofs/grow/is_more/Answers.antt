use Rattle.std.proofs.Common.{arith}
use Rattle.fw_progress.proofs.GrowLaws.{more_read, not_within_read, within_read}
use Rattle.fw_progress.proofs.grow.is_more.Goals as goal

pub returns-then-not-subset-clause-more : goal.returns-then-not-subset-clause-more
returns-then-not-subset-clause-more c = λ k.
    let at = c.place.ensures in
    more_read c.args.flow.now c.args.fronts.now c.args.node c.place.result c.args.front.now c.index-fronts-place.result c.subset-then-not-subset.result c.subset.result
    c.requires.canonical c.requires.front at (omega (arith, c.requires.there, c.requires.one_each, at)) c.index-fronts-place.is
    c.subset-then-not-subset.ensures.domain k c.subset.ensures.domain c.if-not-subset.true

pub returns-then-not-subset-clause-same : goal.returns-then-not-subset-clause-same
returns-then-not-subset-clause-same c = λ k w t j.
    let at = c.place.ensures in
    absurd (not_within_read c.args.flow.now c.args.fronts.now c.args.node c.place.result c.args.front.now c.index-fronts-place.result c.subset-then-not-subset.result
    c.requires.front at (omega (arith, c.requires.there, c.requires.one_each, at)) c.index-fronts-place.is c.subset-then-not-subset.ensures.domain k w)

pub returns-else-not-subset-clause-same : goal.returns-else-not-subset-clause-same
returns-else-not-subset-clause-same c = λ k w.
    let at = c.place.ensures in
    within_read c.args.flow.now c.args.fronts.now c.args.node c.place.result c.args.front.now c.index-fronts-place.result c.subset.result
    c.requires.canonical at (omega (arith, c.requires.there, c.requires.one_each, at)) c.index-fronts-place.is c.subset.ensures.domain c.if-not-subset.false
