use Rattle.std.proofs.Common.{[], arith}
use Rattle.fw_lemmas.proofs.Lists.{read_at}
use Rattle.fw_progress.proofs.LeapLaws.{read_subset, leap_lacks, leap_low, leap_stays, leap_most}
use Rattle.fw_progress.proofs.leap.can_leap_at.Goals as goal

pub returns-then-not-subset : goal.returns-then-not-subset
returns-then-not-subset c =
    let at = c.place-place.ensures in
    let there = c.requires.there in
    leap_lacks c.args.flow.now c.args.counts.now c.args.fronts.now c.args.next.now c.args.node c.subset.result
    (read_subset c.args.flow.now c.args.fronts.now c.args.next.now c.args.node c.place-place.result c.index-fronts-place.result c.index-next-place.result c.subset.result
    at c.requires.next_canonical (omega (arith, there, c.requires.one_each, at)) (omega (arith, there, c.requires.next_each, at)) c.index-fronts-place.is c.index-next-place.is c.subset.ensures.domain)
    c.if-not-subset.true

pub returns-then-is_marked : goal.returns-then-is_marked
returns-then-is_marked c =
    let at = c.place-place.ensures in
    let there = c.requires.there in
    leap_low c.args.flow.now c.args.counts.now c.args.fronts.now c.args.next.now c.args.marks.now c.args.node c.place-place.result c.subset.result c.is_marked.result
    (read_subset c.args.flow.now c.args.fronts.now c.args.next.now c.args.node c.place-place.result c.index-fronts-place.result c.index-next-place.result c.subset.result
    at c.requires.next_canonical (omega (arith, there, c.requires.one_each, at)) (omega (arith, there, c.requires.next_each, at)) c.index-fronts-place.is c.index-next-place.is c.subset.ensures.domain)
    c.if-not-subset.false c.requires.low there c.is_marked.ensures at c.if-is_marked.true

pub returns-then-subset : goal.returns-then-subset
returns-then-subset c =
    let at = c.place-place.ensures in
    let there = c.requires.there in
    leap_stays c.args.flow.now c.args.counts.now c.args.fronts.now c.args.next.now c.args.node c.subset.result c.subset-2.result
    (read_subset c.args.flow.now c.args.fronts.now c.args.next.now c.args.node c.place-place.result c.index-fronts-place.result c.index-next-place.result c.subset.result
    at c.requires.next_canonical (omega (arith, there, c.requires.one_each, at)) (omega (arith, there, c.requires.next_each, at)) c.index-fronts-place.is c.index-next-place.is c.subset.ensures.domain)
    c.if-not-subset.false
    (read_subset c.args.flow.now c.args.next.now c.args.fronts.now c.args.node c.place-place.result c.index-next-place-2.result c.index-fronts-place-2.result c.subset-2.result
    at c.requires.canonical (omega (arith, there, c.requires.next_each, at)) (omega (arith, there, c.requires.one_each, at)) c.index-next-place-2.is c.index-fronts-place-2.is c.subset-2.ensures.domain)
    c.if-subset.true

pub returns : goal.returns
returns c =
    let at = c.place-place.ensures in
    let there = c.requires.there in
    leap_most c.args.flow.now c.args.counts.now c.args.fronts.now c.args.next.now c.args.node c.index-next-place-3.result c.in_ok-most.most c.subset.result c.subset-2.result c.subset-3.result
    (read_subset c.args.flow.now c.args.fronts.now c.args.next.now c.args.node c.place-place.result c.index-fronts-place.result c.index-next-place.result c.subset.result
    at c.requires.next_canonical (omega (arith, there, c.requires.one_each, at)) (omega (arith, there, c.requires.next_each, at)) c.index-fronts-place.is c.index-next-place.is c.subset.ensures.domain)
    c.if-not-subset.false
    (read_subset c.args.flow.now c.args.next.now c.args.fronts.now c.args.node c.place-place.result c.index-next-place-2.result c.index-fronts-place-2.result c.subset-2.result
    at c.requires.canonical (omega (arith, there, c.requires.next_each, at)) (omega (arith, there, c.requires.one_each, at)) c.index-next-place-2.is c.index-fronts-place-2.is c.subset-2.ensures.domain)
    c.if-subset.false
    (read_at c.args.next.now c.args.node c.place-place.result c.index-next-place-3.result [] at (omega (arith, there, c.requires.next_each, at)) c.index-next-place-3.is)
    c.in_ok-most.ensures c.subset-3.ensures.domain
