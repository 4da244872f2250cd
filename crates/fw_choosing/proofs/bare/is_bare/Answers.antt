use Rattle.fw_flow.specs.Dataflow.{bounds_of}
use Rattle.fw_choosing.proofs.BareLaws.{batches-bare, batches-some, between-bare, between-some, exhausted-some, listed-bare, listed-some, stays-some}
use Rattle.fw_choosing.proofs.bare.is_bare.Goals as goal

pub returns-then-can_stay-clause-some : goal.returns-then-can_stay-clause-some
returns-then-can_stay-clause-some c = λ e. stays-some c.args.flow.now c.args.offers.now c.args.node c.can_stay.result c.can_stay.ensures c.if-can_stay.true

pub returns-in-Listed-clause-bare : goal.returns-in-Listed-clause-bare
returns-in-Listed-clause-bare c = λ e.
    listed-bare c.args.flow.now c.args.offers.now c.args.node c.can_stay.result c.is_empty.result c.offered_by.result.now c.in-Listed.records c.as_slice.result.now
    c.can_stay.ensures c.if-can_stay.false c.offered_by.ensures c.in-Listed.is c.as_slice.ensures c.is_empty.ensures e

pub returns-in-Listed-clause-some : goal.returns-in-Listed-clause-some
returns-in-Listed-clause-some c = λ e.
    listed-some c.args.flow.now c.args.offers.now c.args.node c.is_empty.result c.offered_by.result.now c.in-Listed.records c.as_slice.result.now
    c.requires.offers c.requires.there c.offered_by.ensures c.in-Listed.is c.as_slice.ensures c.is_empty.ensures e

pub returns-in-Between-clause-bare : goal.returns-in-Between-clause-bare
returns-in-Between-clause-bare c = λ e.
    between-bare c.args.flow.now c.args.offers.now c.args.node c.can_stay.result c.subset.result c.offered_by.result.now c.in-Between.least c.in-Between.greatest c.requires.offers c.requires.there
    c.can_stay.ensures c.if-can_stay.false c.offered_by.ensures c.in-Between.is (c.subset.ensures.domain (bounds_of c.args.flow.now c.args.node)) e

pub returns-in-Between-clause-some : goal.returns-in-Between-clause-some
returns-in-Between-clause-some c = λ e.
    between-some c.args.flow.now c.args.offers.now c.args.node c.subset.result c.offered_by.result.now c.in-Between.least c.in-Between.greatest c.requires.offers c.requires.there
    c.offered_by.ensures c.in-Between.is (c.subset.ensures.domain (bounds_of c.args.flow.now c.args.node)) e

pub returns-then-exhausted-clause-some : goal.returns-then-exhausted-clause-some
returns-then-exhausted-clause-some c = λ e.
    exhausted-some c.args.flow.now c.args.offers.now c.args.node c.in-Batches.exhausted c.offered_by.result.now c.in-Batches.least c.in-Batches.greatest c.offered_by.ensures c.in-Batches.is c.if-exhausted.true

pub returns-else-exhausted-clause-bare : goal.returns-else-exhausted-clause-bare
returns-else-exhausted-clause-bare c = λ e.
    batches-bare c.args.flow.now c.args.offers.now c.args.node c.can_stay.result c.subset-in-Batches.result c.in-Batches.exhausted c.offered_by.result.now c.in-Batches.least c.in-Batches.greatest c.requires.offers c.requires.there
    c.can_stay.ensures c.if-can_stay.false c.offered_by.ensures c.in-Batches.is c.if-exhausted.false (c.subset-in-Batches.ensures.domain (bounds_of c.args.flow.now c.args.node)) e

pub returns-else-exhausted-clause-some : goal.returns-else-exhausted-clause-some
returns-else-exhausted-clause-some c = λ e.
    batches-some c.args.flow.now c.args.offers.now c.args.node c.subset-in-Batches.result c.in-Batches.exhausted c.offered_by.result.now c.in-Batches.least c.in-Batches.greatest c.requires.offers c.requires.there
    c.offered_by.ensures c.in-Batches.is (c.subset-in-Batches.ensures.domain (bounds_of c.args.flow.now c.args.node)) e
