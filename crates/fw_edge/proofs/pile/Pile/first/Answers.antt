use Rattle.std.proofs.Common.{◌<◌, rules, sym, ap, ◌∙◌}
use Rattle.std.specs.Prelude.{slice_get}
use Rattle.std.specs.BinaryHeap.{heap_items}
use Rattle.fw_edge.proofs.HeapLaws.{heaped-first}
use Rattle.fw_edge.proofs.pile.Pile.first.Goals as goal

pub returns : goal.returns
returns c =
    let some : 0 < c.self.inside.heap.data.len = search rules in
    sym (heaped-first c.in_ok-first.first.now (heap_items c.self.inside.heap) c.self.inside.heap.data.len c.self.inside.heap.data.ok.0 some c.in_ok-first.ensures.lookup
    (c.in_ok-first.ensures.greatest c.self.invariant))
    ∙ ap (λ ms. slice_get ms 0) c.self.view_is
