use Rattle.std.proofs.Common.{drop, sym, ap, ◌∙◌}
use Rattle.std.specs.Prelude.{slice_get}
use Rattle.std.specs.BinaryHeap.{heap_items}
use Rattle.fw_edge.proofs.HeapLaws.{heaped-taken}
use Rattle.fw_edge.proofs.pile.Pile.take_first.Goals as goal

pub returns-clause-value : goal.returns-clause-value
returns-clause-value c =
    let e = c.in_ok-message.ensures in
    let taken = heaped-taken c.in_ok-message.field-0 (heap_items c.self.inside.heap) (heap_items c.pop.new.self) e.permutation (e.below_top c.self.invariant) in
    sym (ap (λ ms. slice_get ms 0) (sym c.self.view_is ∙ taken))

pub returns-clause-rest : goal.returns-clause-rest
returns-clause-rest c =
    let e = c.in_ok-message.ensures in
    let taken = heaped-taken c.in_ok-message.field-0 (heap_items c.self.inside.heap) (heap_items c.pop.new.self) e.permutation (e.below_top c.self.invariant) in
    sym (ap (drop 1) (sym c.self.view_is ∙ taken))
