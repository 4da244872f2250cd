use Rattle.std.proofs.Common.{filter, rules, ap, ◌∙◌}
use Rattle.std.specs.BinaryHeap.{heap_items}
use Rattle.std.specs.declared.cmp.Reverse.{Reverse}
use Rattle.std.proofs.lemmas.Fn.{filter_same}
use Rattle.fw_frontier.specs.Front.{inside}
use Rattle.fw_flow.specs.declared.event.Message.{Message}
use Rattle.fw_flow.specs.Projection.{all_inside}
use Rattle.fw_edge.proofs.HeapLaws.{heaped-kept}
use Rattle.fw_edge.proofs.pile.Pile.keep_causes.Goals as goal

pub returns : goal.returns
returns c =
    let p = λ (m : Message). all_inside (inside c.args.f.now) m.causes in
    let filtered = c.retain.ensures.filtered in
    let left = filter_same _ (λ (item : Reverse Message). p item.0) _ (λ x b g k. search rules) _ _ filtered.1 in
    heaped-kept p (heap_items c.self.inside.heap) filtered.0 (heap_items c.retain.new.self) left filtered.2 ∙ ap (filter p) c.self.view_is
