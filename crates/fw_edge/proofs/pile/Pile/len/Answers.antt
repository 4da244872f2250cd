use Rattle.std.proofs.Common.{◌≡◌, List, length, map, sym, ap, subst, ◌∙◌}
use Rattle.std.specs.BinaryHeap.{heap_items}
use Rattle.std.specs.declared.cmp.Reverse.{Reverse}
use Rattle.fw_flow.specs.declared.event.Message.{Message}
use Rattle.fw_model.specs.SortedMessages.{sorted_messages}
use Rattle.fw_model.proofs.SortedLaws.{sorted_messages-twice}
use Rattle.fw_edge.proofs.HeapLaws.{length-heaped}
use Rattle.fw_edge.proofs.pile.Pile.len.Goals as goal

pub returns-clause-len : goal.returns-clause-len
returns-clause-len c =
    c.len.ensures ∙ c.self.inside.heap.data.ok.0 ∙ sym (length-heaped (heap_items c.self.inside.heap)) ∙ ap length c.self.view_is

pub returns-clause-ascending : goal.returns-clause-ascending
returns-clause-ascending c =
    subst (λ (xs : List Message). sorted_messages xs ≡ xs) c.self.view_is
    (sorted_messages-twice (map (λ (item : Reverse Message). item.0) (heap_items c.self.inside.heap)))
