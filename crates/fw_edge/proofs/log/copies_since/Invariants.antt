use Rattle.std.proofs.Common.{◌≡◌, ◌&&◌, not, filter, take}
use Rattle.fw_frontier.specs.Front.{inside}
use Rattle.fw_flow.specs.Projection.{all_inside}
use Rattle.fw_edge.proofs.log.copies_since.Given as goal

abbrev pub invariant-loop-message : goal.invariant-loop-message
invariant-loop-message l =
    l.copies.items ≡ filter (λ m. not (all_inside (inside l.earlier) m.causes) && all_inside (inside l.f) m.causes) (take l.message-index l.messages)
