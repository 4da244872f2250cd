use Rattle.std.proofs.Common.{◌≡◌, [], map, take}
use Rattle.std.specs.List.{flat_map}
use Rattle.std.specs.Prelude.{slice_index_or, option_copied}
use Rattle.fw_progress.specs.StampData.{message_at, taken}
use Rattle.fw_progress.proofs.stamps.all_delivered.Given as goal

abbrev pub invariant-loop-edge : goal.invariant-loop-edge
invariant-loop-edge l = l.messages.items ≡ flat_map (λ d. map (message_at d) (taken (option_copied l.f) (slice_index_or l.lists d []))) (take l.edge-index l.edges)
