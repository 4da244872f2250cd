use Rattle.std.proofs.Common.{◌≡◌, [], take}
use Rattle.std.specs.List.{flat_map}
use Rattle.std.specs.Prelude.{slice_index_or, option_copied}
use Rattle.fw_progress.specs.StampData.{counted_at_stamps, taken}
use Rattle.fw_progress.proofs.stamps.all_sent.Given as goal

abbrev pub invariant-loop-edge : goal.invariant-loop-edge
invariant-loop-edge l = l.messages.items ≡ flat_map (λ e. counted_at_stamps l.flow l.node (taken (option_copied l.f) (slice_index_or l.lists e [])) e) (take l.edge-index l.edges)
