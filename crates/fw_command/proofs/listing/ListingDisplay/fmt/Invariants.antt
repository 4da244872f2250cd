use Rattle.std.specs.Fmt.{HasWritten, IsPlainFormatter}
use Rattle.std.specs.List.{flat_map, range_with_len}
use Rattle.fw_command.specs.Listing.{node_line}
use Rattle.fw_command.proofs.listing.ListingDisplay.fmt.Given as goal

-- the lines of the nodes so far were written
abbrev pub invariant-loop-place : goal.invariant-loop-place
invariant-loop-place g l =
    IsPlainFormatter l.initial.f → HasWritten g.W.Write.write_str_gives l.initial.f
    (flat_map (node_line l.self.flow.now) (range_with_len 0 l.place)) l.f
