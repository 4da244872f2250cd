use Rattle.std.proofs.Common.{◌≡◌, ◌++◌, map}
use Rattle.std.specs.Fmt.{HasWritten, IsPlainFormatter}
use Rattle.fw_bag.specs.RecText.{rec_text}
use Rattle.fw_lines.specs.Written.{spaced}
use Rattle.fw_flow_text.proofs.batches.SpacedRecsDisplay.fmt.Given as goal

abbrev pub invariant-loop-rec : goal.invariant-loop-rec
invariant-loop-rec g l =
    (IsPlainFormatter l.initial.f → HasWritten g.W.Write.write_str_gives l.initial.f (spaced (map rec_text l.yielded)) l.f)
    × (l.yielded ++ l.rec-iterator ≡ l.self.recs.now.recs)
