use Rattle.std.proofs.Common.{◌≡◌, ◌++◌}
use Rattle.std.specs.Fmt.{HasWritten, IsPlainFormatter}
use Rattle.fw_running.specs.EffectText.{recs_text}
use Rattle.fw_running.proofs.shown.SpacedRecsDisplay.fmt.Given as goal

abbrev pub invariant-loop-rec : goal.invariant-loop-rec
invariant-loop-rec g l =
    (IsPlainFormatter l.initial.f → HasWritten g.W.Write.write_str_gives l.initial.f (recs_text l.yielded) l.f)
    × (l.yielded ++ l.rec-iterator ≡ l.self.recs.now.recs)
