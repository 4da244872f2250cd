use Rattle.std.proofs.Common.{◌≡◌, ◌≤◌, ℕ, [], ◌∷◌}
use Rattle.std.specs.Fmt.{HasWritten, IsPlainFormatter}
use Rattle.std.specs.List.{flat_map, range_with_len}
use Rattle.std.specs.List.Sorted.{IsNonDecreasingBy}
use Rattle.fw_time.specs.Stamp.{same}
use Rattle.fw_flow.specs.WholeBags.{Timed, timed_where}
use Rattle.fw_command.specs.DenotationText.{epoch_line, after_epoch}
use Rattle.fw_command.proofs.denoting.EpochLinesDisplay.fmt.Given as goal

-- the lines so far were written, and the recs of each epoch that is left stand in the rest
abbrev pub invariant-loop-epoch : goal.invariant-loop-epoch
invariant-loop-epoch g l =
    (IsPlainFormatter l.initial.f → HasWritten g.W.Write.write_str_gives l.initial.f (flat_map (epoch_line l.self.name.now l.self.bag.now) (range_with_len 0 l.epoch)) l.f)
    × IsNonDecreasingBy (λ (r : Timed). after_epoch r.at) l.rest
    × ((x : ℕ) → l.epoch ≤ x → timed_where (same (x ∷ [])) l.rest ≡ timed_where (same (x ∷ [])) l.self.bag.now)
