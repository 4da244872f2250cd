use Rattle.std.proofs.Common.{◌≡◌, ◌++◌, drop, map}
use Rattle.fw_flow.specs.WholeBags.{timed_batches}
use Rattle.fw_denote.proofs.numbered.batched.Given as goal

abbrev pub invariant-loop-epoch : goal.invariant-loop-epoch
invariant-loop-epoch l = l.sent.items ++ timed_batches l.epoch (map (λ b. b.recs) (drop l.epoch l.batches)) ≡ timed_batches 0 (map (λ b. b.recs) l.batches)
