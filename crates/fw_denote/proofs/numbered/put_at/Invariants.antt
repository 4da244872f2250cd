use Rattle.std.proofs.Common.{◌≡◌, ◌++◌}
use Rattle.fw_flow.specs.WholeBags.{timed_recs}
use Rattle.fw_denote.proofs.numbered.put_at.Given as goal

abbrev pub invariant-loop-rec : goal.invariant-loop-rec
invariant-loop-rec l = l.sent.items ++ timed_recs l.at l.rec-iterator ≡ l.initial.sent.items ++ timed_recs l.at l.bag.recs
