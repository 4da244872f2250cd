use Rattle.std.proofs.Common.{◌≡◌, false}
use Rattle.std.specs.Prelude.{vec_len}
use Rattle.fw_edge.specs.Messages.{ArePutAfter}
use Rattle.fw_edge.proofs.queue.Queue.put_all.Given as goal

abbrev pub decreases-loop-message : goal.decreases-loop-message
decreases-loop-message l = vec_len l.rest

abbrev pub invariant-loop-message : goal.invariant-loop-message
invariant-loop-message l = record {
  partly : ArePutAfter l.rest.items l.initial.rest.items l.initial.self.messages l.self.messages;
  refused : l.self.refused ≡ false;
}
