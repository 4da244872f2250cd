use Rattle.fw_hold.specs.Going.{moves_left}
use Rattle.fw_hold.specs.Starting.{held_texts_of}
use Rattle.fw_hold.proofs.RunLaws.{IsGoing}
use Rattle.fw_hold.proofs.run.hold.Given as goal

abbrev pub decreases-loop-item : goal.decreases-loop-item
decreases-loop-item g l = moves_left l.plan.items.now l.place

abbrev pub invariant-loop-item : goal.invariant-loop-item
invariant-loop-item g l =
    IsGoing g.K.Store.view g.O.Sink.view g.E.HeldEngine.stand g.E.HeldEngine.keep_of g.E.HeldEngine.flow_of (held_texts_of l.fn.flow l.fn.batches l.fn.plan) l.fn.store l.fn.out l.engine l.place l.store l.out
