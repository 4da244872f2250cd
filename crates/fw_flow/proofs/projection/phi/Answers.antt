use Rattle.std.proofs.Common.{ap}
use Rattle.std.specs.Prelude.{◌/◌}
use Rattle.fw_flow.proofs.ProjectionLaws.{somes-sender, nests-enter, moved-ok, below-ok, phi-enter, phi-feedback, phi-leave, phi-sequence_ok, phi-regroup_ok}
use Rattle.fw_flow.proofs.projection.phi.Goals as goal

pub moved-requires : goal.moved-requires
moved-requires c = let d = rw c.in-Enter.is at c.requires.domains in nests-enter d c.args.f.now c.requires.front

pub moved-requires-in-Feedback : goal.moved-requires-in-Feedback
moved-requires-in-Feedback c = somes-sender c.requires.domains c.args.f.now c.requires.front

pub moved-requires-in-Leave : goal.moved-requires-in-Leave
moved-requires-in-Leave c = somes-sender c.requires.domains c.args.f.now c.requires.front

pub returns-in-Enter : goal.returns-in-Enter
returns-in-Enter c =
    let d = rw c.in-Enter.is at c.requires.domains in
    rw c.in-Enter.is (moved-ok c.moved.result (phi-enter d c.args.f.now c.requires.front) c.moved.ensures)

pub returns-in-Feedback : goal.returns-in-Feedback
returns-in-Feedback c =
    let d = rw c.in-Feedback.is at c.requires.domains in
    rw c.in-Feedback.is (moved-ok c.moved-in-Feedback.result (phi-feedback d c.args.f.now c.requires.front) (rw c.counter.ensures at c.moved-in-Feedback.ensures))

pub returns-in-Leave : goal.returns-in-Leave
returns-in-Leave c =
    let d = rw c.in-Leave.is at c.requires.domains in
    rw c.in-Leave.is (moved-ok c.moved-in-Leave.result (phi-leave d c.args.f.now c.requires.front) c.moved-in-Leave.ensures)

pub returns-in-Some-limit : goal.returns-in-Some-limit
returns-in-Some-limit c =
    let d = rw c.in-Regroup.is at c.requires.domains in
    let size = rw c.in-Regroup.is at c.requires.group in
    let n = c.in-Regroup.n in
    rw c.in-Regroup.is
    (below-ok c.below-in-Some-limit.result
    (phi-regroup_ok d size c.args.f.now c.requires.front c.in-Some-limit.limit (c.from.result / n) c.in-Some-limit.ensures (ap (λ m. m / n) c.from.ensures)) c.below-in-Some-limit.ensures)

pub returns-in-Some : goal.returns-in-Some
returns-in-Some c =
    let d = rw c.in-Sequence.is at c.requires.domains in
    rw c.in-Sequence.is
    (below-ok c.below.result
    (phi-sequence_ok d c.args.f.now c.requires.front c.in-Some.limit c.count_below.result c.args.sent.now c.in-Some.ensures c.count_below.ensures) c.below.ensures)
