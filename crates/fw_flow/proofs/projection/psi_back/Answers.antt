use Rattle.std.proofs.Common.{ap}
use Rattle.std.specs.Prelude.{◌*◌}
use Rattle.fw_flow.proofs.ProjectionLaws.{somes-receiver, nests-leave, moved-ok, below-ok, psi_back-enter, psi_back-feedback, psi_back-leave, psi_back-regroup_ok}
use Rattle.fw_flow.proofs.projection.psi_back.Goals as goal

pub moved-requires : goal.moved-requires
moved-requires c = somes-receiver c.requires.domains c.args.g.now c.requires.front

pub moved-requires-in-Feedback : goal.moved-requires-in-Feedback
moved-requires-in-Feedback c = somes-receiver c.requires.domains c.args.g.now c.requires.front

pub moved-requires-in-Leave : goal.moved-requires-in-Leave
moved-requires-in-Leave c = let d = rw c.in-Leave.is at c.requires.domains in nests-leave d c.args.g.now c.requires.front

pub returns-in-Enter : goal.returns-in-Enter
returns-in-Enter c =
    let d = rw c.in-Enter.is at c.requires.domains in
    rw c.in-Enter.is (moved-ok c.moved.result (psi_back-enter d c.args.g.now c.requires.front) c.moved.ensures)

pub returns-in-Feedback : goal.returns-in-Feedback
returns-in-Feedback c =
    let d = rw c.in-Feedback.is at c.requires.domains in
    rw c.in-Feedback.is (moved-ok c.moved-in-Feedback.result (psi_back-feedback d c.args.g.now c.requires.front) c.moved-in-Feedback.ensures)

pub returns-in-Leave : goal.returns-in-Leave
returns-in-Leave c =
    let d = rw c.in-Leave.is at c.requires.domains in
    rw c.in-Leave.is (moved-ok c.moved-in-Leave.result (psi_back-leave d c.args.g.now c.requires.front) c.moved-in-Leave.ensures)

pub returns-in-Some : goal.returns-in-Some
returns-in-Some c =
    let d = rw c.in-Regroup.is at c.requires.domains in
    let size = rw c.in-Regroup.is at c.requires.group in
    let limit = c.in-Some.limit in
    let n = c.in-Regroup.n in
    rw c.in-Regroup.is
    (below-ok c.below.result (psi_back-regroup_ok d size c.args.g.now limit (c.from.result * n) c.in-Some.ensures (ap (λ m. m * n) c.from.ensures)) c.below.ensures)
