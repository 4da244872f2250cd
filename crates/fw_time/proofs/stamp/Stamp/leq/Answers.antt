use Rattle.std.proofs.Common.{◌≢◌, length, ◌∙◌, sym, arith}
use Rattle.fw_time.proofs.StampLaws.{leq-unequal}
use Rattle.fw_time.proofs.Padded.{opened, leq_first, leq_places}
use Rattle.fw_time.proofs.stamp.Stamp.leq.Goals as goal

pub returns-then-self-other : goal.returns-then-self-other
returns-then-self-other c =
    let a = (opened _ _ _ c.self.view_is c.self.invariant).many in
    let b = (opened _ _ _ c.other.view_is c.other.invariant).many in
    let far : length c.args.self.now ≢ length c.args.other.now = omega arith in
    sym (leq-unequal _ _ far)

pub returns-then-coords-others : goal.returns-then-coords-others
returns-then-coords-others c =
    leq_first (opened _ _ _ c.self.view_is c.self.invariant) (opened _ _ _ c.other.view_is c.other.invariant) c.if-self-other.false c.if-coords-others.true

pub returns-else-self-eq1 : goal.returns-else-self-eq1
returns-else-self-eq1 c =
    c.at_most.ensures
    ∙ leq_places (opened _ _ _ c.self.view_is c.self.invariant) (opened _ _ _ c.other.view_is c.other.invariant) c.if-self-other.false
