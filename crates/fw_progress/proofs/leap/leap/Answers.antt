use Rattle.std.proofs.Common.{◌≡◌, ◌↔◌, Option, Vec, Global, length, sym, subst}
use Rattle.std.specs.Prelude.{IsTrue, IfSome, IfNone}
use Rattle.std.proofs.lemmas.Result.{IfOk-weaker}
use Rattle.fw_frontier.specs.Front.{Front}
use Rattle.fw_progress.specs.Leap.{IsClimbing, CanLeap, AreAbove, AreLowered, HaveReached, AreProposed, AreNoneProposed}
use Rattle.fw_progress.proofs.LeapLaws.{have_leapt, does_not_climb, none_proposed, may_not_leap}
use Rattle.fw_progress.proofs.leap.leap.Goals as goal

pub returns-then-not-branch : goal.returns-then-not-branch
returns-then-not-branch c =
    let flow = c.args.flow.now in
    let counts = c.args.counts.now in
    let p = c.args.node in
    let fronts = c.args.fronts.now.items in
    let climbs = subst (λ gs. IsTrue c.in_ok-is_climbing.field-0 ↔ IsClimbing flow counts fronts gs p) c.deref-2.ensures.value
    (subst (λ xs. IsTrue c.in_ok-is_climbing.field-0 ↔ IsClimbing flow counts xs c.deref-2.result.now p) c.deref.ensures.value c.in_ok-is_climbing.ensures) in
    does_not_climb flow counts p fronts c.args.work.now c.args.growths.now.items c.in_ok-is_climbing.field-0 climbs c.if-not-branch.true

pub returns-in_default : goal.returns-in_default
returns-in_default c =
    let flow = c.args.flow.now in
    let counts = c.args.counts.now in
    let fronts = c.args.fronts.now.items in
    let marks = c.in_ok-marks.marks.items in
    let none = subst (λ ms. AreNoneProposed flow counts ms fronts) c.deref-4.ensures.value
    (subst (λ xs. AreNoneProposed flow counts c.deref-4.result.now xs) c.deref-3.ensures.value
    (subst (λ (found : Option (Vec Front Global)). IfNone found (AreNoneProposed flow counts c.deref-4.result.now c.deref-3.result.now)) c.in_default.is c.in_ok-next.ensures.none)) in
    none_proposed flow counts c.args.node fronts c.args.work.now c.args.growths.now.items marks c.in_ok-marks.ensures none

pub can_leap-requires-clause-low : goal.can_leap-requires-clause-low
can_leap-requires-clause-low c =
    let flow = c.args.flow.now in
    let counts = c.args.counts.now in
    let fronts = c.args.fronts.now.items in
    let next = c.in-Some.next.items in
    let marks = c.in_ok-marks.marks.items in
    let proposed = subst (λ ms. AreProposed flow counts ms fronts next) c.deref-4.ensures.value
    (subst (λ xs. AreProposed flow counts c.deref-4.result.now xs next) c.deref-3.ensures.value
    (subst (λ (found : Option (Vec Front Global)). IfSome found (λ fs. AreProposed flow counts c.deref-4.result.now c.deref-3.result.now fs.items)) c.in-Some.is c.in_ok-next.ensures.proposed)) in
    subst (λ ms. AreLowered flow counts ms c.deref-6.result.now) (sym c.deref-7.ensures.value) (subst (AreLowered flow counts marks) (sym c.deref-6.ensures.value) proposed.low.marked)

pub returns-then-not-branch-2 : goal.returns-then-not-branch-2
returns-then-not-branch-2 c =
    let flow = c.args.flow.now in
    let counts = c.args.counts.now in
    let p = c.args.node in
    let fronts = c.args.fronts.now.items in
    let next = c.in-Some.next.items in
    let marks = c.in_ok-marks.marks.items in
    let proposed = subst (λ ms. AreProposed flow counts ms fronts next) c.deref-4.ensures.value
    (subst (λ xs. AreProposed flow counts c.deref-4.result.now xs next) c.deref-3.ensures.value
    (subst (λ (found : Option (Vec Front Global)). IfSome found (λ fs. AreProposed flow counts c.deref-4.result.now c.deref-3.result.now fs.items)) c.in-Some.is c.in_ok-next.ensures.proposed)) in
    let can = subst (λ ys. IsTrue c.in_ok-can_leap.field-0 ↔ CanLeap flow counts fronts ys) c.deref-6.ensures.value
    (subst (λ xs. IsTrue c.in_ok-can_leap.field-0 ↔ CanLeap flow counts xs c.deref-6.result.now) c.deref-5.ensures.value c.in_ok-can_leap.ensures) in
    may_not_leap flow counts p fronts c.args.work.now c.args.growths.now.items marks next c.in_ok-can_leap.field-0 c.in_ok-marks.ensures proposed can c.if-not-branch-2.true

pub reach-requires-clause-above : goal.reach-requires-clause-above
reach-requires-clause-above c =
    let flow = c.args.flow.now in
    let counts = c.args.counts.now in
    let fronts = c.args.fronts.now.items in
    let can = subst (λ ys. IsTrue c.in_ok-can_leap.field-0 ↔ CanLeap flow counts fronts ys) c.deref-6.ensures.value
    (subst (λ xs. IsTrue c.in_ok-can_leap.field-0 ↔ CanLeap flow counts xs c.deref-6.result.now) c.deref-5.ensures.value c.in_ok-can_leap.ensures) in
    subst (λ ys. AreAbove flow fronts ys) (sym c.deref-8.ensures.value) (λ q l. (can.0 c.if-not-branch-2.false q l).above)

pub returns : goal.returns
returns c =
    let flow = c.args.flow.now in
    let counts = c.args.counts.now in
    let p = c.args.node in
    let fronts = c.args.fronts.now.items in
    let next = c.in-Some.next.items in
    let marks = c.in_ok-marks.marks.items in
    let climbs = subst (λ gs. IsTrue c.in_ok-is_climbing.field-0 ↔ IsClimbing flow counts fronts gs p) c.deref-2.ensures.value
    (subst (λ xs. IsTrue c.in_ok-is_climbing.field-0 ↔ IsClimbing flow counts xs c.deref-2.result.now p) c.deref.ensures.value c.in_ok-is_climbing.ensures) in
    let proposed = subst (λ ms. AreProposed flow counts ms fronts next) c.deref-4.ensures.value
    (subst (λ xs. AreProposed flow counts c.deref-4.result.now xs next) c.deref-3.ensures.value
    (subst (λ (found : Option (Vec Front Global)). IfSome found (λ fs. AreProposed flow counts c.deref-4.result.now c.deref-3.result.now fs.items)) c.in-Some.is c.in_ok-next.ensures.proposed)) in
    let can = subst (λ ys. IsTrue c.in_ok-can_leap.field-0 ↔ CanLeap flow counts fronts ys) c.deref-6.ensures.value
    (subst (λ xs. IsTrue c.in_ok-can_leap.field-0 ↔ CanLeap flow counts xs c.deref-6.result.now) c.deref-5.ensures.value c.in_ok-can_leap.ensures) in
    IfOk-weaker c.reach.result _ _
    (λ u r. have_leapt flow counts p fronts next c.reach.new.fronts.items c.args.work.now c.reach.new.work c.args.growths.now.items c.reach.new.growths.items marks
    c.requires.one_each (subst (λ (found : Option (Vec Front Global)). IfSome found (λ fs. length fs.items ≡ length flow.nodes)) c.in-Some.is c.in_ok-next.ensures.one_each)
    (climbs.0 c.if-not-branch.false) c.in_ok-marks.ensures proposed (can.0 c.if-not-branch-2.false)
    (subst (λ ys. HaveReached flow counts fronts ys c.reach.new.fronts.items c.args.work.now c.reach.new.work c.args.growths.now.items c.reach.new.growths.items) c.deref-8.ensures.value r))
    c.reach.ensures
