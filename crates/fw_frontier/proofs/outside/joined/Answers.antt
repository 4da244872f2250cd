use Rattle.std.proofs.Common.{◌≡◌, true, ◌≤◌, length, [], Result, Ok, Err, arith}
use Rattle.std.specs.Prelude.{IfOk}
use Rattle.std.proofs.lemmas.Result.{IfOk-weaker}
use Rattle.std.specs.List.Sorted.{IsStrictlySortedBy}
use Rattle.fw_time.specs.Stamp.{leq, stamp_cmp, up_to}
use Rattle.fw_time.proofs.StampLaws.{leq-length}
use Rattle.fw_frontier.specs.Front.{frontier_of, IsFrontOf}
use Rattle.fw_frontier.specs.Frontier.{join}
use Rattle.fw_frontier.specs.Outside.{front_without_all_near}
use Rattle.fw_frontier.specs.declared.planes.TheConstants.{PLANES}
use Rattle.fw_frontier.specs.Planes.{planes_lubs, HaveSame}
use Rattle.fw_frontier.proofs.CanonicalLaws.{in_domain-at}
use Rattle.fw_frontier.proofs.PlaneLaws.{names-planes}
use Rattle.fw_frontier.proofs.JoinLaws.{names-join_near}
use Rattle.fw_frontier.proofs.outside.joined.Goals as goal

pub returns-then-len-le-FEW : goal.returns-then-len-le-FEW
returns-then-len-le-FEW c = λ g h k.
    let mine = c.args.mine.now in
    let others = c.args.others.now in
    let d : leq c.first-item.result g ≡ true = in_domain-at (up_to g) mine 0 c.first-item.result (omega (arith, c.in-len1-up.len_at_least)) c.first-item.is h in
    let few : length g ≤ 3 = omega (arith, leq-length c.first-item.result g d, c.len.ensures.value, c.if-len-le-FEW.true) in
    IfOk-weaker c.joined_by_near.result
    (λ both. both.items ≡ front_without_all_near others mine (front_without_all_near mine others []))
    (λ both. IsFrontOf (up_to g) both.items (join (frontier_of (up_to g) mine) (frontier_of (up_to g) others)))
    (λ both e. rw e (names-join_near g mine others few h k))
    c.joined_by_near.ensures

IfOk-both : {T E : Type 0} (r : Result T E) (P Q R : T → Type 0) → ((x : T) → P x → Q x → R x) → IfOk r P → IfOk r Q → IfOk r R
IfOk-both (Ok x) P Q R f h k = f x h k
IfOk-both (Err e) P Q R f h k = h

pub returns : goal.returns
returns c = λ g h k.
    let mine = c.args.mine.now in
    let others = c.args.others.now in
    let d : leq c.first-item.result g ≡ true = in_domain-at (up_to g) mine 0 c.first-item.result (omega (arith, c.in-len1-up.len_at_least)) c.first-item.is h in
    let four : length g ≡ 4 = omega (arith, leq-length c.first-item.result g d, c.len.ensures.value, c.len.ensures.few, c.if-len-le-FEW.false) in
    IfOk-both c.least_bounds.result
    (λ bounds. IsStrictlySortedBy stamp_cmp bounds.items)
    (λ bounds. HaveSame (planes_lubs PLANES mine others) bounds.items)
    (λ bounds. IsFrontOf (up_to g) bounds.items (join (frontier_of (up_to g) mine) (frontier_of (up_to g) others)))
    (λ bounds sorted same. names-planes g mine others bounds.items four h k sorted same)
    c.least_bounds.ensures.ascending c.least_bounds.ensures.same
