use Rattle.std.proofs.Common.{◌≡◌, true, subst}
use Rattle.std.specs.List.{AllByRecursion}
use Rattle.std.proofs.lemmas.Result.{IfOk-weaker}
use Rattle.fw_lemmas.proofs.Each.{each-weaker}
use Rattle.fw_time.specs.Stamp.{leq, in_domain}
use Rattle.fw_time.specs.declared.stamp.Bounds.{Bounds}
use Rattle.fw_time.proofs.DomainLaws.{domain-leq, plain-up_to}
use Rattle.fw_frontier.specs.Few.{stamps_of_few}
use Rattle.fw_frontier.specs.Front.{Front, frontier_of, IsFrontOf}
use Rattle.fw_frontier.specs.Frontier.{join}
use Rattle.fw_frontier.proofs.NamesLaws.{names-join_sides}
use Rattle.fw_frontier.proofs.few.Few.joined.Goals as goal

all-leq : (b : Bounds) (os : Front) → AllByRecursion (λ o. in_domain b o ≡ true) os → AllByRecursion (λ o. leq o b.greatest ≡ true) os
all-leq b os h = each-weaker (λ o. in_domain b o ≡ true) (λ o. leq o b.greatest ≡ true) os (domain-leq b) h

pub returns-then-not-bounds : goal.returns-then-not-bounds
returns-then-not-bounds c = λ h k.
    let b = c.args.bounds.now in
    let mine = stamps_of_few c.args.self.now in
    let others = stamps_of_few c.args.other.now in
    IfOk-weaker c.bounds_with.result _ _
    (λ few n. subst (λ (a : Bounds). IsFrontOf a (stamps_of_few few) (join (frontier_of a mine) (frontier_of a others))) (plain-up_to b c.if-not-bounds.true) n)
    (c.bounds_with.ensures b.greatest (all-leq b mine h) (all-leq b others k))

pub returns : goal.returns
returns c = λ h k.
    let b = c.args.bounds.now in
    let mine = stamps_of_few c.args.self.now in
    let others = stamps_of_few c.args.other.now in
    let named = rw (c.as_slice.ensures, c.as_slice-2.ensures) at (c.in_ok-outside.ensures b.greatest (rw c.as_slice.ensures (all-leq b mine h)) (rw c.as_slice-2.ensures (all-leq b others k))) in
    rw c.keep_in_domain.ensures (names-join_sides b c.in_ok-outside.outside.items mine others h k named)
