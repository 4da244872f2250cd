use Rattle.std.proofs.Common.{◌≡◌, [], ◌∷◌, true, sym, subst}
use Rattle.std.proofs.lemmas.List.Elements.{recursion_from_All}
use Rattle.std.proofs.lemmas.Result.{IfOk-weaker}
use Rattle.std.specs.List.{AllByRecursion}
use Rattle.std.specs.Map.{keys_of}
use Rattle.fw_time.specs.Stamp.{in_domain}
use Rattle.fw_frontier.specs.Front.{frontier_of, IsFrontOf}
use Rattle.fw_progress.proofs.TallyLaws.{lowest-first, until-lowest}
use Rattle.fw_progress.proofs.tally.until.Goals as goal

pub returns-then-begins_epoch : goal.returns-then-begins_epoch
returns-then-begins_epoch c = λ bounds a.
    let first = c.in-Some.first.now in
    let entries = c.args.counts.now.entries in
    let alone = c.from_ref.ensures.value in
    let low = lowest-first entries first _ c.in-Some.ensures.first (recursion_from_All _ _ c.in-Some.ensures.all_from) (c.begins_epoch.ensures.0 c.if-begins_epoch.true) in
    IfOk-weaker c.until.result _ _
    (λ f n. until-lowest bounds (first ∷ []) (keys_of entries) f low a.of_domain (subst (λ xs. IsFrontOf bounds f (frontier_of bounds xs)) alone n))
    (c.until.ensures.names bounds (subst (AllByRecursion (λ s. in_domain bounds s ≡ true)) (sym alone) (low.among bounds a.of_domain)))

pub returns : goal.returns
returns c = λ bounds a.
    let stamps = c.in_ok-stamps.stamps.items in
    let keys = keys_of c.args.counts.now.entries in
    let low = c.in_ok-stamps.ensures in
    IfOk-weaker c.until-2.result _ _
    (λ f n. until-lowest bounds stamps keys f low a.of_domain (subst (λ xs. IsFrontOf bounds f (frontier_of bounds xs)) c.deref.ensures.value n))
    (c.until-2.ensures.names bounds (subst (AllByRecursion (λ s. in_domain bounds s ≡ true)) (sym c.deref.ensures.value) (low.among bounds a.of_domain)))
