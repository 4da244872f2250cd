use Rattle.std.proofs.Common.{◌≡◌, ◌++◌, ◌∷◌, [], sym, ap, subst, ◌∙◌}
use Rattle.std.proofs.lemmas.Map.Iter.{rest_more}
use Rattle.std.specs.Map.Iter.{deref}
use Rattle.std.specs.Map.{keys_of}
use Rattle.std.specs.List.Sorted.{IsStrictlySortedBy}
use Rattle.fw_time.specs.Stamp.{stamp_cmp}
use Rattle.fw_progress.specs.Tally.{AreLowest}
use Rattle.fw_progress.proofs.TallyLaws.{lowest-begun, sorted-after}
use Rattle.fw_progress.proofs.tally.lowest.Goals as goal

pub returns-then-begins_epoch : goal.returns-then-begins_epoch
returns-then-begins_epoch c =
    let old = c.loop-stamp.stamps.items in
    let s = c.in-Some.stamp.now in
    let rest = c.next.new.self in
    let keys = keys_of c.args.counts.now.entries in
    let more = rest_more deref c.loop-stamp.stamp-iterator rest c.next.result c.in-Some.stamp c.in-Some.is c.next.ensures.steps in
    let all : keys ≡ old ++ s ∷ rest = sym c.loop-stamp.invariant ∙ ap (λ r. old ++ r) more in
    subst (λ stamps. AreLowest stamps keys) (sym (c.in_ok-push.ensures.items ∙ ap (λ x. old ++ x ∷ []) c.copy.ensures))
    (lowest-begun old s rest keys all (sorted-after old s rest (subst (IsStrictlySortedBy stamp_cmp) all c.keys-stamp-items.ensures.ordered)) (c.begins_epoch.ensures.0 c.if-begins_epoch.true))
