use Rattle.std.proofs.Common.{◌≡◌, true, sym, ◌∙◌, subst, ap, List}
use Rattle.std.proofs.lemmas.Result.{IfOk-weaker}
use Rattle.std.specs.List.{AllByRecursion}
use Rattle.fw_time.specs.Stamp.{Stamp, in_domain}
use Rattle.fw_frontier.specs.Front.{Front, frontier_of, IsCanonical}
use Rattle.fw_flow.specs.Dataflow.{bounds_of}
use Rattle.fw_flow.specs.declared.restoring.Restoring.TheVariants.{Batches, Bound, Anything, Checkpoints, Events}
use Rattle.fw_policy.specs.Offering.{IsRange, below_all, unlogged_stamps}
use Rattle.fw_policy.proofs.CodeLaws.{range-named, range-same, listed-in}
use Rattle.fw_policy.proofs.KnownLaws.{in_way, fits_way, way-is}
use Rattle.fw_policy.proofs.WayLaws.{bound-numbers}
use Rattle.fw_policy.proofs.offering.offered.Goals as goal

pub returns-in-Batches : goal.returns-in-Batches
returns-in-Batches c = λ k.
    let flow = c.args.flow.now in
    let p = c.args.node in
    IfOk-weaker c.of_batches.result _ _
    (λ o a. in_way flow c.args.entries.now p c.args.known.now o c.restoring.result Batches c.restoring.ensures c.in-Batches.is a)
    (c.of_batches.ensures (fits_way flow p c.args.known.now.border c.restoring.result Batches c.restoring.ensures c.in-Batches.is k.border))

pub returns-in-Bound : goal.returns-in-Bound
returns-in-Bound c = λ k.
    let flow = c.args.flow.now in
    let p = c.args.node in
    IfOk-weaker c.of_bound.result _ _
    (λ o a. in_way flow c.args.entries.now p c.args.known.now o c.restoring.result Bound c.restoring.ensures c.in-Bound.is a)
    (c.of_bound.ensures (bounds_of flow p) (bound-numbers flow p (way-is flow p c.restoring.result Bound c.restoring.ensures c.in-Bound.is)) k.settled
    (fits_way flow p c.args.known.now.border c.restoring.result Bound c.restoring.ensures c.in-Bound.is k.border))

pub returns-in_ok-copy-in-Anything : goal.returns-in_ok-copy-in-Anything
returns-in_ok-copy-in-Anything c = λ k.
    let flow = c.args.flow.now in
    let p = c.args.node in
    let b = bounds_of flow p in
    IfOk-weaker c.range.result _ _
    (λ o a. in_way flow c.args.entries.now p c.args.known.now o c.restoring.result Anything c.restoring.ensures c.in-Anything.is
    (range-same b c.args.known.now.low c.in_ok-copy-in-Anything.field-0 c.args.known.now.settled o c.in_ok-copy-in-Anything.ensures a))
    (c.range.ensures b (subst (λ (f : Front). IsCanonical b f) (sym c.in_ok-copy-in-Anything.ensures) k.settled))

pub returns-in_ok-records-in-Checkpoints : goal.returns-in_ok-records-in-Checkpoints
returns-in_ok-records-in-Checkpoints c = λ k.
    let flow = c.args.flow.now in
    let p = c.args.node in
    in_way flow c.args.entries.now p c.args.known.now _ c.restoring.result Checkpoints c.restoring.ensures c.in-Checkpoints.is
    (listed-in (bounds_of flow p) c.domain.result c.args.known.now.low p c.args.entries.now _ _ c.domain.ensures c.of.ensures c.in_ok-records-in-Checkpoints.ensures)

pub returns-in_ok-cut_below-in-Events : goal.returns-in_ok-cut_below-in-Events
returns-in_ok-cut_below-in-Events c = λ k.
    let flow = c.args.flow.now in
    let p = c.args.node in
    let b = bounds_of flow p in
    let g = frontier_of b c.args.known.now.settled in
    let way = way-is flow p c.restoring.result Events c.restoring.ensures c.in-Events.is in
    let stamps = c.deref.ensures.value ∙ c.in_ok-stamps-in-Events.ensures ∙ ap (unlogged_stamps p c.args.entries.now) c.as_slice.ensures in
    let named = c.in_ok-cut_below-in-Events.ensures b k.settled
    (subst (λ (ss : List Stamp). AllByRecursion (λ t. in_domain b t ≡ true) ss) (sym stamps) (k.unlogged way)) in
    IfOk-weaker c.range-in-Events.result _ _
    (λ o a. in_way flow c.args.entries.now p c.args.known.now o c.restoring.result Events c.restoring.ensures c.in-Events.is
    (subst (λ (ss : List Stamp). IsRange b c.args.known.now.low (below_all ss g) o) stamps
    (range-named b c.args.known.now.low c.in_ok-cut_below-in-Events.field-0 _ o named a)))
    (c.range-in-Events.ensures b named.canonical)
