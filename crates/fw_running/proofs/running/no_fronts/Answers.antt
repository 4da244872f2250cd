use Rattle.std.proofs.Common.{ℕ, List, [], ◌∷◌, ◌++◌, sym, ◌∙◌, ap, subst, arith}
use Rattle.std.proofs.lemmas.List.FromFn.{map-range_with_len_more}
use Rattle.fw_time.specs.declared.stamp.Bounds.{Bounds}
use Rattle.fw_frontier.specs.Front.{Front, IsFrontOf}
use Rattle.fw_frontier.specs.Frontier.{nothing}
use Rattle.fw_flow.specs.Dataflow.{bounds_of}
use Rattle.fw_model.specs.Machine.{no_stamps}
use Rattle.fw_progress.proofs.StartLaws.{no_stamps_named}
use Rattle.fw_running.proofs.running.no_fronts.Goals as goal

pub loop-place-preserved : goal.loop-place-preserved
loop-place-preserved c =
    let flow = c.args.flow.now in
    let n = c.loop-place.place in
    let f = c.in_ok-empty.field-0 in
    let of_place : ℕ → Front = λ p. no_stamps (bounds_of flow p) in
    let named : IsFrontOf (bounds_of flow n) f nothing = subst (λ (b : Bounds). IsFrontOf b f nothing) (c.domain.ensures ∙ ap (λ p. bounds_of flow p) c.at.ensures) c.in_ok-empty.ensures in
    c.in_ok-push.ensures.items
    ∙ ap (λ (g : Front). c.loop-place.fronts.items ++ g ∷ []) (no_stamps_named (bounds_of flow n) f named)
    ∙ ap (λ (fs : List Front). fs ++ of_place n ∷ []) c.loop-place.invariant
    ∙ sym (map-range_with_len_more of_place 0 n n (omega arith))
