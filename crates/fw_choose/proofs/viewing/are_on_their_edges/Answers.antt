use Rattle.std.proofs.Common.{◌≡◌, ℕ, ◌==◌, ◌&&◌, ◌||◌, not, true, length, ap, sym, subst, ◌∙◌}
use Rattle.std.proofs.lemmas.List.{take_all}
use Rattle.std.specs.List.{AllByRecursion}
use Rattle.fw_lemmas.proofs.Each.{each-taken}
use Rattle.fw_lemmas.proofs.Filters.{filter-all}
use Rattle.fw_time.specs.Stamp.{in_domain}
use Rattle.fw_time.specs.declared.stamp.Bounds.{Bounds}
use Rattle.fw_flow.specs.declared.choice.Counted.{Counted}
use Rattle.fw_flow.specs.Dataflow.{bounds_of, receiver}
use Rattle.fw_choose.specs.Chosen.{is_on_its_edge}
use Rattle.fw_choose.proofs.viewing.are_on_their_edges.Goals as goal

pub loop-message-init : goal.loop-message-init
loop-message-init c =
    let at : ℕ → Bounds = λ edge. bounds_of c.args.flow.now (receiver c.args.flow.now edge) in
    (tt, c.on-receiving.ensures.bounds ∙ ap at (sym c.on-receiving.ensures.edge))

pub turned_to-receiving-requires : goal.turned_to-receiving-requires
turned_to-receiving-requires c = c.loop-message.invariant.1

pub loop-message-preserved : goal.loop-message-preserved
loop-message-preserved c =
    let P : Counted → Type 0 = λ m. is_on_its_edge c.args.flow.now c.args.single m ≡ true in
    let m = c.message-item.result in
    let at : ℕ → Bounds = λ edge. bounds_of c.args.flow.now (receiver c.args.flow.now edge) in
    let here : P m =
    subst (λ (b : Bounds). (in_domain b m.at && (not c.args.single || length m.causes == 1)) ≡ true) c.turned_to-receiving.ensures.bounds (sym c.has.ensures ∙ c.if-not-has.false) in (
      each-taken P c.args.messages.now c.loop-message.message-index m c.loop-message-test.true c.message-item.is c.loop-message.invariant.0 here,
      c.turned_to-receiving.ensures.bounds ∙ ap at (sym c.turned_to-receiving.ensures.edge),
    )

pub returns : goal.returns
returns c =
    let P : Counted → Type 0 = λ m. is_on_its_edge c.args.flow.now c.args.single m ≡ true in
    λ yes. filter-all (is_on_its_edge c.args.flow.now c.args.single) c.args.messages.now
    (subst (AllByRecursion P) (take_all c.loop-message.message-index c.args.messages.now c.loop-message-test.false) c.loop-message.invariant.0)
