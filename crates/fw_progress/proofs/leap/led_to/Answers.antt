use Rattle.std.proofs.Common.{◌≡◌, false, [], ◌∷◌, ◌++◌, length, replicate, sym, ap, subst, ◌∙◌, arith}
use Rattle.std.proofs.lemmas.List.{length-replicate}
use Rattle.fw_progress.specs.Leap.{is_node_marked, IsMarking}
use Rattle.fw_progress.proofs.LedLaws.{none-marked, first_marking, pop_marking, all_marked}
use Rattle.fw_progress.proofs.leap.led_to.Goals as goal

pub find-init : goal.find-init
find-init c =
    let flow = c.args.flow.now in
    let p = c.args.feedback in
    let none = c.in_ok-marks.marks.items in
    let is : none ≡ replicate c.nodes.result false = c.in_ok-marks.ensures.items_if_clones_equal (λ y e. e) in
    subst (λ fs. IsMarking flow p c.mark.new.marks.items fs []) (sym (c.in_ok-push.ensures.items ∙ ap (λ ns. ns ++ p ∷ []) c.new-found.ensures.items))
    (subst (λ ms. IsMarking flow p ms (p ∷ []) []) (sym c.mark.ensures.marked)
    (first_marking flow p none c.requires (ap length is ∙ length-replicate c.nodes.result false ∙ c.nodes.ensures.count)
    (λ q. ap (λ ms. is_node_marked ms q) is ∙ none-marked c.nodes.result q)))

pub mark_receivers-requires-clause-marked : goal.mark_receivers-requires-clause-marked
mark_receivers-requires-clause-marked c =
    (pop_marking c.args.flow.now c.args.feedback c.find.marks.items c.find.found.items c.pop.new.self.items c.in-Some.node c.in-Some.ensures.items c.find.invariant).0

pub mark_receivers-requires-clause-marking : goal.mark_receivers-requires-clause-marking
mark_receivers-requires-clause-marking c =
    (pop_marking c.args.flow.now c.args.feedback c.find.marks.items c.find.found.items c.pop.new.self.items c.in-Some.node c.in-Some.ensures.items c.find.invariant).1

pub returns : goal.returns
returns c = all_marked c.args.flow.now c.args.feedback c.find.marks.items c.find.found.items (omega (arith, c.in_default.ensures.cases)) c.find.invariant
