use Rattle.std.proofs.Common.{◌≡◌, ◌+◌, false, rules, inl, inr, length, Some, None, sym, subst, ◌∙◌}
use Rattle.std.proofs.lemmas.Bool.{both_ways, cases_lt}
use Rattle.fw_running.specs.Places.{IsFirstPlaceFrom}
use Rattle.fw_settle.specs.Settling.{grows}
use Rattle.fw_settle.proofs.SearchLaws.{IsSearched, searched-first, searched-live, searched-next, searched-all, down-none}
use Rattle.fw_settle.proofs.SettleLaws.{past-grows}
use Rattle.fw_settle.proofs.settling.live_from.Goals.{else-is_node-via-then-is_node+else-not-is_failed, else-is_node-via-else-is_node}
use Rattle.fw_settle.proofs.settling.live_from.Goals as goal

pub loop-next-init : goal.loop-next-init
loop-next-init c = searched-first c.args.running.now c.args.place c.growing_from-next.result c.growing_from-next.ensures

pub returns-then-not-is_failed : goal.returns-then-not-is_failed
returns-then-not-is_failed c =
    let running = c.args.running.now in
    let next : c.loop-next.next ≡ Some c.in-Some.node = search rules in
    searched-live running c.requires.shaped c.args.place c.in-Some.node (subst (IsSearched running c.args.place) next c.loop-next.invariant)
    (c.is_node.ensures.0 c.if-is_node.true) (sym c.is_failed.ensures ∙ c.if-not-is_failed.true)

pub loop-next-preserved : goal.loop-next-preserved
loop-next-preserved c =
    let running = c.args.running.now in
    let node = c.in-Some.node in
    let next : c.loop-next.next ≡ Some node = search rules in
    let result = c.growing_from-next-in-Some.result in
    let none : grows running node ≡ false = elim c.else-is_node.branch [
      | else-is_node-via-then-is_node+else-not-is_failed w ↦ down-none running node (sym w.is_failed.ensures ∙ w.if-not-is_failed.false)
      | else-is_node-via-else-is_node w ↦ elim (cases_lt node (length running.flow.nodes)) [
        | inl l ↦ absurd (both_ways c.is_node.result w.if-is_node.false (c.is_node.ensures.1 l))
        | inr past ↦ past-grows running c.requires.shaped node past
      ]
    ] in
    searched-next running c.requires.shaped c.args.place node result (subst (IsSearched running c.args.place) next c.loop-next.invariant) none
    (subst (λ n. IsFirstPlaceFrom (n + 1) running.ready.growing result) c.place.ensures c.growing_from-next-in-Some.ensures)

pub returns : goal.returns
returns c =
    let running = c.args.running.now in
    let next : c.loop-next.next ≡ None = search rules in
    searched-all running c.requires.shaped c.args.place (subst (IsSearched running c.args.place) next c.loop-next.invariant)
