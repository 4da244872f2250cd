use Rattle.std.proofs.Common.{◌≡◌, ◌+◌, rules, Some, None, sym, subst, ◌∙◌}
use Rattle.fw_running.specs.Places.{IsFirstPlaceFrom}
use Rattle.fw_settle.proofs.SearchLaws.{IsSearched, searched-first, searched-some, searched-next, searched-all}
use Rattle.fw_settle.proofs.settling.grown_from.Goals as goal

pub loop-next-init : goal.loop-next-init
loop-next-init c = searched-first c.args.running.now c.args.place c.growing_from-next.result c.growing_from-next.ensures

pub returns-then-has_grown : goal.returns-then-has_grown
returns-then-has_grown c =
    let running = c.args.running.now in
    let next : c.loop-next.next ≡ Some c.in-Some.node = search rules in
    searched-some running c.requires.shaped c.args.place c.in-Some.node (subst (IsSearched running c.args.place) next c.loop-next.invariant)
    (sym c.has_grown.ensures.value ∙ c.if-has_grown.true)

pub loop-next-preserved : goal.loop-next-preserved
loop-next-preserved c =
    let running = c.args.running.now in
    let next : c.loop-next.next ≡ Some c.in-Some.node = search rules in
    let result = c.growing_from-next-in-Some.result in
    searched-next running c.requires.shaped c.args.place c.in-Some.node result (subst (IsSearched running c.args.place) next c.loop-next.invariant)
    (sym c.has_grown.ensures.value ∙ c.if-has_grown.false)
    (subst (λ n. IsFirstPlaceFrom (n + 1) running.ready.growing result) c.place.ensures c.growing_from-next-in-Some.ensures)

pub returns : goal.returns
returns c =
    let running = c.args.running.now in
    let next : c.loop-next.next ≡ None = search rules in
    searched-all running c.requires.shaped c.args.place (subst (IsSearched running c.args.place) next c.loop-next.invariant)
