use Rattle.std.proofs.Common.{Ok, Err, sym, ◌∙◌, ap, subst, arith}
use Rattle.std.proofs.lemmas.Result.{err_from_is_err_and}
use Rattle.fw_schedule.specs.declared.item.Item.TheVariants.{One}
use Rattle.fw_running.specs.declared.stepped.Stepped.{Stepped}
use Rattle.fw_running.specs.Steps.{outcome_of}
use Rattle.fw_hold.specs.declared.place.SchedulePlace.{SchedulePlace}
use Rattle.fw_hold.specs.Engine.{FollowsIn}
use Rattle.fw_hold.specs.Faults.{faults_after_hold}
use Rattle.fw_hold.specs.Going.{HasMoved, IsTurnMade, IsRunAt}
use Rattle.fw_hold.specs.Kept.{system_in}
use Rattle.fw_hold.specs.Moves.{turned}
use Rattle.fw_hold.specs.Place.{place_past_item, place_with_turn}
use Rattle.fw_hold.proofs.FaultLaws.{damage_in, step_faults, undamaged_is}
use Rattle.fw_hold.proofs.MovingLaws.{idle_is, item_here, passes, step_failed, step_turn, trusts, turn_forward}
use Rattle.fw_hold.proofs.RoomLaws.{can_end, moved_idle, moved_on, moved_single, none_of_one, some_left, turn_counted}
use Rattle.fw_hold.proofs.moving.take_step.Goals as goal

pub step_held-requires : goal.step_held-requires
step_held-requires g c =
    record { stored = c.requires.stored }

pub returns-in_err-stepped-clause-made : goal.returns-in_err-stepped-clause-made
returns-in_err-stepped-clause-made g c =
    let p = err_from_is_err_and c.from_residual.result c.from_residual.ensures.1 in
    let view = g.K.Store.view in
    let stand = g.E.HeldEngine.stand in
    let keep = g.E.HeldEngine.keep_of in
    let flow = g.E.HeldEngine.flow_of in
    let engine = c.args.engine.now in
    let place = c.args.place.now in
    let out = g.O.Sink.view c.args.out.now in
    let step = c.args.step.now in
    let fault = c.in_err-stepped.field-0.0 in
    rw (p.1, p.2) (λ texts starts kept point is_plan few u told.
    step_failed view stand keep flow (Unit {0}) texts starts c.args.store.now c.step_held.new.store (Err fault) engine c.step_held.new.self place kept point fault out _ is_plan.few u
    c.in_err-stepped.ensures.leaves told (undamaged_is Stepped fault (λ id e. c.in_err-stepped.ensures.unharmed id (system_in texts) point.state u.stands e told)))

pub returns-in_err-stepped-clause-damaged : goal.returns-in_err-stepped-clause-damaged
returns-in_err-stepped-clause-damaged g c =
    let p = err_from_is_err_and c.from_residual.result c.from_residual.ensures.1 in
    rw (p.1, p.2) (λ id e. c.in_err-stepped.ensures.damaged id (damage_in Stepped (Unit {0}) c.in_err-stepped.field-0.0 id e))

pub returns-in_err-stepped-clause-faults : goal.returns-in_err-stepped-clause-faults
returns-in_err-stepped-clause-faults g c =
    let p = err_from_is_err_and c.from_residual.result c.from_residual.ensures.1 in
    rw (p.1, p.2) (c.in_err-stepped.ensures.leaves.faults ∙ step_faults Stepped (Unit {0}) c.in_err-stepped.field-0.0 (g.K.Store.view c.args.store.now).faults)

pub returns-in_err-stepped-clause-told_before : goal.returns-in_err-stepped-clause-told_before
returns-in_err-stepped-clause-told_before g c =
    c.in_err-stepped.ensures.leaves.outside.told_before

pub count_idle-requires-clause-steps : goal.count_idle-requires-clause-steps
count_idle-requires-clause-steps g c =
    let items = c.args.plan.now.items.now in
    let place = c.args.place.now in
    let before = (g.E.HeldEngine.keep_of c.args.engine.now).next in
    let room = c.requires.room in
    let some = some_left items place before (One c.args.step.now) c.requires.next room in
    omega (arith, some, room.steps)

pub count_idle-requires-clause-idle : goal.count_idle-requires-clause-idle
count_idle-requires-clause-idle g c =
    let items = c.args.plan.now.items.now in
    let place = c.args.place.now in
    let before = (g.E.HeldEngine.keep_of c.args.engine.now).next in
    let room = c.requires.room in
    let some = some_left items place before (One c.args.step.now) c.requires.next room in
    omega (arith, some, room.idle)

pub end_item-requires : goal.end_item-requires
end_item-requires g c =
    let items = c.args.plan.now.items.now in
    let place = c.args.place.now in
    let before = (g.E.HeldEngine.keep_of c.args.engine.now).next in
    let room = c.requires.room in
    let some = some_left items place before (One c.args.step.now) c.requires.next room in
    omega (arith, can_end items place before (One c.args.step.now) c.requires.next room, ap (λ (s : SchedulePlace). s.ended) c.count_idle.ensures)

pub returns-then-is_idle-clause-stored : goal.returns-then-is_idle-clause-stored
returns-then-is_idle-clause-stored g c =
    c.in_ok-stepped.ensures.leaves.stored

pub returns-then-is_idle-clause-moved : goal.returns-then-is_idle-clause-moved
returns-then-is_idle-clause-moved g c =
    let items = c.args.plan.now.items.now in
    let place = c.args.place.now in
    let before = (g.E.HeldEngine.keep_of c.args.engine.now).next in
    let room = c.requires.room in
    let some = some_left items place before (One c.args.step.now) c.requires.next room in
    let past = c.end_item.ensures ∙ ap place_past_item c.count_idle.ensures in
    let after = (g.E.HeldEngine.keep_of c.step_held.new.self).next in
    subst (λ s. HasMoved items place s after) (sym past) (moved_idle items place before after (One c.args.step.now) c.requires.next room c.in_ok-stepped.ensures.leaves.drawn)

pub returns-then-is_idle-clause-made : goal.returns-then-is_idle-clause-made
returns-then-is_idle-clause-made g c =
    let view = g.K.Store.view in
    let stand = g.E.HeldEngine.stand in
    let keep = g.E.HeldEngine.keep_of in
    let flow = g.E.HeldEngine.flow_of in
    let engine = c.args.engine.now in
    let place = c.args.place.now in
    let out = g.O.Sink.view c.args.out.now in
    let step = c.args.step.now in
    let past = c.end_item.ensures ∙ ap place_past_item c.count_idle.ensures in
    let stepped = c.in_ok-stepped.stepped in
    let new = c.step_held.new.self in
    let records = (view c.step_held.new.store).records in
    let idle = idle_is stepped (sym c.is_idle.ensures ∙ c.if-is_idle.true) in
    let stays = c.in_ok-stepped.ensures.idle (ap Ok idle) in
    let next = c.in_ok-stepped.ensures.none_drawn (ap Ok idle) in
    λ texts starts kept point is_plan few u told.
    let sys = system_in texts in
    let at = item_here c.args.plan.now.items.now texts.items place.ended point.ended (One step) c.requires.next is_plan.items u.counts.ended in
    let later = subst (λ s. IsRunAt stand keep flow texts starts (view s).records engine place kept point) (sym stays) u in
    let follows = subst (λ o. FollowsIn stand sys point.state step o new records) (ap outcome_of idle) (c.in_ok-stepped.ensures.ok sys point.state u.stands (trusts sys point.state step records told)) in
    passes stand keep flow (Unit {0}) (tt {0}) texts starts records engine new place c.end_item.new.self kept point step out later at follows past c.in_ok-stepped.ensures.leaves.flow next

pub returns-then-is_idle-clause-told_before : goal.returns-then-is_idle-clause-told_before
returns-then-is_idle-clause-told_before g c =
    c.in_ok-stepped.ensures.leaves.outside.told_before

pub returns-then-is_idle-clause-faults : goal.returns-then-is_idle-clause-faults
returns-then-is_idle-clause-faults g c =
    c.in_ok-stepped.ensures.leaves.faults

pub count_single-requires-clause-steps : goal.count_single-requires-clause-steps
count_single-requires-clause-steps g c =
    let items = c.args.plan.now.items.now in
    let place = c.args.place.now in
    let before = (g.E.HeldEngine.keep_of c.args.engine.now).next in
    let room = c.requires.room in
    let some = some_left items place before (One c.args.step.now) c.requires.next room in
    omega (arith, some, room.steps)

pub count_single-requires-clause-singles : goal.count_single-requires-clause-singles
count_single-requires-clause-singles g c =
    let items = c.args.plan.now.items.now in
    let place = c.args.place.now in
    let before = (g.E.HeldEngine.keep_of c.args.engine.now).next in
    let room = c.requires.room in
    let some = some_left items place before (One c.args.step.now) c.requires.next room in
    omega (arith, none_of_one items place before c.args.step.now c.requires.next room)

pub count_single-requires-clause-ended : goal.count_single-requires-clause-ended
count_single-requires-clause-ended g c =
    let items = c.args.plan.now.items.now in
    let place = c.args.place.now in
    let before = (g.E.HeldEngine.keep_of c.args.engine.now).next in
    let room = c.requires.room in
    let some = some_left items place before (One c.args.step.now) c.requires.next room in
    can_end items place before (One c.args.step.now) c.requires.next room

pub end_turn-requires-clause-stored : goal.end_turn-requires-clause-stored
end_turn-requires-clause-stored g c =
    c.in_ok-stepped.ensures.leaves.stored

pub end_turn-requires-clause-room : goal.end_turn-requires-clause-room
end_turn-requires-clause-room g c =
    let items = c.args.plan.now.items.now in
    let place = c.args.place.now in
    let before = (g.E.HeldEngine.keep_of c.args.engine.now).next in
    let room = c.requires.room in
    let some = some_left items place before (One c.args.step.now) c.requires.next room in
    omega (arith, some, room.turn, ap (λ (s : SchedulePlace). s.turn) c.count_single.ensures, turn_counted 1 place)

pub end_turn-requires-clause-ids : goal.end_turn-requires-clause-ids
end_turn-requires-clause-ids g c =
    let items = c.args.plan.now.items.now in
    let place = c.args.place.now in
    let before = (g.E.HeldEngine.keep_of c.args.engine.now).next in
    let room = c.requires.room in
    let some = some_left items place before (One c.args.step.now) c.requires.next room in
    omega (arith, some, room.ids, c.in_ok-stepped.ensures.leaves.drawn)

pub returns-clause-stored : goal.returns-clause-stored
returns-clause-stored g c =
    c.end_turn.ensures.stored

pub returns-clause-moved : goal.returns-clause-moved
returns-clause-moved g c =
    let items = c.args.plan.now.items.now in
    let place = c.args.place.now in
    let before = (g.E.HeldEngine.keep_of c.args.engine.now).next in
    let room = c.requires.room in
    let some = some_left items place before (One c.args.step.now) c.requires.next room in
    let after = (g.E.HeldEngine.keep_of c.step_held.new.self).next in
    moved_on c.end_turn.result items place c.count_single.new.self c.end_turn.new.place after (g.E.HeldEngine.keep_of c.end_turn.new.engine).next
    (subst (λ s. HasMoved items place (place_with_turn s) after) (sym c.count_single.ensures)
    (moved_single items place before after (One c.args.step.now) c.requires.next room (none_of_one items place before c.args.step.now c.requires.next room) c.in_ok-stepped.ensures.leaves.drawn)) c.end_turn.ensures.counts c.end_turn.ensures.next

pub returns-clause-made : goal.returns-clause-made
returns-clause-made g c =
    let view = g.K.Store.view in
    let stand = g.E.HeldEngine.stand in
    let keep = g.E.HeldEngine.keep_of in
    let flow = g.E.HeldEngine.flow_of in
    let engine = c.args.engine.now in
    let place = c.args.place.now in
    let out = g.O.Sink.view c.args.out.now in
    let step = c.args.step.now in
    let stepped = c.in_ok-stepped.stepped in
    let new = c.step_held.new.self in
    let records = (view c.step_held.new.store).records in
    let busy = sym c.is_idle.ensures ∙ c.if-is_idle.false in
    λ texts starts kept point is_plan few u told.
    let sys = system_in texts in
    let told_mid = c.end_turn.ensures.told_before told in
    let at = item_here c.args.plan.now.items.now texts.items place.ended point.ended (One step) c.requires.next is_plan.items u.counts.ended in
    let turn = step_turn view stand keep flow texts starts c.args.store.now c.step_held.new.store (Ok stepped) engine new place kept point step (outcome_of stepped) is_plan.few few u at
    c.in_ok-stepped.ensures.leaves told_mid (c.in_ok-stepped.ensures.ok sys point.state u.stands (trusts sys point.state step records told_mid)) busy in
    turn_forward texts starts kept point turn.0 c.end_turn.result (view c.end_turn.new.store).records out (g.O.Sink.view c.end_turn.new.out) _
    (c.end_turn.ensures.turned texts starts kept point turn.1 (turned turn.0) is_plan
    (subst (λ s. IsTurnMade stand keep flow texts starts records new s kept point (turned turn.0) turn.1 (outcome_of stepped)) (sym c.count_single.ensures) turn.2) told)

pub returns-clause-output : goal.returns-clause-output
returns-clause-output g c =
    c.end_turn.ensures.output

pub returns-clause-of_root : goal.returns-clause-of_root
returns-clause-of_root g c =
    c.end_turn.ensures.of_root

pub returns-clause-damaged : goal.returns-clause-damaged
returns-clause-damaged g c =
    λ id e. absurd (c.end_turn.ensures.undamaged id e)

pub returns-clause-told_before : goal.returns-clause-told_before
returns-clause-told_before g c =
    λ told. c.in_ok-stepped.ensures.leaves.outside.told_before (c.end_turn.ensures.told_before told)

pub returns-clause-faults : goal.returns-clause-faults
returns-clause-faults g c =
    c.end_turn.ensures.faults ∙ ap (λ n. faults_after_hold c.end_turn.result n) c.in_ok-stepped.ensures.leaves.faults
