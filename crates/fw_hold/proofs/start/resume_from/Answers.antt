use Rattle.std.proofs.Common.{◌+◌, sym, ◌∙◌, ap, subst, arith}
use Rattle.std.proofs.lemmas.Result.{err_from_is_err_and}
use Rattle.fw_command.specs.Writing.{IsWritten}
use Rattle.fw_running.specs.Steps.{outcome_of}
use Rattle.fw_named.specs.Named.{AreNamed}
use Rattle.fw_hold.specs.declared.fault.HoldFault.TheVariants.{Engine}
use Rattle.fw_hold.specs.declared.place.SchedulePlace.{SchedulePlace}
use Rattle.fw_running.specs.declared.fault.EngineFault.TheVariants.{Damaged}
use Rattle.fw_running.specs.declared.stepped.Stepped.{Stepped}
use Rattle.fw_hold.specs.declared.place.HeldCounts.{HeldCounts}
use Rattle.fw_hold.specs.Hold.{IsAtEnd}
use Rattle.fw_hold.specs.Kept.{a_root, system_in}
use Rattle.fw_hold.specs.Moves.{restored}
use Rattle.fw_hold.specs.Place.{place_with_turn}
use Rattle.fw_hold.specs.Starting.{opening_text, held_texts_of}
use Rattle.fw_hold.proofs.BegunLaws.{begun_turn, ends_opened, ends_turn, found_later}
use Rattle.fw_hold.proofs.FaultLaws.{damage_in, opening_undamaged, undamaged_is, wrote_all}
use Rattle.fw_hold.proofs.RestoreLaws.{kept_through, restored_in}
use Rattle.fw_hold.proofs.RoomLaws.{room_found}
use Rattle.fw_hold.proofs.RunLaws.{err_alike}
use Rattle.fw_hold.proofs.StartLaws.{opening_failed, opening_is}
use Rattle.fw_hold.proofs.start.resume_from.Goals as goal

pub returns-in_err-tell_opening-clause-ended : goal.returns-in_err-tell_opening-clause-ended
returns-in_err-tell_opening-clause-ended g c =
    let p = err_from_is_err_and c.from_residual.result c.from_residual.ensures.1 in
    let view = g.K.Store.view in
    let plan = c.args.plan.now in
    let root = c.args.root.now in
    let texts = held_texts_of c.args.flow c.args.batches.now plan in
    let old = (view c.args.store.now).records in
    let before = g.O.Sink.view c.args.out.now in
    rw (p.1, p.2) (λ starts kept few k told.
    opening_failed (Unit {0}) HeldCounts texts starts kept root c.in_err-tell_opening.field-0.0 old before (g.O.Sink.view c.tell_opening.new.out) (IsAtEnd texts) k c.in_err-tell_opening.ensures)

pub returns-in_err-tell_opening-clause-damaged : goal.returns-in_err-tell_opening-clause-damaged
returns-in_err-tell_opening-clause-damaged g c =
    let p = err_from_is_err_and c.from_residual.result c.from_residual.ensures.1 in
    rw (p.1, p.2) (λ id e. absurd (opening_undamaged (Unit {0}) (g.row.E.Denot × SchedulePlace) _ c.in_err-tell_opening.field-0.0 (g.O.Sink.view c.args.out.now) (g.O.Sink.view c.tell_opening.new.out)
    c.in_err-tell_opening.ensures id e))

pub returns-in_err-engine-clause-ended : goal.returns-in_err-engine-clause-ended
returns-in_err-engine-clause-ended g c =
    let p = err_from_is_err_and c.from_residual-in_err-engine.result c.from_residual-in_err-engine.ensures.1 in
    let view = g.K.Store.view in
    let plan = c.args.plan.now in
    let root = c.args.root.now in
    let texts = held_texts_of c.args.flow c.args.batches.now plan in
    let old = (view c.args.store.now).records in
    let before = g.O.Sink.view c.args.out.now in
    let stand = g.E.HeldEngine.stand in
    let keep = g.E.HeldEngine.keep_of in
    let flow = g.E.HeldEngine.flow_of in
    let mid = g.O.Sink.view c.tell_opening.new.out in
    let read = (view c.resume.new.store).records in
    let fault = c.in_err-engine.field-0.0 in
    rw (p.1, p.2) (λ starts kept few k told.
    let opened = subst (λ t. IsWritten t before mid) (opening_is texts starts k.0 kept root k.2) c.in_ok-tell_opening.ensures in
    let named = subst (λ r. AreNamed (system_in texts) kept.point.state root r) (sym k.1) k.2.named in
    let now = kept_through texts starts old read kept root k c.in_err-engine.ensures.stays told in
    ends_opened HeldCounts texts starts a_root kept (Engine fault) read before mid (IsAtEnd texts)
    (wrote_all HeldCounts (opening_text a_root kept) (opening_text a_root kept) fault before mid
    (undamaged_is _ fault (λ id e. c.in_err-engine.ensures.unharmed id kept.point.state k.2.reached k.2.of_state named told e)) opened)
    (found_later texts starts read a_root kept (now.0, now.1, (root, now.2))))

pub returns-in_err-engine-clause-damaged : goal.returns-in_err-engine-clause-damaged
returns-in_err-engine-clause-damaged g c =
    let p = err_from_is_err_and c.from_residual-in_err-engine.result c.from_residual-in_err-engine.ensures.1 in
    rw (p.1, p.2) (λ id e. c.in_err-engine.ensures.damaged id (damage_in (g.row.E.Denot × Stepped) (g.row.E.Denot × SchedulePlace) c.in_err-engine.field-0.0 id e))

pub returns-in_err-end_turn-clause-ended : goal.returns-in_err-end_turn-clause-ended
returns-in_err-end_turn-clause-ended g c =
    let p = err_from_is_err_and c.from_residual-in_err-end_turn.result c.from_residual-in_err-end_turn.ensures.1 in
    let view = g.K.Store.view in
    let plan = c.args.plan.now in
    let root = c.args.root.now in
    let texts = held_texts_of c.args.flow c.args.batches.now plan in
    let old = (view c.args.store.now).records in
    let before = g.O.Sink.view c.args.out.now in
    let stand = g.E.HeldEngine.stand in
    let keep = g.E.HeldEngine.keep_of in
    let flow = g.E.HeldEngine.flow_of in
    let mid = g.O.Sink.view c.tell_opening.new.out in
    let read = (view c.resume.new.store).records in
    rw (p.1, p.2) (λ starts kept few k told.
    let opened = subst (λ t. IsWritten t before mid) (opening_is texts starts k.0 kept root k.2) c.in_ok-tell_opening.ensures in
    let named = subst (λ r. AreNamed (system_in texts) kept.point.state root r) (sym k.1) k.2.named in
    let told_mid = c.in_err-end_turn.ensures.told_before told in
    let made = restored_in stand keep flow texts starts old read c.in_ok-engine.engine plan c.place_behind_root-place.result kept root (outcome_of c.in_ok-engine.stepped) c.requires.plan few k
    c.in_ok-engine.ensures.stays told_mid c.in_ok-engine.ensures.runs c.in_ok-engine.ensures.next c.place_behind_root-place.ensures
    (c.in_ok-engine.ensures.restores kept.point.state k.2.reached k.2.of_state named told_mid) in
    ends_turn (Unit {0}) HeldCounts texts starts kept made.0 c.in_err-end_turn.field-0.0 (view c.end_turn.new.store).records before mid (g.O.Sink.view c.end_turn.new.out) _ (IsAtEnd texts) opened
    (c.in_err-end_turn.ensures.turned texts (starts + 1) kept kept.point made.1 (restored made.0) c.requires.plan made.2 told))

pub returns-in_err-end_turn-clause-damaged : goal.returns-in_err-end_turn-clause-damaged
returns-in_err-end_turn-clause-damaged g c =
    let p = err_from_is_err_and c.from_residual-in_err-end_turn.result c.from_residual-in_err-end_turn.ensures.1 in
    let fault = c.in_err-end_turn.field-0.0 in
    rw (p.1, p.2) (λ id e. absurd (c.in_err-end_turn.ensures.undamaged id (err_alike (g.row.E.Denot × SchedulePlace) (Unit {0}) fault (Engine (Damaged id)) e)))

pub returns-clause-room : goal.returns-clause-room
returns-clause-room g c =
    room_found c.args.plan.now.items.now c.args.plan.now.numbers.now c.args.root.now c.end_turn.new.place (g.E.HeldEngine.keep_of c.end_turn.new.engine).next c.requires.plan.few
    c.requires.plan.ascending c.requires.plan.one_each c.are_small.ensures c.requires.sound.mark (omega (arith, c.in_ok-end_turn.ensures.next, c.in_ok-engine.ensures.next, c.requires.sound.next_id))
    (c.in_ok-end_turn.ensures.counts ∙ ap place_with_turn c.place_behind_root-place.ensures)

pub returns-clause-begun : goal.returns-clause-begun
returns-clause-begun g c =
    let view = g.K.Store.view in
    let plan = c.args.plan.now in
    let root = c.args.root.now in
    let texts = held_texts_of c.args.flow c.args.batches.now plan in
    let old = (view c.args.store.now).records in
    let before = g.O.Sink.view c.args.out.now in
    let stand = g.E.HeldEngine.stand in
    let keep = g.E.HeldEngine.keep_of in
    let flow = g.E.HeldEngine.flow_of in
    let mid = g.O.Sink.view c.tell_opening.new.out in
    let read = (view c.resume.new.store).records in
    λ starts kept few k told.
    let opened = subst (λ t. IsWritten t before mid) (opening_is texts starts k.0 kept root k.2) c.in_ok-tell_opening.ensures in
    let named = subst (λ r. AreNamed (system_in texts) kept.point.state root r) (sym k.1) k.2.named in
    let told_mid = c.in_ok-end_turn.ensures.told_before told in
    let made = restored_in stand keep flow texts starts old read c.in_ok-engine.engine plan c.place_behind_root-place.result kept root (outcome_of c.in_ok-engine.stepped) c.requires.plan few k
    c.in_ok-engine.ensures.stays told_mid c.in_ok-engine.ensures.runs c.in_ok-engine.ensures.next c.place_behind_root-place.ensures
    (c.in_ok-engine.ensures.restores kept.point.state k.2.reached k.2.of_state named told_mid) in
    begun_turn stand keep flow (Unit {0}) (tt {0}) texts starts kept made.0 (view c.end_turn.new.store).records before mid (g.O.Sink.view c.end_turn.new.out) c.end_turn.new.engine c.end_turn.new.place
    opened (c.in_ok-end_turn.ensures.turned texts (starts + 1) kept kept.point made.1 (restored made.0) c.requires.plan made.2 told)
