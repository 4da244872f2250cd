use Rattle.std.proofs.Common.{◌+◌, length, Ok, Err, refl, sym, ◌∙◌, ap, subst, arith}
use Rattle.std.proofs.lemmas.Bool.{ltb-false}
use Rattle.std.proofs.lemmas.Result.{err_from_is_err_and}
use Rattle.fw_running.specs.declared.fault.EngineFault.TheVariants.{Damaged}
use Rattle.fw_hold.specs.declared.fault.HoldFault.TheVariants.{Engine, DamagedRoot, ForeignRoot}
use Rattle.fw_hold.specs.declared.place.HeldCounts.{HeldCounts}
use Rattle.fw_hold.specs.declared.place.SchedulePlace.{SchedulePlace}
use Rattle.fw_hold.specs.Faults.{faults_after_hold}
use Rattle.fw_hold.specs.Hold.{IsAtEnd}
use Rattle.fw_hold.specs.Starting.{EndsStart, held_texts_of}
use Rattle.fw_hold.proofs.BegunLaws.{begun_on, ends_on, ends_well}
use Rattle.fw_hold.proofs.FaultLaws.{counts_on, counts_well, hold_faults, no_root_passed, of_damaged_root, of_foreign_root}
use Rattle.fw_hold.proofs.RunLaws.{err_alike, foreign_alike, not_told, root_alike}
use Rattle.fw_hold.proofs.run.hold.Goals as goal

pub returns-in_err-engine-clause-ends : goal.returns-in_err-engine-clause-ends
returns-in_err-engine-clause-ends g c =
    let p = err_from_is_err_and c.from_residual.result c.from_residual.ensures.1 in
    rw (p.1, p.2) c.in_err-engine.ensures.ended

pub returns-in_err-engine-clause-foreign : goal.returns-in_err-engine-clause-foreign
returns-in_err-engine-clause-foreign g c =
    let p = err_from_is_err_and c.from_residual.result c.from_residual.ensures.1 in
    let k = c.in_err-engine.ensures.foreign in
    rw (p.1, p.2) (λ f told. (foreign_alike (g.row.E.Denot × SchedulePlace) HeldCounts c.in_err-engine.field-0.0 (k f told).0, (k f told).1, (k f told).2))

pub returns-in_err-engine-clause-output : goal.returns-in_err-engine-clause-output
returns-in_err-engine-clause-output g c =
    let p = err_from_is_err_and c.from_residual.result c.from_residual.ensures.1 in
    let before = g.O.Sink.view c.args.out.now in
    rw (p.1, p.2) (counts_on (g.row.E.Denot × SchedulePlace) HeldCounts c.in_err-engine.field-0.0 before before (g.O.Sink.view c.begin.new.out) (record { faults = refl; refusals = refl }) c.in_err-engine.ensures.output)

pub returns-in_err-engine-clause-of_root : goal.returns-in_err-engine-clause-of_root
returns-in_err-engine-clause-of_root g c =
    let p = err_from_is_err_and c.from_residual.result c.from_residual.ensures.1 in
    rw (p.1, p.2) (λ r. c.in_err-engine.ensures.of_root (root_alike (g.row.E.Denot × SchedulePlace) HeldCounts c.in_err-engine.field-0.0 r))

pub returns-in_err-engine-clause-damaged_root : goal.returns-in_err-engine-clause-damaged_root
returns-in_err-engine-clause-damaged_root g c =
    let p = err_from_is_err_and c.from_residual.result c.from_residual.ensures.1 in
    rw (p.1, p.2) (λ id e. c.in_err-engine.ensures.damaged_root id (err_alike HeldCounts (g.row.E.Denot × SchedulePlace) c.in_err-engine.field-0.0 (DamagedRoot id) e))

pub returns-in_err-engine-clause-foreign_root : goal.returns-in_err-engine-clause-foreign_root
returns-in_err-engine-clause-foreign_root g c =
    let p = err_from_is_err_and c.from_residual.result c.from_residual.ensures.1 in
    rw (p.1, p.2) (λ e. c.in_err-engine.ensures.foreign_root (err_alike HeldCounts (g.row.E.Denot × SchedulePlace) c.in_err-engine.field-0.0 ForeignRoot e))

pub returns-in_err-engine-clause-damaged : goal.returns-in_err-engine-clause-damaged
returns-in_err-engine-clause-damaged g c =
    let p = err_from_is_err_and c.from_residual.result c.from_residual.ensures.1 in
    rw (p.1, p.2) (λ id e. c.in_err-engine.ensures.damaged id (err_alike HeldCounts (g.row.E.Denot × SchedulePlace) c.in_err-engine.field-0.0 (Engine (Damaged id)) e))

pub loop-item-init : goal.loop-item-init
loop-item-init g c =
    let k = c.in_ok-engine.ensures in
    record {
      stored = k.stored;
      room = k.room;
      begun = k.begun;
      not_foreign = λ f told. not_told _ (k.foreign f told).0;
      counts = k.output;
      told_before = k.told_before;
      faults = k.faults;
    }

pub loop-item-smaller : goal.loop-item-smaller
loop-item-smaller g c = c.in_ok-advance.ensures.moved.fewer

pub loop-item-preserved : goal.loop-item-preserved
loop-item-preserved g c =
    let view = g.K.Store.view in
    let sink = g.O.Sink.view in
    let stand = g.E.HeldEngine.stand in
    let keep = g.E.HeldEngine.keep_of in
    let flow = g.E.HeldEngine.flow_of in
    let texts = held_texts_of c.args.flow c.args.batches.now c.args.plan.now in
    let before = sink c.args.out.now in
    let so_far = c.loop-item.invariant in
    let k = c.in_ok-advance.ensures in
    let mid = sink c.loop-item.out in
    let after = sink c.advance.new.out in
    let old = (view c.loop-item.store).records in
    let new = (view c.advance.new.store).records in
    record {
      stored = k.stored;
      room = k.moved.room;
      begun = λ starts found kept few h told.
          let b = so_far.begun starts found kept few h (k.told_before told) in
          begun_on stand keep flow (Unit {0}) (tt {0}) texts starts found kept old new before mid after c.loop-item.engine c.advance.new.engine c.loop-item.place c.advance.new.place b
          (k.made texts (starts + 1) b.now b.last c.requires.plan (omega (arith, few)) b.under_way told);
      not_foreign = λ f told. so_far.not_foreign f (k.told_before told);
      counts = counts_well before mid after so_far.counts k.output;
      told_before = λ told. so_far.told_before (k.told_before told);
      faults = k.faults ∙ so_far.faults;
    }

pub returns-in_err-advance-clause-ends : goal.returns-in_err-advance-clause-ends
returns-in_err-advance-clause-ends g c =
    let p = err_from_is_err_and c.from_residual-in_err-advance.result c.from_residual-in_err-advance.ensures.1 in
    let view = g.K.Store.view in
    let sink = g.O.Sink.view in
    let stand = g.E.HeldEngine.stand in
    let keep = g.E.HeldEngine.keep_of in
    let flow = g.E.HeldEngine.flow_of in
    let texts = held_texts_of c.args.flow c.args.batches.now c.args.plan.now in
    let before = sink c.args.out.now in
    let so_far = c.loop-item.invariant in
    let k = c.in_err-advance.ensures in
    let mid = sink c.loop-item.out in
    let after = sink c.advance.new.out in
    let old = (view c.loop-item.store).records in
    let new = (view c.advance.new.store).records in
    rw (p.1, p.2) (λ starts found kept few h told.
    let b = so_far.begun starts found kept few h (k.told_before told) in
    ends_on stand keep flow (Unit {0}) HeldCounts texts starts found kept old new before mid after c.loop-item.engine c.loop-item.place c.in_err-advance.field-0.0 _ (IsAtEnd texts) b
    (k.made texts (starts + 1) b.now b.last c.requires.plan (omega (arith, few)) b.under_way told))

pub returns-in_err-advance-clause-foreign : goal.returns-in_err-advance-clause-foreign
returns-in_err-advance-clause-foreign g c = λ f told. absurd (c.loop-item.invariant.not_foreign f (c.in_err-advance.ensures.told_before told))

pub returns-in_err-advance-clause-output : goal.returns-in_err-advance-clause-output
returns-in_err-advance-clause-output g c =
    let p = err_from_is_err_and c.from_residual-in_err-advance.result c.from_residual-in_err-advance.ensures.1 in
    let sink = g.O.Sink.view in
    rw (p.1, p.2) (counts_on (Unit {0}) HeldCounts c.in_err-advance.field-0.0 (sink c.args.out.now) (sink c.loop-item.out) (sink c.advance.new.out) c.loop-item.invariant.counts
    c.in_err-advance.ensures.output)

pub returns-in_err-advance-clause-of_root : goal.returns-in_err-advance-clause-of_root
returns-in_err-advance-clause-of_root g c =
    let p = err_from_is_err_and c.from_residual-in_err-advance.result c.from_residual-in_err-advance.ensures.1 in
    rw (p.1, p.2) (λ r. absurd (no_root_passed (Unit {0}) HeldCounts c.in_err-advance.field-0.0 c.in_err-advance.ensures.of_root r))

pub returns-in_err-advance-clause-damaged_root : goal.returns-in_err-advance-clause-damaged_root
returns-in_err-advance-clause-damaged_root g c =
    let p = err_from_is_err_and c.from_residual-in_err-advance.result c.from_residual-in_err-advance.ensures.1 in
    let fault = c.in_err-advance.field-0.0 in
    rw (p.1, p.2) (λ id e. absurd (no_root_passed (Unit {0}) HeldCounts fault c.in_err-advance.ensures.of_root (of_damaged_root HeldCounts (Err fault) id e)))

pub returns-in_err-advance-clause-foreign_root : goal.returns-in_err-advance-clause-foreign_root
returns-in_err-advance-clause-foreign_root g c =
    let p = err_from_is_err_and c.from_residual-in_err-advance.result c.from_residual-in_err-advance.ensures.1 in
    let fault = c.in_err-advance.field-0.0 in
    rw (p.1, p.2) (λ e. absurd (no_root_passed (Unit {0}) HeldCounts fault c.in_err-advance.ensures.of_root (of_foreign_root HeldCounts (Err fault) e)))

pub returns-in_err-advance-clause-damaged : goal.returns-in_err-advance-clause-damaged
returns-in_err-advance-clause-damaged g c =
    let p = err_from_is_err_and c.from_residual-in_err-advance.result c.from_residual-in_err-advance.ensures.1 in
    let fault = c.in_err-advance.field-0.0 in
    rw (p.1, p.2) (λ id e. c.in_err-advance.ensures.damaged id (err_alike HeldCounts (Unit {0}) fault (Engine (Damaged id)) e))

pub returns-in_err-advance-clause-told_before : goal.returns-in_err-advance-clause-told_before
returns-in_err-advance-clause-told_before g c = λ told. c.loop-item.invariant.told_before (c.in_err-advance.ensures.told_before told)

pub returns-in_err-advance-clause-faults : goal.returns-in_err-advance-clause-faults
returns-in_err-advance-clause-faults g c =
    let p = err_from_is_err_and c.from_residual-in_err-advance.result c.from_residual-in_err-advance.ensures.1 in
    let fault = c.in_err-advance.field-0.0 in
    rw (p.1, p.2) (c.in_err-advance.ensures.faults ∙ ap (λ n. faults_after_hold {T = Unit {0}} (Err fault) n) c.loop-item.invariant.faults
    ∙ hold_faults (Unit {0}) HeldCounts fault (g.K.Store.view c.args.store.now).faults)

pub returns-clause-ends : goal.returns-clause-ends
returns-clause-ends g c =
    let view = g.K.Store.view in
    let sink = g.O.Sink.view in
    let stand = g.E.HeldEngine.stand in
    let keep = g.E.HeldEngine.keep_of in
    let flow = g.E.HeldEngine.flow_of in
    let texts = held_texts_of c.args.flow c.args.batches.now c.args.plan.now in
    let before = sink c.args.out.now in
    let so_far = c.loop-item.invariant in
    let place = c.loop-item.place in
    let now = (view c.loop-item.store).records in
    let after = sink c.loop-item.out in
    let end = ltb-false place.ended (length c.args.plan.now.items.now) (sym c.in_default.ensures.lookup.0) in
    λ starts found kept few h told.
    subst (λ (counts : HeldCounts). EndsStart {T = HeldCounts} texts starts found kept (Ok counts) now before after (IsAtEnd texts)) (sym c.counts.ensures)
    (ends_well stand keep flow texts starts found kept now before after c.loop-item.engine place end (so_far.begun starts found kept few h told))

pub returns-clause-foreign : goal.returns-clause-foreign
returns-clause-foreign g c = λ f told. absurd (c.loop-item.invariant.not_foreign f told)

pub returns-clause-output : goal.returns-clause-output
returns-clause-output g c = c.loop-item.invariant.counts

pub returns-clause-of_root : goal.returns-clause-of_root
returns-clause-of_root g c =
    λ r. absurd r

pub returns-clause-told_before : goal.returns-clause-told_before
returns-clause-told_before g c = c.loop-item.invariant.told_before

pub returns-clause-faults : goal.returns-clause-faults
returns-clause-faults g c = c.loop-item.invariant.faults
