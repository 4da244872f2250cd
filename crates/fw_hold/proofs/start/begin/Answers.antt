use Rattle.std.proofs.Common.{◌≡◌, inr, Option, Some, None, Err, refl, sym, subst, rules}
use Rattle.std.proofs.lemmas.Result.{err_from_is_err_and}
use Rattle.std.specs.Prelude.{IfErr, IfOk}
use Rattle.fw_running.specs.declared.fault.EngineFault.TheVariants.{Damaged, NoMemory}
use Rattle.fw_root.specs.declared.root.Root.{Root}
use Rattle.fw_hold.specs.declared.fault.HoldFault.{HoldFault}
use Rattle.fw_hold.specs.declared.fault.HoldFault.TheVariants.{Engine, ForeignRoot}
use Rattle.fw_hold.specs.declared.found.FoundRoot.{FoundRoot}
use Rattle.fw_hold.specs.declared.place.HeldCounts.{HeldCounts}
use Rattle.fw_hold.specs.declared.place.SchedulePlace.{SchedulePlace}
use Rattle.fw_hold.specs.Going.{HasRoomIn}
use Rattle.fw_hold.specs.Found.{HasGreatestTurn, HasNoneFound, IsFoundRoot}
use Rattle.fw_hold.specs.Hold.{IsAtEnd}
use Rattle.fw_hold.specs.Starting.{EndsStart, HasBegun, IsKeptIn, held_texts_of}
use Rattle.fw_hold.proofs.BegunLaws.{ends_unopened, found_later}
use Rattle.fw_hold.proofs.FaultLaws.{counts_stay, damage_passed, damaged_no_root, foreign_passed, memory_no_root, memory_not_foreign, memory_undamaged, of_damaged_root, of_foreign_root, of_put, store_foreign, store_not_foreign, store_not_out, store_undamaged}
use Rattle.fw_hold.proofs.GreatestLaws.{of_none, of_some}
use Rattle.fw_hold.proofs.RoomLaws.{room_first}
use Rattle.fw_hold.proofs.RunLaws.{err_alike}
use Rattle.fw_hold.proofs.StartLaws.{begun_first, broken_given, foreign_found, foreign_given, foreign_there, foreign_undamaged, found_is_kept, found_named, found_now, kept_undamaged, none_given}
use Rattle.fw_hold.proofs.start.begin.Goals as goal

pub returns-in_err-found-clause-ended : goal.returns-in_err-found-clause-ended
returns-in_err-found-clause-ended g c =
    let p = err_from_is_err_and c.from_residual.result c.from_residual.ensures.1 in
    let view = g.K.Store.view in
    let plan = c.args.plan.now in
    let texts = held_texts_of c.args.flow c.args.batches.now plan in
    let old = (view c.args.store.now).records in
    let new = (view c.counted_root.new.store).records in
    let out = g.O.Sink.view c.args.out.now in
    let fault = c.in_err-found.field-0.0 in
    let stay = c.in_err-found.ensures.stays in
    rw (p.1, p.2) (λ starts found kept few h told.
    ends_unopened HeldCounts texts starts found kept fault new out (IsAtEnd texts)
    (of_put (Option FoundRoot) fault c.in_err-found.ensures.only (λ id e. kept_undamaged texts starts old new found kept id (view c.counted_root.new.store).given h stay told (c.in_err-found.ensures.damaged id e)))
    (found_later texts starts new found kept (found_now texts starts old new found kept h stay told)))

pub returns-in_err-found-clause-foreign : goal.returns-in_err-found-clause-foreign
returns-in_err-found-clause-foreign g c =
    let p = err_from_is_err_and c.from_residual.result c.from_residual.ensures.1 in
    let view = g.K.Store.view in
    let plan = c.args.plan.now in
    let texts = held_texts_of c.args.flow c.args.batches.now plan in
    let old = (view c.args.store.now).records in
    let new = (view c.counted_root.new.store).records in
    let out = g.O.Sink.view c.args.out.now in
    let fault = c.in_err-found.field-0.0 in
    rw (p.1, p.2) (λ f told. (
      store_foreign _ fault
          (of_put (Option FoundRoot) fault c.in_err-found.ensures.only
          (λ id e. foreign_undamaged plan.digests old new id (view c.counted_root.new.store).given f c.in_err-found.ensures.stays told (c.in_err-found.ensures.damaged id e))),
      refl,
      c.in_err-found.ensures.stays told,
    ))

pub returns-in_err-found-clause-output : goal.returns-in_err-found-clause-output
returns-in_err-found-clause-output g c =
    let p = err_from_is_err_and c.from_residual.result c.from_residual.ensures.1 in
    let fault = c.in_err-found.field-0.0 in
    rw (p.1, p.2) (counts_stay (Option FoundRoot) (g.row.E.Denot × SchedulePlace) fault (g.O.Sink.view c.args.out.now) (store_not_out (Option FoundRoot) fault c.in_err-found.ensures.only))

pub returns-in_err-found-clause-of_root : goal.returns-in_err-found-clause-of_root
returns-in_err-found-clause-of_root g c =
    λ r. (refl, c.in_err-found.ensures.stays)

pub returns-in_err-found-clause-damaged_root : goal.returns-in_err-found-clause-damaged_root
returns-in_err-found-clause-damaged_root g c =
    let p = err_from_is_err_and c.from_residual.result c.from_residual.ensures.1 in
    let view = g.K.Store.view c.counted_root.new.store in
    let texts = held_texts_of c.args.flow c.args.batches.now c.args.plan.now in
    rw (p.1, p.2) (λ id e. none_given texts view.records id view.given (c.in_err-found.ensures.damaged id (damage_passed (g.row.E.Denot × SchedulePlace) (Option FoundRoot) c.in_err-found.field-0.0 id e)))

pub returns-in_err-found-clause-foreign_root : goal.returns-in_err-found-clause-foreign_root
returns-in_err-found-clause-foreign_root g c =
    let p = err_from_is_err_and c.from_residual.result c.from_residual.ensures.1 in
    rw (p.1, p.2) (λ e. absurd (store_not_foreign (Option FoundRoot) (g.row.E.Denot × SchedulePlace) c.in_err-found.field-0.0 c.in_err-found.ensures.only e))

pub returns-in_err-found-clause-damaged : goal.returns-in_err-found-clause-damaged
returns-in_err-found-clause-damaged g c =
    let p = err_from_is_err_and c.from_residual.result c.from_residual.ensures.1 in
    rw (p.1, p.2) (λ id e. absurd (store_undamaged (Option FoundRoot) (g.row.E.Denot × SchedulePlace) c.in_err-found.field-0.0 c.in_err-found.ensures.only id e))

pub returns-in_err-fresh-clause-ended : goal.returns-in_err-fresh-clause-ended
returns-in_err-fresh-clause-ended g c =
    let p = err_from_is_err_and c.from_residual-in_err-fresh.result c.from_residual-in_err-fresh.ensures.1 in
    let view = g.K.Store.view in
    let plan = c.args.plan.now in
    let texts = held_texts_of c.args.flow c.args.batches.now plan in
    let old = (view c.args.store.now).records in
    let new = (view c.counted_root.new.store).records in
    let out = g.O.Sink.view c.args.out.now in
    rw (p.1, p.2) (λ starts found kept few h told.
    ends_unopened HeldCounts texts starts found kept (Engine NoMemory) new out (IsAtEnd texts) tt
    (found_later texts starts new found kept (found_now texts starts old new found kept h c.in_ok-found.ensures.stays told)))

pub returns-in_err-fresh-clause-foreign : goal.returns-in_err-fresh-clause-foreign
returns-in_err-fresh-clause-foreign g c =
    let p = err_from_is_err_and c.from_residual-in_err-fresh.result c.from_residual-in_err-fresh.ensures.1 in
    rw (p.1, p.2) (λ f told. (inr (inr refl), refl, c.in_ok-found.ensures.stays told))

pub returns-in_err-fresh-clause-of_root : goal.returns-in_err-fresh-clause-of_root
returns-in_err-fresh-clause-of_root g c =
    λ r. (refl, c.in_ok-found.ensures.stays)

pub returns-in_err-fresh-clause-damaged_root : goal.returns-in_err-fresh-clause-damaged_root
returns-in_err-fresh-clause-damaged_root g c =
    let p = err_from_is_err_and c.from_residual-in_err-fresh.result c.from_residual-in_err-fresh.ensures.1 in
    rw (p.1, p.2) (λ id e. absurd (memory_no_root (g.row.E.Denot × SchedulePlace) id e))

pub returns-in_err-fresh-clause-foreign_root : goal.returns-in_err-fresh-clause-foreign_root
returns-in_err-fresh-clause-foreign_root g c =
    let p = err_from_is_err_and c.from_residual-in_err-fresh.result c.from_residual-in_err-fresh.ensures.1 in
    rw (p.1, p.2) (λ e. absurd (memory_not_foreign (g.row.E.Denot × SchedulePlace) e))

pub returns-in_err-fresh-clause-damaged : goal.returns-in_err-fresh-clause-damaged
returns-in_err-fresh-clause-damaged g c =
    let p = err_from_is_err_and c.from_residual-in_err-fresh.result c.from_residual-in_err-fresh.ensures.1 in
    rw (p.1, p.2) (λ id e. absurd (memory_undamaged (g.row.E.Denot × SchedulePlace) id e))

pub returns-in_default-clause-stored : goal.returns-in_default-clause-stored
returns-in_default-clause-stored g c = c.in_ok-fresh.ensures.stored (g.K.Store.view c.counted_root.new.store).records

pub returns-in_default-clause-room : goal.returns-in_default-clause-room
returns-in_default-clause-room g c =
    let next = (g.E.HeldEngine.keep_of c.in_ok-fresh.field-0).next in
    subst (λ s. HasRoomIn c.args.plan.now.items.now s next) (sym c.first.ensures)
    (room_first c.args.plan.now.items.now c.args.plan.now.numbers.now next c.requires.plan.few c.requires.plan.ascending c.requires.plan.one_each c.are_small.ensures c.in_ok-fresh.ensures.next)

pub returns-in_default-clause-begun : goal.returns-in_default-clause-begun
returns-in_default-clause-begun g c =
    let view = g.K.Store.view in
    let plan = c.args.plan.now in
    let texts = held_texts_of c.args.flow c.args.batches.now plan in
    let old = (view c.args.store.now).records in
    let new = (view c.counted_root.new.store).records in
    let out = g.O.Sink.view c.args.out.now in
    let none : c.in_ok-found.field-0 ≡ None = search rules in
    let none_found = of_none HoldFault (HasNoneFound new) c.in_ok-found.field-0 none c.in_ok-found.ensures.none in
    λ starts found kept few h told.
    subst (λ s. HasBegun g.E.HeldEngine.stand g.E.HeldEngine.keep_of g.E.HeldEngine.flow_of texts starts found kept new out out c.in_ok-fresh.field-0 s) (sym c.first.ensures)
    (begun_first g.E.HeldEngine.stand g.E.HeldEngine.keep_of g.E.HeldEngine.flow_of texts starts found kept old new out c.in_ok-fresh.field-0 h c.in_ok-found.ensures.stays told none_found
    (c.in_ok-fresh.ensures.stands new) c.in_ok-fresh.ensures.flow c.in_ok-fresh.ensures.next)

pub returns-in_default-clause-foreign : goal.returns-in_default-clause-foreign
returns-in_default-clause-foreign g c =
    let view = g.K.Store.view in
    let plan = c.args.plan.now in
    let texts = held_texts_of c.args.flow c.args.batches.now plan in
    let old = (view c.args.store.now).records in
    let new = (view c.counted_root.new.store).records in
    let out = g.O.Sink.view c.args.out.now in
    let none : c.in_ok-found.field-0 ≡ None = search rules in
    let none_found = of_none HoldFault (HasNoneFound new) c.in_ok-found.field-0 none c.in_ok-found.ensures.none in
    λ f told. absurd (foreign_there plan.digests old new f c.in_ok-found.ensures.stays told none_found)

pub returns-in_default-clause-of_root : goal.returns-in_default-clause-of_root
returns-in_default-clause-of_root g c =
    λ r. absurd r

pub returns-in_err-root-clause-ended : goal.returns-in_err-root-clause-ended
returns-in_err-root-clause-ended g c =
    let p = err_from_is_err_and c.from_residual-in_err-root.result c.from_residual-in_err-root.ensures.1 in
    let view = g.K.Store.view in
    let plan = c.args.plan.now in
    let texts = held_texts_of c.args.flow c.args.batches.now plan in
    let old = (view c.args.store.now).records in
    let new = (view c.counted_root.new.store).records in
    let out = g.O.Sink.view c.args.out.now in
    let found_root = c.in-Some.found in
    let stay = c.in_ok-found.ensures.stays in
    let is = of_some (IsFoundRoot new) c.in_ok-found.field-0 found_root c.in-Some.is c.in_ok-found.ensures.found in
    let greatest = of_some (λ (f : FoundRoot). HasGreatestTurn new f.head) c.in_ok-found.field-0 found_root c.in-Some.is c.in_ok-found.ensures.greatest in
    let fault = c.in_err-root.field-0.0 in
    rw (p.1, p.2) (λ starts found kept few h told.
    let k = found_is_kept texts starts old new found kept found_root h stay told is greatest in
    let memory : fault ≡ Engine NoMemory = c.in_err-root.ensures.only k.1 k.2.2.of_texts k.3 k.4 in
    subst (λ f. EndsStart {T = HeldCounts} texts starts found kept (Err f) new out out (IsAtEnd texts)) (sym memory)
    (ends_unopened HeldCounts texts starts found kept (Engine NoMemory) new out (IsAtEnd texts) tt (found_later texts starts new found kept (found_now texts starts old new found kept h stay told))))

pub returns-in_err-root-clause-foreign : goal.returns-in_err-root-clause-foreign
returns-in_err-root-clause-foreign g c =
    let p = err_from_is_err_and c.from_residual-in_err-root.result c.from_residual-in_err-root.ensures.1 in
    let view = g.K.Store.view in
    let plan = c.args.plan.now in
    let texts = held_texts_of c.args.flow c.args.batches.now plan in
    let old = (view c.args.store.now).records in
    let new = (view c.counted_root.new.store).records in
    let out = g.O.Sink.view c.args.out.now in
    let found_root = c.in-Some.found in
    let stay = c.in_ok-found.ensures.stays in
    let is = of_some (IsFoundRoot new) c.in_ok-found.field-0 found_root c.in-Some.is c.in_ok-found.ensures.found in
    let greatest = of_some (λ (f : FoundRoot). HasGreatestTurn new f.head) c.in_ok-found.field-0 found_root c.in-Some.is c.in_ok-found.ensures.greatest in
    rw (p.1, p.2) (λ f told. (foreign_passed Root _ c.in_err-root.field-0.0 (c.in_err-root.ensures.foreign (foreign_found plan.digests old new found_root f stay told is greatest)), refl, stay told))

pub returns-in_err-root-clause-output : goal.returns-in_err-root-clause-output
returns-in_err-root-clause-output g c =
    let p = err_from_is_err_and c.from_residual-in_err-root.result c.from_residual-in_err-root.ensures.1 in
    rw (p.1, p.2) (counts_stay Root (g.row.E.Denot × SchedulePlace) c.in_err-root.field-0.0 (g.O.Sink.view c.args.out.now) c.in_err-root.ensures.not_out)

pub returns-in_err-root-clause-of_root : goal.returns-in_err-root-clause-of_root
returns-in_err-root-clause-of_root g c =
    λ r. (refl, c.in_ok-found.ensures.stays)

pub returns-in_err-root-clause-damaged_root : goal.returns-in_err-root-clause-damaged_root
returns-in_err-root-clause-damaged_root g c =
    let p = err_from_is_err_and c.from_residual-in_err-root.result c.from_residual-in_err-root.ensures.1 in
    let found_root = c.in-Some.found in
    let view = g.K.Store.view c.counted_root.new.store in
    let is = of_some (IsFoundRoot view.records) c.in_ok-found.field-0 found_root c.in-Some.is c.in_ok-found.ensures.found in
    let gave = of_some (λ (f : FoundRoot). view.given ≡ Some (f.id, f.bytes.items)) c.in_ok-found.field-0 found_root c.in-Some.is c.in_ok-found.ensures.given in
    let fault = c.in_err-root.field-0.0 in
    let texts = held_texts_of c.args.flow c.args.batches.now c.args.plan.now in
    rw (p.1, p.2) (λ id e.
    let d = c.in_err-root.ensures.damaged id (damage_passed (g.row.E.Denot × SchedulePlace) Root fault id e) in
    broken_given texts view.records found_root id view.given is gave d.0 d.1
    (λ root sound spelled. damaged_no_root (g.row.E.Denot × SchedulePlace) fault id (c.in_err-root.ensures.only root sound spelled d.1) e))

pub returns-in_err-root-clause-foreign_root : goal.returns-in_err-root-clause-foreign_root
returns-in_err-root-clause-foreign_root g c =
    let p = err_from_is_err_and c.from_residual-in_err-root.result c.from_residual-in_err-root.ensures.1 in
    let found_root = c.in-Some.found in
    let view = g.K.Store.view c.counted_root.new.store in
    let is = of_some (IsFoundRoot view.records) c.in_ok-found.field-0 found_root c.in-Some.is c.in_ok-found.ensures.found in
    let gave = of_some (λ (f : FoundRoot). view.given ≡ Some (f.id, f.bytes.items)) c.in_ok-found.field-0 found_root c.in-Some.is c.in_ok-found.ensures.given in
    let fault = c.in_err-root.field-0.0 in
    rw (p.1, p.2) (λ e. foreign_given c.args.plan.now.digests view.records found_root view.given is gave (c.in_err-root.ensures.other (err_alike (g.row.E.Denot × SchedulePlace) Root fault ForeignRoot e)))

pub returns-in_err-root-clause-damaged : goal.returns-in_err-root-clause-damaged
returns-in_err-root-clause-damaged g c =
    let p = err_from_is_err_and c.from_residual-in_err-root.result c.from_residual-in_err-root.ensures.1 in
    rw (p.1, p.2) (λ id e. absurd (c.in_err-root.ensures.undamaged id (err_alike (g.row.E.Denot × SchedulePlace) Root c.in_err-root.field-0.0 (Engine (Damaged id)) e)))

pub resume_from-requires-clause-there : goal.resume_from-requires-clause-there
resume_from-requires-clause-there g c =
    let view = g.K.Store.view in
    let plan = c.args.plan.now in
    let texts = held_texts_of c.args.flow c.args.batches.now plan in
    let old = (view c.args.store.now).records in
    let new = (view c.counted_root.new.store).records in
    let out = g.O.Sink.view c.args.out.now in
    let found_root = c.in-Some.found in
    let stay = c.in_ok-found.ensures.stays in
    let is = of_some (IsFoundRoot new) c.in_ok-found.field-0 found_root c.in-Some.is c.in_ok-found.ensures.found in
    let greatest = of_some (λ (f : FoundRoot). HasGreatestTurn new f.head) c.in_ok-found.field-0 found_root c.in-Some.is c.in_ok-found.ensures.greatest in
    found_named texts old new found_root c.in_ok-root.root c.requires.store stay is greatest c.in_ok-root.ensures.of_texts
    (λ r sound spelled. c.in_ok-root.ensures.only r sound spelled c.in_ok-root.ensures.of_texts)

pub returns-clause-begun : goal.returns-clause-begun
returns-clause-begun g c =
    let view = g.K.Store.view in
    let plan = c.args.plan.now in
    let texts = held_texts_of c.args.flow c.args.batches.now plan in
    let old = (view c.args.store.now).records in
    let new = (view c.counted_root.new.store).records in
    let out = g.O.Sink.view c.args.out.now in
    let found_root = c.in-Some.found in
    let stay = c.in_ok-found.ensures.stays in
    let is = of_some (IsFoundRoot new) c.in_ok-found.field-0 found_root c.in-Some.is c.in_ok-found.ensures.found in
    let greatest = of_some (λ (f : FoundRoot). HasGreatestTurn new f.head) c.in_ok-found.field-0 found_root c.in-Some.is c.in_ok-found.ensures.greatest in
    let root = c.in_ok-root.root in
    let after = (view c.resume_from.new.store).records in
    λ starts found kept few h told.
    let told_mid = c.resume_from.ensures.told_before told in
    let k = found_is_kept texts starts old new found kept found_root h stay told_mid is greatest in
    let same : root ≡ k.1 = c.in_ok-root.ensures.only k.1 k.2.2.of_texts k.3 c.in_ok-root.ensures.of_texts in
    subst (λ f. IfOk c.resume_from.result (λ begun. HasBegun g.E.HeldEngine.stand g.E.HeldEngine.keep_of g.E.HeldEngine.flow_of texts starts f kept after out (g.O.Sink.view c.resume_from.new.out) begun.0 begun.1))
    (sym k.0) (c.resume_from.ensures.begun starts kept few (subst (λ r. IsKeptIn texts starts new kept r) (sym same) k.2) told)

pub returns-clause-ended : goal.returns-clause-ended
returns-clause-ended g c =
    let view = g.K.Store.view in
    let plan = c.args.plan.now in
    let texts = held_texts_of c.args.flow c.args.batches.now plan in
    let old = (view c.args.store.now).records in
    let new = (view c.counted_root.new.store).records in
    let out = g.O.Sink.view c.args.out.now in
    let found_root = c.in-Some.found in
    let stay = c.in_ok-found.ensures.stays in
    let is = of_some (IsFoundRoot new) c.in_ok-found.field-0 found_root c.in-Some.is c.in_ok-found.ensures.found in
    let greatest = of_some (λ (f : FoundRoot). HasGreatestTurn new f.head) c.in_ok-found.field-0 found_root c.in-Some.is c.in_ok-found.ensures.greatest in
    let root = c.in_ok-root.root in
    let after = (view c.resume_from.new.store).records in
    λ starts found kept few h told.
    let told_mid = c.resume_from.ensures.told_before told in
    let k = found_is_kept texts starts old new found kept found_root h stay told_mid is greatest in
    let same : root ≡ k.1 = c.in_ok-root.ensures.only k.1 k.2.2.of_texts k.3 c.in_ok-root.ensures.of_texts in
    subst (λ f. IfErr c.resume_from.result (λ fault. EndsStart {T = HeldCounts} texts starts f kept (Err fault) after out (g.O.Sink.view c.resume_from.new.out) (IsAtEnd texts)))
    (sym k.0) (c.resume_from.ensures.ended starts kept few (subst (λ r. IsKeptIn texts starts new kept r) (sym same) k.2) told)

pub returns-clause-foreign : goal.returns-clause-foreign
returns-clause-foreign g c =
    let view = g.K.Store.view in
    let plan = c.args.plan.now in
    let texts = held_texts_of c.args.flow c.args.batches.now plan in
    let old = (view c.args.store.now).records in
    let new = (view c.counted_root.new.store).records in
    let out = g.O.Sink.view c.args.out.now in
    let found_root = c.in-Some.found in
    let stay = c.in_ok-found.ensures.stays in
    let is = of_some (IsFoundRoot new) c.in_ok-found.field-0 found_root c.in-Some.is c.in_ok-found.ensures.found in
    let greatest = of_some (λ (f : FoundRoot). HasGreatestTurn new f.head) c.in_ok-found.field-0 found_root c.in-Some.is c.in_ok-found.ensures.greatest in
    λ f told. absurd (foreign_found plan.digests old new found_root f stay (c.resume_from.ensures.told_before told) is greatest c.in_ok-root.ensures.of_texts)

pub returns-clause-of_root : goal.returns-clause-of_root
returns-clause-of_root g c =
    λ r. absurd (c.resume_from.ensures.of_root r)

pub returns-clause-damaged_root : goal.returns-clause-damaged_root
returns-clause-damaged_root g c =
    λ id e. absurd (c.resume_from.ensures.of_root (of_damaged_root (g.row.E.Denot × SchedulePlace) c.resume_from.result id e))

pub returns-clause-foreign_root : goal.returns-clause-foreign_root
returns-clause-foreign_root g c =
    λ e. absurd (c.resume_from.ensures.of_root (of_foreign_root (g.row.E.Denot × SchedulePlace) c.resume_from.result e))
