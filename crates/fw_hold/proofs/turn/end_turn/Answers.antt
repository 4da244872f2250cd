use Rattle.std.proofs.Common.{◌+◌, inl, inr, IsSome, Ok, Err, refl, sym, ◌∙◌, ap, subst}
use Rattle.std.proofs.lemmas.Result.{err_from_is_err_and}
use Rattle.fw_command.specs.Writing.{IsWritten}
use Rattle.fw_running.specs.declared.fault.EngineFault.TheVariants.{NoMemory}
use Rattle.fw_running.specs.EffectText.{outcome_text}
use Rattle.fw_running.specs.Steps.{outcome_of}
use Rattle.fw_hold.specs.declared.fault.HoldFault.TheVariants.{Engine}
use Rattle.fw_hold.specs.Engine.{EntriesAreThere, KeepsEntryBytes}
use Rattle.fw_hold.specs.Faults.{faults_after_hold}
use Rattle.fw_hold.specs.Found.{ChangesOnly, IsLeftOrGone}
use Rattle.fw_hold.specs.Going.{IsOneTurn, IsRunAt, TellsLines}
use Rattle.fw_hold.specs.Kept.{root_id, system_in}
use Rattle.fw_hold.specs.Place.{place_with_turn}
use Rattle.fw_hold.proofs.EndLaws.{IsPut, goes_on, lines_put, lines_told, no_turn, not_put, root_is_other, swept, text_told, turn_cut, turn_of}
use Rattle.fw_hold.proofs.FaultLaws.{damage_in, memory_undamaged, of_put, put_no_root, step_faults, store_undamaged, tells_counts, tells_faults, tells_no_root, tells_undamaged, undamaged_is, wrote_all, wrote_first}
use Rattle.fw_hold.proofs.turn.end_turn.Goals.{then-collects+in_ok-sweep, else-collects}
use Rattle.fw_hold.proofs.turn.end_turn.Goals as goal

pub returns-in_err-lines-clause-turned : goal.returns-in_err-lines-clause-turned
returns-in_err-lines-clause-turned g c =
    let p = err_from_is_err_and c.from_residual.result c.from_residual.ensures.1 in
    let stand = g.E.HeldEngine.stand in
    let keep = g.E.HeldEngine.keep_of in
    let flow = g.E.HeldEngine.flow_of in
    let engine = c.args.engine.now in
    let place = c.args.place.now in
    let outcome = outcome_of c.args.stepped in
    let old = (g.K.Store.view c.args.store.now).records in
    rw (p.1, p.2) (λ texts starts kept from to move is_plan made told.
    no_turn stand keep flow (Unit {0}) (IsOneTurn {T = Unit {0}} move (Err (Engine NoMemory))) texts starts old engine place kept from move to outcome NoMemory (g.O.Sink.view c.args.out.now) _ (inl refl) tt made)

pub returns-in_err-lines-clause-undamaged : goal.returns-in_err-lines-clause-undamaged
returns-in_err-lines-clause-undamaged g c =
    let p = err_from_is_err_and c.from_residual.result c.from_residual.ensures.1 in
    rw (p.1, p.2) (memory_undamaged (Unit {0}))

pub returns-in_err-root-clause-turned : goal.returns-in_err-root-clause-turned
returns-in_err-root-clause-turned g c =
    let p = err_from_is_err_and c.from_residual-in_err-root.result c.from_residual-in_err-root.ensures.1 in
    let stand = g.E.HeldEngine.stand in
    let keep = g.E.HeldEngine.keep_of in
    let flow = g.E.HeldEngine.flow_of in
    let engine = c.args.engine.now in
    let place = c.args.place.now in
    let outcome = outcome_of c.args.stepped in
    let old = (g.K.Store.view c.args.store.now).records in
    rw (p.1, p.2) (λ texts starts kept from to move is_plan made told.
    no_turn stand keep flow (Unit {0}) (IsOneTurn {T = Unit {0}} move (Err (Engine NoMemory))) texts starts old engine place kept from move to outcome NoMemory (g.O.Sink.view c.args.out.now) _ (inl refl) tt made)

pub returns-in_err-root-clause-undamaged : goal.returns-in_err-root-clause-undamaged
returns-in_err-root-clause-undamaged g c =
    let p = err_from_is_err_and c.from_residual-in_err-root.result c.from_residual-in_err-root.ensures.1 in
    rw (p.1, p.2) (memory_undamaged (Unit {0}))

pub returns-in_err-put_root-clause-turned : goal.returns-in_err-put_root-clause-turned
returns-in_err-put_root-clause-turned g c =
    let p = err_from_is_err_and c.from_residual-in_err-put_root.result c.from_residual-in_err-put_root.ensures.1 in
    let stand = g.E.HeldEngine.stand in
    let keep = g.E.HeldEngine.keep_of in
    let flow = g.E.HeldEngine.flow_of in
    let engine = c.args.engine.now in
    let place = c.args.place.now in
    let outcome = outcome_of c.args.stepped in
    let old = (g.K.Store.view c.args.store.now).records in
    let plan = c.args.plan.now in
    let root = c.in_ok-root.root in
    let mid = (g.K.Store.view c.put_root.new.store).records in
    let fault = c.in_err-put_root.field-0.0 in
    let turn = turn_of stand keep flow engine plan place c.in_ok-lines.lines c.mark_of.result root c.mark_of.ensures.exact c.in_ok-root.ensures in
    rw (p.1, p.2) (λ texts starts kept from to move is_plan made told.
    not_put stand keep flow (Unit {0}) (IsOneTurn {T = Unit {0}} move (Err fault)) texts starts old mid engine place kept from move to outcome fault (g.O.Sink.view c.args.out.now) _ (inl refl)
    (of_put (Unit {0}) fault c.in_err-put_root.ensures.only c.in_err-put_root.ensures.undamaged) made (subst (λ t. ChangesOnly (root_id t) old mid) turn c.in_err-put_root.ensures.others)
    (subst (λ t. IsLeftOrGone (root_id t) old mid) turn c.in_err-put_root.ensures.refused) told)

pub returns-in_err-put_root-clause-of_root : goal.returns-in_err-put_root-clause-of_root
returns-in_err-put_root-clause-of_root g c =
    let p = err_from_is_err_and c.from_residual-in_err-put_root.result c.from_residual-in_err-put_root.ensures.1 in
    let fault = c.in_err-put_root.field-0.0 in
    rw (p.1, p.2) (put_no_root (Unit {0}) fault (of_put (Unit {0}) fault c.in_err-put_root.ensures.only c.in_err-put_root.ensures.undamaged))

pub returns-in_err-put_root-clause-undamaged : goal.returns-in_err-put_root-clause-undamaged
returns-in_err-put_root-clause-undamaged g c =
    let p = err_from_is_err_and c.from_residual-in_err-put_root.result c.from_residual-in_err-put_root.ensures.1 in
    rw (p.1, p.2) (store_undamaged (Unit {0}) (Unit {0}) c.in_err-put_root.field-0.0 c.in_err-put_root.ensures.only)

pub returns-in_err-tell-clause-turned : goal.returns-in_err-tell-clause-turned
returns-in_err-tell-clause-turned g c =
    let p = err_from_is_err_and c.from_residual-in_err-tell.result c.from_residual-in_err-tell.ensures.1 in
    let stand = g.E.HeldEngine.stand in
    let keep = g.E.HeldEngine.keep_of in
    let flow = g.E.HeldEngine.flow_of in
    let engine = c.args.engine.now in
    let place = c.args.place.now in
    let outcome = outcome_of c.args.stepped in
    let old = (g.K.Store.view c.args.store.now).records in
    let plan = c.args.plan.now in
    let root = c.in_ok-root.root in
    let mid = (g.K.Store.view c.put_root.new.store).records in
    let fault = c.in_err-tell.field-0.0 in
    let before = g.O.Sink.view c.args.out.now in
    let after = g.O.Sink.view c.tell.new.out in
    let text =
    lines_told stand keep flow engine plan place c.in_ok-lines.lines c.mark_of.result root c.as_slice.result.now c.flow.result.now outcome c.as_slice.ensures c.in_ok-root.ensures
    c.mark_of.ensures.exact c.in_ok-lines.ensures.text in
    rw (p.1, p.2) (λ texts starts kept from to move is_plan made told.
    let put = lines_put stand keep flow texts starts plan old mid engine place kept from move to outcome c.in_ok-lines.lines c.mark_of.result root c.flow.result.now is_plan made
    c.mark_of.ensures.exact c.in_ok-root.ensures c.mark_of.ensures.digests c.mark_of.ensures.line c.in_ok-lines.ensures.lines c.in_ok-lines.ensures.text c.flow.ensures
    c.in_ok-put_root.ensures.put c.in_ok-put_root.ensures.others told in
    let same = text_told texts c.as_slice.result.now c.flow.result.now (flow engine) outcome text c.flow.ensures made.flow in
    turn_cut stand keep flow (Unit {0}) (IsOneTurn {T = Unit {0}} move (Err fault)) texts starts old mid engine place kept from move to outcome (Err fault) before after _ put.held root made (inr refl) put.told put.kept
    (wrote_first (Unit {0}) (Unit {0}) (outcome_text texts.flow outcome) fault before after (subst (λ ls. TellsLines {T = Unit {0}} ls (Err fault) before after) same c.in_err-tell.ensures)) tt)

pub returns-in_err-tell-clause-output : goal.returns-in_err-tell-clause-output
returns-in_err-tell-clause-output g c =
    let p = err_from_is_err_and c.from_residual-in_err-tell.result c.from_residual-in_err-tell.ensures.1 in
    rw (p.1, p.2) (tells_counts (Unit {0}) (Unit {0}) c.as_slice.result.now c.in_err-tell.field-0.0 (g.O.Sink.view c.args.out.now) (g.O.Sink.view c.tell.new.out) c.in_err-tell.ensures)

pub returns-in_err-tell-clause-of_root : goal.returns-in_err-tell-clause-of_root
returns-in_err-tell-clause-of_root g c =
    let p = err_from_is_err_and c.from_residual-in_err-tell.result c.from_residual-in_err-tell.ensures.1 in
    rw (p.1, p.2) (tells_no_root (Unit {0}) (Unit {0}) c.as_slice.result.now c.in_err-tell.field-0.0 (g.O.Sink.view c.args.out.now) (g.O.Sink.view c.tell.new.out) c.in_err-tell.ensures)

pub returns-in_err-tell-clause-faults : goal.returns-in_err-tell-clause-faults
returns-in_err-tell-clause-faults g c =
    let p = err_from_is_err_and c.from_residual-in_err-tell.result c.from_residual-in_err-tell.ensures.1 in
    rw (p.1, p.2) (c.in_ok-put_root.ensures.faults
    ∙ tells_faults (Unit {0}) (Unit {0}) c.as_slice.result.now c.in_err-tell.field-0.0 (g.O.Sink.view c.args.out.now) (g.O.Sink.view c.tell.new.out) (g.K.Store.view c.args.store.now).faults c.in_err-tell.ensures)

pub returns-in_err-tell-clause-undamaged : goal.returns-in_err-tell-clause-undamaged
returns-in_err-tell-clause-undamaged g c =
    let p = err_from_is_err_and c.from_residual-in_err-tell.result c.from_residual-in_err-tell.ensures.1 in
    rw (p.1, p.2) (tells_undamaged (Unit {0}) (Unit {0}) c.as_slice.result.now c.in_err-tell.field-0.0 (g.O.Sink.view c.args.out.now) (g.O.Sink.view c.tell.new.out) c.in_err-tell.ensures)

pub sweep-requires : goal.sweep-requires
sweep-requires g c =
    let stand = g.E.HeldEngine.stand in
    let keep = g.E.HeldEngine.keep_of in
    let flow = g.E.HeldEngine.flow_of in
    let engine = c.args.engine.now in
    let place = c.args.place.now in
    let outcome = outcome_of c.args.stepped in
    let old = (g.K.Store.view c.args.store.now).records in
    let plan = c.args.plan.now in
    let root = c.in_ok-root.root in
    let mid = (g.K.Store.view c.put_root.new.store).records in
    let turn = turn_of stand keep flow engine plan place c.in_ok-lines.lines c.mark_of.result root c.mark_of.ensures.exact c.in_ok-root.ensures in
    let other : KeepsEntryBytes (keep engine) old mid =
    root_is_other stand keep engine (place.turn + 1) old mid c.stands_over_others.ensures c.requires.ids (subst (λ t. ChangesOnly (root_id t) old mid) turn c.in_ok-put_root.ensures.others) in
    record { stored = c.stands_over_others.ensures.stored old mid other c.requires.stored }

pub returns-in_err-sweep-clause-turned : goal.returns-in_err-sweep-clause-turned
returns-in_err-sweep-clause-turned g c =
    let p = err_from_is_err_and c.from_residual-in_err-sweep.result c.from_residual-in_err-sweep.ensures.1 in
    let stand = g.E.HeldEngine.stand in
    let keep = g.E.HeldEngine.keep_of in
    let flow = g.E.HeldEngine.flow_of in
    let engine = c.args.engine.now in
    let place = c.args.place.now in
    let outcome = outcome_of c.args.stepped in
    let old = (g.K.Store.view c.args.store.now).records in
    let plan = c.args.plan.now in
    let root = c.in_ok-root.root in
    let mid = (g.K.Store.view c.put_root.new.store).records in
    let fault = c.in_err-sweep.field-0.0 in
    let new = (g.K.Store.view c.sweep.new.store).records in
    let before = g.O.Sink.view c.args.out.now in
    let after = g.O.Sink.view c.tell.new.out in
    let text =
    lines_told stand keep flow engine plan place c.in_ok-lines.lines c.mark_of.result root c.as_slice.result.now c.flow.result.now outcome c.as_slice.ensures c.in_ok-root.ensures
    c.mark_of.ensures.exact c.in_ok-lines.ensures.text in
    rw (p.1, p.2) (λ texts starts kept from to move is_plan made told.
    let put = lines_put stand keep flow texts starts plan old mid engine place kept from move to outcome c.in_ok-lines.lines c.mark_of.result root c.flow.result.now is_plan made
    c.mark_of.ensures.exact c.in_ok-root.ensures c.mark_of.ensures.digests c.mark_of.ensures.line c.in_ok-lines.ensures.lines c.in_ok-lines.ensures.text c.flow.ensures
    c.in_ok-put_root.ensures.put c.in_ok-put_root.ensures.others (c.in_err-sweep.ensures.told_before told) in
    let later = swept keep texts starts mid new engine place to (outcome_text texts.flow outcome) root c.requires.ids c.in_err-sweep.ensures.others told put in
    let same = text_told texts c.as_slice.result.now c.flow.result.now (flow engine) outcome text c.flow.ensures made.flow in
    turn_cut stand keep flow (Unit {0}) (IsOneTurn {T = Unit {0}} move (Err (Engine fault))) texts starts old new engine place kept from move to outcome (Err (Engine fault)) before after _ later.held root made (inr refl)
    later.told later.kept (wrote_all (Unit {0}) (outcome_text texts.flow outcome) (outcome_text texts.flow outcome) fault before after (undamaged_is (Unit {0}) fault c.in_err-sweep.ensures.undamaged)
    (subst (λ ls. IsWritten ls before after) same c.in_ok-tell.ensures)) tt)

pub returns-in_err-sweep-clause-faults : goal.returns-in_err-sweep-clause-faults
returns-in_err-sweep-clause-faults g c =
    let p = err_from_is_err_and c.from_residual-in_err-sweep.result c.from_residual-in_err-sweep.ensures.1 in
    rw (p.1, p.2) (c.in_err-sweep.ensures.faults ∙ step_faults (Unit {0}) (Unit {0}) c.in_err-sweep.field-0.0 (g.K.Store.view c.put_root.new.store).faults
    ∙ ap (λ n. faults_after_hold {T = Unit {0}} (Err (Engine c.in_err-sweep.field-0.0)) n) c.in_ok-put_root.ensures.faults)

pub returns-in_err-sweep-clause-output : goal.returns-in_err-sweep-clause-output
returns-in_err-sweep-clause-output g c =
    let p = err_from_is_err_and c.from_residual-in_err-sweep.result c.from_residual-in_err-sweep.ensures.1 in
    rw (p.1, p.2) (record { faults = c.in_ok-tell.ensures.none_failed; refusals = c.in_ok-tell.ensures.none_refused })

pub returns-clause-output : goal.returns-clause-output
returns-clause-output g c = record { faults = c.in_ok-tell.ensures.none_failed; refusals = c.in_ok-tell.ensures.none_refused }

pub returns-clause-turned : goal.returns-clause-turned
returns-clause-turned g c =
    let stand = g.E.HeldEngine.stand in
    let keep = g.E.HeldEngine.keep_of in
    let flow = g.E.HeldEngine.flow_of in
    let engine = c.args.engine.now in
    let place = c.args.place.now in
    let outcome = outcome_of c.args.stepped in
    let old = (g.K.Store.view c.args.store.now).records in
    let plan = c.args.plan.now in
    let root = c.in_ok-root.root in
    let mid = (g.K.Store.view c.put_root.new.store).records in
    let turn = turn_of stand keep flow engine plan place c.in_ok-lines.lines c.mark_of.result root c.mark_of.ensures.exact c.in_ok-root.ensures in
    let other : KeepsEntryBytes (keep engine) old mid =
    root_is_other stand keep engine (place.turn + 1) old mid c.stands_over_others.ensures c.requires.ids (subst (λ t. ChangesOnly (root_id t) old mid) turn c.in_ok-put_root.ensures.others) in
    let new = (g.K.Store.view c.if-collects.store).records in
    let before = g.O.Sink.view c.args.out.now in
    let after = g.O.Sink.view c.tell.new.out in
    let text =
    lines_told stand keep flow engine plan place c.in_ok-lines.lines c.mark_of.result root c.as_slice.result.now c.flow.result.now outcome c.as_slice.ensures c.in_ok-root.ensures
    c.mark_of.ensures.exact c.in_ok-lines.ensures.text in
    λ texts starts kept from to move is_plan made told.
    let lines = outcome_text texts.flow outcome in
    let stands = c.stands_over_others.ensures.stands (system_in texts) to.state old mid other made.stands in
    let same = text_told texts c.as_slice.result.now c.flow.result.now (flow engine) outcome text c.flow.ensures made.flow in
    let under : (put : IsPut keep texts starts new engine place to lines root)
    × IsRunAt stand keep flow texts starts new c.if-collects.engine (place_with_turn place) (record { point = to; lines = lines }) to = elim c.if-collects.branch [
      | then-collects+in_ok-sweep w ↦
          let swept_records = (g.K.Store.view w.sweep.new.store).records in
          let told_then = subst (λ s. IsSome (g.K.Store.view s).records) w.store-is told in
          let put = lines_put stand keep flow texts starts plan old mid engine place kept from move to outcome c.in_ok-lines.lines c.mark_of.result root c.flow.result.now is_plan made
          c.mark_of.ensures.exact c.in_ok-root.ensures c.mark_of.ensures.digests c.mark_of.ensures.line c.in_ok-lines.ensures.lines c.in_ok-lines.ensures.text c.flow.ensures
          c.in_ok-put_root.ensures.put c.in_ok-put_root.ensures.others (w.in_ok-sweep.ensures.told_before told_then) in
          let later = swept keep texts starts mid swept_records engine place to lines root c.requires.ids w.in_ok-sweep.ensures.others told_then put in
          subst (λ s. IsPut keep texts starts (g.K.Store.view s).records engine place to lines root
          × IsRunAt stand keep flow texts starts (g.K.Store.view s).records c.if-collects.engine (place_with_turn place) (record { point = to; lines = lines }) to) (sym w.store-is) (
            later,
            subst (λ e. IsRunAt stand keep flow texts starts swept_records e (place_with_turn place) (record { point = to; lines = lines }) to) (sym w.engine-is)
                (goes_on stand keep flow texts starts old swept_records engine w.sweep.new.self place kept from move to outcome lines root made later w.in_ok-sweep.ensures.flow
                w.in_ok-sweep.ensures.next (w.in_ok-sweep.ensures.stands (system_in texts) to.state stands)),
          )
      | else-collects w ↦
          let told_then = subst (λ s. IsSome (g.K.Store.view s).records) w.store-is told in
          let put = lines_put stand keep flow texts starts plan old mid engine place kept from move to outcome c.in_ok-lines.lines c.mark_of.result root c.flow.result.now is_plan made
          c.mark_of.ensures.exact c.in_ok-root.ensures c.mark_of.ensures.digests c.mark_of.ensures.line c.in_ok-lines.ensures.lines c.in_ok-lines.ensures.text c.flow.ensures
          c.in_ok-put_root.ensures.put c.in_ok-put_root.ensures.others told_then in
          subst (λ s. IsPut keep texts starts (g.K.Store.view s).records engine place to lines root
          × IsRunAt stand keep flow texts starts (g.K.Store.view s).records c.if-collects.engine (place_with_turn place) (record { point = to; lines = lines }) to) (sym w.store-is) (
            put,
            subst (λ e. IsRunAt stand keep flow texts starts mid e (place_with_turn place) (record { point = to; lines = lines }) to) (sym w.engine-is)
                (goes_on stand keep flow texts starts old mid engine engine place kept from move to outcome lines root made put refl refl stands),
          )
    ] in
    turn_cut stand keep flow (Unit {0}) (IsOneTurn {T = Unit {0}} move (Ok (tt {0}))) texts starts old new engine place kept from move to outcome (Ok (tt {0})) before after _ under.0.held root made refl under.0.told under.0.kept
    (subst (λ ls. IsWritten ls before after) same c.in_ok-tell.ensures) under.1

pub returns-in_err-sweep-clause-undamaged : goal.returns-in_err-sweep-clause-undamaged
returns-in_err-sweep-clause-undamaged g c =
    let p = err_from_is_err_and c.from_residual-in_err-sweep.result c.from_residual-in_err-sweep.ensures.1 in
    let fault = c.in_err-sweep.field-0.0 in
    rw (p.1, p.2) (λ id e. c.in_err-sweep.ensures.undamaged id (damage_in (Unit {0}) (Unit {0}) fault id e))

pub returns-clause-stored : goal.returns-clause-stored
returns-clause-stored g c =
    let stand = g.E.HeldEngine.stand in
    let keep = g.E.HeldEngine.keep_of in
    let flow = g.E.HeldEngine.flow_of in
    let engine = c.args.engine.now in
    let place = c.args.place.now in
    let outcome = outcome_of c.args.stepped in
    let old = (g.K.Store.view c.args.store.now).records in
    let plan = c.args.plan.now in
    let root = c.in_ok-root.root in
    let mid = (g.K.Store.view c.put_root.new.store).records in
    let turn = turn_of stand keep flow engine plan place c.in_ok-lines.lines c.mark_of.result root c.mark_of.ensures.exact c.in_ok-root.ensures in
    let other : KeepsEntryBytes (keep engine) old mid =
    root_is_other stand keep engine (place.turn + 1) old mid c.stands_over_others.ensures c.requires.ids (subst (λ t. ChangesOnly (root_id t) old mid) turn c.in_ok-put_root.ensures.others) in
    elim c.if-collects.branch [
      | then-collects+in_ok-sweep w ↦
          subst (λ s. EntriesAreThere (keep c.if-collects.engine) (g.K.Store.view s).records) (sym w.store-is)
          (subst (λ e. EntriesAreThere (keep e) (g.K.Store.view w.sweep.new.store).records) (sym w.engine-is) w.in_ok-sweep.ensures.stored)
      | else-collects w ↦
          subst (λ s. EntriesAreThere (keep c.if-collects.engine) (g.K.Store.view s).records) (sym w.store-is)
          (subst (λ e. EntriesAreThere (keep e) mid) (sym w.engine-is) (c.stands_over_others.ensures.stored old mid other c.requires.stored))
    ]
