use Rattle.std.proofs.Common.{refl}
use Rattle.std.proofs.lemmas.Result.{err_from_is_err_and}
use Rattle.fw_flow.specs.Dataflow.{system_of}
use Rattle.fw_regain.specs.Down.{down}
use Rattle.fw_resume.proofs.ResumeLaws.{resumed_shaped}
use Rattle.fw_resume.proofs.ResumingLaws.{damage_tells, fault_resumes, faults_go, kept_next, kept_shared, kept_stored, named_down, names_for, resumed_held}
use Rattle.fw_resume.proofs.resuming.resume.Goals as goal

pub read_all-requires-clause-names : goal.read_all-requires-clause-names
read_all-requires-clause-names g c = names_for c.args.flow c.args.batches.now c.args.root.now c.requires.sound

pub returns-in_err-keep-clause-held : goal.returns-in_err-keep-clause-held
returns-in_err-keep-clause-held g c = λ state r o named told.
    let flow = c.args.flow in
    let root = c.args.root.now in
    let sys = system_of flow c.args.batches.now in
    let before = (g.K.Store.view c.args.store.now).records in
    let after = (g.K.Store.view c.read_all.new.store).records in
    let why = c.in_err-keep.field-0.0 in
    let p = err_from_is_err_and c.from_residual.result c.from_residual.ensures.1 in
    rw (p.1, p.2)
    (fault_resumes sys (down sys state) after why
    (c.in_err-keep.ensures.held sys (down sys state) (named_down sys flow root before state refl c.requires.well_formed r o named) told))

pub returns-in_err-keep-clause-damaged : goal.returns-in_err-keep-clause-damaged
returns-in_err-keep-clause-damaged g c =
    let p = err_from_is_err_and c.from_residual.result c.from_residual.ensures.1 in
    rw (p.1, p.2)
    (damage_tells c.args.flow c.args.root.now (g.K.Store.view c.read_all.new.store).given c.in_err-keep.field-0.0 c.in_err-keep.ensures.damaged)

pub returns-in_err-keep-clause-faults : goal.returns-in_err-keep-clause-faults
returns-in_err-keep-clause-faults g c =
    let p = err_from_is_err_and c.from_residual.result c.from_residual.ensures.1 in
    rw (p.1, p.2) (faults_go c.in_err-keep.field-0.0 (g.K.Store.view c.args.store.now).faults (g.K.Store.view c.read_all.new.store).faults c.in_err-keep.ensures.faults)

pub returns-clause-shaped : goal.returns-clause-shaped
returns-clause-shaped g c =
    resumed_shaped c.args.flow c.args.batches.now c.args.root.now c.in_ok-keep.keep c.in_ok-running.running c.requires.well_formed c.requires.sound c.in_ok-running.ensures.by
    c.in_ok-keep.ensures.written

pub returns-clause-stored : goal.returns-clause-stored
returns-clause-stored g c =
    kept_stored c.args.flow c.args.batches.now c.args.root.now c.in_ok-keep.keep c.in_ok-running.running (g.K.Store.view c.read_all.new.store).records c.in_ok-running.ensures.by
    c.in_ok-keep.ensures.stored

pub returns-clause-shared : goal.returns-clause-shared
returns-clause-shared g c =
    kept_shared c.args.flow c.args.batches.now c.args.root.now c.in_ok-keep.keep c.in_ok-running.running c.in_ok-running.ensures.by c.in_ok-keep.ensures.read.shared

pub returns-clause-flow : goal.returns-clause-flow
returns-clause-flow g c = c.in_ok-running.ensures.by.runs

pub returns-clause-next : goal.returns-clause-next
returns-clause-next g c =
    kept_next c.args.flow c.args.batches.now c.args.root.now c.in_ok-keep.keep c.in_ok-running.running c.in_ok-running.ensures.by c.in_ok-keep.ensures.read.next

pub returns-clause-held : goal.returns-clause-held
returns-clause-held g c = λ state r o named told.
    let flow = c.args.flow in
    let batches = c.args.batches.now in
    let root = c.args.root.now in
    let sys = system_of flow batches in
    let before = (g.K.Store.view c.args.store.now).records in
    let after = (g.K.Store.view c.read_all.new.store).records in
    resumed_held flow batches root c.in_ok-keep.keep c.in_ok-running.running after state c.requires.well_formed r o c.in_ok-running.ensures.by
    (c.in_ok-keep.ensures.held sys (down sys state) (named_down sys flow root before state refl c.requires.well_formed r o named) told) c.in_ok-running.ensures.knows
