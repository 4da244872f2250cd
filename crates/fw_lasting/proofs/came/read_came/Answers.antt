use Rattle.std.proofs.Common.{◌≡◌, length, subst, sym, ◌∙◌, ap, arith}
use Rattle.std.proofs.lemmas.Result.{err_from_is_err_and}
use Rattle.fw_running.specs.declared.fault.EngineFault.TheVariants as engine
use Rattle.fw_lasting.proofs.ReadAllLaws.{before-all, before-broken, before-more}
use Rattle.fw_lasting.proofs.ReadLaws.{err-alike}
use Rattle.fw_lasting.proofs.came.read_came.Goals as goal

pub loop-place-preserved : goal.loop-place-preserved
loop-place-preserved g c =
    let before = g.K.Store.view c.args.store.now in
    let mid = g.K.Store.view c.loop-place.store in
    let after = g.K.Store.view c.read_node.new.store in
    let more = before-more c.args.flow.now c.loop-place.place before.records mid.records after.records before.faults mid.faults after.faults c.loop-place.batches
    c.read_node.new.batches c.loop-place.arrivals.opened.items c.loop-place.arrivals.came.items c.in_ok-read.read c.loop-place.invariant
    c.in_ok-read.ensures.stays c.in_ok-read.ensures.faults c.in_ok-read.ensures.read in
    rw (c.in_ok-note.ensures.opened, c.in_ok-note.ensures.came) more

pub returns-clause-came : goal.returns-clause-came
returns-clause-came g c =
    let before = g.K.Store.view c.args.store.now in
    let after = g.K.Store.view c.loop-place.store in
    let all : c.loop-place.place ≡ length c.args.flow.now.nodes = omega (arith, c.loop-place-test.false, c.loop-place.auto.place-end, c.nodes-place-end.ensures.count) in
    before-all c.args.flow.now c.loop-place.place before.records after.records before.faults after.faults c.loop-place.batches c.loop-place.arrivals all
    c.loop-place.invariant

pub returns-in_err-read-clause-undamaged : goal.returns-in_err-read-clause-undamaged
returns-in_err-read-clause-undamaged g c =
    let p = err_from_is_err_and c.from_residual-in_err-read.result c.from_residual-in_err-read.ensures.1 in
    let before = g.K.Store.view c.args.store.now in
    let mid = g.K.Store.view c.loop-place.store in
    let after = g.K.Store.view c.read_node.new.store in
    rw (p.1, p.2) (λ id e.
    before-broken c.args.flow.now c.loop-place.place before.records mid.records after.records before.faults mid.faults c.loop-place.batches
    c.loop-place.arrivals.opened.items c.loop-place.arrivals.came.items c.loop-place.invariant c.in_err-read.ensures.stays
    (c.in_err-read.ensures.undamaged id (err-alike c.in_err-read.field-0.0 (engine.Damaged id) e)))
