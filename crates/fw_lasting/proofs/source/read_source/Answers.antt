use Rattle.std.proofs.Common.{rules, ◌≡◌, List, None, Some, Option, refl, sym, ◌∙◌, subst, ap, arith}
use Rattle.std.proofs.lemmas.Result.{err_from_is_err_and}
use Rattle.fw_bag.specs.declared.rec.Rec.{Rec}
use Rattle.fw_bag.specs.Keyed.{sorted_recs}
use Rattle.fw_came.specs.declared.batch.CameBatch.{CameBatch}
use Rattle.fw_lines.specs.Batches.{AddsBatch}
use Rattle.fw_running.specs.declared.fault.EngineFault.TheVariants as engine
use Rattle.fw_lasting.specs.Reading.{IsBatchUnder, IsNoBatchUnder}
use Rattle.fw_lasting.proofs.ReadLaws.{err-alike, reading-broken, reading-last, reading-next, reading-open}
use Rattle.fw_lasting.proofs.source.read_source.Goals as goal

pub returns-in_err-batch-clause-undamaged : goal.returns-in_err-batch-clause-undamaged
returns-in_err-batch-clause-undamaged g c =
    let p = err_from_is_err_and c.from_residual.result c.from_residual.ensures.1 in
    let before = g.K.Store.view c.args.store.now in
    let mid = g.K.Store.view c.loop-count.store in
    let after = g.K.Store.view c.batch_under.new.store in
    rw (p.1, p.2) (λ id e.
    reading-broken c.args.source c.loop-count.count before.records mid.records after.records before.faults mid.faults c.args.batches.now c.loop-count.batches
    (omega (arith, c.loop-count-test.true)) c.loop-count.invariant c.in_err-batch.ensures.stays
    (subst (λ n. IsNoBatchUnder n after.records) c.batch_id-id.ensures
    (c.in_err-batch.ensures.broken id (err-alike c.in_err-batch.field-0.0 (engine.Damaged id) e))))

pub returns-in_default-clause-read : goal.returns-in_default-clause-read
returns-in_default-clause-read g c =
    let before = g.K.Store.view c.args.store.now in
    let mid = g.K.Store.view c.loop-count.store in
    let after = g.K.Store.view c.batch_under.new.store in
    let none : c.in_ok-batch.field-0 ≡ None = search rules in
    reading-open c.args.source c.loop-count.count before.records mid.records after.records before.faults mid.faults c.args.batches.now c.loop-count.batches
    c.add.new.self _ (omega (arith, c.loop-count-test.true)) c.loop-count.invariant c.in_ok-batch.ensures.stays
    (subst (λ n. IsBatchUnder n after.records None) c.batch_id-id.ensures
    (subst (λ (b : Option CameBatch). IsBatchUnder c.batch_id-id.result after.records b) none c.in_ok-batch.ensures.found))
    c.in_ok-add.ensures.ok refl refl

pub returns-then-batch-clause-read : goal.returns-then-batch-clause-read
returns-then-batch-clause-read g c =
    let before = g.K.Store.view c.args.store.now in
    let mid = g.K.Store.view c.loop-count.store in
    let after = g.K.Store.view c.batch_under.new.store in
    reading-last c.args.source c.loop-count.count before.records mid.records after.records before.faults mid.faults c.args.batches.now c.loop-count.batches
    c.add-in-loop-count.new.self c.in-Some.batch _ (omega (arith, c.loop-count-test.true)) c.loop-count.invariant c.in_ok-batch.ensures.stays
    (subst (λ n. IsBatchUnder n after.records (Some c.in-Some.batch)) c.batch_id-id.ensures
    (subst (λ (b : Option CameBatch). IsBatchUnder c.batch_id-id.result after.records b) c.in-Some.is c.in_ok-batch.ensures.found))
    c.if-batch.true
    (subst (λ (rs : List Rec). AddsBatch c.loop-count.batches c.add-in-loop-count.new.self c.args.source (sorted_recs rs)) c.as_slice.ensures c.in_ok-add-2.ensures.ok)
    refl refl

pub loop-count-preserved : goal.loop-count-preserved
loop-count-preserved g c =
    let before = g.K.Store.view c.args.store.now in
    let mid = g.K.Store.view c.loop-count.store in
    let after = g.K.Store.view c.batch_under.new.store in
    reading-next c.args.source c.loop-count.count before.records mid.records after.records before.faults mid.faults after.faults c.args.batches.now c.loop-count.batches
    c.add-in-loop-count.new.self c.in-Some.batch (omega (arith, c.loop-count-test.true)) c.loop-count.invariant c.in_ok-batch.ensures.stays
    c.in_ok-batch.ensures.faults
    (subst (λ n. IsBatchUnder n after.records (Some c.in-Some.batch)) c.batch_id-id.ensures
    (subst (λ (b : Option CameBatch). IsBatchUnder c.batch_id-id.result after.records b) c.in-Some.is c.in_ok-batch.ensures.found))
    c.if-batch.false
    (subst (λ (rs : List Rec). AddsBatch c.loop-count.batches c.add-in-loop-count.new.self c.args.source (sorted_recs rs)) c.as_slice.ensures c.in_ok-add-2.ensures.ok)
