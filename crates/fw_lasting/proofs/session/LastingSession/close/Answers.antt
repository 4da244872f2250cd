use Rattle.std.proofs.Common.{◌≡◌, refl, inl, Err, sym, ◌∙◌, [], true, Some, subst, arith}
use Rattle.std.specs.FinMap as map
use Rattle.std.specs.Option.{ForSome}
use Rattle.fw_came.specs.Came.{batch_bytes, batch_id}
use Rattle.fw_hold.specs.Found.{ChangesOnly}
use Rattle.fw_session.proofs.SessionLaws.{closed-by}
use Rattle.fw_session.specs.Story.{after_close}
use Rattle.fw_lasting.proofs.UnderWayLaws.{closed-left, closed-under, counts-keeping, none-left, on-err, other-stored, put-done}
use Rattle.fw_living.proofs.LivingLaws.{counts-none}
use Rattle.fw_lasting.specs.UnderWay.{CountsPutting}
use Rattle.std.proofs.lemmas.Result.{err_from_is_err_and}
use Rattle.fw_lasting.proofs.session.LastingSession.close.Goals as goal

pub invariant_of-self-2 : goal.invariant_of-self-2
invariant_of-self-2 g c =
    let old = c.args.self.now in
    let view = g.K.Store.view in
    record {
      stored = other-stored old.engine (batch_id c.args.source c.came-epoch.result) (view old.store).records (view c.put_batch.new.store).records
          c.stands_over_others.ensures (omega (arith, old.few)) c.in_ok-put_batch.ensures.others old.stored;
      few = old.few;
    }

pub returns-in-Ok-clause-closed : goal.returns-in-Ok-clause-closed
returns-in-Ok-clause-closed g c =
    let old = c.args.self.now in
    let view = g.K.Store.view in
    let s = c.args.source in
    let before = (view old.store).records in
    let after = (view c.put_batch.new.store).records in
    let by = c.in-Ok.ensures in
    let e = c.came-epoch.ensures in
    let put = c.in_ok-put_batch.ensures in
    λ kept now u.
    closed-under old.digests old.engine old.arrivals c.close.new.self before after old.turn kept now s c.stands_over_others.ensures old.few by.open
    (subst (λ n. ForSome after (λ held. map.get held (batch_id s n) ≡ Some (batch_bytes true []))) e put.put)
    (subst (λ n. ChangesOnly (batch_id s n) before after) e put.others)
    (λ story at. closed-by old.engine.engine after old.arrivals c.close.new.self story s at by.open by.opened by.came) u

pub returns-then-not-is_open-clause-left : goal.returns-then-not-is_open-clause-left
returns-then-not-is_open-clause-left g c =
    let old = c.args.self.now in
    let records = (g.K.Store.view old.store).records in
    λ kept now u. none-left old.digests old.engine.engine old.arrivals records records old.turn kept now _ refl u

pub returns-in_err-put_batch-clause-left : goal.returns-in_err-put_batch-clause-left
returns-in_err-put_batch-clause-left g c =
    let old = c.args.self.now in
    let view = g.K.Store.view in
    λ kept now u. on-err c.from_residual.result
    (none-left old.digests old.engine.engine old.arrivals (view old.store).records (view c.put_batch.new.store).records old.turn kept now
    (after_close c.args.source kept) c.in_err-put_batch.ensures.not_put u)

pub returns-in_err-put_batch-clause-faults : goal.returns-in_err-put_batch-clause-faults
returns-in_err-put_batch-clause-faults g c =
    let p = err_from_is_err_and c.from_residual.result c.from_residual.ensures.1 in
    let old = c.args.self.now in
    let view = g.K.Store.view in
    let before = view old.store in
    let after = view c.put_batch.new.store in
    rw (p.1, p.2) (counts-keeping c.in_err-put_batch.field-0.0 old.digests old.engine old.arrivals before.records after.records old.turn
    c.args.source before.faults after.faults (sym c.is_open.ensures ∙ c.if-not-is_open.false) (λ told. c.in_err-put_batch.ensures.not_put)
    (subst (λ n. CountsPutting {T = Unit {0}} (Err c.in_err-put_batch.field-0.0) (batch_id c.args.source n) after.records before.faults after.faults) c.came-epoch.ensures
    c.in_err-put_batch.ensures.faults))

pub returns-in-Ok-clause-faults : goal.returns-in-Ok-clause-faults
returns-in-Ok-clause-faults g c =
    let view = g.K.Store.view in
    let after = view c.put_batch.new.store in
    inl (put-done {T = Unit {0}} tt (batch_id c.args.source c.came-epoch.result) after.records (view c.args.self.now.store).faults after.faults
    c.in_ok-put_batch.ensures.faults)

pub returns-in-Err-clause-faults : goal.returns-in-Err-clause-faults
returns-in-Err-clause-faults g c =
    let view = g.K.Store.view in
    let after = view c.put_batch.new.store in
    counts-none (Err c.in-Err.fault) (Err c.of_feed.result) after.records _ (view c.args.self.now.store).faults after.faults c.of_feed.ensures
    (put-done {T = Unit {0}} tt (batch_id c.args.source c.came-epoch.result) after.records (view c.args.self.now.store).faults after.faults c.in_ok-put_batch.ensures.faults)
