use Rattle.std.proofs.Common.{◌≡◌, refl, inl, Err, ◌<◌, ◌-◌, ◌^◌, false, Some, ap, subst, sym, arith}
use Rattle.std.specs.Prelude.{IfOk}
use Rattle.std.specs.FinMap as map
use Rattle.std.specs.Option.{ForSome}
use Rattle.fw_bag.specs.Keyed.{sorted_recs}
use Rattle.fw_came.specs.Came.{batch_bytes, batch_id}
use Rattle.fw_hold.specs.Found.{ChangesOnly}
use Rattle.fw_keep.specs.Catalogue.{KeepState}
use Rattle.fw_keep.specs.Stored.{HasEntries}
use Rattle.fw_session.specs.Session.{IsAt}
use Rattle.fw_session.specs.Story.{after_feed}
use Rattle.fw_lasting.proofs.UnderWayLaws.{counts-keeping, fed-left, fed-under, none-left, on-err, other-stored, put-done}
use Rattle.fw_living.proofs.LivingLaws.{counts-none}
use Rattle.fw_lasting.specs.UnderWay.{CountsPutting}
use Rattle.std.proofs.lemmas.Result.{err_from_is_err_and}
use Rattle.fw_lasting.proofs.session.LastingSession.feed.Goals as goal

pub invariant_of-self-2 : goal.invariant_of-self-2
invariant_of-self-2 g c =
    let old = c.args.self.now in
    let view = g.K.Store.view in
    let before = (view old.store).records in
    let after = (view c.put_batch.new.store).records in
    let n = c.in-Ok.epoch in
    record {
      stored = subst (λ (k : KeepState). ForSome after (HasEntries k)) (sym c.feed_engine.ensures.keep)
          (other-stored old.engine (batch_id c.args.source n) before after c.stands_over_others.ensures (omega (arith, old.few)) c.in_ok-put_batch.ensures.others old.stored);
      few = omega (arith, old.few, ap (λ (k : KeepState). k.next) c.feed_engine.ensures.keep);
    }

pub returns-in-Ok-feed_engine-clause-fed : goal.returns-in-Ok-feed_engine-clause-fed
returns-in-Ok-feed_engine-clause-fed g c =
    let old = c.args.self.now in
    let view = g.K.Store.view in
    let s = c.args.source in
    let recs = sorted_recs c.args.recs.now in
    let before = (view old.store).records in
    let after = (view c.put_batch.new.store).records in
    let by = c.feed_engine in
    let e = c.in-Ok.ensures.epoch in
    let put = c.in_ok-put_batch.ensures in
    λ kept now u.
    fed-under old.digests old.engine by.new.engine old.arrivals by.new.arrivals before after old.turn kept now s recs c.stands_over_others.ensures old.few
    put.batch c.in-Ok.ensures.open (subst (λ n. n < 2 ^ 20 - 1) e c.in-Ok.ensures.room)
    (subst (λ n. ForSome after (λ held. map.get held (batch_id s n) ≡ Some (batch_bytes false recs))) e put.put)
    (subst (λ n. ChangesOnly (batch_id s n) before after) e put.others)
    (λ story at. subst (λ r. IfOk r (λ epoch. IsAt by.new.engine after by.new.arrivals (after_feed s recs story))) c.in-Ok-feed_engine.is (by.ensures.fed after story at))
    by.ensures.keep by.ensures.flow u

pub returns-in-Err-clause-left : goal.returns-in-Err-clause-left
returns-in-Err-clause-left g c =
    let old = c.args.self.now in
    let records = (g.K.Store.view old.store).records in
    λ kept now u. none-left old.digests old.engine.engine old.arrivals records records old.turn kept now _ refl u

pub returns-in_err-put_batch-clause-left : goal.returns-in_err-put_batch-clause-left
returns-in_err-put_batch-clause-left g c =
    let old = c.args.self.now in
    let view = g.K.Store.view in
    λ kept now u. on-err c.from_residual.result
    (none-left old.digests old.engine.engine old.arrivals (view old.store).records (view c.put_batch.new.store).records old.turn kept now
    (after_feed c.args.source (sorted_recs c.args.recs.now) kept) c.in_err-put_batch.ensures.not_put u)

pub returns-in-Err-feed_engine-clause-left : goal.returns-in-Err-feed_engine-clause-left
returns-in-Err-feed_engine-clause-left g c =
    let old = c.args.self.now in
    let view = g.K.Store.view in
    let s = c.args.source in
    let recs = sorted_recs c.args.recs.now in
    let before = (view old.store).records in
    let after = (view c.put_batch.new.store).records in
    let e = c.in-Ok.ensures.epoch in
    let put = c.in_ok-put_batch.ensures in
    λ kept now u.
    fed-left old.digests old.engine old.arrivals before after old.turn kept now s recs old.few put.batch c.in-Ok.ensures.open
    (subst (λ n. n < 2 ^ 20 - 1) e c.in-Ok.ensures.room)
    (subst (λ n. ForSome after (λ held. map.get held (batch_id s n) ≡ Some (batch_bytes false recs))) e put.put)
    (subst (λ n. ChangesOnly (batch_id s n) before after) e put.others) u

pub returns-in-Err-clause-faults : goal.returns-in-Err-clause-faults
returns-in-Err-clause-faults g c =
    let store = g.K.Store.view c.args.self.now.store in
    counts-none (Err c.in-Err.fault) (Err c.of_feed.result) store.records _ store.faults store.faults c.of_feed.ensures refl

pub returns-in_err-put_batch-clause-faults : goal.returns-in_err-put_batch-clause-faults
returns-in_err-put_batch-clause-faults g c =
    let p = err_from_is_err_and c.from_residual.result c.from_residual.ensures.1 in
    let old = c.args.self.now in
    let view = g.K.Store.view in
    let before = view old.store in
    let after = view c.put_batch.new.store in
    rw (p.1, p.2) (counts-keeping c.in_err-put_batch.field-0.0 old.digests old.engine old.arrivals before.records after.records old.turn
    c.args.source before.faults after.faults c.in-Ok.ensures.open (λ told. c.in_err-put_batch.ensures.not_put)
    (subst (λ n. CountsPutting {T = Unit {0}} (Err c.in_err-put_batch.field-0.0) (batch_id c.args.source n) after.records before.faults after.faults) c.in-Ok.ensures.epoch
    c.in_err-put_batch.ensures.faults))

pub returns-in-Ok-feed_engine-clause-faults : goal.returns-in-Ok-feed_engine-clause-faults
returns-in-Ok-feed_engine-clause-faults g c =
    let view = g.K.Store.view in
    let after = view c.put_batch.new.store in
    inl (put-done {T = Unit {0}} tt (batch_id c.args.source c.in-Ok.epoch) after.records (view c.args.self.now.store).faults after.faults c.in_ok-put_batch.ensures.faults)

pub returns-in-Err-feed_engine-clause-faults : goal.returns-in-Err-feed_engine-clause-faults
returns-in-Err-feed_engine-clause-faults g c =
    let view = g.K.Store.view in
    let after = view c.put_batch.new.store in
    inl (put-done {T = Unit {0}} tt (batch_id c.args.source c.in-Ok.epoch) after.records (view c.args.self.now.store).faults after.faults c.in_ok-put_batch.ensures.faults)
