use Rattle.std.proofs.Common.{sym, subst}
use Rattle.std.proofs.Math.Logic.{∥∥₁_map}
use Rattle.fw_bag.specs.Keyed.{sorted_recs}
use Rattle.fw_keep.specs.Stored.{IsStored}
use Rattle.fw_session.specs.Story.{after_feed}
use Rattle.fw_session.proofs.SessionLaws.{to-some}
use Rattle.fw_session.proofs.session.Session.feed.Goals as goal

pub invariant_of-self : goal.invariant_of-self
invariant_of-self g c =
    let old = c.args.self.now in
    let records = (g.K.Store.view old.store).records in
    let by = c.feed_engine in
    record {
      stored = subst (λ keep. IsStored keep records) (sym by.ensures.keep) old.stored;
      real = ∥∥₁_map old.real (to-some old.engine by.new.engine records old.arrivals by.new.arrivals by.result
          (after_feed c.args.source (sorted_recs c.args.recs.now)) (by.ensures.fed records) by.ensures.stays by.ensures.came by.ensures.told);
    }

pub returns-clause-full : goal.returns-clause-full
returns-clause-full g c = c.feed_engine.ensures.full (g.K.Store.view c.args.self.now.store).records
