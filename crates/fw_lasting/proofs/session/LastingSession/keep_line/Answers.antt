use Rattle.std.proofs.Common.{◌≡◌, Err, refl, subst, ◌∙◌, arith}
use Rattle.fw_hold.specs.Kept.{root_id}
use Rattle.fw_hold.proofs.RootIdLaws.{root_id-large}
use Rattle.fw_held.proofs.StoreLaws.{there-stored}
use Rattle.fw_session.specs.Story.{system_now}
use Rattle.fw_engine.specs.Engine.{flow_of, keep_of}
use Rattle.fw_lasting.proofs.UnderWayLaws.{SweepLeaves, has-there, none-left, on-err, other-stored, root-is, root-left, root-under, sweep-counts, swept-last, swept-left, swept-under}
use Rattle.fw_running.specs.Faults.{faults_after_step}
use Rattle.fw_lasting.proofs.session.LastingSession.keep_line.Goals as goal

pub returns-in_err-root-clause-left : goal.returns-in_err-root-clause-left
returns-in_err-root-clause-left g c =
    let old = c.args.self.now in
    let records = (g.K.Store.view old.store).records in
    λ kept now u. on-err c.from_residual.result
    (none-left old.digests old.engine.engine old.arrivals records records old.turn kept now now refl u)

pub invariant_of-self-in-Break-branch-2 : goal.invariant_of-self-in-Break-branch-2
invariant_of-self-in-Break-branch-2 g c =
    let old = c.args.self.now in
    let view = g.K.Store.view in
    let turn = c.in_ok-root.root.mark.turn in
    let large = root_id-large turn in
    record {
      stored = other-stored old.engine (root_id turn) (view old.store).records (view c.put_next.new.store).records c.stands_over_others.ensures
          (omega (arith, old.few, large)) c.put_next.ensures.others old.stored;
      few = old.few;
    }

pub returns-in_err-put_next-clause-left : goal.returns-in_err-put_next-clause-left
returns-in_err-put_next-clause-left g c =
    let old = c.args.self.now in
    let view = g.K.Store.view in
    λ kept now u. on-err c.from_residual-in_err-put_next.result
    (root-left old.digests old.engine old.arrivals (view old.store).records (view c.put_next.new.store).records old.turn old.steps c.args.lines.now kept now
    c.in_ok-root.root c.in_ok-root.ensures.root c.put_next.ensures.others c.in_err-put_next.ensures.not_put u)

pub sweep-requires : goal.sweep-requires
sweep-requires g c =
    let old = c.args.self.now in
    let view = g.K.Store.view in
    let turn = c.in_ok-root.root.mark.turn in
    let large = root_id-large turn in
    let mid = (view c.put_next.new.store).records in
    record {
      stored = has-there (keep_of old.engine.engine) mid
          (other-stored old.engine (root_id turn) (view old.store).records mid c.stands_over_others.ensures
          (omega (arith, old.few, large)) c.put_next.ensures.others old.stored);
    }

pub invariant_of-self-2 : goal.invariant_of-self-2
invariant_of-self-2 g c =
    let old = c.args.self.now in
    record {
      stored = there-stored (keep_of c.sweep.new.self.engine) (g.K.Store.view c.sweep.new.store).records c.sweep.ensures.stored;
      few = omega (arith, c.sweep.ensures.next, old.few);
    }

pub returns-in-Ok-clause-kept : goal.returns-in-Ok-clause-kept
returns-in-Ok-clause-kept g c =
    let old = c.args.self.now in
    let view = g.K.Store.view in
    let before = (view old.store).records in
    let mid = (view c.put_next.new.store).records in
    let after = (view c.sweep.new.store).records in
    let root = c.in_ok-root.root in
    let lines = c.args.lines.now in
    let n = c.in_ok-root.ensures.root in
    let put = c.in_ok-put_next.ensures.put in
    let others = c.put_next.ensures.others in
    let leaves : SweepLeaves old.engine.engine mid c.sweep.new.self.engine after = record {
      flow = c.sweep.ensures.flow;
      next = c.sweep.ensures.next;
      told_before = c.sweep.ensures.told_before;
      others = c.sweep.ensures.others;
    } in
    λ kept now u.
    let is = root-is old.digests old.engine old.arrivals before mid old.turn old.steps lines kept now root n put others u in
    let under = root-under old.digests old.engine old.arrivals before mid old.turn old.steps lines kept now root c.stands_over_others.ensures old.few n put
    others u in (
      swept-under old.digests old.engine c.sweep.new.self.engine old.arrivals mid after old.turn old.steps lines now root old.few n is leaves
          (c.in-Ok.ensures.stands (system_now (flow_of old.engine.engine) now) now.now.state under.at.stands) under,
      swept-last old.digests old.engine c.sweep.new.self.engine mid after old.turn old.steps lines now root old.few n is leaves,
    )

pub returns-clause-left : goal.returns-clause-left
returns-clause-left g c =
    let old = c.args.self.now in
    let view = g.K.Store.view in
    let before = (view old.store).records in
    let mid = (view c.put_next.new.store).records in
    let after = (view c.sweep.new.store).records in
    let root = c.in_ok-root.root in
    let lines = c.args.lines.now in
    let n = c.in_ok-root.ensures.root in
    let put = c.in_ok-put_next.ensures.put in
    let others = c.put_next.ensures.others in
    let leaves : SweepLeaves old.engine.engine mid c.sweep.new.self.engine after = record {
      flow = c.sweep.ensures.flow;
      next = c.sweep.ensures.next;
      told_before = c.sweep.ensures.told_before;
      others = c.sweep.ensures.others;
    } in
    λ kept now u.
    let is = root-is old.digests old.engine old.arrivals before mid old.turn old.steps lines kept now root n put others u in
    let under = root-under old.digests old.engine old.arrivals before mid old.turn old.steps lines kept now root c.stands_over_others.ensures old.few n put
    others u in
    swept-left old.digests old.engine c.sweep.new.self.engine mid after old.turn old.steps lines kept now root old.few n is under.holds leaves

pub returns-clause-faults : goal.returns-clause-faults
returns-clause-faults g c =
    let view = g.K.Store.view in
    let fault = c.in-Err.fault in
    rw (c.of_sweep.ensures) (sweep-counts fault (view c.args.self.now.store).faults (view c.sweep.new.store).faults
    (subst (λ n. (view c.sweep.new.store).faults ≡ faults_after_step {T = Unit {0}} (Err fault) n) c.in_ok-put_next.ensures.faults c.in-Err.ensures.faults)
    c.in-Err.ensures.undamaged)

pub returns-in-Ok-clause-faults : goal.returns-in-Ok-clause-faults
returns-in-Ok-clause-faults g c = c.in-Ok.ensures.faults ∙ c.in_ok-put_next.ensures.faults
