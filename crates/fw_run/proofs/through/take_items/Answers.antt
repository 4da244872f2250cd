use Rattle.std.proofs.Common.{◌≡◌, ℕ, ◌+◌, ◌≤◌, ◌∙◌, Err, refl, sym, ap, subst, arith}
use Rattle.std.proofs.lemmas.Result.{err_from_is_err_and}
use Rattle.std.specs.Prelude.{IsSome}
use Rattle.fw_run.proofs.PlaceLaws.{room_at, counts-next}
use Rattle.fw_run.proofs.FaultCounts.{rose_more, rises_more}
use Rattle.fw_run.proofs.ThroughLaws.{taken-none, taken-more, taken-all, taken-told, cut_off-at, ends-at}
use Rattle.fw_run.specs.declared.tally.StepCounts.{StepCounts}
use Rattle.fw_run.specs.Enduring.{with_faults, RoseBy}
use Rattle.fw_run.specs.Fault.{faults_after_run}
use Rattle.fw_command.specs.Manner.{course_in}
use Rattle.fw_run.proofs.through.take_items.Goals as goal

pub take_item-requires-clause-room : goal.take_item-requires-clause-room
take_item-requires-clause-room g c =
    room_at c.args.tally.now.steps c.args.items.now c.loop-item.item-index c.loop-item.tally c.item-item.result c.loop-item-test.true c.item-item.is c.loop-item.invariant.of_steps
    c.loop-item.invariant.few c.requires.few

pub loop-item-init : goal.loop-item-init
loop-item-init g c = record {
  stored = c.requires.stored;
  in_order = c.requires.in_order;
  alone = c.requires.alone;
  told_before = λ told. told;
  flow = refl;
  of_steps = c.requires.of_steps;
  few = omega arith;
  none = λ ends. c.requires.none;
  rose_by = ap (λ (n : ℕ). with_faults n (g.K.Store.view c.args.store.now).faults) (sym c.requires.none);
  taken = λ sys from e st. taken-none (course_in c.args.course) (IsSome (g.K.Store.view c.args.store.now).records) sys from c.args.items.now c.args.engine.now
      (g.K.Store.view c.args.store.now).records c.args.tally.now (g.O.Sink.view c.args.out.now) e c.requires.of_steps.sum st;
}

pub loop-item-preserved : goal.loop-item-preserved
loop-item-preserved g c =
    let known = g.K.Store.view in
    let view = g.O.Sink.view in
    let xs = c.args.items.now in
    let i = c.loop-item.item-index in
    let inv = c.loop-item.invariant in
    let taken = c.take_item.ensures in
    let more = c.in_ok-take_item.ensures.counted in
    let course = course_in c.args.course in
    record {
      stored = taken.stored;
      in_order = taken.in_order;
      alone = taken.shared ∙ inv.alone;
      told_before = λ told. inv.told_before (taken.told_before told);
      flow = taken.flow ∙ inv.flow;
      of_steps = taken.of_steps;
      few = counts-next c.args.tally.now.steps xs i c.loop-item.tally c.take_item.new.tally c.item-item.result c.loop-item-test.true c.item-item.is inv.few taken.few;
      none = λ ends. taken.none ends ∙ inv.none ends;
      rose_by = subst (RoseBy (known c.args.store.now).faults (known c.take_item.new.store).faults) (sym more.1)
          (rose_more (known c.args.store.now).faults (known c.loop-item.store).faults (known c.take_item.new.store).faults c.loop-item.tally.faults more.0 inv.rose_by more.2);
      taken = λ sys from e st. taken-more course (IsSome (known c.take_item.new.store).records) sys from xs i c.loop-item.engine c.take_item.new.engine (known c.loop-item.store).records
          (known c.take_item.new.store).records c.item-item.result c.loop-item.tally c.take_item.new.tally (RoseBy (known c.loop-item.store).faults (known c.take_item.new.store).faults) tt
          (view c.args.out.now) (view c.loop-item.out) (view c.take_item.new.out) (λ told. told) (taken-told taken.told_before (inv.taken sys from e st)) c.loop-item-test.true c.item-item.is
          c.in_ok-take_item.ensures.printed;
    }

pub returns-in_err-take_item-clause-taken : goal.returns-in_err-take_item-clause-taken
returns-in_err-take_item-clause-taken g c sys from e st =
    let p = err_from_is_err_and c.from_residual.result c.from_residual.ensures.1 in
    let known = g.K.Store.view in
    let view = g.O.Sink.view in
    let inv = c.loop-item.invariant in
    let tells = IsSome (known c.take_item.new.store).records in
    let course = course_in c.args.course in
    let at = c.in_err-take_item.ensures in
    let none = ap (λ (tally : StepCounts). tally.faults) e ∙ c.requires.none in
    let u = taken-told c.take_item.ensures.told_before (inv.taken sys from e st) in
    rw (p.1, p.2) (
      cut_off-at course tells sys from c.args.items.now c.loop-item.item-index c.loop-item.engine c.take_item.new.engine (known c.loop-item.store).records (known c.take_item.new.store).records
          c.item-item.result c.loop-item.tally c.take_item.new.tally (known c.args.store.now).faults (known c.loop-item.store).faults (known c.take_item.new.store).faults _ (view c.args.out.now)
          (view c.loop-item.out) (view c.take_item.new.out) st.apart.well_formed st.apart.reached none (λ told. told) u c.loop-item-test.true c.item-item.is at.printed inv.rose_by,
      ends-at course tells sys from c.args.items.now c.loop-item.item-index c.args.engine.now c.loop-item.engine c.take_item.new.engine (known c.args.store.now).records
          (known c.loop-item.store).records (known c.take_item.new.store).records (known c.take_item.new.store).given c.item-item.result c.loop-item.tally c.take_item.new.tally
          (known c.args.store.now).faults (known c.loop-item.store).faults (known c.take_item.new.store).faults _ (view c.args.out.now) (view c.loop-item.out) (view c.take_item.new.out) st inv.flow none
          (λ told. told) u c.loop-item-test.true c.item-item.is c.take_item.ensures.in_order c.take_item.ensures.stored (c.take_item.ensures.shared ∙ inv.alone) at.printed inv.rose_by at.stops at.in_recovery at.damaged,
    )

pub returns-in_err-take_item-clause-told_before : goal.returns-in_err-take_item-clause-told_before
returns-in_err-take_item-clause-told_before g c = λ told. c.loop-item.invariant.told_before (c.take_item.ensures.told_before told)

pub returns-in_err-take_item-clause-none : goal.returns-in_err-take_item-clause-none
returns-in_err-take_item-clause-none g c ends = c.take_item.ensures.none ends ∙ c.loop-item.invariant.none ends

pub returns-in_err-take_item-clause-first : goal.returns-in_err-take_item-clause-first
returns-in_err-take_item-clause-first g c ends =
    let p = err_from_is_err_and c.from_residual.result c.from_residual.ensures.1 in
    let known = g.K.Store.view in
    let inv = c.loop-item.invariant in
    let same : (known c.loop-item.store).faults ≡ (known c.args.store.now).faults = inv.rose_by ∙ ap (λ (n : ℕ). with_faults n (known c.args.store.now).faults) (inv.none ends) in
    rw (p.1, p.2) (subst (λ (n : ℕ). (known c.take_item.new.store).faults ≡ faults_after_run {T = Unit {0}} (Err c.in_err-take_item.field-0.0) n) same (c.in_err-take_item.ensures.first ends))

pub returns-in_err-take_item-clause-rises : goal.returns-in_err-take_item-clause-rises
returns-in_err-take_item-clause-rises g c =
    let known = g.K.Store.view in
    rises_more (known c.args.store.now).faults (known c.loop-item.store).faults (known c.take_item.new.store).faults (c.loop-item.tally.faults, c.loop-item.invariant.rose_by) c.take_item.ensures.rises

pub returns-clause-taken : goal.returns-clause-taken
returns-clause-taken g c sys from e st =
    let known = g.K.Store.view in
    let view = g.O.Sink.view in
    let inv = c.loop-item.invariant in (
      taken-all (course_in c.args.course) (IsSome (known c.loop-item.store).records) sys from c.args.items.now c.loop-item.item-index c.loop-item.engine (known c.loop-item.store).records
          c.loop-item.tally (view c.args.out.now) (view c.loop-item.out) inv.in_order inv.stored inv.alone (inv.taken sys from e st) c.loop-item-test.false,
      inv.rose_by,
    )

pub returns-clause-told_before : goal.returns-clause-told_before
returns-clause-told_before g c = c.loop-item.invariant.told_before

pub returns-clause-first : goal.returns-clause-first
returns-clause-first g c ends =
    let known = g.K.Store.view in
    c.loop-item.invariant.rose_by ∙ ap (λ (n : ℕ). with_faults n (known c.args.store.now).faults) (c.loop-item.invariant.none ends)

pub returns-clause-rises : goal.returns-clause-rises
returns-clause-rises g c = (c.loop-item.tally.faults, c.loop-item.invariant.rose_by)
