use Rattle.std.proofs.Common.{◌≡◌, ◌∙◌, ◌-◌, ◌^◌, inr, Err, refl, sym, ap, subst, arith}
use Rattle.std.proofs.lemmas.Result.{err_from_is_err_and}
use Rattle.std.specs.Prelude.{IfSome}
use Rattle.fw_session.specs.Story.{Story, IsStory}
use Rattle.fw_engine.specs.Engine.{flow_of}
use Rattle.fw_command.specs.Writing.{IsWritten}
use Rattle.fw_live.specs.declared.fault.ServeFault.TheVariants.{Read, Store}
use Rattle.fw_live.specs.Serving.{GivesMany, IsCutBy, ServesOne}
use Rattle.fw_live.proofs.CommandLaws.{relied-told}
use Rattle.fw_live.proofs.FaultsLaws.{failed-after, same≤, told-grows}
use Rattle.fw_live.proofs.ServingLaws.{calm-more, counts-calm, counts-cut, counts-stopped, gives-none, lines-failed, lines-kept, many-more, many-none, part-before, part-within, serves-more, same-fault, serves-none, store-not-cut}
use Rattle.fw_live.proofs.serving.serve.Goals as goal

pub loop-init : goal.loop-init
loop-init g c =
    let old = c.args.live.now in
    record {
      flow = refl;
      rests = refl;
      told_before = λ told. told;
      texts = refl;
      left = λ story kept at keeps may told. may;
      of_story = c.is_at_stories.ensures;
      many = many-none (g.L.LineSource.given c.args.input.now);
      lines = refl;
      calm = record { refusals = refl; faults = refl };
      served = serves-none old.rests (flow_of (g.S.Living.engine_of old.session)) (record { counts = old.counts; records = g.S.Living.records old.session; faults = g.S.Living.fault_count old.session; At = λ story kept. g.S.Living.at old.session story × g.S.Living.keeps old.session story kept })
          (g.L.LineSource.given c.args.input.now) (g.O.Sink.view c.args.out.now);
    }

pub loop-preserved : goal.loop-preserved
loop-preserved g c =
    let old = c.args.live.now in
    let now = c.loop.live in
    let new = c.answer_next.new.live in
    let inv = c.loop.invariant in
    record {
      flow = c.answer_next.ensures.flow ∙ inv.flow;
      rests = c.answer_next.ensures.rests ∙ inv.rests;
      told_before = λ told. inv.told_before (c.answer_next.ensures.told_before told);
      texts = c.answer_next.ensures.texts ∙ inv.texts;
      left = λ story kept at keeps may told.
          let t = c.answer_next.ensures.told_before told in
          let s = inv.served.serves story kept (at, keeps) (relied-told (g.S.Living.records now.session) (flow_of (g.S.Living.engine_of old.session)) inv.served.lines t) in
          c.answer_next.ensures.left s.last s.at.0 (inv.left story kept at keeps may t) told;
      of_story = c.is_at_stories-in-loop.ensures;
      many = many-more c.loop.counter (g.L.LineSource.given c.args.input.now) (g.L.LineSource.given c.loop.input)
          (g.L.LineSource.given c.answer_next.new.input) inv.many
          (subst (λ answer. IfSome answer (λ text. GivesMany 1 (g.L.LineSource.given c.loop.input) (g.L.LineSource.given c.answer_next.new.input))) c.in-Some.is c.in_ok-answer.ensures.one);
      lines = c.in_ok-answer.ensures.lines ∙ inv.lines;
      calm = calm-more c.deref.result.now (g.O.Sink.view c.args.out.now) (g.O.Sink.view c.loop.out) (g.O.Sink.view c.write.new.out) inv.calm
          c.in_ok-write.ensures.written;
      served = serves-more old.rests now.rests (flow_of (g.S.Living.engine_of old.session)) (flow_of (g.S.Living.engine_of now.session))
          (record { counts = old.counts; records = g.S.Living.records old.session; faults = g.S.Living.fault_count old.session; At = λ story kept. g.S.Living.at old.session story × g.S.Living.keeps old.session story kept })
          (record { counts = now.counts; records = g.S.Living.records now.session; faults = g.S.Living.fault_count now.session; At = λ story kept. g.S.Living.at now.session story × g.S.Living.keeps now.session story kept })
          (record { counts = new.counts; records = g.S.Living.records new.session; faults = g.S.Living.fault_count new.session; At = λ story kept. g.S.Living.at new.session story × g.S.Living.keeps new.session story kept })
          (g.L.LineSource.given c.args.input.now) (g.L.LineSource.given c.loop.input) (g.L.LineSource.given c.answer_next.new.input)
          c.in-Some.answer.items (g.O.Sink.view c.args.out.now) (g.O.Sink.view c.loop.out) (g.O.Sink.view c.write.new.out)
          inv.rests inv.flow inv.served (subst (λ answer. IfSome answer (λ text. ServesOne now.rests (flow_of (g.S.Living.engine_of now.session))
          (record { counts = now.counts; records = g.S.Living.records now.session; faults = g.S.Living.fault_count now.session; At = λ story kept. g.S.Living.at now.session story × g.S.Living.keeps now.session story kept })
          (record { counts = new.counts; records = g.S.Living.records new.session; faults = g.S.Living.fault_count new.session; At = λ story kept. g.S.Living.at new.session story × g.S.Living.keeps new.session story kept })
          (g.L.LineSource.given c.loop.input) (g.L.LineSource.given c.answer_next.new.input) (λ bytes. text.items ≡ bytes))) c.in-Some.is c.in_ok-answer.ensures.answered)
          (subst (λ bytes. IsWritten bytes (g.O.Sink.view c.loop.out) (g.O.Sink.view c.write.new.out)) c.deref.ensures.value c.in_ok-write.ensures.written) c.answer_next.ensures.told_before;
    }

pub returns-in_err-answer-clause-part : goal.returns-in_err-answer-clause-part
returns-in_err-answer-clause-part g c =
    let p = err_from_is_err_and c.from_residual.result c.from_residual.ensures.1 in
    let old = c.args.live.now in
    let now = c.loop.live in
    let new = c.answer_next.new.live in
    rw (p.1, p.2) (part-before old.rests (flow_of (g.S.Living.engine_of old.session))
    (record { counts = old.counts; records = g.S.Living.records old.session; faults = g.S.Living.fault_count old.session; At = λ story kept. g.S.Living.at old.session story × g.S.Living.keeps old.session story kept })
    (record { counts = now.counts; records = g.S.Living.records now.session; faults = g.S.Living.fault_count now.session; At = λ story kept. g.S.Living.at now.session story × g.S.Living.keeps now.session story kept })
    (g.S.Living.records new.session) (g.S.Living.fault_count new.session) (g.L.LineSource.given c.args.input.now) (g.L.LineSource.given c.loop.input)
    (g.L.LineSource.given c.answer_next.new.input) c.in_err-answer.field-0.0 (g.O.Sink.view c.args.out.now) (g.O.Sink.view c.loop.out)
    c.loop.invariant.served c.in_err-answer.ensures.unanswered (λ e. c.in_err-answer.ensures.no_write (ap Err e)) c.answer_next.ensures.told_before c.in_err-answer.ensures.failed
    (λ story kept there. subst (λ d. IsStory d story) c.loop.invariant.flow (c.loop.invariant.of_story story there.0)))

pub returns-in_err-write-clause-part : goal.returns-in_err-write-clause-part
returns-in_err-write-clause-part g c =
    let p = err_from_is_err_and c.from_residual-in_err-write.result c.from_residual-in_err-write.ensures.1 in
    let old = c.args.live.now in
    let now = c.loop.live in
    let new = c.answer_next.new.live in
    let inv = c.loop.invariant in
    let fault = c.in_err-write.field-0.0 in
    rw (p.1, p.2) (part-within old.rests now.rests (flow_of (g.S.Living.engine_of old.session)) (flow_of (g.S.Living.engine_of now.session))
    (record { counts = old.counts; records = g.S.Living.records old.session; faults = g.S.Living.fault_count old.session; At = λ story kept. g.S.Living.at old.session story × g.S.Living.keeps old.session story kept })
    (record { counts = now.counts; records = g.S.Living.records now.session; faults = g.S.Living.fault_count now.session; At = λ story kept. g.S.Living.at now.session story × g.S.Living.keeps now.session story kept })
    (record { counts = new.counts; records = g.S.Living.records new.session; faults = g.S.Living.fault_count new.session; At = λ story kept. g.S.Living.at new.session story × g.S.Living.keeps new.session story kept })
    (g.L.LineSource.given c.args.input.now) (g.L.LineSource.given c.loop.input) (g.L.LineSource.given c.answer_next.new.input) c.in-Some.answer.items fault
    (g.O.Sink.view c.args.out.now) (g.O.Sink.view c.loop.out) (g.O.Sink.view c.write.new.out) inv.rests inv.flow inv.served (subst (λ answer. IfSome answer (λ text. ServesOne now.rests (flow_of (g.S.Living.engine_of now.session))
    (record { counts = now.counts; records = g.S.Living.records now.session; faults = g.S.Living.fault_count now.session; At = λ story kept. g.S.Living.at now.session story × g.S.Living.keeps now.session story kept })
    (record { counts = new.counts; records = g.S.Living.records new.session; faults = g.S.Living.fault_count new.session; At = λ story kept. g.S.Living.at new.session story × g.S.Living.keeps new.session story kept })
    (g.L.LineSource.given c.loop.input) (g.L.LineSource.given c.answer_next.new.input) (λ bytes. text.items ≡ bytes))) c.in-Some.is c.in_ok-answer.ensures.answered)
    (subst (λ bytes. IsCutBy fault bytes (g.O.Sink.view c.loop.out) (g.O.Sink.view c.write.new.out)) c.deref.ensures.value c.in_err-write.ensures.cut)
    c.answer_next.ensures.told_before
    (λ story kept there. subst (λ d. IsStory d story) (c.answer_next.ensures.flow ∙ inv.flow) (c.is_at_stories-in-loop.ensures story there.0)))

pub returns-clause-part : goal.returns-clause-part
returns-clause-part g c =
    let old = c.args.live.now in
    let now = c.loop.live in
    part-before old.rests (flow_of (g.S.Living.engine_of old.session))
    (record { counts = old.counts; records = g.S.Living.records old.session; faults = g.S.Living.fault_count old.session; At = λ story kept. g.S.Living.at old.session story × g.S.Living.keeps old.session story kept })
    (record { counts = now.counts; records = g.S.Living.records now.session; faults = g.S.Living.fault_count now.session; At = λ story kept. g.S.Living.at now.session story × g.S.Living.keeps now.session story kept })
    (g.S.Living.records now.session) (g.S.Living.fault_count now.session) (g.L.LineSource.given c.args.input.now) (g.L.LineSource.given c.loop.input) (g.L.LineSource.given c.loop.input) Read
    (g.O.Sink.view c.args.out.now) (g.O.Sink.view c.loop.out) c.loop.invariant.served
    (gives-none Read (g.L.LineSource.given c.loop.input) (g.L.LineSource.given c.loop.input) refl) (λ e. absurd cc) (λ told. told)
    (same≤ (g.S.Living.fault_count now.session) (g.S.Living.fault_count now.session) refl)
    (λ story kept there. subst (λ d. IsStory d story) c.loop.invariant.flow (c.loop.invariant.of_story story there.0))

pub returns-in_default-clause-lines : goal.returns-in_default-clause-lines
returns-in_default-clause-lines g c = c.in_ok-answer.ensures.lines ∙ c.loop.invariant.lines

pub returns-in_default-clause-writes : goal.returns-in_default-clause-writes
returns-in_default-clause-writes g c = counts-calm (g.O.Sink.view c.args.out.now) (g.O.Sink.view c.loop.out) c.loop.invariant.calm

pub returns-in_err-answer-clause-lines_failed : goal.returns-in_err-answer-clause-lines_failed
returns-in_err-answer-clause-lines_failed g c =
    let p = err_from_is_err_and c.from_residual.result c.from_residual.ensures.1 in
    let count = g.L.LineSource.fault_count in
    rw (p.1, p.2) (lines-failed c.in_err-answer.field-0.0 (g.L.LineSource.given c.args.input.now) (g.L.LineSource.given c.answer_next.new.input)
    (count c.args.input.now) (count c.loop.input) (count c.answer_next.new.input) c.loop.invariant.lines c.in_err-answer.ensures.lines_failed)

pub returns-in_err-answer-clause-writes_failed : goal.returns-in_err-answer-clause-writes_failed
returns-in_err-answer-clause-writes_failed g c =
    let p = err_from_is_err_and c.from_residual.result c.from_residual.ensures.1 in
    rw (p.1, p.2) (counts-stopped c.in_err-answer.field-0.0 (g.O.Sink.view c.args.out.now) (g.O.Sink.view c.loop.out)
    (λ e. c.in_err-answer.ensures.no_write (ap Err e)) c.loop.invariant.calm)

pub returns-in_err-write-clause-lines_failed : goal.returns-in_err-write-clause-lines_failed
returns-in_err-write-clause-lines_failed g c =
    let p = err_from_is_err_and c.from_residual-in_err-write.result c.from_residual-in_err-write.ensures.1 in
    let count = g.L.LineSource.fault_count in
    let fault = c.in_err-write.field-0.0 in
    rw (p.1, p.2) (lines-kept fault (g.L.LineSource.given c.args.input.now) (g.L.LineSource.given c.answer_next.new.input)
    (count c.args.input.now) (count c.answer_next.new.input)
    (λ e. subst (λ f. IsCutBy f c.deref.result.now (g.O.Sink.view c.loop.out) (g.O.Sink.view c.write.new.out)) e c.in_err-write.ensures.cut)
    (c.in_ok-answer.ensures.lines ∙ c.loop.invariant.lines))

pub returns-in_err-write-clause-writes_failed : goal.returns-in_err-write-clause-writes_failed
returns-in_err-write-clause-writes_failed g c =
    let p = err_from_is_err_and c.from_residual-in_err-write.result c.from_residual-in_err-write.ensures.1 in
    rw (p.1, p.2) (counts-cut c.in_err-write.field-0.0 c.deref.result.now (g.O.Sink.view c.args.out.now) (g.O.Sink.view c.loop.out)
    (g.O.Sink.view c.write.new.out) c.loop.invariant.calm c.in_err-write.ensures.cut)

pub returns-clause-lines_failed : goal.returns-clause-lines_failed
returns-clause-lines_failed g c =
    let whole : c.loop.counter ≡ 2 ^ 64 - 1 = omega (arith, c.loop-test.false, c.loop.auto.counter-end) in
    inr (
      subst (λ n. GivesMany n (g.L.LineSource.given c.args.input.now) (g.L.LineSource.given c.loop.input)) whole c.loop.invariant.many,
      c.loop.invariant.lines,
    )

pub returns-clause-writes_failed : goal.returns-clause-writes_failed
returns-clause-writes_failed g c = counts-stopped Read (g.O.Sink.view c.args.out.now) (g.O.Sink.view c.loop.out) (λ e. absurd cc) c.loop.invariant.calm

pub returns-in_err-answer-clause-left : goal.returns-in_err-answer-clause-left
returns-in_err-answer-clause-left g c = λ story kept at keeps may told.
    let inv = c.loop.invariant in
    let t = c.answer_next.ensures.told_before told in
    let s = inv.served.serves story kept (at, keeps) (relied-told (g.S.Living.records c.loop.live.session)
    (flow_of (g.S.Living.engine_of c.args.live.now.session)) inv.served.lines t) in
    c.answer_next.ensures.left s.last s.at.0 (inv.left story kept at keeps may t) told

pub returns-in_default-clause-left : goal.returns-in_default-clause-left
returns-in_default-clause-left g c = λ story kept at keeps may told.
    let inv = c.loop.invariant in
    let t = c.answer_next.ensures.told_before told in
    let s = inv.served.serves story kept (at, keeps) (relied-told (g.S.Living.records c.loop.live.session)
    (flow_of (g.S.Living.engine_of c.args.live.now.session)) inv.served.lines t) in
    c.answer_next.ensures.left s.last s.at.0 (inv.left story kept at keeps may t) told

pub returns-in_err-write-clause-left : goal.returns-in_err-write-clause-left
returns-in_err-write-clause-left g c = λ story kept at keeps may told.
    let inv = c.loop.invariant in
    let t = c.answer_next.ensures.told_before told in
    let s = inv.served.serves story kept (at, keeps) (relied-told (g.S.Living.records c.loop.live.session)
    (flow_of (g.S.Living.engine_of c.args.live.now.session)) inv.served.lines t) in
    c.answer_next.ensures.left s.last s.at.0 (inv.left story kept at keeps may t) told

pub returns-clause-left : goal.returns-clause-left
returns-clause-left g c = c.loop.invariant.left

pub returns-in_err-answer-clause-store_failed : goal.returns-in_err-answer-clause-store_failed
returns-in_err-answer-clause-store_failed g c = λ story kept at keeps told e.
    let p = err_from_is_err_and c.from_residual.result c.from_residual.ensures.1 in
    let inv = c.loop.invariant in
    let old = c.args.live.now in
    let now = c.loop.live in
    let count = g.S.Living.fault_count in
    let t = c.answer_next.ensures.told_before told in
    let s = inv.served.serves story kept (at, keeps) (relied-told (g.S.Living.records now.session)
    (flow_of (g.S.Living.engine_of old.session)) inv.served.lines t) in
    failed-after (count old.session) (count now.session) (count c.answer_next.new.live.session)
    (told-grows old.counts.faults now.counts.faults (count old.session) (count now.session) inv.served.faults)
    (c.in_err-answer.ensures.store_failed s.last s.at.0 told (ap Err (sym p.2 ∙ same-fault p.0 Store (sym p.1 ∙ e))))

pub returns-in_err-write-clause-store_failed : goal.returns-in_err-write-clause-store_failed
returns-in_err-write-clause-store_failed g c = λ story kept at keeps told e.
    let p = err_from_is_err_and c.from_residual-in_err-write.result c.from_residual-in_err-write.ensures.1 in
    absurd (store-not-cut c.in_err-write.field-0.0 c.deref.result.now (g.O.Sink.view c.loop.out) (g.O.Sink.view c.write.new.out)
    (sym (ap Err p.2) ∙ sym p.1 ∙ e) c.in_err-write.ensures.cut)
