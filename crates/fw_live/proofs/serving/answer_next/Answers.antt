use Rattle.std.proofs.Common.{◌≡◌, ◌∙◌, Some, None, Ok, sym, ap, subst, refl}
use Rattle.std.proofs.lemmas.Result.{err_from_is_err_and}
use Rattle.std.specs.Prelude.{IfOk, IfSome}
use Rattle.fw_engine.specs.Engine.{flow_of}
use Rattle.fw_live.specs.Given.{gives_after, with_line_given}
use Rattle.fw_live.specs.Serving.{GivesMany, ServesOne}
use Rattle.fw_live.proofs.ServingLaws.{gives-none, gives-one, if-ok-some, many-one, no-line-failed, on-ok}
use Rattle.fw_live.proofs.serving.answer_next.Goals as goal

pub returns-in-Line-clause-answered : goal.returns-in-Line-clause-answered
returns-in-Line-clause-answered g c =
    let old = c.args.live.now in
    let new = c.answer_line.new.live in
    let given = g.L.LineSource.given in
    let after = c.next_line.new.input in
    let gave : given after ≡ with_line_given (Some c.deref.result.now) (given c.args.input.now) =
    subst (λ n. given after ≡ gives_after (Ok n) c.next_line.new.line.items (given c.args.input.now)) c.in-Line.is c.in_ok-next.ensures.given ∙ ap (λ bytes. with_line_given (Some bytes) (given c.args.input.now)) (sym c.deref.ensures.value) in
    subst (λ gives. IfOk c.answer_line.result (λ answer. IfSome answer (λ text. ServesOne old.rests (flow_of (g.S.Living.engine_of old.session))
    (record { counts = old.counts; records = g.S.Living.records old.session; faults = g.S.Living.fault_count old.session; At = λ story kept. g.S.Living.at old.session story × g.S.Living.keeps old.session story kept })
    (record { counts = new.counts; records = g.S.Living.records new.session; faults = g.S.Living.fault_count new.session; At = λ story kept. g.S.Living.at new.session story × g.S.Living.keeps new.session story kept })
    (given c.args.input.now) gives (λ bytes. text.items ≡ bytes)))) (sym gave) (c.answer_line.ensures.answered (given c.args.input.now))

pub returns-in-Line-clause-unanswered : goal.returns-in-Line-clause-unanswered
returns-in-Line-clause-unanswered g c =
    let given = g.L.LineSource.given in
    let after = c.next_line.new.input in
    let gave : given after ≡ with_line_given (Some c.deref.result.now) (given c.args.input.now) =
    subst (λ n. given after ≡ gives_after (Ok n) c.next_line.new.line.items (given c.args.input.now)) c.in-Line.is c.in_ok-next.ensures.given ∙ ap (λ bytes. with_line_given (Some bytes) (given c.args.input.now)) (sym c.deref.ensures.value) in
    gives-one c.answer_line.result (Some c.deref.result.now) (given c.args.input.now) (given after) c.answer_line.ensures.no_read gave

pub returns-in-TooLong-clause-answered : goal.returns-in-TooLong-clause-answered
returns-in-TooLong-clause-answered g c =
    let old = c.args.live.now in
    let new = c.answer_long.new.live in
    let given = g.L.LineSource.given in
    let after = c.next_line.new.input in
    let gave : given after ≡ with_line_given (None) (given c.args.input.now) =
    subst (λ n. given after ≡ gives_after (Ok n) c.next_line.new.line.items (given c.args.input.now)) c.in-TooLong.is c.in_ok-next.ensures.given in
    subst (λ gives. IfOk c.answer_long.result (λ answer. IfSome answer (λ text. ServesOne old.rests (flow_of (g.S.Living.engine_of old.session))
    (record { counts = old.counts; records = g.S.Living.records old.session; faults = g.S.Living.fault_count old.session; At = λ story kept. g.S.Living.at old.session story × g.S.Living.keeps old.session story kept })
    (record { counts = new.counts; records = g.S.Living.records new.session; faults = g.S.Living.fault_count new.session; At = λ story kept. g.S.Living.at new.session story × g.S.Living.keeps new.session story kept })
    (given c.args.input.now) gives (λ bytes. text.items ≡ bytes)))) (sym gave) (c.answer_long.ensures.answered (given c.args.input.now))

pub returns-in-TooLong-clause-unanswered : goal.returns-in-TooLong-clause-unanswered
returns-in-TooLong-clause-unanswered g c =
    let given = g.L.LineSource.given in
    let after = c.next_line.new.input in
    let gave : given after ≡ with_line_given (None) (given c.args.input.now) =
    subst (λ n. given after ≡ gives_after (Ok n) c.next_line.new.line.items (given c.args.input.now)) c.in-TooLong.is c.in_ok-next.ensures.given in
    gives-one c.answer_long.result None (given c.args.input.now) (given after) c.answer_long.ensures.no_read gave

pub returns-in-Line-clause-one : goal.returns-in-Line-clause-one
returns-in-Line-clause-one g c =
    let given = g.L.LineSource.given in
    let after = c.next_line.new.input in
    let gave : given after ≡ with_line_given (Some c.deref.result.now) (given c.args.input.now) =
    subst (λ n. given after ≡ gives_after (Ok n) c.next_line.new.line.items (given c.args.input.now)) c.in-Line.is c.in_ok-next.ensures.given ∙ ap (λ bytes. with_line_given (Some bytes) (given c.args.input.now)) (sym c.deref.ensures.value) in
    if-ok-some c.answer_line.result (GivesMany 1 (given c.args.input.now) (given after)) (many-one (Some c.deref.result.now) (given c.args.input.now) (given after) gave)

pub returns-in-TooLong-clause-one : goal.returns-in-TooLong-clause-one
returns-in-TooLong-clause-one g c =
    let given = g.L.LineSource.given in
    let after = c.next_line.new.input in
    let gave : given after ≡ with_line_given (None) (given c.args.input.now) =
    subst (λ n. given after ≡ gives_after (Ok n) c.next_line.new.line.items (given c.args.input.now)) c.in-TooLong.is c.in_ok-next.ensures.given in
    if-ok-some c.answer_long.result (GivesMany 1 (given c.args.input.now) (given after)) (many-one (None) (given c.args.input.now) (given after) gave)

pub returns-in-Line-clause-lines : goal.returns-in-Line-clause-lines
returns-in-Line-clause-lines g c =
    let count = g.L.LineSource.fault_count in
    on-ok c.answer_line.result (count c.next_line.new.input ≡ count c.args.input.now) c.in_ok-next.ensures.lines

pub returns-in-Line-clause-lines_failed : goal.returns-in-Line-clause-lines_failed
returns-in-Line-clause-lines_failed g c =
    let count = g.L.LineSource.fault_count in
    no-line-failed c.answer_line.result (count c.args.input.now) (count c.next_line.new.input) c.answer_line.ensures.no_read c.in_ok-next.ensures.lines

pub returns-in-TooLong-clause-lines : goal.returns-in-TooLong-clause-lines
returns-in-TooLong-clause-lines g c =
    let count = g.L.LineSource.fault_count in
    on-ok c.answer_long.result (count c.next_line.new.input ≡ count c.args.input.now) c.in_ok-next.ensures.lines

pub returns-in-TooLong-clause-lines_failed : goal.returns-in-TooLong-clause-lines_failed
returns-in-TooLong-clause-lines_failed g c =
    let count = g.L.LineSource.fault_count in
    no-line-failed c.answer_long.result (count c.args.input.now) (count c.next_line.new.input) c.answer_long.ensures.no_read c.in_ok-next.ensures.lines

pub returns-in_err-next-clause-unanswered : goal.returns-in_err-next-clause-unanswered
returns-in_err-next-clause-unanswered g c =
    let p = err_from_is_err_and c.from_residual.result c.from_residual.ensures.1 in
    rw (p.1) (gives-none p.0 (g.L.LineSource.given c.args.input.now) (g.L.LineSource.given c.next_line.new.input) (c.in_err-next.ensures.none refl))
