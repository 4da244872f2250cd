use Rattle.std.proofs.lemmas.Result.{on_ok_weaker}
use Rattle.fw_running.specs.Shaped.{IsShaped}
use Rattle.fw_running.specs.BroughtUp.{IsBroughtUp}
use Rattle.fw_running.specs.Ready.{IsOwing}
use Rattle.fw_running.proofs.BroughtUpLaws.{brought_up_shaped}
use Rattle.fw_engine.proofs.SearchLaws.{holds_if, fails_if, notice_of-found, owing_taken}
use Rattle.fw_engine.proofs.auto.notice_of.Goals as goal

pub returns-then-not-is_owed-clause-shaped : goal.returns-then-not-is_owed-clause-shaped
returns-then-not-is_owed-clause-shaped c =
    owing_taken c.args.running.now c.take_owing.new.self c.args.node c.requires
    (fails_if c.is_owed.result (IsOwing c.args.running.now c.args.node) c.if-not-is_owed.true c.is_owed.ensures) c.take_owing.ensures.others c.take_owing.ensures.taken

pub returns-clause-shaped : goal.returns-clause-shaped
returns-clause-shaped c =
    let old = c.args.running.now in
    let new = c.next_notice.new.running in
    on_ok_weaker {P = IsBroughtUp old new} {Q = IsShaped new} c.next_notice.result (λ up. brought_up_shaped old new c.requires up) c.next_notice.ensures.up

pub returns-clause-found : goal.returns-clause-found
returns-clause-found c =
    notice_of-found c.args.running.now c.args.node c.next_notice.result
    (holds_if c.is_owed.result (IsOwing c.args.running.now c.args.node) c.if-not-is_owed.false c.is_owed.ensures)
    c.next_notice.ensures.found c.next_notice.ensures.of_domain

pub returns-clause-taken : goal.returns-clause-taken
returns-clause-taken c = λ none.
    absurd (none (holds_if c.is_owed.result (IsOwing c.args.running.now c.args.node) c.if-not-is_owed.false c.is_owed.ensures))
