use Rattle.std.proofs.Common.{◌≡◌, Err, List, ap, subst, sym, ◌∙◌}
use Rattle.std.proofs.lemmas.Result.{err_from_is_err_and}
use Rattle.fw_schedule.specs.declared.item.Item.{Item}
use Rattle.fw_engine.specs.Engine.{flow_of}
use Rattle.fw_live.specs.declared.counts.LineCounts.{LineCounts}
use Rattle.fw_live.specs.Answers.{after_change, rest_item}
use Rattle.fw_live.specs.Reading.{change_in, first_item, read_in}
use Rattle.fw_live.specs.Relies.{EndsSo, GoesOnPrinting, IsMaybeReliedOn}
use Rattle.fw_live.specs.Taken.{EndsBoth}
use Rattle.fw_live.proofs.AnsweredLaws.{has-turned}
use Rattle.fw_live.proofs.CommandLaws.{relied-some}
use Rattle.fw_live.proofs.FaultsLaws.{failed-later, keeping-done, keeping-failed, keeping-more, life-failed, life-more, line-more, same≤, step-more, told-none, turn-told}
use Rattle.fw_live.proofs.TakingLaws.{ends-at, relied-maybe}
use Rattle.fw_live.proofs.turn.act.Goals as goal

pub returns-clause-turned : goal.returns-clause-turned
returns-clause-turned g c = λ story kept at acts relied.
    let at_in = g.S.Living.at in
    let old = c.args.session.now in
    let begun = c.begin.new.session in
    let mid = c.take_turn-taken.new.session in
    let new = c.keep.new.session in
    let flow = flow_of (g.S.Living.engine_of old) in
    let asked = c.args.asked.now in
    let next = after_change (change_in asked.change) story in
    let told = c.begin.new.into.items in
    let printed = c.take_turn-taken.new.into.items in
    let before = c.in_ok-begin.ensures.begun story at in
    let there = relied-maybe (g.S.Living.records mid) (g.S.Living.records new) (first_item asked.items) c.keep.ensures.told_before relied in
    has-turned c.args.rests flow story kept (read_in asked) c.take_turn-taken.result c.args.counts.now c.count_turn.new.self
    c.end.new.counts c.new-steps.result c.take_turn-taken.new.counts c.args.into.now.items told printed c.end.new.into.items (at_in mid)
    (λ s lines. at_in new s × g.S.Living.keeps new s lines)
    (g.S.Living.records new)
    (λ s shown e a. subst (λ lines. at_in new s × g.S.Living.keeps new s lines)
    (c.behind.ensures told shown (c.deref.ensures.value ∙ e) (c.len-begun.ensures ∙ c.begin.new.into.ok.0)) (c.in_ok-keep.ensures.kept s a))
    (λ told id e. told-none (g.S.Living.records mid) (c.keep.ensures.told_before told)
    (c.take_turn-taken.ensures.unharmed next id before.0 e))
    c.new-steps.ensures before.1
    (subst (λ rests. EndsSo (λ ending. GoesOnPrinting flow (EndsBoth flow next (first_item asked.items) (rest_item rests) ending)
    (record { bytes = told; counts = c.new-steps.result }) (record { bytes = printed; counts = c.take_turn-taken.new.counts }) (at_in mid)) c.take_turn-taken.result)
    c.rests_behind-rests.ensures
    (subst (λ d. EndsSo (λ ending. GoesOnPrinting d (EndsBoth d next (first_item asked.items) (rest_item c.rests_behind-rests.result) ending)
    (record { bytes = told; counts = c.new-steps.result }) (record { bytes = printed; counts = c.take_turn-taken.new.counts }) (at_in mid)) c.take_turn-taken.result)
    c.begin.ensures.flow
    (subst (λ (items : List Item). IsMaybeReliedOn (g.S.Living.records mid) (first_item items)
    → EndsSo (λ ending. GoesOnPrinting (flow_of (g.S.Living.engine_of begun))
    (EndsBoth (flow_of (g.S.Living.engine_of begun)) next (first_item items) (rest_item c.rests_behind-rests.result) ending)
    (record { bytes = told; counts = c.new-steps.result }) (record { bytes = printed; counts = c.take_turn-taken.new.counts }) (at_in mid))
    c.take_turn-taken.result)
    c.as_slice-items.ensures (λ r. c.take_turn-taken.ensures.ends next before.0 r) there)))
    c.count_turn.ensures c.in_ok-end.ensures.text c.in_ok-end.ensures.counted c.in_ok-end.ensures.no_memory acts

pub returns-clause-faults : goal.returns-clause-faults
returns-clause-faults g c =
    let count = g.S.Living.fault_count in
    let old = c.args.session.now in
    let begun = c.begin.new.session in
    let taken = c.take_turn-taken in
    let kept = c.keep.new.session in
    turn-told taken.result c.args.counts.now.faults c.count_turn.new.self.faults c.end.new.counts.faults (count old) (count begun)
    (count taken.new.session) (count kept) (ap (λ (k : LineCounts). k.faults) c.count_turn.ensures) c.in_ok-end.ensures.faults
    (keeping-done {T = Unit {0}} tt (g.S.Living.records begun) (g.S.Living.at old) (count old) (count begun) c.in_ok-begin.ensures.faults)
    taken.ensures.faults c.in_ok-keep.ensures.faults

pub returns-in_err-begin-clause-faults : goal.returns-in_err-begin-clause-faults
returns-in_err-begin-clause-faults g c =
    let p = err_from_is_err_and c.from_residual.result c.from_residual.ensures.1 in
    let count = g.S.Living.fault_count in
    let old = c.args.session.now in
    let begun = c.begin.new.session in
    rw (p.1) (keeping-more {T = Unit {0}} (Err c.in_err-begin.field-0.0) (g.S.Living.records begun) (g.S.Living.at old) (count old) (count begun)
    c.in_err-begin.ensures.faults)

pub returns-in_err-keep-clause-faults : goal.returns-in_err-keep-clause-faults
returns-in_err-keep-clause-faults g c =
    let p = err_from_is_err_and c.from_residual-in_err-keep.result c.from_residual-in_err-keep.ensures.1 in
    let count = g.S.Living.fault_count in
    let old = c.args.session.now in
    let begun = c.begin.new.session in
    let taken = c.take_turn-taken in
    let kept = c.keep.new.session in
    rw (p.1) (line-more (count old) (count begun) (count taken.new.session) (count kept)
    (keeping-done {T = Unit {0}} tt (g.S.Living.records begun) (g.S.Living.at old) (count old) (count begun) c.in_ok-begin.ensures.faults)
    (step-more taken.result (count begun) (count taken.new.session) taken.ensures.faults)
    (life-more {T = Unit {0}} (Err c.in_err-keep.field-0.0) (count taken.new.session) (count kept) c.in_err-keep.ensures.faults))

pub returns-in_err-end-clause-faults : goal.returns-in_err-end-clause-faults
returns-in_err-end-clause-faults g c =
    let p = err_from_is_err_and c.from_residual-in_err-end.result c.from_residual-in_err-end.ensures.1 in
    let count = g.S.Living.fault_count in
    let old = c.args.session.now in
    let begun = c.begin.new.session in
    let taken = c.take_turn-taken in
    let kept = c.keep.new.session in
    rw (p.1) (line-more (count old) (count begun) (count taken.new.session) (count kept)
    (keeping-done {T = Unit {0}} tt (g.S.Living.records begun) (g.S.Living.at old) (count old) (count begun) c.in_ok-begin.ensures.faults)
    (step-more taken.result (count begun) (count taken.new.session) taken.ensures.faults)
    (same≤ (count taken.new.session) (count kept) c.in_ok-keep.ensures.faults))

pub returns-clause-left : goal.returns-clause-left
returns-clause-left g c = λ story at may told.
    let mid = c.take_turn-taken.new.session in
    let t = c.keep.ensures.told_before told in
    let tb = c.take_turn-taken.ensures.told_before t in
    let next = c.in_ok-begin.ensures.begun story at in
    let flow = flow_of (g.S.Living.engine_of c.begin.new.session) in
    let first = first_item c.as_slice-items.result.now in
    let changed = after_change (change_in c.args.asked.now.change) story in
    let there = ends-at flow (λ ending outcomes s. EndsBoth flow changed first (rest_item c.rests_behind-rests.result) ending outcomes s)
    (record { bytes = c.begin.new.into.items; counts = c.new-steps.result })
    (record { bytes = c.take_turn-taken.new.into.items; counts = c.take_turn-taken.new.counts }) c.take_turn-taken.result (g.S.Living.at mid)
    (λ s. c.take_turn-taken.ensures.ends changed next.0 s) (relied-some (g.S.Living.records mid) first t) in
    c.keep.ensures.left there (c.take_turn-taken.ensures.left (after_change (change_in c.args.asked.now.change) story) next.0
    (c.begin.ensures.left story at may tb) t) told

pub returns-in_err-keep-clause-left : goal.returns-in_err-keep-clause-left
returns-in_err-keep-clause-left g c = λ story at may told.
    let mid = c.take_turn-taken.new.session in
    let t = c.keep.ensures.told_before told in
    let tb = c.take_turn-taken.ensures.told_before t in
    let next = c.in_ok-begin.ensures.begun story at in
    let flow = flow_of (g.S.Living.engine_of c.begin.new.session) in
    let first = first_item c.as_slice-items.result.now in
    let changed = after_change (change_in c.args.asked.now.change) story in
    let there = ends-at flow (λ ending outcomes s. EndsBoth flow changed first (rest_item c.rests_behind-rests.result) ending outcomes s)
    (record { bytes = c.begin.new.into.items; counts = c.new-steps.result })
    (record { bytes = c.take_turn-taken.new.into.items; counts = c.take_turn-taken.new.counts }) c.take_turn-taken.result (g.S.Living.at mid)
    (λ s. c.take_turn-taken.ensures.ends changed next.0 s) (relied-some (g.S.Living.records mid) first t) in
    c.keep.ensures.left there (c.take_turn-taken.ensures.left (after_change (change_in c.args.asked.now.change) story) next.0
    (c.begin.ensures.left story at may tb) t) told

pub returns-in_err-end-clause-left : goal.returns-in_err-end-clause-left
returns-in_err-end-clause-left g c = λ story at may told.
    let mid = c.take_turn-taken.new.session in
    let t = c.keep.ensures.told_before told in
    let tb = c.take_turn-taken.ensures.told_before t in
    let next = c.in_ok-begin.ensures.begun story at in
    let flow = flow_of (g.S.Living.engine_of c.begin.new.session) in
    let first = first_item c.as_slice-items.result.now in
    let changed = after_change (change_in c.args.asked.now.change) story in
    let there = ends-at flow (λ ending outcomes s. EndsBoth flow changed first (rest_item c.rests_behind-rests.result) ending outcomes s)
    (record { bytes = c.begin.new.into.items; counts = c.new-steps.result })
    (record { bytes = c.take_turn-taken.new.into.items; counts = c.take_turn-taken.new.counts }) c.take_turn-taken.result (g.S.Living.at mid)
    (λ s. c.take_turn-taken.ensures.ends changed next.0 s) (relied-some (g.S.Living.records mid) first t) in
    c.keep.ensures.left there (c.take_turn-taken.ensures.left (after_change (change_in c.args.asked.now.change) story) next.0
    (c.begin.ensures.left story at may tb) t) told

pub returns-in_err-begin-clause-store_failed : goal.returns-in_err-begin-clause-store_failed
returns-in_err-begin-clause-store_failed g c = λ story at told e.
    let p = err_from_is_err_and c.from_residual.result c.from_residual.ensures.1 in
    let count = g.S.Living.fault_count in
    let old = c.args.session.now in
    let begun = c.begin.new.session in
    keeping-failed {T = Unit {0}} (Err c.in_err-begin.field-0.0) (g.S.Living.records begun) (g.S.Living.at old) (count old) (count begun) story
    c.in_err-begin.ensures.faults (sym (ap Err p.2) ∙ sym p.1 ∙ e) told at

pub returns-in_err-keep-clause-store_failed : goal.returns-in_err-keep-clause-store_failed
returns-in_err-keep-clause-store_failed g c = λ story at told e.
    let p = err_from_is_err_and c.from_residual-in_err-keep.result c.from_residual-in_err-keep.ensures.1 in
    let count = g.S.Living.fault_count in
    let old = c.args.session.now in
    let begun = c.begin.new.session in
    let taken = c.take_turn-taken in
    let kept = c.keep.new.session in
    failed-later (count old) (count begun) (count taken.new.session) (count kept)
    (keeping-done {T = Unit {0}} tt (g.S.Living.records begun) (g.S.Living.at old) (count old) (count begun) c.in_ok-begin.ensures.faults)
    (step-more taken.result (count begun) (count taken.new.session) taken.ensures.faults)
    (life-failed {T = Unit {0}} (Err c.in_err-keep.field-0.0) (count taken.new.session) (count kept) c.in_err-keep.ensures.faults
    (sym (ap Err p.2) ∙ sym p.1 ∙ e))
