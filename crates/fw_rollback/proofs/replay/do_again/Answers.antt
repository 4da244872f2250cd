use Rattle.std.proofs.Common.{◌≡◌, ◌++◌, ◌∷◌, [], true, false, refl, ap, subst, ◌∙◌}
use Rattle.fw_lemmas.proofs.Results.{on_ok}
use Rattle.fw_time.specs.Stamp.{in_domain}
use Rattle.fw_flow.specs.declared.event.Event.{Event}
use Rattle.fw_flow.specs.declared.event.Event.TheVariants.{Deliver}
use Rattle.fw_flow.specs.Dataflow.{System}
use Rattle.fw_flow.specs.NodeFunction.{sends}
use Rattle.fw_model.specs.Carried.{carried}
use Rattle.fw_record.specs.Event.{stamp_of_event}
use Rattle.fw_record.specs.declared.record.Event.{Event as LoggedEvent}
use Rattle.fw_node.specs.Sends.{messages_of}
use Rattle.fw_node.specs.TableOf.{IsTableOf}
use Rattle.fw_node.proofs.NodeOfLaws.{of_node}
use Rattle.fw_rollback.specs.Restored.{log_of, StandsForRedone}
use Rattle.fw_rollback.proofs.ReplayLaws.{of_delivery, of_notice, notice-logged, sent-logged, stands-more, have_sent-more}
use Rattle.fw_rollback.proofs.OwnLaws.{own-more}
use Rattle.fw_rollback.proofs.replay.do_again.Goals as goal

pub returns-in_ok-sends-in-Deliver-clause-table : goal.returns-in_ok-sends-in-Deliver-clause-table
returns-in_ok-sends-in-Deliver-clause-table c = λ logged st.
    let flow = c.args.flow.now in
    let p = c.args.node in
    on_ok c.log_sends.result (StandsForRedone flow p (logged ++ c.args.event.now ∷ []) c.deliver.new.self)
    (stands-more flow p logged c.args.event.now c.args.table.now c.deliver.new.self st
    (λ before v is can t.
    let P : Event → Type 0 = λ x. IsTableOf flow p (λ s. false) c.deliver.new.self (x ∷ before) in
    of_delivery P flow p before c.in-Deliver.edge c.in-Deliver.at c.in-Deliver.rec v (is ∙ ap (λ (l : LoggedEvent). l ∷ []) c.in-Deliver.is) can
    (λ m at rec one told. c.in_ok-sends-in-Deliver.ensures.ok flow p (λ s. false) before m at rec one refl told t)))

pub returns-in_ok-sends-in-Deliver-clause-logs : goal.returns-in_ok-sends-in-Deliver-clause-logs
returns-in_ok-sends-in-Deliver-clause-logs c = λ logged st sent.
    let flow = c.args.flow.now in
    let p = c.args.node in
    let at = c.in-Deliver.at in
    have_sent-more flow c.args.low.now p logged c.args.event.now c.args.table.now c.args.logs.now c.log_sends.new.logs c.log_sends.result (messages_of at c.in_ok-sends-in-Deliver.sends) st sent
    (λ batches before v is can t e ms.
    let sys : System = record { flow = flow; batches = batches } in
    let P : Event → Type 0 = λ x. log_of flow c.args.low.now e (carried flow e (messages_of at c.in_ok-sends-in-Deliver.sends) ++ ms) ≡ log_of flow c.args.low.now e (carried flow e (sends sys p before x) ++ ms) in
    of_delivery P flow p before c.in-Deliver.edge at c.in-Deliver.rec v (is ∙ ap (λ (x : LoggedEvent). x ∷ []) c.in-Deliver.is) can
    (λ m stamp rec one told. sent-logged flow c.args.low.now e (messages_of at c.in_ok-sends-in-Deliver.sends) (sends sys p before (Deliver c.in-Deliver.edge m)) ms
    (c.in_ok-sends-in-Deliver.ensures.sent sys p (λ x. false) before m stamp rec one refl t)))
    c.log_sends.ensures.logged

pub returns-in_ok-sends-in-Notify-clause-table : goal.returns-in_ok-sends-in-Notify-clause-table
returns-in_ok-sends-in-Notify-clause-table c = λ logged st.
    let flow = c.args.flow.now in
    let p = c.args.node in
    on_ok c.log_sends-in-Notify.result (StandsForRedone flow p (logged ++ c.args.event.now ∷ []) c.notify.new.self)
    (stands-more flow p logged c.args.event.now c.args.table.now c.notify.new.self st
    (λ before v is can t.
    let P : Event → Type 0 = λ x. IsTableOf flow p (λ s. false) c.notify.new.self (x ∷ before) in
    of_notice P flow p before c.in-Notify.at v (is ∙ ap (λ (l : LoggedEvent). l ∷ []) c.in-Notify.is) can
    (λ told sum. c.in_ok-sends-in-Notify.ensures.ok flow p (λ s. false) before refl told t)))

pub returns-in_ok-sends-in-Notify-clause-logs : goal.returns-in_ok-sends-in-Notify-clause-logs
returns-in_ok-sends-in-Notify-clause-logs c = λ logged st sent.
    let flow = c.args.flow.now in
    let p = c.args.node in
    let at = c.in-Notify.at in
    have_sent-more flow c.args.low.now p logged c.args.event.now c.args.table.now c.args.logs.now c.log_sends-in-Notify.new.logs c.log_sends-in-Notify.result (messages_of at c.in_ok-sends-in-Notify.sends) st sent
    (λ batches before v is can t e ms.
    let sys : System = record { flow = flow; batches = batches } in
    let P : Event → Type 0 = λ x. log_of flow c.args.low.now e (carried flow e (messages_of at c.in_ok-sends-in-Notify.sends) ++ ms) ≡ log_of flow c.args.low.now e (carried flow e (sends sys p before x) ++ ms) in
    of_notice P flow p before at v (is ∙ ap (λ (x : LoggedEvent). x ∷ []) c.in-Notify.is) can
    (λ told sum. notice-logged sys c.args.low.now e p before at (messages_of at c.in_ok-sends-in-Notify.sends) ms
    (c.in_ok-sends-in-Notify.ensures.sent flow p (λ x. false) before refl told sum t)))
    c.log_sends-in-Notify.ensures.logged

pub returns-in_ok-sends-in-Deliver-clause-own : goal.returns-in_ok-sends-in-Deliver-clause-own
returns-in_ok-sends-in-Deliver-clause-own c =
    let flow = c.args.flow.now in
    let p = c.args.node in
    let at = c.in-Deliver.at in
    let there = subst (λ (event : LoggedEvent). in_domain c.args.table.now.bounds (stamp_of_event event) ≡ true) c.in-Deliver.is c.requires.stamp in
    own-more flow c.args.low.now p at c.in_ok-sends-in-Deliver.sends c.args.logs.now c.log_sends.new.logs c.log_sends.result (of_node flow p c.args.table.now at c.requires.node there)
    (c.in_ok-sends-in-Deliver.ensures.domain flow p c.requires.well_formed c.requires.node) c.requires.own c.log_sends.ensures.logged

pub returns-in_ok-sends-in-Notify-clause-own : goal.returns-in_ok-sends-in-Notify-clause-own
returns-in_ok-sends-in-Notify-clause-own c =
    let flow = c.args.flow.now in
    let p = c.args.node in
    let at = c.in-Notify.at in
    let there = subst (λ (event : LoggedEvent). in_domain c.args.table.now.bounds (stamp_of_event event) ≡ true) c.in-Notify.is c.requires.stamp in
    own-more flow c.args.low.now p at c.in_ok-sends-in-Notify.sends c.args.logs.now c.log_sends-in-Notify.new.logs c.log_sends-in-Notify.result (of_node flow p c.args.table.now at c.requires.node there)
    (c.in_ok-sends-in-Notify.ensures.domain flow p c.requires.well_formed c.requires.node) c.requires.own c.log_sends-in-Notify.ensures.logged
