use Rattle.std.proofs.Common.{◌++◌, List, sym, ap, subst, ◌∙◌}
use Rattle.std.specs.Prelude.{OnOk}
use Rattle.std.proofs.lemmas.List.{append-nil}
use Rattle.fw_time.specs.Stamp.{in_domain}
use Rattle.fw_record.specs.Event.{stamp_of_event, event_of}
use Rattle.fw_record.specs.declared.record.Event.{Event as LoggedEvent}
use Rattle.fw_record.specs.declared.record.Record.{Record}
use Rattle.fw_rollback.specs.Asked.{CanServe}
use Rattle.fw_rollback.specs.Restored.{HaveSent, StandsForRedone}
use Rattle.fw_rollback.proofs.replay.do_record.Goals as goal

pub do_again-requires-clause-stamp : goal.do_again-requires-clause-stamp
do_again-requires-clause-stamp c =
    ap (λ b. in_domain b (stamp_of_event c.in-Event.event)) c.requires.node.bounds ∙ subst (CanServe c.args.flow.now c.args.node) c.in-Event.is c.requires.serve

pub returns-in-State-clause-table : goal.returns-in-State-clause-table
returns-in-State-clause-table c = λ logged st.
    subst (λ (ls : List LoggedEvent). StandsForRedone c.args.flow.now c.args.node ls c.args.table.now)
    (sym (ap (λ (r : Record). logged ++ event_of r) c.in-State.is ∙ append-nil logged)) st

pub returns-in-State-clause-logs : goal.returns-in-State-clause-logs
returns-in-State-clause-logs c = λ logged st sent.
    subst (λ (ls : List LoggedEvent). HaveSent c.args.flow.now c.args.low.now c.args.node ls c.args.logs.now)
    (sym (ap (λ (r : Record). logged ++ event_of r) c.in-State.is ∙ append-nil logged)) sent

pub returns-in-Changes-clause-table : goal.returns-in-Changes-clause-table
returns-in-Changes-clause-table c = λ logged st.
    subst (λ (ls : List LoggedEvent). StandsForRedone c.args.flow.now c.args.node ls c.args.table.now)
    (sym (ap (λ (r : Record). logged ++ event_of r) c.in-Changes.is ∙ append-nil logged)) st

pub returns-in-Changes-clause-logs : goal.returns-in-Changes-clause-logs
returns-in-Changes-clause-logs c = λ logged st sent.
    subst (λ (ls : List LoggedEvent). HaveSent c.args.flow.now c.args.low.now c.args.node ls c.args.logs.now)
    (sym (ap (λ (r : Record). logged ++ event_of r) c.in-Changes.is ∙ append-nil logged)) sent

pub returns-in-Event-clause-table : goal.returns-in-Event-clause-table
returns-in-Event-clause-table c = λ logged st.
    subst (λ (r : Record). OnOk c.do_again.result (StandsForRedone c.args.flow.now c.args.node (logged ++ event_of r) c.do_again.new.table))
    (sym c.in-Event.is) (c.do_again.ensures.table logged st)

pub returns-in-Event-clause-logs : goal.returns-in-Event-clause-logs
returns-in-Event-clause-logs c = λ logged st sent.
    subst (λ (r : Record). OnOk c.do_again.result (HaveSent c.args.flow.now c.args.low.now c.args.node (logged ++ event_of r) c.do_again.new.logs))
    (sym c.in-Event.is) (c.do_again.ensures.logs logged st sent)
