use Rattle.std.proofs.Common.{◌≡◌, ◌||◌, ◌≤◌, ◌^◌, ℕ, List, Bool, length, OnOk, refl, sym, ap, ◌∙◌, subst}
use Rattle.std.proofs.lemmas.Result.{on_ok_weaker}
use Rattle.fw_bag.specs.Arrivals.{Arrival}
use Rattle.fw_flow.specs.NodeFunction.{sequence_sent}
use Rattle.fw_model.specs.Filtering.{events_inside}
use Rattle.fw_model.specs.Told.{is_told}
use Rattle.fw_numbered.specs.Sequence.{IsSequence}
use Rattle.fw_node.specs.declared.table.Table.TheVariants as table
use Rattle.fw_node.specs.Arrived.{arrived}
use Rattle.fw_node.specs.NodeTable.{IsNodeTable, dimension_of}
use Rattle.fw_node.specs.Past.{Past, past_of}
use Rattle.fw_node.specs.StateOf.{IsStateSince}
use Rattle.fw_node.proofs.ChangingLaws.{inside_arrived, settled_taken, stays_empty, taken_settled, written_over}
use Rattle.fw_node.proofs.RestoringLaws.{at_epochs, at_numbered, few_sent, inside_or}
use Rattle.fw_node.proofs.TableCases.{of_ledger, of_sequence, of_total, of_variant}
use Rattle.fw_node.proofs.table.Table.take_changes.Goals as goal

pub returns-in-Total-clause-ok : goal.returns-in-Total-clause-ok
returns-in-Total-clause-ok c = λ flow k ins bounds settled after before one d i r st.
    let new = c.take_changes.new.self in
    let past : Past = past_of ins settled (events_inside settled before) in
    let came : List Arrival = arrived ins before in
    let inner = inside_arrived ins settled before in
    of_total flow past (λ x. IsStateSince x settled before c.args.state.now → OnOk c.take_changes.result (IsNodeTable flow (table.Total new) x (past_of ins after before)))
    c.in-Total.table k (of_variant flow k past c.in-Total.is r)
    (λ h u. on_ok_weaker c.take_changes.result (λ n. settled_taken after (is_told before) new came i n)
    (c.take_changes.ensures.ok settled after past.came came inner i (at_epochs bounds came (one ∙ ap dimension_of c.in-Total.is) d)
    (written_over ins settled before c.totals_of.result.now (c.totals_of.ensures ∙ u.totals)) (taken_settled settled past.told c.in-Total.table past.came inner h))) st

pub returns-in-Ledger-clause-ok : goal.returns-in-Ledger-clause-ok
returns-in-Ledger-clause-ok c = λ flow k ins bounds settled after before one d i r st.
    let new = c.take_changes-in-Ledger.new.self in
    let past : Past = past_of ins settled (events_inside settled before) in
    let came : List Arrival = arrived ins before in
    of_ledger flow past (λ x. IsStateSince x settled before c.args.state.now → OnOk c.take_changes-in-Ledger.result (IsNodeTable flow (table.Ledger new) x (past_of ins after before)))
    c.in-Ledger.table k (of_variant flow k past c.in-Ledger.is r)
    (λ h u. c.take_changes-in-Ledger.ensures.ok settled after past.came came (inside_arrived ins settled before) i
    (at_numbered bounds came (one ∙ ap dimension_of c.in-Ledger.is) d)
    (written_over ins settled before c.totals_of-in-Ledger.result.now (c.totals_of-in-Ledger.ensures ∙ u.totals)) h) st

pub returns-in-Sequence-clause-ok : goal.returns-in-Sequence-clause-ok
returns-in-Sequence-clause-ok c = λ flow k ins bounds settled after before one d i r st.
    let x = c.from_state.result in
    let past : Past = past_of ins settled (events_inside settled before) in
    let came : List Arrival = arrived ins before in
    let gone : List ℕ → Bool = λ s. after s || is_told before s in
    let Q : ℕ → Type 0 = λ n. IsSequence gone x came n in
    of_sequence flow past (λ y. IsStateSince y settled before c.args.state.now → IsNodeTable flow (table.Sequence x) y (past_of ins after before))
    c.in-Sequence.table k (of_variant flow k past c.in-Sequence.is r)
    (λ h u.
    let b = u.sent refl in
    let sent : c.sent_of.result ≡ length (sequence_sent before) = c.sent_of.ensures.sent (subst (λ n. n ≤ 2 ^ 32) (sym b) (few_sent before)) ∙ b in
    subst Q sent (c.from_state.ensures.table gone came (inside_or after (is_told before) came i))) st

pub returns-in_default-clause-ok : goal.returns-in_default-clause-ok
returns-in_default-clause-ok c = λ flow k ins bounds settled after before one d i r st.
    stays_empty flow ins settled after before i c.args.self.now k c.in_default.not-Total c.in_default.not-Sequence c.in_default.not-Ledger r
