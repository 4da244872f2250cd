use Rattle.std.proofs.Common.{◌≡◌, ◌||◌, ◌≤◌, ◌^◌, ℕ, List, [], Bool, true, false, length, sym, ap, ◌∙◌, subst}
use Rattle.fw_bag.specs.declared.rec.Rec.{Rec}
use Rattle.fw_bag.specs.Arrivals.{Arrival, recs_of}
use Rattle.fw_flow.specs.Kind.{Kind}
use Rattle.fw_flow.specs.declared.kind.Kind.TheVariants as kind
use Rattle.fw_flow.specs.Dataflow.{bounds_of, kind_of}
use Rattle.fw_flow.specs.NodeFunction.{delivered_recs, sequence_sent}
use Rattle.fw_model.specs.Told.{is_told}
use Rattle.fw_table.specs.Sums.{sums_by_key}
use Rattle.fw_totals.specs.Totals.{HasTotals}
use Rattle.fw_numbered.specs.Sequence.{IsSequence}
use Rattle.fw_node.specs.declared.table.Table.TheVariants as table
use Rattle.fw_node.specs.Arrived.{arrived}
use Rattle.fw_node.specs.NodeTable.{IsNodeTable}
use Rattle.fw_node.specs.Past.{past_of, totals_kept}
use Rattle.fw_node.proofs.MakingLaws.{bounds-kind}
use Rattle.fw_node.proofs.NodeOfLaws.{table-of}
use Rattle.fw_node.proofs.RestoringLaws.{all_came, inside_or, alike_inside, at_epochs, at_numbered, few_sent, nothing_kept}
use Rattle.fw_node.proofs.SameTable.{recs_alike}
use Rattle.fw_node.proofs.table.Table.from_state.Goals as goal

pub returns-in_ok-from_state-in-Total-clause-table : goal.returns-in_ok-from_state-in-Total-clause-table
returns-in_ok-from_state-in-Total-clause-table c = λ ins settled before i d st.
    let x = c.in_ok-from_state-in-Total.field-0 in
    let is : kind_of c.args.flow.now c.args.id ≡ kind.Total = sym c.kind.ensures ∙ c.in-Total.is in
    let came : List Arrival = arrived ins before in
    let one : length (bounds_of c.args.flow.now c.args.id).greatest ≡ 1 = bounds-kind c.args.flow.now c.args.id kind.Total is in
    let totals : c.totals_of.result.now ≡ sums_by_key (recs_of came) =
    c.totals_of.ensures ∙ st.totals ∙ ap (λ k. totals_kept k (delivered_recs (λ e s. true) before)) is ∙ ap sums_by_key (all_came ins before) in
    let r = c.in_ok-from_state-in-Total.ensures.table settled came i (at_epochs (bounds_of c.args.flow.now c.args.id) came one d) totals in
    let P : Kind → Type 0 = λ k. IsNodeTable c.args.flow.now (table.Total x) k (past_of ins settled before) in
    let Q : List Rec → Type 0 = λ rs. HasTotals x.running rs in
    subst P (sym is) (record {
      table = r.table;
      running = subst Q (recs_alike settled (λ s. settled s || is_told before s) came (alike_inside settled (is_told before) came i)) r.running;
    })

pub returns-in_ok-from_state-in-Total-clause-shape : goal.returns-in_ok-from_state-in-Total-clause-shape
returns-in_ok-from_state-in-Total-clause-shape c = sym (bounds-kind c.args.flow.now c.args.id kind.Total (sym c.kind.ensures ∙ c.in-Total.is))

pub returns-in-Sequence-clause-table : goal.returns-in-Sequence-clause-table
returns-in-Sequence-clause-table c = λ ins settled before i d st.
    let x = c.from_state-in-Sequence.result in
    let is : kind_of c.args.flow.now c.args.id ≡ kind.Sequence = sym c.kind.ensures ∙ c.in-Sequence.is in
    let came : List Arrival = arrived ins before in
    let gone : List ℕ → Bool = λ s. settled s || is_told before s in
    let b = st.sent is in
    let sent : c.sent_of.result ≡ length (sequence_sent before) = c.sent_of.ensures.sent (subst (λ n. n ≤ 2 ^ 32) (sym b) (few_sent before)) ∙ b in
    let P : Kind → Type 0 = λ k. IsNodeTable c.args.flow.now (table.Sequence x) k (past_of ins settled before) in
    let Q : ℕ → Type 0 = λ n. IsSequence gone x came n in
    subst P (sym is) (subst Q sent (c.from_state-in-Sequence.ensures.table gone came (inside_or settled (is_told before) came i)))

pub returns-in-Sequence-clause-shape : goal.returns-in-Sequence-clause-shape
returns-in-Sequence-clause-shape c = sym (bounds-kind c.args.flow.now c.args.id kind.Sequence (sym c.kind.ensures ∙ c.in-Sequence.is))

pub returns-in_ok-from_state-in-Ledger-clause-table : goal.returns-in_ok-from_state-in-Ledger-clause-table
returns-in_ok-from_state-in-Ledger-clause-table c = λ ins settled before i d st.
    let x = c.in_ok-from_state-in-Ledger.field-0 in
    let is : kind_of c.args.flow.now c.args.id ≡ kind.Ledger = sym c.kind.ensures ∙ c.in-Ledger.is in
    let came : List Arrival = arrived ins before in
    let one : length (bounds_of c.args.flow.now c.args.id).greatest ≡ 1 = bounds-kind c.args.flow.now c.args.id kind.Ledger is in
    let totals : c.totals_of-in-Ledger.result.now ≡ sums_by_key (recs_of came) =
    c.totals_of-in-Ledger.ensures ∙ st.totals ∙ ap (λ k. totals_kept k (delivered_recs (λ e s. true) before)) is ∙ ap sums_by_key (all_came ins before) in
    let P : Kind → Type 0 = λ k. IsNodeTable c.args.flow.now (table.Ledger x) k (past_of ins settled before) in
    subst P (sym is) (c.in_ok-from_state-in-Ledger.ensures.table settled came i (at_numbered (bounds_of c.args.flow.now c.args.id) came one d) totals)

pub returns-in_ok-from_state-in-Ledger-clause-shape : goal.returns-in_ok-from_state-in-Ledger-clause-shape
returns-in_ok-from_state-in-Ledger-clause-shape c = sym (bounds-kind c.args.flow.now c.args.id kind.Ledger (sym c.kind.ensures ∙ c.in-Ledger.is))

pub returns-in_default : goal.returns-in_default
returns-in_default c = record {
  table = λ ins settled before i d st.
      nothing_kept c.args.flow.now ins settled before i c.new.result (kind_of c.args.flow.now c.args.id)
      (λ e. c.in_default.not-Total (c.kind.ensures ∙ e)) (λ e. c.in_default.not-Sequence (c.kind.ensures ∙ e)) (λ e. c.in_default.not-Ledger (c.kind.ensures ∙ e))
      (c.new.ensures.table ins settled);
  shape = c.new.ensures.shape;
  of_kind = table-of c.args.flow.now c.new.result (kind_of c.args.flow.now c.args.id) (past_of [] (λ s. false) []) (c.new.ensures.table [] (λ s. false));
}
