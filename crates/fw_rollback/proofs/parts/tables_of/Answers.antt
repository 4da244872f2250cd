use Rattle.std.proofs.Common.{◌≡◌, ℕ, ◌+◌, ◌<◌, List, length, length-set, set, Option, None, sym, ap, subst, ◌∙◌, inl, inr, arith}
use Rattle.std.proofs.lemmas.Bool.{cases_eq}
use Rattle.std.proofs.lemmas.List.{get_or-set_same, get_or-set_other}
use Rattle.fw_flow.specs.Dataflow.{Dataflow}
use Rattle.fw_flow.specs.Restoring.{way_of}
use Rattle.fw_node.specs.declared.node.Node.{Node}
use Rattle.fw_rollback.specs.New.{AreFirstTables, IsFirstTable}
use Rattle.fw_rollback.specs.Tables.{table_at}
use Rattle.fw_rollback.proofs.parts.tables_of.Goals as goal

-- one node more has the table that it has at first
first-more : (flow : Dataflow) (n : ℕ) (tables next : List (Option Node)) (id : ℕ) (x : Option Node) → AreFirstTables flow n tables → id ≡ n → n < length tables
    → next ≡ set tables id x → IsFirstTable flow id (way_of flow id) x → AreFirstTables flow (n + 1) next
first-more flow n tables next id x h e l is first = λ p k. elim (cases_eq n p) [
  | inl same ↦
      let P : ℕ → Type 0 = λ q. IsFirstTable flow q (way_of flow q) (table_at next q) in
      let X : ℕ → Type 0 = λ q. IsFirstTable flow q (way_of flow q) x in
      let none : Option Node = None in
      let here : table_at next n ≡ x =
      ap (λ (ts : List (Option Node)). table_at ts n) is ∙ ap (λ i. table_at (set tables i x) n) e ∙ get_or-set_same tables n x none l in
      subst P same (subst (IsFirstTable flow n (way_of flow n)) (sym here) (subst X e first))
  | inr other ↦
      let none : Option Node = None in
      let stay : table_at next p ≡ table_at tables p =
      ap (λ (ts : List (Option Node)). table_at ts p) is ∙ get_or-set_other tables id p x none (λ s. other (sym (s ∙ e))) in
      subst (IsFirstTable flow p (way_of flow p)) (sym stay) (h p (omega (arith, k, other)))
]

pub loop-place-preserved : goal.loop-place-preserved
loop-place-preserved c = record {
  first =
      first-more c.args.flow.now c.loop-place.place c.loop-place.tables c.set.new.self c.at-node.result c.in_ok-table_of.field-0 c.loop-place.invariant.first c.at-node.ensures
      (omega (arith, c.loop-place-test.true, c.loop-place.auto.place-end, c.nodes-place-end.ensures.count, c.loop-place.invariant.each)) c.set.ensures c.in_ok-table_of.ensures;
  each = ap length c.set.ensures ∙ length-set c.loop-place.tables c.at-node.result c.in_ok-table_of.field-0 ∙ c.loop-place.invariant.each;
}
