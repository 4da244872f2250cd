use Rattle.std.proofs.Common.{⊎_elim, ◌≡◌, ◌||◌, [], ℕ, List, Bool, length, refl, sym, ap, ◌∙◌, subst, arith}
use Rattle.fw_time.specs.declared.stamp.Bounds.{Bounds}
use Rattle.fw_flow.specs.Kind.{Kind}
use Rattle.fw_flow.specs.declared.kind.Kind.TheVariants as kind
use Rattle.fw_flow.specs.Dataflow.{bounds_of, domain_of_kind, parent_of, greatest_of_kind}
use Rattle.fw_node.specs.NodeTable.{IsNodeTable}
use Rattle.fw_node.specs.declared.table.Table.TheVariants as table
use Rattle.fw_model.specs.Told.{is_told}
use Rattle.fw_node.specs.Past.{past_of}
use Rattle.fw_node.proofs.MakingLaws.{bounds-kind, deep_enough, looped_left, some_dimension, parent_dimension}
use Rattle.fw_node.proofs.table.Table.new.Goals as goal

pub returns-in-Input-clause-shape : goal.returns-in-Input-clause-shape
returns-in-Input-clause-shape c =
    let of : (k : Kind) → 1 ≡ length (greatest_of_kind c.args.flow.now k) → c.kind.result ≡ k → 1 ≡ length (bounds_of c.args.flow.now c.args.id).greatest =
    λ k one e. one ∙ sym (bounds-kind c.args.flow.now c.args.id k (sym c.kind.ensures ∙ e)) in
    ⊎_elim (of kind.Input refl) (⊎_elim (of kind.OutputEpoch refl) (of kind.OutputNumber refl)) c.in-Input.is

pub returns-in-Enter-clause-shape : goal.returns-in-Enter-clause-shape
returns-in-Enter-clause-shape c =
    let l : ℕ = c.in-Enter.field-0 in
    let e : c.len-dimension.result ≡ length (bounds_of c.args.flow.now c.args.id).greatest = c.len-dimension.ensures.value ∙ ap (λ (b : Bounds). length b.greatest) c.domain.ensures in
    let k = bounds-kind c.args.flow.now c.args.id (kind.Enter l) (sym c.kind.ensures ∙ c.in-Enter.is) in
    let a = some_dimension c.args.flow.now (parent_of c.args.flow.now l) in
    let b = parent_dimension c.args.flow.now l in
    c.entering.ensures.shape (omega arith) (omega arith) ∙ e

pub returns-in-Total-clause-table : goal.returns-in-Total-clause-table
returns-in-Total-clause-table c = λ ins settled.
    let P : Kind → Type 0 = λ k. IsNodeTable c.args.flow.now (table.Total c.new.result) k (past_of ins settled []) in
    subst P (sym (sym c.kind.ensures ∙ c.in-Total.is)) (c.new.ensures.table settled (λ s. settled s || is_told [] s))

pub returns-in-Total-clause-shape : goal.returns-in-Total-clause-shape
returns-in-Total-clause-shape c = sym (bounds-kind c.args.flow.now c.args.id kind.Total (sym c.kind.ensures ∙ c.in-Total.is))

pub returns-in-Sequence-clause-table : goal.returns-in-Sequence-clause-table
returns-in-Sequence-clause-table c = λ ins settled.
    let P : Kind → Type 0 = λ k. IsNodeTable c.args.flow.now (table.Sequence c.new-in-Sequence.result) k (past_of ins settled []) in
    subst P (sym (sym c.kind.ensures ∙ c.in-Sequence.is)) (c.new-in-Sequence.ensures.table (λ s. settled s || is_told [] s))

pub returns-in-Sequence-clause-shape : goal.returns-in-Sequence-clause-shape
returns-in-Sequence-clause-shape c = sym (bounds-kind c.args.flow.now c.args.id kind.Sequence (sym c.kind.ensures ∙ c.in-Sequence.is))

pub returns-in-Ledger-clause-table : goal.returns-in-Ledger-clause-table
returns-in-Ledger-clause-table c = λ ins settled.
    let P : Kind → Type 0 = λ k. IsNodeTable c.args.flow.now (table.Ledger c.new-in-Ledger.result) k (past_of ins settled []) in
    subst P (sym (sym c.kind.ensures ∙ c.in-Ledger.is)) (c.new-in-Ledger.ensures.table settled)

pub returns-in-Ledger-clause-shape : goal.returns-in-Ledger-clause-shape
returns-in-Ledger-clause-shape c = sym (bounds-kind c.args.flow.now c.args.id kind.Ledger (sym c.kind.ensures ∙ c.in-Ledger.is))

pub returns-in-Regroup-clause-shape : goal.returns-in-Regroup-clause-shape
returns-in-Regroup-clause-shape c = sym (bounds-kind c.args.flow.now c.args.id (kind.Regroup c.in-Regroup.size) (sym c.kind.ensures ∙ c.in-Regroup.is))

pub returns-in_default-clause-table : goal.returns-in_default-clause-table
returns-in_default-clause-table c =
    let k : Kind = c.kind.result in
    let d = c.in_default in
    let looped = looped_left k d.not-Input d.not-OutputEpoch d.not-OutputNumber d.not-Enter d.not-Total d.not-Sequence d.not-Ledger d.not-Regroup in
    let e : c.len-dimension.result ≡ length (greatest_of_kind c.args.flow.now k) =
    c.len-dimension.ensures.value ∙ ap (λ (b : Bounds). length b.greatest) c.domain.ensures ∙ bounds-kind c.args.flow.now c.args.id k (sym c.kind.ensures) in
    let P : Kind → List ℕ → (List ℕ → Bool) → Type 0 = λ x ins settled. IsNodeTable c.args.flow.now c.staying.result x (past_of ins settled []) in
    λ ins settled. subst (λ x. P x ins settled) c.kind.ensures
    (c.staying.ensures.table looped (λ t. let a = deep_enough c.args.flow.now k looped t in omega arith) ins settled)

pub returns-in_default-clause-shape : goal.returns-in_default-clause-shape
returns-in_default-clause-shape c =
    let e : c.len-dimension.result ≡ length (bounds_of c.args.flow.now c.args.id).greatest = c.len-dimension.ensures.value ∙ ap (λ (b : Bounds). length b.greatest) c.domain.ensures in
    let k = bounds-kind c.args.flow.now c.args.id c.kind.result (sym c.kind.ensures) in
    let a = some_dimension c.args.flow.now (domain_of_kind c.args.flow.now c.kind.result) in
    let v = c.len-dimension.ensures.value in
    let f = c.len-dimension.ensures.few in
    c.staying.ensures.shape (omega arith) f ∙ e
