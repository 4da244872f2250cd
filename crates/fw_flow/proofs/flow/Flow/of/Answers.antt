use Rattle.std.proofs.Common.{sym, subst, rules}
use Rattle.fw_lines.specs.declared.refusal.Code.TheVariants.{F3}
use Rattle.fw_lines.specs.Faults.{IfRefused}
use Rattle.fw_flow.specs.Check.{NamesTheDeclared, StaysWithinLimits, IsFirstBreakIfAny, IsFirstBroken, IsChecked, all_lines, KeepsRule}
use Rattle.fw_flow.specs.WellFormed.{IsWellFormed}
use Rattle.fw_flow.proofs.Drafts.{holds_if_none, IsFirstBroken-from_later, drafted, IsChecked-from_draft, IsIndexed-from_draft}
use Rattle.fw_flow.proofs.flow.Flow.of.Goals as goal
use Rattle.fw_flow.proofs.flow.Flow.of.Goals.{After-test, In_ok-test}

names : (c : After-test) → KeepsRule c.full.inside.declared.items F3
names c =
    subst (λ ds. KeepsRule ds F3) c.deref.ensures.value
    (holds_if_none (NamesTheDeclared c.deref.result.now) (all_lines c.deref.result.now) c.undeclared_line.result c.in_ok-refuse.ensures.kept c.undeclared_line.ensures)

limits : (c : After-test) → IsFirstBreakIfAny (StaysWithinLimits c.full.inside.declared.items) (all_lines c.full.inside.declared.items) c.limit_line-limit_line.result
limits c = subst (λ ds. IsFirstBreakIfAny (StaysWithinLimits ds) (all_lines ds) c.limit_line-limit_line.result) c.deref-2.ensures.value c.limit_line-limit_line.ensures

checked : (c : In_ok-test) → KeepsRule c.full.inside.declared.items F3
    → IsFirstBreakIfAny (StaysWithinLimits c.full.inside.declared.items) (all_lines c.full.inside.declared.items) c.limit_line-limit_line.result
    → IsChecked c.full.inside.declared.items (drafted c.in_ok-draft.draft)
checked c kept within =
    let raw = c.full.inside.declared.items in
    IsChecked-from_draft c.in_ok-draft.draft raw c.in_ok-draft.ensures.draft kept (c.in_ok-test.ensures.kept raw c.in_ok-draft.ensures.draft within)

pub returns-in_err-test-clause-checked : goal.returns-in_err-test-clause-checked
returns-in_err-test-clause-checked c =
    let raw = c.full.inside.declared.items in
    let at = (goal.at.returns-in_err-test-clause-checked c).After-test in
    let fault = c.in_err-test.field-0.0 in
    let broken : IfRefused (IsFirstBroken c.args.full) fault =
    subst (λ ds. IfRefused (IsFirstBroken ds) fault) c.full.view_is (IsFirstBroken-from_later raw fault (names at) (c.in_err-test.ensures.broken raw c.in_ok-draft.ensures.draft (limits at))) in
    search rules

pub invariant_of-result : goal.invariant_of-result
invariant_of-result c =
    let at = goal.at.invariant_of-result c in
    IsIndexed-from_draft c.in_ok-draft.draft c.full.inside.declared.items c.full.inside.names c.full.invariant.0.taken c.are_distinct.ensures c.full.invariant.1 c.in_ok-draft.ensures.draft
    (checked at.In_ok-test (names at.After-test) (limits at.After-test)) c.new.result.items c.new.ensures.items

pub returns-clause-checked : goal.returns-clause-checked
returns-clause-checked c =
    let at = goal.at.returns-clause-checked c in
    subst (λ ds. IsChecked ds (drafted c.in_ok-draft.draft)) c.full.view_is (checked at.In_ok-test (names at.After-test) (limits at.After-test))

pub returns-clause-well_formed : goal.returns-clause-well_formed
returns-clause-well_formed c =
    let at = goal.at.returns-clause-well_formed c in
    let whole = checked at.In_ok-test (names at.After-test) (limits at.After-test) in
    subst IsWellFormed (sym whole.value) whole.well_formed
