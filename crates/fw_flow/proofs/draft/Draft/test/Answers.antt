use Rattle.std.proofs.Common.{inl, inr, sym, refl, ◌∙◌, rules}
use Rattle.std.proofs.lemmas.Bool.{false≢true}
use Rattle.fw_lines.specs.declared.refusal.Code.TheVariants.{F4, F5, F6, F7, F8, F9, F12}
use Rattle.fw_lines.specs.Faults.{IfRefused}
use Rattle.fw_flow.specs.Check.{IsWalkWrong, later_rules, IsFirstBrokenOf, KeepsRule}
use Rattle.fw_flow.specs.Raw.{flow_of_declarations}
use Rattle.fw_flow.proofs.Drafts.{holds_if_none, refused_first, refused_whole}
use Rattle.fw_flow.proofs.draft.Draft.test.Goals as goal

pub returns-in_err-refuse-clause-broken : goal.returns-in_err-refuse-clause-broken
returns-in_err-refuse-clause-broken c = λ raw d limits.
    let refused : IfRefused (IsFirstBrokenOf later_rules raw) c.in_err-refuse.field-0.0 =
    refused_first _ _ F12 c.chain_line.result _ _ (c.chain_line.ensures raw d)
    (λ r e first. inl (e, first)) c.in_err-refuse.ensures.broken in
    search rules

pub returns-in_err-refuse-2-clause-broken : goal.returns-in_err-refuse-2-clause-broken
returns-in_err-refuse-2-clause-broken c = λ raw d limits.
    let holds12 : KeepsRule raw F12 = holds_if_none _ _ c.chain_line.result c.in_ok-refuse.ensures.kept (c.chain_line.ensures raw d) in
    let refused : IfRefused (IsFirstBrokenOf later_rules raw) c.in_err-refuse-2.field-0.0 =
    refused_first _ _ F4 c.degree_line.result _ _ (c.degree_line.ensures raw d)
    (λ r e first. inr (holds12, inl (e, first))) c.in_err-refuse-2.ensures.broken in
    search rules

pub returns-in_err-refuse-3-clause-broken : goal.returns-in_err-refuse-3-clause-broken
returns-in_err-refuse-3-clause-broken c = λ raw d limits.
    let holds12 : KeepsRule raw F12 = holds_if_none _ _ c.chain_line.result c.in_ok-refuse.ensures.kept (c.chain_line.ensures raw d) in
    let holds4 : KeepsRule raw F4 = holds_if_none _ _ c.degree_line.result c.in_ok-refuse-2.ensures.kept (c.degree_line.ensures raw d) in
    let refused : IfRefused (IsFirstBrokenOf later_rules raw) c.in_err-refuse-3.field-0.0 =
    refused_first _ _ F5 c.domain_line.result _ _ (c.domain_line.ensures raw d)
    (λ r e first. inr (holds12, inr (holds4, inl (e, first)))) c.in_err-refuse-3.ensures.broken in
    search rules

pub returns-then-not-branch-clause-broken : goal.returns-then-not-branch-clause-broken
returns-then-not-branch-clause-broken c = λ raw d limits.
    let holds12 : KeepsRule raw F12 = holds_if_none _ _ c.chain_line.result c.in_ok-refuse.ensures.kept (c.chain_line.ensures raw d) in
    let holds4 : KeepsRule raw F4 = holds_if_none _ _ c.degree_line.result c.in_ok-refuse-2.ensures.kept (c.degree_line.ensures raw d) in
    let holds5 : KeepsRule raw F5 = holds_if_none _ _ c.domain_line.result c.in_ok-refuse-3.ensures.kept (c.domain_line.ensures raw d) in
    let wrong : IsWalkWrong (flow_of_declarations raw) = c.in_ok-are_walks_right.ensures.wrong raw d holds5 c.if-not-branch.true in
    refused_whole F6 (IsFirstBrokenOf later_rules raw) c.of_whole.result c.of_whole.ensures (inr (holds12, inr (holds4, inr (holds5, inl (refl, (wrong, refl))))))

pub returns-in_err-refuse-4-clause-broken : goal.returns-in_err-refuse-4-clause-broken
returns-in_err-refuse-4-clause-broken c = λ raw d limits.
    let holds12 : KeepsRule raw F12 = holds_if_none _ _ c.chain_line.result c.in_ok-refuse.ensures.kept (c.chain_line.ensures raw d) in
    let holds4 : KeepsRule raw F4 = holds_if_none _ _ c.degree_line.result c.in_ok-refuse-2.ensures.kept (c.degree_line.ensures raw d) in
    let holds5 : KeepsRule raw F5 = holds_if_none _ _ c.domain_line.result c.in_ok-refuse-3.ensures.kept (c.domain_line.ensures raw d) in
    let holds6 : KeepsRule raw F6 = c.in_ok-are_walks_right.ensures.right raw d c.if-not-branch.false in
    let refused : IfRefused (IsFirstBrokenOf later_rules raw) c.in_err-refuse-4.field-0.0 =
    refused_first _ _ F7 c.policy_line.result _ _ (c.policy_line.ensures raw d)
    (λ r e first. inr (holds12, inr (holds4, inr (holds5, inr (holds6, inl (e, first)))))) c.in_err-refuse-4.ensures.broken in
    search rules

pub returns-in_err-refuse-5-clause-broken : goal.returns-in_err-refuse-5-clause-broken
returns-in_err-refuse-5-clause-broken c = λ raw d limits.
    let holds12 : KeepsRule raw F12 = holds_if_none _ _ c.chain_line.result c.in_ok-refuse.ensures.kept (c.chain_line.ensures raw d) in
    let holds4 : KeepsRule raw F4 = holds_if_none _ _ c.degree_line.result c.in_ok-refuse-2.ensures.kept (c.degree_line.ensures raw d) in
    let holds5 : KeepsRule raw F5 = holds_if_none _ _ c.domain_line.result c.in_ok-refuse-3.ensures.kept (c.domain_line.ensures raw d) in
    let holds6 : KeepsRule raw F6 = c.in_ok-are_walks_right.ensures.right raw d c.if-not-branch.false in
    let holds7 : KeepsRule raw F7 = holds_if_none _ _ c.policy_line.result c.in_ok-refuse-4.ensures.kept (c.policy_line.ensures raw d) in
    let refused : IfRefused (IsFirstBrokenOf later_rules raw) c.in_err-refuse-5.field-0.0 =
    refused_first _ _ F8 c.args.limit_line _ _ limits
    (λ r e first. inr (holds12, inr (holds4, inr (holds5, inr (holds6, inr (holds7, inl (e, first))))))) c.in_err-refuse-5.ensures.broken in
    search rules

pub returns-then-not-has_borders-clause-broken : goal.returns-then-not-has_borders-clause-broken
returns-then-not-has_borders-clause-broken c = λ raw d limits.
    let holds12 : KeepsRule raw F12 = holds_if_none _ _ c.chain_line.result c.in_ok-refuse.ensures.kept (c.chain_line.ensures raw d) in
    let holds4 : KeepsRule raw F4 = holds_if_none _ _ c.degree_line.result c.in_ok-refuse-2.ensures.kept (c.degree_line.ensures raw d) in
    let holds5 : KeepsRule raw F5 = holds_if_none _ _ c.domain_line.result c.in_ok-refuse-3.ensures.kept (c.domain_line.ensures raw d) in
    let holds6 : KeepsRule raw F6 = c.in_ok-are_walks_right.ensures.right raw d c.if-not-branch.false in
    let holds7 : KeepsRule raw F7 = holds_if_none _ _ c.policy_line.result c.in_ok-refuse-4.ensures.kept (c.policy_line.ensures raw d) in
    let holds8 : KeepsRule raw F8 = holds_if_none _ _ c.args.limit_line c.in_ok-refuse-5.ensures.kept limits in
    let borders = c.has_borders.ensures raw d in
    refused_whole F9 (IsFirstBrokenOf later_rules raw) c.of_whole-then-not-has_borders.result c.of_whole-then-not-has_borders.ensures
    (inr (holds12, inr (holds4, inr (holds5, inr (holds6, inr (holds7, inr (holds8, inl (refl, (λ h. false≢true (sym c.if-not-has_borders.true ∙ borders.1 h), refl)))))))))

pub returns-clause-kept : goal.returns-clause-kept
returns-clause-kept c = λ raw d limits. record {
  chains = holds_if_none _ _ c.chain_line.result c.in_ok-refuse.ensures.kept (c.chain_line.ensures raw d);
  degrees = holds_if_none _ _ c.degree_line.result c.in_ok-refuse-2.ensures.kept (c.degree_line.ensures raw d);
  domains = holds_if_none _ _ c.domain_line.result c.in_ok-refuse-3.ensures.kept (c.domain_line.ensures raw d);
  walks = c.in_ok-are_walks_right.ensures.right raw d c.if-not-branch.false;
  policies = holds_if_none _ _ c.policy_line.result c.in_ok-refuse-4.ensures.kept (c.policy_line.ensures raw d);
  limits = holds_if_none _ _ c.args.limit_line c.in_ok-refuse-5.ensures.kept limits;
  borders = (c.has_borders.ensures raw d).0 c.if-not-has_borders.false;
}
