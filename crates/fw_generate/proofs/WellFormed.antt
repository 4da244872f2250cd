-- The dataflow of the generated texts is well formed, and its text is accepted.
use Rattle.std.proofs.Common.{◌≡◌, ℕ, zero, suc, ◌<◌, true, false, [], ◌∷◌, get_or, refl, arith, lit<, lit≤, codes}
use Rattle.fw_flow.specs.declared.kind.Domain.TheVariants.{Epoch, Number, Loop as InLoop}
use Rattle.fw_flow.specs.Check.{AreWalksRight}
use Rattle.fw_flow.specs.Dataflow.{declared_parent, domain_of, in_edges, kind_of, max_of, node_at, out_edges, parent_of, policy_of, receiver, sender}
use Rattle.fw_flow.specs.Ranks.{IsWithinRound}
use Rattle.fw_flow.specs.Sources.{sources_of}
use Rattle.fw_flow.specs.WellFormed.{IsWellFormed, is_feedback_of}
use Rattle.fw_flow.proofs.ByRanks.{walks-ranked}
use Rattle.fw_flow_text.specs.Grammar.{IsAcceptedFlow}
use Rattle.fw_generate.specs.Texts.{flow_text}
use Rattle.fw_generate.proofs.Below.{each_below-at}
use Rattle.fw_generate.proofs.FlowLaws.{flow_declared, the_flow}

-- ---- closed walks

-- how far along the flow a node stands, where a loop counts once
abbrev along : ℕ → ℕ
along p = get_or (0 ∷ 1 ∷ 2 ∷ 2 ∷ 2 ∷ 3 ∷ 4 ∷ 5 ∷ 6 ∷ 7 ∷ 4 ∷ 5 ∷ []) p 0

-- how far along a node stands in a round of the loop
abbrev in_round : ℕ → ℕ
in_round p = get_or (0 ∷ 1 ∷ 2 ∷ 3 ∷ 4 ∷ 4 ∷ 5 ∷ 6 ∷ 7 ∷ 8 ∷ 5 ∷ 6 ∷ []) p 0

outside : (l : ℕ) → Epoch ≡ InLoop l → l < 1
outside l h = absurd (cc)

numbers : (l : ℕ) → Number ≡ InLoop l → l < 1
numbers l h = absurd (cc)

inside : (l : ℕ) → InLoop 0 ≡ InLoop l → l < 1
inside l h = let same : 0 ≡ l = cc in omega arith

looped : {P : Type 0} → true ≡ false → P
looped h = absurd (cc)

-- each edge leads on in the round, but for that from the feedback
round_rises : (e : ℕ) → e < 12 → is_feedback_of 0 (kind_of the_flow (sender the_flow e)) ≡ false → in_round (sender the_flow e) < in_round (receiver the_flow e)
unfolding kind_of sender receiver
round_rises = each_below-at _ 12
    (((((((((((((tt, λ h. lit< tt), λ h. lit< tt), looped), λ h. lit< tt), λ h. lit< tt), λ h. lit< tt), λ h. lit< tt), λ h. lit< tt), λ h. lit< tt), λ h. lit< tt), λ h. lit< tt), λ h. lit< tt))

walks_right : AreWalksRight the_flow
unfolding kind_of sender receiver parent_of declared_parent
walks_right = walks-ranked the_flow along (λ l. in_round) (record {
  declared = λ l e below. each_below-at (λ e. domain_of the_flow (sender the_flow e) ≡ InLoop l → l < 1) 12
      ((((((((((((tt, outside l), outside l), inside l), inside l), inside l), inside l), inside l), outside l), outside l), numbers l), inside l), outside l) e below;
  keeps = each_below-at _ 12 ((((((((((((tt, lit≤ tt), lit≤ tt), lit≤ tt), lit≤ tt), lit≤ tt), lit≤ tt), lit≤ tt), lit≤ tt), lit≤ tt), lit≤ tt), lit≤ tt), lit≤ tt);
  rises = each_below-at _ 12
      ((((((((((((tt, λ h. lit< tt), looped), looped), looped), looped), λ h. lit< tt), λ h. lit< tt), λ h. lit< tt), λ h. lit< tt), λ h. lit< tt), λ h. lit< tt), λ h. lit< tt);
  round_keeps = λ l e one below round. (let rises = round_rises e below (onward l one e round) in omega arith);
  round_rises = λ l e one below round own. round_rises e below (onward l one e round);
})
  where
    onward : (l : ℕ) → l < 1 → (e : ℕ) → IsWithinRound the_flow l e → is_feedback_of 0 (kind_of the_flow (sender the_flow e)) ≡ false
    onward zero one e round = round.onward
    onward (suc l) one e round = absurd (omega arith)

well_formed : IsWellFormed the_flow
unfolding kind_of policy_of sender receiver in_edges out_edges max_of declared_parent parent_of
well_formed = record {
  loops_declared = each_below-at _ 12 ((((((((((((tt, tt), lit< tt), lit< tt), lit< tt), lit< tt), lit< tt), tt), tt), tt), tt), tt), tt);
  parents_declared = each_below-at _ 1 (tt, tt);
  chains = each_below-at _ 1 (tt, refl);
  senders_declared = each_below-at _ 12 ((((((((((((tt, lit< tt), lit< tt), lit< tt), lit< tt), lit< tt), lit< tt), lit< tt), lit< tt), lit< tt), lit< tt), lit< tt), lit< tt);
  receivers_declared = each_below-at _ 12 ((((((((((((tt, lit< tt), lit< tt), lit< tt), lit< tt), lit< tt), lit< tt), lit< tt), lit< tt), lit< tt), lit< tt), lit< tt), lit< tt);
  in_degrees = each_below-at _ 12 ((((((((((((tt, refl), refl), lit≤ tt), refl), refl), refl), refl), refl), refl), refl), refl), refl);
  out_degrees = each_below-at _ 12 ((((((((((((tt, tt), tt), tt), tt), tt), tt), tt), tt), tt), refl), tt), refl);
  domains = each_below-at _ 12 ((((((((((((tt, refl), refl), refl), refl), refl), refl), refl), refl), refl), refl), refl), refl);
  in_loops = walks_right.in_loops;
  fed_back = walks_right.fed_back;
  policies = each_below-at _ 12 ((((((((((((tt, refl), refl), tt), tt), refl), refl), tt), tt), tt), refl), tt), refl);
  limits = record {
    nodes = lit≤ tt;
    edges = lit≤ tt;
    loops = lit≤ tt;
    counters = each_below-at _ 1 (tt, (lit≤ tt, lit≤ tt));
    groups = each_below-at _ 12 ((((((((((((tt, tt), tt), tt), tt), tt), tt), tt), tt), tt), tt), tt), tt);
  };
  input = (0, lit< tt, refl);
  output = (9, lit< tt, refl);
}

-- its one source
pub flow_sources : sources_of the_flow ≡ (codes "src", 0) ∷ []
unfolding kind_of node_at
flow_sources = refl

pub flow_accepted : IsAcceptedFlow flow_text the_flow
flow_accepted = flow_declared well_formed
