-- The ranks of a dataflow's nodes.
use Rattle.std.specs.Prelude.{◌≡◌, ℕ, ◌<◌, ◌≤◌, Bool, true, false, ◌&&◌, length}
use Rattle.fw_flow.specs.declared.kind.Domain.TheVariants.{Loop as InLoop}
use Rattle.fw_flow.specs.Dataflow.{Dataflow, kind_of, sender, receiver, domain_of, out_domain_of, is_loop, is_domain_within}
use Rattle.fw_flow.specs.WellFormed.{IsWellFormed, is_feedback_kind, is_feedback_of}

-- whether the node is looped: its domain and its out domain are loops'
abbrev pub is_looped : Dataflow → ℕ → Bool
is_looped flow p = is_loop (domain_of flow p) && is_loop (out_domain_of flow p)

-- the edge stays within the loop, and does not leave a feedback of it
pub record IsWithinRound (flow : Dataflow) (l e : ℕ) : Type 0 where
  pub from : is_domain_within flow l (domain_of flow (sender flow e)) ≡ true
  pub to : is_domain_within flow l (domain_of flow (receiver flow e)) ≡ true
  pub onward : is_feedback_of l (kind_of flow (sender flow e)) ≡ false

-- a rank of at most the number of nodes that falls along no edge within a round of the loop, and rises along each of these
-- into a node of the loop's own domain, where it is at least 1
pub record IsRankOfRounds (flow : Dataflow) (l : ℕ) (sigma : ℕ → ℕ) : Type 0 where
  pub bound : (p : ℕ) → p < length flow.nodes → sigma p ≤ length flow.nodes
  pub some : (p : ℕ) → p < length flow.nodes → domain_of flow p ≡ InLoop l → 0 < sigma p
  pub keeps : (e : ℕ) → e < length flow.edges → IsWithinRound flow l e → sigma (sender flow e) ≤ sigma (receiver flow e)
  pub rises : (e : ℕ) → e < length flow.edges → IsWithinRound flow l e → domain_of flow (receiver flow e) ≡ InLoop l
      → sigma (sender flow e) < sigma (receiver flow e)

-- a rank below the number of nodes that rises along each edge, but for those from a feedback
pub record IsRankWithinRounds (flow : Dataflow) (rho : ℕ → ℕ) : Type 0 where
  pub bound : (p : ℕ) → p < length flow.nodes → rho p < length flow.nodes
  pub rises : (e : ℕ) → e < length flow.edges → is_feedback_kind (kind_of flow (sender flow e)) ≡ false
      → rho (sender flow e) < rho (receiver flow e)

-- a rank of at most the number of nodes that falls along no edge, and rises along each edge into a node that is not looped
pub record IsRankOfLoops (flow : Dataflow) (lambda : ℕ → ℕ) : Type 0 where
  pub bound : (p : ℕ) → p < length flow.nodes → lambda p ≤ length flow.nodes
  pub keeps : (e : ℕ) → e < length flow.edges → lambda (sender flow e) ≤ lambda (receiver flow e)
  pub rises : (e : ℕ) → e < length flow.edges → is_looped flow (receiver flow e) ≡ false
      → lambda (sender flow e) < lambda (receiver flow e)

-- the ranks of a dataflow's nodes
pub record Ranks (flow : Dataflow) : Type 0 where
  pub rho : ℕ → ℕ
  pub lambda : ℕ → ℕ
  pub sigma : ℕ → ℕ → ℕ
  pub of_rounds : (l : ℕ) → IsRankOfRounds flow l (sigma l)
  pub within_rounds : IsRankWithinRounds flow rho
  pub of_loops : IsRankOfLoops flow lambda

-- each well-formed dataflow has ranks
abbrev pub RanksExist : Type 0
RanksExist = (flow : Dataflow) → IsWellFormed flow → Ranks flow
