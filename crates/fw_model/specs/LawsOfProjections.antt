-- Laws of projections: in its frontier, in the history, and under meets and unions.
use Rattle.std.specs.Prelude.{◌≡◌, ℕ, ◌≤◌, false, List, ◌++◌}
use Rattle.fw_time.specs.Stamp.{Stamp}
use Rattle.fw_frontier.specs.Frontier.{Frontier, IsFrontier, Within, nothing, everything, meet, join}
use Rattle.fw_flow.specs.declared.event.Event.{Event}
use Rattle.fw_flow.specs.Dataflow.{System, Dataflow, kind_of, sender, bounds_of, is_sequence_kind, bounds_of_edge}
use Rattle.fw_flow.specs.Projection.{phi, phi_by_count, psi, IsSenderFrontier}
use Rattle.fw_model.specs.Unions.{IsUnion}

-- phi of a frontier of the sender is a frontier of the edge
abbrev pub PhiIsFrontier : Type 0
PhiIsFrontier = (sys : System) (h : List Event) (e : ℕ) (f : Frontier) → IsSenderFrontier sys.flow e f
    → IsFrontier (bounds_of_edge sys.flow e) (phi sys h e f)

-- phi is monotone: a larger frontier of the sender covers more of the edge
abbrev pub PhiIsMonotone : Type 0
PhiIsMonotone = (sys : System) (h : List Event) (e : ℕ) (f g : Frontier) → Within f g
    → Within (phi sys h e f) (phi sys h e g)

-- phi by the count of what was sent is monotone, in the frontier and in the count
abbrev pub PhiByCountIsMonotone : Type 0
PhiByCountIsMonotone = (flow : Dataflow) (fewer more e : ℕ) (f g : Frontier) → Within f g → fewer ≤ more
    → Within (phi_by_count flow fewer e f) (phi_by_count flow more e g)

-- phi of a longer history covers at least as much
abbrev pub PhiGrowsWithHistory : Type 0
PhiGrowsWithHistory = (sys : System) (h more : List Event) (e : ℕ) (f : Frontier)
    → Within (phi sys h e f) (phi sys (more ++ h) e f)

-- phi is the same after each history, where the sender is no sequence
abbrev pub PhiIgnoresHistory : Type 0
PhiIgnoresHistory = (sys : System) (h other : List Event) (e : ℕ) (f : Frontier) (u : Stamp)
    → is_sequence_kind (kind_of sys.flow (sender sys.flow e)) ≡ false → phi sys h e f u ≡ phi sys other e f u

-- phi of what is inside both of two frontiers of the sender is what is inside both of their phis
abbrev pub PhiOfMeet : Type 0
PhiOfMeet = (sys : System) (h : List Event) (e : ℕ) (f g : Frontier) → IsSenderFrontier sys.flow e f
    → IsSenderFrontier sys.flow e g → (u : Stamp) → phi sys h e (meet f g) u ≡ meet (phi sys h e f) (phi sys h e g) u

-- phi of each stamp of the sender is each stamp of the edge
abbrev pub PhiOfEverything : Type 0
PhiOfEverything = (sys : System) (h : List Event) (e : ℕ) (u : Stamp)
    → phi sys h e (everything (bounds_of sys.flow (sender sys.flow e))) u ≡ everything (bounds_of_edge sys.flow e) u

-- psi of a frontier of the sender is a frontier of the edge
abbrev pub PsiIsFrontier : Type 0
PsiIsFrontier = (flow : Dataflow) (e : ℕ) (f : Frontier) → IsSenderFrontier flow e f
    → IsFrontier (bounds_of_edge flow e) (psi flow e f)

-- psi is monotone: what is inside a larger frontier can send at more stamps
abbrev pub PsiIsMonotone : Type 0
PsiIsMonotone = (flow : Dataflow) (e : ℕ) (f g : Frontier) → Within f g → Within (psi flow e f) (psi flow e g)

-- psi of the union of any family is the union of the psis
abbrev pub PsiOfUnion : Type 0
PsiOfUnion = (flow : Dataflow) (e : ℕ) (family : ℕ → Frontier) (f : Frontier) → IsUnion family f
    → IsUnion (λ i. psi flow e (family i)) (psi flow e f)

-- psi of what is inside one of two frontiers is what is inside one of their psis
abbrev pub PsiOfJoin : Type 0
PsiOfJoin = (flow : Dataflow) (e : ℕ) (f g : Frontier) (u : Stamp)
    → psi flow e (join f g) u ≡ join (psi flow e f) (psi flow e g) u

-- psi of nothing is nothing
abbrev pub PsiOfNothing : Type 0
PsiOfNothing = (flow : Dataflow) (e : ℕ) (u : Stamp) → psi flow e nothing u ≡ nothing u
