-- Which dataflows are well formed.
use Rattle.std.specs.Prelude.{◌≡◌, ◌⊎◌, ℕ, ◌^◌, ◌<◌, ◌≤◌, Bool, true, false, not, ◌==◌, List, [], ◌∷◌, length, Some, IfSome}
use Rattle.fw_flow.specs.declared.kind.Kind.{Kind as KindBy}
use Rattle.fw_flow.specs.Kind.{Kind, loop_of_kind}
use Rattle.fw_flow.specs.declared.kind.Kind.TheVariants.{Input, OutputEpoch, OutputNumber, Concat, Join, Feedback, Total, Sequence, Ledger, Regroup}
use Rattle.fw_flow.specs.declared.kind.Policy.{Policy}
use Rattle.fw_flow.specs.declared.kind.Policy.TheVariants as policy
use Rattle.std.specs.List.{AllByRecursion}
use Rattle.fw_lines.specs.Batches.{IsBatch}
use Rattle.fw_flow.specs.Dataflow.{System, batches_of, Dataflow, kind_of, policy_of, sender, receiver, in_edges, out_edges, domain_of, domain_of_kind, out_domain_of, declared_parent, ends_within, is_loop, is_domain_of, is_domain_within, max_of, is_input_kind, is_output_kind}

-- the loop of a kind is declared, if it has one
abbrev pub IsLoopDeclared : Dataflow → Kind → Type 0
IsLoopDeclared flow kind = IfSome (loop_of_kind kind) (λ l. l < length flow.loops)

-- the loop in which a loop is declared is declared itself, if there is one
abbrev pub IsParentDeclared : Dataflow → ℕ → Type 0
IsParentDeclared flow l = IfSome (declared_parent flow l) (λ k. k < length flow.loops)

-- the chain of loops from this one, each declared in the next, ends within three
abbrev pub HasShortChain : Dataflow → ℕ → Type 0
HasShortChain flow l = ends_within 3 flow (Some l) ≡ true

-- so does that of each loop
abbrev pub HaveShortChains : Dataflow → Type 0
HaveShortChains flow = (l : ℕ) → l < length flow.loops → HasShortChain flow l

-- a node of the kind may have so many in-edges
abbrev pub IsInDegree : Kind → ℕ → Type 0
IsInDegree Input n = n ≡ 0
IsInDegree (Concat within) n = 2 ≤ n
IsInDegree (Join within) n = n ≡ 2
IsInDegree kind n = n ≡ 1

-- a node of the kind may have so many out-edges: an output has none
abbrev pub IsOutDegree : Kind → ℕ → Type 0
IsOutDegree OutputEpoch n = n ≡ 0
IsOutDegree OutputNumber n = n ≡ 0
IsOutDegree kind n = Unit {0}

-- whether a node of the kind may keep nothing
abbrev pub may_keep_nothing : Kind → Bool
may_keep_nothing Total = false
may_keep_nothing Sequence = false
may_keep_nothing Ledger = false
may_keep_nothing kind = true

-- the policy is allowed for the kind: inputs and outputs have none, and some kinds keep something
abbrev pub IsPolicyAllowed : Kind → Policy → Type 0
IsPolicyAllowed Input p = p ≡ policy.None
IsPolicyAllowed OutputEpoch p = p ≡ policy.None
IsPolicyAllowed OutputNumber p = p ≡ policy.None
IsPolicyAllowed kind policy.None = may_keep_nothing kind ≡ true
IsPolicyAllowed kind policy.Lazy = Unit {0}
IsPolicyAllowed kind policy.Logged = Unit {0}
IsPolicyAllowed kind policy.Eager = Unit {0}
IsPolicyAllowed kind policy.Full = Unit {0}

-- edges that follow each other from p to q
abbrev pub IsWalk : Dataflow → ℕ → List ℕ → ℕ → Type 0
IsWalk flow p [] q = p ≡ q
IsWalk flow p (e ∷ es) q = (e < length flow.edges) × (sender flow e ≡ p) × IsWalk flow (receiver flow e) es q

-- a walk of some edges that comes back to where it began
pub record IsClosedWalk (flow : Dataflow) (p : ℕ) (es : List ℕ) : Type 0 where
  pub some : 0 < length es
  pub walk : IsWalk flow p es p

-- whether the kind leads to a loop's next counter
abbrev pub is_feedback_kind : Kind → Bool
is_feedback_kind (Feedback l) = true
is_feedback_kind kind = false

-- whether the kind leads to this loop's next counter
abbrev pub is_feedback_of : ℕ → Kind → Bool
is_feedback_of l (Feedback k) = k == l
is_feedback_of l kind = false

-- whether a node of the kind stands outside loops: its domain is that of epochs or numbers
abbrev pub is_outside_kind : Dataflow → Kind → Bool
is_outside_kind flow kind = not (is_loop (domain_of_kind flow kind))

-- whether the domain of a node of the kind is this loop's own
abbrev pub is_kind_in : Dataflow → ℕ → Kind → Bool
is_kind_in flow l kind = is_domain_of l (domain_of_kind flow kind)

-- a walk leaves a node of a kind of this sort
abbrev pub Passes : Dataflow → (Kind → Bool) → List ℕ → Type 0
Passes flow sort [] = ⊥
Passes flow sort (e ∷ es) = (sort (kind_of flow (sender flow e)) ≡ true) ⊎ Passes flow sort es

-- a walk leaves nodes in the loop and in loops within it alone
abbrev pub StaysWithin : Dataflow → ℕ → List ℕ → Type 0
StaysWithin flow l [] = Unit {0}
StaysWithin flow l (e ∷ es) = (is_domain_within flow l (domain_of flow (sender flow e)) ≡ true) × StaysWithin flow l es

-- so many numbers may be grouped into one epoch
abbrev pub IsGroupSize : {L : Type 0} → KindBy L → Type 0
IsGroupSize (Regroup n) = (1 ≤ n) × (n < 2 ^ 32)
IsGroupSize kind = Unit {0}

-- the sizes are within the limits
pub record IsWithinLimits (flow : Dataflow) : Type 0 where
  pub nodes : length flow.nodes ≤ 256
  pub edges : length flow.edges ≤ 512
  pub loops : length flow.loops ≤ 64
  pub counters : (l : ℕ) → l < length flow.loops → (1 ≤ max_of flow l) × (max_of flow l ≤ 1024)
  pub groups : (p : ℕ) → p < length flow.nodes → IsGroupSize (kind_of flow p)

-- The dataflow is well formed: what its parts name is there, loops lie in each other at most three deep, each node has the
-- in-edges and out-edges of its kind, edges join equal domains, no closed walk passes a node outside loops, and for each loop
-- each closed walk through a node of its own domain that stays in it and in loops within it passes a feedback of it, the policies
-- are allowed, the sizes are within the limits, and there are an input and an output.
pub record IsWellFormed (flow : Dataflow) : Type 0 where
  pub loops_declared : (p : ℕ) → p < length flow.nodes → IsLoopDeclared flow (kind_of flow p)
  pub parents_declared : (l : ℕ) → l < length flow.loops → IsParentDeclared flow l
  pub chains : HaveShortChains flow
  pub senders_declared : (e : ℕ) → e < length flow.edges → sender flow e < length flow.nodes
  pub receivers_declared : (e : ℕ) → e < length flow.edges → receiver flow e < length flow.nodes
  pub in_degrees : (p : ℕ) → p < length flow.nodes → IsInDegree (kind_of flow p) (length (in_edges flow p))
  pub out_degrees : (p : ℕ) → p < length flow.nodes → IsOutDegree (kind_of flow p) (length (out_edges flow p))
  pub domains : (e : ℕ) → e < length flow.edges → out_domain_of flow (sender flow e) ≡ domain_of flow (receiver flow e)
  pub in_loops : (p : ℕ) (es : List ℕ) → IsClosedWalk flow p es → Passes flow (is_outside_kind flow) es → ⊥
  pub fed_back : (l p : ℕ) (es : List ℕ) → IsClosedWalk flow p es → StaysWithin flow l es → Passes flow (is_kind_in flow l) es
      → Passes flow (is_feedback_of l) es
  pub policies : (p : ℕ) → p < length flow.nodes → IsPolicyAllowed (kind_of flow p) (policy_of flow p)
  pub limits : IsWithinLimits flow
  pub input : (p : ℕ) × (p < length flow.nodes) × (is_input_kind (kind_of flow p) ≡ true)
  pub output : (p : ℕ) × (p < length flow.nodes) × (is_output_kind (kind_of flow p) ≡ true)

-- The system is well formed: its dataflow is, there is a list of batches for each node, the inputs alone have batches, at most
-- 2^20 each, and each batch is a bag of recs.
pub record IsWellFormedSystem (sys : System) : Type 0 where
  pub flow : IsWellFormed sys.flow
  pub one_each : length sys.batches ≡ length sys.flow.nodes
  pub of_inputs : (p : ℕ) → is_input_kind (kind_of sys.flow p) ≡ false → batches_of sys p ≡ []
  pub few : (p : ℕ) → length (batches_of sys p) ≤ 2 ^ 20
  pub batches : (p : ℕ) → AllByRecursion IsBatch (batches_of sys p)
