-- Which declarations are a well-formed dataflow, and which rule others break first.
use Rattle.std.specs.Prelude.{◌≡◌, ◌⊎◌, ℕ, ◌^◌, ◌<◌, ◌≤◌, Bool, true, ◌&&◌, List, [], ◌∷◌, map, length, take, Option, Some, slice_get, IsTrue, IfSome, MatchOption}
use Rattle.std.specs.List.{AllByRecursion, flat_map}
use Rattle.std.specs.Option.{option_map_or}
use Rattle.fw_lines.specs.declared.refusal.Code.{Code}
use Rattle.fw_lines.specs.declared.refusal.Code.TheVariants.{F3, F4, F5, F6, F7, F8, F9, F12}
use Rattle.fw_lines.specs.declared.refusal.Refusal.{Refusal}
use Rattle.fw_flow.specs.Kind.{Kind, loop_of_kind}
use Rattle.fw_flow.specs.Declaring.{Declaration}
use Rattle.fw_flow.specs.declared.raw.Declaration.TheVariants.{Loop as ALoop, Node as ANode, Edge as AnEdge}
use Rattle.fw_flow.specs.Declaring.{Declared}
use Rattle.fw_flow.specs.declared.raw.NameSpaces.{NameSpaces}
use Rattle.fw_flow.specs.Dataflow.{Dataflow, kind_of, policy_of, sender, receiver, in_edges, out_edges, domain_of, out_domain_of, is_input_kind, is_output_kind}
use Rattle.fw_flow.specs.Names.{has_name}
use Rattle.fw_flow.specs.Raw.{names_of, loop_names, node_names, edge_names, loop_name, node_name, edge_name, flow_of_declarations}
use Rattle.fw_flow.specs.Walks.{NoClosedWalkPasses, EachWalkWithinIsFedBack, SlippingWalk, PassingWalk}
use Rattle.fw_flow.specs.WellFormed.{HasShortChain, IsInDegree, IsOutDegree, IsPolicyAllowed, IsGroupSize, IsWellFormed, is_outside_kind}

-- ---- what each rule asks

-- whether what the declaration names is declared: the loop in which a loop is, the loop of a node's kind, the sender and the
-- receiver of an edge
abbrev pub are_names_declared : NameSpaces → Declaration → Bool
are_names_declared names (ALoop name max parent) = option_map_or (λ l. has_name l names.loops) parent true
are_names_declared names (ANode name kind policy split part) = option_map_or (λ l. has_name l names.loops) (loop_of_kind kind) true
are_names_declared names (AnEdge name sender receiver) = has_name sender names.nodes && has_name receiver names.nodes

-- a node may be split into so many, where a number is written
abbrev pub IsSplitNumber : Option ℕ → Type 0
IsSplitNumber split = IfSome split (λ n. (2 ≤ n) × (n ≤ 64))

-- the number of a declaration that splits a node is in range
abbrev pub HasSplitNumber : Declaration → Type 0
HasSplitNumber (ALoop name max parent) = Unit {0}
HasSplitNumber (ANode name kind policy split part) = IsSplitNumber split
HasSplitNumber (AnEdge name sender receiver) = Unit {0}

-- after these declarations there is room for one more, and its numbers are in range
abbrev pub IsWithinLimitsAfter : List Declared → Declaration → Type 0
IsWithinLimitsAfter before (ALoop name max parent) = (length (loop_names before) < 64) × (1 ≤ max) × (max ≤ 1024)
IsWithinLimitsAfter before (ANode name kind policy split part) = (length (node_names before) < 256) × IsGroupSize kind × IsSplitNumber split
IsWithinLimitsAfter before (AnEdge name sender receiver) = length (edge_names before) < 512

-- F3, of the declaration at a place: what it names is declared
abbrev pub NamesTheDeclared : List Declared → ℕ → Type 0
NamesTheDeclared raw i = IfSome (slice_get raw i) (λ d. IsTrue (are_names_declared (names_of raw) d.declaration))

-- F12, of a loop, is `HasShortChain`

-- F4, of a node: it has as many in-edges as its kind wants, and no out-edge if it is an output
abbrev pub HasItsDegrees : Dataflow → ℕ → Type 0
HasItsDegrees flow p = IsInDegree (kind_of flow p) (length (in_edges flow p)) × IsOutDegree (kind_of flow p) (length (out_edges flow p))

-- F5, of an edge: the out domain of its sender is the domain of its receiver
abbrev pub JoinsDomains : Dataflow → ℕ → Type 0
JoinsDomains flow e = out_domain_of flow (sender flow e) ≡ domain_of flow (receiver flow e)

-- F6: no closed walk passes a node outside loops, and for each loop, each closed walk through a node of its own domain that stays
-- in it passes a feedback of it
pub record AreWalksRight (flow : Dataflow) : Type 0 where
  pub in_loops : NoClosedWalkPasses flow (is_outside_kind flow)
  pub fed_back : (l : ℕ) → EachWalkWithinIsFedBack flow l

-- a closed walk passes a node outside loops, or one that stays in a loop passes no feedback of it
abbrev pub IsWalkWrong : Dataflow → Type 0
IsWalkWrong flow = PassingWalk flow (is_outside_kind flow) ⊎ ((l : ℕ) × SlippingWalk flow l)

-- F7, of a node: its policy is allowed for its kind
abbrev pub HasAllowedPolicy : Dataflow → ℕ → Type 0
HasAllowedPolicy flow p = IsPolicyAllowed (kind_of flow p) (policy_of flow p)

-- F8, of the declaration at a place: with those before it, it is within the limits
abbrev pub StaysWithinLimits : List Declared → ℕ → Type 0
StaysWithinLimits raw i = IfSome (slice_get raw i) (λ d. IsWithinLimitsAfter (take i raw) d.declaration)

-- there is a node of a kind of this sort
abbrev pub HasNodeOf : Dataflow → (Kind → Bool) → Type 0
HasNodeOf flow sort = (p : ℕ) × (p < length flow.nodes) × (sort (kind_of flow p) ≡ true)

-- F9: there is an input and an output
abbrev pub HasBorders : Dataflow → Type 0
HasBorders flow = HasNodeOf flow is_input_kind × HasNodeOf flow is_output_kind

-- ---- on which line a rule is broken

-- the lines of the declarations
abbrev pub all_lines : List Declared → List ℕ
all_lines raw = map (λ d. d.line) raw

-- the lines of the loops, in order
abbrev pub loop_lines : List Declared → List ℕ
loop_lines raw = flat_map (λ d. map (λ name. d.line) (loop_name d)) raw

-- the lines of the nodes, in order
abbrev pub node_lines : List Declared → List ℕ
node_lines raw = flat_map (λ d. map (λ name. d.line) (node_name d)) raw

-- the lines of the edges, in order
abbrev pub edge_lines : List Declared → List ℕ
edge_lines raw = flat_map (λ d. map (λ name. d.line) (edge_name d)) raw

-- the rule holds at each place below n
abbrev pub HoldsBelow : (ℕ → Type 0) → ℕ → Type 0
HoldsBelow Rule n = (place : ℕ) → place < n → Rule place

-- of the places with these lines, the first at which the rule does not hold is on this line
pub record IsFirstBreak (Rule : ℕ → Type 0) (lines : List ℕ) (line : ℕ) : Type 0 where
  pub place : ℕ
  pub there : slice_get lines place ≡ Some line
  pub earlier : HoldsBelow Rule place
  pub broken : Rule place → ⊥

-- the line is the first at which the rule does not hold; with no line it holds at all of them
abbrev pub IsFirstBreakIfAny : (ℕ → Type 0) → List ℕ → Option ℕ → Type 0
IsFirstBreakIfAny Rule lines line = MatchOption line (HoldsBelow Rule (length lines)) (IsFirstBreak Rule lines)

-- ---- the first broken rule

-- the declarations keep the rule of this code
abbrev pub KeepsRule : List Declared → Code → Type 0
KeepsRule raw F3 = HoldsBelow (NamesTheDeclared raw) (length (all_lines raw))
KeepsRule raw F4 = HoldsBelow (HasItsDegrees (flow_of_declarations raw)) (length (node_lines raw))
KeepsRule raw F5 = HoldsBelow (JoinsDomains (flow_of_declarations raw)) (length (edge_lines raw))
KeepsRule raw F6 = AreWalksRight (flow_of_declarations raw)
KeepsRule raw F7 = HoldsBelow (HasAllowedPolicy (flow_of_declarations raw)) (length (node_lines raw))
KeepsRule raw F8 = HoldsBelow (StaysWithinLimits raw) (length (all_lines raw))
KeepsRule raw F9 = HasBorders (flow_of_declarations raw)
KeepsRule raw F12 = HoldsBelow (HasShortChain (flow_of_declarations raw)) (length (loop_lines raw))
KeepsRule raw code = Unit {0}

-- the rule of this code is broken, first on this line; line 0 stands for the flow as a whole
abbrev pub IsBroken : List Declared → Code → ℕ → Type 0
IsBroken raw F3 line = IsFirstBreak (NamesTheDeclared raw) (all_lines raw) line
IsBroken raw F4 line = IsFirstBreak (HasItsDegrees (flow_of_declarations raw)) (node_lines raw) line
IsBroken raw F5 line = IsFirstBreak (JoinsDomains (flow_of_declarations raw)) (edge_lines raw) line
IsBroken raw F6 line = IsWalkWrong (flow_of_declarations raw) × (line ≡ 0)
IsBroken raw F7 line = IsFirstBreak (HasAllowedPolicy (flow_of_declarations raw)) (node_lines raw) line
IsBroken raw F8 line = IsFirstBreak (StaysWithinLimits raw) (all_lines raw) line
IsBroken raw F9 line = (HasBorders (flow_of_declarations raw) → ⊥) × (line ≡ 0)
IsBroken raw F12 line = IsFirstBreak (HasShortChain (flow_of_declarations raw)) (loop_lines raw) line
IsBroken raw code line = ⊥

-- the rules that are tested once the names are declared, in their order
abbrev pub later_rules : List Code
later_rules = F12 ∷ F4 ∷ F5 ∷ F6 ∷ F7 ∷ F8 ∷ F9 ∷ []

-- the rules, in the order in which they are tested
abbrev pub rules : List Code
rules = F3 ∷ later_rules

-- the refusal is the first of these rules that is broken, with its line
abbrev pub IsFirstBrokenOf : List Code → List Declared → Refusal → Type 0
IsFirstBrokenOf [] raw refusal = ⊥
IsFirstBrokenOf (code ∷ codes) raw refusal =
    ((refusal.code ≡ code) × IsBroken raw code refusal.line) ⊎ (KeepsRule raw code × IsFirstBrokenOf codes raw refusal)

-- the refusal is the first rule that the declarations break, with its line
abbrev pub IsFirstBroken : List Declared → Refusal → Type 0
IsFirstBroken raw refusal = IsFirstBrokenOf rules raw refusal

-- the declarations are those of this dataflow, it is well formed, and each number by which a node is split is in range
pub record IsChecked (raw : List Declared) (flow : Dataflow) : Type 0 where
  pub well_formed : IsWellFormed (flow_of_declarations raw)
  pub split_numbers : AllByRecursion (λ d. HasSplitNumber d.declaration) raw
  pub value : flow ≡ flow_of_declarations raw
