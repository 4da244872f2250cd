-- A draft and the flow of its declarations: what the tests of the draft say of the rules.
use Rattle.std.proofs.Common.{[], ◌∷◌, ◌++◌, ◌≡◌, inl, inr, ◌↔◌, ℕ, ◌+◌, ◌<◌, ◌^◌, Bool, true, false, List, length, length-append, map, Option, Some, None, refl, sym, ap, ◌∙◌, subst, arith, get_or, IsNone}
use Rattle.std.proofs.lemmas.Bool.{cases_lt, false≢true, true≢false}
use Rattle.std.proofs.lemmas.List.{get_or_append_left, get_or_push, length-map, get_or-map}
use Rattle.std.specs.Prelude.{Result, Ok, Err, IfOk}
use Rattle.std.specs.Bool.{OnTrue, OnFalse}
use Rattle.std.specs.List.{IsDistinct}
use Rattle.std.specs.Str.{bytes_eq}
use Rattle.fw_lines.specs.declared.fault.ReadFault.{ReadFault}
use Rattle.fw_lines.specs.declared.fault.ReadFault.TheVariants.{Refused, NoMemory}
use Rattle.fw_lines.specs.declared.refusal.Code.{Code}
use Rattle.fw_lines.specs.declared.refusal.Code.TheVariants.{F3, F5}
use Rattle.fw_lines.specs.declared.refusal.Refusal.{Refusal}
use Rattle.fw_lines.specs.Faults.{IfRefused}
use Rattle.std.specs.declared.alloc.Global.{Global}
use Rattle.std.specs.declared.vec.Vec.{Vec}
use Rattle.fw_flow.specs.Kind.{Kind}
use Rattle.fw_flow.specs.declared.node.Loop.{Loop}
use Rattle.fw_flow.specs.declared.node.Node.{Node}
use Rattle.fw_flow.specs.declared.node.Edge.{Edge}
use Rattle.fw_flow.specs.declared.parts.Parts.{Parts}
use Rattle.fw_flow.specs.declared.draft.Draft.{Draft}
use Rattle.fw_flow.specs.Declaring.{Declaration}
use Rattle.fw_flow.specs.declared.raw.Declaration.TheVariants.{Loop as ALoop, Node as ANode, Edge as AnEdge}
use Rattle.fw_flow.specs.Declaring.{Declared}
use Rattle.fw_flow.specs.declared.raw.NameSpaces.{NameSpaces}
use Rattle.fw_flow.specs.declared.walks.Link.{Link}
use Rattle.fw_flow.specs.Check.{HoldsBelow, IsFirstBreak, IsFirstBreakIfAny, HasItsDegrees, JoinsDomains, HasAllowedPolicy, AreWalksRight, IsWalkWrong, HasBorders, loop_lines, node_lines, edge_lines, KeepsRule, later_rules, IsFirstBrokenOf, IsFirstBroken, IsChecked}
use Rattle.fw_time.specs.declared.stamp.Bounds.{Bounds}
use Rattle.fw_flow.specs.Dataflow.{Dataflow, bounds_of, kind_of, in_edges, out_edges, edges_into, edges_from}
use Rattle.fw_flow.specs.Draft.{IsDraftOf, LaterRulesHold}
use Rattle.fw_flow.specs.Flow.{edges_at, AreBoundsOf, IsIndexed}
use Rattle.fw_flow.specs.Parts.{ArePartsOf, places_from}
use Rattle.fw_flow.specs.Raw.{names_of, loop_names, node_names, edge_names, loop_name, node_name, edge_name, loop_in, node_in, edge_in, flow_of_declarations}
use Rattle.fw_flow.specs.PlainNames.{ArePlain, HasPlainEdges, HasPlainNodes}
use Rattle.fw_flow.proofs.PlainNameLaws.{plain-edges, plain-nodes}
use Rattle.fw_flow.specs.Walks.{AreWithin, IsMadeOf, link_at, link_of, listed_kind}
use Rattle.fw_flow.specs.WellFormed.{HasShortChain, IsInDegree, IsOutDegree, IsWellFormed}
use Rattle.fw_flow.proofs.Checks.{GivesOne-loop_in, GivesOne-node_in, GivesOne-edge_in, length-loops, length-nodes, length-loop_lines, length-node_lines, length-edge_lines, both_declared, IsWellFormed-from_rules, numbers-within}
use Rattle.fw_flow.proofs.Ends.{places_from-receivers, places_from-senders}
use Rattle.fw_flow.proofs.Flows.{sender-of_link, receiver-of_link, kinds_of}
use Rattle.fw_flow.proofs.Givers.{length-given_le, map-flat_map}

-- ---- how many names and edges there are

pub few_loops : (raw : List Declared) → length raw < 2 ^ 32 → length (loop_names raw) < 2 ^ 32
few_loops raw few =
    let loops = loop_names raw in
    let count = length-loops loops raw in
    let most = length-given_le (loop_in loops) (GivesOne-loop_in loops) raw in
    omega (arith, few, count, most)

pub few_nodes : (raw : List Declared) → length raw < 2 ^ 32 → length (node_names raw) < 2 ^ 32
few_nodes raw few =
    let count = length-nodes (loop_names raw) raw in
    let most = length-given_le (node_in (loop_names raw)) (GivesOne-node_in (loop_names raw)) raw in
    omega (arith, few, count, most)

few_edges : (raw : List Declared) → length raw < 2 ^ 32 → length (flow_of_declarations raw).edges < 2 ^ 32
few_edges raw few =
    let most = length-given_le (edge_in (node_names raw)) (GivesOne-edge_in (node_names raw)) raw in
    omega (arith, few, most)

-- ---- the parts

-- these are the parts of the declarations with their links
pub record AreLinkedPartsOf (parts : Parts) (links : List Link) (raw : List Declared) : Type 0 where
  pub of_parts : ArePartsOf parts (names_of raw) raw
  pub of_links : links ≡ map link_of parts.edges.items

count_of_nodes : {parts : Parts} {links : List Link} {raw : List Declared} → AreLinkedPartsOf parts links raw → length parts.nodes.items ≡ length (flow_of_declarations raw).nodes
count_of_nodes linked = ap length linked.of_parts.all_nodes

count_of_edges : {parts : Parts} {links : List Link} {raw : List Declared} → AreLinkedPartsOf parts links raw → length links ≡ length (flow_of_declarations raw).edges
count_of_edges {parts} linked = ap length linked.of_links ∙ length-map {A = Edge} {B = Link} parts.edges.items link_of ∙ ap length linked.of_parts.all_edges

-- the links join nodes of the flow
pub links_within : {parts : Parts} {links : List Link} {raw : List Declared} → AreLinkedPartsOf parts links raw → KeepsRule raw F3 → AreWithin (length parts.nodes.items) links
links_within {parts} {links} {raw} linked declared =
    let flow = flow_of_declarations raw in
    let same : links ≡ map link_of flow.edges = linked.of_links ∙ ap (map link_of) linked.of_parts.all_edges in
    let count = length-map {A = Edge} {B = Link} flow.edges link_of in
    let here : AreWithin (length flow.nodes) (map link_of flow.edges) = record {
      senders = λ e lt.
          let below : e < length flow.edges = omega (arith, lt, count) in
          subst (λ p. p < length flow.nodes) (sym (sender-of_link flow e below)) (both_declared raw declared e below).0;
      receivers = λ e lt.
          let below : e < length flow.edges = omega (arith, lt, count) in
          subst (λ p. p < length flow.nodes) (sym (receiver-of_link flow e below)) (both_declared raw declared e below).1;
    } in
    subst (AreWithin (length parts.nodes.items)) (sym same) (subst (λ n. AreWithin n (map link_of flow.edges)) (sym (count_of_nodes linked)) here)

-- the ends of the links are below a number where each link's is
pub ends_below : {n : ℕ} (end : Link → ℕ) (links : List Link) (ends : List ℕ) → ends ≡ map end links → ((e : ℕ) → e < length links → end (link_at links e) < n)
    → (e : ℕ) → e < length ends → get_or ends e 0 < n
ends_below {n} end links ends are below e lt =
    let count = length-map links end in
    let same = ap length are in
    let there : e < length links = omega (arith, lt, count, same) in
    subst (λ p. p < n) (sym (ap (λ es. get_or es e 0) are ∙ get_or-map end links e (record { sender = 0; receiver = 0 }) 0 there)) (below e there)

pub few_ends : {parts : Parts} {links : List Link} {raw : List Declared} → AreLinkedPartsOf parts links raw → length raw < 2 ^ 32
    → (end : Link → ℕ) (ends : List ℕ) → ends ≡ map end links → length ends < 2 ^ 32
few_ends {links = links} {raw} linked few end ends are =
    let edges = count_of_edges linked in
    let count = length-map links end in
    let same = ap length are in
    let most = few_edges raw few in
    omega (arith, edges, count, same, most)

pub lines_of_loops : {parts : Parts} {links : List Link} {raw : List Declared} → AreLinkedPartsOf parts links raw → length parts.loop_lines.items ≡ length parts.loops.items
lines_of_loops {raw = raw} linked =
    ap length linked.of_parts.lines_of_loops ∙ length-loop_lines raw ∙ sym (ap length linked.of_parts.all_loops)

pub lines_of_nodes : {parts : Parts} {links : List Link} {raw : List Declared} → AreLinkedPartsOf parts links raw → length parts.node_lines.items ≡ length parts.nodes.items
lines_of_nodes {raw = raw} linked = ap length linked.of_parts.lines_of_nodes ∙ length-node_lines raw ∙ sym (count_of_nodes linked)

pub lines_of_edges : {parts : Parts} {links : List Link} {raw : List Declared} → AreLinkedPartsOf parts links raw → length parts.edge_lines.items ≡ length links
lines_of_edges {raw = raw} linked = ap length linked.of_parts.lines_of_edges ∙ length-edge_lines raw ∙ sym (count_of_edges linked)

pub edges_to : (edges : List Edge) (links : List Link) (ends : List ℕ) → links ≡ map link_of edges → ends ≡ map (λ (l : Link). l.receiver) links
    → (p : ℕ) → places_from 0 ends p ≡ edges_into 0 edges p
edges_to edges links ends is are p =
    ap (λ es. places_from 0 es p) (are ∙ ap (map (λ (l : Link). l.receiver)) is) ∙ places_from-receivers 0 edges p

pub edges_out_of : (edges : List Edge) (links : List Link) (ends : List ℕ) → links ≡ map link_of edges → ends ≡ map (λ (l : Link). l.sender) links
    → (p : ℕ) → places_from 0 ends p ≡ edges_from 0 edges p
edges_out_of edges links ends is are p =
    ap (λ es. places_from 0 es p) (are ∙ ap (map (λ (l : Link). l.sender)) is) ∙ places_from-senders 0 edges p

-- ---- the tests

pub made_of : (draft : Draft) (raw : List Declared) → IsDraftOf draft raw
    → IsMadeOf (flow_of_declarations raw) draft.parts.loops.items draft.parts.nodes.items draft.links.items
made_of draft raw of_draft = record {
  of_loops = sym of_draft.of_parts.all_loops;
  of_nodes = sym of_draft.of_parts.all_nodes;
  of_links = ap (map link_of) (sym of_draft.of_parts.all_edges) ∙ sym of_draft.of_links;
}

first_break_same : (R S : ℕ → Type 0) → ((p : ℕ) → R p ↔ S p) → (lines : List ℕ) (line : Option ℕ) → IsFirstBreakIfAny R lines line → IsFirstBreakIfAny S lines line
first_break_same R S same lines None holds = λ p lt. (same p).0 (holds p lt)
first_break_same R S same lines (Some line) first = record {
  place = first.place;
  there = first.there;
  earlier = λ p lt. (same p).0 (first.earlier p lt);
  broken = λ h. first.broken ((same first.place).1 h);
}

degrees_same : (draft : Draft) (raw : List Declared) → IsDraftOf draft raw → (p : ℕ)
    → (IsInDegree (listed_kind draft.parts.nodes.items p) (length (edges_at draft.incoming.items p)) × IsOutDegree (listed_kind draft.parts.nodes.items p) (length (edges_at draft.outgoing.items p)))
    ↔ HasItsDegrees (flow_of_declarations raw) p
unfolding in_edges out_edges
degrees_same draft raw of_draft p =
    let flow = flow_of_declarations raw in
    let kind : listed_kind draft.parts.nodes.items p ≡ kind_of flow p =
    sym (kinds_of flow draft.parts.loops.items draft.parts.nodes.items draft.links.items (made_of draft raw of_draft) p) in
    let into : edges_at draft.incoming.items p ≡ edges_into 0 flow.edges p = of_draft.edges_in p ∙ ap (λ (es : List Edge). edges_into 0 es p) of_draft.of_parts.all_edges in
    let from : edges_at draft.outgoing.items p ≡ edges_from 0 flow.edges p = of_draft.edges_out p ∙ ap (λ (es : List Edge). edges_from 0 es p) of_draft.of_parts.all_edges in
    let Degrees : Kind → List ℕ → List ℕ → Type 0 = λ k i o. IsInDegree k (length i) × IsOutDegree k (length o) in
    let P : Kind → Type 0 = λ k. Degrees k (edges_into 0 flow.edges p) (edges_from 0 flow.edges p) in
    let ins = edges_at draft.incoming.items p in
    let outs = edges_at draft.outgoing.items p in
    let k = listed_kind draft.parts.nodes.items p in (
      λ h. subst P kind (subst (λ i. Degrees k i (edges_from 0 flow.edges p)) into (subst (λ o. Degrees k ins o) from h)),
      λ h. subst (λ o. Degrees k ins o) (sym from) (subst (λ i. Degrees k i (edges_from 0 flow.edges p)) (sym into) (subst P (sym kind) h)),
    )

-- the rule of degrees over lists
abbrev pub ListedDegrees : List Node → List (Vec ℕ Global) → List (Vec ℕ Global) → ℕ → Type 0
ListedDegrees nodes incoming outgoing p = IsInDegree (listed_kind nodes p) (length (edges_at incoming p)) × IsOutDegree (listed_kind nodes p) (length (edges_at outgoing p))

-- Each test is given lists that are those of the draft.

pub degrees_first : (draft : Draft) (raw : List Declared) → IsDraftOf draft raw → (line : Option ℕ) (nodes : List Node) (incoming outgoing : List (Vec ℕ Global)) (lines : List ℕ)
    → nodes ≡ draft.parts.nodes.items → incoming ≡ draft.incoming.items → outgoing ≡ draft.outgoing.items → lines ≡ draft.parts.node_lines.items
    → IsFirstBreakIfAny (ListedDegrees nodes incoming outgoing) lines line → IsFirstBreakIfAny (HasItsDegrees (flow_of_declarations raw)) (node_lines raw) line
degrees_first draft raw of_draft line nodes incoming outgoing lines are_nodes are_in are_out are_lines first =
    let own_nodes = subst (λ ns. IsFirstBreakIfAny (ListedDegrees ns incoming outgoing) lines line) are_nodes first in
    let own_in = subst (λ es. IsFirstBreakIfAny (ListedDegrees draft.parts.nodes.items es outgoing) lines line) are_in own_nodes in
    let own_out = subst (λ es. IsFirstBreakIfAny (ListedDegrees draft.parts.nodes.items draft.incoming.items es) lines line) are_out own_in in
    subst (λ ls. IsFirstBreakIfAny (HasItsDegrees (flow_of_declarations raw)) ls line) (are_lines ∙ of_draft.of_parts.lines_of_nodes)
    (first_break_same (ListedDegrees draft.parts.nodes.items draft.incoming.items draft.outgoing.items) (HasItsDegrees (flow_of_declarations raw)) (degrees_same draft raw of_draft) lines line own_out)

-- lists that are those of a draft
pub record AreListsOf (draft : Draft) (loops : List Loop) (nodes : List Node) (links : List Link) : Type 0 where
  pub of_loops : loops ≡ draft.parts.loops.items
  pub of_nodes : nodes ≡ draft.parts.nodes.items
  pub of_links : links ≡ draft.links.items

made_of_lists : (draft : Draft) (raw : List Declared) → IsDraftOf draft raw → (loops : List Loop) (nodes : List Node) (links : List Link)
    → AreListsOf draft loops nodes links → IsMadeOf (flow_of_declarations raw) loops nodes links
made_of_lists draft raw of_draft loops nodes links are =
    let made = made_of draft raw of_draft in
    record { of_loops = made.of_loops ∙ sym are.of_loops; of_nodes = made.of_nodes ∙ sym are.of_nodes; of_links = made.of_links ∙ sym are.of_links }

pub chains_first : (draft : Draft) (raw : List Declared) → IsDraftOf draft raw → (line : Option ℕ) (loops : List Loop) (lines : List ℕ)
    → loops ≡ draft.parts.loops.items → lines ≡ draft.parts.loop_lines.items
    → ((flow : Dataflow) → flow.loops ≡ loops → IsFirstBreakIfAny (HasShortChain flow) lines line)
    → IsFirstBreakIfAny (HasShortChain (flow_of_declarations raw)) (loop_lines raw) line
chains_first draft raw of_draft line loops lines are_loops are_lines first =
    let flow = flow_of_declarations raw in
    subst (λ ls. IsFirstBreakIfAny (HasShortChain flow) ls line) (are_lines ∙ of_draft.of_parts.lines_of_loops)
    (first flow ((made_of draft raw of_draft).of_loops ∙ sym are_loops))

pub domains_first : (draft : Draft) (raw : List Declared) → IsDraftOf draft raw → (line : Option ℕ) (loops : List Loop) (nodes : List Node) (links : List Link) (lines : List ℕ)
    → loops ≡ draft.parts.loops.items → nodes ≡ draft.parts.nodes.items → links ≡ draft.links.items → lines ≡ draft.parts.edge_lines.items
    → ((flow : Dataflow) → IsMadeOf flow loops nodes links → IsFirstBreakIfAny (JoinsDomains flow) lines line)
    → IsFirstBreakIfAny (JoinsDomains (flow_of_declarations raw)) (edge_lines raw) line
domains_first draft raw of_draft line loops nodes links lines are_loops are_nodes are_links are_lines first =
    let flow = flow_of_declarations raw in
    subst (λ ls. IsFirstBreakIfAny (JoinsDomains flow) ls line) (are_lines ∙ of_draft.of_parts.lines_of_edges)
    (first flow (made_of_lists draft raw of_draft loops nodes links (record { of_loops = are_loops; of_nodes = are_nodes; of_links = are_links })))

pub policies_first : (draft : Draft) (raw : List Declared) → IsDraftOf draft raw → (line : Option ℕ) (nodes : List Node) (lines : List ℕ)
    → nodes ≡ draft.parts.nodes.items → lines ≡ draft.parts.node_lines.items
    → ((flow : Dataflow) → flow.nodes ≡ nodes → IsFirstBreakIfAny (HasAllowedPolicy flow) lines line)
    → IsFirstBreakIfAny (HasAllowedPolicy (flow_of_declarations raw)) (node_lines raw) line
policies_first draft raw of_draft line nodes lines are_nodes are_lines first =
    let flow = flow_of_declarations raw in
    subst (λ ls. IsFirstBreakIfAny (HasAllowedPolicy flow) ls line) (are_lines ∙ of_draft.of_parts.lines_of_nodes)
    (first flow ((made_of draft raw of_draft).of_nodes ∙ sym are_nodes))

pub walks_right : {E : Type 0} (draft : Draft) (raw : List Declared) → IsDraftOf draft raw → (r : Result Bool E) (loops : List Loop) (nodes : List Node) (links : List Link)
    → AreListsOf draft loops nodes links
    → ((flow : Dataflow) → IsMadeOf flow loops nodes links → IfOk r (λ b. OnTrue b (AreWalksRight flow))) → IfOk r (λ b. b ≡ true → AreWalksRight (flow_of_declarations raw))
walks_right draft raw of_draft (Ok true) loops nodes links are right = λ e.
    right (flow_of_declarations raw) (made_of_lists draft raw of_draft loops nodes links are)
walks_right draft raw of_draft (Ok false) loops nodes links are right = λ e. absurd (false≢true e)
walks_right draft raw of_draft (Err fault) loops nodes links are right = tt

-- where the edges join domains, the links do
links_join : (draft : Draft) (raw : List Declared) → IsDraftOf draft raw → (links : List Link) → links ≡ draft.links.items → KeepsRule raw F5
    → HoldsBelow (JoinsDomains (flow_of_declarations raw)) (length links)
links_join draft raw of_draft links are joins = λ e lt.
    let count = ap length are ∙ count_of_edges (record { of_parts = of_draft.of_parts; of_links = of_draft.of_links }) in
    joins e (omega (arith, count, length-edge_lines raw, lt))

pub walk_wrong : {E : Type 0} (draft : Draft) (raw : List Declared) → IsDraftOf draft raw → (r : Result Bool E) (loops : List Loop) (nodes : List Node) (links : List Link)
    → AreListsOf draft loops nodes links → KeepsRule raw F5
    → ((flow : Dataflow) → IsMadeOf flow loops nodes links → HoldsBelow (JoinsDomains flow) (length links) → IfOk r (λ b. OnFalse b (IsWalkWrong flow)))
    → IfOk r (λ b. b ≡ false → IsWalkWrong (flow_of_declarations raw))
walk_wrong draft raw of_draft (Ok true) loops nodes links are joins wrong = λ e. absurd (true≢false e)
walk_wrong draft raw of_draft (Ok false) loops nodes links are joins wrong = λ e.
    wrong (flow_of_declarations raw) (made_of_lists draft raw of_draft loops nodes links are) (links_join draft raw of_draft links are.of_links joins)
walk_wrong draft raw of_draft (Err fault) loops nodes links are joins wrong = tt

pub borders_same : (draft : Draft) (raw : List Declared) → IsDraftOf draft raw → (b : Bool) (nodes : List Node) → nodes ≡ draft.parts.nodes.items
    → ((flow : Dataflow) → flow.nodes ≡ nodes → (b ≡ true) ↔ HasBorders flow) → (b ≡ true) ↔ HasBorders (flow_of_declarations raw)
borders_same draft raw of_draft b nodes are_nodes same =
    same (flow_of_declarations raw) ((made_of draft raw of_draft).of_nodes ∙ sym are_nodes)

-- ---- refusals

-- with no line the rule holds
pub holds_if_none : (Rule : ℕ → Type 0) (lines : List ℕ) (line : Option ℕ) → IsNone line → IsFirstBreakIfAny Rule lines line → HoldsBelow Rule (length lines)
holds_if_none Rule lines None none holds = holds
holds_if_none Rule lines (Some line) none first = absurd (true≢false none)

-- a refusal by a rule whose first broken line it tells
pub refused_first : (Rule : ℕ → Type 0) (lines : List ℕ) (code : Code) (line : Option ℕ) (Q : Refusal → Type 0) (fault : ReadFault)
    → IsFirstBreakIfAny Rule lines line → ((r : Refusal) → r.code ≡ code → IsFirstBreak Rule lines r.line → Q r)
    → IfRefused (λ (r : Refusal). (r.code ≡ code) × (line ≡ Some r.line)) fault → IfRefused Q fault
refused_first Rule lines code line Q (Refused r) first gives h = gives r h.0 (subst (IsFirstBreakIfAny Rule lines) h.1 first)
refused_first Rule lines code line Q NoMemory first gives h = tt

-- a refusal of the flow as a whole
pub refused_whole : (code : Code) (Q : Refusal → Type 0) (fault : ReadFault) → fault ≡ Refused (record { code = code; line = 0 }) → Q (record { code = code; line = 0 }) → IfRefused Q fault
refused_whole code Q fault e h = subst (IfRefused Q) (sym e) h

-- after declared names, the first broken of the rules that follow is the first broken rule
pub IsFirstBroken-from_later : (raw : List Declared) (fault : ReadFault) → KeepsRule raw F3 → IfRefused (IsFirstBrokenOf later_rules raw) fault → IfRefused (IsFirstBroken raw) fault
IsFirstBroken-from_later raw (Refused r) names first = inr (names, first)
IsFirstBroken-from_later raw NoMemory names first = tt

-- ---- the flow

-- the flow that a draft's parts make
abbrev pub drafted : Draft → Dataflow
drafted draft = record { loops = draft.parts.loops.items; nodes = draft.parts.nodes.items; edges = draft.parts.edges.items }

-- it is the flow of the declarations
flow_of_draft : (draft : Draft) (raw : List Declared) → IsDraftOf draft raw → drafted draft ≡ flow_of_declarations raw
flow_of_draft draft raw of_draft = λ i. record {
  loops = of_draft.of_parts.all_loops i;
  nodes = of_draft.of_parts.all_nodes i;
  edges = of_draft.of_parts.all_edges i;
}

-- the declarations of a draft that breaks no rule are those of its flow
pub IsChecked-from_draft : (draft : Draft) (raw : List Declared) → IsDraftOf draft raw → KeepsRule raw F3 → LaterRulesHold raw → IsChecked raw (drafted draft)
IsChecked-from_draft draft raw of_draft names all =
    let wf = IsWellFormed-from_rules raw names all.chains all.degrees all.domains all.walks all.policies all.limits all.borders in
    record { well_formed = wf; split_numbers = numbers-within raw all.limits; value = flow_of_draft draft raw of_draft }

loop_named : (loops : List (List ℕ)) (line : ℕ) (d : Declaration)
    → map (λ (l : Loop). l.name) (loop_in loops (record { line = line; declaration = d })) ≡ loop_name (record { line = line; declaration = d })
loop_named loops line (ALoop name max parent) = refl
loop_named loops line (ANode name kind policy split part) = refl
loop_named loops line (AnEdge name s r) = refl

node_named : (loops : List (List ℕ)) (line : ℕ) (d : Declaration)
    → map (λ (n : Node). n.name) (node_in loops (record { line = line; declaration = d })) ≡ node_name (record { line = line; declaration = d })
node_named loops line (ALoop name max parent) = refl
node_named loops line (ANode name kind policy split part) = refl
node_named loops line (AnEdge name s r) = refl

edge_named : (nodes : List (List ℕ)) (line : ℕ) (d : Declaration)
    → map (λ (e : Edge). e.name) (edge_in nodes (record { line = line; declaration = d })) ≡ edge_name (record { line = line; declaration = d })
edge_named nodes line (ALoop name max parent) = refl
edge_named nodes line (ANode name kind policy split part) = refl
edge_named nodes line (AnEdge name s r) = refl

-- the names of the loops are those that were declared
names_of_loops : (raw : List Declared) → loop_names raw ≡ map (λ (l : Loop). l.name) (flow_of_declarations raw).loops
names_of_loops raw = sym (map-flat_map (λ (l : Loop). l.name) (loop_in (loop_names raw)) loop_name (λ d. loop_named (loop_names raw) d.line d.declaration) raw)

-- the names of the nodes and edges are those that were declared
pub names_of_flow : (raw : List Declared) → (node_names raw ≡ map (λ (n : Node). n.name) (flow_of_declarations raw).nodes) × (edge_names raw ≡ map (λ (e : Edge). e.name) (flow_of_declarations raw).edges)
names_of_flow raw = (
  sym (map-flat_map (λ (n : Node). n.name) (node_in (loop_names raw)) node_name (λ d. node_named (loop_names raw) d.line d.declaration) raw),
  sym (map-flat_map (λ (e : Edge). e.name) (edge_in (node_names raw)) edge_name (λ d. edge_named (node_names raw) d.line d.declaration) raw),
)

-- no bounds are those of no nodes
AreBoundsOf-none : (flow : Dataflow) (bounds : List Bounds) → bounds ≡ [] → AreBoundsOf flow bounds
AreBoundsOf-none flow bounds none p unless inside = let few : length bounds ≡ 0 = ap length none in absurd (omega (arith, few, inside))

-- the bounds of the first nodes, and those of the next one
pub AreBoundsOf-push : (flow : Dataflow) (kept new : List Bounds) (next : Bounds) → new ≡ kept ++ next ∷ [] → next ≡ bounds_of flow (length kept)
    → AreBoundsOf flow kept → AreBoundsOf flow new
AreBoundsOf-push flow kept new next is of_next before p unless inside =
    let long : length new ≡ length kept + 1 = ap length is ∙ length-append kept (next ∷ []) in
    elim (cases_lt p (length kept)) [
      | inl old ↦ ap (λ ls. get_or ls p unless) is ∙ get_or_append_left kept (next ∷ []) unless p old ∙ before p unless old
      | inr last ↦ let same : p ≡ length kept = omega (arith, long, inside, last) in
          ap (λ ls. get_or ls p unless) is ∙ get_or_push kept next unless p (sym same) ∙ of_next ∙ ap (bounds_of flow) (sym same)
    ]

-- the flow of a draft that breaks no rule is kept with its names and edges
pub IsIndexed-from_draft : (draft : Draft) (raw : List Declared) (names : NameSpaces) → names ≡ names_of raw → IsDistinct bytes_eq names.loops → ArePlain raw → IsDraftOf draft raw
    → IsChecked raw (drafted draft) → (bounds : List Bounds) → bounds ≡ []
    → IsIndexed (drafted draft) names.nodes names.edges draft.incoming.items draft.outgoing.items bounds false
unfolding in_edges out_edges
IsIndexed-from_draft draft raw names taken once plain of_draft checked bounds none =
    let named = names_of_flow raw in
    let same = sym checked.value in
    record {
      well_formed = subst IsWellFormed same checked.well_formed;
      loops_once = subst (IsDistinct bytes_eq) (ap (λ (n : NameSpaces). n.loops) taken ∙ names_of_loops raw ∙ ap (λ (f : Dataflow). map (λ (l : Loop). l.name) f.loops) same) once;
      plain_nodes = subst HasPlainNodes same (plain-nodes raw plain);
      plain_edges = subst HasPlainEdges same (plain-edges raw plain);
      names_of_nodes = ap (λ (n : NameSpaces). n.nodes) taken ∙ named.0 ∙ ap (λ (f : Dataflow). map (λ (n : Node). n.name) f.nodes) same;
      names_of_edges = ap (λ (n : NameSpaces). n.edges) taken ∙ named.1 ∙ ap (λ (f : Dataflow). map (λ (e : Edge). e.name) f.edges) same;
      edges_in = of_draft.edges_in;
      edges_out = of_draft.edges_out;
      bounds_kept = AreBoundsOf-none (drafted draft) bounds none;
      none_split = λ h. absurd (false≢true h);
    }
