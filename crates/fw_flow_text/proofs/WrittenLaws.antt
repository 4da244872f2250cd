-- The text of a flow is read as that flow.
use Rattle.std.proofs.Common.{◌≡◌, ℕ, ◌+◌, ◌<◌, ◌≤◌, true, false, ◌&&◌, List, [], ◌∷◌, ◌++◌, length, map, get_or, refl, sym, ◌∙◌, ap, subst, append_assoc, arith, Option, Some, None, IfSome}
use Rattle.std.proofs.lemmas.List.{append-nil, get_or-map, length-map}
use Rattle.std.proofs.lemmas.List.FromFn.{fill_by_all}
use Rattle.std.proofs.lemmas.List.Sums.{position_or_len_is}
use Rattle.std.proofs.lemmas.Grind.{flat_map-append}
use Rattle.std.proofs.lemmas.Map.Keys.{apart_from_distinct}
use Rattle.std.proofs.lemmas.Slice.Eq.{bytes_eq-Decides}
use Rattle.std.specs.List.{AllByRecursion, IsDistinct, flat_map, list_all, range_with_len}
use Rattle.std.specs.Option.{option_and_then, option_map}
use Rattle.std.specs.Str.{bytes_eq}
use Rattle.fw_lemmas.proofs.Each.{each-append, each-at, each-map, each-of_places, each-one}
use Rattle.fw_lines.specs.Lines.{Said, said_lines}
use Rattle.fw_lines.specs.Spelling.{is_name}
use Rattle.fw_lines.specs.Written.{is_plain_line, line_text, numbered, text_of}
use Rattle.fw_lines.proofs.WrittenLaws.{said_lines-text_of}
use Rattle.fw_flow.specs.Kind.{Kind, loop_of_kind}
use Rattle.fw_flow.specs.declared.kind.Kind.TheVariants as kind
use Rattle.fw_flow.specs.declared.kind.Policy.{Policy}
use Rattle.fw_flow.specs.declared.kind.Policy.TheVariants as policy
use Rattle.fw_flow.specs.declared.node.Edge.{Edge}
use Rattle.fw_flow.specs.declared.node.Loop.{Loop}
use Rattle.fw_flow.specs.declared.node.Node.{Node}
use Rattle.fw_flow.specs.Declaring.{Declaration}
use Rattle.fw_flow.specs.declared.raw.Declaration.TheVariants as declares
use Rattle.fw_flow.specs.Declaring.{Declared}
use Rattle.fw_flow.specs.Dataflow.{Dataflow, node_at, kind_of, policy_of, sender, receiver, max_of, declared_parent, idle_node}
use Rattle.fw_flow.specs.DomainText.{name_of_loop}
use Rattle.fw_flow.specs.Raw.{edge_in, edge_name, edge_names, flow_of_declarations, is_new, loop_in, loop_name, loop_names, node_in, node_name, node_names, place_or_end, resolved_kind}
use Rattle.fw_flow.specs.KeyParts.{HasNoReplicas}
use Rattle.fw_flow.proofs.ExpandLaws.{AreWhole, checked-whole, is_whole}
use Rattle.fw_flow.proofs.NewLaws.{AreOnce, is_new_behind, other_way}
use Rattle.fw_flow.specs.WellFormed.{IsLoopDeclared, IsPolicyAllowed, IsWellFormed}
use Rattle.fw_flow.proofs.KindLaws.{kind_map-back, loop_of_kind-map}
use Rattle.fw_flow_text.specs.FlowText.{declared_edge, declared_loop, declared_node, edge_lines_text, named_kind, node_lines_text, text_of_flow}
use Rattle.fw_flow_text.specs.Grammar.{flow_size_limit, IsAcceptedFlow}
use Rattle.fw_flow_text.specs.Spelled.{declaration_words, IsName, IsPolicyWritten, IsSmallKind, IsWritable, IsWritableNode}
use Rattle.fw_flow_text.proofs.DeclaredLaws.{after_line, fault_after, formed, known_lines, on_line, read_lines, small_words}
use Rattle.fw_flow_text.proofs.PlainLaws.{plain_declaration, small_declaration}
use Rattle.fw_flow_text.proofs.Reading.{declaration_of, declared_in, name_fault}
use Rattle.fw_flow_text.proofs.SpelledLaws.{declaration_read}

-- what a line declares has the lines from a number on, one each
abbrev lined : ℕ → List Declaration → List Declared
lined number [] = []
lined number (d ∷ ds) = on_line number d ∷ lined (number + 1) ds

-- ---- declarations that can be written, each under a new name, are read

-- each name is new, behind these declarations
abbrev AreNewAfter : List Declared → ℕ → List Declaration → Type 0
AreNewAfter raw number [] = Unit {0}
AreNewAfter raw number (d ∷ ds) = (is_new raw d ≡ true) × AreNewAfter (raw ++ on_line number d ∷ []) (number + 1) ds

no_fault : (raw : List Declared) (d : Declaration) → IsWritable d → is_new raw d ≡ true → fault_after raw (declaration_words d) ≡ None
no_fault raw d w new =
    let small = small_declaration d w in
    formed raw (declaration_words d) d false (record { same = small_words (declaration_words d) small; writable = w }) small ∙ ap name_fault new

line_read : (raw : List Declared) (number : ℕ) (d : Declaration) → IsWritable d → is_new raw d ≡ true
    → (let line : Said = record { number = number; words = declaration_words d } in after_line raw line (fault_after raw line.words) ≡ Some (raw ++ on_line number d ∷ []))
line_read raw number d w new =
    let line : Said = record { number = number; words = declaration_words d } in
    ap (after_line raw line) (no_fault raw d w new)
    ∙ ap (λ words. Some (raw ++ declared_in number (declaration_of words))) (small_words (declaration_words d) (small_declaration d w))
    ∙ ap (λ o. Some (raw ++ declared_in number o)) (declaration_read d w)

all_read : (raw : List Declared) (number : ℕ) (ds : List Declaration) → AllByRecursion IsWritable ds → AreNewAfter raw number ds
    → read_lines raw (numbered number (map declaration_words ds)) ≡ Some (raw ++ lined number ds)
unfolding declaration_of
all_read raw number [] w new = refl
all_read raw number (d ∷ ds) w new =
    ap (option_and_then (λ next. read_lines next (numbered (number + 1) (map declaration_words ds)))) (line_read raw number d w.0 new.0)
    ∙ all_read (raw ++ on_line number d ∷ []) (number + 1) ds w.1 new.1
    ∙ ap Some (append_assoc raw (on_line number d ∷ []) (lined (number + 1) ds))

-- ---- distinct names are new

all_new : (raw : List Declared) (number : ℕ) (ds : List Declaration) → AreOnce (raw ++ lined number ds) → AreNewAfter raw number ds
all_new raw number [] once = tt
all_new raw number (d ∷ ds) once =
    (is_new_behind raw number d (lined (number + 1) ds) once, all_new (raw ++ on_line number d ∷ []) (number + 1) ds (subst AreOnce (sym (append_assoc raw (on_line number d ∷ []) (lined (number + 1) ds))) once))

-- ---- what a flow declares

-- what declares a loop, a node or an edge of the flow
abbrev of_loop : Dataflow → Loop → Declaration
of_loop flow l = declares.Loop l.name l.max (option_map (name_of_loop flow) l.parent)

abbrev of_node : Dataflow → Node → Declaration
of_node flow n = declares.Node n.name (named_kind flow n.kind) n.policy None None

abbrev of_edge : Dataflow → Edge → Declaration
of_edge flow e = declares.Edge e.name (node_at flow e.sender).name (node_at flow e.receiver).name

-- what declares the flow
abbrev declarations_of : Dataflow → List Declaration
declarations_of flow = map (of_loop flow) flow.loops ++ (map (of_node flow) flow.nodes ++ map (of_edge flow) flow.edges)

-- by places
by_places : {X : Type 0} (make : X → Declaration) (at : ℕ → Declaration) (xs : List X) (d : X) → ((p : ℕ) → p < length xs → make (get_or xs p d) ≡ at p)
    → map make xs ≡ map at (range_with_len 0 (length xs))
by_places make at xs d same =
    fill_by_all at (map make xs) (length xs) (make d) (length-map xs make) (λ k lt. get_or-map make xs k d (make d) lt ∙ same k lt)

loops_by_places : (flow : Dataflow) → map (of_loop flow) flow.loops ≡ map (declared_loop flow) (range_with_len 0 (length flow.loops))
unfolding max_of declared_parent
loops_by_places flow = by_places (of_loop flow) (declared_loop flow) flow.loops (record { name = []; max = 0; parent = None }) (λ p lt. refl)

nodes_by_places : (flow : Dataflow) → map (of_node flow) flow.nodes ≡ map (declared_node flow) (range_with_len 0 (length flow.nodes))
unfolding node_at kind_of policy_of
nodes_by_places flow = by_places (of_node flow) (declared_node flow) flow.nodes idle_node (λ p lt. refl)

edges_by_places : (flow : Dataflow) → map (of_edge flow) flow.edges ≡ map (declared_edge flow) (range_with_len 0 (length flow.edges))
unfolding sender receiver
edges_by_places flow = by_places (of_edge flow) (declared_edge flow) flow.edges (record { name = []; sender = length flow.nodes; receiver = length flow.nodes }) (λ p lt. refl)

lines_of : (at : ℕ → Declaration) (places : List ℕ) → flat_map (λ p. line_text (declaration_words (at p))) places ≡ text_of (map declaration_words (map at places))
lines_of at [] = refl
lines_of at (p ∷ ps) = ap (λ t. line_text (declaration_words (at p)) ++ t) (lines_of at ps)

text_append : (xs ys : List Declaration) → text_of (map declaration_words (xs ++ ys)) ≡ text_of (map declaration_words xs) ++ text_of (map declaration_words ys)
text_append [] ys = refl
text_append (x ∷ xs) ys =
    ap (λ t. line_text (declaration_words x) ++ t) (text_append xs ys) ∙ sym (append_assoc (line_text (declaration_words x)) (text_of (map declaration_words xs)) (text_of (map declaration_words ys)))

-- the text is that of the lines of these declarations
text_lined : (flow : Dataflow) → text_of_flow flow ≡ text_of (map declaration_words (declarations_of flow))
text_lined flow =
    let text : List Declaration → List ℕ = λ ds. text_of (map declaration_words ds) in
    let loops = lines_of (declared_loop flow) (range_with_len 0 (length flow.loops)) ∙ ap text (sym (loops_by_places flow)) in
    let nodes = lines_of (declared_node flow) (range_with_len 0 (length flow.nodes)) ∙ ap text (sym (nodes_by_places flow)) in
    let edges = lines_of (declared_edge flow) (range_with_len 0 (length flow.edges)) ∙ ap text (sym (edges_by_places flow)) in
    ap (λ t. t ++ (node_lines_text flow ++ edge_lines_text flow)) loops
    ∙ ap (λ t. text (map (of_loop flow) flow.loops) ++ (t ++ edge_lines_text flow)) nodes
    ∙ ap (λ t. text (map (of_loop flow) flow.loops) ++ (text (map (of_node flow) flow.nodes) ++ t)) edges
    ∙ ap (λ t. text (map (of_loop flow) flow.loops) ++ t) (sym (text_append (map (of_node flow) flow.nodes) (map (of_edge flow) flow.edges)))
    ∙ sym (text_append (map (of_loop flow) flow.loops) (map (of_node flow) flow.nodes ++ map (of_edge flow) flow.edges))

-- ---- the flow of its declarations

-- what each line gives, of declarations that give what the parts of the flow are
lined_gives : {X : Type 0} (gives : Declared → List X) (given : Declaration → List X) → ((number : ℕ) (d : Declaration) → gives (on_line number d) ≡ given d)
    → (number : ℕ) (ds : List Declaration) → flat_map gives (lined number ds) ≡ flat_map given ds
lined_gives gives given same number [] = refl
lined_gives gives given same number (d ∷ ds) =
    ap (λ xs. xs ++ flat_map gives (lined (number + 1) ds)) (same number d) ∙ ap (λ xs. given d ++ xs) (lined_gives gives given same (number + 1) ds)

-- parts that give themselves
give_each : {A X : Type 0} (given : Declaration → List X) (make : A → Declaration) (is : A → X) (xs : List A) → AllByRecursion (λ x. given (make x) ≡ is x ∷ []) xs → flat_map given (map make xs) ≡ map is xs
give_each given make is [] h = refl
give_each given make is (x ∷ xs) h = ap (λ ys. ys ++ flat_map given (map make xs)) h.0 ∙ ap (λ ys. is x ∷ ys) (give_each given make is xs h.1)

-- parts that give nothing
give_none : {A X : Type 0} (given : Declaration → List X) (make : A → Declaration) → ((x : A) → given (make x) ≡ []) → (xs : List A) → flat_map given (map make xs) ≡ []
give_none given make h [] = refl
give_none given make h (x ∷ xs) = ap (λ ys. ys ++ flat_map given (map make xs)) (h x) ∙ give_none given make h xs

-- what the three groups give
three : {X : Type 0} (given : Declaration → List X) (ls ns es : List Declaration) (a b c : List X) → flat_map given ls ≡ a → flat_map given ns ≡ b → flat_map given es ≡ c
    → flat_map given (ls ++ (ns ++ es)) ≡ a ++ (b ++ c)
three given ls ns es a b c x y z =
    flat_map-append given ls (ns ++ es)
    ∙ ap (λ t. flat_map given ls ++ t) (flat_map-append given ns es)
    ∙ ap (λ t. t ++ (flat_map given ns ++ flat_map given es)) x
    ∙ ap (λ t. a ++ (t ++ flat_map given es)) y
    ∙ ap (λ t. a ++ (b ++ t)) z

map_same : {X : Type 0} (xs : List X) → map (λ x. x) xs ≡ xs
map_same [] = refl
map_same (x ∷ xs) = ap (λ ys. x ∷ ys) (map_same xs)

-- names
abbrev given_loop_name : Declaration → List (List ℕ)
given_loop_name (declares.Loop name max parent) = name ∷ []
given_loop_name (declares.Node name k p split part) = []
given_loop_name (declares.Edge name s r) = []

abbrev given_node_name : Declaration → List (List ℕ)
given_node_name (declares.Loop name max parent) = []
given_node_name (declares.Node name k p split part) = name ∷ []
given_node_name (declares.Edge name s r) = []

abbrev given_edge_name : Declaration → List (List ℕ)
given_edge_name (declares.Loop name max parent) = []
given_edge_name (declares.Node name k p split part) = []
given_edge_name (declares.Edge name s r) = name ∷ []

abbrev raw_of : Dataflow → List Declared
raw_of flow = lined 1 (declarations_of flow)

loop_names_of : (flow : Dataflow) → loop_names (raw_of flow) ≡ map (λ (l : Loop). l.name) flow.loops
loop_names_of flow =
    lined_gives loop_name given_loop_name same 1 (declarations_of flow)
    ∙ three given_loop_name (map (of_loop flow) flow.loops) (map (of_node flow) flow.nodes) (map (of_edge flow) flow.edges) (map (λ (l : Loop). l.name) flow.loops) [] []
    (give_each given_loop_name (of_loop flow) (λ (l : Loop). l.name) flow.loops (each-of_places (λ l. given_loop_name (of_loop flow l) ≡ l.name ∷ []) (record { name = []; max = 0; parent = None }) flow.loops (λ p lt. refl)))
    (give_none given_loop_name (of_node flow) (λ n. refl) flow.nodes) (give_none given_loop_name (of_edge flow) (λ e. refl) flow.edges)
    ∙ append-nil (map (λ (l : Loop). l.name) flow.loops)
  where
    same : (number : ℕ) (d : Declaration) → loop_name (on_line number d) ≡ given_loop_name d
    same number (declares.Loop name max parent) = refl
    same number (declares.Node name k p split part) = refl
    same number (declares.Edge name s r) = refl

node_names_of : (flow : Dataflow) → node_names (raw_of flow) ≡ map (λ (n : Node). n.name) flow.nodes
node_names_of flow =
    lined_gives node_name given_node_name same 1 (declarations_of flow)
    ∙ three given_node_name (map (of_loop flow) flow.loops) (map (of_node flow) flow.nodes) (map (of_edge flow) flow.edges) [] (map (λ (n : Node). n.name) flow.nodes) []
    (give_none given_node_name (of_loop flow) (λ l. refl) flow.loops)
    (give_each given_node_name (of_node flow) (λ (n : Node). n.name) flow.nodes (each-of_places (λ n. given_node_name (of_node flow n) ≡ n.name ∷ []) idle_node flow.nodes (λ p lt. refl)))
    (give_none given_node_name (of_edge flow) (λ e. refl) flow.edges)
    ∙ append-nil (map (λ (n : Node). n.name) flow.nodes)
  where
    same : (number : ℕ) (d : Declaration) → node_name (on_line number d) ≡ given_node_name d
    same number (declares.Loop name max parent) = refl
    same number (declares.Node name k p split part) = refl
    same number (declares.Edge name s r) = refl

edge_names_of : (flow : Dataflow) → edge_names (raw_of flow) ≡ map (λ (e : Edge). e.name) flow.edges
edge_names_of flow =
    lined_gives edge_name given_edge_name same 1 (declarations_of flow)
    ∙ three given_edge_name (map (of_loop flow) flow.loops) (map (of_node flow) flow.nodes) (map (of_edge flow) flow.edges) [] [] (map (λ (e : Edge). e.name) flow.edges)
    (give_none given_edge_name (of_loop flow) (λ l. refl) flow.loops) (give_none given_edge_name (of_node flow) (λ n. refl) flow.nodes)
    (give_each given_edge_name (of_edge flow) (λ (e : Edge). e.name) flow.edges
    (each-of_places (λ e. given_edge_name (of_edge flow e) ≡ e.name ∷ []) (record { name = []; sender = 0; receiver = 0 }) flow.edges (λ p lt. refl)))
  where
    same : (number : ℕ) (d : Declaration) → edge_name (on_line number d) ≡ given_edge_name d
    same number (declares.Loop name max parent) = refl
    same number (declares.Node name k p split part) = refl
    same number (declares.Edge name s r) = refl

-- the place of a name among distinct ones is its own
own_place : (names : List (List ℕ)) (name : List ℕ) (i : ℕ) → IsDistinct bytes_eq names → i < length names → get_or names i [] ≡ name → place_or_end names name ≡ i
own_place names name i once lt is =
    position_or_len_is (bytes_eq name) names i [] (omega (arith, lt))
    (λ k below. other_way (get_or names k []) name (ap (bytes_eq (get_or names k [])) (sym is) ∙ apart_from_distinct bytes_eq names k i [] once below lt))
    (λ h. (bytes_eq-Decides name (get_or names i [])).1 (sym is))

-- what a flow must be to be written: well formed, with names, each its own in its space, and with numbers below 2^64
pub record CanBeWritten (flow : Dataflow) : Type 0 where
  pub well_formed : IsWellFormed flow
  pub loops_once : IsDistinct bytes_eq (map (λ (l : Loop). l.name) flow.loops)
  pub nodes_once : IsDistinct bytes_eq (map (λ (n : Node). n.name) flow.nodes)
  pub edges_once : IsDistinct bytes_eq (map (λ (e : Edge). e.name) flow.edges)
  pub loops_named : AllByRecursion (λ (l : Loop). is_name l.name ≡ true) flow.loops
  pub nodes_named : AllByRecursion (λ (n : Node). is_name n.name ≡ true) flow.nodes
  pub edges_named : AllByRecursion (λ (e : Edge). is_name e.name ≡ true) flow.edges
  pub whole : HasNoReplicas flow
  pub numbers : (p : ℕ) → p < length flow.nodes → IsSmallKind (named_kind flow (kind_of flow p))

abbrev loop_names_in : Dataflow → List (List ℕ)
loop_names_in flow = map (λ (l : Loop). l.name) flow.loops

abbrev node_names_in : Dataflow → List (List ℕ)
node_names_in flow = map (λ (n : Node). n.name) flow.nodes

loop_place : (flow : Dataflow) → CanBeWritten flow → (l : ℕ) → l < length flow.loops → place_or_end (loop_names_in flow) (name_of_loop flow l) ≡ l
loop_place flow h l lt =
    own_place (loop_names_in flow) (name_of_loop flow l) l h.loops_once (omega (arith, lt, length-map flow.loops (λ (l : Loop). l.name)))
    (get_or-map (λ (l : Loop). l.name) flow.loops l (record { name = []; max = 0; parent = None }) [] lt)

node_place : (flow : Dataflow) → CanBeWritten flow → (p : ℕ) → p < length flow.nodes → place_or_end (node_names_in flow) (node_at flow p).name ≡ p
unfolding node_at
node_place flow h p lt =
    own_place (node_names_in flow) (node_at flow p).name p h.nodes_once (omega (arith, lt, length-map flow.nodes (λ (n : Node). n.name)))
    (get_or-map (λ (n : Node). n.name) flow.nodes p idle_node [] lt)

within_place : (flow : Dataflow) → CanBeWritten flow → (within : Option ℕ) → IfSome within (λ l. l < length flow.loops)
    → option_map (place_or_end (loop_names_in flow)) (option_map (name_of_loop flow) within) ≡ within
within_place flow h None lt = refl
within_place flow h (Some l) lt = ap Some (loop_place flow h l lt)

-- a kind with its loop by its name has its loop at its place
kind_resolved : (flow : Dataflow) → CanBeWritten flow → (k : Kind) → IsLoopDeclared flow k → resolved_kind (loop_names_in flow) (named_kind flow k) ≡ k
kind_resolved flow h k there = kind_map-back (name_of_loop flow) (place_or_end (loop_names_in flow)) k (within_place flow h (loop_of_kind k) there)

abbrev given_loop : List (List ℕ) → Declaration → List Loop
given_loop names (declares.Loop name max parent) = record { name = name; max = max; parent = option_map (place_or_end names) parent } ∷ []
given_loop names (declares.Node name k p split part) = []
given_loop names (declares.Edge name s r) = []

abbrev given_node : List (List ℕ) → Declaration → List Node
given_node names (declares.Loop name max parent) = []
given_node names (declares.Node name k p split part) = record { name = name; kind = resolved_kind names k; policy = p; part = part } ∷ []
given_node names (declares.Edge name s r) = []

abbrev given_edge : List (List ℕ) → Declaration → List Edge
given_edge names (declares.Loop name max parent) = []
given_edge names (declares.Node name k p split part) = []
given_edge names (declares.Edge name s r) = record { name = name; sender = place_or_end names s; receiver = place_or_end names r } ∷ []

loops_back : (flow : Dataflow) → CanBeWritten flow → flat_map (loop_in (loop_names_in flow)) (raw_of flow) ≡ flow.loops
unfolding declared_parent
loops_back flow h =
    let names = loop_names_in flow in
    let none : Loop = record { name = []; max = 0; parent = None } in
    lined_gives (loop_in names) (given_loop names) (same names) 1 (declarations_of flow)
    ∙ three (given_loop names) (map (of_loop flow) flow.loops) (map (of_node flow) flow.nodes) (map (of_edge flow) flow.edges) (map (λ (l : Loop). l) flow.loops) [] []
    (give_each (given_loop names) (of_loop flow) (λ (l : Loop). l) flow.loops
    (each-of_places (λ l. given_loop names (of_loop flow l) ≡ l ∷ []) none flow.loops
    (λ p lt. let l = get_or flow.loops p none in ap (λ o. record { name = l.name; max = l.max; parent = o } ∷ []) (within_place flow h l.parent (h.well_formed.parents_declared p lt)))))
    (give_none (given_loop names) (of_node flow) (λ n. refl) flow.nodes) (give_none (given_loop names) (of_edge flow) (λ e. refl) flow.edges)
    ∙ append-nil (map (λ (l : Loop). l) flow.loops)
    ∙ map_same flow.loops
  where
    same : (names : List (List ℕ)) (number : ℕ) (d : Declaration) → loop_in names (on_line number d) ≡ given_loop names d
    same names number (declares.Loop name max parent) = refl
    same names number (declares.Node name k p split part) = refl
    same names number (declares.Edge name s r) = refl

nodes_back : (flow : Dataflow) → CanBeWritten flow → flat_map (node_in (loop_names_in flow)) (raw_of flow) ≡ flow.nodes
unfolding kind_of
nodes_back flow h =
    let names = loop_names_in flow in
    lined_gives (node_in names) (given_node names) (same names) 1 (declarations_of flow)
    ∙ three (given_node names) (map (of_loop flow) flow.loops) (map (of_node flow) flow.nodes) (map (of_edge flow) flow.edges) [] (map (λ (n : Node). n) flow.nodes) []
    (give_none (given_node names) (of_loop flow) (λ l. refl) flow.loops)
    (give_each (given_node names) (of_node flow) (λ (n : Node). n) flow.nodes
    (each-of_places (λ n. given_node names (of_node flow n) ≡ n ∷ []) idle_node flow.nodes
    (λ p lt.
    let n = get_or flow.nodes p idle_node in
    ap (λ k. record { name = n.name; kind = k; policy = n.policy; part = None } ∷ []) (kind_resolved flow h n.kind (h.well_formed.loops_declared p lt))
    ∙ ap (λ o. record { name = n.name; kind = n.kind; policy = n.policy; part = o } ∷ []) (sym (each-at (λ (m : Node). m.part ≡ None) flow.nodes p idle_node lt h.whole)))))
    (give_none (given_node names) (of_edge flow) (λ e. refl) flow.edges)
    ∙ append-nil (map (λ (n : Node). n) flow.nodes)
    ∙ map_same flow.nodes
  where
    same : (names : List (List ℕ)) (number : ℕ) (d : Declaration) → node_in names (on_line number d) ≡ given_node names d
    same names number (declares.Loop name max parent) = refl
    same names number (declares.Node name k p split part) = refl
    same names number (declares.Edge name s r) = refl

edges_back : (flow : Dataflow) → CanBeWritten flow → flat_map (edge_in (node_names_in flow)) (raw_of flow) ≡ flow.edges
unfolding sender receiver
edges_back flow h =
    let names = node_names_in flow in
    let none : Edge = record { name = []; sender = length flow.nodes; receiver = length flow.nodes } in
    lined_gives (edge_in names) (given_edge names) (same names) 1 (declarations_of flow)
    ∙ three (given_edge names) (map (of_loop flow) flow.loops) (map (of_node flow) flow.nodes) (map (of_edge flow) flow.edges) [] [] (map (λ (e : Edge). e) flow.edges)
    (give_none (given_edge names) (of_loop flow) (λ l. refl) flow.loops) (give_none (given_edge names) (of_node flow) (λ n. refl) flow.nodes)
    (give_each (given_edge names) (of_edge flow) (λ (e : Edge). e) flow.edges
    (each-of_places (λ e. given_edge names (of_edge flow e) ≡ e ∷ []) none flow.edges
    (λ p lt.
    let e = get_or flow.edges p none in
    ap (λ s. record { name = e.name; sender = s; receiver = place_or_end names (node_at flow e.receiver).name } ∷ []) (node_place flow h e.sender (h.well_formed.senders_declared p lt))
    ∙ ap (λ r. record { name = e.name; sender = e.sender; receiver = r } ∷ []) (node_place flow h e.receiver (h.well_formed.receivers_declared p lt)))))
    ∙ map_same flow.edges
  where
    same : (names : List (List ℕ)) (number : ℕ) (d : Declaration) → edge_in names (on_line number d) ≡ given_edge names d
    same names number (declares.Loop name max parent) = refl
    same names number (declares.Node name k p split part) = refl
    same names number (declares.Edge name s r) = refl

-- the declarations of a flow are those of that flow
flow_back : (flow : Dataflow) → CanBeWritten flow → flow_of_declarations (raw_of flow) ≡ flow
flow_back flow h =
    let loops : flat_map (loop_in (loop_names (raw_of flow))) (raw_of flow) ≡ flow.loops = ap (λ ns. flat_map (loop_in ns) (raw_of flow)) (loop_names_of flow) ∙ loops_back flow h in
    let nodes : flat_map (node_in (loop_names (raw_of flow))) (raw_of flow) ≡ flow.nodes = ap (λ ns. flat_map (node_in ns) (raw_of flow)) (loop_names_of flow) ∙ nodes_back flow h in
    let edges : flat_map (edge_in (node_names (raw_of flow))) (raw_of flow) ≡ flow.edges = ap (λ ns. flat_map (edge_in ns) (raw_of flow)) (node_names_of flow) ∙ edges_back flow h in
    λ i. record { loops = loops i; nodes = nodes i; edges = edges i }

-- ---- they can be written

loop_named : (flow : Dataflow) → CanBeWritten flow → (l : ℕ) → l < length flow.loops → is_name (name_of_loop flow l) ≡ true
loop_named flow h l lt = each-at (λ (l : Loop). is_name l.name ≡ true) flow.loops l (record { name = []; max = 0; parent = None }) lt h.loops_named

node_named : (flow : Dataflow) → CanBeWritten flow → (p : ℕ) → p < length flow.nodes → is_name (node_at flow p).name ≡ true
unfolding node_at
node_named flow h p lt = each-at (λ (n : Node). is_name n.name ≡ true) flow.nodes p idle_node lt h.nodes_named

within_named : (flow : Dataflow) → CanBeWritten flow → (within : Option ℕ) → IfSome within (λ l. l < length flow.loops) → IfSome (option_map (name_of_loop flow) within) IsName
within_named flow h None there = tt
within_named flow h (Some l) there = loop_named flow h l there

policy_written : (flow : Dataflow) (k : Kind) (p : Policy) → IsPolicyAllowed k p → IsPolicyWritten (named_kind flow k) p
policy_written flow kind.Input p allowed = allowed
policy_written flow kind.OutputEpoch p allowed = allowed
policy_written flow kind.OutputNumber p allowed = allowed
policy_written flow k p allowed = tt

node_writable : (flow : Dataflow) → CanBeWritten flow → (k : Kind) (p : Policy) → IsLoopDeclared flow k → IsPolicyAllowed k p → IsSmallKind (named_kind flow k) → IsWritableNode (named_kind flow k) p
node_writable flow h k p there allowed small = record {
  loop_name = subst (λ o. IfSome o IsName) (sym (loop_of_kind-map (name_of_loop flow) k)) (within_named flow h (loop_of_kind k) there);
  numbers = small;
  written = policy_written flow k p allowed;
}

each_mapped : {A : Type 0} (make : A → Declaration) (xs : List A) → AllByRecursion (λ x. IsWritable (make x)) xs → AllByRecursion IsWritable (map make xs)
each_mapped make [] h = tt
each_mapped make (x ∷ xs) h = (h.0, each_mapped make xs h.1)

loops_writable : (flow : Dataflow) → CanBeWritten flow → AllByRecursion IsWritable (map (of_loop flow) flow.loops)
unfolding max_of declared_parent
loops_writable flow h =
    let none : Loop = record { name = []; max = 0; parent = None } in
    each_mapped (of_loop flow) flow.loops
    (each-of_places (λ l. IsWritable (of_loop flow l)) none flow.loops
    (λ p lt.
    let few = (h.well_formed.limits.counters p lt).1 in
    (loop_named flow h p lt, omega (arith, few), within_named flow h (get_or flow.loops p none).parent (h.well_formed.parents_declared p lt))))

nodes_writable : (flow : Dataflow) → CanBeWritten flow → AllByRecursion IsWritable (map (of_node flow) flow.nodes)
unfolding node_at kind_of policy_of
nodes_writable flow h =
    each_mapped (of_node flow) flow.nodes
    (each-of_places (λ n. IsWritable (of_node flow n)) idle_node flow.nodes
    (λ p lt.
    let n = get_or flow.nodes p idle_node in
    (node_named flow h p lt, node_writable flow h n.kind n.policy (h.well_formed.loops_declared p lt) (h.well_formed.policies p lt) (h.numbers p lt), tt, refl)))

edges_writable : (flow : Dataflow) → CanBeWritten flow → AllByRecursion IsWritable (map (of_edge flow) flow.edges)
unfolding sender receiver
edges_writable flow h =
    let none : Edge = record { name = []; sender = length flow.nodes; receiver = length flow.nodes } in
    each_mapped (of_edge flow) flow.edges
    (each-of_places (λ e. IsWritable (of_edge flow e)) none flow.edges
    (λ p lt.
    let e = get_or flow.edges p none in
    (each-at (λ (e : Edge). is_name e.name ≡ true) flow.edges p none lt h.edges_named, node_named flow h e.sender (h.well_formed.senders_declared p lt), node_named flow h e.receiver (h.well_formed.receivers_declared p lt))))

all_writable : (flow : Dataflow) → CanBeWritten flow → AllByRecursion IsWritable (declarations_of flow)
all_writable flow h =
    each-append IsWritable (map (of_loop flow) flow.loops) (map (of_node flow) flow.nodes ++ map (of_edge flow) flow.edges) (loops_writable flow h)
    (each-append IsWritable (map (of_node flow) flow.nodes) (map (of_edge flow) flow.edges) (nodes_writable flow h) (edges_writable flow h))

all_plain : (ds : List Declaration) → AllByRecursion IsWritable ds → list_all is_plain_line (map declaration_words ds) ≡ true
all_plain [] w = refl
all_plain (d ∷ ds) w = ap (λ b. b && list_all is_plain_line (map declaration_words ds)) (plain_declaration d w.0) ∙ all_plain ds w.1

-- ---- none is split

lined_each : (P : Declaration → Type 0) (number : ℕ) (ds : List Declaration) → AllByRecursion P ds → AllByRecursion (λ (d : Declared). P d.declaration) (lined number ds)
lined_each P number [] h = tt
lined_each P number (d ∷ ds) h = (h.0, lined_each P (number + 1) ds h.1)

-- what holds of each declaration of a flow, by its loops, nodes and edges
each_declared : (P : Declaration → Type 0) (flow : Dataflow) → ((l : Loop) → P (of_loop flow l)) → ((n : Node) → P (of_node flow n)) → ((e : Edge) → P (of_edge flow e))
    → AllByRecursion (λ (d : Declared). P d.declaration) (raw_of flow)
each_declared P flow loops nodes edges =
    lined_each P 1 (declarations_of flow)
    (each-append P (map (of_loop flow) flow.loops) (map (of_node flow) flow.nodes ++ map (of_edge flow) flow.edges) (each-map P (of_loop flow) flow.loops (each-one (λ l. P (of_loop flow l)) flow.loops loops))
    (each-append P (map (of_node flow) flow.nodes) (map (of_edge flow) flow.edges) (each-map P (of_node flow) flow.nodes (each-one (λ n. P (of_node flow n)) flow.nodes nodes))
    (each-map P (of_edge flow) flow.edges (each-one (λ e. P (of_edge flow e)) flow.edges edges))))

none_split : (flow : Dataflow) → AreWhole (raw_of flow)
none_split flow = each_declared (λ d. is_whole d ≡ true) flow (λ l. refl) (λ n. refl) (λ e. refl)

-- ---- the text

-- the text of a flow that can be written is read as that flow, where it is not too long
pub written_read : (flow : Dataflow) → CanBeWritten flow → length (text_of_flow flow) ≤ flow_size_limit → IsAcceptedFlow (text_of_flow flow) flow
written_read flow h short =
    let ds = declarations_of flow in
    let writable = all_writable flow h in
    let once : AreOnce (raw_of flow) = record {
      loops = subst (IsDistinct bytes_eq) (sym (loop_names_of flow)) h.loops_once;
      nodes = subst (IsDistinct bytes_eq) (sym (node_names_of flow)) h.nodes_once;
      edges = subst (IsDistinct bytes_eq) (sym (edge_names_of flow)) h.edges_once;
    } in
    let said : said_lines (text_of_flow flow) ≡ numbered 1 (map declaration_words ds) = ap said_lines (text_lined flow) ∙ said_lines-text_of (map declaration_words ds) (all_plain ds writable) in
    let known = known_lines (said_lines (text_of_flow flow)) (raw_of flow) (ap (read_lines []) said ∙ all_read [] 1 ds writable (all_new [] 1 ds once)) in
    record {
      sound = record { size = short; lines = known.0 };
      declared = raw_of flow;
      written = known.1;
      checked = checked-whole (raw_of flow) flow (none_split flow) h.well_formed (flow_back flow h);
    }
