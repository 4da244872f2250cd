-- What lines ask for are items of the flow.
use Rattle.std.proofs.Common.{◌≡◌, ◌≢◌, ℕ, suc, ◌<◌, ◌≤◌, Bool, true, false, cond, List, [], ◌∷◌, length, map, Option, Some, None, IfSome, Result, Ok, Err, IfOk, refl, ap, subst, arith}
use Rattle.std.specs.Prelude.{codes}
use Rattle.std.proofs.lemmas.List.{length-map}
use Rattle.std.proofs.lemmas.List.Quantifiers.{position-Some}
use Rattle.std.specs.List.{AllByRecursion, cons_option}
use Rattle.std.specs.Option.{option_map, option_and_then, option_map_or, ok_or}
use Rattle.std.specs.Result.{result_ok}
use Rattle.std.specs.Str.{bytes_eq}
use Rattle.std.specs.Str.Parse.{digits_value}
use Rattle.fw_time.specs.Stamp.{in_domain}
use Rattle.fw_time.specs.declared.stamp.Bounds.{Bounds}
use Rattle.fw_lines.specs.declared.refusal.Code.{Code}
use Rattle.fw_lines.specs.declared.refusal.Code.TheVariants.{S1, S2, S3}
use Rattle.fw_lines.specs.Lines.{Said, words_at}
use Rattle.fw_lines.specs.declared.span.Span.{Span}
use Rattle.fw_lines.specs.Spelling.{is_numeral}
use Rattle.fw_flow.specs.FullNames.{is_full_name}
use Rattle.fw_flow.specs.Kind.{Kind}
use Rattle.fw_flow.specs.declared.node.Node.{Node}
use Rattle.fw_flow.specs.declared.node.Edge.{Edge}
use Rattle.fw_flow.specs.declared.step.Step.{Step}
use Rattle.fw_flow.specs.declared.step.Step.TheVariants as step
use Rattle.fw_flow.specs.Dataflow.{Dataflow, kind_of, receiver, bounds_of, is_input_kind, is_output_kind}
use Rattle.fw_flow.specs.Names.{place_of}
use Rattle.fw_schedule.specs.declared.item.Item.{Item}
use Rattle.fw_schedule.specs.declared.item.Item.TheVariants.{Auto}
use Rattle.fw_schedule.specs.Grammar.{auto_of, one_step, item_of, items_of}
use Rattle.fw_schedule.specs.Names.{are_names, node_with_name, edge_named, if_kind, node_of_kind, nodes_named}
use Rattle.fw_schedule.specs.Schedule.{IsTimeIn, IsNodeOfKind, IsStepOf, IsItemOf, steps_in, step_count, step_limit}
use Rattle.fw_schedule.specs.Stamps.{stamp_spelled}
use Rattle.fw_schedule.specs.Steps.{told_stamp, delivery_on, notification_of, lone_step, stamped_step, named_step, is_name_at_stamp, short_step, failure_of, step_of}

-- a line of two words, or of more than three, behind its verb spells no step
pub no_form : (flow : Dataflow) (text verb : List ℕ) (words : List Span) → length words ≢ 0 → length words ≢ 1 → length words ≢ 3
    → Err S1 ≡ short_step flow verb (words_at text words)
no_form flow text verb [] none one three = absurd (none refl)
no_form flow text verb (w ∷ []) none one three = absurd (one refl)
no_form flow text verb (w ∷ v ∷ []) none one three = refl
no_form flow text verb (w ∷ v ∷ u ∷ []) none one three = absurd (three refl)
no_form flow text verb (w ∷ v ∷ u ∷ t ∷ words) none one three = refl

-- a name stands below the end
below : (name : List ℕ) (names : List (List ℕ)) (o : Option ℕ) → place_of name names ≡ o → IfSome o (λ place. place < length names)
below name names None e = tt
below name names (Some place) e = (position-Some (bytes_eq name) names place [] e).0

node_below : (flow : Dataflow) (name : List ℕ) → IfSome (node_with_name flow name) (λ node. node < length flow.nodes)
node_below flow name = subst (λ n. IfSome (node_with_name flow name) (λ node. node < n)) (length-map flow.nodes (λ (n : Node). n.name)) (below name (map (λ (n : Node). n.name) flow.nodes) (node_with_name flow name) refl)

edge_below : (flow : Dataflow) (name : List ℕ) → IfSome (edge_named flow name) (λ edge. edge < length flow.edges)
edge_below flow name = subst (λ n. IfSome (edge_named flow name) (λ edge. edge < n)) (length-map flow.edges (λ (e : Edge). e.name)) (below name (map (λ (e : Edge). e.name) flow.edges) (edge_named flow name) refl)

kind_sound : (flow : Dataflow) (is_such : Kind → Bool) (node : ℕ) (b : Bool) → is_such (kind_of flow node) ≡ b → node < length flow.nodes → IfSome (cond b (Some node) None) (IsNodeOfKind flow is_such)
kind_sound flow is_such node true e h = (h, e)
kind_sound flow is_such node false e h = tt

node_sound : (flow : Dataflow) (is_such : Kind → Bool) (node : Option ℕ) → IfSome node (λ n. n < length flow.nodes) → IfSome (option_and_then (if_kind flow is_such) node) (IsNodeOfKind flow is_such)
node_sound flow is_such None h = tt
node_sound flow is_such (Some node) h = kind_sound flow is_such node (is_such (kind_of flow node)) refl h

told_sound : (bounds : Bounds) (stamp : Option (List ℕ)) → IfSome (told_stamp bounds stamp) (IsTimeIn bounds)
told_sound bounds None = tt
told_sound bounds (Some word) = inside (in_domain bounds (stamp_spelled word)) refl
  where
    inside : (b : Bool) → in_domain bounds (stamp_spelled word) ≡ b → IfSome (cond b (Some (Some (stamp_spelled word))) None) (IsTimeIn bounds)
    inside true e = e
    inside false e = tt

-- a step that is made of what is found
made : {X : Type 0} (flow : Dataflow) (P : X → Type 0) (make : X → Step) (code : Code) (o : Option X) → IfSome o P → ((x : X) → P x → IsStepOf flow (make x)) → IfOk (ok_or (option_map make o) code) (IsStepOf flow)
made flow P make code None h f = tt
made flow P make code (Some x) h f = f x h

-- a step at a place, if there is one
at_place : (flow : Dataflow) (P : ℕ → Type 0) (make : ℕ → Result Step Code) (o : Option ℕ) → IfSome o P → ((n : ℕ) → P n → IfOk (make n) (IsStepOf flow)) → IfOk (option_map_or make o (Err S2)) (IsStepOf flow)
at_place flow P make None h f = tt
at_place flow P make (Some n) h f = f n h

-- as many nodes are found as there are names, each of them of the flow
nodes_below : (flow : Dataflow) (names : List (List ℕ)) → IfSome (nodes_named flow names) (λ nodes. (length nodes ≡ length names) × AllByRecursion (λ node. node < length flow.nodes) nodes)
nodes_below flow [] = (refl, tt)
nodes_below flow (name ∷ names) = more (node_with_name flow name) (nodes_named flow names) (node_below flow name) (nodes_below flow names)
  where
    more : (o : Option ℕ) (os : Option (List ℕ)) → IfSome o (λ node. node < length flow.nodes)
        → IfSome os (λ nodes. (length nodes ≡ length names) × AllByRecursion (λ node. node < length flow.nodes) nodes)
        → IfSome (option_and_then (λ node. option_map (λ nodes. node ∷ nodes) os) o) (λ nodes. (length nodes ≡ length (name ∷ names)) × AllByRecursion (λ node. node < length flow.nodes) nodes)
    more None os h k = tt
    more (Some node) None h k = tt
    more (Some node) (Some nodes) h k = (ap suc k.0, (h, k.1))

-- one of two, of each of which this is true where it is spelled
either : {X : Type 0} (P : X → Type 0) (b : Bool) (x y : Result X Code) → IfOk x P → IfOk y P → IfOk (cond b x y) P
either P true x y h k = h
either P false x y h k = k

lone_sound : (flow : Dataflow) (verb : List ℕ) → IfOk (lone_step verb) (IsStepOf flow)
lone_sound flow verb =
    either (IsStepOf flow) (bytes_eq verb (codes "progress")) (Ok step.Progress) _ tt
    (either (IsStepOf flow) (bytes_eq verb (codes "persist")) (Ok step.Persist) _ tt
    (either (IsStepOf flow) (bytes_eq verb (codes "recover")) (Ok step.Recover) _ tt
    (either (IsStepOf flow) (bytes_eq verb (codes "collect")) (Ok step.Collect) (Err S1) tt tt)))

delivery_sound : (flow : Dataflow) (name : List ℕ) (stamp : Option (List ℕ)) → IfOk (option_map_or (delivery_on flow stamp) (edge_named flow name) (Err S2)) (IsStepOf flow)
delivery_sound flow name stamp = at_place flow (λ e. e < length flow.edges) (delivery_on flow stamp) (edge_named flow name) (edge_below flow name) (λ e h. made flow (IsTimeIn (bounds_of flow (receiver flow e))) (λ at. step.Deliver e at) S3 (told_stamp (bounds_of flow (receiver flow e)) stamp) (told_sound (bounds_of flow (receiver flow e)) stamp) (λ at k. (h, k)))

notification_sound : (flow : Dataflow) (name : List ℕ) (stamp : Option (List ℕ)) → IfOk (option_map_or (notification_of flow stamp) (node_with_name flow name) (Err S2)) (IsStepOf flow)
notification_sound flow name stamp = at_place flow (λ n. n < length flow.nodes) (notification_of flow stamp) (node_with_name flow name) (node_below flow name) (λ n h. made flow (IsTimeIn (bounds_of flow n)) (λ at. step.Notify n at) S3 (told_stamp (bounds_of flow n) stamp) (told_sound (bounds_of flow n) stamp) (λ at k. (h, k)))

stamped_sound : (flow : Dataflow) (verb name : List ℕ) (stamp : Option (List ℕ)) → IfOk (stamped_step flow verb name stamp) (IsStepOf flow)
stamped_sound flow verb name stamp =
    either (IsStepOf flow) (bytes_eq verb (codes "deliver")) (option_map_or (delivery_on flow stamp) (edge_named flow name) (Err S2)) _ (delivery_sound flow name stamp)
    (either (IsStepOf flow) (bytes_eq verb (codes "notify")) (option_map_or (notification_of flow stamp) (node_with_name flow name) (Err S2)) (Err S1) (notification_sound flow name stamp) tt)

named_sound : (flow : Dataflow) (verb name : List ℕ) → IfOk (named_step flow verb name) (IsStepOf flow)
named_sound flow verb name =
    either (IsStepOf flow) (bytes_eq verb (codes "inject")) (ok_or (option_map step.Inject (node_of_kind flow is_input_kind name)) S2) _
    (made flow (IsNodeOfKind flow is_input_kind) (λ n. step.Inject n) S2 (node_of_kind flow is_input_kind name) (node_sound flow is_input_kind (node_with_name flow name) (node_below flow name)) (λ n h. h))
    (either (IsStepOf flow) (bytes_eq verb (codes "checkpoint")) (ok_or (option_map step.Checkpoint (node_with_name flow name)) S2) _
    (made flow (λ n. n < length flow.nodes) (λ n. step.Checkpoint n) S2 (node_with_name flow name) (node_below flow name) (λ n h. h))
    (either (IsStepOf flow) (bytes_eq verb (codes "ack")) (ok_or (option_map step.Ack (node_of_kind flow is_output_kind name)) S2) (stamped_step flow verb name None)
    (made flow (IsNodeOfKind flow is_output_kind) (λ n. step.Ack n) S2 (node_of_kind flow is_output_kind name) (node_sound flow is_output_kind (node_with_name flow name) (node_below flow name)) (λ n h. h))
    (stamped_sound flow verb name None)))

short_sound : (flow : Dataflow) (verb : List ℕ) (words : List (List ℕ)) → IfOk (short_step flow verb words) (IsStepOf flow)
short_sound flow verb [] = lone_sound flow verb
short_sound flow verb (name ∷ []) = either (IsStepOf flow) (is_full_name name) (named_step flow verb name) (Err S1) (named_sound flow verb name) tt
short_sound flow verb (name ∷ at ∷ []) = tt
short_sound flow verb (name ∷ at ∷ stamp ∷ []) = either (IsStepOf flow) (is_name_at_stamp name at stamp) (stamped_step flow verb name (Some stamp)) (Err S1) (stamped_sound flow verb name (Some stamp)) tt
short_sound flow verb (name ∷ at ∷ stamp ∷ word ∷ words) = tt

failure_sound : (flow : Dataflow) (words : List (List ℕ)) → IfOk (failure_of flow words) (IsStepOf flow)
failure_sound flow [] = tt
failure_sound flow (name ∷ names) =
    either (IsStepOf flow) (are_names (name ∷ names)) (ok_or (option_map step.Fail (nodes_named flow (name ∷ names))) S2) (Err S1)
    (made flow (λ nodes. (length nodes ≡ length (name ∷ names)) × AllByRecursion (λ node. node < length flow.nodes) nodes) (λ nodes. step.Fail nodes) S2 (nodes_named flow (name ∷ names)) (nodes_below flow (name ∷ names)) (λ nodes h. (omega (arith, h.0), h.1))) tt

words_sound : (flow : Dataflow) (verb : List ℕ) (words : List (List ℕ)) → IfOk (step_of flow verb words) (IsStepOf flow)
words_sound flow verb words = either (IsStepOf flow) (bytes_eq verb (codes "fail")) (failure_of flow words) (short_step flow verb words) (failure_sound flow words) (short_sound flow verb words)

-- the item is one of the flow, unless it asks for too many steps
abbrev IsItemIfFew : Dataflow → Item → Type 0
IsItemIfFew flow item = steps_in item ≤ step_limit → IsItemOf flow item

auto_sound : (flow : Dataflow) (words : List (List ℕ)) → IfOk (auto_of words) (IsItemIfFew flow)
auto_sound flow [] = tt
auto_sound flow (number ∷ []) = either (IsItemIfFew flow) (is_numeral number) (Ok (Auto (digits_value 10 number))) (Err S1) (λ h. h) tt
auto_sound flow (number ∷ word ∷ words) = tt

one_sound : (flow : Dataflow) (r : Result Step Code) → IfOk r (IsStepOf flow) → IfOk (one_step r) (IsItemIfFew flow)
one_sound flow (Ok step) h = λ few. h
one_sound flow (Err code) h = tt

item_sound : (flow : Dataflow) (words : List (List ℕ)) → IfOk (item_of flow words) (IsItemIfFew flow)
item_sound flow [] = tt
item_sound flow (verb ∷ words) =
    either (IsItemIfFew flow) (bytes_eq verb (codes "auto")) (auto_of words) (one_step (step_of flow verb words))
    (auto_sound flow words) (one_sound flow (step_of flow verb words) (words_sound flow verb words))

one_more : (flow : Dataflow) (r : Result Item Code) (items : List Item) → IfOk r (IsItemIfFew flow) → (step_count items ≤ step_limit → AllByRecursion (IsItemOf flow) items)
    → step_count (cons_option (result_ok r) items) ≤ step_limit → AllByRecursion (IsItemOf flow) (cons_option (result_ok r) items)
one_more flow (Ok item) items h k few = (h (omega (arith, few)), k (omega (arith, few)))
one_more flow (Err code) items h k few = k few

-- each item that lines ask for is one of the flow, where their steps are not too many
pub items_sound : (flow : Dataflow) (lines : List Said) → step_count (items_of flow lines) ≤ step_limit → AllByRecursion (IsItemOf flow) (items_of flow lines)
items_sound flow [] = λ few. tt
items_sound flow (line ∷ lines) = one_more flow (item_of flow line.words) (items_of flow lines) (item_sound flow line.words) (items_sound flow lines)
