-- The text of a schedule is read as that schedule.
use Rattle.std.proofs.Common.{◌≡◌, ℕ, ◌+◌, ◌<◌, ◌≤◌, ◌^◌, nat_le, Bool, true, ◌&&◌, cond, List, [], ◌∷◌, ◌++◌, length, map, refl, sym, ◌∙◌, ap, subst, arith, Option, Some, None, Ok, Err, codes}
use Rattle.std.proofs.lemmas.Bool.{and_from}
use Rattle.std.proofs.lemmas.Bool.Decides.{nat_tests}
use Rattle.std.proofs.lemmas.List.{append-nil}
use Rattle.std.proofs.lemmas.List.Elements.{filter_map-append}
use Rattle.std.specs.Fmt.{decimal}
use Rattle.std.specs.List.{AllByRecursion, IsDistinct, cons_option, list_all}
use Rattle.std.specs.Option.{option_and_then, option_map, option_map_or, ok_or}
use Rattle.std.specs.Result.{result_err, result_ok}
use Rattle.std.specs.Str.{bytes_eq}
use Rattle.std.specs.Str.Parse.{digits_value}
use Rattle.fw_lemmas.proofs.Each.{each-at}
use Rattle.fw_time.specs.Stamp.{Stamp, in_domain}
use Rattle.fw_time.specs.StampText.{stamp_text}
use Rattle.fw_lines.specs.declared.refusal.Code.TheVariants.{S1, S2, S3, S4}
use Rattle.fw_lines.specs.Faults.{BreakNoRule}
use Rattle.fw_lines.specs.Lines.{Said, said_lines}
use Rattle.fw_flow.specs.FullNames.{is_full_name}
use Rattle.fw_lines.specs.Written.{WordLine, is_plain, is_plain_line, line_text, numbered, spaced, text_of}
use Rattle.fw_lines.proofs.FaultLaws.{Told, none_told, none_judged, IsSoundSoFar, none_left, sound_more}
use Rattle.fw_lines.proofs.WrittenLaws.{said_lines-text_of}
use Rattle.fw_flow.specs.Kind.{Kind}
use Rattle.fw_flow.specs.declared.node.Edge.{Edge}
use Rattle.fw_flow.specs.declared.node.Node.{Node}
use Rattle.fw_flow.specs.declared.step.Step.{Step}
use Rattle.fw_flow.specs.declared.step.Step.TheVariants.{Inject, Deliver, Notify, Progress, Checkpoint, Persist, Fail, Recover, Collect, Ack}
use Rattle.fw_flow.specs.Dataflow.{Dataflow, node_at, receiver, bounds_of, is_input_kind, is_output_kind, idle_node}
use Rattle.fw_flow.specs.DomainText.{name_of_edge}
use Rattle.fw_flow.specs.WellFormed.{IsWellFormed}
use Rattle.fw_schedule.specs.declared.item.Item.{Item}
use Rattle.fw_schedule.specs.declared.item.Item.TheVariants.{Auto, One}
use Rattle.fw_schedule.specs.Grammar.{item_of, items_of, one_step, schedule_fault, schedule_size_limit, schedule_words_fault, within_limit, IsAcceptedSchedule}
use Rattle.fw_schedule.specs.ItemText.{item_line, names_text, schedule_text, spaced_name, step_text, told_text}
use Rattle.fw_schedule.specs.Names.{if_kind, node_of_kind, nodes_named}
use Rattle.fw_schedule.specs.Schedule.{IsItemOf, IsNodeOfKind, IsStepOf, IsTimeIn, step_count, step_limit, steps_in}
use Rattle.fw_schedule.specs.Stamps.{is_stamp}
use Rattle.fw_schedule.specs.Steps.{delivery_on, is_name_at_stamp, named_step, notification_of, stamped_step, told_stamp}
use Rattle.fw_lines.proofs.DecimalLaws.{decimal_numeral, decimal_value}
use Rattle.fw_schedule.proofs.ReadLaws.{step_count-append}
use Rattle.fw_schedule.proofs.WordLaws.{IsSpelled, edge_found, node_found, plain-name, plain-number, plain-stamp, stamp-spelled, stamp_read}

-- the flow is well formed, and its nodes and edges have names, each its own
pub record IsNamed (flow : Dataflow) : Type 0 where
  pub well_formed : IsWellFormed flow
  pub nodes_once : IsDistinct bytes_eq (map (λ (n : Node). n.name) flow.nodes)
  pub edges_once : IsDistinct bytes_eq (map (λ (e : Edge). e.name) flow.edges)
  pub nodes_named : AllByRecursion (λ (n : Node). is_full_name n.name ≡ true) flow.nodes
  pub edges_named : AllByRecursion (λ (e : Edge). is_full_name e.name ≡ true) flow.edges

-- ---- lines and their words

-- the words of a stamp that is told
abbrev told_words : Option Stamp → List (List ℕ)
told_words None = []
told_words (Some t) = codes "at" ∷ stamp_text t ∷ []

-- the names of nodes
abbrev names : Dataflow → List ℕ → List (List ℕ)
names flow nodes = map (λ p. (node_at flow p).name) nodes

abbrev step_words : Dataflow → Step → WordLine
step_words flow (Inject source) = codes "inject" ∷ (node_at flow source).name ∷ []
step_words flow (Deliver edge at) = codes "deliver" ∷ name_of_edge flow edge ∷ told_words at
step_words flow (Notify node at) = codes "notify" ∷ (node_at flow node).name ∷ told_words at
step_words flow Progress = codes "progress" ∷ []
step_words flow (Checkpoint node) = codes "checkpoint" ∷ (node_at flow node).name ∷ []
step_words flow Persist = codes "persist" ∷ []
step_words flow (Fail nodes) = codes "fail" ∷ names flow nodes
step_words flow Recover = codes "recover" ∷ []
step_words flow Collect = codes "collect" ∷ []
step_words flow (Ack output) = codes "ack" ∷ (node_at flow output).name ∷ []

abbrev item_words : Dataflow → Item → WordLine
item_words flow (One step) = step_words flow step
item_words flow (Auto most) = codes "auto" ∷ decimal most ∷ []

-- a verb and one word
line_of_two : (verb word : List ℕ) → verb ++ (codes " " ++ (word ++ codes "\n")) ≡ line_text (verb ∷ word ∷ [])
line_of_two verb word = ap (λ w. verb ++ (codes " " ++ (w ++ codes "\n"))) (sym (append-nil word))

-- a verb, a name, and a stamp if it is told
line_told : (verb name : List ℕ) (at : Option Stamp) → verb ++ (codes " " ++ ((name ++ told_text at) ++ codes "\n")) ≡ line_text (verb ∷ name ∷ told_words at)
line_told verb name None = refl
line_told verb name (Some t) = ap (λ s. verb ++ (codes " " ++ ((name ++ (codes " at " ++ s)) ++ codes "\n"))) (sym (append-nil (stamp_text t)))

names_spaced : (flow : Dataflow) (nodes : List ℕ) → names_text flow nodes ≡ spaced (names flow nodes)
names_spaced flow [] = refl
names_spaced flow (p ∷ ps) = ap (λ t. spaced_name flow p ++ t) (names_spaced flow ps)

step_lined : (flow : Dataflow) (step : Step) → step_text flow step ++ codes "\n" ≡ line_text (step_words flow step)
step_lined flow (Inject source) = line_of_two (codes "inject") (node_at flow source).name
step_lined flow (Deliver edge at) = line_told (codes "deliver") (name_of_edge flow edge) at
step_lined flow (Notify node at) = line_told (codes "notify") (node_at flow node).name at
step_lined flow Progress = refl
step_lined flow (Checkpoint node) = line_of_two (codes "checkpoint") (node_at flow node).name
step_lined flow Persist = refl
step_lined flow (Fail nodes) = ap (λ t. codes "fail" ++ (t ++ codes "\n")) (names_spaced flow nodes)
step_lined flow Recover = refl
step_lined flow Collect = refl
step_lined flow (Ack output) = line_of_two (codes "ack") (node_at flow output).name

item_lined : (flow : Dataflow) (item : Item) → item_line flow item ≡ line_text (item_words flow item)
item_lined flow (One step) = step_lined flow step
item_lined flow (Auto most) = line_of_two (codes "auto") (decimal most)

-- the text is that of the lines of words
text_lined : (flow : Dataflow) (items : List Item) → schedule_text flow items ≡ text_of (map (item_words flow) items)
text_lined flow [] = refl
text_lined flow (item ∷ items) =
    ap (λ t. t ++ schedule_text flow items) (item_lined flow item) ∙ ap (λ t. line_text (item_words flow item) ++ t) (text_lined flow items)

-- ---- steps

node_name : (flow : Dataflow) → IsNamed flow → (p : ℕ) → p < length flow.nodes → is_full_name (node_at flow p).name ≡ true
unfolding node_at
node_name flow h p lt = each-at (λ (n : Node). is_full_name n.name ≡ true) flow.nodes p idle_node lt h.nodes_named

edge_name : (flow : Dataflow) → IsNamed flow → (e : ℕ) → e < length flow.edges → is_full_name (name_of_edge flow e) ≡ true
edge_name flow h e lt =
    each-at (λ (e : Edge). is_full_name e.name ≡ true) flow.edges e (record { name = []; sender = length flow.nodes; receiver = length flow.nodes }) lt h.edges_named

-- a step of the flow: its words can be those of a line, and they spell it
record IsStepLine (flow : Dataflow) (words : WordLine) (item : Item) : Type 0 where
  plain : is_plain_line words ≡ true
  asks : item_of flow words ≡ Ok item

plain_pair : (word : List ℕ) → is_plain word ≡ true → list_all is_plain (word ∷ []) && true ≡ true
plain_pair word h = and_from (is_plain word && true) true (and_from (is_plain word) true h refl) refl

-- of a node of a kind
kind_found : (flow : Dataflow) → IsNamed flow → (is_such : Kind → Bool) (p : ℕ) → IsNodeOfKind flow is_such p → node_of_kind flow is_such (node_at flow p).name ≡ Some p
kind_found flow h is_such p there =
    ap (option_and_then (if_kind flow is_such)) (node_found flow p h.nodes_once there.0) ∙ ap (λ b. cond b (Some p) None) there.1

injected : (flow : Dataflow) → IsNamed flow → (p : ℕ) → IsNodeOfKind flow is_input_kind p → IsStepLine flow (step_words flow (Inject p)) (One (Inject p))
injected flow h p there =
    let name = (node_at flow p).name in
    let named = node_name flow h p there.0 in
    record {
      plain = plain_pair name (plain-name name named);
      asks =
          ap (λ b. one_step (cond b (named_step flow (codes "inject") name) (Err S1))) named
          ∙ ap (λ o. one_step (ok_or (option_map Inject o) S2)) (kind_found flow h is_input_kind p there);
    }

acknowledged : (flow : Dataflow) → IsNamed flow → (p : ℕ) → IsNodeOfKind flow is_output_kind p → IsStepLine flow (step_words flow (Ack p)) (One (Ack p))
acknowledged flow h p there =
    let name = (node_at flow p).name in
    let named = node_name flow h p there.0 in
    record {
      plain = plain_pair name (plain-name name named);
      asks =
          ap (λ b. one_step (cond b (named_step flow (codes "ack") name) (Err S1))) named
          ∙ ap (λ o. one_step (ok_or (option_map Ack o) S2)) (kind_found flow h is_output_kind p there);
    }

checkpointed : (flow : Dataflow) → IsNamed flow → (p : ℕ) → p < length flow.nodes → IsStepLine flow (step_words flow (Checkpoint p)) (One (Checkpoint p))
checkpointed flow h p there =
    let name = (node_at flow p).name in
    let named = node_name flow h p there in
    record {
      plain = plain_pair name (plain-name name named);
      asks =
          ap (λ b. one_step (cond b (named_step flow (codes "checkpoint") name) (Err S1))) named
          ∙ ap (λ o. one_step (ok_or (option_map Checkpoint o) S2)) (node_found flow p h.nodes_once there);
    }

-- a stamp that is told is read
told_read : (flow : Dataflow) → IsWellFormed flow → (p : ℕ) (t : Stamp) → in_domain (bounds_of flow p) t ≡ true → told_stamp (bounds_of flow p) (Some (stamp_text t)) ≡ Some (Some t)
told_read flow w p t inside =
    let same = (stamp_read t (stamp-spelled flow w p t inside)).1 in
    ap (λ s. cond (in_domain (bounds_of flow p) s) (Some (Some s)) None) same ∙ ap (λ b. cond b (Some (Some t)) None) inside

-- a name, `at` and a stamp
at_stamp : (name : List ℕ) (t : Stamp) → is_full_name name ≡ true → IsSpelled t → is_name_at_stamp name (codes "at") (stamp_text t) ≡ true
at_stamp name t named spelled = and_from (is_full_name name) (is_stamp (stamp_text t)) named (stamp_read t spelled).0

plain_told : (name : List ℕ) (t : Stamp) → is_full_name name ≡ true → IsSpelled t → list_all is_plain (name ∷ codes "at" ∷ stamp_text t ∷ []) && true ≡ true
plain_told name t named spelled =
    and_from (is_plain name && (is_plain (stamp_text t) && true)) true (and_from (is_plain name) (is_plain (stamp_text t) && true) (plain-name name named) (and_from (is_plain (stamp_text t)) true (plain-stamp t spelled) refl)) refl

delivered : (flow : Dataflow) → IsNamed flow → (e : ℕ) (at : Option Stamp) → e < length flow.edges → IsTimeIn (bounds_of flow (receiver flow e)) at
    → IsStepLine flow (step_words flow (Deliver e at)) (One (Deliver e at))
delivered flow h e None there inside =
    let name = name_of_edge flow e in
    let named = edge_name flow h e there in
    record {
      plain = plain_pair name (plain-name name named);
      asks =
          ap (λ b. one_step (cond b (named_step flow (codes "deliver") name) (Err S1))) named
          ∙ ap (λ o. one_step (option_map_or (delivery_on flow None) o (Err S2))) (edge_found flow e h.edges_once there);
    }
delivered flow h e (Some t) there inside =
    let name = name_of_edge flow e in
    let named = edge_name flow h e there in
    let spelled = stamp-spelled flow h.well_formed (receiver flow e) t inside in
    record {
      plain = plain_told name t named spelled;
      asks =
          ap (λ b. one_step (cond b (stamped_step flow (codes "deliver") name (Some (stamp_text t))) (Err S1))) (at_stamp name t named spelled)
          ∙ ap (λ o. one_step (option_map_or (delivery_on flow (Some (stamp_text t))) o (Err S2))) (edge_found flow e h.edges_once there)
          ∙ ap (λ o. one_step (ok_or (option_map (Deliver e) o) S3)) (told_read flow h.well_formed (receiver flow e) t inside);
    }

notified : (flow : Dataflow) → IsNamed flow → (p : ℕ) (at : Option Stamp) → p < length flow.nodes → IsTimeIn (bounds_of flow p) at
    → IsStepLine flow (step_words flow (Notify p at)) (One (Notify p at))
notified flow h p None there inside =
    let name = (node_at flow p).name in
    let named = node_name flow h p there in
    record {
      plain = plain_pair name (plain-name name named);
      asks =
          ap (λ b. one_step (cond b (named_step flow (codes "notify") name) (Err S1))) named
          ∙ ap (λ o. one_step (option_map_or (notification_of flow None) o (Err S2))) (node_found flow p h.nodes_once there);
    }
notified flow h p (Some t) there inside =
    let name = (node_at flow p).name in
    let named = node_name flow h p there in
    let spelled = stamp-spelled flow h.well_formed p t inside in
    record {
      plain = plain_told name t named spelled;
      asks =
          ap (λ b. one_step (cond b (stamped_step flow (codes "notify") name (Some (stamp_text t))) (Err S1))) (at_stamp name t named spelled)
          ∙ ap (λ o. one_step (option_map_or (notification_of flow (Some (stamp_text t))) o (Err S2))) (node_found flow p h.nodes_once there)
          ∙ ap (λ o. one_step (ok_or (option_map (Notify p) o) S3)) (told_read flow h.well_formed p t inside);
    }

names_sound : (flow : Dataflow) → IsNamed flow → (nodes : List ℕ) → AllByRecursion (λ p. p < length flow.nodes) nodes
    → (list_all is_plain (names flow nodes) ≡ true) × (list_all is_full_name (names flow nodes) ≡ true) × (nodes_named flow (names flow nodes) ≡ Some nodes)
names_sound flow h [] there = (refl, refl, refl)
names_sound flow h (p ∷ ps) there =
    let name = (node_at flow p).name in
    let named = node_name flow h p there.0 in
    let rest = names_sound flow h ps there.1 in (
      and_from (is_plain name) (list_all is_plain (names flow ps)) (plain-name name named) rest.0,
      and_from (is_full_name name) (list_all is_full_name (names flow ps)) named rest.1,
      ap (λ o. option_and_then (λ node. option_map (λ nodes. node ∷ nodes) (nodes_named flow (names flow ps))) o) (node_found flow p h.nodes_once there.0)
          ∙ ap (option_map (λ nodes. p ∷ nodes)) rest.2,
    )

failed : (flow : Dataflow) → IsNamed flow → (nodes : List ℕ) → 0 < length nodes → AllByRecursion (λ p. p < length flow.nodes) nodes
    → IsStepLine flow (step_words flow (Fail nodes)) (One (Fail nodes))
failed flow h [] some there = let no : ⊥ = omega (arith, some) in absurd no
failed flow h (p ∷ ps) some there =
    let all = names_sound flow h (p ∷ ps) there in
    record {
      plain = and_from (list_all is_plain (names flow (p ∷ ps))) true all.0 refl;
      asks =
          ap (λ b. one_step (cond b (ok_or (option_map Fail (nodes_named flow (names flow (p ∷ ps)))) S2) (Err S1))) all.1
          ∙ ap (λ o. one_step (ok_or (option_map Fail o) S2)) all.2;
    }

step_read : (flow : Dataflow) → IsNamed flow → (step : Step) → IsStepOf flow step → IsStepLine flow (step_words flow step) (One step)
step_read flow h (Inject source) is = injected flow h source is
step_read flow h (Deliver edge at) is = delivered flow h edge at is.0 is.1
step_read flow h (Notify node at) is = notified flow h node at is.0 is.1
step_read flow h Progress is = record { plain = refl; asks = refl }
step_read flow h (Checkpoint node) is = checkpointed flow h node is
step_read flow h Persist is = record { plain = refl; asks = refl }
step_read flow h (Fail nodes) is = failed flow h nodes is.0 is.1
step_read flow h Recover is = record { plain = refl; asks = refl }
step_read flow h Collect is = record { plain = refl; asks = refl }
step_read flow h (Ack output) is = acknowledged flow h output is

-- the line of an item is read as the item
item_read : (flow : Dataflow) → IsNamed flow → (item : Item) → IsItemOf flow item → IsStepLine flow (item_words flow item) item
item_read flow h (One step) is = step_read flow h step is
item_read flow h (Auto most) is =
    let small : most < 2 ^ 64 = omega (arith, is) in
    record {
      plain = plain_pair (decimal most) (plain-number most small);
      asks = ap (λ b. cond b (Ok (Auto (digits_value 10 (decimal most)))) (Err S1)) (decimal_numeral most small) ∙ ap (λ n. Ok (Auto n)) (decimal_value most small);
    }

-- ---- the text

all_plain : (flow : Dataflow) → IsNamed flow → (items : List Item) → AllByRecursion (IsItemOf flow) items → list_all is_plain_line (map (item_words flow) items) ≡ true
all_plain flow h [] is = refl
all_plain flow h (item ∷ items) is =
    and_from (is_plain_line (item_words flow item)) (list_all is_plain_line (map (item_words flow) items)) (item_read flow h item is.0).plain (all_plain flow h items is.1)

-- the lines ask for the items
all_asked : (flow : Dataflow) → IsNamed flow → (number : ℕ) (items : List Item) → AllByRecursion (IsItemOf flow) items
    → items_of flow (numbered number (map (item_words flow) items)) ≡ items
all_asked flow h number [] is = refl
all_asked flow h number (item ∷ items) is =
    ap (λ r. cons_option (result_ok r) (items_of flow (numbered (number + 1) (map (item_words flow) items)))) (item_read flow h item is.0).asks
    ∙ ap (λ is. item ∷ is) (all_asked flow h (number + 1) items is.1)

-- a line breaks no rule, if its steps fit behind those before
line_sound : (flow : Dataflow) (count : ℕ) (words : WordLine) (item : Item) → item_of flow words ≡ Ok item → count + steps_in item ≤ step_limit → schedule_words_fault flow count words ≡ None
line_sound flow count [] item asks h = refl
line_sound flow count (word ∷ words) item asks h =
    let room : nat_le (count + steps_in item) step_limit ≡ true = grind (arith, nat_tests, h) in
    ap (λ r. result_err (within_limit count r)) asks ∙ ap (λ b. result_err (cond b (Ok item) (Err S4))) room

-- the steps with those of a line more
steps_more : (flow : Dataflow) (done : List Said) (number : ℕ) (words : WordLine) (item : Item) → item_of flow words ≡ Ok item
    → step_count (items_of flow (done ++ record { number = number; words = words } ∷ [])) ≡ step_count (items_of flow done) + steps_in item
steps_more flow done number words item asks =
    let said : Said = record { number = number; words = words } in
    ap step_count (filter_map-append (λ (l : Said). result_ok (item_of flow l.words)) done (said ∷ []))
    ∙ step_count-append (items_of flow done) (items_of flow (said ∷ []))
    ∙ ap (λ r. step_count (items_of flow done) + step_count (cons_option (result_ok r) [])) asks
    ∙ (omega arith)

-- lines of items break no rule, one after another
sound_on : (flow : Dataflow) → IsNamed flow → (items : List Item) (number : ℕ) (all done : List Said) → AllByRecursion (IsItemOf flow) items
    → step_count (items_of flow done) + step_count items ≤ step_limit
    → IsSoundSoFar (Told (schedule_fault flow)) all (numbered number (map (item_words flow) items)) done → BreakNoRule (Told (schedule_fault flow)) all
sound_on flow h [] number all done is few so_far =
    let last : Said = record { number = number; words = [] } in
    (none_left (Told (schedule_fault flow)) all (done ++ last ∷ []) (sound_more (Told (schedule_fault flow)) all done last [] so_far (none_told (schedule_fault flow done last) refl))).0
sound_on flow h (item ∷ items) number all done is few so_far =
    let words = item_words flow item in
    let said : Said = record { number = number; words = words } in
    let asks = (item_read flow h item is.0).asks in
    sound_on flow h items (number + 1) all (done ++ said ∷ []) is.1 (omega (arith, few, steps_more flow done number words item asks))
    (sound_more (Told (schedule_fault flow)) all done said (numbered (number + 1) (map (item_words flow) items)) so_far
    (none_told (schedule_fault flow done said) (line_sound flow (step_count (items_of flow done)) words item asks (omega (arith, few)))))

-- the text of items of the flow that ask for few steps in few bytes is read as these items
pub written_read : (flow : Dataflow) → IsNamed flow → (items : List Item) → AllByRecursion (IsItemOf flow) items → step_count items ≤ step_limit
    → length (schedule_text flow items) ≤ schedule_size_limit → IsAcceptedSchedule (schedule_text flow items) flow items
written_read flow h items is few short =
    let lines = map (item_words flow) items in
    let said = ap said_lines (text_lined flow items) ∙ said_lines-text_of lines (all_plain flow h items is) in
    record {
      sound = record {
        size = short;
        lines = subst (BreakNoRule (Told (schedule_fault flow))) (sym said) (sound_on flow h items 1 (numbered 1 lines) [] is (omega (arith, few)) (none_judged (Told (schedule_fault flow)) (numbered 1 lines)));
      };
      value = sym (ap (items_of flow) said ∙ all_asked flow h 1 items is);
    }
