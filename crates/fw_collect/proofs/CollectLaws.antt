-- What is planned and given up is what the machine's collection takes.
use Rattle.std.proofs.Common.{◌≡◌, ℕ, zero, suc, ◌+◌, ◌<◌, ◌≤◌, nat_lt, Bool, true, false, not, ◌&&◌, ◌||◌, ◌==◌, cond, List, [], ◌∷◌, ◌++◌, length, map, refl, sym, ap, ◌∙◌, subst, inl, inr, arith}
use Rattle.std.proofs.lemmas.Bool.{cases_Bool, cond_both, ne_eqb, cases_lt, cases_eq, and_from, eq-eqb, eqb-true, and_parts, or_cases, or_right, or_left, true≢false, false_from_ne_true, not_from_true, not_from_false, not-true}
use Rattle.std.proofs.lemmas.List.{get_or_past}
use Rattle.std.proofs.lemmas.List.Folds.{list_any-append}
use Rattle.std.specs.List.{filter, list_any, range_with_len, AllByRecursion, AllZip}
use Rattle.std.proofs.Math.Bool.{or-false, and-false}
use Rattle.fw_lemmas.proofs.Bools.{same_tests}
use Rattle.fw_lemmas.proofs.Each.{each-weaker, each-kept}
use Rattle.fw_lemmas.proofs.Filters.{filter-in, filter-out, filter-inner, filter-same_on}
use Rattle.fw_time.specs.Stamp.{Stamp, same, in_domain}
use Rattle.fw_time.specs.declared.stamp.Bounds.{Bounds}
use Rattle.fw_frontier.specs.Frontier.{Within}
use Rattle.fw_bag.specs.declared.rec.Rec.{Rec}
use Rattle.fw_time.proofs.StampLaws.{same-is, same-refl}
use Rattle.fw_frontier.specs.Front.{Front, inside, frontier_of}
use Rattle.fw_flow.specs.declared.node.Node.{Node}
use Rattle.fw_flow.specs.Dataflow.{System, Dataflow, policy_of, kind_of, sender, receiver, bounds_of, is_input_kind, node_ids, idle_node}
use Rattle.fw_flow.specs.Restoring.{can_resend}
use Rattle.fw_flow.specs.declared.choice.OfEdge.{OfEdge}
use Rattle.fw_flow.specs.declared.event.Message.{Message}
use Rattle.fw_model.specs.Auto.{edge_ids}
use Rattle.fw_model.specs.Filtering.{messages_outside}
use Rattle.fw_model.specs.Machine.{SerialEvent, Write, Stage, in_flight, acknowledged, collected, front_of}
use Rattle.fw_model.specs.Steps.{is_in_flight, after_collection, is_given_up, collected_writes, is_forgotten}
use Rattle.fw_model.specs.Writes.{takes_checkpoints, is_collected, not_collected}
use Rattle.fw_model.proofs.SortedLaws.{sorted_messages-filter}
use Rattle.fw_model.specs.SortedMessages.{sorted_messages}
use Rattle.fw_edge.specs.Messages.{MessagesState}
use Rattle.fw_border.specs.Sources.{SourceState, given_up}
use Rattle.fw_keep.specs.declared.entry.Entry.{Entry}
use Rattle.fw_keep.specs.declared.entry.Written as entry
use Rattle.fw_keep.specs.declared.entry.Written.TheVariants as written
use Rattle.fw_record.specs.Event.{stamp_of_event}
use Rattle.fw_keep.specs.Catalogue.{KeepState, AreDistinct, is_id_among}
use Rattle.fw_keep.specs.Entry.{is_checkpoint_below, is_event_at, is_at}
use Rattle.fw_keep.specs.Newest.{is_forgotten_below, stay_from}
use Rattle.fw_collect.specs.declared.drops.AtNode.{AtNode}
use Rattle.fw_collect.specs.declared.drops.OfNode.{OfNode}
use Rattle.fw_collect.specs.declared.drops.Drops.{Drops}
use Rattle.fw_collect.specs.Drops.{IsPlanned, of_node, without_batches, dropped_records, dropped_events, dropped_messages, dropped_batches, given_up_event}
use Rattle.fw_collect.specs.Dropped.{is_dropped, is_below_some, is_at_some, is_inside_edge, is_inside_node, log_outside, log_left, source_left}
use Rattle.fw_collect.specs.LawsOfCollections.{AreOfDifferentNodes, is_written_given_up, is_entry_given_up, DropsWhatIsGivenUp, DropsMessagesBelowReceivers, DropsBatchesOfInputs, GoesWith, LogsHoldWhatIsOutside, InputsHoldWhatIsOutside}
use Rattle.fw_collect.proofs.ApplyLaws.{forgets_below_each, filter_then, filter_nothing, cond_ap}

-- ---- one place of those that pass a test

any-map : {X Y : Type 0} (test : Y → Bool) (f : X → Y) (xs : List X) → list_any test (map f xs) ≡ list_any (λ x. test (f x)) xs
any-map test f [] = refl
any-map test f (x ∷ xs) = ap (λ b. test (f x) || b) (any-map test f xs)

absorbed : (a b : Bool) → (a || (b && a)) ≡ a
absorbed true b = refl
absorbed false true = refl
absorbed false false = refl

any-kept : {X : Type 0} (test look : X → Bool) (x : X) (xs : List X)
    → list_any look (filter test (x ∷ xs)) ≡ ((test x && look x) || list_any look (filter test xs))
any-kept test look x xs =
    elim (test x) as (λ b. list_any look (cond b (x ∷ filter test xs) (filter test xs)) ≡ ((b && look x) || list_any look (filter test xs))) [
      | true ↦ refl
      | false ↦ refl
    ]

picked : (b x f there y g : Bool) → (b ≡ true → (x ≡ y) × (f ≡ g)) → ((x && (b && f)) || (there && (y && g))) ≡ ((b || there) && (y && g))
picked true x f there y g h =
    ap (λ a. (a && f) || (there && (y && g))) (h refl).0 ∙ ap (λ a. (y && a) || (there && (y && g))) (h refl).1 ∙ absorbed (y && g) there
picked false x f there y g h = ap (λ a. a || (there && (y && g))) (and-false x)

-- whether place q among those that pass is found
any-picked : (test found : ℕ → Bool) (q : ℕ) (ps : List ℕ)
    → list_any (λ p. (q == p) && found p) (filter test ps) ≡ (list_any (λ p. q == p) ps && (test q && found q))
any-picked test found q [] = refl
any-picked test found q (p ∷ ps) =
    any-kept test (λ k. (q == k) && found k) p ps
    ∙ ap (λ r. (test p && ((q == p) && found p)) || r) (any-picked test found q ps)
    ∙ picked (q == p) (test p) (found p) (list_any (λ k. q == k) ps) (test q) (found q)
    (λ e. (sym (ap test (eqb-true q p e)), sym (ap found (eqb-true q p e))))

-- each place below a number is among them
is-among : (q a n : ℕ) → a ≤ q → q < a + n → list_any (λ p. q == p) (range_with_len a n) ≡ true
is-among q a zero l h = absurd (omega arith)
is-among q a (suc n) l h = elim (cases_eq q a) [
  | inl e ↦ or_left (q == a) (list_any (λ p. q == p) (range_with_len (a + 1) n)) (eq-eqb q a e)
  | inr e ↦ or_right (q == a) (list_any (λ p. q == p) (range_with_len (a + 1) n)) (is-among q (a + 1) n (omega (arith, e)) (omega arith))
]

-- the same of all places below a number
any-of_place : (test found : ℕ → Bool) (q n : ℕ) → (n ≤ q → test q ≡ false)
    → list_any (λ p. (q == p) && found p) (filter test (range_with_len 0 n)) ≡ (test q && found q)
any-of_place test found q n past =
    let there : Bool = list_any (λ p. q == p) (range_with_len 0 n) in
    any-picked test found q (range_with_len 0 n) ∙ elim (cases_lt q n) [
      | inl l ↦ ap (λ b. b && (test q && found q)) (is-among q 0 n (omega arith) (omega arith))
      | inr l ↦ ap (λ b. there && (b && found q)) (past l) ∙ and-false there ∙ sym (ap (λ b. b && found q) (past l))
    ]

policy-past : (flow : Dataflow) (p : ℕ) → length flow.nodes ≤ p → takes_checkpoints (policy_of flow p) ≡ false
unfolding policy_of
policy-past flow p l = ap (λ (n : Node). takes_checkpoints n.policy) (get_or_past flow.nodes p idle_node l)

-- ---- the nodes of a plan

ascend-from : (a n : ℕ) → AllByRecursion (λ p. a ≤ p) (range_with_len a n)
ascend-from a zero = tt
ascend-from a (suc n) = (omega arith, each-weaker _ _ (range_with_len (a + 1) n) (λ p l. omega arith) (ascend-from (a + 1) n))

none-of : (p : ℕ) (ps : List ℕ) → AllByRecursion (λ q. p < q) ps → is_id_among p ps ≡ false
none-of p [] above = refl
none-of p (q ∷ qs) above = ap (λ b. b || is_id_among p qs) (ne_eqb q p (λ e. omega (arith, above.0, e))) ∙ none-of p qs above.1

picked-once : (test : ℕ → Bool) (a n : ℕ) → AreDistinct (filter test (range_with_len a n))
picked-once test a zero = tt
picked-once test a (suc n) =
    let rest = picked-once test (a + 1) n in
    cond_both (test a) (a ∷ filter test (range_with_len (a + 1) n)) (filter test (range_with_len (a + 1) n)) AreDistinct
    (λ k. (none-of a (filter test (range_with_len (a + 1) n)) (each-kept (λ p. a < p) test (range_with_len (a + 1) n) (each-weaker _ _ (range_with_len (a + 1) n) (λ p l. omega arith) (ascend-from (a + 1) n))), rest))
    (λ k. rest)

map-of_node : (low : List Front) (ps : List ℕ) → map (λ (d : OfNode). d.node) (map (of_node low) ps) ≡ ps
map-of_node low [] = refl
map-of_node low (p ∷ ps) = ap (λ qs. p ∷ qs) (map-of_node low ps)

-- a plan has each node once
planned-once : (flow : Dataflow) (low : List Front) → AreOfDifferentNodes (dropped_records flow low)
planned-once flow low =
    let test : ℕ → Bool = λ p. takes_checkpoints (policy_of flow p) in
    subst AreDistinct (sym (map-of_node low (filter test (node_ids flow)))) (picked-once test 0 (length flow.nodes))

-- ---- entries

any-alike : {X : Type 0} (test look : X → Bool) → ((x : X) → test x ≡ look x) → (xs : List X) → list_any test xs ≡ list_any look xs
any-alike test look same [] = refl
any-alike test look same (x ∷ xs) = ap (λ b. b || list_any test xs) (same x) ∙ ap (λ b. look x || b) (any-alike test look same xs)

and-assoc : (a b c : Bool) → ((a && b) && c) ≡ (a && (b && c))
and-assoc true b c = refl
and-assoc false b c = refl

-- which entries of a catalogue the fronts of nodes take out
below-planned : (flow : Dataflow) (low : List Front) (keep : KeepState) (e : Entry)
    → is_below_some (dropped_records flow low) keep e ≡ (takes_checkpoints (policy_of flow e.node) && is_forgotten_below e.node (front_of low e.node) keep e)
below-planned flow low keep e =
    let test : ℕ → Bool = λ p. takes_checkpoints (policy_of flow p) in
    let before : ℕ → Bool = λ p. nat_lt e.id (stay_from p (front_of low p) 0 keep.next keep.entries) in
    let below : ℕ → Bool = λ p. is_checkpoint_below (front_of low p) e.written in
    forgets_below_each (dropped_records flow low) keep e (planned-once flow low)
    ∙ any-map (λ (d : OfNode). is_forgotten_below d.node d.front keep e) (of_node low) (filter test (node_ids flow))
    ∙ any-alike (λ p. is_forgotten_below p (front_of low p) keep e) (λ p. (e.node == p) && (below p && before p)) (λ p. and-assoc (e.node == p) (below p) (before p)) (filter test (node_ids flow))
    ∙ any-of_place test (λ p. below p && before p) e.node (length flow.nodes) (policy-past flow e.node)
    ∙ ap (λ b. test e.node && ((b && below e.node) && before e.node)) (sym (eq-eqb e.node e.node refl))

-- whether what is written of node p is an event that is given up
is-event_given_up : Dataflow → List Front → ℕ → entry.Written → Bool
is-event_given_up flow low p (written.Checkpoint recorded stamps sent) = false
is-event_given_up flow low p (written.Event event) = is_given_up (without_batches flow) low p (stamp_of_event event)

at-sound : (flow : Dataflow) (low : List Front) (p q : ℕ) (t : Stamp) (w : entry.Written) → is_given_up (without_batches flow) low p t ≡ true
    → q ≡ p → is_event_at t w ≡ true → is-event_given_up flow low q w ≡ true
unfolding is-event_given_up
at-sound flow low p q t (written.Checkpoint recorded stamps sent) g e h = absurd (true≢false (sym h))
at-sound flow low p q t (written.Event event) g e h =
    ap (λ k. is_given_up (without_batches flow) low k (stamp_of_event event)) e ∙ ap (is_given_up (without_batches flow) low p) (same-is (stamp_of_event event) t h) ∙ g

-- what an entry's own drop takes out is given up
drop-sound : (flow : Dataflow) (low : List Front) (p : ℕ) (w : entry.Written) (e : Entry) → is_at_some (given_up_event flow low p w) e ≡ true
    → is-event_given_up flow low e.node e.written ≡ true
drop-sound flow low p (written.Checkpoint recorded stamps sent) e h = absurd (true≢false (sym h))
drop-sound flow low p (written.Event event) e h =
    let t : Stamp = stamp_of_event event in
    let test : Bool = is_given_up (without_batches flow) low p t in
    let found : Bool → Bool = λ b. is_at_some (cond b (record { node = p; at = t } ∷ []) []) e in
    elim (cases_Bool test) [
      | inl g ↦
          let is : is_at p t e ≡ true = sym (or-false (is_at p t e)) ∙ sym (ap found g) ∙ h in
          let parts = and_parts (e.node == p) (is_event_at t e.written) is in
          at-sound flow low p e.node t e.written g (eqb-true e.node p parts.0) parts.1
      | inr g ↦ absurd (true≢false (sym h ∙ ap found g))
    ]

-- an event that is given up is taken out by its own drop
drop-complete : (flow : Dataflow) (low : List Front) (p : ℕ) (w : entry.Written) → is-event_given_up flow low p w ≡ true
    → list_any (λ (d : AtNode). (p == d.node) && is_event_at d.at w) (given_up_event flow low p w) ≡ true
unfolding is-event_given_up
drop-complete flow low p (written.Checkpoint recorded stamps sent) h = absurd (true≢false (sym h))
drop-complete flow low p (written.Event event) h =
    let t : Stamp = stamp_of_event event in
    let look : AtNode → Bool = λ (d : AtNode). (p == d.node) && same t d.at in
    ap (λ b. list_any look (cond b (record { node = p; at = t } ∷ []) [])) h
    ∙ or_left ((p == p) && same t t) false (and_from (p == p) (same t t) (eq-eqb p p refl) (same-refl t))

events-sound : (flow : Dataflow) (low : List Front) (es : List Entry) (e : Entry) → is_at_some (dropped_events flow low es) e ≡ true
    → is-event_given_up flow low e.node e.written ≡ true
events-sound flow low [] e h = absurd (true≢false (sym h))
events-sound flow low (x ∷ es) e h =
    let here = given_up_event flow low x.node x.written in
    let later = dropped_events flow low es in
    elim (or_cases (is_at_some here e) (is_at_some later e) (sym (list_any-append (λ (d : AtNode). is_at d.node d.at e) here later) ∙ h)) [
      | inl k ↦ drop-sound flow low x.node x.written e k
      | inr k ↦ events-sound flow low es e k
    ]

events-complete : (flow : Dataflow) (low : List Front) (es : List Entry)
    → AllByRecursion (λ (e : Entry). is-event_given_up flow low e.node e.written ≡ true → is_at_some (dropped_events flow low es) e ≡ true) es
events-complete flow low [] = tt
events-complete flow low (x ∷ es) =
    let here = given_up_event flow low x.node x.written in
    let later = dropped_events flow low es in
    let look : Entry → AtNode → Bool = λ e d. is_at d.node d.at e in (
      λ h. list_any-append (look x) here later ∙ or_left (is_at_some here x) (is_at_some later x) (drop-complete flow low x.node x.written h),
      each-weaker (λ (e : Entry). is-event_given_up flow low e.node e.written ≡ true → is_at_some later e ≡ true)
          (λ (e : Entry). is-event_given_up flow low e.node e.written ≡ true → is_at_some (here ++ later) e ≡ true) es
          (λ e k h. list_any-append (look e) here later ∙ or_right (is_at_some here e) (is_at_some later e) (k h)) (events-complete flow low es),
    )

both-are : (flow : Dataflow) (low : List Front) (keep : KeepState) (e : Entry) (w : entry.Written) → e.written ≡ w
    → ((takes_checkpoints (policy_of flow e.node) && is_forgotten_below e.node (front_of low e.node) keep e) || is-event_given_up flow low e.node w)
    ≡ is_written_given_up flow low keep e w
unfolding is-event_given_up
both-are flow low keep e (written.Checkpoint recorded stamps sent) is = or-false (takes_checkpoints (policy_of flow e.node) && is_forgotten_below e.node (front_of low e.node) keep e)
both-are flow low keep e (written.Event event) is =
    let f = front_of low e.node in
    let takes = takes_checkpoints (policy_of flow e.node) in
    let before = nat_lt e.id (stay_from e.node f 0 keep.next keep.entries) in
    let goes = is_given_up (without_batches flow) low e.node (stamp_of_event event) in
    ap (λ v. (takes && (((e.node == e.node) && is_checkpoint_below f v) && before)) || goes) is
    ∙ ap (λ b. (takes && (b && before)) || goes) (and-false (e.node == e.node))
    ∙ ap (λ b. b || goes) (and-false takes)

pub drops_what_is_given_up : DropsWhatIsGivenUp
drops_what_is_given_up flow low keep drops is =
    let events = dropped_events flow low keep.entries in
    each-weaker (λ (e : Entry). is-event_given_up flow low e.node e.written ≡ true → is_at_some events e ≡ true)
    (λ (e : Entry). is_dropped drops keep e ≡ is_entry_given_up flow low keep e) keep.entries
    (λ e complete.
    ap (λ ds. is_below_some ds keep e || is_at_some drops.events.items e) is.records
    ∙ ap (λ ds. is_below_some (dropped_records flow low) keep e || is_at_some ds e) is.events
    ∙ ap (λ b. b || is_at_some events e) (below-planned flow low keep e)
    ∙ ap (λ b. (takes_checkpoints (policy_of flow e.node) && is_forgotten_below e.node (front_of low e.node) keep e) || b)
    (same_tests (is_at_some events e) (is-event_given_up flow low e.node e.written) (events-sound flow low keep.entries e) complete)
    ∙ both-are flow low keep e e.written refl)
    (events-complete flow low keep.entries)

-- ---- messages and batches

filter-alike : {X : Type 0} (p q : X → Bool) → ((x : X) → q x ≡ p x) → (xs : List X) → filter (λ x. not (p x)) xs ≡ filter (λ x. not (q x)) xs
filter-alike p q e xs = ap (filter (λ x. not (p x))) (sym (filter_nothing xs)) ∙ filter_then (λ x. false) p q e xs

-- a filter that takes something out only where it is wanted
left-where : {X : Type 0} (b : Bool) (p q : X → Bool) → ((x : X) → p x ≡ (b && q x)) → (xs : List X)
    → filter (λ x. not (p x)) xs ≡ cond b (filter (λ x. not (q x)) xs) xs
left-where true p q e xs = sym (filter-alike q p e xs)
left-where false p q e xs = sym (filter-alike (λ x. false) p e xs) ∙ filter_nothing xs

pub drops_messages_below_receivers : DropsMessagesBelowReceivers
drops_messages_below_receivers flow low entries drops is e log l =
    let test : ℕ → Bool = λ k. can_resend (policy_of flow (sender flow k)) in
    let of_edge : ℕ → OfEdge = λ k. record { edge = k; front = front_of low (receiver flow k) } in
    let at : Stamp → Bool = inside (front_of low (receiver flow e)) in
    ap (λ ds. log_left ds e log) is.messages
    ∙ ap (λ ms. record log { messages = ms }) (left-where (test e) (λ (m : Message). is_inside_edge (dropped_messages flow low) e m.at) (λ (m : Message). at m.at)
    (λ m. any-map (λ (d : OfEdge). (e == d.edge) && inside d.front m.at) of_edge (filter test (edge_ids flow))
    ∙ any-of_place test (λ k. inside (front_of low (receiver flow k)) m.at) e (length flow.edges) (λ o. absurd (omega (arith, o, l)))) log.messages)
    ∙ sym (cond_ap (λ ms. record log { messages = ms }) (test e) (messages_outside at log.messages) log.messages)

pub drops_batches_of_inputs : DropsBatchesOfInputs
drops_batches_of_inputs flow low entries drops is s source l =
    let test : ℕ → Bool = λ p. is_input_kind (kind_of flow p) in
    let at : ℕ × List Rec → Bool = λ batch. inside (front_of low s) (batch.0 ∷ []) in
    ap (λ ds. source_left ds s source) is.batches
    ∙ ap (λ held. record source { held = held }) (left-where (test s) (λ (batch : ℕ × List Rec). is_inside_node (dropped_batches flow low) s (batch.0 ∷ [])) at
    (λ batch. any-map (λ (d : OfNode). (s == d.node) && inside d.front (batch.0 ∷ [])) (of_node low) (filter test (node_ids flow))
    ∙ any-of_place test (λ p. inside (front_of low p) (batch.0 ∷ [])) s (length flow.nodes) (λ o. absurd (omega (arith, o, l)))) source.held)
    ∙ sym (cond_ap (λ held. record source { held = held }) (test s) (filter (λ batch. not (at batch)) source.held) source.held)

-- ---- lists side by side

pub zip-one : {A B : Type 0} (R : A → B → Type 0) (x y : Bool) (a : A) (b : B) (xs : List A) (ys : List B) → x ≡ y → R a b → AllZip R xs ys
    → AllZip R (cond x (a ∷ xs) xs) (cond y (b ∷ ys) ys)
zip-one R true true a b xs ys e r rest = (r, rest)
zip-one R true false a b xs ys e r rest = absurd (true≢false e)
zip-one R false true a b xs ys e r rest = absurd (true≢false (sym e))
zip-one R false false a b xs ys e r rest = rest

zip-filter : {A B : Type 0} (R : A → B → Type 0) (f : A → Bool) (g : B → Bool) (xs : List A) (ys : List B)
    → AllByRecursion (λ a. (b : B) → R a b → f a ≡ g b) xs → AllZip R xs ys → AllZip R (filter f xs) (filter g ys)
zip-filter R f g [] [] same r = tt
zip-filter R f g [] (b ∷ ys) same r = absurd r
zip-filter R f g (a ∷ xs) [] same r = absurd r
zip-filter R f g (a ∷ xs) (b ∷ ys) same r =
    zip-one R (f a) (g b) a b (filter f xs) (filter g ys) (same.0 b r.0) r.0 (zip-filter R f g xs ys same.1 r.1)

-- ---- writes

-- the writes after a collection that takes those that pass
after : (Write → Bool) → List Write → List Write
after below writes = map (λ (w : Write). record w { stage = after_collection (below w) w.stage }) writes

-- one more write, which is taken
left-gone : (below : Write → Bool) (next w : Write) (rest ws : List Write) → not_collected next ≡ false
    → filter (λ v. not (below v)) (filter not_collected (w ∷ ws)) ≡ filter (λ v. not (below v)) (filter not_collected ws)
    → filter not_collected rest ≡ filter (λ v. not (below v)) (filter not_collected ws)
    → filter not_collected (next ∷ rest) ≡ filter (λ v. not (below v)) (filter not_collected (w ∷ ws))
left-gone below next w rest ws k other so_far = filter-out not_collected next rest k ∙ so_far ∙ sym other

-- one more write, which is left as it is
left-stays : (below : Write → Bool) (next w : Write) (rest ws : List Write) → next ≡ w → not_collected w ≡ true → below w ≡ false
    → filter not_collected rest ≡ filter (λ v. not (below v)) (filter not_collected ws)
    → filter not_collected (next ∷ rest) ≡ filter (λ v. not (below v)) (filter not_collected (w ∷ ws))
left-stays below next w rest ws same k b so_far =
    ap (λ v. filter not_collected (v ∷ rest)) same ∙ filter-in not_collected w rest k ∙ ap (λ vs. w ∷ vs) so_far
    ∙ sym (ap (filter (λ v. not (below v))) (filter-in not_collected w ws k)
    ∙ filter-in (λ v. not (below v)) w (filter not_collected ws) (not_from_false (below w) b))

left-one : (below : Write → Bool) (w : Write) (rest ws : List Write) (stage : Stage) → w.stage ≡ stage → (below w ≡ true → is_in_flight w.stage ≡ false)
    → filter not_collected rest ≡ filter (λ v. not (below v)) (filter not_collected ws)
    → filter not_collected (record w { stage = after_collection (below w) w.stage } ∷ rest) ≡ filter (λ v. not (below v)) (filter not_collected (w ∷ ws))
left-one below w rest ws in_flight e none so_far =
    left-stays below (record w { stage = after_collection (below w) w.stage }) w rest ws
    (ap (λ s. record w { stage = s }) (ap (after_collection (below w)) e ∙ sym e)) (ap (λ s. not (is_collected s)) e)
    (false_from_ne_true (below w) (λ b. true≢false (sym (ap is_in_flight e) ∙ none b))) so_far
left-one below w rest ws acknowledged e none so_far =
    let next : Write = record w { stage = after_collection (below w) w.stage } in
    let there : not_collected w ≡ true = ap (λ s. not (is_collected s)) e in
    elim (cases_Bool (below w)) [
      | inl b ↦ left-gone below next w rest ws
          (ap (λ s. not (is_collected (after_collection (below w) s))) e ∙ ap (λ x. not (is_collected (after_collection x acknowledged))) b)
          (ap (filter (λ v. not (below v))) (filter-in not_collected w ws there)
          ∙ filter-out (λ v. not (below v)) w (filter not_collected ws) (not_from_true (below w) b)) so_far
      | inr b ↦ left-stays below next w rest ws
          (ap (λ s. record w { stage = s }) (ap (after_collection (below w)) e ∙ ap (λ x. after_collection x acknowledged) b ∙ sym e)) there b so_far
    ]
left-one below w rest ws collected e none so_far =
    left-gone below (record w { stage = after_collection (below w) w.stage }) w rest ws (ap (λ s. not (is_collected (after_collection (below w) s))) e)
    (ap (filter (λ v. not (below v))) (filter-out not_collected w ws (ap (λ s. not (is_collected s)) e))) so_far

-- those that are left, where none in flight passes
left-after : (below : Write → Bool) (writes : List Write) → AllByRecursion (λ (w : Write). below w ≡ true → is_in_flight w.stage ≡ false) writes
    → filter not_collected (after below writes) ≡ filter (λ w. not (below w)) (filter not_collected writes)
unfolding after
left-after below [] none = refl
left-after below (w ∷ ws) none = left-one below w (after below ws) ws w.stage refl none.0 (left-after below ws none.1)

-- what is left of entries that stand for the writes in any way, if those go alike
pub left_side_by_side : (R : Entry → Write → Type 0) (goes : Entry → Bool) (below : Write → Bool) (entries : List Entry) (writes : List Write)
    → AllByRecursion (λ (e : Entry). (w : Write) → R e w → goes e ≡ below w) entries
    → AllByRecursion (λ (w : Write). below w ≡ true → is_in_flight w.stage ≡ false) writes
    → AllZip R entries (filter not_collected writes)
    → AllZip R (filter (λ e. not (goes e)) entries) (filter not_collected (map (λ (w : Write). record w { stage = after_collection (below w) w.stage }) writes))
unfolding after
left_side_by_side R goes below entries writes same none r =
    subst (λ ws. AllZip R (filter (λ e. not (goes e)) entries) ws) (sym (left-after below writes none))
    (zip-filter R (λ e. not (goes e)) (λ w. not (below w)) entries (filter not_collected writes)
    (each-weaker (λ (e : Entry). (w : Write) → R e w → goes e ≡ below w) (λ (e : Entry). (w : Write) → R e w → not (goes e) ≡ not (below w)) entries
    (λ e k w x. ap not (k w x)) same) r)

-- however entries stand for the writes that are not collected, if each goes with its write, those that are left stand so for the
-- writes that the machine's collection leaves, where no write in flight lies below the fronts, as none does in a collection
pub drops_what_is_collected : (Stands : Entry → Write → Type 0) (sys : System) (h : List SerialEvent) (low : List Front)
    → (writes : List Write) (keep : KeepState) → ((e : Entry) (write : Write) → Stands e write → GoesWith sys h low writes keep e write)
    → (drops : Drops) → IsPlanned sys.flow low keep.entries drops
    → AllZip Stands keep.entries (filter not_collected writes)
    → AllByRecursion (λ (write : Write). is_forgotten sys low h writes write ≡ true → is_in_flight write.stage ≡ false) writes
    → AllZip Stands (filter (λ e. not (is_dropped drops keep e)) keep.entries) (filter not_collected (collected_writes sys low h writes))
drops_what_is_collected Stands sys h low writes keep goes drops is stand none =
    left_side_by_side Stands (is_dropped drops keep) (is_forgotten sys low h writes) keep.entries writes
    (each-weaker (λ (e : Entry). is_dropped drops keep e ≡ is_entry_given_up sys.flow low keep e)
    (λ (e : Entry). (w : Write) → Stands e w → is_dropped drops keep e ≡ is_forgotten sys low h writes w) keep.entries
    (λ e k w x. k ∙ goes e w x) (drops_what_is_given_up sys.flow low keep drops is))
    none stand

-- ---- what logs and inputs hold

-- what lies outside a frontier, and then outside a front that holds it, lies outside the front
outside-again : {X : Type 0} (at : X → Stamp) (bounds : Bounds) (f g : Front) (xs : List X) → Within (frontier_of bounds f) (frontier_of bounds g)
    → AllByRecursion (λ x. in_domain bounds (at x) ≡ true) xs
    → filter (λ x. not (inside g (at x))) (filter (λ x. not (frontier_of bounds f (at x))) xs) ≡ filter (λ x. not (frontier_of bounds g (at x))) xs
outside-again {X = X} at bounds f g xs within domain =
    let j : X → Bool = λ x. not (inside g (at x)) in
    let k : X → Bool = λ x. not (frontier_of bounds f (at x)) in
    let holds : (x : X) → in_domain bounds (at x) ≡ true → frontier_of bounds g (at x) ≡ inside g (at x) = λ x d. ap (λ b. b && inside g (at x)) d in
    filter-inner j k xs (each-weaker (λ x. in_domain bounds (at x) ≡ true) (λ x. j x ≡ true → k x ≡ true) xs
    (λ x d o. not_from_false (frontier_of bounds f (at x))
    (false_from_ne_true (frontier_of bounds f (at x)) (λ i. true≢false (sym (within (at x) i) ∙ holds x d ∙ not-true (inside g (at x)) o)))) domain)
    ∙ filter-same_on j (λ x. not (frontier_of bounds g (at x))) xs
    (each-weaker (λ x. in_domain bounds (at x) ≡ true) (λ x. j x ≡ not (frontier_of bounds g (at x))) xs (λ x d. sym (ap not (holds x d))) domain)

pub logs_hold_what_is_outside : LogsHoldWhatIsOutside
logs_hold_what_is_outside flow low next entries drops is rises e log sent l there resends domain held =
    let r : ℕ = receiver flow e in
    let bounds : Bounds = bounds_of flow r in
    let more : Message → Bool = λ m. not (inside (front_of next r) m.at) in
    let once : Message → Bool = λ m. not (frontier_of bounds (front_of low r) m.at) in
    ap (λ (x : MessagesState). x.messages) (drops_messages_below_receivers flow next entries drops is e log l
    ∙ ap (λ b. cond b (log_outside (front_of next r) log) log) resends)
    ∙ ap (filter more) held ∙ sym (sorted_messages-filter more (filter once sent))
    ∙ ap sorted_messages (outside-again (λ (m : Message). m.at) bounds (front_of low r) (front_of next r) sent (rises r there) domain)

pub inputs_hold_what_is_outside : InputsHoldWhatIsOutside
inputs_hold_what_is_outside flow low next entries drops is rises s source batches l input domain held =
    let more : ℕ × List Rec → Bool = λ batch. not (inside (front_of next s) (batch.0 ∷ [])) in
    ap (λ (x : SourceState). x.held) (drops_batches_of_inputs flow next entries drops is s source l
    ∙ ap (λ b. cond b (given_up (front_of next s) source) source) input)
    ∙ ap (filter more) held
    ∙ outside-again (λ (batch : ℕ × List Rec). batch.0 ∷ []) (bounds_of flow s) (front_of low s) (front_of next s) batches (rises s l) domain
