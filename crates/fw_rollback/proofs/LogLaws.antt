-- What logs hold: as bags, in order.
use Rattle.std.proofs.Common.{◌≡◌, ◌≢◌, ℕ, ◌+◌, ◌<◌, Bool, true, false, not, ◌==◌, List, [], ◌∷◌, ◌++◌, filter, map, length, take, get_or, refl, sym, ap, subst, ◌∙◌, inl, inr, arith}
use Rattle.std.proofs.lemmas.Bool.{cases_Bool, cases_eq, eqb-true, eq-eqb, ne_eqb, or_cases, false≢true, or_parts}
use Rattle.std.proofs.lemmas.List.{append-nil, take_more, map-append}
use Rattle.std.proofs.lemmas.List.Elements.{filter-append}
use Rattle.std.proofs.lemmas.List.Folds.{list_any_more}
use Rattle.std.specs.List.{AllByRecursion}
use Rattle.fw_lemmas.proofs.Each.{each-at}
use Rattle.fw_lemmas.proofs.Filters.{filter-in, filter-out}
use Rattle.fw_frontier.specs.Front.{Front, inside}
use Rattle.fw_flow.specs.declared.event.Message.{Message}
use Rattle.fw_flow.specs.Dataflow.{Dataflow, receiver}
use Rattle.fw_flow.specs.KeyParts.{is_carried}
use Rattle.fw_model.specs.Carried.{carried}
use Rattle.fw_model.specs.Machine.{front_of}
use Rattle.fw_model.specs.SortedMessages.{with_message, with_messages, sorted_messages}
use Rattle.fw_model.proofs.CarriedLaws.{carried-append, carried-in, carried-out}
use Rattle.fw_model.proofs.SentLaws.{copy}
use Rattle.fw_model.proofs.SortedLaws.{same_sorted_messages, sorted_messages-filter, sorted_messages-weigh}
use Rattle.fw_model.proofs.WeightLaws.{weigh, weigh-append}
use Rattle.fw_edge.specs.Messages.{MessagesState}
use Rattle.fw_keep.specs.Catalogue.{AreAscending, is_id_among}
use Rattle.fw_record.specs.declared.logged.Logged.{Logged}
use Rattle.fw_rollback.specs.Edges.{on_edge}
use Rattle.fw_record.specs.Log.{logged_on}
use Rattle.fw_rollback.specs.Restored.{log_of}
use Rattle.fw_rollback.proofs.ListLaws.{not_among_earlier}

-- ---- messages in order

-- what is in order before others counts as a bag alone
pub sorted_messages-before : (xs ys ms : List Message) → sorted_messages xs ≡ sorted_messages ys → sorted_messages (xs ++ ms) ≡ sorted_messages (ys ++ ms)
sorted_messages-before xs ys ms e =
    same_sorted_messages (xs ++ ms) (ys ++ ms)
    (λ q.
    weigh-append (copy q) xs ms
    ∙ ap (λ n. n + weigh (copy q) ms) (sym (sorted_messages-weigh (copy q) xs) ∙ ap (weigh (copy q)) e ∙ sorted_messages-weigh (copy q) ys)
    ∙ sym (weigh-append (copy q) ys ms))

-- a message in the middle may as well stand first
pub sorted_messages-middle : (xs : List Message) (m : Message) (ys : List Message) → sorted_messages (m ∷ (xs ++ ys)) ≡ sorted_messages ((xs ++ m ∷ []) ++ ys)
unfolding weigh
sorted_messages-middle xs m ys =
    same_sorted_messages (m ∷ (xs ++ ys)) ((xs ++ m ∷ []) ++ ys)
    (λ q.
    let a = weigh-append (copy q) xs ys in
    let b = weigh-append (copy q) (xs ++ m ∷ []) ys in
    let c = weigh-append (copy q) xs (m ∷ []) in
    omega arith)

-- messages put into nothing are in order
pub with_messages-nothing : (ms : List Message) → with_messages ms [] ≡ sorted_messages ms
with_messages-nothing [] = refl
with_messages-nothing (m ∷ ms) = ap (with_message m) (with_messages-nothing ms)

-- ---- logs

abbrev state : List Message → MessagesState
state ms = record { messages = ms; refused = false }

abbrev outside_low : Dataflow → List Front → ℕ → Message → Bool
outside_low flow low e m = not (inside (front_of low (receiver flow e)) m.at)

-- messages that are one bag make one log
pub log_of-same : (flow : Dataflow) (low : List Front) (e : ℕ) (xs ys : List Message) → sorted_messages xs ≡ sorted_messages ys
    → log_of flow low e xs ≡ log_of flow low e ys
log_of-same flow low e xs ys same =
    ap state (sorted_messages-filter (outside_low flow low e) xs ∙ ap (filter (outside_low flow low e)) same ∙ sym (sorted_messages-filter (outside_low flow low e) ys))

-- a message more that comes in the middle
log_of-middle : (flow : Dataflow) (low : List Front) (e : ℕ) (xs : List Message) (m : Message) (ys : List Message)
    → log_of flow low e (m ∷ (xs ++ ys)) ≡ log_of flow low e ((xs ++ m ∷ []) ++ ys)
log_of-middle flow low e xs m ys = log_of-same flow low e (m ∷ (xs ++ ys)) ((xs ++ m ∷ []) ++ ys) (sorted_messages-middle xs m ys)

-- ---- the messages of a record

abbrev is_on : ℕ → Logged → Bool
is_on e l = l.edge == e

abbrev message_of : Logged → Message
message_of l = l.message

on_more : (e : ℕ) (rs : List Logged) (i : ℕ) (d : Logged) → i < length rs → d ≡ get_or rs i d
    → logged_on e (take (i + 1) rs) ≡ logged_on e (take i rs) ++ map message_of (filter (is_on e) (d ∷ []))
on_more e rs i d l at =
    let here : Logged → List Message = λ x. logged_on e (take i rs) ++ map message_of (filter (is_on e) (x ∷ [])) in
    ap (logged_on e) (take_more rs i d l)
    ∙ ap (map message_of) (filter-append (is_on e) (take i rs) (get_or rs i d ∷ []))
    ∙ map-append message_of (filter (is_on e) (take i rs)) (filter (is_on e) (get_or rs i d ∷ []))
    ∙ ap here (sym at)

-- one message more of a record is logged
pub recorded-more : (flow : Dataflow) (low : List Front) (rs : List Logged) (i : ℕ) (d : Logged) (m : Message) (first now next : List MessagesState)
    → i < length rs → d ≡ get_or rs i d → m ≡ d.message
    → ((e : ℕ) (ms : List Message) → on_edge first e ≡ log_of flow low e ms → on_edge now e ≡ log_of flow low e (logged_on e (take i rs) ++ ms))
    → ((ms : List Message) → on_edge now d.edge ≡ log_of flow low d.edge ms → on_edge next d.edge ≡ log_of flow low d.edge (m ∷ ms))
    → ((e : ℕ) → e ≢ d.edge → on_edge next e ≡ on_edge now e)
    → (e : ℕ) (ms : List Message) → on_edge first e ≡ log_of flow low e ms → on_edge next e ≡ log_of flow low e (logged_on e (take (i + 1) rs) ++ ms)
recorded-more flow low rs i d m first now next l at is before here others e ms h =
    let earlier = logged_on e (take i rs) in
    let more = on_more e rs i d l at in
    elim (cases_eq d.edge e) [
      | inl s ↦
          let P : ℕ → Type 0 = λ x. (ns : List Message) → on_edge now x ≡ log_of flow low x ns → on_edge next x ≡ log_of flow low x (m ∷ ns) in
          let here_e : P e = subst P s here in
          let one : map message_of (filter (is_on e) (d ∷ [])) ≡ m ∷ [] =
          ap (map message_of) (filter-in (is_on e) d [] (eq-eqb d.edge e s)) ∙ ap (λ (x : Message). x ∷ []) (sym is) in
          here_e (earlier ++ ms) (before e ms h) ∙ log_of-middle flow low e earlier m ms
          ∙ ap (λ (xs : List Message). log_of flow low e (xs ++ ms)) (sym (more ∙ ap (λ (xs : List Message). earlier ++ xs) one))
      | inr s ↦
          let none : map message_of (filter (is_on e) (d ∷ [])) ≡ [] = ap (map message_of) (filter-out (is_on e) d [] (ne_eqb d.edge e s)) in
          others e (λ z. s (sym z)) ∙ before e ms h
          ∙ ap (λ (xs : List Message). log_of flow low e (xs ++ ms)) (sym (more ∙ ap (λ (xs : List Message). earlier ++ xs) none ∙ append-nil earlier))
    ]

-- an edge on which the record has no message
pub recorded-others : (rs : List Logged) (i : ℕ) (d : Logged) (first now next : List MessagesState) → i < length rs → d ≡ get_or rs i d
    → ((e : ℕ) → AllByRecursion (λ (x : Logged). x.edge ≢ e) rs → on_edge now e ≡ on_edge first e)
    → ((e : ℕ) → e ≢ d.edge → on_edge next e ≡ on_edge now e)
    → (e : ℕ) → AllByRecursion (λ (x : Logged). x.edge ≢ e) rs → on_edge next e ≡ on_edge first e
recorded-others rs i d first now next l at before others e a =
    let apart = each-at (λ (x : Logged). x.edge ≢ e) rs i d l a in
    others e (λ z. apart (sym (ap (λ (x : Logged). x.edge) at) ∙ sym z)) ∙ before e a

-- ---- what an event sends

-- one more of what it sends is logged, if the edge carries it
pub sent-more : (flow : Dataflow) (low : List Front) (edge : ℕ) (sent : List Message) (i : ℕ) (d : Message) (first now next : List MessagesState)
    → i < length sent
    → ((ms : List Message) → on_edge first edge ≡ log_of flow low edge ms → on_edge now edge ≡ log_of flow low edge (carried flow edge (take i sent) ++ ms))
    → ((ms : List Message) → on_edge now edge ≡ log_of flow low edge ms → on_edge next edge ≡ log_of flow low edge (carried flow edge (get_or sent i d ∷ []) ++ ms))
    → (ms : List Message) → on_edge first edge ≡ log_of flow low edge ms → on_edge next edge ≡ log_of flow low edge (carried flow edge (take (i + 1) sent) ++ ms)
sent-more flow low edge sent i d first now next l before here ms h =
    let m = get_or sent i d in
    let earlier = carried flow edge (take i sent) in
    let more : carried flow edge (take (i + 1) sent) ≡ earlier ++ carried flow edge (m ∷ []) =
    ap (carried flow edge) (take_more sent i d l) ∙ carried-append flow edge (take i sent) (m ∷ []) in
    let log : List Message → MessagesState = log_of flow low edge in
    here (earlier ++ ms) (before ms h)
    ∙ elim (cases_Bool (is_carried flow edge m.rec)) [
      | inl k ↦
          let one = carried-in flow edge m k in
          ap (λ (xs : List Message). log (xs ++ (earlier ++ ms))) one ∙ log_of-middle flow low edge earlier m ms
          ∙ ap (λ (xs : List Message). log (xs ++ ms)) (sym (more ∙ ap (λ (xs : List Message). earlier ++ xs) one))
      | inr k ↦
          let none = carried-out flow edge m k in
          ap (λ (xs : List Message). log (xs ++ (earlier ++ ms))) none
          ∙ ap (λ (xs : List Message). log (xs ++ ms)) (sym (more ∙ ap (λ (xs : List Message). earlier ++ xs) none ∙ append-nil earlier))
    ]

-- an edge more of a node has what it carries of what this sends
pub edges-more : (flow : Dataflow) (low : List Front) (sent : List Message) (ds : List ℕ) (i d : ℕ) (first now next : List MessagesState)
    → i < length ds → d ≡ get_or ds i d → AreAscending ds
    → ((e : ℕ) → is_id_among e (take i ds) ≡ true → (ms : List Message) → on_edge first e ≡ log_of flow low e ms → on_edge now e ≡ log_of flow low e (carried flow e sent ++ ms))
    → ((e : ℕ) → is_id_among e (take i ds) ≡ false → on_edge now e ≡ on_edge first e)
    → ((ms : List Message) → on_edge now d ≡ log_of flow low d ms → on_edge next d ≡ log_of flow low d (carried flow d sent ++ ms))
    → ((e : ℕ) → e ≢ d → on_edge next e ≡ on_edge now e)
    → (e : ℕ) → is_id_among e (take (i + 1) ds) ≡ true → (ms : List Message) → on_edge first e ≡ log_of flow low e ms → on_edge next e ≡ log_of flow low e (carried flow e sent ++ ms)
edges-more flow low sent ds i d first now next l at rises before left here others e among ms h =
    elim (cases_eq d e) [
      | inl s ↦
          let P : ℕ → Type 0 = λ x. (ns : List Message) → on_edge now x ≡ log_of flow low x ns → on_edge next x ≡ log_of flow low x (carried flow x sent ++ ns) in
          let here_e : P e = subst P s here in
          let new : is_id_among e (take i ds) ≡ false = ap (λ x. is_id_among x (take i ds)) (sym s ∙ at) ∙ not_among_earlier ds i d l rises in
          here_e ms (left e new ∙ h)
      | inr s ↦ others e (λ z. s (sym z)) ∙ before e (earlier s) ms h
    ]
  where
    earlier : d ≢ e → is_id_among e (take i ds) ≡ true
    earlier s = elim (or_cases (is_id_among e (take i ds)) (get_or ds i d == e) (sym (list_any_more (λ (x : ℕ). x == e) ds i d l) ∙ among)) [
      | inl a ↦ a
      | inr b ↦ absurd (s (at ∙ eqb-true (get_or ds i d) e b))
    ]

-- the edges that are left stay
pub edges-others : (ds : List ℕ) (i d : ℕ) (first now next : List MessagesState) → i < length ds → d ≡ get_or ds i d
    → ((e : ℕ) → is_id_among e (take i ds) ≡ false → on_edge now e ≡ on_edge first e)
    → ((e : ℕ) → e ≢ d → on_edge next e ≡ on_edge now e)
    → (e : ℕ) → is_id_among e (take (i + 1) ds) ≡ false → on_edge next e ≡ on_edge first e
edges-others ds i d first now next l at left others e none =
    let neither = or_parts (is_id_among e (take i ds)) (get_or ds i d == e) (sym (list_any_more (λ (x : ℕ). x == e) ds i d l) ∙ none) in
    others e (λ z. absurd (false≢true (sym neither.1 ∙ eq-eqb (get_or ds i d) e (sym at ∙ sym z)))) ∙ left e neither.0
