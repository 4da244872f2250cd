-- What is logged of a node, edge by edge, whatever the order: it is what the record of a checkpoint has to hold.
use Rattle.std.proofs.Common.{◌≡◌, ℕ, suc, zero, ◌+◌, ◌<◌, ◌^◌, ◌==◌, Bool, true, false, cond, not, List, [], ◌∷◌, length, map, filter, get_or, Option, Some, None, refl, sym, ap, subst, ◌∙◌, inl, inr, arith}
use Rattle.std.specs.List.{AllByRecursion, Contains, fold}
use Rattle.std.specs.List.Sorted.{IsPermutation}
use Rattle.std.proofs.lemmas.Bool.{cases_Bool, cond_both, cond-false, cond-true, eq-eqb, eqb-true, ne_eqb}
use Rattle.std.proofs.lemmas.List.Sorted.{sum_by-IsPermutation, Contains-permutation, IsPermutation-sym}
use Rattle.fw_lemmas.proofs.Each.{each-weaker, each-both, each-one, each-append, each-map, each-kept, each-there}
use Rattle.fw_lemmas.proofs.Filters.{filter-all, filter-swap, filter-same_on}
use Rattle.fw_time.specs.Stamp.{Stamp, in_domain}
use Rattle.fw_frontier.specs.Frontier.{Frontier}
use Rattle.fw_frontier.specs.Front.{Front, inside}
use Rattle.fw_flow.specs.NodeFunction.{sent_by}
use Rattle.fw_flow.specs.declared.choice.Cut.TheVariants.{At}
use Rattle.fw_flow.specs.declared.event.Message.{Message}
use Rattle.fw_flow.specs.declared.node.Edge.{Edge}
use Rattle.fw_flow.specs.Dataflow.{System, Dataflow, policy_of, sender, receiver, edges_from, out_edges, bounds_of, node_frontier}
use Rattle.fw_flow.specs.Projection.{events_at, all_inside}
use Rattle.fw_flow.specs.Restoring.{can_resend}
use Rattle.fw_flow.specs.WellFormed.{IsWellFormed, IsWellFormedSystem}
use Rattle.fw_flow.proofs.OutEdgeLaws.{out_edges-from}
use Rattle.fw_model.specs.Filtering.{messages_from, messages_outside}
use Rattle.fw_model.specs.History.{sent_messages}
use Rattle.fw_model.specs.Machine.{Machine, events, family_of, is_failed}
use Rattle.fw_model.specs.Reached.{IsReached}
use Rattle.fw_model.specs.SortedMessages.{sorted_messages}
use Rattle.fw_model.proofs.CarriedLaws.{carried-each}
use Rattle.fw_model.proofs.ArrivalLaws.{at_edge}
use Rattle.fw_model.proofs.DomainLaws.{has_epochs}
use Rattle.fw_model.proofs.SentLaws.{copy}
use Rattle.fw_model.proofs.SortedLaws.{same_sorted_messages, sorted_messages-filter, sorted_messages-twice, each-sorted_messages}
use Rattle.fw_model.proofs.WeightLaws.{weigh, weigh-flat_map, weigh-map, weigh-same}
use Rattle.fw_model.proofs.CauseLaws.{sent_by-one_cause}
use Rattle.fw_record.specs.declared.logged.Logged.{Logged}
use Rattle.fw_bytes.specs.Sound.{IsStamp}
use Rattle.fw_record.specs.Sound.{IsOneStamp, IsLoggedMessage, IsLog}
use Rattle.fw_bag.specs.Bag.{IsRec}
use Rattle.fw_stands.specs.Parts.{is_logging, logged}
use Rattle.fw_record.specs.Log.{logged_on}
use Rattle.fw_stands.specs.Written.{messages_since}
use Rattle.fw_stands.proofs.AtReached.{reached-legal}
use Rattle.fw_progress.proofs.OutLaws.{sender-there}
use Rattle.fw_stands.proofs.RecoveredFacts.{all_inside-as, IsCausedIn, set-inside, edge-caused, legal-at, each-contained}
use Rattle.fw_stands.proofs.RecoveredLogs.{logged-live}
use Rattle.fw_stands.proofs.SpellingLaws.{stamps_have_spellings}
use Rattle.fw_settle.specs.Checkpoints.{logged_from, logged_at, IsLogOf, is_sent_since, messages_told}

-- ---- an edge is once among the out-edges of its sender

at_edge-other : (e n d : ℕ) → (e ≡ d → ⊥) → at_edge e n d ≡ 0
at_edge-other e n d k = cond-false (e == d) n 0 (ne_eqb e d k)

from-before : (es : List Edge) (k e n p : ℕ) → e < k → weigh (at_edge e n) (edges_from k es p) ≡ 0
unfolding weigh
from-before [] k e n p l = refl
from-before (x ∷ es) k e n p l =
    let here = at_edge-other e n k (λ q. omega arith) in
    let rest = from-before es (k + 1) e n p (omega arith) in
    cond_both (x.sender == p) (k ∷ edges_from (k + 1) es p) (edges_from (k + 1) es p) (λ ds. weigh (at_edge e n) ds ≡ 0) (λ q. omega arith) (λ q. rest)

once_cases : (g : ℕ → ℕ) (n : ℕ) (b : Bool) (xs ys : List ℕ) → weigh g xs ≡ n → weigh g ys ≡ 0 → weigh g (cond b xs ys) ≡ cond b n 0
once_cases g n true xs ys k l = k
once_cases g n false xs ys k l = l

from-once : (es : List Edge) (z : Edge) (k i e n p : ℕ) → e ≡ k + i → i < length es
    → weigh (at_edge e n) (edges_from k es p) ≡ cond ((get_or es i z).sender == p) n 0
unfolding weigh
from-once [] z k i e n p s l = absurd (omega arith)
from-once (x ∷ es) z k zero e n p s l =
    let here : at_edge e n k ≡ n = cond-true (e == k) n 0 (eq-eqb e k (omega arith)) in
    let rest = from-before es (k + 1) e n p (omega arith) in
    once_cases (at_edge e n) n (x.sender == p) (k ∷ edges_from (k + 1) es p) (edges_from (k + 1) es p) (omega arith) rest
from-once (x ∷ es) z k (suc i) e n p s l =
    let here = at_edge-other e n k (λ q. omega arith) in
    let rest = from-once es z (k + 1) i e n p (omega arith) (omega arith) in
    cond_both (x.sender == p) (k ∷ edges_from (k + 1) es p) (edges_from (k + 1) es p)
    (λ ds. weigh (at_edge e n) ds ≡ cond ((get_or es i z).sender == p) n 0) (λ q. omega arith) (λ q. rest)

out_edges-once : (flow : Dataflow) (e n : ℕ) → e < length flow.edges → weigh (at_edge e n) (out_edges flow (sender flow e)) ≡ n
unfolding out_edges sender
out_edges-once flow e n l =
    let z : Edge = record { name = []; sender = length flow.nodes; receiver = length flow.nodes } in
    from-once flow.edges z 0 e e n (get_or flow.edges e z).sender (omega arith) l
    ∙ cond-true ((get_or flow.edges e z).sender == (get_or flow.edges e z).sender) n 0 (eq-eqb (get_or flow.edges e z).sender (get_or flow.edges e z).sender refl)

-- ---- what a log weighs on one edge

abbrev on_one : ℕ → (Message → ℕ) → Logged → ℕ
on_one e w l = cond (l.edge == e) (w l.message) 0

logged_on-weigh : (w : Message → ℕ) (e : ℕ) (log : List Logged) → weigh w (logged_on e log) ≡ weigh (on_one e w) log
unfolding weigh
logged_on-weigh w e [] = refl
logged_on-weigh w e (l ∷ log) = by (l.edge == e) (logged_on-weigh w e log)
  where
    by : (b : Bool) → weigh w (logged_on e log) ≡ weigh (on_one e w) log
        → weigh w (map (λ (x : Logged). x.message) (cond b (l ∷ filter (λ (x : Logged). x.edge == e) log) (filter (λ (x : Logged). x.edge == e) log)))
        ≡ cond b (w l.message) 0 + weigh (on_one e w) log
    by true h = ap (λ n. w l.message + n) h
    by false h = h ∙ omega arith

weighed-from : {A : Type 0} (w : A → ℕ) (n : ℕ) (xs : List A) → fold (λ a x. a + w x) n xs ≡ n + weigh w xs
unfolding weigh
weighed-from w n [] = omega arith
weighed-from w n (x ∷ xs) = let h = weighed-from w (n + w x) xs in omega arith

permuted-weigh : {A : Type 0} (w : A → ℕ) (xs ys : List A) → IsPermutation xs ys → weigh w ys ≡ weigh w xs
permuted-weigh w xs ys p =
    let a = weighed-from w 0 xs in
    let b = weighed-from w 0 ys in
    let c = sum_by-IsPermutation w xs ys p in
    omega arith

-- on one edge these messages weigh as they do on that edge
edge-weigh : (w : Message → ℕ) (e d : ℕ) (logs : ℕ → List Message)
    → weigh (on_one e w) (map (λ (m : Message). record { edge = d; message = m }) (logs d))
    ≡ at_edge e (weigh w (logs e)) d
unfolding weigh
edge-weigh w e d logs =
    weigh-map (on_one e w) (λ (m : Message). record { edge = d; message = m }) (logs d)
    ∙ elim (cases_Bool (d == e)) [
      | inl k ↦
          let same = eqb-true d e k in
          ap (λ b. weigh (λ m. cond b (w m) 0) (logs d)) k
          ∙ ap (λ n. weigh w (logs n)) same
          ∙ sym (cond-true (e == d) (weigh w (logs e)) 0 (eq-eqb e d (sym same)))
      | inr k ↦
          ap (λ b. weigh (λ m. cond b (w m) 0) (logs d)) k
          ∙ zeros (logs d)
          ∙ sym (cond-false (e == d) (weigh w (logs e)) 0 (ne_eqb e d (λ s. ne (eq-eqb d e (sym s)) k)))
    ]
  where
    zeros : (ms : List Message) → weigh (λ (m : Message). 0) ms ≡ 0
    zeros [] = refl
    zeros (m ∷ ms) = let h = zeros ms in omega arith

    ne : {b : Bool} → b ≡ true → b ≡ false → ⊥
    ne k l = let c : true ≡ false = sym k ∙ l in cc

logged_from-weigh : (flow : Dataflow) (w : Message → ℕ) (e : ℕ) (logs : ℕ → List Message) → e < length flow.edges
    → weigh (on_one e w) (logged_from logs (out_edges flow (sender flow e))) ≡ weigh w (logs e)
logged_from-weigh flow w e logs l =
    let es = out_edges flow (sender flow e) in
    let n = weigh w (logs e) in
    weigh-flat_map (on_one e w) (λ d. map (λ (m : Message). record { edge = d; message = m }) (logs d)) es
    ∙ weigh-same (λ d. weigh (on_one e w) (map (λ (m : Message). record { edge = d; message = m }) (logs d))) (at_edge e n) es
    (each-one (λ d. weigh (on_one e w) (map (λ (m : Message). record { edge = d; message = m }) (logs d)) ≡ at_edge e n d) es
    (λ d. edge-weigh w e d logs))
    ∙ out_edges-once flow e n l

-- ---- the messages of a log on an edge

-- on an edge the log of a node that can send again has what is logged there from inside
log-on : (flow : Dataflow) (logs : ℕ → List Message) (p : ℕ) (log : List Logged) (e : ℕ) → IsPermutation (logged_at flow logs p) log
    → can_resend (policy_of flow p) ≡ true → e < length flow.edges → sender flow e ≡ p
    → sorted_messages (logged_on e log) ≡ sorted_messages (logs e)
log-on flow logs p log e same can l s =
    let from = logged_from logs (out_edges flow p) in
    same_sorted_messages (logged_on e log) (logs e) (λ q.
    logged_on-weigh (copy q) e log
    ∙ permuted-weigh (on_one e (copy q)) (logged_at flow logs p) log same
    ∙ ap (weigh (on_one e (copy q))) (cond-true (can_resend (policy_of flow p)) from [] can)
    ∙ ap (λ n. weigh (on_one e (copy q)) (logged_from logs (out_edges flow n))) (sym s)
    ∙ logged_from-weigh flow (copy q) e logs l)

-- the log of one that can't has nothing
log-none : (flow : Dataflow) (logs : ℕ → List Message) (p : ℕ) (log : List Logged) (e : ℕ) → IsPermutation (logged_at flow logs p) log
    → can_resend (policy_of flow p) ≡ false → sorted_messages (logged_on e log) ≡ []
unfolding weigh
log-none flow logs p log e same cannot =
    same_sorted_messages (logged_on e log) [] (λ q.
    logged_on-weigh (copy q) e log
    ∙ permuted-weigh (on_one e (copy q)) (logged_at flow logs p) log same
    ∙ ap (weigh (on_one e (copy q))) (cond-false (can_resend (policy_of flow p)) (logged_from logs (out_edges flow p)) [] cannot))

-- of messages with causes of the domain those from inside a front are those from inside its frontier
pub from-front : (flow : Dataflow) (p : ℕ) (f : Front) (ms : List Message) → AllByRecursion (IsCausedIn flow p) ms
    → messages_from (inside f) ms ≡ messages_from (node_frontier flow p f) ms
from-front flow p f ms a =
    filter-same_on (λ (m : Message). all_inside (inside f) m.causes) (λ m. all_inside (node_frontier flow p f) m.causes) ms
    (each-weaker (IsCausedIn flow p) (λ m. all_inside (inside f) m.causes ≡ all_inside (node_frontier flow p f) m.causes) ms
    (λ m c. all_inside-as (inside f) (node_frontier flow p f) m.causes
    (each-weaker (λ t. in_domain (bounds_of flow p) t ≡ true) (λ t. inside f t ≡ node_frontier flow p f t) m.causes
    (λ t d. sym (set-inside flow p (At f) t d)) c)) a)

-- ---- what was sent since then

-- the messages from inside f of node p that were sent since then
abbrev pub messages_due : Dataflow → ℕ → Option Front → Front → List Message → List Message
messages_due flow p None f ms = messages_from (node_frontier flow p f) ms
messages_due flow p (Some g) f ms = messages_since (node_frontier flow p g) (node_frontier flow p f) ms

pub told-due : (flow : Dataflow) (p : ℕ) (since : Option Front) (f : Front) (ms : List Message) → AllByRecursion (IsCausedIn flow p) ms
    → messages_told since f ms ≡ messages_due flow p since f ms
told-due flow p None f ms a =
    filter-all (λ (m : Message). true) (messages_from (inside f) ms) (each-one (λ (m : Message). true ≡ true) (messages_from (inside f) ms) (λ m. refl)) ∙ from-front flow p f ms a
told-due flow p (Some g) f ms a =
    let from : Message → Bool = λ m. all_inside (inside f) m.causes in
    filter-same_on (λ (m : Message). not (all_inside (inside g) m.causes)) (λ m. not (all_inside (node_frontier flow p g) m.causes)) (messages_from (inside f) ms)
    (each-weaker (IsCausedIn flow p) (λ m. not (all_inside (inside g) m.causes) ≡ not (all_inside (node_frontier flow p g) m.causes)) (messages_from (inside f) ms)
    (λ m c. ap not (all_inside-as (inside g) (node_frontier flow p g) m.causes
    (each-weaker (λ t. in_domain (bounds_of flow p) t ≡ true) (λ t. inside g t ≡ node_frontier flow p g t) m.causes
    (λ t d. sym (set-inside flow p (At g) t d)) c)))
    (each-kept (IsCausedIn flow p) from ms a))
    ∙ ap (filter (λ (m : Message). not (all_inside (node_frontier flow p g) m.causes))) (from-front flow p f ms a)

-- in order they are the same ones of those in order
told-in_order : (since : Option Front) (f : Front) (ms : List Message) → sorted_messages (messages_told since f (sorted_messages ms)) ≡ sorted_messages (messages_told since f ms)
told-in_order since f ms =
    let after : Message → Bool = λ m. is_sent_since since m.causes in
    let from : Message → Bool = λ m. all_inside (inside f) m.causes in
    ap (λ xs. sorted_messages (filter after xs)) (sym (sorted_messages-filter from ms))
    ∙ ap sorted_messages (sym (sorted_messages-filter after (filter from ms)))
    ∙ sorted_messages-twice (filter after (filter from ms))

-- and those outside a frontier are the ones of those outside
told-outside : (since : Option Front) (f : Front) (low : Frontier) (ms : List Message)
    → messages_told since f (messages_outside low ms) ≡ messages_outside low (messages_told since f ms)
told-outside since f low ms =
    let after : Message → Bool = λ m. is_sent_since since m.causes in
    let from : Message → Bool = λ m. all_inside (inside f) m.causes in
    let out : Message → Bool = λ m. not (low m.at) in
    ap (filter after) (filter-swap from out out ms (each-one (λ (m : Message). from m ≡ true → out m ≡ out m) ms (λ m k. refl)))
    ∙ filter-swap after out out (filter from ms) (each-one (λ (m : Message). after m ≡ true → out m ≡ out m) (filter from ms) (λ m k. refl))

-- the log of node p at f has on each edge from p what was sent since then and may have to be sent again
pub log-is : (sys : System) (state : Machine) → IsWellFormedSystem sys → IsReached sys state → (p : ℕ) → p < length sys.flow.nodes → is_failed state p ≡ false
    → (since : Option Front) (f : Front) (logs : ℕ → List Message) (log : List Logged) → ((e : ℕ) → sender sys.flow e ≡ p → logs e ≡ logged sys state e)
    → IsLogOf sys.flow (λ e. messages_told since f (logs e)) p log → (e : ℕ) → sender sys.flow e ≡ p
    → sorted_messages (logged_on e log) ≡ sorted_messages (cond (can_resend (policy_of sys.flow p))
    (messages_outside (family_of sys.flow state.low (receiver sys.flow e)) (messages_due sys.flow p since f (sent_messages sys (events state.history) e))) [])
log-is sys state w r p l live since f logs log are i e s =
    let h = events state.history in
    let legal = reached-legal sys state w r in
    let low = family_of sys.flow state.low (receiver sys.flow e) in
    let sent = sent_messages sys h e in
    let can = can_resend (policy_of sys.flow p) in
    let told : ℕ → List Message = λ d. messages_told since f (logs d) in
    let due = messages_outside low (messages_due sys.flow p since f sent) in
    elim (cases_Bool can) [
      | inr cannot ↦ log-none sys.flow told p log e i.same cannot ∙ sym (ap sorted_messages (cond-false can due [] cannot))
      | inl sends_again ↦
          let caused : AllByRecursion (IsCausedIn sys.flow p) sent =
          subst (λ n. AllByRecursion (IsCausedIn sys.flow n) sent) s (edge-caused sys h w.flow (has_epochs sys w) legal e) in
          log-on sys.flow told p log e i.same sends_again (sender-there sys.flow p e l s) s
          ∙ ap (λ ms. sorted_messages (messages_told since f ms))
          (are e s ∙ logged-live sys state e (ap (λ n. can_resend (policy_of sys.flow n)) s ∙ sends_again) (ap (is_failed state) s ∙ live))
          ∙ told-in_order since f (messages_outside low sent)
          ∙ ap sorted_messages (told-outside since f low sent)
          ∙ ap (λ ms. sorted_messages (messages_outside low ms)) (told-due sys.flow p since f sent caused)
          ∙ ap sorted_messages (sym (cond-true can due [] sends_again))
    ]

-- ---- what holds of each logged message

each-edges : (P : Logged → Type 0) (logs : ℕ → List Message) (es : List ℕ)
    → AllByRecursion (λ d. AllByRecursion (λ (m : Message). P (record { edge = d; message = m })) (logs d)) es → AllByRecursion P (logged_from logs es)
each-edges P logs [] a = tt
each-edges P logs (d ∷ es) a =
    each-append P (map (λ (m : Message). record { edge = d; message = m }) (logs d)) (logged_from logs es)
    (each-map P (λ (m : Message). record { edge = d; message = m }) (logs d) a.0)
    (each-edges P logs es a.1)

pub each-permuted : {A : Type 0} (P : A → Type 0) (xs ys : List A) → IsPermutation xs ys → AllByRecursion P xs → AllByRecursion P ys
each-permuted P xs ys same a =
    each-weaker (Contains ys) P ys (λ y c. each-contained P xs y a (Contains-permutation ys xs y (IsPermutation-sym xs ys same) c)) (each-there ys)

-- what holds of each message that is logged on an edge of the node holds of each of the log
log-each : (P : Logged → Type 0) (flow : Dataflow) (logs : ℕ → List Message) (p : ℕ) (log : List Logged) → IsPermutation (logged_at flow logs p) log
    → ((e : ℕ) → e < length flow.edges → sender flow e ≡ p → AllByRecursion (λ (m : Message). P (record { edge = e; message = m })) (logs e)) → AllByRecursion P log
log-each P flow logs p log same each =
    let from : AllByRecursion P (logged_from logs (out_edges flow p)) =
    each-edges P logs (out_edges flow p)
    (out_edges-from (λ d. AllByRecursion (λ (m : Message). P (record { edge = d; message = m })) (logs d)) flow p
    (λ e l s. each e l s)) in
    each-permuted P (logged_at flow logs p) log same
    (cond_both (can_resend (policy_of flow p)) (logged_from logs (out_edges flow p)) [] (AllByRecursion P) (λ k. from) (λ k. tt))

pub log-edges : (flow : Dataflow) (logs : ℕ → List Message) (p : ℕ) (log : List Logged) → IsLogOf flow logs p log
    → (l : Logged) → Contains log l → sender flow l.edge ≡ p
log-edges flow logs p log i l there =
    let each = log-each (λ (x : Logged). sender flow x.edge ≡ p) flow logs p log i.same
    (λ e k s. each-one (λ (m : Message). sender flow e ≡ p) (logs e) (λ m. s)) in
    each-contained (λ (x : Logged). sender flow x.edge ≡ p) log l each there

-- ---- the log has a spelling

-- what was sent on an edge has stamps that have spellings
abbrev IsSentOn : System → ℕ → Message → Type 0
IsSentOn sys e m = IsStamp m.at × IsOneStamp m.causes

one-stamp : (flow : Dataflow) → IsWellFormed flow → (p : ℕ) (causes : List Stamp) (t : Stamp) → causes ≡ t ∷ []
    → AllByRecursion (λ s. in_domain (bounds_of flow p) s ≡ true) causes → IsOneStamp causes
one-stamp flow w p causes t is a =
    let d : AllByRecursion (λ s. in_domain (bounds_of flow p) s ≡ true) (t ∷ []) = subst (AllByRecursion (λ s. in_domain (bounds_of flow p) s ≡ true)) is a in
    subst IsOneStamp (sym is) ((stamps_have_spellings flow w p).1 t d.0)

sent-spelled : (sys : System) → IsWellFormedSystem sys → (state : Machine) → IsReached sys state → (e : ℕ)
    → AllByRecursion (IsSentOn sys e) (sent_messages sys (events state.history) e)
sent-spelled sys w state r e =
    let h = events state.history in
    let p = sender sys.flow e in
    let legal = reached-legal sys state w r in
    let D : Message → Type 0 = λ m. in_domain (bounds_of sys.flow (receiver sys.flow e)) m.at ≡ true in
    let C : Message → Type 0 = λ m. (t : Stamp) × (m.causes ≡ t ∷ []) in
    let ms = sent_messages sys h e in
    each-weaker (λ m. D m × (C m × IsCausedIn sys.flow p m)) (IsSentOn sys e) ms
    (λ m a. ((stamps_have_spellings sys.flow w.flow (receiver sys.flow e)).1 m.at a.0, one-stamp sys.flow w.flow p m.causes a.1.0.0 a.1.0.1 a.1.1))
    (each-both D (λ m. C m × IsCausedIn sys.flow p m) ms (legal-at sys h w.flow (has_epochs sys w) legal e)
    (each-both C (IsCausedIn sys.flow p) ms (carried-each sys.flow e C (sent_by sys p (events_at sys.flow p h)) (sent_by-one_cause sys p (events_at sys.flow p h)))
    (edge-caused sys h w.flow (has_epochs sys w) legal e)))

logged-spelled : (sys : System) → IsWellFormedSystem sys → (state : Machine) → IsReached sys state → (e : ℕ) → AllByRecursion (IsSentOn sys e) (logged sys state e)
logged-spelled sys w state r e =
    let p = sender sys.flow e in
    let out = messages_outside (family_of sys.flow state.low (receiver sys.flow e)) (sent_messages sys (events state.history) e) in
    cond_both (is_logging sys state e) (sorted_messages out) [] (AllByRecursion (IsSentOn sys e))
    (λ k. each-sorted_messages (IsSentOn sys e) out
    (each-kept (IsSentOn sys e) (λ (m : Message). not (family_of sys.flow state.low (receiver sys.flow e) m.at)) (sent_messages sys (events state.history) e) (sent-spelled sys w state r e)))
    (λ k. tt)

pub log-sound : (sys : System) (state : Machine) → IsWellFormedSystem sys → IsReached sys state → (p : ℕ)
    → (since : Option Front) (f : Front) (logs : ℕ → List Message) (log : List Logged) → ((e : ℕ) → sender sys.flow e ≡ p → logs e ≡ logged sys state e)
    → IsLogOf sys.flow (λ e. messages_told since f (logs e)) p log → IsLog log
log-sound sys state w r p since f logs log are i =
    let told : ℕ → List Message = λ e. messages_told since f (logs e) in
    let P : Logged → Type 0 = λ l. (l.edge < 2 ^ 32) × IsSentOn sys l.edge l.message in
    let few = w.flow.limits.edges in
    let each : AllByRecursion P log =
    log-each P sys.flow told p log i.same (λ e l s.
    each-weaker (IsSentOn sys e) (λ (m : Message). P (record { edge = e; message = m })) (told e) (λ m a. (omega (arith, few, l), a))
    (each-kept (IsSentOn sys e) (λ (m : Message). is_sent_since since m.causes) (messages_from (inside f) (logs e))
    (each-kept (IsSentOn sys e) (λ (m : Message). all_inside (inside f) m.causes) (logs e)
    (subst (AllByRecursion (IsSentOn sys e)) (sym (are e s)) (logged-spelled sys w state r e))))) in
    record {
      few = i.few;
      parts = each-weaker (λ (l : Logged). P l × IsRec l.message.rec) IsLoggedMessage log (λ l a. record { edge = a.0.0; at = a.0.1.0; causes = a.0.1.1; rec = a.1 })
          (each-both P (λ (l : Logged). IsRec l.message.rec) log each i.small);
      follow = i.follow;
    }
