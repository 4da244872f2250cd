-- The counts that a root of a state tells are those of its history.
use Rattle.std.proofs.Common.{◌≡◌, ◌⊎◌, ℕ, zero, suc, ◌+◌, ◌<◌, ◌≤◌, Bool, true, false, ◌&&◌, ◌||◌, ◌==◌, cond, List, [], ◌∷◌, length, get_or, map, filter, refl, sym, ap, subst, ◌∙◌, inl, inr, arith}
use Rattle.std.specs.Prelude.{slice_get, unwrap_or}
use Rattle.std.specs.List.{AllByRecursion, AllZip, Contains, list_any, range_with_len}
use Rattle.std.proofs.lemmas.Bool.{cases_Bool, cond_both, eq-eqb, eqb-true, false_from_ne_true, or_parts}
use Rattle.fw_lemmas.proofs.Bools.{two_ways}
use Rattle.fw_lemmas.proofs.Each.{each-there, each-weaker}
use Rattle.fw_time.specs.Stamp.{same}
use Rattle.fw_time.proofs.StampLaws.{same-refl}
use Rattle.fw_bag.specs.declared.rec.Rec.{Rec}
use Rattle.fw_frontier.specs.Frontier.{Frontier}
use Rattle.fw_frontier.specs.declared.state.SentCount.{SentCount}
use Rattle.fw_flow.specs.Counting.{how_many}
use Rattle.fw_flow.specs.declared.event.Event.{Event}
use Rattle.fw_flow.specs.declared.event.Event.TheVariants.{Inject, Deliver, Notify}
use Rattle.fw_flow.specs.declared.event.Message.{Message}
use Rattle.fw_flow.specs.Dataflow.{System, Dataflow, is_input_kind, is_sequence_kind, kind_of, node_ids, system_of}
use Rattle.fw_flow.specs.NodeFunction.{event_node, event_stamp, numbered_messages, sequence_sent, sends_of_kind, sends, sent_by}
use Rattle.fw_flow.specs.Projection.{all_inside, count_from, events_at, sent_count, table_count, IsSentTable}
use Rattle.fw_flow.specs.SentTable.{EpochsAscend}
use Rattle.fw_flow.specs.WellFormed.{IsWellFormedSystem}
use Rattle.fw_model.specs.History.{injected_count, pending_messages, was_notified, IsLegal}
use Rattle.fw_model.specs.Machine.{Machine, events}
use Rattle.fw_model.specs.Reached.{IsReached}
use Rattle.fw_model.specs.Sending.{SendsByCount, recs_by_count_on}
use Rattle.fw_model.proofs.DistinctLaws.{same-swap}
use Rattle.fw_model.proofs.DomainLaws.{has_epochs}
use Rattle.fw_model.proofs.LegalLaws.{only_inputs_inject}
use Rattle.fw_model.proofs.PhiLaws.{count-append}
use Rattle.fw_model.proofs.RecoveryLaws.{runs-legal}
use Rattle.fw_model.proofs.SequenceLaws.{IsNumbered, numbered-each, one_inside, count-none}
use Rattle.fw_progress.specs.declared.counts.Counts.{Counts}
use Rattle.fw_progress.specs.Counts.{AreCounts}
use Rattle.fw_progress.specs.History.{IsCountOf}
use Rattle.fw_regain.specs.RootOf.{table_said, IsRootOf}
use Rattle.fw_root.specs.OfFlow.{nodes_as, number_standing_for, place_among_nodes}
use Rattle.fw_root.specs.Sound.{AreCountsOfSequence, IsRootFor}
use Rattle.fw_root.specs.declared.of_flow.Role.TheVariants as role
use Rattle.fw_root.specs.declared.root.Root.{Root}
use Rattle.fw_running.proofs.CountLaws.{batches_there}
use Rattle.fw_resume.specs.Told.{sends_standing_for, AreCountsTold, AreGoodSends}
use Rattle.fw_resume.proofs.ToldLaws.{sends-good, sends-none}

pub told-counts : (flow : Dataflow) (given : List (ℕ × List (List Rec))) (root : Root) (counts : Counts) → AreCountsTold flow given root counts → AreCounts flow counts
told-counts flow given root counts a = record {
  pending_each = a.pending.one_each;
  owed_each = a.owed.one_each;
  batches_each = a.batches.one_each;
  injected_each = a.injected.one_each;
  sent_each = a.sent.one_each;
  pending = a.pending.of_domain;
  owed = a.owed.of_domain;
}

-- ---- the place of a node among some

-- a node is one of those that pass a test, where it passes and is one of the first n
among-passed : (test : ℕ → Bool) (a n p : ℕ) → a ≤ p → p < a + n → test p ≡ true → list_any (λ q. q == p) (filter test (range_with_len a n)) ≡ true
among-passed test a zero p l m k = absurd (omega (arith, l, m))
among-passed test a (suc n) p l m k =
    let later : (a ≡ p → ⊥) → list_any (λ q. q == p) (filter test (range_with_len (a + 1) n)) ≡ true =
    λ d. among-passed test (a + 1) n p (omega (arith, l, d)) (omega (arith, m)) k in
    cond_both (test a) (a ∷ filter test (range_with_len (a + 1) n)) (filter test (range_with_len (a + 1) n)) (λ xs. list_any (λ q. q == p) xs ≡ true)
    (λ e. first (a == p) refl later)
    (λ e. later (λ i. two_ways (test p) k (ap test (sym i) ∙ e)))
  where
    first : (b : Bool) → (a == p) ≡ b → ((a ≡ p → ⊥) → list_any (λ q. q == p) (filter test (range_with_len (a + 1) n)) ≡ true)
        → (b || list_any (λ q. q == p) (filter test (range_with_len (a + 1) n))) ≡ true
    first true e f = refl
    first false e f = f (λ i. two_ways (a == p) (eq-eqb a p i) e)

-- the place of a node that is among some
pub record IsPlaced (qs : List ℕ) (p : ℕ) : Type 0 where
  pub there : place_among_nodes qs p < length qs
  pub is : get_or qs (place_among_nodes qs p) 0 ≡ p

placed : (qs : List ℕ) (p : ℕ) → list_any (λ q. q == p) qs ≡ true → IsPlaced qs p
placed [] p k = absurd (cc)
placed (q ∷ qs) p k = by (q == p) refl k (placed qs p)
  where
    by : (b : Bool) → (q == p) ≡ b → (b || list_any (λ q. q == p) qs) ≡ true → (list_any (λ q. q == p) qs ≡ true → IsPlaced qs p) → IsPlaced (q ∷ qs) p
    by true e a f =
        let here : place_among_nodes (q ∷ qs) p ≡ 0 = ap (λ b. cond b 0 (suc (place_among_nodes qs p))) e in
        record { there = omega (arith, here); is = ap (λ n. get_or (q ∷ qs) n 0) here ∙ eqb-true q p e }
    by false e a f =
        let here : place_among_nodes (q ∷ qs) p ≡ suc (place_among_nodes qs p) = ap (λ b. cond b 0 (suc (place_among_nodes qs p))) e in
        let rest = f a in
        let less = rest.there in
        record { there = omega (arith, here, less); is = ap (λ n. get_or (q ∷ qs) n 0) here ∙ rest.is }

past : (qs : List ℕ) (p : ℕ) → list_any (λ q. q == p) qs ≡ false → length qs ≤ place_among_nodes qs p
past [] p k = omega arith
past (q ∷ qs) p k =
    let two = or_parts (q == p) (list_any (λ q. q == p) qs) k in
    let here : place_among_nodes (q ∷ qs) p ≡ suc (place_among_nodes qs p) = ap (λ b. cond b 0 (suc (place_among_nodes qs p))) two.0 in
    let rest = past qs p two.1 in
    omega (arith, here, rest)

-- the number that stands for a node that is among some is the node's own; for another one it is none, or this
numbered : (f : ℕ → ℕ) (qs : List ℕ) (p : ℕ) → list_any (λ q. q == p) qs ≡ true → unwrap_or (number_standing_for qs (map f qs) p) 0 ≡ f p
numbered f [] p k = absurd (cc)
numbered f (q ∷ qs) p k = by (q == p) refl k (numbered f qs p)
  where
    by : (b : Bool) → (q == p) ≡ b → (b || list_any (λ q. q == p) qs) ≡ true → (list_any (λ q. q == p) qs ≡ true → unwrap_or (number_standing_for qs (map f qs) p) 0 ≡ f p)
        → unwrap_or (slice_get (f q ∷ map f qs) (cond b 0 (suc (place_among_nodes qs p)))) 0 ≡ f p
    by true e a g = ap f (eqb-true q p e)
    by false e a g = g a

unnumbered : (f : ℕ → ℕ) (qs : List ℕ) (p : ℕ) → list_any (λ q. q == p) qs ≡ false → unwrap_or (number_standing_for qs (map f qs) p) 0 ≡ 0
unnumbered f [] p k = refl
unnumbered f (q ∷ qs) p k = by (q == p) refl k (unnumbered f qs p)
  where
    by : (b : Bool) → (q == p) ≡ b → (b || list_any (λ q. q == p) qs) ≡ false → (list_any (λ q. q == p) qs ≡ false → unwrap_or (number_standing_for qs (map f qs) p) 0 ≡ 0)
        → unwrap_or (slice_get (f q ∷ map f qs) (cond b 0 (suc (place_among_nodes qs p)))) 0 ≡ 0
    by true e a g = absurd (cc)
    by false e a g = g a

-- how much an input injected; nothing where a node is none
injected-is : (flow : Dataflow) (f : ℕ → ℕ) (p : ℕ) → p < length flow.nodes → (is_input_kind (kind_of flow p) ≡ false → f p ≡ 0)
    → unwrap_or (number_standing_for (nodes_as flow role.Input) (map f (nodes_as flow role.Input)) p) 0 ≡ f p
unfolding nodes_as
injected-is flow f p l none =
    let qs = filter (λ q. is_input_kind (kind_of flow q)) (node_ids flow) in
    elim (cases_Bool (list_any (λ q. q == p) qs)) [
      | inl k ↦ numbered f qs p k
      | inr k ↦
          unnumbered f qs p k
          ∙ sym (none (false_from_ne_true (is_input_kind (kind_of flow p)) (λ i.
          two_ways (list_any (λ q. q == p) qs) (among-passed (λ q. is_input_kind (kind_of flow q)) 0 (length flow.nodes) p (omega arith) (omega (arith, l)) i) k)))
    ]

-- a sequence has its place
sequence-placed : (flow : Dataflow) (p : ℕ) → p < length flow.nodes → SendsByCount (kind_of flow p) → IsPlaced (nodes_as flow role.ByCount) p
unfolding nodes_as
sequence-placed flow p l k =
    placed (nodes_as flow role.ByCount) p
    (among-passed (λ q. is_sequence_kind (kind_of flow q)) 0 (length flow.nodes) p (omega arith) (omega (arith, l)) (ap is_sequence_kind k))

zip-at : {A B : Type 0} (R : A → B → Type 0) (xs : List A) (ys : List B) (i : ℕ) (d : A) (e : B) → AllZip R xs ys → i < length ys → R (get_or xs i d) (get_or ys i e)
zip-at R [] [] i d e a l = absurd (omega (arith, l))
zip-at R [] (y ∷ ys) i d e a l = absurd a
zip-at R (x ∷ xs) [] i d e a l = absurd a
zip-at R (x ∷ xs) (y ∷ ys) zero d e a l = a.0
zip-at R (x ∷ xs) (y ∷ ys) (suc i) d e a l = zip-at R xs ys i d e a.1 (omega (arith, l))

-- the tables of a root ascend, whichever node they stand for
pub standing-good : (flow : Dataflow) (given : List (ℕ × List (List Rec))) (root : Root) (p : ℕ) → IsRootFor flow given root
    → AreGoodSends (sends_standing_for (nodes_as flow role.ByCount) root.sends p)
standing-good flow given root p s = by (nodes_as flow role.ByCount) root.sends (place_among_nodes (nodes_as flow role.ByCount) p) s.sends
  where
    by : (qs : List ℕ) (tables : List (List SentCount)) (i : ℕ) → AllZip (AreCountsOfSequence flow) qs tables → AreGoodSends (get_or tables i [])
    by [] [] i a = sends-none
    by [] (t ∷ ts) i a = absurd a
    by (q ∷ qs) [] i a = absurd a
    by (q ∷ qs) (t ∷ ts) zero a = sends-good flow q t a.0
    by (q ∷ qs) (t ∷ ts) (suc i) a = by qs ts i a.1

-- ---- of which epochs a sequence was notified

-- an event that is no notification of an epoch sends nothing from there
event-silent : (sys : System) (p : ℕ) (f : Frontier) (v : Event) (vs : List Event) → SendsByCount (kind_of sys.flow p) → f (event_stamp v) ≡ false ⊎ (recs_by_count_on sys vs v ≡ [])
    → count_from f (sends sys p vs v) ≡ 0
unfolding sends
event-silent sys p f v vs k quiet =
    let n = length (sequence_sent vs) in
    let all : sends sys p vs v ≡ numbered_messages n (event_stamp v) (recs_by_count_on sys vs v) = ap (λ kind. sends_of_kind sys kind vs v) k in
    ap (count_from f) all ∙ elim quiet [
      | inl out ↦
          let ms = numbered_messages n (event_stamp v) (recs_by_count_on sys vs v) in
          count-none f ms (each-weaker (IsNumbered n (event_stamp v)) (λ (m : Message). all_inside f m.causes ≡ false) ms (λ m a. one_inside f (event_stamp v) m false out a.1)
          (numbered-each n (event_stamp v) (recs_by_count_on sys vs v)))
      | inr none ↦ ap (λ rs. count_from f (numbered_messages n (event_stamp v) rs)) none
    ]

-- where it was not notified of an epoch, it sent nothing from there
silent : (sys : System) (p x : ℕ) → SendsByCount (kind_of sys.flow p) → (h : List Event) → was_notified p (x ∷ []) h ≡ false → sent_count sys h p (λ t. same t (x ∷ [])) ≡ 0
silent sys p x k [] n = refl
silent sys p x k (v ∷ h) n = at v n (λ m. silent sys p x k h m)
  where
    f : Frontier
    f t = same t (x ∷ [])

    vs : List Event
    vs = events_at sys.flow p h

    by : (v : Event) (b : Bool) → sent_count sys h p f ≡ 0 → (b ≡ true → f (event_stamp v) ≡ false ⊎ (recs_by_count_on sys vs v ≡ [])) → count_from f (sent_by sys p (cond b (v ∷ vs) vs)) ≡ 0
    by v true rest quiet =
        let first = event-silent sys p f v vs k (quiet refl) in
        let both = count-append f (sends sys p vs v) (sent_by sys p vs) in
        omega (arith, first, both, rest)
    by v false rest quiet = rest

    at : (v : Event) → was_notified p (x ∷ []) (v ∷ h) ≡ false → (was_notified p (x ∷ []) h ≡ false → sent_count sys h p f ≡ 0) → sent_count sys (v ∷ h) p f ≡ 0
    at (Inject q y) m g = by (Inject q y) (q == p) (g m) (λ e. inr refl)
    at (Deliver d z) m g = by (Deliver d z) (event_node sys.flow (Deliver d z) == p) (g m) (λ e. inr refl)
    at (Notify q t) m g =
        let two = or_parts (q == p && same t (x ∷ [])) (was_notified p (x ∷ []) h) m in
        by (Notify q t) (q == p) (g two.1) (λ e. inl (ap (λ b. b && same t (x ∷ [])) (sym e) ∙ two.0))

-- an entry of a table counts
counts-at_least : (f : Frontier) (table : List (ℕ × ℕ)) → AllByRecursion (λ (e : ℕ × ℕ). f (e.0 ∷ []) ≡ true → e.1 ≤ table_count f table) table
counts-at_least f [] = tt
counts-at_least f (e ∷ es) = (
  (λ k. let all = ap (λ b. cond b (e.1 + table_count f es) (table_count f es)) k in omega (arith, all)),
  each-weaker (λ (y : ℕ × ℕ). f (y.0 ∷ []) ≡ true → y.1 ≤ table_count f es) (λ y. f (y.0 ∷ []) ≡ true → y.1 ≤ table_count f (e ∷ es)) es
      (λ y g k. more (f (e.0 ∷ [])) y.1 (g k)) (counts-at_least f es),
)
  where
    more : (b : Bool) (n : ℕ) → n ≤ table_count f es → n ≤ cond b (e.1 + table_count f es) (table_count f es)
    more true n l = omega (arith, l)
    more false n l = l

-- each entry that counts some is of an epoch of which the sequence was notified
entries-notified : (sys : System) (h : List Event) (p : ℕ) (table : List (ℕ × ℕ)) → SendsByCount (kind_of sys.flow p) → IsSentTable sys h p table
    → AllByRecursion (λ (e : ℕ × ℕ). 0 < e.1) table → AllByRecursion (λ entry. was_notified p (entry.0 ∷ []) h ≡ true) table
entries-notified sys h p table k is some =
    each-all table table (λ e c. each-at_most e c) some (each-there table)
  where
    each-at_most : (e : ℕ × ℕ) → Contains table e → same (e.0 ∷ []) (e.0 ∷ []) ≡ true → e.1 ≤ table_count (λ t. same t (e.0 ∷ [])) table
    each-at_most e c = contained (λ (y : ℕ × ℕ). same (y.0 ∷ []) (e.0 ∷ []) ≡ true → y.1 ≤ table_count (λ t. same t (e.0 ∷ [])) table) table e c (counts-at_least (λ t. same t (e.0 ∷ [])) table)
      where
        contained : (P : ℕ × ℕ → Type 0) (xs : List (ℕ × ℕ)) (x : ℕ × ℕ) → Contains xs x → AllByRecursion P xs → P x
        contained P [] x i a = absurd (omega (arith, i.1))
        contained P (y ∷ ys) x (zero, l, j) a = subst P j a.0
        contained P (y ∷ ys) x (suc n, l, j) a = contained P ys x (n, omega (arith, l), j) a.1

    one : (e : ℕ × ℕ) → 0 < e.1 → e.1 ≤ table_count (λ t. same t (e.0 ∷ [])) table → was_notified p (e.0 ∷ []) h ≡ true
    one e l m = elim (cases_Bool (was_notified p (e.0 ∷ []) h)) [
      | inl was ↦ was
      | inr never ↦
          let none = silent sys p e.0 k h never in
          let all = is (λ t. same t (e.0 ∷ [])) in
          absurd (omega (arith, l, m, none, all))
    ]

    each-all : (xs all : List (ℕ × ℕ)) → ((e : ℕ × ℕ) → Contains all e → same (e.0 ∷ []) (e.0 ∷ []) ≡ true → e.1 ≤ table_count (λ t. same t (e.0 ∷ [])) table)
        → AllByRecursion (λ (e : ℕ × ℕ). 0 < e.1) xs → AllByRecursion (Contains all) xs → AllByRecursion (λ entry. was_notified p (entry.0 ∷ []) h ≡ true) xs
    each-all [] all f s c = tt
    each-all (e ∷ es) all f s c = (one e s.0 (f e c.0 (same-refl (e.0 ∷ []))), each-all es all f s.1 c.1)

-- ---- the law

said-some : (ss : List SentCount) → AllByRecursion (λ (s : SentCount). 0 < s.count) ss → AllByRecursion (λ (e : ℕ × ℕ). 0 < e.1) (table_said ss)
said-some [] a = tt
said-some (s ∷ ss) a = (a.0, said-some ss a.1)

pub told-of_state : (flow : Dataflow) (given : List (ℕ × List (List Rec))) (root : Root) (counts : Counts) (state : Machine) → IsRootFor flow given root
    → AreCountsTold flow given root counts → IsWellFormedSystem (system_of flow given) → IsReached (system_of flow given) state → IsRootOf (system_of flow given) state root
    → IsCountOf (system_of flow given) (events state.history) counts
told-of_state flow given root counts state sound a w r of = record {
  pending = λ e l t.
      let ms = pending_messages sys h e in
      a.pending.times e l t ∙ of.pending e t ∙ (λ i. how_many (λ (m : Message). same-swap m.at t i) ms);
  owed = λ p l t. a.owed.has p l t ∙ of.owed p t;
  batches = λ p l. a.batches.each p l ∙ ap length (sym (batches_there flow given p l));
  injected = λ p l.
      a.injected.each p l ∙ ap (λ ns. unwrap_or (number_standing_for (nodes_as flow role.Input) ns p) 0) of.injected
      ∙ injected-is flow (λ s. injected_count s h) p l (λ k. only_inputs_inject sys h legal p k);
  sent = λ p l k. subst (IsSentTable sys h p) (sym (a.sent.each p l)) (is_table p l k);
  in_order = λ p l k. subst EpochsAscend (sym (a.sent.each p l)) (standing-good flow given root p sound).in_order;
  epochs = λ p l k.
      subst (AllByRecursion (λ (entry : ℕ × ℕ). was_notified p (entry.0 ∷ []) h ≡ true)) (sym (a.sent.each p l))
      (entries-notified sys h p (table_said (sends_standing_for sequences root.sends p)) k (is_table p l k) (said-some (sends_standing_for sequences root.sends p) (standing-good flow given root p sound).some));
}
  where
    sys : System
    sys = system_of flow given

    h : List Event
    h = events state.history

    sequences : List ℕ
    sequences = nodes_as flow role.ByCount

    legal : IsLegal sys h
    legal = runs-legal sys r.0 r.1 state w.flow (has_epochs sys w) r.2

    is_table : (p : ℕ) → p < length flow.nodes → SendsByCount (kind_of flow p) → IsSentTable sys h p (table_said (sends_standing_for sequences root.sends p))
    is_table p l k =
        let i = place_among_nodes sequences p in
        let at = sequence-placed flow p l k in
        subst (λ q. IsSentTable sys h q (table_said (get_or root.sends i []))) at.is
        (zip-at (λ ss q. IsSentTable sys h q (table_said ss)) root.sends sequences i [] 0 of.sends at.there)
