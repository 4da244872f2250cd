-- Traces that follow events.
use Rattle.std.proofs.Common.{◌≡◌, ◌≢◌, ℕ, zero, suc, ◌<◌, Bool, true, false, ◌&&◌, ◌||◌, ◌==◌, nat_lt, cond, List, [], ◌∷◌, ◌++◌, Option, length, get_or, map, refl, sym, ap, subst, ◌∙◌, inl, inr, arith}
use Rattle.std.specs.Prelude.{filter}
use Rattle.std.specs.List.{AllByRecursion, Contains, flat_map, list_any}
use Rattle.std.proofs.lemmas.Bool.{both_ways, cases_eq, eq-eqb, eqb-true, false_from_ne_true, lt-ltb, ltb-true}
use Rattle.std.proofs.lemmas.Grind.{flat_map-append}
use Rattle.std.proofs.lemmas.List.{length-map, map-append}
use Rattle.std.proofs.lemmas.List.Elements.{Contains-append_left, Contains-append_right}
use Rattle.fw_lemmas.proofs.Each.{each-weaker, each-append}
use Rattle.fw_time.specs.Stamp.{Stamp}
use Rattle.fw_bag.specs.declared.rec.Rec.{Rec}
use Rattle.fw_frontier.specs.Frontier.{Frontier}
use Rattle.fw_flow.specs.declared.event.Event.{Event}
use Rattle.fw_flow.specs.declared.event.Event.TheVariants.{Inject, Deliver, Notify}
use Rattle.fw_flow.specs.declared.event.Message.{Message}
use Rattle.fw_flow.specs.declared.key_part.KeyPart.{KeyPart}
use Rattle.fw_flow.specs.Dataflow.{System, Dataflow, kind_of, receiver, is_sequence_kind, sender}
use Rattle.fw_flow.specs.KeyParts.{is_of_part_if, part_of}
use Rattle.fw_flow.specs.NodeFunction.{event_node, event_stamp, sends, sent_by}
use Rattle.fw_flow.specs.Projection.{events_at}
use Rattle.fw_model.proofs.KindSorts.{single-no_sequence}
use Rattle.fw_model.specs.Sending.{is_single_kind}
use Rattle.fw_model.specs.Carried.{carried}
use Rattle.fw_model.specs.Covers.{stamp_of_notice}
use Rattle.fw_model.specs.History.{message_on, delivered_messages, sent_messages}
use Rattle.fw_model.specs.Thinned.{IsBelowKept, IsThinned, IsThinnedIf}
use Rattle.fw_model.proofs.CarriedLaws.{carried-each, sent-more}
use Rattle.fw_model.proofs.CauseLaws.{sends-one_cause}
use Rattle.fw_model.proofs.ThinnedLaws.{each-contained}
use Rattle.fw_progress.specs.declared.sent_tally.SentTally.{SentTally}
use Rattle.fw_progress.specs.declared.traces.Traces.{Traces}
use Rattle.fw_progress.specs.Progress.{ChangesAt, stamps_of_part, stamps_on}
use Rattle.fw_model.specs.Alike.{StandForCauses}
use Rattle.fw_model.proofs.AlikeLaws.{for-more}
use Rattle.fw_model.specs.EventStamps.{causes_in, base_of_sent, tells_sent}
use Rattle.fw_progress.specs.SentTally.{IsSentTally, CountsMore}
use Rattle.fw_progress.specs.Trace.{delivered_on, stamps_notified, stamps_where_sent, counted_of, no_tally, counts_sent, TracesFollow, StandForManyMore, SentMore, CountedMore, HasSent}
use Rattle.fw_progress.specs.Traces.{StandForOneMore, ChangesEachOut}
use Rattle.fw_progress.proofs.FollowLaws.{same-carried, same-length, stamps-carried}
use Rattle.fw_progress.proofs.TraceLaws.{contains-head, contains-tail, each-had, changed-if, thinned-itself, one_more-if}

-- ---- the same stamps, however often

pub thinned-same : (base : Frontier) (all also kept : List Stamp) → ((s : Stamp) → Contains all s → Contains also s) → ((s : Stamp) → Contains also s → Contains all s)
    → IsThinned base all kept → IsThinned base also kept
thinned-same base all also kept more less h = record {
  among = each-weaker (Contains all) (Contains also) kept more h.among;
  outside = each-had (λ t. base t ≡ false → Contains kept t) also (λ t c. each-contained (λ s. base s ≡ false → Contains kept s) t all (less t c) h.outside);
  inside = each-had (λ t. base t ≡ true → IsBelowKept base kept t) also (λ t c. each-contained (λ s. base s ≡ true → IsBelowKept base kept s) t all (less t c) h.inside);
}

pub many-none : (at : Stamp) (count : ℕ) (kept : List Stamp) → count ≡ 0 → StandForManyMore at count kept kept
many-none at count kept z base all [] l e h = h
many-none at count kept z base all (m ∷ more) l e h = absurd (omega (arith, l, z))

pub many-some : (at : Stamp) (count : ℕ) (old new : List Stamp) → 0 < count → StandForOneMore at old new → StandForManyMore at count old new
many-some at count old new some one base all [] l e h = absurd (omega (arith, l, some))
many-some at count old new some one base all (m ∷ more) l e h =
    let both : List Stamp = (m ∷ more) ++ all in
    thinned-same base (at ∷ all) both new
    (λ s c. each-contained (Contains both) s (at ∷ all) c (
      subst (Contains both) e.0 (contains-head m (more ++ all)),
      each-had (Contains both) all (λ t d. Contains-append_right (m ∷ more) all t d),
    ))
    (λ s c. each-contained (Contains (at ∷ all)) s both c
    (each-append (Contains (at ∷ all)) (m ∷ more) all
    (each-weaker (λ t. t ≡ at) (Contains (at ∷ all)) (m ∷ more) (λ t i. subst (Contains (at ∷ all)) (sym i) (contains-head at all)) e)
    (each-had (Contains (at ∷ all)) all (λ t d. contains-tail at all t d))))
    (one base all h)

-- one of the recs is of a part where some stamps of them are
pub some-of_part : (part : Option KeyPart) (sent : List (Stamp × Rec)) → list_any (λ (s : Stamp × Rec). is_of_part_if part s.1.key) sent ≡ nat_lt 0 (length (stamps_of_part part sent))
some-of_part part [] = refl
some-of_part part (x ∷ xs) = by (is_of_part_if part x.1.key) (some-of_part part xs)
  where
    of : Stamp × Rec → Bool
    of s = is_of_part_if part s.1.key

    by : (b : Bool) → list_any of xs ≡ nat_lt 0 (length (stamps_of_part part xs))
        → (b || list_any of xs) ≡ nat_lt 0 (length (map (λ (s : Stamp × Rec). s.0) (cond b (x ∷ filter of xs) (filter of xs))))
    by true h = sym (lt-ltb 0 (suc (length (stamps_of_part part xs))) (omega arith))
    by false h = h

-- an event adds its stamp to the list of an edge that carries one of its recs, and else leaves it
pub carried-some : (part : Option KeyPart) (sent : List (Stamp × Rec)) (at : Stamp) (old new : List Stamp) (b : Bool) → b ≡ list_any (λ (s : Stamp × Rec). is_of_part_if part s.1.key) sent
    → b ≡ true → StandForOneMore at old new → StandForManyMore at (length (stamps_of_part part sent)) old new
carried-some part sent at old new b is k one =
    many-some at (length (stamps_of_part part sent)) old new (ltb-true 0 (length (stamps_of_part part sent)) (sym (is ∙ some-of_part part sent) ∙ k)) one

pub carried-none : (part : Option KeyPart) (sent : List (Stamp × Rec)) (at : Stamp) (kept : List Stamp) (b : Bool) → b ≡ list_any (λ (s : Stamp × Rec). is_of_part_if part s.1.key) sent
    → b ≡ false → StandForManyMore at (length (stamps_of_part part sent)) kept kept
carried-none part sent at kept b is k =
    many-none at (length (stamps_of_part part sent)) kept (none (length (stamps_of_part part sent)) (sym (is ∙ some-of_part part sent) ∙ k))
  where
    none : (n : ℕ) → nat_lt 0 n ≡ false → n ≡ 0
    none zero f = refl
    none (suc n) f = absurd (both_ways (nat_lt 0 (suc n)) f (lt-ltb 0 (suc n) (omega arith)))

-- so much more stands where perhaps not the whole is kept
many-if : (whole : Bool) (at : Stamp) (count : ℕ) (old new : List Stamp) → StandForManyMore at count old new → (base : Frontier) (all more : List Stamp) → length more ≡ count
    → AllByRecursion (λ s. s ≡ at) more → IsThinnedIf whole base all old → IsThinnedIf whole base (more ++ all) new
many-if whole at count old new f base all more l e h =
    changed-if whole base base all old (more ++ all) (more ++ old) new (f base all more l e) (f base old more l e (thinned-itself base old))
    (each-append (Contains (more ++ all)) more old (each-had (Contains (more ++ all)) more (λ s c. Contains-append_left more all s c))
    (each-weaker (Contains all) (Contains (more ++ all)) old (λ s c. Contains-append_right more all s c) h.among))
    (each-append (λ t. base t ≡ false → Contains (more ++ old) t) more all
    (each-had (λ t. base t ≡ false → Contains (more ++ old) t) more (λ t c o. Contains-append_left more old t c))
    (each-weaker (λ t. base t ≡ false → Contains old t) (λ t. base t ≡ false → Contains (more ++ old) t) all (λ t c o. Contains-append_right more old t (c o)) h.outside))
    h

-- ---- what a node sends by an event

pub sent_by-event : (sys : System) (h : List Event) (v : Event) (p : ℕ) → event_node sys.flow v ≡ p
    → sent_by sys p (events_at sys.flow p (v ∷ h)) ≡ sends sys p (events_at sys.flow p h) v ++ sent_by sys p (events_at sys.flow p h)
sent_by-event sys h v p e = ap (λ b. sent_by sys p (cond b (v ∷ events_at sys.flow p h) (events_at sys.flow p h))) (eq-eqb (event_node sys.flow v) p e)

pub sent_by-other : (sys : System) (h : List Event) (v : Event) (p : ℕ) → event_node sys.flow v ≢ p
    → sent_by sys p (events_at sys.flow p (v ∷ h)) ≡ sent_by sys p (events_at sys.flow p h)
sent_by-other sys h v p n =
    ap (λ b. sent_by sys p (cond b (v ∷ events_at sys.flow p h) (events_at sys.flow p h))) (false_from_ne_true (event_node sys.flow v == p) (λ k. n (eqb-true (event_node sys.flow v) p k)))

-- the causes of messages of one cause are as many, all the same
pub one_cause : (at : Stamp) (ms : List Message) → AllByRecursion (λ (m : Message). m.causes ≡ at ∷ []) ms → (length (causes_in ms) ≡ length ms) × AllByRecursion (λ s. s ≡ at) (causes_in ms)
one_cause at [] a = (refl, tt)
one_cause at (m ∷ ms) a =
    let rest = one_cause at ms a.1 in
    let P : List Stamp → Type 0 = λ cs. (length (cs ++ causes_in ms) ≡ length (m ∷ ms)) × AllByRecursion (λ s. s ≡ at) (cs ++ causes_in ms) in
    subst P (sym a.0) (ap suc rest.0, (refl, rest.1))

-- ---- the changes of an event

-- What an event changes: what is delivered on its edge, of what its node is notified, and what that sends.
pub record Tells (flow : Dataflow) (v : Event) (sent : List (Stamp × Rec)) (old new : Traces) : Type 0 where
  pub delivered : (whole : Bool) (d : ℕ) (base : Frontier) (all : List Stamp) → IsThinnedIf whole base all (delivered_on old d)
      → IsThinnedIf whole base (map (λ (m : Message). m.at) (message_on d v) ++ all) (delivered_on new d)
  pub notified : (whole : Bool) (q : ℕ) (base : Frontier) (all : List Stamp) → IsThinnedIf whole base all (stamps_notified old q)
      → IsThinnedIf whole base (stamp_of_notice q v ++ all) (stamps_notified new q)
  pub sends : HasSent flow (event_node flow v) (event_stamp v) sent old new

pub tells-follow : (flow : Dataflow) (v : Event) (sent : List (Stamp × Rec)) (old new : Traces) → Tells flow v sent old new → TracesFollow flow v sent old new
tells-follow flow v sent old new tells whole sys h e is p base t =
    let told : Tells sys.flow v sent old new = subst (λ f. Tells f v sent old new) (sym e) tells in
    record {
      delivered = λ d l r. subst (λ ss. IsThinnedIf whole base ss (delivered_on new d)) (sym (map-append (λ (m : Message). m.at) (message_on d v) (delivered_messages h d)))
          (told.delivered whole d base (map (λ (m : Message). m.at) (delivered_messages h d)) (t.delivered d l r));
      notified = told.notified whole p base (flat_map (stamp_of_notice p) h) t.notified;
      sent = λ d l r k.
          subst (λ n. is_single_kind (kind_of sys.flow n) ≡ true → StandForCauses sys.flow n (whole_at n) (base_at n) (causes_in (sent_messages sys h d)) (stamps_where_sent old d)
          → StandForCauses sys.flow n (whole_at n) (base_at n) (causes_in (sent_messages sys (v ∷ h) d)) (stamps_where_sent new d)) r (sends_after told d l) k (t.sent d l r k);
      counted = λ k. counts_after told p k (t.counted k);
    }
  where
    q : ℕ
    q = event_node sys.flow v

    now : List Message
    now = sends sys q (events_at sys.flow q h) v

    before : ℕ → List Message
    before n = sent_by sys n (events_at sys.flow n h)

    after : ℕ → List Message
    after n = sent_by sys n (events_at sys.flow n (v ∷ h))

    many : length now ≡ length sent
    many = sym (length-map now (λ (m : Message). (m.at, m.rec))) ∙ same-length (map (λ (m : Message). (m.at, m.rec)) now) sent is

    -- what an edge carries of it
    some : ℕ → List Message
    some d = carried sys.flow d now

    as_many : (d : ℕ) → length (some d) ≡ length (stamps_on sys.flow d sent)
    as_many d = sym (length-map (some d) (λ (m : Message). m.at)) ∙ ap length (sym (stamps-carried sys.flow d now))
        ∙ same-carried (map (λ (m : Message). (m.at, m.rec)) now) sent is (part_of sys.flow (receiver sys.flow d))

    one : AllByRecursion (λ (m : Message). m.causes ≡ event_stamp v ∷ []) now
    one = sends-one_cause sys q (events_at sys.flow q h) v

    base_at : ℕ → Frontier
    base_at n = base_of_sent sys.flow n base

    whole_at : ℕ → Bool
    whole_at n = whole && tells_sent sys.flow n

    on : ℕ → List Message
    on n = sends sys n (events_at sys.flow n h) v

    -- what the event sends on an out-edge of its node, and on other edges
    sent_here : (d : ℕ) → sender sys.flow d ≡ q → sent_messages sys (v ∷ h) d ≡ some d ++ sent_messages sys h d
    sent_here d j =
        sent-more sys h v d ∙ ap (λ ms. ms ++ sent_messages sys h d) (ap (λ b. cond b (carried sys.flow d (on (sender sys.flow d))) []) (eq-eqb q (sender sys.flow d) (sym j))
        ∙ ap (λ n. carried sys.flow d (on n)) j)

    sent_else : (d : ℕ) → sender sys.flow d ≢ q → sent_messages sys (v ∷ h) d ≡ sent_messages sys h d
    sent_else d n =
        sent-more sys h v d
        ∙ ap (λ b. cond b (carried sys.flow d (on (sender sys.flow d))) [] ++ sent_messages sys h d) (false_from_ne_true (q == sender sys.flow d) (λ k. n (sym (eqb-true q (sender sys.flow d) k))))

    sends_after : Tells sys.flow v sent old new → (d : ℕ) → d < length sys.flow.edges → is_single_kind (kind_of sys.flow (sender sys.flow d)) ≡ true
        → StandForCauses sys.flow (sender sys.flow d) (whole_at (sender sys.flow d)) (base_at (sender sys.flow d)) (causes_in (sent_messages sys h d)) (stamps_where_sent old d)
        → StandForCauses sys.flow (sender sys.flow d) (whole_at (sender sys.flow d)) (base_at (sender sys.flow d)) (causes_in (sent_messages sys (v ∷ h) d)) (stamps_where_sent new d)
    sends_after told d l k i =
        let n = sender sys.flow d in
        elim (cases_eq n q) [
          | inl j ↦
              let parts = one_cause (event_stamp v) (some d) (carried-each sys.flow d (λ (m : Message). m.causes ≡ event_stamp v ∷ []) now one) in
              subst (λ ss. StandForCauses sys.flow n (whole_at n) (base_at n) ss (stamps_where_sent new d))
              (sym (ap causes_in (sent_here d j) ∙ flat_map-append (λ (m : Message). m.causes) (some d) (sent_messages sys h d)))
              (for-more sys.flow n (whole_at n) (base_at n) (causes_in (some d)) (causes_in (sent_messages sys h d)) (stamps_where_sent old d) (stamps_where_sent new d)
              (λ all. many-if (whole_at n) (event_stamp v) (length (stamps_on sys.flow d sent)) (stamps_where_sent old d) (stamps_where_sent new d)
              (told.sends.sent.here d l j (sym (ap (λ x. is_single_kind (kind_of sys.flow x)) j) ∙ k)) (base_at n) all (causes_in (some d)) (parts.0 ∙ as_many d) parts.1) i)
          | inr j ↦
              subst (λ ms. StandForCauses sys.flow n (whole_at n) (base_at n) (causes_in ms) (stamps_where_sent new d)) (sym (sent_else d j))
              (subst (StandForCauses sys.flow n (whole_at n) (base_at n) (causes_in (sent_messages sys h d))) (sym (told.sends.sent.others d j)) i)
        ]

    counts_after : Tells sys.flow v sent old new → (n : ℕ) → counts_sent sys.flow n ≡ true → IsSentTally base (before n) (counted_of old n) → IsSentTally base (after n) (counted_of new n)
    counts_after told n k i = elim (cases_eq n q) [
      | inl j ↦ subst (λ x. counts_sent sys.flow x ≡ true → IsSentTally base (before x) (counted_of old x) → IsSentTally base (after x) (counted_of new x)) (sym j)
          (λ c u. subst (λ ms. IsSentTally base ms (counted_of new q)) (sym (sent_by-event sys h v q refl)) (told.sends.counted.here c base (before q) now one many u)) k i
      | inr j ↦
          subst (λ ms. IsSentTally base ms (counted_of new n)) (sym (sent_by-other sys h v n (λ x. j (sym x))))
          (subst (IsSentTally base (before n)) (sym (told.sends.counted.others n j)) i)
    ]

-- ---- event by event

pub delivered-tells : (flow : Dataflow) (e : ℕ) (m : Message) (sent : List (Stamp × Rec)) (old new : Traces) → ChangesAt e [] (StandForOneMore m.at) old.delivered.items new.delivered.items
    → new.notified.items ≡ old.notified.items → HasSent flow (receiver flow e) m.at sent old new → Tells flow (Deliver e m) sent old new
delivered-tells flow e m sent old new d n s = record {
  delivered = λ whole x base all h. elim (cases_eq x e) [
    | inl i ↦ subst (λ b. IsThinnedIf whole base (map (λ (z : Message). z.at) (cond b (m ∷ []) []) ++ all) (delivered_on new x)) (sym (eq-eqb e x (sym i)))
        (subst (λ y. IsThinnedIf whole base all (delivered_on old y) → IsThinnedIf whole base (m.at ∷ all) (delivered_on new y)) (sym i) (one_more-if whole m.at (delivered_on old e) (delivered_on new e) d.here base all) h)
    | inr i ↦ subst (λ b. IsThinnedIf whole base (map (λ (z : Message). z.at) (cond b (m ∷ []) []) ++ all) (delivered_on new x)) (sym (false_from_ne_true (e == x) (λ k. i (sym (eqb-true e x k)))))
        (subst (IsThinnedIf whole base all) (sym (d.others x i)) h)
  ];
  notified = λ whole q base all h. subst (IsThinnedIf whole base all) (sym (ap (λ xs. get_or xs q []) n)) h;
  sends = s;
}

pub notified-tells : (flow : Dataflow) (p : ℕ) (t : Stamp) (sent : List (Stamp × Rec)) (old new : Traces) → new.delivered.items ≡ old.delivered.items
    → ChangesAt p [] (StandForOneMore t) old.notified.items new.notified.items → HasSent flow p t sent old new → Tells flow (Notify p t) sent old new
notified-tells flow p t sent old new d n s = record {
  delivered = λ whole x base all h. subst (IsThinnedIf whole base all) (sym (ap (λ xs. get_or xs x []) d)) h;
  notified = λ whole q base all h. elim (cases_eq q p) [
    | inl i ↦ subst (λ b. IsThinnedIf whole base (cond b (t ∷ []) [] ++ all) (stamps_notified new q)) (sym (eq-eqb p q (sym i)))
        (subst (λ y. IsThinnedIf whole base all (stamps_notified old y) → IsThinnedIf whole base (t ∷ all) (stamps_notified new y)) (sym i) (one_more-if whole t (stamps_notified old p) (stamps_notified new p) n.here base all) h)
    | inr i ↦ subst (λ b. IsThinnedIf whole base (cond b (t ∷ []) [] ++ all) (stamps_notified new q)) (sym (false_from_ne_true (p == q) (λ k. i (sym (eqb-true p q k)))))
        (subst (IsThinnedIf whole base all) (sym (n.others q i)) h)
  ];
  sends = s;
}

pub injected-tells : (flow : Dataflow) (p x : ℕ) (sent : List (Stamp × Rec)) (old new : Traces) → new.delivered.items ≡ old.delivered.items
    → new.notified.items ≡ old.notified.items → HasSent flow p (x ∷ []) sent old new → Tells flow (Inject p x) sent old new
injected-tells flow p x sent old new d n s = record {
  delivered = λ whole y base all h. subst (IsThinnedIf whole base all) (sym (ap (λ xs. get_or xs y []) d)) h;
  notified = λ whole q base all h. subst (IsThinnedIf whole base all) (sym (ap (λ xs. get_or xs q []) n)) h;
  sends = s;
}

-- ---- what the lists become

-- nothing is kept of what a sequence sends
pub sent-none : (flow : Dataflow) (p : ℕ) (at : Stamp) (sent : List (Stamp × Rec)) (old : List (List Stamp)) → is_sequence_kind (kind_of flow p) ≡ true
    → ChangesEachOut flow p (λ e. SentMore flow p at (length (stamps_on flow e sent))) old old
sent-none flow p at sent old k = record { one_each = refl; here = λ e l s n. absurd (both_ways (is_sequence_kind (kind_of flow p)) (single-no_sequence (kind_of flow p) n) k); others = λ e n. refl }

pub sent-some : (flow : Dataflow) (p : ℕ) (at : Stamp) (sent : List (Stamp × Rec)) (old new : List (List Stamp))
    → ChangesEachOut flow p (λ e. StandForManyMore at (length (stamps_on flow e sent))) old new
    → ChangesEachOut flow p (λ e. SentMore flow p at (length (stamps_on flow e sent))) old new
sent-some flow p at sent old new c = record { one_each = c.one_each; here = λ e l s k. c.here e l s; others = c.others }

-- what is not counted stays
pub counted-none : (flow : Dataflow) (p : ℕ) (at : Stamp) (count : ℕ) (old : List SentTally) → counts_sent flow p ≡ false → ChangesAt p no_tally (CountedMore flow p at count) old old
counted-none flow p at count old none = record { one_each = refl; here = λ k. absurd (cc); others = λ q n. refl }

pub counted-some : (flow : Dataflow) (p : ℕ) (at : Stamp) (count : ℕ) (old new : List SentTally) → ChangesAt p no_tally (CountsMore at count) old new
    → ChangesAt p no_tally (CountedMore flow p at count) old new
counted-some flow p at count old new c = record { one_each = c.one_each; here = λ k. c.here; others = c.others }
