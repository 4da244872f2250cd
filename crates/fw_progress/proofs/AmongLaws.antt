-- Traces of which only some is known: what is kept of them is of what happened.
use Rattle.std.proofs.Common.{◌≡◌, inl, inr, ℕ, zero, suc, ◌<◌, Bool, true, false, not, ◌&&◌, ◌==◌, cond, List, [], ◌∷◌, ◌++◌, length, get_or, map, filter, refl, sym, ap, subst, ◌∙◌, arith}
use Rattle.std.specs.List.{AllByRecursion, Contains, flat_map}
use Rattle.std.specs.BTreeSet.{insert_key}
use Rattle.std.proofs.lemmas.Bool.{and_parts, cases_eq, eq-eqb, eqb-true, false_from_ne_true}
use Rattle.fw_lemmas.proofs.Bools.{two_ways}
use Rattle.fw_lemmas.proofs.Each.{each-weaker, each-filter}
use Rattle.fw_time.specs.Stamp.{Stamp, stamp_cmp}
use Rattle.fw_frontier.specs.Frontier.{Frontier}
use Rattle.fw_frontier.specs.Front.{Front}
use Rattle.fw_flow.specs.declared.event.Event.{Event}
use Rattle.fw_flow.specs.declared.event.Event.TheVariants.{Inject, Deliver, Notify}
use Rattle.fw_flow.specs.declared.event.Message.{Message}
use Rattle.fw_flow.specs.declared.kind.Kind.TheVariants.{Input}
use Rattle.fw_flow.specs.declared.kind.Policy.TheVariants as policy
use Rattle.fw_flow.specs.Dataflow.{System, Dataflow, kind_of, policy_of, receiver, in_edges, bounds_of, is_notified_kind, node_frontier, HasEpochs, sender}
use Rattle.fw_flow.specs.NodeFunction.{event_node, event_stamp}
use Rattle.fw_flow.specs.Projection.{events_at}
use Rattle.fw_flow.specs.Restoring.{can_resend}
use Rattle.fw_flow.specs.WellFormed.{IsInDegree, IsPolicyAllowed, IsWellFormed}
use Rattle.fw_flow.proofs.EdgeLaws.{in_edges-at}
use Rattle.fw_model.specs.Covers.{stamp_of_notice}
use Rattle.fw_model.specs.Alike.{StandForCauses}
use Rattle.fw_model.proofs.AlikeLaws.{for-less, for-same}
use Rattle.fw_model.specs.EventStamps.{causes_in, base_of_sent, tells_sent}
use Rattle.fw_model.specs.Filtering.{AreFrontiers, kept_events}
use Rattle.fw_model.specs.History.{delivered_messages, was_delivered_to, was_notified, AreEventsInDomain, IsLegal, sent_messages}
use Rattle.fw_model.specs.Thinned.{IsThinnedIf}
use Rattle.fw_model.specs.Writes.{takes_checkpoints}
use Rattle.fw_model.proofs.CarriedLaws.{carried-none}
use Rattle.fw_model.proofs.LegalLaws.{legal_events-in_domain}
use Rattle.fw_model.proofs.ThinnedLaws.{each-contained}
use Rattle.fw_progress.specs.declared.sent_tally.SentTally.{SentTally}
use Rattle.fw_progress.specs.declared.traces.Traces.{Traces}
use Rattle.fw_progress.specs.SentTally.{IsSentTally}
use Rattle.fw_progress.specs.Trace.{delivered_on, stamps_notified, stamps_where_sent, no_tally, counts_sent, IsTraceIf, IsTraceAmong, HasOutside, HasTraceOutside, KeepsLists, HaveChanged, HasDeliveredMore, HasNotifiedMore, HasSentMore}
use Rattle.fw_progress.specs.Traces.{AreOf, HasAdded, StandsInside}
use Rattle.fw_progress.proofs.CutTraceLaws.{delivered-at, notices-at, delivered-domain, notices-domain, delivered-kept, notices-kept, sent-kept, edge-domain}
use Rattle.fw_progress.proofs.TraceLaws.{among-domain, among-inside, each-itself, each_of-insert, has-passed, insert-each, left-inside, untold-if}

-- ---- lists that are what they were

pub lists-among : (flow : Dataflow) (p : ℕ) (old new : Traces) → KeepsLists flow p old new → (sys : System) (h : List Event) → sys.flow ≡ flow → IsTraceAmong sys h p old → IsTraceAmong sys h p new
lists-among flow p old new k sys h e t = record {
  delivered = λ d l r. subst (AllByRecursion (Contains (map (λ (m : Message). m.at) (delivered_messages h d)))) (sym (k.delivered d (sym (ap (λ f. receiver f d) e) ∙ r))) (t.delivered d l r);
  notified = subst (AllByRecursion (Contains (flat_map (stamp_of_notice p) h))) (sym k.notified) t.notified;
  sent = λ d l r s. subst (AllByRecursion (Contains (causes_in (sent_messages sys h d)))) (sym (k.sent d (sym (ap (λ f. sender f d) e) ∙ r))) (t.sent d l r s);
}

pub lists-outside : (flow : Dataflow) (p : ℕ) (old new : Traces) → KeepsLists flow p old new → (these : List Event) (base : Frontier) → HasTraceOutside flow these p base old
    → HasTraceOutside flow these p base new
lists-outside flow p old new k these base t = record {
  delivered = λ d l r. subst (HasOutside base (map (λ (m : Message). m.at) (delivered_messages these d))) (sym (k.delivered d r)) (t.delivered d l r);
  notified = subst (HasOutside base (flat_map (stamp_of_notice p) these)) (sym k.notified) t.notified;
}

-- ---- a cut

-- what a list has outside a base, another one has that has what is inside a set, so far as that is inside
inside-outside : (g base : Frontier) (these old new : List Stamp) → AllByRecursion (Contains new) (filter g old) → HasOutside base these old → HasOutside base (filter g these) new
inside-outside g base these old new all h =
    each-filter (λ t. base t ≡ false → Contains new t) g these
    (each-weaker (λ t. base t ≡ false → Contains old t) (λ t. g t ≡ true → base t ≡ false → Contains new t) these
    (λ t c i o. each-contained (Contains new) t (filter g old) (has-passed g old t (c o) i) all) h)

-- what a cut leaves is of the events that each node keeps
pub cut-among : (flow : Dataflow) (p : ℕ) (f : Front) (T : SentTally → SentTally → Type 0) (old new : Traces) → IsWellFormed flow → HaveChanged flow p (StandsInside f) T old new
    → (sys : System) (h : List Event) (keep : ℕ → Frontier) → sys.flow ≡ flow → HasEpochs sys → IsLegal sys h → AreFrontiers flow keep → keep p ≡ node_frontier flow p f
    → IsTraceAmong sys h p old → IsTraceAmong sys (kept_events flow keep h) p new
cut-among flow p f T old new well change sys h keep e epochs legal fr is t =
    subst (λ g. IsWellFormed g → HaveChanged g p (StandsInside f) T old new → AreFrontiers g keep → keep p ≡ node_frontier g p f → IsTraceAmong sys (kept_events g keep h) p new) e here
    well change fr is
  where
    here : IsWellFormed sys.flow → HaveChanged sys.flow p (StandsInside f) T old new → AreFrontiers sys.flow keep → keep p ≡ node_frontier sys.flow p f
        → IsTraceAmong sys (kept_events sys.flow keep h) p new
    here w c k i =
        let b = bounds_of sys.flow p in
        let g = node_frontier sys.flow p f in
        let a = legal_events-in_domain sys h w epochs legal p in
        record {
          delivered = λ d l r.
              let all = map (λ (m : Message). m.at) (delivered_messages h d) in
              subst (λ ss. AllByRecursion (Contains ss) (delivered_on new d)) (sym (delivered-kept sys h keep p g i d r))
              (among-inside b f all (delivered_on old d) (delivered_on new d)
              (subst (λ q. AreEventsInDomain sys.flow h q → AreOf (bounds_of sys.flow q) all) r (delivered-domain sys h d) a) (t.delivered d l r) (c.delivered.here d l r));
          notified = subst (λ ss. AllByRecursion (Contains ss) (stamps_notified new p)) (sym (notices-kept sys.flow keep h p ∙ ap (λ x. filter x (flat_map (stamp_of_notice p) h)) i))
              (among-inside b f (flat_map (stamp_of_notice p) h) (stamps_notified old p) (stamps_notified new p) (notices-domain sys h p a) t.notified c.notified.here);
          sent = λ d l r s. subst (λ ss. AllByRecursion (Contains ss) (stamps_where_sent new d)) (sym (sent-kept sys h keep w epochs legal k p g i d r))
              (among-inside b f (causes_in (sent_messages sys h d)) (stamps_where_sent old d) (stamps_where_sent new d) (edge-domain sys h p d r a) (t.sent d l r s) (c.sent.here d l r));
        }

-- it has what it had of events outside a base, so far as each node keeps them
pub cut-outside : (flow : Dataflow) (p : ℕ) (f : Front) (T : SentTally → SentTally → Type 0) (old new : Traces) → IsWellFormed flow → HaveChanged flow p (StandsInside f) T old new
    → (sys : System) (h : List Event) (keep : ℕ → Frontier) → sys.flow ≡ flow → HasEpochs sys → IsLegal sys h → keep p ≡ node_frontier flow p f → IsTraceAmong sys h p old
    → (these : List Event) (base : Frontier) → HasTraceOutside flow these p base old → HasTraceOutside flow (kept_events flow keep these) p base new
cut-outside flow p f T old new well change sys h keep e epochs legal is t these base o =
    subst (λ g. IsWellFormed g → HaveChanged g p (StandsInside f) T old new → keep p ≡ node_frontier g p f → HasTraceOutside g these p base old
    → HasTraceOutside g (kept_events g keep these) p base new) e here well change is o
  where
    here : IsWellFormed sys.flow → HaveChanged sys.flow p (StandsInside f) T old new → keep p ≡ node_frontier sys.flow p f → HasTraceOutside sys.flow these p base old
        → HasTraceOutside sys.flow (kept_events sys.flow keep these) p base new
    here w c i has =
        let b = bounds_of sys.flow p in
        let g = node_frontier sys.flow p f in
        let a = legal_events-in_domain sys h w epochs legal p in
        record {
          delivered = λ d l r.
              let all = map (λ (m : Message). m.at) (delivered_messages h d) in
              let own = among-domain b all (delivered_on old d) (subst (λ q. AreEventsInDomain sys.flow h q → AreOf (bounds_of sys.flow q) all) r (delivered-domain sys h d) a) (t.delivered d l r) in
              subst (λ ss. HasOutside base ss (delivered_on new d)) (sym (delivered-kept sys these keep p g i d r))
              (inside-outside g base (map (λ (m : Message). m.at) (delivered_messages these d)) (delivered_on old d) (delivered_on new d)
              (left-inside b f (delivered_on old d) (delivered_on new d) own (c.delivered.here d l r)) (has.delivered d l r));
          notified =
              let own = among-domain b (flat_map (stamp_of_notice p) h) (stamps_notified old p) (notices-domain sys h p a) t.notified in
              subst (λ ss. HasOutside base ss (stamps_notified new p)) (sym (notices-kept sys.flow keep these p ∙ ap (λ x. filter x (flat_map (stamp_of_notice p) these)) i))
              (inside-outside g base (flat_map (stamp_of_notice p) these) (stamps_notified old p) (stamps_notified new p)
              (left-inside b f (stamps_notified old p) (stamps_notified new p) own c.notified.here) has.notified);
        }

-- ---- where all is known that is asked

-- where all of a node's events are known outside a base, and neither where it sent is asked nor how much, this is its trace
pub known-trace : (sys : System) (h these : List Event) (p : ℕ) (base : Frontier) (traces : Traces) → events_at sys.flow p these ≡ events_at sys.flow p h
    → tells_sent sys.flow p ≡ false → counts_sent sys.flow p ≡ false → IsTraceAmong sys h p traces → HasTraceOutside sys.flow these p base traces → IsTraceIf false sys h p base traces
known-trace sys h these p base traces same told counts t o = record {
  delivered = λ d l r. record {
    among = t.delivered d l r;
    outside = subst (λ ms. HasOutside base (map (λ (m : Message). m.at) ms) (delivered_on traces d))
        (sym (delivered-at sys.flow these d) ∙ ap (λ vs. delivered_messages vs d) (subst (λ q. events_at sys.flow q these ≡ events_at sys.flow q h) (sym r) same) ∙ delivered-at sys.flow h d)
        (o.delivered d l r);
    inside = λ w. absurd (cc);
  };
  notified = record {
    among = t.notified;
    outside = subst (λ ss. HasOutside base ss (stamps_notified traces p))
        (sym (notices-at sys.flow these p) ∙ ap (flat_map (stamp_of_notice p)) same ∙ notices-at sys.flow h p) o.notified;
    inside = λ w. absurd (cc);
  };
  sent = λ d l r s.
      let all = causes_in (sent_messages sys h d) in
      subst (λ c. StandForCauses sys.flow p false (cond c base (λ t. true)) all (stamps_where_sent traces d)) (sym told)
      (for-same sys.flow p false (λ t. true) all (stamps_where_sent traces d) (untold-if false all (stamps_where_sent traces d) (t.sent d l r s)));
  counted = λ c. absurd (two_ways (counts_sent sys.flow p) c counts);
}

-- of a node of a kind that is not notified there is no notice
no-notices : (sys : System) (h : List Event) (p : ℕ) → IsLegal sys h → is_notified_kind (kind_of sys.flow p) ≡ false → flat_map (stamp_of_notice p) h ≡ []
no-notices sys [] p l n = refl
no-notices sys (Inject s x ∷ h) p l n = no-notices sys h p l.1 n
no-notices sys (Deliver e m ∷ h) p l n = no-notices sys h p l.1 n
no-notices sys (Notify q t ∷ h) p l n = by (q == p) refl (no-notices sys h p l.1 n)
  where
    by : (b : Bool) → (q == p) ≡ b → flat_map (stamp_of_notice p) h ≡ [] → cond b (t ∷ []) [] ++ flat_map (stamp_of_notice p) h ≡ []
    by true e rest =
        let kind = is_notified_kind (kind_of sys.flow q) in
        let both = and_parts (kind && was_delivered_to sys.flow q t h) (not (was_notified q t h)) l.0.is_owed in
        absurd (two_ways kind (and_parts kind (was_delivered_to sys.flow q t h) both.0).0 (ap (λ x. is_notified_kind (kind_of sys.flow x)) (eqb-true q p e) ∙ n))
    by false e rest = rest

-- into an input no edge leads
no-edges : (flow : Dataflow) → IsWellFormed flow → (p : ℕ) → p < length flow.nodes → kind_of flow p ≡ Input → (d : ℕ) → d < length flow.edges → receiver flow d ≡ p → ⊥
no-edges flow w p l is = in_edges-at (λ d. ⊥) flow p (subst (AllByRecursion (λ d. ⊥)) (sym (none (in_edges flow p) (subst (λ k. IsInDegree k (length (in_edges flow p))) is (w.in_degrees p l)))) tt)
  where
    none : (es : List ℕ) → length es ≡ 0 → es ≡ []
    none [] z = refl
    none (e ∷ es) z = absurd (omega (arith, z))

-- where each stamp outside a base is known at which an input sent, this is its trace
pub input-trace : (sys : System) (h : List Event) (p : ℕ) (base : Frontier) (traces : Traces) → IsWellFormed sys.flow → IsLegal sys h → p < length sys.flow.nodes
    → kind_of sys.flow p ≡ Input → IsTraceAmong sys h p traces
    → ((e : ℕ) → e < length sys.flow.edges → sender sys.flow e ≡ p → HasOutside base (causes_in (sent_messages sys h e)) (stamps_where_sent traces e))
    → IsTraceIf false sys h p base traces
input-trace sys h p base traces w legal l is t o =
    let none : policy_of sys.flow p ≡ policy.None = subst (λ k. IsPolicyAllowed k (policy_of sys.flow p)) is (w.policies p l) in
    record {
      delivered = λ d i r. absurd (no-edges sys.flow w p l is d i r);
      notified = record {
        among = t.notified;
        outside = subst (λ ss. HasOutside base ss (stamps_notified traces p)) (sym (no-notices sys h p legal (ap is_notified_kind is))) tt;
        inside = λ k. absurd (cc);
      };
      sent = λ d i r s. subst (λ x. StandForCauses sys.flow p false (cond (not (can_resend x)) base (λ t. true)) (causes_in (sent_messages sys h d)) (stamps_where_sent traces d)) (sym none)
          (for-same sys.flow p false base (causes_in (sent_messages sys h d)) (stamps_where_sent traces d)
          (record { among = t.sent d i r s; outside = o d i r; inside = λ k. absurd (cc) }));
      counted = λ c. absurd (two_ways (takes_checkpoints (policy_of sys.flow p)) c (ap takes_checkpoints none));
    }

-- what is kept where nothing is kept anywhere
nothing-at : {A : Type 0} (none : A) (xs : List A) → AllByRecursion (λ x. x ≡ none) xs → (i : ℕ) → get_or xs i none ≡ none
nothing-at none [] a i = refl
nothing-at none (x ∷ xs) a zero = a.0
nothing-at none (x ∷ xs) a (suc i) = nothing-at none xs a.1 i

thinned-none : (whole : Bool) (base : Frontier) → IsThinnedIf whole base [] []
thinned-none whole base = record { among = tt; outside = tt; inside = λ k. tt }

-- lists of nothing are the traces of no event
pub none-trace : (whole : Bool) (sys : System) (p : ℕ) (base : Frontier) (traces : Traces) → AllByRecursion (λ kept. kept ≡ []) traces.delivered.items
    → AllByRecursion (λ kept. kept ≡ []) traces.notified.items → AllByRecursion (λ kept. kept ≡ []) traces.sent.items → AllByRecursion (λ tally. tally ≡ no_tally) traces.counted.items
    → IsTraceIf whole sys [] p base traces
none-trace whole sys p base traces delivered notified sent counted = record {
  delivered = λ d l r. subst (IsThinnedIf whole base []) (sym (nothing-at [] traces.delivered.items delivered d)) (thinned-none whole base);
  notified = subst (IsThinnedIf whole base []) (sym (nothing-at [] traces.notified.items notified p)) (thinned-none whole base);
  sent = λ d l r s.
      let told = whole && tells_sent sys.flow p in
      let inside = base_of_sent sys.flow p base in
      subst (StandForCauses sys.flow p told inside (causes_in (sent_messages sys [] d))) (sym (nothing-at [] traces.sent.items sent d))
      (subst (λ ms. StandForCauses sys.flow p told inside (causes_in ms) []) (sym (carried-none sys.flow d)) (for-same sys.flow p told inside [] [] (thinned-none told inside)));
  counted = λ c. subst (IsSentTally base []) (sym (nothing-at no_tally traces.counted.items counted p)) (λ f w. refl);
}

-- traces of no event are of each history
pub none-among : (sys : System) (p : ℕ) (traces : Traces) → ((base : Frontier) → IsTraceIf false sys [] p base traces) → (h : List Event) → IsTraceAmong sys h p traces
none-among sys p traces f h = record {
  delivered = λ d l r. each-weaker (Contains []) (Contains (map (λ (m : Message). m.at) (delivered_messages h d))) (delivered_on traces d) (λ s c. absurd (nothing-in s c)) (t.delivered d l r).among;
  notified = each-weaker (Contains []) (Contains (flat_map (stamp_of_notice p) h)) (stamps_notified traces p) (λ s c. absurd (nothing-in s c)) t.notified.among;
  sent = λ d l r s. each-weaker (Contains []) (Contains (causes_in (sent_messages sys h d))) (stamps_where_sent traces d) (λ u c. absurd (nothing-in u c))
      (subst (λ ms. AllByRecursion (Contains (causes_in ms)) (stamps_where_sent traces d)) (carried-none sys.flow d) (for-less sys.flow p (base_of_sent sys.flow p (λ u. true)) (causes_in (sent_messages sys [] d)) (stamps_where_sent traces d) (t.sent d l r s)).among);
}
  where
    t : IsTraceIf false sys [] p (λ s. true) traces
    t = f (λ s. true)

    nothing-in : (s : Stamp) → Contains [] s → ⊥
    nothing-in s c = absurd (omega (arith, c.1))

-- ---- one stamp more

-- what is among some stays so with one more that is
added-among : (at : Stamp) (all old new : List Stamp) → HasAdded at old new → Contains all at → AllByRecursion (Contains all) old → AllByRecursion (Contains all) new
added-among at all old new is c a = subst (AllByRecursion (Contains all)) (sym is) (insert-each (Contains all) old at c a)

-- what a list has, it has with one more
added-has : (at : Stamp) (old new : List Stamp) → HasAdded at old new → Contains new at × AllByRecursion (Contains new) old
added-has at old new is =
    subst (λ ss. Contains ss at × AllByRecursion (Contains ss) old) (sym is) (each_of-insert (Contains (insert_key stamp_cmp old at)) old at (each-itself (insert_key stamp_cmp old at)))

-- outside a base it has what it had
added-outside : (at : Stamp) (base : Frontier) (these old new : List Stamp) → HasAdded at old new → HasOutside base these old → HasOutside base these new
added-outside at base these old new is o =
    each-weaker (λ t. base t ≡ false → Contains old t) (λ t. base t ≡ false → Contains new t) these (λ t c k. each-contained (Contains new) t old (c k) (added-has at old new is).1) o

-- one that was delivered
pub delivered_more-among : (e : ℕ) (at : Stamp) (old new : Traces) → HasDeliveredMore e at old new → (sys : System) (h : List Event) (p : ℕ)
    → (receiver sys.flow e ≡ p → Contains (map (λ (m : Message). m.at) (delivered_messages h e)) at) → IsTraceAmong sys h p old → IsTraceAmong sys h p new
delivered_more-among e at old new c sys h p has t = record {
  delivered = λ d l r. elim (cases_eq d e) [
    | inl i ↦ subst (λ x. receiver sys.flow x ≡ p → AllByRecursion (Contains (map (λ (m : Message). m.at) (delivered_messages h x))) (delivered_on old x)
        → AllByRecursion (Contains (map (λ (m : Message). m.at) (delivered_messages h x))) (delivered_on new x)) (sym i)
        (λ into a. added-among at (map (λ (m : Message). m.at) (delivered_messages h e)) (delivered_on old e) (delivered_on new e) c.delivered.here (has into) a) r (t.delivered d l r)
    | inr n ↦ subst (AllByRecursion (Contains (map (λ (m : Message). m.at) (delivered_messages h d)))) (sym (c.delivered.others d n)) (t.delivered d l r)
  ];
  notified = subst (AllByRecursion (Contains (flat_map (stamp_of_notice p) h))) (sym (ap (λ xs. get_or xs p []) c.notified)) t.notified;
  sent = λ d l r s. subst (AllByRecursion (Contains (causes_in (sent_messages sys h d)))) (sym (ap (λ xs. get_or xs d []) c.sent)) (t.sent d l r s);
}

pub delivered_more-outside : (e : ℕ) (m : Message) (old new : Traces) → HasDeliveredMore e m.at old new → (flow : Dataflow) (these : List Event) (p : ℕ) (base : Frontier)
    → HasTraceOutside flow these p base old → HasTraceOutside flow (Deliver e m ∷ these) p base new
delivered_more-outside e m old new c flow these p base t = record {
  delivered = λ d l r. elim (cases_eq d e) [
    | inl i ↦ subst (λ x. HasOutside base (map (λ (z : Message). z.at) (delivered_messages these x)) (delivered_on old x)
        → HasOutside base (map (λ (z : Message). z.at) (cond (e == x) (m ∷ []) [] ++ delivered_messages these x)) (delivered_on new x)) (sym i)
        (λ a. subst (λ b. HasOutside base (map (λ (z : Message). z.at) (cond b (m ∷ []) [] ++ delivered_messages these e)) (delivered_on new e)) (sym (eq-eqb e e refl)) (
          (λ o. (added-has m.at (delivered_on old e) (delivered_on new e) c.delivered.here).0),
          added-outside m.at base (map (λ (z : Message). z.at) (delivered_messages these e)) (delivered_on old e) (delivered_on new e) c.delivered.here a,
        ))
        (t.delivered d l r)
    | inr n ↦ subst (λ b. HasOutside base (map (λ (z : Message). z.at) (cond b (m ∷ []) [] ++ delivered_messages these d)) (delivered_on new d))
        (sym (false_from_ne_true (e == d) (λ k. n (sym (eqb-true e d k)))))
        (subst (HasOutside base (map (λ (z : Message). z.at) (delivered_messages these d))) (sym (c.delivered.others d n)) (t.delivered d l r))
  ];
  notified = subst (HasOutside base (flat_map (stamp_of_notice p) these)) (sym (ap (λ xs. get_or xs p []) c.notified)) t.notified;
}

-- one of which a node was notified
pub notified_more-among : (q : ℕ) (at : Stamp) (old new : Traces) → HasNotifiedMore q at old new → (sys : System) (h : List Event) (p : ℕ)
    → (q ≡ p → Contains (flat_map (stamp_of_notice p) h) at) → IsTraceAmong sys h p old → IsTraceAmong sys h p new
notified_more-among q at old new c sys h p has t = record {
  delivered = λ d l r. subst (AllByRecursion (Contains (map (λ (m : Message). m.at) (delivered_messages h d)))) (sym (ap (λ xs. get_or xs d []) c.delivered)) (t.delivered d l r);
  notified = elim (cases_eq p q) [
    | inl i ↦ added-among at (flat_map (stamp_of_notice p) h) (stamps_notified old p) (stamps_notified new p)
        (subst (λ x. HasAdded at (stamps_notified old x) (stamps_notified new x)) (sym i) c.notified.here) (has (sym i)) t.notified
    | inr n ↦ subst (AllByRecursion (Contains (flat_map (stamp_of_notice p) h))) (sym (c.notified.others p n)) t.notified
  ];
  sent = λ d l r s. subst (AllByRecursion (Contains (causes_in (sent_messages sys h d)))) (sym (ap (λ xs. get_or xs d []) c.sent)) (t.sent d l r s);
}

pub notified_more-outside : (q : ℕ) (at : Stamp) (old new : Traces) → HasNotifiedMore q at old new → (flow : Dataflow) (these : List Event) (p : ℕ) (base : Frontier)
    → HasTraceOutside flow these p base old → HasTraceOutside flow (Notify q at ∷ these) p base new
notified_more-outside q at old new c flow these p base t = record {
  delivered = λ d l r. subst (HasOutside base (map (λ (z : Message). z.at) (delivered_messages these d))) (sym (ap (λ xs. get_or xs d []) c.delivered)) (t.delivered d l r);
  notified = elim (cases_eq p q) [
    | inl i ↦
        let added : HasAdded at (stamps_notified old p) (stamps_notified new p) = subst (λ x. HasAdded at (stamps_notified old x) (stamps_notified new x)) (sym i) c.notified.here in
        subst (λ b. HasOutside base (cond b (at ∷ []) [] ++ flat_map (stamp_of_notice p) these) (stamps_notified new p)) (sym (eq-eqb q p (sym i))) (
          (λ o. (added-has at (stamps_notified old p) (stamps_notified new p) added).0),
          added-outside at base (flat_map (stamp_of_notice p) these) (stamps_notified old p) (stamps_notified new p) added t.notified,
        )
    | inr n ↦ subst (λ b. HasOutside base (cond b (at ∷ []) [] ++ flat_map (stamp_of_notice p) these) (stamps_notified new p))
        (sym (false_from_ne_true (q == p) (λ k. n (sym (eqb-true q p k)))))
        (subst (HasOutside base (flat_map (stamp_of_notice p) these)) (sym (c.notified.others p n)) t.notified)
  ];
}

-- one at which something was sent on an edge
pub sent_more-among : (e : ℕ) (at : Stamp) (old new : Traces) → HasSentMore e at old new → (sys : System) (h : List Event) (p : ℕ)
    → (sender sys.flow e ≡ p → Contains (causes_in (sent_messages sys h e)) at) → IsTraceAmong sys h p old → IsTraceAmong sys h p new
sent_more-among e at old new c sys h p has t = record {
  delivered = λ d l r. subst (AllByRecursion (Contains (map (λ (m : Message). m.at) (delivered_messages h d)))) (sym (ap (λ xs. get_or xs d []) c.delivered)) (t.delivered d l r);
  notified = subst (AllByRecursion (Contains (flat_map (stamp_of_notice p) h))) (sym (ap (λ xs. get_or xs p []) c.notified)) t.notified;
  sent = λ d l r s. elim (cases_eq d e) [
    | inl i ↦ subst (λ x. sender sys.flow x ≡ p → AllByRecursion (Contains (causes_in (sent_messages sys h x))) (stamps_where_sent old x)
        → AllByRecursion (Contains (causes_in (sent_messages sys h x))) (stamps_where_sent new x)) (sym i)
        (λ from a. added-among at (causes_in (sent_messages sys h e)) (stamps_where_sent old e) (stamps_where_sent new e) c.sent.here (has from) a) r (t.sent d l r s)
    | inr n ↦ subst (AllByRecursion (Contains (causes_in (sent_messages sys h d)))) (sym (c.sent.others d n)) (t.sent d l r s)
  ];
}

pub sent_more-outside : (e : ℕ) (at : Stamp) (old new : Traces) → HasSentMore e at old new → (of : Dataflow) (these : List Event) (p : ℕ) (base : Frontier)
    → HasTraceOutside of these p base old → HasTraceOutside of these p base new
sent_more-outside e at old new c of these p base t = record {
  delivered = λ d l r. subst (HasOutside base (map (λ (z : Message). z.at) (delivered_messages these d))) (sym (ap (λ xs. get_or xs d []) c.delivered)) (t.delivered d l r);
  notified = subst (HasOutside base (flat_map (stamp_of_notice p) these)) (sym (ap (λ xs. get_or xs p []) c.notified)) t.notified;
}

pub sent_more-has : (e : ℕ) (at : Stamp) (old new : Traces) → HasSentMore e at old new
    → (stamps : List Stamp) (base : Frontier) → HasOutside base stamps (stamps_where_sent old e) → HasOutside base (at ∷ stamps) (stamps_where_sent new e)
sent_more-has e at old new c stamps base o = (
  (λ k. (added-has at (stamps_where_sent old e) (stamps_where_sent new e) c.sent.here).0),
  added-outside at base stamps (stamps_where_sent old e) (stamps_where_sent new e) c.sent.here o,
)

-- an event inside the base needs not be there
pub outside-passes : (flow : Dataflow) (v : Event) (these : List Event) (p : ℕ) (base : Frontier) (traces : Traces) → (event_node flow v ≡ p → base (event_stamp v) ≡ true)
    → HasTraceOutside flow these p base traces → HasTraceOutside flow (v ∷ these) p base traces
outside-passes flow (Inject q x) these p base traces i t = record { delivered = t.delivered; notified = t.notified }
outside-passes flow (Deliver e m) these p base traces i t = record {
  delivered = λ d l r. elim (cases_eq d e) [
    | inl same ↦
        let into : receiver flow e ≡ p = sym (ap (receiver flow) same) ∙ r in
        subst (λ b. HasOutside base (map (λ (z : Message). z.at) (cond b (m ∷ []) [] ++ delivered_messages these d)) (delivered_on traces d)) (sym (eq-eqb e d (sym same)))
        ((λ o. absurd (two_ways (base m.at) (i into) o)), t.delivered d l r)
    | inr n ↦ subst (λ b. HasOutside base (map (λ (z : Message). z.at) (cond b (m ∷ []) [] ++ delivered_messages these d)) (delivered_on traces d))
        (sym (false_from_ne_true (e == d) (λ k. n (sym (eqb-true e d k))))) (t.delivered d l r)
  ];
  notified = t.notified;
}
outside-passes flow (Notify q at) these p base traces i t = record {
  delivered = t.delivered;
  notified = elim (cases_eq q p) [
    | inl same ↦ subst (λ b. HasOutside base (cond b (at ∷ []) [] ++ flat_map (stamp_of_notice p) these) (stamps_notified traces p)) (sym (eq-eqb q p same))
        ((λ o. absurd (two_ways (base at) (i same) o)), t.notified)
    | inr n ↦ subst (λ b. HasOutside base (cond b (at ∷ []) [] ++ flat_map (stamp_of_notice p) these) (stamps_notified traces p)) (sym (false_from_ne_true (q == p) (λ k. n (eqb-true q p k)))) t.notified
  ];
}
