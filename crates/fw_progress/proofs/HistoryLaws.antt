-- Counts of a history: what they say of frontiers is what the history says.
use Rattle.std.proofs.Common.{◌≡◌, ℕ, ◌+◌, ◌<◌, ◌≤◌, Bool, true, false, not, ◌&&◌, ◌||◌, ◌==◌, nat_lt, cond, List, [], ◌∷◌, length, refl, sym, ap, subst, ◌∙◌, inl, inr, arith}
use Rattle.std.specs.List.{list_all}
use Rattle.std.specs.Map.{keys_of}
use Rattle.std.proofs.lemmas.Bool.{and_parts, and_from, cases_lt, or_parts}
use Rattle.std.proofs.lemmas.List.{get_or_past}
use Rattle.fw_lemmas.proofs.Bools.{implies-from}
use Rattle.fw_lemmas.proofs.Each.{each-of_all, all-of_each}
use Rattle.fw_time.specs.Stamp.{Stamp, leq, same, in_domain}
use Rattle.fw_time.proofs.StampLaws.{leq-refl}
use Rattle.fw_frontier.specs.Frontier.{Frontier}
use Rattle.fw_frontier.specs.Front.{Front, inside}
use Rattle.fw_frontier.proofs.NamesLaws.{frontier-closed}
use Rattle.fw_flow.specs.declared.event.Event.{Event}
use Rattle.fw_flow.specs.declared.event.Message.{Message}
use Rattle.fw_flow.specs.Dataflow.{System, Dataflow, kind_of, sender, receiver, in_edges, bounds_of, is_input_kind, node_frontier}
use Rattle.fw_flow.specs.Projection.{first_coordinate, phi, phi_by_count, table_count}
use Rattle.fw_flow.specs.WellFormed.{IsWellFormed}
use Rattle.fw_flow.proofs.EdgeLaws.{in_edges-at, in_edges-from, kind-past}
use Rattle.fw_flow.proofs.ProjectionLaws.{phi-by_table}
use Rattle.fw_model.specs.History.{some_at, pending_messages, injected_epochs, IsAdmissible, IsComplete}
use Rattle.fw_model.specs.LawsOfProgress.{IsOpen}
use Rattle.fw_model.specs.Machine.{front_of, family_of}
use Rattle.fw_model.proofs.LesserLaws.{lesser-in_domain}
use Rattle.fw_model.proofs.CompleteLaws.{not_past}
use Rattle.fw_model.proofs.DescentLaws.{past_edges-joined, past_edges-quiet, past_edges-phi}
use Rattle.fw_model.proofs.ProgressLaws.{stuck-complete}
use Rattle.fw_progress.specs.declared.counts.Counts.{Counts}
use Rattle.fw_progress.specs.Counts.{pending_of, owed_of, batches_in, injected_in, sent_of, AreCounts, given_by, clear_by, come_by, target_by, IsAdmissibleBy, is_in, AreStuckOutside}
use Rattle.fw_progress.specs.History.{count_at, IsCountOf, AreKeptAdmissible}
use Rattle.fw_progress.proofs.TallyLaws.{none-inside, inside-none, has_one-none, none-has_one}

-- ---- none is at a stamp

pub some-count : (t : Stamp) (ms : List Message) → some_at (same t) ms ≡ false → count_at t ms ≡ 0
some-count t [] k = refl
some-count t (m ∷ ms) k =
    let both = or_parts (same t m.at) (some_at (same t) ms) k in
    ap (λ b. cond b (count_at t ms + 1) (count_at t ms)) both.0 ∙ some-count t ms both.1

pub count-some : (t : Stamp) (ms : List Message) → count_at t ms ≡ 0 → some_at (same t) ms ≡ false
count-some t [] z = refl
count-some t (m ∷ ms) z = by (same t m.at) z (count-some t ms)
  where
    by : (b : Bool) → cond b (count_at t ms + 1) (count_at t ms) ≡ 0 → (count_at t ms ≡ 0 → some_at (same t) ms ≡ false) → (b || some_at (same t) ms) ≡ false
    by true y f = absurd (omega (arith, y))
    by false y f = f y

-- ---- what can come

pub phi-is : (sys : System) (h : List Event) (counts : Counts) → IsWellFormed sys.flow → IsCountOf sys h counts → (e : ℕ) → e < length sys.flow.edges → (f : Frontier) (u : Stamp)
    → phi_by_count sys.flow (table_count f (sent_of counts (sender sys.flow e))) e f u ≡ phi sys h e f u
unfolding phi_by_count
phi-is sys h counts w c e l f u = sym (phi-by_table sys h e f (sent_of counts (sender sys.flow e)) (c.sent (sender sys.flow e) (w.senders_declared e l)) u)

-- what was injected by the counts and by the history
injected-is : (sys : System) (h : List Event) (counts : Counts) → IsCountOf sys h counts → (p : ℕ) → p < length sys.flow.nodes → (t : Stamp)
    → (in_domain (bounds_of sys.flow p) t && (injected_in counts p == batches_in counts p || nat_lt (first_coordinate t) (injected_in counts p))) ≡ injected_epochs sys h p t
injected-is sys h counts c p l t = (λ i. in_domain (bounds_of sys.flow p) t && (c.injected p l i == c.batches p l i || nat_lt (first_coordinate t) (c.injected p l i)))

-- ---- what a node can have is what is open to it

pub target-open : (sys : System) (h : List Event) (counts : Counts) → IsWellFormed sys.flow → IsCountOf sys h counts → (done : ℕ → Frontier) (p : ℕ) → p < length sys.flow.nodes → (t : Stamp)
    → target_by sys.flow counts done p t ≡ true → IsOpen sys h done p t
target-open sys h counts w c done p l t i =
    let flow = sys.flow in
    let b = bounds_of flow p in
    let test : ℕ → Bool = λ e. come_by flow counts e (done (sender flow e)) t in
    let both = and_parts (clear_by flow counts p t) (list_all test (in_edges flow p)) i in
    let given = and_parts (given_by flow counts p t) (node_frontier flow p (keys_of (owed_of counts p)) t) both.0 in
    let free = and_parts (in_domain b t) (not (is_input_kind (kind_of flow p)) || (injected_in counts p == batches_in counts p || nat_lt (first_coordinate t) (injected_in counts p))) given.0 in
    let paid = (and_parts (in_domain b t) (inside (keys_of (owed_of counts p)) t) given.1).1 in
    let comes : (e : ℕ) → e < length flow.edges → receiver flow e ≡ p → (node_frontier flow (receiver flow e) (keys_of (pending_of counts e)) t ≡ true) × (phi_by_count flow (table_count (done (sender flow e)) (sent_of counts (sender flow e))) e (done (sender flow e)) t ≡ true) =
    λ e m r. and_parts _ _ (in_edges-at (λ d. test d ≡ true) flow p (each-of_all test (in_edges flow p) both.1) e m r) in
    record {
      of_domain = free.0;
      quiet = λ s k e r. elim (cases_lt e (length flow.edges)) [
        | inl m ↦ count-some s (pending_messages sys h e) (sym (c.pending e m s) ∙ none-inside (pending_of counts e) t (and_parts _ _ (comes e m r).0).1 s k)
        | inr m ↦ past_edges-quiet sys h e s m
      ];
      paid = λ s k. sym (c.owed p l s) ∙ none-has_one s (owed_of counts p) (none-inside (owed_of counts p) t paid s k);
      source = λ k. sym (injected-is sys h counts c p l t) ∙ and_from (in_domain b t) (injected_in counts p == batches_in counts p || nat_lt (first_coordinate t) (injected_in counts p)) free.0
          (subst (λ x. (not x || (injected_in counts p == batches_in counts p || nat_lt (first_coordinate t) (injected_in counts p))) ≡ true) k free.1);
      arrives = λ e m r. sym (phi-is sys h counts w c e m (done (sender flow e)) t) ∙ (comes e m r).1;
    }

pub open-target : (sys : System) (h : List Event) (counts : Counts) → IsWellFormed sys.flow → AreCounts sys.flow counts → IsCountOf sys h counts → (done : ℕ → Frontier) (p : ℕ) → p < length sys.flow.nodes → (t : Stamp)
    → IsOpen sys h done p t → target_by sys.flow counts done p t ≡ true
open-target sys h counts w a c done p l t is =
    let flow = sys.flow in
    let b = bounds_of flow p in
    let test : ℕ → Bool = λ e. come_by flow counts e (done (sender flow e)) t in
    let d = is.of_domain in
    let given = and_from (in_domain b t) (not (is_input_kind (kind_of flow p)) || (injected_in counts p == batches_in counts p || nat_lt (first_coordinate t) (injected_in counts p))) d
    (implies-from (is_input_kind (kind_of flow p)) (injected_in counts p == batches_in counts p || nat_lt (first_coordinate t) (injected_in counts p))
    (λ k. (and_parts (in_domain b t) (injected_in counts p == batches_in counts p || nat_lt (first_coordinate t) (injected_in counts p)) (injected-is sys h counts c p l t ∙ is.source k)).1)) in
    let paid = and_from (in_domain b t) (inside (keys_of (owed_of counts p)) t) d
    (inside-none (owed_of counts p) (a.owed p l).positive t (λ s k. has_one-none s (owed_of counts p) (c.owed p l s ∙ is.paid s k))) in
    and_from (clear_by flow counts p t) (list_all test (in_edges flow p))
    (and_from (given_by flow counts p t) (node_frontier flow p (keys_of (owed_of counts p)) t) given paid)
    (all-of_each test (in_edges flow p) (in_edges-from (λ e. test e ≡ true) flow p (λ e m r.
    and_from (node_frontier flow (receiver flow e) (keys_of (pending_of counts e)) t) (phi_by_count flow (table_count (done (sender flow e)) (sent_of counts (sender flow e))) e (done (sender flow e)) t)
    (and_from (in_domain (bounds_of flow (receiver flow e)) t) (inside (keys_of (pending_of counts e)) t) (ap (λ q. in_domain (bounds_of flow q) t) r ∙ d)
    (inside-none (pending_of counts e) (a.pending e m).positive t (λ s k. c.pending e m s ∙ some-count s (pending_messages sys h e) (is.quiet s k e r))))
    (phi-is sys h counts w c e m (done (sender flow e)) t ∙ is.arrives e m r))))

-- ---- admissible

-- each stamp of an admissible family is open
admissible-open : (sys : System) (h : List Event) (done : ℕ → Frontier) → IsAdmissible sys h done → (p : ℕ) (t : Stamp) → done p t ≡ true → IsOpen sys h done p t
admissible-open sys h done o p t i =
    let fr = o.frontier p in
    let d = fr.inside_domain t i in
    let down : (s : Stamp) → leq s t ≡ true → done p s ≡ true = λ s l. fr.closed s t (lesser-in_domain sys.flow p s t l d) l i in
    record {
      of_domain = d;
      quiet = λ s l. o.quiet p s (down s l);
      paid = λ s l. o.paid p s (down s l);
      source = λ is. o.source p is t i;
      arrives = λ e l r. o.follows e t (ap (λ q. done q t) r ∙ i);
    }

pub admissible-by : (sys : System) (h : List Event) (counts : Counts) → IsWellFormed sys.flow → AreCounts sys.flow counts → IsCountOf sys h counts → (done : ℕ → Frontier)
    → IsAdmissible sys h done → IsAdmissibleBy sys.flow counts done
admissible-by sys h counts w a c done o = record {
  frontier = o.frontier;
  within = λ p l t i. open-target sys h counts w a c done p l t (admissible-open sys h done o p t i);
}

past-inside : (flow : Dataflow) (fronts : List Front) (p : ℕ) (t : Stamp) → length fronts ≤ p → in_domain (bounds_of flow p) t ≡ true → family_of flow fronts p t ≡ true
past-inside flow fronts p t l d = and_from (in_domain (bounds_of flow p) t) (inside (front_of fronts p) t) d (ap (λ os. inside os t) (get_or_past fronts p [] l))

pub by-admissible : (sys : System) (h : List Event) (counts : Counts) → IsWellFormed sys.flow → IsCountOf sys h counts → (fronts : List Front) → length fronts ≡ length sys.flow.nodes
    → IsAdmissibleBy sys.flow counts (family_of sys.flow fronts) → IsAdmissible sys h (family_of sys.flow fronts)
by-admissible sys h counts w c fronts one a =
    let flow = sys.flow in
    let family = family_of flow fronts in
    let opens : (p : ℕ) → p < length flow.nodes → (t : Stamp) → family p t ≡ true → IsOpen sys h family p t = λ p l t i. target-open sys h counts w c family p l t (a.within p l t i) in
    record {
      frontier = a.frontier;
      quiet = λ p t i. elim (cases_lt p (length flow.nodes)) [
        | inl l ↦ (opens p l t i).quiet t (leq-refl t)
        | inr l ↦ λ e r. elim (cases_lt e (length flow.edges)) [
          | inl m ↦ let d = w.receivers_declared e m in absurd (omega arith)
          | inr m ↦ past_edges-quiet sys h e t m
        ]
      ];
      paid = λ p t i. elim (cases_lt p (length flow.nodes)) [ inl l ↦ (opens p l t i).paid t (leq-refl t) | inr l ↦ not_past sys h p t (kind-past flow p l) ];
      follows = λ e t i. elim (cases_lt e (length flow.edges)) [
        | inl l ↦ (opens (receiver flow e) (w.receivers_declared e l) t i).arrives e l refl
        | inr l ↦
            let j = past_edges-joined flow e l in
            let d = (frontier-closed (bounds_of flow (receiver flow e)) (front_of fronts (receiver flow e))).inside_domain t i in
            past_edges-phi sys h e (family (sender flow e)) t l (ap (λ q. in_domain (bounds_of flow q) t) j ∙ d) (ap (λ q. family q t) j ∙ i)
      ];
      source = λ p k t i. elim (cases_lt p (length flow.nodes)) [
        | inl l ↦ (opens p l t i).source k
        | inr l ↦ let x = ap is_input_kind (kind-past flow p l) in absurd (cc)
      ];
    }

-- ---- kept frontiers

pub kept-by : (sys : System) (h : List Event) (counts : Counts) → IsWellFormed sys.flow → AreCounts sys.flow counts → IsCountOf sys h counts → (kept : List Front) (work : List ℕ) → AreKeptAdmissible sys h kept work
    → IsAdmissibleBy sys.flow counts (family_of sys.flow kept) × AreStuckOutside sys.flow counts kept work
kept-by sys h counts w a c kept work k = (
  admissible-by sys h counts w a c (family_of sys.flow kept) k.admissible,
  λ p l out t i. k.stuck p l out t (target-open sys h counts w c (family_of sys.flow kept) p l t i),
)

pub by-kept : (sys : System) (h : List Event) (counts : Counts) → IsWellFormed sys.flow → AreCounts sys.flow counts → IsCountOf sys h counts → (kept : List Front) (work : List ℕ) → length kept ≡ length sys.flow.nodes
    → IsAdmissibleBy sys.flow counts (family_of sys.flow kept) → AreStuckOutside sys.flow counts kept work → AreKeptAdmissible sys h kept work
by-kept sys h counts w a c kept work one ad s = record {
  admissible = by-admissible sys h counts w c kept one ad;
  stuck = λ p l out t is. s p l out t (open-target sys h counts w a c (family_of sys.flow kept) p l t is);
}

-- where no node waits the kept frontiers are complete
pub kept-complete : (sys : System) (h : List Event) → IsWellFormed sys.flow → (kept : List Front) (work : List ℕ) → length kept ≡ length sys.flow.nodes → work ≡ [] → AreKeptAdmissible sys h kept work
    → IsComplete sys h (family_of sys.flow kept)
kept-complete sys h w kept work one e k =
    stuck-complete sys h (family_of sys.flow kept) w k.admissible (λ p t is. elim (cases_lt p (length sys.flow.nodes)) [
      | inl l ↦ k.stuck p l (ap (λ ps. is_in ps p) e) t is
      | inr l ↦ past-inside sys.flow kept p t (omega (arith, l, one)) is.of_domain
    ])
