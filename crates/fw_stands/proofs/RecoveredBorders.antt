-- Inputs and outputs after a recovery, and what is settled.
use Rattle.std.proofs.Common.{◌≡◌, ℕ, ◌<◌, ◌≤◌, Bool, true, false, cond, ◌&&◌, ◌||◌, ◌==◌, not, nat_lt, List, [], ◌∷◌, ◌++◌, length, Some, refl, sym, ap, subst, ◌∙◌, inl, inr, arith}
use Rattle.std.proofs.lemmas.Bool.{and_parts, cases_lt, cond_both, cond-true, cond-false, eqb-true, false_from_ne_true, lt-ltb, le-ltb}
use Rattle.fw_lemmas.proofs.Bools.{two_ways}
use Rattle.fw_lemmas.proofs.Each.{each-weaker}
use Rattle.fw_lemmas.proofs.Filters.{flat_map-filter}
use Rattle.fw_time.specs.Stamp.{Stamp, leq, same, in_domain}
use Rattle.fw_bag.specs.declared.rec.Rec.{Rec}
use Rattle.fw_bag.specs.Keyed.{sorted_recs}
use Rattle.fw_frontier.specs.Frontier.{Frontier}
use Rattle.fw_frontier.specs.Front.{Front, inside, IsCanonical}
use Rattle.fw_flow.specs.declared.choice.Choice.{Choice}
use Rattle.fw_flow.specs.declared.choice.Cut.{Cut}
use Rattle.fw_flow.specs.declared.choice.Cut.TheVariants.{Present, At}
use Rattle.fw_flow.specs.declared.event.Event.{Event}
use Rattle.fw_flow.specs.declared.event.Event.TheVariants.{Inject, Deliver, Notify}
use Rattle.fw_flow.specs.Kind.{Kind}
use Rattle.fw_flow.specs.declared.kind.Kind.TheVariants.{OutputEpoch, OutputNumber}
use Rattle.fw_flow.specs.declared.kind.Policy.{Policy}
use Rattle.fw_flow.specs.declared.restoring.Restoring.TheVariants.{Batches, Bound}
use Rattle.fw_flow.specs.Dataflow.{System, Dataflow, kind_of, policy_of, receiver, bounds_of, is_input_kind, is_output_kind}
use Rattle.fw_flow.specs.NodeFunction.{event_node, event_stamp, rec_of_delivery, delivered_recs}
use Rattle.fw_flow.specs.Restoring.{restoring, way_of}
use Rattle.fw_flow.specs.WellFormed.{IsWellFormedSystem}
use Rattle.fw_model.specs.Choice.{kept, until, cut_of, kept_of, IsRestorable, IsCandidate, IsLargest}
use Rattle.fw_model.specs.Covers.{set_of}
use Rattle.fw_model.specs.Filtering.{kept_events}
use Rattle.fw_model.specs.History.{is_injection, injected_count}
use Rattle.fw_model.specs.Machine.{Machine, events, front_of, is_failed, ack_count_of}
use Rattle.fw_model.specs.Steps.{IsSettledCut, recovered_state, offers, CutsTo}
use Rattle.fw_model.proofs.AskedLaws.{reached-all}
use Rattle.fw_model.proofs.FilterLaws.{how_many-filter}
use Rattle.fw_model.proofs.InjectionLaws.{until-leaves}
use Rattle.fw_model.proofs.LegalLaws.{legal-in_domain}
use Rattle.fw_model.proofs.LowLaws.{input-is}
use Rattle.fw_model.proofs.StampLaws.{line-leq, leq-line, same-is}
use Rattle.fw_model.specs.Reached.{IsReached}
use Rattle.fw_border.specs.Numbers.{is_number_below}
use Rattle.fw_border.specs.Sources.{SourceState, rolled_source, epochs_inside}
use Rattle.fw_border.proofs.NumberLaws.{epochs_below, epochs_all}
use Rattle.fw_stands.specs.Recovered.{Recovers, IsSettledBy}
use Rattle.fw_stands.specs.Parts.{kept_recs, IsSourceOf}
use Rattle.fw_stands.proofs.RecoveredFacts.{knows, none_failed, present_lives, events-now}
use Rattle.fw_policy.specs.View.{IsLostAt}

-- ---- who is failed, and what is lost

-- after a recovery no node is failed
pub none-failed : (sys : System) (state : Machine) (choice : Choice) (settled : List Front) (p : ℕ)
    → is_failed (recovered_state sys state choice settled) p ≡ false
none-failed sys state choice settled p = none_failed sys state choice settled p

-- and no event is lost
pub none-lost : (sys : System) (state : Machine) (choice : Choice) (settled : List Front) (p : ℕ) (t : Stamp)
    → IsLostAt sys (recovered_state sys state choice settled) p t → ⊥
none-lost sys state choice settled p t l = two_ways (is_failed (recovered_state sys state choice settled) p) l.0 (none_failed sys state choice settled p)

-- ---- what is settled

settled-by : (sys : System) (p : ℕ) (cut : Cut) (before after : Front) → IsCanonical (bounds_of sys.flow p) before
    → ((f : Front) → cut ≡ At f → IsCanonical (bounds_of sys.flow p) f) → IsSettledBy before cut after → IsSettledCut sys p cut before after
settled-by sys p Present before after old new s = s
settled-by sys p (At f) before after old new s = s (bounds_of sys.flow p) old (new f refl)

-- where the fronts are what the cuts of a largest choice leave of settled, settled is cut to them
pub settled-by_cuts : (sys : System) (state : Machine) (choice : Choice) → IsWellFormedSystem sys → IsReached sys state
    → IsLargest sys state (offers sys state) choice → (settled : List Front) → length settled ≡ length sys.flow.nodes
    → ((p : ℕ) → p < length sys.flow.nodes → IsSettledBy (front_of state.settled p) (cut_of choice p) (front_of settled p))
    → CutsTo sys state choice settled
settled-by_cuts sys state choice w reached largest settled n each =
    let all = reached-all sys w reached.0 reached.1 state reached.2 in
    record {
      one_each = n;
      each = λ p l. settled-by sys p (cut_of choice p) (front_of state.settled p) (front_of settled p) (all.restore.settled p l)
          (λ f is. (subst (IsCandidate sys state (is_failed state) kept p) is (largest.consistent.offered p l)).0) (each p l);
    }

-- ---- inputs

injection-at : (flow : Dataflow) (s : ℕ) (v : Event) → is_injection s v ≡ true → event_node flow v ≡ s
injection-at flow s (Inject q x) i = eqb-true q s i
injection-at flow s (Deliver e m) i = absurd (two_ways false i refl)
injection-at flow s (Notify q t) i = absurd (two_ways false i refl)

-- where a node keeps all stamps of its domain it keeps its injections
injected-all : (sys : System) (state : Machine) (choice : Choice) (settled : List Front) → Recovers sys state choice settled → (s : ℕ)
    → ((t : Stamp) → in_domain (bounds_of sys.flow s) t ≡ true → kept_of sys.flow choice s t ≡ true)
    → injected_count s (events (recovered_state sys state choice settled).history) ≡ injected_count s (events state.history)
injected-all sys state choice settled r s all =
    let k = knows sys state choice settled r in
    let h = events state.history in
    let keep = kept_of sys.flow choice in
    ap (injected_count s) (events-now sys state choice settled)
    ∙ how_many-filter (is_injection s) (λ v. keep (event_node sys.flow v) (event_stamp v)) h
    (each-weaker (λ v. in_domain (bounds_of sys.flow (event_node sys.flow v)) (event_stamp v) ≡ true)
    (λ v. is_injection s v ≡ true → keep (event_node sys.flow v) (event_stamp v) ≡ true) h
    (λ v d i.
    let at = injection-at sys.flow s v i in
    ap (λ q. keep q (event_stamp v)) at ∙ all (event_stamp v) (ap (λ q. in_domain (bounds_of sys.flow q) (event_stamp v)) (sym at) ∙ d))
    (legal-in_domain sys h r.well_formed.flow k.epochs k.legal))

until-below : (k x : ℕ) → inside (until k) (x ∷ []) ≡ is_number_below (Some k) x
until-below k x = elim (cases_lt x k) [
  | inl l ↦
      ap (λ b. not b && true) (false_from_ne_true (leq (k ∷ []) (x ∷ [])) (λ i. let m = leq-line k x i in omega arith))
      ∙ sym (lt-ltb x k l)
  | inr l ↦ ap (λ b. not b && true) (line-leq k x l) ∙ sym (le-ltb x k l)
]

until-inside : (k n : ℕ) → k ≤ n → epochs_inside (until k) n ≡ k
until-inside k n l = let c = epochs_below (until k) k n (until-below k) in omega arith

source-rolled : (sys : System) (state : Machine) (choice : Choice) (settled : List Front) → Recovers sys state choice settled
    → (s : ℕ) → s < length sys.flow.nodes → is_input_kind (kind_of sys.flow s) ≡ true
    → (source : SourceState) → IsSourceOf sys state s source → (cut : Cut) → cut_of choice s ≡ cut
    → IsSourceOf sys (recovered_state sys state choice settled) s (rolled_source cut source)
source-rolled sys state choice settled r s l input source a Present is =
    let keep : (t : Stamp) → in_domain (bounds_of sys.flow s) t ≡ true → kept_of sys.flow choice s t ≡ true = λ t d. ap (λ c. set_of sys.flow s c t) is ∙ d in
    record { given = a.given; injected = a.injected ∙ sym (injected-all sys state choice settled r s keep); held = a.held }
source-rolled sys state choice settled r s l input source a (At f) is =
    let way : way_of sys.flow s ≡ Batches = ap (λ kind. restoring kind (policy_of sys.flow s)) (input-is (kind_of sys.flow s) input) in
    let offered = subst (IsCandidate sys state (is_failed state) kept s) is (r.largest.consistent.offered s l) in
    let now = injected_count s (events (recovered_state sys state choice settled).history) in
    let old = injected_count s (events state.history) in
    let restorable = subst (λ way. IsRestorable sys state kept s way f) way offered.1 in
    let count : epochs_inside f source.injected ≡ now = elim restorable [
      | inl b ↦
          let some : b.0 ≤ source.injected = subst (λ n. b.0 ≤ n) (sym a.injected) b.1 in
          ap (λ g. epochs_inside g source.injected) b.2 ∙ until-inside b.0 source.injected some
          ∙ sym (until-leaves sys r.well_formed r.reached.0 r.reached.1 state r.reached.2 choice s b.0 (is ∙ ap (λ g. At g) b.2) b.1)
      | inr b ↦
          let keep : (t : Stamp) → in_domain (bounds_of sys.flow s) t ≡ true → kept_of sys.flow choice s t ≡ true =
          λ t d. ap (λ c. set_of sys.flow s c t) (is ∙ ap (λ g. At g) b.1) ∙ ap (λ c. c && true) d in
          ap (λ g. epochs_inside g source.injected) b.1 ∙ epochs_all [] source.injected (λ x. refl) ∙ a.injected ∙ sym (injected-all sys state choice settled r s keep)
    ] in
    record { given = a.given; injected = count; held = a.held }

-- an input has injected as much as lies in its cut, and holds its batches
pub sources-rolled : (sys : System) (state : Machine) (choice : Choice) (settled : List Front) → Recovers sys state choice settled
    → (s : ℕ) → s < length sys.flow.nodes → is_input_kind (kind_of sys.flow s) ≡ true
    → (source : SourceState) → IsSourceOf sys state s source
    → IsSourceOf sys (recovered_state sys state choice settled) s (rolled_source (cut_of choice s) source)
sources-rolled sys state choice settled r s l input source a = source-rolled sys state choice settled r s l input source a (cut_of choice s) refl

-- ---- outputs

-- whether something was delivered to an output at a stamp
abbrev comes_to : Dataflow → ℕ → ℕ → ℕ → Stamp → Bool
comes_to flow o x e s = (receiver flow e == o) && same s (x ∷ [])

-- what is kept of an output after a recovery
recs-now : (sys : System) (state : Machine) (choice : Choice) (settled : List Front) (o x : ℕ)
    → kept_recs sys (recovered_state sys state choice settled) o x
    ≡ cond (nat_lt x (ack_count_of state o)) [] (sorted_recs (delivered_recs (comes_to sys.flow o x) (kept_events sys.flow (kept_of sys.flow choice) (events state.history))))
recs-now sys state choice settled o x =
    let next = recovered_state sys state choice settled in
    let below = nat_lt x (ack_count_of state o) in
    let recs : List Event → List Rec = λ vs. sorted_recs (delivered_recs (comes_to sys.flow o x) vs) in
    ap (λ b. cond (b || below) [] (recs (events next.history))) (none_failed sys state choice settled o)
    ∙ ap (λ vs. cond below [] (recs vs)) (events-now sys state choice settled)

-- an output that stays as it is has its recs
pub recs-present : (sys : System) (state : Machine) (choice : Choice) (settled : List Front) → Recovers sys state choice settled
    → (o : ℕ) → o < length sys.flow.nodes → cut_of choice o ≡ Present → (x : ℕ)
    → kept_recs sys (recovered_state sys state choice settled) o x ≡ kept_recs sys state o x
recs-present sys state choice settled r o l is x =
    let k = knows sys state choice settled r in
    let h = events state.history in
    let keep = kept_of sys.flow choice in
    let below = nat_lt x (ack_count_of state o) in
    let come = rec_of_delivery (comes_to sys.flow o x) in
    let test : Event → Bool = λ v. keep (event_node sys.flow v) (event_stamp v) in
    let none : (v : Event) → in_domain (bounds_of sys.flow (event_node sys.flow v)) (event_stamp v) ≡ true → test v ≡ false → come v ≡ [] = λ v d out. come-none sys.flow choice o x is v d out in
    recs-now sys state choice settled o x
    ∙ ap (λ rs. cond below [] (sorted_recs rs)) (flat_map-filter come test h
    (each-weaker (λ v. in_domain (bounds_of sys.flow (event_node sys.flow v)) (event_stamp v) ≡ true) (λ v. test v ≡ false → come v ≡ []) h none
    (legal-in_domain sys h r.well_formed.flow k.epochs k.legal)))
    ∙ sym (ap (λ b. cond (b || below) [] (sorted_recs (delivered_recs (comes_to sys.flow o x) h))) (present_lives sys state choice settled r o l is))
  where
    -- what is not kept of a domain did not come to a node that stays as it is
    come-none : (flow : Dataflow) (choice : Choice) (o x : ℕ) → cut_of choice o ≡ Present → (v : Event) → in_domain (bounds_of flow (event_node flow v)) (event_stamp v) ≡ true
        → kept_of flow choice (event_node flow v) (event_stamp v) ≡ false → rec_of_delivery (comes_to flow o x) v ≡ []
    come-none flow choice o x is (Inject q y) d out = refl
    come-none flow choice o x is (Notify q t) d out = refl
    come-none flow choice o x is (Deliver e m) d out =
        cond_both (comes_to flow o x e m.at) (m.rec ∷ []) [] (λ rs. rs ≡ [])
        (λ i.
        let at = eqb-true (receiver flow e) o (and_parts (receiver flow e == o) (same m.at (x ∷ [])) i).0 in
        absurd (two_ways (kept_of flow choice (receiver flow e) m.at)
        (ap (λ c. set_of flow (receiver flow e) c m.at) (ap (cut_of choice) at ∙ is) ∙ d) out))
        (λ i. refl)

output-way : (kind : Kind) (p : Policy) → is_output_kind kind ≡ true → restoring kind p ≡ Bound
output-way OutputEpoch p e = refl
output-way OutputNumber p e = refl
output-way kind p e = absurd (cc e)

-- nothing that is left came to a node from a number on, where its cut lies below the number
left-none : (flow : Dataflow) (keep : ℕ → Frontier) (o x : ℕ) → keep o (x ∷ []) ≡ false → (h : List Event)
    → delivered_recs (comes_to flow o x) (kept_events flow keep h) ≡ []
left-none flow keep o x out [] = refl
left-none flow keep o x out (v ∷ h) =
    let test : Event → Bool = λ u. keep (event_node flow u) (event_stamp u) in
    let rest = left-none flow keep o x out h in
    cond_both (test v) (v ∷ kept_events flow keep h) (kept_events flow keep h) (λ vs. delivered_recs (comes_to flow o x) vs ≡ [])
    (λ i. by v i rest) (λ i. rest)
  where
    by : (v : Event) → keep (event_node flow v) (event_stamp v) ≡ true → delivered_recs (comes_to flow o x) (kept_events flow keep h) ≡ []
        → delivered_recs (comes_to flow o x) (v ∷ kept_events flow keep h) ≡ []
    by (Inject q y) i rest = rest
    by (Notify q t) i rest = rest
    by (Deliver e m) i rest =
        cond_both (comes_to flow o x e m.at) (m.rec ∷ []) [] (λ rs. rs ++ delivered_recs (comes_to flow o x) (kept_events flow keep h) ≡ [])
        (λ c.
        let a = and_parts (receiver flow e == o) (same m.at (x ∷ [])) c in
        absurd (two_ways (keep o (x ∷ [])) (ap (keep o) (sym (same-is m.at (x ∷ []) a.1)) ∙ ap (λ q. keep q m.at) (sym (eqb-true (receiver flow e) o a.0)) ∙ i) out))
        (λ c. rest)

-- one that is cut has none
pub recs-cut : (sys : System) (state : Machine) (choice : Choice) (settled : List Front) → Recovers sys state choice settled
    → (o : ℕ) → o < length sys.flow.nodes → is_output_kind (kind_of sys.flow o) ≡ true → (f : Front) → cut_of choice o ≡ At f → (x : ℕ)
    → kept_recs sys (recovered_state sys state choice settled) o x ≡ []
recs-cut sys state choice settled r o l output f is x =
    let keep = kept_of sys.flow choice in
    let bound = ack_count_of state o in
    let way = output-way (kind_of sys.flow o) (policy_of sys.flow o) output in
    let offered = subst (IsCandidate sys state (is_failed state) kept o) is (r.largest.consistent.offered o l) in
    let restorable = subst (λ way. IsRestorable sys state kept o way f) way offered.1 in
    recs-now sys state choice settled o x ∙ elim (cases_lt x bound) [
      | inl below ↦ cond-true (nat_lt x bound) [] _ (lt-ltb x bound below)
      | inr above ↦
          cond-false (nat_lt x bound) [] _ (le-ltb x bound above)
          ∙ ap sorted_recs (left-none sys.flow keep o x
          (false_from_ne_true (keep o (x ∷ [])) (λ i.
          let b = restorable.1 (x ∷ []) (ap (λ c. set_of sys.flow o c (x ∷ [])) (sym is) ∙ i) in
          let c = (and_parts (in_domain (bounds_of sys.flow o) (x ∷ [])) (inside (until bound) (x ∷ [])) b).1 in
          two_ways (nat_lt x bound) (sym (until-below bound x) ∙ c) (le-ltb x bound above)))
          (events state.history))
    ]
