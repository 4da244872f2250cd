-- What becomes of outputs and sources as events come.
use Rattle.std.proofs.Common.{◌≡◌, ℕ, ◌+◌, ◌<◌, ◌≤◌, Bool, true, false, not, ◌&&◌, ◌||◌, ◌==◌, nat_lt, cond, List, [], ◌∷◌, ◌++◌, length, get_or, Option, Some, None, refl, sym, ap, subst, ◌∙◌, inl, inr, arith}
use Rattle.std.specs.Prelude.{slice_get}
use Rattle.std.specs.BTreeMap.{insert_entry}
use Rattle.std.specs.List.{enumerate_from}
use Rattle.std.specs.Map.{lookup}
use Rattle.std.specs.Ordering.{nat_cmp}
use Rattle.std.proofs.lemmas.Bool.{and_from, and_parts, cases_Bool, cases_eq, cond-true, cond-false, eq-eqb, eqb-true, false_from_ne_true, lt-ltb, or_right}
use Rattle.std.proofs.lemmas.Map.Entries.{lookup-filter-keys}
use Rattle.std.proofs.lemmas.Option.{slice_get-get_or, slice_get_within, get_or_from_slice_get}
use Rattle.fw_time.specs.Stamp.{same, in_domain}
use Rattle.fw_time.specs.declared.stamp.Bounds.{Bounds}
use Rattle.fw_time.proofs.StampLaws.{same-is, same-refl}
use Rattle.fw_bag.specs.declared.rec.Rec.{Rec}
use Rattle.fw_bag.specs.Bag.{with_rec}
use Rattle.fw_bag.specs.Keyed.{sorted_recs}
use Rattle.fw_frontier.specs.Front.{inside}
use Rattle.fw_flow.specs.declared.event.Event.{Event}
use Rattle.fw_flow.specs.declared.event.Event.TheVariants.{Inject, Deliver, Notify}
use Rattle.fw_flow.specs.declared.event.Message.{Message}
use Rattle.fw_flow.specs.Kind.{Kind}
use Rattle.fw_flow.specs.declared.kind.Kind.TheVariants.{OutputEpoch, OutputNumber}
use Rattle.fw_flow.specs.Dataflow.{System, Dataflow, batches_of, bounds_of, bounds_of_domain, domain_of_kind, greatest_number, kind_of, receiver, is_input_kind, is_output_kind}
use Rattle.fw_flow.specs.NodeFunction.{delivered_recs, event_node, event_stamp}
use Rattle.fw_flow.specs.Projection.{first_coordinate}
use Rattle.fw_flow.specs.WellFormed.{IsWellFormedSystem}
use Rattle.fw_model.specs.History.{injected_count, IsEnabled, IsNextBatch, is_injection}
use Rattle.fw_model.specs.Machine.{Machine, events, ack_count_of, front_of, is_failed}
use Rattle.fw_model.specs.Reached.{IsReached}
use Rattle.fw_model.specs.Steps.{with_event}
use Rattle.fw_model.proofs.DomainLaws.{has_epochs}
use Rattle.fw_model.proofs.LegalLaws.{enabled-in_domain, legal-in_domain}
use Rattle.fw_model.proofs.RestoringLaws.{batches-outside}
use Rattle.fw_model.proofs.StampLaws.{in_line}
use Rattle.fw_border.specs.Outputs.{recs_at_number, with_rec_at, OutputState}
use Rattle.fw_border.specs.Sources.{SourceState, advanced, next_batch}
use Rattle.fw_border.proofs.NumberLaws.{held_at}
use Rattle.fw_border.proofs.OutputLaws.{recs_at-inserted, recs_at-inserted_apart}
use Rattle.fw_stands.specs.Events.{IsInjectionOf}
use Rattle.fw_stands.specs.Parts.{kept_recs, IsOutputOf, IsSourceOf}
use Rattle.fw_stands.proofs.EventNextLaws.{legal-reached}

-- ---- the stamps of outputs

one-coordinate : (flow : Dataflow) (k : Kind) → is_output_kind k ≡ true → bounds_of_domain flow (domain_of_kind flow k) ≡ record { greatest = greatest_number ∷ []; sides = false }
one-coordinate flow OutputEpoch o = refl
one-coordinate flow OutputNumber o = refl
one-coordinate flow k o = absurd (cc)

output-bounds : (flow : Dataflow) (p : ℕ) → is_output_kind (kind_of flow p) ≡ true → bounds_of flow p ≡ record { greatest = greatest_number ∷ []; sides = false }
unfolding bounds_of
output-bounds flow p o = one-coordinate flow (kind_of flow p) o

pub enabled-domain : (sys : System) (state : Machine) → IsWellFormedSystem sys → IsReached sys state → (v : Event) → IsEnabled sys (events state.history) v
    → in_domain (bounds_of sys.flow (event_node sys.flow v)) (event_stamp v) ≡ true
enabled-domain sys state w r v k =
    let h = events state.history in
    enabled-in_domain sys h w.flow (has_epochs sys w) (legal-in_domain sys h w.flow (has_epochs sys w) (legal-reached sys state w r)) v k

-- what comes to an output is at a number
at-number : (sys : System) (state : Machine) → IsWellFormedSystem sys → IsReached sys state → (e : ℕ) (m : Message) → IsEnabled sys (events state.history) (Deliver e m)
    → is_output_kind (kind_of sys.flow (receiver sys.flow e)) ≡ true → (x : ℕ) × (m.at ≡ x ∷ [])
at-number sys state w r e m k o =
    let d = enabled-domain sys state w r (Deliver e m) k in
    let line = in_line m.at greatest_number (sym (ap (λ (b : Bounds). in_domain b m.at) (output-bounds sys.flow (receiver sys.flow e) o)) ∙ d) in
    (line.0, line.1)

-- ---- what came to an output

-- what came to an output at a number
abbrev came : Dataflow → ℕ → ℕ → List Event → List Rec
came flow o x h = delivered_recs (λ e s. (receiver flow e == o) && same s (x ∷ [])) h

came-here : (flow : Dataflow) (o x e : ℕ) (m : Message) (h : List Event) → receiver flow e ≡ o → m.at ≡ x ∷ [] → came flow o x (Deliver e m ∷ h) ≡ m.rec ∷ came flow o x h
came-here flow o x e m h i a =
    ap (λ b. cond b (m.rec ∷ []) [] ++ came flow o x h)
    (and_from (receiver flow e == o) (same m.at (x ∷ [])) (eq-eqb (receiver flow e) o i) (subst (λ s. same m.at s ≡ true) a (same-refl m.at)))

came-apart : (flow : Dataflow) (o x e : ℕ) (m : Message) (h : List Event) → ((receiver flow e == o) && same m.at (x ∷ [])) ≡ false
    → came flow o x (Deliver e m ∷ h) ≡ came flow o x h
came-apart flow o x e m h f = ap (λ b. cond b (m.rec ∷ []) [] ++ came flow o x h) f

apart-at : (flow : Dataflow) (o x y e : ℕ) (m : Message) → m.at ≡ y ∷ [] → (x ≡ y → ⊥) → ((receiver flow e == o) && same m.at (x ∷ [])) ≡ false
apart-at flow o x y e m a n = false_from_ne_true ((receiver flow e == o) && same m.at (x ∷ [])) (λ k.
    let b = and_parts (receiver flow e == o) (same m.at (x ∷ [])) k in
    let s : y ∷ [] ≡ x ∷ [] = sym a ∙ same-is m.at (x ∷ []) b.1 in
    n (cc s))

-- ---- outputs

-- what is kept at a number that is not acknowledged, of an output that is not failed
abbrev guard : System → Machine → ℕ → ℕ → Bool
guard sys state o x = is_failed state o || nat_lt x (ack_count_of state o)

-- what came at another number leaves what is kept
kept-apart : (sys : System) (state : Machine) (e : ℕ) (m : Message) (o x : ℕ) → ((receiver sys.flow e == o) && same m.at (x ∷ [])) ≡ false
    → kept_recs sys (with_event sys state (Deliver e m)) o x ≡ kept_recs sys state o x
kept-apart sys state e m o x f =
    ap (λ rs. cond (guard sys state o x) [] (sorted_recs rs)) (came-apart sys.flow o x e m (events state.history) f)

kept-here : (sys : System) (state : Machine) (e : ℕ) (m : Message) (x : ℕ) → guard sys state (receiver sys.flow e) x ≡ false → m.at ≡ x ∷ []
    → kept_recs sys (with_event sys state (Deliver e m)) (receiver sys.flow e) x ≡ with_rec m.rec (kept_recs sys state (receiver sys.flow e) x)
kept-here sys state e m x g a =
    let o = receiver sys.flow e in
    let h = events state.history in
    ap (λ b. cond b [] (sorted_recs (came sys.flow o x (Deliver e m ∷ h)))) g
    ∙ ap sorted_recs (came-here sys.flow o x e m h refl a)
    ∙ sym (ap (λ b. with_rec m.rec (cond b [] (sorted_recs (came sys.flow o x h)))) g)

-- nothing is kept that is acknowledged
kept-none : (sys : System) (state : Machine) (o x : ℕ) → guard sys state o x ≡ true → kept_recs sys state o x ≡ []
kept-none sys state o x g = ap (λ b. cond b [] (sorted_recs (came sys.flow o x (events state.history)))) g

-- in each reached state, what is kept of an output that is not failed takes in what is delivered to it
pub outputs-take_in : (sys : System) (state : Machine) → IsWellFormedSystem sys → IsReached sys state
    → (e : ℕ) (m : Message) → IsEnabled sys (events state.history) (Deliver e m)
    → is_output_kind (kind_of sys.flow (receiver sys.flow e)) ≡ true → is_failed state (receiver sys.flow e) ≡ false
    → (output : OutputState) → IsOutputOf sys state (receiver sys.flow e) output
    → IsOutputOf sys (with_event sys state (Deliver e m)) (receiver sys.flow e) (with_rec_at (first_coordinate m.at) m.rec output)
outputs-take_in sys state w r e m k o f output i =
    let p = receiver sys.flow e in
    let next = with_event sys state (Deliver e m) in
    let at = at-number sys state w r e m k o in
    let y = at.0 in
    let first : first_coordinate m.at ≡ y = ap first_coordinate at.1 in
    subst (λ z. IsOutputOf sys next p (with_rec_at z m.rec output)) (sym first) (elim (cases_Bool (nat_lt y output.bound)) [
      | inl below ↦
          let stays : with_rec_at y m.rec output ≡ output =
          cond-true (nat_lt y output.bound) output (record output { recs = insert_entry nat_cmp output.recs y (with_rec m.rec (recs_at_number output.recs y)) }) below in
          subst (IsOutputOf sys next p) (sym stays) (record {
            bound = i.bound;
            recs = λ x. i.recs x ∙ sym (elim (cases_eq x y) [
              | inl is ↦
                  let g : guard sys state p x ≡ true = or_right (is_failed state p) (nat_lt x (ack_count_of state p)) (ap (λ z. nat_lt z (ack_count_of state p)) is ∙ ap (λ b. nat_lt y b) (sym i.bound) ∙ below) in
                  kept-none sys next p x g ∙ sym (kept-none sys state p x g)
              | inr n ↦ kept-apart sys state e m p x (apart-at sys.flow p x y e m at.1 n)
            ]);
          })
      | inr above ↦
          let put = insert_entry nat_cmp output.recs y (with_rec m.rec (recs_at_number output.recs y)) in
          let goes : with_rec_at y m.rec output ≡ record output { recs = put } = cond-false (nat_lt y output.bound) output (record output { recs = put }) above in
          let g : guard sys state p y ≡ false = ap (λ b. b || nat_lt y (ack_count_of state p)) f ∙ ap (λ b. nat_lt y b) (sym i.bound) ∙ above in
          subst (IsOutputOf sys next p) (sym goes) (record {
            bound = i.bound;
            recs = λ x. elim (cases_eq x y) [
              | inl is ↦
                  ap (recs_at_number put) is ∙ recs_at-inserted y (with_rec m.rec (recs_at_number output.recs y)) output.recs
                  ∙ ap (with_rec m.rec) (i.recs y) ∙ sym (kept-here sys state e m y g at.1) ∙ ap (kept_recs sys next p) (sym is)
              | inr n ↦
                  recs_at-inserted_apart y x (with_rec m.rec (recs_at_number output.recs y)) output.recs n ∙ i.recs x
                  ∙ sym (kept-apart sys state e m p x (apart-at sys.flow p x y e m at.1 n))
            ];
          })
    ])

-- an event of another node leaves what is kept of an output
pub outputs-stay : (sys : System) (state : Machine) (v : Event) (o : ℕ) → (event_node sys.flow v == o) ≡ false
    → (output : OutputState) → IsOutputOf sys state o output → IsOutputOf sys (with_event sys state v) o output
outputs-stay sys state (Inject s x) o n output i = record { bound = i.bound; recs = i.recs }
outputs-stay sys state (Deliver e m) o n output i = record {
  bound = i.bound;
  recs = λ x. i.recs x ∙ sym (kept-apart sys state e m o x (ap (λ b. b && same m.at (x ∷ [])) n));
}
outputs-stay sys state (Notify p t) o n output i = record { bound = i.bound; recs = i.recs }

-- ---- sources

-- a batch that is to come is held
to-come : (sys : System) (state : Machine) → IsWellFormedSystem sys → IsReached sys state → (s x : ℕ) → IsNextBatch sys (events state.history) s x
    → not (inside (front_of state.low s) (x ∷ [])) ≡ true
to-come sys state w r s x k =
    let below : injected_count s (events state.history) ≤ x = let next = k.next in omega arith in
    let out = batches-outside sys w r.0 r.1 state r.2 [] [] state refl s x k.input below k.there in
    let d = enabled-domain sys state w r (Inject s x) k in
    let z = ap (λ b. b && inside (front_of state.low s) (x ∷ [])) (sym d) ∙ out in
    ap not z

-- what is held at an epoch
held-next : (sys : System) (state : Machine) (s : ℕ) (source : SourceState) → IsSourceOf sys state s source
    → next_batch source ≡ cond (not (inside (front_of state.low s) (source.injected ∷ []))) (slice_get (batches_of sys s) source.injected) None
held-next sys state s source i =
    let n = source.injected in
    let out : ℕ → Bool = λ x. not (inside (front_of state.low s) (x ∷ [])) in
    let all = enumerate_from 0 (batches_of sys s) in
    let at : n ≡ 0 + n = omega arith in
    ap (lookup (λ x. n == x)) i.held
    ∙ lookup-filter-keys (λ x. n == x) out (out n) (λ x e. ap out (sym (eqb-true n x e))) all
    ∙ ap (λ found. cond (out n) found None) (held_at n 0 n (batches_of sys s) at)

-- a node with a batch is an input
has-batch : (sys : System) → IsWellFormedSystem sys → (s n : ℕ) → n < length (batches_of sys s) → is_input_kind (kind_of sys.flow s) ≡ true
has-batch sys w s n l = elim (cases_Bool (is_input_kind (kind_of sys.flow s))) [
  | inl k ↦ k
  | inr k ↦ let none = ap length (w.of_inputs s k) in absurd (omega arith)
]

-- in each reached state a node that is not failed injects what is next of its batches, if there is one
pub sources-have_next : (sys : System) (state : Machine) → IsWellFormedSystem sys → IsReached sys state
    → (s : ℕ) → is_failed state s ≡ false → (source : SourceState) → IsSourceOf sys state s source
    → IsInjectionOf sys state s source.injected (next_batch source)
sources-have_next sys state w r s f source i = by (next_batch source) refl
  where
    n : ℕ
    n = source.injected

    out : Bool
    out = not (inside (front_of state.low s) (n ∷ []))

    found : Option (List Rec)
    found = slice_get (batches_of sys s) n

    by : (next : Option (List Rec)) → next_batch source ≡ next → IsInjectionOf sys state s n next
    by None k = (
      (λ other effect t.
          let b = t.1 in
          let is : t.0 ≡ n = b.next ∙ sym i.injected in
          let o : out ≡ true = subst (λ x. not (inside (front_of state.low s) (x ∷ [])) ≡ true) is (to-come sys state w r s t.0 b) in
          let l : n < length (batches_of sys s) = let there = b.there in omega arith in
          let some : None ≡ Some (get_or (batches_of sys s) n []) =
          sym k ∙ held-next sys state s source i ∙ cond-true out found None o ∙ slice_get-get_or (batches_of sys s) n [] l in
          absurd (cc some)),
      refl,
    )
    by (Some batch) k = elim (cases_Bool out) [
      | inl o ↦
          let at : found ≡ Some batch = sym (cond-true out found None o) ∙ sym (held-next sys state s source i) ∙ k in
          let l = slice_get_within (batches_of sys s) n batch at in
          let next : IsNextBatch sys (events state.history) s n = record { input = has-batch sys w s n l; next = i.injected; there = l } in
          (next, sym (get_or_from_slice_get (batches_of sys s) n batch [] at), (n, next, f, refl, refl))
      | inr o ↦
          let none : None ≡ Some batch = sym (cond-false out found None o) ∙ sym (held-next sys state s source i) ∙ k in
          absurd (cc none)
    ]

-- a source that injects a batch goes on by one
pub sources-go_on : (sys : System) (state : Machine) (s x : ℕ) → IsEnabled sys (events state.history) (Inject s x)
    → (source : SourceState) → IsSourceOf sys state s source → IsSourceOf sys (with_event sys state (Inject s x)) s (advanced source)
sources-go_on sys state s x k source i =
    let more : source.injected < source.given = let a = k.next in let b = k.there in let c = i.injected in let d = i.given in omega arith in
    let goes : advanced source ≡ record source { injected = source.injected + 1 } =
    cond-true (nat_lt source.injected source.given) (record source { injected = source.injected + 1 }) source (lt-ltb source.injected source.given more) in
    subst (IsSourceOf sys (with_event sys state (Inject s x)) s) (sym goes) (record {
      given = i.given;
      injected = ap (λ n. n + 1) i.injected
          ∙ sym (cond-true (s == s) (injected_count s (events state.history) + 1) (injected_count s (events state.history)) (eq-eqb s s refl));
      held = i.held;
    })

-- an event that is no injection of it leaves a source
pub sources-stay : (sys : System) (state : Machine) (v : Event) (s : ℕ) → is_injection s v ≡ false
    → (source : SourceState) → IsSourceOf sys state s source → IsSourceOf sys (with_event sys state v) s source
sources-stay sys state (Inject q x) s n source i = record {
  given = i.given;
  injected = i.injected ∙ sym (cond-false (q == s) (injected_count s (events state.history) + 1) (injected_count s (events state.history)) n);
  held = i.held;
}
sources-stay sys state (Deliver e m) s n source i = record { given = i.given; injected = i.injected; held = i.held }
sources-stay sys state (Notify p t) s n source i = record { given = i.given; injected = i.injected; held = i.held }
