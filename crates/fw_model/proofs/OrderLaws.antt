-- In a legal history a sequence is notified in the order of stamps.
use Rattle.std.proofs.Common.{◌≡◌, ℕ, Bool, true, false, not, ◌&&◌, ◌||◌, ◌==◌, List, [], ◌∷◌, Some, None, refl, sym, ap, subst, ◌∙◌, inl, inr, ◌⊎◌, arith}
use Rattle.std.proofs.Math.Bool.{and-false}
use Rattle.std.specs.List.{AllByRecursion}
use Rattle.std.proofs.lemmas.Bool.{and_parts, and_from, or_cases, or_left, or_right, cond_both, eqb-true, eq-eqb, cases_lt, cases_Bool}
use Rattle.fw_lemmas.proofs.Bools.{two_ways}
use Rattle.fw_lemmas.proofs.Each.{each-weaker, each-both}
use Rattle.fw_time.specs.Stamp.{Stamp, leq, same, in_domain}
use Rattle.fw_time.proofs.StampLaws.{leq-refl, leq-trans}
use Rattle.fw_frontier.specs.Frontier.{Frontier, IsFrontier, Within, join}
use Rattle.fw_flow.specs.declared.event.Event.{Event}
use Rattle.fw_flow.specs.declared.event.Event.TheVariants.{Inject, Deliver, Notify}
use Rattle.fw_flow.specs.declared.event.Message.{Message}
use Rattle.fw_flow.specs.declared.kind.Domain.TheVariants.{Epoch, Number}
use Rattle.fw_flow.specs.declared.kind.Kind.TheVariants.{OutputEpoch}
use Rattle.fw_flow.specs.Dataflow.{System, Dataflow, kind_of, sender, receiver, greatest_number, domain_of_kind, out_domain_of_kind, bounds_of, is_input_kind, is_notified_kind, send_stamp_of_kind, HasEpochs}
use Rattle.fw_flow.specs.NodeFunction.{sent_by}
use Rattle.fw_flow.specs.Projection.{events_at, all_inside, phi}
use Rattle.fw_flow.specs.WellFormed.{IsWellFormed}
use Rattle.fw_model.proofs.LesserLaws.{lesser-on_edge}
use Rattle.fw_model.specs.Carried.{carried}
use Rattle.fw_model.specs.History.{some_at, sent_messages, delivered_messages, was_delivered_to, was_notified, is_owed_notice, IsAdmissible, IsNotifiable, IsEnabled, IsLegal}
use Rattle.fw_flow.specs.Message.{messages_less}
use Rattle.fw_model.specs.LawsOfCompleteFrontiers.{SequencesAreNotifiedInOrder, LegalInsidePhiComesFromInside}
use Rattle.fw_model.proofs.CarriedLaws.{carried-each}
use Rattle.fw_model.proofs.StampLaws.{in_line, line-leq, leq_from, leq_to}
use Rattle.fw_model.proofs.PhiLaws.{phi-monotone, phi-longer}
use Rattle.fw_model.proofs.FrontierLaws.{phi-frontier}
use Rattle.fw_model.proofs.SendsLaws.{IsOfCause, sent_by-of_cause}
use Rattle.fw_model.proofs.CauseLaws.{inside_phi-from_inside}
use Rattle.fw_model.proofs.SequenceLaws.{bounds-sequence, notified_in_domain, inside_phi_of_sequence-from_inside}
use Rattle.fw_model.proofs.LegalLaws.{enabled-in_domain, legal-in_domain, legal_events-in_domain, only_inputs_inject, edge_domains}
use Rattle.fw_model.proofs.CompleteLaws.{admissible-stays, sender_sorts, not_owed-notified}
use Rattle.fw_model.specs.Sending.{is_single_kind, ComesFromInside, SendsByCount}
use Rattle.fw_model.specs.Order.{notified_stamps, AreDescending}

-- ---- a family with a notified stamp in it

-- the stamps of node p up to t, and nothing of other nodes
abbrev raised : Dataflow → ℕ → Stamp → ℕ → Frontier
raised flow p t q s = q == p && (in_domain (bounds_of flow p) s && leq s t)

-- what the test of a raised stamp says
pub record IsRaised (flow : Dataflow) (p : ℕ) (t : Stamp) (q : ℕ) (s : Stamp) : Type 0 where
  pub node : q ≡ p
  pub inside : in_domain (bounds_of flow p) s ≡ true
  pub below : leq s t ≡ true

is_raised : (flow : Dataflow) (p : ℕ) (t : Stamp) (q : ℕ) (s : Stamp) → raised flow p t q s ≡ true → IsRaised flow p t q s
is_raised flow p t q s k =
    let a = and_parts (q == p) (in_domain (bounds_of flow p) s && leq s t) k in
    let b = and_parts (in_domain (bounds_of flow p) s) (leq s t) a.1 in
    record { node = eqb-true q p a.0; inside = b.0; below = b.1 }

raised-from : (flow : Dataflow) (p : ℕ) (t s : Stamp) → in_domain (bounds_of flow p) s ≡ true → leq s t ≡ true → raised flow p t p s ≡ true
raised-from flow p t s i l = and_from (p == p) _ (eq-eqb p p refl) (and_from (in_domain (bounds_of flow p) s) (leq s t) i l)

raise : Dataflow → (ℕ → Frontier) → ℕ → Stamp → ℕ → Frontier
raise flow done p t q = join (done q) (raised flow p t q)

raise-frontier : (flow : Dataflow) (done : ℕ → Frontier) (p : ℕ) (t : Stamp) → ((q : ℕ) → IsFrontier (bounds_of flow q) (done q))
    → (q : ℕ) → IsFrontier (bounds_of flow q) (raise flow done p t q)
unfolding raise
raise-frontier flow done p t fr q = record {
  inside_domain = λ s k. elim (or_cases (done q s) (raised flow p t q s) k) [
    | inl i ↦ (fr q).inside_domain s i
    | inr i ↦ let r = is_raised flow p t q s i in ap (λ n. in_domain (bounds_of flow n) s) r.node ∙ r.inside
  ];
  closed = λ s u d l k. elim (or_cases (done q u) (raised flow p t q u) k) [
    | inl i ↦ or_left (done q s) (raised flow p t q s) ((fr q).closed s u d l i)
    | inr i ↦
        let r = is_raised flow p t q u i in
        or_right (done q s) (raised flow p t q s)
        (ap (λ n. raised flow p t n s) r.node
        ∙ raised-from flow p t s (sym (ap (λ n. in_domain (bounds_of flow n) s) r.node) ∙ d) (leq-trans s u t l r.below))
  ];
}

-- no edge leads from a sequence to itself
no_loop : (flow : Dataflow) → IsWellFormed flow → (e p : ℕ) → SendsByCount (kind_of flow p) → sender flow e ≡ p → receiver flow e ≡ p → ⊥
no_loop flow w e p is s r =
    let d : Number ≡ Epoch =
    sym (ap (λ q. out_domain_of_kind flow (kind_of flow q)) s ∙ ap (λ k. out_domain_of_kind flow k) is)
    ∙ edge_domains flow w e
    ∙ ap (λ q. domain_of_kind flow (kind_of flow q)) r ∙ ap (λ k. domain_of_kind flow k) is in
    cc d

not_owed-same : (a b c d : Bool) → c ≡ true → (a && b && not (c || d)) ≡ false
not_owed-same a b true d e = and-false (a && b)
not_owed-same a b false d e = cc

pub raised-paid : (sys : System) (h : List Event) (p : ℕ) (t s : Stamp) → IsNotifiable sys h p t → leq s t ≡ true → is_owed_notice sys (Notify p t ∷ h) p s ≡ false
raised-paid sys h p t s k l =
    let kind = is_notified_kind (kind_of sys.flow p) in
    let came = was_delivered_to sys.flow p s h in
    let now = p == p && same t s in
    elim (cases_Bool (leq t s)) [
      | inl i ↦ not_owed-same kind came now (was_notified p s h) (and_from (p == p) (same t s) (eq-eqb p p refl) (and_from (leq t s) (leq s t) i l))
      | inr i ↦ not_owed-notified kind came now (was_notified p s h) (k.none_lesser s (and_from (leq s t) (not (leq t s)) l (ap not i)))
    ]

raised-quiet : (sys : System) (h : List Event) → IsWellFormed sys.flow → (p : ℕ) (t s : Stamp) → SendsByCount (kind_of sys.flow p) → IsNotifiable sys h p t
    → leq s t ≡ true → (e : ℕ) → receiver sys.flow e ≡ p
    → some_at (same s) (messages_less (sent_messages sys (Notify p t ∷ h) e) (delivered_messages h e)) ≡ false
raised-quiet sys h w p t s is k l e r =
    let q = sender sys.flow e in
    let vs = events_at sys.flow q h in
    cond_both (p == q) (Notify p t ∷ vs) vs (λ ws. some_at (same s) (messages_less (carried sys.flow e (sent_by sys q ws)) (delivered_messages h e)) ≡ false)
    (λ c. absurd (no_loop sys.flow w e p is (sym (eqb-true p q c)) r)) (λ c. k.quiet s l e r)

raise-admissible : (sys : System) (h : List Event) → IsWellFormed sys.flow → HasEpochs sys → IsLegal sys h
    → (p : ℕ) (t : Stamp) → SendsByCount (kind_of sys.flow p) → IsNotifiable sys h p t
    → (done : ℕ → Frontier) → IsAdmissible sys h done → ((d : ℕ) → receiver sys.flow d ≡ p → phi sys h d (done (sender sys.flow d)) t ≡ true)
    → IsAdmissible sys (Notify p t ∷ h) (raise sys.flow done p t)
unfolding raise
raise-admissible sys h w b l p t is k done a c =
    let v = Notify p t in
    let flow = sys.flow in
    let now = admissible-stays sys h w b l done a v k in
    let family = raise flow done p t in
    let wider : (q : ℕ) → Within (done q) (family q) = λ q s i. or_left (done q s) (raised flow p t q s) i in
    record {
      frontier = raise-frontier flow done p t a.frontier;
      quiet = λ q s i e r. elim (or_cases (done q s) (raised flow p t q s) i) [
        | inl j ↦ now.quiet q s j e r
        | inr j ↦ let x = is_raised flow p t q s j in raised-quiet sys h w p t s is k x.below e (r ∙ x.node)
      ];
      paid = λ q s i. elim (or_cases (done q s) (raised flow p t q s) i) [
        | inl j ↦ now.paid q s j
        | inr j ↦ let x = is_raised flow p t q s j in ap (λ n. is_owed_notice sys (v ∷ h) n s) x.node ∙ raised-paid sys h p t s k x.below
      ];
      follows = λ e u i.
          let q = sender flow e in
          let r = receiver flow e in
          elim (or_cases (done r u) (raised flow p t r u) i) [
            | inl j ↦ phi-monotone sys (v ∷ h) e (done q) (family q) (wider q) u (now.follows e u j)
            | inr j ↦
                let x = is_raised flow p t r u j in
                let fr = phi-frontier sys h e (done q) (a.frontier q) in
                let top = c e x.node in
                phi-monotone sys (v ∷ h) e (done q) (family q) (wider q) u
                (phi-longer sys h (v ∷ []) e (done q) u
                (fr.closed u t (lesser-on_edge flow e u t x.below (fr.inside_domain t top)) x.below top))
          ];
      source = λ s j u i. elim (or_cases (done s u) (raised flow p t s u) i) [
        | inl y ↦ now.source s j u y
        | inr y ↦
            let x = is_raised flow p t s u y in
            absurd (two_ways (is_input_kind (kind_of flow s)) j (ap (λ n. is_input_kind (kind_of flow n)) x.node ∙ ap is_input_kind is))
      ];
    }

-- ---- notified stamps are inside

-- some admissible family has the stamp of node p inside
abbrev IsInside : System → List Event → ℕ → Stamp → Type 0
IsInside sys h p s = (done : ℕ → Frontier) × IsAdmissible sys h done × (done p s ≡ true)

notified-now : (sys : System) (h : List Event) → IsWellFormed sys.flow → HasEpochs sys → IsLegal sys h
    → (p : ℕ) (t : Stamp) → SendsByCount (kind_of sys.flow p) → IsNotifiable sys h p t → IsInside sys (Notify p t ∷ h) p t
unfolding raise
notified-now sys h w b l p t is k =
    let c = k.complete in
    let d = enabled-in_domain sys h w b (legal-in_domain sys h w b l) (Notify p t) k in (
      raise sys.flow c.0 p t,
      raise-admissible sys h w b l p t is k c.0 c.1 c.2,
      or_right (c.0 p t) (raised sys.flow p t p t) (raised-from sys.flow p t t d (leq-refl t)),
    )

-- what holds of a stamp once the node is notified of it, and goes on holding, holds of each of which it was notified
pub each-notified : (sys : System) (p : ℕ) (P : List Event → Stamp → Type 0)
    → ((h : List Event) (v : Event) → IsLegal sys h → IsEnabled sys h v → (s : Stamp) → P h s → P (v ∷ h) s)
    → ((h : List Event) (t : Stamp) → IsLegal sys h → IsEnabled sys h (Notify p t) → P (Notify p t ∷ h) t)
    → (h : List Event) → IsLegal sys h → AllByRecursion (P h) (notified_stamps (events_at sys.flow p h))
each-notified sys p P step now [] l = tt
each-notified sys p P step now (v ∷ h) l =
    after v l.0 (each-weaker (P h) (P (v ∷ h)) (notified_stamps (events_at sys.flow p h)) (step h v l.1 l.0) (each-notified sys p P step now h l.1))
  where
    after : (v : Event) → IsEnabled sys h v → AllByRecursion (P (v ∷ h)) (notified_stamps (events_at sys.flow p h))
        → AllByRecursion (P (v ∷ h)) (notified_stamps (events_at sys.flow p (v ∷ h)))
    after (Inject s x) k a =
        let vs = events_at sys.flow p h in
        cond_both (s == p) (Inject s x ∷ vs) vs (λ ws. AllByRecursion (P (Inject s x ∷ h)) (notified_stamps ws)) (λ e. a) (λ e. a)
    after (Deliver d m) k a =
        let vs = events_at sys.flow p h in
        cond_both (receiver sys.flow d == p) (Deliver d m ∷ vs) vs (λ ws. AllByRecursion (P (Deliver d m ∷ h)) (notified_stamps ws)) (λ e. a) (λ e. a)
    after (Notify q t) k a =
        let vs = events_at sys.flow p h in
        cond_both (q == p) (Notify q t ∷ vs) vs (λ ws. AllByRecursion (P (Notify q t ∷ h)) (notified_stamps ws))
        (λ e. (subst (λ n. IsEnabled sys h (Notify n t) → P (Notify n t ∷ h) t) (sym (eqb-true q p e)) (now h t l.1) k, a))
        (λ e. a)

notified-inside : (sys : System) (h : List Event) → IsWellFormed sys.flow → HasEpochs sys → IsLegal sys h
    → (p : ℕ) → SendsByCount (kind_of sys.flow p) → AllByRecursion (IsInside sys h p) (notified_stamps (events_at sys.flow p h))
notified-inside sys h w b l p is =
    each-notified sys p (λ g. IsInside sys g p) (λ g v m k s x. (x.0, admissible-stays sys g w b m x.0 x.1 v k, x.2)) (λ g t m k. notified-now sys g w b m p t is k) h l

-- ---- in order

-- of two stamps of one coordinate, the first is lesser or the second is at most it
pub either_way : (g : ℕ) (s t : Stamp) → leq s (g ∷ []) ≡ true → leq t (g ∷ []) ≡ true → (leq s t ≡ true) ⊎ (leq t s ≡ true)
either_way g s t i j =
    let x = in_line s g i in
    let y = in_line t g j in
    elim (cases_lt y.0 x.0) [
      | inl l ↦ inr (leq_to t _ s (sym x.1) (leq_from (y.0 ∷ []) t _ (sym y.1) (line-leq y.0 x.0 (omega arith))))
      | inr l ↦ inl (leq_to s _ t (sym y.1) (leq_from (x.0 ∷ []) s _ (sym x.1) (line-leq x.0 y.0 l)))
    ]

notified-below : (sys : System) (h : List Event) (p : ℕ) (t : Stamp) → SendsByCount (kind_of sys.flow p) → is_owed_notice sys h p t ≡ true
    → in_domain (bounds_of sys.flow p) t ≡ true → (s : Stamp) → in_domain (bounds_of sys.flow p) s ≡ true → IsInside sys h p s → leq s t ≡ true
notified-below sys h p t is o i s j x =
    let line : (u : Stamp) → in_domain (bounds_of sys.flow p) u ≡ true → leq u (greatest_number ∷ []) ≡ true =
    λ u d. sym (ap (λ b. in_domain b u) (bounds-sequence sys.flow p is)) ∙ d in
    elim (either_way greatest_number s t (line s j) (line t i)) [
      | inl l ↦ l
      | inr l ↦ absurd (two_ways (is_owed_notice sys h p t) o (x.1.paid p t ((x.1.frontier p).closed t s i l x.2)))
    ]

descending : (sys : System) (h : List Event) → IsWellFormed sys.flow → HasEpochs sys → IsLegal sys h
    → (p : ℕ) → SendsByCount (kind_of sys.flow p) → AreDescending (notified_stamps (events_at sys.flow p h))
descending sys [] w b l p is = tt
descending sys (v ∷ h) w b l p is = after v l.0 (descending sys h w b l.1 p is)
  where
    after : (v : Event) → IsEnabled sys h v → AreDescending (notified_stamps (events_at sys.flow p h))
        → AreDescending (notified_stamps (events_at sys.flow p (v ∷ h)))
    after (Inject s x) k a =
        let vs = events_at sys.flow p h in
        cond_both (s == p) (Inject s x ∷ vs) vs (λ ws. AreDescending (notified_stamps ws)) (λ e. a) (λ e. a)
    after (Deliver d m) k a =
        let vs = events_at sys.flow p h in
        cond_both (receiver sys.flow d == p) (Deliver d m ∷ vs) vs (λ ws. AreDescending (notified_stamps ws)) (λ e. a) (λ e. a)
    after (Notify q t) k a =
        let vs = events_at sys.flow p h in
        let bounds = bounds_of sys.flow p in
        cond_both (q == p) (Notify q t ∷ vs) vs (λ ws. AreDescending (notified_stamps ws))
        (λ e.
        let here = eqb-true q p e in
        let o = sym (ap (λ n. is_owed_notice sys h n t) here) ∙ k.is_owed in
        let d = sym (ap (λ n. in_domain (bounds_of sys.flow n) t) here) ∙ enabled-in_domain sys h w b (legal-in_domain sys h w b l.1) (Notify q t) k in (
          each-weaker (λ s. (in_domain bounds s ≡ true) × IsInside sys h p s) (λ s. leq s t ≡ true) (notified_stamps vs)
              (λ s x. notified-below sys h p t is o d s x.0 x.1)
              (each-both (λ s. in_domain bounds s ≡ true) (IsInside sys h p) (notified_stamps vs)
              (notified_in_domain bounds vs (legal_events-in_domain sys h w b l.1 p)) (notified-inside sys h w b l.1 p is)),
          a,
        ))
        (λ e. a)

-- ---- the laws

pub sequences-in_order : SequencesAreNotifiedInOrder
sequences-in_order sys h w b l p is = record {
  injects_nothing = only_inputs_inject sys h l p (ap is_input_kind is);
  in_order = descending sys h w b l p is;
}

-- an output sent nothing
idle-comes_from_inside : (sys : System) (h : List Event) (e : ℕ) (f : Frontier) → kind_of sys.flow (sender sys.flow e) ≡ OutputEpoch → ComesFromInside sys h e f
unfolding IsOfCause
idle-comes_from_inside sys h e f is =
    let p = sender sys.flow e in
    carried-each sys.flow e (λ (m : Message). phi sys h e f m.at ≡ true → all_inside f m.causes ≡ true) (sent_by sys p (events_at sys.flow p h))
    (each-weaker (IsOfCause sys.flow p) (λ m. phi sys h e f m.at ≡ true → all_inside f m.causes ≡ true) (sent_by sys p (events_at sys.flow p h))
    (λ m a k. let r : None ≡ Some m.at = sym (ap (λ kind. send_stamp_of_kind sys.flow kind a.0) is) ∙ a.1 in absurd (cc r))
    (sent_by-of_cause sys p (ap is_single_kind is) (events_at sys.flow p h)))

pub legal-inside_phi : LegalInsidePhiComesFromInside
legal-inside_phi sys h w b l e f fr =
    let p = sender sys.flow e in
    let d = legal_events-in_domain sys h w b l p in
    elim (sender_sorts sys.flow w e) [
      | inl (inl is) ↦ inside_phi_of_sequence-from_inside sys h e f is fr d (sequences-in_order sys h w b l p is)
      | inl (inr by) ↦ inside_phi-from_inside sys h e f by fr d
      | inr is ↦ idle-comes_from_inside sys h e f is
    ]
