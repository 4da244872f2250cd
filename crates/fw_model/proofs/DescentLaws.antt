-- The largest family of frontiers inside which nothing is missing, found by a descent.
use Rattle.std.proofs.Common.{◌≡◌, ℕ, zero, suc, ◌+◌, ◌<◌, ◌≤◌, Bool, true, false, not, ◌&&◌, ◌||◌, ◌==◌, cond, List, [], ◌∷◌, ◌++◌, length, refl, sym, ap, subst, ◌∙◌, inl, inr, ◌⊎◌, arith}
use Rattle.std.specs.List.{AllByRecursion}
use Rattle.std.proofs.lemmas.Bool.{and_parts, and_from, cases_lt, eqb-true, eq-eqb, not-true}
use Rattle.std.proofs.lemmas.List.{get_or_past}
use Rattle.fw_lemmas.proofs.Bools.{same_tests, implies-from}
use Rattle.fw_time.specs.Stamp.{Stamp, leq, same, in_domain}
use Rattle.fw_time.proofs.StampLaws.{leq-refl, leq-trans}
use Rattle.fw_time.proofs.DomainLaws.{domain-leq}
use Rattle.fw_frontier.specs.Frontier.{Frontier, IsFrontier, Within}
use Rattle.fw_flow.specs.Counting.{how_many}
use Rattle.fw_flow.specs.declared.event.Event.{Event}
use Rattle.fw_flow.specs.Kind.{Kind}
use Rattle.fw_flow.specs.declared.kind.Kind.TheVariants.{OutputEpoch}
use Rattle.fw_flow.specs.Dataflow.{greatest_of_kind, System, Dataflow, kind_of, sender, receiver, bounds_of, bounds_of_domain, out_domain_of_kind, domain_of_kind, is_input_kind}
use Rattle.fw_flow.specs.NodeFunction.{sends_of_kind, sends, sent_by}
use Rattle.fw_flow.specs.Projection.{events_at, sent_count, phi_of_kind, phi}
use Rattle.fw_flow.specs.WellFormed.{IsWellFormed}
use Rattle.fw_flow.specs.Message.{messages_less}
use Rattle.fw_flow.proofs.MessageLaws.{less-none}
use Rattle.fw_model.proofs.CarriedLaws.{carried-none}
use Rattle.fw_model.proofs.LesserLaws.{lesser-in_domain}
use Rattle.fw_model.specs.Carried.{carried}
use Rattle.fw_model.specs.History.{some_at, delivered_messages, pending_messages, is_owed_notice, injected_epochs, IsQuiet, IsAdmissible}
use Rattle.fw_model.specs.LawsOfExistence.{CompleteExists, CompleteIsTheOnlyOne}
use Rattle.fw_model.proofs.CompleteLaws.{past_edges-idle}
use Rattle.fw_model.proofs.PhiLaws.{phi-monotone}
use Rattle.fw_model.proofs.FrontierLaws.{phi-frontier}
use Rattle.fw_model.proofs.StampLists.{each_below, each_below-at, each_below-from, stamps, each_stamp-at, each_up_to, each_up_to-at, each_up_to-from}

-- ---- implications of tests

pub implies-at : (a b : Bool) → (not a || b) ≡ true → a ≡ true → b ≡ true
implies-at true b k e = k
implies-at false b k e = absurd (cc)

-- ---- a family counts the less, the less it has inside

fewer : {A : Type 0} (f g : A → Bool) → ((x : A) → f x ≡ true → g x ≡ true) → (xs : List A)
    → (AllByRecursion (λ x. g x ≡ true → f x ≡ true) xs × (how_many f xs ≡ how_many g xs)) ⊎ (how_many f xs < how_many g xs)
fewer f g w [] = inl (tt, refl)
fewer f g w (x ∷ xs) = by (f x) (g x) refl refl (w x) (fewer f g w xs)
  where
    by : (a b : Bool) → f x ≡ a → g x ≡ b → (f x ≡ true → g x ≡ true)
        → (AllByRecursion (λ y. g y ≡ true → f y ≡ true) xs × (how_many f xs ≡ how_many g xs)) ⊎ (how_many f xs < how_many g xs)
        → (AllByRecursion (λ y. g y ≡ true → f y ≡ true) (x ∷ xs) × (cond a (how_many f xs + 1) (how_many f xs) ≡ cond b (how_many g xs + 1) (how_many g xs)))
        ⊎ (cond a (how_many f xs + 1) (how_many f xs) < cond b (how_many g xs + 1) (how_many g xs))
    by true true d e v (inl s) = inl ((λ k. d, s.0), ap (λ n. n + 1) s.1)
    by true true d e v (inr l) = inr (omega arith)
    by true false d e v s = let c = v d in absurd (cc)
    by false true d e v (inl s) = let c = s.1 in inr (omega arith)
    by false true d e v (inr l) = inr (omega arith)
    by false false d e v (inl s) = inl ((λ k. absurd (cc), s.0), s.1)
    by false false d e v (inr l) = inr l

-- how many stamps the first n frontiers of a family have inside, of those up to these greatest ones
pub total : (ℕ → Stamp) → (ℕ → Frontier) → ℕ → ℕ
total top family zero = 0
total top family (suc n) = how_many (family n) (stamps (top n)) + total top family n

-- of those up to these greatest stamps, the first n frontiers of a family have all that those of another have
pub Covers : (ℕ → Stamp) → (ℕ → Frontier) → (ℕ → Frontier) → ℕ → Type 0
Covers top family other n = (p : ℕ) → p < n → (t : Stamp) → leq t (top p) ≡ true → other p t ≡ true → family p t ≡ true

pub covers-at : (top : ℕ → Stamp) (family other : ℕ → Frontier) (n : ℕ) → Covers top family other n → (p : ℕ) → p < n → (t : Stamp) → leq t (top p) ≡ true
    → other p t ≡ true → family p t ≡ true
unfolding Covers
covers-at top family other n c = c

pub total-less : (top : ℕ → Stamp) (family other : ℕ → Frontier) → ((p : ℕ) → Within (family p) (other p)) → (n : ℕ)
    → (Covers top family other n × (total top family n ≡ total top other n)) ⊎ (total top family n < total top other n)
unfolding total Covers
total-less top family other w zero = inl (λ p l. absurd (omega arith), refl)
total-less top family other w (suc n) = elim (total-less top family other w n) [
  | inr l ↦ elim (fewer (family n) (other n) (w n) (stamps (top n))) [ inl s ↦ let e = s.1 in inr (omega arith) | inr m ↦ inr (omega arith) ]
  | inl c ↦ elim (fewer (family n) (other n) (w n) (stamps (top n))) [
    | inr m ↦ let e = c.1 in inr (omega arith)
    | inl s ↦
        let d = c.1 in
        let e = s.1 in
        inl (
          λ p l t i. elim (cases_lt p n) [
            | inl m ↦ c.0 p m t i
            | inr m ↦
                let q : n ≡ p = omega arith in
                subst (λ r. leq t (top r) ≡ true → other r t ≡ true → family r t ≡ true) q
                (λ j. each_stamp-at (λ u. other n u ≡ true → family n u ≡ true) (top n) t s.0 j) i
          ],
          omega arith,
        )
  ]
]

-- a descending sequence of families comes to one that the next has all of
settles : (top : ℕ → Stamp) (sequence : ℕ → ℕ → Frontier) → ((k p : ℕ) → Within (sequence (suc k) p) (sequence k p)) → (n fuel k : ℕ)
    → total top (sequence k) n < fuel → (i : ℕ) × Covers top (sequence (suc i)) (sequence i) n
settles top sequence w n zero k l = absurd (omega arith)
settles top sequence w n (suc fuel) k l = elim (total-less top (sequence (suc k)) (sequence k) (w k) n) [
  | inl c ↦ (k, c.0)
  | inr m ↦ settles top sequence w n fuel (suc k) (omega arith)
]

-- ---- the bounds of the descent

-- whether nothing is pending for node p at a stamp
pub is_quiet : System → List Event → ℕ → Stamp → Bool
is_quiet sys h p t = each_below (λ e. not (receiver sys.flow e == p) || not (some_at (same t) (pending_messages sys h e))) (length sys.flow.edges)

-- whether nothing is owed to node p at a stamp, and a source injected it
is_paid : System → List Event → ℕ → Stamp → Bool
is_paid sys h p t = not (is_owed_notice sys h p t) && (not (is_input_kind (kind_of sys.flow p)) || injected_epochs sys h p t)

-- whether nothing is pending and nothing owed for node p at a stamp, and a source injected it
is_clear : System → List Event → ℕ → Stamp → Bool
is_clear sys h p t = is_quiet sys h p t && is_paid sys h p t

-- the stamps of node p up to which all is clear
clear_below : System → List Event → ℕ → Frontier
clear_below sys h p t = in_domain (bounds_of sys.flow p) t && each_up_to (is_clear sys h p) t

clear-frontier : (sys : System) (h : List Event) (p : ℕ) → IsFrontier (bounds_of sys.flow p) (clear_below sys h p)
unfolding clear_below
clear-frontier sys h p = record {
  inside_domain = λ t k. (and_parts (in_domain (bounds_of sys.flow p) t) (each_up_to (is_clear sys h p) t) k).0;
  closed = λ s t d l k.
      let a = and_parts (in_domain (bounds_of sys.flow p) t) (each_up_to (is_clear sys h p) t) k in
      and_from (in_domain (bounds_of sys.flow p) s) (each_up_to (is_clear sys h p) s) d
      (each_up_to-from (is_clear sys h p) s (λ r m. each_up_to-at (is_clear sys h p) t r a.1 (leq-trans r s t m l)));
}

-- past the last edge nothing is sent
pub past_edges-joined : (flow : Dataflow) (e : ℕ) → length flow.edges ≤ e → sender flow e ≡ receiver flow e
unfolding sender receiver
past_edges-joined flow e l =
    let past = get_or_past flow.edges e (record { name = []; sender = length flow.nodes; receiver = length flow.nodes }) l in
    ap (λ d. d.sender) past ∙ sym (ap (λ d. d.receiver) past)

idle-sends_none : (sys : System) (p : ℕ) → kind_of sys.flow p ≡ OutputEpoch → (vs : List Event) → sent_by sys p vs ≡ []
unfolding sends
idle-sends_none sys p is [] = refl
idle-sends_none sys p is (v ∷ vs) = ap (λ k. sends_of_kind sys k vs v ++ sent_by sys p vs) is ∙ idle-sends_none sys p is vs

pub past_edges-quiet : (sys : System) (h : List Event) (e : ℕ) (t : Stamp) → length sys.flow.edges ≤ e → some_at (same t) (pending_messages sys h e) ≡ false
past_edges-quiet sys h e t l =
    let q = sender sys.flow e in
    ap (λ ms. some_at (same t) (messages_less (carried sys.flow e ms) (delivered_messages h e))) (idle-sends_none sys q (past_edges-idle sys.flow e l) (events_at sys.flow q h))
    ∙ ap (λ ms. some_at (same t) (messages_less ms (delivered_messages h e))) (carried-none sys.flow e)
    ∙ ap (λ ms. some_at (same t) ms) (less-none (delivered_messages h e))

pub past_edges-phi : (sys : System) (h : List Event) (e : ℕ) (f : Frontier) (t : Stamp) → length sys.flow.edges ≤ e
    → in_domain (bounds_of sys.flow (sender sys.flow e)) t ≡ true → f t ≡ true → phi sys h e f t ≡ true
unfolding phi bounds_of
past_edges-phi sys h e f t l d k =
    let q = sender sys.flow e in
    let is = past_edges-idle sys.flow e l in
    let P : Kind → Type 0 = λ kind.
    in_domain (bounds_of_domain sys.flow (domain_of_kind sys.flow kind)) t ≡ true
    → (in_domain (bounds_of_domain sys.flow (out_domain_of_kind sys.flow kind)) t && phi_of_kind (greatest_of_kind sys.flow kind) kind (sent_count sys h q f) f t) ≡ true in
    subst P (sym is) (λ j. and_from (in_domain (bounds_of_domain sys.flow (domain_of_kind sys.flow OutputEpoch)) t) (f t) j k) d

pub past_edges-receiver : (flow : Dataflow) (e : ℕ) → length flow.edges ≤ e → kind_of flow (receiver flow e) ≡ OutputEpoch
past_edges-receiver flow e l = sym (ap (kind_of flow) (past_edges-joined flow e l)) ∙ past_edges-idle flow e l

pub quiet-at : (sys : System) (h : List Event) (p : ℕ) (t : Stamp) → is_quiet sys h p t ≡ true → IsQuiet sys h p t
unfolding is_quiet
quiet-at sys h p t k e r = elim (cases_lt e (length sys.flow.edges)) [
  | inr l ↦ past_edges-quiet sys h e t l
  | inl l ↦
      not-true (some_at (same t) (pending_messages sys h e)) (implies-at (receiver sys.flow e == p) (not (some_at (same t) (pending_messages sys h e)))
      (each_below-at (λ d. not (receiver sys.flow d == p) || not (some_at (same t) (pending_messages sys h d))) (length sys.flow.edges) k e l)
      (eq-eqb (receiver sys.flow e) p r))
]

pub quiet-from : (sys : System) (h : List Event) (p : ℕ) (t : Stamp) → IsQuiet sys h p t → is_quiet sys h p t ≡ true
unfolding is_quiet
quiet-from sys h p t q =
    each_below-from (λ d. not (receiver sys.flow d == p) || not (some_at (same t) (pending_messages sys h d))) (length sys.flow.edges)
    (λ e l. implies-from (receiver sys.flow e == p) (not (some_at (same t) (pending_messages sys h e))) (λ r. ap not (q e (eqb-true (receiver sys.flow e) p r))))

clear-quiet : (sys : System) (h : List Event) (p : ℕ) (t : Stamp) → is_clear sys h p t ≡ true → IsQuiet sys h p t
unfolding is_clear
clear-quiet sys h p t k = quiet-at sys h p t (and_parts (is_quiet sys h p t) (is_paid sys h p t) k).0

clear-paid : (sys : System) (h : List Event) (p : ℕ) (t : Stamp) → is_clear sys h p t ≡ true → is_owed_notice sys h p t ≡ false
unfolding is_clear is_paid
clear-paid sys h p t k =
    let a = and_parts (is_quiet sys h p t) (is_paid sys h p t) k in
    not-true (is_owed_notice sys h p t) (and_parts (not (is_owed_notice sys h p t)) (not (is_input_kind (kind_of sys.flow p)) || injected_epochs sys h p t) a.1).0

clear-source : (sys : System) (h : List Event) (p : ℕ) (t : Stamp) → is_clear sys h p t ≡ true → is_input_kind (kind_of sys.flow p) ≡ true
    → injected_epochs sys h p t ≡ true
unfolding is_clear is_paid
clear-source sys h p t k i =
    let a = and_parts (is_quiet sys h p t) (is_paid sys h p t) k in
    implies-at (is_input_kind (kind_of sys.flow p)) (injected_epochs sys h p t)
    (and_parts (not (is_owed_notice sys h p t)) (not (is_input_kind (kind_of sys.flow p)) || injected_epochs sys h p t) a.1).1 i

clear-from : (sys : System) (h : List Event) (p : ℕ) (t : Stamp) → IsQuiet sys h p t → is_owed_notice sys h p t ≡ false
    → (is_input_kind (kind_of sys.flow p) ≡ true → injected_epochs sys h p t ≡ true) → is_clear sys h p t ≡ true
unfolding is_clear is_paid
clear-from sys h p t q o s =
    and_from (is_quiet sys h p t) (is_paid sys h p t) (quiet-from sys h p t q)
    (and_from (not (is_owed_notice sys h p t)) (not (is_input_kind (kind_of sys.flow p)) || injected_epochs sys h p t) (ap not o)
    (implies-from (is_input_kind (kind_of sys.flow p)) (injected_epochs sys h p t) s))

-- ---- the descent

-- whether a stamp is inside phi on each in-edge of node p
pub follows_all : System → List Event → (ℕ → Frontier) → ℕ → Frontier
follows_all sys h family p t =
    each_below (λ e. not (receiver sys.flow e == p) || phi sys h e (family (sender sys.flow e)) t) (length sys.flow.edges)

pub follows_all-at : (sys : System) (h : List Event) (family : ℕ → Frontier) (p : ℕ) (t : Stamp) → follows_all sys h family p t ≡ true
    → (e : ℕ) → e < length sys.flow.edges → receiver sys.flow e ≡ p → phi sys h e (family (sender sys.flow e)) t ≡ true
unfolding follows_all
follows_all-at sys h family p t k e l r =
    implies-at (receiver sys.flow e == p) (phi sys h e (family (sender sys.flow e)) t)
    (each_below-at (λ d. not (receiver sys.flow d == p) || phi sys h d (family (sender sys.flow d)) t) (length sys.flow.edges) k e l)
    (eq-eqb (receiver sys.flow e) p r)

pub follows_all-from : (sys : System) (h : List Event) (family : ℕ → Frontier) (p : ℕ) (t : Stamp)
    → ((e : ℕ) → e < length sys.flow.edges → receiver sys.flow e ≡ p → phi sys h e (family (sender sys.flow e)) t ≡ true)
    → follows_all sys h family p t ≡ true
unfolding follows_all
follows_all-from sys h family p t k =
    each_below-from (λ d. not (receiver sys.flow d == p) || phi sys h d (family (sender sys.flow d)) t) (length sys.flow.edges)
    (λ e l. implies-from (receiver sys.flow e == p) (phi sys h e (family (sender sys.flow e)) t) (λ r. k e l (eqb-true (receiver sys.flow e) p r)))

-- the family after so many lowerings
lowered : System → List Event → ℕ → ℕ → Frontier
lowered sys h zero p t = clear_below sys h p t
lowered sys h (suc k) p t = clear_below sys h p t && follows_all sys h (lowered sys h k) p t

lowered-clear : (sys : System) (h : List Event) (k p : ℕ) → Within (lowered sys h k p) (clear_below sys h p)
unfolding lowered
lowered-clear sys h zero p t i = i
lowered-clear sys h (suc k) p t i = (and_parts (clear_below sys h p t) (follows_all sys h (lowered sys h k) p t) i).0

lowered-follows : (sys : System) (h : List Event) (k p : ℕ) (t : Stamp) → lowered sys h (suc k) p t ≡ true → follows_all sys h (lowered sys h k) p t ≡ true
unfolding lowered
lowered-follows sys h k p t i = (and_parts (clear_below sys h p t) (follows_all sys h (lowered sys h k) p t) i).1

lowered-from : (sys : System) (h : List Event) (k p : ℕ) (t : Stamp) → clear_below sys h p t ≡ true → follows_all sys h (lowered sys h k) p t ≡ true
    → lowered sys h (suc k) p t ≡ true
unfolding lowered
lowered-from sys h k p t i j = and_from (clear_below sys h p t) (follows_all sys h (lowered sys h k) p t) i j

lowered-descends : (sys : System) (h : List Event) (k p : ℕ) → Within (lowered sys h (suc k) p) (lowered sys h k p)
lowered-descends sys h zero p t i = unfold lowered in lowered-clear sys h 1 p t i
lowered-descends sys h (suc k) p t i =
    let f = lowered-follows sys h (suc k) p t i in
    lowered-from sys h k p t (lowered-clear sys h (suc (suc k)) p t i)
    (follows_all-from sys h (lowered sys h k) p t (λ e l r.
    phi-monotone sys h e (lowered sys h (suc k) (sender sys.flow e)) (lowered sys h k (sender sys.flow e)) (lowered-descends sys h k (sender sys.flow e)) t
    (follows_all-at sys h (lowered sys h (suc k)) p t f e l r)))

lowered-frontier : (sys : System) (h : List Event) (k p : ℕ) → IsFrontier (bounds_of sys.flow p) (lowered sys h k p)
lowered-frontier sys h zero p = unfold lowered in clear-frontier sys h p
lowered-frontier sys h (suc k) p =
    let c = clear-frontier sys h p in
    record {
      inside_domain = λ t i. c.inside_domain t (lowered-clear sys h (suc k) p t i);
      closed = λ s t d l i.
          let f = lowered-follows sys h k p t i in
          lowered-from sys h k p s (c.closed s t d l (lowered-clear sys h (suc k) p t i))
          (follows_all-from sys h (lowered sys h k) p s (λ e m r.
          let q = sender sys.flow e in
          let j = follows_all-at sys h (lowered sys h k) p t f e m r in
          let b = phi-frontier sys h e (lowered sys h k q) (lowered-frontier sys h k q) in
          b.closed s t (leq-trans s t _ l (b.inside_domain t j)) l j));
    }

-- each admissible family lies within each family of the descent
admissible-clear : (sys : System) (h : List Event) (other : ℕ → Frontier) → IsAdmissible sys h other → (p : ℕ) → Within (other p) (clear_below sys h p)
unfolding clear_below
admissible-clear sys h other a p t i =
    let fr = a.frontier p in
    let d = fr.inside_domain t i in
    and_from (in_domain (bounds_of sys.flow p) t) (each_up_to (is_clear sys h p) t) d
    (each_up_to-from (is_clear sys h p) t (λ s l.
    let j = fr.closed s t (lesser-in_domain sys.flow p s t l d) l i in
    clear-from sys h p s (a.quiet p s j) (a.paid p s j) (λ is. a.source p is s j)))

admissible-lowered : (sys : System) (h : List Event) (other : ℕ → Frontier) → IsAdmissible sys h other → (k p : ℕ) → Within (other p) (lowered sys h k p)
admissible-lowered sys h other a zero p t i = unfold lowered in admissible-clear sys h other a p t i
admissible-lowered sys h other a (suc k) p t i =
    lowered-from sys h k p t (admissible-clear sys h other a p t i)
    (follows_all-from sys h (lowered sys h k) p t (λ e l r.
    phi-monotone sys h e (other (sender sys.flow e)) (lowered sys h k (sender sys.flow e)) (admissible-lowered sys h other a k (sender sys.flow e)) t
    (a.follows e t (ap (λ q. other q t) r ∙ i))))

-- where the next family has all of one at the flow's nodes, that one is admissible
stable-follows : (sys : System) (h : List Event) → IsWellFormed sys.flow → (k : ℕ)
    → Covers (λ p. (bounds_of sys.flow p).greatest) (lowered sys h (suc k)) (lowered sys h k) (length sys.flow.nodes)
    → (e : ℕ) → Within (lowered sys h k (receiver sys.flow e)) (phi sys h e (lowered sys h k (sender sys.flow e)))
unfolding Covers
stable-follows sys h w k c e t i =
    let p = receiver sys.flow e in
    let d = (lowered-frontier sys h k p).inside_domain t i in
    elim (cases_lt e (length sys.flow.edges)) [
      | inl l ↦ follows_all-at sys h (lowered sys h k) p t (lowered-follows sys h k p t (c p (w.receivers_declared e l) t (domain-leq (bounds_of sys.flow p) t d) i)) e l refl
      | inr l ↦
          let j = past_edges-joined sys.flow e l in
          past_edges-phi sys h e (lowered sys h k (sender sys.flow e)) t l (ap (λ q. in_domain (bounds_of sys.flow q) t) j ∙ d) (ap (λ q. lowered sys h k q t) j ∙ i)
    ]

clear-here : (sys : System) (h : List Event) (p : ℕ) (t : Stamp) → clear_below sys h p t ≡ true → is_clear sys h p t ≡ true
unfolding clear_below
clear-here sys h p t i =
    each_up_to-at (is_clear sys h p) t t (and_parts (in_domain (bounds_of sys.flow p) t) (each_up_to (is_clear sys h p) t) i).1 (leq-refl t)

stable-admissible : (sys : System) (h : List Event) → IsWellFormed sys.flow → (k : ℕ)
    → Covers (λ p. (bounds_of sys.flow p).greatest) (lowered sys h (suc k)) (lowered sys h k) (length sys.flow.nodes)
    → IsAdmissible sys h (lowered sys h k)
stable-admissible sys h w k c =
    let clear : (p : ℕ) (t : Stamp) → lowered sys h k p t ≡ true → is_clear sys h p t ≡ true = λ p t i. clear-here sys h p t (lowered-clear sys h k p t i) in
    record {
      frontier = λ p. lowered-frontier sys h k p;
      quiet = λ p t i. clear-quiet sys h p t (clear p t i);
      paid = λ p t i. clear-paid sys h p t (clear p t i);
      follows = λ e. stable-follows sys h w k c e;
      source = λ s is t i. clear-source sys h s t (clear s t i) is;
    }

pub complete-exists : CompleteExists
complete-exists sys h w =
    let top : ℕ → Stamp = λ p. (bounds_of sys.flow p).greatest in
    let n = length sys.flow.nodes in
    let s = settles top (lowered sys h) (λ k p. lowered-descends sys h k p) n (suc (total top (lowered sys h 0) n)) 0 (omega arith) in (
      lowered sys h s.0,
      record {
        admissible = stable-admissible sys h w s.0 s.1;
        largest = λ other a p. admissible-lowered sys h other a s.0 p;
      },
    )

pub complete-one : CompleteIsTheOnlyOne
complete-one sys h one other a b =
    λ i p t. same_tests (one p t) (other p t) (b.largest one a.admissible p t) (a.largest other b.admissible p t) i
