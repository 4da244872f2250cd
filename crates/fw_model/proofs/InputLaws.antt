-- What an input sent is what its first batches hold.
use Rattle.std.proofs.Common.{◌≡◌, ℕ, zero, suc, ◌+◌, ◌-◌, ◌<◌, ◌≤◌, true, cond, ◌&&◌, ◌||◌, ◌==◌, nat_lt, List, [], ◌∷◌, ◌++◌, length, Option, Some, None, refl, sym, ap, ◌∙◌, inl, inr, arith, false, Bool}
use Rattle.std.specs.Prelude.{slice_index_or}
use Rattle.std.proofs.lemmas.Bool.{and_parts, or_cases, cond_both, cases_Bool, eqb-true, ltb-true}
use Rattle.fw_time.specs.Stamp.{Stamp, same, in_domain, up_to}
use Rattle.std.specs.Ordering.{is_eq}
use Rattle.fw_bag.specs.declared.rec.Rec.{Rec}
use Rattle.fw_bag.specs.Rec.{rec_cmp}
use Rattle.fw_flow.specs.declared.event.Event.{Event}
use Rattle.fw_flow.specs.declared.event.Event.TheVariants.{Inject, Deliver, Notify}
use Rattle.fw_flow.specs.declared.event.Message.{Message}
use Rattle.fw_flow.specs.Kind.{Kind}
use Rattle.fw_flow.specs.declared.kind.Kind.TheVariants.{Input}
use Rattle.fw_flow.specs.Dataflow.{System, kind_of, batches_of, bounds_of, Dataflow, bounds_of_domain, domain_of_kind, greatest_number, is_input_kind}
use Rattle.fw_flow.specs.NodeFunction.{event_node, messages_at, messages_at_some, sends_of_kind, sends, sent_by}
use Rattle.fw_flow.specs.Projection.{events_at, first_coordinate}
use Rattle.fw_flow.specs.WholeBags.{Timed, timed_recs, timed_at_some, timed_batches}
use Rattle.fw_model.specs.History.{injected_count, is_exhausted, injected_epochs, IsLegal}
use Rattle.fw_model.proofs.WeightLaws.{weigh, weigh-append, one, one-out}
use Rattle.fw_model.proofs.SentLaws.{timed_of, timed_message}
use Rattle.fw_model.proofs.StampLaws.{same-is, line-leq}
use Rattle.fw_lemmas.proofs.Each.{each-append}
use Rattle.std.specs.List.{AllByRecursion}
use Rattle.fw_time.specs.declared.stamp.Bounds.{Bounds}
use Rattle.fw_model.specs.Wholes.{IsLawfulWhole}
use Rattle.fw_model.proofs.OutputLaws.{each-timed, At, IsNumber}

-- ---- sums

-- the sum of the first n numbers
unfoldable pub sum_to : ℕ → (ℕ → ℕ) → ℕ
sum_to zero f = 0
sum_to (suc n) f = f n + sum_to n f

sum_to-more : (m n : ℕ) (f : ℕ → ℕ) → sum_to n f ≤ sum_to (m + n) f
unfolding sum_to
sum_to-more zero n f = let e : zero + n ≡ n = omega arith in let g = ap (λ k. sum_to k f) e in omega arith
sum_to-more (suc m) n f =
    let e : suc m + n ≡ suc (m + n) = omega arith in
    let g : sum_to (suc m + n) f ≡ f (m + n) + sum_to (m + n) f = ap (λ k. sum_to k f) e in
    let h = sum_to-more m n f in
    omega arith

sum_to-same : (m n : ℕ) (f : ℕ → ℕ) → ((x : ℕ) → n ≤ x → f x ≡ 0) → sum_to (m + n) f ≡ sum_to n f
unfolding sum_to
sum_to-same zero n f z = let e : zero + n ≡ n = omega arith in ap (λ k. sum_to k f) e
sum_to-same (suc m) n f z =
    let e : suc m + n ≡ suc (m + n) = omega arith in
    let g : sum_to (suc m + n) f ≡ f (m + n) + sum_to (m + n) f = ap (λ k. sum_to k f) e in
    let h = sum_to-same m n f z in
    let y = z (m + n) (omega arith) in
    omega arith

-- ---- messages at one stamp

pub timed_of-append : (xs ys : List Message) → timed_of (xs ++ ys) ≡ timed_of xs ++ timed_of ys
timed_of-append [] ys = refl
timed_of-append (x ∷ xs) ys = ap (λ l. timed_message x ∷ l) (timed_of-append xs ys)

timed_of-messages_at : (at cause : Stamp) (rs : List Rec) → timed_of (messages_at at cause rs) ≡ timed_recs at rs
timed_of-messages_at at cause [] = refl
timed_of-messages_at at cause (r ∷ rs) = ap (λ l. record { at = at; rec = r } ∷ l) (timed_of-messages_at at cause rs)

pub timed_of-messages_at_some : (at : Option Stamp) (cause : Stamp) (rs : List Rec) → timed_of (messages_at_some at cause rs) ≡ timed_at_some at rs
timed_of-messages_at_some None cause rs = refl
timed_of-messages_at_some (Some at) cause rs = timed_of-messages_at at cause rs

-- what is sent next and what was sent before
pub sent-weigh : (sys : System) (p : ℕ) (w : Timed → ℕ) (v : Event) (vs : List Event)
    → weigh w (timed_of (sent_by sys p (v ∷ vs))) ≡ weigh w (timed_of (sends sys p vs v)) + weigh w (timed_of (sent_by sys p vs))
sent-weigh sys p w v vs =
    ap (weigh w) (timed_of-append (sends sys p vs v) (sent_by sys p vs)) ∙ weigh-append w (timed_of (sends sys p vs v)) (timed_of (sent_by sys p vs))

-- ---- batches

-- the weight of a batch at its epoch
abbrev pub batch_weight : (Timed → ℕ) → List (List Rec) → ℕ → ℕ
batch_weight w batches x = weigh w (timed_recs (x ∷ []) (slice_index_or batches x []))

batches-sum : (w : Timed → ℕ) (all batches : List (List Rec)) (k : ℕ) → ((i : ℕ) → i < length batches → slice_index_or all (k + i) [] ≡ slice_index_or batches i [])
    → weigh w (timed_batches k batches) + sum_to k (batch_weight w all) ≡ sum_to (k + length batches) (batch_weight w all)
unfolding weigh sum_to
batches-sum w all [] k a = let e : k + 0 ≡ k = omega arith in let g = ap (λ n. sum_to n (batch_weight w all)) e in omega arith
batches-sum w all (b ∷ bs) k a =
    let f = batch_weight w all in
    let n : k + 0 ≡ k = omega arith in
    let here : f k ≡ weigh w (timed_recs (k ∷ []) b) = ap (λ rs. weigh w (timed_recs (k ∷ []) rs)) (ap (λ i. slice_index_or all i []) (sym n) ∙ a 0 (omega arith)) in
    let h = batches-sum w all bs (k + 1) (λ i l. let e : k + 1 + i ≡ k + suc i = omega arith in ap (λ j. slice_index_or all j []) e ∙ a (suc i) (omega arith)) in
    let s : k + 1 ≡ suc k = omega arith in
    let g : sum_to (k + 1) f ≡ f k + sum_to k f = ap (λ j. sum_to j f) s in
    let u : k + 1 + length bs ≡ k + length (b ∷ bs) = omega arith in
    let j = ap (λ i. sum_to i f) u in
    let c = weigh-append w (timed_recs (k ∷ []) b) (timed_batches (k + 1) bs) in
    omega arith

pub batches-weigh : (w : Timed → ℕ) (batches : List (List Rec)) → weigh w (timed_batches 0 batches) ≡ sum_to (length batches) (batch_weight w batches)
unfolding sum_to
batches-weigh w batches =
    let a = batches-sum w batches batches 0 (λ i l. let e : 0 + i ≡ i = omega arith in ap (λ j. slice_index_or batches j []) e) in
    let e : 0 + length batches ≡ length batches = omega arith in
    let g = ap (λ n. sum_to n (batch_weight w batches)) e in
    omega arith

-- ---- what an input sent

input-sends : (sys : System) (kind : Kind) (before : List Event) (v : Event) (w : Timed → ℕ) → kind ≡ Input → weigh w (timed_of (sends_of_kind sys kind before v)) ≡ weigh w (timed_of (sends_of_kind sys Input before v))
input-sends sys kind before v w e = ap (λ k. weigh w (timed_of (sends_of_kind sys k before v))) e

pub injected-few : (sys : System) (h : List Event) → IsLegal sys h → (p : ℕ) → injected_count p h ≤ length (batches_of sys p)
injected-few sys [] l p = omega arith
injected-few sys (Inject s x ∷ h) l p =
    let r = injected-few sys h l.1 p in
    let k = l.0 in
    cond_both (s == p) (injected_count p h + 1) (injected_count p h) (λ n. n ≤ length (batches_of sys p))
    (λ e.
    let i = eqb-true s p e in
    let a = k.next in
    let b = k.there in
    let c = ap (λ q. length (batches_of sys q)) i in
    let d = ap (λ q. injected_count q h) i in
    omega arith)
    (λ e. r)
injected-few sys (Deliver e m ∷ h) l p = injected-few sys h l.1 p
injected-few sys (Notify q t ∷ h) l p = injected-few sys h l.1 p

input-weigh : (sys : System) (p : ℕ) → kind_of sys.flow p ≡ Input → (w : Timed → ℕ) (h : List Event) → IsLegal sys h
    → weigh w (timed_of (sent_by sys p (events_at sys.flow p h))) ≡ sum_to (injected_count p h) (batch_weight w (batches_of sys p))
unfolding weigh sum_to sends
input-weigh sys p is w [] l = refl
input-weigh sys p is w (Inject s x ∷ h) l =
    let vs = events_at sys.flow p h in
    let r = input-weigh sys p is w h l.1 in
    let f = batch_weight w (batches_of sys p) in
    let n = injected_count p h in
    elim (cases_Bool (s == p)) [
      | inl e ↦
          let i = eqb-true s p e in
          let here : weigh w (timed_of (sends sys p vs (Inject s x))) ≡ f n =
          input-sends sys (kind_of sys.flow p) vs (Inject s x) w is
          ∙ ap (weigh w) (timed_of-messages_at (x ∷ []) (x ∷ []) (slice_index_or (batches_of sys s) x []))
          ∙ ap (λ q. weigh w (timed_recs (x ∷ []) (slice_index_or (batches_of sys q) x []))) i
          ∙ ap f (l.0.next ∙ ap (λ q. injected_count q h) i) in
          let a = sent-weigh sys p w (Inject s x) vs in
          let s1 : n + 1 ≡ suc n = omega arith in
          let b : sum_to (n + 1) f ≡ f n + sum_to n f = ap (λ k. sum_to k f) s1 in
          ap (λ c. weigh w (timed_of (sent_by sys p (cond c (Inject s x ∷ vs) vs)))) e ∙ a ∙ (omega (arith, here, r, b)) ∙ sym (ap (λ c. sum_to (cond c (n + 1) n) f) e)
      | inr e ↦ ap (λ c. weigh w (timed_of (sent_by sys p (cond c (Inject s x ∷ vs) vs)))) e ∙ r ∙ sym (ap (λ c. sum_to (cond c (n + 1) n) f) e)
    ]
input-weigh sys p is w (Deliver e m ∷ h) l =
    let vs = events_at sys.flow p h in
    let r = input-weigh sys p is w h l.1 in
    let here = input-sends sys (kind_of sys.flow p) vs (Deliver e m) w is in
    let a = sent-weigh sys p w (Deliver e m) vs in
    cond_both (event_node sys.flow (Deliver e m) == p) (Deliver e m ∷ vs) vs (λ ws. weigh w (timed_of (sent_by sys p ws)) ≡ sum_to (injected_count p h) (batch_weight w (batches_of sys p)))
    (λ c. omega arith) (λ c. r)
input-weigh sys p is w (Notify q t ∷ h) l =
    let vs = events_at sys.flow p h in
    let r = input-weigh sys p is w h l.1 in
    let here = input-sends sys (kind_of sys.flow p) vs (Notify q t) w is in
    let a = sent-weigh sys p w (Notify q t) vs in
    cond_both (q == p) (Notify q t ∷ vs) vs (λ ws. weigh w (timed_of (sent_by sys p ws)) ≡ sum_to (injected_count p h) (batch_weight w (batches_of sys p)))
    (λ c. omega arith) (λ c. r)

-- a batch weighs nothing at the stamps of other epochs
other_epoch : (t : Stamp) (q : Rec) (x : ℕ) (rs : List Rec) → (first_coordinate t ≡ x → ⊥) → weigh (one t q) (timed_recs (x ∷ []) rs) ≡ 0
unfolding weigh
other_epoch t q x [] k = refl
other_epoch t q x (r ∷ rs) k =
    let h = other_epoch t q x rs k in
    let z = one-out t q (record { at = x ∷ []; rec = r }) (elim (cases_Bool (same t (x ∷ []))) [
      | inl e ↦ absurd (k (ap first_coordinate (same-is t (x ∷ []) e)))
      | inr e ↦ ap (λ b. b && is_eq (rec_cmp q r)) e
    ]) in
    omega arith

-- what an input sent is at most what its batches hold
pub input-lighter : (sys : System) (p : ℕ) → kind_of sys.flow p ≡ Input → (w : Timed → ℕ) (h : List Event) → IsLegal sys h
    → weigh w (timed_of (sent_by sys p (events_at sys.flow p h))) ≤ weigh w (timed_batches 0 (batches_of sys p))
input-lighter sys p is w h l =
    let f = batch_weight w (batches_of sys p) in
    let n = injected_count p h in
    let m = length (batches_of sys p) in
    let few = injected-few sys h l p in
    let a = input-weigh sys p is w h l in
    let b = batches-weigh w (batches_of sys p) in
    let c = sum_to-more (m - n) n f in
    let e : m - n + n ≡ m = omega arith in
    let d = ap (λ k. sum_to k f) e in
    omega arith

-- inside the injected epochs an input sent what its batches hold
pub input-equal : (sys : System) (p : ℕ) → kind_of sys.flow p ≡ Input → (h : List Event) → IsLegal sys h → (t : Stamp)
    → injected_epochs sys h p t ≡ true → (q : Rec)
    → weigh (one t q) (timed_of (sent_by sys p (events_at sys.flow p h))) ≡ weigh (one t q) (timed_batches 0 (batches_of sys p))
input-equal sys p is h l t k q =
    let w = one t q in
    let f = batch_weight w (batches_of sys p) in
    let n = injected_count p h in
    let m = length (batches_of sys p) in
    let a = input-weigh sys p is w h l in
    let b = batches-weigh w (batches_of sys p) in
    let i = and_parts (in_domain (bounds_of sys.flow p) t) (is_exhausted sys h p || nat_lt (first_coordinate t) n) k in
    elim (or_cases (is_exhausted sys h p) (nat_lt (first_coordinate t) n) i.1) [
      | inl e ↦ a ∙ ap (λ j. sum_to j f) (eqb-true n m e) ∙ sym b
      | inr e ↦
          let below = ltb-true (first_coordinate t) n e in
          let few = injected-few sys h l p in
          let c = sum_to-same (m - n) n f (λ x j. other_epoch t q x (slice_index_or (batches_of sys p) x []) (λ y. omega arith)) in
          let e : m - n + n ≡ m = omega arith in
          let d = ap (λ j. sum_to j f) e in
          omega arith
    ]

-- ---- the domain of an input

input-epoch : (flow : Dataflow) (k : Kind) → is_input_kind k ≡ true → bounds_of_domain flow (domain_of_kind flow k) ≡ record { greatest = greatest_number ∷ []; sides = false }
input-epoch flow Input e = refl
input-epoch flow k e = absurd (cc)

pub input-bounds : (flow : Dataflow) (p : ℕ) → is_input_kind (kind_of flow p) ≡ true → bounds_of flow p ≡ record { greatest = greatest_number ∷ []; sides = false }
unfolding bounds_of
input-bounds flow p e = input-epoch flow (kind_of flow p) e

-- ---- what is asked of what an input sends in all

each-batch : (x : ℕ) (batches : List (List Rec)) → x + length batches ≤ greatest_number + 1 → AllByRecursion (At IsNumber) (timed_batches x batches)
each-batch x [] l = tt
each-batch x (batch ∷ batches) l =
    each-append (At IsNumber) (timed_recs (x ∷ []) batch) (timed_batches (x + 1) batches)
    (each-timed IsNumber (x ∷ []) (line-leq x greatest_number (omega arith)) batch)
    (each-batch (x + 1) batches (omega arith))

pub each_injected : (within : Bounds) (takes : Stamp → Stamp → Bool) (alone at_once inner : Type 0)
    → IsLawfulWhole within (up_to (greatest_number ∷ [])) takes alone at_once inner (λ batches bags. timed_batches 0 batches)
each_injected within takes alone at_once inner = record {
  lands = λ batches bags l a. each-batch 0 batches (omega arith);
  by_parts = λ k batches bags t. refl;
  fewer = λ k batches t x bag cag ds f. omega arith;
  agrees = λ k batches t x bag cag ds f. refl;
}
