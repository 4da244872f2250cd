-- Families of frontiers that are widened node by node.
use Rattle.std.proofs.Common.{◌≡◌, ◌≢◌, ℕ, zero, suc, ◌+◌, ◌<◌, Bool, true, false, not, ◌&&◌, ◌||◌, ◌==◌, nat_lt, cond, List, [], ◌∷◌, ◌++◌, length, refl, sym, ap, ◌∙◌, inl, inr, arith}
use Rattle.std.proofs.lemmas.Bool.{cases_Bool, cases_lt, cond_both, eqb-true, false_from_ne_true, or_parts}
use Rattle.fw_lemmas.proofs.Each.{each-weaker}
use Rattle.fw_time.specs.Stamp.{Stamp, leq, same, in_domain}
use Rattle.fw_frontier.specs.Frontier.{Frontier, IsFrontier}
use Rattle.fw_flow.specs.declared.event.Event.{Event}
use Rattle.fw_flow.specs.declared.event.Event.TheVariants.{Inject, Deliver, Notify}
use Rattle.fw_flow.specs.declared.event.Message.{Message}
use Rattle.fw_flow.specs.Dataflow.{System, Dataflow, kind_of, sender, receiver, bounds_of, bounds_of_domain, out_domain_of_kind, is_notified_kind, batches_of}
use Rattle.fw_flow.specs.NodeFunction.{event_node, event_stamp, numbered_messages, sequence_sent, sends_of_kind, sends, sent_by}
use Rattle.fw_flow.specs.Projection.{events_at, all_inside, count_from, sent_count, first_coordinate, phi}
use Rattle.fw_flow.specs.WellFormed.{IsWellFormed}
use Rattle.fw_flow.specs.Ranks.{is_looped}
use Rattle.fw_model.proofs.KindSorts.{is_inner, inner-from_loop}
use Rattle.fw_model.proofs.LesserLaws.{lesser-in_domain}
use Rattle.fw_model.specs.History.{some_at, sent_messages, message_on, delivered_messages, pending_messages, is_delivery_to, is_notification, was_delivered_to, was_notified, is_owed_notice, is_injection, injected_count, injected_epochs, IsQuiet, IsAdmissible, IsLegal}
use Rattle.fw_model.specs.Measure.{Measure}
use Rattle.fw_model.specs.LawsOfProgress.{IsOpen, IsStuck, StuckIsComplete, EventsLeaveOthersStuck, NotifiableByComplete}
use Rattle.fw_model.specs.Sending.{SendsByCount, recs_by_count_on}
use Rattle.fw_model.proofs.CompleteLaws.{enabled-outside}
use Rattle.fw_model.proofs.MeasureLaws.{sends_to_loop, measure-exists}
use Rattle.fw_model.proofs.PhiLaws.{phi-monotone, count-append}
use Rattle.fw_model.proofs.SendingLaws.{phi-by_stamp, phi-in_domain}
use Rattle.fw_model.proofs.SentLaws.{less-weigh, delivered-was_sent, sent-grows}
use Rattle.fw_model.proofs.SequenceLaws.{IsNumbered, numbered-each, one_inside, count-none}
use Rattle.fw_model.proofs.WeightLaws.{weigh}
use Rattle.fw_model.proofs.WellFormedLaws.{senders_well_formed}
use Rattle.fw_model.proofs.SenderLaws.{sends_lawfully}

-- ---- a family that no node alone can widen

-- the family has each stamp of the other family that is of lesser measure
abbrev HasBelow : (flow : Dataflow) → Measure flow → (ℕ → Frontier) → (ℕ → Frontier) → ℕ → Type 0
HasBelow flow by done other m = (q : ℕ) (s : Stamp) → by.measure q s < m → q < length flow.nodes → other q s ≡ true → done q s ≡ true

-- what arrives at a stamp from the other family arrives from this one, if it has what is of lesser measure
arrives-below : (sys : System) (h : List Event) → IsWellFormed sys.flow → (by : Measure sys.flow) (done other : ℕ → Frontier)
    → ((p : ℕ) → IsFrontier (bounds_of sys.flow p) (done p)) → ((p : ℕ) → IsFrontier (bounds_of sys.flow p) (other p))
    → (e : ℕ) → e < length sys.flow.edges → (t : Stamp) → HasBelow sys.flow by done other (by.measure (receiver sys.flow e) t)
    → phi sys h e (other (sender sys.flow e)) t ≡ true → phi sys h e (done (sender sys.flow e)) t ≡ true
arrives-below sys h w by done other df of e l t has k =
    let q = sender sys.flow e in
    let there = w.senders_declared e l in
    elim (cases_Bool (is_looped sys.flow (receiver sys.flow e))) [
      | inr unlooped ↦ phi-monotone sys h e (other q) (done q) (λ s i. has q s (by.into_unlooped e l unlooped s t) there i) t k
      | inl looped ↦ elim (senders_well_formed sys.flow w e l) [
        | inl is ↦
            let inner = inner-from_loop sys.flow (kind_of sys.flow q) (sends_to_loop sys.flow w e l looped) in
            let none = ap is_inner is in
            absurd (cc)
        | inr by_stamp ↦
            let d = phi-in_domain sys h e (other q) t k in
            let all = (phi-by_stamp sys h e (other q) by_stamp (of q) t d).0 k in
            (phi-by_stamp sys h e (done q) by_stamp (df q) t d).1
            (λ s u i is below. has q s (by.into_looped e l looped s t u is below) there (all s u i is below))
      ]
    ]

-- a stamp of an admissible family is open by another family from which it arrives
open-from : (sys : System) (h : List Event) (done other : ℕ → Frontier) → IsAdmissible sys h other → (p : ℕ) (t : Stamp) → other p t ≡ true
    → ((e : ℕ) → e < length sys.flow.edges → receiver sys.flow e ≡ p → phi sys h e (done (sender sys.flow e)) t ≡ true)
    → IsOpen sys h done p t
open-from sys h done other o p t i arrives =
    let fr = o.frontier p in
    let d = fr.inside_domain t i in
    let down : (s : Stamp) → leq s t ≡ true → other p s ≡ true = λ s l. fr.closed s t (lesser-in_domain sys.flow p s t l d) l i in
    record {
      of_domain = d;
      quiet = λ s l. o.quiet p s (down s l);
      paid = λ s l. o.paid p s (down s l);
      source = λ is. o.source p is t i;
      arrives = arrives;
    }

has-below : (sys : System) (h : List Event) → IsWellFormed sys.flow → (by : Measure sys.flow) (done other : ℕ → Frontier)
    → IsAdmissible sys h done → IsAdmissible sys h other → ((p : ℕ) → IsStuck sys h done p) → (n : ℕ) → HasBelow sys.flow by done other n
has-below sys h w by done other a o stuck zero q s m l i = absurd (omega arith)
has-below sys h w by done other a o stuck (suc n) q s m l i =
    stuck q s (open-from sys h done other o q s i (λ e k r.
    arrives-below sys h w by done other a.frontier o.frontier e k s
    (λ p t less there j.
    let here : by.measure (receiver sys.flow e) s ≡ by.measure q s = ap (λ x. by.measure x s) r in
    has-below sys h w by done other a o stuck n p t (omega arith) there j)
    (o.follows e s (ap (λ x. other x s) r ∙ i))))

pub stuck-complete : StuckIsComplete
stuck-complete sys h done w a stuck =
    let by = measure-exists sys.flow w in
    record {
      admissible = a;
      largest = λ other o p t i. elim (cases_lt p (length sys.flow.nodes)) [
        | inl l ↦ has-below sys h w by done other a o stuck (by.measure p t + 1) p t (omega arith) l i
        | inr past ↦ stuck p t (open-from sys h done other o p t i (λ e l r. let there = w.receivers_declared e l in absurd (omega arith)))
      ];
    }

-- ---- what an event leaves at another node

-- 1 for a message at the stamp, and else 0
abbrev at_stamp : Stamp → Message → ℕ
at_stamp t m = cond (same t m.at) 1 0

none-weigh : (t : Stamp) (ms : List Message) → some_at (same t) ms ≡ false → weigh (at_stamp t) ms ≡ 0
unfolding weigh
none-weigh t [] k = refl
none-weigh t (m ∷ ms) k =
    let both = or_parts (same t m.at) (some_at (same t) ms) k in
    let here : at_stamp t m ≡ 0 = ap (λ b. cond b 1 0) both.0 in
    let rest = none-weigh t ms both.1 in
    omega arith

weigh-none : (t : Stamp) (ms : List Message) → weigh (at_stamp t) ms ≡ 0 → some_at (same t) ms ≡ false
unfolding weigh
weigh-none t [] z = refl
weigh-none t (m ∷ ms) z = by (same t m.at) z (λ y. weigh-none t ms y)
  where
    by : (b : Bool) → cond b 1 0 + weigh (at_stamp t) ms ≡ 0 → (weigh (at_stamp t) ms ≡ 0 → some_at (same t) ms ≡ false) → (b || some_at (same t) ms) ≡ false
    by true y f = absurd (omega arith)
    by false y f = f (omega arith)

other-node : (a p : ℕ) → p ≢ a → (a == p) ≡ false
other-node a p n = false_from_ne_true (a == p) (λ k. n (sym (eqb-true a p k)))

no-message : (flow : Dataflow) (v : Event) (e p : ℕ) → receiver flow e ≡ p → p ≢ event_node flow v → message_on e v ≡ []
no-message flow (Inject s x) e p r n = refl
no-message flow (Deliver d m) e p r n =
    ap (λ b. cond b (m ∷ []) []) (false_from_ne_true (d == e) (λ k. n (sym r ∙ sym (ap (receiver flow) (eqb-true d e k)))))
no-message flow (Notify q t) e p r n = refl

no-delivery : (flow : Dataflow) (v : Event) (p : ℕ) (t : Stamp) → p ≢ event_node flow v → is_delivery_to flow p t v ≡ false
no-delivery flow (Inject s x) p t n = refl
no-delivery flow (Deliver e m) p t n = ap (λ b. b && same m.at t) (other-node (receiver flow e) p n)
no-delivery flow (Notify q s) p t n = refl

no-notice : (flow : Dataflow) (v : Event) (p : ℕ) (t : Stamp) → p ≢ event_node flow v → is_notification p t v ≡ false
no-notice flow (Inject s x) p t n = refl
no-notice flow (Deliver e m) p t n = refl
no-notice flow (Notify q s) p t n = ap (λ b. b && same s t) (other-node q p n)

no-injection : (flow : Dataflow) (v : Event) (p : ℕ) → p ≢ event_node flow v → is_injection p v ≡ false
no-injection flow (Inject s x) p n = other-node s p n
no-injection flow (Deliver e m) p n = refl
no-injection flow (Notify q t) p n = refl

-- nothing that was pending for another node is gone
quiet-before : (sys : System) (h : List Event) (v : Event) → IsLegal sys (v ∷ h) → (p : ℕ) → p ≢ event_node sys.flow v
    → (s : Stamp) → IsQuiet sys (v ∷ h) p s → IsQuiet sys h p s
quiet-before sys h v l p n s k e r =
    let w = at_stamp s in
    let now = less-weigh w (sent_messages sys (v ∷ h) e) (delivered_messages (v ∷ h) e) (delivered-was_sent sys (v ∷ h) l e) in
    let before = less-weigh w (sent_messages sys h e) (delivered_messages h e) (delivered-was_sent sys h l.1 e) in
    let more = sent-grows sys h v e w in
    let came : weigh w (delivered_messages (v ∷ h) e) ≡ weigh w (delivered_messages h e) = ap (λ ms. weigh w (ms ++ delivered_messages h e)) (no-message sys.flow v e p r n) in
    let none = none-weigh s (pending_messages sys (v ∷ h) e) (k e r) in
    weigh-none s (pending_messages sys h e) (omega arith)

owed-before : (sys : System) (h : List Event) (v : Event) (p : ℕ) → p ≢ event_node sys.flow v → (s : Stamp) → is_owed_notice sys (v ∷ h) p s ≡ is_owed_notice sys h p s
owed-before sys h v p n s =
    let k = is_notified_kind (kind_of sys.flow p) in
    let d = was_delivered_to sys.flow p s h in
    let o = was_notified p s h in
    ap (λ b. k && (b || d) && not (is_notification p s v || o)) (no-delivery sys.flow v p s n)
    ∙ ap (λ b. k && d && not (b || o)) (no-notice sys.flow v p s n)

injected-before : (sys : System) (h : List Event) (v : Event) (p : ℕ) → p ≢ event_node sys.flow v → (t : Stamp) → injected_epochs sys (v ∷ h) p t ≡ injected_epochs sys h p t
injected-before sys h v p n t =
    ap (λ b. in_domain (bounds_of sys.flow p) t && (cond b (injected_count p h + 1) (injected_count p h) == length (batches_of sys p) || nat_lt (first_coordinate t) (cond b (injected_count p h + 1) (injected_count p h))))
    (no-injection sys.flow v p n)

-- what a sequence sends at a stamp outside does not count
outside-count : (sys : System) (p : ℕ) (f : Frontier) (vs : List Event) (v : Event) → SendsByCount (kind_of sys.flow p) → f (event_stamp v) ≡ false
    → count_from f (sends sys p vs v) ≡ 0
unfolding sends
outside-count sys p f vs v k o =
    let n = length (sequence_sent vs) in
    let t = event_stamp v in
    let rs = recs_by_count_on sys vs v in
    ap (λ kind. count_from f (sends_of_kind sys kind vs v)) k
    ∙ count-none f (numbered_messages n t rs)
    (each-weaker (IsNumbered n t) (λ (m : Message). all_inside f m.causes ≡ false) (numbered_messages n t rs) (λ m a. one_inside f t m false o a.1) (numbered-each n t rs))

count-before : (sys : System) (h : List Event) (v : Event) (p : ℕ) (f : Frontier) → SendsByCount (kind_of sys.flow p)
    → (event_node sys.flow v ≡ p → f (event_stamp v) ≡ false) → sent_count sys (v ∷ h) p f ≡ sent_count sys h p f
count-before sys h v p f k o =
    let vs = events_at sys.flow p h in
    cond_both (event_node sys.flow v == p) (v ∷ vs) vs (λ us. count_from f (sent_by sys p us) ≡ count_from f (sent_by sys p vs))
    (λ here.
    let none = outside-count sys p f vs v k (o (eqb-true (event_node sys.flow v) p here)) in
    let both = count-append f (sends sys p vs v) (sent_by sys p vs) in
    omega arith)
    (λ other. refl)

-- phi of a frontier without the event is as it was
pub phi-before : (sys : System) (h : List Event) (v : Event) (e : ℕ) (f : Frontier) → (event_node sys.flow v ≡ sender sys.flow e → f (event_stamp v) ≡ false)
    → (u : Stamp) → phi sys (v ∷ h) e f u ≡ phi sys h e f u
unfolding phi
phi-before sys h v e f o u =
    let q = sender sys.flow e in
    let kind = kind_of sys.flow q in
    ap (λ c. in_domain (bounds_of_domain sys.flow (out_domain_of_kind sys.flow kind)) u && c)
    ((sends_lawfully sys.flow kind).of_phi.counts (sent_count sys (v ∷ h) q f) (sent_count sys h q f) f u (λ k. count-before sys h v q f k o))

pub leave-stuck : EventsLeaveOthersStuck
leave-stuck sys h v done l a p n stuck t is =
    let out = enabled-outside sys h done a v l.0 in
    stuck t (record {
      of_domain = is.of_domain;
      quiet = λ s m. quiet-before sys h v l p n s (is.quiet s m);
      paid = λ s m. sym (owed-before sys h v p n s) ∙ is.paid s m;
      source = λ k. sym (injected-before sys h v p n t) ∙ is.source k;
      arrives = λ e m r.
          sym (phi-before sys h v e (done (sender sys.flow e)) (λ at. sym (ap (λ q. done q (event_stamp v)) at) ∙ out) t) ∙ is.arrives e m r;
    })

-- ---- notifications

pub notifiable-by : NotifiableByComplete
notifiable-by sys h done c p t = (
  λ k. record {
    is_owed = k.is_owed;
    none_lesser = k.none_lesser;
    quiet = k.quiet;
    arrives = λ d r.
        let other = k.complete.0 in
        phi-monotone sys h d (other (sender sys.flow d)) (done (sender sys.flow d)) (c.largest other k.complete.1 (sender sys.flow d)) t (k.complete.2 d r);
  },
  λ k. record {
    is_owed = k.is_owed;
    none_lesser = k.none_lesser;
    quiet = k.quiet;
    complete = (done, c.admissible, k.arrives);
  },
)
