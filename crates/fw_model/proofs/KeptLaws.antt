-- The kept events of a legal history are a legal history.
use Rattle.std.proofs.Common.{◌≡◌, ℕ, ◌+◌, ◌≤◌, Bool, true, false, cond, not, ◌&&◌, ◌==◌, List, [], ◌∷◌, ◌++◌, length, refl, sym, ap, subst, ◌∙◌, arith}
use Rattle.std.specs.List.{AllByRecursion, list_any}
use Rattle.std.specs.Ordering.{is_eq}
use Rattle.std.proofs.lemmas.Bool.{and_parts, cond_both, eqb-true, eq-eqb}
use Rattle.fw_lemmas.proofs.Each.{each-weaker, each-both, each-one, each-suffix}
use Rattle.fw_lemmas.proofs.Filters.{filter-all, any-filter}
use Rattle.fw_time.specs.Stamp.{Stamp, leq, same}
use Rattle.fw_time.proofs.StampLaws.{leq-trans}
use Rattle.fw_frontier.specs.Frontier.{Frontier}
use Rattle.fw_flow.specs.declared.event.Event.{Event}
use Rattle.fw_flow.specs.declared.event.Event.TheVariants.{Inject, Deliver, Notify}
use Rattle.fw_flow.specs.declared.event.Message.{Message}
use Rattle.fw_flow.specs.Dataflow.{System, Dataflow, kind_of, sender, receiver, is_notified_kind, HasEpochs}
use Rattle.fw_flow.specs.NodeFunction.{event_node, event_stamp}
use Rattle.fw_flow.specs.Projection.{all_inside, phi}
use Rattle.fw_flow.specs.WellFormed.{IsWellFormed}
use Rattle.fw_model.proofs.CarriedLaws.{sent-more}
use Rattle.fw_model.proofs.LesserLaws.{lesser-in_domain}
use Rattle.fw_model.specs.LawsOfPending.{sent_on}
use Rattle.fw_model.specs.History.{sent_messages, message_on, delivered_messages, pending_messages, is_delivery_to, is_notification, was_delivered_to, was_notified, is_owed_notice, is_injection, injected_count, IsQuiet, IsEnabled, IsLegal}
use Rattle.fw_model.specs.LawsOfFiltering.{KeptDeliveriesHaveKeptCauses}
use Rattle.fw_flow.specs.Message.{message_cmp, is_message_among, messages_less}
use Rattle.fw_flow.proofs.MessageLaws.{among-each, message_cmp-equal, less-each}
use Rattle.fw_model.proofs.StampLaws.{leq_from, leq_to, line-leq, same-is}
use Rattle.fw_model.proofs.OrderLaws.{legal-inside_phi}
use Rattle.fw_model.proofs.ClosedLaws.{numbered-ascend}
use Rattle.fw_model.proofs.FilterLaws.{any_filter-none, how_many-filter, pending-kept}
use Rattle.fw_model.proofs.LocalityLaws.{sends-same, delivers-same}
use Rattle.fw_model.specs.Order.{AreNumberedInOrder}
use Rattle.fw_model.specs.Filtering.{AreFrontiers, kept_events, messages_from, messages_inside, HaveKeptCauses}

-- ---- kept deliveries have kept causes

-- what was sent before was sent
sent-each_before : (sys : System) (P : Message → Type 0) (v : Event) (h : List Event) (e : ℕ) → AllByRecursion P (sent_messages sys (v ∷ h) e) → AllByRecursion P (sent_messages sys h e)
sent-each_before sys P v h e a = each-suffix P (sent_on sys h e v) (sent_messages sys h e) (subst (AllByRecursion P) (sent-more sys h v e) a)

-- what was delivered was sent
delivered-each : (sys : System) (P : Message → Type 0) (h : List Event) → IsLegal sys h → (e : ℕ) → AllByRecursion P (sent_messages sys h e) → AllByRecursion P (delivered_messages h e)
delivered-each sys P [] l e a = tt
delivered-each sys P (v ∷ h) l e a =
    let b = sent-each_before sys P v h e a in
    now v l.0 b (delivered-each sys P h l.1 e b)
  where
    now : (v : Event) → IsEnabled sys h v → AllByRecursion P (sent_messages sys h e) → AllByRecursion P (delivered_messages h e) → AllByRecursion P (delivered_messages (v ∷ h) e)
    now (Inject s x) k b rest = rest
    now (Notify p t) k b rest = rest
    now (Deliver d m) k b rest =
        cond_both (d == e) (m ∷ []) [] (λ ms. AllByRecursion P (ms ++ delivered_messages h e))
        (λ c.
        let i = ap (λ n. is_message_among m (pending_messages sys h n)) (sym (eqb-true d e c)) ∙ k.is_pending in
        (among-each P m (pending_messages sys h e) i (less-each P (sent_messages sys h e) (delivered_messages h e) b), rest))
        (λ c. rest)

pub kept-causes : KeptDeliveriesHaveKeptCauses
kept-causes sys h keep w b l fr c e =
    let f = keep (sender sys.flow e) in
    let from : Message → Type 0 = λ m. phi sys h e f m.at ≡ true → all_inside f m.causes ≡ true in
    let inside : Message → Type 0 = λ m. keep (receiver sys.flow e) m.at ≡ true → phi sys h e f m.at ≡ true in
    each-weaker (λ m. from m × inside m) (λ m. keep (receiver sys.flow e) m.at ≡ true → all_inside f m.causes ≡ true) (delivered_messages h e) (λ m a i. a.0 (a.1 i))
    (each-both from inside (delivered_messages h e)
    (delivered-each sys from h l e (legal-inside_phi sys h w b l e f (fr (sender sys.flow e)))) (c e))

causes-before : (flow : Dataflow) (keep : ℕ → Frontier) (v : Event) (h : List Event) → HaveKeptCauses flow (v ∷ h) keep → HaveKeptCauses flow h keep
causes-before flow keep v h c e = each-suffix _ (message_on e v) (delivered_messages h e) (c e)

-- ---- what is pending of the kept events

-- what filtering needs where no node is notified: a legal history, and kept deliveries with kept causes
pub record IsFiltering (sys : System) (h : List Event) (keep : ℕ → Frontier) : Type 0 where
  pub well_formed : IsWellFormed sys.flow
  pub epochs : HasEpochs sys
  pub legal : IsLegal sys h
  pub frontiers : AreFrontiers sys.flow keep
  pub causes : HaveKeptCauses sys.flow h keep

-- at stamps that the receiver keeps, what is pending of the kept events is what was pending and has kept causes
pub pending-inside : (sys : System) (h : List Event) (keep : ℕ → Frontier) → IsFiltering sys h keep → (e : ℕ)
    → messages_inside (keep (receiver sys.flow e)) (pending_messages sys (kept_events sys.flow keep h) e)
    ≡ messages_inside (keep (receiver sys.flow e)) (messages_from (keep (sender sys.flow e)) (pending_messages sys h e))
pending-inside sys h keep k e =
    let g = keep (receiver sys.flow e) in
    let f = keep (sender sys.flow e) in
    ap (λ ms. messages_inside g (messages_less ms (delivered_messages (kept_events sys.flow keep h) e))) (sends-same sys h keep k.well_formed k.epochs k.legal k.frontiers e)
    ∙ ap (λ ds. messages_inside g (messages_less (messages_from f (sent_messages sys h e)) ds)) (delivers-same sys.flow h keep e)
    ∙ pending-kept (λ (m : Message). g m.at) (λ (m : Message). all_inside f m.causes) (sent_messages sys h e) (delivered_messages h e) (k.causes e)

-- whether some message at a stamp that the receiver keeps is pending
any-inside : (sys : System) (h : List Event) (keep : ℕ → Frontier) → IsFiltering sys h keep → (e : ℕ) (test : Message → Bool)
    → ((m : Message) → test m ≡ true → keep (receiver sys.flow e) m.at ≡ true)
    → list_any test (pending_messages sys (kept_events sys.flow keep h) e) ≡ list_any test (messages_inside (keep (receiver sys.flow e)) (messages_from (keep (sender sys.flow e)) (pending_messages sys h e)))
any-inside sys h keep k e test i =
    let g = keep (receiver sys.flow e) in
    let now = pending_messages sys (kept_events sys.flow keep h) e in
    sym (any-filter test (λ (m : Message). g m.at) now (each-one (λ (m : Message). test m ≡ true → g m.at ≡ true) now i))
    ∙ ap (list_any test) (pending-inside sys h keep k e)

pub kept-quiet : (sys : System) (h : List Event) (keep : ℕ → Frontier) → IsFiltering sys h keep → (p : ℕ) (t : Stamp) → keep p t ≡ true → IsQuiet sys h p t
    → IsQuiet sys (kept_events sys.flow keep h) p t
kept-quiet sys h keep k p t i quiet e r =
    let g = keep (receiver sys.flow e) in
    let f = keep (sender sys.flow e) in
    any-inside sys h keep k e (λ m. same t m.at) (λ m c. ap g (sym (same-is t m.at c)) ∙ ap (λ n. keep n t) r ∙ i)
    ∙ any_filter-none (λ (m : Message). same t m.at) (λ (m : Message). g m.at) (messages_from f (pending_messages sys h e))
    (any_filter-none (λ (m : Message). same t m.at) (λ (m : Message). all_inside f m.causes) (pending_messages sys h e) (quiet e r))

kept-pending : (sys : System) (h : List Event) (keep : ℕ → Frontier) → IsFiltering sys h keep → (e : ℕ) (m : Message)
    → keep (receiver sys.flow e) m.at ≡ true → all_inside (keep (sender sys.flow e)) m.causes ≡ true
    → is_message_among m (pending_messages sys (kept_events sys.flow keep h) e) ≡ is_message_among m (pending_messages sys h e)
kept-pending sys h keep k e m i j =
    let g = keep (receiver sys.flow e) in
    let f = keep (sender sys.flow e) in
    let test : Message → Bool = λ x. is_eq (message_cmp m x) in
    let inside : (x : Message) → test x ≡ true → g x.at ≡ true = λ x c. ap (λ (y : Message). g y.at) (sym (message_cmp-equal m x c)) ∙ i in
    let from : (x : Message) → test x ≡ true → all_inside f x.causes ≡ true = λ x c. ap (λ (y : Message). all_inside f y.causes) (sym (message_cmp-equal m x c)) ∙ j in
    any-inside sys h keep k e test inside
    ∙ any-filter test (λ (x : Message). g x.at) (messages_from f (pending_messages sys h e)) (each-one (λ x. test x ≡ true → g x.at ≡ true) (messages_from f (pending_messages sys h e)) inside)
    ∙ any-filter test (λ (x : Message). all_inside f x.causes) (pending_messages sys h e) (each-one (λ x. test x ≡ true → all_inside f x.causes ≡ true) (pending_messages sys h e) from)

-- ---- what is owed after the kept events

pub kept-owed : (sys : System) (h : List Event) (keep : ℕ → Frontier) (p : ℕ) (t : Stamp) → keep p t ≡ true → is_owed_notice sys (kept_events sys.flow keep h) p t ≡ is_owed_notice sys h p t
kept-owed sys h keep p t i =
    let kept : Event → Bool = λ v. keep (event_node sys.flow v) (event_stamp v) in
    ap (λ b. is_notified_kind (kind_of sys.flow p) && b && not (was_notified p t (kept_events sys.flow keep h)))
    (any-filter (is_delivery_to sys.flow p t) kept h (each-one (λ v. is_delivery_to sys.flow p t v ≡ true → kept v ≡ true) h delivery))
    ∙ ap (λ b. is_notified_kind (kind_of sys.flow p) && was_delivered_to sys.flow p t h && not b)
    (any-filter (is_notification p t) kept h (each-one (λ v. is_notification p t v ≡ true → kept v ≡ true) h notice))
  where
    at_stamp : (q : ℕ) (s : Stamp) → (q == p && same s t) ≡ true → keep q s ≡ true
    at_stamp q s c =
        let a = and_parts (q == p) (same s t) c in
        ap (λ n. keep n s) (eqb-true q p a.0) ∙ ap (keep p) (same-is s t a.1) ∙ i

    delivery : (v : Event) → is_delivery_to sys.flow p t v ≡ true → keep (event_node sys.flow v) (event_stamp v) ≡ true
    delivery (Inject s x) c = absurd (cc)
    delivery (Deliver e m) c = at_stamp (receiver sys.flow e) m.at c
    delivery (Notify q s) c = absurd (cc)

    notice : (v : Event) → is_notification p t v ≡ true → keep (event_node sys.flow v) (event_stamp v) ≡ true
    notice (Inject s x) c = absurd (cc)
    notice (Deliver e m) c = absurd (cc)
    notice (Notify q s) c = at_stamp q s c

-- ---- kept injections

-- up to n batches were injected: each injection is of a lesser epoch
injections-below : (sys : System) (h : List Event) → IsLegal sys h → (s n : ℕ) → injected_count s h ≤ n
    → AllByRecursion (λ v. is_injection s v ≡ true → (event_node sys.flow v ≡ s) × (leq (event_stamp v) (n ∷ []) ≡ true)) h
injections-below sys [] l s n c = tt
injections-below sys (Deliver e m ∷ h) l s n c = (λ i. absurd (cc), injections-below sys h l.1 s n c)
injections-below sys (Notify p t ∷ h) l s n c = (λ i. absurd (cc), injections-below sys h l.1 s n c)
injections-below sys (Inject q x ∷ h) l s n c =
    let k = injected_count s h in
    let fewer : k ≤ n = counted (q == s) k c in (
      λ i.
          let r = eqb-true q s i in
          let next = l.0.next in
          let same : injected_count q h ≡ k = ap (λ p. injected_count p h) r in
          (r, line-leq x n (omega arith)),
      injections-below sys h l.1 s n fewer,
    )
  where
    counted : (b : Bool) (k : ℕ) → cond b (k + 1) k ≤ n → k ≤ n
    counted true k l = omega arith
    counted false k l = l

-- with an epoch all injections up to it are kept
kept-injections : (sys : System) (h : List Event) (keep : ℕ → Frontier) → IsLegal sys h → AreFrontiers sys.flow keep → (s x : ℕ) → keep s (x ∷ []) ≡ true
    → injected_count s h ≤ x → injected_count s (kept_events sys.flow keep h) ≡ injected_count s h
kept-injections sys h keep l fr s x i c =
    let f = fr s in
    let below : (t : Stamp) → leq t (x ∷ []) ≡ true → keep s t ≡ true =
    λ t b. f.closed t (x ∷ []) (lesser-in_domain sys.flow s t (x ∷ []) b (f.inside_domain (x ∷ []) i)) b i in
    how_many-filter (is_injection s) (λ v. keep (event_node sys.flow v) (event_stamp v)) h
    (each-weaker (λ v. is_injection s v ≡ true → (event_node sys.flow v ≡ s) × (leq (event_stamp v) (x ∷ []) ≡ true))
    (λ v. is_injection s v ≡ true → keep (event_node sys.flow v) (event_stamp v) ≡ true) h
    (λ v a j. let b = a j in ap (λ q. keep q (event_stamp v)) b.0 ∙ below (event_stamp v) b.1)
    (injections-below sys h l s x c))

pub inject-enabled : (sys : System) (h : List Event) (keep : ℕ → Frontier) → IsLegal sys h → AreFrontiers sys.flow keep → (s x : ℕ) → IsEnabled sys h (Inject s x)
    → keep s (x ∷ []) ≡ true → IsEnabled sys (kept_events sys.flow keep h) (Inject s x)
inject-enabled sys h keep l fr s x k i =
    let n = k.next in
    record {
      input = k.input;
      next = k.next ∙ sym (kept-injections sys h keep l fr s x i (omega arith));
      there = k.there;
    }

-- ---- kept deliveries

-- messages with the numbers from 0 on are at most at their count
numbers-below : (ms : List Message) → AreNumberedInOrder ms → AllByRecursion (λ (m : Message). leq m.at (length ms ∷ []) ≡ true) ms
numbers-below [] a = tt
numbers-below (m ∷ ms) a =
    let n = length ms in
    let later = line-leq n (length (m ∷ ms)) (omega arith) in (
      leq_from (n ∷ []) m.at (length (m ∷ ms) ∷ []) (sym a.0) later,
      each-weaker (λ (x : Message). leq x.at (n ∷ []) ≡ true) (λ x. leq x.at (length (m ∷ ms) ∷ []) ≡ true) ms
          (λ x b. leq-trans x.at (n ∷ []) (length (m ∷ ms) ∷ []) b later) (numbers-below ms a.1),
    )

pub deliver-enabled : (sys : System) (h : List Event) (keep : ℕ → Frontier) → IsFiltering sys h keep → (e : ℕ) (m : Message) → IsEnabled sys h (Deliver e m)
    → keep (receiver sys.flow e) m.at ≡ true → all_inside (keep (sender sys.flow e)) m.causes ≡ true
    → IsEnabled sys (kept_events sys.flow keep h) (Deliver e m)
deliver-enabled sys h keep c e m k i j =
    let g = keep (receiver sys.flow e) in
    let f = c.frontiers (receiver sys.flow e) in
    record {
      is_pending = kept-pending sys h keep c e m i j ∙ k.is_pending;
      numbered = λ n.
          let at = k.numbered n in
          let all = filter-all (λ (x : Message). g x.at) (delivered_messages h e)
          (each-weaker (λ (x : Message). leq x.at (length (delivered_messages h e) ∷ []) ≡ true) (λ x. g x.at ≡ true) (delivered_messages h e)
          (λ x a.
          let b = leq_to x.at _ m.at (sym at) a in
          f.closed x.at m.at (lesser-in_domain sys.flow (receiver sys.flow e) x.at m.at b (f.inside_domain m.at i)) b i)
          (numbers-below (delivered_messages h e) (numbered-ascend sys h c.legal e n))) in
          at ∙ ap (λ ms. length ms ∷ []) (sym (delivers-same sys.flow h keep e ∙ all));
    }

-- the causes of a kept delivery
pub causes-now : (flow : Dataflow) (keep : ℕ → Frontier) (h : List Event) (e : ℕ) (m : Message) → HaveKeptCauses flow (Deliver e m ∷ h) keep
    → keep (receiver flow e) m.at ≡ true → all_inside (keep (sender flow e)) m.causes ≡ true
causes-now flow keep h e m c i =
    let P : Message → Type 0 = λ x. keep (receiver flow e) x.at ≡ true → all_inside (keep (sender flow e)) x.causes ≡ true in
    let a = subst (λ b. AllByRecursion P (cond b (m ∷ []) [] ++ delivered_messages h e)) (eq-eqb e e refl) (c e) in
    a.0 i

-- ---- one event more

-- an event more, if it is kept
pub legal-with : (sys : System) (h : List Event) (keep : ℕ → Frontier) (v : Event) → IsLegal sys (kept_events sys.flow keep h)
    → (keep (event_node sys.flow v) (event_stamp v) ≡ true → IsEnabled sys (kept_events sys.flow keep h) v) → IsLegal sys (kept_events sys.flow keep (v ∷ h))
legal-with sys h keep v l k =
    let rest = kept_events sys.flow keep h in
    cond_both (keep (event_node sys.flow v) (event_stamp v)) (v ∷ rest) rest (IsLegal sys) (λ i. (k i, l)) (λ i. l)

-- what filtering needs, before the last event
pub filtering-before : (sys : System) (v : Event) (h : List Event) (keep : ℕ → Frontier) → IsFiltering sys (v ∷ h) keep → IsFiltering sys h keep
filtering-before sys v h keep c = record {
  well_formed = c.well_formed;
  epochs = c.epochs;
  legal = let l = c.legal in l.1;
  frontiers = c.frontiers;
  causes = causes-before sys.flow keep v h c.causes;
}
