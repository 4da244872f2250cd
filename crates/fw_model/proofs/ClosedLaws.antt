-- What is closed stays closed, notifications come last, and numbers come in order.
use Rattle.std.proofs.Common.{◌≡◌, ℕ, true, false, not, ◌&&◌, ◌==◌, List, [], ◌∷◌, ◌++◌, length, map, refl, sym, ap, ◌∙◌}
use Rattle.std.specs.List.{AllByRecursion}
use Rattle.std.specs.Prelude.{filter}
use Rattle.std.proofs.lemmas.Bool.{eq-eqb, and_parts, and_from, cond_both, cond-false, eqb-true, false_from_ne_true}
use Rattle.fw_lemmas.proofs.Bools.{two_ways}
use Rattle.fw_time.specs.Stamp.{Stamp, leq, same}
use Rattle.fw_time.proofs.StampLaws.{leq-trans}
use Rattle.fw_frontier.specs.Frontier.{Frontier}
use Rattle.fw_flow.specs.declared.event.Event.{Event}
use Rattle.fw_flow.specs.declared.event.Event.TheVariants.{Inject, Deliver, Notify}
use Rattle.fw_flow.specs.declared.event.Message.{Message}
use Rattle.fw_flow.specs.Kind.{Kind}
use Rattle.fw_flow.specs.declared.kind.Kind.TheVariants.{Input}
use Rattle.fw_flow.specs.Dataflow.{System, kind_of, sender, receiver, is_input_kind, is_notified_kind, is_numbered, HasEpochs}
use Rattle.fw_flow.specs.NodeFunction.{event_node, event_stamp}
use Rattle.fw_flow.specs.WellFormed.{IsWellFormed}
use Rattle.fw_model.proofs.LesserLaws.{lesser-on_edge}
use Rattle.fw_model.specs.History.{sent_messages, delivered_messages, pending_messages, was_delivered_to, was_notified, is_owed_notice, IsAdmissible, IsEnabled, IsLegal, IsNotifiable, IsClosedFor, recs_at}
use Rattle.fw_model.specs.LawsOfDeliveries.{ClosedStampsStayClosed, DeliveredUpToClosedIsFinal, NotificationsComeLast, NumberedDeliveriesAscend, DeliveredInsideCompleteIsFinal}
use Rattle.fw_model.proofs.PhiLaws.{phi-longer}
use Rattle.fw_model.proofs.FrontierLaws.{phi-frontier}
use Rattle.fw_model.proofs.PendingLaws.{is_among-some_at}
use Rattle.fw_model.proofs.CompleteLaws.{enabled-outside, admissible-stays, quiet-sent, quiet-event, not_owed-notified, not_owed-delivered}
use Rattle.fw_model.proofs.OrderLaws.{raised-paid}
use Rattle.fw_model.proofs.StampLaws.{same-is}
use Rattle.fw_model.specs.Order.{AreNumberedInOrder}

pub legal-before : (sys : System) (more h : List Event) → IsLegal sys (more ++ h) → IsLegal sys h
legal-before sys [] h l = l
legal-before sys (v ∷ more) h l = legal-before sys more h l.1

-- ---- closed stamps

closed-step : (sys : System) (h : List Event) → IsWellFormed sys.flow → HasEpochs sys → IsLegal sys h → (p : ℕ) (t : Stamp) → IsClosedFor sys h p t
    → (v : Event) → IsEnabled sys h v → IsClosedFor sys (v ∷ h) p t
closed-step sys h w b l p t c v k =
    let done = c.complete.0 in
    let a = c.complete.1 in
    record {
      quiet = λ s below e r.
          let q = sender sys.flow e in
          let top = c.complete.2 e r in
          let fr = phi-frontier sys h e (done q) (a.frontier q) in
          let inside = fr.closed s t (lesser-on_edge sys.flow e s t below (fr.inside_domain t top)) below top in
          quiet-event v h e s (sent_messages sys (v ∷ h) e) (quiet-sent sys h w b l done a v k e s inside (c.quiet s below e r));
      complete = (done, admissible-stays sys h w b l done a v k, λ d r. phi-longer sys h (v ∷ []) d (done (sender sys.flow d)) t (c.complete.2 d r));
    }

pub closed-stays : ClosedStampsStayClosed
closed-stays sys h w b p t c [] l = c
closed-stays sys h w b p t c (v ∷ more) l = closed-step sys (more ++ h) w b l.1 p t (closed-stays sys h w b p t c more l.1) v l.0

-- nothing is delivered up to a closed stamp
closed-no_delivery : (sys : System) (h : List Event) (p : ℕ) (t : Stamp) → IsClosedFor sys h p t → (e : ℕ) (m : Message) → IsEnabled sys h (Deliver e m)
    → (receiver sys.flow e == p && leq m.at t) ≡ false
closed-no_delivery sys h p t c e m k = false_from_ne_true (receiver sys.flow e == p && leq m.at t) (λ i.
    let a = and_parts (receiver sys.flow e == p) (leq m.at t) i in
    two_ways _ (is_among-some_at m (pending_messages sys h e) k.is_pending) (c.quiet m.at a.1 e (eqb-true (receiver sys.flow e) p a.0)))

-- ---- after a notification

-- the stamp is closed for the node, and the node is owed nothing up to it
pub record IsSettled (sys : System) (h : List Event) (p : ℕ) (t : Stamp) : Type 0 where
  pub closed : IsClosedFor sys h p t
  pub paid : (s : Stamp) → leq s t ≡ true → is_owed_notice sys h p s ≡ false

no_input : (kind : Kind) → is_notified_kind kind ≡ true → is_input_kind kind ≡ true → ⊥
no_input Input n i = cc
no_input kind n i = cc

pub settled-outside : (sys : System) (h : List Event) (p : ℕ) (t : Stamp) → is_notified_kind (kind_of sys.flow p) ≡ true → IsSettled sys h p t → (v : Event) → IsEnabled sys h v
    → (event_node sys.flow v == p && leq (event_stamp v) t) ≡ false
settled-outside sys h p t n s (Inject q x) k = false_from_ne_true (q == p && leq (x ∷ []) t) (λ i.
    let a = and_parts (q == p) (leq (x ∷ []) t) i in
    no_input (kind_of sys.flow p) n (sym (ap (λ r. is_input_kind (kind_of sys.flow r)) (eqb-true q p a.0)) ∙ k.input))
settled-outside sys h p t n s (Deliver e m) k = closed-no_delivery sys h p t s.closed e m k
settled-outside sys h p t n s (Notify q u) k = false_from_ne_true (q == p && leq u t) (λ i.
    let a = and_parts (q == p) (leq u t) i in
    two_ways (is_owed_notice sys h p u) (sym (ap (λ r. is_owed_notice sys h r u) (eqb-true q p a.0)) ∙ k.is_owed) (s.paid u a.1))

settled-paid : (sys : System) (h : List Event) (p : ℕ) (t : Stamp) → IsSettled sys h p t → (v : Event) → IsEnabled sys h v
    → (s : Stamp) → leq s t ≡ true → is_owed_notice sys (v ∷ h) p s ≡ false
settled-paid sys h p t c (Inject q x) k s l = c.paid s l
settled-paid sys h p t c (Notify q u) k s l =
    not_owed-notified (is_notified_kind (kind_of sys.flow p)) (was_delivered_to sys.flow p s h) (q == p && same u s) (was_notified p s h) (c.paid s l)
settled-paid sys h p t c (Deliver e m) k s l =
    not_owed-delivered (is_notified_kind (kind_of sys.flow p)) (was_delivered_to sys.flow p s h) (receiver sys.flow e == p && same m.at s) (was_notified p s h)
    (false_from_ne_true _ (λ i.
    let a = and_parts (receiver sys.flow e == p) (same m.at s) i in
    let b = and_parts (leq m.at s) (leq s m.at) a.1 in
    two_ways (receiver sys.flow e == p && leq m.at t) (and_from (receiver sys.flow e == p) (leq m.at t) a.0 (leq-trans m.at s t b.0 l))
    (closed-no_delivery sys h p t c.closed e m k)))
    (c.paid s l)

pub settled-step : (sys : System) (h : List Event) → IsWellFormed sys.flow → HasEpochs sys → IsLegal sys h → (p : ℕ) (t : Stamp) → IsSettled sys h p t
    → (v : Event) → IsEnabled sys h v → IsSettled sys (v ∷ h) p t
settled-step sys h w b l p t c v k = record { closed = closed-step sys h w b l p t c.closed v k; paid = settled-paid sys h p t c v k }

pub settled-now : (sys : System) (h : List Event) → IsWellFormed sys.flow → HasEpochs sys → IsLegal sys h → (p : ℕ) (t : Stamp) → IsNotifiable sys h p t
    → IsSettled sys (Notify p t ∷ h) p t
settled-now sys h w b l p t k = record {
  closed = closed-step sys h w b l p t (record { quiet = k.quiet; complete = k.complete }) (Notify p t) k;
  paid = λ s below. raised-paid sys h p t s k below;
}

notified-last : (sys : System) (h : List Event) → IsWellFormed sys.flow → HasEpochs sys → (p : ℕ) (t : Stamp) (more : List Event) → IsLegal sys (more ++ Notify p t ∷ h)
    → IsSettled sys (more ++ Notify p t ∷ h) p t × AllByRecursion (λ v. (event_node sys.flow v == p && leq (event_stamp v) t) ≡ false) more
notified-last sys h w b p t [] l = (settled-now sys h w b l.1 p t l.0, tt)
notified-last sys h w b p t (v ∷ more) l =
    let now = more ++ Notify p t ∷ h in
    let rest = notified-last sys h w b p t more l.1 in
    let k = legal-before sys more (Notify p t ∷ h) l.1 in
    let a = and_parts (is_notified_kind (kind_of sys.flow p) && was_delivered_to sys.flow p t h) (not (was_notified p t h)) k.0.is_owed in
    let n = and_parts (is_notified_kind (kind_of sys.flow p)) (was_delivered_to sys.flow p t h) a.0 in
    (settled-step sys now w b l.1 p t rest.0 v l.0, (settled-outside sys now p t n.0 rest.0 v l.0, rest.1))

pub notifications-last : NotificationsComeLast
notifications-last sys h w b p t more l = (notified-last sys h w b p t more l).1

-- ---- numbers

pub numbered-ascend : NumberedDeliveriesAscend
numbered-ascend sys [] l e n = tt
numbered-ascend sys (Inject s x ∷ h) l e n = numbered-ascend sys h l.1 e n
numbered-ascend sys (Notify p t ∷ h) l e n = numbered-ascend sys h l.1 e n
numbered-ascend sys (Deliver d m ∷ h) l e n =
    let rest = numbered-ascend sys h l.1 e n in
    cond_both (d == e) (m ∷ []) [] (λ ms. AreNumberedInOrder (ms ++ delivered_messages h e))
    (λ c.
    let i = eqb-true d e c in
    (l.0.numbered (ap (is_numbered sys.flow) i ∙ n) ∙ ap (λ k. length (delivered_messages h k) ∷ []) i, rest))
    (λ c. rest)

-- ---- what was delivered inside is final

pub admissible-later : (sys : System) (h : List Event) → IsWellFormed sys.flow → HasEpochs sys → (done : ℕ → Frontier) → IsAdmissible sys h done
    → (more : List Event) → IsLegal sys (more ++ h) → IsAdmissible sys (more ++ h) done
admissible-later sys h w b done a [] l = a
admissible-later sys h w b done a (v ∷ more) l =
    admissible-stays sys (more ++ h) w b l.1 done (admissible-later sys h w b done a more l.1) v l.0

-- an enabled event delivers nothing inside
final-step : (sys : System) (h : List Event) (done : ℕ → Frontier) → IsAdmissible sys h done → (v : Event) → IsEnabled sys h v
    → (e : ℕ) (t : Stamp) → done (receiver sys.flow e) t ≡ true → recs_at t (delivered_messages (v ∷ h) e) ≡ recs_at t (delivered_messages h e)
final-step sys h done a (Inject s x) k e t i = refl
final-step sys h done a (Notify p u) k e t i = refl
final-step sys h done a (Deliver d m) k e t i =
    cond_both (d == e) (m ∷ []) [] (λ ms. recs_at t (ms ++ delivered_messages h e) ≡ recs_at t (delivered_messages h e))
    (λ c. ap (map (λ (x : Message). x.rec)) (cond-false (same t m.at) (m ∷ filter (λ (x : Message). same t x.at) (delivered_messages h e)) (filter (λ (x : Message). same t x.at) (delivered_messages h e))
    (false_from_ne_true (same t m.at) (λ j.
    let o = enabled-outside sys h done a (Deliver d m) k in
    two_ways (done (receiver sys.flow d) m.at)
    (ap (λ n. done (receiver sys.flow n) m.at) (eqb-true d e c) ∙ ap (done (receiver sys.flow e)) (sym (same-is t m.at j)) ∙ i) o))))
    (λ c. refl)

pub delivered-is_final : DeliveredInsideCompleteIsFinal
delivered-is_final sys h w b done a [] l e t i = refl
delivered-is_final sys h w b done a (v ∷ more) l e t i =
    final-step sys (more ++ h) done (admissible-later sys h w b done a more l.1) v l.0 e t i ∙ delivered-is_final sys h w b done a more l.1 e t i

-- ---- what was delivered up to a closed stamp is final

closed_final-step : (sys : System) (h : List Event) (p : ℕ) (t : Stamp) → IsClosedFor sys h p t → (v : Event) → IsEnabled sys h v
    → (e : ℕ) → receiver sys.flow e ≡ p → (s : Stamp) → leq s t ≡ true → recs_at s (delivered_messages (v ∷ h) e) ≡ recs_at s (delivered_messages h e)
closed_final-step sys h p t c (Inject q x) k e r s below = refl
closed_final-step sys h p t c (Notify q u) k e r s below = refl
closed_final-step sys h p t c (Deliver d m) k e r s below =
    cond_both (d == e) (m ∷ []) [] (λ ms. recs_at s (ms ++ delivered_messages h e) ≡ recs_at s (delivered_messages h e))
    (λ i. ap (map (λ (x : Message). x.rec)) (cond-false (same s m.at) (m ∷ filter (λ (x : Message). same s x.at) (delivered_messages h e)) (filter (λ (x : Message). same s x.at) (delivered_messages h e))
    (false_from_ne_true (same s m.at) (λ j.
    let here = eq-eqb (receiver sys.flow d) p (ap (receiver sys.flow) (eqb-true d e i) ∙ r) in
    two_ways (receiver sys.flow d == p && leq m.at t) (and_from (receiver sys.flow d == p) (leq m.at t) here (sym (ap (λ u. leq u t) (same-is s m.at j)) ∙ below))
    (closed-no_delivery sys h p t c d m k)))))
    (λ i. refl)

pub closed-is_final : DeliveredUpToClosedIsFinal
closed-is_final sys h w b p t c [] l e r s below = refl
closed-is_final sys h w b p t c (v ∷ more) l e r s below =
    closed_final-step sys (more ++ h) p t (closed-stays sys h w b p t c more l.1) v l.0 e r s below ∙ closed-is_final sys h w b p t c more l.1 e r s below
