-- At which stamps events send.
use Rattle.std.proofs.Common.{◌≡◌, ℕ, true, List, [], ◌∷◌, Option, Some, None, refl, sym, ap, ◌∙◌, subst}
use Rattle.std.specs.List.{AllByRecursion}
use Rattle.std.proofs.lemmas.Bool.{and_parts}
use Rattle.fw_lemmas.proofs.Each.{each-weaker, each-append}
use Rattle.fw_bag.specs.declared.rec.Rec.{Rec}
use Rattle.fw_time.specs.Stamp.{Stamp}
use Rattle.fw_time.proofs.StampLaws.{leq-refl}
use Rattle.fw_flow.specs.declared.event.Event.{Event}
use Rattle.fw_flow.specs.declared.event.Message.{Message}
use Rattle.fw_flow.specs.Kind.{Kind}
use Rattle.fw_flow.specs.Dataflow.{System, Dataflow, kind_of, sender, send_stamp, send_stamp_of_kind}
use Rattle.fw_flow.specs.NodeFunction.{event_stamp, recs_on, messages_at, messages_at_some, sends_of_kind, sends, sent_by}
use Rattle.fw_flow.specs.Projection.{events_at, all_inside, psi}
use Rattle.fw_model.specs.LawsOfSending.{SendsAtSendStamp, SendsAreInsidePsi, SentFromInsideIsInsidePsi}
use Rattle.fw_model.specs.Sending.{is_single_kind}
use Rattle.fw_model.proofs.KindSorts.{by_stamp-single, at_send_stamp}
use Rattle.fw_model.proofs.CarriedLaws.{carried-each}
use Rattle.fw_model.proofs.SendingLaws.{psi-by_stamp, send_stamp-in_domain}

-- the message is at this stamp, if there is one, and has one cause
abbrev pub IsAt : Option Stamp → Stamp → Message → Type 0
IsAt at cause m = (at ≡ Some m.at) × (m.causes ≡ cause ∷ [])

messages_at-each : (at cause : Stamp) (rs : List Rec) → AllByRecursion (IsAt (Some at) cause) (messages_at at cause rs)
messages_at-each at cause [] = tt
messages_at-each at cause (r ∷ rs) = ((refl, refl), messages_at-each at cause rs)

messages_at_some-each : (at : Option Stamp) (cause : Stamp) (rs : List Rec) → AllByRecursion (IsAt at cause) (messages_at_some at cause rs)
messages_at_some-each None cause rs = tt
messages_at_some-each (Some at) cause rs = messages_at-each at cause rs

pub sends_of_kind-each : (sys : System) (kind : Kind) (before : List Event) (v : Event) → is_single_kind kind ≡ true
    → AllByRecursion (IsAt (send_stamp_of_kind sys.flow kind (event_stamp v)) (event_stamp v)) (sends_of_kind sys kind before v)
sends_of_kind-each sys kind before v p =
    let at = send_stamp_of_kind sys.flow kind (event_stamp v) in
    subst (AllByRecursion (IsAt at (event_stamp v))) (sym (at_send_stamp sys kind before v p)) (messages_at_some-each at (event_stamp v) (recs_on sys kind before v))

pub sends-each : SendsAtSendStamp
unfolding sends
sends-each sys p n before v = sends_of_kind-each sys (kind_of sys.flow p) before v n

pub sends-inside_psi : SendsAreInsidePsi
sends-inside_psi sys e f p fr before v k =
    let q = sender sys.flow e in
    each-weaker (IsAt (send_stamp sys.flow q (event_stamp v)) (event_stamp v)) (λ m. psi sys.flow e f m.at ≡ true) (sends sys q before v)
    (λ m a. (psi-by_stamp sys.flow e f p fr m.at (send_stamp-in_domain sys.flow q (event_stamp v) m.at (fr.inside_domain (event_stamp v) k) a.0)).1
    (event_stamp v, m.at, k, a.0, leq-refl m.at))
    (sends-each sys q (by_stamp-single sys.flow (kind_of sys.flow q) p) before v)

-- the message is at the send stamp of its one cause
unfoldable pub IsOfCause : Dataflow → ℕ → Message → Type 0
IsOfCause flow p m = (t : Stamp) × (send_stamp flow p t ≡ Some m.at) × (m.causes ≡ t ∷ [])

pub sent_by-of_cause : (sys : System) (p : ℕ) → is_single_kind (kind_of sys.flow p) ≡ true → (vs : List Event) → AllByRecursion (IsOfCause sys.flow p) (sent_by sys p vs)
unfolding IsOfCause
sent_by-of_cause sys p n [] = tt
sent_by-of_cause sys p n (v ∷ vs) =
    each-append (IsOfCause sys.flow p) (sends sys p vs v) (sent_by sys p vs)
    (each-weaker (IsAt (send_stamp sys.flow p (event_stamp v)) (event_stamp v)) (IsOfCause sys.flow p) (sends sys p vs v) (λ m a. (event_stamp v, a.0, a.1)) (sends-each sys p n vs v))
    (sent_by-of_cause sys p n vs)

pub sent_from_inside-inside_psi : SentFromInsideIsInsidePsi
unfolding IsOfCause
sent_from_inside-inside_psi sys h e f p fr =
    let q = sender sys.flow e in
    carried-each sys.flow e (λ (m : Message). all_inside f m.causes ≡ true → psi sys.flow e f m.at ≡ true) (sent_by sys q (events_at sys.flow q h))
    (each-weaker (IsOfCause sys.flow q) (λ m. all_inside f m.causes ≡ true → psi sys.flow e f m.at ≡ true) (sent_by sys q (events_at sys.flow q h))
    (λ m w k.
    let i = (and_parts (f w.0) true (sym (ap (all_inside f) w.2) ∙ k)).0 in
    (psi-by_stamp sys.flow e f p fr m.at (send_stamp-in_domain sys.flow q w.0 m.at (fr.inside_domain w.0 i) w.1)).1
    (w.0, m.at, i, w.1, leq-refl m.at))
    (sent_by-of_cause sys q (by_stamp-single sys.flow (kind_of sys.flow q) p) (events_at sys.flow q h)))
