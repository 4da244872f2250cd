-- The causes of what a node sends, and from where the messages inside phi come.
use Rattle.std.proofs.Common.{◌≡◌, ℕ, true, false, List, [], ◌∷◌, length, refl, sym, ap, subst, ◌∙◌, arith, inl, inr}
use Rattle.std.specs.List.{AllByRecursion, Contains}
use Rattle.std.proofs.lemmas.List.Folds.{list_all_at}
use Rattle.fw_lemmas.proofs.Each.{each-weaker, each-both, each-append, all-of_each}
use Rattle.fw_time.specs.Stamp.{Stamp, in_domain}
use Rattle.fw_time.proofs.StampLaws.{leq-refl}
use Rattle.fw_frontier.specs.Frontier.{Frontier}
use Rattle.fw_flow.specs.declared.event.Event.{Event}
use Rattle.fw_flow.specs.declared.event.Message.{Message}
use Rattle.fw_flow.specs.Kind.{Kind}
use Rattle.fw_flow.specs.Dataflow.{System, Dataflow, kind_of, sender, bounds_of, send_stamp, send_stamp_of_kind, is_sequence_kind}
use Rattle.fw_flow.specs.NodeFunction.{event_stamp, sequence_sent, sends_of_kind, sends, sent_by, numbered_messages}
use Rattle.fw_flow.specs.Projection.{events_at, all_inside, phi}
use Rattle.fw_model.specs.LawsOfSending.{InsidePhiComesFromInside, IsFromCauses, SendsAtMost, SendsComeFromCauses}
use Rattle.fw_model.specs.Sending.{IsSentFrom, recs_by_count_on}
use Rattle.fw_model.proofs.KindSorts.{by_stamp-no_sequence, no_sequence-single, sends_by}
use Rattle.fw_model.proofs.CarriedLaws.{carried-each}
use Rattle.fw_model.proofs.SendingLaws.{phi-by_stamp, phi-in_domain}
use Rattle.fw_model.proofs.SendsLaws.{IsAt, sends_of_kind-each, sends-each}
use Rattle.fw_model.proofs.SequenceLaws.{IsNumbered, numbered-each}

-- ---- of each kind that there is, a message has one cause

-- the stamp is the one cause of the message
abbrev pub IsCausedBy : Stamp → Message → Type 0
IsCausedBy t m = m.causes ≡ t ∷ []

pub kinds-one_cause : (sys : System) (kind : Kind) (vs : List Event) (v : Event) → AllByRecursion (IsCausedBy (event_stamp v)) (sends_of_kind sys kind vs v)
kinds-one_cause sys kind vs v = elim (sends_by kind) [
  | inl is ↦
      let n = length (sequence_sent vs) in
      subst (λ k. AllByRecursion (IsCausedBy (event_stamp v)) (sends_of_kind sys k vs v)) (sym is)
      (each-weaker (IsNumbered n (event_stamp v)) (IsCausedBy (event_stamp v)) (numbered_messages n (event_stamp v) (recs_by_count_on sys vs v)) (λ m a. a.1)
      (numbered-each n (event_stamp v) (recs_by_count_on sys vs v)))
  | inr n ↦
      each-weaker (IsAt (send_stamp_of_kind sys.flow kind (event_stamp v)) (event_stamp v)) (IsCausedBy (event_stamp v)) (sends_of_kind sys kind vs v) (λ m a. a.1)
      (sends_of_kind-each sys kind vs v n)
]

pub sends-one_cause : (sys : System) (p : ℕ) (vs : List Event) (v : Event) → AllByRecursion (IsCausedBy (event_stamp v)) (sends sys p vs v)
unfolding sends
sends-one_cause sys p vs v = kinds-one_cause sys (kind_of sys.flow p) vs v

-- what a node sent has one cause each
pub sent_by-one_cause : (sys : System) (p : ℕ) (vs : List Event) → AllByRecursion (λ (m : Message). (t : Stamp) × (m.causes ≡ t ∷ [])) (sent_by sys p vs)
sent_by-one_cause sys p [] = tt
sent_by-one_cause sys p (v ∷ vs) =
    let One : Message → Type 0 = λ m. (t : Stamp) × (m.causes ≡ t ∷ []) in
    each-append One (sends sys p vs v) (sent_by sys p vs)
    (each-weaker (IsCausedBy (event_stamp v)) One (sends sys p vs v) (λ m e. (event_stamp v, e)) (sends-one_cause sys p vs v)) (sent_by-one_cause sys p vs)

-- ---- some cause, and each cause

one-some : (t : Stamp) (m : Message) → IsCausedBy t m → Contains m.causes t
one-some t m e = subst (λ cs. Contains cs t) (sym e) (0, omega arith, refl)

one-each : (P : Stamp → Type 0) (t : Stamp) (m : Message) → P t → IsCausedBy t m → AllByRecursion P m.causes
one-each P t m k e = subst (AllByRecursion P) (sym e) (k, tt)

-- the stamp of an event is a cause of what it sends
pub sends-some_cause : (sys : System) (p : ℕ) (vs : List Event) (v : Event) → AllByRecursion (λ (m : Message). Contains m.causes (event_stamp v)) (sends sys p vs v)
sends-some_cause sys p vs v =
    each-weaker (IsCausedBy (event_stamp v)) (λ m. Contains m.causes (event_stamp v)) (sends sys p vs v) (one-some (event_stamp v)) (sends-one_cause sys p vs v)

-- what holds of the stamps of an event and of those before it holds of each cause of what it sends
pub sends-each_cause : (sys : System) (p : ℕ) (P : Stamp → Type 0) (vs : List Event) (v : Event) → P (event_stamp v) → AllByRecursion (λ w. P (event_stamp w)) vs
    → AllByRecursion (λ (m : Message). AllByRecursion P m.causes) (sends sys p vs v)
sends-each_cause sys p P vs v here before =
    each-weaker (IsCausedBy (event_stamp v)) (λ m. AllByRecursion P m.causes) (sends sys p vs v) (λ m e. one-each P (event_stamp v) m here e) (sends-one_cause sys p vs v)

-- what holds of the stamps of events holds of each cause of what they sent
pub sent_by-each_cause : (sys : System) (p : ℕ) (P : Stamp → Type 0) (vs : List Event) → AllByRecursion (λ v. P (event_stamp v)) vs
    → AllByRecursion (λ (m : Message). AllByRecursion P m.causes) (sent_by sys p vs)
sent_by-each_cause sys p P [] a = tt
sent_by-each_cause sys p P (v ∷ vs) a =
    each-append (λ (m : Message). AllByRecursion P m.causes) (sends sys p vs v) (sent_by sys p vs) (sends-each_cause sys p P vs v a.0 a.1) (sent_by-each_cause sys p P vs a.1)

-- ---- inside and outside

-- what an event outside sends comes from outside
pub outside-sends : (sys : System) (p : ℕ) (f : Frontier) (vs : List Event) (v : Event) → f (event_stamp v) ≡ false
    → AllByRecursion (λ (m : Message). all_inside f m.causes ≡ false) (sends sys p vs v)
outside-sends sys p f vs v out =
    each-weaker (λ (m : Message). Contains m.causes (event_stamp v)) (λ m. all_inside f m.causes ≡ false) (sends sys p vs v)
    (λ m c. list_all_at f m.causes c.0 (event_stamp v) c.1 (ap f c.2 ∙ out)) (sends-some_cause sys p vs v)

-- what events inside sent comes from inside
pub inside-sent : (sys : System) (p : ℕ) (f : Frontier) (vs : List Event) → AllByRecursion (λ v. f (event_stamp v) ≡ true) vs
    → AllByRecursion (λ (m : Message). all_inside f m.causes ≡ true) (sent_by sys p vs)
inside-sent sys p f vs a =
    each-weaker (λ (m : Message). AllByRecursion (λ t. f t ≡ true) m.causes) (λ m. all_inside f m.causes ≡ true) (sent_by sys p vs)
    (λ m b. all-of_each f m.causes b) (sent_by-each_cause sys p (λ t. f t ≡ true) vs a)

-- and what events outside sent from outside
pub outside-sent : (sys : System) (p : ℕ) (f : Frontier) (vs : List Event) → AllByRecursion (λ v. f (event_stamp v) ≡ false) vs
    → AllByRecursion (λ (m : Message). all_inside f m.causes ≡ false) (sent_by sys p vs)
outside-sent sys p f [] a = tt
outside-sent sys p f (v ∷ vs) a =
    each-append (λ (m : Message). all_inside f m.causes ≡ false) (sends sys p vs v) (sent_by sys p vs) (outside-sends sys p f vs v a.0) (outside-sent sys p f vs a.1)

-- ---- at which stamps the causes send

pub sends-from_causes : SendsComeFromCauses
sends-from_causes sys p n before v =
    each-weaker (IsAt (send_stamp sys.flow p (event_stamp v)) (event_stamp v)) (IsFromCauses sys.flow p v) (sends sys p before v)
    (λ m a. let from : IsFromCauses sys.flow p v m = record {
      some = one-some (event_stamp v) m a.1;
      each = one-each (SendsAtMost sys.flow p m.at) (event_stamp v) m (m.at, a.0, leq-refl m.at) a.1;
    } in from)
    (sends-each sys p (no_sequence-single (kind_of sys.flow p) n) before v)

-- each cause of the message sends at its stamp or below
CausesSend : Dataflow → ℕ → Message → Type 0
CausesSend flow p m = AllByRecursion (SendsAtMost flow p m.at) m.causes

sent_by-causes_send : (sys : System) (p : ℕ) → is_sequence_kind (kind_of sys.flow p) ≡ false → (vs : List Event) → AllByRecursion (CausesSend sys.flow p) (sent_by sys p vs)
unfolding CausesSend
sent_by-causes_send sys p n [] = tt
sent_by-causes_send sys p n (v ∷ vs) =
    each-append (CausesSend sys.flow p) (sends sys p vs v) (sent_by sys p vs)
    (each-weaker (IsFromCauses sys.flow p v) (CausesSend sys.flow p) (sends sys p vs v) (λ m a. a.each) (sends-from_causes sys p n vs v))
    (sent_by-causes_send sys p n vs)

pub inside_phi-from_inside : InsidePhiComesFromInside
unfolding CausesSend
inside_phi-from_inside sys h e f p fr d =
    let q = sender sys.flow e in
    let vs = events_at sys.flow q h in
    let In : Stamp → Type 0 = λ t. in_domain (bounds_of sys.flow q) t ≡ true in
    carried-each sys.flow e (λ (m : Message). phi sys h e f m.at ≡ true → all_inside f m.causes ≡ true) (sent_by sys q vs)
    (each-weaker (λ (m : Message). CausesSend sys.flow q m × AllByRecursion In m.causes) (λ m. phi sys h e f m.at ≡ true → all_inside f m.causes ≡ true) (sent_by sys q vs)
    (λ m w k.
    let all : IsSentFrom (bounds_of sys.flow q) (send_stamp sys.flow q) f m.at = (phi-by_stamp sys h e f p fr m.at (phi-in_domain sys h e f m.at k)).0 k in
    all-of_each f m.causes
    (each-weaker (λ t. SendsAtMost sys.flow q m.at t × In t) (λ t. f t ≡ true) m.causes (λ t b. all t b.0.0 b.1 b.0.1 b.0.2) (each-both (SendsAtMost sys.flow q m.at) In m.causes w.0 w.1)))
    (each-both (CausesSend sys.flow q) (λ (m : Message). AllByRecursion In m.causes) (sent_by sys q vs)
    (sent_by-causes_send sys q (by_stamp-no_sequence sys.flow (kind_of sys.flow q) p) vs) (sent_by-each_cause sys q In vs d)))
