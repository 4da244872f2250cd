-- What an event makes a node send goes to its out-edges, one after the other.
use Rattle.std.proofs.Common.{◌≡◌, ℕ, zero, suc, ◌+◌, ◌<◌, ◌≤◌, true, ◌||◌, ◌==◌, List, [], ◌∷◌, length, get_or, take, sym, ap, subst, ◌∙◌, inl, inr, arith}
use Rattle.std.specs.Prelude.{map}
use Rattle.std.specs.List.{AllByRecursion}
use Rattle.std.proofs.lemmas.Bool.{cases_Bool, or_left, or_right}
use Rattle.std.proofs.lemmas.List.{get_or_read, take_all}
use Rattle.fw_lemmas.proofs.Each.{each-at}
use Rattle.fw_time.specs.Stamp.{Stamp, in_domain}
use Rattle.fw_bag.specs.declared.rec.Rec.{Rec}
use Rattle.fw_frontier.specs.Front.{Front}
use Rattle.fw_flow.specs.declared.event.Message.{Message}
use Rattle.fw_flow.specs.Dataflow.{Dataflow, bounds_of, is_one_of, out_edges, policy_of}
use Rattle.fw_flow.specs.Restoring.{can_resend}
use Rattle.fw_flow.proofs.OutEdgeLaws.{out_edges-from}
use Rattle.fw_model.specs.Machine.{front_of}
use Rattle.fw_node.specs.NodeOf.{CanBeSent}
use Rattle.fw_node.specs.Answers.{caused_by}
use Rattle.fw_running.specs.declared.running.Running.{Running}
use Rattle.fw_running.specs.Shaped.{IsShaped}
use Rattle.fw_events.specs.Sending.{ChangesEdges, SendsOn}
use Rattle.fw_events.proofs.SendingLaws.{changes-none, changes-twice, sends-none, sends-next, sends-nothing}
use Rattle.fw_events.proofs.ShapedLaws.{shaped-sent, sent-fit}

-- On the first i out-edges of node p what it sends is sent, and nothing else is changed.
pub record HasSentOn (old : Running) (p : ℕ) (sent : List Message) (i : ℕ) (now : Running) : Type 0 where
  pub changes : ChangesEdges old now
  pub sends : SendsOn (take i (out_edges old.flow p)) (can_resend (policy_of old.flow p)) sent old now
  pub shaped : IsShaped now

pub sent-start : (old : Running) (p : ℕ) (sent : List Message) → IsShaped old → HasSentOn old p sent 0 old
sent-start old p sent s = record {
  changes = changes-none old;
  sends = sends-none (can_resend (policy_of old.flow p)) sent old;
  shaped = s;
}

among-take : (es : List ℕ) (n e : ℕ) → is_one_of e (take n es) ≡ true → is_one_of e es ≡ true
among-take [] zero e k = k
among-take [] (suc n) e k = k
among-take (x ∷ es) zero e k = absurd (cc)
among-take (x ∷ es) (suc n) e k = elim (cases_Bool (x == e)) [
  | inl i ↦ or_left (x == e) (is_one_of e es) i
  | inr i ↦ or_right (x == e) (is_one_of e es) (among-take es n e (sym (ap (λ b. b || is_one_of e (take n es)) i) ∙ k))
]

pub sent-step : (old mid new : Running) (p : ℕ) (sent : List Message) (i d : ℕ) → IsShaped old
    → AllByRecursion (λ (m : Message). AllByRecursion (λ t. in_domain (bounds_of old.flow p) t ≡ true) m.causes) sent → CanBeSent old.flow p (map (λ (m : Message). m.at) sent)
    → HasSentOn old p sent i mid → i < length (out_edges mid.flow p) → d ≡ get_or (out_edges mid.flow p) i d
    → ChangesEdges mid new → SendsOn (d ∷ []) (can_resend (policy_of mid.flow p)) sent mid new
    → HasSentOn old p sent (i + 1) new
sent-step old mid new p sent i d s c k h l is a b =
    let es = out_edges old.flow p in
    let again = can_resend (policy_of old.flow p) in
    let ms = sent in
    let flow : mid.flow ≡ old.flow = ap (λ (r : Running). r.flow) h.changes in
    let there : i < length es = subst (λ f. i < length (out_edges f p)) flow l in
    let at : d ≡ get_or es i d = subst (λ f. d ≡ get_or (out_edges f p) i d) flow is in
    let b' : SendsOn (d ∷ []) again ms mid new = subst (λ f. SendsOn (d ∷ []) (can_resend (policy_of f p)) ms mid new) flow b in
    let one : suc i ≡ i + 1 = omega arith in
    let sends : SendsOn (take (i + 1) es) again ms old new =
    subst (λ n. SendsOn (take n es) again ms old new) one (sends-next old.flow p i d again ms old mid new there at h.changes h.sends b') in
    let changes = changes-twice old mid new h.changes a in
    record {
      changes = changes;
      sends = sends;
      shaped = shaped-sent old new (take (i + 1) es) again ms s changes sends (λ e m. sent-fit old.flow p sent c k e (among-take es (i + 1) e m));
    }

-- on all of them it is sent
pub sent-all : (old now : Running) (p : ℕ) (sent : List Message) (i : ℕ) → HasSentOn old p sent i now
    → length (out_edges now.flow p) ≤ i
    → SendsOn (out_edges old.flow p) (can_resend (policy_of old.flow p)) sent old now
sent-all old now p sent i h l =
    let es = out_edges old.flow p in
    let past : length es ≤ i = subst (λ f. length (out_edges f p) ≤ i) (ap (λ (r : Running). r.flow) h.changes) l in
    subst (λ (ds : List ℕ). SendsOn ds (can_resend (policy_of old.flow p)) sent old now) (take_all i es past) h.sends

-- an out-edge is an edge of the flow
pub out_edge-there : (flow : Dataflow) (p i d : ℕ) → i < length (out_edges flow p) → d ≡ get_or (out_edges flow p) i d → d < length flow.edges
out_edge-there flow p i d l is =
    subst (λ e. e < length flow.edges) (sym is)
    (each-at (λ e. e < length flow.edges) (out_edges flow p) i d l (out_edges-from (λ e. e < length flow.edges) flow p (λ e k s. k)))

-- the place of an out-edge is one while edges alone are changed
pub place-there : (old mid : Running) (p i : ℕ) (es : List ℕ) → ChangesEdges old mid → es ≡ out_edges old.flow p → i < length es → i < length (out_edges mid.flow p)
place-there old mid p i es c is l =
    subst (λ f. i < length (out_edges f p)) (sym (ap (λ (r : Running). r.flow) c)) (subst (λ (ds : List ℕ). i < length ds) is l)

-- the edge that is read there is the out-edge
pub edge-read : (flow : Dataflow) (p i d : ℕ) (es : List ℕ) → es ≡ out_edges flow p → d ≡ get_or es i d → d ≡ get_or (out_edges flow p) i d
edge-read flow p i d es is read = read ∙ ap (λ (ds : List ℕ). get_or ds i d) is

-- a frontier that is read is the one of its node
pub low-read : (low all : List Front) (place p q : ℕ) (f : Front) → all ≡ low → place ≡ p → p ≡ q → f ≡ get_or all place f → q < length low
    → f ≡ front_of low q
low-read low all place p q f is at to read l =
    let read_there : f ≡ get_or low q f = read ∙ ap (λ (fs : List Front). get_or fs place f) is ∙ ap (λ n. get_or low n f) (at ∙ to) in
    get_or_read low q f l read_there []

-- where nothing is sent
pub sent-none : (old : Running) (p : ℕ) (cause : Stamp) (sent : List (Stamp × Rec)) → length sent ≡ 0
    → SendsOn (out_edges old.flow p) (can_resend (policy_of old.flow p)) (caused_by cause sent) old old
sent-none old p cause [] none = sends-nothing (out_edges old.flow p) (can_resend (policy_of old.flow p)) old
sent-none old p cause (x ∷ sent) none = let some : 0 < length (x ∷ sent) = omega arith in absurd (omega (arith, some, none))

-- what holds of the one cause holds of each cause
pub caused-each : (P : Stamp → Type 0) (cause : Stamp) (sent : List (Stamp × Rec)) → P cause → AllByRecursion (λ (m : Message). AllByRecursion P m.causes) (caused_by cause sent)
caused-each P cause [] k = tt
caused-each P cause (x ∷ sent) k = ((k, tt), caused-each P cause sent k)
