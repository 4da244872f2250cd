-- In a legal history each message is delivered at most as often as it was sent.
use Rattle.std.proofs.Common.{◌≡◌, ℕ, ◌+◌, ◌<◌, ◌≤◌, Bool, true, false, cond, ◌&&◌, ◌==◌, List, [], ◌∷◌, ◌++◌, map, refl, sym, ap, ◌∙◌, inl, inr, arith}
use Rattle.std.specs.Ordering.{is_eq}
use Rattle.std.proofs.lemmas.Bool.{cases_Bool, or_cases, or_parts, cond_both, eqb-true}
use Rattle.fw_lemmas.proofs.Filters.{filter-in, filter-out}
use Rattle.fw_time.specs.Stamp.{Stamp, same}
use Rattle.fw_bag.specs.declared.rec.Rec.{Rec}
use Rattle.fw_bag.specs.Rec.{rec_cmp}
use Rattle.fw_flow.specs.declared.event.Event.{Event}
use Rattle.fw_flow.specs.declared.event.Event.TheVariants.{Inject, Deliver, Notify}
use Rattle.fw_flow.specs.declared.event.Message.{Message}
use Rattle.fw_flow.specs.WholeBags.{Timed}
use Rattle.fw_flow.specs.Dataflow.{System, Dataflow}
use Rattle.fw_flow.specs.Message.{message_cmp, is_message_among, messages_without, messages_less}
use Rattle.fw_flow.specs.KeyParts.{is_carried}
use Rattle.fw_model.specs.Carried.{carried, carried_timed}
use Rattle.fw_model.specs.History.{some_at, sent_messages, delivered_messages, pending_messages, IsEnabled, IsLegal}
use Rattle.fw_model.specs.LawsOfPending.{sent_on}
use Rattle.fw_model.proofs.CarriedLaws.{sent-more}
use Rattle.fw_flow.proofs.MessageLaws.{message_cmp-equal, message_cmp-self}
use Rattle.fw_model.proofs.WeightLaws.{weigh, weigh-append, one, one-out}

-- ---- messages that the order finds the same

-- ---- how often a message is there

-- 1 for this message, and else 0
abbrev pub copy : Message → Message → ℕ
copy m x = cond (is_eq (message_cmp m x)) 1 0

pub copy-self : (m : Message) → copy m m ≡ 1
copy-self m = ap (λ b. cond b 1 0) (message_cmp-self m)

pub without-weigh : (w : Message → ℕ) (m : Message) (ms : List Message) → 0 < weigh (copy m) ms → weigh w ms ≡ w m + weigh w (messages_without m ms)
unfolding weigh
without-weigh w m [] l = absurd (omega arith)
without-weigh w m (x ∷ xs) l =
    cond_both (is_eq (message_cmp m x)) xs (x ∷ messages_without m xs) (λ ys. weigh w (x ∷ xs) ≡ w m + weigh w ys)
    (λ e. let i = ap w (message_cmp-equal m x e) in omega arith)
    (λ e. let z : copy m x ≡ 0 = ap (λ b. cond b 1 0) e in let h = without-weigh w m xs (omega arith) in omega arith)

pub is_among-copies : (m : Message) (ms : List Message) → is_message_among m ms ≡ true → 0 < weigh (copy m) ms
unfolding weigh
is_among-copies m [] k = absurd (cc)
is_among-copies m (x ∷ xs) k = elim (or_cases (is_eq (message_cmp m x)) (is_message_among m xs) k) [
  | inl e ↦ let i : copy m x ≡ 1 = ap (λ b. cond b 1 0) e in omega arith
  | inr e ↦ let h = is_among-copies m xs e in omega arith
]

-- each message is in the first list at most as often as in the second
abbrev pub IsSub : List Message → List Message → Type 0
IsSub ds ms = (m : Message) → weigh (copy m) ds ≤ weigh (copy m) ms

-- what is left weighs what is missing
pub less-weigh : (w : Message → ℕ) (ms ds : List Message) → IsSub ds ms → weigh w (messages_less ms ds) + weigh w ds ≡ weigh w ms
unfolding weigh
less-weigh w ms [] s = omega arith
less-weigh w ms (d ∷ ds) s =
    let rest : IsSub ds ms = λ m. let a = s m in omega arith in
    let a = s d in
    let b = less-weigh (copy d) ms ds rest in
    let c = copy-self d in
    let e = without-weigh w d (messages_less ms ds) (omega arith) in
    let h = less-weigh w ms ds rest in
    omega arith

-- ---- what was sent grows

pub sent-grows : (sys : System) (h : List Event) (v : Event) (e : ℕ) (w : Message → ℕ) → weigh w (sent_messages sys h e) ≤ weigh w (sent_messages sys (v ∷ h) e)
sent-grows sys h v e w =
    let more = ap (weigh w) (sent-more sys h v e) in
    let parts = weigh-append w (sent_on sys h e v) (sent_messages sys h e) in
    omega arith

delivered-sub : (sys : System) (h : List Event) (v : Event) → IsEnabled sys h v → (e : ℕ) → IsSub (delivered_messages h e) (sent_messages sys h e)
    → IsSub (delivered_messages (v ∷ h) e) (sent_messages sys h e)
unfolding weigh
delivered-sub sys h (Inject s x) k e i = i
delivered-sub sys h (Notify p t) k e i = i
delivered-sub sys h (Deliver d m) k e i = λ x.
    cond_both (d == e) (m ∷ []) [] (λ ms. weigh (copy x) (ms ++ delivered_messages h e) ≤ weigh (copy x) (sent_messages sys h e))
    (λ c.
    let same_edge = eqb-true d e c in
    let there = is_among-copies m (pending_messages sys h e) (sym (ap (λ n. is_message_among m (pending_messages sys h n)) same_edge) ∙ k.is_pending) in
    let a = less-weigh (copy m) (sent_messages sys h e) (delivered_messages h e) i in
    cond_both (is_eq (message_cmp x m)) 1 0 (λ n. n + weigh (copy x) (delivered_messages h e) ≤ weigh (copy x) (sent_messages sys h e))
    (λ z.
    let f = message_cmp-equal x m z in
    let g = ap (λ y. weigh (copy y) (delivered_messages h e)) f in
    let j = ap (λ y. weigh (copy y) (sent_messages sys h e)) f in
    omega arith)
    (λ z. let y = i x in omega arith))
    (λ c. i x)

-- in a legal history each message was delivered at most as often as it was sent
pub delivered-was_sent : (sys : System) (h : List Event) → IsLegal sys h → (e : ℕ) → IsSub (delivered_messages h e) (sent_messages sys h e)
unfolding weigh
delivered-was_sent sys [] l e = λ m. omega arith
delivered-was_sent sys (v ∷ h) l e = λ m.
    let a = delivered-sub sys h v l.0 e (delivered-was_sent sys h l.1 e) m in
    let b = sent-grows sys h v e (copy m) in
    omega arith

-- ---- at a stamp

-- a message without its causes
abbrev pub timed_message : Message → Timed
timed_message m = record { at = m.at; rec = m.rec }

-- messages without their causes
abbrev pub timed_of : List Message → List Timed
timed_of ms = map timed_message ms

-- an edge carries the same of both
pub timed_of-carried : (flow : Dataflow) (e : ℕ) (ms : List Message) → timed_of (carried flow e ms) ≡ carried_timed flow e (timed_of ms)
unfolding carried carried_timed
timed_of-carried flow e [] = refl
timed_of-carried flow e (m ∷ ms) =
    let k : Message → Bool = λ x. is_carried flow e x.rec in
    let l : Timed → Bool = λ x. is_carried flow e x.rec in
    let rest = timed_of-carried flow e ms in
    elim (cases_Bool (is_carried flow e m.rec)) [
      | inl i ↦ ap timed_of (filter-in k m ms i) ∙ ap (λ xs. timed_message m ∷ xs) rest ∙ sym (filter-in l (timed_message m) (timed_of ms) i)
      | inr i ↦ ap timed_of (filter-out k m ms i) ∙ rest ∙ sym (filter-out l (timed_message m) (timed_of ms) i)
    ]

pub timed_of-weigh : (w : Timed → ℕ) (ms : List Message) → weigh w (timed_of ms) ≡ weigh (λ m. w (timed_message m)) ms
unfolding weigh
timed_of-weigh w [] = refl
timed_of-weigh w (m ∷ ms) = ap (λ n. w (timed_message m) + n) (timed_of-weigh w ms)

-- what was delivered weighs no more than what was sent
pub delivered-lighter : (sys : System) (h : List Event) → IsLegal sys h → (e : ℕ) (w : Timed → ℕ)
    → weigh w (timed_of (delivered_messages h e)) ≤ weigh w (timed_of (sent_messages sys h e))
delivered-lighter sys h l e w =
    let u : Message → ℕ = λ m. w (timed_message m) in
    let a = less-weigh u (sent_messages sys h e) (delivered_messages h e) (delivered-was_sent sys h l e) in
    let b = timed_of-weigh w (delivered_messages h e) in
    let c = timed_of-weigh w (sent_messages sys h e) in
    omega arith

-- after a legal history what is delivered next weighs, with the rest, no more than what was sent before
pub next_delivered-lighter : (sys : System) (h : List Event) (v : Event) → IsLegal sys h → IsEnabled sys h v → (e : ℕ) (w : Timed → ℕ)
    → weigh w (timed_of (delivered_messages (v ∷ h) e)) ≤ weigh w (timed_of (sent_messages sys h e))
next_delivered-lighter sys h v l k e w =
    let u : Message → ℕ = λ m. w (timed_message m) in
    let a = less-weigh u (sent_messages sys h e) (delivered_messages (v ∷ h) e) (delivered-sub sys h v k e (delivered-was_sent sys h l e)) in
    let b = timed_of-weigh w (delivered_messages (v ∷ h) e) in
    let c = timed_of-weigh w (sent_messages sys h e) in
    omega arith

none_at-weigh : (t : Stamp) (q : Rec) (ms : List Message) → some_at (same t) ms ≡ false → weigh (λ m. one t q (timed_message m)) ms ≡ 0
unfolding weigh
none_at-weigh t q [] k = refl
none_at-weigh t q (m ∷ ms) k =
    let a = or_parts (same t m.at) (some_at (same t) ms) k in
    let z = one-out t q (timed_message m) (ap (λ b. b && is_eq (rec_cmp q m.rec)) a.0) in
    let h = none_at-weigh t q ms a.1 in
    omega arith

-- where nothing is pending at a stamp, what was sent at it was delivered
pub quiet-delivered : (sys : System) (h : List Event) → IsLegal sys h → (e : ℕ) (t : Stamp) → some_at (same t) (pending_messages sys h e) ≡ false
    → (q : Rec) → weigh (one t q) (timed_of (delivered_messages h e)) ≡ weigh (one t q) (timed_of (sent_messages sys h e))
quiet-delivered sys h l e t k q =
    let u : Message → ℕ = λ m. one t q (timed_message m) in
    let a = less-weigh u (sent_messages sys h e) (delivered_messages h e) (delivered-was_sent sys h l e) in
    let z = none_at-weigh t q (pending_messages sys h e) k in
    let b = timed_of-weigh (one t q) (delivered_messages h e) in
    let c = timed_of-weigh (one t q) (sent_messages sys h e) in
    omega arith
