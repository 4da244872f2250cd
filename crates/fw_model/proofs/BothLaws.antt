-- What was sent is what was delivered and what is pending, and what is pending follows the events.
use Rattle.std.proofs.Common.{◌≡◌, ℕ, ◌+◌, ◌<◌, ◌≤◌, cond, ◌==◌, List, [], ◌∷◌, ◌++◌, sym, ap, ◌∙◌, inl, inr, arith}
use Rattle.std.specs.Ordering.{is_eq}
use Rattle.std.proofs.lemmas.Bool.{cases_Bool, cond_both, eqb-true}
use Rattle.fw_flow.specs.declared.event.Event.{Event}
use Rattle.fw_flow.specs.declared.event.Event.TheVariants.{Inject, Deliver, Notify}
use Rattle.fw_flow.specs.declared.event.Message.{Message}
use Rattle.fw_flow.specs.Dataflow.{System}
use Rattle.fw_flow.specs.Message.{message_cmp, is_message_among, messages_less}
use Rattle.fw_model.specs.History.{sent_messages, message_on, delivered_messages, pending_messages, IsEnabled, IsLegal}
use Rattle.fw_flow.proofs.MessageLaws.{message_cmp-equal}
use Rattle.fw_model.proofs.CarriedLaws.{sent-more}
use Rattle.fw_model.proofs.SentLaws.{copy, IsSub, is_among-copies, less-weigh, delivered-was_sent}
use Rattle.fw_model.proofs.WeightLaws.{weigh, weigh-append}
use Rattle.fw_model.specs.SortedMessages.{sorted_messages, with_messages}
use Rattle.fw_model.specs.LawsOfPending.{SentIsDeliveredAndPending, sent_on, PendingFollowsEvents}
use Rattle.fw_model.proofs.SortedLaws.{ascending-sorted_messages, sorted_messages-weigh, same_from_copies, same_sorted_messages, ascending-less, ascending-with_messages, with_messages-weigh}

-- what is pending weighs what was sent and not delivered
pending-weigh : (sys : System) (h : List Event) → IsLegal sys h → (e : ℕ) (w : Message → ℕ) → weigh w (pending_messages sys h e) + weigh w (delivered_messages h e) ≡ weigh w (sent_messages sys h e)
pending-weigh sys h l e w = less-weigh w (sent_messages sys h e) (delivered_messages h e) (delivered-was_sent sys h l e)

pub sent-both : SentIsDeliveredAndPending
sent-both sys h l e =
    same_sorted_messages (sent_messages sys h e) (delivered_messages h e ++ pending_messages sys h e)
    (λ q.
    let a = pending-weigh sys h l e (copy q) in
    let b = weigh-append (copy q) (delivered_messages h e) (pending_messages sys h e) in
    omega arith)

-- ---- one event more

-- what was sent with one event more
sent_more-weigh : (sys : System) (h : List Event) (v : Event) (e : ℕ) (w : Message → ℕ) → weigh w (sent_messages sys (v ∷ h) e) ≡ weigh w (sent_on sys h e v) + weigh w (sent_messages sys h e)
sent_more-weigh sys h v e w = ap (weigh w) (sent-more sys h v e) ∙ weigh-append w (sent_on sys h e v) (sent_messages sys h e)

copy-most : (q m : Message) (ms : List Message) → 0 < weigh (copy m) ms → copy q m ≤ weigh (copy q) ms
copy-most q m ms l = elim (cases_Bool (is_eq (message_cmp q m))) [
  | inl e ↦
      let one : copy q m ≡ 1 = ap (λ b. cond b 1 0) e in
      let same = ap (λ x. weigh (copy x) ms) (message_cmp-equal q m e) in
      omega arith
  | inr e ↦ let none : copy q m ≡ 0 = ap (λ b. cond b 1 0) e in omega arith
]

-- what an enabled event delivers was pending
message-sub : (sys : System) (h : List Event) (v : Event) → IsEnabled sys h v → (e : ℕ) → IsSub (message_on e v) (pending_messages sys h e)
unfolding weigh
message-sub sys h (Inject s x) k e = λ q. omega arith
message-sub sys h (Notify p t) k e = λ q. omega arith
message-sub sys h (Deliver d m) k e = λ q.
    cond_both (d == e) (m ∷ []) [] (λ ms. weigh (copy q) ms ≤ weigh (copy q) (pending_messages sys h e))
    (λ c.
    let there = is_among-copies m (pending_messages sys h e) (sym (ap (λ n. is_message_among m (pending_messages sys h n)) (eqb-true d e c)) ∙ k.is_pending) in
    let a = copy-most q m (pending_messages sys h e) there in
    omega arith)
    (λ c. omega arith)

pub pending-follows : PendingFollowsEvents
pending-follows sys h v l e =
    let old = pending_messages sys h e in
    let now = pending_messages sys (v ∷ h) e in
    let on = message_on e v in
    let new = sent_on sys h e v in
    same_from_copies (sorted_messages now) (with_messages new (messages_less (sorted_messages old) on)) (ascending-sorted_messages now)
    (ascending-with_messages new (messages_less (sorted_messages old) on) (ascending-less (sorted_messages old) on (ascending-sorted_messages old)))
    (λ q.
    let w = copy q in
    let a = sorted_messages-weigh w now in
    let b = pending-weigh sys (v ∷ h) l e w in
    let c = weigh-append w on (delivered_messages h e) in
    let d = sent_more-weigh sys h v e w in
    let f = pending-weigh sys h l.1 e w in
    let g = with_messages-weigh w new (messages_less (sorted_messages old) on) in
    let i = less-weigh w (sorted_messages old) on (λ x. let y = sorted_messages-weigh (copy x) old in let z = message-sub sys h v l.0 e x in omega arith) in
    let j = sorted_messages-weigh w old in
    omega arith)
