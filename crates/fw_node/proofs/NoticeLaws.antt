-- What is said of a notification is, in any order, what the node function sends.
use Rattle.std.proofs.Common.{◌≡◌, ℕ, ◌+◌, nat_le, List, [], ◌∷◌, map, Option, Some, None, length, refl, sym, ap, ◌∙◌, arith}
use Rattle.std.specs.Ordering.{is_le}
use Rattle.std.proofs.lemmas.Bool.{cond_both}
use Rattle.fw_time.specs.Stamp.{Stamp}
use Rattle.fw_bag.specs.declared.rec.Rec.{Rec}
use Rattle.fw_bag.specs.Rec.{rec_cmp}
use Rattle.fw_bag.specs.Bag.{with_rec}
use Rattle.fw_bag.specs.Keyed.{sorted_recs}
use Rattle.fw_flow.specs.declared.event.Event.{Event}
use Rattle.fw_flow.specs.declared.event.Event.TheVariants.{Notify}
use Rattle.fw_flow.specs.declared.event.Message.{Message}
use Rattle.fw_flow.specs.Kind.{Kind}
use Rattle.fw_flow.specs.declared.kind.Kind.TheVariants as kind
use Rattle.fw_flow.specs.Dataflow.{System, kind_of, greatest_number, send_stamp_of_kind}
use Rattle.fw_flow.specs.NodeFunction.{messages_at, messages_at_some, numbered_messages, recs_on_notification, sends, sends_of_kind, sequence_sent}
use Rattle.fw_model.proofs.SentLaws.{copy}
use Rattle.fw_model.proofs.SortedLaws.{same_sorted_messages}
use Rattle.fw_model.proofs.WeightLaws.{weigh}
use Rattle.fw_model.specs.SortedMessages.{sorted_messages}
use Rattle.fw_node.specs.Answers.{caused_by, without_causes}
use Rattle.fw_node.specs.LawsOfAnswers.{NoticesAreSends}
use Rattle.fw_node.specs.Sends.{notice_sends}

-- ---- recs in order

with_rec-weigh : (w : Rec → ℕ) (r : Rec) (xs : List Rec) → weigh w (with_rec r xs) ≡ w r + weigh w xs
unfolding weigh
with_rec-weigh w r [] = refl
with_rec-weigh w r (x ∷ xs) =
    let h = with_rec-weigh w r xs in
    cond_both (is_le (rec_cmp r x)) (r ∷ x ∷ xs) (x ∷ with_rec r xs) (λ ys. weigh w ys ≡ w r + weigh w (x ∷ xs))
    (λ e. refl) (λ e. omega arith)

sorted_recs-weigh : (w : Rec → ℕ) (rs : List Rec) → weigh w (sorted_recs rs) ≡ weigh w rs
unfolding weigh
sorted_recs-weigh w [] = refl
sorted_recs-weigh w (r ∷ rs) = with_rec-weigh w r (sorted_recs rs) ∙ ap (λ n. w r + n) (sorted_recs-weigh w rs)

-- ---- their messages

-- a rec at a stamp as a message of one cause
abbrev message : Stamp → Stamp → Rec → Message
message at cause r = record { at = at; rec = r; causes = cause ∷ [] }

messages-weigh : (w : Message → ℕ) (t : Stamp) (rs : List Rec) → weigh w (messages_at t t rs) ≡ weigh (λ r. w (message t t r)) rs
unfolding weigh
messages-weigh w t [] = refl
messages-weigh w t (r ∷ rs) = ap (λ n. w (message t t r) + n) (messages-weigh w t rs)

caused-weigh : (w : Message → ℕ) (t : Stamp) (rs : List Rec)
    → weigh w (caused_by t (map (λ (r : Rec). (t, r)) rs)) ≡ weigh (λ r. w (message t t r)) rs
unfolding weigh
caused-weigh w t [] = refl
caused-weigh w t (r ∷ rs) = ap (λ n. w (message t t r) + n) (caused-weigh w t rs)

-- recs at the stamp, and the same in order
in_order : (t : Stamp) (rs : List Rec)
    → sorted_messages (messages_at t t rs) ≡ sorted_messages (caused_by t (map (λ (r : Rec). (t, r)) (sorted_recs rs)))
in_order t rs =
    same_sorted_messages (messages_at t t rs) (caused_by t (map (λ (r : Rec). (t, r)) (sorted_recs rs)))
    (λ q.
    messages-weigh (copy q) t rs
    ∙ sym (caused-weigh (copy q) t (sorted_recs rs) ∙ sorted_recs-weigh (λ r. copy q (message t t r)) rs))

-- those at numbers have the cause that is left out
numbered : (n : ℕ) (t : Stamp) (rs : List Rec) → numbered_messages n t rs ≡ caused_by t (without_causes (numbered_messages n t rs))
numbered n t [] = refl
numbered n t (r ∷ rs) =
    cond_both (nat_le n greatest_number) (message (n ∷ []) t r ∷ numbered_messages (n + 1) t rs) []
    (λ (ms : List Message). ms ≡ caused_by t (without_causes ms))
    (λ e. ap (λ (ms : List Message). message (n ∷ []) t r ∷ ms) (numbered (n + 1) t rs)) (λ e. refl)

none_sent : (o : Option Stamp) (t : Stamp) → sorted_messages (messages_at_some o t []) ≡ []
none_sent None t = refl
none_sent (Some at) t = refl

-- ---- by kinds

by_kind : (sys : System) (p : ℕ) (k : Kind) (before : List Event) (t : Stamp)
    → sorted_messages (sends_of_kind sys k before (Notify p t)) ≡ sorted_messages (caused_by t (notice_sends k before t))
by_kind sys p kind.Sequence before t =
    ap sorted_messages (numbered (length (sequence_sent before)) t (recs_on_notification kind.Sequence before t))
by_kind sys p (kind.Sum w) before t = in_order t (recs_on_notification (kind.Sum w) before t)
by_kind sys p kind.Total before t = in_order t (recs_on_notification kind.Total before t)
by_kind sys p k before t = none_sent (send_stamp_of_kind sys.flow k t) t

pub notices_are_sends : NoticesAreSends
unfolding sends
notices_are_sends sys p before t = by_kind sys p (kind_of sys.flow p) before t
