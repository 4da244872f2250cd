-- What is kept of a node's past, as it goes on.
use Rattle.std.proofs.Common.{◌≡◌, ℕ, ◌+◌, length, map, arith, Bool, true, false, cond, not, List, [], ◌∷◌, Some, refl, sym, ap, ◌∙◌}
use Rattle.std.specs.Prelude.{◌||◌}
use Rattle.std.specs.List.{AllByRecursion}
use Rattle.fw_time.specs.Stamp.{Stamp}
use Rattle.fw_bag.specs.Arrivals.{Arrival, recs_inside}
use Rattle.fw_bag.specs.Keyed.{sorted_recs}
use Rattle.fw_bag.specs.declared.rec.Rec.{Rec}
use Rattle.fw_flow.specs.Kind.{Kind}
use Rattle.fw_flow.specs.declared.kind.Kind.TheVariants as kind
use Rattle.fw_flow.specs.Dataflow.{is_sequence_kind}
use Rattle.fw_frontier.specs.Frontier.{Within}
use Rattle.fw_table.specs.Sent.{sent_if_at}
use Rattle.fw_numbered.specs.Numbers.{at_numbers}
use Rattle.fw_node.specs.Answers.{recs_at_notice}
use Rattle.fw_node.specs.LawsOfAnswers.{IsPerTime}
use Rattle.fw_node.specs.Past.{Past, unsettled, with_arrival, notice_list}
use Rattle.fw_node.proofs.ForgettingLaws.{notifications_need_their_time}

-- an arrival outside what is settled is kept
pub unsettled_more : (past : Past) (a : Arrival) → past.settled a.at ≡ false → unsettled (with_arrival a past) ≡ a ∷ unsettled past
unsettled_more past a h = ap (λ b. cond (not b) (a ∷ unsettled past) (unsettled past)) h

after_cases : (s a t : Bool) → (s ≡ true → a ≡ true) → (a ≡ true → t ≡ true) → (s || t) ≡ (a || t)
after_cases true a t h k = sym (ap (λ b. b || t) (h refl))
after_cases false true t h k = k refl
after_cases false false t h k = refl

-- where what is settled was told, the same recs are settled or told before and after
pub taken_after : (settled after told : Stamp → Bool) → Within settled after → (came : List Arrival)
    → AllByRecursion (λ (a : Arrival). after a.at ≡ true → told a.at ≡ true) came
    → recs_inside (λ s. settled s || told s) came ≡ recs_inside (λ s. after s || told s) came
taken_after settled after told h [] all = refl
taken_after settled after told h (a ∷ came) all =
    ap (λ b. cond b (a.rec ∷ recs_inside (λ s. settled s || told s) came) (recs_inside (λ s. settled s || told s) came))
    (after_cases (settled a.at) (after a.at) (told a.at) (h a.at) all.0)
    ∙ ap (λ (rs : List Rec). cond (after a.at || told a.at) (a.rec ∷ rs) rs) (taken_after settled after told h came all.1)

-- what is settled beside what was settled or told
pub gone_after : (s a t : Bool) → (s ≡ true → a ≡ true) → (a || (s || t)) ≡ (a || t)
gone_after s true t h = refl
gone_after true false t h = let e : false ≡ true = h refl in cc
gone_after false false t h = refl

-- a node that is no sequence sends at the stamp of the notification
pub notice_plain : (k : Kind) (past : Past) (t : Stamp) → is_sequence_kind k ≡ false
    → notice_list k past t ≡ sent_if_at (Some t) (sorted_recs (recs_at_notice k past.came t))
notice_plain kind.Sequence past t h = cc
notice_plain _ past t h = refl

-- and where its stamp is not settled, and what it makes send needs its own time alone, it needs only what is not settled
pub notice_unsettled : (k : Kind) (past : Past) (t : Stamp) → IsPerTime k → is_sequence_kind k ≡ false → past.settled t ≡ false
    → map (λ (r : Rec). (t, r)) (sorted_recs (recs_at_notice k (unsettled past) t)) ≡ notice_list k past t
notice_unsettled k past t i plain out =
    ap (λ rs. map (λ (r : Rec). (t, r)) (sorted_recs rs)) (notifications_need_their_time k i (λ s. not (past.settled s)) past.came t (ap not out))
    ∙ sym (notice_plain k past t plain)

-- there are as many messages as recs
pub at_numbers-length : (n : ℕ) (rs : List Rec) → length (at_numbers n rs) ≡ length rs
at_numbers-length n [] = refl
at_numbers-length n (r ∷ rs) = let h = at_numbers-length (n + 1) rs in omega arith
