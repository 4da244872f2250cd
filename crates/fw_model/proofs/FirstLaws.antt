-- On a numbered edge the least message that is pending is the one that may be delivered.
use Rattle.std.proofs.Common.{◌≡◌, ℕ, ◌+◌, ◌<◌, ◌≤◌, true, false, cond, List, [], ◌∷◌, length, refl, sym, ap, subst, ◌∙◌, inl, inr, arith}
use Rattle.std.specs.Ordering.{ordering_then, is_eq, is_gt}
use Rattle.std.specs.declared.cmp.Ordering.TheVariants.{Equal, Greater}
use Rattle.std.specs.Cmp.Lexicographic.{slice_cmp}
use Rattle.std.proofs.lemmas.Bool.{cases_Bool, cases_lt, cond-false, or_cases, or_left, or_right}
use Rattle.std.proofs.lemmas.Cmp.{tied_itself}
use Rattle.fw_lemmas.proofs.Bools.{two_ways}
use Rattle.fw_lemmas.proofs.Each.{each-one}
use Rattle.fw_lemmas.proofs.Orderings.{nat_cmp-greater}
use Rattle.fw_time.specs.Stamp.{Stamp, same, stamp_cmp}
use Rattle.fw_bag.specs.Rec.{rec_cmp}
use Rattle.fw_flow.specs.Counting.{how_many}
use Rattle.fw_flow.specs.declared.event.Event.{Event}
use Rattle.fw_flow.specs.declared.event.Message.{Message}
use Rattle.fw_flow.specs.Dataflow.{System}
use Rattle.fw_flow.specs.Message.{message_cmp, is_message_among}
use Rattle.fw_model.specs.History.{some_at, delivered_messages, pending_messages}
use Rattle.fw_model.proofs.ArrivalLaws.{weigh-both}
use Rattle.fw_flow.proofs.MessageLaws.{among-each, message_cmp-equal, message_total}
use Rattle.fw_model.proofs.OncePerNumberLaws.{any_at}
use Rattle.fw_model.proofs.SentLaws.{copy, is_among-copies}
use Rattle.fw_time.proofs.StampLaws.{same-is}
use Rattle.fw_model.proofs.WeightLaws.{weigh, weigh-lighter}
use Rattle.fw_model.specs.SortedMessages.{sorted_messages}
use Rattle.fw_model.specs.LawsOfPending.{IsNumberedFrom, GoesOn, FirstPendingIsNext}
use Rattle.fw_model.proofs.SortedLaws.{IsAscendingMessages, ascending-sorted_messages, sorted_messages-weigh}
use Rattle.fw_model.proofs.PendingNumberLaws.{of_message, many-weigh, copy-lighter, numbers-go_on}

-- ---- among

pub copies-among : (m : Message) (ms : List Message) → 0 < weigh (copy m) ms → is_message_among m ms ≡ true
unfolding weigh
copies-among m [] l = absurd (omega arith)
copies-among m (x ∷ xs) l = elim (cases_Bool (is_eq (message_cmp m x))) [
  | inl e ↦ or_left (is_eq (message_cmp m x)) (is_message_among m xs) e
  | inr e ↦
      let none : copy m x ≡ 0 = ap (λ b. cond b 1 0) e in
      or_right (is_eq (message_cmp m x)) (is_message_among m xs) (copies-among m xs (omega arith))
]

first-among : (m : Message) (ms : List Message) → is_message_among m (m ∷ ms) ≡ true
first-among m ms = or_left (is_eq (message_cmp m m)) (is_message_among m ms) (ap is_eq (tied_itself message_total m))

-- what is among the messages is among them in order, and the other way round
pub among-same : (m : Message) (xs ys : List Message) → weigh (copy m) xs ≡ weigh (copy m) ys → is_message_among m xs ≡ true → is_message_among m ys ≡ true
among-same m xs ys e i = let a = is_among-copies m xs i in copies-among m ys (omega arith)

-- some message at the stamp
at-some : (t : Stamp) (ms : List Message) → some_at (same t) ms ≡ true → (m : Message) × (is_message_among m ms ≡ true) × (t ≡ m.at)
at-some t [] k = absurd (two_ways false k refl)
at-some t (x ∷ xs) k = elim (or_cases (same t x.at) (some_at (same t) xs) k) [
  | inl e ↦ (x, first-among x xs, same-is t x.at e)
  | inr e ↦ let a = at-some t xs e in (a.0, or_right (is_eq (message_cmp a.0 x)) (is_message_among a.0 xs) a.1, a.2)
]

-- ---- the least

-- a message at a number that is not greater than another is at no greater number
least-number : (m x : Message) (k n : ℕ) → m.at ≡ k ∷ [] → x.at ≡ n ∷ [] → is_gt (message_cmp m x) ≡ false → k ≤ n
least-number m x k n i j g = elim (cases_lt n k) [
  | inl l ↦
      let stamps : stamp_cmp m.at x.at ≡ Greater =
      ap (λ s. stamp_cmp s x.at) i ∙ ap (λ s. stamp_cmp (k ∷ []) s) j ∙ ap (λ o. ordering_then o Equal) (nat_cmp-greater k n l) in
      let more : message_cmp m x ≡ Greater = ap (λ o. ordering_then o (ordering_then (rec_cmp m.rec x.rec) (slice_cmp stamp_cmp m.causes x.causes))) stamps in
      absurd (two_ways (is_gt (message_cmp m x)) (ap is_gt more) g)
  | inr l ↦ l
]

-- the first of ascending messages is not greater than any
pub first-least : (m : Message) (ms : List Message) → IsAscendingMessages (m ∷ ms) → (x : Message) → is_message_among x (m ∷ ms) ≡ true → is_gt (message_cmp m x) ≡ false
unfolding IsAscendingMessages
first-least m ms a x i = among-each (λ y. is_gt (message_cmp m y) ≡ false) x (m ∷ ms) i (ap is_gt (tied_itself message_total m), a.0)

-- ---- one alone

-- two different messages at one stamp are two
two-there : (t : Stamp) (m o : Message) → m.at ≡ t → o.at ≡ t → is_eq (message_cmp m o) ≡ false → (x : Message) → copy m x + copy o x ≤ of_message (any_at t) x
two-there t m o i j d x =
    let a = copy-lighter t m x i in
    let b = copy-lighter t o x j in
    elim (cases_Bool (is_eq (message_cmp m x))) [
      | inl e ↦
          let here = message_cmp-equal m x e in
          let z : is_eq (message_cmp o x) ≡ false = elim (cases_Bool (is_eq (message_cmp o x))) [
            | inl f ↦
                let one : m ≡ o = here ∙ sym (message_cmp-equal o x f) in
                absurd (two_ways (is_eq (message_cmp m o)) (sym (ap (λ y. is_eq (message_cmp m y)) one) ∙ ap is_eq (tied_itself message_total m)) d)
            | inr f ↦ f
          ] in
          let y : copy o x ≡ 0 = cond-false (is_eq (message_cmp o x)) 1 0 z in
          omega arith
      | inr e ↦ let y : copy m x ≡ 0 = cond-false (is_eq (message_cmp m x)) 1 0 e in omega arith
    ]

one-there : (t : Stamp) (m o : Message) (ms : List Message) → how_many (λ (x : Message). same t x.at) ms ≤ 1 → is_message_among m ms ≡ true → is_message_among o ms ≡ true
    → m.at ≡ t → o.at ≡ t → o ≡ m
one-there t m o ms few i j p q = elim (cases_Bool (is_eq (message_cmp m o))) [
  | inl e ↦ sym (message_cmp-equal m o e)
  | inr e ↦
      let a = is_among-copies m ms i in
      let b = is_among-copies o ms j in
      let c = weigh-both (copy m) (copy o) ms in
      let d = weigh-lighter (λ x. copy m x + copy o x) (of_message (any_at t)) ms (each-one (λ x. copy m x + copy o x ≤ of_message (any_at t) x) ms (two-there t m o p q e)) in
      let f = many-weigh t ms in
      absurd (omega arith)
]

-- ---- the law

-- the first of what is pending, in order, is at the next number
first-at : (sys : System) (h : List Event) (e : ℕ) → GoesOn sys h e → (m : Message) (rest : List Message) → sorted_messages (pending_messages sys h e) ≡ m ∷ rest
    → (is_message_among m (pending_messages sys h e) ≡ true) × (m.at ≡ length (delivered_messages h e) ∷ [])
first-at sys h e g m rest i =
    let ms = pending_messages sys h e in
    let n = length (delivered_messages h e) in
    let weighs : (q : Message) → weigh (copy q) ms ≡ weigh (copy q) (m ∷ rest) = λ q. sym (sorted_messages-weigh (copy q) ms) ∙ ap (weigh (copy q)) i in
    let among = among-same m (m ∷ rest) ms (sym (weighs m)) (first-among m rest) in
    let number = among-each (IsNumberedFrom n) m ms among g.none_lesser in
    let other = at-some (n ∷ []) ms (g.next m among) in
    let least = first-least m rest (subst IsAscendingMessages i (ascending-sorted_messages ms)) other.0 (among-same other.0 ms (m ∷ rest) (weighs other.0) other.1) in
    let low = least-number m other.0 number.0 n number.2 (sym other.2) least in
    let high = number.1 in
    let is : number.0 ≡ n = omega arith in
    (among, number.2 ∙ ap (λ k. k ∷ []) is)

pub first-next : FirstPendingIsNext
first-next sys h w l e k m rest i =
    let g = numbers-go_on sys h w l e k in
    let n = length (delivered_messages h e) in
    let f = first-at sys h e g m rest i in
    record {
      deliverable = record { is_pending = f.0; numbered = λ _. f.1 };
      only = λ other d. one-there (n ∷ []) m other (pending_messages sys h e) (g.alone (n ∷ [])) f.0 d.is_pending f.1 (d.numbered k);
    }
