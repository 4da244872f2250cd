-- What is pending at a stamp, when more is sent and more is delivered.
use Rattle.std.proofs.Common.{◌≡◌, Bool, true, false, cond, List, [], ◌∷◌, ◌++◌, refl, sym, ap, ◌∙◌, inl, inr}
use Rattle.std.specs.Ordering.{is_eq}
use Rattle.std.specs.List.{AllByRecursion}
use Rattle.std.proofs.lemmas.Bool.{and_from, or_cases, or_left, or_right, or_parts, or_from, cond_both, cond-true, cond-false, cases_Bool}
use Rattle.fw_time.specs.Stamp.{Stamp, leq, same}
use Rattle.fw_time.proofs.StampLaws.{leq-refl}
use Rattle.fw_flow.specs.declared.event.Message.{Message}
use Rattle.fw_flow.specs.Message.{message_cmp, is_message_among, messages_without, messages_less}
use Rattle.fw_flow.proofs.MessageLaws.{message_cmp-equal, without-here, without-later}
use Rattle.fw_model.specs.History.{some_at}

-- the messages at a stamp
abbrev part : Stamp → List Message → List Message
part t [] = []
part t (m ∷ ms) = cond (same t m.at) (m ∷ part t ms) (part t ms)

part-in : (t : Stamp) (m : Message) (ms : List Message) → same t m.at ≡ true → part t (m ∷ ms) ≡ m ∷ part t ms
part-in t m ms e = cond-true (same t m.at) (m ∷ part t ms) (part t ms) e

part-out : (t : Stamp) (m : Message) (ms : List Message) → same t m.at ≡ false → part t (m ∷ ms) ≡ part t ms
part-out t m ms e = cond-false (same t m.at) (m ∷ part t ms) (part t ms) e

-- what is left of the messages at a stamp, when one message is taken away
abbrev left_of : Bool → Message → List Message → List Message
left_of a d ms = cond a (messages_without d ms) ms

part_without-here : (t : Stamp) (d x : Message) (xs : List Message) → is_eq (message_cmp d x) ≡ true
    → part t (messages_without d (x ∷ xs)) ≡ left_of (same t d.at) d (part t (x ∷ xs))
part_without-here t d x xs e =
    let at = ap (λ (y : Message). same t y.at) (message_cmp-equal d x e) in
    let gone = ap (part t) (without-here d x xs e) in
    elim (cases_Bool (same t d.at)) [
      | inl k ↦ gone ∙ sym (cond-true (same t d.at) (messages_without d (part t (x ∷ xs))) (part t (x ∷ xs)) k
          ∙ ap (messages_without d) (part-in t x xs (sym at ∙ k)) ∙ without-here d x (part t xs) e)
      | inr k ↦ gone ∙ sym (cond-false (same t d.at) (messages_without d (part t (x ∷ xs))) (part t (x ∷ xs)) k ∙ part-out t x xs (sym at ∙ k))
    ]

left_of-later : (a : Bool) (d x : Message) (ms : List Message) → is_eq (message_cmp d x) ≡ false → left_of a d (x ∷ ms) ≡ x ∷ left_of a d ms
left_of-later true d x ms e = without-later d x ms e
left_of-later false d x ms e = refl

part-without : (t : Stamp) (d : Message) (ms : List Message) → part t (messages_without d ms) ≡ left_of (same t d.at) d (part t ms)
part-without t d [] = cond_both (same t d.at) (messages_without d []) [] (λ l. [] ≡ l) (λ e. refl) (λ e. refl)
part-without t d (x ∷ xs) = elim (cases_Bool (is_eq (message_cmp d x))) [
  | inl e ↦ part_without-here t d x xs e
  | inr e ↦
      let a = same t d.at in
      let later = ap (part t) (without-later d x xs e) in
      let h = part-without t d xs in
      elim (cases_Bool (same t x.at)) [
        | inl k ↦ later ∙ part-in t x (messages_without d xs) k ∙ ap (λ l. x ∷ l) h
            ∙ sym (ap (left_of a d) (part-in t x xs k) ∙ left_of-later a d x (part t xs) e)
        | inr k ↦ later ∙ part-out t x (messages_without d xs) k ∙ h ∙ sym (ap (left_of a d) (part-out t x xs k))
      ]
]

-- what is left of the messages at a stamp, when those of a list are taken away
abbrev left_after : Stamp → List Message → List Message → List Message
left_after t ms [] = ms
left_after t ms (d ∷ ds) = left_of (same t d.at) d (left_after t ms ds)

part-less : (t : Stamp) (ms ds : List Message) → part t (messages_less ms ds) ≡ left_after t (part t ms) ds
part-less t ms [] = refl
part-less t ms (d ∷ ds) = part-without t d (messages_less ms ds) ∙ ap (left_of (same t d.at) d) (part-less t ms ds)

part-new : (t : Stamp) (new old : List Message) → AllByRecursion (λ (m : Message). same t m.at ≡ false) new → part t (new ++ old) ≡ part t old
part-new t [] old a = refl
part-new t (m ∷ new) old a = part-out t m (new ++ old) a.0 ∙ part-new t new old a.1

none-part : (t : Stamp) (ms : List Message) → some_at (same t) ms ≡ false → part t ms ≡ []
none-part t [] k = refl
none-part t (m ∷ ms) k =
    let a = or_parts (same t m.at) (some_at (same t) ms) k in
    part-out t m ms a.0 ∙ none-part t ms a.1

part-none : (t : Stamp) (ms : List Message) → part t ms ≡ [] → some_at (same t) ms ≡ false
part-none t [] k = refl
part-none t (m ∷ ms) k = elim (cases_Bool (same t m.at)) [
  | inl e ↦ let q : m ∷ part t ms ≡ [] = sym (part-in t m ms e) ∙ k in absurd (cc q)
  | inr e ↦ or_from (same t m.at) (some_at (same t) ms) e (part-none t ms (sym (part-out t m ms e) ∙ k))
]

-- nothing comes to be pending at a stamp by messages at other stamps
pub quiet-new : (t : Stamp) (new old ds : List Message) → AllByRecursion (λ (m : Message). same t m.at ≡ false) new
    → some_at (same t) (messages_less old ds) ≡ false → some_at (same t) (messages_less (new ++ old) ds) ≡ false
quiet-new t new old ds a k =
    part-none t (messages_less (new ++ old) ds)
    (part-less t (new ++ old) ds ∙ ap (λ l. left_after t l ds) (part-new t new old a) ∙ sym (part-less t old ds) ∙ none-part t (messages_less old ds) k)

pub quiet-without : (t : Stamp) (d : Message) (ms : List Message) → some_at (same t) ms ≡ false → some_at (same t) (messages_without d ms) ≡ false
quiet-without t d [] k = refl
quiet-without t d (x ∷ xs) k =
    let a = or_parts (same t x.at) (some_at (same t) xs) k in
    cond_both (is_eq (message_cmp d x)) xs (x ∷ messages_without d xs) (λ l. some_at (same t) l ≡ false)
    (λ e. a.1) (λ e. or_from (same t x.at) (some_at (same t) (messages_without d xs)) a.0 (quiet-without t d xs a.1))

pub is_among-some_at : (m : Message) (ms : List Message) → is_message_among m ms ≡ true → some_at (same m.at) ms ≡ true
is_among-some_at m [] k = k
is_among-some_at m (x ∷ xs) k = elim (or_cases (is_eq (message_cmp m x)) (is_message_among m xs) k) [
  | inl e ↦
      let self = and_from (leq m.at m.at) (leq m.at m.at) (leq-refl m.at) (leq-refl m.at) in
      or_left (same m.at x.at) (some_at (same m.at) xs) (sym (ap (λ (y : Message). same m.at y.at) (message_cmp-equal m x e)) ∙ self)
  | inr l ↦ or_right (same m.at x.at) (some_at (same m.at) xs) (is_among-some_at m xs l)
]
