-- How many messages are at a stamp, counted stamp by stamp.
use Rattle.std.proofs.Common.{◌≡◌, ℕ, ◌+◌, Bool, true, false, cond, List, [], ◌∷◌, length, Some, None, refl, sym, ap, subst, ◌∙◌, inl, inr, arith}
use Rattle.std.specs.Prelude.{slice_get}
use Rattle.std.specs.List.{AllByRecursion}
use Rattle.std.proofs.lemmas.List.{get_or_past}
use Rattle.std.proofs.lemmas.Option.{slice_get-get_or}
use Rattle.std.proofs.lemmas.Bool.{cases_Bool, cases_lt, cond-true, cond-false, false_from_ne_true}
use Rattle.fw_lemmas.proofs.Bools.{two_ways}
use Rattle.fw_time.specs.Stamp.{Stamp, same, in_domain}
use Rattle.fw_time.specs.declared.stamp.Bounds.{Bounds}
use Rattle.fw_time.proofs.StampLaws.{same-is, same-refl}
use Rattle.fw_flow.specs.declared.event.Message.{Message}
use Rattle.fw_edge.specs.Messages.{MessagesState}
use Rattle.fw_edge.specs.Stamps.{counted_before, counted_stamps}
use Rattle.fw_progress.specs.History.{count_at}
use Rattle.fw_progress.specs.Tally.{times_in, HasManyMore, IsTallyOf}
use Rattle.fw_rollback.specs.Edges.{nothing_there, on_edge}

-- how many are at a stamp, of stamps with how many are at each
abbrev pub total_at : Stamp → List (Stamp × ℕ) → ℕ
total_at t [] = 0
total_at t (e ∷ es) = cond (same e.0 t) e.1 0 + total_at t es

-- one, where it is so
abbrev one_if : Bool → ℕ
one_if b = cond b 1 0

one-more : (b : Bool) (n : ℕ) → cond b (n + 1) 0 ≡ one_if b + cond b n 0
one-more true n = omega arith
one-more false n = refl

total-before : (t u : Stamp) (es : List (Stamp × ℕ)) → total_at t (counted_before u es) ≡ one_if (same u t) + total_at t es
total-before t u [] = refl
total-before t u (e ∷ es) = elim (cases_Bool (same u e.0)) [
  | inl i ↦
      let one = cond-true (same u e.0) ((e.0, e.1 + 1) ∷ es) ((u, 1) ∷ e ∷ es) i in
      let there : one_if (same u t) ≡ one_if (same e.0 t) = ap (λ s. one_if (same s t)) (same-is u e.0 i) in
      let more : cond (same e.0 t) (e.1 + 1) 0 ≡ one_if (same e.0 t) + cond (same e.0 t) e.1 0 = one-more (same e.0 t) e.1 in
      ap (total_at t) one ∙ omega (arith, more, there)
  | inr i ↦ ap (total_at t) (cond-false (same u e.0) ((e.0, e.1 + 1) ∷ es) ((u, 1) ∷ e ∷ es) i)
]

same-turned : (s t : Stamp) → same s t ≡ same t s
same-turned s t = elim (cases_Bool (same s t)) [
  | inl i ↦ i ∙ sym (ap (λ u. same t u) (same-is s t i) ∙ same-refl t)
  | inr i ↦ i ∙ sym (false_from_ne_true (same t s) (λ j. two_ways (same s t) (ap (λ u. same s u) (same-is t s j) ∙ same-refl s) i))
]

counted-one : (b : Bool) (n : ℕ) → one_if b + n ≡ cond b (n + 1) n
counted-one true n = omega arith
counted-one false n = omega arith

-- stamp by stamp there are as many as in all
pub total-counted : (t : Stamp) (ms : List Message) → total_at t (counted_stamps ms) ≡ count_at t ms
total-counted t [] = refl
total-counted t (m ∷ ms) =
    total-before t m.at (counted_stamps ms)
    ∙ ap (λ b. one_if b + total_at t (counted_stamps ms)) (same-turned m.at t)
    ∙ ap (λ n. one_if (same t m.at) + n) (total-counted t ms)
    ∙ counted-one (same t m.at) (count_at t ms)

-- the stamps are of the domain
abbrev pub AreAllIn : Bounds → List (Stamp × ℕ) → Type 0
AreAllIn b es = AllByRecursion (λ (e : Stamp × ℕ). in_domain b e.0 ≡ true) es

before-in : (b : Bounds) (u : Stamp) (es : List (Stamp × ℕ)) → in_domain b u ≡ true → AreAllIn b es → AreAllIn b (counted_before u es)
before-in b u [] i a = (i, tt)
before-in b u (e ∷ es) i a = by (same u e.0)
  where
    by : (x : Bool) → AreAllIn b (cond x ((e.0, e.1 + 1) ∷ es) ((u, 1) ∷ e ∷ es))
    by true = a
    by false = (i, a)

pub counted-in : (b : Bounds) (ms : List Message) → AllByRecursion (λ (m : Message). in_domain b m.at ≡ true) ms → AreAllIn b (counted_stamps ms)
counted-in b [] a = tt
counted-in b (m ∷ ms) a = before-in b m.at (counted_stamps ms) a.0 (counted-in b ms a.1)

-- Of stamps with how many are at each, those that are not left are in the tally.
pub record IsCountedSoFar (all left tally : List (Stamp × ℕ)) : Type 0 where
  pub times : (t : Stamp) → times_in t tally + total_at t left ≡ total_at t all
  pub domain : (b : Bounds) → AreAllIn b all → IsTallyOf b tally × AreAllIn b left

none-in : (t : Stamp) → times_in t [] ≡ 0
unfolding times_in
none-in t = refl

pub counted-none : (all : List (Stamp × ℕ)) → IsCountedSoFar all all []
counted-none all = record {
  times = λ t. let none = none-in t in omega arith;
  domain = λ b a. (record { of_domain = tt; positive = tt }, a);
}

pub counted-more : (all left rest old new : List (Stamp × ℕ)) (at : Stamp) (count : ℕ) → IsCountedSoFar all left old → left ≡ (at, count) ∷ rest
    → HasManyMore at count old new → IsCountedSoFar all rest new
counted-more all left rest old new at count so next more = record {
  times = λ t.
      let old_times = so.times t in
      let split : total_at t left ≡ cond (same at t) count 0 + total_at t rest = ap (total_at t) next in
      let new_times = more.times t in
      elim (cases_Bool (same at t)) [
        | inl i ↦
            let x = cond-true (same at t) (times_in t old + count) (times_in t old) i in
            let y = cond-true (same at t) count 0 i in
            omega arith
        | inr i ↦
            let x = cond-false (same at t) (times_in t old + count) (times_in t old) i in
            let y = cond-false (same at t) count 0 i in
            omega arith
      ];
  domain = λ b a.
      let was = so.domain b a in
      let both = subst (AreAllIn b) next was.1 in
      (more.domain b was.0 both.0, both.1);
}

pub counted-all : (messages : List Message) (left tally : List (Stamp × ℕ)) → IsCountedSoFar (counted_stamps messages) left tally → left ≡ [] → (t : Stamp)
    → times_in t tally ≡ count_at t messages
counted-all messages left tally so none t =
    let x = so.times t in
    let y : total_at t left ≡ 0 = ap (total_at t) none in
    let z = total-counted t messages in
    omega arith

-- nothing is pending past the last edge
pub none-pending : (queues : List MessagesState) (e : ℕ) (tally : List (Stamp × ℕ)) → tally ≡ [] → None ≡ slice_get queues e → (t : Stamp)
    → times_in t tally ≡ count_at t (on_edge queues e).messages
none-pending queues e tally empty past t = elim (cases_lt e (length queues)) [
  | inl l ↦
      let there : slice_get queues e ≡ Some (on_edge queues e) = slice_get-get_or queues e nothing_there l in
      let no : None ≡ Some (on_edge queues e) = past ∙ there in
      absurd (cc no)
  | inr l ↦
      ap (times_in t) empty ∙ none-in t
      ∙ sym (ap (λ (queue : MessagesState). count_at t queue.messages) (get_or_past queues e nothing_there l))
]
