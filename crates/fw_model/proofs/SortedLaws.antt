-- The order of messages: a bag has one list in order, which the counts of its messages decide.
use Rattle.std.proofs.Common.{◌≡◌, ℕ, ◌+◌, Bool, false, cond, List, [], ◌∷◌, ◌++◌, refl, sym, ap, ◌∙◌, inl, inr, arith}
use Rattle.std.specs.Prelude.{filter}
use Rattle.std.specs.List.{AllByRecursion}
use Rattle.std.specs.Ordering.{is_eq, is_gt}
use Rattle.std.proofs.lemmas.Bool.{cond_both, cases_Bool}
use Rattle.fw_lemmas.proofs.Each.{each-kept}
use Rattle.fw_flow.specs.Dataflow.{Dataflow}
use Rattle.fw_flow.specs.declared.event.Message.{Message}
use Rattle.fw_flow.specs.Message.{message_cmp, messages_without, messages_less}
use Rattle.fw_flow.proofs.MessageLaws.{message_total, message_cmp-same, message_cmp-equal}
use Rattle.fw_model.proofs.AscentLaws.{IsAscentOf, ascending-put, each-put, put-weigh, same_by_copies}
use Rattle.fw_model.proofs.WeightLaws.{weigh}
use Rattle.fw_model.proofs.SentLaws.{copy}
use Rattle.fw_flow.specs.KeyParts.{is_carried}
use Rattle.fw_model.specs.Carried.{carried}
use Rattle.fw_model.specs.SortedMessages.{with_message, sorted_messages, with_messages}

-- ---- ascending lists

-- no message of the list is greater than a later one
unfoldable pub IsAscendingMessages : List Message → Type 0
IsAscendingMessages [] = Unit {0}
IsAscendingMessages (x ∷ xs) = AllByRecursion (λ y. is_gt (message_cmp x y) ≡ false) xs × IsAscendingMessages xs

message_ascent : IsAscentOf message_cmp with_message IsAscendingMessages
unfolding IsAscendingMessages
message_ascent = record {
  order = message_total;
  equal = message_cmp-same;
  alone = λ m. refl;
  among = λ m x xs. refl;
  none = tt;
  more = λ x xs above rest. (above, rest);
  parts = λ x xs a. a;
}

-- what holds of each message and of one more holds of each with that put in
pub each-with_message : (P : Message → Type 0) (m : Message) (xs : List Message) → P m → AllByRecursion P xs → AllByRecursion P (with_message m xs)
each-with_message P m xs p a = each-put message_ascent P m xs p a

-- what holds of each message holds of each in order
pub each-sorted_messages : (P : Message → Type 0) (xs : List Message) → AllByRecursion P xs → AllByRecursion P (sorted_messages xs)
each-sorted_messages P [] a = tt
each-sorted_messages P (x ∷ xs) a = each-with_message P x (sorted_messages xs) a.0 (each-sorted_messages P xs a.1)

-- what is in order ascends
pub ascending-sorted_messages : (xs : List Message) → IsAscendingMessages (sorted_messages xs)
unfolding IsAscendingMessages
ascending-sorted_messages [] = tt
ascending-sorted_messages (x ∷ xs) = ascending-put message_ascent x (sorted_messages xs) (ascending-sorted_messages xs)

-- ---- what a list weighs in order

pub sorted_messages-weigh : (w : Message → ℕ) (xs : List Message) → weigh w (sorted_messages xs) ≡ weigh w xs
unfolding weigh
sorted_messages-weigh w [] = refl
sorted_messages-weigh w (x ∷ xs) = let h = sorted_messages-weigh w xs in let a = put-weigh message_ascent w x (sorted_messages xs) in omega arith

-- ---- lists that have the same messages

-- two ascending lists that have each message equally often are the same list
pub same_from_copies : (xs ys : List Message) → IsAscendingMessages xs → IsAscendingMessages ys
    → ((q : Message) → weigh (copy q) xs ≡ weigh (copy q) ys) → xs ≡ ys
same_from_copies xs ys s t h = same_by_copies message_ascent xs ys s t h

-- lists that have each message equally often are one list in order
pub same_sorted_messages : (xs ys : List Message) → ((q : Message) → weigh (copy q) xs ≡ weigh (copy q) ys) → sorted_messages xs ≡ sorted_messages ys
same_sorted_messages xs ys h =
    same_from_copies (sorted_messages xs) (sorted_messages ys) (ascending-sorted_messages xs) (ascending-sorted_messages ys)
    (λ q. sorted_messages-weigh (copy q) xs ∙ h q ∙ sym (sorted_messages-weigh (copy q) ys))

-- ---- what ascends

-- what ascends is in order
pub sorted_messages-ascending : (xs : List Message) → IsAscendingMessages xs → sorted_messages xs ≡ xs
sorted_messages-ascending xs a = same_from_copies (sorted_messages xs) xs (ascending-sorted_messages xs) a (λ q. sorted_messages-weigh (copy q) xs)

-- what is in order stays so
pub sorted_messages-twice : (xs : List Message) → sorted_messages (sorted_messages xs) ≡ sorted_messages xs
sorted_messages-twice xs = sorted_messages-ascending (sorted_messages xs) (ascending-sorted_messages xs)

-- what passes a test ascends
pub ascending-filter : (test : Message → Bool) (xs : List Message) → IsAscendingMessages xs → IsAscendingMessages (filter test xs)
unfolding IsAscendingMessages
ascending-filter test [] a = tt
ascending-filter test (x ∷ xs) a =
    cond_both (test x) (x ∷ filter test xs) (filter test xs) IsAscendingMessages
    (λ e. (each-kept (λ y. is_gt (message_cmp x y) ≡ false) test xs a.0, ascending-filter test xs a.1)) (λ e. ascending-filter test xs a.1)

each-without : (P : Message → Type 0) (m : Message) (xs : List Message) → AllByRecursion P xs → AllByRecursion P (messages_without m xs)
each-without P m [] a = tt
each-without P m (x ∷ xs) a =
    cond_both (is_eq (message_cmp m x)) xs (x ∷ messages_without m xs) (AllByRecursion P) (λ e. a.1) (λ e. (a.0, each-without P m xs a.1))

-- what is left of an ascending list ascends
pub ascending-without : (m : Message) (xs : List Message) → IsAscendingMessages xs → IsAscendingMessages (messages_without m xs)
unfolding IsAscendingMessages
ascending-without m [] a = tt
ascending-without m (x ∷ xs) a =
    cond_both (is_eq (message_cmp m x)) xs (x ∷ messages_without m xs) IsAscendingMessages
    (λ e. a.1) (λ e. (each-without (λ y. is_gt (message_cmp x y) ≡ false) m xs a.0, ascending-without m xs a.1))

pub ascending-less : (xs ds : List Message) → IsAscendingMessages xs → IsAscendingMessages (messages_less xs ds)
ascending-less xs [] a = a
ascending-less xs (d ∷ ds) a = ascending-without d (messages_less xs ds) (ascending-less xs ds a)

pub ascending-with_messages : (ms xs : List Message) → IsAscendingMessages xs → IsAscendingMessages (with_messages ms xs)
ascending-with_messages [] xs a = a
ascending-with_messages (m ∷ ms) xs a = ascending-put message_ascent m (with_messages ms xs) (ascending-with_messages ms xs a)

-- ---- one list in order, of two

-- the second list with the first put in weighs as both
pub with_messages-weigh : (w : Message → ℕ) (ms xs : List Message) → weigh w (with_messages ms xs) ≡ weigh w ms + weigh w xs
unfolding weigh
with_messages-weigh w [] xs = omega arith
with_messages-weigh w (m ∷ ms) xs =
    let h = with_messages-weigh w ms xs in
    let a = put-weigh message_ascent w m (with_messages ms xs) in
    omega arith

-- two lists in order are the second in order, with the first put in
pub sorted_messages-append : (xs ys : List Message) → sorted_messages (xs ++ ys) ≡ with_messages xs (sorted_messages ys)
sorted_messages-append [] ys = refl
sorted_messages-append (x ∷ xs) ys = ap (with_message x) (sorted_messages-append xs ys)

-- ---- in order without some messages

-- ---- in order, what passes a test

filter-copies : (test : Message → Bool) (q : Message) (xs : List Message) → weigh (copy q) (filter test xs) ≡ cond (test q) (weigh (copy q) xs) 0
unfolding weigh
filter-copies test q [] = cond_both (test q) 0 0 (λ n. 0 ≡ n) (λ e. refl) (λ e. refl)
filter-copies test q (x ∷ xs) =
    let h = filter-copies test q xs in
    let n = weigh (copy q) xs in
    elim (cases_Bool (is_eq (message_cmp q x))) [
      | inl e ↦
          let same : test q ≡ test x = ap test (message_cmp-equal q x e) in
          let one : copy q x ≡ 1 = ap (λ b. cond b 1 0) e in
          elim (cases_Bool (test x)) [
            | inl i ↦
                let a = ap (λ b. weigh (copy q) (cond b (x ∷ filter test xs) (filter test xs))) i in
                let b : cond (test q) n 0 ≡ n = ap (λ c. cond c n 0) (same ∙ i) in
                let c : cond (test q) (copy q x + n) 0 ≡ copy q x + n = ap (λ c. cond c (copy q x + n) 0) (same ∙ i) in
                omega arith
            | inr i ↦
                let a = ap (λ b. weigh (copy q) (cond b (x ∷ filter test xs) (filter test xs))) i in
                let b : cond (test q) n 0 ≡ 0 = ap (λ c. cond c n 0) (same ∙ i) in
                let c : cond (test q) (copy q x + n) 0 ≡ 0 = ap (λ c. cond c (copy q x + n) 0) (same ∙ i) in
                omega arith
          ]
      | inr e ↦
          let none : copy q x ≡ 0 = ap (λ b. cond b 1 0) e in
          let s : copy q x + n ≡ n = omega arith in
          let c = ap (λ k. cond (test q) k 0) s in
          cond_both (test x) (x ∷ filter test xs) (filter test xs) (λ ys. weigh (copy q) ys ≡ cond (test q) (copy q x + n) 0) (λ i. omega arith) (λ i. omega arith)
    ]

-- what passes a test, in order, is what passes of the list in order
pub sorted_messages-filter : (test : Message → Bool) (xs : List Message) → sorted_messages (filter test xs) ≡ filter test (sorted_messages xs)
sorted_messages-filter test xs =
    same_from_copies (sorted_messages (filter test xs)) (filter test (sorted_messages xs)) (ascending-sorted_messages (filter test xs)) (ascending-filter test (sorted_messages xs) (ascending-sorted_messages xs))
    (λ q.
    sorted_messages-weigh (copy q) (filter test xs) ∙ filter-copies test q xs ∙ ap (λ n. cond (test q) n 0) (sym (sorted_messages-weigh (copy q) xs))
    ∙ sym (filter-copies test q (sorted_messages xs)))

-- so is what an edge carries
pub sorted_messages-carried : (flow : Dataflow) (e : ℕ) (xs : List Message) → sorted_messages (carried flow e xs) ≡ carried flow e (sorted_messages xs)
unfolding carried
sorted_messages-carried flow e xs = sorted_messages-filter (λ m. is_carried flow e m.rec) xs
