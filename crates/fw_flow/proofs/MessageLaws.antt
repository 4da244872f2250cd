-- Laws of the order of messages, and of lists of which some are taken away.
use Rattle.std.proofs.Common.{◌≡◌, ℕ, zero, suc, ◌+◌, ◌<◌, ◌≤◌, Bool, true, false, not, cond, List, [], ◌∷◌, length, filter, Some, None, refl, sym, ap, subst, ◌∙◌, get_or, arith, inl, inr, remove, position, nat_lt, lt-ltb}
use Rattle.std.specs.List.{AllByRecursion, list_any, position_or_len}
use Rattle.std.specs.Cmp.{IsTotalOrder}
use Rattle.std.specs.declared.cmp.Ordering.{Ordering}
use Rattle.std.specs.declared.cmp.Ordering.TheVariants.{Equal}
use Rattle.std.specs.Ordering.{ordering_then, is_eq}
use Rattle.std.specs.Cmp.Lexicographic.{slice_cmp}
use Rattle.std.proofs.lemmas.Bool.{or_cases, cond_both, cond-true, cond-false, cases_Bool, cases_lt}
use Rattle.std.proofs.lemmas.Cmp.{nat_list_cmp_total, lists_total, on_total, then_total, tied_itself}
use Rattle.std.proofs.lemmas.List.Quantifiers.{position-Some}
use Rattle.std.proofs.lemmas.Map.Lookups.{exact_bytes}
use Rattle.fw_lemmas.proofs.Orderings.{equal_from_is_eq, then_equal, slice_cmp-same}
use Rattle.fw_time.specs.Stamp.{stamp_cmp}
use Rattle.fw_bag.specs.Rec.{rec_cmp}
use Rattle.fw_bag.proofs.RecLaws.{rec_order, rec_cmp-same, rec_cmp-refl}
use Rattle.fw_flow.specs.declared.event.Message.{Message}
use Rattle.fw_flow.specs.Message.{message_cmp, is_message_among, messages_without, messages_less}

-- ---- messages that the order finds equal are one

pub message_total : IsTotalOrder message_cmp
message_total =
    then_total (on_total (λ (m : Message). m.at) nat_list_cmp_total)
    (then_total (on_total (λ (m : Message). m.rec) rec_order) (on_total (λ (m : Message). m.causes) (lists_total nat_list_cmp_total)))

pub message_cmp-same : (m x : Message) → message_cmp m x ≡ Equal → m ≡ x
message_cmp-same m x e =
    let a = then_equal (stamp_cmp m.at x.at) (ordering_then (rec_cmp m.rec x.rec) (slice_cmp stamp_cmp m.causes x.causes)) e in
    let b = then_equal (rec_cmp m.rec x.rec) (slice_cmp stamp_cmp m.causes x.causes) a.1 in
    let p = exact_bytes m.at x.at a.0 in
    let q = rec_cmp-same m.rec x.rec b.0 in
    let r = slice_cmp-same stamp_cmp exact_bytes m.causes x.causes b.1 in
    λ i. record { at = p i; rec = q i; causes = r i }

pub message_cmp-equal : (m x : Message) → is_eq (message_cmp m x) ≡ true → m ≡ x
message_cmp-equal m x e = message_cmp-same m x (equal_from_is_eq (message_cmp m x) e)

-- messages that are the same are found equal
three_equal : (o p q : Ordering) → o ≡ Equal → p ≡ Equal → q ≡ Equal → is_eq (ordering_then o (ordering_then p q)) ≡ true
three_equal o p q a b c = ap (λ x. is_eq (ordering_then x (ordering_then p q))) a ∙ ap (λ x. is_eq (ordering_then x q)) b ∙ ap is_eq c

pub message_cmp-self : (m : Message) → is_eq (message_cmp m m) ≡ true
message_cmp-self m =
    three_equal (stamp_cmp m.at m.at) (rec_cmp m.rec m.rec) (slice_cmp stamp_cmp m.causes m.causes)
    (tied_itself nat_list_cmp_total m.at) (rec_cmp-refl m.rec) (tied_itself (lists_total nat_list_cmp_total) m.causes)

-- what holds of each listed element holds of each one among them
pub each-among : {K : Type 0} {R : K → K → Ordering} → ((x y : K) → R x y ≡ Equal → x ≡ y)
    → (P : K → Type 0) (x : K) (xs : List K) → list_any (λ y. is_eq (R x y)) xs ≡ true → AllByRecursion P xs → P x
each-among h P x [] k a = absurd (cc)
each-among {R} h P x (y ∷ ys) k a = elim (or_cases (is_eq (R x y)) (list_any (λ z. is_eq (R x z)) ys) k) [
  | inl e ↦ subst P (sym (h x y (equal_from_is_eq (R x y) e))) a.0
  | inr l ↦ each-among h P x ys l a.1
]

pub among-each : (P : Message → Type 0) (m : Message) (ms : List Message) → is_message_among m ms ≡ true → AllByRecursion P ms → P m
among-each = each-among message_cmp-same

-- ---- one message taken away

pub without-here : (d x : Message) (ms : List Message) → is_eq (message_cmp d x) ≡ true → messages_without d (x ∷ ms) ≡ ms
without-here d x ms e = cond-true (is_eq (message_cmp d x)) ms (x ∷ messages_without d ms) e

pub without-later : (d x : Message) (ms : List Message) → is_eq (message_cmp d x) ≡ false → messages_without d (x ∷ ms) ≡ x ∷ messages_without d ms
without-later d x ms e = cond-false (is_eq (message_cmp d x)) ms (x ∷ messages_without d ms) e

without_at : (m : Message) (xs : List Message) (i : ℕ) (d : Message) → i < length xs → is_eq (message_cmp m (get_or xs i d)) ≡ true
    → ((k : ℕ) → k < i → is_eq (message_cmp m (get_or xs k d)) ≡ false) → messages_without m xs ≡ remove xs i
without_at m [] i d l e b = absurd (omega arith)
without_at m (x ∷ xs) zero d l e b = cond-true (is_eq (message_cmp m x)) xs (x ∷ messages_without m xs) e
without_at m (x ∷ xs) (suc i) d l e b =
    cond-false (is_eq (message_cmp m x)) xs (x ∷ messages_without m xs) (b 0 (omega arith))
    ∙ ap (λ ys. x ∷ ys) (without_at m xs i d (omega arith) e (λ k h. b (suc k) (omega arith)))

pub without_there : (m : Message) (xs : List Message) (i : ℕ) → position (λ x. is_eq (message_cmp m x)) xs ≡ Some i → messages_without m xs ≡ remove xs i
without_there m xs i e =
    let a = position-Some (λ x. is_eq (message_cmp m x)) xs i m e in
    without_at m xs i m a.0 a.1 a.2

past_cons : (m x : Message) (xs : List Message) → (length xs ≤ position_or_len (λ y. is_eq (message_cmp m y)) xs → messages_without m xs ≡ xs)
    → (b : Bool) → suc (length xs) ≤ cond (not b) (1 + position_or_len (λ y. is_eq (message_cmp m y)) xs) 0 → cond b xs (x ∷ messages_without m xs) ≡ x ∷ xs
past_cons m x xs ih true k = absurd (omega arith)
past_cons m x xs ih false k = ap (λ ys. x ∷ ys) (ih (omega arith))

without_past : (m : Message) (xs : List Message) → length xs ≤ position_or_len (λ x. is_eq (message_cmp m x)) xs → messages_without m xs ≡ xs
without_past m [] l = refl
without_past m (x ∷ xs) l = past_cons m x xs (without_past m xs) (is_eq (message_cmp m x)) l

none_past : (n p : ℕ) → cond (nat_lt p n) (Some p) None ≡ None → n ≤ p
none_past n p e = elim (cases_lt p n) [
  | inl l ↦ let a : Some p ≡ None = sym (cond-true (nat_lt p n) (Some p) None (lt-ltb p n l)) ∙ e in absurd (cc)
  | inr l ↦ l
]

pub without_nowhere : (m : Message) (xs : List Message) → position (λ x. is_eq (message_cmp m x)) xs ≡ None → messages_without m xs ≡ xs
without_nowhere m xs e = without_past m xs (none_past (length xs) (position_or_len (λ x. is_eq (message_cmp m x)) xs) e)

pub without-each : (P : Message → Type 0) (m : Message) (ms : List Message) → AllByRecursion P ms → AllByRecursion P (messages_without m ms)
without-each P m [] a = tt
without-each P m (x ∷ xs) a =
    cond_both (is_eq (message_cmp m x)) xs (x ∷ messages_without m xs) (AllByRecursion P) (λ e. a.1) (λ e. (a.0, without-each P m xs a.1))

-- ---- messages taken away

pub less-each : (P : Message → Type 0) (ms ds : List Message) → AllByRecursion P ms → AllByRecursion P (messages_less ms ds)
less-each P ms [] a = a
less-each P ms (d ∷ ds) a = without-each P d (messages_less ms ds) (less-each P ms ds a)

pub less-none : (ds : List Message) → messages_less [] ds ≡ []
less-none [] = refl
less-none (d ∷ ds) = ap (λ ms. messages_without d ms) (less-none ds)

-- ---- what is kept of the messages that are left

-- the messages without one that may be kept
abbrev without_if : Bool → Message → List Message → List Message
without_if b d ms = cond b (messages_without d ms) ms

without_if-later : (b : Bool) (d x : Message) (ms : List Message) → is_eq (message_cmp d x) ≡ false → without_if b d (x ∷ ms) ≡ x ∷ without_if b d ms
without_if-later true d x ms e = without-later d x ms e
without_if-later false d x ms e = refl

without_if-here : (k : Message → Bool) (d x : Message) (ms : List Message) → is_eq (message_cmp d x) ≡ true → k d ≡ k x → filter k ms ≡ without_if (k d) d (filter k (x ∷ ms))
without_if-here k d x ms e s = elim (cases_Bool (k d)) [
  | inl i ↦ sym (cond-true (k d) (messages_without d (filter k (x ∷ ms))) (filter k (x ∷ ms)) i ∙ ap (messages_without d) (cond-true (k x) (x ∷ filter k ms) (filter k ms) (sym s ∙ i)) ∙ without-here d x (filter k ms) e)
  | inr i ↦ sym (cond-false (k d) (messages_without d (filter k (x ∷ ms))) (filter k (x ∷ ms)) i ∙ cond-false (k x) (x ∷ filter k ms) (filter k ms) (sym s ∙ i))
]

filter-without : (k : Message → Bool) (d : Message) (ms : List Message) → filter k (messages_without d ms) ≡ without_if (k d) d (filter k ms)
filter-without k d [] = cond_both (k d) (messages_without d []) [] (λ l. [] ≡ l) (λ e. refl) (λ e. refl)
filter-without k d (x ∷ xs) = elim (cases_Bool (is_eq (message_cmp d x))) [
  | inl e ↦ ap (filter k) (without-here d x xs e) ∙ without_if-here k d x xs e (ap k (message_cmp-equal d x e))
  | inr e ↦
      let later = ap (filter k) (without-later d x xs e) in
      let h = filter-without k d xs in
      elim (cases_Bool (k x)) [
        | inl i ↦ later ∙ cond-true (k x) (x ∷ filter k (messages_without d xs)) (filter k (messages_without d xs)) i ∙ ap (λ l. x ∷ l) h ∙ sym (ap (without_if (k d) d) (cond-true (k x) (x ∷ filter k xs) (filter k xs) i) ∙ without_if-later (k d) d x (filter k xs) e)
        | inr i ↦ later ∙ cond-false (k x) (x ∷ filter k (messages_without d xs)) (filter k (messages_without d xs)) i ∙ h ∙ sym (ap (without_if (k d) d) (cond-false (k x) (x ∷ filter k xs) (filter k xs) i))
      ]
]

-- what is kept of what is left is left of what is kept
pub filter-less : (k : Message → Bool) (ms ds : List Message) → filter k (messages_less ms ds) ≡ messages_less (filter k ms) (filter k ds)
filter-less k ms [] = refl
filter-less k ms (d ∷ ds) =
    let rest = filter-without k d (messages_less ms ds) ∙ ap (without_if (k d) d) (filter-less k ms ds) in
    elim (cases_Bool (k d)) [
      | inl e ↦ rest ∙ cond-true (k d) _ _ e ∙ sym (ap (messages_less (filter k ms)) (cond-true (k d) (d ∷ filter k ds) (filter k ds) e))
      | inr e ↦ rest ∙ cond-false (k d) _ _ e ∙ sym (ap (messages_less (filter k ms)) (cond-false (k d) (d ∷ filter k ds) (filter k ds) e))
    ]
