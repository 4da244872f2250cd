-- What a sequence sent has the first numbers, and the last of them covers all.
use Rattle.std.proofs.Common.{◌≡◌, ℕ, zero, suc, ◌+◌, ◌-◌, ◌<◌, ◌≤◌, Bool, true, false, nat_le, cond, List, [], ◌∷◌, ◌++◌, length, map, refl, sym, ap, subst, ◌∙◌, arith}
use Rattle.std.specs.List.{AllByRecursion, Contains}
use Rattle.std.proofs.lemmas.Bool.{and_from}
use Rattle.std.proofs.lemmas.Bool.Decides.{nat_tests}
use Rattle.std.proofs.lemmas.List.{length-append, map-append}
use Rattle.std.proofs.lemmas.List.Elements.{Contains-append_left}
use Rattle.fw_lemmas.proofs.Each.{each-weaker, each-append, each-map}
use Rattle.fw_bag.specs.declared.rec.Rec.{Rec}
use Rattle.fw_time.specs.Stamp.{Stamp, leq}
use Rattle.fw_frontier.specs.Frontier.{Frontier}
use Rattle.fw_flow.specs.declared.event.Event.{Event}
use Rattle.fw_flow.specs.declared.event.Event.TheVariants.{Inject, Deliver, Notify}
use Rattle.fw_flow.specs.declared.event.Message.{Message}
use Rattle.fw_flow.specs.Dataflow.{greatest_number}
use Rattle.fw_flow.specs.NodeFunction.{numbered_messages, sequence_sent}
use Rattle.fw_model.specs.Sending.{recs_by_count}
use Rattle.fw_model.specs.Thinned.{IsBelowKept, IsThinned}
use Rattle.fw_model.proofs.ThinnedLaws.{each-contained}
use Rattle.fw_progress.specs.Covers.{last_number}
use Rattle.fw_progress.proofs.TraceLaws.{contains-head, contains-tail}

-- the message has a number from n on below m, none past the greatest
pub record IsNumber (n m : ℕ) (s : Message) : Type 0 where
  pub number : ℕ
  pub at : s.at ≡ number ∷ []
  pub from : n ≤ number
  pub below : number < m
  pub few : number ≤ greatest_number

-- the messages have the numbers from n on below m, the last one among them
pub record HaveNumbers (n m : ℕ) (ms : List Message) : Type 0 where
  pub each : AllByRecursion (IsNumber n m) ms
  pub last : n < m → Contains (map (λ (s : Message). s.at) ms) ((m - 1) ∷ [])

more-numbers : (n m l : ℕ) → n ≤ m → m ≤ l → (k : ℕ) → k ≤ n → (ms : List Message) → AllByRecursion (IsNumber n m) ms → AllByRecursion (IsNumber k l) ms
more-numbers n m l a b k c ms h =
    each-weaker (IsNumber n m) (IsNumber k l) ms (λ s i. let f = i.from in let g = i.below in record { number = i.number; at = i.at; from = omega arith; below = omega arith; few = i.few }) h

numbered-from : (n : ℕ) (cause : Stamp) (rs : List Rec) → HaveNumbers n (n + length (numbered_messages n cause rs)) (numbered_messages n cause rs)
numbered-from n cause [] = record { each = tt; last = λ l. absurd (omega arith) }
numbered-from n cause (r ∷ rs) = by (nat_le n greatest_number) refl (numbered-from (n + 1) cause rs)
  where
    first : Message
    first = record { at = n ∷ []; rec = r; causes = cause ∷ [] }

    rest : List Message
    rest = numbered_messages (n + 1) cause rs

    at : Message → Stamp
    at m = m.at

    last : (xs : List Message) → (n + 1 < n + 1 + length xs → Contains (map at xs) ((n + 1 + length xs - 1) ∷ [])) → Contains (map at (first ∷ xs)) ((n + length (first ∷ xs) - 1) ∷ [])
    last [] f = let e : n ≡ n + 1 - 1 = omega arith in subst (λ k. Contains ((n ∷ []) ∷ []) (k ∷ [])) e (contains-head (n ∷ []) [])
    last (x ∷ xs) f =
        let e : n + 1 + length (x ∷ xs) - 1 ≡ n + length (first ∷ x ∷ xs) - 1 = omega arith in
        contains-tail (n ∷ []) (map at (x ∷ xs)) _ (subst (λ k. Contains (map at (x ∷ xs)) (k ∷ [])) e (f (omega arith)))

    by : (b : Bool) → nat_le n greatest_number ≡ b → HaveNumbers (n + 1) (n + 1 + length rest) rest
        → HaveNumbers n (n + length (cond b (first ∷ rest) [])) (cond b (first ∷ rest) [])
    by true k h = record {
      each = (
        record { number = n; at = refl; from = omega arith; below = omega arith; few = few n k },
        more-numbers (n + 1) (n + 1 + length rest) (n + length (first ∷ rest)) (omega arith) (omega arith) n (omega arith) rest h.each,
      );
      last = λ l. last rest h.last;
    }
      where
        few : (m : ℕ) → nat_le m greatest_number ≡ true → m ≤ greatest_number
        few m e = grind (arith, nat_tests)
    by false k h = record { each = tt; last = λ l. absurd (omega arith) }

-- what a sequence sent has the first numbers, as many as it is
pub sequence-numbers : (vs : List Event) → HaveNumbers 0 (length (sequence_sent vs)) (sequence_sent vs)
sequence-numbers [] = record { each = tt; last = λ l. absurd (omega arith) }
sequence-numbers (Inject s x ∷ vs) = sequence-numbers vs
sequence-numbers (Deliver e m ∷ vs) = sequence-numbers vs
sequence-numbers (Notify p t ∷ vs) =
    joined (numbered_messages (length (sequence_sent vs)) t (recs_by_count vs t)) (sequence_sent vs)
    (numbered-from (length (sequence_sent vs)) t (recs_by_count vs t)) (sequence-numbers vs)
  where
    at : Message → Stamp
    at m = m.at

    joined : (now before : List Message) → HaveNumbers (length before) (length before + length now) now → HaveNumbers 0 (length before) before → HaveNumbers 0 (length (now ++ before)) (now ++ before)
    joined now before a b =
        let e : length before + length now ≡ length (now ++ before) = omega (arith, length-append now before) in
        record {
          each = each-append (IsNumber 0 (length (now ++ before))) now before
              (more-numbers (length before) (length before + length now) (length (now ++ before)) (omega arith) (omega (arith, e)) 0 (omega arith) now a.each)
              (more-numbers 0 (length before) (length (now ++ before)) (omega arith) (omega (arith, e)) 0 (omega arith) before b.each);
          last = last now before e a.last b.last;
        }
      where
        last : (now before : List Message) → length before + length now ≡ length (now ++ before)
            → (length before < length before + length now → Contains (map at now) ((length before + length now - 1) ∷ []))
            → (0 < length before → Contains (map at before) ((length before - 1) ∷ [])) → 0 < length (now ++ before)
            → Contains (map at (now ++ before)) ((length (now ++ before) - 1) ∷ [])
        last [] before e f g l = g l
        last (x ∷ now) before e f g l =
            subst (λ ss. Contains ss ((length ((x ∷ now) ++ before) - 1) ∷ [])) (sym (map-append at (x ∷ now) before))
            (subst (λ k. Contains (map at (x ∷ now) ++ map at before) ((k - 1) ∷ [])) e (Contains-append_left (map at (x ∷ now)) (map at before) _ (f (omega arith))))

-- the last number stands for all of them, thinned inside a set that has each number
pub numbers-thinned : (base : Frontier) → ((x : ℕ) → x ≤ greatest_number → base (x ∷ []) ≡ true) → (n : ℕ) (ms : List Message) → HaveNumbers 0 n ms
    → IsThinned base (map (λ (s : Message). s.at) ms) (last_number n)
numbers-thinned base all zero [] h = record { among = tt; outside = tt; inside = tt }
numbers-thinned base all zero (m ∷ ms) h = let z = h.each.0.below in absurd (omega arith)
numbers-thinned base all (suc n) ms h = record {
  among = (there, tt);
  outside = each-map (λ t. base t ≡ false → Contains ((n ∷ []) ∷ []) t) (λ (s : Message). s.at) ms
      (each-weaker (IsNumber 0 (suc n)) (λ (s : Message). base s.at ≡ false → Contains ((n ∷ []) ∷ []) s.at) ms
      (λ s i o. let k = sym o ∙ (ap base i.at ∙ all i.number i.few) in absurd (cc)) h.each);
  inside = each-map (λ t. base t ≡ true → IsBelowKept base ((n ∷ []) ∷ []) t) (λ (s : Message). s.at) ms
      (each-weaker (IsNumber 0 (suc n)) (λ (s : Message). base s.at ≡ true → IsBelowKept base ((n ∷ []) ∷ []) s.at) ms
      (λ s i o. record {
        above = n ∷ [];
        is_kept = contains-head (n ∷ []) [];
        inside = all n last;
        below = ap (λ t. leq t (n ∷ [])) i.at ∙ and_from (nat_le i.number n) true (under i.number n i.below) refl;
      }) h.each);
}
  where
    there : Contains (map (λ (s : Message). s.at) ms) (n ∷ [])
    there = let e : suc n - 1 ≡ n = omega arith in subst (λ k. Contains (map (λ (s : Message). s.at) ms) (k ∷ [])) e (h.last (omega arith))

    last : n ≤ greatest_number
    last = (each-contained (λ t. (x : ℕ) → t ≡ x ∷ [] → x ≤ greatest_number) (n ∷ []) (map (λ (s : Message). s.at) ms) there
        (each-map (λ t. (x : ℕ) → t ≡ x ∷ [] → x ≤ greatest_number) (λ (s : Message). s.at) ms
        (each-weaker (IsNumber 0 (suc n)) (λ (s : Message). (x : ℕ) → s.at ≡ x ∷ [] → x ≤ greatest_number) ms
        (λ s i x e. let k : i.number ∷ [] ≡ x ∷ [] = sym i.at ∙ e in let j : i.number ≡ x = ap head k in subst (λ y. y ≤ greatest_number) j i.few) h.each))) n refl
      where
        head : Stamp → ℕ
        head [] = 0
        head (x ∷ t) = x

    under : (x y : ℕ) → x < suc y → nat_le x y ≡ true
    under x y l = grind (arith, nat_tests)
