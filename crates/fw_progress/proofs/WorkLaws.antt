-- The nodes that wait.
use Rattle.std.proofs.Common.{◌≡◌, ℕ, ◌+◌, ◌<◌, Bool, true, false, ◌||◌, ◌==◌, List, [], ◌∷◌, ◌++◌, length, get_or, take, refl, sym, ap, subst, ◌∙◌, arith}
use Rattle.std.specs.List.{AllByRecursion, list_all}
use Rattle.std.specs.BTreeSet.{insert_key}
use Rattle.std.specs.Ordering.{nat_cmp, match_ordering}
use Rattle.std.specs.declared.cmp.Ordering.{Ordering}
use Rattle.std.specs.declared.cmp.Ordering.TheVariants.{Less, Equal, Greater}
use Rattle.std.proofs.lemmas.Bool.{and_parts, and_from, eq-eqb, or_left, or_right}
use Rattle.std.proofs.lemmas.List.{take_more, length-append}
use Rattle.fw_lemmas.proofs.Each.{each-weaker, each-append}
use Rattle.fw_flow.specs.Dataflow.{Dataflow, receiver}
use Rattle.fw_progress.specs.Counts.{is_in}
use Rattle.fw_progress.specs.Growths.{IsEnlisted, ArePut}
use Rattle.fw_progress.proofs.TargetLaws.{all-append}

nat_cmp-equal : (m n : ℕ) → nat_cmp m n ≡ Equal → n ≡ m
nat_cmp-equal m n e = grind (arith)

put-more : (k x : ℕ) (xs : List ℕ) → IsEnlisted k xs (insert_key nat_cmp xs k) → (o : Ordering) → nat_cmp k x ≡ o
    → IsEnlisted k (x ∷ xs) (match_ordering o (k ∷ x ∷ xs) (x ∷ xs) (x ∷ insert_key nat_cmp xs k))
put-more k x xs p Less e = record {
  there = or_left (k == k) (is_in (x ∷ xs) k) (eq-eqb k k refl);
  stays = λ q j. or_right (k == q) (is_in (x ∷ xs) q) j;
  nodes = λ P i j. and_from (P k) (list_all P (x ∷ xs)) i j;
  few = omega arith;
  none_out = omega arith;
}
put-more k x xs p Equal e = record {
  there = or_left (x == k) (is_in xs k) (eq-eqb x k (nat_cmp-equal k x e));
  stays = λ q j. j;
  nodes = λ P i j. j;
  few = omega arith;
  none_out = omega arith;
}
put-more k x xs p Greater e =
    let few = p.few in
    let none_out = p.none_out in
    record {
      there = or_right (x == k) (is_in (insert_key nat_cmp xs k) k) p.there;
      stays = λ q j. rest q (x == q) j;
      nodes = λ P i j. let both = and_parts (P x) (list_all P xs) j in and_from (P x) (list_all P (insert_key nat_cmp xs k)) both.0 (p.nodes P i both.1);
      few = omega arith;
      none_out = omega arith;
    }
  where
    rest : (q : ℕ) (b : Bool) → (b || is_in xs q) ≡ true → (b || is_in (insert_key nat_cmp xs k) q) ≡ true
    rest q true j = refl
    rest q false j = p.stays q j

-- a node that is put among others in order
pub put-key : (k : ℕ) (xs : List ℕ) → IsEnlisted k xs (insert_key nat_cmp xs k)
put-key k [] = record { there = or_left (k == k) false (eq-eqb k k refl); stays = λ q j. or_right (k == q) false j; nodes = λ P i j. and_from (P k) true i refl; few = omega arith; none_out = omega arith }
put-key k (x ∷ xs) = put-more k x xs (put-key k xs) (nat_cmp k x) refl

pub put_none : (flow : Dataflow) (work : List ℕ) → ArePut flow [] work work
put_none flow work = record { there = tt; stays = λ q k. k; nodes = λ P e k. k; few = omega arith; none_out = omega arith }

pub put_one : (flow : Dataflow) (edges : List ℕ) (i e node : ℕ) (old mid new : List ℕ) → i < length edges → e ≡ get_or edges i e → node ≡ receiver flow e
    → ArePut flow (take i edges) old mid → IsEnlisted node mid new → ArePut flow (take (i + 1) edges) old new
put_one flow edges i e node old mid new l is at before put =
    let some : take (i + 1) edges ≡ take i edges ++ e ∷ [] = take_more edges i e l ∙ ap (λ d. take i edges ++ d ∷ []) (sym is) in
    let test : ℕ → Type 0 = λ d. is_in new (receiver flow d) ≡ true in
    let long : length (take (i + 1) edges) ≡ length (take i edges) + 1 = ap length some ∙ length-append (take i edges) (e ∷ []) in
    let a = before.few in
    let b = put.few in
    let c = before.none_out in
    let d = put.none_out in
    record {
      there = subst (AllByRecursion test) (sym some) (each-append test (take i edges) (e ∷ [])
          (each-weaker (λ d. is_in mid (receiver flow d) ≡ true) test (take i edges) (λ d k. put.stays (receiver flow d) k) before.there)
          (ap (is_in new) (sym at) ∙ put.there, tt));
      stays = λ q k. put.stays q (before.stays q k);
      nodes = λ P k j.
          let both = and_parts (list_all (λ d. P (receiver flow d)) (take i edges)) (P (receiver flow e)) (sym (all-append (λ d. P (receiver flow d)) (take i edges) e) ∙ sym (ap (list_all (λ d. P (receiver flow d))) some) ∙ k) in
          put.nodes P (ap P at ∙ both.1) (before.nodes P both.0 j);
      few = omega arith;
      none_out = omega arith;
    }
