-- What inputs and sequences send, one step on.
use Rattle.std.proofs.Common.{◌≡◌, ℕ, ◌+◌, ◌^◌, ◌<◌, ◌≤◌, nat_le, true, false, List, [], ◌∷◌, ◌++◌, length, map, get_or, drop, refl, sym, ap, ◌∙◌, append_assoc, arith}
use Rattle.std.proofs.lemmas.Bool.{cond-true, cond-false}
use Rattle.std.proofs.lemmas.Bool.Decides.{nat_tests}
use Rattle.std.proofs.lemmas.List.{append-nil, at_drop_more}
use Rattle.fw_bag.specs.Bag.{BagState}
use Rattle.fw_flow.specs.Dataflow.{greatest_number}
use Rattle.fw_flow.specs.WholeBags.{Timed, numbered_recs, timed_recs, timed_batches}

below : (n : ℕ) → n < 2 ^ 32 → nat_le n greatest_number ≡ true
below n l = grind (arith, nat_tests)

above : (n : ℕ) → 2 ^ 32 ≤ n → nat_le n greatest_number ≡ false
above n l = grind (arith, nat_tests)

numbered-none : (n : ℕ) (rs : List Timed) → 2 ^ 32 ≤ n → numbered_recs n rs ≡ []
numbered-none n [] l = refl
numbered-none n (r ∷ rs) l = cond-false (nat_le n greatest_number) _ _ (above n l)

pub numbered_more : (n : ℕ) (rs later : List Timed) (r : Timed) (ms all : List Timed) → rs ≡ r ∷ later → n < 2 ^ 32
    → ms ++ numbered_recs n rs ≡ all → (ms ++ record { at = n ∷ []; rec = r.rec } ∷ []) ++ numbered_recs (n + 1) later ≡ all
numbered_more n rs later r ms all e l h =
    append_assoc ms (record { at = n ∷ []; rec = r.rec } ∷ []) (numbered_recs (n + 1) later)
    ∙ sym (ap (λ xs. ms ++ xs) (ap (numbered_recs n) e ∙ cond-true (nat_le n greatest_number) _ _ (below n l))) ∙ h

pub numbered_past : (n : ℕ) (rs : List Timed) (ms all : List Timed) → 2 ^ 32 ≤ n → ms ++ numbered_recs n rs ≡ all → ms ≡ all
numbered_past n rs ms all l h = sym (append-nil ms) ∙ sym (ap (λ xs. ms ++ xs) (numbered-none n rs l)) ∙ h

pub batches_more : (bags : List BagState) (x : ℕ) (d : BagState) (more ms all : List Timed) → x < length bags
    → more ≡ timed_recs (x ∷ []) (get_or bags x d).recs
    → ms ++ timed_batches x (map (λ (b : BagState). b.recs) (drop x bags)) ≡ all
    → (ms ++ more) ++ timed_batches (x + 1) (map (λ (b : BagState). b.recs) (drop (x + 1) bags)) ≡ all
batches_more bags x d more ms all l e h =
    let rest = timed_batches (x + 1) (map (λ (b : BagState). b.recs) (drop (x + 1) bags)) in
    append_assoc ms more rest ∙ ap (λ zs. ms ++ (zs ++ rest)) e
    ∙ sym (ap (λ zs. ms ++ zs) (at_drop_more (λ bs. timed_batches x (map (λ (b : BagState). b.recs) bs)) bags x d l)) ∙ h
