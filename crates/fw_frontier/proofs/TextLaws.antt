-- How the text of a frontier grows by one stamp.
use Rattle.std.proofs.Common.{◌≡◌, ℕ, ◌+◌, ◌<◌, List, [], ◌∷◌, ◌++◌, length, get_or, take, refl, sym, ap, ◌∙◌, zero, suc, arith, add-one, append_assoc}
use Rattle.std.specs.Prelude.{codes}
use Rattle.std.proofs.lemmas.List.{append-nil, take_all}
use Rattle.fw_time.specs.StampText.{stamp_text}
use Rattle.fw_frontier.specs.FrontText.{spaces_text, front_text}

-- one more stamp printed after its space
pub spaced_more : (os : List (List ℕ)) (i : ℕ) (o : List ℕ) → i < length os → o ≡ get_or os i o → spaces_text (take i os) ++ (32 ∷ stamp_text o) ≡ spaces_text (take (i + 1) os)
spaced_more os i o h e =
    ap (λ u. spaces_text (take i os) ++ (32 ∷ stamp_text u)) e ∙ sym (rw add-one (by os i h o))
  where
    by : (os : List (List ℕ)) (i : ℕ) → i < length os → (d : List ℕ) → spaces_text (take (suc i) os) ≡ spaces_text (take i os) ++ (32 ∷ stamp_text (get_or os i d))
    by [] i h d = absurd (omega arith)
    by (x ∷ os) zero h d = append-nil (32 ∷ stamp_text x)
    by (x ∷ os) (suc i) h d = ap (λ s. (32 ∷ stamp_text x) ++ s) (by os i (omega arith) d) ∙ sym (append_assoc (32 ∷ stamp_text x) (spaces_text (take i os)) (32 ∷ stamp_text (get_or os i d)))

-- all stamps printed, where there are some
pub front_text-until : (os all : List (List ℕ)) (i : ℕ) → all ≡ os → length all ≡ i → 0 < length os → codes "until" ++ spaces_text (take i all) ≡ front_text os
front_text-until os all i e h k = ap (λ u. codes "until" ++ spaces_text u) (take_all i all (omega arith) ∙ e) ∙ by os k
  where
    by : (os : List (List ℕ)) → 0 < length os → codes "until" ++ spaces_text os ≡ front_text os
    by [] k = absurd (omega arith)
    by (o ∷ os) k = refl
