-- Nodes that play a role, one after the other, and numbers that stand for nodes.
use Rattle.std.proofs.Common.{◌≡◌, ℕ, ◌+◌, Bool, true, false, cond, [], ◌∷◌, ◌++◌, filter, ap, ◌∙◌, arith}
use Rattle.std.proofs.lemmas.List.{append-nil}
use Rattle.std.proofs.lemmas.List.Elements.{filter-append}
use Rattle.std.specs.List.{range_with_len}
use Rattle.fw_lemmas.proofs.Lists.{range_more}

picked-more : (test : ℕ → Bool) (n : ℕ) → filter test (range_with_len 0 (n + 1)) ≡ filter test (range_with_len 0 n) ++ cond (test n) (n ∷ []) []
picked-more test n =
    ap (filter test) (range_more 0 n)
    ∙ filter-append test (range_with_len 0 n) ((0 + n) ∷ [])
    ∙ ap (λ k. filter test (range_with_len 0 n) ++ cond (test k) (k ∷ []) []) (omega arith)

pub picked_one : (test : ℕ → Bool) (n : ℕ) → test n ≡ true → filter test (range_with_len 0 (n + 1)) ≡ filter test (range_with_len 0 n) ++ n ∷ []
picked_one test n t = picked-more test n ∙ ap (λ b. filter test (range_with_len 0 n) ++ cond b (n ∷ []) []) t

pub picked_none : (test : ℕ → Bool) (n : ℕ) → test n ≡ false → filter test (range_with_len 0 (n + 1)) ≡ filter test (range_with_len 0 n)
picked_none test n t = picked-more test n ∙ ap (λ b. filter test (range_with_len 0 n) ++ cond b (n ∷ []) []) t ∙ append-nil (filter test (range_with_len 0 n))

pub one_more : (n : ℕ) → range_with_len 0 (n + 1) ≡ range_with_len 0 n ++ n ∷ []
one_more n = range_more 0 n ∙ ap (λ k. range_with_len 0 n ++ k ∷ []) (omega arith)
