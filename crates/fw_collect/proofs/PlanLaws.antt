-- What the loops of a plan find.
use Rattle.std.proofs.Common.{◌≡◌, ℕ, ◌+◌, Bool, true, false, cond, List, [], ◌∷◌, ◌++◌, map, refl, sym, ap, ◌∙◌, slice_index_or}
use Rattle.std.proofs.lemmas.List.{append-nil}
use Rattle.std.proofs.Math.ListN.{get_or-map}
use Rattle.std.specs.List.{filter, flat_map, range_with_len}
use Rattle.fw_lemmas.proofs.Lists.{joined_more}
use Rattle.fw_flow.specs.declared.choice.Cut.{Cut}
use Rattle.fw_flow.specs.declared.choice.Cut.TheVariants.{Present}
use Rattle.fw_model.specs.Machine.{front_of}
use Rattle.fw_model.specs.Steps.{front_of_cut}

-- ---- places that pass a test

picked-joined : {X : Type 0} (test : ℕ → Bool) (f : ℕ → X) (ps : List ℕ) → map f (filter test ps) ≡ flat_map (λ p. cond (test p) (f p ∷ []) []) ps
picked-joined {X = X} test f [] = refl
picked-joined {X = X} test f (p ∷ ps) =
    let each : ℕ → List X = λ q. cond (test q) (f q ∷ []) [] in
    elim (test p) as (λ b. map f (cond b (p ∷ filter test ps) (filter test ps)) ≡ cond b (f p ∷ []) [] ++ flat_map each ps) [
      | true ↦ ap (λ xs. f p ∷ xs) (picked-joined test f ps)
      | false ↦ picked-joined test f ps
    ]

-- those below one number more that pass
picked-more : {X : Type 0} (test : ℕ → Bool) (f : ℕ → X) (n : ℕ)
    → map f (filter test (range_with_len 0 (n + 1))) ≡ map f (filter test (range_with_len 0 n)) ++ cond (test n) (f n ∷ []) []
picked-more {X = X} test f n =
    let each : ℕ → List X = λ q. cond (test q) (f q ∷ []) [] in
    picked-joined test f (range_with_len 0 (n + 1)) ∙ joined_more each n
    ∙ ap (λ xs. xs ++ each n) (sym (picked-joined test f (range_with_len 0 n)))

pub picked_one : {X : Type 0} (test : ℕ → Bool) (f : ℕ → X) (n : ℕ) → test n ≡ true
    → map f (filter test (range_with_len 0 (n + 1))) ≡ map f (filter test (range_with_len 0 n)) ++ f n ∷ []
picked_one test f n t = picked-more test f n ∙ ap (λ b. map f (filter test (range_with_len 0 n)) ++ cond b (f n ∷ []) []) t

pub picked_none : {X : Type 0} (test : ℕ → Bool) (f : ℕ → X) (n : ℕ) → test n ≡ false
    → map f (filter test (range_with_len 0 (n + 1))) ≡ map f (filter test (range_with_len 0 n))
picked_none test f n t =
    picked-more test f n ∙ ap (λ b. map f (filter test (range_with_len 0 n)) ++ cond b (f n ∷ []) []) t
    ∙ append-nil (map f (filter test (range_with_len 0 n)))

-- ---- fronts of cuts

pub front_there : (cuts : List Cut) (p : ℕ) → front_of (map front_of_cut cuts) p ≡ front_of_cut (slice_index_or cuts p Present)
front_there cuts p = get_or-map front_of_cut cuts p Present
