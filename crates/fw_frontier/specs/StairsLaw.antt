-- The stairs of a loop are a frontier.
use Rattle.std.proofs.Common.{◌≡◌, ℕ, ◌≤◌, Bool, true, List, length, sym, ◌∙◌, slice_index_or}
use Rattle.std.proofs.lemmas.Bool.{and_parts, leb-true}
use Rattle.fw_time.specs.Stamp.{leq, nest}
use Rattle.fw_time.proofs.StampLaws.{leq-nest}
use Rattle.fw_frontier.specs.Stairs.{IsDescending}

-- with a time each lesser one is inside
pub stairs-closed : {F T : Type 0} (coords : T → List ℕ) (inside : F → T → Bool) (dimension : ℕ)
    → ((t : T) → length (coords t) ≡ dimension)
    → ((f : F) (s t : T) → leq (coords s) (coords t) ≡ true → inside f t ≡ true → inside f s ≡ true)
    → (steps : List F) (last : F) → IsDescending inside steps last
    → (s t : T) (c d : ℕ) → leq (nest (coords s) c) (nest (coords t) d) ≡ true
    → inside (slice_index_or steps d last) t ≡ true → inside (slice_index_or steps c last) s ≡ true
stairs-closed coords inside dimension long closed steps last down s t c d h k =
    let e = sym (leq-nest (coords s) (coords t) c d (long s ∙ sym (long t))) ∙ h in
    let below : c ≤ d = leb-true c d (and_parts _ _ e).1 in
    down c d s below (closed (slice_index_or steps d last) s t (and_parts _ _ e).0 k)
