-- What writes make of records.
use Rattle.std.proofs.Common.{◌≡◌, ℕ, Bool, true, false, cond, List, [], ◌∷◌, ◌++◌, Option, Some, None, option_map, refl, sym, ap, ◌∙◌, nat_cmp}
use Rattle.std.specs.Ordering.{eq_by_cmp}
use Rattle.std.specs.Cmp.{nat_cmp_total}
use Rattle.std.specs.FinMap.{FinMap, get, get-insert, get-remove}
use Rattle.fw_writing.specs.declared.record_write.RecordWrite.{RecordWrite}
use Rattle.fw_writing.specs.Writes.{AreDone, after_write, after_writes, told_as}

abbrev Held : Type 0
Held = FinMap nat_cmp (List ℕ)

-- what is under an id behind a write
get-after : (held : Held) (id : ℕ) (bytes : Option (List ℕ)) (q : ℕ)
    → get (after_write held id bytes) q ≡ cond (eq_by_cmp nat_cmp q id) bytes (get held q)
get-after held id None q = get-remove nat_cmp_total held id q
get-after held id (Some bytes) q = get-insert nat_cmp_total held id bytes q

-- where there is the same under an id, so it is behind the same writes
same-at : (writes : List (ℕ × Option (List ℕ))) (q : ℕ) (one other : Held) → get one q ≡ get other q
    → get (after_writes one writes) q ≡ get (after_writes other writes) q
same-at [] q one other same = same
same-at (write ∷ writes) q one other same =
    same-at writes q (after_write one write.0 write.1) (after_write other write.0 write.1)
    (get-after one write.0 write.1 q ∙ ap (cond (eq_by_cmp nat_cmp q write.0) write.1) same ∙ sym (get-after other write.0 write.1 q))

-- one write more is done behind the others
then-one : (writes : List (ℕ × Option (List ℕ))) (held : Held) (write : ℕ × Option (List ℕ))
    → after_writes held (writes ++ write ∷ []) ≡ after_write (after_writes held writes) write.0 write.1
then-one [] held write = refl
then-one (first ∷ writes) held write = then-one writes (after_write held first.0 first.1) write

same-cond : (b : Bool) (x y z : Option (List ℕ)) → (b ≡ false → y ≡ z) → cond b x y ≡ cond b x z
same-cond true x y z same = refl
same-cond false x y z same = same refl

-- where writes were done to records, so they were with one more, behind it
done-one : (held : Held) (writes : List (ℕ × Option (List ℕ))) (id : ℕ) (bytes : Option (List ℕ)) → AreDone held writes
    → AreDone (after_write held id bytes) (writes ++ (id, bytes) ∷ [])
done-one held writes id bytes done q =
    let next = after_write held id bytes in
    ap (λ m. get m q) (then-one writes next (id, bytes)) ∙ get-after (after_writes next writes) id bytes q
    ∙ same-cond (eq_by_cmp nat_cmp q id) bytes (get (after_writes next writes) q) (get held q) (λ other.
    same-at writes q next held (get-after held id bytes q ∙ ap (λ b. cond b bytes (get held q)) other) ∙ done q)
    ∙ sym (get-after held id bytes q)

-- the same, where the records and what is noted are so
pub done-write : (held new : Held) (notes after : List (ℕ × Option (List ℕ))) (id : ℕ) (bytes : Option (List ℕ))
    → new ≡ after_write held id bytes → after ≡ notes ++ (id, bytes) ∷ [] → AreDone held notes → AreDone new after
done-write held new notes after id bytes is noted done q =
    ap (λ w. get (after_writes new w) q) noted ∙ ap (λ m. get (after_writes m (notes ++ (id, bytes) ∷ [])) q) is
    ∙ done-one held notes id bytes done q ∙ sym (ap (λ m. get m q) is)

-- one write more is noted behind the others
pub told-one : (writes : List RecordWrite) (write : RecordWrite)
    → told_as (writes ++ write ∷ []) ≡ told_as writes ++ (write.id, option_map (λ bytes. bytes.items) write.bytes) ∷ []
told-one [] write = refl
told-one (first ∷ writes) write = ap (λ more. (first.id, option_map (λ bytes. bytes.items) first.bytes) ∷ more) (told-one writes write)
