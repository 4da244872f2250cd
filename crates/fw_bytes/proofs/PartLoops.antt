-- Reading parts one after the other, as a loop does.
use Rattle.std.proofs.Common.{◌≡◌, ℕ, suc, ◌-◌, ◌+◌, ◌≤◌, ◌<◌, List, [], ◌∷◌, ◌++◌, Ok, Err, refl, sym, ◌∙◌, arith}
use Rattle.fw_bytes.specs.declared.fault.ReadFault.{ReadFault}
use Rattle.fw_bytes.specs.declared.fault.ReadFault.TheVariants as fault
use Rattle.fw_bytes.specs.Reading.{Reading, IsBrokenAt, many_of}

pub goes_on : {A : Type 0} (part : List A → List ℕ → Reading A) (count i : ℕ) (before : List A) (bytes : List ℕ) (x : A) (after : List ℕ) (total : Reading (List A)) → i < count
    → part before bytes ≡ Ok (x, after)
    → many_of part (count - i) before bytes ≡ total → many_of part (count - (i + 1)) (before ++ x ∷ []) after ≡ total
unfolding many_of
goes_on part count i before bytes x after total lt h so_far =
    let k : count - i ≡ suc (count - (i + 1)) = omega arith in
    let one : many_of part (count - i) before bytes ≡ many_of part (count - (i + 1)) (before ++ x ∷ []) after = rw (k, h) refl in
    sym one ∙ so_far

pub ends : {A : Type 0} (part : List A → List ℕ → Reading A) (e : ReadFault) (count i : ℕ) (before : List A) (bytes : List ℕ) (total : Reading (List A)) → i < count
    → IsBrokenAt e (part before bytes)
    → many_of part (count - i) before bytes ≡ total → IsBrokenAt e total
unfolding many_of
ends part fault.NoMemory count i before bytes total lt h so_far = tt
ends part (fault.Broken left) count i before bytes total lt h so_far =
    let k : count - i ≡ suc (count - (i + 1)) = omega arith in
    let one : many_of part (count - i) before bytes ≡ Err left = rw (k, h) refl in
    sym so_far ∙ one

pub is_done : {A : Type 0} (part : List A → List ℕ → Reading A) (count i : ℕ) (before : List A) (bytes : List ℕ) (total : Reading (List A)) → count ≤ i
    → many_of part (count - i) before bytes ≡ total → total ≡ Ok (before, bytes)
unfolding many_of
is_done part count i before bytes total le so_far =
    let k : count - i ≡ 0 = omega arith in
    let one : many_of part (count - i) before bytes ≡ Ok (before, bytes) = rw k refl in
    sym so_far ∙ one
