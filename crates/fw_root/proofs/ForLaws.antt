-- Parts that are read one for each of some things: as a loop reads them, and as they are spelled.
use Rattle.std.proofs.Common.{◌≡◌, ℕ, ◌+◌, ◌<◌, ◌≤◌, List, [], ◌∷◌, ◌++◌, length, get_or, drop, Ok, sym, ap, ◌∙◌, append_assoc}
use Rattle.std.proofs.lemmas.List.{append-nil, drop_more, drop_all}
use Rattle.std.proofs.lemmas.List.Concat.{flat_map-cons}
use Rattle.std.specs.List.{flat_map, AllZip}
use Rattle.fw_bytes.specs.declared.fault.ReadFault.{ReadFault}
use Rattle.fw_bytes.specs.declared.fault.ReadFault.TheVariants as fault
use Rattle.fw_bytes.specs.Reading.{Reading, ◌>>=◌, IsBrokenAt}
use Rattle.fw_bytes.specs.Exact.{AreBytes, AreSplit, IsExactReading}
use Rattle.fw_bytes.proofs.PlaceLaws.{ReadsInside, inside_then}
use Rattle.fw_bytes.proofs.FieldLaws.{AreSplit-then}
use Rattle.fw_bytes.proofs.PartLaws.{bind_ok, ok_is}
use Rattle.fw_root.specs.Reading.{many_for}

-- ---- as a loop does

one-read : {K A : Type 0} (part : K → List ℕ → Reading A) (ks : List K) (i : ℕ) (k : K) (before : List A) (bytes : List ℕ) → i < length ks → k ≡ get_or ks i k
    → many_for part (drop i ks) before bytes ≡ (part k bytes >>= λ x. many_for part (drop (i + 1) ks) (before ++ x.0 ∷ []) x.1)
unfolding many_for
one-read part ks i k before bytes l at =
    rw (drop_more ks i k l) (ap (λ j. part j bytes >>= λ x. many_for part (drop (i + 1) ks) (before ++ x.0 ∷ []) x.1) (sym at))

pub for_goes_on : {K A : Type 0} (part : K → List ℕ → Reading A) (ks : List K) (i : ℕ) (k : K) (before : List A) (bytes : List ℕ) (x : A) (after : List ℕ) (total : Reading (List A))
    → i < length ks → k ≡ get_or ks i k → part k bytes ≡ Ok (x, after)
    → many_for part (drop i ks) before bytes ≡ total → many_for part (drop (i + 1) ks) (before ++ x ∷ []) after ≡ total
for_goes_on part ks i k before bytes x after total l at h so_far =
    sym (one-read part ks i k before bytes l at ∙ ap (λ r. r >>= λ y. many_for part (drop (i + 1) ks) (before ++ y.0 ∷ []) y.1) h) ∙ so_far

pub for_ends : {K A : Type 0} (part : K → List ℕ → Reading A) (e : ReadFault) (ks : List K) (i : ℕ) (k : K) (before : List A) (bytes : List ℕ) (total : Reading (List A))
    → i < length ks → k ≡ get_or ks i k → IsBrokenAt e (part k bytes)
    → many_for part (drop i ks) before bytes ≡ total → IsBrokenAt e total
for_ends part fault.NoMemory ks i k before bytes total l at h so_far = tt
for_ends part (fault.Broken left) ks i k before bytes total l at h so_far =
    sym so_far ∙ one-read part ks i k before bytes l at ∙ ap (λ r. r >>= λ y. many_for part (drop (i + 1) ks) (before ++ y.0 ∷ []) y.1) h

pub for_is_done : {K A : Type 0} (part : K → List ℕ → Reading A) (ks : List K) (i : ℕ) (before : List A) (bytes : List ℕ) (total : Reading (List A))
    → length ks ≤ i → many_for part (drop i ks) before bytes ≡ total → total ≡ Ok (before, bytes)
unfolding many_for
for_is_done part ks i before bytes total le so_far =
    sym so_far ∙ ap (λ ys. many_for part ys before bytes) (drop_all i ks le)

-- ---- as they are spelled

-- each part is read as it is spelled, whatever it is for
abbrev pub IsExactFor : {K A : Type 0} → (K → List ℕ → Reading A) → (A → List ℕ) → (K → A → Type 0) → Type 0
IsExactFor {K} part text Fits = (k : K) → IsExactReading (part k) text (Fits k)

for_takes : {K A : Type 0} (part : K → List ℕ → Reading A) (text : A → List ℕ) (Fits : K → A → Type 0) (form : IsExactFor part text Fits) (ks : List K) (before : List A) (bytes : List ℕ) (x : List A × List ℕ)
    → AreBytes bytes → many_for part ks before bytes ≡ Ok x
    → (more : List A) × (x.0 ≡ before ++ more) × AreSplit bytes (flat_map text more) x.1 × AllZip Fits ks more
unfolding many_for
for_takes part text Fits form [] before bytes x fits e =
    let same = ok_is (before, bytes) x e in
    let a : before ≡ x.0 = ap (λ (p : List _ × List ℕ). p.0) same in
    let b : bytes ≡ x.1 = ap (λ (p : List _ × List ℕ). p.1) same in
    ([], sym a ∙ sym (append-nil before), record { parts = b; rest_fits = rw (← b) fits }, tt)
for_takes part text Fits form (k ∷ ks) before bytes x fits e =
    let c = bind_ok (part k bytes) (λ c. many_for part ks (before ++ c.0 ∷ []) c.1) x e in
    let t = (form k).takes bytes c.0 fits c.1 in
    let r = for_takes part text Fits form ks (before ++ c.0.0 ∷ []) c.0.1 x t.0.rest_fits c.2 in
    let both = AreSplit-then bytes (text c.0.0) c.0.1 (flat_map text r.0) x.1 t.0 r.2 in
    (c.0.0 ∷ r.0, r.1 ∙ append_assoc before (c.0.0 ∷ []) r.0, rw flat_map-cons both, (t.1, r.3))

for_again : {K A : Type 0} (part : K → List ℕ → Reading A) (text : A → List ℕ) (Fits : K → A → Type 0) (form : IsExactFor part text Fits) (ks : List K) (xs before : List A) (rest : List ℕ)
    → AllZip Fits ks xs → many_for part ks before (flat_map text xs ++ rest) ≡ Ok (before ++ xs, rest)
unfolding many_for
for_again part text Fits form [] [] before rest fits = ap (λ (p : List _). Ok (p, rest)) (sym (append-nil before))
for_again part text Fits form [] (x ∷ xs) before rest fits = absurd fits
for_again part text Fits form (k ∷ ks) [] before rest fits = absurd fits
for_again part text Fits form (k ∷ ks) (x ∷ xs) before rest fits =
    let regrouped : flat_map text (x ∷ xs) ++ rest ≡ text x ++ (flat_map text xs ++ rest) = ap (λ (t : List ℕ). t ++ rest) (flat_map-cons text x xs) ∙ append_assoc (text x) (flat_map text xs) rest in
    let first : many_for part (k ∷ ks) before (text x ++ (flat_map text xs ++ rest)) ≡ many_for part ks (before ++ x ∷ []) (flat_map text xs ++ rest) =
    ap (λ r. r >>= λ y. many_for part ks (before ++ y.0 ∷ []) y.1) ((form k).again x (flat_map text xs ++ rest) fits.0) in
    ap (many_for part (k ∷ ks) before) regrouped ∙ first ∙ for_again part text Fits form ks xs (before ++ x ∷ []) rest fits.1 ∙ ap (λ (p : List _). Ok (p, rest)) (append_assoc before (x ∷ []) xs)

for_inside : {K A : Type 0} (part : K → List ℕ → Reading A) (text : A → List ℕ) (Fits : K → A → Type 0) (form : IsExactFor part text Fits) (ks : List K) (before : List A) → ReadsInside (many_for part ks before)
unfolding many_for
for_inside part text Fits form [] before n bytes le = le
for_inside part text Fits form (k ∷ ks) before n bytes le =
    inside_then n (part k bytes) (λ x. many_for part ks (before ++ x.0 ∷ []) x.1) ((form k).inside n bytes le) (λ x le'. for_inside part text Fits form ks (before ++ x.0 ∷ []) n x.1 le')

pub for_whole : {K A : Type 0} (part : K → List ℕ → Reading A) (text : A → List ℕ) (Fits : K → A → Type 0) (form : IsExactFor part text Fits) (ks : List K)
    → IsExactReading (λ bytes. many_for part ks [] bytes) (flat_map text) (AllZip Fits ks)
for_whole part text Fits form ks = record {
  takes = λ bytes x fits e.
      let r = for_takes part text Fits form ks [] bytes x fits e in
      rw r.1 (r.2, r.3);
  again = λ xs rest fits. for_again part text Fits form ks xs [] rest fits;
  inside = λ most bytes le. for_inside part text Fits form ks [] most bytes le;
}
