-- Readings of parts: what is read is spelled so, and what is spelled is read again.
use Rattle.std.proofs.Common.{◌≡◌, ℕ, zero, suc, ◌<◌, Bool, true, false, cond, List, [], ◌∷◌, ◌++◌, length, Some, None, Result, Ok, Err, refl, sym, ap, subst, ◌∙◌, append_assoc, arith, ◌⊎◌, inl, inr}
use Rattle.std.specs.List.{flat_map, AllByRecursion}
use Rattle.std.proofs.lemmas.Bool.{and_parts}
use Rattle.std.proofs.lemmas.List.{append-nil}
use Rattle.std.proofs.lemmas.List.Concat.{flat_map-cons}
use Rattle.std.specs.Prelude.{◌||◌}
use Rattle.fw_bytes.specs.Fields.{Field}
use Rattle.fw_bytes.specs.Sound.{each_may_follow, IsList}
use Rattle.fw_bytes.specs.Reading.{Reading, ◌>>=◌, kept_if, any, many_of}
use Rattle.fw_bytes.specs.Exact.{AreBytes, AreSplit, Leaves, IsExactField, IsExactPart, IsExactReading}
use Rattle.fw_bytes.proofs.PlaceLaws.{kept_inside, any_inside, counted_inside}
use Rattle.fw_bytes.proofs.FieldLaws.{AreSplit-then}

-- the value of a step that did not fail
pub bind_ok : {A B : Type 0} (r : Result A ℕ) (f : A → Result B ℕ) (y : B) → (r >>= f) ≡ Ok y → (x : A) × (r ≡ Ok x) × (f x ≡ Ok y)
bind_ok (Ok x) f y e = (x, refl, e)
bind_ok (Err d) f y e = absurd cc

abbrev pub ok : {A : Type 0} → A → Result A ℕ
ok x = Ok x

pub ok_is : {A : Type 0} (x y : A) → ok x ≡ ok y → x ≡ y
ok_is x y e = cc

pub guard_ok : {A : Type 0} (b : Bool) (x y : A) (d : ℕ) → cond b (Ok x) (Err d) ≡ ok y → (b ≡ true) × (x ≡ y)
guard_ok true x y d e = (refl, cc)
guard_ok false x y d e = absurd cc

-- a field that was kept
pub kept : {A : Type 0} (rule : A → Bool) (bytes : List ℕ) (f : Field A) (x : A × List ℕ) → kept_if rule bytes f ≡ Ok x → (f ≡ Some x) × (rule x.0 ≡ true)
kept rule bytes None x e = absurd cc
kept rule bytes (Some y) x e =
    let g = guard_ok (rule y.0) y x (length bytes) e in
    (ap (λ (z : _ × List ℕ). Some z) g.1, rw (← g.1) g.0)

pub any_is : {A : Type 0} (bytes : List ℕ) (f : Field A) (x : A × List ℕ) → any bytes f ≡ Ok x → f ≡ Some x
any_is bytes None x e = absurd cc
any_is bytes (Some y) x e = ap (λ (z : _ × List ℕ). Some z) (ok_is y x e)

-- a part that is one field
pub one_field : {A : Type 0} (read : List ℕ → Field A) (text : A → List ℕ) (Fits : A → Type 0) (rule : List A → A → Bool) → IsExactField read text Fits → IsExactPart (λ before bytes. kept_if (rule before) bytes (read bytes)) text Fits rule
one_field read text Fits rule form = record {
  takes = λ before bytes x fits e. let k = kept (rule before) bytes (read bytes) x e in let t = form.takes bytes x fits k.0 in (t.0, t.1, k.1);
  again = λ before a rest fits allowed. rw (form.again a rest fits, allowed) refl;
  inside = λ before most bytes le. kept_inside (rule before) most bytes (read bytes) le (form.inside most bytes le);
}

-- many parts
pub many_takes : {A : Type 0} (part : List A → List ℕ → Reading A) (text : A → List ℕ) (Fits : A → Type 0) (rule : List A → A → Bool) (form : IsExactPart part text Fits rule) (n : ℕ) (before : List A) (bytes : List ℕ) (x : List A × List ℕ)
    → AreBytes bytes → many_of part n before bytes ≡ Ok x
    → (more : List A) × (x.0 ≡ before ++ more) × (length more ≡ n) × AreSplit bytes (flat_map text more) x.1 × AllByRecursion Fits more × (each_may_follow rule before more ≡ true)
unfolding many_of
many_takes part text Fits rule form zero before bytes x fits e =
    let same = ok_is (before, bytes) x e in
    let a : before ≡ x.0 = ap (λ (p : List _ × List ℕ). p.0) same in
    let b : bytes ≡ x.1 = ap (λ (p : List _ × List ℕ). p.1) same in
    ([], sym a ∙ sym (append-nil before), refl, record { parts = b; rest_fits = rw (← b) fits }, tt, refl)
many_takes part text Fits rule form (suc n) before bytes x fits e =
    let c = bind_ok (part before bytes) (λ c. many_of part n (before ++ c.0 ∷ []) c.1) x e in
    let t = form.takes before bytes c.0 fits c.1 in
    let r = many_takes part text Fits rule form n (before ++ c.0.0 ∷ []) c.0.1 x t.0.rest_fits c.2 in
    let both = AreSplit-then bytes (text c.0.0) c.0.1 (flat_map text r.0) x.1 t.0 r.3 in
    (c.0.0 ∷ r.0, r.1 ∙ append_assoc before (c.0.0 ∷ []) r.0, ap suc r.2, rw flat_map-cons both, (t.1, r.4), rw t.2 r.5)

pub many_again : {A : Type 0} (part : List A → List ℕ → Reading A) (text : A → List ℕ) (Fits : A → Type 0) (rule : List A → A → Bool) (form : IsExactPart part text Fits rule) (xs before : List A) (rest : List ℕ)
    → AllByRecursion Fits xs → each_may_follow rule before xs ≡ true → many_of part (length xs) before (flat_map text xs ++ rest) ≡ Ok (before ++ xs, rest)
unfolding many_of
many_again part text Fits rule form [] before rest fits follow = ap (λ (p : List _). Ok (p, rest)) (sym (append-nil before))
many_again part text Fits rule form (x ∷ xs) before rest fits follow =
    let two = and_parts (rule before x) (each_may_follow rule (before ++ x ∷ []) xs) follow in
    let regrouped : flat_map text (x ∷ xs) ++ rest ≡ text x ++ (flat_map text xs ++ rest) = ap (λ (t : List ℕ). t ++ rest) (flat_map-cons text x xs) ∙ append_assoc (text x) (flat_map text xs) rest in
    let first : many_of part (suc (length xs)) before (text x ++ (flat_map text xs ++ rest)) ≡ many_of part (length xs) (before ++ x ∷ []) (flat_map text xs ++ rest) = rw (form.again before x (flat_map text xs ++ rest) fits.0 two.0) refl in
    ap (many_of part (suc (length xs)) before) regrouped ∙ first ∙ many_again part text Fits rule form xs (before ++ x ∷ []) rest fits.1 two.1 ∙ ap (λ (p : List _). Ok (p, rest)) (append_assoc before (x ∷ []) xs)

-- a field that may have any value
pub any_field : {A : Type 0} (read : List ℕ → Field A) (text : A → List ℕ) (Fits : A → Type 0) → IsExactField read text Fits → IsExactReading (λ bytes. any bytes (read bytes)) text Fits
any_field read text Fits form = record {
  takes = λ bytes x fits e. form.takes bytes x fits (any_is bytes (read bytes) x e);
  again = λ a rest fits. rw (form.again a rest fits) refl;
  inside = λ most bytes le. any_inside most bytes (read bytes) le (form.inside most bytes le);
}

-- a count and that many parts
counted_takes : {A : Type 0} (count : List ℕ → Field ℕ) (count_text : ℕ → List ℕ) (limit : ℕ) (counted : IsExactField count count_text (λ n. n < limit))
    (part : List A → List ℕ → Reading A) (text : A → List ℕ) (Fits : A → Type 0) (rule : List A → A → Bool) (form : IsExactPart part text Fits rule)
    (bytes : List ℕ) (x : List A × List ℕ) → AreBytes bytes → (any bytes (count bytes) >>= λ n. many_of part n.0 [] n.1) ≡ Ok x
    → AreSplit bytes (count_text (length x.0) ++ flat_map text x.0) x.1 × IsList limit Fits rule x.0
counted_takes count count_text limit counted part text Fits rule form bytes x fits e =
    let a = bind_ok (any bytes (count bytes)) (λ n. many_of part n.0 [] n.1) x e in
    let t0 = counted.takes bytes a.0 fits (any_is bytes (count bytes) a.0 a.1) in
    let r = many_takes part text Fits rule form a.0.0 [] a.0.1 x t0.0.rest_fits a.2 in
    let both = AreSplit-then bytes (count_text a.0.0) a.0.1 (flat_map text r.0) x.1 t0.0 r.3 in
    let same : x.0 ≡ r.0 = r.1 in
    let len : length r.0 ≡ a.0.0 = r.2 in
    let sized : AreSplit bytes (count_text (length r.0) ++ flat_map text r.0) x.1 = subst (λ (k : ℕ). AreSplit bytes (count_text k ++ flat_map text r.0) x.1) (sym len) both in
    subst (λ (xs : List _). AreSplit bytes (count_text (length xs) ++ flat_map text xs) x.1 × IsList limit Fits rule xs) (sym same) (sized, record { few = omega (arith, t0.1, len); parts = r.4; follow = r.5 })

counted_again : {A : Type 0} (count : List ℕ → Field ℕ) (count_text : ℕ → List ℕ) (limit : ℕ) (counted : IsExactField count count_text (λ n. n < limit))
    (part : List A → List ℕ → Reading A) (text : A → List ℕ) (Fits : A → Type 0) (rule : List A → A → Bool) (form : IsExactPart part text Fits rule)
    (read : List ℕ → Reading (List A)) (same : (bytes : List ℕ) → read bytes ≡ (any bytes (count bytes) >>= λ n. many_of part n.0 [] n.1))
    (xs : List A) (rest : List ℕ) → IsList limit Fits rule xs → read ((count_text (length xs) ++ flat_map text xs) ++ rest) ≡ Ok (xs, rest)
counted_again count count_text limit counted part text Fits rule form read same xs rest sound =
    let regrouped = append_assoc (count_text (length xs)) (flat_map text xs) rest in
    let first = counted.again (length xs) (flat_map text xs ++ rest) sound.few in
    ap read regrouped ∙ same (count_text (length xs) ++ (flat_map text xs ++ rest)) ∙ rw first (many_again part text Fits rule form xs [] rest sound.parts sound.follow)

-- so a count and that many parts are read as they are spelled
pub counted_whole : {A : Type 0} (count : List ℕ → Field ℕ) (count_text : ℕ → List ℕ) (limit : ℕ) (counted : IsExactField count count_text (λ n. n < limit))
    (part : List A → List ℕ → Reading A) (text : A → List ℕ) (Fits : A → Type 0) (rule : List A → A → Bool) (form : IsExactPart part text Fits rule)
    (read : List ℕ → Reading (List A)) → ((bytes : List ℕ) → read bytes ≡ (any bytes (count bytes) >>= λ n. many_of part n.0 [] n.1))
    → IsExactReading read (λ xs. count_text (length xs) ++ flat_map text xs) (IsList limit Fits rule)
counted_whole count count_text limit counted part text Fits rule form read same = record {
  takes = λ bytes x fits e. counted_takes count count_text limit counted part text Fits rule form bytes x fits (sym (same bytes) ∙ e);
  again = counted_again count count_text limit counted part text Fits rule form read same;
  inside = λ most bytes le. subst (λ (r : Reading (List _)). Leaves most r) (sym (same bytes)) (counted_inside count counted.inside part form.inside most bytes le);
}

-- one step of a sequence: what it read, and the rest of the sequence
pub step : {A B : Type 0} {read : List ℕ → Reading A} {text : A → List ℕ} {Fits : A → Type 0} (w : IsExactReading read text Fits) (whole front bytes : List ℕ) (k : A × List ℕ → Reading B) (x : B × List ℕ) (Goal : Type 0)
    → AreSplit whole front bytes → (read bytes >>= k) ≡ Ok x
    → ((a : A × List ℕ) → Fits a.0 → AreSplit whole (front ++ text a.0) a.1 → k a ≡ Ok x → Goal) → Goal
step {read = read} {text = text} w whole front bytes k x Goal t e go =
    let s = bind_ok (read bytes) k x e in
    let one = w.takes bytes s.0 t.rest_fits s.1 in
    go s.0 one.1 (AreSplit-then whole front bytes (text s.0.0) s.0.1 t one.0) s.2

-- before the first step
pub starts : (bytes : List ℕ) → AreBytes bytes → AreSplit bytes [] bytes
starts bytes fits = record { parts = refl; rest_fits = fits }

-- ---- two ways to go on

pub chosen : {A : Type 0} (b : Bool) (p q r : A) → cond b p q ≡ r → ((b ≡ true) × (p ≡ r)) ⊎ ((b ≡ false) × (q ≡ r))
chosen true p q r e = inl (refl, e)
chosen false p q r e = inr (refl, e)

pub second : (a b : Bool) → (a || b) ≡ true → a ≡ false → b ≡ true
second true b e f = absurd cc
second false b e f = e
