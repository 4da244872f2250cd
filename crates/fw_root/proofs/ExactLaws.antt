-- More ways by which something is read as it is spelled.
use Rattle.std.proofs.Common.{◌≡◌, ℕ, ◌<◌, ◌≤◌, Bool, true, false, cond, ltb, List, [], ◌++◌, length, take, drop, Some, None, Ok, refl, sym, ap, subst, ◌∙◌, append_assoc, arith}
use Rattle.std.specs.Prelude.{nat_lt}
use Rattle.std.specs.List.{flat_map}
use Rattle.std.proofs.lemmas.Bool.{ltb-false, le-ltb}
use Rattle.std.proofs.lemmas.List.{take_at, drop_at, take-append-drop, length-append, length-take, length-drop}
use Rattle.fw_bytes.specs.Fields.{Field}
use Rattle.fw_bytes.specs.Fields as field
use Rattle.fw_bytes.specs.Sound.{IsList}
use Rattle.fw_bytes.specs.Reading.{Reading, ◌>>=◌, kept_if, many_of}
use Rattle.fw_bytes.specs.Exact.{AreBytes, AreSplit, FieldLeaves, IsExactField, IsExactPart, IsExactReading}
use Rattle.fw_bytes.proofs.PlaceLaws.{inside_then, kept_inside, many_inside}
use Rattle.fw_bytes.proofs.FieldLaws.{AreBytes-drop, AreBytes-take, bind_some, guard_none, some_is, AreSplit-then}
use Rattle.fw_bytes.proofs.PartLaws.{bind_ok, kept, many_takes, many_again}
use Rattle.fw_root.specs.Fields.{bytes_field}
use Rattle.fw_root.specs.Sound.{AreSoMany}

-- a step that read something, and what comes of it
pub then_ok : {A B : Type 0} (r : Reading A) (k : A × List ℕ → Reading B) (x : A × List ℕ) (y : Reading B) → r ≡ Ok x → k x ≡ y → (r >>= k) ≡ y
then_ok r k x y e h = ap (λ q. q >>= k) e ∙ h

-- a field with a rule
pub kept_field : {A : Type 0} (read : List ℕ → Field A) (text : A → List ℕ) (Fits : A → Type 0) (rule : A → Bool) → IsExactField read text Fits
    → IsExactReading (λ bytes. kept_if rule bytes (read bytes)) text (λ a. Fits a × (rule a ≡ true))
kept_field read text Fits rule form = record {
  takes = λ bytes x fits e. let k = kept rule bytes (read bytes) x e in let t = form.takes bytes x fits k.0 in (t.0, (t.1, k.1));
  again = λ a rest fits. rw (form.again a rest fits.0, fits.1) refl;
  inside = λ most bytes le. kept_inside rule most bytes (read bytes) le (form.inside most bytes le);
}

-- the same said in other words
pub said_so : {A : Type 0} (read : List ℕ → Reading A) (text new_text : A → List ℕ) (Fits NewFits : A → Type 0) → IsExactReading read text Fits
    → ((a : A) → Fits a → NewFits a) → ((a : A) → NewFits a → Fits a) → ((a : A) → Fits a → text a ≡ new_text a) → IsExactReading read new_text NewFits
said_so read text new_text Fits NewFits form to from same = record {
  takes = λ bytes x fits e. let t = form.takes bytes x fits e in (subst (λ s. AreSplit bytes s x.1) (same x.0 t.1) t.0, to x.0 t.1);
  again = λ a rest fits. subst (λ s. read (s ++ rest) ≡ Ok (a, rest)) (same a (from a fits)) (form.again a rest (from a fits));
  inside = form.inside;
}

-- so many bytes, as they are
bytes_takes : (n : ℕ) (bytes : List ℕ) (x : List ℕ × List ℕ) → AreBytes bytes → bytes_field n bytes ≡ Some x → AreSplit bytes x.0 x.1 × AreSoMany n x.0
bytes_takes n bytes x fits e =
    let g = guard_none (ltb (length bytes) n) (take n bytes, drop n bytes) x e in
    let long : n ≤ length bytes = ltb-false _ _ g.0 in
    subst (λ (y : List ℕ × List ℕ). AreSplit bytes y.0 y.1 × AreSoMany n y.0) g.1
    (record { parts = sym (take-append-drop n bytes); rest_fits = AreBytes-drop n bytes fits }, record { many = omega (arith, length-take n bytes); bytes = AreBytes-take n bytes fits })

pub bytes_form : (n : ℕ) → IsExactField (bytes_field n) (λ t. t) (AreSoMany n)
bytes_form n = record {
  takes = bytes_takes n;
  again = λ a rest fits.
      let long : ltb (length (a ++ rest)) n ≡ false = le-ltb _ _ (omega (arith, length-append a rest, fits.many)) in
      rw (long, take_at a rest n fits.many, drop_at a rest n fits.many) refl;
  inside = λ most bytes le.
      elim (nat_lt (length bytes) n) as (λ b. FieldLeaves most (cond b None (Some (take n bytes, drop n bytes)))) [
        | true ↦ tt
        | false ↦ omega (arith, length-drop n bytes, le)
      ];
}

-- three fields, one after the other, and what is made of them
pub three_take : {A B C D : Type 0} {first : List ℕ → Field A} {first_text : A → List ℕ} {FitsFirst : A → Type 0} (one : IsExactField first first_text FitsFirst)
    {second : List ℕ → Field B} {second_text : B → List ℕ} {FitsSecond : B → Type 0} (two : IsExactField second second_text FitsSecond)
    {third : List ℕ → Field C} {third_text : C → List ℕ} {FitsThird : C → Type 0} (three : IsExactField third third_text FitsThird) (make : A → B → C → D)
    (bytes : List ℕ) (x : D × List ℕ) → AreBytes bytes
    → field.◌>>=◌ (first bytes) (λ a. field.◌>>=◌ (second a.1) (λ b. field.◌>>=◌ (third b.1) (λ c. Some (make a.0 b.0 c.0, c.1)))) ≡ Some x → (P : D × List ℕ → Type 0)
    → ((a : A) (b : B) (c : C) (rest : List ℕ) → AreSplit bytes (first_text a ++ second_text b ++ third_text c) rest → FitsFirst a → FitsSecond b → FitsThird c → P (make a b c, rest)) → P x
three_take {first = first} {first_text} one {second} {second_text} two {third} {third_text} three make bytes x fits e P go =
    let a = bind_some (first bytes) (λ a. field.◌>>=◌ (second a.1) (λ b. field.◌>>=◌ (third b.1) (λ c. Some (make a.0 b.0 c.0, c.1)))) x e in
    let b = bind_some (second a.0.1) (λ b. field.◌>>=◌ (third b.1) (λ c. Some (make a.0.0 b.0 c.0, c.1))) x a.2 in
    let c = bind_some (third b.0.1) (λ c. Some (make a.0.0 b.0.0 c.0, c.1)) x b.2 in
    let t0 = one.takes bytes a.0 fits a.1 in
    let t1 = two.takes a.0.1 b.0 t0.0.rest_fits b.1 in
    let t2 = three.takes b.0.1 c.0 t1.0.rest_fits c.1 in
    let both = AreSplit-then bytes (first_text a.0.0) a.0.1 (second_text b.0.0) b.0.1 t0.0 t1.0 in
    subst P (some_is (make a.0.0 b.0.0 c.0.0, c.0.1) x c.2) (go a.0.0 b.0.0 c.0.0 c.0.1 (AreSplit-then bytes (first_text a.0.0 ++ second_text b.0.0) b.0.1 (third_text c.0.0) c.0.1 both t2.0) t0.1 t1.1 t2.1)

-- a count with a rule, and that many parts
pub record IsSizedList {A : Type 0} (limit : ℕ) (size : ℕ → Bool) (Fits : A → Type 0) (rule : List A → A → Bool) (xs : List A) : Type 0 where
  pub parts : IsList limit Fits rule xs
  pub sized : size (length xs) ≡ true

sized_takes : {A : Type 0} (count : List ℕ → Field ℕ) (count_text : ℕ → List ℕ) (limit : ℕ) (counted : IsExactField count count_text (λ n. n < limit)) (size : ℕ → Bool)
    (part : List A → List ℕ → Reading A) (text : A → List ℕ) (Fits : A → Type 0) (rule : List A → A → Bool) (form : IsExactPart part text Fits rule)
    (bytes : List ℕ) (x : List A × List ℕ) → AreBytes bytes → (kept_if size bytes (count bytes) >>= λ n. many_of part n.0 [] n.1) ≡ Ok x
    → AreSplit bytes (count_text (length x.0) ++ flat_map text x.0) x.1 × IsSizedList limit size Fits rule x.0
sized_takes count count_text limit counted size part text Fits rule form bytes x fits e =
    let a = bind_ok (kept_if size bytes (count bytes)) (λ n. many_of part n.0 [] n.1) x e in
    let k = kept size bytes (count bytes) a.0 a.1 in
    let t0 = counted.takes bytes a.0 fits k.0 in
    let r = many_takes part text Fits rule form a.0.0 [] a.0.1 x t0.0.rest_fits a.2 in
    let both = AreSplit-then bytes (count_text a.0.0) a.0.1 (flat_map text r.0) x.1 t0.0 r.3 in
    let same : x.0 ≡ r.0 = r.1 in
    let len : length r.0 ≡ a.0.0 = r.2 in
    let sized : AreSplit bytes (count_text (length r.0) ++ flat_map text r.0) x.1 = subst (λ (n : ℕ). AreSplit bytes (count_text n ++ flat_map text r.0) x.1) (sym len) both in
    subst (λ (xs : List _). AreSplit bytes (count_text (length xs) ++ flat_map text xs) x.1 × IsSizedList limit size Fits rule xs) (sym same)
    (sized, record { parts = record { few = omega (arith, t0.1, len); parts = r.4; follow = r.5 }; sized = ap size len ∙ k.1 })

-- so they are read as they are spelled
pub sized_whole : {A : Type 0} (count : List ℕ → Field ℕ) (count_text : ℕ → List ℕ) (limit : ℕ) (counted : IsExactField count count_text (λ n. n < limit)) (size : ℕ → Bool)
    (part : List A → List ℕ → Reading A) (text : A → List ℕ) (Fits : A → Type 0) (rule : List A → A → Bool) (form : IsExactPart part text Fits rule)
    → IsExactReading (λ bytes. kept_if size bytes (count bytes) >>= λ n. many_of part n.0 [] n.1) (λ xs. count_text (length xs) ++ flat_map text xs) (IsSizedList limit size Fits rule)
sized_whole count count_text limit counted size part text Fits rule form = record {
  takes = sized_takes count count_text limit counted size part text Fits rule form;
  again = λ xs rest sound.
      let regrouped = append_assoc (count_text (length xs)) (flat_map text xs) rest in
      let first = counted.again (length xs) (flat_map text xs ++ rest) sound.parts.few in
      ap (λ bytes. kept_if size bytes (count bytes) >>= λ n. many_of part n.0 [] n.1) regrouped
      ∙ rw (first, sound.sized) (many_again part text Fits rule form xs [] rest sound.parts.parts sound.parts.follow);
  inside = λ most bytes le.
      inside_then most (kept_if size bytes (count bytes)) (λ n. many_of part n.0 [] n.1) (kept_inside size most bytes (count bytes) le (counted.inside most bytes le))
      (λ n le'. many_inside part form.inside n.0 [] most n.1 le');
}
