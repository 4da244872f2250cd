-- Fields are read as they are spelled.
use Rattle.std.proofs.Common.{◌≡◌, ℕ, zero, suc, ◌+◌, ◌^◌, ◌<◌, ◌≤◌, Bool, true, false, cond, ltb, List, [], ◌∷◌, ◌++◌, length, take, drop, Option, Some, None, refl, sym, ap, subst, ◌∙◌, append_assoc, arith, inl, inr}
use Rattle.std.specs.Prelude.{◌&&◌, nat_lt}
use Rattle.std.specs.Int.{Width, w16, w32, w64, byte_len, from_be_bytes, to_be_bytes}
use Rattle.std.specs.List.{flat_map, AllByRecursion}
use Rattle.std.proofs.lemmas.Bool.{and_parts, cases_lt, ltb-false, ltb-true, le-ltb, lt-ltb}
use Rattle.std.proofs.lemmas.List.{take_at, drop_at, take-append-drop, length-append, length-take, get_or-drop, get_or-take, get_or_past, append-nil}
use Rattle.std.proofs.lemmas.List.Concat.{flat_map-cons}
use Rattle.std.proofs.lemmas.Nat.{be_bytes_2, be_bytes_4, be_bytes_8, from_be_bytes-to_be_bytes_2, from_be_bytes-to_be_bytes_4, from_be_bytes-to_be_bytes_8}
use Rattle.fw_time.specs.Stamp.{Stamp}
use Rattle.fw_frontier.specs.declared.state.SentCount.{SentCount}
use Rattle.fw_bytes.specs.Fields.{Field, ◌>>=◌, byte_of, number_field, coords_of, stamp_field, sent_count_of}
use Rattle.fw_bytes.specs.Spelling.{u32_bytes, u64_bytes, stamp_bytes, sent_count_bytes}
use Rattle.fw_bytes.specs.Sound.{IsStamp, IsSentCount}
use Rattle.fw_bytes.specs.Exact.{AreBytes, AreSplit, IsExactField}
use Rattle.fw_bytes.proofs.PlaceLaws.{byte_inside, number_inside, stamp_inside, sent_count_inside}

pub AreBytes-drop : (n : ℕ) (bytes : List ℕ) → AreBytes bytes → AreBytes (drop n bytes)
AreBytes-drop n bytes h i = rw get_or-drop (h (n + i))

pub AreBytes-take : (n : ℕ) (bytes : List ℕ) → AreBytes bytes → AreBytes (take n bytes)
AreBytes-take n bytes h i =
    elim (cases_lt i n) [
      | inl lt ↦ rw (get_or-take n bytes i 0 lt) (h i)
      | inr le ↦ rw (get_or_past (take n bytes) i 0 (omega (arith, length-take n bytes))) (omega arith)
    ]

pub AreBytes-rest : (b : ℕ) (bytes : List ℕ) → AreBytes (b ∷ bytes) → AreBytes bytes
AreBytes-rest b bytes h i = h (suc i)

-- the value of a step that did not fail
pub bind_some : {A B : Type 0} (r : Option A) (f : A → Option B) (y : B) → (r >>= f) ≡ Some y → (x : A) × (r ≡ Some x) × (f x ≡ Some y)
bind_some (Some x) f y e = (x, refl, e)
bind_some None f y e = absurd cc

-- a test that did not fail
pub guard_none : {A : Type 0} (b : Bool) (x y : A) → cond b None (Some x) ≡ Some y → (b ≡ false) × (x ≡ y)
guard_none true x y e = absurd cc
guard_none false x y e = (refl, cc)

pub guard_some : {A : Type 0} (b : Bool) (f : Option A) (y : A) → cond b f None ≡ Some y → (b ≡ true) × (f ≡ Some y)
guard_some true f y e = (refl, e)
guard_some false f y e = absurd cc

abbrev some : {A : Type 0} → A → Option A
some x = Some x

pub some_is : {A : Type 0} (x y : A) → some x ≡ some y → x ≡ y
some_is x y e = cc

pub AreSplit-then : (a x b y c : List ℕ) → AreSplit a x b → AreSplit b y c → AreSplit a (x ++ y) c
AreSplit-then a x b y c p q = record { parts = p.parts ∙ ap (λ (t : List ℕ). x ++ t) q.parts ∙ sym (append_assoc x y c); rest_fits = q.rest_fits }

-- ---- numbers

pub record IsWide (w : Width) (limit : ℕ) : Type 0 where
  pub len : (n : ℕ) → length (to_be_bytes w n) ≡ byte_len w
  pub back : (bytes : List ℕ) → length bytes ≡ byte_len w → AreBytes bytes → to_be_bytes w (from_be_bytes w bytes) ≡ bytes
  pub again : (n : ℕ) → n < limit → from_be_bytes w (to_be_bytes w n) ≡ n
  pub below : (bytes : List ℕ) → AreBytes bytes → from_be_bytes w bytes < limit

pub wide16 : IsWide w16 (2 ^ 16)
wide16 = record {
  len = λ n. refl;
  back = λ bytes len fits. be_bytes_2 bytes _ len fits refl;
  again = λ n lt. from_be_bytes-to_be_bytes_2 n lt;
  below = λ bytes fits. omega (arith, fits 0, fits 1);
}

pub wide32 : IsWide w32 (2 ^ 32)
wide32 = record {
  len = λ n. refl;
  back = λ bytes len fits. be_bytes_4 bytes _ len fits refl;
  again = λ n lt. from_be_bytes-to_be_bytes_4 n lt;
  below = λ bytes fits. omega (arith, fits 0, fits 1, fits 2, fits 3);
}

pub wide64 : IsWide w64 (2 ^ 64)
wide64 = record {
  len = λ n. refl;
  back = λ bytes len fits. be_bytes_8 bytes _ len fits refl;
  again = λ n lt. from_be_bytes-to_be_bytes_8 n lt;
  below = λ bytes fits. omega (arith, fits 0, fits 1, fits 2, fits 3, fits 4, fits 5, fits 6, fits 7);
}

pub number_takes : (w : Width) (limit : ℕ) (wide : IsWide w limit) (bytes : List ℕ) (x : ℕ × List ℕ) → AreBytes bytes → number_field w bytes ≡ Some x → AreSplit bytes (to_be_bytes w x.0) x.1 × (x.0 < limit)
number_takes w limit wide bytes x fits e =
    let n = x.0 in
    let rest = x.1 in
    let g = guard_none (ltb (length bytes) (byte_len w)) (from_be_bytes w (take (byte_len w) bytes), drop (byte_len w) bytes) x e in
    let long : byte_len w ≤ length bytes = ltb-false _ _ g.0 in
    let n-is : from_be_bytes w (take (byte_len w) bytes) ≡ x.0 = ap (λ (p : ℕ × List ℕ). p.0) g.1 in
    let rest-is : drop (byte_len w) bytes ≡ x.1 = ap (λ (p : ℕ × List ℕ). p.1) g.1 in
    let front : to_be_bytes w x.0 ≡ take (byte_len w) bytes = rw (← n-is) (wide.back (take (byte_len w) bytes) (omega (arith, length-take (byte_len w) bytes)) (AreBytes-take (byte_len w) bytes fits)) in
    (record { parts = rw (front, ← rest-is) (sym (take-append-drop (byte_len w) bytes)); rest_fits = rw (← rest-is) (AreBytes-drop (byte_len w) bytes fits) }, rw (← n-is) (wide.below (take (byte_len w) bytes) (AreBytes-take (byte_len w) bytes fits)))

pub number_again : (w : Width) (limit : ℕ) (wide : IsWide w limit) (n : ℕ) (rest : List ℕ) → n < limit → number_field w (to_be_bytes w n ++ rest) ≡ Some (n, rest)
number_again w limit wide n rest lt =
    let len = wide.len n in
    let long : ltb (length (to_be_bytes w n ++ rest)) (byte_len w) ≡ false = le-ltb _ _ (omega (arith, length-append (to_be_bytes w n) rest)) in
    rw (long, take_at (to_be_bytes w n) rest (byte_len w) len, drop_at (to_be_bytes w n) rest (byte_len w) len, wide.again n lt) refl

-- a byte
pub byte_takes : (bytes : List ℕ) (x : ℕ × List ℕ) → AreBytes bytes → byte_of bytes ≡ Some x → (bytes ≡ x.0 ∷ x.1) × AreBytes x.1 × (x.0 < 256)
byte_takes [] x fits e = absurd cc
byte_takes (b ∷ bytes) x fits e =
    subst (λ (y : ℕ × List ℕ). (b ∷ bytes ≡ y.0 ∷ y.1) × AreBytes y.1 × (y.0 < 256)) (some_is (b, bytes) x e) (refl, AreBytes-rest b bytes fits, fits 0)

pub form8 : IsExactField byte_of (λ b. b ∷ []) (λ b. b < 256)
form8 = record {
  takes = λ bytes x fits e. let t = byte_takes bytes x fits e in (record { parts = t.0; rest_fits = t.1 }, t.2);
  again = λ b rest small. refl;
  inside = byte_inside;
}

pub form16 : IsExactField (number_field w16) (to_be_bytes w16) (λ n. n < 2 ^ 16)
form16 = record { takes = number_takes w16 (2 ^ 16) wide16; again = number_again w16 (2 ^ 16) wide16; inside = number_inside w16 }

pub form32 : IsExactField (number_field w32) u32_bytes (λ n. n < 2 ^ 32)
form32 = record { takes = number_takes w32 (2 ^ 32) wide32; again = number_again w32 (2 ^ 32) wide32; inside = number_inside w32 }

pub form64 : IsExactField (number_field w64) u64_bytes (λ n. n < 2 ^ 64)
form64 = record { takes = number_takes w64 (2 ^ 64) wide64; again = number_again w64 (2 ^ 64) wide64; inside = number_inside w64 }

-- ---- coordinates

abbrev IsCoord : ℕ → Type 0
IsCoord c = c < 2 ^ 32

coords_take : (n : ℕ) (before bytes : List ℕ) (x : Stamp × List ℕ) → AreBytes bytes → coords_of n before bytes ≡ Some x
    → (more : Stamp) × (x.0 ≡ before ++ more) × (length more ≡ n) × AreSplit bytes (flat_map u32_bytes more) x.1 × AllByRecursion IsCoord more
unfolding coords_of
coords_take zero before bytes x fits e =
    let same = some_is (before, bytes) x e in
    let a : before ≡ x.0 = ap (λ (p : Stamp × List ℕ). p.0) same in
    let b : bytes ≡ x.1 = ap (λ (p : Stamp × List ℕ). p.1) same in
    ([], sym a ∙ sym (append-nil before), refl, record { parts = b; rest_fits = rw (← b) fits }, tt)
coords_take (suc n) before bytes x fits e =
    let c = bind_some (number_field w32 bytes) (λ c. coords_of n (before ++ c.0 ∷ []) c.1) x e in
    let t = form32.takes bytes c.0 fits c.1 in
    let r = coords_take n (before ++ c.0.0 ∷ []) c.0.1 x t.0.rest_fits c.2 in
    let both = AreSplit-then bytes (u32_bytes c.0.0) c.0.1 (flat_map u32_bytes r.0) x.1 t.0 r.3 in
    (c.0.0 ∷ r.0, r.1 ∙ append_assoc before (c.0.0 ∷ []) r.0, ap suc r.2, rw flat_map-cons both, (t.1, r.4))

coords_again : (s : Stamp) (before rest : List ℕ) → AllByRecursion IsCoord s → coords_of (length s) before (flat_map u32_bytes s ++ rest) ≡ Some (before ++ s, rest)
unfolding coords_of
coords_again [] before rest fits = ap (λ (p : Stamp). Some (p, rest)) (sym (append-nil before))
coords_again (c ∷ s) before rest fits =
    let regrouped : flat_map u32_bytes (c ∷ s) ++ rest ≡ u32_bytes c ++ (flat_map u32_bytes s ++ rest) = ap (λ (x : List ℕ). x ++ rest) (flat_map-cons u32_bytes c s) ∙ append_assoc (u32_bytes c) (flat_map u32_bytes s) rest in
    let first : coords_of (suc (length s)) before (u32_bytes c ++ (flat_map u32_bytes s ++ rest)) ≡ coords_of (length s) (before ++ c ∷ []) (flat_map u32_bytes s ++ rest) = rw (form32.again c (flat_map u32_bytes s ++ rest) fits.0) refl in
    ap (coords_of (suc (length s)) before) regrouped ∙ first ∙ coords_again s (before ++ c ∷ []) rest fits.1 ∙ ap (λ (p : Stamp). Some (p, rest)) (append_assoc before (c ∷ []) s)

-- ---- stamps

stamp_takes : (bytes : List ℕ) (x : Stamp × List ℕ) → AreBytes bytes → stamp_field bytes ≡ Some x → AreSplit bytes (stamp_bytes x.0) x.1 × IsStamp x.0
unfolding stamp_field
stamp_takes [] x fits e = absurd cc
stamp_takes (n ∷ bytes) x fits e =
    let g = guard_some (nat_lt 0 n && nat_lt n 5) (coords_of n [] bytes) x e in
    let two = and_parts (nat_lt 0 n) (nat_lt n 5) g.0 in
    let r = coords_take n [] bytes x (AreBytes-rest n bytes fits) g.1 in
    let same : x.0 ≡ r.0 = r.1 in
    let len : length x.0 ≡ n = ap length same ∙ r.2 in
    let some : 0 < length x.0 = omega (arith, ltb-true _ _ two.0, len) in
    let few : length x.0 < 5 = omega (arith, ltb-true _ _ two.1, len) in
    (record { parts = rw (len, same) (ap (λ (t : List ℕ). n ∷ t) r.3.parts); rest_fits = r.3.rest_fits }, record { some = some; few = few; fit = rw same r.4 })

stamp_again : (s : Stamp) (rest : List ℕ) → IsStamp s → stamp_field (stamp_bytes s ++ rest) ≡ Some (s, rest)
unfolding stamp_field
stamp_again s rest fits = rw (lt-ltb 0 (length s) fits.some, lt-ltb (length s) 5 fits.few) (coords_again s [] rest fits.fit)

pub stamps : IsExactField stamp_field stamp_bytes IsStamp
stamps = record { takes = stamp_takes; again = stamp_again; inside = stamp_inside }

-- ---- counts

-- two fields, one after the other, and what is made of both
pub two_take : {A B C : Type 0} {first : List ℕ → Field A} {first_text : A → List ℕ} {FitsFirst : A → Type 0} (one : IsExactField first first_text FitsFirst)
    {second : List ℕ → Field B} {second_text : B → List ℕ} {FitsSecond : B → Type 0} (two : IsExactField second second_text FitsSecond) (make : A → B → C)
    (bytes : List ℕ) (x : C × List ℕ) → AreBytes bytes → (first bytes >>= λ a. second a.1 >>= λ b. Some (make a.0 b.0, b.1)) ≡ Some x → (P : C × List ℕ → Type 0)
    → ((a : A) (b : B) (rest : List ℕ) → AreSplit bytes (first_text a ++ second_text b) rest → FitsFirst a → FitsSecond b → P (make a b, rest)) → P x
two_take {first = first} {first_text} one {second} {second_text} two make bytes x fits e P go =
    let a = bind_some (first bytes) (λ a. second a.1 >>= λ b. Some (make a.0 b.0, b.1)) x e in
    let b = bind_some (second a.0.1) (λ b. Some (make a.0.0 b.0, b.1)) x a.2 in
    let t0 = one.takes bytes a.0 fits a.1 in
    let t1 = two.takes a.0.1 b.0 t0.0.rest_fits b.1 in
    subst P (some_is (make a.0.0 b.0.0, b.0.1) x b.2) (go a.0.0 b.0.0 b.0.1 (AreSplit-then bytes (first_text a.0.0) a.0.1 (second_text b.0.0) b.0.1 t0.0 t1.0) t0.1 t1.1)

count_takes : (bytes : List ℕ) (x : SentCount × List ℕ) → AreBytes bytes → sent_count_of bytes ≡ Some x → AreSplit bytes (sent_count_bytes x.0) x.1 × IsSentCount x.0
unfolding sent_count_of
count_takes bytes x fits e =
    two_take stamps form64 (λ cause count. record { cause = cause; count = count }) bytes x fits e (λ y. AreSplit bytes (sent_count_bytes y.0) y.1 × IsSentCount y.0)
    (λ cause count rest t f g. (t, record { cause = f; count = g }))

count_again : (s : SentCount) (rest : List ℕ) → IsSentCount s → sent_count_of (sent_count_bytes s ++ rest) ≡ Some (s, rest)
unfolding sent_count_of
count_again s rest fits =
    ap sent_count_of (append_assoc (stamp_bytes s.cause) (u64_bytes s.count) rest) ∙ rw (stamps.again s.cause (u64_bytes s.count ++ rest) fits.cause, form64.again s.count rest fits.count) refl

pub counts : IsExactField sent_count_of sent_count_bytes IsSentCount
counts = record { takes = count_takes; again = count_again; inside = sent_count_inside }
