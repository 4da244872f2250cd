-- Sums over two tests, and what is found by a key.
use Rattle.std.proofs.Common.{◌≡◌, ℕ, ◌+◌, ◌%◌, ◌^◌, ◌<◌, ◌==◌, Bool, true, false, cond, List, [], ◌∷◌, Option, Some, None, map, refl, sym, ap, ◌∙◌, arith, add_assoc}
use Rattle.std.specs.Prelude.{◌&&◌, ◌||◌}
use Rattle.std.specs.Option.{is_some as is_some_}
use Rattle.std.specs.List.{AllByRecursion}
use Rattle.std.specs.Map.{lookup, keys_of}
use Rattle.std.specs.Ordering.{is_eq, nat_cmp}
use Rattle.std.specs.BTreeMap.{is_at}
use Rattle.std.proofs.Math.Nat.{mod-add-mod, add-mod-mod}
use Rattle.std.proofs.lemmas.Nat.{mod_below}
use Rattle.std.proofs.lemmas.Bool.{eqb-true}
use Rattle.fw_lemmas.proofs.Orderings.{nat_cmp-test}
use Rattle.fw_time.specs.Stamp.{Stamp, same}
use Rattle.fw_time.proofs.StampLaws.{same-is}
use Rattle.fw_bag.specs.declared.rec.Rec.{Rec}
use Rattle.fw_bag.specs.Keyed.{plus, value_sum, has_key}
use Rattle.fw_bag.specs.Arrivals.{Arrival, recs_where, arrivals_at, recs_of}
use Rattle.fw_bag.proofs.ArrivalLaws.{where-filter}
use Rattle.fw_table.specs.Sums.{sum_at}
use Rattle.fw_table.proofs.SumLaws.{none_summed}
use Rattle.fw_totals.specs.Totals.{combined}

-- ---- sums over two tests that exclude each other

plus-plus : (s v r : ℕ) → plus (plus s v) r ≡ plus s (plus v r)
plus-plus s v r = mod-add-mod (s + v) (2 ^ 64) r ∙ ap (λ n. n % 2 ^ 64) (add_assoc s v r) ∙ sym (add-mod-mod s (v + r) (2 ^ 64))

plus-swap : (s v : ℕ) → plus s v ≡ plus v s
plus-swap s v = let e : s + v ≡ v + s = omega arith in ap (λ n. n % 2 ^ 64) e

second_in : (n v t : ℕ) → plus v (plus n t) ≡ plus n (plus v t)
second_in n v t = sym (plus-plus v n t) ∙ ap (λ i. plus i t) (plus-swap v n) ∙ plus-plus n v t

fits_cond : (b : Bool) (v r : ℕ) → r < 2 ^ 64 → cond b (plus v r) r < 2 ^ 64
fits_cond true v r l = mod_below (v + r) (2 ^ 64) (omega arith)
fits_cond false v r l = l

pub fits : (key : ℕ) (rs : List Rec) → value_sum key rs < 2 ^ 64
fits key [] = omega arith
fits key (r ∷ rs) = fits_cond (r.key == key) r.value (value_sum key rs) (fits key rs)

nothing_more : (n : ℕ) → n < 2 ^ 64 → plus 0 n ≡ n
nothing_more n l = omega arith

value_cases : (v n t u : ℕ) → u ≡ plus n t → (k b d : Bool) → (b && d) ≡ false
    → cond (b || d) (cond k (plus v u) u) u ≡ plus (cond d (cond k (plus v n) n) n) (cond b (cond k (plus v t) t) t)
value_cases v n t u h true true true x = cc
value_cases v n t u h true true false x = ap (plus v) h ∙ second_in n v t
value_cases v n t u h true false true x = ap (plus v) h ∙ sym (plus-plus v n t)
value_cases v n t u h true false false x = h
value_cases v n t u h false true true x = cc
value_cases v n t u h false true false x = h
value_cases v n t u h false false true x = h
value_cases v n t u h false false false x = h

shown : (q : ℕ) (r : Rec) (rs : List Rec) (b : Bool) → value_sum q (cond b (r ∷ rs) rs) ≡ cond b (cond (r.key == q) (plus r.value (value_sum q rs)) (value_sum q rs)) (value_sum q rs)
shown q r rs true = refl
shown q r rs false = refl

has_shown : (q : ℕ) (r : Rec) (rs : List Rec) (b : Bool) → has_key q (cond b (r ∷ rs) rs) ≡ ((b && (r.key == q)) || has_key q rs)
has_shown q r rs true = refl
has_shown q r rs false = refl

module _ (p r : Arrival → Bool) (q : ℕ) where
  pub values_split : (came : List Arrival) → AllByRecursion (λ (a : Arrival). (p a && r a) ≡ false) came
      → value_sum q (recs_where (λ a. p a || r a) came) ≡ plus (value_sum q (recs_where r came)) (value_sum q (recs_where p came))
  values_split [] x = refl
  values_split (a ∷ came) x =
      shown q a.rec (recs_where (λ b. p b || r b) came) (p a || r a)
      ∙ value_cases a.rec.value (value_sum q (recs_where r came)) (value_sum q (recs_where p came)) (value_sum q (recs_where (λ b. p b || r b) came))
      (values_split came x.1) (a.rec.key == q) (p a) (r a) x.0
      ∙ sym (ap (λ n. plus n (cond (p a) (cond (a.rec.key == q) (plus a.rec.value (value_sum q (recs_where p came))) (value_sum q (recs_where p came))) (value_sum q (recs_where p came)))) (shown q a.rec (recs_where r came) (r a)))
      ∙ sym (ap (plus (value_sum q (recs_where r (a ∷ came)))) (shown q a.rec (recs_where p came) (p a)))

  has_cases : (k b d t n : Bool) → (((b || d) && k) || (n || t)) ≡ (((d && k) || n) || ((b && k) || t))
  has_cases true true true t n = sym (or_true n)
    where
      or_true : (y : Bool) → (true || y) ≡ true
      or_true y = refl
  has_cases true true false true n = sym (or_all n)
    where
      or_all : (y : Bool) → (y || true) ≡ true
      or_all true = refl
      or_all false = refl
  has_cases true true false false n = sym (or_all n)
    where
      or_all : (y : Bool) → (y || true) ≡ true
      or_all true = refl
      or_all false = refl
  has_cases true false true t n = refl
  has_cases true false false t n = refl
  has_cases false true true t n = refl
  has_cases false true false t n = refl
  has_cases false false true t n = refl
  has_cases false false false t n = refl

  -- a key is among the recs that pass one of two tests exactly where it is among those of one
  pub keys_split : (came : List Arrival) → has_key q (recs_where (λ a. p a || r a) came) ≡ (has_key q (recs_where r came) || has_key q (recs_where p came))
  keys_split [] = refl
  keys_split (a ∷ came) =
      has_shown q a.rec (recs_where (λ b. p b || r b) came) (p a || r a)
      ∙ ap (λ y. ((p a || r a) && (a.rec.key == q)) || y) (keys_split came)
      ∙ has_cases (a.rec.key == q) (p a) (r a) (has_key q (recs_where p came)) (has_key q (recs_where r came))
      ∙ sym (ap (λ y. ((r a && (a.rec.key == q)) || has_key q (recs_where r came)) || y) (has_shown q a.rec (recs_where p came) (p a)))
      ∙ sym (ap (λ y. y || has_key q (recs_where p (a ∷ came))) (has_shown q a.rec (recs_where r came) (r a)))

-- ---- a time that is taken in

none_added : (n m : ℕ) → n < 2 ^ 64 → m ≡ 0 → n ≡ plus n m
none_added n m l h = omega arith

pub merge_cases : (b d : Bool) (T N : ℕ) → T < 2 ^ 64 → (b ≡ false → T ≡ 0) → (d ≡ false → N ≡ 0)
    → combined (cond b (Some T) None) (cond d (Some N) None) ≡ cond (b || d) (Some (plus T N)) None
merge_cases true true T N l h k = ap (λ n. Some n) (plus-swap N T)
merge_cases true false T N l h k = ap (λ n. Some n) (none_added T N l (k refl))
merge_cases false true T N l h k = ap (λ n. Some n) (plus-swap N 0 ∙ ap (λ i. plus i N) (sym (h refl)))
merge_cases false false T N l h k = refl

apart_by_cases : (P : Stamp → Bool) (t u : Stamp) → P t ≡ false → (b : Bool) → same u t ≡ b → (b && P u) ≡ false
apart_by_cases P t u h true e = ap P (same-is u t e) ∙ h
apart_by_cases P t u h false e = refl

apart_by : (P : Stamp → Bool) (t : Stamp) → P t ≡ false → (came : List Arrival)
    → AllByRecursion (λ (a : Arrival). (same a.at t && P a.at) ≡ false) came
apart_by P t h [] = tt
apart_by P t h (a ∷ came) = (apart_by_cases P t a.at h (same a.at t) refl, apart_by P t h came)

-- what is found of the recs at a time and of those at the times that pass a test, which it does not, is what is found of them all
pub merged_by : (P : Stamp → Bool) (t : Stamp) (came : List Arrival) → P t ≡ false → (q : ℕ)
    → combined (sum_at q (recs_where (λ a. P a.at) came)) (sum_at q (recs_of (arrivals_at t came))) ≡ sum_at q (recs_where (λ a. same a.at t || P a.at) came)
merged_by P t came h q =
    let now : List Rec = recs_where (λ (a : Arrival). same a.at t) came in
    let old : List Rec = recs_where (λ (a : Arrival). P a.at) came in
    ap (λ rs. combined (sum_at q old) (sum_at q rs)) (sym (where-filter (λ a. same a.at t) came))
    ∙ merge_cases (has_key q old) (has_key q now) (value_sum q old) (value_sum q now) (fits q old) (none_summed q old) (none_summed q now)
    ∙ ap (λ b. cond b (Some (plus (value_sum q old) (value_sum q now))) None)
    (sym (keys_split (λ a. same a.at t) (λ a. P a.at) q came))
    ∙ ap (λ n. cond (has_key q (recs_where (λ a. same a.at t || P a.at) came)) (Some n) None)
    (sym (values_split (λ a. same a.at t) (λ a. P a.at) q came (apart_by P t h came)))

-- ---- what is sent

found_cases : (q k v : ℕ) (f : ℕ → ℕ) (o p : Option ℕ) → p ≡ cond (is_some_ o) (Some (f q)) None → (b : Bool) → is_eq (nat_cmp q k) ≡ b
    → cond b (Some (f k)) p ≡ cond (is_some_ (cond b (Some v) o)) (Some (f q)) None
found_cases q k v f o p h true e = ap (λ i. Some (f i)) (sym (eqb-true q k (sym (nat_cmp-test q k) ∙ e)))
found_cases q k v f o p h false e = h

pub found_by_key : (f : ℕ → ℕ) (q : ℕ) (es : List (ℕ × ℕ))
    → lookup (is_at (nat_cmp q)) (map (λ (e : ℕ × ℕ). (e.0, f e.0)) es) ≡ cond (is_some_ (lookup (is_at (nat_cmp q)) es)) (Some (f q)) None
found_by_key f q [] = refl
found_by_key f q (e ∷ es) =
    found_cases q e.0 e.1 f (lookup (is_at (nat_cmp q)) es) (lookup (is_at (nat_cmp q)) (map (λ (x : ℕ × ℕ). (x.0, f x.0)) es)) (found_by_key f q es) (is_eq (nat_cmp q e.0)) refl

pub same_keys : (f : ℕ → ℕ) (es : List (ℕ × ℕ)) → keys_of (map (λ (e : ℕ × ℕ). (e.0, f e.0)) es) ≡ keys_of es
same_keys f [] = refl
same_keys f (e ∷ es) = ap (λ ks. e.0 ∷ ks) (same_keys f es)

pub there_cases : (b : Bool) (s : ℕ) → is_some_ (cond b (Some s) None) ≡ b
there_cases true s = refl
there_cases false s = refl
