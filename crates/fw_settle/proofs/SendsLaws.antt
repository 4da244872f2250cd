-- What a sequence sent is told epoch by epoch, as its table has it.
use Rattle.std.proofs.Common.{◌≡◌, ℕ, suc, ◌+◌, ◌-◌, ◌<◌, ◌≤◌, ◌^◌, ◌&&◌, Bool, true, false, not, cond, List, [], ◌∷◌, ◌++◌, length, get_or, take, Option, Some, None, refl, sym, ◌∙◌, ap, subst, inl, inr, arith}
use Rattle.std.specs.Prelude.{slice_get, nat_lt, nat_le}
use Rattle.std.specs.List.{AllByRecursion}
use Rattle.std.specs.Option.{option_map_or}
use Rattle.std.specs.Ordering.{is_lt}
use Rattle.std.proofs.lemmas.Bool.{cases_Bool, cases_eq, cases_lt, and_from, lt-ltb}
use Rattle.std.proofs.lemmas.Bool.Decides.{nat_tests}
use Rattle.std.proofs.lemmas.List.{length-append, get_or_append_left, take_more}
use Rattle.std.proofs.lemmas.List.Elements.{recursion_from_All}
use Rattle.std.proofs.lemmas.Option.{slice_get-get_or}
use Rattle.std.proofs.Math.Seq.{get_or-append_seam}
use Rattle.fw_lemmas.proofs.Bools.{two_ways}
use Rattle.fw_lemmas.proofs.Each.{each-weaker, each-append, each-prefix, each-suffix}
use Rattle.fw_lemmas.proofs.Lists.{last_of}
use Rattle.fw_time.specs.Stamp.{Stamp, leq, same, stamp_cmp}
use Rattle.fw_time.proofs.StampLaws.{same-is}
use Rattle.fw_frontier.specs.Frontier.{Frontier}
use Rattle.fw_frontier.specs.Front.{Front, inside}
use Rattle.fw_frontier.specs.declared.state.SentCount.{SentCount}
use Rattle.fw_flow.specs.Projection.{table_count}
use Rattle.fw_flow.specs.SentTable.{EpochsAscend}
use Rattle.fw_bytes.specs.Sound.{IsStamp, IsSentCount, each_may_follow, may_follow_counts}
use Rattle.fw_stands.specs.Written.{told_inside}
use Rattle.fw_settle.specs.Checkpoints.{AreSendsOf, is_stamp_since, told_epochs}
use Rattle.fw_settle.specs.Sends.{IsEpochLimit, IsFirstSince, is_last_of, HasTaken, HasCount, HasSends}

-- the last of a list is that of its rest, if there is one
last_step : {A : Type 0} (x y : A) (zs : List A) → slice_get (x ∷ y ∷ zs) (length (x ∷ y ∷ zs) - 1) ≡ slice_get (y ∷ zs) (length (y ∷ zs) - 1)
last_step x y zs =
    let e : length (x ∷ y ∷ zs) - 1 ≡ suc (length (y ∷ zs) - 1) = omega arith in
    ap (slice_get (x ∷ y ∷ zs)) e

-- ---- the order of the counts

-- the stamp of a count is one number, from the first on
pub record IsFrom (n : ℕ) (s : SentCount) : Type 0 where
  pub epoch : ℕ
  pub is : s.cause ≡ epoch ∷ []
  pub from : n ≤ epoch
  pub some : 0 < s.count

-- each stamp is one number, at least the first and greater than those before it, and each count is of some
abbrev Rise : ℕ → List SentCount → Type 0
Rise n [] = Unit {0}
Rise n (s ∷ ss) = (e : IsFrom n s) × Rise (suc e.epoch) ss

-- the stamp of a count is one number, below the limit
abbrev IsBelow : ℕ → SentCount → Type 0
IsBelow limit s = (x : ℕ) × (s.cause ≡ x ∷ []) × (x < limit)

abbrev AreBelow : ℕ → List SentCount → Type 0
AreBelow limit ss = AllByRecursion (IsBelow limit) ss

same-number : (x y : ℕ) → x ∷ [] ≡ y ∷ [] → x ≡ y
same-number x y e = cc

rise-more : (n x count : ℕ) (ss : List SentCount) → Rise n ss → AreBelow x ss → n ≤ x → 0 < count → Rise n (ss ++ record { cause = x ∷ []; count = count } ∷ [])
rise-more n x count [] r b l some = (record { epoch = x; is = refl; from = l; some = some }, tt)
rise-more n x count (s ∷ ss) r b l some =
    let e = r.0 in
    let same : e.epoch ≡ b.0.0 = same-number e.epoch b.0.0 (sym e.is ∙ b.0.1) in
    let below = b.0.2 in
    (e, rise-more (suc e.epoch) x count ss r.1 b.1 (omega arith) some)

rise-less : (n : ℕ) (ss ts : List SentCount) → Rise n (ss ++ ts) → Rise n ss
rise-less n [] ts r = tt
rise-less n (s ∷ ss) ts r = (r.0, rise-less (suc r.0.epoch) ss ts r.1)

-- the last one is greater than those before it
before-last : (n x count : ℕ) (ss : List SentCount) → Rise n (ss ++ record { cause = x ∷ []; count = count } ∷ []) → AreBelow x ss
before-last n x count [] r = tt
before-last n x count (s ∷ ss) r = ((r.0.epoch, r.0.is, up (suc r.0.epoch) ss r.1), before-last (suc r.0.epoch) x count ss r.1)
  where
    up : (m : ℕ) (ts : List SentCount) → Rise m (ts ++ record { cause = x ∷ []; count = count } ∷ []) → m ≤ x
    up m [] q = let same = same-number x q.0.epoch q.0.is in let from = q.0.from in omega arith
    up m (t ∷ ts) q = let from = q.0.from in let rest = up (suc q.0.epoch) ts q.1 in omega arith

-- where none is beyond a number and the last is not of it, all are below it
below-other : (n x : ℕ) (ss : List SentCount) → Rise n ss → AreBelow (suc x) ss → is_last_of (x ∷ []) ss ≡ false → AreBelow x ss
below-other n x ss r b other = split ss refl
  where
    one : (s : SentCount) → IsBelow (suc x) s → same s.cause (x ∷ []) ≡ false → IsBelow x s
    one s k o = (k.0, k.1, lower k.0 k.2 (ap (λ c. same c (x ∷ [])) (sym k.1) ∙ o))
      where
        lower : (y : ℕ) → y < suc x → same (y ∷ []) (x ∷ []) ≡ false → y < x
        lower y l q = elim (cases_eq y x) [
          | inl e ↦ absurd (two_ways (same (y ∷ []) (x ∷ [])) (grind (arith, nat_tests)) q)
          | inr d ↦ omega (arith, l, d)
        ]

    go : (m : ℕ) (s : SentCount) (ts : List SentCount) → Rise m (s ∷ ts) → AreBelow (suc x) (s ∷ ts) → is_last_of (x ∷ []) (s ∷ ts) ≡ false → AreBelow x (s ∷ ts)
    go m s [] q k o = (one s k.0 o, tt)
    go m s (t ∷ ts) q k o =
        let e = q.0 in
        let f = q.1.0 in
        let from = f.from in
        let l = k.1.0 in
        let alike = same-number f.epoch l.0 (sym f.is ∙ l.1) in
        let below = l.2 in
        ((e.epoch, e.is, omega arith), go (suc e.epoch) t ts q.1 k.1 (ap (λ o. option_map_or (λ (last : SentCount). same last.cause (x ∷ [])) o false) (sym (last_step s t ts)) ∙ o))

    split : (ts : List SentCount) → ss ≡ ts → AreBelow x ss
    split [] e = subst (AreBelow x) (sym e) tt
    split (t ∷ ts) e =
        subst (AreBelow x) (sym e) (go n t ts (subst (Rise n) e r) (subst (AreBelow (suc x)) e b) (ap (is_last_of (x ∷ [])) (sym e) ∙ other))

-- ---- they may stand one after the other

number-first : (x y : ℕ) → x < y → is_lt (stamp_cmp (x ∷ []) (y ∷ [])) ≡ true
number-first x y l = grind (arith, nat_tests)

follow-last : (before : List SentCount) (s : SentCount) (x : ℕ) (ss : List SentCount) → s.cause ≡ x ∷ [] → Rise (suc x) ss
    → each_may_follow may_follow_counts (before ++ s ∷ []) ss ≡ true
follow-last before s x [] e r = refl
follow-last before s x (t ∷ ss) e r =
    let f = r.0 in
    let from = f.from in
    let next =
    ap (λ o. option_map_or (λ (last : SentCount). is_lt (stamp_cmp last.cause t.cause)) o true) (last_of before s)
    ∙ ap (λ c. is_lt (stamp_cmp c t.cause)) e ∙ ap (λ c. is_lt (stamp_cmp (x ∷ []) c)) f.is ∙ number-first x f.epoch from in
    and_from (may_follow_counts (before ++ s ∷ []) t) (each_may_follow may_follow_counts ((before ++ s ∷ []) ++ t ∷ []) ss)
    (and_from (nat_lt 0 t.count) (option_map_or (λ (last : SentCount). is_lt (stamp_cmp last.cause t.cause)) (slice_get (before ++ s ∷ []) (length (before ++ s ∷ []) - 1)) true)
    (lt-ltb 0 t.count f.some) next)
    (follow-last (before ++ s ∷ []) t f.epoch ss f.is r.1)

rise-follow : (n : ℕ) (ss : List SentCount) → Rise n ss → each_may_follow may_follow_counts [] ss ≡ true
rise-follow n [] r = refl
rise-follow n (s ∷ ss) r =
    and_from (may_follow_counts [] s) (each_may_follow may_follow_counts (s ∷ []) ss)
    (and_from (nat_lt 0 s.count) true (lt-ltb 0 s.count r.0.some) refl) (follow-last [] s r.0.epoch ss r.0.is r.1)

-- ---- what they tell

told-append : (g : Frontier) (ss ts : List SentCount) → told_inside g (ss ++ ts) ≡ told_inside g ss + told_inside g ts
told-append g [] ts = let e : told_inside g ts ≡ 0 + told_inside g ts = omega arith in e
told-append g (s ∷ ss) ts = let rest = told-append g ss ts in omega (arith, rest)

count-more : (g : Frontier) (table : List (ℕ × ℕ)) (x count : ℕ) → table_count g (table ++ (x, count) ∷ []) ≡ table_count g table + cond (g (x ∷ [])) count 0
count-more g [] x count = by (g (x ∷ []))
  where
    by : (b : Bool) → cond b (count + 0) 0 ≡ 0 + cond b count 0
    by true = omega arith
    by false = omega arith
count-more g (e ∷ table) x count = by (g (e.0 ∷ [])) (count-more g table x count)
  where
    by : (b : Bool) → table_count g (table ++ (x, count) ∷ []) ≡ table_count g table + cond (g (x ∷ [])) count 0
        → cond b (e.1 + table_count g (table ++ (x, count) ∷ [])) (table_count g (table ++ (x, count) ∷ []))
        ≡ cond b (e.1 + table_count g table) (table_count g table) + cond (g (x ∷ [])) count 0
    by true h = omega (arith, h)
    by false h = h

-- ---- one epoch more

-- each of the entries is at most at an epoch
abbrev AreUpTo : ℕ → List (ℕ × ℕ) → Type 0
AreUpTo x table = AllByRecursion (λ (e : ℕ × ℕ). e.0 ≤ x) table

-- What is told of a table as far as it was read.
pub record AreToldOf (among : Frontier) (table : List (ℕ × ℕ)) (sends : List SentCount) : Type 0 where
  pub told : (g : Frontier) → told_inside g sends ≡ table_count (λ t. among t && g t) table
  pub parts : AllByRecursion IsSentCount sends
  pub below : (x : ℕ) → AreUpTo x table → AreBelow (suc x) sends
  pub rise : EpochsAscend table → Rise 0 sends

pub told-none : (among : Frontier) → AreToldOf among [] []
told-none among = record { told = λ g. refl; parts = tt; below = λ x a. tt; rise = λ o. tt }

-- of a table of which no epoch is among them nothing is told
pub told-nothing : (among : Frontier) (table : List (ℕ × ℕ)) → AllByRecursion (λ (e : ℕ × ℕ). among (e.0 ∷ []) ≡ false) table → AreToldOf among table []
told-nothing among table out = record { told = λ g. none g table out; parts = tt; below = λ x a. tt; rise = λ o. tt }
  where
    none : (g : Frontier) (es : List (ℕ × ℕ)) → AllByRecursion (λ (e : ℕ × ℕ). among (e.0 ∷ []) ≡ false) es → 0 ≡ table_count (λ t. among t && g t) es
    none g [] a = refl
    none g (e ∷ es) a =
        let rest = table_count (λ t. among t && g t) es in
        none g es a.1 ∙ sym (ap (λ b. cond (b && g (e.0 ∷ [])) (e.1 + rest) rest) a.0)

pub told-all : (among : Frontier) (table : List (ℕ × ℕ)) (sends : List SentCount) → AreToldOf among table sends → AreSendsOf among table sends
told-all among table sends a = record { told = a.told; parts = a.parts; follow = λ o. rise-follow 0 sends (a.rise o) }

-- the order of a table and one entry more
order-less : (table : List (ℕ × ℕ)) (x count : ℕ) → EpochsAscend (table ++ (x, count) ∷ []) → EpochsAscend table × AreUpTo x table
order-less table x count o =
    let all = table ++ (x, count) ∷ [] in
    let long : length all ≡ length table + 1 = length-append table ((x, count) ∷ []) in (
      λ i j d l m. subst (λ (e : ℕ × ℕ). e.0 ≤ (get_or table j d).0) (get_or_append_left table ((x, count) ∷ []) d i (omega (arith, l, m)))
          (subst (λ (e : ℕ × ℕ). (get_or all i d).0 ≤ e.0) (get_or_append_left table ((x, count) ∷ []) d j m) (o i j d l (omega (arith, m, long)))),
      recursion_from_All (λ (e : ℕ × ℕ). e.0 ≤ x) table (λ k d l.
          subst (λ (e : ℕ × ℕ). e.0 ≤ x) (get_or_append_left table ((x, count) ∷ []) d k l)
          (subst (λ (e : ℕ × ℕ). (get_or all k d).0 ≤ e.0) (get_or-append_seam table (x, count) [] d) (o k (length table) d (omega (arith, l)) (omega (arith, long))))),
    )

-- what is told of one stamp
told-one : (g : Frontier) (cause : Stamp) (count : ℕ) → told_inside g (record { cause = cause; count = count } ∷ []) ≡ cond (g cause) count 0
told-one g cause count = by (g cause)
  where
    by : (b : Bool) → cond b count 0 + 0 ≡ cond b count 0
    by b = omega arith

sum-cond : (b : Bool) (m n : ℕ) → cond b (m + n) 0 ≡ cond b m 0 + cond b n 0
sum-cond true m n = refl
sum-cond false m n = refl

-- what is told once a count is put
told-put : (g : Frontier) (cause : Stamp) (count : ℕ) (old new : List SentCount) → HasCount cause count old new
    → told_inside g new ≡ told_inside g old + cond (g cause) count 0
told-put g cause count old new h =
    let all = told-append g h.left (record { cause = cause; count = h.before + count } ∷ []) in
    let here = told-one g cause (h.before + count) ∙ sum-cond (g cause) h.before count in
    let is = ap (told_inside g) h.put in
    elim h.taken [
      | inl same ↦
          let was = ap (told_inside g) same ∙ told-append g h.left (record { cause = cause; count = h.before } ∷ []) in
          let one = told-one g cause h.before in
          omega (arith, all, here, is, was, one)
      | inr other ↦
          let left : told_inside g h.left ≡ told_inside g old = ap (told_inside g) other.2 in
          let none : ◌≡◌ {A = ℕ} (cond (g cause) h.before 0) (cond (g cause) 0 0) = ap (λ n. cond (g cause) n 0) other.1 in
          let zero = cond-same (g cause) in
          omega (arith, all, here, is, left, none, zero)
    ]
  where
    cond-same : (b : Bool) → ◌≡◌ {A = ℕ} (cond b 0 0) 0
    cond-same true = refl
    cond-same false = refl

-- the counts that are left have what the old ones had
left-each : (P : SentCount → Type 0) (cause : Stamp) (count : ℕ) (old left : List SentCount) → HasTaken cause count old left → AllByRecursion P old
    → AllByRecursion P left
left-each P cause count old left (inl same) a = each-prefix P left (record { cause = cause; count = count } ∷ []) (subst (AllByRecursion P) same a)
left-each P cause count old left (inr other) a = subst (AllByRecursion P) (sym other.2) a

stamp-of_number : (x : ℕ) → x < 2 ^ 32 → IsStamp (x ∷ [])
stamp-of_number x l = record { some = omega arith; few = omega arith; fit = (l, tt) }

parts-put : (x count : ℕ) (old new : List SentCount) → x < 2 ^ 32 → HasCount (x ∷ []) count old new → AllByRecursion IsSentCount old → AllByRecursion IsSentCount new
parts-put x count old new l h a =
    subst (AllByRecursion IsSentCount) (sym h.put)
    (each-append IsSentCount h.left (record { cause = x ∷ []; count = h.before + count } ∷ []) (left-each IsSentCount (x ∷ []) h.before old h.left h.taken a)
    (record { cause = stamp-of_number x l; count = h.fits }, tt))

below-put : (limit x count : ℕ) (old new : List SentCount) → x < limit → HasCount (x ∷ []) count old new → AreBelow limit old → AreBelow limit new
below-put limit x count old new l h a =
    subst (AreBelow limit) (sym h.put)
    (each-append (IsBelow limit) h.left (record { cause = x ∷ []; count = h.before + count } ∷ []) (left-each (IsBelow limit) (x ∷ []) h.before old h.left h.taken a)
    ((x, refl, l), tt))

rise-put : (x count : ℕ) (old new : List SentCount) → (count ≡ 0 → ⊥) → HasCount (x ∷ []) count old new → Rise 0 old → AreBelow (suc x) old → Rise 0 new
rise-put x count old new some h r b =
    let left = left-rises h.taken in
    subst (Rise 0) (sym h.put) (rise-more 0 x (h.before + count) h.left left.0 left.1 (omega arith) (more h.before count some))
  where
    more : (m n : ℕ) → (n ≡ 0 → ⊥) → 0 < m + n
    more m n k = elim (cases_lt 0 (m + n)) [ inl l ↦ l | inr l ↦ absurd (k (omega (arith, l))) ]

    left-rises : HasTaken (x ∷ []) h.before old h.left → Rise 0 h.left × AreBelow x h.left
    left-rises (inl same) =
        let q = subst (Rise 0) same r in
        (rise-less 0 h.left (record { cause = x ∷ []; count = h.before } ∷ []) q, before-last 0 x h.before h.left q)
    left-rises (inr other) = (subst (Rise 0) (sym other.2) r, subst (AreBelow x) (sym other.2) (below-other 0 x old r b other.0))

below-up : (x y : ℕ) (ss : List SentCount) → x ≤ y → AreBelow x ss → AreBelow y ss
below-up x y ss l a = each-weaker (IsBelow x) (IsBelow y) ss (λ s k. (k.0, k.1, (let m = k.2 in omega (arith, l, m)))) a

-- one entry more is told
pub told-more : (among : Frontier) (table : List (ℕ × ℕ)) (x count : ℕ) (old new : List SentCount) → AreToldOf among table old → HasSends (among (x ∷ [])) x count old new
    → AreToldOf among (table ++ (x, count) ∷ []) new
told-more among table x count old new a h = elim (cases_eq count 0) [
  | inl none ↦ stays (h.none none) (λ g. ap (λ n. cond (among (x ∷ []) && g (x ∷ [])) n 0) none ∙ zero (among (x ∷ []) && g (x ∷ [])))
  | inr some ↦ elim (cases_Bool (among (x ∷ []))) [
    | inl i ↦ grown (h.some some i) some i
    | inr o ↦ stays (h.out o) (λ g. ap (λ b. cond (b && g (x ∷ [])) count 0) o)
  ]
]
  where
    zero : (b : Bool) → ◌≡◌ {A = ℕ} (cond b 0 0) 0
    zero true = refl
    zero false = refl

    up : (y : ℕ) → AreUpTo y (table ++ (x, count) ∷ []) → (x ≤ y) × AreUpTo y table
    up y u = (
      (each-suffix (λ (e : ℕ × ℕ). e.0 ≤ y) table ((x, count) ∷ []) u).0,
      each-prefix (λ (e : ℕ × ℕ). e.0 ≤ y) table ((x, count) ∷ []) u,
    )

    stays : new ≡ old → ((g : Frontier) → cond (among (x ∷ []) && g (x ∷ [])) count 0 ≡ 0) → AreToldOf among (table ++ (x, count) ∷ []) new
    stays e none = subst (AreToldOf among (table ++ (x, count) ∷ [])) (sym e) (record {
      told = λ g. let was = a.told g in let more = count-more (λ t. among t && g t) table x count in let nothing = none g in omega (arith, was, more, nothing);
      parts = a.parts;
      below = λ y u. a.below y (up y u).1;
      rise = λ o. a.rise (order-less table x count o).0;
    })

    grown : HasCount (x ∷ []) count old new → (count ≡ 0 → ⊥) → among (x ∷ []) ≡ true → AreToldOf among (table ++ (x, count) ∷ []) new
    grown c some i = record {
      told = λ g.
          let was = a.told g in
          let more = count-more (λ t. among t && g t) table x count in
          let put = told-put g (x ∷ []) count old new c in
          let same : cond (among (x ∷ []) && g (x ∷ [])) count 0 ≡ cond (g (x ∷ [])) count 0 = ap (λ b. cond (b && g (x ∷ [])) count 0) i in
          omega (arith, was, more, put, same);
      parts = parts-put x count old new h.small c a.parts;
      below = λ y u. let l = (up y u).0 in below-put (suc y) x count old new (omega (arith, l)) c (a.below y (up y u).1);
      rise = λ o. let less = order-less table x count o in rise-put x count old new some c (a.rise less.0) (a.below x less.1);
    }

-- ---- for the loop

-- the last count, where it is of the stamp, is taken out
pub taken-last : (cause : Stamp) (old new : List SentCount) (x : SentCount) → is_last_of cause old ≡ true → old ≡ new ++ x ∷ [] → HasTaken cause x.count old new
taken-last cause old new x last is =
    let of_stamp : same x.cause cause ≡ true =
    sym (ap (λ o. option_map_or (λ (s : SentCount). same s.cause cause) o false) (last_of new x)) ∙ ap (is_last_of cause) (sym is) ∙ last in
    inl (subst (λ c. old ≡ new ++ record { cause = c; count = x.count } ∷ []) (same-is x.cause cause of_stamp) is)

-- the epochs from the first one on and below the limit are those inside since then
told-epoch : (since : Option Front) (f : Front) (first limit x : ℕ) → IsFirstSince since first → IsEpochLimit f limit → x < 2 ^ 32
    → (not (nat_lt x first) && nat_lt x limit) ≡ told_epochs since f (x ∷ [])
told-epoch since f first limit x from to l = ap (λ b. b && nat_lt x limit) (from x l) ∙ ap (λ b. is_stamp_since since (x ∷ []) && b) (to x l)

-- of epochs before the first one nothing is told
pub told-before : (since : Option Front) (f : Front) (first : ℕ) (table : List (ℕ × ℕ)) → IsFirstSince since first → first ≤ 2 ^ 32
    → AllByRecursion (λ (e : ℕ × ℕ). e.0 < first) table → AreToldOf (told_epochs since f) table []
told-before since f first table from few a =
    told-nothing (told_epochs since f) table
    (each-weaker (λ (e : ℕ × ℕ). e.0 < first) (λ (e : ℕ × ℕ). told_epochs since f (e.0 ∷ []) ≡ false) table
    (λ e l. ap (λ b. b && inside f (e.0 ∷ [])) (sym (from e.0 (omega (arith, few, l))) ∙ ap not (lt-ltb e.0 first l))) a)

pub told-next : (since : Option Front) (f : Front) (table : List (ℕ × ℕ)) (first limit i x count : ℕ) (old new : List SentCount) → IsFirstSince since first → IsEpochLimit f limit
    → i < length table → slice_get table i ≡ Some (x, count) → AreToldOf (told_epochs since f) (take i table) old
    → HasSends (not (nat_lt x first) && nat_lt x limit) x count old new → AreToldOf (told_epochs since f) (take (i + 1) table) new
told-next since f table first limit i x count old new from to l is a h =
    let among = told_epochs since f in
    let there : Some (get_or table i (x, count)) ≡ Some (x, count) = sym (slice_get-get_or table i (x, count) l) ∙ is in
    let here : get_or table i (x, count) ≡ (x, count) = cc in
    subst (λ t. AreToldOf among t new) (sym (take_more table i (x, count) l ∙ ap (λ e. take i table ++ e ∷ []) here))
    (told-more among (take i table) x count old new a (subst (λ b. HasSends b x count old new) (told-epoch since f first limit x from to h.small) h))

pub told-there : (table : List (ℕ × ℕ)) (i : ℕ) → i < length table → slice_get table i ≡ None → ⊥
told-there table i l is = let c : Some (get_or table i (0, 0)) ≡ None = sym (slice_get-get_or table i (0, 0) l) ∙ is in absurd (cc)

-- ---- the limit

-- a stamp of another length is at most no epoch
pub leq-other : (o : Stamp) (x : ℕ) → (length o ≡ 1 → ⊥) → leq o (x ∷ []) ≡ false
leq-other [] x d = refl
leq-other (y ∷ []) x d = absurd (d refl)
leq-other (y ∷ z ∷ o) x d = by (nat_le y x)
  where
    by : (b : Bool) → (b && false) ≡ false
    by true = refl
    by false = refl
