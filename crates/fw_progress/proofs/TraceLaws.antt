-- Kept stamps: one more of them, thinned inside a larger base, and those inside a cut.
use Rattle.std.proofs.Common.{◌≡◌, ◌⊎◌, inl, inr, ℕ, ◌<◌, Bool, true, false, not, ◌&&◌, ◌||◌, cond, List, [], ◌∷◌, ◌++◌, length, refl, sym, ap, subst, ◌∙◌, arith}
use Rattle.std.specs.Prelude.{filter}
use Rattle.std.specs.List.{AllByRecursion, Contains, list_any}
use Rattle.std.specs.BTreeMap.{is_at}
use Rattle.std.specs.BTreeSet.{insert_key}
use Rattle.std.specs.declared.cmp.Ordering.{Ordering}
use Rattle.std.specs.declared.cmp.Ordering.TheVariants.{Less, Equal, Greater}
use Rattle.std.specs.Ordering.{is_eq, is_lt, match_ordering}
use Rattle.std.proofs.lemmas.Bool.{and_parts, and_from, or_cases, or_left, or_right, cases_Bool, both_ways, false_from_ne_true, false≢true, not-true, or_from}
use Rattle.std.proofs.lemmas.List.Elements.{Contains-append_right}
use Rattle.std.proofs.Math.Bool.{or-false}
use Rattle.fw_lemmas.proofs.Each.{each-weaker, each-filter, each_of-filter, each-kept}
use Rattle.fw_time.specs.Stamp.{Stamp, leq, lesser, in_domain, stamp_cmp}
use Rattle.fw_time.specs.declared.stamp.Bounds.{Bounds}
use Rattle.fw_time.proofs.StampLaws.{leq-refl, leq-trans}
use Rattle.fw_frontier.specs.Frontier.{Frontier, Within, cover}
use Rattle.fw_frontier.specs.Front.{Front, inside, frontier_of}
use Rattle.fw_frontier.proofs.InsideLaws.{inside-closed}
use Rattle.fw_flow.specs.Dataflow.{Dataflow}
use Rattle.fw_model.specs.EventStamps.{base_of_sent, tells_sent}
use Rattle.fw_model.specs.Thinned.{IsBelowKept, IsThinned, IsThinnedIf}
use Rattle.fw_model.proofs.CmpLaws.{stamp_cmp-equal}
use Rattle.fw_model.proofs.ThinnedLaws.{each-contained, thinned-covers}
use Rattle.fw_progress.specs.Traces.{has_greater_inside, thinned, AreOf, StandForOneMore, IsSettledTo, StandsInside}

-- ---- what a list has

pub contains-head : (s : Stamp) (ss : List Stamp) → Contains (s ∷ ss) s
contains-head s ss = (0, omega arith, refl)

pub contains-tail : (s : Stamp) (ss : List Stamp) (t : Stamp) → Contains ss t → Contains (s ∷ ss) t
contains-tail s ss t c = Contains-append_right (s ∷ []) ss t c

-- each of a list is so, where each that it has is
pub each-had : (P : Stamp → Type 0) (ss : List Stamp) → ((s : Stamp) → Contains ss s → P s) → AllByRecursion P ss
each-had P [] f = tt
each-had P (s ∷ ss) f = (f s (contains-head s ss), each-had P ss (λ t c. f t (contains-tail s ss t c)))

pub each-itself : (ss : List Stamp) → AllByRecursion (Contains ss) ss
each-itself ss = each-had (Contains ss) ss (λ s c. c)

pub has-passed : (test : Stamp → Bool) (ss : List Stamp) (s : Stamp) → Contains ss s → test s ≡ true → Contains (filter test ss) s
has-passed test ss s c k =
    each-contained (λ t. test t ≡ true → Contains (filter test ss) t) s ss c (each_of-filter (Contains (filter test ss)) test ss (each-itself (filter test ss))) k

-- ---- one stamp more

pub insert-each : (P : Stamp → Type 0) (ss : List Stamp) (at : Stamp) → P at → AllByRecursion P ss → AllByRecursion P (insert_key stamp_cmp ss at)
insert-each P [] at p a = (p, tt)
insert-each P (s ∷ ss) at p a = by (stamp_cmp at s) (insert-each P ss at p a.1)
  where
    by : (o : Ordering) → AllByRecursion P (insert_key stamp_cmp ss at) → AllByRecursion P (match_ordering o (at ∷ s ∷ ss) (s ∷ ss) (s ∷ insert_key stamp_cmp ss at))
    by Less rest = (p, a)
    by Equal rest = a
    by Greater rest = (a.0, rest)

pub each_of-insert : (P : Stamp → Type 0) (ss : List Stamp) (at : Stamp) → AllByRecursion P (insert_key stamp_cmp ss at) → P at × AllByRecursion P ss
each_of-insert P [] at a = (a.0, tt)
each_of-insert P (s ∷ ss) at a = by (stamp_cmp at s) refl a (λ b. each_of-insert P ss at b)
  where
    by : (o : Ordering) → stamp_cmp at s ≡ o → AllByRecursion P (match_ordering o (at ∷ s ∷ ss) (s ∷ ss) (s ∷ insert_key stamp_cmp ss at))
        → (AllByRecursion P (insert_key stamp_cmp ss at) → P at × AllByRecursion P ss) → P at × AllByRecursion P (s ∷ ss)
    by Less e b rest = (b.0, b.1)
    by Equal e b rest = (subst P (sym (stamp_cmp-equal at s (ap is_eq e))) b.0, b)
    by Greater e b rest = let r = rest b.1 in (r.0, (b.0, r.1))

-- a kept stamp that is greater stays so in a longer list
keeps-below : (base : Frontier) (kept new : List Stamp) → ((s : Stamp) → Contains kept s → base s ≡ true → Contains new s) → (t : Stamp) → IsBelowKept base kept t → IsBelowKept base new t
keeps-below base kept new f t k = record { above = k.above; is_kept = f k.above k.is_kept k.inside; inside = k.inside; below = k.below }

-- a stamp that is there, and that none is after, is inserted without change
pub insert_key-there : (ss : List Stamp) (at : Stamp) → AllByRecursion (λ s. is_lt (stamp_cmp at s) ≡ false) ss → list_any (is_at (stamp_cmp at)) ss ≡ true → insert_key stamp_cmp ss at ≡ ss
insert_key-there [] at a h = absurd (false≢true h)
insert_key-there (s ∷ ss) at a h = by (stamp_cmp at s) refl (insert_key-there ss at a.1)
  where
    by : (c : Ordering) → stamp_cmp at s ≡ c → (list_any (is_at (stamp_cmp at)) ss ≡ true → insert_key stamp_cmp ss at ≡ ss)
        → match_ordering c (at ∷ s ∷ ss) (s ∷ ss) (s ∷ insert_key stamp_cmp ss at) ≡ s ∷ ss
    by Less k ih = absurd (both_ways (is_lt (stamp_cmp at s)) a.0 (ap is_lt k))
    by Equal k ih = refl
    by Greater k ih = ap (λ xs. s ∷ xs) (ih (sym (ap (λ c. is_eq c || list_any (is_at (stamp_cmp at)) ss) k) ∙ h))

pub thinned-add : (base : Frontier) (all kept : List Stamp) (at : Stamp) → IsThinned base all kept → IsThinned base (at ∷ all) (insert_key stamp_cmp kept at)
thinned-add base all kept at h =
    let new = insert_key stamp_cmp kept at in
    let has = each_of-insert (Contains new) kept at (each-itself new) in
    let stays : (s : Stamp) → Contains kept s → Contains new s = λ s c. each-contained (Contains new) s kept c has.1 in
    record {
      among = insert-each (Contains (at ∷ all)) kept at (contains-head at all)
          (each-weaker (Contains all) (Contains (at ∷ all)) kept (λ s c. contains-tail at all s c) h.among);
      outside = ((λ o. has.0), each-weaker (λ t. base t ≡ false → Contains kept t) (λ t. base t ≡ false → Contains new t) all (λ t f o. stays t (f o)) h.outside);
      inside = (
        (λ i. record { above = at; is_kept = has.0; inside = i; below = leq-refl at }),
        each-weaker (λ t. base t ≡ true → IsBelowKept base kept t) (λ t. base t ≡ true → IsBelowKept base new t) all
            (λ t f i. keeps-below base kept new (λ s c b. stays s c) t (f i)) h.inside,
      );
    }

-- ---- the greatest ones

lesser-parts : (s t : Stamp) → lesser s t ≡ true → (leq s t ≡ true) × (leq t s ≡ false)
lesser-parts s t k = let p = and_parts (leq s t) (not (leq t s)) k in (p.0, not-true (leq t s) p.1)

lesser-from : (s t : Stamp) → leq s t ≡ true → leq t s ≡ false → lesser s t ≡ true
lesser-from s t l n = and_from (leq s t) (not (leq t s)) l (ap not n)

-- below what is lesser
lesser-below : (s t u : Stamp) → leq s t ≡ true → lesser t u ≡ true → lesser s u ≡ true
lesser-below s t u l k =
    let p = lesser-parts t u k in
    lesser-from s u (leq-trans s t u l p.0) (false_from_ne_true (leq u s) (λ e. both_ways (leq u t) p.1 (leq-trans u s t e l)))

-- lesser than what is below
lesser-above : (s t u : Stamp) → lesser s t ≡ true → leq t u ≡ true → lesser s u ≡ true
lesser-above s t u k l =
    let p = lesser-parts s t k in
    lesser-from s u (leq-trans s t u p.0 l) (false_from_ne_true (leq u s) (λ e. both_ways (leq t s) p.1 (leq-trans t u s l e)))

lesser-irrefl : (s : Stamp) → lesser s s ≡ false
lesser-irrefl s = false_from_ne_true (lesser s s) (λ k. both_ways (leq s s) (lesser-parts s s k).1 (leq-refl s))

has-below : (f : Front) (ss : List Stamp) (s t : Stamp) → leq s t ≡ true → has_greater_inside f ss t ≡ true → has_greater_inside f ss s ≡ true
has-below f [] s t l k = k
has-below f (x ∷ xs) s t l k = elim (or_cases (inside f x && lesser t x) (has_greater_inside f xs t) k) [
  | inl e ↦
      let p = and_parts (inside f x) (lesser t x) e in
      or_left (inside f x && lesser s x) (has_greater_inside f xs s) (and_from (inside f x) (lesser s x) p.0 (lesser-below s t x l p.1))
  | inr e ↦ or_right (inside f x && lesser s x) (has_greater_inside f xs s) (has-below f xs s t l e)
]

-- a stamp at or above this one that is inside, and than which none of these that are inside is greater
record IsGreatest (f : Front) (ss : List Stamp) (s m : Stamp) : Type 0 where
  there : (s ≡ m) ⊎ Contains ss m
  inside_f : inside f m ≡ true
  below : leq s m ≡ true
  none : has_greater_inside f ss m ≡ false

greatest : (f : Front) (ss : List Stamp) (s : Stamp) → inside f s ≡ true → (m : Stamp) × IsGreatest f ss s m
greatest f [] s i = (s, record { there = inl refl; inside_f = i; below = leq-refl s; none = refl })
greatest f (x ∷ xs) s i =
    let g = greatest f xs s i in
    let m = g.0 in
    let k = g.1 in
    elim (cases_Bool (inside f x && lesser m x)) [
      | inl e ↦
          let p = and_parts (inside f x) (lesser m x) e in
          let l = (lesser-parts m x p.1).0 in (
            x,
            record {
              there = inr (contains-head x xs);
              inside_f = p.0;
              below = leq-trans s m x k.below l;
              none = or_from (inside f x && lesser x x) (has_greater_inside f xs x)
                  (false_from_ne_true (inside f x && lesser x x) (λ b. both_ways (lesser x x) (lesser-irrefl x) (and_parts (inside f x) (lesser x x) b).1))
                  (false_from_ne_true (has_greater_inside f xs x) (λ b. both_ways (has_greater_inside f xs m) k.none (has-below f xs m x l b)));
            },
          )
      | inr e ↦ (
        m,
        record {
          there = later k.there;
          inside_f = k.inside_f;
          below = k.below;
          none = or_from (inside f x && lesser m x) (has_greater_inside f xs m) e k.none;
        },
      )
    ]
  where
    later : {m : Stamp} → (s ≡ m) ⊎ Contains xs m → (s ≡ m) ⊎ Contains (x ∷ xs) m
    later {m} (inl e) = inl e
    later {m} (inr c) = inr (contains-tail x xs m c)

-- ---- thinned inside a larger base

has-inside : (f : Front) (ss : List Stamp) (s : Stamp) → has_greater_inside f ss s ≡ true → inside f s ≡ true
has-inside f [] s k = absurd (cc)
has-inside f (x ∷ xs) s k = elim (or_cases (inside f x && lesser s x) (has_greater_inside f xs s) k) [
  | inl e ↦ let p = and_parts (inside f x) (lesser s x) e in inside-closed f s x (lesser-parts s x p.1).0 p.0
  | inr e ↦ has-inside f xs s e
]

-- what the thinned ones have at or above a stamp that is inside
thinned-above : (f : Front) (kept : List Stamp) (s : Stamp) → Contains kept s → inside f s ≡ true
    → (m : Stamp) × Contains (thinned f kept) m × (inside f m ≡ true) × (leq s m ≡ true)
thinned-above f kept s c i =
    let g = greatest f kept s i in
    let k = g.1 in
    let there : Contains kept g.0 = elim k.there [ inl e ↦ subst (Contains kept) e c | inr d ↦ d ] in
    (g.0, has-passed (λ t. not (has_greater_inside f kept t)) kept g.0 there (ap not k.none), k.inside_f, k.below)

outside-domain : (bounds : Bounds) (f : Front) (t : Stamp) → in_domain bounds t ≡ true → frontier_of bounds f t ≡ inside f t
outside-domain bounds f t d = ap (λ b. b && inside f t) d

pub thinned-settle : (bounds : Bounds) (base : Frontier) (all kept : List Stamp) (f : Front) → AreOf bounds all → Within base (frontier_of bounds f)
    → IsThinned base all kept → IsThinned (frontier_of bounds f) all (thinned f kept)
thinned-settle bounds base all kept f d w h = record {
  among = each-kept (Contains all) (λ s. not (has_greater_inside f kept s)) kept h.among;
  outside = each-had (λ t. frontier_of bounds f t ≡ false → Contains (thinned f kept) t) all outside;
  inside = each-had (λ t. frontier_of bounds f t ≡ true → IsBelowKept (frontier_of bounds f) (thinned f kept) t) all within;
}
  where
    of_domain : (t : Stamp) → Contains all t → in_domain bounds t ≡ true
    of_domain t c = each-contained (λ s. in_domain bounds s ≡ true) t all c d

    outside : (t : Stamp) → Contains all t → frontier_of bounds f t ≡ false → Contains (thinned f kept) t
    outside t c o =
        let out : inside f t ≡ false = sym (outside-domain bounds f t (of_domain t c)) ∙ o in
        let before : base t ≡ false = false_from_ne_true (base t) (λ e. both_ways (frontier_of bounds f t) o (w t e)) in
        has-passed (λ s. not (has_greater_inside f kept s)) kept t (each-contained (λ s. base s ≡ false → Contains kept s) t all c h.outside before)
        (ap not (false_from_ne_true (has_greater_inside f kept t) (λ e. both_ways (inside f t) out (has-inside f kept t e))))

    from : (t k : Stamp) → Contains kept k → leq t k ≡ true → frontier_of bounds f k ≡ true → IsBelowKept (frontier_of bounds f) (thinned f kept) t
    from t k c l i =
        let g = thinned-above f kept k c (and_parts (in_domain bounds k) (inside f k) i).1 in
        let there = each-contained (Contains all) g.0 (thinned f kept) g.1 (each-kept (Contains all) (λ s. not (has_greater_inside f kept s)) kept h.among) in
        record {
          above = g.0;
          is_kept = g.1;
          inside = outside-domain bounds f g.0 (of_domain g.0 there) ∙ g.2;
          below = leq-trans t k g.0 l g.3;
        }

    within : (t : Stamp) → Contains all t → frontier_of bounds f t ≡ true → IsBelowKept (frontier_of bounds f) (thinned f kept) t
    within t c i = elim (cases_Bool (base t)) [
      | inl e ↦
          let k = each-contained (λ s. base s ≡ true → IsBelowKept base kept s) t all c h.inside e in
          from t k.above k.is_kept k.below (w k.above k.inside)
      | inr e ↦ from t t (each-contained (λ s. base s ≡ false → Contains kept s) t all c h.outside e) (leq-refl t) i
    ]

-- ---- the loop that finds the greatest ones

raise-dropped : (a b c : Bool) → (a ≡ true → c ≡ true) → (b || c) ≡ ((a || b) || c)
raise-dropped false b c f = refl
raise-dropped true true c f = refl
raise-dropped true false c f = f refl

or-assoc : (a b c : Bool) → (a || (b || c)) ≡ ((a || b) || c)
or-assoc true b c = refl
or-assoc false b c = refl

-- a stamp taken up in place of those at or below it
pub any-raised : (tops : List Stamp) (at s : Stamp) → list_any (lesser s) (filter (λ t. not (leq t at)) tops ++ at ∷ []) ≡ (list_any (lesser s) tops || lesser s at)
any-raised [] at s = or-false (lesser s at)
any-raised (t ∷ tops) at s = by (leq t at) refl (any-raised tops at s)
  where
    left : List Stamp
    left = filter (λ u. not (leq u at)) tops

    by : (b : Bool) → leq t at ≡ b → list_any (lesser s) (left ++ at ∷ []) ≡ (list_any (lesser s) tops || lesser s at)
        → list_any (lesser s) (cond (not b) (t ∷ left) left ++ at ∷ []) ≡ ((lesser s t || list_any (lesser s) tops) || lesser s at)
    by true e ih = ih ∙ raise-dropped (lesser s t) (list_any (lesser s) tops) (lesser s at) (λ k. lesser-above s t at k e)
    by false e ih = ap (λ b. lesser s t || b) ih ∙ or-assoc (lesser s t) (list_any (lesser s) tops) (lesser s at)

-- a stamp taken up in place of a top that is at or below it
pub top-raised : (top at s : Stamp) → leq top at ≡ true → lesser s at ≡ (lesser s top || lesser s at)
top-raised top at s l = by (lesser s top) (λ k. lesser-above s top at k l)
  where
    by : (a : Bool) → (a ≡ true → lesser s at ≡ true) → lesser s at ≡ (a || lesser s at)
    by true f = f refl
    by false f = refl

-- of one stamp at most none goes
pub thinned-few : (f : Front) (ss : List Stamp) → length ss < 2 → thinned f ss ≡ ss
thinned-few f [] l = refl
thinned-few f (s ∷ []) l =
    let none : (inside f s && lesser s s) ≡ false = false_from_ne_true (inside f s && lesser s s) (λ b. both_ways (lesser s s) (lesser-irrefl s) (and_parts (inside f s) (lesser s s) b).1) in
    ap (λ b. cond (not (b || false)) (s ∷ []) []) none
thinned-few f (s ∷ t ∷ ss) l = absurd (omega (arith, l))

-- ---- filters

-- a front and its frontier pass the same stamps of a domain
pub filter-domain : (bounds : Bounds) (f : Front) (ss : List Stamp) → AreOf bounds ss → filter (inside f) ss ≡ filter (frontier_of bounds f) ss
filter-domain bounds f [] d = refl
filter-domain bounds f (s ∷ ss) d =
    ap (λ b. cond b (s ∷ filter (inside f) ss) (filter (inside f) ss)) (sym (outside-domain bounds f s d.0))
    ∙ ap (λ ts. cond (frontier_of bounds f s) (s ∷ ts) ts) (filter-domain bounds f ss d.1)

-- stamps that are among those of a domain are the domain's
pub among-domain : (bounds : Bounds) (all kept : List Stamp) → AreOf bounds all → AllByRecursion (Contains all) kept → AreOf bounds kept
among-domain bounds all kept d among =
    each-weaker (Contains all) (λ s. in_domain bounds s ≡ true) kept (λ s c. each-contained (λ t. in_domain bounds t ≡ true) s all c d) among

-- kept stamps are the domain's where all are
pub kept-domain : (bounds : Bounds) (base : Frontier) (all kept : List Stamp) → AreOf bounds all → IsThinned base all kept → AreOf bounds kept
kept-domain bounds base all kept d h = among-domain bounds all kept d h.among

-- ---- inside a cut

pub thinned-cut : (bounds : Bounds) (base : Frontier) (all kept : List Stamp) (f : Front) → AreOf bounds all → Within base (frontier_of bounds f)
    → IsThinned base all kept → IsThinned base (filter (frontier_of bounds f) all) (filter (inside f) kept)
thinned-cut bounds base all kept f d w h = subst (IsThinned base (filter g all)) (sym (filter-domain bounds f kept (kept-domain bounds base all kept d h))) (record {
  among = each-filter (Contains (filter g all)) g kept (each-weaker (Contains all) (λ s. g s ≡ true → Contains (filter g all) s) kept (λ s c i. has-passed g all s c i) h.among);
  outside = each-filter (λ t. base t ≡ false → Contains (filter g kept) t) g all
      (each-weaker (λ t. base t ≡ false → Contains kept t) (λ t. g t ≡ true → base t ≡ false → Contains (filter g kept) t) all (λ t k i o. has-passed g kept t (k o) i) h.outside);
  inside = each-filter (λ t. base t ≡ true → IsBelowKept base (filter g kept) t) g all
      (each-weaker (λ t. base t ≡ true → IsBelowKept base kept t) (λ t. g t ≡ true → base t ≡ true → IsBelowKept base (filter g kept) t) all
      (λ t k i b. keeps-below base kept (filter g kept) (λ s c e. has-passed g kept s c (w s e)) t (k b)) h.inside);
})
  where
    g : Frontier
    g = frontier_of bounds f

-- a greater one that is inside is among those inside
pub has-inside_of : (f : Front) (ss : List Stamp) (s : Stamp) → has_greater_inside f (filter (inside f) ss) s ≡ has_greater_inside f ss s
has-inside_of f [] s = refl
has-inside_of f (x ∷ xs) s = by (inside f x) refl (has-inside_of f xs s)
  where
    by : (b : Bool) → inside f x ≡ b → has_greater_inside f (filter (inside f) xs) s ≡ has_greater_inside f xs s
        → has_greater_inside f (cond b (x ∷ filter (inside f) xs) (filter (inside f) xs)) s ≡ ((b && lesser s x) || has_greater_inside f xs s)
    by true e ih = ap (λ c. (c && lesser s x) || has_greater_inside f (filter (inside f) xs) s) e ∙ ap (λ c. lesser s x || c) ih
    by false e ih = ih

pub thinned-inside : (bounds : Bounds) (base : Frontier) (all kept : List Stamp) (f : Front) → AreOf bounds all → Within base (frontier_of bounds f)
    → IsThinned base all kept → IsThinned (frontier_of bounds f) (filter (frontier_of bounds f) all) (thinned f (filter (inside f) kept))
thinned-inside bounds base all kept f d w h =
    thinned-settle bounds base (filter (frontier_of bounds f) all) (filter (inside f) kept) f
    (each-kept (λ s. in_domain bounds s ≡ true) (frontier_of bounds f) all d) w (thinned-cut bounds base all kept f d w h)

-- the cover of what is kept inside a cut is that of all inside it
pub cover-inside : (bounds : Bounds) (base : Frontier) (all kept : List Stamp) (f : Front) → AreOf bounds all → Within base (frontier_of bounds f)
    → IsThinned base all kept → cover bounds (filter (inside f) kept) ≡ cover bounds (filter (frontier_of bounds f) all)
cover-inside bounds base all kept f d w h =
    ap (cover bounds) (filter-domain bounds f kept (kept-domain bounds base all kept d h)) ∙ thinned-covers bounds base all kept h (frontier_of bounds f) w

-- ---- where perhaps not the whole is kept

-- stamps are thinned by themselves
pub thinned-itself : (base : Frontier) (ss : List Stamp) → IsThinned base ss ss
thinned-itself base ss = record {
  among = each-itself ss;
  outside = each-had (λ t. base t ≡ false → Contains ss t) ss (λ t c o. c);
  inside = each-had (λ t. base t ≡ true → IsBelowKept base ss t) ss (λ t c i. record { above = t; is_kept = c; inside = i; below = leq-refl t });
}

-- What a change makes of all stamps and of the kept ones alone, it makes of these where perhaps not the whole is kept.
pub changed-if : (whole : Bool) (base next : Frontier) (all kept more less new : List Stamp) → (IsThinned base all kept → IsThinned next more new) → IsThinned next less new
    → AllByRecursion (Contains more) less → AllByRecursion (λ t. next t ≡ false → Contains less t) more → IsThinnedIf whole base all kept → IsThinnedIf whole next more new
changed-if whole base next all kept more less new f g among outside h = record {
  among = each-weaker (Contains less) (Contains more) new (λ s c. each-contained (Contains more) s less c among) g.among;
  outside = each-weaker (λ t. next t ≡ false → Contains less t) (λ t. next t ≡ false → Contains new t) more
      (λ t k o. each-contained (λ s. next s ≡ false → Contains new s) t less (k o) g.outside o) outside;
  inside = λ w. (f (record { among = h.among; outside = h.outside; inside = h.inside w })).inside;
}

-- of stamps that need not be told any may be missing
pub untold-if : (whole : Bool) (all kept : List Stamp) → AllByRecursion (Contains all) kept → IsThinnedIf (whole && false) (λ t. true) all kept
untold-if whole all kept among = record {
  among = among;
  outside = each-had (λ t. true ≡ false → Contains kept t) all (λ t c o. absurd (cc));
  inside = λ w. absurd (never whole w);
}
  where
    never : (b : Bool) → (b && false) ≡ true → ⊥
    never true e = absurd (cc)
    never false e = absurd (cc)

pub one_more-if : (whole : Bool) (at : Stamp) (old new : List Stamp) → StandForOneMore at old new → (base : Frontier) (all : List Stamp) → IsThinnedIf whole base all old
    → IsThinnedIf whole base (at ∷ all) new
one_more-if whole at old new f base all h =
    changed-if whole base base all old (at ∷ all) (at ∷ old) new (f base all) (f base old (thinned-itself base old))
    (contains-head at all, each-weaker (Contains all) (Contains (at ∷ all)) old (λ s c. contains-tail at all s c) h.among) (
      (λ o. contains-head at old),
      each-weaker (λ t. base t ≡ false → Contains old t) (λ t. base t ≡ false → Contains (at ∷ old) t) all (λ t k o. contains-tail at old t (k o)) h.outside,
    )
    h

-- those of a list that pass a test are among those of all that do
pub among-passed : (g : Frontier) (all kept : List Stamp) → AllByRecursion (Contains all) kept → AllByRecursion (Contains (filter g all)) (filter g kept)
among-passed g all kept among =
    each-filter (Contains (filter g all)) g kept (each-weaker (Contains all) (λ s. g s ≡ true → Contains (filter g all) s) kept (λ s c i. has-passed g all s c i) among)

pub settled-if : (whole : Bool) (bounds : Bounds) (f : Front) (old new : List Stamp) → IsSettledTo f old new → (base : Frontier) (all : List Stamp) → AreOf bounds all
    → Within base (frontier_of bounds f) → IsThinnedIf whole base all old → IsThinnedIf whole (frontier_of bounds f) all new
settled-if whole bounds f old new k base all d w h =
    let g = frontier_of bounds f in
    changed-if whole base g all old all old new (k bounds base all d w) (k bounds base old (among-domain bounds all old d h.among) w (thinned-itself base old))
    h.among
    (each-weaker (λ t. base t ≡ false → Contains old t) (λ t. g t ≡ false → Contains old t) all
    (λ t c o. c (false_from_ne_true (base t) (λ e. both_ways (g t) o (w t e)))) h.outside)
    h

pub inside-if : (whole : Bool) (bounds : Bounds) (f : Front) (old new : List Stamp) → StandsInside f old new → (base : Frontier) (all : List Stamp) → AreOf bounds all
    → Within base (frontier_of bounds f) → IsThinnedIf whole base all old → IsThinnedIf whole base (filter (frontier_of bounds f) all) new
inside-if whole bounds f old new k base all d w h =
    let g = frontier_of bounds f in
    changed-if whole base base all old (filter g all) (filter g old) new (k bounds base all d w)
    (k bounds base old (among-domain bounds all old d h.among) w (thinned-itself base old))
    (among-passed g all old h.among)
    (each-filter (λ t. base t ≡ false → Contains (filter g old) t) g all
    (each-weaker (λ t. base t ≡ false → Contains old t) (λ t. g t ≡ true → base t ≡ false → Contains (filter g old) t) all (λ t c i o. has-passed g old t (c o) i) h.outside))
    h

-- what a cut leaves of stamps that are among all is among those inside
pub among-inside : (bounds : Bounds) (f : Front) (all old new : List Stamp) → AreOf bounds all → AllByRecursion (Contains all) old → StandsInside f old new
    → AllByRecursion (Contains (filter (frontier_of bounds f) all)) new
among-inside bounds f all old new d among k =
    let g = frontier_of bounds f in
    each-weaker (Contains (filter g old)) (Contains (filter g all)) new (λ s c. each-contained (Contains (filter g all)) s (filter g old) c (among-passed g all old among))
    (k bounds (λ t. false) old (among-domain bounds all old d among) (λ t i. absurd (cc)) (thinned-itself (λ t. false) old)).among

-- and it has what is there of them inside
pub left-inside : (bounds : Bounds) (f : Front) (old new : List Stamp) → AreOf bounds old → StandsInside f old new → AllByRecursion (Contains new) (filter (frontier_of bounds f) old)
left-inside bounds f old new d k =
    each-weaker (λ t. false ≡ false → Contains new t) (Contains new) (filter (frontier_of bounds f) old) (λ t c. c refl)
    (k bounds (λ t. false) old d (λ t i. absurd (cc)) (thinned-itself (λ t. false) old)).outside

-- the base of where a node sent lies within a larger one's
pub sent-within : (flow : Dataflow) (p : ℕ) (base wide : Frontier) → Within base wide → Within (base_of_sent flow p base) (base_of_sent flow p wide)
sent-within flow p base wide w = by (tells_sent flow p)
  where
    by : (told : Bool) → Within (cond told base (λ t. true)) (cond told wide (λ t. true))
    by true = w
    by false = λ t i. i

-- and where it is told, within what holds the base
pub sent-base : (whole : Bool) (flow : Dataflow) (p : ℕ) (base f : Frontier) → Within base f → (whole && tells_sent flow p) ≡ true → Within (base_of_sent flow p base) f
sent-base whole flow p base f w k = subst (λ (told : Bool). Within (cond told base (λ t. true)) f) (sym (and_parts whole (tells_sent flow p) k).1) w

-- where it sent, of a node that settles
pub sent_settled-if : (whole : Bool) (flow : Dataflow) (p : ℕ) (bounds : Bounds) (f : Front) (old new : List Stamp) → IsSettledTo f old new → (base : Frontier) (all : List Stamp)
    → AreOf bounds all → Within base (frontier_of bounds f) → IsThinnedIf (whole && tells_sent flow p) (base_of_sent flow p base) all old
    → IsThinnedIf (whole && tells_sent flow p) (base_of_sent flow p (frontier_of bounds f)) all new
sent_settled-if whole flow p bounds f old new k base all d w h = by (tells_sent flow p) h
  where
    by : (told : Bool) → IsThinnedIf (whole && told) (cond told base (λ t. true)) all old → IsThinnedIf (whole && told) (cond told (frontier_of bounds f) (λ t. true)) all new
    by true i = settled-if (whole && true) bounds f old new k base all d w i
    by false i =
        untold-if whole all new (each-weaker (Contains old) (Contains all) new (λ s c. each-contained (Contains all) s old c i.among)
        (k bounds base old (among-domain bounds all old d i.among) w (thinned-itself base old)).among)

-- and of one that is cut
pub sent_inside-if : (whole : Bool) (flow : Dataflow) (p : ℕ) (bounds : Bounds) (f : Front) (old new : List Stamp) → StandsInside f old new → (base : Frontier) (all : List Stamp)
    → AreOf bounds all → Within base (frontier_of bounds f) → IsThinnedIf (whole && tells_sent flow p) (base_of_sent flow p base) all old
    → IsThinnedIf (whole && tells_sent flow p) (base_of_sent flow p base) (filter (frontier_of bounds f) all) new
sent_inside-if whole flow p bounds f old new k base all d w h = by (tells_sent flow p) h
  where
    by : (told : Bool) → IsThinnedIf (whole && told) (cond told base (λ t. true)) all old → IsThinnedIf (whole && told) (cond told base (λ t. true)) (filter (frontier_of bounds f) all) new
    by true i = inside-if (whole && true) bounds f old new k base all d w i
    by false i = untold-if whole (filter (frontier_of bounds f) all) new (among-inside bounds f all old new d i.among k)
