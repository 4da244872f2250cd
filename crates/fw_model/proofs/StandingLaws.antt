-- On which checkpoint another one stands, by their order.
use Rattle.std.proofs.Common.{◌≡◌, ℕ, suc, ◌+◌, Bool, true, false, not, ◌&&◌, ◌||◌, ◌==◌, cond, List, [], ◌∷◌, ◌++◌, refl, sym, ap, subst, ◌∙◌, inl, inr, Option, Some, None, arith, add-one, append_assoc}
use Rattle.std.specs.List.{AllByRecursion, list_any, list_all}
use Rattle.std.proofs.lemmas.Bool.{cases_Bool, cond_both, eqb-true, eq-eqb, false_from_ne_true}
use Rattle.fw_lemmas.proofs.Bools.{two_ways}
use Rattle.fw_lemmas.proofs.Each.{each-weaker, each-both, each-prefix, each-suffix}
use Rattle.fw_frontier.specs.Front.{Front, same_front}
use Rattle.fw_frontier.proofs.SameLaws.{same_front-is, same_front-itself}
use Rattle.fw_model.specs.Machine.{Write, Written, checkpoint, logged_event}
use Rattle.fw_model.specs.Steps.{checkpoint_front, checkpoints_of, base_at, bases_down, stands_on}
use Rattle.fw_model.specs.LawsOfChains.{Link, link_of, links_of, IsWholeLink, StandsOnLast, IsChain}
use Rattle.fw_model.proofs.BelowLaws.{none-down}
use Rattle.fw_model.proofs.ChainLaws.{link_at}
use Rattle.fw_model.proofs.WriteLaws.{ArePairs}
use Rattle.fw_model.proofs.AskedLaws.{IsApart}
use Rattle.fw_model.proofs.SpanLaws.{spanned_at, spanned}

-- ---- a link stands on what passes a test: a base of it does

abbrev stands_link : List Write → (Front → Bool) → ℕ → Link → Bool
stands_link writes among p link = list_any among (bases_down link.depth p link.base writes)

-- the last link passes, or stands on what does
abbrev last_stands : List Write → (Front → Bool) → ℕ → Option Link → Bool
last_stands writes among p None = false
last_stands writes among p (Some last) = among last.front || stands_link writes among p last

-- the base of the last link is found by its front
abbrev IsFound : List Write → ℕ → Option Link → Type 0
IsFound writes p None = Unit {0}
IsFound writes p (Some last) = base_at p last.front writes ≡ last.base

whole-stands_not : (writes : List Write) (among : Front → Bool) (p : ℕ) (link : Link) (v : Bool) → IsWholeLink link
    → stands_link writes among p link ≡ (not (link.depth == 0) && v)
whole-stands_not writes among p link v w =
    ap (list_any among) (ap (λ (base : Option Front). bases_down link.depth p base writes) w.0 ∙ none-down link.depth p writes)
    ∙ sym (ap (λ d. not (d == 0) && v) w.1)

not-zero : (d n : ℕ) → d ≡ n + 1 → (d == 0) ≡ false
not-zero d n e = false_from_ne_true (d == 0) (λ z. let k : d ≡ 0 = eqb-true d 0 z in absurd (omega arith))

stands-next : (writes : List Write) (among : Front → Bool) (p : ℕ) (last : Option Link) (link : Link) → IsFound writes p last → StandsOnLast last link
    → stands_link writes among p link ≡ (not (link.depth == 0) && last_stands writes among p last)
stands-next writes among p None link found w = whole-stands_not writes among p link false w
stands-next writes among p (Some last) link found (inl w) = whole-stands_not writes among p link (last_stands writes among p (Some last)) w
stands-next writes among p (Some last) link found (inr on) =
    let v = last_stands writes among p (Some last) in
    let deeper : link.depth ≡ suc last.depth = on.1 ∙ add-one last.depth in
    ap (λ d. list_any among (bases_down d p link.base writes)) deeper
    ∙ ap (λ (base : Option Front). list_any among (bases_down (suc last.depth) p base writes)) on.0
    ∙ ap (λ (base : Option Front). among last.front || list_any among (bases_down last.depth p base writes)) found
    ∙ sym (ap (λ b. not b && v) (not-zero link.depth last.depth on.1))

-- ---- a write of another node, and a logged event that has no base, stand on nothing of this node

pub any-never : {A : Type 0} (xs : List A) → list_any (λ x. false) xs ≡ false
any-never [] = refl
any-never (x ∷ xs) = any-never xs

-- whether a front is that of the write's checkpoint of node p
abbrev front_among : ℕ → Write → Front → Bool
front_among p x f = list_any (same_front f) (checkpoints_of p (x ∷ []))

other-stands_not : (writes : List Write) (y x : Write) → (x.node == y.node) ≡ false → stands_on writes y x ≡ false
other-stands_not writes y x other =
    ap (λ b. list_any (λ f. list_any (same_front f) (cond b (checkpoint_front x.written) [] ++ [])) (bases_down y.depth y.node y.base writes)) other
    ∙ any-never (bases_down y.depth y.node y.base writes)

none-stands_not : (writes : List Write) (y x : Write) → y.base ≡ None → stands_on writes y x ≡ false
none-stands_not writes y x none =
    ap (list_any (λ f. list_any (same_front f) (checkpoints_of y.node (x ∷ []))))
    (ap (λ (base : Option Front). bases_down y.depth y.node base writes) none ∙ none-down y.depth y.node writes)

-- ---- what a test of all that stand on a write looks at

-- a logged event has no base
abbrev pub IsWholeIfLogged : Write → Type 0
IsWholeIfLogged y = (s : ℕ) → y.written ≡ logged_event s → y.base ≡ None

-- the test gives for node p's checkpoints what this one does for their fronts
abbrev pub TestsFronts : ℕ → (Front → Bool) → (Write → Bool) → Write → Type 0
TestsFronts p test ok y = (g : Front) (l : List Front) → y.node ≡ p → y.written ≡ checkpoint g l → ok y ≡ test g

-- no front of node p's checkpoint there is that of x
abbrev pub IsOtherFront : ℕ → Write → Write → Type 0
IsOtherFront p x y = (g : Front) (l : List Front) → y.node ≡ p → y.written ≡ checkpoint g l → front_among p x g ≡ false

-- the base of node p's checkpoint is found by its front
abbrev pub IsFoundAt : List Write → ℕ → Write → Type 0
IsFoundAt writes p y = (g : Front) (l : List Front) → y.node ≡ p → y.written ≡ checkpoint g l → base_at p g writes ≡ y.base

record IsOrdinary (writes : List Write) (p : ℕ) (test : Front → Bool) (ok : Write → Bool) (y : Write) : Type 0 where
  whole : IsWholeIfLogged y
  tests : TestsFronts p test ok y
  found : IsFoundAt writes p y

four-ways : (z v t r : Bool) → ((not (not z && v) || t) && cond (not z && v) r true) ≡ cond v (cond z true (t && r)) true
four-ways true true t r = refl
four-ways true false t r = refl
four-ways false true t r = refl
four-ways false false t r = refl

-- whether all pass that stand on x
abbrev pub all_pass : List Write → (Write → Bool) → Write → List Write → Bool
all_pass writes ok x ys = list_all (λ (y : Write). not (stands_on writes y x) || ok y) ys

skipped : (a b r c : Bool) (e : Bool) → a ≡ false → b ≡ c → ((not a || e) && b) ≡ c
skipped a b r c e na is = ap (λ u. (not u || e) && b) na ∙ is

-- one more write, which is no checkpoint of the node
pass-more : (writes : List Write) (p : ℕ) (test : Front → Bool) (ok : Write → Bool) (x y : Write) (ys : List Write) (v : Bool) → x.node ≡ p
    → stands_on writes y x ≡ false → cond (y.node == p) (spanned_at test y.depth y.written (spanned p test true ys)) (spanned p test true ys) ≡ spanned p test true ys
    → all_pass writes ok x ys ≡ cond v (spanned p test true ys) true → all_pass writes ok x (y ∷ ys) ≡ cond v (spanned p test true (y ∷ ys)) true
pass-more writes p test ok x y ys v own stands same rest =
    ap (λ u. (not u || ok y) && all_pass writes ok x ys) stands ∙ rest ∙ sym (ap (λ b. cond v b true) same)

-- the step of the law below: one more write
after-one : (writes : List Write) (p : ℕ) (test : Front → Bool) (ok : Write → Bool) (x : Write) → x.node ≡ p → (y : Write) (ys : List Write) (last : Option Link) (v : Bool)
    → last_stands writes (front_among p x) p last ≡ v → IsFound writes p last → IsChain last (links_of p (y ∷ ys)) → IsOrdinary writes p test ok y → IsOtherFront p x y
    → ((more : Option Link) (u : Bool) → last_stands writes (front_among p x) p more ≡ u → IsFound writes p more → IsChain more (links_of p ys)
    → all_pass writes ok x ys ≡ cond u (spanned p test true ys) true)
    → all_pass writes ok x (y ∷ ys) ≡ cond v (spanned p test true (y ∷ ys)) true
after-one writes p test ok x own y ys last v is found chain a b ih = elim (cases_Bool (y.node == p)) [
  | inr other ↦
      skip (ap (λ c. cond c (link_of y.base y.depth y.written) []) other)
      (other-stands_not writes y x (false_from_ne_true (x.node == y.node) (λ e. two_ways (y.node == p) (eq-eqb y.node p (sym (eqb-true x.node y.node e) ∙ own)) other)))
      (ap (λ c. cond c (spanned_at test y.depth y.written rest) rest) other)
  | inl mine ↦ by mine (eqb-true y.node p mine) y.written refl
]
  where
    rest : Bool
    rest = spanned p test true ys

    skip : link_at p y ≡ [] → stands_on writes y x ≡ false → cond (y.node == p) (spanned_at test y.depth y.written (spanned p test true ys)) (spanned p test true ys) ≡ spanned p test true ys
        → all_pass writes ok x (y ∷ ys) ≡ cond v (spanned p test true (y ∷ ys)) true
    skip none stands same = pass-more writes p test ok x y ys v own stands same
        (ih last v is found (subst (λ ls. IsChain last (ls ++ links_of p ys)) none chain))

    by : (y.node == p) ≡ true → y.node ≡ p → (w : Written) → y.written ≡ w → all_pass writes ok x (y ∷ ys) ≡ cond v (spanned p test true (y ∷ ys)) true
    by mine at (logged_event s) e =
        skip (ap (λ c. cond c (link_of y.base y.depth y.written) []) mine ∙ ap (link_of y.base y.depth) e) (none-stands_not writes y x (a.whole s e))
        (ap (λ c. cond c (spanned_at test y.depth y.written (spanned p test true ys)) (spanned p test true ys)) mine ∙ ap (λ w. spanned_at test y.depth w (spanned p test true ys)) e)
    by mine at (checkpoint g l) e =
        let r = spanned p test true ys in
        let z = y.depth == 0 in
        let link : Link = record { front = g; base = y.base; depth = y.depth } in
        let here : link_at p y ≡ link ∷ [] = ap (λ c. cond c (link_of y.base y.depth y.written) []) mine ∙ ap (link_of y.base y.depth) e in
        let on : IsChain last (link ∷ links_of p ys) = subst (λ ls. IsChain last (ls ++ links_of p ys)) here chain in
        let link_stands : stands_link writes (front_among p x) p link ≡ (not z && v) =
        stands-next writes (front_among p x) p last link found on.0 ∙ ap (λ u. not z && u) is in
        let stands : stands_on writes y x ≡ (not z && v) =
        ap (λ q. list_any (λ f. list_any (same_front f) (checkpoints_of q (x ∷ []))) (bases_down y.depth q y.base writes)) at ∙ link_stands in
        let later = ih (Some link) (not z && v) (ap (λ u. u || stands_link writes (front_among p x) p link) (b g l at e) ∙ link_stands) (a.found g l at e) on.1 in
        ap (λ u. (not u || ok y) && all_pass writes ok x ys) stands
        ∙ ap (λ u. (not (not z && v) || u) && all_pass writes ok x ys) (a.tests g l at e)
        ∙ ap (λ u. (not (not z && v) || test g) && u) later
        ∙ four-ways z v (test g) r
        ∙ sym (ap (λ u. cond v u true) (ap (λ c. cond c (spanned_at test y.depth y.written r) r) mine ∙ ap (λ w. spanned_at test y.depth w r) e))

-- after writes of which the last checkpoint of the node passes or stands on what does (v), those that stand on x are the next ones up to
-- a whole one
after-last : (writes : List Write) (p : ℕ) (test : Front → Bool) (ok : Write → Bool) (x : Write) → x.node ≡ p → (ys : List Write) (last : Option Link) (v : Bool)
    → last_stands writes (front_among p x) p last ≡ v → IsFound writes p last → IsChain last (links_of p ys)
    → AllByRecursion (IsOrdinary writes p test ok) ys → AllByRecursion (IsOtherFront p x) ys
    → all_pass writes ok x ys ≡ cond v (spanned p test true ys) true
after-last writes p test ok x own [] last v is found chain a b = sym (cond_both v true true (λ c. c ≡ true) (λ e. refl) (λ e. refl))
after-last writes p test ok x own (y ∷ ys) last v is found chain a b =
    after-one writes p test ok x own y ys last v is found chain a.0 b.0 (λ more u i f c. after-last writes p test ok x own ys more u i f c a.1 b.1)

-- ---- before the write

and-none : (b : Bool) → (b && false) ≡ false
and-none true = refl
and-none false = refl

-- where nothing so far stands on x, nor is it, what comes next does not stand on it
record IsQuiet (writes : List Write) (p : ℕ) (x y : Write) (ys : List Write) : Type 0 where
  more : Option Link
  none : last_stands writes (front_among p x) p more ≡ false
  found : IsFound writes p more
  chain : IsChain more (links_of p ys)
  stands_not : stands_on writes y x ≡ false

quiet-one : (writes : List Write) (p : ℕ) (test : Front → Bool) (ok : Write → Bool) (x : Write) → x.node ≡ p → (y : Write) (ys : List Write) (last : Option Link)
    → last_stands writes (front_among p x) p last ≡ false → IsFound writes p last → IsChain last (links_of p (y ∷ ys)) → IsOrdinary writes p test ok y → IsOtherFront p x y
    → IsQuiet writes p x y ys
quiet-one writes p test ok x own y ys last is found chain a b = elim (cases_Bool (y.node == p)) [
  | inr other ↦
      record {
        more = last;
        none = is;
        found = found;
        chain = subst (λ ls. IsChain last (ls ++ links_of p ys)) (ap (λ c. cond c (link_of y.base y.depth y.written) []) other) chain;
        stands_not = other-stands_not writes y x (false_from_ne_true (x.node == y.node) (λ e. two_ways (y.node == p) (eq-eqb y.node p (sym (eqb-true x.node y.node e) ∙ own)) other));
      }
  | inl mine ↦ by mine (eqb-true y.node p mine) y.written refl
]
  where
    by : (y.node == p) ≡ true → y.node ≡ p → (w : Written) → y.written ≡ w → IsQuiet writes p x y ys
    by mine at (logged_event s) e = record {
      more = last;
      none = is;
      found = found;
      chain = subst (λ ls. IsChain last (ls ++ links_of p ys)) (ap (λ c. cond c (link_of y.base y.depth y.written) []) mine ∙ ap (link_of y.base y.depth) e) chain;
      stands_not = none-stands_not writes y x (a.whole s e);
    }
    by mine at (checkpoint g l) e =
        let link : Link = record { front = g; base = y.base; depth = y.depth } in
        let here : link_at p y ≡ link ∷ [] = ap (λ c. cond c (link_of y.base y.depth y.written) []) mine ∙ ap (link_of y.base y.depth) e in
        let on : IsChain last (link ∷ links_of p ys) = subst (λ ls. IsChain last (ls ++ links_of p ys)) here chain in
        let link_stands : stands_link writes (front_among p x) p link ≡ false =
        stands-next writes (front_among p x) p last link found on.0 ∙ ap (λ u. not (y.depth == 0) && u) is ∙ and-none (not (y.depth == 0)) in
        record {
          more = Some link;
          none = ap (λ u. u || stands_link writes (front_among p x) p link) (b g l at e) ∙ link_stands;
          found = a.found g l at e;
          chain = on.1;
          stands_not = ap (λ q. list_any (λ f. list_any (same_front f) (checkpoints_of q (x ∷ []))) (bases_down y.depth q y.base writes)) at ∙ link_stands;
        }

before-it : (writes : List Write) (p : ℕ) (test : Front → Bool) (ok : Write → Bool) (x : Write) → x.node ≡ p → (xs rest : List Write) (b : Bool) (last : Option Link)
    → last_stands writes (front_among p x) p last ≡ false → IsFound writes p last → IsChain last (links_of p (xs ++ rest))
    → AllByRecursion (IsOrdinary writes p test ok) xs → AllByRecursion (IsOtherFront p x) xs
    → ((more : Option Link) → last_stands writes (front_among p x) p more ≡ false → IsFound writes p more → IsChain more (links_of p rest) → all_pass writes ok x rest ≡ b)
    → all_pass writes ok x (xs ++ rest) ≡ b
before-it writes p test ok x own [] rest b last is found chain a o k = k last is found chain
before-it writes p test ok x own (y ∷ xs) rest b last is found chain a o k =
    let q = quiet-one writes p test ok x own y (xs ++ rest) last is found chain a.0 o.0 in
    ap (λ u. (not u || ok y) && all_pass writes ok x (xs ++ rest)) q.stands_not
    ∙ before-it writes p test ok x own xs rest b q.more q.none q.found q.chain a.1 o.1 k

-- ---- fronts that differ

apart-swap : (p : ℕ) (w : Written) (q : ℕ) (v : Written) → IsApart p w q v → IsApart q v p w
apart-swap p (checkpoint f l) q (checkpoint g m) a = λ e i. a (sym e) (sym i)
apart-swap p (checkpoint f l) q (logged_event s) a = tt
apart-swap p (logged_event r) q (checkpoint g m) a = tt
apart-swap p (logged_event r) q (logged_event s) a = λ e. a (sym e)

-- the front of a write that is apart is not that of the other one
apart-front : (p : ℕ) (z y : Write) → IsApart z.node z.written y.node y.written → (g : Front) (l : List Front) → y.node ≡ p → y.written ≡ checkpoint g l → front_among p z g ≡ false
apart-front p z y a g l at e = elim (cases_Bool (z.node == p)) [
  | inr other ↦ ap (λ c. list_any (same_front g) (cond c (checkpoint_front z.written) [] ++ [])) other
  | inl mine ↦
      ap (λ c. list_any (same_front g) (cond c (checkpoint_front z.written) [] ++ [])) mine
      ∙ by z.written (subst (λ w. IsApart p z.written p w) e (subst (λ q. IsApart p z.written q y.written) at (subst (λ q. IsApart q z.written y.node y.written) (eqb-true z.node p mine) a)))
]
  where
    by : (w : Written) → IsApart p w p (checkpoint g l) → list_any (same_front g) (checkpoint_front w ++ []) ≡ false
    by (checkpoint k m) a = ap (λ c. c || false) (false_from_ne_true (same_front g k) (λ i. a refl (sym (same_front-is g k i))))
    by (logged_event s) a = refl

own-front : (p : ℕ) (y : Write) (g : Front) (l : List Front) → y.node ≡ p → y.written ≡ checkpoint g l → front_among p y g ≡ true
own-front p y g l at e =
    ap (λ c. list_any (same_front g) (cond c (checkpoint_front y.written) [] ++ [])) (eq-eqb y.node p at)
    ∙ ap (λ w. list_any (same_front g) (checkpoint_front w ++ [])) e ∙ ap (λ c. c || false) (same_front-itself g)

found-at : (p : ℕ) (g : Front) (xs : List Write) (y : Write) (ys : List Write) → AllByRecursion (λ (z : Write). front_among p z g ≡ false) xs → front_among p y g ≡ true
    → base_at p g (xs ++ y ∷ ys) ≡ y.base
found-at p g [] y ys none own = ap (λ c. cond c y.base (base_at p g ys)) own
found-at p g (x ∷ xs) y ys none own = ap (λ c. cond c x.base (base_at p g (xs ++ y ∷ ys))) none.0 ∙ found-at p g xs y ys none.1 own

-- ---- splits

pub each-from : {A : Type 0} (P : A → Type 0) (all before rest : List A) → all ≡ before ++ rest → ((xs : List A) (x : A) (ys : List A) → all ≡ xs ++ x ∷ ys → P x) → AllByRecursion P rest
each-from P all before [] e k = tt
each-from P all before (x ∷ ys) e k = (k before x ys e, each-from P all (before ++ x ∷ []) ys (e ∙ sym (append_assoc before (x ∷ []) ys)) k)

pub pairs-before : (R : ℕ → Written → ℕ → Written → Type 0) (xs : List Write) (x : Write) (ys : List Write) → ArePairs R (xs ++ x ∷ ys)
    → AllByRecursion (λ (z : Write). R z.node z.written x.node x.written) xs
pairs-before R [] x ys a = tt
pairs-before R (z ∷ xs) x ys a = ((each-suffix (λ (y : Write). R z.node z.written y.node y.written) xs (x ∷ ys) a.0).0, pairs-before R xs x ys a.1)

pub pairs-after : (R : ℕ → Written → ℕ → Written → Type 0) (xs : List Write) (x : Write) (ys : List Write) → ArePairs R (xs ++ x ∷ ys)
    → AllByRecursion (λ (y : Write). R x.node x.written y.node y.written) ys
pairs-after R [] x ys a = a.0
pairs-after R (z ∷ xs) x ys a = pairs-after R xs x ys a.1

all-found : (p : ℕ) (writes : List Write) → ArePairs IsApart writes → AllByRecursion (IsFoundAt writes p) writes
all-found p writes a =
    each-from (IsFoundAt writes p) writes [] writes refl
    (λ xs y ys e g l at w.
    ap (base_at p g) e
    ∙ found-at p g xs y ys
    (each-weaker (λ (z : Write). IsApart z.node z.written y.node y.written) (λ (z : Write). front_among p z g ≡ false) xs (λ z b. apart-front p z y b g l at w)
    (pairs-before IsApart xs y ys (subst (ArePairs IsApart) e a)))
    (own-front p y g l at w))

-- ---- those that stand on a checkpoint are the later ones up to the next whole one

pub stand-by-order : (writes : List Write) (p : ℕ) → IsChain None (links_of p writes) → ArePairs IsApart writes → AllByRecursion IsWholeIfLogged writes
    → (test : Front → Bool) (ok : Write → Bool) → AllByRecursion (TestsFronts p test ok) writes
    → (xs : List Write) (x : Write) (ys : List Write) → writes ≡ xs ++ x ∷ ys → x.node ≡ p → (f : Front) (l : List Front) → x.written ≡ checkpoint f l
    → list_all (λ (y : Write). not (stands_on writes y x) || ok y) writes ≡ spanned p test true ys
stand-by-order writes p chain apart whole test ok tests xs x ys e own f l w =
    let ordinary = each-weaker (λ (y : Write). IsWholeIfLogged y × (TestsFronts p test ok y × IsFoundAt writes p y)) (IsOrdinary writes p test ok) writes
    (λ y a. record { whole = a.0; tests = a.1.0; found = a.1.1 })
    (each-both IsWholeIfLogged (λ (y : Write). TestsFronts p test ok y × IsFoundAt writes p y) writes whole
    (each-both (TestsFronts p test ok) (IsFoundAt writes p) writes tests (all-found p writes apart))) in
    let split = subst (AllByRecursion (IsOrdinary writes p test ok)) e ordinary in
    let pairs = subst (ArePairs IsApart) e apart in
    let others = each-weaker (λ (z : Write). IsApart z.node z.written x.node x.written) (IsOtherFront p x) xs
    (λ z b g m at i. apart-front p x z (apart-swap z.node z.written x.node x.written b) g m at i) (pairs-before IsApart xs x ys pairs) in
    let after = each-weaker (λ (y : Write). IsApart x.node x.written y.node y.written) (IsOtherFront p x) ys
    (λ y b g m at i. apart-front p x y b g m at i) (pairs-after IsApart xs x ys pairs) in
    let here = each-suffix (IsOrdinary writes p test ok) xs (x ∷ ys) split in
    ap (all_pass writes ok x) e
    ∙ before-it writes p test ok x own xs (x ∷ ys) (spanned p test true ys) None refl tt (subst (λ zs. IsChain None (links_of p zs)) e chain)
    (each-prefix (IsOrdinary writes p test ok) xs (x ∷ ys) split) others
    (λ more none found on.
    let link : Link = record { front = f; base = x.base; depth = x.depth } in
    let mine = eq-eqb x.node p own in
    let is : link_at p x ≡ link ∷ [] = ap (λ c. cond c (link_of x.base x.depth x.written) []) mine ∙ ap (link_of x.base x.depth) w in
    let linked : IsChain more (link ∷ links_of p ys) = subst (λ ls. IsChain more (ls ++ links_of p ys)) is on in
    let link_stands : stands_link writes (front_among p x) p link ≡ false =
    stands-next writes (front_among p x) p more link found linked.0 ∙ ap (λ u. not (x.depth == 0) && u) none ∙ and-none (not (x.depth == 0)) in
    let stands : stands_on writes x x ≡ false =
    ap (λ q. list_any (λ g. list_any (same_front g) (checkpoints_of q (x ∷ []))) (bases_down x.depth q x.base writes)) own ∙ link_stands in
    ap (λ u. (not u || ok x) && all_pass writes ok x ys) stands
    ∙ after-last writes p test ok x own ys (Some link) true (ap (λ u. u || stands_link writes (front_among p x) p link) (own-front p x f l own w))
    (here.0.found f l own w) linked.1 here.1 after)
