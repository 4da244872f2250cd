-- What a collection forgets, where checkpoints stand on others: what is collected is what is forgotten, whichever checkpoints are whole.
use Rattle.std.proofs.Common.{◌≡◌, ◌↔◌, ℕ, Bool, true, false, not, ◌&&◌, ◌||◌, ◌==◌, cond, List, [], ◌∷◌, ◌++◌, filter, map, refl, sym, ap, subst, ◌∙◌, inl, inr, None}
use Rattle.std.specs.List.{AllByRecursion, list_any}
use Rattle.std.proofs.lemmas.Bool.{cases_Bool, and_parts, and_from, cond_both, eqb-true}
use Rattle.fw_lemmas.proofs.Bools.{two_ways}
use Rattle.fw_lemmas.proofs.Each.{each-weaker, each-one}
use Rattle.fw_frontier.specs.Front.{Front, is_within, same_front}
use Rattle.fw_flow.specs.Dataflow.{System}
use Rattle.fw_model.specs.Machine.{SerialEvent, Write, Written, checkpoint, logged_event, Stage, in_flight, acknowledged, collected, front_of}
use Rattle.fw_model.specs.Steps.{lies_below, is_forgotten, stands_on, bases_down, checkpoint_front, after_collection, is_in_flight, is_serial_given_up}
use Rattle.fw_model.specs.LawsOfChains.{links_of, IsChain}
use Rattle.fw_model.proofs.WriteLaws.{HoldsOfOne, ArePairs}
use Rattle.fw_model.proofs.AskedLaws.{IsApart}
use Rattle.fw_model.proofs.BelowLaws.{and-true}
use Rattle.fw_model.proofs.ChainLaws.{KeepsFirst}
use Rattle.fw_model.proofs.SpanLaws.{spanned_at, spanned, spanned-append, spanned-staged, IsStop, spanned-stopped, IsKeptStop, spanned-first}
use Rattle.fw_model.proofs.StandingLaws.{IsWholeIfLogged, TestsFronts, any-never, all_pass, stand-by-order}

-- ---- what is forgotten, by what comes later

-- whether a front of node p lies strictly within the watermark
abbrev pub strictly : List Front → ℕ → Front → Bool
strictly low p g = is_within g (front_of low p) && not (is_within (front_of low p) g)

-- whether what is written of node p is forgotten, where these are the later writes
abbrev pub gone_before : System → List Front → List SerialEvent → ℕ → Written → List Write → Bool
gone_before sys low h p (checkpoint g l) later = strictly low p g && spanned p (strictly low p) true later
gone_before sys low h p (logged_event s) later = is_serial_given_up sys low s h

pub gone-below : (sys : System) (low : List Front) (h : List SerialEvent) (p : ℕ) (w : Written) (later : List Write) → gone_before sys low h p w later ≡ true
    → lies_below sys low h p w ≡ true
gone-below sys low h p (checkpoint g l) later e = (and_parts (strictly low p g) (spanned p (strictly low p) true later) e).0
gone-below sys low h p (logged_event s) later e = e

-- nothing stands on a logged event
on-logged_none : (writes : List Write) (y x : Write) (s : ℕ) → x.written ≡ logged_event s → stands_on writes y x ≡ false
on-logged_none writes y x s e =
    ap (λ w. list_any (λ f. list_any (same_front f) (cond (x.node == y.node) (checkpoint_front w) [] ++ [])) (bases_down y.depth y.node y.base writes)) e
    ∙ cond_both (x.node == y.node) [] [] (λ (fs : List Front). list_any (λ f. list_any (same_front f) (fs ++ [])) (bases_down y.depth y.node y.base writes) ≡ false)
    (λ i. any-never (bases_down y.depth y.node y.base writes)) (λ i. any-never (bases_down y.depth y.node y.base writes))

all-apart : (writes : List Write) (ok : Write → Bool) (x : Write) (s : ℕ) → x.written ≡ logged_event s → (ys : List Write) → all_pass writes ok x ys ≡ true
all-apart writes ok x s e [] = refl
all-apart writes ok x s e (y ∷ ys) = ap (λ u. (not u || ok y) && all_pass writes ok x ys) (on-logged_none writes y x s e) ∙ all-apart writes ok x s e ys

pub forgotten-gone : (sys : System) (low : List Front) (h : List SerialEvent) (writes : List Write) → ArePairs IsApart writes → AllByRecursion IsWholeIfLogged writes
    → (xs : List Write) (x : Write) (ys : List Write) → writes ≡ xs ++ x ∷ ys
    → ((f : Front) (l : List Front) → x.written ≡ checkpoint f l → IsChain None (links_of x.node writes))
    → is_forgotten sys low h writes x ≡ gone_before sys low h x.node x.written ys
forgotten-gone sys low h writes apart whole xs x ys e chain = by x.written refl
  where
    by : (w : Written) → x.written ≡ w → is_forgotten sys low h writes x ≡ gone_before sys low h x.node w ys
    by (checkpoint f l) i =
        let p = x.node in
        let ok : Write → Bool = λ y. lies_below sys low h y.node y.written in
        ap (λ w. lies_below sys low h p w && all_pass writes ok x writes) i
        ∙ ap (λ b. strictly low p f && b)
        (stand-by-order writes p (chain f l i) apart whole (strictly low p) ok
        (each-one (TestsFronts p (strictly low p) ok) writes (λ y g m at k. ap (λ q. lies_below sys low h q y.written) at ∙ ap (lies_below sys low h p) k))
        xs x ys e refl f l i)
    by (logged_event s) i =
        let ok : Write → Bool = λ y. lies_below sys low h y.node y.written in
        ap (λ b. lies_below sys low h x.node x.written && b) (all-apart writes ok x s i writes) ∙ and-true (lies_below sys low h x.node x.written)
        ∙ ap (lies_below sys low h x.node) i

-- ---- exactness along a list

abbrev pub IsGoneExact : System → List Front → List SerialEvent → Write → List Write → Type 0
IsGoneExact sys low h x later = (x.stage ≡ collected) ↔ (gone_before sys low h x.node x.written later ≡ true)

abbrev pub AreGoneExact : System → List Front → List SerialEvent → List Write → Type 0
AreGoneExact sys low h [] = Unit {0}
AreGoneExact sys low h (x ∷ xs) = IsGoneExact sys low h x xs × AreGoneExact sys low h xs

pub by-same : (far : Stage) (a b : Bool) → b ≡ a → (far ≡ collected) ↔ (a ≡ true) → (far ≡ collected) ↔ (b ≡ true)
by-same far a b e k = (λ c. e ∙ k.0 c, λ i. k.1 (sym e ∙ i))

-- a property of each write and the later ones
abbrev pub WithLater : (Write → List Write → Type 0) → List Write → Type 0
WithLater P [] = Unit {0}
WithLater P (x ∷ xs) = P x xs × WithLater P xs

-- of a checkpoint strictly within the watermark a later one of the node is kept that is not
abbrev pub HasKeptStop : List Front → (Write → Bool) → Write → List Write → Type 0
HasKeptStop low keep x later = (g : Front) (l : List Front) → x.written ≡ checkpoint g l → strictly low x.node g ≡ true → HoldsOfOne (IsKeptStop x.node (strictly low x.node) keep) later

same-both : (a b c : Bool) → (a ≡ true → b ≡ c) → (a && b) ≡ (a && c)
same-both true b c k = k refl
same-both false b c k = refl

stop-of : (p : ℕ) (test : Front → Bool) (keep : Write → Bool) (xs : List Write) → HoldsOfOne (IsKeptStop p test keep) xs → HoldsOfOne (IsStop p test) xs
stop-of p test keep [] s = absurd s
stop-of p test keep (x ∷ xs) (inl s) = inl s.0
stop-of p test keep (x ∷ xs) (inr s) = inr (stop-of p test keep xs s)

-- ---- more writes

-- what comes after the last of these changes nothing for them, where a stop is there
pub exact-more : (sys : System) (low : List Front) (h : List SerialEvent) (keep : Write → Bool) (xs ys : List Write) → WithLater (HasKeptStop low keep) xs → AreGoneExact sys low h xs
    → AreGoneExact sys low h ys → AreGoneExact sys low h (xs ++ ys)
exact-more sys low h keep [] ys s a b = b
exact-more sys low h keep (x ∷ xs) ys s a b = (by-same x.stage (gone_before sys low h x.node x.written xs) (gone_before sys low h x.node x.written (xs ++ ys)) (same x.written refl) a.0, exact-more sys low h keep xs ys s.1 a.1 b)
  where
    same : (w : Written) → x.written ≡ w → gone_before sys low h x.node w (xs ++ ys) ≡ gone_before sys low h x.node w xs
    same (checkpoint g l) e =
        let test = strictly low x.node in
        same-both (test g) (spanned x.node test true (xs ++ ys)) (spanned x.node test true xs)
        (λ i. spanned-append x.node test true xs ys ∙ spanned-stopped x.node test xs (stop-of x.node test keep xs (s.0 g l e i)) (spanned x.node test true ys) true)
    same (logged_event r) e = refl

-- ---- a first part

pub exact-first : (sys : System) (low : List Front) (h k : List SerialEvent) (keep : Write → Bool) (xs : List Write) → ((p : ℕ) → KeepsFirst p keep xs)
    → WithLater (HasKeptStop low keep) xs → AllByRecursion (λ (x : Write). lies_below sys low k x.node x.written ≡ lies_below sys low h x.node x.written) xs
    → AreGoneExact sys low h xs → AreGoneExact sys low k (filter keep xs)
exact-first sys low h k keep [] first s same a = tt
exact-first sys low h k keep (x ∷ xs) first s same a =
    let rest = exact-first sys low h k keep xs (λ p. (first p).1) s.1 same.1 a.1 in
    cond_both (keep x) (x ∷ filter keep xs) (filter keep xs) (AreGoneExact sys low k)
    (λ e. (by-same x.stage (gone_before sys low h x.node x.written xs) (gone_before sys low k x.node x.written (filter keep xs)) (by x.written refl same.0) a.0, rest))
    (λ e. rest)
  where
    by : (w : Written) → x.written ≡ w → lies_below sys low k x.node x.written ≡ lies_below sys low h x.node x.written
        → gone_before sys low k x.node w (filter keep xs) ≡ gone_before sys low h x.node w xs
    by (checkpoint g l) e i =
        let test = strictly low x.node in
        same-both (test g) (spanned x.node test true (filter keep xs)) (spanned x.node test true xs)
        (λ j. spanned-first x.node test keep xs (first x.node).1 (s.0 g l e j) true)
    by (logged_event r) e i = sym (ap (lies_below sys low k x.node) e) ∙ i ∙ ap (lies_below sys low h x.node) e

-- ---- a write is acknowledged

spanned-replaced : (p : ℕ) (test : Front → Bool) (xs : List Write) (y : Write) (far : Stage) (ys : List Write)
    → spanned p test true (xs ++ record y { stage = far } ∷ ys) ≡ spanned p test true (xs ++ y ∷ ys)
spanned-replaced p test [] y far ys = refl
spanned-replaced p test (x ∷ xs) y far ys = ap (λ b. cond (x.node == p) (spanned_at test x.depth x.written b) b) (spanned-replaced p test xs y far ys)

pub exact-replaced : (sys : System) (low : List Front) (h : List SerialEvent) (xs : List Write) (y : Write) (far : Stage) (ys : List Write)
    → ((b : Bool) → (y.stage ≡ collected) ↔ (b ≡ true) → (far ≡ collected) ↔ (b ≡ true)) → AreGoneExact sys low h (xs ++ y ∷ ys)
    → AreGoneExact sys low h (xs ++ record y { stage = far } ∷ ys)
exact-replaced sys low h [] y far ys k a = (k (gone_before sys low h y.node y.written ys) a.0, a.1)
exact-replaced sys low h (x ∷ xs) y far ys k a =
    (by-same x.stage (gone_before sys low h x.node x.written (xs ++ y ∷ ys)) (gone_before sys low h x.node x.written (xs ++ record y { stage = far } ∷ ys)) (same x.written) a.0, exact-replaced sys low h xs y far ys k a.1)
  where
    same : (w : Written) → gone_before sys low h x.node w (xs ++ record y { stage = far } ∷ ys) ≡ gone_before sys low h x.node w (xs ++ y ∷ ys)
    same (checkpoint g l) = ap (λ b. strictly low x.node g && b) (spanned-replaced x.node (strictly low x.node) xs y far ys)
    same (logged_event r) = refl

-- ---- a collection

spanned-grows : (p : ℕ) (old new : Front → Bool) (xs : List Write)
    → AllByRecursion (λ (y : Write). (g : Front) (l : List Front) → y.node ≡ p → y.written ≡ checkpoint g l → old g ≡ true → new g ≡ true) xs
    → spanned p old true xs ≡ true → spanned p new true xs ≡ true
spanned-grows p old new [] k e = refl
spanned-grows p old new (y ∷ ys) k e = elim (cases_Bool (y.node == p)) [
  | inr other ↦
      ap (λ c. cond c (spanned_at new y.depth y.written (spanned p new true ys)) (spanned p new true ys)) other
      ∙ spanned-grows p old new ys k.1 (sym (ap (λ c. cond c (spanned_at old y.depth y.written (spanned p old true ys)) (spanned p old true ys)) other) ∙ e)
  | inl mine ↦
      ap (λ c. cond c (spanned_at new y.depth y.written (spanned p new true ys)) (spanned p new true ys)) mine
      ∙ by y.depth y.written (eqb-true y.node p mine) refl (λ b. spanned-grows p old new ys k.1 b)
      (sym (ap (λ c. cond c (spanned_at old y.depth y.written (spanned p old true ys)) (spanned p old true ys)) mine) ∙ e)
]
  where
    by : (d : ℕ) (w : Written) → y.node ≡ p → y.written ≡ w → (spanned p old true ys ≡ true → spanned p new true ys ≡ true)
        → spanned_at old d w (spanned p old true ys) ≡ true → spanned_at new d w (spanned p new true ys) ≡ true
    by d (logged_event s) at i rest e = rest e
    by d (checkpoint g l) at i rest e = elim (cases_Bool (d == 0)) [
      | inl zero ↦ ap (λ c. cond c true (new g && spanned p new true ys)) zero
      | inr deep ↦
          let parts = and_parts (old g) (spanned p old true ys) (sym (ap (λ c. cond c true (old g && spanned p old true ys)) deep) ∙ e) in
          ap (λ c. cond c true (new g && spanned p new true ys)) deep
          ∙ and_from (new g) (spanned p new true ys) (k.0 g l at i parts.0) (rest parts.1)
    ]

far-exact : (old new : Bool) → (old ≡ true → new ≡ true) → (far : Stage) → (new ≡ true → is_in_flight far ≡ false) → (far ≡ collected) ↔ (old ≡ true)
    → (after_collection new far ≡ collected) ↔ (new ≡ true)
far-exact old new g in_flight n a = (λ c. absurd (cc c), λ k. absurd (two_ways true refl (n k)))
far-exact old new g acknowledged n a =
    cond_both new collected acknowledged (λ far. (far ≡ collected) ↔ (new ≡ true)) (λ e. (λ c. e, λ k. refl)) (λ e. (λ c. absurd (cc c), λ k. absurd (two_ways new k e)))
far-exact old new g collected n a = (λ c. g (a.0 refl), λ k. refl)

pub exact-collected : (sys : System) (old low : List Front) (h : List SerialEvent) (goes : Write → Bool) (xs : List Write)
    → AllByRecursion (λ (x : Write). lies_below sys old h x.node x.written ≡ true → lies_below sys low h x.node x.written ≡ true) xs
    → AllByRecursion (λ (x : Write). lies_below sys low h x.node x.written ≡ true → is_in_flight x.stage ≡ false) xs
    → WithLater (λ x later. goes x ≡ gone_before sys low h x.node x.written later) xs → AreGoneExact sys old h xs
    → AreGoneExact sys low h (map (λ (x : Write). record x { stage = after_collection (goes x) x.stage }) xs)
exact-collected sys old low h goes [] grows lands is a = tt
exact-collected sys old low h goes (x ∷ xs) grows lands is a = (
  subst (λ b. (after_collection (goes x) x.stage ≡ collected) ↔ (b ≡ true)) (sym (staged x.written))
      (subst (λ b. (after_collection b x.stage ≡ collected) ↔ (gone_before sys low h x.node x.written xs ≡ true)) (sym is.0)
      (far-exact (gone_before sys old h x.node x.written xs) (gone_before sys low h x.node x.written xs) (more x.written refl) x.stage
      (λ k. lands.0 (gone-below sys low h x.node x.written xs k)) a.0)),
  exact-collected sys old low h goes xs grows.1 lands.1 is.1 a.1,
)
  where
    staged : (w : Written) → gone_before sys low h x.node w (map (λ (y : Write). record y { stage = after_collection (goes y) y.stage }) xs) ≡ gone_before sys low h x.node w xs
    staged (checkpoint g l) = ap (λ b. strictly low x.node g && b) (spanned-staged x.node (strictly low x.node) true (λ (y : Write). after_collection (goes y) y.stage) xs)
    staged (logged_event s) = refl

    more : (w : Written) → x.written ≡ w → gone_before sys old h x.node w xs ≡ true → gone_before sys low h x.node w xs ≡ true
    more (checkpoint g l) e k =
        let parts = and_parts (strictly old x.node g) (spanned x.node (strictly old x.node) true xs) k in
        and_from (strictly low x.node g) (spanned x.node (strictly low x.node) true xs)
        (sym (ap (lies_below sys low h x.node) e) ∙ grows.0 (ap (lies_below sys old h x.node) e ∙ parts.0))
        (spanned-grows x.node (strictly old x.node) (strictly low x.node) xs
        (each-weaker (λ (y : Write). lies_below sys old h y.node y.written ≡ true → lies_below sys low h y.node y.written ≡ true)
        (λ (y : Write). (f : Front) (m : List Front) → y.node ≡ x.node → y.written ≡ checkpoint f m → strictly old x.node f ≡ true → strictly low x.node f ≡ true) xs
        (λ y b f m at i j.
        sym (ap (lies_below sys low h x.node) i) ∙ sym (ap (λ q. lies_below sys low h q y.written) at)
        ∙ b (ap (λ q. lies_below sys old h q y.written) at ∙ ap (lies_below sys old h x.node) i ∙ j)) grows.1) parts.1)
    more (logged_event s) e k = sym (ap (lies_below sys low h x.node) e) ∙ grows.0 (ap (lies_below sys old h x.node) e ∙ k)
