-- Which checkpoints a collection takes: the entries go whose writes the machine forgets.
use Rattle.std.proofs.Common.{◌≡◌, ◌⊎◌, ℕ, ◌<◌, ◌≤◌, Bool, true, false, not, cond, ◌&&◌, ◌==◌, nat_lt, List, [], ◌∷◌, ◌++◌, filter, length, refl, sym, ap, subst, ◌∙◌, inl, inr, arith}
use Rattle.std.specs.List.{AllByRecursion, AllZip}
use Rattle.std.proofs.lemmas.Bool.{and_from, and_parts, cases_Bool, cond_both, eq-eqb, eqb-true, false_from_ne_true}
use Rattle.std.proofs.lemmas.Bool.Decides.{nat_tests}
use Rattle.std.proofs.lemmas.List.{append_assoc, append-nil}
use Rattle.std.proofs.lemmas.List.Elements.{filter-append}
use Rattle.fw_lemmas.proofs.Bools.{two_ways}
use Rattle.fw_lemmas.proofs.Each.{each-filter, each-kept, each-one, each-suffix, each-weaker, each_of-map}
use Rattle.fw_lemmas.proofs.Filters.{filter-in, filter-out}
use Rattle.fw_lemmas.proofs.SideBySide.{zip-append}
use Rattle.fw_frontier.specs.Frontier.{Within}
use Rattle.fw_frontier.specs.Front.{Front, frontier_of, is_within, IsCanonical}
use Rattle.fw_frontier.proofs.NamesLaws.{is_within-holds, within-is}
use Rattle.fw_flow.specs.Dataflow.{System, bounds_of}
use Rattle.fw_flow.specs.WellFormed.{IsWellFormedSystem}
use Rattle.fw_model.specs.Machine.{Machine, SerialEvent, Stage, Write, in_flight, acknowledged, collected, checkpoint, logged_event, front_of}
use Rattle.fw_model.specs.Machine.{Written as WrittenBy}
use Rattle.fw_model.specs.Reached.{IsReached}
use Rattle.fw_model.specs.Steps.{checkpoint_front, checkpoints_of, is_forgotten, is_serial_given_up}
use Rattle.fw_model.specs.Writes.{is_collected, not_collected}
use Rattle.fw_model.proofs.AskedLaws.{IsAskedWell, IsWriteAskedWell, takes-declared}
use Rattle.fw_model.proofs.CollectedLaws.{CanForget, reached-forget}
use Rattle.fw_model.proofs.GoneLaws.{strictly, gone_before, forgotten-gone, AreGoneExact, IsGoneExact}
use Rattle.fw_model.proofs.SameInsideLaws.{low-offered}
use Rattle.fw_model.proofs.SpanLaws.{spanned_at, spanned, spanned-append}
use Rattle.fw_model.proofs.StandingLaws.{pairs-before}
use Rattle.fw_model.proofs.WriteLaws.{ArePairs}
use Rattle.fw_keep.specs.declared.entry.Entry.{Entry}
use Rattle.fw_keep.specs.declared.entry.Written.{Written}
use Rattle.fw_keep.specs.declared.entry.Written.TheVariants as written
use Rattle.fw_keep.specs.Catalogue.{KeepState, AreAscending, IsCatalogue, ids_of}
use Rattle.fw_keep.specs.Entry.{is_checkpoint, is_checkpoint_below}
use Rattle.fw_keep.specs.Newest.{is_checkpoint_of, is_forgotten_below, stay_from, whole_or}
use Rattle.fw_policy.specs.Entries.{HoldsWhatIsWritten, IsEntryOf, AreEntriesOf, uncollected}
use Rattle.fw_stands.proofs.BaseSteps.{IsNewestEntry}
use Rattle.fw_stands.proofs.ReadChains.{IsBefore, before-pairs}

-- ---- an entry and its write

-- It is no checkpoint of node p.
record IsPassedBy (p : ℕ) (e : Entry) (x : Write) : Type 0 where
  entry : is_checkpoint_of p e ≡ false
  spans : (test : Front → Bool) (rest : Bool) → cond (x.node == p) (spanned_at test x.depth x.written rest) rest ≡ rest

-- It is a checkpoint of node p.
record IsTaken (p : ℕ) (e : Entry) (x : Write) : Type 0 where
  entry : is_checkpoint_of p e ≡ true
  node : x.node ≡ p
  front : Front
  low : List Front
  of : x.written ≡ checkpoint front low
  below : (f : Front) → is_checkpoint_below f e.written ≡ (is_within front f && not (is_within f front))
  depth : e.depth ≡ x.depth

passed-or_taken : (sys : System) (state : Machine) (p : ℕ) (e : Entry) (x : Write) → IsEntryOf sys state e x → IsPassedBy p e x ⊎ IsTaken p e x
passed-or_taken sys state p e x i = elim (cases_Bool (x.node == p)) [
  | inr other ↦ inl (record {
    entry = ap (λ n. (n == p) && is_checkpoint e.written) i.node ∙ ap (λ b. b && is_checkpoint e.written) other;
    spans = λ test rest. ap (λ b. cond b (spanned_at test x.depth x.written rest) rest) other;
  })
  | inl own ↦ by own e.written x.written refl refl i.holds
]
  where
    by : (x.node == p) ≡ true → (w : Written) (v : WrittenBy) → e.written ≡ w → x.written ≡ v → HoldsWhatIsWritten sys state x.node w v → IsPassedBy p e x ⊎ IsTaken p e x
    by own (written.Checkpoint r s n) (checkpoint g l) j k h = inr (record {
      entry = ap (λ n. (n == p) && is_checkpoint e.written) i.node ∙ ap (λ b. b && is_checkpoint e.written) own ∙ ap is_checkpoint j;
      node = eqb-true x.node p own;
      front = g;
      low = l;
      of = k;
      below = λ f. ap (is_checkpoint_below f) j ∙ ap (λ z. is_within z f && not (is_within f z)) h.recorded.front;
      depth = i.depth;
    })
    by own (written.Checkpoint r s n) (logged_event t) j k h = absurd h
    by own (written.Event event) (checkpoint g l) j k h = absurd h
    by own (written.Event event) (logged_event t) j k h = inl (record {
      entry = ap (λ w. (e.node == p) && is_checkpoint w) j ∙ none (e.node == p);
      spans = λ test rest. ap (λ b. cond b (spanned_at test x.depth x.written rest) rest) own ∙ ap (λ v. spanned_at test x.depth v rest) k;
    })
      where
        none : (b : Bool) → (b && false) ≡ false
        none true = refl
        none false = refl

-- one entry more
stay-passed : (p : ℕ) (f : Front) (whole last : ℕ) (e : Entry) (es : List Entry) → is_checkpoint_of p e ≡ false → stay_from p f whole last (e ∷ es) ≡ stay_from p f whole last es
stay-passed p f whole last e es k =
    ap (λ b. cond (not b) (stay_from p f whole last es) (cond (is_checkpoint_below f e.written) (stay_from p f (whole_or whole e) last es) (whole_or whole e))) k

stay-taken : (p : ℕ) (f : Front) (whole last : ℕ) (e : Entry) (es : List Entry) → is_checkpoint_of p e ≡ true
    → stay_from p f whole last (e ∷ es) ≡ cond (is_checkpoint_below f e.written) (stay_from p f (whole_or whole e) last es) (whole_or whole e)
stay-taken p f whole last e es k =
    ap (λ b. cond (not b) (stay_from p f whole last es) (cond (is_checkpoint_below f e.written) (stay_from p f (whole_or whole e) last es) (whole_or whole e))) k

-- the id from which on they stay is above one below which a whole one is and all ids are
stay-above : (p : ℕ) (f : Front) (n whole last : ℕ) → n < whole → n < last → (es : List Entry) → AllByRecursion (λ (e : Entry). n < e.id) es → n < stay_from p f whole last es
stay-above p f n whole last a b [] k = b
stay-above p f n whole last a b (e ∷ es) k =
    let up : n < whole_or whole e = cond_both (e.depth == 0) e.id whole (λ m. n < m) (λ i. k.0) (λ i. a) in
    cond_both (not (is_checkpoint_of p e)) (stay_from p f whole last es) (cond (is_checkpoint_below f e.written) (stay_from p f (whole_or whole e) last es) (whole_or whole e))
    (λ m. n < m) (λ i. stay-above p f n whole last a b es k.1)
    (λ i. cond_both (is_checkpoint_below f e.written) (stay_from p f (whole_or whole e) last es) (whole_or whole e) (λ m. n < m)
    (λ j. stay-above p f n (whole_or whole e) last up b es k.1) (λ j. up))

less-is : (n m : ℕ) → n < m → nat_lt n m ≡ true
less-is n m l = grind (arith, nat_tests)

less-not : (n m : ℕ) → m ≤ n → nat_lt n m ≡ false
less-not n m l = grind (arith, nat_tests)

module _ (sys : System) (state : Machine) (low : List Front) (p : ℕ) where
  abbrev f : Front
  f = front_of low p

  abbrev test : Front → Bool
  test = strictly low p

  -- behind an entry: it goes where those behind it pass up to the next whole one
  stay-behind : (n whole last : ℕ) → whole ≤ n → n < last → (es : List Entry) (xs : List Write) → AreEntriesOf sys state es xs → AllByRecursion (λ (e : Entry). n < e.id) es
      → nat_lt n (stay_from p f whole last es) ≡ spanned p test true xs
  stay-behind n whole last a b [] [] z k = less-is n last b
  stay-behind n whole last a b [] (x ∷ xs) z k = absurd z
  stay-behind n whole last a b (e ∷ es) [] z k = absurd z
  stay-behind n whole last a b (e ∷ es) (x ∷ xs) z k = elim (passed-or_taken sys state p e x z.0) [
    | inl o ↦ ap (nat_lt n) (stay-passed p f whole last e es o.entry) ∙ stay-behind n whole last a b es xs z.1 k.1 ∙ sym (o.spans test (spanned p test true xs))
    | inr o ↦
        let span : spanned p test true (x ∷ xs) ≡ cond (x.depth == 0) true (test o.front && spanned p test true xs) =
        ap (λ c. cond c (spanned_at test x.depth x.written (spanned p test true xs)) (spanned p test true xs)) (eq-eqb x.node p o.node)
        ∙ ap (λ v. spanned_at test x.depth v (spanned p test true xs)) o.of in
        ap (nat_lt n) (stay-taken p f whole last e es o.entry ∙ ap (λ c. cond c (stay_from p f (whole_or whole e) last es) (whole_or whole e)) (o.below f))
        ∙ elim (cases_Bool (x.depth == 0)) [
          | inl zero ↦
              let is : whole_or whole e ≡ e.id = ap (λ d. cond (d == 0) e.id whole) o.depth ∙ ap (λ c. cond c e.id whole) zero in
              let up : n < whole_or whole e = subst (λ m. n < m) (sym is) k.0 in
              less-is n (cond (test o.front) (stay_from p f (whole_or whole e) last es) (whole_or whole e))
              (cond_both (test o.front) (stay_from p f (whole_or whole e) last es) (whole_or whole e) (λ m. n < m)
              (λ i. stay-above p f n (whole_or whole e) last up b es k.1) (λ i. up))
              ∙ sym (span ∙ ap (λ c. cond c true (test o.front && spanned p test true xs)) zero)
          | inr deep ↦
              let is : whole_or whole e ≡ whole = ap (λ d. cond (d == 0) e.id whole) o.depth ∙ ap (λ c. cond c e.id whole) deep in
              let rest = stay-behind n whole last a b es xs z.1 k.1 in
              ap (λ m. nat_lt n (cond (test o.front) (stay_from p f m last es) m)) is
              ∙ by (test o.front) rest ∙ sym (span ∙ ap (λ c. cond c true (test o.front && spanned p test true xs)) deep)
        ]
  ]
    where
      by : (c : Bool) → nat_lt n (stay_from p f whole last es) ≡ spanned p test true xs → nat_lt n (cond c (stay_from p f whole last es) whole) ≡ (c && spanned p test true xs)
      by true rest = rest
      by false rest = less-not n whole a

  -- before an entry that lies strictly below all of the node's do, and no id of theirs is above its own
  stay-before : (n whole last : ℕ) → whole ≤ n → (es : List Entry) (xs : List Write) → AreEntriesOf sys state es xs → AllByRecursion (λ (e : Entry). e.id ≤ n) es
      → AllByRecursion (λ (x : Write). (g : Front) (l : List Front) → x.node ≡ p → x.written ≡ checkpoint g l → test g ≡ true) xs → (more : List Entry)
      → (m : ℕ) × (m ≤ n) × (stay_from p f whole last (es ++ more) ≡ stay_from p f m last more)
  stay-before n whole last a [] xs z k below more = (whole, a, refl)
  stay-before n whole last a (e ∷ es) [] z k below more = absurd z
  stay-before n whole last a (e ∷ es) (x ∷ xs) z k below more = elim (passed-or_taken sys state p e x z.0) [
    | inl o ↦
        let rest = stay-before n whole last a es xs z.1 k.1 below.1 more in
        (rest.0, rest.1, stay-passed p f whole last e (es ++ more) o.entry ∙ rest.2)
    | inr o ↦
        let up : whole_or whole e ≤ n = cond_both (e.depth == 0) e.id whole (λ m. m ≤ n) (λ i. k.0) (λ i. a) in
        let rest = stay-before n (whole_or whole e) last up es xs z.1 k.1 below.1 more in (
          rest.0,
          rest.1,
          stay-taken p f whole last e (es ++ more) o.entry
              ∙ ap (λ c. cond c (stay_from p f (whole_or whole e) last (es ++ more)) (whole_or whole e)) (o.below f ∙ below.0 o.front o.low o.node o.of) ∙ rest.2,
        )
  ]

  -- an entry of a checkpoint of the node goes exactly where it lies strictly below, and those behind it do up to the next whole one
  pub goes-alike : (before : List Entry) (us : List Write) (e : Entry) (x : Write) (after : List Entry) (vs : List Write)
      → AreEntriesOf sys state before us → IsEntryOf sys state e x → AreEntriesOf sys state after vs
      → (next : ℕ) → AllByRecursion (λ (o : Entry). o.id ≤ e.id) before → AllByRecursion (λ (o : Entry). e.id < o.id) after → e.id < next
      → (g : Front) (l : List Front) → x.node ≡ p → x.written ≡ checkpoint g l
      → (test g ≡ true → AllByRecursion (λ (y : Write). (k : Front) (m : List Front) → y.node ≡ p → y.written ≡ checkpoint k m → test k ≡ true) us)
      → (is_checkpoint_below f e.written && nat_lt e.id (stay_from p f 0 next (before ++ e ∷ after))) ≡ (test g && spanned p test true vs)
  goes-alike before us e x after vs b i c next less more drawn g l at is down = elim (passed-or_taken sys state p e x i) [
    | inl o ↦ absurd (two_ways (is_checkpoint_of p e) (own e.written x.written refl refl i.holds) o.entry)
    | inr o ↦
        let same : o.front ≡ g = front-is o.front g o.low l (sym o.of ∙ is) in
        let below : is_checkpoint_below f e.written ≡ test g = o.below f ∙ ap test same in
        ap (λ d. d && nat_lt e.id (stay_from p f 0 next (before ++ e ∷ after))) below
        ∙ elim (cases_Bool (test g)) [
          | inr off ↦ ap (λ d. d && nat_lt e.id (stay_from p f 0 next (before ++ e ∷ after))) off ∙ sym (ap (λ d. d && spanned p test true vs) off)
          | inl on ↦
              let to = stay-before e.id 0 next (omega arith) before us b less (down on) (e ∷ after) in
              let up : whole_or to.0 e ≤ e.id = let m = to.1 in cond_both (e.depth == 0) e.id to.0 (λ k. k ≤ e.id) (λ j. omega arith) (λ j. m) in
              ap (λ n. test g && nat_lt e.id n)
              (to.2 ∙ stay-taken p f to.0 next e after o.entry ∙ ap (λ d. cond d (stay_from p f (whole_or to.0 e) next after) (whole_or to.0 e)) (below ∙ on))
              ∙ ap (λ d. test g && d) (stay-behind e.id (whole_or to.0 e) next up drawn after vs c more)
        ]
  ]
    where
      front-is : (g k : Front) (l m : List Front) → checkpoint g l ≡ checkpoint k m → g ≡ k
      front-is g k l m e = cc

      own : (w : Written) (v : WrittenBy) → e.written ≡ w → x.written ≡ v → HoldsWhatIsWritten sys state x.node w v → is_checkpoint_of p e ≡ true
      own (written.Checkpoint r s n) v j k h = ap (λ n. (n == p) && is_checkpoint e.written) (i.node ∙ at) ∙ ap (λ b. b && is_checkpoint e.written) (eq-eqb p p refl) ∙ ap is_checkpoint j
      own (written.Event event) (checkpoint a d) j k h = absurd h
      own (written.Event event) (logged_event s) j k h = absurd (let c : logged_event s ≡ checkpoint g l = sym k ∙ is in cc)

-- ---- what was not collected

strictly-down : (sys : System) (low : List Front) (p : ℕ) → IsCanonical (bounds_of sys.flow p) (front_of low p) → (g k : Front) → IsCanonical (bounds_of sys.flow p) k
    → is_within g k ≡ true → strictly low p k ≡ true → strictly low p g ≡ true
strictly-down sys low p canonical g k of within e =
    let b = bounds_of sys.flow p in
    let f = front_of low p in
    let below : Within (frontier_of b g) (frontier_of b k) = is_within-holds b g k within in
    let parts = and_parts (is_within k f) (not (is_within f k)) e in
    and_from (is_within g f) (not (is_within f g))
    (within-is b g f canonical (λ t i. is_within-holds b k f parts.0 t (below t i)))
    (ap not (false_from_ne_true (is_within f g) (λ i.
    two_ways (not (is_within f k)) parts.1 (ap not (within-is b f k of (λ t j. below t (is_within-holds b f g i t j)))))))

-- what was collected of node p is no checkpoint
abbrev pub IsThere : ℕ → Write → Type 0
IsThere p y = not_collected y ≡ false → (g : Front) (l : List Front) → y.node ≡ p → y.written ≡ checkpoint g l → ⊥

there-spanned : (p : ℕ) (test : Front → Bool) (xs : List Write) → AllByRecursion (IsThere p) xs → spanned p test true (filter not_collected xs) ≡ spanned p test true xs
there-spanned p test [] a = refl
there-spanned p test (x ∷ xs) a =
    let rest = there-spanned p test xs a.1 in
    cond_both (not_collected x) (x ∷ filter not_collected xs) (filter not_collected xs) (λ ys. spanned p test true ys ≡ spanned p test true (x ∷ xs))
    (λ e. ap (λ b. cond (x.node == p) (spanned_at test x.depth x.written b) b) rest)
    (λ e. rest ∙ sym (elim (cases_Bool (x.node == p)) [
      | inr other ↦ ap (λ b. cond b (spanned_at test x.depth x.written (spanned p test true xs)) (spanned p test true xs)) other
      | inl own ↦
          ap (λ b. cond b (spanned_at test x.depth x.written (spanned p test true xs)) (spanned p test true xs)) own
          ∙ by x.written refl (eqb-true x.node p own) e
    ]))
  where
    by : (w : WrittenBy) → x.written ≡ w → x.node ≡ p → not_collected x ≡ false → spanned_at test x.depth x.written (spanned p test true xs) ≡ spanned p test true xs
    by (checkpoint g l) is at gone = absurd (a.0 gone g l at is)
    by (logged_event s) is at gone = ap (λ w. spanned_at test x.depth w (spanned p test true xs)) is

all-spanned : (p : ℕ) (test : Front → Bool) (xs : List Write)
    → AllByRecursion (λ (x : Write). (g : Front) (l : List Front) → x.node ≡ p → x.written ≡ checkpoint g l → test g ≡ true) xs → spanned p test true xs ≡ true
all-spanned p test [] a = refl
all-spanned p test (x ∷ xs) a =
    let rest = all-spanned p test xs a.1 in
    cond_both (x.node == p) (spanned_at test x.depth x.written (spanned p test true xs)) (spanned p test true xs) (λ b. b ≡ true)
    (λ own. by x.written refl (eqb-true x.node p own) rest) (λ other. rest)
  where
    by : (w : WrittenBy) → x.written ≡ w → x.node ≡ p → spanned p test true xs ≡ true → spanned_at test x.depth x.written (spanned p test true xs) ≡ true
    by (checkpoint g l) is at rest =
        ap (λ w. spanned_at test x.depth w (spanned p test true xs)) is
        ∙ cond_both (x.depth == 0) true (test g && spanned p test true xs) (λ b. b ≡ true) (λ e. refl) (λ e. and_from (test g) (spanned p test true xs) (a.0 g l at is) rest)
    by (logged_event s) is at rest = ap (λ w. spanned_at test x.depth w (spanned p test true xs)) is ∙ rest

gone-stage : (far : Stage) → not (is_collected far) ≡ false → far ≡ collected
gone-stage in_flight e = absurd (two_ways true refl e)
gone-stage acknowledged e = absurd (two_ways true refl e)
gone-stage collected e = refl

stage-gone : (far : Stage) → not (is_collected far) ≡ true → far ≡ collected → ⊥
stage-gone far e c = two_ways (not (is_collected far)) e (ap (λ s. not (is_collected s)) c)

exact-behind : (sys : System) (low : List Front) (h : List SerialEvent) (xs : List Write) (x : Write) (ys : List Write) → AreGoneExact sys low h (xs ++ x ∷ ys) → IsGoneExact sys low h x ys
exact-behind sys low h [] x ys a = a.0
exact-behind sys low h (z ∷ xs) x ys a = exact-behind sys low h xs x ys a.1

-- behind a checkpoint of node p that was not collected none of the node's was
pub there-behind : (sys : System) (low : List Front) (h : List SerialEvent) (p : ℕ) → IsCanonical (bounds_of sys.flow p) (front_of low p)
    → (x : Write) (g : Front) (l : List Front) → x.node ≡ p → x.written ≡ checkpoint g l → not_collected x ≡ true → (before after : List Write)
    → ArePairs (IsBefore p) (x ∷ before ++ after) → AreGoneExact sys low h (x ∷ before ++ after)
    → AllByRecursion (λ (y : Write). (k : Front) (m : List Front) → y.node ≡ p → y.written ≡ checkpoint k m → IsCanonical (bounds_of sys.flow p) k) after
    → AllByRecursion (IsThere p) after
there-behind sys low h p canonical x g l at is stays before [] pairs exact of = tt
there-behind sys low h p canonical x g l at is stays before (y ∷ after) pairs exact of =
    let again : before ++ y ∷ after ≡ (before ++ y ∷ []) ++ after = sym (append_assoc before (y ∷ []) after) in (
      λ gone k m own what.
          let test = strictly low p in
          let first = each-suffix (λ (z : Write). IsBefore p x.node x.written z.node z.written) before (y ∷ after) pairs.0 in
          let within : is_within g k ≡ true = (first.0 g k l m at own is what).0 in
          let its = (exact-behind sys low h (x ∷ before) y after exact).0 (gone-stage y.stage gone) in
          let parts = and_parts (test k) (spanned p test true after) (sym (own-gone y after k m own what) ∙ its) in
          let behind : spanned p test true (y ∷ after) ≡ true =
          ap (λ c. cond c (spanned_at test y.depth y.written (spanned p test true after)) (spanned p test true after)) (eq-eqb y.node p own)
          ∙ ap (λ w. spanned_at test y.depth w (spanned p test true after)) what
          ∙ cond_both (y.depth == 0) true (test k && spanned p test true after) (λ b. b ≡ true) (λ e. refl) (λ e. and_from (test k) (spanned p test true after) parts.0 parts.1) in
          let between =
          each-weaker (λ (u : Write). IsBefore p u.node u.written y.node y.written)
          (λ (u : Write). (j : Front) (n : List Front) → u.node ≡ p → u.written ≡ checkpoint j n → test j ≡ true) before
          (λ u b j n i e. strictly-down sys low p canonical j k (of.0 k m own what) (b j k n m i own e what).0 parts.0)
          (pairs-before (IsBefore p) before y after pairs.1) in
          let spans : spanned p test true (before ++ y ∷ after) ≡ true =
          spanned-append p test true before (y ∷ after) ∙ ap (λ b. spanned p test b before) behind ∙ all-spanned p test before between in
          let mine : (test g && spanned p test true (before ++ y ∷ after)) ≡ true =
          and_from (test g) (spanned p test true (before ++ y ∷ after)) (strictly-down sys low p canonical g k (of.0 k m own what) within parts.0) spans in
          stage-gone x.stage stays (exact.0.1 (own-gone x (before ++ y ∷ after) g l at is ∙ mine)),
      there-behind sys low h p canonical x g l at is stays (before ++ y ∷ []) after (subst (λ zs. ArePairs (IsBefore p) (x ∷ zs)) again pairs)
          (subst (λ zs. AreGoneExact sys low h (x ∷ zs)) again exact) of.1,
    )
  where
    own-gone : (z : Write) (zs : List Write) (k : Front) (m : List Front) → z.node ≡ p → z.written ≡ checkpoint k m
        → gone_before sys low h z.node z.written zs ≡ (strictly low p k && spanned p (strictly low p) true zs)
    own-gone z zs k m i e = ap (λ q. gone_before sys low h q z.written zs) i ∙ ap (λ w. gone_before sys low h p w zs) e

-- ---- along the writes

pairs-behind : (R : ℕ → WrittenBy → ℕ → WrittenBy → Type 0) (xs ys : List Write) → ArePairs R (xs ++ ys) → ArePairs R ys
pairs-behind R [] ys a = a
pairs-behind R (x ∷ xs) ys a = pairs-behind R xs ys a.1

exact-from : (sys : System) (low : List Front) (h : List SerialEvent) (xs ys : List Write) → AreGoneExact sys low h (xs ++ ys) → AreGoneExact sys low h ys
exact-from sys low h [] ys a = a
exact-from sys low h (x ∷ xs) ys a = exact-from sys low h xs ys a.1

-- ids ascend on both sides of an entry
around : (before : List Entry) (e : Entry) (after : List Entry) → AreAscending (ids_of (before ++ e ∷ after))
    → AllByRecursion (λ (o : Entry). o.id ≤ e.id) before × AllByRecursion (λ (o : Entry). e.id < o.id) after
around [] e after a = (tt, each_of-map (λ id. e.id < id) (λ (o : Entry). o.id) after a.0)
around (o ∷ before) e after a =
    let rest = around before e after a.1 in
    let l = (each-suffix (λ (x : Entry). o.id < x.id) before (e ∷ after) (each_of-map (λ id. o.id < id) (λ (x : Entry). x.id) (before ++ e ∷ after) a.0)).0 in
    ((omega arith, rest.0), rest.1)

-- What is known of a collection to these fronts.
pub record IsToBeCollected (sys : System) (state : Machine) (low : List Front) (keep : KeepState) : Type 0 where
  pub now : (p : ℕ) → p < length sys.flow.nodes → IsCanonical (bounds_of sys.flow p) (front_of state.low p)
  pub later : (p : ℕ) → p < length sys.flow.nodes → IsCanonical (bounds_of sys.flow p) (front_of low p)
  pub can : CanForget sys state
  pub catalogue : IsCatalogue keep
  pub entries : AreEntriesOf sys state keep.entries (uncollected state)

-- The entry of a checkpoint goes exactly where its write is forgotten; and a logged event is exactly where it is given up.
pub record GoesForgotten (sys : System) (state : Machine) (low : List Front) (keep : KeepState) (e : Entry) (x : Write) : Type 0 where
  pub of_checkpoint : (g : Front) (l : List Front) → x.written ≡ checkpoint g l
      → is_forgotten_below e.node (front_of low e.node) keep e ≡ is_forgotten sys low state.history state.writes x
  pub of_event : (s : ℕ) → x.written ≡ logged_event s → is_serial_given_up sys low s state.history ≡ is_forgotten sys low state.history state.writes x

goes-here : (sys : System) (state : Machine) (low : List Front) (keep : KeepState) → IsToBeCollected sys state low keep
    → (xs : List Write) (y : Write) (ys : List Write) → state.writes ≡ xs ++ y ∷ ys → not_collected y ≡ true
    → (before : List Entry) (e : Entry) (after : List Entry) → keep.entries ≡ before ++ e ∷ after
    → AreEntriesOf sys state before (filter not_collected xs) → IsEntryOf sys state e y → AreEntriesOf sys state after (filter not_collected ys)
    → (g : Front) (l : List Front) → y.written ≡ checkpoint g l
    → is_forgotten_below e.node (front_of low e.node) keep e ≡ is_forgotten sys low state.history state.writes y
goes-here sys state low keep c xs y ys split stays before e after parts b i d g l is =
    let p = y.node in
    let f = front_of low p in
    let h = state.history in
    let test = strictly low p in
    let known = c.can.reached in
    let Asked : Write → Type 0 = IsWriteAskedWell sys state.low state.next h in
    let asked : AllByRecursion Asked (xs ++ y ∷ ys) = subst (AllByRecursion Asked) split known.restore.asked in
    let own = subst (λ w. IsAskedWell sys state.low state.next h p w y.stage) is (each-suffix Asked xs (y ∷ ys) asked).0 in
    let declared = takes-declared sys.flow p own.0 in
    let pairs : ArePairs (IsBefore p) (xs ++ y ∷ ys) =
    subst (ArePairs (IsBefore p)) split (before-pairs sys state.low state.next h p declared state.writes known.recover.ascend known.restore.apart known.restore.asked) in
    let canonical = each-weaker Asked (λ (z : Write). (k : Front) (m : List Front) → z.node ≡ p → z.written ≡ checkpoint k m → IsCanonical (bounds_of sys.flow p) k) ys
    (λ z a k m at what. subst (λ q. IsCanonical (bounds_of sys.flow q) k) at (subst (λ w. IsAskedWell sys state.low state.next h z.node w z.stage) what a).1)
    ((each-suffix Asked xs (y ∷ ys) asked).1) in
    let there =
    there-behind sys state.low h p (c.now p declared) y g l refl is stays [] ys (pairs-behind (IsBefore p) xs (y ∷ ys) pairs)
    (exact-from sys state.low h xs (y ∷ ys) (subst (AreGoneExact sys state.low h) split c.can.exact)) canonical in
    let ids = around before e after (subst (λ os. AreAscending (ids_of os)) parts c.catalogue.ascending) in
    let drawn = (each-suffix (λ (o : Entry). o.id < keep.next) before (e ∷ after)
    (subst (AllByRecursion (λ (o : Entry). o.id < keep.next)) parts (each_of-map (λ id. id < keep.next) (λ (o : Entry). o.id) keep.entries c.catalogue.drawn))).0 in
    let goes = goes-alike sys state low p before (filter not_collected xs) e y after (filter not_collected ys) b i d keep.next ids.0 ids.1 drawn g l refl is
    (λ on.
    each-weaker (λ (u : Write). IsBefore p u.node u.written y.node y.written)
    (λ (u : Write). (k : Front) (m : List Front) → u.node ≡ p → u.written ≡ checkpoint k m → test k ≡ true) (filter not_collected xs)
    (λ u r k m at what. strictly-down sys low p (c.later p declared) k g own.1 (r k g m l at refl what is).0 on)
    (each-kept (λ (u : Write). IsBefore p u.node u.written y.node y.written) not_collected xs (pairs-before (IsBefore p) xs y ys pairs))) in
    ap (λ q. is_forgotten_below q (front_of low q) keep e) i.node
    ∙ ap (λ v. (v && is_checkpoint_below f e.written) && nat_lt e.id (stay_from p f 0 keep.next keep.entries)) (eq-eqb e.node p i.node)
    ∙ ap (λ os. is_checkpoint_below f e.written && nat_lt e.id (stay_from p f 0 keep.next os)) parts ∙ goes
    ∙ ap (λ v. test g && v) (there-spanned p test ys there)
    ∙ sym (ap (λ w. gone_before sys low h p w ys) is)
    ∙ sym (forgotten-gone sys low h state.writes known.restore.apart c.can.logged xs y ys split (λ f m what. c.can.chain p declared))

given_up-here : (sys : System) (state : Machine) (low : List Front) → CanForget sys state → (xs : List Write) (y : Write) (ys : List Write) → state.writes ≡ xs ++ y ∷ ys
    → (s : ℕ) → y.written ≡ logged_event s → is_serial_given_up sys low s state.history ≡ is_forgotten sys low state.history state.writes y
given_up-here sys state low can xs y ys split s is =
    sym (ap (λ w. gone_before sys low state.history y.node w ys) is)
    ∙ sym (forgotten-gone sys low state.history state.writes can.reached.restore.apart can.logged xs y ys split
    (λ f m what. absurd (let c : logged_event s ≡ checkpoint f m = sym is ∙ what in cc)))

along : (sys : System) (state : Machine) (low : List Front) (keep : KeepState) → IsToBeCollected sys state low keep
    → (ys xs : List Write) → state.writes ≡ xs ++ ys → (before es : List Entry) → keep.entries ≡ before ++ es
    → AreEntriesOf sys state before (filter not_collected xs) → AreEntriesOf sys state es (filter not_collected ys)
    → AllZip (GoesForgotten sys state low keep) es (filter not_collected ys)
along sys state low keep c [] xs split before [] parts b z = tt
along sys state low keep c [] xs split before (e ∷ es) parts b z = absurd z
along sys state low keep c (y ∷ ys) xs split before es parts b z = elim (cases_Bool (not_collected y)) [
  | inr gone ↦
      let out = filter-out not_collected y ys gone in
      subst (AllZip (GoesForgotten sys state low keep) es) (sym out)
      (along sys state low keep c ys (xs ++ y ∷ []) more before es parts
      (subst (AreEntriesOf sys state before)
      (sym (filter-append not_collected xs (y ∷ []) ∙ ap (λ us. filter not_collected xs ++ us) (filter-out not_collected y [] gone) ∙ append-nil (filter not_collected xs))) b)
      (subst (AreEntriesOf sys state es) out z))
  | inl stays ↦
      let there = filter-in not_collected y ys stays in
      subst (AllZip (GoesForgotten sys state low keep) es) (sym there) (by (along sys state low keep c ys (xs ++ y ∷ []) more) es parts stays (subst (AreEntriesOf sys state es) there z))
]
  where
    more : state.writes ≡ (xs ++ y ∷ []) ++ ys
    more = split ∙ sym (append_assoc xs (y ∷ []) ys)

    by : ((before es : List Entry) → keep.entries ≡ before ++ es → AreEntriesOf sys state before (filter not_collected (xs ++ y ∷ []))
        → AreEntriesOf sys state es (filter not_collected ys) → AllZip (GoesForgotten sys state low keep) es (filter not_collected ys))
        → (es : List Entry) → keep.entries ≡ before ++ es → not_collected y ≡ true → AreEntriesOf sys state es (y ∷ filter not_collected ys)
        → AllZip (GoesForgotten sys state low keep) es (y ∷ filter not_collected ys)
    by rest [] parts stays z = absurd z
    by rest (e ∷ es) parts stays z = (
      record {
        of_checkpoint = goes-here sys state low keep c xs y ys split stays before e es parts b z.0 z.1;
        of_event = given_up-here sys state low c.can xs y ys split;
      },
      rest (before ++ e ∷ []) es (parts ∙ sym (append_assoc before (e ∷ []) es))
          (subst (AreEntriesOf sys state (before ++ e ∷ []))
          (sym (filter-append not_collected xs (y ∷ []) ∙ ap (λ us. filter not_collected xs ++ us) (filter-in not_collected y [] stays)))
          (zip-append (IsEntryOf sys state) before (filter not_collected xs) (e ∷ []) (y ∷ []) b (z.0, tt))) z.1,
    )

-- the entries go exactly where their writes are forgotten
pub entries_go_forgotten : (sys : System) (state : Machine) (low : List Front) (keep : KeepState) → IsToBeCollected sys state low keep
    → AllZip (GoesForgotten sys state low keep) keep.entries (uncollected state)
entries_go_forgotten sys state low keep c = along sys state low keep c state.writes [] refl [] keep.entries refl tt c.entries

-- ---- the newest checkpoint

-- The write is the last of these that is a checkpoint of node p.
pub record IsLastOf (p : ℕ) (writes : List Write) (write : Write) : Type 0 where
  pub earlier : List Write
  pub later : List Write
  pub there : writes ≡ earlier ++ write ∷ later
  pub none : checkpoints_of p later ≡ []

-- where what passes is split, all is
record IsSplit (writes : List Write) (one : Write) (later : List Write) : Type 0 where
  before : List Write
  after : List Write
  there : writes ≡ before ++ one ∷ after
  left : filter not_collected after ≡ later

split-of : (ws earlier : List Write) (one : Write) (later : List Write) → filter not_collected ws ≡ earlier ++ one ∷ later → IsSplit ws one later
split-of [] [] one later e = absurd (cc e)
split-of [] (z ∷ earlier) one later e = absurd (cc e)
split-of (w ∷ ws) earlier one later e = elim (cases_Bool (not_collected w)) [
  | inr gone ↦
      let rest = split-of ws earlier one later (sym (filter-out not_collected w ws gone) ∙ e) in
      record { before = w ∷ rest.before; after = rest.after; there = ap (λ xs. w ∷ xs) rest.there; left = rest.left }
  | inl stays ↦ by (λ us one. split-of ws us one later) earlier (sym (filter-in not_collected w ws stays) ∙ e)
]
  where
    first-of : (x y : Write) (xs ys : List Write) → x ∷ xs ≡ y ∷ ys → x ≡ y
    first-of x y xs ys k = cc

    rest-of : (x y : Write) (xs ys : List Write) → x ∷ xs ≡ y ∷ ys → xs ≡ ys
    rest-of x y xs ys k = cc

    by : ((us : List Write) (x : Write) → filter not_collected ws ≡ us ++ x ∷ later → IsSplit ws x later) → (earlier : List Write) → w ∷ filter not_collected ws ≡ earlier ++ one ∷ later → IsSplit (w ∷ ws) one later
    by rest [] k = record {
      before = [];
      after = ws;
      there = ap (λ x. x ∷ ws) (first-of w one (filter not_collected ws) later k);
      left = rest-of w one (filter not_collected ws) later k;
    }
    by rest (z ∷ earlier) k =
        let more = rest earlier one (rest-of w z (filter not_collected ws) (earlier ++ one ∷ later) k) in
        record { before = w ∷ more.before; after = more.after; there = ap (λ xs. w ∷ xs) more.there; left = more.left }

there-checkpoints : (p : ℕ) (xs : List Write) → AllByRecursion (IsThere p) xs → checkpoints_of p (filter not_collected xs) ≡ checkpoints_of p xs
there-checkpoints p [] a = refl
there-checkpoints p (x ∷ xs) a =
    let rest = there-checkpoints p xs a.1 in
    cond_both (not_collected x) (x ∷ filter not_collected xs) (filter not_collected xs) (λ ys. checkpoints_of p ys ≡ checkpoints_of p (x ∷ xs))
    (λ e. ap (λ fs. cond (x.node == p) (checkpoint_front x.written) [] ++ fs) rest)
    (λ e. rest ∙ sym (ap (λ fs. fs ++ checkpoints_of p xs)
    (cond_both (x.node == p) (checkpoint_front x.written) [] (λ fs. fs ≡ []) (λ own. none x.written refl (eqb-true x.node p own) e) (λ other. refl))))
  where
    none : (w : WrittenBy) → x.written ≡ w → x.node ≡ p → not_collected x ≡ false → checkpoint_front x.written ≡ []
    none (checkpoint g l) is at gone = absurd (a.0 gone g l at is)
    none (logged_event s) is at gone = ap checkpoint_front is

-- the write of the last entry of a checkpoint of node p is the node's last one of all
pub newest_entry_is_of_last_write : (sys : System) → IsWellFormedSystem sys → (state : Machine) → IsReached sys state
    → (entries : List Entry) (p : ℕ) (e : Entry) → (n : IsNewestEntry sys state entries (uncollected state) p e) → IsLastOf p state.writes n.write
newest_entry_is_of_last_write sys w state r es p e n =
    let x = n.write in
    let can = reached-forget sys w r.0 r.1 state r.2 in
    let known = can.reached in
    let h = state.history in
    let s = split-of state.writes n.earlier x n.later n.there in
    let Asked : Write → Type 0 = IsWriteAskedWell sys state.low state.next h in
    let asked : AllByRecursion Asked (s.before ++ x ∷ s.after) = subst (AllByRecursion Asked) s.there known.restore.asked in
    let here = each-suffix Asked s.before (x ∷ s.after) asked in
    let own = subst (λ v. IsAskedWell sys state.low state.next h x.node v x.stage) n.of_checkpoint here.0 in
    let declared : p < length sys.flow.nodes = subst (λ q. q < length sys.flow.nodes) n.node (takes-declared sys.flow x.node own.0) in
    let pairs : ArePairs (IsBefore p) (s.before ++ x ∷ s.after) =
    subst (ArePairs (IsBefore p)) s.there (before-pairs sys state.low state.next h p declared state.writes known.recover.ascend known.restore.apart known.restore.asked) in
    let canonical = each-weaker Asked (λ (z : Write). (k : Front) (m : List Front) → z.node ≡ p → z.written ≡ checkpoint k m → IsCanonical (bounds_of sys.flow p) k) s.after
    (λ z a k m at what. subst (λ q. IsCanonical (bounds_of sys.flow q) k) at (subst (λ v. IsAskedWell sys state.low state.next h z.node v z.stage) what a).1)
    here.1 in
    let stays : not_collected x ≡ true =
    (each-suffix (λ (z : Write). not_collected z ≡ true) n.earlier (x ∷ n.later)
    (subst (AllByRecursion (λ (z : Write). not_collected z ≡ true)) n.there (passes-all state.writes))).0 in
    let there =
    there-behind sys state.low h p (low-offered sys state known.recover.notices known.recover.watermark p declared).0 x n.front n.low n.node n.of_checkpoint stays [] s.after
    (pairs-behind (IsBefore p) s.before (x ∷ s.after) pairs) (exact-from sys state.low h s.before (x ∷ s.after) (subst (AreGoneExact sys state.low h) s.there can.exact)) canonical in
    record {
      earlier = s.before;
      later = s.after;
      there = s.there;
      none = sym (there-checkpoints p s.after there) ∙ ap (checkpoints_of p) s.left ∙ n.none;
    }
  where
    passes-all : (ws : List Write) → AllByRecursion (λ (z : Write). not_collected z ≡ true) (filter not_collected ws)
    passes-all ws = each-filter (λ (z : Write). not_collected z ≡ true) not_collected ws (each-one (λ (z : Write). not_collected z ≡ true → not_collected z ≡ true) ws (λ z k. k))
