-- What is listed of what an engine keeps is of the form that a root asks, and in its order.
use Rattle.std.proofs.Common.{◌≡◌, ℕ, zero, suc, ◌+◌, ◌<◌, ◌≤◌, ◌^◌, Bool, true, false, not, ◌&&◌, ◌||◌, ◌==◌, nat_lt, cond, List, [], ◌∷◌, length, map, filter, Option, Some, None, refl, sym, ap, subst, ◌∙◌, arith}
use Rattle.std.specs.List.{AllByRecursion, Contains, flat_map, range_with_len}
use Rattle.std.specs.List.Sorted.{IsPermutation, IsStrictlySortedBy}
use Rattle.std.specs.Map.{keys_of}
use Rattle.std.specs.Cmp.{nat_cmp_is}
use Rattle.std.specs.Ordering.{is_lt, nat_cmp, ordering_then}
use Rattle.std.specs.declared.cmp.Ordering.TheVariants.{Less, Equal}
use Rattle.std.proofs.lemmas.Bool.{and_from, cond_both, eqb-true, false_from_ne_true, lt-ltb}
use Rattle.std.proofs.lemmas.Cmp.{ranked}
use Rattle.std.proofs.lemmas.List.Sorted.{Contains-permutation, IsPermutation-sym}
use Rattle.std.proofs.lemmas.Map.Keys.{sorted_from_strictly_increasing}
use Rattle.fw_lemmas.proofs.Each.{each-append, each-both, each-filter, each-map, each-one, each-there, each-weaker, each_of-map}
use Rattle.fw_time.specs.Stamp.{Stamp, in_domain, stamp_cmp}
use Rattle.fw_time.specs.declared.stamp.Bounds.{Bounds}
use Rattle.fw_bytes.specs.Sound.{IsList, after_last}
use Rattle.fw_flow.specs.Dataflow.{Dataflow, bounds_of, receiver}
use Rattle.fw_flow.specs.WellFormed.{IsWellFormed}
use Rattle.fw_model.proofs.ThinnedLaws.{each-contained}
use Rattle.fw_keep.specs.declared.entry.Entry.{Entry}
use Rattle.fw_keep.specs.declared.entry.Written.{Written}
use Rattle.fw_keep.specs.declared.entry.Written.TheVariants as written
use Rattle.fw_keep.specs.Catalogue.{AreAscending, IsCatalogue, KeepState, has_entry, ids_of, is_id_among}
use Rattle.fw_progress.specs.declared.counts.Counts.{Counts}
use Rattle.fw_progress.specs.Counts.{AreCounts, owed_of, pending_of}
use Rattle.fw_progress.specs.Tally.{AreCountsPositive}
use Rattle.fw_root.specs.declared.root.NamedWrite.{NamedWrite}
use Rattle.fw_root.specs.declared.root.OwedAt.{OwedAt}
use Rattle.fw_root.specs.declared.root.PendingAt.{PendingAt}
use Rattle.fw_root.specs.Sound.{IsId, IsNamedWrite, IsOwedAt, IsPendingAt, comes_before, has_id, is_write_tag, may_follow_others, may_follow_owed, may_follow_pending, may_follow_writes}
use Rattle.fw_stands.proofs.SpellingLaws.{stamps_have_spellings}
use Rattle.fw_resume.specs.Counted.{AreOwedOf, ArePendingOf, AreSmall, owed_to, pending_on}
use Rattle.fw_resume.specs.Names.{AreOthers, name_of, other_ids, tag_of_written}
use Rattle.fw_resume.proofs.NameLaws.{left-apart, none-after}
use Rattle.fw_resume.proofs.SoundLaws.{AllRise, follow_rising, rise-append}

-- ---- what is listed place by place

before-at : (d : ℕ) (s t : Stamp) → stamp_cmp s t ≡ Less → comes_before d s d t ≡ true
before-at d s t l = ap (λ o. is_lt (ordering_then o (stamp_cmp s t))) (sym (nat_cmp_is d d Equal refl)) ∙ ap is_lt l

before-later : (d e : ℕ) (s t : Stamp) → d < e → comes_before d s e t ≡ true
before-later d e s t l = ap (λ o. is_lt (ordering_then o (stamp_cmp s t))) (sym (nat_cmp_is d e Less l))

-- what holds of what is listed at each place holds of all that is listed
each-listed : {A : Type 0} (make : ℕ → List A) (P : A → Type 0) (a n : ℕ) → ((d : ℕ) → a ≤ d → d < a + n → AllByRecursion P (make d))
    → AllByRecursion P (flat_map make (range_with_len a n))
each-listed make P a zero k = tt
each-listed make P a (suc n) k =
    each-append P (make a) (flat_map make (range_with_len (a + 1) n)) (k a (omega arith) (omega arith))
    (each-listed make P (a + 1) n (λ d l m. k d (omega (arith, l)) (omega (arith, m))))

-- where what is listed of each place rises, and comes before what is listed of the later ones, all that is listed rises
rise-listed : {A : Type 0} (make : ℕ → List A) (prec : A → A → Bool) → ((d e : ℕ) → d < e → AllByRecursion (λ x. AllByRecursion (λ y. prec x y ≡ true) (make e)) (make d))
    → (a n : ℕ) → ((d : ℕ) → d < a + n → AllRise prec (make d)) → AllRise prec (flat_map make (range_with_len a n))
rise-listed make prec k a zero r = tt
rise-listed make prec k a (suc n) r =
    let rest = flat_map make (range_with_len (a + 1) n) in
    rise-append prec (make a) rest (r a (omega arith)) (rise-listed make prec k (a + 1) n (λ d l. r d (omega (arith, l)))) (before a (a + 1) n (omega arith))
  where
    before : (c b m : ℕ) → c < b → AllByRecursion (λ x. AllByRecursion (λ y. prec x y ≡ true) (flat_map make (range_with_len b m))) (make c)
    before c b zero l = each-one (λ x. Unit {0}) (make c) (λ x. tt)
    before c b (suc m) l =
        each-weaker (λ x. AllByRecursion (λ y. prec x y ≡ true) (make b) × AllByRecursion (λ y. prec x y ≡ true) (flat_map make (range_with_len (b + 1) m)))
        (λ x. AllByRecursion (λ y. prec x y ≡ true) (flat_map make (range_with_len b (suc m)))) (make c)
        (λ x p. each-append (λ y. prec x y ≡ true) (make b) (flat_map make (range_with_len (b + 1) m)) p.0 p.1)
        (each-both (λ x. AllByRecursion (λ y. prec x y ≡ true) (make b)) (λ x. AllByRecursion (λ y. prec x y ≡ true) (flat_map make (range_with_len (b + 1) m))) (make c)
        (k c b l) (before c (b + 1) m (omega (arith, l))))

-- what is made of stamps that ascend rises
rise-made : {A : Type 0} (make : Stamp × ℕ → A) (prec : A → A → Bool) → ((x y : Stamp × ℕ) → stamp_cmp x.0 y.0 ≡ Less → prec (make x) (make y) ≡ true)
    → (es : List (Stamp × ℕ)) → IsStrictlySortedBy stamp_cmp (keys_of es) → AllRise prec (map make es)
unfolding IsStrictlySortedBy
rise-made make prec k [] o = tt
rise-made make prec k (x ∷ es) o = (
  each-map (λ y. prec (make x) y ≡ true) make es
      (each-weaker (λ (e : Stamp × ℕ). stamp_cmp x.0 e.0 ≡ Less) (λ (e : Stamp × ℕ). prec (make x) (make e) ≡ true) es (λ e l. k x e l)
      (each_of-map (λ s. stamp_cmp x.0 s ≡ Less) (λ (e : Stamp × ℕ). e.0) es o.0)),
  rise-made make prec k es o.1,
)

each-made : {A : Type 0} (make : Stamp × ℕ → A) (P : A → Type 0) → ((x : Stamp × ℕ) → P (make x)) → (es : List (Stamp × ℕ)) → AllByRecursion P (map make es)
each-made make P k es = each-map P make es (each-one (λ e. P (make e)) es k)

-- the stamps of a tally are the domain's, and there is one at least of each
tally-each : (b : Bounds) (es : List (Stamp × ℕ)) → AllByRecursion (λ s. in_domain b s ≡ true) (keys_of es) → AreCountsPositive es
    → AllByRecursion (λ (e : Stamp × ℕ). (in_domain b e.0 ≡ true) × (0 < e.1)) es
tally-each b [] d p = tt
tally-each b (e ∷ es) d p = ((d.0, p.0), tally-each b es d.1 p.1)

-- ---- what is pending

-- a count on an edge of the flow, at a stamp of its receiver's, of one message at least
abbrev IsOnEdge : Dataflow → PendingAt → Type 0
IsOnEdge flow p = (p.edge < length flow.edges) × (in_domain (bounds_of flow (receiver flow p.edge)) p.at ≡ true) × (0 < p.count)

pending-each : (flow : Dataflow) (counts : Counts) (all : List PendingAt) → AreCounts flow counts → ArePendingOf counts (length flow.edges) all → AllByRecursion (IsOnEdge flow) all
pending-each flow counts all c a =
    subst (AllByRecursion (IsOnEdge flow)) (sym a.each)
    (each-listed (λ e. map (pending_on e) (pending_of counts e)) (IsOnEdge flow) 0 (length flow.edges) (λ e l m.
    let there : e < length flow.edges = omega (arith, m) in
    let b = bounds_of flow (receiver flow e) in
    each-map (IsOnEdge flow) (pending_on e) (pending_of counts e)
    (each-weaker (λ (x : Stamp × ℕ). (in_domain b x.0 ≡ true) × (0 < x.1)) (λ (x : Stamp × ℕ). IsOnEdge flow (pending_on e x)) (pending_of counts e)
    (λ x k. (there, k.0, k.1)) (tally-each b (pending_of counts e) (c.pending e there).of_domain (c.pending e there).positive))))

abbrev pending_before : PendingAt → PendingAt → Bool
pending_before last next = comes_before last.edge last.at next.edge next.at

pending-rise : (counts : Counts) (n : ℕ) (all : List PendingAt) → ArePendingOf counts n all → AllRise pending_before all
pending-rise counts n all a =
    let make : ℕ → List PendingAt = λ e. map (pending_on e) (pending_of counts e) in
    subst (AllRise pending_before) (sym a.each)
    (rise-listed make pending_before (λ d e l.
    each-made (pending_on d) (λ x. AllByRecursion (λ y. pending_before x y ≡ true) (make e))
    (λ x. each-made (pending_on e) (λ y. pending_before (pending_on d x) y ≡ true) (λ y. before-later d e x.0 y.0 l) (pending_of counts e)) (pending_of counts d)) 0 n
    (λ e l. rise-made (pending_on e) pending_before (λ x y k. before-at e x.0 y.0 k) (pending_of counts e) (a.in_order e (omega (arith, l)))))

pub pending_sound : (flow : Dataflow) (counts : Counts) (all : List PendingAt) → IsWellFormed flow → AreCounts flow counts → ArePendingOf counts (length flow.edges) all → AreSmall all
    → IsList (2 ^ 64) IsPendingAt (may_follow_pending flow) all
pending_sound flow counts all w c a s =
    let each = pending-each flow counts all c a in
    let most = w.limits.edges in record {
      few = s.few;
      parts = each-weaker (λ (p : PendingAt). IsOnEdge flow p × (p.count < 2 ^ 64)) IsPendingAt all
          (λ p k. let l = k.0.0 in record {
            edge = omega (arith, l, most);
            at = (stamps_have_spellings flow w (receiver flow p.edge)).1 p.at k.0.1;
            count = k.1;
          })
          (each-both (IsOnEdge flow) (λ (p : PendingAt). p.count < 2 ^ 64) all each s.counts);
      follow = follow_rising (may_follow_pending flow) pending_before (IsOnEdge flow)
          (λ b p k l.
          let after = after_last pending_before b p in
          let inside = in_domain (bounds_of flow (receiver flow p.edge)) p.at in
          and_from (nat_lt p.edge (length flow.edges)) (inside && (nat_lt 0 p.count && after)) (lt-ltb p.edge (length flow.edges) k.0)
          (and_from inside (nat_lt 0 p.count && after) k.1 (and_from (nat_lt 0 p.count) after (lt-ltb 0 p.count k.2) l)))
          all (pending-rise counts (length flow.edges) all a) each;
    }

-- ---- what is owed

-- a stamp of a node of the flow
abbrev IsAtNode : Dataflow → OwedAt → Type 0
IsAtNode flow o = (o.node < length flow.nodes) × (in_domain (bounds_of flow o.node) o.at ≡ true)

owed-each : (flow : Dataflow) (counts : Counts) (all : List OwedAt) → AreCounts flow counts → AreOwedOf counts (length flow.nodes) all → AllByRecursion (IsAtNode flow) all
owed-each flow counts all c a =
    subst (AllByRecursion (IsAtNode flow)) (sym a.each)
    (each-listed (λ p. map (owed_to p) (owed_of counts p)) (IsAtNode flow) 0 (length flow.nodes) (λ p l m.
    let there : p < length flow.nodes = omega (arith, m) in
    each-map (IsAtNode flow) (owed_to p) (owed_of counts p)
    (each-weaker (λ (x : Stamp × ℕ). in_domain (bounds_of flow p) x.0 ≡ true) (λ (x : Stamp × ℕ). IsAtNode flow (owed_to p x)) (owed_of counts p)
    (λ x k. (there, k)) (each_of-map (λ s. in_domain (bounds_of flow p) s ≡ true) (λ (x : Stamp × ℕ). x.0) (owed_of counts p) (c.owed p there).of_domain))))

abbrev owed_before : OwedAt → OwedAt → Bool
owed_before last next = comes_before last.node last.at next.node next.at

owed-rise : (counts : Counts) (n : ℕ) (all : List OwedAt) → AreOwedOf counts n all → AllRise owed_before all
owed-rise counts n all a =
    let make : ℕ → List OwedAt = λ p. map (owed_to p) (owed_of counts p) in
    subst (AllRise owed_before) (sym a.each)
    (rise-listed make owed_before (λ p q l.
    each-made (owed_to p) (λ x. AllByRecursion (λ y. owed_before x y ≡ true) (make q))
    (λ x. each-made (owed_to q) (λ y. owed_before (owed_to p x) y ≡ true) (λ y. before-later p q x.0 y.0 l) (owed_of counts q)) (owed_of counts p)) 0 n
    (λ p l. rise-made (owed_to p) owed_before (λ x y k. before-at p x.0 y.0 k) (owed_of counts p) (a.in_order p (omega (arith, l)))))

pub owed_sound : (flow : Dataflow) (counts : Counts) (all : List OwedAt) → IsWellFormed flow → AreCounts flow counts → AreOwedOf counts (length flow.nodes) all → length all < 2 ^ 64
    → IsList (2 ^ 64) IsOwedAt (may_follow_owed flow) all
owed_sound flow counts all w c a few =
    let each = owed-each flow counts all c a in
    let most = w.limits.nodes in record {
      few = few;
      parts = each-weaker (IsAtNode flow) IsOwedAt all
          (λ o k. let l = k.0 in record { node = omega (arith, l, most); at = (stamps_have_spellings flow w o.node).1 o.at k.1 }) each;
      follow = follow_rising (may_follow_owed flow) owed_before (IsAtNode flow)
          (λ b o k l.
          let after = after_last owed_before b o in
          let inside = in_domain (bounds_of flow o.node) o.at in
          and_from (nat_lt o.node (length flow.nodes)) (inside && after) (lt-ltb o.node (length flow.nodes) k.0) (and_from inside after k.1 l))
          all (owed-rise counts (length flow.nodes) all a) each;
    }

-- ---- the writes

-- of numbers from m on and below n, which ascend, there are at most as many as lie between
few-between : (m n : ℕ) (xs : List ℕ) → m ≤ n → AllByRecursion (λ x. m ≤ x) xs → AllByRecursion (λ x. x < n) xs → AreAscending xs → length xs + m ≤ n
few-between m n [] l a b r = omega (arith, l)
few-between m n (x ∷ xs) l a b r =
    let low = a.0 in
    let high = b.0 in
    let rest = few-between (x + 1) n xs (omega (arith, high)) (each-weaker (λ y. x < y) (λ y. x + 1 ≤ y) xs (λ y k. omega (arith, k)) r.0) b.1 r.1 in
    omega (arith, low, rest)

few-below : (n : ℕ) (xs : List ℕ) → AllByRecursion (λ x. x < n) xs → AreAscending xs → length xs ≤ n
few-below n xs b r = let l = few-between 0 n xs (omega arith) (each-one (λ x. 0 ≤ x) xs (λ x. omega arith)) b r in omega (arith, l)

abbrev named_before : NamedWrite → NamedWrite → Bool
named_before last next = nat_lt last.id next.id

names-rise : (es : List Entry) → AreAscending (ids_of es) → AllRise named_before (map name_of es)
names-rise [] a = tt
names-rise (e ∷ es) a = (
  each-map (λ w. named_before (name_of e) w ≡ true) name_of es
      (each-weaker (λ (x : Entry). e.id < x.id) (λ (x : Entry). named_before (name_of e) (name_of x) ≡ true) es (λ x l. lt-ltb e.id x.id l)
      (each_of-map (λ id. e.id < id) (λ (x : Entry). x.id) es a.0)),
  names-rise es a.1,
)

tag-sound : (what : Written) (base : Option ℕ) → (is_write_tag (tag_of_written what base) ≡ true) × (tag_of_written what base < 256)
tag-sound (written.Checkpoint recorded stamps sent) None = (refl, omega arith)
tag-sound (written.Checkpoint recorded stamps sent) (Some base) = (refl, omega arith)
tag-sound (written.Event event) base = (refl, omega arith)

length-ids : (es : List Entry) → length (map name_of es) ≡ length (ids_of es)
length-ids [] = refl
length-ids (e ∷ es) = ap suc (length-ids es)

-- a write with an id that was drawn, of a node of the flow
abbrev IsDrawnFor : Dataflow → ℕ → NamedWrite → Type 0
IsDrawnFor flow next w = (w.id < next) × (w.node < length flow.nodes) × (is_write_tag w.tag ≡ true) × (w.tag < 256)

names-each : (flow : Dataflow) (next : ℕ) (es : List Entry) → AllByRecursion (λ id. id < next) (ids_of es) → AllByRecursion (λ (e : Entry). e.node < length flow.nodes) es
    → AllByRecursion (IsDrawnFor flow next) (map name_of es)
names-each flow next [] d n = tt
names-each flow next (e ∷ es) d n = ((d.0, n.0, (tag-sound e.written e.base).0, (tag-sound e.written e.base).1), names-each flow next es d.1 n.1)

pub writes_sound : (flow : Dataflow) (next : ℕ) (es : List Entry) → IsWellFormed flow → next < 2 ^ 62 → AreAscending (ids_of es) → AllByRecursion (λ id. id < next) (ids_of es)
    → AllByRecursion (λ (e : Entry). e.node < length flow.nodes) es → IsList (2 ^ 64) IsNamedWrite (may_follow_writes flow next) (map name_of es)
writes_sound flow next es w small a d n =
    let each = names-each flow next es d n in
    let most = w.limits.nodes in
    let few = few-below next (ids_of es) d a in
    let many = length-ids es in record {
      few = omega (arith, small, few, many);
      parts = each-weaker (IsDrawnFor flow next) IsNamedWrite (map name_of es)
          (λ x k. let i = k.0 in let p = k.1 in record { id = omega (arith, i, small); node = omega (arith, p, most); tag = k.3 }) each;
      follow = follow_rising (may_follow_writes flow next) named_before (IsDrawnFor flow next)
          (λ b x k l.
          let after = after_last named_before b x in
          and_from (nat_lt x.id next) (nat_lt x.node (length flow.nodes) && (is_write_tag x.tag && after)) (lt-ltb x.id next k.0)
          (and_from (nat_lt x.node (length flow.nodes)) (is_write_tag x.tag && after) (lt-ltb x.node (length flow.nodes) k.1) (and_from (is_write_tag x.tag) after k.2 l)))
          (map name_of es) (names-rise es a) each;
    }

-- ---- the other ids

has-among : (id : ℕ) (es : List Entry) → has_id id (map name_of es) ≡ is_id_among id (ids_of es)
has-among id [] = refl
has-among id (e ∷ es) = ap (λ b. (e.id == id) || b) (has-among id es)

abbrev pub kept_entries : List Entry → List Entry
kept_entries es = filter (λ (e : Entry). e.acknowledged) es

-- an id that ascends behind another one is not that
apart-later : (id : ℕ) (e : Entry) (es : List Entry) → e.id < id → is_id_among id (ids_of (kept_entries es)) ≡ false → is_id_among id (ids_of (kept_entries (e ∷ es))) ≡ false
apart-later id e es l k =
    cond_both e.acknowledged (e ∷ kept_entries es) (kept_entries es) (λ xs. is_id_among id (ids_of xs) ≡ false)
    (λ a. ap (λ b. b || is_id_among id (ids_of (kept_entries es))) (false_from_ne_true (e.id == id) (λ t. let q : e.id ≡ id = eqb-true e.id id t in absurd (omega (arith, l, q)))) ∙ k)
    (λ a. k)

-- the id of a write in flight is that of none that is acknowledged
flying-apart : (es : List Entry) → AreAscending (ids_of es) → AllByRecursion (λ (e : Entry). not e.acknowledged ≡ true → is_id_among e.id (ids_of (kept_entries es)) ≡ false) es
flying-apart [] a = tt
flying-apart (e ∷ es) a = (
  (λ k. own e.acknowledged refl k),
  each-weaker (λ (x : Entry). (e.id < x.id) × (not x.acknowledged ≡ true → is_id_among x.id (ids_of (kept_entries es)) ≡ false))
      (λ (x : Entry). not x.acknowledged ≡ true → is_id_among x.id (ids_of (kept_entries (e ∷ es))) ≡ false) es
      (λ x h k. apart-later x.id e es h.0 (h.1 k))
      (each-both (λ (x : Entry). e.id < x.id) (λ (x : Entry). not x.acknowledged ≡ true → is_id_among x.id (ids_of (kept_entries es)) ≡ false) es
      (each_of-map (λ id. e.id < id) (λ (x : Entry). x.id) es a.0) (flying-apart es a.1)),
)
  where
    own : (b : Bool) → e.acknowledged ≡ b → not e.acknowledged ≡ true → is_id_among e.id (ids_of (kept_entries (e ∷ es))) ≡ false
    own true i k = let c : false ≡ true = sym (ap not i) ∙ k in absurd (cc)
    own false i k =
        ap (λ b. is_id_among e.id (ids_of (cond b (e ∷ kept_entries es) (kept_entries es)))) i
        ∙ left-apart (λ (x : Entry). x.acknowledged) e.id es (none-after e.id (ids_of es) a.0)

-- an other id was drawn, and is that of no write which is named
abbrev IsOther : KeepState → ℕ → Type 0
IsOther keep id = (id < keep.next) × (has_id id (map name_of (kept_entries keep.entries)) ≡ false)

others-each : (keep : KeepState) → IsCatalogue keep → AllByRecursion (IsOther keep) (other_ids keep)
others-each keep c =
    let apart : (id : ℕ) → is_id_among id (ids_of (kept_entries keep.entries)) ≡ false → has_id id (map name_of (kept_entries keep.entries)) ≡ false =
    λ id k. has-among id (kept_entries keep.entries) ∙ k in
    each-append (IsOther keep) (ids_of (filter (λ (e : Entry). not e.acknowledged) keep.entries)) keep.waiting
    (each-map (IsOther keep) (λ (e : Entry). e.id) (filter (λ (e : Entry). not e.acknowledged) keep.entries)
    (each-filter (λ (e : Entry). IsOther keep e.id) (λ (e : Entry). not e.acknowledged) keep.entries
    (each-weaker (λ (e : Entry). (e.id < keep.next) × (not e.acknowledged ≡ true → is_id_among e.id (ids_of (kept_entries keep.entries)) ≡ false))
    (λ (e : Entry). not e.acknowledged ≡ true → IsOther keep e.id) keep.entries (λ e h k. (h.0, apart e.id (h.1 k)))
    (each-both (λ (e : Entry). e.id < keep.next) (λ (e : Entry). not e.acknowledged ≡ true → is_id_among e.id (ids_of (kept_entries keep.entries)) ≡ false) keep.entries
    (each_of-map (λ id. id < keep.next) (λ (e : Entry). e.id) keep.entries c.drawn) (flying-apart keep.entries c.ascending)))))
    (each-weaker (λ id. (id < keep.next) × (has_entry id keep.entries ≡ false)) (IsOther keep) keep.waiting
    (λ id k. (k.0, apart id (left-apart (λ (e : Entry). e.acknowledged) id keep.entries k.1)))
    (each-both (λ id. id < keep.next) (λ id. has_entry id keep.entries ≡ false) keep.waiting c.waiting_drawn c.apart))

each-moved : (P : ℕ → Type 0) (xs ys : List ℕ) → IsPermutation xs ys → AllByRecursion P xs → AllByRecursion P ys
each-moved P xs ys same a =
    each-weaker (Contains ys) P ys (λ y c. each-contained P y xs (Contains-permutation ys xs y (IsPermutation-sym xs ys same) c) a) (each-there ys)

sorted-ascending : (xs : List ℕ) → IsStrictlySortedBy nat_cmp xs → AreAscending xs
unfolding IsStrictlySortedBy
sorted-ascending [] s = tt
sorted-ascending (x ∷ xs) s = (each-weaker (λ y. nat_cmp x y ≡ Less) (λ y. x < y) xs (λ y l. ranked x y Less (sym l)) s.0, sorted-ascending xs s.1)

rise-ascending : (xs : List ℕ) → AreAscending xs → AllRise nat_lt xs
rise-ascending [] a = tt
rise-ascending (x ∷ xs) a = (each-weaker (λ y. x < y) (λ y. nat_lt x y ≡ true) xs (λ y l. lt-ltb x y l) a.0, rise-ascending xs a.1)

pub others_sound : (keep : KeepState) (ids : List ℕ) → IsCatalogue keep → AreOthers keep ids → keep.next < 2 ^ 62
    → IsList (2 ^ 64) IsId (may_follow_others keep.next (map name_of (kept_entries keep.entries))) ids
others_sound keep ids c o small =
    let ws = map name_of (kept_entries keep.entries) in
    let each = each-moved (IsOther keep) (other_ids keep) ids o.same (others-each keep c) in
    let ascend = sorted-ascending ids (sorted_from_strictly_increasing ids o.rise) in
    let few = few-below keep.next ids (each-weaker (IsOther keep) (λ id. id < keep.next) ids (λ id k. k.0) each) ascend in record {
      few = omega (arith, small, few);
      parts = each-weaker (IsOther keep) IsId ids (λ id k. let l = k.0 in omega (arith, l, small)) each;
      follow = follow_rising (may_follow_others keep.next ws) nat_lt (IsOther keep)
          (λ b id k l.
          and_from (nat_lt id keep.next) (not (has_id id ws) && after_last nat_lt b id) (lt-ltb id keep.next k.0)
          (and_from (not (has_id id ws)) (after_last nat_lt b id) (ap not k.1) l))
          ids (rise-ascending ids ascend) each;
    }
