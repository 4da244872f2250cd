-- Statements that break no rule make offers of the dataflow.
use Rattle.std.proofs.Common.{◌≡◌, ℕ, Bool, true, false, not, ◌&&◌, ◌||◌, ◌==◌, cond, List, [], ◌∷◌, ◌++◌, map, filter, length, Option, Some, None, unwrap_or, IfSome, refl, sym, ◌∙◌, ap, subst, arith, inl, inr, get_or, append_assoc}
use Rattle.std.specs.Prelude.{◌≢◌}
use Rattle.std.proofs.lemmas.Bool.{cases_lt, eqb-true, and_parts, not-true}
use Rattle.std.proofs.lemmas.List.{get_or_past, append-nil}
use Rattle.std.proofs.lemmas.List.Elements.{filter_map-append}
use Rattle.std.proofs.lemmas.List.FromFn.{get_or-map-range_with_len, length-map-range_with_len}
use Rattle.std.specs.List.{AllByRecursion, list_all, filter_map, flat_map, cons_option, range_with_len}
use Rattle.std.specs.Option.{option_map, option_map_or, option_or}
use Rattle.fw_time.specs.Stamp.{origin, in_domain}
use Rattle.fw_time.specs.declared.stamp.Bounds.{Bounds}
use Rattle.fw_frontier.specs.Frontier.{Within}
use Rattle.fw_frontier.specs.Front.{Front, frontier_of, IsCanonical, is_within, same_front, least_stamps}
use Rattle.fw_frontier.proofs.NamesLaws.{names-same, names-self, names-nothing, is_within-holds}
use Rattle.fw_frontier.proofs.SameLaws.{same_front-from}
use Rattle.fw_flow.specs.declared.choice.Counted.{Counted}
use Rattle.fw_flow.specs.declared.choice.OfEdge.{OfEdge}
use Rattle.fw_flow.specs.declared.choice.Offer.{Offer}
use Rattle.fw_flow.specs.declared.choice.Offered.{Offered}
use Rattle.fw_flow.specs.declared.choice.Offered.TheVariants as form
use Rattle.fw_flow.specs.declared.choice.Recorded.{Recorded}
use Rattle.fw_flow.specs.Kind.{Kind}
use Rattle.fw_flow.specs.declared.kind.Kind.TheVariants as kind
use Rattle.fw_flow.specs.declared.kind.Policy.{Policy}
use Rattle.fw_flow.specs.declared.kind.Policy.TheVariants as policy
use Rattle.fw_flow.specs.declared.side.Side.{Side}
use Rattle.fw_flow.specs.declared.side.Side.TheVariants as side
use Rattle.fw_flow.specs.Dataflow.{Dataflow, kind_of, policy_of, sender, receiver, bounds_of, is_input_kind}
use Rattle.fw_flow.specs.Restoring.{way_of, restoring, restoring_of_policy}
use Rattle.fw_flow.specs.declared.restoring.Restoring.TheVariants.{Batches}
use Rattle.fw_model.specs.Offers.{Ascend, IsRecordOf, IsRangeOf, IsFormOf, AreOfBatches, HasOneCause, offered_range, listed_records, is_by_records, is_by_range}
use Rattle.fw_offers_text.specs.declared.code.ChoiceCode.TheVariants.{O3, O4, O5, O6, O7}
use Rattle.fw_offers_text.specs.declared.statement.RecordCover.{RecordCover}
use Rattle.fw_offers_text.specs.declared.statement.Statement.{Statement}
use Rattle.fw_offers_text.specs.declared.statement.Statement.TheVariants.{Node, Record, Range, Delivered, Sent, Notified, Counts}
use Rattle.fw_offers_text.specs.Faults.{first_broken}
use Rattle.fw_offers_text.specs.Laws.{BreakNoneSaid, SoundStatementsAreOffers}
use Rattle.fw_offers_text.specs.OffersGrammar.{notified_front, delivered_front, discarded_front, record_told, record_of, offered_between, range_stated, offered_told, counted_at, delivered_stated, sent_stated, notices_of, offer_of}
use Rattle.fw_offers_text.specs.Statements.{is_canonical, is_cover_in_domain, is_in_domains, is_of_its_kind, is_new_statement, is_in_order, is_record_told, statement_fault, front_recorded, last_of_fronts, is_strictly_within, first_told}
use Rattle.fw_offers_text.proofs.FrontLaws.{canonical-sound, tested-all}
use Rattle.fw_lemmas.proofs.Each.{each-append, each-kept}
use Rattle.fw_model.proofs.ChoiceLaws.{same_fronts}
use Rattle.std.proofs.lemmas.Simd.{map-map}
use Rattle.fw_offers_text.proofs.DraftLaws.{front_told}

-- ---- tests

kept : (a b c d e : Bool) → first_broken ((O3, a) ∷ (O4, b) ∷ (O5, c) ∷ (O6, d) ∷ (O7, e) ∷ []) ≡ None → (a ≡ true) × (b ≡ true) × (d ≡ true)
kept false b c d e h = absurd (cc)
kept true false c d e h = absurd (cc)
kept true true false d e h = absurd (cc)
kept true true true false e h = absurd (cc)
kept true true true true e h = (refl, refl, refl)

-- ---- lists

cons-all : {A : Type 0} (P : A → Type 0) (o : Option A) (xs : List A) → IfSome o P → AllByRecursion P xs → AllByRecursion P (cons_option o xs)
cons-all P None xs h k = k
cons-all P (Some x) xs h k = (h, k)

filtered-all : {A B : Type 0} (P : A → Type 0) (Q : B → Type 0) (f : A → Option B) (xs : List A) → ((x : A) → P x → IfSome (f x) Q) → AllByRecursion P xs → AllByRecursion Q (filter_map f xs)
filtered-all P Q f [] h k = tt
filtered-all P Q f (x ∷ xs) h k = cons-all Q (f x) (filter_map f xs) (h x k.0) (filtered-all P Q f xs h k.1)

flat-all : {A B : Type 0} (P : A → Type 0) (Q : B → Type 0) (f : A → List B) (xs : List A) → ((x : A) → P x → AllByRecursion Q (f x)) → AllByRecursion P xs → AllByRecursion Q (flat_map f xs)
flat-all P Q f [] h k = tt
flat-all P Q f (x ∷ xs) h k = each-append Q (f x) (flat_map f xs) (h x k.0) (flat-all P Q f xs h k.1)

tested-mapped : {A B : Type 0} (Q : B → Type 0) (test : A → Bool) (f : A → B) (xs : List A) → ((x : A) → test x ≡ true → Q (f x)) → list_all test xs ≡ true → AllByRecursion Q (map f xs)
tested-mapped Q test f [] h k = tt
tested-mapped Q test f (x ∷ xs) h k = let t = and_parts (test x) (list_all test xs) k in (h x t.0, tested-mapped Q test f xs h t.1)

mapped-all : {A B : Type 0} (Q : B → Type 0) (f : A → B) (xs : List A) → ((x : A) → Q (f x)) → AllByRecursion Q (map f xs)
mapped-all Q f [] h = tt
mapped-all Q f (x ∷ xs) h = (h x, mapped-all Q f xs h)

first-all : {S A : Type 0} (P : S → Type 0) (Q : A → Type 0) (f : S → Option A) (d : A) (xs : List S) → Q d → ((x : S) → P x → IfSome (f x) Q) → AllByRecursion P xs → Q (unwrap_or (first_told f xs) d)
first-all {A = A} P Q f d [] h step k = h
first-all {A = A} P Q f d (x ∷ xs) h step k = by (f x) (step x k.0) (first-all P Q f d xs h step k.1)
  where
    by : (o : Option A) → IfSome o Q → Q (unwrap_or (first_told f xs) d) → Q (unwrap_or (option_or o (first_told f xs)) d)
    by None a b = b
    by (Some y) a b = a

if-all : {A : Type 0} (P : A → Type 0) (b : Bool) (xs : List A) → (b ≡ true → AllByRecursion P xs) → AllByRecursion P (cond b xs [])
if-all P true xs h = h refl
if-all P false xs h = tt

if-some : {A : Type 0} (P : A → Type 0) (b : Bool) (x : A) → (b ≡ true → P x) → IfSome (cond b (Some x) None) P
if-some P true x h = h refl
if-some P false x h = tt

-- what is true of nothing and of what a node has is true of what is looked up
at_node : {B C : Type 0} (Q : C → Type 0) (h : B → C) (f : ℕ → B) (n p : ℕ) (d : C) → Q d → Q (h (f p)) → Q (get_or (map h (map f (range_with_len 0 n))) p d)
at_node Q h f n p d none some =
    let same = map-map h f (range_with_len 0 n) in
    subst (λ xs. Q (get_or xs p d)) (sym same)
    (elim (cases_lt p n) [
      | inl lt ↦ subst Q (sym (get_or-map-range_with_len (λ x. h (f x)) 0 n p p d lt (omega arith))) some
      | inr ge ↦ subst Q (sym (get_or_past (map (λ x. h (f x)) (range_with_len 0 n)) p d (omega (arith, ge, length-map-range_with_len (λ x. h (f x)) 0 n)))) none
    ])

-- ---- frontiers

-- the second lies above the first
abbrev Above : Bounds → Front → Front → Type 0
Above b f g = Within (frontier_of b f) (frontier_of b g) × (f ≢ g)

strictly-above : (b : Bounds) (f g : Front) → is_strictly_within f g ≡ true → Above b f g
strictly-above b f g h =
    let t = and_parts (is_within f g) (not (same_front f g)) h in
    (is_within-holds b f g t.0, λ e. let s = same_front-from f g e in let n = not-true (same_front f g) t.1 in absurd (cc (s, n)))

above-above : (b : Bounds) (f g h : Front) → IsCanonical b f → IsCanonical b g → Above b f g → Above b g h → Above b f h
above-above b f g h c k u v = (
  λ t e. v.0 t (u.0 t e),
  λ e. u.1 (same_fronts b f g c k u.0 (subst (λ x. Within (frontier_of b g) (frontier_of b x)) (sym e) v.0)),
)

-- ---- what statements keep

-- the frontiers and stamps lie in their domains, and the kinds fit
abbrev Fits : Dataflow → Statement → Type 0
Fits flow s = (is_in_domains flow s ≡ true) × (is_of_its_kind flow s ≡ true)

-- what is left of the statements breaks no rule after those before it
abbrev SoundAfter : Dataflow → List Statement → List Statement → Type 0
SoundAfter flow before rest = (b : List Statement) (s : Statement) (a : List Statement) → b ++ s ∷ a ≡ before ++ rest → statement_fault flow b s ≡ None

sound-next : (flow : Dataflow) (before : List Statement) (s : Statement) (rest : List Statement) → SoundAfter flow before (s ∷ rest) → SoundAfter flow (before ++ s ∷ []) rest
sound-next flow before s rest h b t a e = h b t a (e ∙ append_assoc before (s ∷ []) rest)

sound-here : (flow : Dataflow) (before : List Statement) (s : Statement) (rest : List Statement) → SoundAfter flow before (s ∷ rest)
    → (is_in_domains flow s ≡ true) × (is_of_its_kind flow s ≡ true) × (is_in_order before s ≡ true)
sound-here flow before s rest h = kept (is_in_domains flow s) (is_of_its_kind flow s) (is_new_statement before s) (is_in_order before s) (is_record_told flow s) (h before s rest refl)

fits-all : (flow : Dataflow) (before rest : List Statement) → SoundAfter flow before rest → AllByRecursion (Fits flow) rest
fits-all flow before [] h = tt
fits-all flow before (s ∷ rest) h =
    let k = sound-here flow before s rest h in
    ((k.0, k.1), fits-all flow (before ++ s ∷ []) rest (sound-next flow before s rest h))

-- ---- records

cover-notified : (flow : Dataflow) (p : ℕ) (of : Side) (f : Front) → is_cover_in_domain flow (record { side = of; front = f }) ≡ true → IfSome (notified_front p of f) (IsCanonical (bounds_of flow p))
cover-notified flow p (side.Delivered d) f h = tt
cover-notified flow p (side.Discarded e) f h = tt
cover-notified flow p (side.Notified q) f h =
    if-some (IsCanonical (bounds_of flow p)) (q == p) f (λ e. subst (λ x. IsCanonical (bounds_of flow x) f) (eqb-true q p e) (canonical-sound (bounds_of flow q) f h))

cover-delivered : (flow : Dataflow) (of : Side) (f : Front) → is_cover_in_domain flow (record { side = of; front = f }) ≡ true
    → IfSome (delivered_front of f) (λ (x : OfEdge). IsCanonical (bounds_of flow (receiver flow x.edge)) x.front)
cover-delivered flow (side.Delivered d) f h = canonical-sound (bounds_of flow (receiver flow d)) f h
cover-delivered flow (side.Discarded e) f h = tt
cover-delivered flow (side.Notified q) f h = tt

cover-discarded : (flow : Dataflow) (of : Side) (f : Front) → is_cover_in_domain flow (record { side = of; front = f }) ≡ true
    → IfSome (discarded_front of f) (λ (x : OfEdge). IsCanonical (bounds_of flow (receiver flow x.edge)) x.front)
cover-discarded flow (side.Delivered d) f h = tt
cover-discarded flow (side.Discarded e) f h = canonical-sound (bounds_of flow (receiver flow e)) f h
cover-discarded flow (side.Notified q) f h = tt

covers-fit : (flow : Dataflow) (covers : List RecordCover) → list_all (is_cover_in_domain flow) covers ≡ true → AllByRecursion (λ c. is_cover_in_domain flow c ≡ true) covers
covers-fit flow covers h = tested-all (λ c. is_cover_in_domain flow c ≡ true) (is_cover_in_domain flow) covers (λ c k. k) h

told-record : (flow : Dataflow) (p : ℕ) (f : Front) (covers : List RecordCover) → is_in_domains flow (Record p f covers) ≡ true → IsRecordOf flow p (record_told flow p f covers)
told-record flow p f covers h =
    let t = and_parts (is_canonical (bounds_of flow p) f) (list_all (is_cover_in_domain flow) covers) h in
    let each = covers-fit flow covers t.1 in
    record {
      front = canonical-sound (bounds_of flow p) f t.0;
      notified = first-all (λ c. is_cover_in_domain flow c ≡ true) (IsCanonical (bounds_of flow p)) (λ (c : RecordCover). notified_front p c.side c.front) (least_stamps (bounds_of flow p)) covers
          (names-nothing (bounds_of flow p)).canonical
          (λ c k. cover-notified flow p c.side c.front k) each;
      delivered = filtered-all (λ c. is_cover_in_domain flow c ≡ true) (λ (x : OfEdge). IsCanonical (bounds_of flow (receiver flow x.edge)) x.front) (λ (c : RecordCover). delivered_front c.side c.front) covers (λ c k. cover-delivered flow c.side c.front k) each;
      discarded = filtered-all (λ c. is_cover_in_domain flow c ≡ true) (λ (x : OfEdge). IsCanonical (bounds_of flow (receiver flow x.edge)) x.front) (λ (c : RecordCover). discarded_front c.side c.front) covers (λ c k. cover-discarded flow c.side c.front k) each;
    }

record-fits : (flow : Dataflow) (p : ℕ) (s : Statement) → Fits flow s → IfSome (record_of flow p s) (IsRecordOf flow p)
record-fits flow p (Node q present) h = tt
record-fits flow p (Record q f covers) h =
    if-some (IsRecordOf flow p) (q == p) (record_told flow q f covers) (λ e. subst (λ x. IsRecordOf flow x (record_told flow q f covers)) (eqb-true q p e) (told-record flow q f covers h.0))
record-fits flow p (Range q least greatest and_all) h = tt
record-fits flow p (Delivered d stamps) h = tt
record-fits flow p (Sent d stamps) h = tt
record-fits flow p (Notified q stamps) h = tt
record-fits flow p (Counts q counts) h = tt

-- ---- records ascend

last-push : (fs : List Front) (f : Front) → last_of_fronts (fs ++ f ∷ []) ≡ Some f
last-push [] f = refl
last-push (g ∷ []) f = refl
last-push (g ∷ h ∷ hs) f = last-push (h ∷ hs) f

order-of : (flow : Dataflow) (p : ℕ) (before : List Statement) (s : Statement) (r : Recorded) (g : Front) → record_of flow p s ≡ Some r → is_in_order before s ≡ true
    → last_of_fronts (filter_map (front_recorded p) before) ≡ Some g → is_strictly_within g r.front ≡ true
order-of flow p before (Node q present) r g e h l = absurd (cc)
order-of flow p before (Record q f covers) r g e h l = by (q == p) refl e
  where
    by : (b : Bool) → (q == p) ≡ b → cond b (Some (record_told flow q f covers)) None ≡ Some r → is_strictly_within g r.front ≡ true
    by false same k = absurd (cc)
    by true same k =
        let one : record_told flow q f covers ≡ r = cc in
        let there : last_of_fronts (filter_map (front_recorded q) before) ≡ Some g = subst (λ x. last_of_fronts (filter_map (front_recorded x) before) ≡ Some g) (sym (eqb-true q p same)) l in
        let held : is_strictly_within g f ≡ true = subst (λ o. option_map_or (λ last. is_strictly_within last f) o true ≡ true) there h in
        subst (λ (x : Recorded). is_strictly_within g x.front ≡ true) one held
order-of flow p before (Range q least greatest and_all) r g e h l = absurd (cc)
order-of flow p before (Delivered d stamps) r g e h l = absurd (cc)
order-of flow p before (Sent d stamps) r g e h l = absurd (cc)
order-of flow p before (Notified q stamps) r g e h l = absurd (cc)
order-of flow p before (Counts q counts) r g e h l = absurd (cc)

-- the last frontier that is recorded of node p in statements
abbrev LastOf : ℕ → List Statement → Option Front
LastOf p said = last_of_fronts (filter_map (front_recorded p) said)

last-more : (flow : Dataflow) (p : ℕ) (before : List Statement) (s : Statement) → LastOf p (before ++ s ∷ []) ≡ last_of_fronts (filter_map (front_recorded p) before ++ cons_option (option_map (λ (r : Recorded). r.front) (record_of flow p s)) [])
last-more flow p before s =
    ap last_of_fronts (filter_map-append (front_recorded p) before (s ∷ []))
    ∙ ap (λ o. last_of_fronts (filter_map (front_recorded p) before ++ cons_option o [])) (front_told flow p s)

-- records ascend, and each lies above the last one before
pub record AscendAfter (flow : Dataflow) (p : ℕ) (last : Option Front) (records : List Recorded) : Type 0 where
  pub ascend : Ascend (bounds_of flow p) records
  pub above : (g : Front) → last ≡ Some g → AllByRecursion (λ (r : Recorded). Above (bounds_of flow p) g r.front) records

all-above : (b : Bounds) (g f : Front) (rs : List Recorded) → IsCanonical b g → IsCanonical b f → Above b g f → AllByRecursion (λ (r : Recorded). Above b f r.front) rs → AllByRecursion (λ (r : Recorded). Above b g r.front) rs
all-above b g f [] c k u h = tt
all-above b g f (r ∷ rs) c k u h = (above-above b g f r.front c k u h.0, all-above b g f rs c k u h.1)

pub ascend-after : (flow : Dataflow) (p : ℕ) (before rest : List Statement) → SoundAfter flow before rest → IfSome (LastOf p before) (IsCanonical (bounds_of flow p))
    → AscendAfter flow p (LastOf p before) (filter_map (record_of flow p) rest)
ascend-after flow p before [] h c = record { ascend = tt; above = λ g e. tt }
ascend-after flow p before (s ∷ rest) h c =
    let here = sound-here flow before s rest h in
    step (record_of flow p s) refl (record-fits flow p s (here.0, here.1)) here.2 (ascend-after flow p (before ++ s ∷ []) rest (sound-next flow before s rest h))
  where
    step : (o : Option Recorded) → record_of flow p s ≡ o → IfSome o (IsRecordOf flow p) → is_in_order before s ≡ true
        → (IfSome (LastOf p (before ++ s ∷ [])) (IsCanonical (bounds_of flow p)) → AscendAfter flow p (LastOf p (before ++ s ∷ [])) (filter_map (record_of flow p) rest))
        → AscendAfter flow p (LastOf p before) (cons_option o (filter_map (record_of flow p) rest))
    step None e r order more =
        let same : LastOf p (before ++ s ∷ []) ≡ LastOf p before =
        last-more flow p before s ∙ ap (λ o. last_of_fronts (filter_map (front_recorded p) before ++ cons_option (option_map (λ (r : Recorded). r.front) o) [])) e
        ∙ ap last_of_fronts (append-nil (filter_map (front_recorded p) before)) in
        subst (λ l. AscendAfter flow p l (filter_map (record_of flow p) rest)) same (more (subst (λ l. IfSome l (IsCanonical (bounds_of flow p))) (sym same) c))
    step (Some r) e fits order more =
        let same : LastOf p (before ++ s ∷ []) ≡ Some r.front =
        last-more flow p before s ∙ ap (λ o. last_of_fronts (filter_map (front_recorded p) before ++ cons_option (option_map (λ (r : Recorded). r.front) o) [])) e
        ∙ last-push (filter_map (front_recorded p) before) r.front in
        let later = more (subst (λ l. IfSome l (IsCanonical (bounds_of flow p))) (sym same) fits.front) in
        let above_this = later.above r.front same in
        record {
          ascend = (above_this, later.ascend);
          above = λ g l.
              let canonical : IsCanonical (bounds_of flow p) g = subst (λ o. IfSome o (IsCanonical (bounds_of flow p))) l c in
              let this = strictly-above (bounds_of flow p) g r.front (order-of flow p before s r g e order l) in
              (this, all-above (bounds_of flow p) g r.front (filter_map (record_of flow p) rest) canonical fits.front this above_this);
        }

-- ---- what is offered

-- what a node offers fits the node
pub record FitsNode (flow : Dataflow) (p : ℕ) (o : Offered) : Type 0 where
  pub records : AllByRecursion (IsRecordOf flow p) (listed_records o)
  pub range : IsRangeOf (bounds_of flow p) (offered_range o)
  pub form_fits : IsFormOf (way_of flow p) o
  pub ascend : Ascend (bounds_of flow p) (listed_records o)

by_policy : (q : Policy) → is_by_records (restoring_of_policy q) ≡ false → is_by_range (restoring_of_policy q) ≡ true
by_policy policy.None r = refl
by_policy policy.Lazy r = absurd (cc)
by_policy policy.Logged r = absurd (cc)
by_policy policy.Eager r = absurd (cc)
by_policy policy.Full r = refl

way-of-range : (k : Kind) (q : Policy) → is_input_kind k ≡ false → is_by_records (restoring k q) ≡ false → is_by_range (restoring k q) ≡ true
way-of-range kind.Input q h r = absurd (cc)
way-of-range kind.OutputEpoch q h r = refl
way-of-range kind.OutputNumber q h r = refl
way-of-range (kind.Select selection within) q h r = by_policy q r
way-of-range (kind.Concat within) q h r = by_policy q r
way-of-range (kind.Distinct within) q h r = by_policy q r
way-of-range (kind.Join within) q h r = by_policy q r
way-of-range (kind.Sum within) q h r = by_policy q r
way-of-range (kind.Enter l) q h r = by_policy q r
way-of-range (kind.Feedback l) q h r = by_policy q r
way-of-range (kind.Leave l) q h r = by_policy q r
way-of-range kind.Total q h r = by_policy q r
way-of-range kind.Sequence q h r = by_policy q r
way-of-range kind.Ledger q h r = by_policy q r
way-of-range (kind.Regroup n) q h r = by_policy q r

way-of-input : (k : Kind) (q : Policy) → is_input_kind k ≡ true → restoring k q ≡ Batches
way-of-input kind.Input q h = refl
way-of-input kind.OutputEpoch q h = absurd (cc)
way-of-input kind.OutputNumber q h = absurd (cc)
way-of-input (kind.Select selection within) q h = absurd (cc)
way-of-input (kind.Concat within) q h = absurd (cc)
way-of-input (kind.Distinct within) q h = absurd (cc)
way-of-input (kind.Join within) q h = absurd (cc)
way-of-input (kind.Sum within) q h = absurd (cc)
way-of-input (kind.Enter l) q h = absurd (cc)
way-of-input (kind.Feedback l) q h = absurd (cc)
way-of-input (kind.Leave l) q h = absurd (cc)
way-of-input kind.Total q h = absurd (cc)
way-of-input kind.Sequence q h = absurd (cc)
way-of-input kind.Ledger q h = absurd (cc)
way-of-input (kind.Regroup n) q h = absurd (cc)

between-fits : (flow : Dataflow) (p : ℕ) (least greatest : Front) (and_all : Bool) → Fits flow (Range p least greatest and_all) → FitsNode flow p (offered_between flow p least greatest and_all)
between-fits flow p least greatest and_all h = by (is_input_kind (kind_of flow p)) refl
  where
    by : (b : Bool) → is_input_kind (kind_of flow p) ≡ b → FitsNode flow p (cond b (form.Batches least greatest and_all) (form.Between least greatest))
    by true e =
        let t = and_parts (is_canonical (bounds_of flow p) least) (is_canonical (bounds_of flow p) greatest) h.0 in
        record {
          records = tt;
          range = (canonical-sound (bounds_of flow p) least t.0, canonical-sound (bounds_of flow p) greatest t.1);
          form_fits = way-of-input (kind_of flow p) (policy_of flow p) e;
          ascend = tt;
        }
    by false e =
        let t = and_parts (is_canonical (bounds_of flow p) least) (is_canonical (bounds_of flow p) greatest) h.0 in
        let u = and_parts (not (is_by_records (way_of flow p))) (not and_all || is_input_kind (kind_of flow p)) h.1 in
        record {
          records = tt;
          range = (canonical-sound (bounds_of flow p) least t.0, canonical-sound (bounds_of flow p) greatest t.1);
          form_fits = way-of-range (kind_of flow p) (policy_of flow p) e (not-true (is_by_records (way_of flow p)) u.0);
          ascend = tt;
        }

range-fits : (flow : Dataflow) (p : ℕ) (s : Statement) → Fits flow s → IfSome (range_stated flow p s) (FitsNode flow p)
range-fits flow p (Node q present) h = tt
range-fits flow p (Record q f covers) h = tt
range-fits flow p (Range q least greatest and_all) h =
    if-some (FitsNode flow p) (q == p) (offered_between flow q least greatest and_all) (λ e. subst (λ x. FitsNode flow x (offered_between flow q least greatest and_all)) (eqb-true q p e) (between-fits flow q least greatest and_all h))
range-fits flow p (Delivered d stamps) h = tt
range-fits flow p (Sent d stamps) h = tt
range-fits flow p (Notified q stamps) h = tt
range-fits flow p (Counts q counts) h = tt

nothing-fits : (flow : Dataflow) (p : ℕ) → FitsNode flow p (form.Listed [])
nothing-fits flow p = record { records = tt; range = tt; form_fits = tt; ascend = tt }

offered-fits : (flow : Dataflow) (said : List Statement) (p : ℕ) → BreakNoneSaid flow said → FitsNode flow p (offered_told flow said p)
offered-fits flow said p h =
    let each = fits-all flow [] said h in
    first-all (Fits flow) (FitsNode flow p) (range_stated flow p) (form.Listed (filter_map (record_of flow p) said)) said
    (record {
      records = filtered-all (Fits flow) (IsRecordOf flow p) (record_of flow p) said (record-fits flow p) each;
      range = tt;
      form_fits = tt;
      ascend = (ascend-after flow p [] said h tt).ascend;
    })
    (range-fits flow p) each

-- ---- stamps

-- the message is at a stamp of its edge
abbrev IsAtEdge : Dataflow → Counted → Type 0
IsAtEdge flow m = in_domain (bounds_of flow (receiver flow m.edge)) m.at ≡ true

delivered-fits : (flow : Dataflow) (p : ℕ) (s : Statement) → Fits flow s → AllByRecursion (IsAtEdge flow) (delivered_stated flow p s)
delivered-fits flow p (Node q present) h = tt
delivered-fits flow p (Record q f covers) h = tt
delivered-fits flow p (Range q least greatest and_all) h = tt
delivered-fits flow p (Delivered d stamps) h =
    if-all (IsAtEdge flow) (receiver flow d == p) (map (counted_at flow d) stamps)
    (λ e. tested-mapped (IsAtEdge flow) (in_domain (bounds_of flow (receiver flow d))) (counted_at flow d) stamps (λ t k. k) h.0)
delivered-fits flow p (Sent d stamps) h = tt
delivered-fits flow p (Notified q stamps) h = tt
delivered-fits flow p (Counts q counts) h = tt

sent-fits : (flow : Dataflow) (p : ℕ) (s : Statement) → Fits flow s → AllByRecursion (IsAtEdge flow) (sent_stated flow p s)
sent-fits flow p (Node q present) h = tt
sent-fits flow p (Record q f covers) h = tt
sent-fits flow p (Range q least greatest and_all) h = tt
sent-fits flow p (Delivered d stamps) h = tt
sent-fits flow p (Sent e stamps) h =
    if-all (IsAtEdge flow) (sender flow e == p) (map (counted_at flow e) stamps)
    (λ k. tested-mapped (IsAtEdge flow) (in_domain (bounds_of flow (receiver flow e))) (counted_at flow e) stamps (λ t j. j) h.0)
sent-fits flow p (Notified q stamps) h = tt
sent-fits flow p (Counts q counts) h = tt

sent-causes : (flow : Dataflow) (p : ℕ) (s : Statement) → Fits flow s → AllByRecursion HasOneCause (sent_stated flow p s)
sent-causes flow p (Node q present) h = tt
sent-causes flow p (Record q f covers) h = tt
sent-causes flow p (Range q least greatest and_all) h = tt
sent-causes flow p (Delivered d stamps) h = tt
sent-causes flow p (Sent e stamps) h =
    if-all HasOneCause (sender flow e == p) (map (counted_at flow e) stamps)
    (λ k. mapped-all HasOneCause (counted_at flow e) stamps (λ t. (cond (is_input_kind (kind_of flow (sender flow e))) t (origin (bounds_of flow (sender flow e)).greatest), refl)))
sent-causes flow p (Notified q stamps) h = tt
sent-causes flow p (Counts q counts) h = tt

notices-fit : (flow : Dataflow) (p : ℕ) (s : Statement) → Fits flow s → IfSome (notices_of p s) (AllByRecursion (λ t. in_domain (bounds_of flow p) t ≡ true))
notices-fit flow p (Node q present) h = tt
notices-fit flow p (Record q f covers) h = tt
notices-fit flow p (Range q least greatest and_all) h = tt
notices-fit flow p (Delivered d stamps) h = tt
notices-fit flow p (Sent d stamps) h = tt
notices-fit flow p (Notified q stamps) h =
    if-some (AllByRecursion (λ t. in_domain (bounds_of flow p) t ≡ true)) (q == p) stamps
    (λ e. subst (λ x. AllByRecursion (λ t. in_domain (bounds_of flow x) t ≡ true) stamps) (eqb-true q p e) (tested-all (λ t. in_domain (bounds_of flow q) t ≡ true) (in_domain (bounds_of flow q)) stamps (λ t k. k) h.0))
notices-fit flow p (Counts q counts) h = tt

batches-fit : (o : Offered) (ms : List Counted) → AllByRecursion HasOneCause ms → AreOfBatches o ms
batches-fit (form.Listed records) ms h = tt
batches-fit (form.Between least greatest) ms h = tt
batches-fit (form.Batches least greatest exhausted) ms h = h

-- ---- all of it

pub sound-offers : SoundStatementsAreOffers
sound-offers flow said h =
    let each = fits-all flow [] said h in
    let n = length flow.nodes in
    let offered = λ (p : ℕ). at_node (FitsNode flow p) (λ (o : Offer). o.offered) (offer_of flow said) n p (form.Listed []) (nothing-fits flow p) (offered-fits flow said p h) in (
      record {
        one_each = length-map-range_with_len (offer_of flow said) 0 n;
        records = λ p l. (offered p).records;
        range = λ p l. (offered p).range;
        form_fits = λ p l. (offered p).form_fits;
        delivered = λ p l. at_node (AllByRecursion (IsAtEdge flow)) (λ (o : Offer). o.stamps.delivered) (offer_of flow said) n p [] tt (flat-all (Fits flow) (IsAtEdge flow) (delivered_stated flow p) said (delivered-fits flow p) each);
        notified = λ p l. at_node (AllByRecursion (λ t. in_domain (bounds_of flow p) t ≡ true)) (λ (o : Offer). o.stamps.notified) (offer_of flow said) n p [] tt (first-all (Fits flow) (AllByRecursion (λ t. in_domain (bounds_of flow p) t ≡ true)) (notices_of p) [] said tt (notices-fit flow p) each);
        sent = λ p l. at_node (AllByRecursion (IsAtEdge flow)) (λ (o : Offer). o.stamps.sent) (offer_of flow said) n p [] tt (flat-all (Fits flow) (IsAtEdge flow) (sent_stated flow p) said (sent-fits flow p) each);
        batches = λ e l. batches-fit _ _ (each-kept HasOneCause (λ m. m.edge == e) _ (at_node (AllByRecursion HasOneCause) (λ (o : Offer). o.stamps.sent) (offer_of flow said) n (sender flow e) [] tt (flat-all (Fits flow) HasOneCause (sent_stated flow (sender flow e)) said (sent-causes flow (sender flow e)) each)));
      },
      λ p l. (offered p).ascend,
    )
