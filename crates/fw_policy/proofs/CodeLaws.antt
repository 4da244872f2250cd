-- What the loops find that collect what nodes offer.
use Rattle.std.proofs.Common.{◌≡◌, ℕ, ◌+◌, ◌==◌, append_assoc, ◌<◌, ◌≤◌, Bool, true, false, not, ◌&&◌, ◌||◌, cond, List, [], ◌∷◌, ◌++◌, length, get_or, take, refl, sym, ap, subst, ◌∙◌}
use Rattle.std.specs.Prelude.{filter}
use Rattle.std.specs.List.{AllByRecursion, list_any}
use Rattle.std.proofs.lemmas.List.{take_more, append-nil}
use Rattle.std.proofs.Math.Bool.{and-true}
use Rattle.fw_lemmas.proofs.Each.{each-at}
use Rattle.fw_time.specs.Stamp.{Stamp, leq, in_domain}
use Rattle.fw_time.specs.declared.stamp.Bounds.{Bounds}
use Rattle.fw_frontier.specs.Frontier.{Frontier, nothing, meet, without_above}
use Rattle.fw_frontier.specs.Front.{Front, frontier_of, is_within, IsCanonical, IsFrontOf}
use Rattle.fw_frontier.proofs.NamesLaws.{names-same}
use Rattle.fw_flow.specs.declared.choice.Offered.{Offered}
use Rattle.fw_flow.specs.declared.choice.Offered.TheVariants as form
use Rattle.fw_flow.specs.declared.choice.Recorded.{Recorded}
use Rattle.fw_flow.specs.declared.choice.Stamps.{Stamps}
use Rattle.fw_flow.specs.declared.restoring.Restoring.TheVariants.{Batches}
use Rattle.fw_flow.specs.Dataflow.{greatest_number}
use Rattle.fw_model.specs.Choice.{until}
use Rattle.fw_model.specs.Machine.{no_stamps}
use Rattle.fw_model.proofs.LowLaws.{none-canonical}
use Rattle.fw_policy.specs.declared.view.Border.{Border}
use Rattle.fw_policy.specs.declared.view.Border.TheVariants.{Output, Source}
use Rattle.fw_keep.specs.declared.entry.Entry.{Entry}
use Rattle.fw_keep.specs.declared.entry.Written.{Written}
use Rattle.fw_keep.specs.declared.entry.Written.TheVariants as written
use Rattle.fw_policy.specs.Known.{FitsWay}
use Rattle.fw_policy.specs.Offering.{below_all, IsRange, IsOfBatches, IsOfBound, empty_record, holding, record_in, record_by, records_by}
use Rattle.fw_policy.proofs.RecordedLaws.{outside-none}

below-one : (ss : List Stamp) (s : Stamp) (f : Frontier) (t : Stamp) → below_all (ss ++ s ∷ []) f t ≡ without_above s (below_all ss f) t
below-one ss s f t = ap (λ b. f t && not b) (any ss) ∙ split (f t) (list_any (λ x. leq x t) ss) (leq s t)
  where
    any : (ss : List Stamp) → list_any (λ x. leq x t) (ss ++ s ∷ []) ≡ (list_any (λ x. leq x t) ss || leq s t)
    any [] = or-false (leq s t)
      where
        or-false : (b : Bool) → (b || false) ≡ b
        or-false true = refl
        or-false false = refl
    any (x ∷ xs) = ap (λ b. leq x t || b) (any xs) ∙ assoc (leq x t) (list_any (λ y. leq y t) xs) (leq s t)
      where
        assoc : (a b c : Bool) → (a || (b || c)) ≡ ((a || b) || c)
        assoc true b c = refl
        assoc false b c = refl

    split : (a b c : Bool) → (a && not (b || c)) ≡ ((a && not b) && not c)
    split true true c = refl
    split true false c = refl
    split false b c = refl

pub below_none : (b : Bounds) (front f : Front) → f ≡ front → IsCanonical b front → IsFrontOf b f (below_all [] (frontier_of b front))
below_none b front f e c = record { canonical = subst (IsCanonical b) (sym e) c; same = λ t. ap (λ (g : Front). frontier_of b g t) e ∙ sym (and-true (frontier_of b front t)) }

-- one more stamp
pub below_more : (b : Bounds) (front : Front) (ss : List Stamp) (i : ℕ) (s : Stamp) (f g : Front) → i < length ss → s ≡ get_or ss i s
    → AllByRecursion (λ t. in_domain b t ≡ true) ss → IsFrontOf b f (below_all (take i ss) (frontier_of b front))
    → (in_domain b s ≡ true → IsFrontOf b g (without_above s (frontier_of b f))) → IsFrontOf b g (below_all (take (i + 1) ss) (frontier_of b front))
below_more b front ss i s f g l e d n m =
    let k = m (subst (λ t. in_domain b t ≡ true) (sym e) (each-at (λ t. in_domain b t ≡ true) ss i s l d)) in
    let more : take (i + 1) ss ≡ take i ss ++ s ∷ [] = take_more ss i s l ∙ ap (λ u. take i ss ++ u ∷ []) (sym e) in
    subst (λ ts. IsFrontOf b g (below_all ts (frontier_of b front))) (sym more) (record {
      canonical = k.canonical;
      same = λ t. k.same t ∙ ap (λ x. x && not (leq s t)) (n.same t) ∙ sym (below-one (take i ss) s (frontier_of b front) t);
    })

-- all of them
pub below_all_of : (b : Bounds) (front f : Front) (ss : List Stamp) (i : ℕ) → take i ss ≡ ss → IsFrontOf b f (below_all (take i ss) (frontier_of b front)) → IsFrontOf b f (below_all ss (frontier_of b front))
below_all_of b front f ss i e n = subst (λ ts. IsFrontOf b f (below_all ts (frontier_of b front))) e n

-- ---- records

filter-one : {A : Type 0} (test : A → Bool) (xs : List A) (y : A) (c : Bool) → test y ≡ c → filter test (xs ++ y ∷ []) ≡ filter test xs ++ cond c (y ∷ []) []
filter-one test [] y c e = ap (λ b. cond b (y ∷ []) []) e
filter-one test (x ∷ xs) y c e = at (test x) (filter-one test xs y c e)
  where
    at : (b : Bool) → filter test (xs ++ y ∷ []) ≡ filter test xs ++ cond c (y ∷ []) []
        → cond b (x ∷ filter test (xs ++ y ∷ [])) (filter test (xs ++ y ∷ [])) ≡ cond b (x ∷ filter test xs) (filter test xs) ++ cond c (y ∷ []) []
    at true r = ap (λ zs. x ∷ zs) r
    at false r = r

pub held_kept : (low : Front) (rs records next : List Recorded) (r s : Recorded) (stamps : Stamps) (sent : ℕ) (w : Written) → records ≡ holding low rs
    → w ≡ written.Checkpoint r stamps sent
    → is_within low r.front ≡ true → s ≡ r → next ≡ records ++ s ∷ [] → next ≡ holding low (rs ++ record_in w)
held_kept low rs records next r s stamps sent w a e k c n =
    n ∙ ap (λ (xs : List Recorded). xs ++ s ∷ []) a ∙ ap (λ x. holding low rs ++ x ∷ []) c
    ∙ sym (ap (λ v. holding low (rs ++ record_in v)) e ∙ filter-one (λ (x : Recorded). is_within low x.front) rs r true k)

pub held_left : (low : Front) (rs records : List Recorded) (r : Recorded) (stamps : Stamps) (sent : ℕ) (w : Written) → records ≡ holding low rs
    → w ≡ written.Checkpoint r stamps sent
    → is_within low r.front ≡ false → records ≡ holding low (rs ++ record_in w)
held_left low rs records r stamps sent w a e k =
    a ∙ sym (ap (λ v. holding low (rs ++ record_in v)) e ∙ filter-one (λ (x : Recorded). is_within low x.front) rs r false k ∙ append-nil (holding low rs))

pub held_none : (low : Front) (rs records xs : List Recorded) → records ≡ holding low rs → xs ≡ [] → records ≡ holding low (rs ++ xs)
held_none low rs records xs a e = a ∙ sym (ap (λ ys. holding low (rs ++ ys)) e ∙ ap (holding low) (append-nil rs))

entry_by : (p : ℕ) (entry : Entry) (c : Bool) → (entry.node == p && entry.acknowledged) ≡ c → record_by p entry ≡ cond c (record_in entry.written) []
entry_by p entry c e = ap (λ b. cond b (record_in entry.written) []) e

pub entry_kept : (low : Front) (rs records : List Recorded) (p : ℕ) (entry : Entry) → (entry.node == p && entry.acknowledged) ≡ true
    → records ≡ holding low (rs ++ record_in entry.written) → records ≡ holding low (rs ++ record_by p entry)
entry_kept low rs records p entry e a = a ∙ sym (ap (λ xs. holding low (rs ++ xs)) (entry_by p entry true e))

pub entry_left : (low : Front) (rs records : List Recorded) (p : ℕ) (entry : Entry) → (entry.node == p && entry.acknowledged) ≡ false
    → records ≡ holding low rs → records ≡ holding low (rs ++ record_by p entry)
entry_left low rs records p entry e a = held_none low rs records (record_by p entry) a (entry_by p entry false e)

records-append : (p : ℕ) (xs : List Entry) (x : Entry) → records_by p (xs ++ x ∷ []) ≡ records_by p xs ++ record_by p x
records-append p [] x = append-nil (record_by p x)
records-append p (y ∷ xs) x = ap (λ rs. record_by p y ++ rs) (records-append p xs x) ∙ sym (append_assoc (record_by p y) (records_by p xs) (record_by p x))

-- one more entry
pub entries_more : (b : Bounds) (low : Front) (p : ℕ) (entries : List Entry) (i : ℕ) (x : Entry) (records : List Recorded) → i < length entries → x ≡ get_or entries i x
    → records ≡ holding low (empty_record b ∷ (records_by p (take i entries) ++ record_by p x)) → records ≡ holding low (empty_record b ∷ records_by p (take (i + 1) entries))
entries_more b low p entries i x records l e a =
    let more : take (i + 1) entries ≡ take i entries ++ x ∷ [] = take_more entries i x l ∙ ap (λ u. take i entries ++ u ∷ []) (sym e) in
    a ∙ sym (ap (λ rs. holding low (empty_record b ∷ rs)) (ap (records_by p) more ∙ records-append p (take i entries) x))

pub entries_all : (b : Bounds) (low : Front) (p : ℕ) (entries : List Entry) (i : ℕ) (records : List Recorded) → take i entries ≡ entries
    → records ≡ holding low (empty_record b ∷ records_by p (take i entries)) → records ≡ holding low (empty_record b ∷ records_by p entries)
entries_all b low p entries i records e a = a ∙ ap (λ xs. holding low (empty_record b ∷ records_by p xs)) e

pub no_stamps_named : (b : Bounds) (f : Front) → IsFrontOf b f nothing → f ≡ no_stamps b
no_stamps_named b f n = names-same b f (no_stamps b) nothing n (record { canonical = none-canonical b; same = λ t. outside-none b t })

pub empty_is : (b : Bounds) (r : Recorded) → IsFrontOf b r.front nothing → IsFrontOf b r.notified nothing → r.delivered ≡ [] → r.discarded ≡ [] → r ≡ empty_record b
empty_is b r k l q e =
    let o = no_stamps_named b r.front k in
    let p = no_stamps_named b r.notified l in
    λ i. record { front = o i; notified = p i; delivered = q i; discarded = e i }

-- the first record
pub empty_kept : (b : Bounds) (low : Front) (old next : List Recorded) (r : Recorded) → old ≡ [] → r ≡ empty_record b → is_within low r.front ≡ true → next ≡ old ++ r ∷ []
    → next ≡ holding low (empty_record b ∷ [])
empty_kept b low old next r o n k e =
    e ∙ ap (λ (xs : List Recorded). xs ++ r ∷ []) o ∙ sym (ap (λ c. cond c (r ∷ []) []) k) ∙ ap (λ (x : Recorded). holding low (x ∷ [])) n

pub empty_left : (b : Bounds) (low : Front) (old : List Recorded) (r : Recorded) → old ≡ [] → r ≡ empty_record b → is_within low r.front ≡ false
    → old ≡ holding low (empty_record b ∷ [])
empty_left b low old r o n k = o ∙ sym (ap (λ c. cond c (r ∷ []) []) k) ∙ ap (λ (x : Recorded). holding low (x ∷ [])) n

-- ---- ranges and batches

pub in_batches : (low least greatest : Front) (x : Border) (n m : ℕ) (exhausted : Bool) → x ≡ Source n exhausted → FitsWay Batches x → (n ≤ greatest_number → m ≡ n) → least ≡ low
    → greatest ≡ until m → IsOfBatches low x (form.Batches least greatest exhausted)
in_batches low least greatest x n m exhausted e fits few l k =
    let same : m ≡ n = few (subst (FitsWay Batches) e fits) in
    let until_n : greatest ≡ until n = k ∙ ap until same in
    subst (λ y. IsOfBatches low y (form.Batches least greatest exhausted)) (sym e) (λ i. form.Batches (l i) (until_n i) exhausted)

pub in_bound : (b : Bounds) (low settled least greatest : Front) (x : Border) (n : ℕ) → x ≡ Output n → least ≡ low
    → IsFrontOf b greatest (meet (frontier_of b settled) (frontier_of b (until n))) → IsOfBound b low settled x (form.Between least greatest)
in_bound b low settled least greatest x n e l m = subst (λ (y : Border). IsOfBound b low settled y (form.Between least greatest)) (sym e) (l, m)

-- a range up to a frontier that is named
pub range-named : (b : Bounds) (low f : Front) (g : Frontier) (o : Offered) → IsFrontOf b f g → IsRange b low (frontier_of b f) o → IsRange b low g o
range-named b low f g (form.Listed records) n r = absurd r
range-named b low f g (form.Batches least greatest exhausted) n r = absurd r
range-named b low f g (form.Between least greatest) n r = (r.0, record { canonical = r.1.canonical; same = λ t. r.1.same t ∙ n.same t })

-- a range up to what is the same list
pub range-same : (b : Bounds) (low f g : Front) (o : Offered) → f ≡ g → IsRange b low (frontier_of b f) o → IsRange b low (frontier_of b g) o
range-same b low f g o e r = subst (λ (x : Front). IsRange b low (frontier_of b x) o) e r

-- what a node with checkpoints lists
pub listed-in : (b c : Bounds) (low : Front) (p : ℕ) (entries : List Entry) (records found : List Recorded) → c ≡ b → records ≡ found
    → found ≡ holding low (empty_record c ∷ records_by p entries) → form.Listed records ≡ form.Listed (holding low (empty_record b ∷ records_by p entries))
listed-in b c low p entries records found e i a = ap form.Listed (i ∙ a ∙ ap (λ d. holding low (empty_record d ∷ records_by p entries)) e)
