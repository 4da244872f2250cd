-- What is read of a source.
use Rattle.std.proofs.Common.{◌≡◌, ℕ, zero, suc, ◌+◌, ◌<◌, ◌≤◌, ◌^◌, Bool, true, false, not, ◌&&◌, ◌==◌, cond, List, [], ◌∷◌, ◌++◌, length, take, get_or, Option, Some, None, Result, Ok, Err, refl, sym, ap, subst, ◌∙◌, inl, inr, arith}
use Rattle.std.specs.Prelude.{IsErrOf, IsSome}
use Rattle.std.specs.FinMap as map_of
use Rattle.std.specs.List.{AllByRecursion}
use Rattle.std.proofs.lemmas.Bool.{cases_Bool, cases_lt, eq-eqb, eqb-true, false≢true}
use Rattle.std.proofs.lemmas.List.{append-nil, append_assoc}
use Rattle.std.proofs.lemmas.Option.{same_Some}
use Rattle.fw_bag.specs.declared.rec.Rec.{Rec}
use Rattle.fw_bag.specs.Keyed.{sorted_recs}
use Rattle.fw_border.proofs.RecsLaws.{bag_sum-nothing}
use Rattle.fw_came.specs.Came.{batch_bytes, batch_id, batch_reading}
use Rattle.fw_came.specs.Source.{HoldsSource, is_closing}
use Rattle.fw_came.specs.declared.batch.CameBatch.{CameBatch}
use Rattle.fw_came.proofs.CameLaws.{few-recs, read-back}
use Rattle.fw_keep.specs.Stored.{Records}
use Rattle.fw_lines.specs.Batches.{AddsBatch, IsBatch, batches_at}
use Rattle.fw_outside.specs.Outside.{StayIfTold}
use Rattle.fw_root.specs.OfFlow.{Given}
use Rattle.fw_running.specs.declared.fault.EngineFault.{EngineFault}
use Rattle.fw_lasting.specs.Reading.{AddsTo, AreUnder, ForWhatCame, IsBatchUnder, IsNoBatchUnder, IsReading, IsReadTo, IsReadUpTo, MayHaveCome}
use Rattle.fw_lasting.specs.declared.source.CameTo.{CameTo}

-- what an error says it says of whatever was asked for
pub err-alike : {S T : Type 0} (fault other : EngineFault) → IsErrOf {T = S} (Err fault) other → IsErrOf {T = T} (Err fault) other
err-alike fault other e = let same : fault ≡ other = cc in ap Err same

-- ---- one batch

batch-of : (came : List (List Rec)) (x : ℕ) → AllByRecursion IsBatch came → x < length came → IsBatch (get_or came x [])
batch-of [] x a l = absurd (omega (arith, l))
batch-of (b ∷ came) zero a l = a.0
batch-of (b ∷ came) (suc x) a l = batch-of came x a.1 (omega (arith, l))

-- nothing is under an id where no batch came
pub none-under : (held : Records) (s : ℕ) (came : List (List Rec)) (opened : Bool) (x : ℕ) → HoldsSource held s came opened → x ≤ length came
    → map_of.get held (batch_id s x) ≡ None → x ≡ length came
none-under held s came opened x h l none = elim (cases_lt x (length came)) [
  | inl lt ↦ (let no : Some _ ≡ None = sym (h.each x lt) ∙ none in absurd (cc))
  | inr ge ↦ omega (arith, l, ge)
]

-- A batch that is read is the one that came.
pub record IsThatBatch (came : List (List Rec)) (opened : Bool) (x : ℕ) (batch : CameBatch) : Type 0 where
  pub there : x < length came
  pub last : batch.last ≡ is_closing opened (length came) x
  pub recs : batch.recs ≡ get_or came x []

spelled-there : (held : Records) (s : ℕ) (came : List (List Rec)) (opened : Bool) (x : ℕ) (bytes : List ℕ) → HoldsSource held s came opened
    → x < 2 ^ 24 → AreUnder (batch_id s x) held bytes
    → (x < length came) × (bytes ≡ batch_bytes (is_closing opened (length came) x) (get_or came x []))
spelled-there held s came opened x bytes h few u = elim (cases_lt x (length came)) [
  | inl lt ↦ (lt, same_Some bytes (batch_bytes (is_closing opened (length came) x) (get_or came x [])) (sym u.there ∙ h.each x lt))
  | inr ge ↦ (let no : Some bytes ≡ None = sym u.there ∙ h.none x ge few in absurd (cc))
]

read-there : (held : Records) (s : ℕ) (came : List (List Rec)) (opened : Bool) (x : ℕ) (bytes : List ℕ) → HoldsSource held s came opened
    → MayHaveCome came opened → x < 2 ^ 24 → AreUnder (batch_id s x) held bytes
    → (x < length came) × (batch_reading bytes ≡ Ok (record { last = is_closing opened (length came) x; recs = get_or came x [] }))
read-there held s came opened x bytes h m few u =
    let at = spelled-there held s came opened x bytes h few u in
    let recs = get_or came x [] in
    let closing = is_closing opened (length came) x in
    let one = batch-of came x m.batches at.0 in
    let short : length recs < 2 ^ 64 = few-recs closing recs (subst (λ b. length b < 2 ^ 64) at.1 u.few) in
    (at.0, ap batch_reading at.1 ∙ read-back closing recs one.recs short)

pub batch-under : (held : Records) (s : ℕ) (came : List (List Rec)) (opened : Bool) (x : ℕ) (bytes : List ℕ) (batch : CameBatch)
    → HoldsSource held s came opened → MayHaveCome came opened → x < 2 ^ 24 → AreUnder (batch_id s x) held bytes → batch_reading bytes ≡ Ok batch
    → IsThatBatch came opened x batch
batch-under held s came opened x bytes batch h m few u read =
    let at = read-there held s came opened x bytes h m few u in
    let same = ok-is (batch_reading bytes) read at.1 in
    record { there = at.0; last = ap (λ (b : CameBatch). b.last) same; recs = ap (λ (b : CameBatch). b.recs) same }
  where
    ok-is : {a b : CameBatch} → (some : Result CameBatch ℕ) → some ≡ Ok a → some ≡ Ok b → a ≡ b
    ok-is some e f = cc

pub broken-under : (held : Records) (s : ℕ) (came : List (List Rec)) (opened : Bool) (x left : ℕ) (bytes : List ℕ) → HoldsSource held s came opened
    → MayHaveCome came opened → x < 2 ^ 24 → AreUnder (batch_id s x) held bytes → batch_reading bytes ≡ Err left → ⊥
broken-under held s came opened x left bytes h m few u read =
    let at = read-there held s came opened x bytes h m few u in
    let no : Err left ≡ Ok (record { last = is_closing opened (length came) x; recs = get_or came x [] }) = sym read ∙ at.1 in
    absurd (cc)

-- ---- batches that are added

adds-none : (s : ℕ) (old : Given) → AddsTo s old old []
adds-none s old other = by (s == other)
  where
    by : (b : Bool) → batches_at old other ≡ cond b (batches_at old other ++ []) (batches_at old other)
    by true = sym (append-nil (batches_at old other))
    by false = refl

adds-more : (s : ℕ) (old now new : Given) (some : List (List Rec)) (batch : List Rec) → AddsTo s old now some → AddsBatch now new s batch
    → AddsTo s old new (some ++ batch ∷ [])
adds-more s old now new some batch a one other = one other ∙ by (s == other) (a other)
  where
    by : (b : Bool) → batches_at now other ≡ cond b (batches_at old other ++ some) (batches_at old other)
        → cond b (batches_at now other ++ batch ∷ []) (batches_at now other) ≡ cond b (batches_at old other ++ (some ++ batch ∷ [])) (batches_at old other)
    by true e = ap (λ bs. bs ++ batch ∷ []) e ∙ append_assoc (batches_at old other) some (batch ∷ [])
    by false e = e

take-more : (came : List (List Rec)) (x : ℕ) → x < length came → take (x + 1) came ≡ take x came ++ get_or came x [] ∷ []
take-more came x l = let e : x + 1 ≡ suc x = omega arith in ap (λ n. take n came) e ∙ more came x l
  where
    more : (came : List (List Rec)) (x : ℕ) → x < length came → take (suc x) came ≡ take x came ++ get_or came x [] ∷ []
    more [] x l = absurd (omega (arith, l))
    more (b ∷ came) zero l = refl
    more (b ∷ came) (suc x) l = ap (λ bs. b ∷ bs) (more came x (omega (arith, l)))

take-whole : (came : List (List Rec)) (x : ℕ) → length came ≤ x → take x came ≡ came
take-whole [] zero l = refl
take-whole [] (suc x) l = refl
take-whole (b ∷ came) zero l = absurd (omega (arith, l))
take-whole (b ∷ came) (suc x) l = ap (λ bs. b ∷ bs) (take-whole came x (omega (arith, l)))

-- ---- the way through a source

pub read-none : (s : ℕ) (came : List (List Rec)) (opened : Bool) (old : Given) → MayHaveCome came opened → IsReadUpTo s came opened 0 old old
read-none s came opened old m = record { within = omega arith; more = m.last; added = adds-none s old }

sorted-is : (batch : List Rec) → IsBatch batch → sorted_recs batch ≡ batch
sorted-is batch b = bag_sum-nothing batch b.ascending

-- the batch that comes next is added
next-added : (s : ℕ) (came : List (List Rec)) (opened : Bool) (x : ℕ) (old now new : Given) (batch : CameBatch) → MayHaveCome came opened
    → IsReadUpTo s came opened x old now → IsThatBatch came opened x batch → AddsBatch now new s (sorted_recs batch.recs) → AddsTo s old new (take (x + 1) came)
next-added s came opened x old now new batch m r that add =
    let is : sorted_recs batch.recs ≡ get_or came x [] =
    ap sorted_recs that.recs ∙ sorted-is (get_or came x []) (batch-of came x m.batches that.there) in
    subst (AddsTo s old new) (sym (take-more came x that.there))
    (adds-more s old now new (take x came) (get_or came x []) r.added (subst (AddsBatch now new s) is add))

pub read-next : (s : ℕ) (came : List (List Rec)) (opened : Bool) (x : ℕ) (old now new : Given) (batch : CameBatch) → MayHaveCome came opened
    → IsReadUpTo s came opened x old now → IsThatBatch came opened x batch → batch.last ≡ false → AddsBatch now new s (sorted_recs batch.recs)
    → IsReadUpTo s came opened (x + 1) old new
read-next s came opened x old now new batch m r that on add = record {
  within = let l = that.there in omega (arith, l);
  more = λ shut. by opened shut (sym that.last ∙ on);
  added = next-added s came opened x old now new batch m r that add;
}
  where
    by : (b : Bool) → b ≡ false → (not b && (x + 1 == length came)) ≡ false → x + 1 < length came
    by true e f = absurd (cc)
    by false e f = elim (cases_lt (x + 1) (length came)) [
      | inl lt ↦ lt
      | inr ge ↦ absurd (false≢true (sym f ∙ eq-eqb (x + 1) (length came) (let l = that.there in omega (arith, l, ge))))
    ]

pub read-last : (s : ℕ) (came : List (List Rec)) (opened : Bool) (x : ℕ) (old now new : Given) (batch : CameBatch) (read : CameTo) → MayHaveCome came opened
    → IsReadUpTo s came opened x old now → IsThatBatch came opened x batch → batch.last ≡ true → AddsBatch now new s (sorted_recs batch.recs)
    → read.count ≡ x + 1 → read.open ≡ false → IsReadTo s came opened read old new
read-last s came opened x old now new batch read m r that last add count shut =
    let end = by opened (sym that.last ∙ last) in
    record {
      count = count ∙ end.1;
      is_open = shut ∙ sym end.0;
      added = subst (λ b. AddsTo s old new (came ++ cond b ([] ∷ []) [])) (sym end.0)
          (subst (AddsTo s old new) (take-whole came (x + 1) (omega (arith, end.1)) ∙ sym (append-nil came))
          (next-added s came opened x old now new batch m r that add));
    }
  where
    by : (b : Bool) → (not b && (x + 1 == length came)) ≡ true → (b ≡ false) × (x + 1 ≡ length came)
    by true e = absurd (cc)
    by false e = (refl, eqb-true (x + 1) (length came) e)

pub read-open : (s : ℕ) (came : List (List Rec)) (opened : Bool) (x : ℕ) (old now new : Given) (read : CameTo) → IsReadUpTo s came opened x old now
    → x ≡ length came → AddsBatch now new s (sorted_recs []) → read.count ≡ x → read.open ≡ true → IsReadTo s came opened read old new
read-open s came opened x old now new read r all add count is =
    let on : opened ≡ true = elim (cases_Bool opened) [
      | inl o ↦ o
      | inr c ↦ (let l = r.more c in absurd (omega (arith, l, all)))
    ] in
    record {
      count = count ∙ all;
      is_open = is ∙ sym on;
      added = subst (λ b. AddsTo s old new (came ++ cond b ([] ∷ []) [])) (sym on)
          (subst (λ some. AddsTo s old new (some ++ [] ∷ [])) (take-whole came x (omega (arith, all)))
          (adds-more s old now new (take x came) [] r.added add));
    }

-- ---- the loop

-- what is told is what was told at first
pub told-first : (before mid after : Option Records) (held : Records) → StayIfTold before mid → StayIfTold mid after → before ≡ Some held → IsSome after
    → (IsSome mid) × (after ≡ Some held)
told-first before mid after held one two told some =
    let e = two some in
    let was : IsSome mid = subst (λ r. IsSome r) e some in
    (was, e ∙ one was ∙ told)

pub stays-on : (before mid after : Option Records) → StayIfTold before mid → StayIfTold mid after → StayIfTold before after
stays-on before mid after one two = λ told. let e = two told in e ∙ one (subst (λ r. IsSome r) e told)

pub reading-first : (s : ℕ) (records : Option Records) (fails : ℕ) (given : Given) → IsReading s records records fails fails 0 given given
reading-first s records fails given =
    record { stays = λ told. refl; same = refl; so_far = λ came opened held m told h some. read-none s came opened given m }

-- the batch under the next id is the one that came
under-that : (s count : ℕ) (came : List (List Rec)) (opened : Bool) (held : Records) (after : Option Records) (batch : CameBatch) → count < 2 ^ 20
    → MayHaveCome came opened → HoldsSource held s came opened → after ≡ Some held → IsBatchUnder (batch_id s count) after (Some batch)
    → IsThatBatch came opened count batch
under-that s count came opened held after batch few m h told u =
    let b = u held told in
    batch-under held s came opened count b.0 batch h m (omega (arith, few)) b.1 b.2

pub reading-next : (s count : ℕ) (before mid after : Option Records) (failed fails last : ℕ) (old now new : Given) (batch : CameBatch) → count < 2 ^ 20
    → IsReading s before mid failed fails count old now → StayIfTold mid after → last ≡ fails → IsBatchUnder (batch_id s count) after (Some batch)
    → batch.last ≡ false → AddsBatch now new s (sorted_recs batch.recs) → IsReading s before after failed last (count + 1) old new
reading-next s count before mid after failed fails last old now new batch few r stay same u on add = record {
  stays = stays-on before mid after r.stays stay;
  same = same ∙ r.same;
  so_far = λ came opened held m told h some.
      let t = told-first before mid after held r.stays stay told some in
      read-next s came opened count old now new batch m (r.so_far came opened held m told h t.0)
      (under-that s count came opened held after batch few m h t.1 u) on add;
}

pub reading-last : (s count : ℕ) (before mid after : Option Records) (failed fails : ℕ) (old now new : Given) (batch : CameBatch) (read : CameTo)
    → count < 2 ^ 20 → IsReading s before mid failed fails count old now → StayIfTold mid after → IsBatchUnder (batch_id s count) after (Some batch)
    → batch.last ≡ true → AddsBatch now new s (sorted_recs batch.recs) → read.count ≡ count + 1 → read.open ≡ false
    → ForWhatCame s before after (λ came opened. IsReadTo s came opened read old new)
reading-last s count before mid after failed fails old now new batch read few r stay u is add n o = λ came opened held m told h some.
    let t = told-first before mid after held r.stays stay told some in
    read-last s came opened count old now new batch read m (r.so_far came opened held m told h t.0)
    (under-that s count came opened held after batch few m h t.1 u) is add n o

pub reading-open : (s count : ℕ) (before mid after : Option Records) (failed fails : ℕ) (old now new : Given) (read : CameTo) → count < 2 ^ 20
    → IsReading s before mid failed fails count old now → StayIfTold mid after → IsBatchUnder (batch_id s count) after None
    → AddsBatch now new s (sorted_recs []) → read.count ≡ count → read.open ≡ true
    → ForWhatCame s before after (λ came opened. IsReadTo s came opened read old new)
reading-open s count before mid after failed fails old now new read few r stay u add n o = λ came opened held m told h some.
    let t = told-first before mid after held r.stays stay told some in
    let so_far = r.so_far came opened held m told h t.0 in
    read-open s came opened count old now new read so_far (none-under held s came opened count h so_far.within (u held t.1)) add n o

pub reading-broken : (s count : ℕ) (before mid after : Option Records) (failed fails : ℕ) (old now : Given) → count < 2 ^ 20
    → IsReading s before mid failed fails count old now → StayIfTold mid after → IsNoBatchUnder (batch_id s count) after
    → ForWhatCame s before after (λ came opened. ⊥)
reading-broken s count before mid after failed fails old now few r stay u = λ came opened held m told h some.
    let t = told-first before mid after held r.stays stay told some in
    let b = u held t.1 in
    broken-under held s came opened count b.2 b.0 h m (omega (arith, few)) b.1 b.3
