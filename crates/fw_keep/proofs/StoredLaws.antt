-- What each call keeps of what a store holds.
use Rattle.std.proofs.Common.{◌≡◌, ◌⊎◌, inl, inr, ℕ, ◌-◌, ◌<◌, Bool, true, false, not, cond, ◌&&◌, ◌||◌, ◌==◌, List, [], ◌∷◌, ◌++◌, length, get_or, slice_get, Option, Some, None, option_map, IsSome, filter, refl, sym, ap, subst, ◌∙◌, arith, append_assoc}
use Rattle.std.specs.Prelude.{is_some, IfSome}
use Rattle.std.specs.Option.{ForSome}
use Rattle.std.specs.List.{AllByRecursion}
use Rattle.std.specs.FinMap as records
use Rattle.std.specs.FinMap.{get-empty, get-insert, get-remove, same_map, nat_cmp-IsAntisymmetric}
use Rattle.std.specs.Cmp.{nat_cmp_total}
use Rattle.std.specs.Ordering.{nat_cmp, eq_by_cmp}
use Rattle.std.specs.Option.{option_to_list}
use Rattle.std.proofs.lemmas.Option.{get_or_from_slice_get, slice_get_within}
use Rattle.std.proofs.lemmas.List.{append-nil}
use Rattle.std.proofs.lemmas.List.Folds.{list_any-append}
use Rattle.std.proofs.Math.Bool.{or-true}
use Rattle.std.proofs.lemmas.Bool.{both_ways, eqb-true, eq-eqb, ne_eqb}
use Rattle.fw_lemmas.proofs.Each.{each-weaker, each-at, each-prefix, each-suffix}
use Rattle.fw_lemmas.proofs.Orderings.{equal_by_cmp}
use Rattle.fw_outside.specs.Outside.{StayIfTold}
use Rattle.fw_outside.proofs.ToldLaws.{told-kept}
use Rattle.fw_keep.specs.declared.entry.Entry.{Entry}
use Rattle.fw_keep.specs.Catalogue.{KeepState, IsCatalogue, ids_of, is_id_among, has_entry, AreDistinct, persisted, without}
use Rattle.fw_keep.specs.Stored.{Records, IsEmptyStore, is_held, HasEntries, HasJustHeld, IsStored, IsThereUnder, IsNoneUnder, without_id, IsFreed, AreThere, without_ids, Sweeps}
use Rattle.fw_keep.proofs.IdLaws.{ids-more, has_entry-parts, ids-persisted, none_drawn, each-among, among-self, distinct-parts, distinct-last}

-- ---- the map at an id

some-cond : (b : Bool) (bytes : List ℕ) (o : Option (List ℕ)) → is_some (cond b (Some bytes) o) ≡ (b || is_some o)
some-cond true bytes o = refl
some-cond false bytes o = refl

none-cond : (b : Bool) (o : Option (List ℕ)) → is_some (cond b None o) ≡ (not b && is_some o)
none-cond true o = refl
none-cond false o = refl

there-insert : (held : Records) (k : ℕ) (bytes : List ℕ) (q : ℕ) → is_some (records.get (records.insert held k bytes) q) ≡ ((k == q) || is_some (records.get held q))
there-insert held k bytes q =
    ap is_some (get-insert nat_cmp_total held k bytes q) ∙ some-cond (eq_by_cmp nat_cmp q k) bytes (records.get held q) ∙ ap (λ b. b || is_some (records.get held q)) (equal_by_cmp q k)

there-remove : (held : Records) (k q : ℕ) → is_some (records.get (records.remove held k) q) ≡ (not (k == q) && is_some (records.get held q))
there-remove held k q =
    ap is_some (get-remove nat_cmp_total held k q) ∙ none-cond (eq_by_cmp nat_cmp q k) (records.get held q) ∙ ap (λ b. not b && is_some (records.get held q)) (equal_by_cmp q k)

none_is : (o : Option (List ℕ)) → is_some o ≡ false → o ≡ None
none_is None h = refl
none_is (Some x) h = absurd cc

-- what a store has of a catalogue
abbrev Has : KeepState → Records → Type 0
Has keep held = HasEntries keep held × (keep.shared ≡ false → HasJustHeld keep held)

-- ---- what is new

pub stored-new : (keep : KeepState) (all : Option Records) → keep.entries ≡ [] → keep.waiting ≡ [] → IsEmptyStore all → IsStored keep all
stored-new keep all entries waiting none = λ held f. (
  λ id there. absurd (both_ways (has_entry id keep.entries) (ap (has_entry id) entries) there),
  λ alone id. ap (λ (m : Records). is_some (records.get m id)) (none held f) ∙ ap is_some (get-empty nat_cmp id) ∙ rw (entries, waiting) refl,
)

-- where the store may hold what others put, nothing need be there of a catalogue without entries
pub stored-begun : (keep : KeepState) (all : Option Records) → keep.entries ≡ [] → keep.shared ≡ true → IsStored keep all
stored-begun keep all entries shared = λ held f. (
  λ id there. absurd (both_ways (has_entry id keep.entries) (ap (has_entry id) entries) there),
  λ alone id. absurd (both_ways keep.shared alone shared),
)

-- from now on the store may hold what others put
pub stored-shared : (keep : KeepState) (all : Option Records) → IsStored keep all → IsStored (record keep { shared = true }) all
stored-shared keep all h = λ held f. ((h held f).0, λ alone id. absurd (both_ways true alone refl))

-- what is stored depends on the entries, what waits and whether others put records alone
pub stored-same : (a b : KeepState) (all : Option Records) → a.entries ≡ b.entries → a.waiting ≡ b.waiting → a.shared ≡ b.shared → IsStored b all → IsStored a all
stored-same a b all entries waiting shared h = λ held f. (
  λ id there. (h held f).0 id (sym (ap (has_entry id) entries) ∙ there),
  λ alone id. (h held f).1 (sym shared ∙ alone) id
      ∙ sym (ap (λ (es : List Entry). has_entry id es || is_id_among id a.waiting) entries ∙ ap (λ ids. has_entry id b.entries || is_id_among id ids) waiting),
)

-- ---- what is asked

held-more : (keep : KeepState) (e : Entry) (id : ℕ) → ((e.id == id) || is_held keep id) ≡ (has_entry id (keep.entries ++ e ∷ []) || is_id_among id keep.waiting)
held-more keep e id =
    rotate (e.id == id) (has_entry id keep.entries) (is_id_among id keep.waiting)
    ∙ ap (λ b. b || is_id_among id keep.waiting) (sym (ap (is_id_among id) (ids-more keep.entries e) ∙ list_any-append _ (ids_of keep.entries) (e.id ∷ [])))
  where
    rotate : (a b c : Bool) → (a || (b || c)) ≡ ((b || (a || false)) || c)
    rotate true true c = refl
    rotate true false c = refl
    rotate false true c = refl
    rotate false false c = refl

or_else : (a b : Bool) → (a ≡ false → b ≡ true) → (a || b) ≡ true
or_else true b h = refl
or_else false b h = h refl

-- another id than the last one's is that of an entry before
entry-before : (es : List Entry) (e : Entry) (id : ℕ) → has_entry id (es ++ e ∷ []) ≡ true → (e.id == id) ≡ false → has_entry id es ≡ true
entry-before es e id there apart =
    first (has_entry id es) (e.id == id) (sym (ap (is_id_among id) (ids-more es e) ∙ list_any-append _ (ids_of es) (e.id ∷ [])) ∙ there) apart
  where
    first : (a b : Bool) → (a || (b || false)) ≡ true → b ≡ false → a ≡ true
    first true b h n = refl
    first false true h n = sym n
    first false false h n = h

pub stored-added : (keep : KeepState) (e : Entry) (bytes : List ℕ) (all : Option Records) → e.id ≡ keep.next → IsStored keep all
    → IsStored (record keep { entries = keep.entries ++ e ∷ [] }) (option_map (λ held. records.insert held keep.next bytes) all)
stored-added keep e bytes None same h = λ held f. absurd cc
stored-added keep e bytes (Some first) same h = λ held f.
    let is : records.insert first keep.next bytes ≡ held = cc in
    subst (Has (record keep { entries = keep.entries ++ e ∷ [] })) is (
      λ id there. there-insert first keep.next bytes id
          ∙ or_else (keep.next == id) (is_some (records.get first id)) (λ apart. (h first refl).0 id (entry-before keep.entries e id there (ap (λ n. n == id) same ∙ apart))),
      λ alone id. there-insert first keep.next bytes id ∙ ap (λ b. (keep.next == id) || b) ((h first refl).1 alone id)
          ∙ ap (λ n. (n == id) || is_held keep id) (sym same) ∙ held-more keep e id,
    )

-- an entry is added of a record that is there
pub stored-read : (keep : KeepState) (e : Entry) (all : Option Records) → is_held keep e.id ≡ false → IsThereUnder e.id all → IsStored keep all
    → IsStored (record keep { entries = keep.entries ++ e ∷ [] }) all
stored-read keep e all apart under h = λ held f. (
  λ id there. by held f id there (e.id == id) refl,
  λ alone id. absurd (both_ways (is_some (records.get held e.id)) ((h held f).1 alone e.id ∙ apart) (under held f)),
)
  where
    by : (held : Records) → all ≡ Some held → (id : ℕ) → has_entry id (keep.entries ++ e ∷ []) ≡ true → (b : Bool) → (e.id == id) ≡ b → IsSome (records.get held id)
    by held f id there true is = subst (λ n. IsSome (records.get held n)) (eqb-true e.id id is) (under held f)
    by held f id there false is = (h held f).0 id (entry-before keep.entries e id there is)

-- nothing is under the next id
pub stored-fresh : (keep : KeepState) (all : Option Records) → IsCatalogue keep → IsStored keep all → keep.shared ≡ false → IsNoneUnder keep.next all
stored-fresh keep all well h alone = λ held f. none_is (records.get held keep.next)
    ((h held f).1 alone keep.next ∙ rw (none_drawn keep.next (ids_of keep.entries) well.drawn, none_drawn keep.next keep.waiting well.waiting_drawn) refl)

-- ---- what is acknowledged, and what goes

pub stored-persisted : (keep : KeepState) (all : Option Records) → IsStored keep all → IsStored (record keep { entries = persisted keep.entries }) all
stored-persisted keep all h = λ held f. (
  λ id there. (h held f).0 id (sym (ap (is_id_among id) (ids-persisted keep.entries)) ∙ there),
  λ alone id. (h held f).1 alone id ∙ ap (λ ids. is_id_among id ids || is_id_among id keep.waiting) (sym (ids-persisted keep.entries)),
)

pub stored-without : (goes : Entry → Bool) (keep : KeepState) (all : Option Records) → IsStored keep all → IsStored (without goes keep) all
stored-without goes keep all h = λ held f. (
  λ id there. (h held f).0 id (sym (has_entry-parts goes keep.entries id) ∙ ap (λ b. b || has_entry id (filter goes keep.entries)) there),
  λ alone id. (h held f).1 alone id
      ∙ ap (λ b. b || is_id_among id keep.waiting) (sym (has_entry-parts goes keep.entries id))
      ∙ regroup (has_entry id (filter (λ e. not (goes e)) keep.entries)) (has_entry id (filter goes keep.entries)) (is_id_among id keep.waiting)
      ∙ ap (λ b. has_entry id (filter (λ e. not (goes e)) keep.entries) || b) (sym (list_any-append _ keep.waiting (ids_of (filter goes keep.entries)))),
)
  where
    regroup : (a b c : Bool) → ((a || b) || c) ≡ (a || (c || b))
    regroup true b c = refl
    regroup false true true = refl
    regroup false true false = refl
    regroup false false true = refl
    regroup false false false = refl

-- ---- what is there

-- the record of an entry is there
pub stored-entry : (keep : KeepState) (all : Option Records) (id : ℕ) → has_entry id keep.entries ≡ true → IsStored keep all
    → ForSome all (λ held. IsSome (records.get held id))
stored-entry keep all id there h = λ held f. (h held f).0 id there

-- what waits is there, where no others put records
pub stored-waiting : (keep : KeepState) (all : Option Records) → IsStored keep all → keep.shared ≡ false → AreThere keep.waiting all
stored-waiting keep all h alone = λ held f.
    each-weaker _ _ keep.waiting (λ id among. (h held f).1 alone id ∙ rw among (or-true (has_entry id keep.entries))) (among-self keep.waiting)

-- ---- what is swept

there-without_ids : (held : Records) (removed : List ℕ) (id : ℕ) → is_some (records.get (without_ids removed held) id) ≡ (not (is_id_among id removed) && is_some (records.get held id))
there-without_ids held [] id = refl
there-without_ids held (x ∷ removed) id =
    there-remove (without_ids removed held) x id ∙ ap (λ b. not (x == id) && b) (there-without_ids held removed id) ∙ both (x == id) (is_id_among id removed) (is_some (records.get held id))
  where
    both : (a b c : Bool) → (not a && (not b && c)) ≡ (not (a || b) && c)
    both true b c = refl
    both false b c = refl

left : (a e l : Bool) → (a ≡ true → e ≡ false) → (a ≡ true → l ≡ false) → (not a && (e || (l || a))) ≡ (e || l)
left true e l no_entry not_left = rw (no_entry refl, not_left refl) refl
left false e l no_entry not_left = ends e l
  where
    ends : (e l : Bool) → (e || (l || false)) ≡ (e || l)
    ends true l = refl
    ends false true = refl
    ends false false = refl

pub stored-swept : (keep : KeepState) (old : Option Records) (rest : List ℕ) (new : Option Records) (refused : Bool) → IsCatalogue keep → IsStored keep old
    → Sweeps keep.waiting old rest new → IsStored (record keep { waiting = rest; refused = refused }) new
stored-swept keep None rest new refused well h s = λ held f. let none : new ≡ None = s.records in absurd cc
stored-swept keep (Some first) rest new refused well h s = λ held f.
    let some : new ≡ Some (without_ids s.removed first) = s.records in
    let is : without_ids s.removed first ≡ held = cc in
    let distinct : AreDistinct (rest ++ s.removed) = subst AreDistinct s.parts well.distinct in
    let apart : AllByRecursion (λ x. has_entry x keep.entries ≡ false) (rest ++ s.removed) = subst (AllByRecursion (λ x. has_entry x keep.entries ≡ false)) s.parts well.apart in
    subst (Has (record keep { waiting = rest; refused = refused })) is (
      λ id there. there-without_ids first s.removed id
          ∙ ap (λ b. not b && is_some (records.get first id)) (none-removed id s.removed (each-suffix _ rest s.removed apart) there (is_id_among id s.removed) refl)
          ∙ (h first refl).0 id there,
      λ alone id. there-without_ids first s.removed id
          ∙ ap (λ b. not (is_id_among id s.removed) && b) ((h first refl).1 alone id ∙ ap (λ ids. has_entry id keep.entries || is_id_among id ids) s.parts ∙ ap (λ b. has_entry id keep.entries || b) (list_any-append _ rest s.removed))
          ∙ left (is_id_among id s.removed) (has_entry id keep.entries) (is_id_among id rest)
          (λ there. each-among _ s.removed id (each-suffix _ rest s.removed apart) there) (λ there. distinct-parts rest s.removed id distinct there),
    )
  where
    none-removed : (id : ℕ) (removed : List ℕ) → AllByRecursion (λ x. has_entry x keep.entries ≡ false) removed → has_entry id keep.entries ≡ true → (b : Bool) → is_id_among id removed ≡ b → is_id_among id removed ≡ false
    none-removed id removed apart there true is = absurd (both_ways (has_entry id keep.entries) (each-among _ removed id apart is) there)
    none-removed id removed apart there false is = is

-- ---- how a sweep goes on

none_removed : (all : Option Records) → all ≡ option_map (without_ids []) all
none_removed None = refl
none_removed (Some held) = refl

pub sweeps-nothing : (waiting : List ℕ) (all : Option Records) → Sweeps waiting all waiting all
sweeps-nothing waiting all = record { removed = []; parts = sym (append-nil waiting); records = none_removed all }

one_more : (id : ℕ) (removed : List ℕ) (old : Option Records) → option_map (λ (held : Records). records.remove held id) (option_map (without_ids removed) old) ≡ option_map (without_ids (id ∷ removed)) old
one_more id removed None = refl
one_more id removed (Some held) = refl

pub sweeps-more : (waiting : List ℕ) (old : Option Records) (rest : List ℕ) (id : ℕ) (new newer : Option Records) → Sweeps waiting old (rest ++ id ∷ []) new
    → newer ≡ option_map (λ (held : Records). records.remove held id) new → Sweeps waiting old rest newer
sweeps-more waiting old rest id new newer s e = record {
  removed = id ∷ s.removed;
  parts = s.parts ∙ append_assoc rest (id ∷ []) s.removed;
  records = e ∙ ap (option_map (λ (held : Records). records.remove held id)) s.records ∙ one_more id s.removed old;
}

pub there-more : (rest : List ℕ) (id : ℕ) (all newer : Option Records) → AreDistinct (rest ++ id ∷ []) → AreThere (rest ++ id ∷ []) all
    → newer ≡ option_map (λ (held : Records). records.remove held id) all → AreThere rest newer
there-more rest id None newer distinct there e = λ held f. absurd cc
there-more rest id (Some first) newer distinct there e = λ held f.
    let is : records.remove first id ≡ held = cc in
    subst (λ (m : Records). AllByRecursion (λ x. IsSome (records.get m x)) rest) is
    (still rest (distinct-last rest id distinct) (each-prefix _ rest (id ∷ []) (there first refl)))
  where
    still : (xs : List ℕ) → AllByRecursion (λ x. (id == x) ≡ false) xs → AllByRecursion (λ x. IsSome (records.get first x)) xs
        → AllByRecursion (λ x. IsSome (records.get (records.remove first id) x)) xs
    still [] a b = tt
    still (x ∷ xs) a b = (there-remove first id x ∙ rw (a.0, b.0) refl, still xs a.1 b.1)

-- one of what is there
pub there-at : (ids : List ℕ) (i id : ℕ) (all : Option Records) → slice_get ids i ≡ Some id → AreThere ids all → ForSome all (λ held. IsSome (records.get held id))
there-at ids i id all at there = λ held f.
    subst (λ n. IsSome (records.get held n)) (get_or_from_slice_get ids i id id at) (each-at _ ids i id (slice_get_within ids i id at) (there held f))

-- the last one, as it is seen
pub at-end : (ids seen : List ℕ) (n id : ℕ) → seen ≡ ids → length seen ≡ n → Some id ≡ slice_get seen (length seen - 1) → slice_get ids (n - 1) ≡ Some id
at-end ids seen n id same len last = sym (last ∙ ap (λ k. slice_get seen (k - 1)) len ∙ ap (λ xs. slice_get xs (n - 1)) same)

-- what is left where the last one is taken out
pub last-out : (ids rest : List ℕ) (out : Option ℕ) (n id : ℕ) → n ≡ length ids → slice_get ids (n - 1) ≡ Some id
    → ((d : ℕ) → 0 < n → out ≡ Some (get_or ids (n - 1) d)) → ids ≡ rest ++ option_to_list out → ids ≡ rest ++ id ∷ []
last-out ids rest out n id len at value parts =
    let some : 0 < n = omega (arith, slice_get_within ids (n - 1) id at) in
    let is : out ≡ Some id = value id some ∙ ap Some (get_or_from_slice_get ids (n - 1) id id at) in
    parts ∙ ap (λ o. rest ++ option_to_list o) is

-- ---- a store that others use too

-- what is removed is not there
pub none-after : (id : ℕ) (all : Option Records) → IsNoneUnder id (without_id id all)
none-after id None = λ held f. absurd cc
none-after id (Some first) = λ held f.
    let is : records.remove first id ≡ held = cc in
    subst (λ (m : Records). records.get m id ≡ None) is
    (get-remove nat_cmp_total first id id ∙ ap (λ b. cond b None (records.get first id)) (equal_by_cmp id id ∙ eq-eqb id id refl))

-- to remove what is not there changes nothing
pub absent-removed : (id : ℕ) (all : Option Records) (there : Bool) → there ≡ false → IfSome all (λ held. there ≡ is_some (records.get held id)) → all ≡ without_id id all
absent-removed id None there none apart = refl
absent-removed id (Some held) there none apart = ap Some (same_map nat_cmp_total nat_cmp-IsAntisymmetric held (records.remove held id) (λ q.
    sym (get-remove nat_cmp_total held id q ∙ kept q (eq_by_cmp nat_cmp q id) (equal_by_cmp q id))))
  where
    kept : (q : ℕ) (b : Bool) → b ≡ (id == q) → cond b None (records.get held q) ≡ records.get held q
    kept q true is = sym (ap (records.get held) (sym (eqb-true id q (sym is))) ∙ none_is (records.get held id) (sym apart ∙ none))
    kept q false is = refl

-- what is put in place of what was removed
pub put-over : (id : ℕ) (bytes : List ℕ) (all : Option Records) → option_map (λ held. records.insert held id bytes) (without_id id all) ≡ option_map (λ held. records.insert held id bytes) all
put-over id bytes None = refl
put-over id bytes (Some held) = ap Some (same_map nat_cmp_total nat_cmp-IsAntisymmetric (records.insert (records.remove held id) id bytes) (records.insert held id bytes) (λ q.
    get-insert nat_cmp_total (records.remove held id) id bytes q ∙ ap (cond (eq_by_cmp nat_cmp q id) (Some bytes)) (get-remove nat_cmp_total held id q)
    ∙ twice (eq_by_cmp nat_cmp q id) (records.get held q) ∙ sym (get-insert nat_cmp_total held id bytes q)))
  where
    twice : (b : Bool) (o : Option (List ℕ)) → cond b (Some bytes) (cond b None o) ≡ cond b (Some bytes) o
    twice true o = refl
    twice false o = refl

-- where no others put records, none is removed
pub freed-alone : (shared : Bool) (id : ℕ) (old new : Option Records) → IsFreed shared id old new → shared ≡ false → new ≡ old
freed-alone shared id old new (inl same) alone = same
freed-alone shared id old new (inr less) alone = absurd (both_ways shared alone less.0)

-- each record is changed, or none is, so a store that tells its records goes on telling them
pub freed-mapped : (shared : Bool) (id : ℕ) (old new : Option Records) → IsFreed shared id old new → (change : Records → Records) × (new ≡ option_map change old)
freed-mapped shared id old new (inl same) = ((λ held. held), same ∙ none_removed old)
freed-mapped shared id old new (inr less) = ((λ held. records.remove held id), less.1)

-- after a refusal the records of the entries are there
pub stored-freed : (keep : KeepState) (old new : Option Records) → IsCatalogue keep → IsStored keep old → IsFreed keep.shared keep.next old new → IsStored keep new
stored-freed keep old new well h (inl same) = subst (IsStored keep) (sym same) h
stored-freed keep None new well h (inr less) = λ held f. let none : new ≡ None = less.1 in absurd cc
stored-freed keep (Some first) new well h (inr less) = λ held f.
    let some : new ≡ Some (records.remove first keep.next) = less.1 in
    let is : records.remove first keep.next ≡ held = cc in
    subst (Has keep) is (
      λ id there. there-remove first keep.next id ∙ ap (λ b. not b && is_some (records.get first id)) (apart id (each-among _ (ids_of keep.entries) id well.drawn there)) ∙ (h first refl).0 id there,
      λ alone id. absurd (both_ways keep.shared alone less.0),
    )
  where
    apart : (id : ℕ) → id < keep.next → (keep.next == id) ≡ false
    apart id l = ne_eqb keep.next id (λ same. absurd (omega arith))

-- ---- a store that may cease to tell

pub stored-told : (keep : KeepState) (before after : Option Records) → StayIfTold before after → IsStored keep before → IsStored keep after
stored-told keep before after stay s = told-kept (λ records. IsStored keep records) before after stay (λ held is. absurd cc) s
