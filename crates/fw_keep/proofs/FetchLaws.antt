-- What is fetched over the entries on which an entry stands.
use Rattle.std.proofs.Common.{◌≡◌, ℕ, ◌+◌, ◌<◌, Bool, true, false, ◌||◌, ◌==◌, List, [], ◌∷◌, ◌++◌, length, get_or, take, drop, Option, Some, None, Result, Ok, Err, refl, sym, ap, subst, ◌∙◌, append_assoc}
use Rattle.std.specs.List.{AllByRecursion, AllZip, Contains}
use Rattle.std.specs.Option.{ForSome}
use Rattle.std.specs.FinMap as map
use Rattle.std.proofs.lemmas.Bool.{eqb-true, false≢true}
use Rattle.std.proofs.lemmas.List.{at_drop_more, take_more, take-append-drop}
use Rattle.fw_lemmas.proofs.Each.{each-weaker, each-at, each-map, each-there}
use Rattle.fw_lemmas.proofs.SideBySide.{zip-weaker, zip-append}
use Rattle.fw_outside.specs.Outside.{StayIfTold}
use Rattle.fw_outside.proofs.ToldLaws.{told-kept}
use Rattle.fw_flow.specs.Dataflow.{Dataflow}
use Rattle.fw_record.specs.declared.record.Record.{Record}
use Rattle.fw_record.specs.Spelling.{spelling}
use Rattle.fw_record.proofs.RecordLaws.{one_spelling_lem}
use Rattle.fw_keep.specs.declared.entry.Entry.{Entry}
use Rattle.fw_keep.specs.declared.fault.KeepFault.{KeepFault}
use Rattle.fw_keep.specs.declared.fault.KeepFault.TheVariants as fault
use Rattle.fw_keep.specs.Catalogue.{ids_of, has_entry}
use Rattle.fw_keep.specs.Stored.{Records, bytes_under, HoldsAs, Fetches, IsFetched, IsToldUnder}
use Rattle.fw_keep.specs.Joined.{AreJoined, IsFirstDamaged, FetchesOver, GivesJoined, IsFetchedAt, IsFirstDamagedId, IsDamagedAt}
use Rattle.fw_keep.proofs.BytesLaws.{entry-there}

-- ---- one record

pub fetched-one : (flow : Dataflow) (all : Option Records) (e : Entry) (r : Record) (got : Option (ℕ × List ℕ)) → Fetches flow e got (Ok r) → IsToldUnder e.id all (Ok r)
    → IsFetched flow all e r
fetched-one flow all e r got f told = record { sound = f.1; fits = f.2; told = told }

-- of each entry of an id
pub fetched-at : (flow : Dataflow) (all : Option Records) (es : List Entry) (id : ℕ) (r : Record) (got : Option (ℕ × List ℕ))
    → ((e : Entry) → Contains es e → e.id ≡ id → Fetches flow e got (Ok r)) → IsToldUnder id all (Ok r) → IsFetchedAt flow all es id r
fetched-at flow all es id r got f told e there named =
    fetched-one flow all e r got (f e there named) (subst (λ (n : ℕ). IsToldUnder n all (Ok r)) (sym named) told)

-- what was fetched is so by what the store tells after another answer
still-fetched : (flow : Dataflow) (before after : Option Records) (e : Entry) (r : Record) → StayIfTold before after → IsFetched flow before e r → IsFetched flow after e r
still-fetched flow before after e r stay one = record {
  sound = one.sound;
  fits = one.fits;
  told = told-kept (λ all. ForSome all (λ held. map.get held e.id ≡ Some (spelling r))) before after stay (λ held is. absurd (cc)) one.told;
}

pub all-still : (flow : Dataflow) (before after : Option Records) (es : List Entry) (ids : List ℕ) (rs : List Record) → StayIfTold before after
    → AllZip (IsFetchedAt flow before es) ids rs → AllZip (IsFetchedAt flow after es) ids rs
all-still flow before after es ids rs stay h =
    zip-weaker (IsFetchedAt flow before es) (IsFetchedAt flow after es) ids rs
    (λ id r one e there named. still-fetched flow before after e r stay (one e there named)) h

-- ---- one record after the other

-- one more was fetched
pub more-fetched : (flow : Dataflow) (all : Option Records) (es : List Entry) (ids : List ℕ) (i d : ℕ) (rs : List Record) (r : Record) → i < length ids
    → AllZip (IsFetchedAt flow all es) (take i ids) rs → IsFetchedAt flow all es (get_or ids i d) r → AllZip (IsFetchedAt flow all es) (take (i + 1) ids) (rs ++ r ∷ [])
more-fetched flow all es ids i d rs r l h one =
    let P : ℕ → Record → Type 0 = IsFetchedAt flow all es in
    subst (λ (ns : List ℕ). AllZip P ns (rs ++ r ∷ [])) (sym (take_more ids i d l)) (zip-append P (take i ids) rs (get_or ids i d ∷ []) (r ∷ []) h (one, tt))

-- an id at a place is between those before it and those after it
parts-at : (ids : List ℕ) (i d : ℕ) → i < length ids → ids ≡ take i ids ++ get_or ids i d ∷ drop (i + 1) ids
parts-at ids i d l = sym (take-append-drop i ids) ∙ at_drop_more (λ (rest : List ℕ). take i ids ++ rest) ids i d l

with-id-in : (es some : List Entry) (id : ℕ) → has_entry id some ≡ true → AllByRecursion (Contains es) some → (e : Entry) × Contains es e × (e.id ≡ id)
with-id-in es [] id h all = absurd (false≢true h)
with-id-in es (e ∷ some) id h all = by (e.id == id) refl (λ later. with-id-in es some id later all.1)
  where
    by : (b : Bool) → (e.id == id) ≡ b → (has_entry id some ≡ true → (x : Entry) × Contains es x × (x.id ≡ id)) → (x : Entry) × Contains es x × (x.id ≡ id)
    by true is rest = (e, all.0, eqb-true e.id id is)
    by false is rest = rest (subst (λ (b : Bool). (b || has_entry id some) ≡ true) is h)

-- an id that some entry has is that of an entry
pub with-id : (es : List Entry) (id : ℕ) → has_entry id es ≡ true → (e : Entry) × Contains es e × (e.id ≡ id)
with-id es id h = with-id-in es es id h (each-there es)

-- the first whose bytes are wrong
pub damaged-at : (flow : Dataflow) (all : Option Records) (got : Option (ℕ × List ℕ)) (es : List Entry) (ids : List ℕ) (i d : ℕ) (read : List Record) (why : KeepFault)
    → i < length ids → AllByRecursion (λ id. has_entry id es ≡ true) ids → AllZip (IsFetchedAt flow all es) (take i ids) read
    → ((e : Entry) → Contains es e → e.id ≡ get_or ids i d → Fetches flow e got (Err why)) → IsToldUnder (get_or ids i d) all (Err why) → IsDamagedAt flow all got es ids why
damaged-at flow all got es ids i d read (fault.Damaged at bytes) l there before f told =
    let id : ℕ = get_or ids i d in
    let some = with-id es id (each-at (λ n. has_entry n es ≡ true) ids i d l there) in
    let first = f some.0 some.1 some.2 in
    let named : at ≡ id = first.0 ∙ some.2 in
    record {
      before = take i ids;
      after = drop (i + 1) ids;
      parts = parts-at ids i d l ∙ ap (λ (n : ℕ). take i ids ++ n ∷ drop (i + 1) ids) (sym named);
      read = read;
      fetched = before;
      given = first.1 ∙ ap (λ (n : ℕ). Some (n, bytes.items)) (sym first.0);
      told = subst (λ (n : ℕ). ForSome all (λ held. map.get held n ≡ Some bytes.items)) (sym named) told;
      none = λ e contained is. (f e contained (is ∙ named)).2;
    }
damaged-at flow all got es ids i d read fault.StoreFault l there before f told = tt
damaged-at flow all got es ids i d read fault.NoMemory l there before f told = tt

-- ---- from ids to entries

-- what was fetched under the ids of entries was fetched of them
pub of-entries : (flow : Dataflow) (all : Option Records) (entries es : List Entry) (rs : List Record) → AllByRecursion (Contains entries) es
    → AllZip (IsFetchedAt flow all entries) (ids_of es) rs → AllZip (IsFetched flow all) es rs
of-entries flow all entries [] [] there h = tt
of-entries flow all entries [] (r ∷ rs) there h = absurd h
of-entries flow all entries (e ∷ es) [] there h = absurd h
of-entries flow all entries (e ∷ es) (r ∷ rs) there h = (h.0 e there.0 refl, of-entries flow all entries es rs there.1 h.1)

-- Entries whose ids are these before and after one are entries before and after one.
record IsSplit (es : List Entry) (before : List ℕ) (id : ℕ) : Type 0 where
  first : List Entry
  entry : Entry
  later : List Entry
  parts : es ≡ first ++ entry ∷ later
  ids : ids_of first ≡ before
  named : entry.id ≡ id

split-more : (x : Entry) (es : List Entry) (y : ℕ) (before : List ℕ) (id : ℕ) → x.id ≡ y → IsSplit es before id → IsSplit (x ∷ es) (y ∷ before) id
split-more x es y before id same rest = record {
  first = x ∷ rest.first;
  entry = rest.entry;
  later = rest.later;
  parts = ap (λ (zs : List Entry). x ∷ zs) rest.parts;
  ids = ap (λ (n : ℕ). n ∷ ids_of rest.first) same ∙ ap (λ (ns : List ℕ). y ∷ ns) rest.ids;
  named = rest.named;
}

split : (es : List Entry) (before : List ℕ) (id : ℕ) (after : List ℕ) → ids_of es ≡ before ++ id ∷ after → IsSplit es before id
split [] [] id after e = absurd (cc)
split [] (x ∷ before) id after e = absurd (cc)
split (x ∷ es) [] id after e = record { first = []; entry = x; later = es; parts = refl; ids = refl; named = cc }
split (x ∷ es) (y ∷ before) id after e = split-more x es y before id (cc) (split es before id after (cc))

each-first : (P : Entry → Type 0) (xs ys : List Entry) → AllByRecursion P (xs ++ ys) → AllByRecursion P xs
each-first P [] ys all = tt
each-first P (x ∷ xs) ys all = (all.0, each-first P xs ys all.1)

each-middle : (P : Entry → Type 0) (xs : List Entry) (y : Entry) (ys : List Entry) → AllByRecursion P (xs ++ y ∷ ys) → P y
each-middle P [] y ys all = all.0
each-middle P (x ∷ xs) y ys all = each-middle P xs y ys all.1

pub damaged-under : (flow : Dataflow) (all : Option Records) (got : Option (ℕ × List ℕ)) (entries es more : List Entry) (id : ℕ) (bytes : List ℕ)
    → AllByRecursion (Contains entries) es → IsFirstDamagedId flow all got entries (ids_of es) id bytes → IsFirstDamaged flow all got (es ++ more) id bytes
damaged-under flow all got entries es more id bytes there h =
    let s = split es h.before id h.after h.parts in
    let each : AllByRecursion (Contains entries) (s.first ++ s.entry ∷ s.later) = subst (AllByRecursion (Contains entries)) s.parts there in
    record {
      before = s.first;
      entry = s.entry;
      after = s.later ++ more;
      parts = ap (λ (xs : List Entry). xs ++ more) s.parts ∙ append_assoc s.first (s.entry ∷ s.later) more;
      read = h.read;
      fetched = of-entries flow all entries s.first h.read (each-first (Contains entries) s.first (s.entry ∷ s.later) each)
          (subst (λ (ids : List ℕ). AllZip (IsFetchedAt flow all entries) ids h.read) (sym s.ids) h.fetched);
      named = s.named;
      given = h.given;
      told = h.told;
      none = h.none s.entry (each-middle (Contains entries) s.first s.entry s.later each) s.named;
    }

-- those on which an entry stands are entries, and have their ids
pub bases-have : (entries bases : List Entry) (ids : List ℕ) → AllByRecursion (Contains entries) bases → ids ≡ ids_of bases
    → AllByRecursion (λ id. has_entry id entries ≡ true) ids
bases-have entries bases ids there same =
    subst (AllByRecursion (λ id. has_entry id entries ≡ true)) (sym same)
    (each-map (λ id. has_entry id entries ≡ true) (λ (e : Entry). e.id) bases
    (each-weaker (Contains entries) (λ (e : Entry). has_entry e.id entries ≡ true) bases (λ e contained. entry-there entries e contained) there))

-- ---- the answer

-- one of those on which the entry stands is damaged, or reading them was refused
pub over-refused : (flow : Dataflow) (all : Option Records) (got : Option (ℕ × List ℕ)) (entries bases : List Entry) (e : Entry) (ids : List ℕ) (why : KeepFault)
    → AllByRecursion (Contains entries) bases → ids ≡ ids_of bases → IsDamagedAt flow all got entries ids why → FetchesOver flow all got bases e (Err why)
over-refused flow all got entries bases e ids (fault.Damaged id bytes) there same h =
    damaged-under flow all got entries bases (e ∷ []) id bytes.items there
    (subst (λ (ns : List ℕ). IsFirstDamagedId flow all got entries ns id bytes.items) same h)
over-refused flow all got entries bases e ids fault.StoreFault there same h = tt
over-refused flow all got entries bases e ids fault.NoMemory there same h = tt

-- the entry itself is damaged, or reading it was refused
pub itself-refused : (flow : Dataflow) (all : Option Records) (got : Option (ℕ × List ℕ)) (entries bases : List Entry) (e : Entry) (ids : List ℕ) (under : List Record) (why : KeepFault)
    → AllByRecursion (Contains entries) bases → ids ≡ ids_of bases → AllZip (IsFetchedAt flow all entries) ids under
    → Fetches flow e got (Err why) → IsToldUnder e.id all (Err why) → FetchesOver flow all got bases e (Err why)
itself-refused flow all got entries bases e ids under (fault.Damaged at bytes) there same lower f told = record {
  before = bases;
  entry = e;
  after = [];
  parts = refl;
  read = under;
  fetched = of-entries flow all entries bases under there (subst (λ (ns : List ℕ). AllZip (IsFetchedAt flow all entries) ns under) same lower);
  named = sym f.0;
  given = f.1 ∙ ap (λ (n : ℕ). Some (n, bytes.items)) (sym f.0);
  told = subst (λ (n : ℕ). ForSome all (λ held. map.get held n ≡ Some bytes.items)) (sym f.0) told;
  none = f.2;
}
itself-refused flow all got entries bases e ids under fault.StoreFault there same lower f told = tt
itself-refused flow all got entries bases e ids under fault.NoMemory there same lower f told = tt

-- all were fetched, and joined
pub over-fetched : (flow : Dataflow) (all : Option Records) (got : Option (ℕ × List ℕ)) (entries bases : List Entry) (e : Entry) (ids : List ℕ) (under : List Record) (own whole : Record)
    → AllByRecursion (Contains entries) bases → ids ≡ ids_of bases → AllZip (IsFetchedAt flow all entries) ids under
    → Fetches flow e got (Ok own) → IsToldUnder e.id all (Ok own) → AreJoined under own whole → FetchesOver flow all got bases e (Ok whole)
over-fetched flow all got entries bases e ids under own whole there same lower f told joined = record {
  under = under;
  own = own;
  lower = of-entries flow all entries bases under there (subst (λ (ns : List ℕ). AllZip (IsFetchedAt flow all entries) ns under) same lower);
  itself = fetched-one flow all e own got f told;
  given = f.0;
  joined = joined;
}

-- ---- where the store tells

same-told : (all : Option Records) (id : ℕ) (some others : List ℕ) → ForSome all (λ held. map.get held id ≡ Some some) → bytes_under id all ≡ Some others → others ≡ some
same-told None id some others a b = absurd (cc)
same-told (Some held) id some others a b = let one : map.get held id ≡ Some some = a held refl in let is : Some others ≡ Some some = sym b ∙ one in cc

held-is : (flow : Dataflow) (all : Option Records) (e : Entry) (r q : Record) → HoldsAs flow all e r → IsFetched flow all e q → q ≡ r
held-is flow all e r q h f = one_spelling_lem q r f.sound h.sound (sym (same-told all e.id (spelling q) (spelling r) f.told h.bytes))

held-are : (flow : Dataflow) (all : Option Records) (es : List Entry) (rs qs : List Record) → AllZip (HoldsAs flow all) es rs → AllZip (IsFetched flow all) es qs → qs ≡ rs
held-are flow all [] [] [] h f = refl
held-are flow all [] [] (q ∷ qs) h f = absurd f
held-are flow all [] (r ∷ rs) qs h f = absurd h
held-are flow all (e ∷ es) [] qs h f = absurd h
held-are flow all (e ∷ es) (r ∷ rs) [] h f = absurd f
held-are flow all (e ∷ es) (r ∷ rs) (q ∷ qs) h f =
    ap (λ (x : Record). x ∷ qs) (held-is flow all e r q h.0 f.0) ∙ ap (λ (xs : List Record). r ∷ xs) (held-are flow all es rs qs h.1 f.1)

held-middle : (flow : Dataflow) (all : Option Records) (before : List Entry) (e : Entry) (after : List Entry) (rs : List Record)
    → AllZip (HoldsAs flow all) (before ++ e ∷ after) rs → (r : Record) × HoldsAs flow all e r
held-middle flow all [] e after [] h = absurd h
held-middle flow all [] e after (r ∷ rs) h = (r, h.0)
held-middle flow all (x ∷ before) e after [] h = absurd h
held-middle flow all (x ∷ before) e after (r ∷ rs) h = held-middle flow all before e after rs h.1

pub gives-joined : (flow : Dataflow) (all : Option Records) (got : Option (ℕ × List ℕ)) (bases : List Entry) (e : Entry) (under : List Record) (own : Record) (result : Result Record KeepFault)
    → FetchesOver flow all got bases e result → AllZip (HoldsAs flow all) bases under → HoldsAs flow all e own → GivesJoined under own result
gives-joined flow all got bases e under own (Ok whole) f lower itself =
    let unders : f.under ≡ under = held-are flow all bases under f.under lower f.lower in
    let owns : f.own ≡ own = held-is flow all e own f.own itself f.itself in
    subst (λ (rs : List Record). AreJoined rs own whole) unders (subst (λ (r : Record). AreJoined f.under r whole) owns f.joined)
gives-joined flow all got bases e under own (Err (fault.Damaged id bytes)) f lower itself =
    let one = held-middle flow all f.before f.entry f.after (under ++ own ∷ [])
    (subst (λ (es : List Entry). AllZip (HoldsAs flow all) es (under ++ own ∷ [])) f.parts
    (zip-append (HoldsAs flow all) bases under (e ∷ []) (own ∷ []) lower (itself, tt))) in
    let spelled : spelling one.0 ≡ bytes.items =
    same-told all id bytes.items (spelling one.0) f.told (ap (λ (n : ℕ). bytes_under n all) (sym f.named) ∙ one.1.bytes) in
    f.none one.0 one.1.sound (sym spelled) one.1.of_entry
gives-joined flow all got bases e under own (Err fault.StoreFault) f lower itself = tt
gives-joined flow all got bases e under own (Err fault.NoMemory) f lower itself = tt
