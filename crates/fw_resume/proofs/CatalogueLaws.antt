-- Reading the writes that a root names one after the other: what has been read so far.
use Rattle.std.proofs.Common.{◌≡◌, ℕ, zero, suc, ◌+◌, ◌<◌, ◌≤◌, true, false, List, [], ◌∷◌, length, map, take, drop, get_or, ◌^◌, ◌++◌, Option, Some, None, Ok, Err, refl, sym, ap, subst, ◌∙◌, add-one, arith}
use Rattle.std.specs.Prelude.{IsSome, option_and_then}
use Rattle.std.specs.List.{AllByRecursion, AllZip, Contains}
use Rattle.std.proofs.lemmas.List.{at_drop_more, get_or_default, take_all, take_more, take-append-drop}
use Rattle.fw_lemmas.proofs.Each.{each-append, each-at}
use Rattle.fw_lemmas.proofs.SideBySide.{zip-append, zip-weaker}
use Rattle.fw_bytes.proofs.FrontLaws.{canonical_of_sound}
use Rattle.fw_outside.specs.Outside.{StayIfTold}
use Rattle.fw_outside.proofs.ToldLaws.{told-kept}
use Rattle.fw_flow.specs.declared.choice.Stamps.{Stamps}
use Rattle.fw_flow.specs.Dataflow.{System, Dataflow, bounds_of}
use Rattle.fw_model.specs.Machine.{Machine, Write}
use Rattle.fw_record.specs.declared.record.Record.{Record}
use Rattle.fw_record.specs.declared.record.Record.TheVariants as tagged
use Rattle.fw_record.specs.Sound.{IsSound}
use Rattle.fw_record.specs.Spelling.{spelling}
use Rattle.fw_record.proofs.FrontLaws.{changes_canonical, fronts_canonical}
use Rattle.fw_record.proofs.RecordLaws.{one_spelling_lem}
use Rattle.fw_keep.specs.declared.entry.Entry.{Entry}
use Rattle.fw_keep.specs.declared.fault.KeepFault.{KeepFault}
use Rattle.fw_keep.specs.declared.fault.KeepFault.TheVariants as fault
use Rattle.fw_keep.specs.Catalogue.{KeepState, AreAcknowledged, AreAscending, ids_of, is_id_among}
use Rattle.fw_keep.specs.Entry.{base_of_record, node_of_record, read_beside, written_of}
use Rattle.fw_keep.specs.Named.{tag_of_record, HoldsNamed, IsRecordNamed, IsRecordOfFlow}
use Rattle.fw_keep.specs.Stored.{Records, bytes_under, GivesNoDamage, IsThereUnder, IsToldUnder}
use Rattle.fw_keep.proofs.NamedLaws.{read-of_entry}
use Rattle.fw_policy.specs.Entries.{AreEntriesOf, IsEntryOf}
use Rattle.fw_policy.specs.Shaped.{IsWrittenOf}
use Rattle.fw_stands.specs.Entries.{id_at_front}
use Rattle.fw_stands.specs.Written.{AreHeld, IsHeldAs}
use Rattle.fw_root.specs.declared.root.NamedWrite.{NamedWrite}
use Rattle.fw_root.specs.declared.root.Root.{Root}
use Rattle.fw_regain.specs.RootOf.{IsWriteNamed}
use Rattle.std.proofs.lemmas.Slice.Zip.{AllZip-long}
use Rattle.fw_resume.specs.Catalogue.{AreNamesFor, AreStampsBack, GivesKept, HoldsKept, IsNamedState, IsReadNext, MayReadNext, TellsDamage, TellsDamageOf}
use Rattle.fw_resume.specs.Names.{name_of, tag_of_written, kept_writes}
use Rattle.fw_resume.proofs.KeptWriteLaws.{IsKnownWrite, IsSameEntry, bases-alike, kept-known}
use Rattle.fw_resume.proofs.NamedWriteLaws.{ids_named, name-apart, names-ascend, names-drawn}
use Rattle.fw_resume.proofs.ReadLaws.{IsAround, IsReadFor, read-for, stands-next}

-- ---- a place of three lists side by side

-- The entry stands for the write: on the base of that, and with its record.
pub record IsStanding (sys : System) (state : Machine) (held : Records) (all : List Entry) (e : Entry) (x : Write) : Type 0 where
  pub of : IsEntryOf sys state e x
  pub base : e.base ≡ option_and_then (λ f. id_at_front x.node f all) x.base
  pub holds : IsHeldAs sys state held e x
  pub known : IsKnownWrite sys state x

abbrev AreStanding : System → Machine → Records → List Entry → List Entry → List Write → Type 0
AreStanding sys state held all es xs = AllZip (IsStanding sys state held all) es xs

abbrev HasIdOf : NamedWrite → Entry → Type 0
HasIdOf n e = n.id ≡ e.id

-- At this place stand a name, an entry and a write.
record IsAtPlace (sys : System) (state : Machine) (held : Records) (all es : List Entry) (xs : List Write) (i : ℕ) (n : NamedWrite) : Type 0 where
  entry : Entry
  write : Write
  rest : List Entry
  after : List Write
  more_entries : take (suc i) es ≡ take i es ++ entry ∷ []
  more_writes : take (suc i) xs ≡ take i xs ++ write ∷ []
  entries : es ≡ take i es ++ entry ∷ rest
  writes : xs ≡ take i xs ++ write ∷ after
  firsts : AreStanding sys state held all (take i es) (take i xs)
  id : n.id ≡ entry.id
  named : IsWriteNamed n write
  stands : IsStanding sys state held all entry write

at-place : (sys : System) (state : Machine) (held : Records) (all : List Entry) (ns : List NamedWrite) (es : List Entry) (xs : List Write) (i : ℕ) (d : NamedWrite)
    → AllZip HasIdOf ns es → AllZip IsWriteNamed ns xs → AreStanding sys state held all es xs → i < length ns
    → IsAtPlace sys state held all es xs i (get_or ns i d)
at-place sys state held all [] es xs i d a b c l = absurd (omega (arith, l))
at-place sys state held all (n ∷ ns) [] xs i d a b c l = absurd a
at-place sys state held all (n ∷ ns) (e ∷ es) [] i d a b c l = absurd b
at-place sys state held all (n ∷ ns) (e ∷ es) (x ∷ xs) zero d a b c l = record {
  entry = e;
  write = x;
  rest = es;
  after = xs;
  more_entries = refl;
  more_writes = refl;
  entries = refl;
  writes = refl;
  firsts = tt;
  id = a.0;
  named = b.0;
  stands = c.0;
}
at-place sys state held all (n ∷ ns) (e ∷ es) (x ∷ xs) (suc i) d a b c l =
    let r = at-place sys state held all ns es xs i d a.1 b.1 c.1 (omega (arith, l)) in
    record {
      entry = r.entry;
      write = r.write;
      rest = r.rest;
      after = r.after;
      more_entries = ap (λ ys. e ∷ ys) r.more_entries;
      more_writes = ap (λ ys. x ∷ ys) r.more_writes;
      entries = ap (λ ys. e ∷ ys) r.entries;
      writes = ap (λ ys. x ∷ ys) r.writes;
      firsts = (c.0, r.firsts);
      id = r.id;
      named = r.named;
      stands = r.stands;
    }

zip-ids : (ns : List NamedWrite) (es : List Entry) → ids_of es ≡ ids_named ns → AllZip HasIdOf ns es
zip-ids [] [] k = tt
zip-ids [] (e ∷ es) k = absurd cc
zip-ids (n ∷ ns) [] k = absurd cc
zip-ids (n ∷ ns) (e ∷ es) k =
    let heads : n.id ≡ e.id = cc in
    let tails : ids_of es ≡ ids_named ns = cc in
    (heads, zip-ids ns es tails)

all-standing : (sys : System) (state : Machine) (held : Records) (all es : List Entry) (xs : List Write) → AreEntriesOf sys state es xs
    → AllZip (λ (e : Entry) (x : Write). e.base ≡ option_and_then (λ f. id_at_front x.node f all) x.base) es xs → AreHeld sys state held es xs
    → AllByRecursion (IsKnownWrite sys state) xs → AreStanding sys state held all es xs
all-standing sys state held all [] [] a b c k = tt
all-standing sys state held all [] (x ∷ xs) a b c k = absurd a
all-standing sys state held all (e ∷ es) [] a b c k = absurd a
all-standing sys state held all (e ∷ es) (x ∷ xs) a b c k =
    (record { of = a.0; base = b.0; holds = c.0; known = k.0 }, all-standing sys state held all es xs a.1 b.1 c.1 k.1)

-- ---- what has been read so far

-- The entries were made of the records of the first so many writes that are kept, and stand for them.
pub record HasReadTo (sys : System) (state : Machine) (held : Records) (all : List Entry) (n : ℕ) (es : List Entry) : Type 0 where
  pub entries : AreEntriesOf sys state es (take n (kept_writes state))
  pub same : AllZip IsSameEntry es (take n all)
  pub stored : AreHeld sys state held es (take n (kept_writes state))

-- The record of the next write can be that of its name, and is held under its id; what is read of it stands for the write.
pub record IsRightNext (sys : System) (state : Machine) (held : Records) (all es : List Entry) (i : ℕ) (n : NamedWrite) : Type 0 where
  pub what : Record
  pub sound : IsSound what
  pub bytes : bytes_under n.id (Some held) ≡ Some (spelling what)
  pub named : IsRecordNamed sys.flow es n.node n.tag what
  pub step : (stamps : Stamps) → AreStampsBack sys.flow what stamps → HasReadTo sys state held all (i + 1) (es ++ read_beside es n.id what stamps ∷ [])

ids-of_names : (es : List Entry) → ids_of es ≡ ids_named (map name_of es)
ids-of_names [] = refl
ids-of_names (e ∷ es) = ap (λ ids. e.id ∷ ids) (ids-of_names es)

ascending-taken : (i : ℕ) (ns : List NamedWrite) → AreAscending (ids_named ns) → AreAscending (ids_named (take i ns))
ascending-taken zero ns a = tt
ascending-taken (suc i) [] a = tt
ascending-taken (suc i) (n ∷ ns) a = (below i ns a.0, ascending-taken i ns a.1)
  where
    below : (j : ℕ) (ms : List NamedWrite) → AllByRecursion (λ later. n.id < later) (ids_named ms) → AllByRecursion (λ later. n.id < later) (ids_named (take j ms))
    below zero ms b = tt
    below (suc j) [] b = tt
    below (suc j) (m ∷ ms) b = (b.0, below j ms b.1)

pub right-next : (flow : Dataflow) (root : Root) (held : Records) (sys : System) (state : Machine) (h : IsNamedState flow root (Some held) sys state) → AreNamesFor flow root
    → (i : ℕ) (d : NamedWrite) → i < length root.writes → (es : List Entry) → map name_of es ≡ take i root.writes
    → HasReadTo sys state held (h.named).entries i es → IsRightNext sys state held (h.named).entries es i (get_or root.writes i d)
right-next flow root held sys state h names i d l es read to =
    let all = (h.named).entries in
    let ws = kept_writes state in
    let known = kept-known sys h.well_formed state h.reached in
    let standing = all-standing sys state held all all ws (h.named).stand (h.named).bases ((h.named).stored held refl) known.each in
    let n = get_or root.writes i d in
    let at = at-place sys state held all root.writes all ws i d (zip-ids root.writes all (h.named).ids) (h.of_state).writes standing l in
    let e = at.entry in
    let x = at.write in
    let s = at.stands in
    let up : AreAscending (ids_of es) =
    subst AreAscending (sym (ids-of_names es ∙ ap ids_named read)) (ascending-taken i root.writes (names-ascend flow root names)) in
    let around : IsAround sys state all ws es (take i all) e (take i ws) x = record {
      rest = at.rest;
      after = at.after;
      all_parts = at.entries;
      parts = at.writes;
      firsts_stand = zip-weaker (IsStanding sys state held all) (IsEntryOf sys state) (take i all) (take i ws) (λ y z k. k.of) at.firsts;
      stand = to.entries;
      same = to.same;
      base = s.base;
      known = s.known;
    } in
    let put = s.holds in
    let of_entry = put.of_entry in
    let r = put.what in
    let fits : IsReadFor sys state es x.node x.base x.written x.depth e.base r =
    read-for sys h.well_formed state h.reached es up x.node e.node (s.of).node x.stage x.depth e.base e.written x.base x.written r of_entry.of_entry
    (stands-next sys state all ws known es (take i all) e (take i ws) x around) (s.known).asked put.of_write in
    let bytes : bytes_under n.id (Some held) ≡ Some (spelling r) = ap (λ id. bytes_under id (Some held)) at.id ∙ of_entry.bytes in
    record {
      what = r;
      sound = of_entry.sound;
      bytes = bytes;
      named = record {
        of_node = fits.node ∙ sym (at.named).node;
        of_tag = fits.tag ∙ sym (at.named).tag;
        of_flow = fits.of_flow;
        based = fits.based;
      };
      step = λ stamps back.
          let new : Entry = read_beside es n.id r stamps in
          let of : IsEntryOf sys state new x = record {
            node = fits.node;
            acknowledged = sym (s.known).counted;
            holds = fits.holds stamps back;
            base = fits.has_base;
            depth = fits.depth;
          } in
          let one : IsHeldAs sys state held new x = record {
            what = r;
            of_entry = record { sound = of_entry.sound; of_entry = read-of_entry sys.flow es n.id r stamps fits.of_flow; bytes = bytes };
            of_write = put.of_write;
          } in
          let same : IsSameEntry new e = (at.id, fits.stands_on) in
          subst (λ m. HasReadTo sys state held all m (es ++ new ∷ [])) (sym (add-one i)) (record {
            entries = subst (AreEntriesOf sys state (es ++ new ∷ [])) (sym at.more_writes)
                (zip-append (IsEntryOf sys state) es (take i ws) (new ∷ []) (x ∷ []) to.entries (of, tt));
            same = subst (AllZip IsSameEntry (es ++ new ∷ [])) (sym at.more_entries) (zip-append IsSameEntry es (take i all) (new ∷ []) (e ∷ []) to.same (same, tt));
            stored = subst (AreHeld sys state held (es ++ new ∷ [])) (sym at.more_writes)
                (zip-append (IsHeldAs sys state held) es (take i ws) (new ∷ []) (x ∷ []) to.stored (one, tt));
          });
    }

-- ---- one more

some-same : {A : Type 0} (a b : A) → Some a ≡ Some b → a ≡ b
some-same a b e = cc

-- a record that was read under an id is the one whose bytes are there
told-is : (id : ℕ) (held : Records) (records : Option Records) (a b : Record) → records ≡ Some held → IsToldUnder id records (Ok a) → bytes_under id (Some held) ≡ Some (spelling b)
    → IsSound a → IsSound b → b ≡ a
told-is id held records a b is told bytes sound other =
    one_spelling_lem b a other sound (some-same (spelling b) (spelling a) (sym bytes ∙ told held is))

pub next-read : (flow : Dataflow) (root : Root) (held : Records) (sys : System) (state : Machine) (h : IsNamedState flow root (Some held) sys state) → AreNamesFor flow root
    → (i : ℕ) (d : NamedWrite) → i < length root.writes → (old new : KeepState) → map name_of old.entries ≡ take i root.writes
    → HasReadTo sys state held (h.named).entries i old.entries → (records : Option Records) → records ≡ Some held
    → IsReadNext flow (get_or root.writes i d) records old new → HasReadTo sys state held (h.named).entries (i + 1) new.entries
next-read flow root held sys state h names i d l old new read to records is next =
    let right = right-next flow root held sys state h names i d l old.entries read to in
    let n = get_or root.writes i d in
    let same : right.what ≡ next.what = told-is n.id held records next.what right.what is next.told right.bytes next.sound right.sound in
    let back = subst (λ f. AreStampsBack f right.what next.stamps) (sym h.of_flow) (subst (λ r. AreStampsBack flow r next.stamps) (sym same) next.back) in
    let all = (h.named).entries in
    subst (λ (k : KeepState). HasReadTo sys state held all (i + 1) k.entries) (sym next.added)
    (subst (λ r. HasReadTo sys state held all (i + 1) (old.entries ++ read_beside old.entries n.id r next.stamps ∷ [])) same (right.step next.stamps back))

-- the next record is held as that of its name
pub next-held : (flow : Dataflow) (root : Root) (held : Records) (sys : System) (state : Machine) (h : IsNamedState flow root (Some held) sys state) → AreNamesFor flow root
    → (i : ℕ) (d : NamedWrite) → i < length root.writes → (es : List Entry) → map name_of es ≡ take i root.writes
    → HasReadTo sys state held (h.named).entries i es → (records : Option Records) → records ≡ Some held
    → (what : Record) × HoldsNamed flow es records (get_or root.writes i d).id (get_or root.writes i d).node (get_or root.writes i d).tag what
next-held flow root held sys state h names i d l es read to records is =
    let right = right-next flow root held sys state h names i d l es read to in
    let n = get_or root.writes i d in (
      right.what,
      record {
        sound = right.sound;
        named = subst (λ f. IsRecordNamed f es n.node n.tag right.what) h.of_flow right.named;
        bytes = ap (bytes_under n.id) is ∙ right.bytes;
      },
    )

-- ---- all

-- where all were read the entries stand for all that is kept
pub all-read : (flow : Dataflow) (root : Root) (held : Records) (sys : System) (state : Machine) (h : IsNamedState flow root (Some held) sys state) (keep : KeepState)
    → (i : ℕ) → length root.writes ≤ i → HasReadTo sys state held (h.named).entries i keep.entries
    → (records : Option Records) → records ≡ Some held → HoldsKept sys state records keep
all-read flow root held sys state h keep i l to records is =
    let all = (h.named).entries in
    let ws = kept_writes state in
    let es = keep.entries in
    let long : length ws ≤ i = subst (λ n. n ≤ i) (sym (AllZip-long IsWriteNamed root.writes ws (h.of_state).writes)) l in
    let same_long : length all ≤ i = subst (λ n. n ≤ i) (sym (AllZip-long HasIdOf root.writes all (zip-ids root.writes all (h.named).ids))) l in
    let stand : AreEntriesOf sys state es ws = subst (AreEntriesOf sys state es) (take_all i ws long) to.entries in
    let same : AllZip IsSameEntry es all = subst (AllZip IsSameEntry es) (take_all i all same_long) to.same in
    record {
      entries = stand;
      bases = bases-alike sys state es all ws same stand (h.named).stand (h.named).bases;
      stored = λ now k.
          subst (λ r. AreHeld sys state r es ws) (some-same held now (sym is ∙ k)) (subst (AreHeld sys state held es) (take_all i ws long) to.stored);
    }

-- what holds by the records that are told afterwards holds of the answer
pub told-state : (P : Type 0) (flow : Dataflow) (root : Root) (before after : Option Records) (sys : System) (state : Machine) → StayIfTold before after → IsSome after
    → IsNamedState flow root before sys state → ((held : Records) → before ≡ Some held → after ≡ Some held → IsNamedState flow root (Some held) sys state → P) → P
told-state P flow root before None sys state stay some h k = absurd (let c : false ≡ true = some in cc)
told-state P flow root before (Some held) sys state stay some h k =
    let same : Some held ≡ before = stay some in
    k held (sym same) refl (subst (λ r. IsNamedState flow root r sys state) (sym same) h)

-- ---- whatever was given

-- The entries are of the first so many writes that the root names, in order, and are acknowledged; the rest of the catalogue is the root's.
pub record IsReadTo (root : Root) (n : ℕ) (keep : KeepState) : Type 0 where
  pub names : map name_of keep.entries ≡ take n root.writes
  pub acknowledged : AreAcknowledged keep.entries
  pub next : keep.next ≡ root.next_id
  pub waiting : keep.waiting ≡ root.others
  pub refused : keep.refused ≡ false
  pub shared : keep.shared ≡ true

-- the next write may be read
pub may-read : (flow : Dataflow) (root : Root) → AreNamesFor flow root → (i : ℕ) (d : NamedWrite) → i < length root.writes → (keep : KeepState) → IsReadTo root i keep
    → MayReadNext (get_or root.writes i d).id keep
may-read flow root names i d l keep r =
    let n = get_or root.writes i d in
    let there : Contains root.writes n = contains-at root.writes i d l in
    record {
      above = subst (λ ids. AllByRecursion (λ other. other < n.id) ids) (sym (ids-of_names keep.entries ∙ ap ids_named r.names))
          (below-next i root.writes d l (names-ascend flow root names));
      drawn = subst (λ m. n.id < m) (sym r.next) (each-at (λ (w : NamedWrite). w.id < root.next_id) root.writes i d l (names-drawn flow root names));
      few = subst (λ m. m < 2 ^ 62) (sym r.next) names.next_id;
      apart = subst (λ ids. is_id_among n.id ids ≡ false) (sym r.waiting) (name-apart flow root names n there);
      acknowledged = r.acknowledged;
    }
  where
    contains-at : (xs : List NamedWrite) (j : ℕ) (e : NamedWrite) → j < length xs → Contains xs (get_or xs j e)
    contains-at xs j e m = (j, m, get_or_default xs j (get_or xs j e) e m)

    later-above : (n : NamedWrite) (j : ℕ) (xs : List NamedWrite) (e : NamedWrite) → j < length xs → AllByRecursion (λ later. n.id < later) (ids_named xs) → n.id < (get_or xs j e).id
    later-above n j [] e m a = absurd (omega (arith, m))
    later-above n zero (x ∷ xs) e m a = a.0
    later-above n (suc j) (x ∷ xs) e m a = later-above n j xs e (omega (arith, m)) a.1

    below-next : (j : ℕ) (xs : List NamedWrite) (e : NamedWrite) → j < length xs → AreAscending (ids_named xs)
        → AllByRecursion (λ other. other < (get_or xs j e).id) (ids_named (take j xs))
    below-next j [] e m a = absurd (omega (arith, m))
    below-next zero (x ∷ xs) e m a = tt
    below-next (suc j) (x ∷ xs) e m a = (later-above x j xs e (omega (arith, m)) a.0, below-next j xs e (omega (arith, m)) a.1)

name-more : (es : List Entry) (e : Entry) → map name_of (es ++ e ∷ []) ≡ map name_of es ++ name_of e ∷ []
name-more [] e = refl
name-more (x ∷ es) e = ap (λ ns. name_of x ∷ ns) (name-more es e)

-- the tag of an entry that is made of a record is the record's
tag-read : (r : Record) (stamps : Stamps) → tag_of_written (written_of r stamps) (base_of_record r) ≡ tag_of_record r
tag-read (tagged.State c) stamps = refl
tag-read (tagged.Event node event) stamps = refl
tag-read (tagged.Changes base c) stamps = refl

name-is : (n m : NamedWrite) → m.id ≡ n.id → m.node ≡ n.node → m.tag ≡ n.tag → m ≡ n
name-is n m a b c =
    let one : m ≡ record { id = n.id; node = m.node; tag = m.tag } = ap (λ x. record { id = x; node = m.node; tag = m.tag }) a in
    let two = ap (λ x. record { id = n.id; node = x; tag = m.tag }) b in
    one ∙ two ∙ ap (λ x. record { id = n.id; node = n.node; tag = x }) c

pub read-more : (flow : Dataflow) (root : Root) (i : ℕ) (d : NamedWrite) → i < length root.writes → (records : Option Records) (old new : KeepState) → IsReadTo root i old
    → IsReadNext flow (get_or root.writes i d) records old new → IsReadTo root (i + 1) new
read-more flow root i d l records old new r next =
    let n = get_or root.writes i d in
    let e : Entry = read_beside old.entries n.id next.what next.stamps in
    let named : name_of e ≡ n = name-is n (name_of e) refl (next.named).of_node (tag-read next.what next.stamps ∙ (next.named).of_tag) in
    subst (IsReadTo root (i + 1)) (sym next.added) (record {
      names = name-more old.entries e ∙ ap (λ (m : NamedWrite). map name_of old.entries ++ m ∷ []) named ∙ ap (λ ns. ns ++ n ∷ []) r.names ∙ sym (take_more root.writes i d l);
      acknowledged = each-append (λ (x : Entry). x.acknowledged ≡ true) old.entries (e ∷ []) r.acknowledged (refl, tt);
      next = r.next;
      waiting = r.waiting;
      refused = r.refused;
      shared = r.shared;
    })

-- what is read is of its node
written-read : (flow : Dataflow) (r : Record) (stamps : Stamps) → IsSound r → IsRecordOfFlow flow r → IsWrittenOf flow (node_of_record r) (written_of r stamps)
written-read flow (tagged.State c) stamps sound of =
    let fronts = fronts_canonical flow c.node c.recorded.front c sound of.0 in
    record {
      front = canonical_of_sound (bounds_of flow c.node) c.recorded.front of.1 sound.front;
      notified = fronts.notified;
      delivered = fronts.delivered;
      discarded = fronts.discarded;
    }
written-read flow (tagged.Event node event) stamps sound of = of
written-read flow (tagged.Changes base c) stamps sound of =
    let fronts = changes_canonical flow c.node c.recorded.front c sound.1 of.0 in
    record {
      front = canonical_of_sound (bounds_of flow c.node) c.recorded.front of.1 (sound.1).front;
      notified = fronts.notified;
      delivered = fronts.delivered;
      discarded = fronts.discarded;
    }

pub written-more : (flow : Dataflow) (name : NamedWrite) (records : Option Records) (old new : KeepState) → IsReadNext flow name records old new
    → AllByRecursion (λ (e : Entry). IsWrittenOf flow e.node e.written) old.entries → AllByRecursion (λ (e : Entry). IsWrittenOf flow e.node e.written) new.entries
written-more flow name records old new next a =
    let P : Entry → Type 0 = λ e. IsWrittenOf flow e.node e.written in
    subst (λ (k : KeepState). AllByRecursion P k.entries) (sym next.added)
    (each-append P old.entries (read_beside old.entries name.id next.what next.stamps ∷ []) a (written-read flow next.what next.stamps next.sound (next.named).of_flow, tt))

pub nodes-more : (flow : Dataflow) (name : NamedWrite) (records : Option Records) (old new : KeepState) → name.node < length flow.nodes → IsReadNext flow name records old new
    → AllByRecursion (λ (e : Entry). e.node < length flow.nodes) old.entries → AllByRecursion (λ (e : Entry). e.node < length flow.nodes) new.entries
nodes-more flow name records old new l next a =
    let P : Entry → Type 0 = λ e. e.node < length flow.nodes in
    subst (λ (k : KeepState). AllByRecursion P k.entries) (sym next.added)
    (each-append P old.entries (read_beside old.entries name.id next.what next.stamps ∷ []) a (subst (λ n. n < length flow.nodes) (sym (next.named).of_node) l, tt))

parts-at : (ns : List NamedWrite) (i : ℕ) (d : NamedWrite) → i < length ns → ns ≡ take i ns ++ get_or ns i d ∷ drop (i + 1) ns
parts-at ns i d l = sym (take-append-drop i ns) ∙ at_drop_more (λ (rest : List NamedWrite). take i ns ++ rest) ns i d l

-- where the next one is damaged, the root names it
pub damage-told : (flow : Dataflow) (root : Root) (i : ℕ) (d : NamedWrite) → i < length root.writes → (es : List Entry) → map name_of es ≡ take i root.writes
    → (given : Option (ℕ × List ℕ)) (why : KeepFault) → TellsDamageOf {T = Unit {0}} flow es (get_or root.writes i d) given (Err why) → TellsDamage {T = KeepState} flow root given (Err why)
damage-told flow root i d l es read given (fault.Damaged id bytes) t = record {
  bytes = bytes.items;
  entries = es;
  name = get_or root.writes i d;
  later = drop (i + 1) root.writes;
  there = parts-at root.writes i d l ∙ ap (λ ns. ns ++ get_or root.writes i d ∷ drop (i + 1) root.writes) (sym read);
  of_id = t.0;
  gave = t.1;
  none = t.2;
}
damage-told flow root i d l es read given fault.StoreFault t = tt
damage-told flow root i d l es read given fault.NoMemory t = tt

-- no damage, where the state's records are there
pub none-damaged : (sys : System) (state : Machine) (records : Option Records) (why : KeepFault) → GivesNoDamage {T = Unit {0}} (Err why) → GivesKept sys state records (Err why)
none-damaged sys state records (fault.Damaged id bytes) g = absurd g
none-damaged sys state records fault.StoreFault g = tt
none-damaged sys state records fault.NoMemory g = tt

-- ---- a store that may cease to tell

pub there-told : (id : ℕ) (before after : Option Records) → StayIfTold before after → IsThereUnder id before → IsThereUnder id after
there-told id before after stay there = told-kept (λ records. IsThereUnder id records) before after stay (λ held is. absurd cc) there

-- what is told after a call was told before it
pub told-middle : (held : Records) (middle after : Option Records) → StayIfTold middle after → after ≡ Some held → middle ≡ Some held
told-middle held middle after stay is = sym (stay (subst (λ (r : Option Records). IsSome r) (sym is) refl)) ∙ is
