-- Writes that are named stay so where the bytes under their ids stay, and where every node is failed.
use Rattle.std.proofs.Common.{◌≡◌, ℕ, Bool, List, [], ◌∷◌, Option, Some, None, refl, sym, ap, subst, ◌∙◌}
use Rattle.std.specs.Prelude.{IsSome, is_some}
use Rattle.std.specs.FinMap as records
use Rattle.std.specs.List.{AllByRecursion, AllZip, Contains}
use Rattle.std.proofs.lemmas.Option.{same_Some}
use Rattle.fw_lemmas.proofs.Each.{each-map, each-one, each-there, each-weaker, each_of-map}
use Rattle.fw_flow.specs.Dataflow.{System}
use Rattle.fw_flow.specs.declared.choice.Recorded.{Recorded}
use Rattle.fw_frontier.specs.Front.{Front}
use Rattle.fw_model.specs.Machine.{Machine, Write, Written as WrittenBy, checkpoint, logged_event}
use Rattle.fw_keep.specs.declared.entry.Entry.{Entry}
use Rattle.fw_keep.specs.declared.entry.Written.{Written}
use Rattle.fw_keep.specs.declared.entry.Written.TheVariants as written
use Rattle.fw_keep.specs.Catalogue.{ids_of}
use Rattle.fw_keep.specs.Stored.{IsThereUnder, Records, bytes_under}
use Rattle.fw_regain.specs.Down.{down}
use Rattle.fw_root.specs.declared.root.NamedWrite.{NamedWrite}
use Rattle.fw_root.specs.declared.root.Root.{Root}
use Rattle.fw_stands.specs.Entries.{AreBasesOf}
use Rattle.fw_policy.specs.Entries.{IsRecorded}
use Rattle.fw_record.specs.declared.record.Record.{Record}
use Rattle.fw_record.specs.declared.record.Record.TheVariants as tagged
use Rattle.fw_stands.specs.Written.{AreEntriesOf, AreHeld, AreStored, HoldsWhatIsWritten, IsEntryOf, IsHeldAs, IsRecordFor}
use Rattle.fw_resume.specs.Named.{AreNamed, DownHasTheSameWrites, KeepsNamed, NamedWritesStay, named_ids}
use Rattle.fw_resume.specs.Names.{kept_writes}
use Rattle.fw_resume.proofs.DownKeptLaws.{kept-is_left}
use Rattle.fw_resume.proofs.KeptWriteLaws.{kept-of_down}
use Rattle.fw_resume.proofs.NamedLaws.{zip-each}

-- what holds of each id that is named holds of the id of each entry
each-named : (P : ℕ → Type 0) (root : Root) (es : List Entry) → ids_of es ≡ named_ids root → ((id : ℕ) → Contains (named_ids root) id → P id)
    → AllByRecursion (λ (e : Entry). P e.id) es
each-named P root es e k =
    each_of-map P (λ (x : Entry). x.id) es
    (subst (AllByRecursion P) (sym e) (each-weaker (Contains (named_ids root)) P (named_ids root) k (each-there (named_ids root))))

held-again : (sys : System) (state : Machine) (old new : Records) (es : List Entry) (ws : List Write)
    → AllByRecursion (λ (e : Entry). bytes_under e.id (Some new) ≡ bytes_under e.id (Some old)) es → AreHeld sys state old es ws → AreHeld sys state new es ws
held-again sys state old new [] [] same a = tt
held-again sys state old new [] (w ∷ ws) same a = absurd a
held-again sys state old new (e ∷ es) [] same a = absurd a
held-again sys state old new (e ∷ es) (w ∷ ws) same a =
    let h = a.0 in (
      record {
        what = h.what;
        of_entry = record { sound = h.of_entry.sound; of_entry = h.of_entry.of_entry; bytes = same.0 ∙ h.of_entry.bytes };
        of_write = h.of_write;
      },
      held-again sys state old new es ws same.1 a.1,
    )

stored-again : (sys : System) (state : Machine) (root : Root) (es : List Entry) (ws : List Write) (old new : Option Records) → ids_of es ≡ named_ids root → KeepsNamed root old new
    → AreStored sys state old es ws → AreStored sys state new es ws
stored-again sys state root es ws None None e k a = λ held is. absurd (cc)
stored-again sys state root es ws (Some held) None e k a = λ other is. absurd (cc)
stored-again sys state root es ws None (Some new) e k a = let b = k.told_before refl in absurd (cc)
stored-again sys state root es ws (Some old) (Some new) e k a = λ held is.
    subst (λ m. AreHeld sys state m es ws) (same_Some new held is)
    (held-again sys state old new es ws (each-named (λ id. bytes_under id (Some new) ≡ bytes_under id (Some old)) root es e (k.bytes refl)) (a old refl))

pub named_writes_stay : NamedWritesStay
named_writes_stay sys state root old new k named = record {
  entries = named.entries;
  ids = named.ids;
  stand = named.stand;
  bases = named.bases;
  stored = stored-again sys state root named.entries (kept_writes state) old new named.ids k named.stored;
}

-- where every node is failed the same writes are kept
kept-same : (sys : System) (state : Machine) → kept_writes (down sys state) ≡ kept_writes state
kept-same sys state = kept-is_left sys state ∙ kept-of_down sys state

zip-weaker : {A B : Type 0} (R S : A → B → Type 0) (xs : List A) (ys : List B) → ((x : A) (y : B) → R x y → S x y) → AllZip R xs ys → AllZip S xs ys
zip-weaker R S [] [] k a = tt
zip-weaker R S [] (y ∷ ys) k a = absurd a
zip-weaker R S (x ∷ xs) [] k a = absurd a
zip-weaker R S (x ∷ xs) (y ∷ ys) k a = (k x y a.0, zip-weaker R S xs ys k a.1)

-- What stands for a write goes by the history alone, whatever is failed and written besides.
module _ (sys : System) (state : Machine) (failed : List Bool) (writes : List Write) where
  abbrev other : Machine
  other = record state { failed = failed; writes = writes }

  recorded-same : (p : ℕ) (f : Front) (r : Recorded) → IsRecorded sys state p f r → IsRecorded sys other p f r
  recorded-same p f r i = record { front = i.front; of_flow = i.of_flow; delivered = i.delivered; notified = i.notified; discarded = i.discarded }

  holds-same : (p : ℕ) (what : Written) (of : WrittenBy) → HoldsWhatIsWritten sys state p what of → HoldsWhatIsWritten sys other p what of
  holds-same p (written.Checkpoint recorded stamps sent) (checkpoint f low) h = record { recorded = recorded-same p f recorded h.recorded; stamps = h.stamps; sent = h.sent }
  holds-same p (written.Checkpoint recorded stamps sent) (logged_event serial) h = absurd h
  holds-same p (written.Event event) (checkpoint f low) h = absurd h
  holds-same p (written.Event event) (logged_event serial) h = h

  entry-same : (e : Entry) (w : Write) → IsEntryOf sys state e w → IsEntryOf sys other e w
  entry-same e w i = record {
    node = i.node;
    acknowledged = i.acknowledged;
    holds = holds-same w.node e.written w.written i.holds;
    base = i.base;
    depth = i.depth;
  }

  record-same : (p : ℕ) (base : Option Front) (what : WrittenBy) (r : Record) → IsRecordFor sys state p base what r → IsRecordFor sys other p base what r
  record-same p None (checkpoint f low) (tagged.State c) i = record {
    node = i.node;
    recorded = recorded-same p f c.recorded i.recorded;
    in_each = i.in_each;
    out_each = i.out_each;
    table = i.table;
    sent = i.sent;
    sends = i.sends;
    sends_none = i.sends_none;
    log = i.log;
    log_edges = i.log_edges;
  }
  record-same p (Some g) (checkpoint f low) (tagged.Changes id c) i = record {
    node = i.node;
    recorded = recorded-same p f c.recorded i.recorded;
    in_each = i.in_each;
    out_each = i.out_each;
    table = i.table;
    sent = i.sent;
    sends = i.sends;
    sends_none = i.sends_none;
    log = i.log;
    log_edges = i.log_edges;
  }
  record-same p None (logged_event serial) (tagged.Event node event) i = i
  record-same p base what r i = absurd i

  held-same : (held : Records) (e : Entry) (w : Write) → IsHeldAs sys state held e w → IsHeldAs sys other held e w
  held-same held e w h = record { what = h.what; of_entry = h.of_entry; of_write = record-same w.node w.base w.written h.what h.of_write }

  named-same : (root : Root) (records : Option Records) → kept_writes other ≡ kept_writes state → AreNamed sys state root records → AreNamed sys other root records
  named-same root records e named = record {
    entries = named.entries;
    ids = named.ids;
    stand = zip-weaker (IsEntryOf sys state) (IsEntryOf sys other) named.entries (kept_writes other) entry-same
        (subst (AreEntriesOf sys state named.entries) (sym e) named.stand);
    bases = subst (AreBasesOf named.entries named.entries) (sym e) named.bases;
    stored = λ held told. zip-weaker (IsHeldAs sys state held) (IsHeldAs sys other held) named.entries (kept_writes other) (held-same held)
        (subst (AreHeld sys state held named.entries) (sym e) (named.stored held told));
  }

pub down_has_the_same_writes : DownHasTheSameWrites
down_has_the_same_writes sys state root records = (
  λ named. named-same sys state (down sys state).failed (down sys state).writes root records (kept-same sys state) named,
  λ named. named-same sys (down sys state) state.failed state.writes root records (sym (kept-same sys state)) named,
)

-- there is a record under each id that is named, where the store tells its records
pub all_under : (sys : System) (state : Machine) (root : Root) (all : Option Records) → AreNamed sys state root all
    → AllByRecursion (λ (w : NamedWrite). IsThereUnder w.id all) root.writes
all_under sys state root None named = each-one (λ (w : NamedWrite). IsThereUnder w.id None) root.writes (λ w held is. absurd (cc))
all_under sys state root (Some held) named =
    let P : ℕ → Type 0 = λ id. IsThereUnder id (Some held) in
    each_of-map P (λ (w : NamedWrite). w.id) root.writes
    (subst (AllByRecursion P) named.ids (each-map P (λ (e : Entry). e.id) named.entries
    (zip-each (IsHeldAs sys state held) (λ (w : Write). Unit {0}) (λ (e : Entry). P e.id) named.entries (kept_writes state)
    (λ e w h u other is. subst (λ m. IsSome (records.get m e.id)) (same_Some held other is) (ap is_some h.of_entry.bytes))
    (named.stored held refl) (each-one (λ (w : Write). Unit {0}) (kept_writes state) (λ w. tt)))))
