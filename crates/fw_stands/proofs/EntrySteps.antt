-- What has to become of entries and records in each step.
use Rattle.std.proofs.Common.{◌≡◌, ℕ, ◌≤◌, nat_le, ◌<◌, Bool, true, false, cond, not, ◌&&◌, ◌||◌, ◌==◌, List, [], ◌∷◌, ◌++◌, filter, refl, sym, ap, subst, ◌∙◌, inl, inr, Option, Some, None, option_map, arith}
use Rattle.std.specs.FinMap as map_of
use Rattle.std.specs.FinMap.{get-insert}
use Rattle.std.specs.Cmp.{nat_cmp_total}
use Rattle.std.specs.List.{AllByRecursion, AllZip, Contains, list_any}
use Rattle.std.proofs.lemmas.Bool.{cond_both, eqb-true, eq-eqb, cases_Bool, or_parts, false_from_ne_true}
use Rattle.std.proofs.lemmas.List.{append-nil}
use Rattle.std.proofs.lemmas.List.Elements.{filter-append}
use Rattle.std.proofs.lemmas.Bool.Decides.{nat_tests}
use Rattle.fw_lemmas.proofs.Bools.{two_ways}
use Rattle.fw_lemmas.proofs.Each.{each-weaker, each-one, each-prefix, each-suffix, each-map, each_of-map, each-kept, each-there}
use Rattle.fw_lemmas.proofs.Filters.{filter-in, filter-out, filter-all, filter-none, filter-true, any-filter}
use Rattle.fw_lemmas.proofs.SideBySide.{zip-weaker, zip-right, zip-both, zip-append}
use Rattle.fw_lemmas.proofs.Orderings.{equal_by_cmp}
use Rattle.fw_time.specs.Stamp.{in_domain}
use Rattle.fw_frontier.specs.Front.{Front, inside, is_within, same_front}
use Rattle.fw_flow.specs.declared.choice.Choice.{Choice}
use Rattle.fw_flow.specs.declared.choice.Cut.{Cut}
use Rattle.fw_flow.specs.declared.choice.Cut.TheVariants.{Present, At}
use Rattle.fw_flow.specs.declared.choice.Stamps.{Stamps}
use Rattle.fw_flow.specs.declared.event.Event.{Event as Happened}
use Rattle.fw_flow.specs.Kind.{Kind}
use Rattle.fw_flow.specs.declared.kind.Kind.TheVariants.{Input}
use Rattle.fw_flow.specs.declared.kind.Policy.{Policy}
use Rattle.fw_flow.specs.declared.kind.Policy.TheVariants as policy
use Rattle.fw_flow.specs.declared.step.Step.{Step}
use Rattle.fw_flow.specs.declared.step.Step.TheVariants.{Persist, Fail, Recover, Inject, Progress as ProgressStep}
use Rattle.fw_flow.specs.Dataflow.{System, Dataflow, kind_of, policy_of, bounds_of, node_ids, is_one_of, is_input_kind}
use Rattle.fw_flow.specs.NodeFunction.{event_node, event_stamp}
use Rattle.fw_flow.specs.WellFormed.{IsWellFormedSystem, IsPolicyAllowed}
use Rattle.fw_model.specs.Choice.{kept, is_counted, cut_of, kept_of, filtered_history}
use Rattle.fw_model.specs.Covers.{set_of}
use Rattle.fw_model.specs.Machine.{Machine, SerialEvent, Write, Stage, in_flight, acknowledged, collected, checkpoint, logged_event, events, front_of}
use Rattle.fw_model.specs.Machine.{Written as WrittenBy}
use Rattle.fw_model.specs.Reached.{IsReached}
use Rattle.fw_model.specs.Steps.{Effect, cuts, LeadsTo, with_event, write_of_event, eager_writes, is_eager, checkpoint_of, is_in_flight, AcknowledgesOldest, has_serial, is_kept_write, silent}
use Rattle.fw_model.specs.Writes.{is_collected, not_collected}
use Rattle.fw_model.proofs.AskedLaws.{AreSerialsBelow, serials-each, reached-all}
use Rattle.fw_model.proofs.DomainLaws.{has_epochs}
use Rattle.fw_model.proofs.LegalLaws.{legal-in_domain}
use Rattle.fw_model.proofs.RestoringLaws.{full-declared}
use Rattle.fw_record.specs.declared.record.Event.{Event}
use Rattle.fw_record.specs.declared.record.Record.{Record}
use Rattle.fw_record.specs.declared.record.Record.TheVariants as tagged
use Rattle.fw_record.specs.Sound.{IsSound}
use Rattle.fw_record.specs.Spelling.{spelling}
use Rattle.fw_keep.specs.declared.entry.Entry.{Entry}
use Rattle.fw_keep.specs.declared.entry.Written.{Written}
use Rattle.fw_keep.specs.declared.entry.Written.TheVariants as written
use Rattle.fw_keep.specs.Catalogue.{oldest, persisted, ids_of}
use Rattle.fw_record.specs.Event.{stamp_of_event}
use Rattle.fw_keep.specs.Entry.{is_withdrawn, asked, asked_beside, base_of_record, depth_on, node_of_record, written_of, is_in_flight_of, lies_within, is_beyond, IsRecordOfEntry}
use Rattle.fw_keep.specs.Stored.{Records, KeepsBytes}
use Rattle.fw_record.proofs.RecordLaws.{one_spelling_lem}
use Rattle.fw_stands.specs.Written.{told_of, IsToldAs, HasEventTold, HoldsWhatIsWritten, HasBaseOf, IsEntryOf, AreEntriesOf, uncollected, IsRecordFor, IsHeldAs, AreHeld, AreStored}
use Rattle.fw_stands.specs.Entries.{StaysWritten, HasStamps, entries_of_event, is_lost_of, without_lost_of}
use Rattle.fw_stands.proofs.SideBySide.{zip-left, zip-gone}
use Rattle.fw_policy.proofs.ReadLaws.{told-stamp}
use Rattle.fw_stands.proofs.WrittenStays.{told-below, what_is_written_stays}

-- ---- what stands for a write that stays

pub entry-stays : (sys : System) (state next : Machine) (e : Entry) (x : Write) → StaysWritten sys state next x.node x.base x.written → IsEntryOf sys state e x → IsEntryOf sys next e x
entry-stays sys state next e x a i =
    record { node = i.node; acknowledged = i.acknowledged; holds = a.held e.written i.holds; base = i.base; depth = i.depth }

pub held-stays : (sys : System) (state next : Machine) (held : Records) (e : Entry) (x : Write) → StaysWritten sys state next x.node x.base x.written
    → IsHeldAs sys state held e x → IsHeldAs sys next held e x
held-stays sys state next held e x a h = record { what = h.what; of_entry = h.of_entry; of_write = a.spelled h.what h.of_write }

abbrev pub AllStay : System → Machine → Machine → List Write → Type 0
AllStay sys state next writes = AllByRecursion (λ (x : Write). StaysWritten sys state next x.node x.base x.written) writes

pub entries-stay : (sys : System) (state next : Machine) (es : List Entry) (xs : List Write) → AllStay sys state next xs → AreEntriesOf sys state es xs → AreEntriesOf sys next es xs
entries-stay sys state next es xs =
    zip-right (λ (x : Write). StaysWritten sys state next x.node x.base x.written) (IsEntryOf sys state) (IsEntryOf sys next) es xs (λ e x a i. entry-stays sys state next e x a i)

pub records-stay : (sys : System) (state next : Machine) (all : Option Records) (es : List Entry) (xs : List Write) → AllStay sys state next xs → AreStored sys state all es xs
    → AreStored sys next all es xs
records-stay sys state next all es xs stays a = λ held f.
    zip-right (λ (x : Write). StaysWritten sys state next x.node x.base x.written) (λ (e : Entry) (x : Write). IsHeldAs sys state held e x)
    (λ (e : Entry) (x : Write). IsHeldAs sys next held e x) es xs (λ e x b i. held-stays sys state next held e x b i) stays (a held f)

-- the uncollected writes of the next state
pub left-stay : (sys : System) → IsWellFormedSystem sys → (state : Machine) → IsReached sys state → (step : Step) (next : Machine) (effect : Effect) → LeadsTo sys state step next effect
    → AllStay sys state next (uncollected next)
left-stay sys w state r step next effect t =
    each-kept (λ (x : Write). StaysWritten sys state next x.node x.base x.written) not_collected next.writes (what_is_written_stays sys w state r step next effect t)

-- ---- one more write

of-record : (sys : System) (state : Machine) (p : ℕ) (base : Option Front) (what : WrittenBy) (r : Record) (stamps : Stamps) → IsRecordFor sys state p base what r
    → HasStamps sys state p what stamps
    → (node_of_record r ≡ p) × HoldsWhatIsWritten sys state p (written_of r stamps) what × HasBaseOf (base_of_record r) base
of-record sys state p None (checkpoint f low) (tagged.State c) stamps h s = (h.node, record { recorded = h.recorded; stamps = s; sent = h.sent }, tt)
of-record sys state p None (checkpoint f low) (tagged.Event q event) stamps h s = absurd h
of-record sys state p None (checkpoint f low) (tagged.Changes id c) stamps h s = absurd h
of-record sys state p None (logged_event n) (tagged.State c) stamps h s = absurd h
of-record sys state p None (logged_event n) (tagged.Event q event) stamps h s = (h.0, h.1, tt)
of-record sys state p None (logged_event n) (tagged.Changes id c) stamps h s = absurd h
of-record sys state p (Some g) (checkpoint f low) (tagged.State c) stamps h s = absurd h
of-record sys state p (Some g) (checkpoint f low) (tagged.Event q event) stamps h s = absurd h
of-record sys state p (Some g) (checkpoint f low) (tagged.Changes id c) stamps h s = (h.node, record { recorded = h.recorded; stamps = s; sent = h.sent }, tt)
of-record sys state p (Some g) (logged_event n) (tagged.State c) stamps h s = absurd h
of-record sys state p (Some g) (logged_event n) (tagged.Event q event) stamps h s = absurd h
of-record sys state p (Some g) (logged_event n) (tagged.Changes id c) stamps h s = absurd h

-- the entry that is asked beside others by the record of a write in flight is one of the write, if it stands on as many others
pub asked_entry_is_of_write : (sys : System) (state : Machine) (write : Write) → write.stage ≡ in_flight
    → (entries : List Entry) (id : ℕ) (r : Record) (stamps : Stamps) → depth_on (base_of_record r) entries ≡ write.depth
    → IsRecordFor sys state write.node write.base write.written r → HasStamps sys state write.node write.written stamps
    → IsEntryOf sys state (asked_beside entries id r stamps) write
asked_entry_is_of_write sys state x flies es id r stamps deep h s =
    let o = of-record sys state x.node x.base x.written r stamps h s in
    record { node = o.0; acknowledged = ap (is_counted kept) (sym flies); holds = o.1; base = o.2; depth = deep }

-- the bytes of each entry stay
bytes-each : (es : List Entry) (old new : Records) → KeepsBytes es (Some old) (Some new) → AllByRecursion (λ (e : Entry). map_of.get new e.id ≡ map_of.get old e.id) es
bytes-each es old new k = each-weaker (Contains es) (λ (e : Entry). map_of.get new e.id ≡ map_of.get old e.id) es (λ e c. k e c) (each-there es)

held-again : (sys : System) (state : Machine) (es : List Entry) (xs : List Write) (old new : Records) → KeepsBytes es (Some old) (Some new) → AreHeld sys state old es xs
    → AreHeld sys state new es xs
held-again sys state es xs old new k =
    zip-left (λ (e : Entry). map_of.get new e.id ≡ map_of.get old e.id) (λ (e : Entry) (x : Write). IsHeldAs sys state old e x)
    (λ (e : Entry) (x : Write). IsHeldAs sys state new e x) es xs
    (λ e x b h.
    let o = h.of_entry in
    record { what = h.what; of_entry = record { sound = o.sound; of_entry = o.of_entry; bytes = b ∙ o.bytes }; of_write = h.of_write }) (bytes-each es old new k)

-- where the bytes of the entries stay, their records are stored still
pub kept_bytes_are_stored : (sys : System) (state : Machine) (entries : List Entry) (writes : List Write)
    → (old new : Option Records) (change : Records → Records) → new ≡ option_map change old → KeepsBytes entries old new
    → AreStored sys state old entries writes → AreStored sys state new entries writes
kept_bytes_are_stored sys state es xs old new change is k a = λ held f. by old is k a held f
  where
    by : (old : Option Records) → new ≡ option_map change old → KeepsBytes es old new → AreStored sys state old es xs → (held : Records) → new ≡ Some held
        → AreHeld sys state held es xs
    by None is k a held f = let c : None ≡ Some held = sym is ∙ f in absurd cc
    by (Some first) is k a held f = held-again sys state es xs first held (subst (KeepsBytes es (Some first)) f k) (a first refl)

-- what was put is under its id
under-put : (old : Option Records) (id : ℕ) (bytes : List ℕ) (new : Option Records) (held : Records) → new ≡ option_map (λ (m : Records). map_of.insert m id bytes) old → new ≡ Some held
    → map_of.get held id ≡ Some bytes
under-put None id bytes new held is f = let c : None ≡ Some held = sym is ∙ f in absurd cc
under-put (Some first) id bytes new held is f =
    let e : map_of.insert first id bytes ≡ held = let c : Some (map_of.insert first id bytes) ≡ Some held = sym is ∙ f in cc in
    ap (λ (m : Records). map_of.get m id) (sym e) ∙ get-insert nat_cmp_total first id bytes id
    ∙ ap (λ b. cond b (Some bytes) (map_of.get first id)) (equal_by_cmp id id ∙ eq-eqb id id refl)

-- where the record of a write is put under an id, and the bytes of the entries before it stay, it is stored with theirs
pub put_record_is_stored : (sys : System) (state : Machine) (entries : List Entry) (writes : List Write) (write : Write)
    → (id : ℕ) (r : Record) (stamps : Stamps)
    → (old new : Option Records) → AreStored sys state old entries writes → KeepsBytes entries old new
    → new ≡ option_map (λ held. map_of.insert held id (spelling r)) old → IsSound r → IsRecordFor sys state write.node write.base write.written r
    → IsRecordOfEntry sys.flow (asked_beside entries id r stamps) r → AreStored sys state new (entries ++ asked_beside entries id r stamps ∷ []) (writes ++ write ∷ [])
put_record_is_stored sys state es xs x id r stamps old new a k is sound of fits = λ held f.
    zip-append (λ (e : Entry) (y : Write). IsHeldAs sys state held e y) es xs (asked_beside es id r stamps ∷ []) (x ∷ [])
    (kept_bytes_are_stored sys state es xs old new (λ (m : Records). map_of.insert m id (spelling r)) is k a held f)
    (record { what = r; of_entry = record { sound = sound; of_entry = fits; bytes = under-put old id (spelling r) new held is f }; of_write = of }, tt)

-- a record that is read under the id of an entry is that of its write
pub read_records_are_of_writes : (sys : System) (state : Machine) (held : Records) (entries : List Entry) (writes : List Write)
    → AreHeld sys state held entries writes
    → AllZip (λ (entry : Entry) (write : Write). (r : Record) → IsSound r → map_of.get held entry.id ≡ Some (spelling r)
    → IsRecordFor sys state write.node write.base write.written r) entries writes
read_records_are_of_writes sys state held es xs =
    zip-weaker (IsHeldAs sys state held)
    (λ (e : Entry) (x : Write). (r : Record) → IsSound r → map_of.get held e.id ≡ Some (spelling r) → IsRecordFor sys state x.node x.base x.written r) es xs
    (λ e x h r sound read.
    let o = h.of_entry in
    let same : spelling h.what ≡ spelling r = let c : Some (spelling h.what) ≡ Some (spelling r) = sym o.bytes ∙ read in cc in
    subst (IsRecordFor sys state x.node x.base x.written) (one_spelling_lem h.what r o.sound sound same) h.of_write)

-- ---- the writes that a step asks

flying-left : (x : Write) → x.stage ≡ in_flight → not_collected x ≡ true
flying-left x e = ap (λ far. not (is_collected far)) e

asked-left : (xs more : List Write) → AllByRecursion (λ (x : Write). x.stage ≡ in_flight) more → filter not_collected (xs ++ more) ≡ filter not_collected xs ++ more
asked-left xs more fly =
    filter-append not_collected xs more
    ∙ ap (λ ys. filter not_collected xs ++ ys) (filter-all not_collected more (each-weaker (λ (x : Write). x.stage ≡ in_flight) (λ x. not_collected x ≡ true) more flying-left fly))

-- the writes that are left, where some are asked behind
pub left-asked : (next : Machine) (xs more : List Write) → next.writes ≡ xs ++ more → AllByRecursion (λ (x : Write). x.stage ≡ in_flight) more
    → uncollected next ≡ filter not_collected xs ++ more
left-asked next xs more e fly = ap (filter not_collected) e ∙ asked-left xs more fly

-- what was there and what is asked stays
first-stay : (sys : System) (state next : Machine) (xs more : List Write) → uncollected next ≡ xs ++ more → AllStay sys state next (uncollected next) → AllStay sys state next xs
first-stay sys state next xs more e a = each-prefix (λ (x : Write). StaysWritten sys state next x.node x.base x.written) xs more (subst (AllStay sys state next) e a)

later-stay : (sys : System) (state next : Machine) (xs more : List Write) → uncollected next ≡ xs ++ more → AllStay sys state next (uncollected next) → AllStay sys state next more
later-stay sys state next xs more e a = each-suffix (λ (x : Write). StaysWritten sys state next x.node x.base x.written) xs more (subst (AllStay sys state next) e a)

-- a step that asks writes adds the entries of them, which stand for what is written in the state before
pub entries_after_asking : (sys : System) → IsWellFormedSystem sys → (state : Machine) → IsReached sys state
    → (step : Step) (next : Machine) (effect : Effect) → LeadsTo sys state step next effect
    → (writes : List Write) → next.writes ≡ state.writes ++ writes → AllByRecursion (λ (write : Write). write.stage ≡ in_flight) writes
    → (entries more : List Entry) → AreEntriesOf sys state entries (uncollected state) → AreEntriesOf sys state more writes
    → AreEntriesOf sys next (entries ++ more) (uncollected next)
entries_after_asking sys w state r step next effect t asks e fly es more a b =
    let is = left-asked next state.writes asks e fly in
    let stays = left-stay sys w state r step next effect t in
    subst (AreEntriesOf sys next (es ++ more)) (sym is)
    (zip-append (IsEntryOf sys next) es (uncollected state) more asks
    (entries-stay sys state next es (uncollected state) (first-stay sys state next (uncollected state) asks is stays) a)
    (entries-stay sys state next more asks (later-stay sys state next (uncollected state) asks is stays) b))

-- and the records of them are stored with the others
pub records_after_asking : (sys : System) → IsWellFormedSystem sys → (state : Machine) → IsReached sys state
    → (step : Step) (next : Machine) (effect : Effect) → LeadsTo sys state step next effect
    → (writes : List Write) → next.writes ≡ state.writes ++ writes → AllByRecursion (λ (write : Write). write.stage ≡ in_flight) writes
    → (entries more : List Entry) (records : Option Records) → AreStored sys state records (entries ++ more) (uncollected state ++ writes)
    → AreStored sys next records (entries ++ more) (uncollected next)
records_after_asking sys w state r step next effect t asks e fly es more all a =
    let is = left-asked next state.writes asks e fly in
    records-stay sys state next all (es ++ more) (uncollected next) (left-stay sys w state r step next effect t)
    (subst (AreStored sys state all (es ++ more)) (sym is) a)

-- eager progress asks a checkpoint of each eager node that grows, at what is settled then
pub progress_asks : (sys : System) (state next : Machine) (effect : Effect) → LeadsTo sys state ProgressStep next effect
    → let writes = eager_writes sys state next.settled (node_ids sys.flow) in
    (next.writes ≡ state.writes ++ writes) × AllByRecursion (λ (write : Write). write.stage ≡ in_flight) writes
progress_asks sys state next effect t =
    let settled = ap (λ (m : Machine). m.settled) t.3 in
    let ask : List Front → List Write = λ fronts. eager_writes sys state fronts (node_ids sys.flow) in (
      ap (λ (m : Machine). m.writes) t.3 ∙ ap (λ fronts. state.writes ++ ask fronts) (sym settled),
      each-map (λ (x : Write). x.stage ≡ in_flight) (λ p. checkpoint_of state p (front_of next.settled p))
          (filter (λ p. is_eager (policy_of sys.flow p) && not (same_front (front_of state.settled p) (front_of next.settled p))) (node_ids sys.flow))
          (each-one (λ p. in_flight ≡ in_flight) _ (λ p. refl)),
    )

-- ---- a step that leaves the writes

-- entries stand for the writes after a step that leaves the writes as they are
pub entries_after_step : (sys : System) → IsWellFormedSystem sys → (state : Machine) → IsReached sys state
    → (step : Step) (next : Machine) (effect : Effect) → LeadsTo sys state step next effect → next.writes ≡ state.writes
    → (entries : List Entry) → AreEntriesOf sys state entries (uncollected state) → AreEntriesOf sys next entries (uncollected next)
entries_after_step sys w state r step next effect t e es a =
    entries-stay sys state next es (uncollected next) (left-stay sys w state r step next effect t)
    (subst (AreEntriesOf sys state es) (sym (ap (filter not_collected) e)) a)

-- and so are their records stored
pub records_after_step : (sys : System) → IsWellFormedSystem sys → (state : Machine) → IsReached sys state
    → (step : Step) (next : Machine) (effect : Effect) → LeadsTo sys state step next effect → next.writes ≡ state.writes
    → (entries : List Entry) (records : Option Records) → AreStored sys state records entries (uncollected state)
    → AreStored sys next records entries (uncollected next)
records_after_step sys w state r step next effect t e es all a =
    records-stay sys state next all es (uncollected next) (left-stay sys w state r step next effect t)
    (subst (AreStored sys state all es) (sym (ap (filter not_collected) e)) a)

-- ---- an event

pub event-flies : (asks : Policy) (p serial : ℕ) → AllByRecursion (λ (x : Write). x.stage ≡ in_flight) (write_of_event asks p serial)
event-flies policy.Full p serial = (refl, tt)
event-flies asks p serial = tt

-- the event of now is told of
told-now : (sys : System) (state next : Machine) (v : Happened) (event : Event) → next ≡ with_event sys state v → told_of v ≡ Some event
    → HasEventTold sys.flow (event_node sys.flow v) state.next event next.history
told-now sys state next v event e told =
    subst (HasEventTold sys.flow (event_node sys.flow v) state.next event) (sym (ap (λ (m : Machine). m.history) e))
    (inl (record { same_serial = refl; node = refl; told = told }))

event-entries : (sys : System) (next : Machine) (p serial : ℕ) (event : Event) → HasEventTold sys.flow p serial event next.history → (asks : Policy) (id : ℕ) (stamps : Stamps)
    → AreEntriesOf sys next (entries_of_event asks p id event stamps) (write_of_event asks p serial)
event-entries sys next p serial event told policy.Full id stamps = (record { node = refl; acknowledged = refl; holds = told; base = tt; depth = refl }, tt)
event-entries sys next p serial event told policy.None id stamps = tt
event-entries sys next p serial event told policy.Lazy id stamps = tt
event-entries sys next p serial event told policy.Logged id stamps = tt
event-entries sys next p serial event told policy.Eager id stamps = tt

-- an event adds its entry, where its node logs each event, and else none
pub entries_after_event : (sys : System) → IsWellFormedSystem sys → (state : Machine) → IsReached sys state
    → (step : Step) (next : Machine) (effect : Effect) → LeadsTo sys state step next effect
    → (v : Happened) → next ≡ with_event sys state v → (event : Event) → told_of v ≡ Some event → (id : ℕ) (stamps : Stamps)
    → (entries : List Entry) → AreEntriesOf sys state entries (uncollected state)
    → let p = event_node sys.flow v in
    AreEntriesOf sys next (entries ++ entries_of_event (policy_of sys.flow p) p id event stamps) (uncollected next)
entries_after_event sys w state r step next effect t v e event told id stamps es a =
    let p = event_node sys.flow v in
    let asks = policy_of sys.flow p in
    let more = write_of_event asks p state.next in
    let new = entries_of_event asks p id event stamps in
    let is = left-asked next state.writes more (ap (λ (m : Machine). m.writes) e) (event-flies asks p state.next) in
    let stays = left-stay sys w state r step next effect t in
    subst (AreEntriesOf sys next (es ++ new)) (sym is)
    (zip-append (IsEntryOf sys next) es (uncollected state) new more
    (entries-stay sys state next es (uncollected state) (first-stay sys state next (uncollected state) more is stays) a)
    (event-entries sys next p state.next event (told-now sys state next v event e told) asks id stamps))

write-full : (asks : Policy) (p serial : ℕ) → asks ≡ policy.Full → write_of_event asks p serial
    ≡ record { node = p; written = logged_event serial; base = None; depth = 0; stage = in_flight } ∷ []
write-full policy.Full p serial e = refl
write-full asks p serial e = absurd cc

write-none : (asks : Policy) (p serial : ℕ) → (asks ≡ policy.Full → ⊥) → write_of_event asks p serial ≡ []
write-none policy.Full p serial n = absurd (n refl)
write-none asks p serial n = refl

-- its record is stored where it is put under the id, and the others are still
pub records_after_logged_event : (sys : System) → IsWellFormedSystem sys → (state : Machine) → IsReached sys state
    → (step : Step) (next : Machine) (effect : Effect) → LeadsTo sys state step next effect
    → (v : Happened) → next ≡ with_event sys state v → policy_of sys.flow (event_node sys.flow v) ≡ policy.Full
    → (event : Event) → told_of v ≡ Some event → (id : ℕ) (stamps : Stamps) → IsSound (tagged.Event (event_node sys.flow v) event)
    → (entries : List Entry) (old new : Option Records) → AreStored sys state old entries (uncollected state)
    → new ≡ option_map (λ held. map_of.insert held id (spelling (tagged.Event (event_node sys.flow v) event))) old → KeepsBytes entries old new
    → AreStored sys next new (entries ++ asked id (tagged.Event (event_node sys.flow v) event) stamps ∷ []) (uncollected next)
records_after_logged_event sys w state r step next effect t v e full event told id stamps sound es old new a is k =
    let p = event_node sys.flow v in
    let x : Write = record { node = p; written = logged_event state.next; base = None; depth = 0; stage = in_flight } in
    let what = tagged.Event p event in
    let left = left-asked next state.writes (x ∷ [])
    (ap (λ (m : Machine). m.writes) e ∙ ap (λ xs. state.writes ++ xs) (write-full (policy_of sys.flow p) p state.next full)) (refl, tt) in
    let stays = left-stay sys w state r step next effect t in
    subst (AreStored sys next new (es ++ asked id what stamps ∷ [])) (sym left)
    (put_record_is_stored sys next es (uncollected state) x id what stamps old new
    (records-stay sys state next old es (uncollected state) (first-stay sys state next (uncollected state) (x ∷ []) left stays) a) k is sound
    (refl, told-now sys state next v event e told) refl)

-- the records are stored still where the node of the event does not log it
pub records_after_other_event : (sys : System) → IsWellFormedSystem sys → (state : Machine) → IsReached sys state
    → (step : Step) (next : Machine) (effect : Effect) → LeadsTo sys state step next effect
    → (v : Happened) → next ≡ with_event sys state v → (policy_of sys.flow (event_node sys.flow v) ≡ policy.Full → ⊥)
    → (entries : List Entry) (records : Option Records) → AreStored sys state records entries (uncollected state)
    → AreStored sys next records entries (uncollected next)
records_after_other_event sys w state r step next effect t v e other es all a =
    let p = event_node sys.flow v in
    records_after_step sys w state r step next effect t
    (ap (λ (m : Machine). m.writes) e ∙ ap (λ xs. state.writes ++ xs) (write-none (policy_of sys.flow p) p state.next other) ∙ append-nil state.writes) es all a

input-none : (kind : Kind) (asks : Policy) → IsPolicyAllowed kind asks → is_input_kind kind ≡ true → asks ≡ policy.None
input-none Input asks a i = a
input-none kind asks a i = absurd cc

-- an input does not log its events
pub injections_are_not_logged : (sys : System) → IsWellFormedSystem sys → (state : Machine) (s : ℕ) (next : Machine) (effect : Effect)
    → LeadsTo sys state (Inject s) next effect → next.writes ≡ state.writes
injections_are_not_logged sys w state s next effect t =
    ap (λ (m : Machine). m.writes) t.3
    ∙ ap (λ xs. state.writes ++ xs) (write-none (policy_of sys.flow s) s state.next
    (λ full. let none = input-none (kind_of sys.flow s) (policy_of sys.flow s) (w.flow.policies s (full-declared sys.flow s full)) (t.1).input in
    let c : policy.None ≡ policy.Full = sym none ∙ full in cc))
    ∙ append-nil state.writes

-- ---- an acknowledgement

-- in a relation an entry is acknowledged where its write counts
abbrev TellsAcknowledged : (Entry → Write → Type 0) → Type 0
TellsAcknowledged R = (e : Entry) (x : Write) → R e x → e.acknowledged ≡ is_counted kept x.stage

-- and both may be acknowledged
abbrev MayBeAcknowledged : (Entry → Write → Type 0) → Type 0
MayBeAcknowledged R = (e : Entry) (x : Write) → R e x → R (record e { acknowledged = true }) (record x { stage = acknowledged })

flying-is : (far : Stage) → is_in_flight far ≡ true → far ≡ in_flight
flying-is in_flight k = refl
flying-is acknowledged k = absurd cc
flying-is collected k = absurd cc

persist-here : (R : Entry → Write → Type 0) → TellsAcknowledged R → MayBeAcknowledged R → (x : Write) (xs : List Write) → x.stage ≡ in_flight → (es : List Entry)
    → AllZip R es (x ∷ xs) → AllZip R (persisted es) (record x { stage = acknowledged } ∷ xs)
persist-here R tells may x xs fly [] r = absurd r
persist-here R tells may x xs fly (e ∷ es) r =
    subst (λ b. AllZip R (cond b (e ∷ persisted es) (record e { acknowledged = true } ∷ es)) (record x { stage = acknowledged } ∷ xs))
    (sym (tells e x r.0 ∙ ap (is_counted kept) fly)) (may e x r.0, r.1)

persist-later : (R : Entry → Write → Type 0) → TellsAcknowledged R → (x : Write) (xs ys : List Write) → x.stage ≡ acknowledged
    → ((es : List Entry) → AllZip R es xs → AllZip R (persisted es) ys) → (es : List Entry) → AllZip R es (x ∷ xs) → AllZip R (persisted es) (x ∷ ys)
persist-later R tells x xs ys at rest [] r = absurd r
persist-later R tells x xs ys at rest (e ∷ es) r =
    subst (λ b. AllZip R (cond b (e ∷ persisted es) (record e { acknowledged = true } ∷ es)) (x ∷ ys))
    (sym (tells e x r.0 ∙ ap (is_counted kept) at)) (r.0, rest es r.1)

persist-zip : (R : Entry → Write → Type 0) → TellsAcknowledged R → MayBeAcknowledged R → (earlier : List Write) (o : Write) (later : List Write)
    → list_any (λ write. is_in_flight write.stage) earlier ≡ false → is_in_flight o.stage ≡ true → (es : List Entry)
    → AllZip R es (filter not_collected (earlier ++ o ∷ later)) → AllZip R (persisted es) (filter not_collected (earlier ++ record o { stage = acknowledged } ∷ later))
persist-zip R tells may [] o later none fly es r =
    let at = flying-is o.stage fly in
    persist-here R tells may o (filter not_collected later) at es (subst (AllZip R es) (filter-in not_collected o later (flying-left o at)) r)
persist-zip R tells may (x ∷ xs) o later none fly es r =
    let parts = or_parts (is_in_flight x.stage) (list_any (λ write. is_in_flight write.stage) xs) none in
    by x.stage refl parts.0 (λ fs s. persist-zip R tells may xs o later parts.1 fly fs s)
  where
    before : List Write
    before = xs ++ o ∷ later

    after : List Write
    after = xs ++ record o { stage = acknowledged } ∷ later

    by : (far : Stage) → x.stage ≡ far → is_in_flight x.stage ≡ false
        → ((fs : List Entry) → AllZip R fs (filter not_collected before) → AllZip R (persisted fs) (filter not_collected after))
        → AllZip R (persisted es) (filter not_collected (x ∷ after))
    by in_flight e n rest = absurd (two_ways (is_in_flight x.stage) (ap is_in_flight e) n)
    by acknowledged e n rest =
        let there : not_collected x ≡ true = ap (λ far. not (is_collected far)) e in
        subst (AllZip R (persisted es)) (sym (filter-in not_collected x after there))
        (persist-later R tells x (filter not_collected before) (filter not_collected after) e rest es (subst (AllZip R es) (filter-in not_collected x before there) r))
    by collected e n rest =
        let gone : not_collected x ≡ false = ap (λ far. not (is_collected far)) e in
        subst (AllZip R (persisted es)) (sym (filter-out not_collected x after gone)) (rest es (subst (AllZip R es) (filter-out not_collected x before gone) r))

pub persist-left : (R : Entry → Write → Type 0) → TellsAcknowledged R → MayBeAcknowledged R → (writes next : List Write) → AcknowledgesOldest writes next → (es : List Entry)
    → AllZip R es (filter not_collected writes) → AllZip R (persisted es) (filter not_collected next)
persist-left R tells may writes next k es r =
    subst (λ xs. AllZip R (persisted es) (filter not_collected xs)) (sym k.after)
    (persist-zip R tells may k.earlier k.oldest k.later k.none_earlier k.in_flight es (subst (λ xs. AllZip R es (filter not_collected xs)) k.before r))

-- an entry and the record of its write
abbrev pub IsKeptAs : System → Machine → Records → Entry → Write → Type 0
IsKeptAs sys state held e x = IsEntryOf sys state e x × IsHeldAs sys state held e x

pub acknowledged-too : (sys : System) (state : Machine) (e : Entry) (x : Write) → IsEntryOf sys state e x
    → IsEntryOf sys state (record e { acknowledged = true }) (record x { stage = acknowledged })
acknowledged-too sys state e x i = record { node = i.node; acknowledged = refl; holds = i.holds; base = i.base; depth = i.depth }

held-too : (sys : System) (state : Machine) (held : Records) (e : Entry) (x : Write) → IsHeldAs sys state held e x
    → IsHeldAs sys state held (record e { acknowledged = true }) (record x { stage = acknowledged })
held-too sys state held e x h =
    let o = h.of_entry in
    record { what = h.what; of_entry = record { sound = o.sound; of_entry = o.of_entry; bytes = o.bytes }; of_write = h.of_write }

-- the oldest entry in flight is acknowledged
pub entries_after_persist : (sys : System) → IsWellFormedSystem sys → (state : Machine) → IsReached sys state
    → (next : Machine) (effect : Effect) → LeadsTo sys state Persist next effect
    → (entries : List Entry) → AreEntriesOf sys state entries (uncollected state) → AreEntriesOf sys next (persisted entries) (uncollected next)
entries_after_persist sys w state r next effect t es a =
    entries-stay sys state next (persisted es) (uncollected next) (left-stay sys w state r Persist next effect t)
    (subst (λ (m : Machine). AreEntriesOf sys state (persisted es) (uncollected m)) (sym t.2)
    (persist-left (IsEntryOf sys state) (λ e x i. i.acknowledged) (acknowledged-too sys state) state.writes t.0 t.1 es a))

-- and the records are stored under the ids that they had
pub records_after_persist : (sys : System) → IsWellFormedSystem sys → (state : Machine) → IsReached sys state
    → (next : Machine) (effect : Effect) → LeadsTo sys state Persist next effect
    → (entries : List Entry) → AreEntriesOf sys state entries (uncollected state)
    → (records : Option Records) → AreStored sys state records entries (uncollected state)
    → AreStored sys next records (persisted entries) (uncollected next)
records_after_persist sys w state r next effect t es a all s =
    records-stay sys state next all (persisted es) (uncollected next) (left-stay sys w state r Persist next effect t)
    (λ held f.
    let R : Entry → Write → Type 0 = IsKeptAs sys state held in
    let H : Entry → Write → Type 0 = λ e x. IsHeldAs sys state held e x in
    subst (λ (m : Machine). AreHeld sys state held (persisted es) (uncollected m)) (sym t.2)
    (zip-weaker R H (persisted es) (filter not_collected t.0) (λ e x k. k.1)
    (persist-left R (λ e x i. (i.0).acknowledged) (λ e x i. (acknowledged-too sys state e x i.0, held-too sys state held e x i.1)) state.writes t.0 t.1 es
    (zip-both (IsEntryOf sys state) H es (uncollected state) a (s held f)))))

-- ---- what is withdrawn

withdrawn-not : (first : ℕ) (e : Entry) → e.id < first → not (is_withdrawn first e) ≡ true
withdrawn-not first e l =
    let late : nat_le first e.id ≡ false = grind (arith, nat_tests) in
    ap (λ b. not (not e.acknowledged && b)) late ∙ none (not e.acknowledged)
  where
    none : (b : Bool) → not (b && false) ≡ true
    none true = refl
    none false = refl

withdrawn-is : (first : ℕ) (e : Entry) → e.acknowledged ≡ false → first ≤ e.id → not (is_withdrawn first e) ≡ false
withdrawn-is first e fly l =
    let late : nat_le first e.id ≡ true = grind (arith, nat_tests) in
    ap (λ b. not (not b && nat_le first e.id)) fly ∙ ap not late

-- where a step can't put all that it asks, and the entries that it asked are withdrawn from the first of them on, those before
-- them are left
pub withdrawn_are_the_last : (first : ℕ) (entries more : List Entry) → AllByRecursion (λ id. id < first) (ids_of entries)
    → AllByRecursion (λ (e : Entry). (e.acknowledged ≡ false) × (first ≤ e.id)) more
    → filter (λ e. not (is_withdrawn first e)) (entries ++ more) ≡ entries
withdrawn_are_the_last first es more before after =
    let stays : Entry → Bool = λ e. not (is_withdrawn first e) in
    filter-append stays es more
    ∙ ap (λ xs. xs ++ filter stays more) (filter-all stays es
    (each-weaker (λ (e : Entry). e.id < first) (λ e. stays e ≡ true) es (λ e l. withdrawn-not first e l) (each_of-map (λ id. id < first) (λ (e : Entry). e.id) es before)))
    ∙ ap (λ xs. es ++ xs) (filter-none stays more
    (each-weaker (λ (e : Entry). (e.acknowledged ≡ false) × (first ≤ e.id)) (λ e. stays e ≡ false) more (λ e k. withdrawn-is first e k.0 k.1) after))
    ∙ append-nil es

-- ---- whether some write is in flight

abbrev flies : Write → Bool
flies write = is_in_flight write.stage

fly-alike : (sys : System) (state : Machine) (es : List Entry) (xs : List Write) → AllByRecursion (λ x. not_collected x ≡ true) xs → AreEntriesOf sys state es xs
    → (oldest es ≡ None → list_any flies xs ≡ false) × ((id : ℕ) → oldest es ≡ Some id → list_any flies xs ≡ true)
fly-alike sys state [] [] left a = ((λ e. refl), λ id e. absurd cc)
fly-alike sys state [] (x ∷ xs) left a = absurd a
fly-alike sys state (e ∷ es) [] left a = absurd a
fly-alike sys state (e ∷ es) (x ∷ xs) left a = by x.stage refl (fly-alike sys state es xs left.1 a.1)
  where
    by : (far : Stage) → x.stage ≡ far → (oldest es ≡ None → list_any flies xs ≡ false) × ((id : ℕ) → oldest es ≡ Some id → list_any flies xs ≡ true)
        → (oldest (e ∷ es) ≡ None → list_any flies (x ∷ xs) ≡ false) × ((id : ℕ) → oldest (e ∷ es) ≡ Some id → list_any flies (x ∷ xs) ≡ true)
    by in_flight at rest =
        let told : e.acknowledged ≡ false = (a.0).acknowledged ∙ ap (is_counted kept) at in
        let here : oldest (e ∷ es) ≡ Some e.id = ap (λ b. cond b (oldest es) (Some e.id)) told in
        let there : list_any flies (x ∷ xs) ≡ true = ap (λ far. is_in_flight far || list_any flies xs) at in
        ((λ k. let c : None ≡ Some e.id = sym k ∙ here in absurd cc), λ id k. there)
    by acknowledged at rest =
        let told : e.acknowledged ≡ true = (a.0).acknowledged ∙ ap (is_counted kept) at in
        let here : oldest (e ∷ es) ≡ oldest es = ap (λ b. cond b (oldest es) (Some e.id)) told in
        let there : list_any flies (x ∷ xs) ≡ list_any flies xs = ap (λ far. is_in_flight far || list_any flies xs) at in
        ((λ k. there ∙ rest.0 (sym here ∙ k)), λ id k. there ∙ rest.1 id (sym here ∙ k))
    by collected at rest = absurd (two_ways (not_collected x) left.0 (ap (λ far. not (is_collected far)) at))

flying-uncollected : (xs : List Write) → AllByRecursion (λ x. flies x ≡ true → not_collected x ≡ true) xs
flying-uncollected xs = each-one (λ x. flies x ≡ true → not_collected x ≡ true) xs (λ x k. flying-left x (flying-is x.stage k))

left-left : (xs : List Write) → AllByRecursion (λ x. not_collected x ≡ true) (filter not_collected xs)
left-left [] = tt
left-left (x ∷ xs) =
    cond_both (not_collected x) (x ∷ filter not_collected xs) (filter not_collected xs) (AllByRecursion (λ y. not_collected y ≡ true)) (λ e. (e, left-left xs)) (λ e. left-left xs)

some-flies : (xs : List Write) (o : Write) (ys : List Write) → flies o ≡ true → list_any flies (xs ++ o ∷ ys) ≡ true
some-flies [] o ys k = ap (λ b. b || list_any flies ys) k
some-flies (x ∷ xs) o ys k = ap (λ b. flies x || b) (some-flies xs o ys k) ∙ or-true (flies x)
  where
    or-true : (b : Bool) → (b || true) ≡ true
    or-true true = refl
    or-true false = refl

first-flying : (xs : List Write) → list_any flies xs ≡ true → (next : List Write) × AcknowledgesOldest xs next
first-flying [] k = absurd cc
first-flying (x ∷ xs) k = elim (cases_Bool (flies x)) [
  | inl i ↦ (
    record x { stage = acknowledged } ∷ xs,
    record { earlier = []; oldest = x; later = xs; before = refl; in_flight = i; none_earlier = refl; after = refl },
  )
  | inr i ↦
      let rest = first-flying xs (sym (ap (λ b. b || list_any flies xs) i) ∙ k) in
      let a = rest.1 in (
        x ∷ rest.0,
        record {
          earlier = x ∷ a.earlier;
          oldest = a.oldest;
          later = a.later;
          before = ap (λ ys. x ∷ ys) a.before;
          in_flight = a.in_flight;
          none_earlier = ap (λ b. b || list_any flies a.earlier) i ∙ a.none_earlier;
          after = ap (λ ys. x ∷ ys) a.after;
        },
      )
]

-- a write can be acknowledged exactly where an entry is in flight
pub persists_where_in_flight : (sys : System) (state : Machine) (entries : List Entry) → AreEntriesOf sys state entries (uncollected state)
    → (oldest entries ≡ None → (next : Machine) (effect : Effect) → LeadsTo sys state Persist next effect → ⊥)
    × ((id : ℕ) → oldest entries ≡ Some id → (next : Machine) × LeadsTo sys state Persist next silent)
persists_where_in_flight sys state es a =
    let alike = fly-alike sys state es (uncollected state) (left-left state.writes) a in
    let all : list_any flies (uncollected state) ≡ list_any flies state.writes = any-filter flies not_collected state.writes (flying-uncollected state.writes) in (
      (λ none next effect t.
          let k = t.1 in
          two_ways (list_any flies state.writes) (ap (list_any flies) k.before ∙ some-flies k.earlier k.oldest k.later k.in_flight) (sym all ∙ alike.0 none)),
      λ id some.
          let f = first-flying state.writes (sym all ∙ alike.1 id some) in
          (record state { writes = f.0 }, (f.0, f.1, refl, refl)),
    )

-- ---- a failure

lost-alike : (far : Stage) → not (is_collected far) ≡ true → not (is_counted kept far) ≡ is_in_flight far
lost-alike in_flight k = refl
lost-alike acknowledged k = refl
lost-alike collected k = absurd cc

pub lost-same : (sys : System) (state : Machine) (ps : List ℕ) (e : Entry) (x : Write) → not_collected x ≡ true → IsEntryOf sys state e x
    → not (is_lost_of ps e) ≡ not (is_one_of x.node ps && is_in_flight x.stage)
lost-same sys state ps e x left i =
    ap (λ n. not (is_one_of n ps && not e.acknowledged)) i.node
    ∙ ap (λ b. not (is_one_of x.node ps && b)) (ap not i.acknowledged ∙ lost-alike x.stage left)

-- the entries in flight of the nodes that fail go
pub entries_after_failure : (sys : System) → IsWellFormedSystem sys → (state : Machine) → IsReached sys state
    → (ps : List ℕ) (next : Machine) (effect : Effect) → LeadsTo sys state (Fail ps) next effect
    → (entries : List Entry) → AreEntriesOf sys state entries (uncollected state)
    → AreEntriesOf sys next (filter (λ e. not (is_lost_of ps e)) entries) (uncollected next)
entries_after_failure sys w state r ps next effect t es a =
    let goes : Entry → Bool = λ e. not (is_lost_of ps e) in
    let stays : Write → Bool = λ x. not (is_one_of x.node ps && is_in_flight x.stage) in
    entries-stay sys state next (filter goes es) (uncollected next) (left-stay sys w state r (Fail ps) next effect t)
    (subst (λ (m : Machine). AreEntriesOf sys state (filter goes es) (uncollected m)) (sym t.4)
    (zip-gone (IsEntryOf sys state) not_collected goes stays es state.writes (λ e x left i. lost-same sys state ps e x left i) a))

-- and the records of those that are left are stored
pub records_after_failure : (sys : System) → IsWellFormedSystem sys → (state : Machine) → IsReached sys state
    → (ps : List ℕ) (next : Machine) (effect : Effect) → LeadsTo sys state (Fail ps) next effect
    → (entries : List Entry) → AreEntriesOf sys state entries (uncollected state)
    → (records : Option Records) → AreStored sys state records entries (uncollected state)
    → AreStored sys next records (filter (λ e. not (is_lost_of ps e)) entries) (uncollected next)
records_after_failure sys w state r ps next effect t es a all s =
    let goes : Entry → Bool = λ e. not (is_lost_of ps e) in
    let stays : Write → Bool = λ x. not (is_one_of x.node ps && is_in_flight x.stage) in
    records-stay sys state next all (filter goes es) (uncollected next) (left-stay sys w state r (Fail ps) next effect t)
    (λ held f.
    let R : Entry → Write → Type 0 = IsKeptAs sys state held in
    let H : Entry → Write → Type 0 = λ e x. IsHeldAs sys state held e x in
    subst (λ (m : Machine). AreHeld sys state held (filter goes es) (uncollected m)) (sym t.4)
    (zip-weaker R H (filter goes es) (filter not_collected (filter stays state.writes)) (λ e x k. k.1)
    (zip-gone R not_collected goes stays es state.writes (λ e x left i. lost-same sys state ps e x left i.0)
    (zip-both (IsEntryOf sys state) H es (uncollected state) a (s held f)))))

both-gone : (first second flying : Bool) → (not (first && flying) && not (second && flying)) ≡ not ((first || second) && flying)
both-gone true true true = refl
both-gone true true false = refl
both-gone true false true = refl
both-gone true false false = refl
both-gone false true true = refl
both-gone false true false = refl
both-gone false false true = refl
both-gone false false false = refl

-- two tests one after the other
filter-both : {X : Type 0} (j k l : X → Bool) → ((x : X) → (k x && j x) ≡ l x) → (xs : List X) → filter j (filter k xs) ≡ filter l xs
filter-both j k l h [] = refl
filter-both {X = X} j k l h (x ∷ xs) = by (k x) (j x) (l x) (h x) (filter-both j k l h xs) refl
  where
    by : (b c d : Bool) → (b && c) ≡ d → filter j (filter k xs) ≡ filter l xs → j x ≡ c
        → filter j (cond b (x ∷ filter k xs) (filter k xs)) ≡ cond d (x ∷ filter l xs) (filter l xs)
    by true true true e rest f = filter-in j x (filter k xs) f ∙ ap (λ ys. x ∷ ys) rest
    by true true false e rest f = absurd cc
    by true false true e rest f = absurd cc
    by true false false e rest f = filter-out j x (filter k xs) f ∙ rest
    by false true true e rest f = absurd cc
    by false true false e rest f = rest
    by false false true e rest f = absurd cc
    by false false false e rest f = rest

-- lost one after the other, the nodes lose what they lose together
pub loses_one_by_one : (ps : List ℕ) (entries : List Entry) → without_lost_of ps entries ≡ filter (λ e. not (is_lost_of ps e)) entries
loses_one_by_one [] es = sym (filter-true es)
loses_one_by_one (p ∷ ps) es =
    loses_one_by_one ps (filter (λ e. not (is_in_flight_of p e)) es)
    ∙ filter-both (λ e. not (is_lost_of ps e)) (λ e. not (is_in_flight_of p e)) (λ e. not (is_lost_of (p ∷ ps) e))
    (λ e. ap (λ b. not (b && not e.acknowledged) && not (is_lost_of ps e)) (turned e.node p) ∙ both-gone (p == e.node) (is_one_of e.node ps) (not e.acknowledged)) es
  where
    turned : (m n : ℕ) → (m == n) ≡ (n == m)
    turned m n = grind (arith, nat_tests)

-- ---- a recovery

each-numbered : (P : Happened → Type 0) (h : List SerialEvent) → AllByRecursion P (events h) → AllByRecursion (λ (v : SerialEvent). P v.event) h
each-numbered P [] a = tt
each-numbered P (v ∷ h) a = (a.0, each-numbered P h a.1)

none-serial : (s : ℕ) (test : SerialEvent → Bool) (h : List SerialEvent) → AllByRecursion (λ (v : SerialEvent). v.serial < s) h → has_serial s (filter test h) ≡ false
none-serial s test [] a = refl
none-serial s test (v ∷ h) a =
    let rest = none-serial s test h a.1 in
    let l = a.0 in
    cond_both (test v) (v ∷ filter test h) (filter test h) (λ g. has_serial s g ≡ false)
    (λ e. ap (λ b. b || has_serial s (filter test h)) (false_from_ne_true (v.serial == s) (λ k. let i = eqb-true v.serial s k in absurd (omega arith))) ∙ rest) (λ e. rest)

-- an event that is told of is kept where it passes
serial-kept : (flow : Dataflow) (p s n : ℕ) (event : Event) (test : SerialEvent → Bool) (b : Bool) (h : List SerialEvent) → AreSerialsBelow n h
    → AllByRecursion (λ v. IsToldAs flow p s event v → test v ≡ b) h → HasEventTold flow p s event h → has_serial s (filter test h) ≡ b
serial-kept flow p s n event test b [] o k a = absurd a
serial-kept flow p s n event test true (v ∷ h) o k (inl a) =
    ap (has_serial s) (filter-in test v h (k.0 a)) ∙ ap (λ c. c || has_serial s (filter test h)) (eq-eqb v.serial s a.same_serial)
serial-kept flow p s n event test false (v ∷ h) o k (inl a) =
    ap (has_serial s) (filter-out test v h (k.0 a))
    ∙ none-serial s test h (subst (λ m. AllByRecursion (λ (u : SerialEvent). u.serial < m) h) a.same_serial (serials-each v.serial v.serial h (omega arith) o.1))
serial-kept flow p s n event test b (v ∷ h) o k (inr a) =
    let rest = serial-kept flow p s v.serial event test b h o.1 k.1 a in
    let l = told-below flow p s v.serial event h o.1 a in
    cond_both (test v) (v ∷ filter test h) (filter test h) (λ g. has_serial s g ≡ b)
    (λ e. ap (λ c. c || has_serial s (filter test h)) (false_from_ne_true (v.serial == s) (λ i. let j = eqb-true v.serial s i in absurd (omega arith))) ∙ rest) (λ e. rest)

-- each event of node p is at a stamp of its domain
abbrev AreInDomains : System → List SerialEvent → Type 0
AreInDomains sys h = AllByRecursion (λ (v : SerialEvent). in_domain (bounds_of sys.flow (event_node sys.flow v.event)) (event_stamp v.event) ≡ true) h

kept-told : (sys : System) (choice : Choice) (p s : ℕ) (f : Front) (event : Event) → cut_of choice p ≡ At f → (v : SerialEvent)
    → in_domain (bounds_of sys.flow (event_node sys.flow v.event)) (event_stamp v.event) ≡ true → IsToldAs sys.flow p s event v
    → kept_of sys.flow choice (event_node sys.flow v.event) (event_stamp v.event) ≡ inside f (stamp_of_event event)
kept-told sys choice p s f event cut v d a =
    let t = event_stamp v.event in
    ap (λ q. kept_of sys.flow choice q t) a.node ∙ ap (λ c. set_of sys.flow p c t) cut
    ∙ ap (λ b. b && inside f t) (sym (ap (λ q. in_domain (bounds_of sys.flow q) t) a.node) ∙ d)
    ∙ ap (inside f) (sym (told-stamp v.event event a.told))

lies-alike : (sys : System) (state : Machine) (choice : Choice) (p : ℕ) (f : Front) → AreSerialsBelow state.next state.history → AreInDomains sys state.history → cut_of choice p ≡ At f
    → (entry : Written) (what : WrittenBy) → HoldsWhatIsWritten sys state p entry what → lies_within f entry ≡ is_kept_write (At f) what (filtered_history sys choice state.history)
lies-alike sys state choice p f o d cut (written.Checkpoint r s n) (checkpoint g low) h = ap (λ x. is_within x f) (h.recorded).front
lies-alike sys state choice p f o d cut (written.Checkpoint r t n) (logged_event s) h = absurd h
lies-alike sys state choice p f o d cut (written.Event event) (checkpoint g low) h = absurd h
lies-alike sys state choice p f o d cut (written.Event event) (logged_event s) h =
    let keeps : SerialEvent → Bool = λ v. kept_of sys.flow choice (event_node sys.flow v.event) (event_stamp v.event) in
    sym (serial-kept sys.flow p s state.next event keeps (inside f (stamp_of_event event)) state.history o
    (each-weaker (λ (v : SerialEvent). in_domain (bounds_of sys.flow (event_node sys.flow v.event)) (event_stamp v.event) ≡ true)
    (λ v. IsToldAs sys.flow p s event v → keeps v ≡ inside f (stamp_of_event event)) state.history (λ v e a. kept-told sys choice p s f event cut v e a) d) h)

not-not : (b : Bool) → not (not b) ≡ b
not-not true = refl
not-not false = refl

pub undone-same : (sys : System) (state : Machine) (choice : Choice) → AreSerialsBelow state.next state.history → AreInDomains sys state.history → (e : Entry) (x : Write)
    → IsEntryOf sys state e x → not (is_beyond (cut_of choice e.node) e) ≡ is_kept_write (cut_of choice x.node) x.written (filtered_history sys choice state.history)
undone-same sys state choice o d e x i =
    ap (λ p. not (is_beyond (cut_of choice p) e)) i.node ∙ by (cut_of choice x.node) refl
  where
    by : (cut : Cut) → cut_of choice x.node ≡ cut → not (is_beyond cut e) ≡ is_kept_write cut x.written (filtered_history sys choice state.history)
    by Present k = refl
    by (At f) k = not-not (lies_within f e.written) ∙ lies-alike sys state choice x.node f o d k e.written x.written i.holds

-- the choice of a recovery is the one that it shows
shown : (a b : Choice) → cuts a ≡ cuts b → b ≡ a
shown a b e = cc

pub domains : (sys : System) → IsWellFormedSystem sys → (state : Machine) → IsReached sys state → AreInDomains sys state.history
domains sys w state r =
    each-numbered (λ v. in_domain (bounds_of sys.flow (event_node sys.flow v)) (event_stamp v) ≡ true) state.history
    (legal-in_domain sys (events state.history) w.flow (has_epochs sys w) (reached-all sys w r.0 r.1 state r.2).recover.holds.legal)

-- what is left of the writes in a recovery
pub recovered-left : (sys : System) (state : Machine) (choice : Choice) (next : Machine) → LeadsTo sys state Recover next (cuts choice)
    → next.writes ≡ filter (λ (x : Write). is_kept_write (cut_of choice x.node) x.written (filtered_history sys choice state.history)) state.writes
recovered-left sys state choice next t =
    ap (λ (m : Machine). m.writes) t.7
    ∙ ap (λ c. filter (λ (x : Write). is_kept_write (cut_of c x.node) x.written (filtered_history sys c state.history)) state.writes) (shown choice t.1 t.8)

-- the entries that do not lie within the cuts of their nodes go
pub entries_after_recovery : (sys : System) → IsWellFormedSystem sys → (state : Machine) → IsReached sys state
    → (choice : Choice) (next : Machine) → LeadsTo sys state Recover next (cuts choice)
    → (entries : List Entry) → AreEntriesOf sys state entries (uncollected state)
    → AreEntriesOf sys next (filter (λ e. not (is_beyond (cut_of choice e.node) e)) entries) (uncollected next)
entries_after_recovery sys w state r choice next t es a =
    let goes : Entry → Bool = λ e. not (is_beyond (cut_of choice e.node) e) in
    let keeps : Write → Bool = λ x. is_kept_write (cut_of choice x.node) x.written (filtered_history sys choice state.history) in
    let o = (reached-all sys w r.0 r.1 state r.2).restore.serials in
    let d = domains sys w state r in
    entries-stay sys state next (filter goes es) (uncollected next) (left-stay sys w state r Recover next (cuts choice) t)
    (subst (λ xs. AreEntriesOf sys state (filter goes es) (filter not_collected xs)) (sym (recovered-left sys state choice next t))
    (zip-gone (IsEntryOf sys state) not_collected goes keeps es state.writes (λ e x left i. undone-same sys state choice o d e x i) a))

-- and the records of those that are left are stored
pub records_after_recovery : (sys : System) → IsWellFormedSystem sys → (state : Machine) → IsReached sys state
    → (choice : Choice) (next : Machine) → LeadsTo sys state Recover next (cuts choice)
    → (entries : List Entry) → AreEntriesOf sys state entries (uncollected state)
    → (records : Option Records) → AreStored sys state records entries (uncollected state)
    → AreStored sys next records (filter (λ e. not (is_beyond (cut_of choice e.node) e)) entries) (uncollected next)
records_after_recovery sys w state r choice next t es a all s =
    let goes : Entry → Bool = λ e. not (is_beyond (cut_of choice e.node) e) in
    let keeps : Write → Bool = λ x. is_kept_write (cut_of choice x.node) x.written (filtered_history sys choice state.history) in
    let o = (reached-all sys w r.0 r.1 state r.2).restore.serials in
    let d = domains sys w state r in
    records-stay sys state next all (filter goes es) (uncollected next) (left-stay sys w state r Recover next (cuts choice) t)
    (λ held f.
    let R : Entry → Write → Type 0 = IsKeptAs sys state held in
    let H : Entry → Write → Type 0 = λ e x. IsHeldAs sys state held e x in
    subst (λ xs. AreHeld sys state held (filter goes es) (filter not_collected xs)) (sym (recovered-left sys state choice next t))
    (zip-weaker R H (filter goes es) (filter not_collected (filter keeps state.writes)) (λ e x k. k.1)
    (zip-gone R not_collected goes keeps es state.writes (λ e x left i. undone-same sys state choice o d e x i.0)
    (zip-both (IsEntryOf sys state) H es (uncollected state) a (s held f)))))
