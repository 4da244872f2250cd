-- What a collection takes of entries and records.
use Rattle.std.proofs.Common.{◌≡◌, ℕ, ◌<◌, Bool, false, not, ◌&&◌, ◌||◌, ◌==◌, List, [], ◌∷◌, filter, map, refl, sym, ap, subst, ◌∙◌, inl, inr, arith, Option}
use Rattle.std.specs.List.{AllByRecursion, AllZip, list_any}
use Rattle.std.proofs.lemmas.Bool.{eqb-true, eq-eqb, false_from_ne_true}
use Rattle.std.proofs.Math.Bool.{or-false}
use Rattle.fw_lemmas.proofs.Each.{each-kept}
use Rattle.fw_lemmas.proofs.SideBySide.{zip-weaker, zip-right, zip-both}
use Rattle.fw_frontier.specs.Front.{Front}
use Rattle.fw_flow.specs.declared.step.Step.TheVariants.{Collect}
use Rattle.fw_flow.specs.Dataflow.{System, Dataflow, policy_of}
use Rattle.fw_flow.specs.NodeFunction.{event_node, event_stamp}
use Rattle.fw_flow.specs.WellFormed.{IsWellFormedSystem}
use Rattle.fw_model.specs.Machine.{Machine, SerialEvent, Write, checkpoint, logged_event, front_of}
use Rattle.fw_model.specs.Machine.{Written as WrittenBy}
use Rattle.fw_model.specs.Reached.{IsReached}
use Rattle.fw_model.specs.Steps.{Effect, LeadsTo, front_of_cut, is_forgotten, is_given_up}
use Rattle.fw_model.specs.Writes.{not_collected, takes_checkpoints}
use Rattle.fw_model.proofs.AskedLaws.{AreSerialsBelow, serials-each, IsAskedWell, IsWriteAskedWell, reached-all}
use Rattle.fw_model.proofs.CollectedLaws.{reached-forget}
use Rattle.fw_model.proofs.ForgottenLaws.{forgotten-acknowledged}
use Rattle.fw_model.proofs.SameInsideLaws.{low-offered}
use Rattle.fw_record.specs.declared.record.Event.{Event}
use Rattle.fw_keep.specs.declared.entry.Entry.{Entry}
use Rattle.fw_keep.specs.declared.entry.Written.{Written}
use Rattle.fw_keep.specs.declared.entry.Written.TheVariants as written
use Rattle.fw_keep.specs.Catalogue.{KeepState, IsCatalogue}
use Rattle.fw_keep.specs.Newest.{is_forgotten_below}
use Rattle.fw_keep.specs.Stored.{Records}
use Rattle.fw_record.specs.Event.{stamp_of_event}
use Rattle.fw_collect.specs.declared.drops.Drops.{Drops}
use Rattle.fw_collect.specs.Drops.{IsPlanned}
use Rattle.fw_collect.specs.Dropped.{is_dropped}
use Rattle.fw_collect.specs.LawsOfCollections.{is_entry_given_up, is_written_given_up}
use Rattle.fw_collect.proofs.CollectLaws.{drops_what_is_collected}
use Rattle.fw_stands.specs.Written.{IsToldAs, HasEventTold, HoldsWhatIsWritten, IsEntryOf, uncollected, IsHeldAs, AreStored}
use Rattle.fw_stands.specs.Entries.{AreBasesOf}
use Rattle.fw_stands.proofs.BaseSteps.{IsBaseAmong, IsBasedEntry, bases_are_left}
use Rattle.fw_stands.proofs.ForgottenEntries.{GoesForgotten, IsToBeCollected, entries_go_forgotten}
use Rattle.fw_stands.proofs.WrittenStays.{reached-next, told-below}
use Rattle.fw_policy.proofs.ReadLaws.{told-stamp}
use Rattle.fw_policy.specs.Entries.{AreEntriesOf}
use Rattle.fw_stands.proofs.EntrySteps.{entries-stay, records-stay, left-stay}

-- ---- the event of a serial

-- no event of the serial passes where those there are have lesser ones
none-any : (s : ℕ) (test : SerialEvent → Bool) (h : List SerialEvent) → AllByRecursion (λ (v : SerialEvent). v.serial < s) h → list_any (λ v. v.serial == s && test v) h ≡ false
none-any s test [] a = refl
none-any s test (v ∷ h) a =
    let l = a.0 in
    ap (λ b. (b && test v) || list_any (λ u. u.serial == s && test u) h) (false_from_ne_true (v.serial == s) (λ k. let i = eqb-true v.serial s k in absurd (omega arith)))
    ∙ none-any s test h a.1

-- whether the event of the serial passes, where it is told of
serial-any : (flow : Dataflow) (p s n : ℕ) (event : Event) (test : SerialEvent → Bool) (b : Bool) (h : List SerialEvent) → AreSerialsBelow n h
    → ((v : SerialEvent) → IsToldAs flow p s event v → test v ≡ b) → HasEventTold flow p s event h → list_any (λ v. v.serial == s && test v) h ≡ b
serial-any flow p s n event test b [] o k a = absurd a
serial-any flow p s n event test b (v ∷ h) o k (inl a) =
    ap (λ c. (c && test v) || list_any (λ u. u.serial == s && test u) h) (eq-eqb v.serial s a.same_serial)
    ∙ ap (λ c. test v || c) (none-any s test h (subst (λ m. AllByRecursion (λ (u : SerialEvent). u.serial < m) h) a.same_serial (serials-each v.serial v.serial h (omega arith) o.1)))
    ∙ or-false (test v) ∙ k v a
serial-any flow p s n event test b (v ∷ h) o k (inr a) =
    let l = told-below flow p s v.serial event h o.1 a in
    ap (λ c. (c && test v) || list_any (λ u. u.serial == s && test u) h) (false_from_ne_true (v.serial == s) (λ i. let j = eqb-true v.serial s i in absurd (omega arith)))
    ∙ serial-any flow p s v.serial event test b h o.1 k a

-- what is given up of the entry of a write is what is forgotten
given-same : (sys : System) (state : Machine) (low : List Front) (keep : KeepState) (e : Entry) (x : Write) → AreSerialsBelow state.next state.history
    → IsWriteAskedWell sys state.low state.next state.history x → IsEntryOf sys state e x → GoesForgotten sys state low keep e x
    → is_entry_given_up sys.flow low keep e ≡ is_forgotten sys low state.history state.writes x
given-same sys state low keep e x o asked i g = by e.written x.written refl i.holds
  where
    by : (w : Written) (v : WrittenBy) → x.written ≡ v → HoldsWhatIsWritten sys state x.node w v
        → is_written_given_up sys.flow low keep e w ≡ is_forgotten sys low state.history state.writes x
    by (written.Checkpoint r s n) (checkpoint f l) k h =
        let takes = (subst (λ v. IsAskedWell sys state.low state.next state.history x.node v x.stage) k asked).0 in
        ap (λ b. b && is_forgotten_below e.node (front_of low e.node) keep e) (ap (λ q. takes_checkpoints (policy_of sys.flow q)) i.node ∙ takes) ∙ g.of_checkpoint f l k
    by (written.Checkpoint r t n) (logged_event s) k h = absurd h
    by (written.Event event) (checkpoint f l) k h = absurd h
    by (written.Event event) (logged_event s) k h =
        ap (λ q. is_given_up sys low q (stamp_of_event event)) i.node
        ∙ sym (serial-any sys.flow x.node s state.next event (λ v. is_given_up sys low (event_node sys.flow v.event) (event_stamp v.event))
        (is_given_up sys low x.node (stamp_of_event event)) state.history o
        (λ v a. ap (λ q. is_given_up sys low q (event_stamp v.event)) a.node ∙ ap (is_given_up sys low x.node) (sym (told-stamp v.event event a.told))) h)
        ∙ g.of_event s k

-- ---- what is left

to-collect : (sys : System) → IsWellFormedSystem sys → (state : Machine) → IsReached sys state → (next : Machine) → IsReached sys next → (keep : KeepState) → IsCatalogue keep
    → AreEntriesOf sys state keep.entries (uncollected state) → IsToBeCollected sys state next.low keep
to-collect sys w state r next s keep c a =
    let can = reached-forget sys w r.0 r.1 state r.2 in
    let now = can.reached.recover in
    let later = (reached-all sys w s.0 s.1 next s.2).recover in
    record {
      now = λ p l. (low-offered sys state now.notices now.watermark p l).0;
      later = λ p l. (low-offered sys next later.notices later.watermark p l).0;
      can = can;
      catalogue = c;
      entries = a;
    }

collected-left : (sys : System) → IsWellFormedSystem sys → (state : Machine) → IsReached sys state → (next : Machine) (effect : Effect) → LeadsTo sys state Collect next effect
    → (R : Entry → Write → Type 0) → (keep : KeepState) → IsCatalogue keep → AreEntriesOf sys state keep.entries (uncollected state)
    → (drops : Drops) → IsPlanned sys.flow next.low keep.entries drops
    → AllZip R keep.entries (uncollected state) → AllZip R (filter (λ e. not (is_dropped drops keep e)) keep.entries) (uncollected next)
collected-left sys w state r next effect t R keep c entries drops is a =
    let f = (reached-all sys w r.0 r.1 state r.2).restore in
    let low : List Front = map front_of_cut t.0.cuts in
    let es = keep.entries in
    let same : next.low ≡ low = ap (λ (m : Machine). m.low) t.3 in
    let W : Write → Type 0 = IsWriteAskedWell sys state.low state.next state.history in
    let G : Entry → Write → Type 0 = GoesForgotten sys state low keep in
    let E : Entry → Write → Type 0 = λ e x. IsEntryOf sys state e x × R e x in
    let B : Entry → Write → Type 0 = λ e x. G e x × E e x in
    let S : Entry → Write → Type 0 = λ e x. W x × B e x in
    let go : AllZip G es (uncollected state) =
    subst (λ l. AllZip (GoesForgotten sys state l keep) es (uncollected state)) same
    (entries_go_forgotten sys state next.low keep (to-collect sys w state r next (reached-next sys state r Collect next effect t) keep c entries)) in
    let left = filter (λ e. not (is_dropped drops keep e)) es in
    zip-weaker S R left (uncollected next) (λ e x s. s.1.1.1)
    (subst (λ xs. AllZip S left (filter not_collected xs)) (sym (ap (λ (m : Machine). m.writes) t.3))
    (drops_what_is_collected S sys state.history low state.writes keep
    (λ e x s. given-same sys state low keep e x f.serials s.0 s.1.1.0 s.1.0) drops
    (subst (λ l. IsPlanned sys.flow l es drops) same is)
    (zip-right W B S es (uncollected state) (λ e x b s. (b, s)) (each-kept W not_collected state.writes f.asked)
    (zip-both G E es (uncollected state) go (zip-both (IsEntryOf sys state) R es (uncollected state) entries a)))
    (forgotten-acknowledged sys w r.0 r.1 state r.2 t.0 t.1)))

-- the entries of a catalogue go that are planned to go, where the low watermark rises to the one of the next state
pub entries_after_collection : (sys : System) → IsWellFormedSystem sys → (state : Machine) → IsReached sys state
    → (next : Machine) (effect : Effect) → LeadsTo sys state Collect next effect
    → (keep : KeepState) → IsCatalogue keep → AreEntriesOf sys state keep.entries (uncollected state)
    → (drops : Drops) → IsPlanned sys.flow next.low keep.entries drops
    → AreEntriesOf sys next (filter (λ e. not (is_dropped drops keep e)) keep.entries) (uncollected next)
entries_after_collection sys w state r next effect t keep c a drops is =
    entries-stay sys state next (filter (λ e. not (is_dropped drops keep e)) keep.entries) (uncollected next) (left-stay sys w state r Collect next effect t)
    (collected-left sys w state r next effect t (IsEntryOf sys state) keep c a drops is a)

-- the bases of those that are left are left
pub bases_after_collection : (sys : System) → IsWellFormedSystem sys → (state : Machine) → IsReached sys state
    → (next : Machine) (effect : Effect) → LeadsTo sys state Collect next effect
    → (keep : KeepState) → IsCatalogue keep → AreEntriesOf sys state keep.entries (uncollected state) → AreBasesOf keep.entries keep.entries (uncollected state)
    → (drops : Drops) → IsPlanned sys.flow next.low keep.entries drops
    → let left = filter (λ e. not (is_dropped drops keep e)) keep.entries in AreBasesOf left left (uncollected next)
bases_after_collection sys w state r next effect t keep c a b drops is =
    bases_are_left sys w state next r (reached-next sys state r Collect next effect t) keep.entries a (λ e. not (is_dropped drops keep e))
    (collected-left sys w state r next effect t (IsBasedEntry sys state keep.entries) keep c a drops is
    (zip-both (IsEntryOf sys state) (IsBaseAmong keep.entries) keep.entries (uncollected state) a b))

-- and the records of those that are left are stored
pub records_after_collection : (sys : System) → IsWellFormedSystem sys → (state : Machine) → IsReached sys state
    → (next : Machine) (effect : Effect) → LeadsTo sys state Collect next effect
    → (keep : KeepState) → IsCatalogue keep → AreEntriesOf sys state keep.entries (uncollected state)
    → (records : Option Records) → AreStored sys state records keep.entries (uncollected state)
    → (drops : Drops) → IsPlanned sys.flow next.low keep.entries drops
    → AreStored sys next records (filter (λ e. not (is_dropped drops keep e)) keep.entries) (uncollected next)
records_after_collection sys w state r next effect t keep c a all s drops is =
    let left = filter (λ e. not (is_dropped drops keep e)) keep.entries in
    records-stay sys state next all left (uncollected next) (left-stay sys w state r Collect next effect t)
    (λ held f.
    collected-left sys w state r next effect t (λ e x. IsHeldAs sys state held e x) keep c a drops is (s held f))
