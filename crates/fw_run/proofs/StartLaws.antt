-- What a start says of texts, and what its status then says.
use Rattle.std.proofs.Common.{◌≡◌, ◌⊎◌, inl, inr, ℕ, ◌+◌, ◌^◌, ◌<◌, List, [], ◌++◌, length, Option, Some, None, Result, Ok, Err, refl, sym, ◌∙◌, ap, subst}
use Rattle.std.proofs.lemmas.Bool.{false≢true}
use Rattle.std.specs.Prelude.{IsErrOf, IsSome}
use Rattle.fw_outside.specs.declared.fault.OutFault.TheVariants as output
use Rattle.fw_outside.specs.Outside.{SinkView, StayIfTold, StoreView}
use Rattle.fw_flow.specs.Dataflow.{Dataflow, System}
use Rattle.fw_schedule.specs.declared.item.Item.{Item}
use Rattle.fw_keep.specs.Stored.{Records}
use Rattle.fw_root.specs.declared.root.Digests.{Digests}
use Rattle.fw_root.specs.OfFlow.{Given}
use Rattle.fw_running.specs.declared.fault.EngineFault.TheVariants as engine
use Rattle.fw_generate.specs.Texts.{Texts}
use Rattle.fw_command.specs.Held.{text_digests}
use Rattle.fw_command.specs.Texts.{spelled_items, spelled_system}
use Rattle.fw_command.specs.Writing.{IsWritten}
use Rattle.fw_command.proofs.WritingLaws.{written_more}
use Rattle.fw_hold.specs.declared.fault.HoldFault.{HoldFault}
use Rattle.fw_hold.specs.declared.fault.HoldFault.TheVariants.{Out, Engine, DamagedRoot as BadRoot, ForeignRoot as OtherRoot}
use Rattle.fw_hold.specs.declared.place.HeldCounts.{HeldCounts}
use Rattle.fw_hold.specs.Engine.{GaveBytes}
use Rattle.fw_hold.specs.Faults.{IsOfRoot, faults_after_hold}
use Rattle.fw_hold.specs.Found.{GaveForeign, GaveNoRoot}
use Rattle.fw_hold.specs.Going.{CountsOut, HoldsFound, WritesUpTo}
use Rattle.fw_hold.specs.Hold.{IsAtEnd}
use Rattle.fw_hold.specs.Kept.{HeldTexts, Found, system_in}
use Rattle.fw_hold.specs.Moves.{KeptPoint, MakesAll, SchedulePoint}
use Rattle.fw_hold.specs.Starting.{EndsStart, IfWell, IsForeignIn, IsToldForeign, MayStart, lines_written_last}
use Rattle.fw_run.proofs.TakenLaws.{line_cut}
use Rattle.fw_run.specs.declared.status.Status.{Status}
use Rattle.fw_run.specs.declared.status.Status.TheVariants.{Done, BadWords, Refused, ReadFault, WriteFault, StoreFault, Damaged, DamagedRoot, NoMemory, ForeignRoot}
use Rattle.fw_run.specs.Answers.{Outside, Known, TellsRecords}
use Rattle.fw_run.specs.Held.{EndsHeld, GoesOnFrom, HoldsOn, IsAllHeld, IsCutByOutput, IsForeignEnd, IsHeldEnd, IsLineCut, TellsEnd, WritesHeld, held_status}
use Rattle.fw_run.specs.HeldTexts.{HoldsEarlier, EarlierStarts, held_texts}
use Rattle.fw_run.specs.Printed.{done_line}
use Rattle.fw_run.specs.Status.{TellsOfRoot}
use Rattle.fw_run.proofs.HeldTextLaws.{AreAlike, alike-back, found-alike, kept_in-alike, no_root-alike, system-alike, texts_with}

-- ---- what a start says

-- what a start with these texts says of its answer
pub record StartSays {O : Type 0} (texts : HeldTexts) (answer : Result HeldCounts HoldFault) (before after : StoreView) (view : O → SinkView) (out wrote : O) : Type 0 where
  pub ends : (starts : ℕ) (found : Found) (kept : KeptPoint) → starts < 2 ^ 61 → HoldsFound texts starts before.records found kept → IsSome after.records
      → EndsStart texts starts found kept answer after.records (view out) (view wrote) (IsAtEnd texts)
  pub foreign : IsForeignIn texts.digests before.records → IsSome after.records → IsToldForeign answer × (wrote ≡ out) × (after.records ≡ before.records)
  pub of_root : IsOfRoot answer → (wrote ≡ out) × StayIfTold before.records after.records
  pub damaged_root : (id : ℕ) → IsErrOf answer (BadRoot id) → GaveNoRoot texts id after.given
  pub foreign_root : IsErrOf answer OtherRoot → GaveForeign texts.digests after.given
  pub damaged : (id : ℕ) → IsErrOf answer (Engine (engine.Damaged id)) → GaveBytes id after.given
  pub counts : CountsOut answer (view out) (view wrote)
  pub told_before : IsSome after.records → IsSome before.records
  pub faults : after.faults ≡ faults_after_hold answer before.faults

well-more : {T : Type 0} (P Q : T → Type 0) (answer : Result T HoldFault) → ((value : T) → P value → Q value) → IfWell answer P → IfWell answer Q
well-more P Q (Ok value) more p = more value p
well-more P Q (Err fault) more p = tt

ends-alike : (flow : Dataflow) (items : List Item) (numbers : List ℕ) (digests : Digests) (one other : Given) (starts : ℕ) (found : Found) (kept : KeptPoint) (answer : Result HeldCounts HoldFault) (records : Option Records)
    (before after : SinkView) → AreAlike flow one other
    → EndsStart (texts_with flow items numbers digests one) starts found kept answer records before after (IsAtEnd (texts_with flow items numbers digests one))
    → EndsStart (texts_with flow items numbers digests other) starts found kept answer records before after (IsAtEnd (texts_with flow items numbers digests other))
ends-alike flow items numbers digests one other starts found kept answer records before after a e = record {
  moves = e.moves;
  now = e.now;
  last = e.last;
  made = subst (λ (sys : System). MakesAll sys items kept kept.point e.moves e.now e.last) (system-alike flow one other a) e.made;
  begins = e.begins;
  holds = kept_in-alike flow items numbers digests one other (starts + 1) records e.now a e.holds;
  text = e.text;
  told = e.told;
  opened = e.opened;
  wrote = e.wrote;
  so = well-more (λ (counts : HeldCounts). IsAtEnd (texts_with flow items numbers digests one) counts e.now e.last) (λ (counts : HeldCounts). IsAtEnd (texts_with flow items numbers digests other) counts e.now e.last) answer
      (λ counts at. record { none_left = at.none_left; steps = at.steps; idle = at.idle }) e.so;
}

-- what it says of texts it says of those with batches that are alike
pub says-alike : {O : Type 0} (flow : Dataflow) (items : List Item) (numbers : List ℕ) (digests : Digests) (one other : Given) (answer : Result HeldCounts HoldFault) (before after : StoreView) (view : O → SinkView)
    (out wrote : O) → AreAlike flow one other → StartSays (texts_with flow items numbers digests one) answer before after view out wrote → StartSays (texts_with flow items numbers digests other) answer before after view out wrote
says-alike flow items numbers digests one other answer before after view out wrote a s = record {
  ends = λ starts found kept few holds told. ends-alike flow items numbers digests one other starts found kept answer after.records (view out) (view wrote) a
      (s.ends starts found kept few (found-alike flow items numbers digests other one starts before.records found kept (alike-back flow one other a) holds) told);
  foreign = s.foreign;
  of_root = s.of_root;
  damaged_root = λ id e. no_root-alike flow items numbers digests one other id after.given a (s.damaged_root id e);
  foreign_root = s.foreign_root;
  damaged = s.damaged;
  counts = s.counts;
  told_before = s.told_before;
  faults = s.faults;
}

-- ---- how far it came

abbrev on_of : {T : Type 0} (flow : Dataflow) (texts : Texts) (earlier : EarlierStarts) (answer : Result T HoldFault) (records : Option Records) (before after : SinkView) (IsSo : T → KeptPoint → SchedulePoint → Type 0)
    → system_in (held_texts flow texts) ≡ spelled_system flow texts → EndsStart (held_texts flow texts) earlier.many earlier.found earlier.kept answer records before after IsSo → HoldsOn flow texts earlier records
on_of flow texts earlier answer records before after IsSo same e = record {
  moves = e.moves;
  now = e.now;
  last = e.last;
  made = subst (λ (sys : System). MakesAll sys (spelled_items flow texts) earlier.kept earlier.kept.point e.moves e.now e.last) same e.made;
  begins = e.begins;
  holds = e.holds;
  text = e.text;
  told = e.told;
}

-- ---- it ended before all was done

-- the status where no line is written last
abbrev pub status_in : Result HeldCounts HoldFault → Status
status_in (Ok counts) = Done
status_in (Err fault) = held_status fault

writes_fault : (flow : Dataflow) (texts : Texts) (earlier : EarlierStarts) (records : Option Records) (on : HoldsOn flow texts earlier records) (fault : HoldFault) (before after : SinkView)
    → WritesUpTo {T = HeldCounts} on.text (lines_written_last earlier.found earlier.kept on.moves on.now) (Err fault) before after → WritesHeld flow texts earlier records on (held_status fault) before after
writes_fault flow texts earlier records on (Out output.Failed) before after (first, e, cut) = inl (record { first = first; parts = e; cut = cut })
writes_fault flow texts earlier records on (Out output.NoMemory) before after (first, e, cut) = inr (inl (record { first = first; parts = e; cut = cut }))
writes_fault flow texts earlier records on (Engine engine.StoreFault) before after w = w
writes_fault flow texts earlier records on (Engine (engine.Damaged id)) before after w = w
writes_fault flow texts earlier records on (Engine engine.NoMemory) before after w = inl w
writes_fault flow texts earlier records on (BadRoot id) before after w = w
writes_fault flow texts earlier records on OtherRoot before after w = w

fault_foreign : (fault : HoldFault) → IsToldForeign {T = HeldCounts} (Err fault) → IsForeignEnd (held_status fault)
fault_foreign fault (inl e) = inl (ap status_in e)
fault_foreign fault (inr (inl e)) = inr (inl (ap status_in e))
fault_foreign fault (inr (inr e)) = inr (inr (ap status_in e))

fault_of_root : (fault : HoldFault) → TellsOfRoot (held_status fault) → IsOfRoot {T = HeldCounts} (Err fault)
fault_of_root (Out output.Failed) (inl (id, e)) = absurd (cc)
fault_of_root (Out output.Failed) (inr e) = absurd (cc)
fault_of_root (Out output.NoMemory) (inl (id, e)) = absurd (cc)
fault_of_root (Out output.NoMemory) (inr e) = absurd (cc)
fault_of_root (Engine engine.StoreFault) (inl (id, e)) = absurd (cc)
fault_of_root (Engine engine.StoreFault) (inr e) = absurd (cc)
fault_of_root (Engine (engine.Damaged n)) (inl (id, e)) = absurd (cc)
fault_of_root (Engine (engine.Damaged n)) (inr e) = absurd (cc)
fault_of_root (Engine engine.NoMemory) (inl (id, e)) = absurd (cc)
fault_of_root (Engine engine.NoMemory) (inr e) = absurd (cc)
fault_of_root (BadRoot n) r = tt
fault_of_root OtherRoot r = tt

-- which fault a status tells
fault_bad_root : (fault : HoldFault) (id : ℕ) → held_status fault ≡ DamagedRoot id → IsErrOf {T = HeldCounts} (Err fault) (BadRoot id)
fault_bad_root (Out output.Failed) id e = absurd (cc)
fault_bad_root (Out output.NoMemory) id e = absurd (cc)
fault_bad_root (Engine engine.StoreFault) id e = absurd (cc)
fault_bad_root (Engine (engine.Damaged n)) id e = absurd (cc)
fault_bad_root (Engine engine.NoMemory) id e = absurd (cc)
fault_bad_root (BadRoot n) id e = ap back e
  where
    back : Status → Result HeldCounts HoldFault
    back (DamagedRoot i) = Err (BadRoot i)
    back status = Err (BadRoot n)
fault_bad_root OtherRoot id e = absurd (cc)

fault_other_root : (fault : HoldFault) → held_status fault ≡ ForeignRoot → IsErrOf {T = HeldCounts} (Err fault) OtherRoot
fault_other_root (Out output.Failed) e = absurd (cc)
fault_other_root (Out output.NoMemory) e = absurd (cc)
fault_other_root (Engine engine.StoreFault) e = absurd (cc)
fault_other_root (Engine (engine.Damaged n)) e = absurd (cc)
fault_other_root (Engine engine.NoMemory) e = absurd (cc)
fault_other_root (BadRoot n) e = absurd (cc)
fault_other_root OtherRoot e = refl

fault_damaged : (fault : HoldFault) (id : ℕ) → held_status fault ≡ Damaged id → IsErrOf {T = HeldCounts} (Err fault) (Engine (engine.Damaged id))
fault_damaged (Out output.Failed) id e = absurd (cc)
fault_damaged (Out output.NoMemory) id e = absurd (cc)
fault_damaged (Engine engine.StoreFault) id e = absurd (cc)
fault_damaged (Engine (engine.Damaged n)) id e = ap back e
  where
    back : Status → Result HeldCounts HoldFault
    back (Damaged i) = Err (Engine (engine.Damaged i))
    back status = Err (Engine (engine.Damaged n))
fault_damaged (Engine engine.NoMemory) id e = absurd (cc)
fault_damaged (BadRoot n) id e = absurd (cc)
fault_damaged OtherRoot id e = absurd (cc)

-- ---- where the store tells its records

-- they hold what earlier starts left, or the root that counts is one of other texts
begun_with : (flow : Dataflow) (texts : Texts) (records : Option Records) → MayStart (held_texts flow texts) records → IsSome records
    → ((earlier : EarlierStarts) × HoldsEarlier flow texts records earlier) ⊎ IsForeignIn (text_digests texts) records
begun_with flow texts None may some = absurd (false≢true some)
begun_with flow texts (Some held) may some = elim (may held refl) [
  | inl s ↦ inl (
    record { many = s.starts; found = s.found; kept = s.kept },
    record { few = s.few; holds = (held, refl, s.holds) },
  )
  | inr f ↦ inr (held, refl, f)
]

damaged-no_foreign : (status : Status) (id : ℕ) → status ≡ Damaged id → IsForeignEnd status → ⊥
damaged-no_foreign status id e (inl f) = absurd (cc)
damaged-no_foreign status id e (inr (inl f)) = absurd (cc)
damaged-no_foreign status id e (inr (inr f)) = absurd (cc)

bad_root-no_foreign : (status : Status) (id : ℕ) → status ≡ DamagedRoot id → IsForeignEnd status → ⊥
bad_root-no_foreign status id e (inl f) = absurd (cc)
bad_root-no_foreign status id e (inr (inl f)) = absurd (cc)
bad_root-no_foreign status id e (inr (inr f)) = absurd (cc)

-- where a start may begin nothing is damaged, and a root is foreign only where one is
ends-told : {F K O : Type 0} (known : Known F K O) (flow : Dataflow) (texts : Texts) (before : Outside F K O) (status : Status) (after : Outside F K O)
    → MayStart (held_texts flow texts) (known.store before.store).records → (TellsRecords known after → TellsRecords known before)
    → ((earlier : EarlierStarts) → HoldsEarlier flow texts (known.store before.store).records earlier → TellsRecords known after
    → GoesOnFrom flow texts earlier (known.store after.store).records status (known.out before.out) (known.out after.out))
    → (IsForeignIn (text_digests texts) (known.store before.store).records → TellsRecords known after
    → IsForeignEnd status × (after.out ≡ before.out) × ((known.store after.store).records ≡ (known.store before.store).records))
    → (status ≡ ForeignRoot → GaveForeign (text_digests texts) (known.store after.store).given) → ((id : ℕ) → status ≡ DamagedRoot id → GaveNoRoot (held_texts flow texts) id (known.store after.store).given)
    → ((id : ℕ) → status ≡ Damaged id → GaveBytes id (known.store after.store).given)
    → (TellsOfRoot status → (after.out ≡ before.out) × StayIfTold (known.store before.store).records (known.store after.store).records) → EndsHeld known flow texts before status after
ends-told known flow texts before status after may telling goes_on foreign other bad damaged of_root = record {
  goes_on = goes_on;
  foreign = foreign;
  foreign_root = λ e. (
    other e,
    λ told. elim (begun told) [
      | inl (earlier, left) ↦ absurd (wrote ForeignRoot e earlier left told)
      | inr f ↦ f
    ],
  );
  damaged_root = λ id e. (
    bad id e,
    λ told. elim (begun told) [
      | inl (earlier, left) ↦ wrote (DamagedRoot id) e earlier left told
      | inr f ↦ bad_root-no_foreign status id e (foreign f told).0
    ],
  );
  damaged = λ id e. (
    damaged id e,
    λ told. elim (begun told) [
      | inl (earlier, left) ↦ wrote (Damaged id) e earlier left told
      | inr f ↦ damaged-no_foreign status id e (foreign f told).0
    ],
  );
  of_root = of_root;
}
  where
    begun : TellsRecords known after → ((earlier : EarlierStarts) × HoldsEarlier flow texts (known.store before.store).records earlier) ⊎ IsForeignIn (text_digests texts) (known.store before.store).records
    begun told = begun_with flow texts (known.store before.store).records may (telling told)

    wrote : (s : Status) → status ≡ s → (earlier : EarlierStarts) → (left : HoldsEarlier flow texts (known.store before.store).records earlier) → (told : TellsRecords known after)
        → WritesHeld flow texts earlier (known.store after.store).records (goes_on earlier left told).on s (known.out before.out) (known.out after.out)
    wrote s e earlier left told =
        subst (λ (t : Status). WritesHeld flow texts earlier (known.store after.store).records (goes_on earlier left told).on t (known.out before.out) (known.out after.out)) e (goes_on earlier left told).wrote

-- ---- it ended before all was done

pub ends_fault : {F K O : Type 0} (known : Known F K O) (flow : Dataflow) (texts : Texts) (fault : HoldFault) (before after : Outside F K O)
    → MayStart (held_texts flow texts) (known.store before.store).records → system_in (held_texts flow texts) ≡ spelled_system flow texts
    → StartSays (held_texts flow texts) (Err fault) (known.store before.store) (known.store after.store) known.out before.out after.out → EndsHeld known flow texts before (held_status fault) after
ends_fault known flow texts fault before after may same s =
    ends-told known flow texts before (held_status fault) after may s.told_before goes_on (λ is told. let f = s.foreign is told in (fault_foreign fault f.0, f.1, f.2)) (λ e. s.foreign_root (fault_other_root fault e))
    (λ id e. s.damaged_root id (fault_bad_root fault id e)) (λ id e. s.damaged id (fault_damaged fault id e)) (λ r. s.of_root (fault_of_root fault r))
  where
    goes_on : (earlier : EarlierStarts) → HoldsEarlier flow texts (known.store before.store).records earlier → TellsRecords known after
        → GoesOnFrom flow texts earlier (known.store after.store).records (held_status fault) (known.out before.out) (known.out after.out)
    goes_on earlier left told =
        let records = (known.store after.store).records in
        let e = s.ends earlier.many earlier.found earlier.kept left.few left.holds told in
        let on = on_of {T = HeldCounts} flow texts earlier (Err fault) records (known.out before.out) (known.out after.out) (IsAtEnd (held_texts flow texts)) same e in
        record { on = on; wrote = writes_fault flow texts earlier records on fault (known.out before.out) (known.out after.out) e.wrote }

-- ---- all was done

line_writes : (flow : Dataflow) (texts : Texts) (earlier : EarlierStarts) (records : Option Records) (on : HoldsOn flow texts earlier records) (status : Status) (before mid after : SinkView)
    → IsAllHeld flow texts earlier records on → IsWritten on.text before mid → TellsEnd (done_line on.last.steps on.last.idle) status mid after → WritesHeld flow texts earlier records on status before after
line_writes flow texts earlier records on Done before mid after all w t = (all, written_more on.text (done_line on.last.steps on.last.idle) before mid after w t)
line_writes flow texts earlier records on BadWords before mid after all w t = t
line_writes flow texts earlier records on (Refused refusal) before mid after all w t = t
line_writes flow texts earlier records on ReadFault before mid after all w t = t
line_writes flow texts earlier records on WriteFault before mid after all w t =
    inr (record { all = all; cut = line_cut on.text (done_line on.last.steps on.last.idle) output.Failed before mid after w t })
line_writes flow texts earlier records on StoreFault before mid after all w t = absurd t
line_writes flow texts earlier records on (Damaged id) before mid after all w t = t
line_writes flow texts earlier records on (DamagedRoot id) before mid after all w t = t
line_writes flow texts earlier records on NoMemory before mid after all w t =
    inr (inr (record { all = all; cut = line_cut on.text (done_line on.last.steps on.last.idle) output.NoMemory before mid after w t }))
line_writes flow texts earlier records on ForeignRoot before mid after all w t = t

not_foreign : (counts : HeldCounts) → IsToldForeign {T = HeldCounts} (Ok counts) → ⊥
not_foreign counts (inl e) = absurd (cc)
not_foreign counts (inr (inl e)) = absurd (cc)
not_foreign counts (inr (inr e)) = absurd (cc)

-- the last line says nothing of a record nor of a root
ends_as : (line : List ℕ) (status other : Status) (before after : SinkView) → TellsEnd line status before after → status ≡ other → TellsEnd line other before after
ends_as line status other before after t e = subst (λ (s : Status). TellsEnd line s before after) e t

line_of_root : (line : List ℕ) (status : Status) (before after : SinkView) → TellsEnd line status before after → TellsOfRoot status → ⊥
line_of_root line status before after t (inl (id, e)) = ends_as line status (DamagedRoot id) before after t e
line_of_root line status before after t (inr e) = ends_as line status ForeignRoot before after t e

-- the start came to its end, and then the last line was written, by which the status is told
pub ends_done : {F K O : Type 0} (known : Known F K O) (flow : Dataflow) (texts : Texts) (counts : HeldCounts) (status : Status) (before : Outside F K O) (mid : O) (after : Outside F K O)
    → MayStart (held_texts flow texts) (known.store before.store).records → system_in (held_texts flow texts) ≡ spelled_system flow texts
    → StartSays (held_texts flow texts) (Ok counts) (known.store before.store) (known.store after.store) known.out before.out mid
    → TellsEnd (done_line counts.steps counts.idle) status (known.out mid) (known.out after.out) → EndsHeld known flow texts before status after
ends_done known flow texts counts status before mid after may same s t =
    ends-told known flow texts before status after may s.told_before goes_on (λ is told. absurd (not_foreign counts (s.foreign is told).0)) (λ e. absurd (says ForeignRoot e))
    (λ id e. absurd (says (DamagedRoot id) e)) (λ id e. absurd (says (Damaged id) e)) (λ r. absurd (line_of_root (done_line counts.steps counts.idle) status (known.out mid) (known.out after.out) t r))
  where
    says : (other : Status) → status ≡ other → TellsEnd (done_line counts.steps counts.idle) other (known.out mid) (known.out after.out)
    says other e = ends_as (done_line counts.steps counts.idle) status other (known.out mid) (known.out after.out) t e

    goes_on : (earlier : EarlierStarts) → HoldsEarlier flow texts (known.store before.store).records earlier → TellsRecords known after
        → GoesOnFrom flow texts earlier (known.store after.store).records status (known.out before.out) (known.out after.out)
    goes_on earlier left told =
        let records = (known.store after.store).records in
        let first = known.out before.out in
        let final = known.out after.out in
        let e = s.ends earlier.many earlier.found earlier.kept left.few left.holds told in
        let on = on_of {T = HeldCounts} flow texts earlier (Ok counts) records first (known.out mid) (IsAtEnd (held_texts flow texts)) same e in
        let line = subst (λ (n : ℕ). TellsEnd (done_line n on.last.idle) status (known.out mid) final) e.so.steps
        (subst (λ (n : ℕ). TellsEnd (done_line counts.steps n) status (known.out mid) final) e.so.idle t) in
        let all : IsAllHeld flow texts earlier records on = record { opened = e.opened.0; restored = e.opened.1; none_left = e.so.none_left } in
        record { on = on; wrote = line_writes flow texts earlier records on status first (known.out mid) final all e.wrote line }
