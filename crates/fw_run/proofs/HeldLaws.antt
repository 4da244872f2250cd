-- What a call of `hold` answers, from what its parts do.
use Rattle.std.proofs.Common.{◌≡◌, ◌⊎◌, inl, inr, ℕ, ◌^◌, ◌<◌, ◌≤◌, List, [], length, Option, Some, None, Result, Ok, Err, refl, sym, ◌∙◌, ap, subst, arith, lit<}
use Rattle.std.specs.FinMap as map
use Rattle.std.specs.Ordering.{nat_cmp}
use Rattle.std.specs.Prelude.{IsSome}
use Rattle.std.proofs.lemmas.Option.{same_Some}
use Rattle.std.proofs.lemmas.Slice.Zip.{AllZip-long}
use Rattle.fw_outside.specs.Outside.{SinkView, StayIfTold, one_more}
use Rattle.fw_lines.specs.Lines.{said_lines}
use Rattle.fw_lines.specs.declared.refusal.Refusal.{Refusal}
use Rattle.fw_flow.specs.Dataflow.{Dataflow, System}
use Rattle.fw_root.specs.declared.root.Digests.{Digests}
use Rattle.fw_root.specs.OfFlow.{Given}
use Rattle.fw_schedule.specs.declared.item.Item.{Item}
use Rattle.fw_schedule.specs.LineNumbers.{IsItemOnLine, line_numbers}
use Rattle.fw_schedule.specs.Schedule.{step_count, step_limit}
use Rattle.fw_schedule.proofs.LineNumberLaws.{stand_on_lines}
use Rattle.fw_keep.specs.Catalogue.{AreAscending}
use Rattle.fw_keep.specs.Stored.{Records, IsEmptyStore}
use Rattle.fw_generate.specs.Texts.{Texts}
use Rattle.fw_command.specs.declared.held.HeldJob.{HeldJob}
use Rattle.fw_command.specs.declared.reading.JobFault.{JobFault}
use Rattle.fw_command.specs.declared.reading.JobFault.TheVariants as job
use Rattle.fw_command.specs.Command.{TextNames, by_lines, run, three_texts}
use Rattle.fw_command.specs.Held.{IsHeldJob, text_digests}
use Rattle.fw_command.specs.Reading.{IfJobRefused, read_faults_after}
use Rattle.fw_command.specs.Texts.{Refuses, spelled_items, spelled_system}
use Rattle.fw_command.specs.Words.{held_of}
use Rattle.fw_command.proofs.TextLaws.{accepts_three}
use Rattle.fw_hold.specs.declared.fault.HoldFault.{HoldFault}
use Rattle.fw_hold.specs.declared.fault.HoldFault.TheVariants.{Out, Engine, DamagedRoot as BadRoot, ForeignRoot as OtherRoot}
use Rattle.fw_hold.specs.declared.place.HeldCounts.{HeldCounts}
use Rattle.fw_hold.specs.declared.plan.HeldPlan.{HeldPlan}
use Rattle.fw_hold.specs.Faults.{faults_after_hold}
use Rattle.fw_hold.specs.Going.{CountsOut, HaveSameCounts}
use Rattle.fw_hold.specs.Kept.{HaveNoRoot, HeldTexts, no_root, IsPlanOf, kept_at_first, system_in}
use Rattle.fw_hold.specs.Starting.{MayStart, held_texts_of}
use Rattle.fw_hold.proofs.PlaceLaws.{ascending}
use Rattle.fw_outside.specs.declared.fault.OutFault.TheVariants as output
use Rattle.fw_running.specs.declared.fault.EngineFault.TheVariants as engine
use Rattle.fw_run.specs.declared.status.Status.{Status}
use Rattle.fw_run.specs.declared.status.Status.TheVariants.{Done, BadWords, Refused, ReadFault, WriteFault, StoreFault, Damaged, DamagedRoot, NoMemory, ForeignRoot}
use Rattle.fw_run.specs.Answers.{Outside, Known, outside_of, TellsRecords}
use Rattle.fw_run.specs.Call.{Call, CountsWrites, HasAccepted, HasRefused, IsRefusalEnd, KeepsFolder}
use Rattle.fw_run.specs.Held.{StartsOrRefuses, EndsHeld, GoesOnFrom, HasStarted, HeldAnswers, HoldsOn, IsHeldEnd, IsNoStart, IsUnread, TellsEnd, WritesHeld, held_status, reads_texts}
use Rattle.fw_run.specs.HeldTexts.{AreHeldTexts, HoldsEarlier, EarlierStarts, MayBegin, MayHold, given_batches, held_texts}
use Rattle.fw_run.specs.Printed.{done_line}
use Rattle.fw_run.specs.Status.{HasWord, IsTellingOf, TellsOfRoot, read_faults_told, store_faults_told, write_faults_told}
use Rattle.fw_run.proofs.CallLaws.{accepted_and_refused, folder_told, one_refusal}
use Rattle.fw_run.proofs.CountLaws.{never_fall-out, never_falls-read, read_told, writes_told}
use Rattle.fw_run.proofs.DecidedLaws.{texts-decided}
use Rattle.fw_run.proofs.FaultCounts.{never_falls-one}
use Rattle.fw_run.proofs.HeldTextLaws.{alike-back, held-spelled, may-alike, spelled-alike, texts_with}
use Rattle.fw_run.proofs.StartLaws.{StartSays, ends_done, ends_fault, says-alike}

-- ---- what was read

-- the texts of a held job are those under the names
pub texts_of-job : (told : Option (List ℕ → Option (List ℕ))) (names : TextNames) (held : HeldJob) → (j : IsHeldJob told names held) → AreHeldTexts told names held.job.flow j.texts
texts_of-job told names held j = record { there = j.there; accepted = j.accepted }

-- a plan of what was read is one of what it is
pub plan_of-job : (told : Option (List ℕ → Option (List ℕ))) (names : TextNames) (held : HeldJob) (plan : HeldPlan) → IsHeldJob told names held → step_count held.job.items ≤ step_limit
    → plan.items.now ≡ held.job.items → plan.numbers.now ≡ held.numbers.items → IsPlanOf (held_texts_of held.job.flow held.job.batches plan) plan
plan_of-job told names held plan j few e f =
    let text = j.texts.schedule in
    let flow = held.job.flow in
    let items = spelled_items flow j.texts in
    let stand = stand_on_lines text flow items j.accepted.schedule in
    let numbers = f ∙ j.numbers in
    record {
      items = refl;
      numbers = refl;
      digests = refl;
      few = subst (λ (its : List Item). step_count its ≤ step_limit) (sym e) few;
      ascending = subst AreAscending (sym numbers) (ascending (line_numbers text) stand.ascending);
      one_each = ap length numbers ∙ AllZip-long (IsItemOnLine (said_lines text) flow) items (line_numbers text) stand.each ∙ sym (ap length (e ∙ j.items));
    }

-- what a plan is of is what its texts spell, with the batches that were read
read_as : (told : Option (List ℕ → Option (List ℕ))) (names : TextNames) (held : HeldJob) (plan : HeldPlan) → (j : IsHeldJob told names held)
    → plan.items.now ≡ held.job.items → plan.numbers.now ≡ held.numbers.items → plan.digests ≡ held.digests
    → held_texts_of held.job.flow held.job.batches plan ≡ texts_with held.job.flow (spelled_items held.job.flow j.texts) (line_numbers j.texts.schedule) (text_digests j.texts) held.job.batches
read_as told names held plan j e f d =
    let flow = held.job.flow in
    let batches = held.job.batches in
    ap (λ (items : List Item). texts_with flow items plan.numbers.now plan.digests batches) (e ∙ j.items)
    ∙ ap (λ (numbers : List ℕ). texts_with flow (spelled_items flow j.texts) numbers plan.digests batches) (f ∙ j.numbers)
    ∙ ap (λ (digests : Digests). texts_with flow (spelled_items flow j.texts) (line_numbers j.texts.schedule) digests batches) (d ∙ j.digests)

-- a start may begin with what was read where it may with the named texts
pub may_start-job : (told : Option (List ℕ → Option (List ℕ))) (names : TextNames) (held : HeldJob) (plan : HeldPlan) (records : Option Records) → IsHeldJob told names held
    → plan.items.now ≡ held.job.items → plan.numbers.now ≡ held.numbers.items → plan.digests ≡ held.digests → MayHold told names records → MayStart (held_texts_of held.job.flow held.job.batches plan) records
may_start-job told names held plan records j e f d may =
    let flow = held.job.flow in
    let items = spelled_items flow j.texts in
    let numbers = line_numbers j.texts.schedule in
    let digests = text_digests j.texts in
    let batches = given_batches flow j.texts.inputs in
    subst (λ (texts : HeldTexts). MayStart texts records) (sym (read_as told names held plan j e f d))
    (may-alike flow items numbers digests batches held.job.batches records (alike-back flow held.job.batches batches (spelled-alike flow j.texts held.job.batches j.system)) (may flow j.texts (texts_of-job told names held j)))

-- and what it says then, it says of the texts
pub says-job : {O : Type 0} (told : Option (List ℕ → Option (List ℕ))) (names : TextNames) (held : HeldJob) (plan : HeldPlan) (answer : Result HeldCounts HoldFault) (before after : _) (view : O → SinkView) (out wrote : O)
    → (j : IsHeldJob told names held) → plan.items.now ≡ held.job.items → plan.numbers.now ≡ held.numbers.items → plan.digests ≡ held.digests
    → StartSays (held_texts_of held.job.flow held.job.batches plan) answer before after view out wrote → StartSays (held_texts held.job.flow j.texts) answer before after view out wrote
says-job told names held plan answer before after view out wrote j e f d s =
    let flow = held.job.flow in
    says-alike flow (spelled_items flow j.texts) (line_numbers j.texts.schedule) (text_digests j.texts) held.job.batches (given_batches flow j.texts.inputs) answer before after view out wrote
    (spelled-alike flow j.texts held.job.batches j.system) (subst (λ (texts : HeldTexts). StartSays texts answer before after view out wrote) (read_as told names held plan j e f d) s)

-- ---- before it begins

-- an empty store has no root
no_root-empty : (held : Records) → held ≡ map.empty → HaveNoRoot held
no_root-empty held e = record { even = none _; odd = none _ }
  where
    none : (id : ℕ) → map.get held id ≡ None
    none id = ap (λ (records : Records). map.get records id) e ∙ map.get-empty nat_cmp id

-- so it holds what no start left
pub earlier-empty : (flow : Dataflow) (texts : Texts) (held : Records) → held ≡ map.empty
    → HoldsEarlier flow texts (Some held) (record { many = 0; found = no_root; kept = kept_at_first (system_in (held_texts flow texts)) })
earlier-empty flow texts held e = record { few = lit< tt; holds = (held, refl, (no_root-empty held e, refl)) }

-- and a start may begin over it
may_hold-empty : (told : Option (List ℕ → Option (List ℕ))) (names : TextNames) (records : Option Records) → IsEmptyStore records → MayHold told names records
may_hold-empty told names records e flow texts r held is = inl (record {
  starts = 0;
  few = lit< tt;
  found = no_root;
  kept = kept_at_first (system_in (held_texts flow texts));
  holds = (no_root-empty held (e held is), refl);
})

-- words that are not those of a held run have an empty store
pub empty_of-begin : (words : List (List ℕ)) (told : Option (List ℕ → Option (List ℕ))) (records : Option Records) → held_of words ≡ None → MayBegin words told records → IsEmptyStore records
empty_of-begin words told records none (inl e) = e
empty_of-begin words told records none (inr (names, some, may)) = absurd (never (sym some ∙ none))
  where
    never : Some names ≡ None → ⊥
    never h = absurd (cc)

-- of a held run a start may begin over it
pub may_hold-begin : (words : List (List ℕ)) (told : Option (List ℕ → Option (List ℕ))) (records : Option Records) (names : TextNames) → held_of words ≡ Some names → MayBegin words told records
    → MayHold told names records
may_hold-begin words told records names is (inl e) = may_hold-empty told names records e
may_hold-begin words told records names is (inr (others, some, may)) = subst (λ (n : TextNames). MayHold told n records) (same_Some others names (sym some ∙ is)) may

-- ---- which texts are refused

accepted_of-texts : (told : Option (List ℕ → Option (List ℕ))) (names : TextNames) (flow : Dataflow) (texts : Texts) → AreHeldTexts told names flow texts → HasAccepted (reads_texts names told) texts
accepted_of-texts told names flow texts r =
    record { command = run by_lines names; words = refl; there = r.there; flow = flow; accepted = accepts_three (three_texts names) texts flow r.accepted }

refuses : {F K O : Type 0} (known : Known F K O) (names : TextNames) (status : Status) (before after : Outside F K O) → IsNoStart before status after ⊎ HasStarted known names before status after
    → ((refusal : Refusal) → status ≡ Refused refusal → HasRefused (reads_texts names (known.texts before.folder)) refusal) → (refusal : Refusal) → IsSome (known.texts before.folder)
    → HasRefused (reads_texts names (known.texts before.folder)) refusal → IsRefusalEnd refusal status
refuses known names status before after (inr s) told refusal tells first =
    absurd (accepted_and_refused (reads_texts names (known.texts before.folder)) s.texts refusal (accepted_of-texts (known.texts before.folder) names s.flow s.texts s.read) (λ asks. tells) first)
refuses known names Done before after (inl n) told refusal tells first = absurd n.unread
refuses known names BadWords before after (inl n) told refusal tells first = absurd n.unread
refuses known names (Refused other) before after (inl n) told refusal tells first = inl (ap Refused (one_refusal (reads_texts names (known.texts before.folder)) other refusal tells (told other refl) first))
refuses known names ReadFault before after (inl n) told refusal tells first = inr (inl refl)
refuses known names WriteFault before after (inl n) told refusal tells first = absurd n.unread
refuses known names StoreFault before after (inl n) told refusal tells first = absurd n.unread
refuses known names (Damaged id) before after (inl n) told refusal tells first = absurd n.unread
refuses known names (DamagedRoot id) before after (inl n) told refusal tells first = absurd n.unread
refuses known names NoMemory before after (inl n) told refusal tells first = inr (inr refl)
refuses known names ForeignRoot before after (inl n) told refusal tells first = absurd n.unread

starts : {F K O : Type 0} (known : Known F K O) (names : TextNames) (status : Status) (before after : Outside F K O) → IsNoStart before status after ⊎ HasStarted known names before status after
    → ((refusal : Refusal) → status ≡ Refused refusal → HasRefused (reads_texts names (known.texts before.folder)) refusal) → (texts : Texts) → HasAccepted (reads_texts names (known.texts before.folder)) texts
    → IsSome (known.texts before.folder) → IsHeldEnd status ⊎ (status ≡ ReadFault)
starts known names status before after (inr s) told texts a tells = inl s.is_end
starts known names Done before after (inl n) told texts a tells = inl tt
starts known names BadWords before after (inl n) told texts a tells = absurd n.unread
starts known names (Refused refusal) before after (inl n) told texts a tells =
    absurd (accepted_and_refused (reads_texts names (known.texts before.folder)) texts refusal a (λ asks. tells) (told refusal refl))
starts known names ReadFault before after (inl n) told texts a tells = inr refl
starts known names WriteFault before after (inl n) told texts a tells = inl tt
starts known names StoreFault before after (inl n) told texts a tells = inl tt
starts known names (Damaged id) before after (inl n) told texts a tells = inl tt
starts known names (DamagedRoot id) before after (inl n) told texts a tells = inl tt
starts known names NoMemory before after (inl n) told texts a tells = inl tt
starts known names ForeignRoot before after (inl n) told texts a tells = inl tt

answers-held : {F K O : Type 0} (known : Known F K O) (names : TextNames) (status : Status) (before after : Outside F K O) → IsNoStart before status after ⊎ HasStarted known names before status after
    → ((refusal : Refusal) → status ≡ Refused refusal → HasRefused (reads_texts names (known.texts before.folder)) refusal) → StartsOrRefuses (reads_texts names (known.texts before.folder)) status
answers-held known names status before after start told = record {
  decided = λ command. texts-decided (known.texts before.folder) command.texts;
  refuses = refuses known names status before after start told;
  starts = starts known names status before after start told;
}

-- ---- the texts were not read

unread_writes : (status : Status) (view : SinkView) → IsUnread status → CountsWrites status view view
unread_writes Done view unread = absurd unread
unread_writes BadWords view unread = absurd unread
unread_writes (Refused refusal) view unread = record { faults = refl; refusals = λ m. refl; no_memory = λ m. inl refl }
unread_writes ReadFault view unread = record { faults = refl; refusals = λ m. refl; no_memory = λ m. inl refl }
unread_writes WriteFault view unread = absurd unread
unread_writes StoreFault view unread = absurd unread
unread_writes (Damaged id) view unread = absurd unread
unread_writes (DamagedRoot id) view unread = absurd unread
unread_writes NoMemory view unread = record { faults = refl; refusals = λ m. refl; no_memory = λ m. inl refl }
unread_writes ForeignRoot view unread = absurd unread

unread_store : (status : Status) (count : ℕ) → IsUnread status → count ≡ store_faults_told status count
unread_store Done count unread = absurd unread
unread_store BadWords count unread = absurd unread
unread_store (Refused refusal) count unread = refl
unread_store ReadFault count unread = refl
unread_store WriteFault count unread = absurd unread
unread_store StoreFault count unread = absurd unread
unread_store (Damaged id) count unread = absurd unread
unread_store (DamagedRoot id) count unread = absurd unread
unread_store NoMemory count unread = refl
unread_store ForeignRoot count unread = absurd unread

held-unread : {F K O : Type 0} (known : Known F K O) (names : TextNames) (status : Status) (folder now : F) (store : K) (out : O) → IsUnread status
    → ((refusal : Refusal) → status ≡ Refused refusal → HasRefused (reads_texts names (known.texts folder)) refusal)
    → known.read_faults now ≡ read_faults_told status (known.read_faults folder) → KeepsFolder known.texts known.fetches (Some (run by_lines names)) status folder now
    → HeldAnswers known names (outside_of folder store out) status (outside_of now store out)
held-unread known names status folder now store out unread refused read kept =
    let writes = unread_writes status (known.out out) unread in
    let before = outside_of folder store out in
    let after = outside_of now store out in
    let start : IsNoStart before status after ⊎ HasStarted known names before status after = inl (record { unread = unread; out = refl; store = refl }) in
    record {
      start = start;
      refused = refused;
      read_fault = read;
      folder = kept;
      store_count = unread_store status (known.store store).faults unread;
      out_count = writes;
      never_fall = (never_falls-read status (known.read_faults folder) (known.read_faults now) read, omega arith, never_fall-out status (known.out out) (known.out out) writes);
      told_before = λ told. told;
      answer = answers-held known names status before after start refused;
    }

-- the status that tells why
abbrev pub job_status : JobFault → Status
job_status job.Failed = ReadFault
job_status (job.Refused refusal) = Refused refusal
job_status job.NoMemory = NoMemory

-- a text was not read, or is refused
pub held-not_read : {F K O : Type 0} (known : Known F K O) (names : TextNames) (fault : JobFault) (folder now : F) (store : K) (out : O)
    → IfJobRefused (Refuses (known.texts folder) (three_texts names)) fault → known.read_faults now ≡ read_faults_after {T = Unit {0}} (Err fault) (known.read_faults folder)
    → KeepsFolder known.texts known.fetches (Some (run by_lines names)) (job_status fault) folder now
    → HeldAnswers known names (outside_of folder store out) (job_status fault) (outside_of now store out)
held-not_read known names job.Failed folder now store out first read kept = held-unread known names ReadFault folder now store out tt (λ refusal is. absurd (cc)) read kept
held-not_read known names (job.Refused refusal) folder now store out first read kept =
    held-unread known names (Refused refusal) folder now store out tt
    (λ other is. record { command = run by_lines names; words = refl; first = subst (Refuses (known.texts folder) (three_texts names)) (ap refusal_in is) first }) read kept
  where
    refusal_in : Status → Refusal
    refusal_in (Refused r) = r
    refusal_in status = refusal
held-not_read known names job.NoMemory folder now store out first read kept = held-unread known names NoMemory folder now store out tt (λ refusal is. absurd (cc)) read kept

-- ---- a start was made

end_reads : (status : Status) (count : ℕ) → IsHeldEnd status → count ≡ read_faults_told status count
end_reads Done count is = refl
end_reads BadWords count is = refl
end_reads (Refused refusal) count is = refl
end_reads ReadFault count is = absurd is
end_reads WriteFault count is = refl
end_reads StoreFault count is = refl
end_reads (Damaged id) count is = refl
end_reads (DamagedRoot id) count is = refl
end_reads NoMemory count is = refl
end_reads ForeignRoot count is = refl

store_told-more : (status : Status) (before after : ℕ) → after ≡ store_faults_told status before → before ≤ after
store_told-more Done before after e = omega (arith, e)
store_told-more BadWords before after e = omega (arith, e)
store_told-more (Refused refusal) before after e = omega (arith, e)
store_told-more ReadFault before after e = omega (arith, e)
store_told-more WriteFault before after e = omega (arith, e)
store_told-more StoreFault before after e = subst (λ (n : ℕ). before ≤ n) (sym e) (never_falls-one before)
store_told-more (Damaged id) before after e = omega (arith, e)
store_told-more (DamagedRoot id) before after e = omega (arith, e)
store_told-more NoMemory before after e = omega (arith, e)
store_told-more ForeignRoot before after e = omega (arith, e)

held-ended : {F K O : Type 0} (known : Known F K O) (names : TextNames) (flow : Dataflow) (texts : Texts) (status : Status) (folder now : F) (store left : K) (out wrote : O)
    → AreHeldTexts (known.texts folder) names flow texts → IsHeldEnd status → EndsHeld known flow texts (outside_of folder store out) status (outside_of now left wrote)
    → known.read_faults now ≡ known.read_faults folder → KeepsFolder known.texts known.fetches (Some (run by_lines names)) status folder now
    → (known.store left).faults ≡ store_faults_told status (known.store store).faults → CountsWrites status (known.out out) (known.out wrote)
    → (IsSome (known.store left).records → IsSome (known.store store).records) → HeldAnswers known names (outside_of folder store out) status (outside_of now left wrote)
held-ended known names flow texts status folder now store left out wrote r is ends read kept count writes telling =
    let reads = read ∙ end_reads status (known.read_faults folder) is in
    let before = outside_of folder store out in
    let after = outside_of now left wrote in
    let start : IsNoStart before status after ⊎ HasStarted known names before status after = inr (record { flow = flow; texts = texts; read = r; is_end = is; ends = ends }) in
    let refused : (refusal : Refusal) → status ≡ Refused refusal → HasRefused (reads_texts names (known.texts folder)) refusal = λ refusal e. absurd (subst IsHeldEnd e is) in
    record {
      start = start;
      refused = refused;
      read_fault = reads;
      folder = kept;
      store_count = count;
      out_count = writes;
      never_fall = (
        never_falls-read status (known.read_faults folder) (known.read_faults now) reads,
        store_told-more status (known.store store).faults (known.store left).faults count,
        never_fall-out status (known.out out) (known.out wrote) writes,
      );
      told_before = telling;
      answer = answers-held known names status before after start refused;
    }

-- ---- it ended before all was done

fault_end : (fault : HoldFault) → IsHeldEnd (held_status fault)
fault_end (Out output.Failed) = tt
fault_end (Out output.NoMemory) = tt
fault_end (Engine engine.StoreFault) = tt
fault_end (Engine (engine.Damaged id)) = tt
fault_end (Engine engine.NoMemory) = tt
fault_end (BadRoot id) = tt
fault_end OtherRoot = tt

fault_count : (fault : HoldFault) (before after : ℕ) → after ≡ faults_after_hold {T = HeldCounts} (Err fault) before → after ≡ store_faults_told (held_status fault) before
fault_count (Out output.Failed) before after e = e
fault_count (Out output.NoMemory) before after e = e
fault_count (Engine engine.StoreFault) before after e = e
fault_count (Engine (engine.Damaged id)) before after e = e
fault_count (Engine engine.NoMemory) before after e = e
fault_count (BadRoot id) before after e = e
fault_count OtherRoot before after e = e

fault_writes : (fault : HoldFault) (before after : SinkView) → CountsOut {T = HeldCounts} (Err fault) before after → CountsWrites (held_status fault) before after
fault_writes (Out output.Failed) before after (f, r) = record { faults = f; refusals = λ m. r; no_memory = λ m. absurd (cc) }
fault_writes (Out output.NoMemory) before after (f, r) = record { faults = f; refusals = λ m. absurd (m refl); no_memory = λ m. r }
fault_writes (Engine engine.StoreFault) before after s = record { faults = s.faults; refusals = λ m. s.refusals; no_memory = λ m. inl s.refusals }
fault_writes (Engine (engine.Damaged id)) before after s = record { faults = s.faults; refusals = λ m. s.refusals; no_memory = λ m. inl s.refusals }
fault_writes (Engine engine.NoMemory) before after s = record { faults = s.faults; refusals = λ m. absurd (m refl); no_memory = λ m. inl s.refusals }
fault_writes (BadRoot id) before after s = record { faults = s.faults; refusals = λ m. s.refusals; no_memory = λ m. inl s.refusals }
fault_writes OtherRoot before after s = record { faults = s.faults; refusals = λ m. s.refusals; no_memory = λ m. inl s.refusals }

pub held-fault : {F K O : Type 0} (known : Known F K O) (names : TextNames) (held : HeldJob) (plan : HeldPlan) (fault : HoldFault) (folder now : F) (store left : K) (out wrote : O)
    → IsHeldJob (known.texts folder) names held → plan.items.now ≡ held.job.items → plan.numbers.now ≡ held.numbers.items → plan.digests ≡ held.digests → MayHold (known.texts folder) names (known.store store).records
    → StartSays (held_texts_of held.job.flow held.job.batches plan) (Err fault) (known.store store) (known.store left) known.out out wrote
    → known.read_faults now ≡ known.read_faults folder → KeepsFolder known.texts known.fetches (Some (run by_lines names)) (held_status fault) folder now
    → HeldAnswers known names (outside_of folder store out) (held_status fault) (outside_of now left wrote)
held-fault known names held plan fault folder now store left out wrote j e f d may s read kept =
    let flow = held.job.flow in
    let texts = j.texts in
    let r = texts_of-job (known.texts folder) names held j in
    let says = says-job (known.texts folder) names held plan (Err fault) (known.store store) (known.store left) known.out out wrote j e f d s in
    held-ended known names flow texts (held_status fault) folder now store left out wrote r (fault_end fault)
    (ends_fault known flow texts fault (outside_of folder store out) (outside_of now left wrote) (may flow texts r) (held-spelled flow texts) says) read kept
    (fault_count fault (known.store store).faults (known.store left).faults s.faults) (fault_writes fault (known.out out) (known.out wrote) s.counts) s.told_before

-- ---- all was done

line_end : (line : List ℕ) (status : Status) (before after : SinkView) → TellsEnd line status before after → IsHeldEnd status
line_end line Done before after t = tt
line_end line BadWords before after t = t
line_end line (Refused refusal) before after t = t
line_end line ReadFault before after t = t
line_end line WriteFault before after t = tt
line_end line StoreFault before after t = tt
line_end line (Damaged id) before after t = tt
line_end line (DamagedRoot id) before after t = tt
line_end line NoMemory before after t = tt
line_end line ForeignRoot before after t = tt

line_count : (line : List ℕ) (status : Status) (count : ℕ) (before after : SinkView) → TellsEnd line status before after → count ≡ store_faults_told status count
line_count line Done count before after t = refl
line_count line BadWords count before after t = refl
line_count line (Refused refusal) count before after t = refl
line_count line ReadFault count before after t = refl
line_count line WriteFault count before after t = refl
line_count line StoreFault count before after t = absurd t
line_count line (Damaged id) count before after t = refl
line_count line (DamagedRoot id) count before after t = refl
line_count line NoMemory count before after t = refl
line_count line ForeignRoot count before after t = refl

line_counts : (line : List ℕ) (status : Status) (before after : SinkView) → TellsEnd line status before after → CountsWrites status before after
line_counts line Done before after t = record { faults = t.none_failed; refusals = λ m. t.none_refused; no_memory = λ m. absurd (cc) }
line_counts line BadWords before after t = absurd t
line_counts line (Refused refusal) before after t = absurd t
line_counts line ReadFault before after t = absurd t
line_counts line WriteFault before after t = record { faults = t.faults; refusals = λ m. t.refusals; no_memory = λ m. absurd (cc) }
line_counts line StoreFault before after t = absurd t
line_counts line (Damaged id) before after t = absurd t
line_counts line (DamagedRoot id) before after t = absurd t
line_counts line NoMemory before after t = record { faults = t.faults; refusals = λ m. absurd (m refl); no_memory = λ m. t.refusals }
line_counts line ForeignRoot before after t = absurd t

counts_from : (status : Status) (before mid after : SinkView) → HaveSameCounts before mid → CountsWrites status mid after → CountsWrites status before after
counts_from status before mid after s c = record {
  faults = c.faults ∙ ap (write_faults_told status) s.faults;
  refusals = λ m. c.refusals m ∙ ap (write_faults_told status) s.refusals;
  no_memory = λ m. elim (c.no_memory m) [ inl e ↦ inl (e ∙ s.refusals) | inr e ↦ inr (e ∙ ap one_more s.refusals) ];
}

pub held-done : {F K O : Type 0} (known : Known F K O) (names : TextNames) (held : HeldJob) (plan : HeldPlan) (counts : HeldCounts) (status : Status) (folder now : F) (store left : K) (out mid wrote : O)
    → IsHeldJob (known.texts folder) names held → plan.items.now ≡ held.job.items → plan.numbers.now ≡ held.numbers.items → plan.digests ≡ held.digests → MayHold (known.texts folder) names (known.store store).records
    → StartSays (held_texts_of held.job.flow held.job.batches plan) (Ok counts) (known.store store) (known.store left) known.out out mid
    → TellsEnd (done_line counts.steps counts.idle) status (known.out mid) (known.out wrote)
    → known.read_faults now ≡ known.read_faults folder → KeepsFolder known.texts known.fetches (Some (run by_lines names)) status folder now
    → HeldAnswers known names (outside_of folder store out) status (outside_of now left wrote)
held-done known names held plan counts status folder now store left out mid wrote j e f d may s t read kept =
    let flow = held.job.flow in
    let texts = j.texts in
    let line = done_line counts.steps counts.idle in
    let r = texts_of-job (known.texts folder) names held j in
    let says = says-job (known.texts folder) names held plan (Ok counts) (known.store store) (known.store left) known.out out mid j e f d s in
    held-ended known names flow texts status folder now store left out wrote r (line_end line status (known.out mid) (known.out wrote) t)
    (ends_done known flow texts counts status (outside_of folder store out) mid (outside_of now left wrote) (may flow texts r) (held-spelled flow texts) says t) read kept
    (s.faults ∙ line_count line status (known.store store).faults (known.out mid) (known.out wrote) t)
    (counts_from status (known.out out) (known.out mid) (known.out wrote) s.counts (line_counts line status (known.out mid) (known.out wrote) t)) s.told_before

-- ---- once the status is told

memory_of_root : TellsOfRoot NoMemory → ⊥
memory_of_root (inl (id, e)) = absurd (cc)
memory_of_root (inr e) = absurd (cc)

word_store : (status : Status) (count : ℕ) → HasWord status → store_faults_told status count ≡ count
word_store status count (inl (refusal, e)) = ap (λ (s : Status). store_faults_told s count) e
word_store status count (inr (inl (id, e))) = ap (λ (s : Status). store_faults_told s count) e
word_store status count (inr (inr (id, e))) = ap (λ (s : Status). store_faults_told s count) e

-- where the store tells its records nothing is damaged
word_writes : (flow : Dataflow) (texts : Texts) (earlier : EarlierStarts) (records : Option Records) (on : HoldsOn flow texts earlier records) (status : Status) (before after : SinkView)
    → HasWord status → WritesHeld flow texts earlier records on status before after → ⊥
word_writes flow texts earlier records on status before after (inl (refusal, e)) w = subst (λ (s : Status). WritesHeld flow texts earlier records on s before after) e w
word_writes flow texts earlier records on status before after (inr (inl (id, e))) w = subst (λ (s : Status). WritesHeld flow texts earlier records on s before after) e w
word_writes flow texts earlier records on status before after (inr (inr (id, e))) w = subst (λ (s : Status). WritesHeld flow texts earlier records on s before after) e w

word_ends : {F K O : Type 0} (known : Known F K O) (flow : Dataflow) (texts : Texts) (before : Outside F K O) (status : Status) (after : Outside F K O) → HasWord status → EndsHeld known flow texts before status after
    → EndsHeld known flow texts before NoMemory after
word_ends known flow texts before status after word e = record {
  goes_on = λ earlier left told.
      let g = e.goes_on earlier left told in
      absurd (word_writes flow texts earlier (known.store after.store).records g.on status (known.out before.out) (known.out after.out) word g.wrote);
  foreign = λ is told. let f = e.foreign is told in (inr (inr refl), f.1, f.2);
  foreign_root = λ is. absurd (cc);
  damaged_root = λ id is. absurd (cc);
  damaged = λ id is. absurd (cc);
  of_root = λ r. absurd (memory_of_root r);
}

word_start : {F K O : Type 0} (known : Known F K O) (names : TextNames) (before : Outside F K O) (status : Status) (after : Outside F K O) → HasWord status
    → IsNoStart before status after ⊎ HasStarted known names before status after → IsNoStart before NoMemory after ⊎ HasStarted known names before NoMemory after
word_start known names before status after word (inl n) = inl (record { unread = tt; out = n.out; store = n.store })
word_start known names before status after word (inr s) =
    inr (record { flow = s.flow; texts = s.texts; read = s.read; is_end = tt; ends = word_ends known s.flow s.texts before status after word s.ends })

pub held-told : {F K O : Type 0} (known : Known F K O) (names : TextNames) (before : Outside F K O) (status result : Status) (after : Outside F K O) → IsTellingOf status result
    → HeldAnswers known names before status after → HeldAnswers known names before result after
held-told known names before status result after (inl e) a = subst (λ (s : Status). HeldAnswers known names before s after) (sym e) a
held-told known names before status result after (inr (word, e)) a =
    let telling : IsTellingOf status NoMemory = inr (word, refl) in
    let start = word_start known names before status after word a.start in
    let refused : (refusal : Refusal) → NoMemory ≡ Refused refusal → HasRefused (reads_texts names (known.texts before.folder)) refusal = λ refusal is. absurd (cc) in
    subst (λ (s : Status). HeldAnswers known names before s after) (sym e) (record {
      start = start;
      refused = refused;
      read_fault = read_told status NoMemory (known.read_faults before.folder) (known.read_faults after.folder) telling a.read_fault;
      folder = folder_told known.texts known.fetches (Some (run by_lines names)) status NoMemory before.folder after.folder telling a.folder;
      store_count = a.store_count ∙ word_store status (known.store before.store).faults word;
      out_count = writes_told status NoMemory (known.out before.out) (known.out after.out) telling a.out_count;
      never_fall = a.never_fall;
      told_before = a.told_before;
      answer = answers-held known names NoMemory before after start refused;
    })
