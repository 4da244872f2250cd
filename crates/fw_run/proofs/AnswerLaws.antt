-- What a call answers, from what its parts do.
use Rattle.std.proofs.Common.{◌≡◌, inl, inr, ◌⊎◌, ℕ, ◌≤◌, List, [], Option, Some, None, Result, Ok, Err, refl, sym, ◌∙◌, ap, subst, arith, lit<, ◌↔◌}
use Rattle.std.specs.Prelude.{IsSome, is_some}
use Rattle.fw_outside.specs.declared.fault.OutFault.TheVariants as output
use Rattle.fw_outside.specs.Outside.{StoreView, SinkView}
use Rattle.fw_lines.specs.declared.refusal.Refusal.{Refusal}
use Rattle.fw_running.specs.declared.fault.EngineFault.{EngineFault}
use Rattle.fw_running.specs.declared.fault.EngineFault.TheVariants as engine
use Rattle.fw_run.proofs.CallLaws.{accepted_of-run, counts_fault, counts_none, counts_told, folder_told, late_fault, left_of-call, not_none, nothing_told, part_of-first, prints, prints_first, prints_no_memory, prints_part, run_of-call, store_kept, store_told, texts-answered, untold_of-damage}
use Rattle.fw_run.proofs.CountLaws.{never_fall-out, never_falls-read, read_told, writes_all, writes_told, writes_until}
use Rattle.fw_run.proofs.FaultCounts.{never_falls-store}
use Rattle.fw_run.proofs.FaultLaws.{damage_of, store_of, write_of}
use Rattle.fw_run.proofs.Numbers.{refusal_numbers}
use Rattle.fw_run.specs.declared.fault.RunFault.{RunFault}
use Rattle.fw_run.specs.declared.fault.RunFault.TheVariants.{Out, Engine}
use Rattle.fw_run.specs.declared.status.Status.{Status}
use Rattle.fw_run.specs.declared.status.Status.TheVariants.{Done, BadWords, Refused, ReadFault, WriteFault, StoreFault, Damaged, DamagedRoot, NoMemory, ForeignRoot}
use Rattle.fw_run.specs.declared.work.Work.{Work}
use Rattle.fw_run.specs.Answers.{Outside, Known, outside_of, TellsRecords, RunAnswers}
use Rattle.fw_run.specs.Call.{Call, CountsWrites, HasRefused, KeepsFolder, PrintsPart}
use Rattle.fw_run.specs.Ends.{IsDamageIn, IsOutputFault, IsStoreFault, IsWholeRun, NoFaults, NoneLeft}
use Rattle.fw_run.specs.Fault.{status_of}
use Rattle.fw_run.specs.Status.{HasWord, IsTellingOf, TellsOfRoot, read_faults_told, status_number}
use Rattle.fw_run.specs.Work.{EndsWork, IsWork, StaysIfUnseen, StaysUnlessRun}
use Rattle.fw_command.specs.declared.reading.JobFault.{JobFault}
use Rattle.fw_command.specs.declared.reading.JobFault.TheVariants as job
use Rattle.fw_command.specs.Reading.{IfJobRefused, read_faults_after}
use Rattle.fw_command.specs.Command.{Command}
use Rattle.fw_command.specs.Texts.{Refuses}
use Rattle.fw_command.specs.Writing.{IsWritten, NeverFall}

-- ---- before a run begins

-- the call read its words or its texts, and went no further
abbrev pub IsEarly : Status → Type 0
IsEarly Done = ⊥
IsEarly BadWords = Unit {0}
IsEarly (Refused refusal) = Unit {0}
IsEarly ReadFault = Unit {0}
IsEarly WriteFault = ⊥
IsEarly StoreFault = ⊥
IsEarly (Damaged id) = ⊥
IsEarly (DamagedRoot id) = ⊥
IsEarly NoMemory = Unit {0}
IsEarly ForeignRoot = ⊥

-- and of no root
early_no_root : (status : Status) → IsEarly status → TellsOfRoot status → ⊥
early_no_root status early (inl (id, e)) = subst IsEarly e early
early_no_root status early (inr e) = subst IsEarly e early

early_number : (status : Status) → IsEarly status → 8 ≤ status_number status → status_number status ≤ 9 → ⊥
early_number Done early least most = early
early_number BadWords early least most = absurd (omega (arith, least))
early_number (Refused refusal) early least most = absurd (omega (arith, least, (refusal_numbers refusal.code).1))
early_number ReadFault early least most = absurd (omega (arith, least))
early_number WriteFault early least most = early
early_number StoreFault early least most = early
early_number (Damaged id) early least most = early
early_number (DamagedRoot id) early least most = early
early_number NoMemory early least most = absurd (omega (arith, most))
early_number ForeignRoot early least most = early

early_writes : (status : Status) (view : SinkView) → IsEarly status → CountsWrites status view view
early_writes Done view early = absurd early
early_writes BadWords view early = record { faults = refl; refusals = λ m. refl; no_memory = λ m. inl refl }
early_writes (Refused refusal) view early = record { faults = refl; refusals = λ m. refl; no_memory = λ m. inl refl }
early_writes ReadFault view early = record { faults = refl; refusals = λ m. refl; no_memory = λ m. inl refl }
early_writes WriteFault view early = absurd early
early_writes StoreFault view early = absurd early
early_writes (Damaged id) view early = absurd early
early_writes (DamagedRoot id) view early = absurd early
early_writes ForeignRoot view early = absurd early
early_writes NoMemory view early = record { faults = refl; refusals = λ m. refl; no_memory = λ m. inl refl }

pub answers-early : {F K O : Type 0} (known : Known F K O) (call : Call) (status : Status) (folder now : F) (store : K) (out : O) → IsEarly status → (status ≡ BadWords) ↔ (call.command ≡ None)
    → ((refusal : Refusal) → status ≡ Refused refusal → HasRefused call refusal) → known.read_faults now ≡ read_faults_told status (known.read_faults folder)
    → KeepsFolder known.texts known.fetches call.command status folder now → RunAnswers known call (outside_of folder store out) status (outside_of now store out)
answers-early known call status folder now store out early bad refused read kept = record {
  done = λ e. absurd (subst IsEarly e early);
  stored = λ e. absurd (subst IsEarly e early);
  bad_words = bad;
  refused = refused;
  read_fault = read;
  write_fault = λ e. absurd (subst IsEarly e early);
  last_taken = λ e. absurd (subst IsEarly e early);
  store_fault = λ e. absurd (subst IsEarly e early);
  damaged = λ id e. absurd (subst IsEarly e early);
  no_root = early_no_root status early;
  store_part = λ least most. absurd (early_number status early least most);
  no_memory = λ e. inl refl;
  nothing_out = λ least most. refl;
  nothing_told = λ one least most. refl;
  folder = kept;
  store = record { no_run = λ n. refl; not_begun = λ least most. refl };
  store_count = counts_none call.command status (known.store store).faults (known.store store).faults refl (λ e. absurd (subst IsEarly e early));
  out_count = early_writes status (known.out out) early;
  never_fall = (
    never_falls-read status (known.read_faults folder) (known.read_faults now) read,
    never_falls-store (known.store store).faults (known.store store).faults (0, refl),
    never_fall-out status (known.out out) (known.out out) (early_writes status (known.out out) early),
  );
  told_before = λ told. told;
  answer = texts-answered (IsSome (known.store store).records) call status (record {
    bad_words = bad.0;
    refused = refused;
    done = λ e. absurd (subst IsEarly e early);
    cut_off = λ e. absurd (subst IsEarly e early);
    store = λ e. absurd (subst IsEarly e early);
    damaged = λ id e. absurd (subst IsEarly e early);
    no_root = early_no_root status early;
  });
}

-- the words are no command
pub answers-no_words : {F K O : Type 0} (known : Known F K O) (call : Call) (folder : F) (store : K) (out : O) → call.command ≡ None
    → RunAnswers known call (outside_of folder store out) BadWords (outside_of folder store out)
answers-no_words known call folder store out none =
    answers-early known call BadWords folder folder store out tt (λ e. none, λ e. refl) (λ refusal e. absurd (cc)) refl
    (record { texts_stay = refl; nothing_read = λ other. refl; asked_no_more = λ asked e. absurd (not_none call.command asked e none) })

-- there was no memory to read them
pub answers-unread : {F K O : Type 0} (known : Known F K O) (call : Call) (folder : F) (store : K) (out : O) → (call.command ≡ None → ⊥)
    → RunAnswers known call (outside_of folder store out) NoMemory (outside_of folder store out)
answers-unread known call folder store out some =
    answers-early known call NoMemory folder folder store out tt (λ e. absurd (cc), λ none. absurd (some none)) (λ refusal e. absurd (cc)) refl
    (record { texts_stay = refl; nothing_read = λ other. refl; asked_no_more = λ asked e. inl (refl, refl) })

-- the status that tells why the texts were not read
abbrev pub job_status : JobFault → Status
job_status job.Failed = ReadFault
job_status (job.Refused refusal) = Refused refusal
job_status job.NoMemory = NoMemory

-- a text was not read, or is refused
pub answers-not_read : {F K O : Type 0} (known : Known F K O) (call : Call) (command : Command) (fault : JobFault) (folder now : F) (store : K) (out : O) → call.command ≡ Some command
    → IfJobRefused (Refuses call.told command.texts) fault → known.read_faults now ≡ read_faults_after {T = Unit {0}} (Err fault) (known.read_faults folder)
    → KeepsFolder known.texts known.fetches call.command (job_status fault) folder now → RunAnswers known call (outside_of folder store out) (job_status fault) (outside_of now store out)
answers-not_read known call command job.Failed folder now store out e first read kept =
    answers-early known call ReadFault folder now store out tt (λ is. absurd (cc), λ none. absurd (not_none call.command command e none)) (λ refusal is. absurd (cc)) read kept
answers-not_read known call command (job.Refused refusal) folder now store out e first read kept =
    answers-early known call (Refused refusal) folder now store out tt (λ is. absurd (cc), λ none. absurd (not_none call.command command e none))
    (λ other is. record { command = command; words = e; first = subst (Refuses call.told command.texts) (ap refusal_in is) first }) read kept
  where
    refusal_in : Status → Refusal
    refusal_in (Refused r) = r
    refusal_in status = refusal
answers-not_read known call command job.NoMemory folder now store out e first read kept =
    answers-early known call NoMemory folder now store out tt (λ is. absurd (cc), λ none. absurd (not_none call.command command e none)) (λ refusal is. absurd (cc)) read kept

-- ---- the work was printed

done_no_root : TellsOfRoot Done → ⊥
done_no_root (inl (id, e)) = absurd (cc)
done_no_root (inr e) = absurd (cc)

pub answers-done : {F K O : Type 0} (known : Known F K O) (call : Call) (command : Command) (work : Work) (folder now : F) (store left : K) (out wrote : O) → call.command ≡ Some command
    → IsWork call.told command work → EndsWork {T = Unit {0}} (IsSome (known.store left).records) work (Ok tt) (known.store store) (known.store left) (known.out out) (known.out wrote)
    → (IsSome (known.store left).records → IsSome (known.store store).records) → StaysUnlessRun work store left → known.read_faults now ≡ known.read_faults folder → KeepsFolder known.texts known.fetches call.command Done folder now
    → RunAnswers known call (outside_of folder store out) Done (outside_of now left wrote)
answers-done known call command work folder now store left out wrote e j ends telling stays read kept =
    let tells = IsSome (known.store left).records in
    let printed = prints tells NoFaults NoneLeft call command work (λ text. IsWritten text (known.out out) (known.out wrote)) e j ends.printed in
    let writes = writes_all ends.printed.printed (known.out out) (known.out wrote) ends.printed.written in
    let counts = counts_none call.command Done (known.store store).faults (known.store left).faults ends.none (λ is. absurd (cc)) in
    record {
      done = λ is. printed;
      stored = λ is. left_of-call call command work (IsWholeRun tells (known.store left).records (known.out out) (known.out wrote)) e j ends.left;
      bad_words = (λ is. absurd (cc), λ none. absurd (not_none call.command command e none));
      refused = λ refusal is. absurd (cc);
      read_fault = read;
      write_fault = λ is. absurd (cc);
      last_taken = λ is. absurd (cc);
      store_fault = λ is. absurd (cc);
      damaged = λ id is. absurd (cc);
      no_root = done_no_root;
      store_part = λ least most. absurd (omega (arith, least));
      no_memory = λ is. absurd (cc);
      nothing_out = λ least most. absurd (omega (arith, least));
      nothing_told = λ one least most. absurd (omega (arith, least));
      folder = kept;
      store = store_kept call.told call.command command work Done store left e j stays (inl (lit< tt));
      store_count = counts;
      out_count = writes;
      never_fall = (
        never_falls-read Done (known.read_faults folder) (known.read_faults now) read,
        never_falls-store (known.store store).faults (known.store left).faults counts.rises,
        never_fall-out Done (known.out out) (known.out wrote) writes,
      );
      told_before = telling;
      answer = texts-answered tells call Done (record {
        bad_words = λ is. absurd (cc);
        refused = λ refusal is. absurd (cc);
        done = λ is. (printed.text.texts, printed.text.accepted);
        cut_off = λ is. absurd (cc);
        store = λ is. absurd (cc);
        damaged = λ id is. absurd (cc);
        no_root = done_no_root;
      });
    }

-- a fault of a run is told by none of the statuses before it
no_bad_words : (f : RunFault) → status_of f ≡ BadWords → ⊥
no_bad_words (Out output.Failed) e = absurd (cc)
no_bad_words (Out output.NoMemory) e = absurd (cc)
no_bad_words (Engine engine.StoreFault) e = absurd (cc)
no_bad_words (Engine (engine.Damaged id)) e = absurd (cc)
no_bad_words (Engine engine.NoMemory) e = absurd (cc)

fault_no_root : (f : RunFault) → TellsOfRoot (status_of f) → ⊥
fault_no_root (Out output.Failed) (inl (id, e)) = absurd (cc)
fault_no_root (Out output.Failed) (inr e) = absurd (cc)
fault_no_root (Out output.NoMemory) (inl (id, e)) = absurd (cc)
fault_no_root (Out output.NoMemory) (inr e) = absurd (cc)
fault_no_root (Engine engine.StoreFault) (inl (id, e)) = absurd (cc)
fault_no_root (Engine engine.StoreFault) (inr e) = absurd (cc)
fault_no_root (Engine (engine.Damaged n)) (inl (id, e)) = absurd (cc)
fault_no_root (Engine (engine.Damaged n)) (inr e) = absurd (cc)
fault_no_root (Engine engine.NoMemory) (inl (id, e)) = absurd (cc)
fault_no_root (Engine engine.NoMemory) (inr e) = absurd (cc)

no_refusal : (f : RunFault) (refusal : Refusal) → status_of f ≡ Refused refusal → ⊥
no_refusal (Out output.Failed) refusal e = absurd (cc)
no_refusal (Out output.NoMemory) refusal e = absurd (cc)
no_refusal (Engine engine.StoreFault) refusal e = absurd (cc)
no_refusal (Engine (engine.Damaged id)) refusal e = absurd (cc)
no_refusal (Engine engine.NoMemory) refusal e = absurd (cc)

no_read_fault : (f : RunFault) (count : ℕ) → read_faults_told (status_of f) count ≡ count
no_read_fault (Out output.Failed) count = refl
no_read_fault (Out output.NoMemory) count = refl
no_read_fault (Engine engine.StoreFault) count = refl
no_read_fault (Engine (engine.Damaged id)) count = refl
no_read_fault (Engine engine.NoMemory) count = refl

pub answers-fault : {F K O : Type 0} (known : Known F K O) (call : Call) (command : Command) (work : Work) (f : RunFault) (folder now : F) (store left : K) (out wrote : O) → call.command ≡ Some command
    → IsWork call.told command work → EndsWork {T = Unit {0}} (IsSome (known.store left).records) work (Err f) (known.store store) (known.store left) (known.out out) (known.out wrote)
    → (IsSome (known.store left).records → IsSome (known.store store).records) → StaysUnlessRun work store left → ((fault : EngineFault) → f ≡ Engine fault → StaysIfUnseen work out wrote) → known.read_faults now ≡ known.read_faults folder
    → KeepsFolder known.texts known.fetches call.command (status_of f) folder now → RunAnswers known call (outside_of folder store out) (status_of f) (outside_of now left wrote)
answers-fault known call command work f folder now store left out wrote e j ends telling stays quiet read kept =
    let tells = IsSome (known.store left).records in
    let count = (known.store store).faults in
    let last = (known.store left).faults in
    let first = known.out out in
    let final = known.out wrote in
    let writes = writes_until (Unit {0}) ends.cut_off.printed f first final ends.cut_off.written in
    let counts = counts_fault (Unit {0}) call.told call.command command work f count last e j ends.first ends.some ends.rises in
    let told = read ∙ sym (no_read_fault f (known.read_faults folder)) in
    let part = λ (is : status_of f ≡ WriteFault). prints_part (Unit {0}) tells call command work count last f output.Failed first final e j (write_of f is) ends.cut_off in
    let stopped = λ (is : status_of f ≡ StoreFault). run_of-call call command work (IsStoreFault tells count last (known.store left).records first final) e j (ends.store_fault (ap (λ (g : RunFault). Err g) (store_of f is))) in
    let broken = λ (id : ℕ) (is : status_of f ≡ Damaged id). run_of-call call command work (IsDamageIn tells count last id (known.store left).given first final) e j (ends.damaged id (ap (λ (g : RunFault). Err g) (damage_of f id is))) in
    record {
      done = λ is. absurd (late_done is);
      stored = λ is. absurd (late_done is);
      bad_words = (λ is. absurd (no_bad_words f is), λ none. absurd (not_none call.command command e none));
      refused = λ refusal is. absurd (no_refusal f refusal is);
      read_fault = told;
      write_fault = part;
      last_taken = λ is. left_of-call call command work (IsOutputFault tells count last (known.store left).records first final) e j (ends.last_taken (ap (λ (g : RunFault). Err g) (write_of f is)));
      store_fault = stopped;
      damaged = broken;
      no_root = fault_no_root f;
      store_part = λ least most. prints_first (Unit {0}) tells call command work count last f first final e j least most ends.cut_off;
      no_memory = λ is. inr (prints_no_memory (Unit {0}) tells call command work count last f first final e j is ends.cut_off);
      nothing_out = λ least most. absurd (omega (arith, most, late_fault f));
      nothing_told = λ one least most. nothing_told call.told call.command command work f out wrote e j quiet one least most;
      folder = kept;
      store = store_kept call.told call.command command work (status_of f) store left e j stays (inr (late_fault f));
      store_count = counts;
      out_count = writes;
      never_fall = (
        never_falls-read (status_of f) (known.read_faults folder) (known.read_faults now) told,
        never_falls-store count last ends.rises,
        never_fall-out (status_of f) first final writes,
      );
      told_before = telling;
      answer = texts-answered tells call (status_of f) (record {
        bad_words = λ is. absurd (no_bad_words f is);
        refused = λ refusal is. absurd (no_refusal f refusal is);
        done = λ is. absurd (late_done is);
        cut_off = λ is. let p = part is in (p.text.texts, p.text.accepted);
        store = λ is. accepted_of-run call (IsStoreFault tells count last (known.store left).records first final) (stopped is);
        damaged = λ id is.
            let r = broken id is in
            (accepted_of-run call (IsDamageIn tells count last id (known.store left).given first final) r, untold_of-damage tells count last id (known.store left).given first final r.manner _ _ r.so);
        no_root = fault_no_root f;
      });
    }
  where
    late_done : status_of f ≡ Done → ⊥
    late_done is = absurd (omega (arith, late_fault f, ap status_number is))

-- ---- once the status is told

-- a status with a word of its own is not that of bad words
word_not_bad : (status : Status) → HasWord status → status ≡ BadWords → ⊥
word_not_bad status (inl (refusal, e)) b = bad (sym e ∙ b)
  where
    bad : Refused refusal ≡ BadWords → ⊥
    bad h = absurd (cc)
word_not_bad status (inr (inl (id, e))) b = bad (sym e ∙ b)
  where
    bad : Damaged id ≡ BadWords → ⊥
    bad h = absurd (cc)
word_not_bad status (inr (inr (id, e))) b = bad (sym e ∙ b)
  where
    bad : DamagedRoot id ≡ BadWords → ⊥
    bad h = absurd (cc)

-- where there was no memory for the line, nothing was written or first bytes
word_part : {F K O : Type 0} (known : Known F K O) (call : Call) (before : Outside F K O) (status : Status) (after : Outside F K O) → HasWord status → RunAnswers known call before status after
    → (after.out ≡ before.out) ⊎ PrintsPart (TellsRecords known after) call (known.store before.store).faults (known.store after.store).faults output.NoMemory (known.out before.out) (known.out after.out)
word_part known call before status after (inl (refusal, e)) a =
    let among = refusal_numbers refusal.code in
    inl (a.nothing_out (subst (λ (s : Status). 2 ≤ status_number s) (sym e) among.0) (subst (λ (s : Status). status_number s ≤ 6) (sym e) (omega (arith, among.1))))
word_part known call before status after (inr (inr root)) a = absurd (a.no_root (inl root))
word_part known call before status after (inr (inl (id, e))) a =
    inr (part_of-first (TellsRecords known after) call (known.store before.store).faults (known.store after.store).faults (known.out before.out) (known.out after.out)
    (a.store_part (subst (λ (s : Status). 8 ≤ status_number s) (sym e) (omega arith)) (subst (λ (s : Status). status_number s ≤ 9) (sym e) (omega arith))))

memory_no_root : TellsOfRoot NoMemory → ⊥
memory_no_root (inl (id, e)) = absurd (cc)
memory_no_root (inr e) = absurd (cc)

told_no_memory : {F K O : Type 0} (known : Known F K O) (call : Call) (before : Outside F K O) (status : Status) (after : Outside F K O) → HasWord status → RunAnswers known call before status after
    → RunAnswers known call before NoMemory after
told_no_memory known call before status after word a =
    let telling : IsTellingOf status NoMemory = inr (word, refl) in
    record {
      done = λ is. absurd (cc);
      stored = λ is. absurd (cc);
      bad_words = (λ is. absurd (cc), λ none. absurd (word_not_bad status word (a.bad_words.1 none)));
      refused = λ refusal is. absurd (cc);
      read_fault = read_told status NoMemory (known.read_faults before.folder) (known.read_faults after.folder) telling a.read_fault;
      write_fault = λ is. absurd (cc);
      last_taken = λ is. absurd (cc);
      store_fault = λ is. absurd (cc);
      damaged = λ id is. absurd (cc);
      no_root = memory_no_root;
      store_part = λ least most. absurd (omega (arith, most));
      no_memory = λ is. word_part known call before status after word a;
      nothing_out = λ least most. absurd (omega (arith, most));
      nothing_told = λ one least most. absurd (omega (arith, most));
      folder = folder_told known.texts known.fetches call.command status NoMemory before.folder after.folder telling a.folder;
      store = store_told call.command status NoMemory before.store after.store telling a.store;
      store_count = counts_told call.command status NoMemory (known.store before.store).faults (known.store after.store).faults telling a.store_count;
      out_count = writes_told status NoMemory (known.out before.out) (known.out after.out) telling a.out_count;
      never_fall = a.never_fall;
      told_before = a.told_before;
      answer = record { decided = a.answer.decided; refuses = λ refusal tells first. inr (inr refl); completes = λ texts accepted tells. inr (inr (inr (inr (inr refl)))) };
    }

pub answers-told : {F K O : Type 0} (known : Known F K O) (call : Call) (before : Outside F K O) (status result : Status) (after : Outside F K O) → IsTellingOf status result
    → RunAnswers known call before status after → RunAnswers known call before result after
answers-told known call before status result after (inl e) a = subst (λ (s : Status). RunAnswers known call before s after) (sym e) a
answers-told known call before status result after (inr (word, e)) a = subst (λ (s : Status). RunAnswers known call before s after) (sym e) (told_no_memory known call before status after word a)
