-- From the work of a command and what was printed of it to what a call promises.
use Rattle.std.proofs.Common.{◌≡◌, inl, inr, ◌⊎◌, ℕ, ◌<◌, ◌≤◌, Bool, true, false, List, [], Option, Some, None, Err, refl, sym, ◌∙◌, ap, subst, arith, lit<}
use Rattle.std.proofs.lemmas.Bool.{cases_Bool, false≢true}
use Rattle.std.proofs.lemmas.Option.{same_Some}
use Rattle.std.specs.Prelude.{IsSome, is_some, option_map, option_and_then}
use Rattle.std.specs.Result.{IsErrOf}
use Rattle.fw_outside.specs.declared.fault.OutFault.{OutFault}
use Rattle.fw_outside.specs.declared.fault.OutFault.TheVariants as output
use Rattle.fw_outside.specs.Outside.{SinkView}
use Rattle.fw_lines.specs.declared.refusal.Refusal.{Refusal}
use Rattle.fw_flow.specs.Dataflow.{Dataflow, System, system_of}
use Rattle.fw_schedule.specs.declared.item.Item.{Item}
use Rattle.fw_generate.specs.Texts.{Texts}
use Rattle.fw_keep.specs.Stored.{Records, IsEmptyStore}
use Rattle.fw_running.specs.declared.fault.EngineFault.{EngineFault}
use Rattle.fw_running.specs.declared.fault.EngineFault.TheVariants as engine
use Rattle.fw_run.proofs.DecidedLaws.{texts-decided}
use Rattle.fw_run.proofs.FaultLaws.{store_of}
use Rattle.fw_run.proofs.FaultCounts.{rose_by}
use Rattle.fw_command.proofs.TextLaws.{one_first_refusal, accepted_or_refused, accepts_three}
use Rattle.fw_command.proofs.WritingLaws.{cut_of-part}
use Rattle.fw_run.specs.declared.fault.RunFault.{RunFault}
use Rattle.fw_run.specs.declared.fault.RunFault.TheVariants.{Out, Engine}
use Rattle.fw_run.specs.declared.status.Status.{Status}
use Rattle.fw_run.specs.declared.status.Status.TheVariants.{Done, BadWords, Refused, ReadFault, WriteFault, StoreFault, Damaged, DamagedRoot, NoMemory, ForeignRoot}
use Rattle.fw_run.specs.declared.work.Work.{Work}
use Rattle.fw_run.specs.declared.work.Work.TheVariants.{Run, Denote, Check}
use Rattle.fw_run.specs.Call.{Call, CountsFaults, Prints, HasAccepted, HasRefused, IsPrintout, PrintsPart, PrintsFirst, IsRunOf, KeepsFolder, KeepsStore, AnswersTexts, IsRunEnd, IsRefusalEnd}
use Rattle.fw_command.specs.DenotationText.{PrintsDenotation}
use Rattle.fw_run.specs.Ends.{PrintsOfRun, SomeLeft, IsDamageIn, StaysUnseen}
use Rattle.fw_run.specs.Enduring.{RoseIfOn, RoseByFaults, StaysOrRose}
use Rattle.fw_run.specs.Fault.{faults_after_run, status_of}
use Rattle.fw_command.specs.Manner.{told_in}
use Rattle.fw_run.specs.Status.{HasWord, IsTellingOf, TellsOfRoot, store_faults_told, status_number}
use Rattle.fw_command.specs.Texts.{HasFlow, HasTexts, Accepts, Refuses, AsksNoMore, spelled_system, spelled_items}
use Rattle.fw_command.specs.Command.{Command, check, Origin, in_folder, generated, Task, tells_denotation, lists_nodes, Manner, manner_in, manner_of, are_in_folder, IsUnseen, GoesOnThrough, asks_folder}
use Rattle.fw_run.specs.Work.{IsWork, IsStoreFor, task_of, flow_in, Spells, EndsAtFault, IsRun, IfRun, IsTextOfWork, PrintsWork, StaysUnlessRun, StaysIfUnseen}
use Rattle.fw_command.specs.Writing.{IsPartWritten, IsCutOff, WritesText}

-- words are one command
same_command : (command : Option Command) (one other : Command) → command ≡ Some one → command ≡ Some other → one ≡ other
same_command command one other e f = same_Some one other (sym e ∙ f)

-- ---- the work of a command

-- what is true of a system and items is true of those that texts spell, if they do
of_texts : (flow : Dataflow) (texts : Texts) (sys : System) (items : List Item) (P : System → List Item → Type 0) → sys ≡ spelled_system flow texts → items ≡ spelled_items flow texts
    → P sys items → P (spelled_system flow texts) (spelled_items flow texts)
of_texts flow texts sys items P e f p = subst (λ (i : List Item). P (spelled_system flow texts) i) f (subst (λ (s : System). P s items) e p)

-- a flow that was read is the work of a check
pub work_of-flow : (told : Option (List ℕ → Option (List ℕ))) (name : List ℕ) (flow : Dataflow) → HasFlow told name flow → IsWork told (check name) (Check flow)
work_of-flow told name flow h = record {
  does = refl;
  texts = record { flow = h.text; inputs = []; schedule = [] };
  there = (h.there, tt);
  accepted = (h.so, tt);
  spelled = tt;
}

-- a store that holds no record is as each work asks
pub store_for : (work : Work) (records : Option Records) → IsEmptyStore records → IsStoreFor work records
store_for (Run manner job) records empty = empty
store_for (Denote fed) records empty = tt
store_for (Check flow) records empty = tt

-- ---- what was printed

-- what the work prints is what its task prints of texts that spell it
prints_spelled : (Tells : Type 0) (IsCount : Bool → ℕ → Type 0) (IsLeft : List ℕ → Type 0) (work : Work) (texts : Texts) (printed : List ℕ) → Spells work texts → IsTextOfWork Tells IsCount IsLeft work printed
    → Prints Tells IsCount IsLeft (task_of work) texts (flow_in work) printed
prints_spelled Tells IsCount IsLeft (Run manner job) texts printed s p =
    of_texts job.flow texts (system_of job.flow job.batches) job.items (λ sys items. PrintsOfRun Tells IsCount IsLeft (told_in manner) sys items printed) s.system s.items p
prints_spelled Tells IsCount IsLeft (Denote fed) texts printed s p = subst (λ (sys : System). PrintsDenotation sys printed) s p
prints_spelled Tells IsCount IsLeft (Check flow) texts printed s p = p

-- what a work prints is what the call prints that asked for it
printout_of_work : (Tells : Type 0) (IsCount : Bool → ℕ → Type 0) (IsLeft : List ℕ → Type 0) (call : Call) (command : Command) (work : Work) (printed : List ℕ) → call.command ≡ Some command → IsWork call.told command work
    → IsTextOfWork Tells IsCount IsLeft work printed → IsPrintout Tells IsCount IsLeft call printed
printout_of_work Tells IsCount IsLeft call command work printed e j p = record {
  texts = j.texts;
  accepted = record { command = command; words = e; there = j.there; flow = flow_in work; accepted = j.accepted };
  text = subst (λ (task : Task). Prints Tells IsCount IsLeft task j.texts (flow_in work) printed) (sym j.does) (prints_spelled Tells IsCount IsLeft work j.texts printed j.spelled p);
}

-- and so is what was written of it
pub prints : (Tells : Type 0) (IsCount : Bool → ℕ → Type 0) (IsLeft : List ℕ → Type 0) (call : Call) (command : Command) (work : Work) (IsPut : List ℕ → Type 0) → call.command ≡ Some command → IsWork call.told command work
    → WritesText (IsTextOfWork Tells IsCount IsLeft work) IsPut → WritesText (IsPrintout Tells IsCount IsLeft call) IsPut
prints Tells IsCount IsLeft call command work IsPut e j p =
    record { printed = p.printed; text = printout_of_work Tells IsCount IsLeft call command work p.printed e j p.text; written = p.written }

-- what was cut off by a fault of the output
pub prints_part : (T : Type 0) (Tells : Type 0) (call : Call) (command : Command) (work : Work) (count last : ℕ) (fault : RunFault) (of_output : OutFault) (before after : SinkView) → call.command ≡ Some command
    → IsWork call.told command work → fault ≡ Out of_output → PrintsWork {T = T} Tells (RoseIfOn count last) SomeLeft work (Err fault) before after
    → PrintsPart Tells call count last of_output before after
prints_part T Tells call command work count last fault of_output before after e j f p =
    prints Tells (RoseIfOn count last) SomeLeft call command work (λ printed. IsCutOff printed of_output before after) e j
    (subst (λ (g : RunFault). PrintsWork {T = T} Tells (RoseIfOn count last) SomeLeft work (Err g) before after) f p)

-- what was cut off where memory was refused
pub prints_no_memory : (T : Type 0) (Tells : Type 0) (call : Call) (command : Command) (work : Work) (count last : ℕ) (fault : RunFault) (before after : SinkView) → call.command ≡ Some command
    → IsWork call.told command work → status_of fault ≡ NoMemory → PrintsWork {T = T} Tells (RoseIfOn count last) SomeLeft work (Err fault) before after
    → PrintsPart Tells call count last output.NoMemory before after
prints_no_memory T Tells call command work count last (Out output.Failed) before after e j f p = absurd (cc)
prints_no_memory T Tells call command work count last (Out output.NoMemory) before after e j f p =
    prints Tells (RoseIfOn count last) SomeLeft call command work (λ printed. IsCutOff printed output.NoMemory before after) e j p
prints_no_memory T Tells call command work count last (Engine engine.StoreFault) before after e j f p = absurd (cc)
prints_no_memory T Tells call command work count last (Engine (engine.Damaged id)) before after e j f p = absurd (cc)
prints_no_memory T Tells call command work count last (Engine engine.NoMemory) before after e j f p =
    prints Tells (RoseIfOn count last) SomeLeft call command work (λ printed. IsCutOff printed output.NoMemory before after) e j
    (record { printed = p.printed; text = p.text; written = cut_of-part p.printed before after p.written })

-- what was written where the store ended the run
pub prints_first : (T : Type 0) (Tells : Type 0) (call : Call) (command : Command) (work : Work) (count last : ℕ) (fault : RunFault) (before after : SinkView) → call.command ≡ Some command
    → IsWork call.told command work → 8 ≤ status_number (status_of fault) → status_number (status_of fault) ≤ 9
    → PrintsWork {T = T} Tells (RoseIfOn count last) SomeLeft work (Err fault) before after → PrintsFirst Tells call count last before after
prints_first T Tells call command work count last (Out output.Failed) before after e j least most p = absurd (omega (arith, least))
prints_first T Tells call command work count last (Out output.NoMemory) before after e j least most p = absurd (omega (arith, most))
prints_first T Tells call command work count last (Engine fault) before after e j least most p =
    prints Tells (RoseIfOn count last) SomeLeft call command work (λ printed. IsPartWritten printed before after) e j p

-- so it is where memory was refused to tell it
pub part_of-first : (Tells : Type 0) (call : Call) (count last : ℕ) (before after : SinkView) → PrintsFirst Tells call count last before after
    → PrintsPart Tells call count last output.NoMemory before after
part_of-first Tells call count last before after p = record { printed = p.printed; text = p.text; written = cut_of-part p.printed before after p.written }

-- ---- runs

-- what is true of a work that takes steps is true of the call that asked for it
pub run_of-call : (call : Call) (command : Command) (work : Work) (P : Manner → System → List Item → Type 0) → call.command ≡ Some command → IsWork call.told command work → IsRun work P → IsRunOf call P
run_of-call call command (Run manner job) P e j p = record {
  command = command;
  words = e;
  manner = told_in manner;
  takes = ap manner_in j.does;
  texts = j.texts;
  there = j.there;
  flow = job.flow;
  accepted = j.spelled.accepted;
  so = of_texts job.flow j.texts (system_of job.flow job.batches) job.items (P (told_in manner)) j.spelled.system j.spelled.items p;
}
run_of-call call command (Denote fed) P e j p = absurd p
run_of-call call command (Check flow) P e j p = absurd p

-- a command that takes no steps has no manner to tell them
no_manner : (call : Call) (command asked : Command) (task : Task) → call.command ≡ Some command → command.task ≡ task → manner_in task ≡ None → call.command ≡ Some asked → IsSome (manner_of asked) → ⊥
no_manner call command asked task e does none f some =
    false≢true (sym (ap is_some (ap manner_of (same_command call.command asked command f e) ∙ ap manner_in does ∙ none)) ∙ some)

pub left_of-call : (call : Call) (command : Command) (work : Work) (P : Manner → System → List Item → Type 0) → call.command ≡ Some command → IsWork call.told command work → IfRun work P
    → (asked : Command) → call.command ≡ Some asked → IsSome (manner_of asked) → IsRunOf call P
left_of-call call command (Run manner job) P e j p asked f s = run_of-call call command (Run manner job) P e j p
left_of-call call command (Denote fed) P e j p asked f s = absurd (no_manner call command asked tells_denotation e j.does refl f s)
left_of-call call command (Check flow) P e j p asked f s = absurd (no_manner call command asked lists_nodes e j.does refl f s)

-- work that takes no steps leaves the store as it is
stays_unless_run : {K : Type 0} (told : Option (List ℕ → Option (List ℕ))) (command : Command) (work : Work) (before after : K) → IsWork told command work
    → manner_of command ≡ None → StaysUnlessRun work before after → after ≡ before
stays_unless_run told command (Run manner job) before after j n s = absurd (some (sym (ap manner_in j.does) ∙ n))
  where
    some : Some (told_in manner) ≡ None → ⊥
    some e = absurd (cc)
stays_unless_run told command (Denote fed) before after j n s = s
stays_unless_run told command (Check flow) before after j n s = s

-- a status that is not one of those before a run
abbrev pub IsNotBefore : Status → Type 0
IsNotBefore status = (status_number status < 2) ⊎ (6 < status_number status)

not_before : (n : ℕ) → (n < 2) ⊎ (6 < n) → 2 ≤ n → n ≤ 6 → ⊥
not_before n (inl less) least most = absurd (omega (arith, less, least))
not_before n (inr more) least most = absurd (omega (arith, more, most))

-- the store, once the work was printed
pub store_kept : {K : Type 0} (told : Option (List ℕ → Option (List ℕ))) (command : Option Command) (asked : Command) (work : Work) (status : Status) (before after : K)
    → command ≡ Some asked → IsWork told asked work → StaysUnlessRun work before after → IsNotBefore status → KeepsStore command status before after
store_kept told command asked work status before after e j s late = record {
  no_run = λ n. stays_unless_run told asked work before after j (sym (ap (λ c. option_and_then manner_of c) e) ∙ n) s;
  not_begun = λ least most. absurd (not_before (status_number status) late least most);
}

-- a status that tells a fault is not one of those before a run
pub late_fault : (f : RunFault) → 6 < status_number (status_of f)
late_fault (Out output.Failed) = lit< tt
late_fault (Out output.NoMemory) = lit< tt
late_fault (Engine engine.StoreFault) = lit< tt
late_fault (Engine (engine.Damaged id)) = lit< tt
late_fault (Engine engine.NoMemory) = lit< tt

-- the folder, once the texts were read
pub folder_read : {F : Type 0} (texts : F → Option (List ℕ → Option (List ℕ))) (fetch_count : F → ℕ) (command : Option Command) (asked : Command) (status : Status) (before after : F)
    → command ≡ Some asked → texts after ≡ texts before → (asks_folder asked ≡ false → after ≡ before) → AsksNoMore (texts before) asked.texts (fetch_count before) (fetch_count after)
    → KeepsFolder texts fetch_count command status before after
folder_read texts fetch_count command asked status before after e stay stays more = record {
  texts_stay = stay;
  nothing_read = λ not_asked. elim (cases_Bool (asks_folder asked)) [
    | inl asks ↦ absurd (not_asked (ap (λ c. option_map asks_folder c) e ∙ ap Some asks))
    | inr asks_not ↦ stays asks_not
  ];
  asked_no_more = λ other f. inr (subst (λ (c : Command). AsksNoMore (texts before) c.texts (fetch_count before) (fetch_count after)) (same_command command asked other e f) more);
}

-- ---- one answer

-- where the folder tells its texts, if it is asked, a command does not accept some and refuse one
accepts_and_refuses : (told : Option (List ℕ → Option (List ℕ))) (origin : Origin) (texts : Texts) (flow : Dataflow) (refusal : Refusal) → (are_in_folder origin ≡ true → IsSome told)
    → HasTexts told origin texts → Accepts origin texts flow → Refuses told origin refusal → ⊥
accepts_and_refuses (Some folder) origin texts flow refusal s t a f = accepted_or_refused folder origin texts flow refusal t a f
accepts_and_refuses None (in_folder name others) texts flow refusal s t a f = absurd (false≢true (s refl))
accepts_and_refuses None (generated seeded) texts flow refusal s t a f = f

-- nor refuse one in two ways
refuses_once : (told : Option (List ℕ → Option (List ℕ))) (origin : Origin) (one other : Refusal) → IsSome told → Refuses told origin one → Refuses told origin other → one ≡ other
refuses_once None origin one other s f g = absurd (false≢true s)
refuses_once (Some folder) origin one other s f g = one_first_refusal folder origin one other f g

-- no call has texts that are accepted and one that is refused
pub accepted_and_refused : (call : Call) (texts : Texts) (refusal : Refusal) → (a : HasAccepted call texts) → (asks_folder a.command ≡ true → IsSome call.told) → HasRefused call refusal → ⊥
accepted_and_refused call texts refusal a tells f =
    accepts_and_refuses call.told a.command.texts texts a.flow refusal tells a.there a.accepted
    (subst (λ (command : Command). Refuses call.told command.texts refusal) (same_command call.command f.command a.command f.words a.words) f.first)

-- and it has one refusal
pub one_refusal : (call : Call) (one other : Refusal) → IsSome call.told → HasRefused call one → HasRefused call other → one ≡ other
one_refusal call one other tells p q =
    refuses_once call.told q.command.texts one other tells
    (subst (λ (command : Command). Refuses call.told command.texts one) (same_command call.command p.command q.command p.words q.words) p.first) q.first

-- words that are a command are not none
pub not_none : (command : Option Command) (asked : Command) → command ≡ Some asked → command ≡ None → ⊥
not_none command asked e f = none (sym e ∙ f)
  where
    none : Some asked ≡ None → ⊥
    none h = absurd (cc)

-- and so once the status is told
pub folder_told : {F : Type 0} (texts : F → Option (List ℕ → Option (List ℕ))) (fetch_count : F → ℕ) (command : Option Command) (status result : Status) (before after : F)
    → IsTellingOf status result → KeepsFolder texts fetch_count command status before after → KeepsFolder texts fetch_count command result before after
folder_told texts fetch_count command status result before after t k = record {
  texts_stay = k.texts_stay;
  nothing_read = k.nothing_read;
  asked_no_more = λ asked e. elim (k.asked_no_more asked e) [ inl none ↦ inl (memory t none.0, none.1) | inr more ↦ inr more ];
}
  where
    memory : IsTellingOf status result → status ≡ NoMemory → result ≡ NoMemory
    memory (inl e) m = e ∙ m
    memory (inr r) m = r.1

-- ---- what texts bring about

-- what a run's status says of the texts
pub record IsToldOf (Tells : Type 0) (call : Call) (status : Status) : Type 0 where
  pub bad_words : status ≡ BadWords → call.command ≡ None
  pub refused : (refusal : Refusal) → status ≡ Refused refusal → HasRefused call refusal
  pub done : status ≡ Done → (texts : Texts) × HasAccepted call texts
  pub cut_off : status ≡ WriteFault → (texts : Texts) × HasAccepted call texts
  pub store : status ≡ StoreFault → (texts : Texts) × HasAccepted call texts
  pub damaged : (id : ℕ) → status ≡ Damaged id → ((texts : Texts) × HasAccepted call texts) × (Tells → ⊥)
  pub no_root : TellsOfRoot status → ⊥

-- a run has accepted texts
pub accepted_of-run : (call : Call) (P : Manner → System → List Item → Type 0) → IsRunOf call P → (texts : Texts) × HasAccepted call texts
accepted_of-run call P r =
    (r.texts, record { command = r.command; words = r.words; there = r.there; flow = r.flow; accepted = accepts_three r.command.texts r.texts r.flow r.accepted })

-- a damaged record ends a run only where the store does not tell its records
pub untold_of-damage : (Tells : Type 0) (count last id : ℕ) (given : Option (ℕ × List ℕ)) (before after : SinkView) (manner : Manner) (sys : System) (items : List Item)
    → IsDamageIn Tells count last id given before after manner sys items → Tells → ⊥
untold_of-damage Tells count last id given before after manner sys items d = d.untold

refuses : (Tells : Type 0) (call : Call) (status : Status) → IsToldOf Tells call status → (refusal : Refusal) → IsSome call.told → HasRefused call refusal → IsRefusalEnd refusal status
refuses Tells call Done s refusal tells first = let p = s.done refl in absurd (accepted_and_refused call p.0 refusal p.1 (λ asks. tells) first)
refuses Tells call BadWords s refusal tells first = absurd (not_none call.command first.command first.words (s.bad_words refl))
refuses Tells call (Refused other) s refusal tells first = inl (ap Refused (one_refusal call other refusal tells (s.refused other refl) first))
refuses Tells call ReadFault s refusal tells first = inr (inl refl)
refuses Tells call WriteFault s refusal tells first = let p = s.cut_off refl in absurd (accepted_and_refused call p.0 refusal p.1 (λ asks. tells) first)
refuses Tells call StoreFault s refusal tells first = let p = s.store refl in absurd (accepted_and_refused call p.0 refusal p.1 (λ asks. tells) first)
refuses Tells call (Damaged id) s refusal tells first = let p = (s.damaged id refl).0 in absurd (accepted_and_refused call p.0 refusal p.1 (λ asks. tells) first)
refuses Tells call (DamagedRoot id) s refusal tells first = absurd (s.no_root (inl (id, refl)))
refuses Tells call ForeignRoot s refusal tells first = absurd (s.no_root (inr refl))
refuses Tells call NoMemory s refusal tells first = inr (inr refl)

completes : (Tells : Type 0) (call : Call) (status : Status) → IsToldOf Tells call status → (texts : Texts) → (a : HasAccepted call texts)
    → (asks_folder a.command ≡ true → IsSome call.told) → IsRunEnd Tells status
completes Tells call Done s texts a tells = inl refl
completes Tells call BadWords s texts a tells = absurd (not_none call.command a.command a.words (s.bad_words refl))
completes Tells call (Refused refusal) s texts a tells = absurd (accepted_and_refused call texts refusal a tells (s.refused refusal refl))
completes Tells call ReadFault s texts a tells = inr (inl refl)
completes Tells call WriteFault s texts a tells = inr (inr (inl refl))
completes Tells call StoreFault s texts a tells = inr (inr (inr (inl refl)))
completes Tells call (Damaged id) s texts a tells = inr (inr (inr (inr (inl ((id, refl), (s.damaged id refl).1)))))
completes Tells call (DamagedRoot id) s texts a tells = absurd (s.no_root (inl (id, refl)))
completes Tells call ForeignRoot s texts a tells = absurd (s.no_root (inr refl))
completes Tells call NoMemory s texts a tells = inr (inr (inr (inr (inr refl))))

-- what the texts bring about
pub texts-answered : (Tells : Type 0) (call : Call) (status : Status) → IsToldOf Tells call status → AnswersTexts Tells call status
texts-answered Tells call status s = record { decided = λ command. texts-decided call.told command.texts; refuses = refuses Tells call status s; completes = completes Tells call status s }

-- ---- what was told

-- the store, once the status is told
pub store_told : {K : Type 0} (command : Option Command) (status result : Status) (before after : K) → IsTellingOf status result → KeepsStore command status before after
    → KeepsStore command result before after
store_told command status result before after (inl e) k = subst (λ (s : Status). KeepsStore command s before after) (sym e) k
store_told command status result before after (inr t) k = record {
  no_run = k.no_run;
  not_begun = λ least most. absurd (not_before (status_number result) (inr (subst (λ (s : Status). 6 < status_number s) (sym t.1) (lit< tt))) least most);
}

-- damage is no good end
pub damaged_not_done : (id : ℕ) → Damaged id ≡ Done → ⊥
damaged_not_done id e = absurd (cc)

-- nor is that of a root
pub damaged_root_not_done : (id : ℕ) → DamagedRoot id ≡ Done → ⊥
damaged_root_not_done id e = absurd (cc)

-- ---- how often the store failed

-- it did not
pub counts_none : (command : Option Command) (status : Status) (before after : ℕ) → after ≡ before → (status ≡ StoreFault → ⊥) → CountsFaults command status before after
counts_none command status before after same other = record {
  none = λ e. same;
  once = λ once. same ∙ sym (none status other);
  some = λ e. absurd (other e);
  rose = λ e. absurd (other e);
  rises = (0, same);
}
  where
    none : (s : Status) → (s ≡ StoreFault → ⊥) → store_faults_told s before ≡ before
    none Done o = refl
    none BadWords o = refl
    none (Refused refusal) o = refl
    none ReadFault o = refl
    none WriteFault o = refl
    none StoreFault o = absurd (o refl)
    none (Damaged id) o = refl
    none (DamagedRoot id) o = refl
    none NoMemory o = refl
    none ForeignRoot o = refl

-- the status tells what the answer does
count_told : (T : Type 0) (f : RunFault) (before after : ℕ) → after ≡ faults_after_run {T = T} (Err f) before → after ≡ store_faults_told (status_of f) before
count_told T (Out output.Failed) before after e = e
count_told T (Out output.NoMemory) before after e = e
count_told T (Engine engine.StoreFault) before after e = e
count_told T (Engine (engine.Damaged id)) before after e = e
count_told T (Engine engine.NoMemory) before after e = e

fault_not_done : (f : RunFault) → status_of f ≡ Done → ⊥
fault_not_done (Out output.Failed) e = absurd (cc)
fault_not_done (Out output.NoMemory) e = absurd (cc)
fault_not_done (Engine engine.StoreFault) e = absurd (cc)
fault_not_done (Engine (engine.Damaged id)) e = absurd (cc)
fault_not_done (Engine engine.NoMemory) e = absurd (cc)

-- the work of a command that does not go on through faults ended at the first
ends_at_fault : (T : Type 0) (told : Option (List ℕ → Option (List ℕ))) (f : RunFault) (before after : ℕ) (command : Command) (work : Work) → IsWork told command work
    → (GoesOnThrough (Some command) → ⊥) → EndsAtFault {T = T} work (Err f) before after → after ≡ store_faults_told (status_of f) before
ends_at_fault T told f before after command (Run manner job) j once ends = elim (cases_Bool manner.course.goes_on) [
  | inl on ↦ absurd (once (told_in manner, ap manner_in j.does, on))
  | inr off ↦ count_told T f before after (ends off)
]
ends_at_fault T told f before after command (Denote fed) j once ends = count_told T f before after ends
ends_at_fault T told f before after command (Check flow) j once ends = count_told T f before after ends

pub counts_fault : (T : Type 0) (told : Option (List ℕ → Option (List ℕ))) (command : Option Command) (asked : Command) (work : Work) (f : RunFault) (before after : ℕ) → command ≡ Some asked
    → IsWork told asked work → EndsAtFault {T = T} work (Err f) before after → (IsErrOf {T = T} (Err f) (Engine engine.StoreFault) → RoseByFaults before after)
    → StaysOrRose before after → CountsFaults command (status_of f) before after
counts_fault T told command asked work f before after e j ends some rises = record {
  none = λ done. absurd (fault_not_done f done);
  once = λ once. ends_at_fault T told f before after asked work j (λ on. once (subst GoesOnThrough (sym e) on)) ends;
  some = λ is. some (ap (λ (g : RunFault). Err g) (store_of f is));
  rose = λ is. rose_by before after (some (ap (λ (g : RunFault). Err g) (store_of f is)));
  rises = rises;
}

-- and so once the status is told
pub counts_told : (command : Option Command) (status result : Status) (before after : ℕ) → IsTellingOf status result → CountsFaults command status before after
    → CountsFaults command result before after
counts_told command status result before after (inl e) k = subst (λ (s : Status). CountsFaults command s before after) (sym e) k
counts_told command status result before after (inr t) k = record {
  none = λ done. absurd (not_done (sym t.1 ∙ done));
  once = λ once. k.once once ∙ quiet t.0 ∙ sym (ap (λ (s : Status). store_faults_told s before) t.1);
  some = λ fault. absurd (not_fault (sym t.1 ∙ fault));
  rose = λ fault. absurd (not_fault (sym t.1 ∙ fault));
  rises = k.rises;
}
  where
    not_done : NoMemory ≡ Done → ⊥
    not_done h = absurd (cc)

    not_fault : NoMemory ≡ StoreFault → ⊥
    not_fault h = absurd (cc)

    quiet : HasWord status → store_faults_told status before ≡ before
    quiet (inl (refusal, e)) = ap (λ (s : Status). store_faults_told s before) e
    quiet (inr (inl (id, e))) = ap (λ (s : Status). store_faults_told s before) e
    quiet (inr (inr (id, e))) = ap (λ (s : Status). store_faults_told s before) e

-- ---- a run whose steps are not seen

-- where the engine took no step more, it was told nothing
pub nothing_told : {O : Type 0} (told : Option (List ℕ → Option (List ℕ))) (command : Option Command) (asked : Command) (work : Work) (f : RunFault) (before after : O) → command ≡ Some asked
    → IsWork told asked work → ((fault : EngineFault) → f ≡ Engine fault → StaysIfUnseen work before after) → IsUnseen command
    → 8 ≤ status_number (status_of f) → status_number (status_of f) ≤ 9 → after ≡ before
nothing_told {O} told command asked work f before after e j stays one least most = stays_there f stays least most
  where
    told_so : manner_in (task_of work) ≡ Some one.0
    told_so = sym (ap manner_in j.does) ∙ sym (ap (λ c. option_and_then manner_of c) e) ∙ one.1

    unseen : (is_seen : Bool) → is_seen ≡ false → StaysUnseen is_seen before after → after ≡ before
    unseen true h s = absurd (cc)
    unseen false h s = s

    of_work : (w : Work) → manner_in (task_of w) ≡ Some one.0 → StaysIfUnseen w before after → after ≡ before
    of_work (Run manner job) k s =
        let same : told_in manner ≡ one.0 = same_Some (told_in manner) one.0 k in
        unseen manner.is_seen (ap (λ (m : Manner). m.is_seen) same ∙ one.3) (s (ap (λ (m : Manner). m.course.goes_on) same ∙ one.2))
    of_work (Denote fed) k s = absurd (cc)
    of_work (Check flow) k s = absurd (cc)

    stays_there : (g : RunFault) → ((fault : EngineFault) → g ≡ Engine fault → StaysIfUnseen work before after)
        → 8 ≤ status_number (status_of g) → status_number (status_of g) ≤ 9 → after ≡ before
    stays_there (Out output.Failed) s l m = absurd (omega (arith, l))
    stays_there (Out output.NoMemory) s l m = absurd (omega (arith, m))
    stays_there (Engine fault) s l m = of_work work told_so (s fault refl)
