-- What accepted texts spell is a well-formed system, and texts have one answer.
use Rattle.std.proofs.Common.{◌≡◌, inl, inr, ℕ, ◌≤◌, List, [], ◌∷◌, map, Option, Some, refl, sym, ◌∙◌, ap, subst}
use Rattle.std.proofs.lemmas.Option.{same_Some}
use Rattle.sha2.specs.Sha256.{sha256}
use Rattle.fw_outside.specs.Outside.{IsText, one_more}
use Rattle.fw_bag.specs.declared.rec.Rec.{Rec}
use Rattle.fw_lines.specs.declared.fault.ReadFault.{ReadFault}
use Rattle.fw_lines.specs.declared.fault.ReadFault.TheVariants as not_read
use Rattle.fw_lines.specs.declared.refusal.Refusal.{Refusal}
use Rattle.fw_lines.specs.Faults as faults
use Rattle.fw_lines.specs.Batches.{batches_at}
use Rattle.fw_lines.specs.Inputs as inputs
use Rattle.fw_lines.specs.Lines.{said_lines}
use Rattle.fw_lines.proofs.FaultLaws.{sound_or_refused}
use Rattle.fw_lines.proofs.GivenLaws.{sound-batches}
use Rattle.fw_lines.proofs.ReadLaws as input_texts
use Rattle.fw_flow.specs.Dataflow.{Dataflow, System, node_ids, system_of, batches_of_nodes}
use Rattle.fw_flow.specs.Sources.{sources_of, AreInputsOf}
use Rattle.fw_flow.proofs.SystemLaws.{well_formed-given}
use Rattle.fw_flow.specs.WellFormed.{IsWellFormed, IsWellFormedSystem}
use Rattle.fw_flow_text.specs.Grammar as flows
use Rattle.fw_flow_text.proofs.ReadLaws as flow_texts
use Rattle.fw_schedule.specs.Grammar as schedules
use Rattle.fw_schedule.specs.LineNumbers.{line_numbers}
use Rattle.fw_schedule.proofs.ReadLaws as schedule_texts
use Rattle.fw_root.specs.declared.root.Digests.{Digests}
use Rattle.fw_command.specs.declared.held.HeldJob.{HeldJob}
use Rattle.fw_command.specs.declared.reading.Fed.{Fed}
use Rattle.fw_command.specs.declared.reading.Job.{Job}
use Rattle.fw_command.specs.declared.reading.JobFault.{JobFault}
use Rattle.fw_command.specs.declared.reading.JobFault.TheVariants.{Failed, Refused, NoMemory}
use Rattle.fw_command.specs.Reading.{IfJobRefused, IsJob, IsGenerated, IsFed, job_fault}
use Rattle.fw_command.specs.Held.{IsHeldJob}
use Rattle.fw_generate.specs.Draws.{words_from}
use Rattle.fw_generate.specs.Laws.{AreAccepted, GeneratedTextsAreAccepted, accepted_size_limit}
use Rattle.fw_generate.specs.Texts.{Texts, batch_lines, texts_of}
use Rattle.fw_generate.proofs.FlowLaws.{the_flow}
use Rattle.fw_generate.proofs.InputLaws.{inputs_accepted}
use Rattle.fw_generate.proofs.ScheduleLaws.{schedule_accepted}
use Rattle.fw_generate.proofs.WellFormed.{flow_accepted}
use Rattle.fw_command.specs.Command.{TextNames, SystemNames, Seeded, ReadAs, as_inputs, as_schedule, NamedText, Origin, in_folder, generated, three_texts, two_texts}
use Rattle.fw_command.specs.Texts.{spelled_batches, spelled_system, spelled_items, text_for, IsReadFor, IsRefusedFor, HasText, HasFlow, AreTextsThere, AreReadFor, IsFirstBehind, IsFirstTextRefused, HasTexts, Accepts, Refuses, AsksNoMore}

-- ---- what accepted texts spell

-- the system of accepted texts is well formed
pub well_formed_system : (texts : Texts) (flow : Dataflow) → AreAccepted texts flow → IsWellFormedSystem (spelled_system flow texts)
well_formed_system texts flow a =
    let lines = said_lines texts.inputs in
    let given = inputs.batches_said_of (sources_of flow) lines in
    let flow_well_formed : IsWellFormed flow = subst IsWellFormed (sym a.declared.checked.value) a.declared.checked.well_formed in
    well_formed-given flow given flow_well_formed (sound-batches (sources_of flow) lines given a.inputs.lines (λ node. refl))

-- ---- what was read

same_map : {A : Type 0} (f g : ℕ → A) (ns : List ℕ) → ((n : ℕ) → f n ≡ g n) → map f ns ≡ map g ns
same_map f g [] e = refl
same_map f g (n ∷ ns) e = ap (λ a. a ∷ map f ns) (e n) ∙ ap (λ rest. g n ∷ rest) (same_map f g ns e)

system_read : (text : List ℕ) (flow : Dataflow) (batches : List (ℕ × List (List Rec))) → inputs.AreAcceptedInputs text (sources_of flow) batches
    → system_of flow batches ≡ record { flow = flow; batches = spelled_batches flow text }
unfolding batches_of_nodes
system_read text flow batches a =
    let make : List (List (List Rec)) → System = λ b. record { flow = flow; batches = b } in
    ap make (same_map (batches_at batches) (inputs.batches_said_of (sources_of flow) (said_lines text)) (node_ids flow) a.value)

-- what three accepted texts spell is a job
pub job_read : (told : Option (List ℕ → Option (List ℕ))) (names : TextNames) (job : Job)
    → HasFlow told names.flow job.flow
    → HasText told names.inputs (λ text. inputs.AreAcceptedInputs text (sources_of job.flow) job.batches)
    → HasText told names.schedule (λ text. schedules.IsAcceptedSchedule text job.flow job.items)
    → IsJob told (three_texts names) job
job_read told names job f i s =
    record {
      texts = record { flow = f.text; inputs = i.text; schedule = s.text };
      there = (f.there, (i.there, (s.there, tt)));
      accepted = record { declared = f.so; inputs = i.so.sound; schedule = record { sound = s.so.sound; value = refl } };
      system = system_read i.text job.flow job.batches i.so;
      items = s.so.value;
    }

-- the same where the folder told its texts anew before each
pub job_read_in_turn : (told second third : Option (List ℕ → Option (List ℕ))) (names : TextNames) (job : Job) → second ≡ told → third ≡ second
    → HasFlow told names.flow job.flow
    → HasText second names.inputs (λ text. inputs.AreAcceptedInputs text (sources_of job.flow) job.batches)
    → HasText third names.schedule (λ text. schedules.IsAcceptedSchedule text job.flow job.items)
    → IsJob told (three_texts names) job
job_read_in_turn told second third names job e h f i s =
    job_read told names job f
    (subst (λ t. HasText t names.inputs (λ text. inputs.AreAcceptedInputs text (sources_of job.flow) job.batches)) e i)
    (subst (λ t. HasText t names.schedule (λ text. schedules.IsAcceptedSchedule text job.flow job.items)) (h ∙ e) s)

-- of a text that is there the first of two things that are true of it is true
pub has-first : {A B : List ℕ → Type 0} (told : Option (List ℕ → Option (List ℕ))) (name : List ℕ) → HasText told name (λ text. A text × B text) → HasText told name A
has-first told name h = record { text = h.text; there = h.there; so = h.so.0 }

-- what three accepted texts spell with their digests, and the lines of the last, where the folder told its texts anew before each, is a
-- held job
pub held_read : (told second third : Option (List ℕ → Option (List ℕ))) (names : TextNames) (held : HeldJob) → second ≡ told → third ≡ second
    → HasText told names.flow (λ text. flows.IsAcceptedFlow text held.job.flow × (held.digests.flow ≡ sha256 text))
    → HasText second names.inputs (λ text. inputs.AreAcceptedInputs text (sources_of held.job.flow) held.job.batches × (held.digests.inputs ≡ sha256 text))
    → HasText third names.schedule (λ text. schedules.IsAcceptedSchedule text held.job.flow held.job.items × (held.numbers.items ≡ line_numbers text) × (held.digests.schedule ≡ sha256 text))
    → IsHeldJob told names held
held_read told second third names held e h f i s =
    let digest : List ℕ → List ℕ → List ℕ → Digests = λ one two three. record { flow = one; inputs = two; schedule = three } in
    record {
      texts = record { flow = f.text; inputs = i.text; schedule = s.text };
      there = (f.there, (subst (λ t. IsText t names.inputs i.text) e i.there, (subst (λ t. IsText t names.schedule s.text) (h ∙ e) s.there, tt)));
      accepted = record { declared = f.so.0; inputs = i.so.0.sound; schedule = record { sound = s.so.0.sound; value = refl } };
      system = system_read i.text held.job.flow held.job.batches i.so.0;
      items = s.so.0.value;
      numbers = s.so.1;
      digests = ap (λ d. digest d held.digests.inputs held.digests.schedule) f.so.1 ∙ ap (λ d. digest (sha256 f.text) d held.digests.schedule) i.so.1
          ∙ ap (digest (sha256 f.text) (sha256 i.text)) s.so.2;
    }

-- and so is what generated texts spell
pub generated_read : (seeded : Seeded) (texts : Texts) (job : Job) → texts ≡ texts_of seeded.size (words_from seeded.seed)
    → flows.IsAcceptedFlow texts.flow job.flow → inputs.AreAcceptedInputs texts.inputs (sources_of job.flow) job.batches → schedules.IsAcceptedSchedule texts.schedule job.flow job.items
    → IsGenerated seeded job
generated_read seeded texts job e f i s =
    record {
      texts = texts;
      drawn = e;
      accepted = record { declared = f; inputs = i.sound; schedule = subst (schedules.IsAcceptedSchedule texts.schedule job.flow) s.value s };
      system = system_read texts.inputs job.flow job.batches i;
      items = s.value;
    }

-- so is what the texts of a flow and its inputs spell
pub fed_read : (told second : Option (List ℕ → Option (List ℕ))) (names : SystemNames) (fed : Fed) → second ≡ told
    → HasFlow told names.flow fed.flow → HasText second names.inputs (λ text. inputs.AreAcceptedInputs text (sources_of fed.flow) fed.batches) → IsFed told (two_texts names) fed
fed_read told second names fed e f i =
    record {
      texts = record { flow = f.text; inputs = i.text; schedule = [] };
      there = (f.there, (subst (λ t. IsText t names.inputs i.text) e i.there, tt));
      accepted = (f.so, (i.so.sound, tt));
      system = system_read i.text fed.flow fed.batches i.so;
    }

-- inputs that were read are accepted, where the folder told its texts as before
inputs_had : (told second : Option (List ℕ → Option (List ℕ))) (name : List ℕ) (flow : Dataflow) (batches : List (ℕ × List (List Rec))) → second ≡ told
    → HasText second name (λ text. inputs.AreAcceptedInputs text (sources_of flow) batches) → HasText told name (AreInputsOf flow)
inputs_had told second name flow batches same i = record { text = i.text; there = subst (λ t. IsText t name i.text) same i.there; so = i.so.sound }

-- a text was asked for after an accepted flow
pub fetched_second : (told : Option (List ℕ → Option (List ℕ))) (name behind : List ℕ) (others : List NamedText) (flow : Dataflow) (before one after : ℕ)
    → HasFlow told name flow → one ≡ one_more before → after ≡ one_more one → AsksNoMore told (in_folder name (record { name = behind; read = as_inputs } ∷ others)) before after
fetched_second told name behind others flow before one after f e h = inr (flow, f, inl (h ∙ ap one_more e))

-- and one after accepted inputs
pub fetched_third : (told second : Option (List ℕ → Option (List ℕ))) (names : TextNames) (flow : Dataflow) (batches : List (ℕ × List (List Rec))) (before one two after : ℕ) → second ≡ told
    → HasFlow told names.flow flow → HasText second names.inputs (λ text. inputs.AreAcceptedInputs text (sources_of flow) batches)
    → one ≡ one_more before → two ≡ one_more one → after ≡ one_more two → AsksNoMore told (three_texts names) before after
fetched_third told second names flow batches before one two after same f i e h k =
    inr (flow, f, inr (inputs_had told second names.inputs flow batches same i, inl (k ∙ ap one_more (h ∙ ap one_more e))))

-- inputs that are refused behind an accepted flow are the first text that is refused
pub refused_second : (told second : Option (List ℕ → Option (List ℕ))) (name behind : List ℕ) (others : List NamedText) (flow : Dataflow) (fault : JobFault) → second ≡ told → HasFlow told name flow
    → IfJobRefused (λ refusal. HasText second behind (λ text. inputs.AreRefusedInputs text (sources_of flow) refusal)) fault
    → IfJobRefused (Refuses told (in_folder name (record { name = behind; read = as_inputs } ∷ others))) fault
refused_second told second name behind others flow Failed same f r = r
refused_second told second name behind others flow NoMemory same f r = r
refused_second told second name behind others flow (Refused refusal) same f r =
    inr (flow, f, inl (subst (λ t. HasText t behind (λ text. inputs.AreRefusedInputs text (sources_of flow) refusal)) same r))

-- a schedule that is refused behind an accepted flow and accepted inputs is the first text that is refused
pub refused_third : (told second third : Option (List ℕ → Option (List ℕ))) (names : TextNames) (flow : Dataflow) (batches : List (ℕ × List (List Rec))) (fault : JobFault)
    → second ≡ told → third ≡ second → HasFlow told names.flow flow → HasText second names.inputs (λ text. inputs.AreAcceptedInputs text (sources_of flow) batches)
    → IfJobRefused (λ refusal. HasText third names.schedule (λ text. schedules.IsRefusedSchedule text flow refusal)) fault → IfJobRefused (Refuses told (three_texts names)) fault
refused_third told second third names flow batches Failed same later f i r = r
refused_third told second third names flow batches NoMemory same later f i r = r
refused_third told second third names flow batches (Refused refusal) same later f i r =
    inr (flow, f, inr (inputs_had told second names.inputs flow batches same i, inl (subst (λ t. HasText t names.schedule (λ text. schedules.IsRefusedSchedule text flow refusal)) (later ∙ same) r)))

-- ---- one answer

-- a text that is read for a flow is accepted or refused, and not both
read_or_refused : (read : ReadAs) (flow : Dataflow) (text : List ℕ) (r : Refusal) → IsReadFor read flow text → IsRefusedFor read flow text r → ⊥
read_or_refused as_inputs flow text r a = sound_or_refused (inputs.inputs_rules (sources_of flow)) text r a
read_or_refused as_schedule flow text r a = schedule_texts.accepted_or_refused text flow _ r a

-- and refused by one rule
one_read_refusal : (read : ReadAs) (flow : Dataflow) (text : List ℕ) (r s : Refusal) → IsRefusedFor read flow text r → IsRefusedFor read flow text s → r ≡ s
one_read_refusal as_inputs flow text r s a b = input_texts.one_refusal text (sources_of flow) r s a b
one_read_refusal as_schedule flow text r s a b = schedule_texts.one_refusal text flow r s a b

-- the text under a name is one
same_text : (texts : List ℕ → Option (List ℕ)) (name a b : List ℕ) → IsText (Some texts) name a → IsText (Some texts) name b → a ≡ b
same_text texts name a b e f = same_Some a b (sym e ∙ f)

-- two things that are true of the text under a name are true of one text
both_true : (texts : List ℕ → Option (List ℕ)) (name : List ℕ) (P Q : List ℕ → Type 0) (R : Type 0) → HasText (Some texts) name P → HasText (Some texts) name Q → ((text : List ℕ) → P text → Q text → R) → R
both_true texts name P Q R p q f = f p.text p.so (subst Q (same_text texts name q.text p.text q.there p.there) q.so)

same_flow : (texts : List ℕ → Option (List ℕ)) (name : List ℕ) (one other : Dataflow) → HasFlow (Some texts) name one → HasFlow (Some texts) name other → one ≡ other
same_flow texts name one other a b =
    both_true texts name (λ text. flows.IsAcceptedFlow text one) (λ text. flows.IsAcceptedFlow text other) (one ≡ other) a b (λ text p q. flow_texts.one_flow text one other p q)

-- of the texts behind that of a flow one is refused first, by one rule
one_behind : (texts : List ℕ → Option (List ℕ)) (flow : Dataflow) (others : List NamedText) (r s : Refusal) → IsFirstBehind (Some texts) flow others r → IsFirstBehind (Some texts) flow others s → r ≡ s
one_behind texts flow [] r s a b = absurd a
one_behind texts flow (named ∷ others) r s (inl p) (inl q) =
    both_true texts named.name (λ text. IsRefusedFor named.read flow text r) (λ text. IsRefusedFor named.read flow text s) (r ≡ s) p q (λ text x y. one_read_refusal named.read flow text r s x y)
one_behind texts flow (named ∷ others) r s (inl p) (inr q) =
    absurd (both_true texts named.name (λ text. IsRefusedFor named.read flow text r) (IsReadFor named.read flow) ⊥ p q.0 (λ text x y. read_or_refused named.read flow text r y x))
one_behind texts flow (named ∷ others) r s (inr p) (inl q) =
    absurd (both_true texts named.name (IsReadFor named.read flow) (λ text. IsRefusedFor named.read flow text s) ⊥ p.0 q (λ text x y. read_or_refused named.read flow text s x y))
one_behind texts flow (named ∷ others) r s (inr p) (inr q) = one_behind texts flow others r s p.1 q.1

-- and of all of them
one_first : (texts : List ℕ → Option (List ℕ)) (name : List ℕ) (others : List NamedText) (r s : Refusal) → IsFirstTextRefused (Some texts) name others r → IsFirstTextRefused (Some texts) name others s → r ≡ s
one_first texts name others r s (inl a) (inl b) =
    both_true texts name (λ text. flows.IsRefusedFlow text r) (λ text. flows.IsRefusedFlow text s) (r ≡ s) a b (λ text p q. flow_texts.one_refusal text r s p q)
one_first texts name others r s (inl a) (inr (flow, b, rest)) =
    absurd (both_true texts name (λ text. flows.IsRefusedFlow text r) (λ text. flows.IsAcceptedFlow text flow) ⊥ a b (λ text p q. flow_texts.accepted_or_refused text flow r q p))
one_first texts name others r s (inr (flow, a, rest)) (inl b) =
    absurd (both_true texts name (λ text. flows.IsAcceptedFlow text flow) (λ text. flows.IsRefusedFlow text s) ⊥ a b (λ text p q. flow_texts.accepted_or_refused text flow s p q))
one_first texts name others r s (inr (flow, a, rest)) (inr (other, b, more)) =
    one_behind texts flow others r s rest (subst (λ f. IsFirstBehind (Some texts) f others s) (sym (same_flow texts name flow other a b)) more)

pub one_first_refusal : (texts : List ℕ → Option (List ℕ)) (origin : Origin) (r s : Refusal) → Refuses (Some texts) origin r → Refuses (Some texts) origin s → r ≡ s
one_first_refusal texts (in_folder name others) r s a b = one_first texts name others r s a b
one_first_refusal texts (generated seeded) r s a b = absurd a

-- accepted texts behind that of a flow are not refused
accepted_behind : (texts : List ℕ → Option (List ℕ)) (flow : Dataflow) (others : List NamedText) (three : Texts) (r : Refusal) → AreTextsThere (Some texts) others three → AreReadFor flow others three
    → IsFirstBehind (Some texts) flow others r → ⊥
accepted_behind texts flow [] three r t a p = p
accepted_behind texts flow (named ∷ others) three r t a (inl p) =
    read_or_refused named.read flow (text_for named.read three) r a.0
    (subst (λ text. IsRefusedFor named.read flow text r) (same_text texts named.name p.text (text_for named.read three) p.there t.0) p.so)
accepted_behind texts flow (named ∷ others) three r t a (inr p) = accepted_behind texts flow others three r t.1 a.1 p.1

accepted_first : (texts : List ℕ → Option (List ℕ)) (name : List ℕ) (others : List NamedText) (three : Texts) (own : Dataflow) (r : Refusal) → HasTexts (Some texts) (in_folder name others) three
    → Accepts (in_folder name others) three own → IsFirstTextRefused (Some texts) name others r → ⊥
accepted_first texts name others three own r t a (inl p) =
    flow_texts.accepted_or_refused three.flow own r a.0 (subst (λ text. flows.IsRefusedFlow text r) (same_text texts name p.text three.flow p.there t.0) p.so)
accepted_first texts name others three own r t a (inr (flow, p, rest)) =
    accepted_behind texts own others three r t.1 a.1
    (subst (λ f. IsFirstBehind (Some texts) f others r) (same_flow texts name flow own p (record { text = three.flow; there = t.0; so = a.0 })) rest)

-- and of all
pub accepted_or_refused : (texts : List ℕ → Option (List ℕ)) (origin : Origin) (three : Texts) (own : Dataflow) (r : Refusal) → HasTexts (Some texts) origin three → Accepts origin three own
    → Refuses (Some texts) origin r → ⊥
accepted_or_refused texts (in_folder name others) three own r t a p = accepted_first texts name others three own r t a p
accepted_or_refused texts (generated seeded) three own r t a p = p

-- where three texts are accepted, those are that a command reads
pub accepts_three : (origin : Origin) (texts : Texts) (flow : Dataflow) → AreAccepted texts flow → Accepts origin texts flow
accepts_three (generated seeded) texts flow a = a
accepts_three (in_folder name others) texts flow a = (a.declared, behind others)
  where
    read : (how : ReadAs) → IsReadFor how flow (text_for how texts)
    read as_inputs = a.inputs
    read as_schedule = a.schedule

    behind : (named : List NamedText) → AreReadFor flow named texts
    behind [] = tt
    behind (named ∷ more) = (read named.read, behind more)

-- ---- generated texts

-- those of each size up to the greatest are accepted, whatever is drawn for them
pub generated-accepted : GeneratedTextsAreAccepted
generated-accepted size words h =
    (the_flow, record { declared = flow_accepted; inputs = inputs_accepted size words h; schedule = schedule_accepted size (batch_lines size words).1 h })

-- a text that cannot be refused is not read only for want of memory
only_memory : (P : Refusal → Type 0) (fault : ReadFault) → ((refusal : Refusal) → P refusal → ⊥) → faults.IfRefused P fault → job_fault fault ≡ NoMemory
only_memory P (not_read.Refused refusal) never p = absurd (never refusal p)
only_memory P not_read.NoMemory never p = refl

-- so it is with the flow of generated texts
pub flow_not_refused : (seeded : Seeded) (three : Texts) (fault : ReadFault) → seeded.size ≤ accepted_size_limit → three ≡ texts_of seeded.size (words_from seeded.seed)
    → faults.IfRefused (flows.IsRefusedFlow three.flow) fault → job_fault fault ≡ NoMemory
flow_not_refused seeded three fault h e =
    let law = generated-accepted seeded.size (words_from seeded.seed) h in
    let a = subst (λ (texts : Texts). AreAccepted texts law.0) (sym e) law.1 in
    only_memory (flows.IsRefusedFlow three.flow) fault (λ refusal. flow_texts.accepted_or_refused three.flow law.0 refusal a.declared)

-- what is accepted of generated texts, of the flow that was read
accepted_as_read : (seeded : Seeded) (three : Texts) (flow : Dataflow) → seeded.size ≤ accepted_size_limit → three ≡ texts_of seeded.size (words_from seeded.seed)
    → flows.IsAcceptedFlow three.flow flow → AreAccepted three flow
accepted_as_read seeded three flow h e f =
    let law = generated-accepted seeded.size (words_from seeded.seed) h in
    let a = subst (λ (texts : Texts). AreAccepted texts law.0) (sym e) law.1 in
    subst (AreAccepted three) (flow_texts.one_flow three.flow law.0 flow a.declared f) a

-- with their inputs
pub inputs_not_refused : (seeded : Seeded) (three : Texts) (flow : Dataflow) (fault : ReadFault) → seeded.size ≤ accepted_size_limit → three ≡ texts_of seeded.size (words_from seeded.seed)
    → flows.IsAcceptedFlow three.flow flow → faults.IfRefused (inputs.AreRefusedInputs three.inputs (sources_of flow)) fault → job_fault fault ≡ NoMemory
inputs_not_refused seeded three flow fault h e f =
    only_memory (inputs.AreRefusedInputs three.inputs (sources_of flow)) fault (λ refusal. read_or_refused as_inputs flow three.inputs refusal (accepted_as_read seeded three flow h e f).inputs)

-- and with their schedule
pub schedule_not_refused : (seeded : Seeded) (three : Texts) (flow : Dataflow) (fault : ReadFault) → seeded.size ≤ accepted_size_limit → three ≡ texts_of seeded.size (words_from seeded.seed)
    → flows.IsAcceptedFlow three.flow flow → faults.IfRefused (schedules.IsRefusedSchedule three.schedule flow) fault → job_fault fault ≡ NoMemory
schedule_not_refused seeded three flow fault h e f =
    only_memory (schedules.IsRefusedSchedule three.schedule flow) fault
    (λ refusal. schedule_texts.accepted_or_refused three.schedule flow (spelled_items flow three) refusal (accepted_as_read seeded three flow h e f).schedule)
