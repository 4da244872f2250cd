-- What a session's command comes to.
use Rattle.std.proofs.Common.{◌≡◌, ◌≢◌, ◌⊎◌, ◌≤◌, inl, inr, ℕ, Bool, true, false, List, [], ◌∷◌, ◌++◌, Option, Some, None, option_map, Result, Err, refl, sym, ap, subst, ◌∙◌, arith}
use Rattle.std.proofs.lemmas.Bool.{false≢true}
use Rattle.std.proofs.lemmas.List.{append-nil}
use Rattle.std.specs.List.{AllByRecursion}
use Rattle.std.specs.Prelude.{◌==◌, if◌then◌else◌, Ok, IsSome}
use Rattle.fw_outside.specs.declared.fault.OutFault.{OutFault}
use Rattle.fw_outside.specs.declared.fault.OutFault.TheVariants as out
use Rattle.fw_outside.specs.Outside.{StoreView, SinkView, one_more}
use Rattle.fw_lines.specs.declared.refusal.Refusal.{Refusal}
use Rattle.fw_flow.specs.Dataflow.{Dataflow}
use Rattle.fw_keep.specs.Stored.{Records}
use Rattle.fw_session.specs.Story.{Story, IsStory, opening}
use Rattle.fw_command.specs.declared.reading.JobFault.{JobFault}
use Rattle.fw_command.specs.declared.reading.JobFault.TheVariants as job
use Rattle.fw_command.specs.Reading.{IfJobRefused, read_faults_after}
use Rattle.fw_command.specs.Texts.{HasFlow, IsFlowRefused}
use Rattle.fw_command.specs.Writing.{IsCutOff, IsWritten, WritesText}
use Rattle.fw_command.proofs.WritingLaws.{written_more}
use Rattle.fw_run.specs.declared.status.Status.{Status}
use Rattle.fw_run.specs.declared.status.Status.TheVariants.{Done, BadWords, Refused, ReadFault, WriteFault, StoreFault, Damaged, DamagedRoot, NoMemory, ForeignRoot}
use Rattle.fw_run.specs.Call.{CountsWrites}
use Rattle.fw_run.specs.Status.{HasWord, IsTellingOf, TellsOfRoot, write_faults_told}
use Rattle.fw_live.specs.declared.counts.LineCounts.{LineCounts}
use Rattle.fw_live.specs.declared.fault.ServeFault.{ServeFault}
use Rattle.fw_live.specs.declared.fault.ServeFault.TheVariants.{Read, Write, Store}
use Rattle.fw_live.specs.declared.fault.ServeFault.TheVariants as serve
use Rattle.fw_flow.specs.declared.step.Step.{Step}
use Rattle.fw_flow.specs.declared.step.Step.TheVariants.{Recover}
use Rattle.fw_schedule.specs.declared.item.Item.{Item}
use Rattle.fw_schedule.specs.declared.item.Item.TheVariants.{One, Auto}
use Rattle.fw_live.specs.declared.rule.LineRule.{LineRule}
use Rattle.fw_live.specs.Answers.{Answer, IsUnharmed}
use Rattle.fw_live.specs.Asked.{Asked, LineIn, asked_for}
use Rattle.fw_live.specs.Call.{AnswersAll, AnswersPart, CountsReads, CountsSession, EndsBefore, EndsQuiet, EndsUnbegun, EndsWhole, FlowAnswers, HasFlowSo, IsLineCutAt, IsLiveText, GoWellOver, IsPutAt, KeepsFlow, LiveAnswers, LivesGoWell, NeverFail, TellAlways, ReadFaults, StaysQuiet, status_by, status_of, stopped_status, unread_status}
use Rattle.fw_live.specs.Faults.{TellsFaults}
use Rattle.fw_live.specs.Life.{answers_text, counts_behind, counts_line, kept_behind, no_counts}
use Rattle.fw_live.specs.Relies.{IsAskedReliedOn, IsItemReliedOn, IsMaybeReliedOn, IsReliedOn}
use Rattle.fw_live.specs.Serving.{AreLinesReliedOn, CountsLines, HasAnsweredAll, HasServed, IsPutBefore, Serves, ServesPart, LivePoint}
use Rattle.fw_live.specs.Words.{LiveCommand}
use Rattle.fw_live.proofs.FaultsLaws.{never-told, none-damaged, none-failed, same≤}

-- ---- statuses

no-root : (status : Status) → (EndsBefore status ⊎ EndsUnbegun status) → TellsOfRoot status → ⊥
no-root status e (inl r) = damaged r.0 (subst (λ s. EndsBefore s ⊎ EndsUnbegun s) r.1 e)
  where
    damaged : (id : ℕ) → EndsBefore (DamagedRoot id) ⊎ EndsUnbegun (DamagedRoot id) → ⊥
    damaged id (inl b) = b
    damaged id (inr u) = u
no-root status e (inr r) = foreign (subst (λ s. EndsBefore s ⊎ EndsUnbegun s) r e)
  where
    foreign : EndsBefore ForeignRoot ⊎ EndsUnbegun ForeignRoot → ⊥
    foreign (inl b) = b
    foreign (inr u) = u

not-both : (status : Status) → EndsBefore status → EndsUnbegun status → ⊥
not-both ReadFault b u = u
not-both WriteFault b u = u
not-both NoMemory b u = u
not-both Done b u = b
not-both BadWords b u = b
not-both (Refused refusal) b u = b
not-both StoreFault b u = b
not-both (Damaged id) b u = b
not-both (DamagedRoot id) b u = b
not-both ForeignRoot b u = b

not-whole : (status : Status) → EndsBefore status → EndsWhole status → ⊥
not-whole ReadFault b w = w
not-whole WriteFault b w = w
not-whole NoMemory b w = w
not-whole Done b w = b
not-whole BadWords b w = b
not-whole (Refused refusal) b w = b
not-whole StoreFault b w = b
not-whole (Damaged id) b w = b
not-whole (DamagedRoot id) b w = b
not-whole ForeignRoot b w = b

-- a fault that is not the store's ends a call before the lines do
pub stopped-before : (fault : ServeFault) → (fault ≡ Store → ⊥) → EndsBefore (stopped_status fault)
stopped-before Read n = tt
stopped-before Write n = tt
stopped-before Store n = absurd (n refl)
stopped-before serve.NoMemory n = tt

not-fault : (status : Status) → EndsBefore status ⊎ EndsUnbegun status → status ≢ StoreFault
not-fault status e is = none (subst (λ s. EndsBefore s ⊎ EndsUnbegun s) is e)
  where
    none : EndsBefore StoreFault ⊎ EndsUnbegun StoreFault → ⊥
    none (inl b) = b
    none (inr u) = u

not-damaged : (status : Status) (id : ℕ) → EndsBefore status ⊎ EndsUnbegun status → status ≢ Damaged id
not-damaged status id e is = none (subst (λ s. EndsBefore s ⊎ EndsUnbegun s) is e)
  where
    none : EndsBefore (Damaged id) ⊎ EndsUnbegun (Damaged id) → ⊥
    none (inl b) = b
    none (inr u) = u

-- ---- stores of a kind

relied-step : (held : Records) (step : Step) → IsReliedOn (Some held) step
relied-step held Recover = tt
relied-step held step = tt

relied-item : (records : Option Records) (item : Item) → IsSome records → IsItemReliedOn records item
relied-item (Some held) (One step) told = relied-step held step
relied-item (Some held) (Auto most) told = tt
relied-item None item told = absurd (false≢true told)

pub relied-some : (records : Option Records) (item : Option Item) → IsSome records → IsMaybeReliedOn records item
relied-some records item told = λ x e. relied-item records x told

relied-heard : (records : Option Records) (h : Result Asked LineRule) → IsSome records → IsAskedReliedOn records h
relied-heard records (Ok asked) told = λ item e. relied-item records item told
relied-heard records (Err rule) told = tt

pub relied-told : (records : Option Records) (flow : Dataflow) (lines : List LineIn) → IsSome records → AreLinesReliedOn records flow lines
relied-told records flow [] told = tt
relied-told records flow (line ∷ lines) told = (relied-heard records (asked_for flow line) told, relied-told records flow lines told)

no-fault : (damaged : Option ℕ) (faults : ℕ) → faults ≡ 0 → status_of damaged faults ≢ StoreFault
no-fault (Some id) faults none e = absurd cc
no-fault None faults none e = absurd (done (sym (ap (status_of None) none) ∙ e))
  where
    done : status_of None 0 ≡ StoreFault → ⊥
    done e = absurd cc

pub no-damage : (damaged : Option ℕ) (faults id : ℕ) → damaged ≡ None → status_of damaged faults ≢ Damaged id
no-damage damaged faults id none e = absurd (neither (faults == 0) (sym (ap (λ d. status_of d faults) none) ∙ e))
  where
    neither : (b : Bool) → (if b then Done else StoreFault) ≡ Damaged id → ⊥
    neither true e = absurd cc
    neither false e = absurd cc

-- of answers that were counted so, where the store had failed so often
go-well : {K : Type 0} (view : K → StoreView) (first last : K) (before counts : LineCounts) (failed : ℕ) (answers : List Answer)
    → before ≡ no_counts → TellsFaults before.faults counts.faults (view first).faults failed → failed ≤ (view last).faults
    → counts ≡ counts_behind answers before → (IsSome (view last).records → AllByRecursion IsUnharmed answers) → GoWellOver view answers
go-well view first last before counts failed answers none told few counted whole = record {
  unharmed = λ tells. whole (tells last);
  faultless = λ never.
      let n : failed ≡ 0 = omega (arith, few, never last) in
      none-failed answers before (ap (λ (k : LineCounts). k.faults) (sym counted)
      ∙ never-told before.faults counts.faults (view first).faults failed told (ap (λ (k : LineCounts). k.faults) none) (never first) n);
}

-- ---- a session over a flow

-- it did not begin, or nothing came in
pub flow-quiet : {K : Type 0} (view : K → StoreView) (rests : Bool) (flow : Dataflow) (given : Option (List LineIn)) (ended : Bool) (status : Status)
    (at : SinkView) → EndsBefore status → EndsQuiet status → FlowAnswers view rests flow given given ended status at at
flow-quiet view rests flow given ended status at before quiet = record {
  whole = λ e. absurd (not-whole status before e);
  part = λ e. inl (quiet, (refl, refl));
  begun = λ e. not-both status before e;
  unharmed = λ tells id e. not-damaged status id (inl before) e;
  faultless = λ never e. not-fault status (inl before) e;
  no_root = λ e. no-root status (inl before) e;
}

-- the text of what was printed of lines
whole-text : {K : Type 0} (view : K → StoreView) (first last : K) (rests : Bool) (flow : Dataflow) (before after : LivePoint) (lines : List LineIn) (status : Status) (IsPut : List ℕ → Type 0)
    → before.counts ≡ no_counts → ((s : Story) (kept : List ℕ) → after.At s kept → IsStory flow s)
    → (so : HasServed rests flow before after (opening flow) [] lines IsPut) → status ≡ status_by after.counts
    → TellsFaults before.counts.faults after.counts.faults (view first).faults (view last).faults → (view last).records ≡ after.records
    → IsLiveText view rests flow lines status (answers_text flow before.counts so.answers ++ counts_line after.counts)
whole-text view first last rests flow before after lines status IsPut none there so is faults records =
    let counted = so.counted ∙ ap (counts_behind so.answers) none in
    record {
      answers = so.answers;
      last = so.last;
      are = so.are;
      of_story = there so.last (kept_behind flow [] so.answers) so.at;
      go_well = go-well view first last before.counts after.counts (view last).faults so.answers none faults (same≤ (view last).faults (view last).faults refl)
          so.counted (λ tells. so.unharmed (subst IsSome records tells));
      text = ap (λ counts. answers_text flow counts so.answers ++ counts_line after.counts) none
          ∙ ap (λ counts. answers_text flow no_counts so.answers ++ counts_line counts) counted;
      told = is ∙ ap status_by counted;
    }

pub same-lines : (lines : List LineIn) (given gives : Option (List LineIn)) → gives ≡ option_map (λ earlier. earlier ++ lines) given
    → gives ≡ option_map (λ earlier. earlier ++ (lines ++ [])) given
same-lines lines given gives e = e ∙ ap (λ all. option_map (λ earlier. earlier ++ all) given) (sym (append-nil lines))

-- all lines were answered, and then the last line was written, or cut off
pub flow-served : {K : Type 0} (view : K → StoreView) (rests : Bool) (flow : Dataflow) (before after : LivePoint) (store0 store : K)
    (given gives : Option (List LineIn)) (ended : Bool) (status : Status) (first mid last : SinkView) → before.counts ≡ no_counts
    → before.At (opening flow) [] → (view store).records ≡ after.records → (view store0).faults ≡ before.faults
    → (view store).faults ≡ after.faults → ((s : Story) (kept : List ℕ) → after.At s kept → IsStory flow s)
    → Serves rests flow before after given gives (λ text. IsWritten text first mid) → ended ≡ true
    → (EndsWhole status → (status ≡ status_by after.counts) × IsWritten (counts_line after.counts) mid last)
    → (EndsBefore status → IsLineCutAt status (counts_line after.counts) mid last) → (EndsUnbegun status → ⊥) → (TellsOfRoot status → ⊥)
    → FlowAnswers view rests flow given gives ended status first last
unfolding whole-text
flow-served view rests flow before after store0 store given gives ended status first mid last none at records was is there so ends whole part begun root =
    let line = counts_line after.counts in
    let served = λ (relied : (k : _) → AreLinesReliedOn (view k).records flow so.lines).
    so.serves (opening flow) [] at (subst (λ r. AreLinesReliedOn r flow so.lines) records (relied store)) in
    let faults : TellsFaults before.counts.faults after.counts.faults (view store0).faults (view store).faults =
    subst (λ n. TellsFaults before.counts.faults after.counts.faults n (view store).faults) (sym was)
    (subst (TellsFaults before.counts.faults after.counts.faults before.faults) (sym is) so.faults) in
    record {
      whole = λ e. (
        record {
          lines = so.lines;
          gave = so.gave;
          printed = λ relied. let a = served relied in record {
            printed = answers_text flow before.counts a.answers ++ line;
            text = whole-text view store0 store rests flow before after so.lines status (λ text. IsWritten text first mid) none there a (whole e).0 faults
                records;
            written = written_more (answers_text flow before.counts a.answers) line first mid last a.put (whole e).1;
          };
        },
        ends,
      );
      part = λ e. inr (record {
        lines = so.lines;
        unanswered = [];
        one = omega arith;
        none_left = λ e. refl;
        gave = same-lines so.lines given gives so.gave;
        printed = λ relied.
            let a = served relied in
            let text = whole-text view store0 store rests flow before after so.lines (status_by after.counts) (λ text. IsWritten text first mid) none
            there a refl faults records in
            record {
              answers = a.answers;
              last = a.last;
              are = a.are;
              of_story = text.of_story;
              go_well = text.go_well;
              put = inr (
                ends,
                refl,
                inl (
                  mid,
                  subst (λ k. IsWritten (answers_text flow k a.answers) first mid) none a.put,
                  subst (λ k. IsLineCutAt status (counts_line k) mid last) (a.counted ∙ ap (counts_behind a.answers) none) (part e),
                ),
              );
            };
      });
      begun = begun;
      unharmed = λ tells id e.
          let a = so.serves (opening flow) [] at (relied-told after.records flow so.lines (subst IsSome records (tells store))) in
          no-damage after.counts.damaged after.counts.faults id (ap (λ (k : LineCounts). k.damaged) a.counted
          ∙ none-damaged a.answers before.counts (a.unharmed (subst IsSome records (tells store))) ∙ ap (λ (k : LineCounts). k.damaged) none)
          (sym (whole (subst EndsWhole (sym e) tt)).0 ∙ e);
      faultless = λ never e.
          no-fault after.counts.damaged after.counts.faults (never-told before.counts.faults after.counts.faults (view store0).faults (view store).faults
          faults (ap (λ (k : LineCounts). k.faults) none) (never store0) (never store)) (sym (whole (subst EndsWhole (sym e) tt)).0 ∙ e);
      no_root = root;
    }

put-at : (flow : Dataflow) (fault : ServeFault) (first last : SinkView) (answers : List Answer) → EndsBefore (stopped_status fault)
    → IsPutBefore flow no_counts fault first last answers → IsPutAt flow (stopped_status fault) first last answers
put-at flow Read first last answers e p = p
put-at flow Write first last answers e p = p
put-at flow Store first last answers e p = absurd e
put-at flow serve.NoMemory first last answers e p = p

-- 6 is told of no other fault
pub read-alone : (fault : ServeFault) → stopped_status fault ≡ ReadFault → fault ≡ Read
read-alone Read e = refl
read-alone Write e = absurd cc
read-alone Store e = absurd cc
read-alone serve.NoMemory e = absurd cc

-- it ended before the lines did
pub flow-stopped : {K : Type 0} (view : K → StoreView) (rests : Bool) (flow : Dataflow) (before : LivePoint) (store0 store : K)
    (given gives : Option (List LineIn)) (ended : Bool) (fault : ServeFault) (first last : SinkView) → before.counts ≡ no_counts
    → before.At (opening flow) [] → (view store0).faults ≡ before.faults
    → ServesPart rests flow before (view store).records (view store).faults fault given gives
    (IsPutBefore flow before.counts fault first last) → EndsBefore (stopped_status fault)
    → FlowAnswers view rests flow given gives ended (stopped_status fault) first last
flow-stopped view rests flow before store0 store given gives ended fault first last none at was so e = record {
  whole = λ w. absurd (not-whole (stopped_status fault) e w);
  part = λ b. inr (record {
    lines = so.lines;
    unanswered = so.unanswered;
    one = so.one;
    none_left = λ read. so.none_left (read-alone fault read);
    gave = so.gave;
    printed = λ relied.
        let a = so.serves (opening flow) [] at (relied store) in record {
          answers = a.answers;
          last = a.last;
          are = a.are;
          of_story = a.of_story;
          go_well = go-well view store0 store before.counts so.counts so.failed a.answers none
              (subst (λ n. TellsFaults before.counts.faults so.counts.faults n so.failed) (sym was) so.told) so.within a.counted a.unharmed;
          put = inl (put-at flow fault first last a.answers e (subst (λ k. IsPutBefore flow k fault first last a.answers) none a.put));
        };
  });
  begun = λ u. not-both (stopped_status fault) e u;
  unharmed = λ tells id d. not-damaged (stopped_status fault) id (inl e) d;
  faultless = λ never d. not-fault (stopped_status fault) (inl e) d;
  no_root = λ r. no-root (stopped_status fault) (inl e) r;
}

-- ---- a call

-- the words are no command
pub live-no_words : {K : Type 0} (view : K → StoreView) (told : Option (List ℕ → Option (List ℕ))) (command : Option LiveCommand)
    (given : Option (List LineIn)) (ended : Bool) (at : SinkView) → command ≡ None → LiveAnswers view told command given given ended BadWords at at
live-no_words view told command given ended at none = record {
  whole = λ e. absurd e;
  bad_words = (λ e. none, λ e. refl);
  refused = λ refusal e. absurd cc;
  part = λ e. absurd e;
  unbegun = λ e. (refl, refl);
  unharmed = λ tells id e. not-damaged BadWords id (inr tt) e;
  faultless = λ never e. not-fault BadWords (inr tt) e;
  no_root = λ e. no-root BadWords (inr tt) e;
}

-- the text of the flow is refused
pub live-refused : {K : Type 0} (view : K → StoreView) (told : Option (List ℕ → Option (List ℕ))) (command : Option LiveCommand) (live : LiveCommand)
    (given : Option (List LineIn)) (ended : Bool) (refusal : Refusal) (at : SinkView) → command ≡ Some live → IsFlowRefused told live.flow refusal
    → LiveAnswers view told command given given ended (Refused refusal) at at
live-refused view told command live given ended refusal at words refused = record {
  whole = λ e. absurd e;
  bad_words = (λ e. absurd cc, λ e. absurd cc);
  refused = λ other e. record { live = live; words = words; refused = subst (IsFlowRefused told live.flow) (same-refusal refusal other e) refused };
  part = λ e. absurd e;
  unbegun = λ e. (refl, refl);
  unharmed = λ tells id e. not-damaged (Refused refusal) id (inr tt) e;
  faultless = λ never e. not-fault (Refused refusal) (inr tt) e;
  no_root = λ e. no-root (Refused refusal) (inr tt) e;
}
  where
    same-refusal : (one other : Refusal) → Refused one ≡ Refused other → one ≡ other
    same-refusal one other e = cc

bad-words : (status : Status) (command : Option LiveCommand) (live : LiveCommand) → command ≡ Some live → (EndsUnbegun status → ⊥)
    → (status ≡ BadWords → command ≡ None) × (command ≡ None → status ≡ BadWords)
bad-words status command live words begun = (
  λ e. absurd (begun (subst EndsUnbegun (sym e) tt)),
  λ e. absurd cc,
)

not-refused : (status : Status) (refusal : Refusal) → (EndsUnbegun status → ⊥) → status ≡ Refused refusal → ⊥
not-refused status refusal begun e = begun (subst EndsUnbegun (sym e) tt)

-- the flow was not read, or no memory was left
pub live-unread : {K : Type 0} (view : K → StoreView) (told : Option (List ℕ → Option (List ℕ))) (command : Option LiveCommand) (live : LiveCommand)
    (given : Option (List LineIn)) (ended : Bool) (status : Status) (at : SinkView) → command ≡ Some live → EndsBefore status → EndsQuiet status
    → LiveAnswers view told command given given ended status at at
live-unread view told command live given ended status at words before quiet = record {
  whole = λ e. absurd (not-whole status before e);
  bad_words = bad-words status command live words (not-both status before);
  refused = λ refusal e. absurd (not-refused status refusal (not-both status before) e);
  part = λ e. inl (quiet, (refl, refl));
  unbegun = λ e. (refl, refl);
  unharmed = λ tells id e. not-damaged status id (inl before) e;
  faultless = λ never e. not-fault status (inl before) e;
  no_root = λ e. no-root status (inl before) e;
}

-- a flow that was not read
pub live-unread-by : {K : Type 0} (view : K → StoreView) (told : Option (List ℕ → Option (List ℕ))) (command : Option LiveCommand)
    (live : LiveCommand) (given : Option (List LineIn)) (ended : Bool) (fault : JobFault) (at : SinkView) → command ≡ Some live
    → IfJobRefused (IsFlowRefused told live.flow) fault → LiveAnswers view told command given given ended (unread_status fault) at at
live-unread-by view told command live given ended job.Failed at words refused = live-unread view told command live given ended ReadFault at words tt tt
live-unread-by view told command live given ended (job.Refused refusal) at words refused =
    live-refused view told command live given ended refusal at words refused
live-unread-by view told command live given ended job.NoMemory at words refused = live-unread view told command live given ended NoMemory at words tt tt

-- lines were answered over the flow
pub live-answered : {K : Type 0} (view : K → StoreView) (told : Option (List ℕ → Option (List ℕ))) (command : Option LiveCommand) (live : LiveCommand)
    (flow : Dataflow) (given gives : Option (List LineIn)) (ended : Bool) (status : Status) (first last : SinkView) → command ≡ Some live
    → HasFlow told live.flow flow → FlowAnswers view live.rests flow given gives ended status first last
    → LiveAnswers view told command given gives ended status first last
live-answered view told command live flow given gives ended status first last words has so = record {
  whole = λ e. (record { live = live; words = words; flow = flow; declared = has; so = (so.whole e).0 }, (so.whole e).1);
  bad_words = bad-words status command live words so.begun;
  refused = λ refusal e. absurd (not-refused status refusal so.begun e);
  part = λ e. answered (so.part e);
  unbegun = λ e. absurd (so.begun e);
  unharmed = so.unharmed;
  faultless = so.faultless;
  no_root = so.no_root;
}
  where
    answered : (EndsQuiet status × StaysQuiet given gives first last) ⊎ AnswersPart view live.rests flow given gives ended status first last
        → (EndsQuiet status × StaysQuiet given gives first last)
        ⊎ HasFlowSo told command (λ rests d. AnswersPart view rests d given gives ended status first last)
    answered (inl q) = inl q
    answered (inr p) = inr (record { live = live; words = words; flow = flow; declared = has; so = p })

-- ---- what is told of it

-- all was written, and no memory was left for the line on the notes
whole-part : {K : Type 0} (view : K → StoreView) (rests : Bool) (flow : Dataflow) (given gives : Option (List LineIn)) (ended : Bool)
    (status : Status) (first last : SinkView) → ended ≡ true → AnswersAll view rests flow given gives status first last
    → AnswersPart view rests flow given gives ended NoMemory first last
whole-part view rests flow given gives ended status first last ends all = record {
  lines = all.lines;
  unanswered = [];
  one = omega arith;
  none_left = λ e. refl;
  gave = same-lines all.lines given gives all.gave;
  printed = λ relied. let p = all.printed relied in record {
    answers = p.text.answers;
    last = p.text.last;
    are = p.text.are;
    of_story = p.text.of_story;
    go_well = p.text.go_well;
    put = inr (ends, refl, inr (refl, subst (λ text. IsWritten text first last) p.text.text p.written));
  };
}

flow-part : {K : Type 0} (view : K → StoreView) (told : Option (List ℕ → Option (List ℕ))) (command : Option LiveCommand)
    (given gives : Option (List LineIn)) (ended : Bool) (status : Status) (first last : SinkView) → ended ≡ true
    → HasFlowSo told command (λ rests flow. AnswersAll view rests flow given gives status first last)
    → HasFlowSo told command (λ rests flow. AnswersPart view rests flow given gives ended NoMemory first last)
flow-part view told command given gives ended status first last ends has = record {
  live = has.live;
  words = has.words;
  flow = has.flow;
  declared = has.declared;
  so = whole-part view has.live.rests has.flow given gives ended status first last ends has.so;
}

no-memory : {K : Type 0} (view : K → StoreView) (told : Option (List ℕ → Option (List ℕ))) (command : Option LiveCommand)
    (given gives : Option (List LineIn)) (ended : Bool) (first last : SinkView) → (command ≡ None → ⊥)
    → (EndsQuiet NoMemory × StaysQuiet given gives first last)
    ⊎ HasFlowSo told command (λ rests flow. AnswersPart view rests flow given gives ended NoMemory first last)
    → LiveAnswers view told command given gives ended NoMemory first last
no-memory view told command given gives ended first last some part = record {
  whole = λ e. absurd e;
  bad_words = (λ e. absurd cc, λ e. absurd (some e));
  refused = λ refusal e. absurd cc;
  part = λ e. part;
  unbegun = λ e. absurd e;
  unharmed = λ tells id e. not-damaged NoMemory id (inl tt) e;
  faultless = λ never e. not-fault NoMemory (inl tt) e;
  no_root = λ e. no-root NoMemory (inl tt) e;
}

pub live-told : {K : Type 0} (view : K → StoreView) (told : Option (List ℕ → Option (List ℕ))) (command : Option LiveCommand)
    (given gives : Option (List LineIn)) (ended : Bool) (status result : Status) (first last : SinkView) → IsTellingOf status result
    → LiveAnswers view told command given gives ended status first last → LiveAnswers view told command given gives ended result first last
live-told view told command given gives ended status result first last (inl e) so =
    subst (λ s. LiveAnswers view told command given gives ended s first last) (sym e) so
live-told view told command given gives ended status result first last (inr w) so =
    subst (λ s. LiveAnswers view told command given gives ended s first last) (sym w.1) (with-word status w.0 so)
  where
    words : (s : Status) (refusal : Refusal) → s ≡ Refused refusal → s ≡ BadWords → ⊥
    words s refusal e f = absurd cc

    damaged : (s : Status) (id : ℕ) → s ≡ Damaged id → s ≡ BadWords → ⊥
    damaged s id e f = absurd cc

    with-word : (s : Status) → HasWord s → LiveAnswers view told command given gives ended s first last
        → LiveAnswers view told command given gives ended NoMemory first last
    with-word s (inl r) a = no-memory view told command given gives ended first last (λ none. absurd (words s r.0 r.1 (a.bad_words.1 none)))
        (inl (tt, a.unbegun (subst EndsUnbegun (sym r.1) tt)))
    with-word s (inr (inl d)) a = no-memory view told command given gives ended first last (λ none. absurd (damaged s d.0 d.1 (a.bad_words.1 none)))
        (inr (flow-part view told command given gives ended s first last (a.whole (subst EndsWhole (sym d.1) tt)).1
        (a.whole (subst EndsWhole (sym d.1) tt)).0))
    with-word s (inr (inr d)) a = absurd (a.no_root (inl d))

-- ---- what was asked of the folder

pub keeps-unasked : {F : Type 0} (texts : F → Option (List ℕ → Option (List ℕ))) (fetch_count : F → ℕ) (command : Option LiveCommand) (folder : F)
    → command ≡ None → KeepsFlow texts fetch_count command folder folder
keeps-unasked texts fetch_count command folder none = record {
  texts_stay = refl;
  no_words = λ e. refl;
  asked = λ live e. absurd cc;
}

pub keeps-asked : {F : Type 0} (texts : F → Option (List ℕ → Option (List ℕ))) (fetch_count : F → ℕ) (command : Option LiveCommand)
    (live : LiveCommand) (before after : F) → command ≡ Some live → texts after ≡ texts before → fetch_count after ≡ one_more (fetch_count before)
    → KeepsFlow texts fetch_count command before after
keeps-asked texts fetch_count command live before after some stays asked = record {
  texts_stay = stays;
  no_words = λ e. absurd cc;
  asked = λ other e. asked;
}

-- the same of a session that ends its lines so
pub flow-rests : {K : Type 0} (view : K → StoreView) (one other : Bool) (flow : Dataflow) (given gives : Option (List LineIn)) (ended : Bool)
    (status : Status) (before after : SinkView) → one ≡ other → FlowAnswers view one flow given gives ended status before after
    → FlowAnswers view other flow given gives ended status before after
flow-rests view one other flow given gives ended status before after e so =
    subst (λ b. FlowAnswers view b flow given gives ended status before after) e so

-- ---- how often the source of lines failed, and the folder

-- in the last line it did not
pub session-ended : (status : Status) (line : List ℕ) (given gives : Option (List LineIn)) (before after : ℕ) (mid last : SinkView)
    → (EndsBefore status → IsLineCutAt status line mid last) → after ≡ before → CountsSession status given gives before after
session-ended status line given gives before after mid last part e = record {
  read_fault = λ r. absurd (subst (λ s. IsLineCutAt s line mid last) r (part (subst EndsBefore (sym r) tt)));
  no_read_fault = λ _. e;
}

pub session-stopped : (fault : ServeFault) (given gives : Option (List LineIn)) (before after : ℕ) → CountsLines fault given gives before after
    → CountsSession (stopped_status fault) given gives before after
session-stopped Read given gives before after c = record { read_fault = λ _. c; no_read_fault = λ n. absurd (n refl) }
session-stopped Write given gives before after c = record { read_fault = λ r. absurd cc; no_read_fault = λ _. c }
session-stopped Store given gives before after c = record { read_fault = λ r. absurd cc; no_read_fault = λ _. c }
session-stopped serve.NoMemory given gives before after c = record { read_fault = λ r. absurd cc; no_read_fault = λ _. c }

-- the words are no command
pub reads-no_words : (told : Option (List ℕ → Option (List ℕ))) (command : Option LiveCommand) (given : Option (List LineIn)) (at : ReadFaults)
    (out : SinkView) → CountsReads told command BadWords given given at at out out
reads-no_words told command given at out = record { read_fault = λ e. absurd cc; no_read_fault = λ _. (refl, refl) }

-- the flow was not read
pub reads-unread : {T : Type 0} (read : Result T JobFault) (told : Option (List ℕ → Option (List ℕ))) (command : Option LiveCommand)
    (given : Option (List LineIn)) (fault : JobFault) (folder folder2 lines : ℕ) (out : SinkView) → read ≡ Err fault
    → folder2 ≡ read_faults_after read folder
    → CountsReads told command (unread_status fault) given given (record { folder = folder; lines = lines })
    (record { folder = folder2; lines = lines }) out out
reads-unread read told command given job.Failed folder folder2 lines out is e = record {
  read_fault = λ _. inl (record { once = e ∙ ap (λ r. read_faults_after r folder) is; lines = refl; quiet = (refl, refl) });
  no_read_fault = λ n. absurd (n refl);
}
reads-unread read told command given (job.Refused refusal) folder folder2 lines out is e = record {
  read_fault = λ r. absurd cc;
  no_read_fault = λ _. (e ∙ ap (λ r. read_faults_after r folder) is, refl);
}
reads-unread read told command given job.NoMemory folder folder2 lines out is e = record {
  read_fault = λ r. absurd cc;
  no_read_fault = λ _. (e ∙ ap (λ r. read_faults_after r folder) is, refl);
}

-- the flow was read
pub reads-session : (told : Option (List ℕ → Option (List ℕ))) (command : Option LiveCommand) (live : LiveCommand) (flow : Dataflow)
    (given gives : Option (List LineIn)) (status : Status) (folder folder2 lines lines2 : ℕ) (out out2 : SinkView) → command ≡ Some live
    → HasFlow told live.flow flow → folder2 ≡ folder → CountsSession status given gives lines lines2
    → CountsReads told command status given gives (record { folder = folder; lines = lines }) (record { folder = folder2; lines = lines2 }) out out2
reads-session told command live flow given gives status folder folder2 lines lines2 out out2 words has e so = record {
  read_fault = λ r. inr (record {
    folder = e;
    begun = record { live = live; words = words; flow = flow; declared = has; so = tt };
    failed = so.read_fault r;
  });
  no_read_fault = λ n. (e, so.no_read_fault n);
}

-- what is told of it
pub reads-told : (told : Option (List ℕ → Option (List ℕ))) (command : Option LiveCommand) (given gives : Option (List LineIn))
    (status result : Status) (before after : ReadFaults) (out out2 : SinkView) → IsTellingOf status result
    → CountsReads told command status given gives before after out out2 → CountsReads told command result given gives before after out out2
reads-told told command given gives status result before after out out2 (inl e) so =
    subst (λ s. CountsReads told command s given gives before after out out2) (sym e) so
reads-told told command given gives status result before after out out2 (inr w) so = record {
  read_fault = λ r. absurd (memory (sym w.1 ∙ r));
  no_read_fault = λ _. so.no_read_fault (other status w.0);
}
  where
    memory : NoMemory ≡ ReadFault → ⊥
    memory e = absurd cc

    refused : (refusal : Refusal) → Refused refusal ≡ ReadFault → ⊥
    refused refusal e = absurd cc

    damaged : (id : ℕ) → Damaged id ≡ ReadFault → ⊥
    damaged id e = absurd cc

    root : (id : ℕ) → DamagedRoot id ≡ ReadFault → ⊥
    root id e = absurd cc

    other : (s : Status) → HasWord s → s ≢ ReadFault
    other s (inl (refusal, e)) f = refused refusal (sym e ∙ f)
    other s (inr (inl (id, e))) f = damaged id (sym e ∙ f)
    other s (inr (inr (id, e))) f = root id (sym e ∙ f)

-- ---- how often the output failed

-- behind what was written, the last line
pub writes-more : (status : Status) (before mid after : SinkView) → CountsWrites Done before mid → CountsWrites status mid after
    → CountsWrites status before after
writes-more status before mid after a b =
    record {
      faults = b.faults ∙ ap (write_faults_told status) a.faults;
      refusals = λ n. b.refusals n ∙ ap (write_faults_told status) (a.refusals (λ e. absurd cc));
      no_memory = λ m. told (a.refusals (λ e. absurd cc)) (b.no_memory m);
    }
  where
    told : mid.refusals ≡ before.refusals → (after.refusals ≡ mid.refusals) ⊎ (after.refusals ≡ one_more mid.refusals)
        → (after.refusals ≡ before.refusals) ⊎ (after.refusals ≡ one_more before.refusals)
    told e (inl f) = inl (f ∙ e)
    told e (inr f) = inr (f ∙ ap one_more e)

-- nothing was written
pub writes-none : (status : Status) (at : SinkView) → ((count : ℕ) → write_faults_told status count ≡ count) → CountsWrites status at at
writes-none status at quiet = record {
  faults = sym (quiet at.faults);
  refusals = λ _. sym (quiet at.refusals);
  no_memory = λ _. inl refl;
}

pub writes-unread : (fault : JobFault) (at : SinkView) → CountsWrites (unread_status fault) at at
writes-unread job.Failed at = writes-none ReadFault at (λ _. refl)
writes-unread (job.Refused refusal) at = writes-none (Refused refusal) at (λ _. refl)
writes-unread job.NoMemory at = writes-none NoMemory at (λ _. refl)

-- the last line was written, or cut off
pub writes-last : (status : Status) (line : List ℕ) (before after : SinkView) → (EndsWhole status → IsWritten line before after)
    → (EndsBefore status → IsLineCutAt status line before after) → (EndsUnbegun status → ⊥) → (TellsOfRoot status → ⊥)
    → CountsWrites status before after
writes-last Done line before after whole part begun root = record {
  faults = (whole tt).none_failed;
  refusals = λ _. (whole tt).none_refused;
  no_memory = λ _. inl (whole tt).none_refused;
}
writes-last StoreFault line before after whole part begun root = record {
  faults = (whole tt).none_failed;
  refusals = λ _. (whole tt).none_refused;
  no_memory = λ _. inl (whole tt).none_refused;
}
writes-last (Damaged id) line before after whole part begun root = record {
  faults = (whole tt).none_failed;
  refusals = λ _. (whole tt).none_refused;
  no_memory = λ _. inl (whole tt).none_refused;
}
writes-last WriteFault line before after whole part begun root = record {
  faults = (part tt).faults;
  refusals = λ _. (part tt).refusals;
  no_memory = λ e. absurd cc;
}
writes-last NoMemory line before after whole part begun root = record {
  faults = (part tt).faults;
  refusals = λ n. absurd (n refl);
  no_memory = λ _. (part tt).refusals;
}
writes-last ReadFault line before after whole part begun root = absurd (part tt)
writes-last BadWords line before after whole part begun root = absurd (begun tt)
writes-last (Refused refusal) line before after whole part begun root = absurd (begun tt)
writes-last (DamagedRoot id) line before after whole part begun root = absurd (root (inl (id, refl)))
writes-last ForeignRoot line before after whole part begun root = absurd (root (inr refl))

-- memory was refused before a line was read
pub session-none : (given : Option (List LineIn)) (count : ℕ) → CountsSession NoMemory given given count count
session-none given count = record { read_fault = λ e. absurd cc; no_read_fault = λ _. refl }

-- ---- over stores with which nothing goes wrong

pub lives-go_well : {K : Type 0} (view : K → StoreView) → TellAlways view → NeverFail view → LivesGoWell view
lives-go_well view tells never = record {
  ends = λ told command given gives ended status before after answers. (answers.faultless never, answers.unharmed tells);
  answers = λ answers well. (well.faultless never, well.unharmed tells);
  relied = λ flow lines store. relied-told (view store).records flow lines (tells store);
}
