-- What a session comes to that opened, and answered the lines that came in.
use Rattle.std.proofs.Common.{◌≡◌, ◌≢◌, ◌⊎◌, inl, inr, ℕ, Bool, true, List, [], ◌∷◌, ◌++◌, append_assoc, Option, Some, None, option_map, refl, sym, ap, subst, ◌∙◌, arith}
use Rattle.std.proofs.lemmas.List.{append-nil}
use Rattle.std.specs.List.{AllByRecursion}
use Rattle.std.specs.Prelude.{IsSome}
use Rattle.fw_outside.specs.declared.fault.OutFault.{OutFault}
use Rattle.fw_outside.specs.declared.fault.OutFault.TheVariants as out
use Rattle.fw_outside.specs.Outside.{SinkView}
use Rattle.fw_flow.specs.Dataflow.{Dataflow}
use Rattle.fw_keep.specs.Stored.{Records}
use Rattle.fw_session.specs.Story.{Story, IsStory}
use Rattle.fw_command.specs.Writing.{IsCutOff, IsWritten}
use Rattle.fw_command.proofs.WritingLaws.{written_more, written_nothing}
use Rattle.fw_run.specs.declared.status.Status.{Status}
use Rattle.fw_run.specs.declared.status.Status.TheVariants.{Done, BadWords, Refused, ReadFault, WriteFault, StoreFault, Damaged, DamagedRoot, NoMemory, ForeignRoot}
use Rattle.fw_run.specs.Status.{TellsOfRoot}
use Rattle.fw_live.specs.declared.counts.LineCounts.{LineCounts}
use Rattle.fw_live.specs.declared.fault.ServeFault.{ServeFault}
use Rattle.fw_live.specs.declared.fault.ServeFault.TheVariants.{Read, Write, Store}
use Rattle.fw_live.specs.declared.fault.ServeFault.TheVariants as serve
use Rattle.fw_live.specs.Answers.{Answer, IsUnharmed}
use Rattle.fw_live.specs.Asked.{LineIn}
use Rattle.fw_live.specs.Call.{EndsBefore, EndsUnbegun, EndsWhole, IsLineCutAt, status_by, stopped_status}
use Rattle.fw_live.specs.Life.{answers_text, counts_behind, counts_line, kept_behind, no_counts}
use Rattle.fw_live.specs.Serving.{IsPutBefore, LivePoint, Serves, ServesPart}
use Rattle.fw_live.proofs.CommandLaws.{no-damage, read-alone, relied-told, same-lines}
use Rattle.fw_live.proofs.FaultsLaws.{none-damaged}
use Rattle.fw_live.proofs.ServingLaws.{cut-more}
use Rattle.fw_relive.specs.Opening.{Restart, CutsOpening, lines_found, opened_text}
use Rattle.fw_relive.specs.Call.{AnswersBehind, IsCutBehind, IsCutInEnd, OpensAt, WritesAt}

-- ---- what was written

-- how a text may be cut off
abbrev Cuts : Type 1
Cuts = OutFault → SinkView → SinkView → Type 0

-- all was answered, and the last line written, or cut off
wrote-all : (status : Status) (IsEnd : Type 0) (told : Status) (text line : List ℕ) (IsCut : Cuts) (first mid last : SinkView) → IsEnd
    → ((id : ℕ) → told ≢ Damaged id) → IsWritten text first mid → (EndsWhole status → (status ≡ told) × IsWritten line mid last)
    → (EndsBefore status → IsLineCutAt status line mid last) → (EndsUnbegun status → ⊥) → (TellsOfRoot status → ⊥)
    → WritesAt status IsEnd told text line IsCut first last
wrote-all Done IsEnd told text line IsCut first mid last end well w whole part begun root =
    (end, sym (whole tt).0, written_more text line first mid last w (whole tt).1)
wrote-all StoreFault IsEnd told text line IsCut first mid last end well w whole part begun root =
    inr (end, sym (whole tt).0, written_more text line first mid last w (whole tt).1)
wrote-all (Damaged id) IsEnd told text line IsCut first mid last end well w whole part begun root = absurd (well id (sym (whole tt).0))
wrote-all WriteFault IsEnd told text line IsCut first mid last end well w whole part begun root = inr (end, (mid, w, part tt))
wrote-all NoMemory IsEnd told text line IsCut first mid last end well w whole part begun root = inr (inr (end, (mid, w, part tt)))
wrote-all ReadFault IsEnd told text line IsCut first mid last end well w whole part begun root = absurd (part tt)
wrote-all BadWords IsEnd told text line IsCut first mid last end well w whole part begun root = absurd (begun tt)
wrote-all (Refused refusal) IsEnd told text line IsCut first mid last end well w whole part begun root = absurd (begun tt)
wrote-all (DamagedRoot id) IsEnd told text line IsCut first mid last end well w whole part begun root = absurd (root (inl (id, refl)))
wrote-all ForeignRoot IsEnd told text line IsCut first mid last end well w whole part begun root = absurd (root (inr refl))

-- it ended before
wrote-part : (flow : Dataflow) (fault : ServeFault) (IsEnd : Type 0) (told : Status) (answers : List Answer) (line : List ℕ)
    (first last : SinkView) → IsPutBefore flow no_counts fault first last answers
    → WritesAt (stopped_status fault) IsEnd told (answers_text flow no_counts answers) line (IsCutBehind flow [] answers) first last
wrote-part flow Read IsEnd told answers line first last w = w
wrote-part flow Write IsEnd told answers line first last w = inl (inl (first, written_nothing first, w))
wrote-part flow Store IsEnd told answers line first last w = inl w
wrote-part flow serve.NoMemory IsEnd told answers line first last (inl w) = inl w
wrote-part flow serve.NoMemory IsEnd told answers line first last (inr c) = inr (inl (inl (first, written_nothing first, c)))

-- where more is kept
wrote-to : (status : Status) (One Two : Type 0) (told : Status) (text line : List ℕ) (IsCut : Cuts) (first last : SinkView) → (One → Two)
    → WritesAt status One told text line IsCut first last → WritesAt status Two told text line IsCut first last
wrote-to Done One Two told text line IsCut first last to (end, is, v) = (to end, is, v)
wrote-to ReadFault One Two told text line IsCut first last to v = v
wrote-to WriteFault One Two told text line IsCut first last to (inl c) = inl c
wrote-to WriteFault One Two told text line IsCut first last to (inr (end, c)) = inr (to end, c)
wrote-to StoreFault One Two told text line IsCut first last to (inl v) = inl v
wrote-to StoreFault One Two told text line IsCut first last to (inr (end, is, v)) = inr (to end, is, v)
wrote-to NoMemory One Two told text line IsCut first last to (inl v) = inl v
wrote-to NoMemory One Two told text line IsCut first last to (inr (inl c)) = inr (inl c)
wrote-to NoMemory One Two told text line IsCut first last to (inr (inr (end, c))) = inr (inr (to end, c))
wrote-to BadWords One Two told text line IsCut first last to v = absurd v
wrote-to (Refused refusal) One Two told text line IsCut first last to v = absurd v
wrote-to (Damaged id) One Two told text line IsCut first last to v = absurd v
wrote-to (DamagedRoot id) One Two told text line IsCut first last to v = absurd v
wrote-to ForeignRoot One Two told text line IsCut first last to v = absurd v

-- behind what was opened with
cut-behind : (flow : Dataflow) (opened : List ℕ) (answers : List Answer) (fault : OutFault) (first mid last : SinkView) → IsWritten opened first mid
    → IsCutBehind flow [] answers fault mid last → IsCutBehind flow opened answers fault first last
cut-behind flow opened answers fault first mid last w (inl (between, v, c)) =
    inl (between, subst (λ text. IsWritten text first between) (append-nil opened) (written_more opened [] first mid between w v), c)
cut-behind flow opened answers fault first mid last w (inr (none, c)) =
    inr (none, subst (λ text. IsCutOff text fault first last) (append-nil opened) (cut-more opened [] fault first mid last w c))

cut-end : (opened text line : List ℕ) (fault : OutFault) (first mid last : SinkView) → IsWritten opened first mid
    → IsCutInEnd text line fault mid last → IsCutInEnd (opened ++ text) line fault first last
cut-end opened text line fault first mid last w (between, v, c) = (between, written_more opened text first mid between w v, c)

all-behind : (opened text line : List ℕ) (first mid last : SinkView) → IsWritten opened first mid → IsWritten (text ++ line) mid last
    → IsWritten ((opened ++ text) ++ line) first last
all-behind opened text line first mid last w v =
    subst (λ bytes. IsWritten bytes first last) (sym (append_assoc opened text line)) (written_more opened (text ++ line) first mid last w v)

wrote-more : (status : Status) (One Two : Type 0) (told : Status) (flow : Dataflow) (opened text line : List ℕ) (answers : List Answer)
    (first mid last : SinkView) → (One → Two) → IsWritten opened first mid
    → WritesAt status One told text line (IsCutBehind flow [] answers) mid last
    → WritesAt status Two told (opened ++ text) line (IsCutBehind flow opened answers) first last
wrote-more Done One Two told flow opened text line answers first mid last to w (end, is, v) =
    (to end, is, all-behind opened text line first mid last w v)
wrote-more ReadFault One Two told flow opened text line answers first mid last to w v = written_more opened text first mid last w v
wrote-more WriteFault One Two told flow opened text line answers first mid last to w (inl c) =
    inl (cut-behind flow opened answers out.Failed first mid last w c)
wrote-more WriteFault One Two told flow opened text line answers first mid last to w (inr (end, c)) =
    inr (to end, cut-end opened text line out.Failed first mid last w c)
wrote-more StoreFault One Two told flow opened text line answers first mid last to w (inl v) = inl (written_more opened text first mid last w v)
wrote-more StoreFault One Two told flow opened text line answers first mid last to w (inr (end, is, v)) =
    inr (to end, is, all-behind opened text line first mid last w v)
wrote-more NoMemory One Two told flow opened text line answers first mid last to w (inl v) = inl (written_more opened text first mid last w v)
wrote-more NoMemory One Two told flow opened text line answers first mid last to w (inr (inl c)) =
    inr (inl (cut-behind flow opened answers out.NoMemory first mid last w c))
wrote-more NoMemory One Two told flow opened text line answers first mid last to w (inr (inr (end, c))) =
    inr (inr (to end, cut-end opened text line out.NoMemory first mid last w c))
wrote-more BadWords One Two told flow opened text line answers first mid last to w v = absurd v
wrote-more (Refused refusal) One Two told flow opened text line answers first mid last to w v = absurd v
wrote-more (Damaged id) One Two told flow opened text line answers first mid last to w v = absurd v
wrote-more (DamagedRoot id) One Two told flow opened text line answers first mid last to w v = absurd v
wrote-more ForeignRoot One Two told flow opened text line answers first mid last to w v = absurd v

-- ---- the lines

unhurt : (answers : List Answer) (counts : LineCounts) → counts ≡ no_counts → AllByRecursion IsUnharmed answers → (id : ℕ)
    → status_by (counts_behind answers counts) ≢ Damaged id
unhurt answers counts none well id =
    let k = counts_behind answers counts in
    no-damage k.damaged k.faults id (none-damaged answers counts well ∙ ap (λ (k : LineCounts). k.damaged) none)

-- all were answered
pub answers-served : (rests : Bool) (flow : Dataflow) (before after : LivePoint) (story : Story) (kept : List ℕ)
    (given gives : Option (List LineIn)) (ended : Bool) (status : Status) (first mid last : SinkView) → before.counts ≡ no_counts
    → before.At story kept → IsSome after.records → ((s : Story) (k : List ℕ) → after.At s k → IsStory flow s)
    → Serves rests flow before after given gives (λ text. IsWritten text first mid) → ended ≡ true
    → (EndsWhole status → (status ≡ status_by after.counts) × IsWritten (counts_line after.counts) mid last)
    → (EndsBefore status → IsLineCutAt status (counts_line after.counts) mid last) → (EndsUnbegun status → ⊥) → (TellsOfRoot status → ⊥)
    → AnswersBehind rests flow [] kept story after.At given gives ended status first last
answers-served rests flow before after story kept given gives ended status first mid last none at told there so ends whole part begun root =
    let a = so.serves story kept at (relied-told after.records flow so.lines told) in
    let counted = a.counted ∙ ap (counts_behind a.answers) none in
    let counts = counts_behind a.answers no_counts in
    record {
      lines = so.lines;
      unanswered = [];
      one = omega arith;
      none_left = λ e. refl;
      gave = same-lines so.lines given gives so.gave;
      answers = a.answers;
      last = a.last;
      are = a.are;
      of_story = there a.last (kept_behind flow kept a.answers) a.at;
      unharmed = a.unharmed told;
      wrote = wrote-all status _ (status_by counts)
          (answers_text flow no_counts a.answers) (counts_line counts) (IsCutBehind flow [] a.answers) first mid last (ends, refl, a.at) (unhurt a.answers no_counts refl (a.unharmed told))
          (subst (λ k. IsWritten (answers_text flow k a.answers) first mid) none a.put)
          (subst (λ k. EndsWhole status → (status ≡ status_by k) × IsWritten (counts_line k) mid last) counted whole)
          (subst (λ k. EndsBefore status → IsLineCutAt status (counts_line k) mid last) counted part) begun root;
    }

-- it ended before
pub answers-stopped : (rests : Bool) (flow : Dataflow) (before : LivePoint) (records : Option Records) (faults : ℕ) (IsKept : Story → List ℕ → Type 0)
    (story : Story) (kept : List ℕ) (given gives : Option (List LineIn)) (ended : Bool) (fault : ServeFault) (first last : SinkView)
    → before.counts ≡ no_counts → before.At story kept → IsSome records
    → ServesPart rests flow before records faults fault given gives (IsPutBefore flow before.counts fault first last)
    → AnswersBehind rests flow [] kept story IsKept given gives ended (stopped_status fault) first last
answers-stopped rests flow before records faults IsKept story kept given gives ended fault first last none at told so =
    let a = so.serves story kept at (relied-told records flow so.lines told) in
    let counts = counts_behind a.answers no_counts in
    record {
      lines = so.lines;
      unanswered = so.unanswered;
      one = so.one;
      none_left = λ e. so.none_left (read-alone fault e);
      gave = so.gave;
      answers = a.answers;
      last = a.last;
      are = a.are;
      of_story = a.of_story;
      unharmed = a.unharmed told;
      wrote = wrote-part flow fault ((ended ≡ true) × (so.unanswered ≡ []) × IsKept a.last (kept_behind flow kept a.answers)) (status_by counts)
          a.answers (counts_line counts) first last
          (subst (λ k. IsPutBefore flow k fault first last a.answers) none a.put);
    }

-- ---- the opening

-- it was written
pub answers-opened : (rests : Bool) (flow : Dataflow) (opened kept : List ℕ) (story : Story) (One Two : Story → List ℕ → Type 0)
    (given gives : Option (List LineIn)) (ended : Bool) (status : Status) (first mid last : SinkView) → ((s : Story) (k : List ℕ) → One s k → Two s k)
    → IsWritten opened first mid → AnswersBehind rests flow [] kept story One given gives ended status mid last
    → AnswersBehind rests flow opened kept story Two given gives ended status first last
answers-opened rests flow opened kept story One Two given gives ended status first mid last to w so =
    let counts = counts_behind so.answers no_counts in
    let kept2 = kept_behind flow kept so.answers in
    record {
      lines = so.lines;
      unanswered = so.unanswered;
      one = so.one;
      none_left = so.none_left;
      gave = so.gave;
      answers = so.answers;
      last = so.last;
      are = so.are;
      of_story = so.of_story;
      unharmed = so.unharmed;
      wrote = wrote-more status ((ended ≡ true) × (so.unanswered ≡ []) × One so.last kept2) ((ended ≡ true) × (so.unanswered ≡ []) × Two so.last kept2)
          (status_by counts) flow opened (answers_text flow no_counts so.answers) (counts_line counts) so.answers first mid last
          (λ e. (e.0, e.1, to so.last kept2 e.2)) w so.wrote;
    }

-- no line came in
same-given : (given : Option (List LineIn)) → given ≡ option_map (λ earlier. earlier ++ []) given
same-given None = refl
same-given (Some lines) = ap Some (sym (append-nil lines))

cut-opening : (rests : Bool) (flow : Dataflow) (opened kept : List ℕ) (story : Story) (IsKept : Story → List ℕ → Type 0) (given : Option (List LineIn))
    (ended : Bool) (status : Status) (first last : SinkView) → IsStory flow story
    → ((IsEnd : Type 0) (told : Status) (line : List ℕ) → WritesAt status IsEnd told (opened ++ []) line (IsCutBehind flow opened []) first last)
    → AnswersBehind rests flow opened kept story IsKept given given ended status first last
cut-opening rests flow opened kept story IsKept given ended status first last of_story w = record {
  lines = [];
  unanswered = [];
  one = omega arith;
  none_left = λ e. refl;
  gave = same-given given;
  answers = [];
  last = story;
  are = refl;
  of_story = of_story;
  unharmed = tt;
  wrote = w _ (status_by no_counts) (counts_line no_counts);
}

-- it was not written, or cut off
pub opens-not : (rests : Bool) (flow : Dataflow) (found : Option Restart) (story : Story) (IsKept : Story → List ℕ → Type 0)
    (given : Option (List LineIn)) (ended : Bool) (fault : ServeFault) (first last : SinkView) → IsStory flow story
    → CutsOpening fault (opened_text flow story found) first last
    → OpensAt rests flow found story IsKept given given ended (stopped_status fault) first last
opens-not rests flow found story IsKept given ended Read first last of_story c = absurd c
opens-not rests flow found story IsKept given ended Write first last of_story c =
    inr (cut-opening rests flow (opened_text flow story found) (lines_found found) story IsKept given ended WriteFault first last of_story
    (λ E told line. inl (inr (refl, c))))
opens-not rests flow found story IsKept given ended Store first last of_story c = inl (tt, (refl, c))
opens-not rests flow found story IsKept given ended serve.NoMemory first last of_story (inl c) = inl (tt, (refl, c))
opens-not rests flow found story IsKept given ended serve.NoMemory first last of_story (inr c) =
    inr (cut-opening rests flow (opened_text flow story found) (lines_found found) story IsKept given ended NoMemory first last of_story
    (λ E told line. inr (inl (inr (refl, c)))))

-- the same over what is equal, where more is kept
pub answers-over : (one two : Bool) (flow flow2 : Dataflow) (opened kept : List ℕ) (story : Story) (One Two : Story → List ℕ → Type 0)
    (given gives : Option (List LineIn)) (ended : Bool) (status : Status) (first last : SinkView) → one ≡ two → flow ≡ flow2
    → ((s : Story) (k : List ℕ) → One s k → Two s k) → AnswersBehind one flow opened kept story One given gives ended status first last
    → AnswersBehind two flow2 opened kept story Two given gives ended status first last
answers-over one two flow flow2 opened kept story One Two given gives ended status first last b f to so =
    subst (λ x. AnswersBehind two x opened kept story Two given gives ended status first last) f
    (subst (λ x. AnswersBehind x flow opened kept story Two given gives ended status first last) b (kept-more so))
  where
    kept-more : AnswersBehind one flow opened kept story One given gives ended status first last
        → AnswersBehind one flow opened kept story Two given gives ended status first last
    kept-more so = record {
      lines = so.lines;
      unanswered = so.unanswered;
      one = so.one;
      none_left = so.none_left;
      gave = so.gave;
      answers = so.answers;
      last = so.last;
      are = so.are;
      of_story = so.of_story;
      unharmed = so.unharmed;
      wrote = wrote-to status ((ended ≡ true) × (so.unanswered ≡ []) × One so.last (kept_behind flow kept so.answers))
          ((ended ≡ true) × (so.unanswered ≡ []) × Two so.last (kept_behind flow kept so.answers)) (status_by (counts_behind so.answers no_counts))
          (opened ++ answers_text flow no_counts so.answers) (counts_line (counts_behind so.answers no_counts))
          (IsCutBehind flow opened so.answers) first last
          (λ e. (e.0, e.1, to so.last (kept_behind flow kept so.answers) e.2)) so.wrote;
    }
