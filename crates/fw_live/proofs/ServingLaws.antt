-- Lines are answered, one after the other.
use Rattle.std.proofs.Common.{◌≡◌, ◌⊎◌, inl, inr, ℕ, suc, ◌≤◌, Bool, List, [], ◌∷◌, ◌++◌, ◌+◌, length, Option, Some, None, option_map, Result, Ok, Err, refl, sym, ap, subst, ◌∙◌, arith}
use Rattle.std.proofs.lemmas.List.{append-nil, append_assoc, length-append}
use Rattle.std.specs.Prelude.{IfErr, IfOk, IfSome, IsErrOf, IsSome, OnOk}
use Rattle.fw_outside.specs.declared.fault.OutFault.{OutFault}
use Rattle.fw_outside.specs.declared.fault.OutFault.TheVariants.{Failed}
use Rattle.fw_outside.specs.declared.fault.OutFault.TheVariants as out
use Rattle.fw_outside.specs.Outside.{SinkView, TakesPrefix, one_more}
use Rattle.fw_flow.specs.Dataflow.{Dataflow}
use Rattle.fw_keep.specs.Stored.{Records}
use Rattle.fw_session.specs.Story.{Story, IsStory}
use Rattle.fw_command.specs.Writing.{IsCutOff, IsWritten}
use Rattle.fw_command.proofs.WritingLaws.{takes_first, written_more, written_nothing}
use Rattle.fw_run.specs.Call.{CountsWrites}
use Rattle.fw_run.proofs.TakenLaws.{taken_more, taken_part}
use Rattle.fw_live.specs.declared.counts.LineCounts.{LineCounts}
use Rattle.fw_live.specs.declared.fault.ServeFault.{ServeFault}
use Rattle.fw_live.specs.declared.fault.ServeFault.TheVariants.{Read, Write, Store, NoMemory}
use Rattle.fw_run.specs.declared.status.Status.TheVariants.{Done}
use Rattle.fw_live.specs.declared.rule.LineRule.{LineRule}
use Rattle.fw_live.specs.Answered.{HasAnswered}
use Rattle.fw_live.specs.Answers.{Answer, answer_text, saturated, counts_after, lines_kept}
use Rattle.fw_live.specs.Asked.{Asked, LineIn, asked_for}
use Rattle.fw_live.specs.Call.{stopped_status}
use Rattle.fw_live.specs.Faults.{TellsFaults}
use Rattle.fw_live.specs.Given.{with_line_given}
use Rattle.fw_live.specs.Life.{AreAnswers, answers_text, counts_behind, kept_behind}
use Rattle.fw_live.specs.Relies.{IsAskedReliedOn, IsLineReliedOn}
use Rattle.fw_live.specs.Serving.{
  AreLinesReliedOn,
  CountsLines,
  GivesAtMostOne,
  GivesMany,
  HasAnsweredAll,
  HasServed,
  IsCutBy,
  IsCutInLast,
  IsPutBefore,
  Serves,
  ServesOne,
  ServesPart,
  LivePoint,
  line_faults_after,
}
use Rattle.fw_live.proofs.FaultsLaws.{none-told, same≤, told-more, unharmed-more}
use Rattle.fw_live.proofs.TakingLaws.{relied-maybe}

-- ---- what was relied on before

relied-asked : (before after : Option Records) (h : Result Asked LineRule) → (IsSome after → IsSome before) → IsAskedReliedOn after h
    → IsAskedReliedOn before h
relied-asked before after (Ok asked) told r = relied-maybe before after asked.item told r
relied-asked before after (Err rule) told r = tt

relied-lines : (before after : Option Records) (flow : Dataflow) (lines : List LineIn) → (IsSome after → IsSome before)
    → AreLinesReliedOn after flow lines → AreLinesReliedOn before flow lines
relied-lines before after flow [] told r = tt
relied-lines before after flow (line ∷ lines) told r =
    (relied-asked before after (asked_for flow line) told r.0, relied-lines before after flow lines told r.1)

relied-first : (records : Option Records) (flow : Dataflow) (one other : List LineIn) → AreLinesReliedOn records flow (one ++ other)
    → AreLinesReliedOn records flow one
relied-first records flow [] other r = tt
relied-first records flow (line ∷ one) other r = (r.0, relied-first records flow one other r.1)

relied-second : (records : Option Records) (flow : Dataflow) (one other : List LineIn) → AreLinesReliedOn records flow (one ++ other)
    → AreLinesReliedOn records flow other
relied-second records flow [] other r = r
relied-second records flow (line ∷ one) other r = relied-second records flow one other r.1

-- ---- answers behind answers

answers-more : (rests : Bool) (flow : Dataflow) (story : Story) (lines others : List LineIn) (answers more : List Answer) (between last : Story)
    → AreAnswers rests flow story lines answers between → AreAnswers rests flow between others more last
    → AreAnswers rests flow story (lines ++ others) (answers ++ more) last
answers-more rests flow story [] others [] more between last a b = subst (λ s. AreAnswers rests flow s others more last) a b
answers-more rests flow story [] others (x ∷ answers) more between last a b = absurd a
answers-more rests flow story (line ∷ lines) others [] more between last a b = absurd a
answers-more rests flow story (line ∷ lines) others (x ∷ answers) more between last a b =
    (a.0, a.1, answers-more rests flow a.0 lines others answers more between last a.2 b)

kept-more : (flow : Dataflow) (answers more : List Answer) (kept : List ℕ)
    → kept_behind flow kept (answers ++ more) ≡ kept_behind flow (kept_behind flow kept answers) more
kept-more flow [] more kept = refl
kept-more flow (x ∷ answers) more kept = kept-more flow answers more (lines_kept flow kept x)

counts-more : (answers more : List Answer) (counts : LineCounts) → counts_behind (answers ++ more) counts ≡ counts_behind more (counts_behind answers counts)
counts-more [] more counts = refl
counts-more (x ∷ answers) more counts = counts-more answers more (counts_after x counts)

text-more : (flow : Dataflow) (answers more : List Answer) (counts : LineCounts)
    → answers_text flow counts (answers ++ more) ≡ answers_text flow counts answers ++ answers_text flow (counts_behind answers counts) more
text-more flow [] more counts = refl
text-more flow (x ∷ answers) more counts =
    ap (λ text. answer_text flow (saturated (counts.lines + 1)) x ++ text) (text-more flow answers more (counts_after x counts))
    ∙ sym (append_assoc (answer_text flow (saturated (counts.lines + 1)) x) (answers_text flow (counts_after x counts) answers)
    (answers_text flow (counts_behind answers (counts_after x counts)) more))

-- ---- lines

given-none : (given : Option (List LineIn)) → given ≡ option_map (λ earlier. earlier ++ []) given
given-none None = refl
given-none (Some lines) = ap Some (sym (append-nil lines))

given-more : (one other : List LineIn) (first second third : Option (List LineIn)) → second ≡ option_map (λ earlier. earlier ++ one) first
    → third ≡ option_map (λ earlier. earlier ++ other) second → third ≡ option_map (λ earlier. earlier ++ (one ++ other)) first
given-more one other None second third e f = f ∙ ap (option_map (λ earlier. earlier ++ other)) e
given-more one other (Some lines) second third e f =
    f ∙ ap (option_map (λ earlier. earlier ++ other)) e ∙ ap Some (append_assoc lines one other)

-- no line came
pub serves-none : (rests : Bool) (flow : Dataflow) (at : LivePoint) (given : Option (List LineIn)) (view : SinkView)
    → Serves rests flow at at given given (λ text. IsWritten text view view)
serves-none rests flow at given view = record {
  lines = [];
  gave = given-none given;
  faults = none-told at.counts.faults at.counts.faults at.faults at.faults refl refl;
  serves = λ story kept there relied. record {
    answers = [];
    last = story;
    are = refl;
    put = written_nothing view;
    counted = refl;
    at = there;
    unharmed = λ told. tt;
  };
}

-- one line was answered
pub serves-one : (rests : Bool) (flow : Dataflow) (before after : LivePoint) (line : LineIn) (given gives : Option (List LineIn)) (text : List ℕ)
    → gives ≡ with_line_given line given → TellsFaults before.counts.faults after.counts.faults before.faults after.faults
    → ((story : Story) (kept : List ℕ) → before.At story kept → IsLineReliedOn after.records flow line
    → HasAnswered rests flow story kept (asked_for flow line) before.counts after.counts [] text after.At after.records)
    → ServesOne rests flow before after given gives (λ bytes. text ≡ bytes)
serves-one rests flow before after line given gives text gave faults answered = record {
  serves = record {
    lines = line ∷ [];
    gave = gave;
    faults = faults;
    serves = λ story kept there relied. let a = answered story kept there relied.0 in record {
      answers = a.answer ∷ [];
      last = a.next;
      are = (a.next, a.answers, refl);
      put = a.written ∙ sym (append-nil (answer_text flow (saturated (before.counts.lines + 1)) a.answer));
      counted = a.counted;
      at = a.at;
      unharmed = λ told. (a.unharmed told, tt);
    };
  };
  one = refl;
}

-- its answer is one
one-answer : (rests : Bool) (flow : Dataflow) (story : Story) (lines : List LineIn) (answers : List Answer) (last : Story)
    → AreAnswers rests flow story lines answers last → length lines ≡ 1 → (answer : Answer) × (answers ≡ answer ∷ [])
one-answer rests flow story [] answers last a n = absurd cc
one-answer rests flow story (line ∷ lines) [] last a n = absurd a
one-answer rests flow story (line ∷ []) (x ∷ []) last a n = (x, refl)
one-answer rests flow story (line ∷ []) (x ∷ y ∷ answers) last a n = absurd a.2
one-answer rests flow story (line ∷ other ∷ lines) answers last a n = absurd (two (length lines) n)
  where
    two : (k : ℕ) → suc (suc k) ≡ 1 → ⊥
    two k e = omega (arith, e)

-- where lines were answered, and then one more
two-served : (rests : Bool) (flow : Dataflow) (first second third : LivePoint) (story : Story) (kept : List ℕ) (one other : List LineIn) (text : List ℕ)
    (IsPut All : List ℕ → Type 0) (before : HasServed rests flow first second story kept one IsPut)
    → HasServed rests flow second third before.last (kept_behind flow kept before.answers) other (λ bytes. text ≡ bytes) → ((bytes : List ℕ) → IsPut bytes → All (bytes ++ text))
    → (IsSome third.records → IsSome second.records) → HasServed rests flow first third story kept (one ++ other) All
two-served rests flow first second third story kept one other text IsPut All a b join told = record {
  answers = a.answers ++ b.answers;
  last = b.last;
  are = answers-more rests flow story one other a.answers b.answers a.last b.last a.are b.are;
  put = subst All
      (ap (λ bytes. answers_text flow first.counts a.answers ++ bytes) (b.put ∙ ap (λ c. answers_text flow c b.answers) a.counted)
      ∙ sym (text-more flow a.answers b.answers first.counts))
      (join (answers_text flow first.counts a.answers) a.put);
  counted = b.counted ∙ ap (counts_behind b.answers) a.counted ∙ sym (counts-more a.answers b.answers first.counts);
  at = subst (third.At b.last) (sym (kept-more flow a.answers b.answers kept)) b.at;
  unharmed = λ tells. unharmed-more a.answers b.answers (a.unharmed (told tells)) (b.unharmed tells);
}

both-served : (rests : Bool) (flow : Dataflow) (first second third : LivePoint) (given gives more : Option (List LineIn)) (text : List ℕ)
    (IsPut All : List ℕ → Type 0) → Serves rests flow first second given gives IsPut
    → Serves rests flow second third gives more (λ bytes. text ≡ bytes) → ((bytes : List ℕ) → IsPut bytes → All (bytes ++ text))
    → (IsSome third.records → IsSome second.records) → Serves rests flow first third given more All
both-served rests flow first second third given gives more text IsPut All one two join told = record {
  lines = one.lines ++ two.lines;
  gave = given-more one.lines two.lines given gives more one.gave two.gave;
  faults = told-more first.counts.faults second.counts.faults third.counts.faults first.faults second.faults third.faults one.faults two.faults;
  serves = λ story kept there relied.
      let a = one.serves story kept there (relied-lines second.records third.records flow one.lines told (relied-first third.records flow one.lines two.lines relied)) in
      two-served rests flow first second third story kept one.lines two.lines text IsPut All a
      (two.serves a.last (kept_behind flow kept a.answers) a.at (relied-second third.records flow one.lines two.lines relied)) join told;
}

-- the same of a session whose flow and whose manner stayed
same-serves : (rests rests2 : Bool) (flow flow2 : Dataflow) (before after : LivePoint) (given gives : Option (List LineIn)) (IsPut : List ℕ → Type 0)
    → rests2 ≡ rests → flow2 ≡ flow → ServesOne rests2 flow2 before after given gives IsPut → ServesOne rests flow before after given gives IsPut
same-serves rests rests2 flow flow2 before after given gives IsPut r f s =
    subst (λ d. ServesOne rests d before after given gives IsPut) f (subst (λ b. ServesOne b flow2 before after given gives IsPut) r s)

-- one more was answered, and its answer was written
pub serves-more : (rests rests2 : Bool) (flow flow2 : Dataflow) (first second third : LivePoint) (given gives more : Option (List LineIn)) (text : List ℕ)
    (before between after : SinkView) → rests2 ≡ rests → flow2 ≡ flow
    → Serves rests flow first second given gives (λ bytes. IsWritten bytes before between)
    → ServesOne rests2 flow2 second third gives more (λ bytes. text ≡ bytes) → IsWritten text between after
    → (IsSome third.records → IsSome second.records) → Serves rests flow first third given more (λ bytes. IsWritten bytes before after)
serves-more rests rests2 flow flow2 first second third given gives more text before between after r f one two written told =
    both-served rests flow first second third given gives more text (λ bytes. IsWritten bytes before between) (λ bytes. IsWritten bytes before after) one
    (same-serves rests rests2 flow flow2 second third gives more (λ bytes. text ≡ bytes) r f two).serves
    (λ bytes put. written_more bytes text before between after put written) told

-- ---- where it ends before the lines do

-- bytes were written, and of those behind them first ones
pub cut-more : (one other : List ℕ) (fault : OutFault) (before between after : SinkView) → IsWritten one before between
    → IsCutOff other fault between after → IsCutOff (one ++ other) fault before after
cut-more one other fault before between after w c =
    let part = taken_part other fault between after c in
    let all = taken_more one part.one fault before between after w part.taken in
    record {
      taken = subst (λ bytes. TakesPrefix before.taken bytes after.taken)
          (append_assoc one part.one part.other ∙ ap (λ bytes. one ++ bytes) (sym part.parts))
          (takes_first before.taken after.taken (one ++ part.one) part.other all.taken);
      faults = all.faults;
      refusals = all.refusals;
    }

pub same-fault : {T : Type 0} (one two : ServeFault) → IsErrOf {T = T} (Err one) two → one ≡ two
same-fault one two e = cc

pub store-not-cut : (fault : ServeFault) (text : List ℕ) (before after : SinkView) → IsErrOf {T = Unit {0}} (Err fault) Store
    → IsCutBy fault text before after → ⊥
store-not-cut Read text before after e c = c
store-not-cut Write text before after e c = absurd cc
store-not-cut Store text before after e c = c
store-not-cut NoMemory text before after e c = absurd cc

-- all answers but the last were written, and of that one first bytes
cut-within : (flow : Dataflow) (counts between : LineCounts) (fault : OutFault) (answers more : List Answer) (text : List ℕ)
    (before mid after : SinkView) → (one : (answer : Answer) × (more ≡ answer ∷ [])) → between ≡ counts_behind answers counts
    → IsWritten (answers_text flow counts answers) before mid → text ≡ answers_text flow between more → IsCutOff text fault mid after
    → IsCutInLast flow counts (answers ++ more) fault before after
cut-within flow counts between fault answers more text before mid after one counted w e c = record {
  earlier = answers;
  last = one.0;
  are = ap (λ xs. answers ++ xs) one.1;
  between = mid;
  written = w;
  cut = subst (λ bytes. IsCutOff bytes fault mid after)
      (e ∙ ap (answers_text flow between) one.1 ∙ append-nil (answer_text flow (saturated (between.lines + 1)) one.0)
      ∙ ap (λ (k : LineCounts). answer_text flow (saturated (k.lines + 1)) one.0) counted) c;
}

cut-by : (flow : Dataflow) (counts between : LineCounts) (fault : ServeFault) (answers more : List Answer) (text : List ℕ)
    (before mid after : SinkView) → (one : (answer : Answer) × (more ≡ answer ∷ [])) → between ≡ counts_behind answers counts
    → IsWritten (answers_text flow counts answers) before mid → text ≡ answers_text flow between more → IsCutBy fault text mid after
    → IsPutBefore flow counts fault before after (answers ++ more)
cut-by flow counts between Read answers more text before mid after one counted w e c = absurd c
cut-by flow counts between Write answers more text before mid after one counted w e c =
    cut-within flow counts between Failed answers more text before mid after one counted w e c
cut-by flow counts between Store answers more text before mid after one counted w e c = absurd c
cut-by flow counts between NoMemory answers more text before mid after one counted w e c =
    inr (cut-within flow counts between out.NoMemory answers more text before mid after one counted w e c)

put-before : (flow : Dataflow) (counts : LineCounts) (fault : ServeFault) (answers : List Answer) (before after : SinkView) → (fault ≡ Write → ⊥)
    → IsWritten (answers_text flow counts answers) before after → IsPutBefore flow counts fault before after answers
put-before flow counts Read answers before after n w = w
put-before flow counts Write answers before after n w = absurd (n refl)
put-before flow counts Store answers before after n w = w
put-before flow counts NoMemory answers before after n w = inl w

-- no answer was begun: the source gave one line more at most
pub part-before : (rests : Bool) (flow : Dataflow) (first second : LivePoint) (records : Option Records) (faults : ℕ)
    (given gives more : Option (List LineIn)) (fault : ServeFault) (before after : SinkView)
    → Serves rests flow first second given gives (λ bytes. IsWritten bytes before after) → GivesAtMostOne fault gives more → (fault ≡ Write → ⊥)
    → (IsSome records → IsSome second.records) → second.faults ≤ faults → ((st : Story) (k : List ℕ) → second.At st k → IsStory flow st)
    → ServesPart rests flow first records faults fault given more (IsPutBefore flow first.counts fault before after)
part-before rests flow first second records faults given gives more fault before after so next safe told few there = record {
  lines = so.lines;
  unanswered = next.lines;
  one = next.one;
  none_left = next.none;
  gave = given-more so.lines next.lines given gives more so.gave next.gave;
  counts = second.counts;
  failed = second.faults;
  told = so.faults;
  within = few;
  serves = λ story kept at relied.
      let s = so.serves story kept at (relied-lines second.records records flow so.lines told relied) in record {
        answers = s.answers;
        last = s.last;
        are = s.are;
        of_story = there s.last (kept_behind flow kept s.answers) s.at;
        put = put-before flow first.counts fault s.answers before after safe s.put;
        counted = s.counted;
        unharmed = λ tells. s.unharmed (told tells);
      };
}

-- where lines were answered, and of the answer to one more first bytes were written
two-cut : (rests : Bool) (flow : Dataflow) (first second third : LivePoint) (story : Story) (kept : List ℕ) (one other : List LineIn)
    (text : List ℕ) (fault : ServeFault) (before between after : SinkView) → length other ≡ 1
    → (a : HasServed rests flow first second story kept one (λ bytes. IsWritten bytes before between))
    → HasServed rests flow second third a.last (kept_behind flow kept a.answers) other (λ bytes. text ≡ bytes) → IsCutBy fault text between after
    → (IsSome third.records → IsSome second.records) → ((st : Story) (k : List ℕ) → third.At st k → IsStory flow st)
    → HasAnsweredAll rests flow first.counts third.counts third.records story (one ++ other) (IsPutBefore flow first.counts fault before after)
two-cut rests flow first second third story kept one other text fault before between after single a b cut told there = record {
  answers = a.answers ++ b.answers;
  last = b.last;
  are = answers-more rests flow story one other a.answers b.answers a.last b.last a.are b.are;
  of_story = there b.last (kept_behind flow (kept_behind flow kept a.answers) b.answers) b.at;
  put = cut-by flow first.counts second.counts fault a.answers b.answers text before between after
      (one-answer rests flow a.last other b.answers b.last b.are single) a.counted a.put b.put cut;
  counted = b.counted ∙ ap (counts_behind b.answers) a.counted ∙ sym (counts-more a.answers b.answers first.counts);
  unharmed = λ tells. unharmed-more a.answers b.answers (a.unharmed (told tells)) (b.unharmed tells);
}

-- an answer was cut off
pub part-within : (rests rests2 : Bool) (flow flow2 : Dataflow) (first second third : LivePoint) (given gives more : Option (List LineIn))
    (text : List ℕ) (fault : ServeFault) (before between after : SinkView) → rests2 ≡ rests → flow2 ≡ flow
    → Serves rests flow first second given gives (λ bytes. IsWritten bytes before between)
    → ServesOne rests2 flow2 second third gives more (λ bytes. text ≡ bytes) → IsCutBy fault text between after
    → (IsSome third.records → IsSome second.records) → ((st : Story) (k : List ℕ) → third.At st k → IsStory flow st)
    → ServesPart rests flow first third.records third.faults fault given more (IsPutBefore flow first.counts fault before after)
part-within rests rests2 flow flow2 first second third given gives more text fault before between after r f one next cut told there =
    let two = same-serves rests rests2 flow flow2 second third gives more (λ bytes. text ≡ bytes) r f next in
    record {
      lines = one.lines ++ two.serves.lines;
      unanswered = [];
      one = omega arith;
      none_left = λ e. refl;
      gave = given-more one.lines two.serves.lines given gives more one.gave two.serves.gave
          ∙ ap (λ lines. option_map (λ earlier. earlier ++ lines) given) (sym (append-nil (one.lines ++ two.serves.lines)));
      counts = third.counts;
      failed = third.faults;
      told = told-more first.counts.faults second.counts.faults third.counts.faults first.faults second.faults third.faults one.faults
          two.serves.faults;
      within = same≤ third.faults third.faults refl;
      serves = λ story kept at relied.
          let a = one.serves story kept at (relied-lines second.records third.records flow one.lines told
          (relied-first third.records flow one.lines two.serves.lines relied)) in
          two-cut rests flow first second third story kept one.lines two.serves.lines text fault before between after two.one a
          (two.serves.serves a.last (kept_behind flow kept a.answers) a.at (relied-second third.records flow one.lines two.serves.lines relied)) cut told
          there;
    }

-- no line was given
pub gives-none : (fault : ServeFault) (given gives : Option (List LineIn)) → gives ≡ given → GivesAtMostOne fault given gives
gives-none fault given gives e = record { lines = []; one = omega arith; none = λ read. refl; gave = e ∙ given-none given }

-- one line was given, where an answer failed by something else than the source
pub gives-one : {T : Type 0} (r : Result T ServeFault) (line : LineIn) (given gives : Option (List LineIn)) → (IsErrOf r Read → ⊥)
    → gives ≡ with_line_given line given → IfErr r (λ fault. GivesAtMostOne fault given gives)
gives-one (Ok x) line given gives n e = tt
gives-one (Err fault) line given gives n e =
    record { lines = line ∷ []; one = omega arith; none = λ read. absurd (n (ap Err read)); gave = e }

pub if-ok-some : {T E : Type 0} (r : Result (Option T) E) (P : Type 0) → P → IfOk r (λ x. IfSome x (λ _. P))
if-ok-some (Ok None) P p = tt
if-ok-some (Ok (Some x)) P p = p
if-ok-some (Err e) P p = tt

-- no line, and one more
pub many-none : (given : Option (List LineIn)) → GivesMany 0 given given
many-none given = record { lines = []; many = refl; gave = given-none given }

pub many-one : (line : LineIn) (given gives : Option (List LineIn)) → gives ≡ with_line_given line given → GivesMany 1 given gives
many-one line given gives e = record { lines = line ∷ []; many = refl; gave = e }

pub many-more : (count : ℕ) (given gives more : Option (List LineIn)) → GivesMany count given gives → GivesMany 1 gives more
    → GivesMany (count + 1) given more
many-more count given gives more a b = record {
  lines = a.lines ++ b.lines;
  many = length-append a.lines b.lines ∙ ap (λ n. n + length b.lines) a.many ∙ ap (λ n. count + n) b.many;
  gave = given-more a.lines b.lines given gives more a.gave b.gave;
}

-- ---- how often the output failed

-- it did not, in what was answered so far
pub record IsCalm (before after : SinkView) : Type 0 where
  pub refusals : after.refusals ≡ before.refusals
  pub faults : after.faults ≡ before.faults

pub calm-more : (text : List ℕ) (before between after : SinkView) → IsCalm before between → IsWritten text between after → IsCalm before after
calm-more text before between after c w = record { refusals = w.none_refused ∙ c.refusals; faults = w.none_failed ∙ c.faults }

pub counts-calm : (before after : SinkView) → IsCalm before after → CountsWrites Done before after
counts-calm before after c = record { faults = c.faults; refusals = λ _. c.refusals; no_memory = λ _. inl c.refusals }

pub counts-stopped : (fault : ServeFault) (before after : SinkView) → (fault ≡ Write → ⊥) → IsCalm before after
    → CountsWrites (stopped_status fault) before after
counts-stopped Read before after n c = record { faults = c.faults; refusals = λ _. c.refusals; no_memory = λ _. inl c.refusals }
counts-stopped Write before after n c = absurd (n refl)
counts-stopped Store before after n c = record { faults = c.faults; refusals = λ _. c.refusals; no_memory = λ _. inl c.refusals }
counts-stopped NoMemory before after n c = record { faults = c.faults; refusals = λ _. c.refusals; no_memory = λ _. inl c.refusals }

pub counts-cut : (fault : ServeFault) (text : List ℕ) (before between after : SinkView) → IsCalm before between → IsCutBy fault text between after
    → CountsWrites (stopped_status fault) before after
counts-cut Read text before between after c cut = absurd cut
counts-cut Write text before between after c cut = record {
  faults = cut.faults ∙ ap one_more c.faults;
  refusals = λ _. cut.refusals ∙ ap one_more c.refusals;
  no_memory = λ e. absurd cc;
}
counts-cut Store text before between after c cut = absurd cut
counts-cut NoMemory text before between after c cut = record {
  faults = cut.faults ∙ c.faults;
  refusals = λ n. absurd (n refl);
  no_memory = λ _. refused cut.refusals;
}
  where
    refused : (after.refusals ≡ between.refusals) ⊎ (after.refusals ≡ one_more between.refusals)
        → (after.refusals ≡ before.refusals) ⊎ (after.refusals ≡ one_more before.refusals)
    refused (inl e) = inl (e ∙ c.refusals)
    refused (inr e) = inr (e ∙ ap one_more c.refusals)

-- ---- how often the source of lines failed

pub lines-failed : (fault : ServeFault) (given gives : Option (List LineIn)) (before between after : ℕ) → between ≡ before
    → after ≡ line_faults_after fault between → CountsLines fault given gives before after
lines-failed Read given gives before between after e f = inl (f ∙ ap one_more e)
lines-failed Write given gives before between after e f = f ∙ e
lines-failed Store given gives before between after e f = f ∙ e
lines-failed NoMemory given gives before between after e f = f ∙ e

pub lines-kept : (fault : ServeFault) (given gives : Option (List LineIn)) (before after : ℕ) → (fault ≡ Read → ⊥) → after ≡ before
    → CountsLines fault given gives before after
lines-kept Read given gives before after n e = absurd (n refl)
lines-kept Write given gives before after n e = e
lines-kept Store given gives before after n e = e
lines-kept NoMemory given gives before after n e = e

-- where no more was read
pub on-ok : {T E : Type 0} (r : Result T E) (P : Type 0) → P → OnOk r P
on-ok (Ok x) P p = p
on-ok (Err e) P p = tt

pub no-line-failed : {T : Type 0} (r : Result T ServeFault) (before after : ℕ) → (IsErrOf r Read → ⊥) → after ≡ before
    → IfErr r (λ fault. after ≡ line_faults_after fault before)
no-line-failed (Ok x) before after n e = tt
no-line-failed (Err Read) before after n e = absurd (n refl)
no-line-failed (Err Write) before after n e = e
no-line-failed (Err Store) before after n e = e
no-line-failed (Err NoMemory) before after n e = e
