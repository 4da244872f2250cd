-- What a call comes to.
use Rattle.std.proofs.Common.{◌≡◌, ◌≢◌, ◌⊎◌, inl, inr, ℕ, ◌++◌, Bool, true, List, [], Option, Some, None, Result, Ok, Err, refl, sym, ap, subst, ◌∙◌, arith}
use Rattle.std.proofs.lemmas.Bool.{false≢true}
use Rattle.std.specs.Cmp.{nat_cmp_total}
use Rattle.std.specs.FinMap.{same_map, nat_cmp-IsAntisymmetric}
use Rattle.std.specs.Option.{ForSome}
use Rattle.std.specs.Prelude.{IsErrOf, IsSome}
use Rattle.fw_outside.specs.declared.fault.OutFault.{OutFault}
use Rattle.fw_outside.specs.Outside.{SinkView, StayIfTold}
use Rattle.fw_lines.specs.declared.refusal.Refusal.{Refusal}
use Rattle.fw_flow.specs.Dataflow.{Dataflow}
use Rattle.fw_flow_text.specs.Grammar.{IsAcceptedFlow}
use Rattle.fw_keep.specs.Stored.{Records}
use Rattle.fw_root.specs.declared.root.Digests.{Digests}
use Rattle.fw_engine.specs.declared.engine.Engine.{Engine}
use Rattle.fw_engine.specs.Engine.{flow_of, keep_of}
use Rattle.fw_session.specs.declared.arrivals.Arrivals.{Arrivals}
use Rattle.fw_session.specs.Story.{Story}
use Rattle.fw_command.specs.declared.reading.JobFault.{JobFault}
use Rattle.fw_command.specs.declared.reading.JobFault.TheVariants as job
use Rattle.fw_command.specs.Reading.{IfJobRefused}
use Rattle.fw_command.specs.Texts.{HasFlow, HasText, IsFlowRefused}
use Rattle.fw_hold.specs.declared.fault.HoldFault.{HoldFault}
use Rattle.fw_hold.specs.declared.fault.HoldFault.TheVariants as hold
use Rattle.fw_hold.specs.Engine.{KeepsOutside}
use Rattle.fw_hold.specs.Starting.{IsForeign, IsForeignIn}
use Rattle.fw_running.specs.declared.fault.EngineFault.TheVariants as engine
use Rattle.fw_run.specs.declared.status.Status.{Status}
use Rattle.fw_run.specs.declared.status.Status.TheVariants.{Done, BadWords, Refused, ReadFault, WriteFault, StoreFault, Damaged, DamagedRoot, NoMemory, ForeignRoot}
use Rattle.fw_run.specs.Held.{IsForeignEnd}
use Rattle.fw_run.specs.Status.{HasWord, IsTellingOf, TellsOfRoot}
use Rattle.fw_lasting.specs.declared.start.Resumed.{Resumed}
use Rattle.fw_lasting.specs.KeptStory.{HoldsStory}
use Rattle.fw_lasting.specs.Starting.{GoesOnFrom, HoldsSome, IsForeignFault, IsOfOutside, MayStart, TellsAgain}
use Rattle.fw_lasting.specs.UnderWay.{IsUnderWay, SaysLast}
use Rattle.fw_lasting.proofs.StartingLaws.{kept-again}
use Rattle.fw_live.specs.Asked.{LineIn}
use Rattle.fw_live.specs.declared.fault.ServeFault.{ServeFault}
use Rattle.fw_live.specs.declared.fault.ServeFault.TheVariants.{Read, Write, Store}
use Rattle.fw_live.specs.declared.fault.ServeFault.TheVariants as serve
use Rattle.fw_live.specs.Call.{CountsSession, EndsQuiet, EndsUnbegun, HasFlowRefused, StaysQuiet, status_by, stopped_status, unread_status}
use Rattle.fw_live.specs.Life.{answers_text, counts_behind, counts_line, kept_behind, no_counts}
use Rattle.fw_live.proofs.CommandLaws.{writes-none}
use Rattle.fw_run.specs.Call.{CountsWrites}
use Rattle.fw_live.specs.Words.{LiveCommand}
use Rattle.fw_relive.specs.Opening.{Restart, lines_found, opened_text, restart_in}
use Rattle.fw_relive.specs.Call.{AnswersFrom, EndsLasting, EndsUnopened, GivesBack, GoesOnBehind, HasTextSo, IsCutBehind, IsFlowText, AreOfRoot, KeepsAtEnd, LastingAnswers, MayBeginOver, OpensAt, StartsFrom, WritesAt, live_digests, unstarted_status}

-- ---- statuses

never-damaged : (status : Status) (id : ℕ) (IsEnd : Type 0) (told : Status) (text line : List ℕ) (IsCut : OutFault → SinkView → SinkView → Type 0)
    (before after : SinkView) → status ≡ Damaged id → WritesAt status IsEnd told text line IsCut before after → ⊥
never-damaged status id IsEnd told text line IsCut before after is w = subst (λ s. WritesAt s IsEnd told text line IsCut before after) is w

opens-no_root : (rests : Bool) (flow : Dataflow) (found : Option Restart) (first : Story) (IsKept : Story → List ℕ → Type 0)
    (given gives : Option (List LineIn)) (ended : Bool) (status : Status) (before after : SinkView)
    → OpensAt rests flow found first IsKept given gives ended status before after → (id : ℕ) → status ≢ Damaged id
opens-no_root rests flow found first IsKept given gives ended status before after (inl (e, quiet)) id is = absurd (subst EndsUnopened is e)
opens-no_root rests flow found first IsKept given gives ended status before after (inr so) id is =
    let counts = counts_behind so.answers no_counts in
    let opened = opened_text flow first found in
    let text = answers_text flow no_counts so.answers in
    never-damaged status id ((ended ≡ true) × (so.unanswered ≡ []) × IsKept so.last (kept_behind flow (lines_found found) so.answers)) (status_by counts)
    (opened ++ text) (counts_line counts) (IsCutBehind flow opened so.answers) before after is so.wrote

-- ---- a session that started

-- where a start went on from
starts-from : (flow : Dataflow) (digests : Digests) (held : Records) (story first : Story) (resumed : Option Resumed)
    → GoesOnFrom flow story resumed first
    → ((steps : ℕ) (lines : List ℕ) → SaysLast flow digests story steps lines (Some held) → TellsAgain steps lines resumed)
    → StartsFrom flow digests held story (restart_in resumed) first
starts-from flow digests held story first None goes tells = record { goes_on = goes; of_root = tells }
starts-from flow digests held story first (Some resumed) goes tells = record { goes_on = goes; of_root = tells }

-- the records held a story, as they were told and the root is not one of other texts
held-some : (flow : Dataflow) (digests : Digests) (told : Option Records) → IsSome told → MayStart flow digests told
    → (IsForeignIn digests told → ⊥) → (held : Records) × (told ≡ Some held) × HoldsSome flow digests held
held-some flow digests None told may own = absurd (false≢true told)
held-some flow digests (Some held) told may own = (held, refl, some (may held refl))
  where
    some : HoldsSome flow digests held ⊎ IsForeign digests held → HoldsSome flow digests held
    some (inl s) = s
    some (inr f) = absurd (own (held, refl, f))

pub ends-started : (rests : Bool) (flow : Dataflow) (digests : Digests) (told begun tells : Option Records) (resumed : Option Resumed)
    (Under : Story → Story → Type 0) (given gives : Option (List LineIn)) (ended : Bool) (status : Status) (before after : SinkView)
    → MayStart flow digests told → (IsSome tells → IsSome begun) → (IsSome begun → IsSome told)
    → ((story : Story) (turn next : ℕ) (held : Records) → told ≡ Some held → HoldsStory flow digests held story turn next → IsSome begun
    → (now : Story) × GoesOnFrom flow story resumed now × Under story now)
    → ((story : Story) (turn next : ℕ) (held : Records) (done : ℕ) (lines : List ℕ) → told ≡ Some held → HoldsStory flow digests held story turn next
    → SaysLast flow digests story done lines (Some held) → IsSome begun → TellsAgain done lines resumed)
    → (IsForeignIn digests told → IsSome begun → ⊥)
    → ((kept first : Story) → Under kept first → IsSome tells
    → OpensAt rests flow (restart_in resumed) first (KeepsAtEnd flow digests tells) given gives ended status before after)
    → ((kept first : Story) → Under kept first → ForSome tells (HoldsSome flow digests)) → (TellsOfRoot status → ⊥)
    → EndsLasting rests flow digests told tells given gives ended status before after
ends-started rests flow digests told begun tells resumed Under given gives ended status before after may back back2 starts says own answers left root =
    let begins = λ (t : IsSome tells). held-some flow digests told (back2 (back t)) may (λ f. own f (back t)) in
    let opens : IsSome tells → (first : Story)
    × OpensAt rests flow (restart_in resumed) first (KeepsAtEnd flow digests tells) given gives ended status before after = λ t.
    let b = begins t in
    let s = starts b.2.0 b.2.1 b.2.2 b.0 b.1 b.2.3 (back t) in
    (s.0, answers b.2.0 s.0 s.2 t) in
    record {
      goes_on = λ held story turn next is holds t.
          let s = starts story turn next held is holds (back t) in
          inr (record {
            found = restart_in resumed;
            first = s.0;
            starts = starts-from flow digests held story s.0 resumed s.1 (λ steps lines last. says story turn next held steps lines is holds last (back t));
            opens = answers story s.0 s.2 t;
          });
      foreign = λ f t. absurd (own f (back t));
      foreign_root = λ e. absurd (root (inr e));
      unharmed = λ t id. (
        opens-no_root rests flow (restart_in resumed) (opens t).0 (KeepsAtEnd flow digests tells) given gives ended status before after (opens t).1 id,
        λ e. root (inl (id, e)),
      );
      of_root = λ r. absurd (root r);
      next = λ held is.
          let t = subst IsSome (sym is) refl in
          let b = begins t in
          let s = starts b.2.0 b.2.1 b.2.2 b.0 b.1 b.2.3 (back t) in
          inl (left b.2.0 s.0 s.2 held is);
    }

-- ---- a session that did not start

outside-quiet : (fault : HoldFault) → IsOfOutside fault → EndsUnopened (unstarted_status fault)
outside-quiet fault (inl e) = subst (λ f. EndsUnopened (unstarted_status f)) (sym e) tt
outside-quiet fault (inr e) = subst (λ f. EndsUnopened (unstarted_status f)) (sym e) tt

foreign-end : (fault : HoldFault) → IsForeignFault fault → IsForeignEnd (unstarted_status fault)
foreign-end fault (inl e) = inl (ap unstarted_status e)
foreign-end fault (inr (inl e)) = inr (inl (ap unstarted_status e))
foreign-end fault (inr (inr e)) = inr (inr (ap unstarted_status e))

not-unopened : (status : Status) → EndsUnopened status
    → (status ≢ ForeignRoot) × ((id : ℕ) → (status ≢ Damaged id) × (status ≢ DamagedRoot id))
not-unopened status e = (λ is. subst EndsUnopened is e, λ id. (λ is. subst EndsUnopened is e, λ is. subst EndsUnopened is e))

not-harmed : (status : Status) → IsForeignEnd status → (id : ℕ) → (status ≢ Damaged id) × (status ≢ DamagedRoot id)
not-harmed status (inl e) id = (λ is. foreign (sym e ∙ is), λ is. foreign2 (sym e ∙ is))
  where
    foreign : ForeignRoot ≡ Damaged id → ⊥
    foreign e = absurd cc

    foreign2 : ForeignRoot ≡ DamagedRoot id → ⊥
    foreign2 e = absurd cc
not-harmed status (inr (inl e)) id = (not-unopened status (subst EndsUnopened (sym e) tt)).1 id
not-harmed status (inr (inr e)) id = (not-unopened status (subst EndsUnopened (sym e) tt)).1 id

may-still : (flow : Dataflow) (digests : Digests) (told tells : Option Records) → MayStart flow digests told → StayIfTold told tells
    → MayStart flow digests tells
may-still flow digests told tells may stays = λ held is. may held (sym (stays (subst IsSome (sym is) refl)) ∙ is)

pub ends-unstarted : (rests : Bool) (flow : Dataflow) (digests : Digests) (told tells : Option Records) (given : Option (List LineIn)) (ended : Bool)
    (fault : HoldFault) (at : SinkView) → MayStart flow digests told → StayIfTold told tells
    → ((story : Story) (turn next : ℕ) (held : Records) → told ≡ Some held → HoldsStory flow digests held story turn next → IsSome tells
    → IsOfOutside fault)
    → (IsForeignIn digests told → IsSome tells → IsForeignFault fault)
    → EndsLasting rests flow digests told tells given given ended (unstarted_status fault) at at
ends-unstarted rests flow digests told tells given ended fault at may stays whole other =
    let status = unstarted_status fault in
    record {
      goes_on = λ held story turn next is holds t. inl (outside-quiet fault (whole story turn next held is holds t), (refl, refl));
      foreign = λ f t. (foreign-end fault (other f t), (refl, refl), stays t);
      foreign_root = λ e t. one t (told-some t) e;
      unharmed = λ t id. two t (told-some t) id;
      of_root = λ r. ((refl, refl), stays);
      next = may-still flow digests told tells may stays;
    }
  where
    told-some : IsSome tells → (held : Records) × (told ≡ Some held) × (HoldsSome flow digests held ⊎ IsForeign digests held)
    told-some t = cases told (subst IsSome (stays t) t) may
      where
        cases : (records : Option Records) → IsSome records → MayStart flow digests records
            → (held : Records) × (records ≡ Some held) × (HoldsSome flow digests held ⊎ IsForeign digests held)
        cases None s m = absurd (false≢true s)
        cases (Some held) s m = (held, refl, m held refl)

    one : IsSome tells → (held : Records) × (told ≡ Some held) × (HoldsSome flow digests held ⊎ IsForeign digests held)
        → unstarted_status fault ≡ ForeignRoot → IsForeignIn digests told
    one t (held, is, inr f) e = (held, is, f)
    one t (held, is, inl (story, turn, next, holds)) e =
        absurd ((not-unopened (unstarted_status fault) (outside-quiet fault (whole story turn next held is holds t))).0 e)

    two : IsSome tells → (held : Records) × (told ≡ Some held) × (HoldsSome flow digests held ⊎ IsForeign digests held) → (id : ℕ)
        → (unstarted_status fault ≢ Damaged id) × (unstarted_status fault ≢ DamagedRoot id)
    two t (held, is, inr f) id = not-harmed (unstarted_status fault) (foreign-end fault (other (held, is, f) t)) id
    two t (held, is, inl (story, turn, next, holds)) id =
        (not-unopened (unstarted_status fault) (outside-quiet fault (whole story turn next held is holds t))).1 id

-- ---- a call

-- the words are no command
pub lasting-no_words : (texts : Option (List ℕ → Option (List ℕ))) (command : Option LiveCommand) (told : Option Records)
    (given : Option (List LineIn)) (ended : Bool) (at : SinkView) → command ≡ None
    → LastingAnswers texts command told told given given ended BadWords at at
lasting-no_words texts command told given ended at none = record {
  bad_words = (λ e. none, λ e. refl);
  refused = λ refusal e. absurd cc;
  unbegun = λ e. ((refl, refl), refl);
  begun = λ n. absurd (n tt);
}

-- the flow was not read
pub lasting-unread : (texts : Option (List ℕ → Option (List ℕ))) (command : Option LiveCommand) (live : LiveCommand) (told : Option Records)
    (given : Option (List LineIn)) (ended : Bool) (fault : JobFault) (at : SinkView) → command ≡ Some live
    → IfJobRefused (IsFlowRefused texts live.flow) fault → LastingAnswers texts command told told given given ended (unread_status fault) at at
lasting-unread texts command live told given ended job.Failed at some refused = record {
  bad_words = (λ e. absurd cc, λ e. absurd cc);
  refused = λ refusal e. absurd cc;
  unbegun = λ e. absurd e;
  begun = λ n. inl (tt, (refl, refl), refl);
}
lasting-unread texts command live told given ended (job.Refused refusal) at some refused = record {
  bad_words = (λ e. absurd cc, λ e. absurd cc);
  refused = λ other e. record { live = live; words = some; refused = subst (IsFlowRefused texts live.flow) (same e) refused };
  unbegun = λ e. ((refl, refl), refl);
  begun = λ n. absurd (n tt);
}
  where
    same : {other : Refusal} → Refused refusal ≡ Refused other → refusal ≡ other
    same e = cc
lasting-unread texts command live told given ended job.NoMemory at some refused = record {
  bad_words = (λ e. absurd cc, λ e. absurd cc);
  refused = λ refusal e. absurd cc;
  unbegun = λ e. absurd e;
  begun = λ n. inl (tt, (refl, refl), refl);
}

-- the flow was read
pub lasting-read : (texts : Option (List ℕ → Option (List ℕ))) (command : Option LiveCommand) (live : LiveCommand) (flow : Dataflow)
    (digests : Digests) (told tells : Option Records) (given gives : Option (List LineIn)) (ended : Bool) (status : Status) (before after : SinkView)
    → command ≡ Some live → HasText texts live.flow (λ text. IsAcceptedFlow text flow × (digests ≡ live_digests text)) → (EndsUnbegun status → ⊥)
    → EndsLasting live.rests flow digests told tells given gives ended status before after
    → LastingAnswers texts command told tells given gives ended status before after
lasting-read texts command live flow digests told tells given gives ended status before after some has begun so = record {
  bad_words = (λ e. absurd (begun (subst EndsUnbegun (sym e) tt)), λ e. absurd cc);
  refused = λ refusal e. absurd (begun (subst EndsUnbegun (sym e) tt));
  unbegun = λ e. absurd (begun e);
  begun = λ n. inr (record {
    live = live;
    text = has.text;
    flow = flow;
    of_flow = record { words = some; there = has.there; declared = has.so.0 };
    so = subst (λ d. EndsLasting live.rests flow d told tells given gives ended status before after) has.so.1 so;
  });
}

-- what a call asks of its store
pub may-go_on : (texts : Option (List ℕ → Option (List ℕ))) (command : Option LiveCommand) (live : LiveCommand) (flow : Dataflow) (digests : Digests)
    (told : Option Records) → command ≡ Some live → HasText texts live.flow (λ text. IsAcceptedFlow text flow × (digests ≡ live_digests text))
    → MayBeginOver texts command told → MayStart flow digests told
may-go_on texts command live flow digests told some has may =
    subst (λ d. MayStart flow d told) (sym has.so.1)
    (may live has.text flow (record { words = some; there = has.there; declared = has.so.0 }))

-- ---- what is told

-- where a status has a word of its own, memory may be refused for it
no-memory : (texts : Option (List ℕ → Option (List ℕ))) (command : Option LiveCommand) (told tells : Option Records)
    (given gives : Option (List LineIn)) (ended : Bool) (status : Status) (before after : SinkView) → HasWord status
    → LastingAnswers texts command told tells given gives ended status before after
    → LastingAnswers texts command told tells given gives ended NoMemory before after
no-memory texts command told tells given gives ended status before after (inl (refusal, e)) so =
    let n = subst (λ s. LastingAnswers texts command told tells given gives ended s before after) e so in
    record {
      bad_words = (λ e. absurd cc, λ none. absurd (refused-words refusal (n.bad_words.1 none)));
      refused = λ other e. absurd cc;
      unbegun = λ u. absurd u;
      begun = λ u. inl (tt, (n.unbegun tt).0, (n.unbegun tt).1);
    }
  where
    refused-words : (refusal : Refusal) → Refused refusal ≡ BadWords → ⊥
    refused-words refusal e = absurd cc
no-memory texts command told tells given gives ended status before after (inr h) so = record {
  bad_words = (λ e. absurd cc, λ none. absurd (worded h (so.bad_words.1 none)));
  refused = λ other e. absurd cc;
  unbegun = λ u. absurd u;
  begun = λ u. less h (so.begun (λ u. unbegun h u));
}
  where
    Harmed : Status → Type 0
    Harmed s = ((id : ℕ) × (s ≡ Damaged id)) ⊎ ((id : ℕ) × (s ≡ DamagedRoot id))

    worded : {s : Status} → Harmed s → s ≡ BadWords → ⊥
    worded (inl (id, e)) f = absurd (damaged (sym e ∙ f))
      where
        damaged : Damaged id ≡ BadWords → ⊥
        damaged e = absurd cc
    worded (inr (id, e)) f = absurd (root (sym e ∙ f))
      where
        root : DamagedRoot id ≡ BadWords → ⊥
        root e = absurd cc

    unbegun : {s : Status} → Harmed s → EndsUnbegun s → ⊥
    unbegun (inl (id, e)) u = subst EndsUnbegun e u
    unbegun (inr (id, e)) u = subst EndsUnbegun e u

    never : {s : Status} → Harmed s → ((id : ℕ) → (s ≢ Damaged id) × (s ≢ DamagedRoot id)) → ⊥
    never (inl (id, e)) n = (n id).0 e
    never (inr (id, e)) n = (n id).1 e

    no_quiet : {s : Status} → Harmed s → EndsQuiet s → ⊥
    no_quiet (inl (id, e)) q = subst EndsQuiet e q
    no_quiet (inr (id, e)) q = subst EndsQuiet e q

    ends : (rests : Bool) (text : List ℕ) (flow : Dataflow)
        → EndsLasting rests flow (live_digests text) told tells given gives ended status before after
        → EndsLasting rests flow (live_digests text) told tells given gives ended NoMemory before after
    ends rests text flow s = record {
      goes_on = λ held story turn next is holds t. absurd (never h (s.unharmed t));
      foreign = λ f t. absurd (never h (s.unharmed t));
      foreign_root = λ e. absurd cc;
      unharmed = λ t. absurd (never h (s.unharmed t));
      of_root = λ r. absurd (no-root r);
      next = s.next;
    }
      where
        no-root : TellsOfRoot NoMemory → ⊥
        no-root (inl (id, e)) = absurd cc
        no-root (inr e) = absurd cc

    less : Harmed status → (EndsQuiet status × StaysQuiet given gives before after × (tells ≡ told))
        ⊎ HasTextSo texts command (λ rests text flow. EndsLasting rests flow (live_digests text) told tells given gives ended status before after)
        → (EndsQuiet NoMemory × StaysQuiet given gives before after × (tells ≡ told))
        ⊎ HasTextSo texts command (λ rests text flow. EndsLasting rests flow (live_digests text) told tells given gives ended NoMemory before after)
    less h (inl q) = absurd (no_quiet h q.0)
    less h (inr s) = inr (record {
      live = s.live;
      text = s.text;
      flow = s.flow;
      of_flow = s.of_flow;
      so = ends s.live.rests s.text s.flow s.so;
    })

pub lasting-told : (texts : Option (List ℕ → Option (List ℕ))) (command : Option LiveCommand) (told tells : Option Records)
    (given gives : Option (List LineIn)) (ended : Bool) (status result : Status) (before after : SinkView) → IsTellingOf status result
    → LastingAnswers texts command told tells given gives ended status before after
    → LastingAnswers texts command told tells given gives ended result before after
lasting-told texts command told tells given gives ended status result before after (inl e) so =
    subst (λ s. LastingAnswers texts command told tells given gives ended s before after) (sym e) so
lasting-told texts command told tells given gives ended status result before after (inr (w, e)) so =
    subst (λ s. LastingAnswers texts command told tells given gives ended s before after) (sym e)
    (no-memory texts command told tells given gives ended status before after w so)

pub gives_back-told : {K : Type 0} (store : Option K) (status result : Status) (given gives : Option (List LineIn)) → IsTellingOf status result
    → GivesBack store status given gives → GivesBack store result given gives
gives_back-told (Some store) status result given gives told back = tt
gives_back-told None status result given gives (inl e) back = (e ∙ back.0, back.1)
gives_back-told None status result given gives (inr (w, e)) back = (e, back.1)

-- ---- what is known of a start, and of what stopped a call

pub start-stays : (old new : Option Records) → KeepsOutside 0 0 old new → StayIfTold old new
start-stays None None k = λ t. refl
start-stays None (Some held) k = λ t. absurd (false≢true (k.told_before t))
start-stays (Some held) None k = λ t. absurd (false≢true t)
start-stays (Some held) (Some new) k = λ t. ap Some (same_map nat_cmp_total nat_cmp-IsAntisymmetric new held (λ q. k.others t q (inr (omega arith))))

pub stopped-begun : (fault : ServeFault) → EndsUnbegun (stopped_status fault) → ⊥
stopped-begun Read u = u
stopped-begun Write u = u
stopped-begun Store u = u
stopped-begun serve.NoMemory u = u

pub stopped-no_root : (fault : ServeFault) → TellsOfRoot (stopped_status fault) → ⊥
stopped-no_root Read (inl (id, e)) = absurd cc
stopped-no_root Read (inr e) = absurd cc
stopped-no_root Write (inl (id, e)) = absurd cc
stopped-no_root Write (inr e) = absurd cc
stopped-no_root Store (inl (id, e)) = absurd cc
stopped-no_root Store (inr e) = absurd cc
stopped-no_root serve.NoMemory (inl (id, e)) = absurd cc
stopped-no_root serve.NoMemory (inr e) = absurd cc

pub session-stopped_before : (fault : ServeFault) (given : Option (List LineIn)) (count : ℕ) → (IsErrOf {T = Unit {0}} (Err fault) Read → ⊥)
    → CountsSession (stopped_status fault) given given count count
session-stopped_before Read given count other = absurd (other refl)
session-stopped_before Write given count other = record { read_fault = λ e. absurd cc; no_read_fault = λ _. refl }
session-stopped_before Store given count other = record { read_fault = λ e. absurd cc; no_read_fault = λ _. refl }
session-stopped_before serve.NoMemory given count other = record { read_fault = λ e. absurd cc; no_read_fault = λ _. refl }

pub unstarted-begun : (fault : HoldFault) → EndsUnbegun (unstarted_status fault) → ⊥
unstarted-begun (hold.Out f) u = u
unstarted-begun (hold.Engine engine.StoreFault) u = u
unstarted-begun (hold.Engine (engine.Damaged id)) u = u
unstarted-begun (hold.Engine engine.NoMemory) u = u
unstarted-begun (hold.DamagedRoot id) u = u
unstarted-begun hold.ForeignRoot u = u

quiet-session : (status : Status) (given : Option (List LineIn)) (count : ℕ) → status ≢ ReadFault → CountsSession status given given count count
quiet-session status given count other = record { read_fault = λ e. absurd (other e); no_read_fault = λ _. refl }

pub session-unstarted : (fault : HoldFault) (given : Option (List LineIn)) (count : ℕ) → CountsSession (unstarted_status fault) given given count count
session-unstarted (hold.Out f) given count = quiet-session NoMemory given count (λ e. absurd cc)
session-unstarted (hold.Engine engine.StoreFault) given count = quiet-session StoreFault given count (λ e. absurd cc)
session-unstarted (hold.Engine (engine.Damaged id)) given count = quiet-session (Damaged id) given count (λ e. absurd cc)
session-unstarted (hold.Engine engine.NoMemory) given count = quiet-session NoMemory given count (λ e. absurd cc)
session-unstarted (hold.DamagedRoot id) given count = quiet-session (DamagedRoot id) given count (λ e. absurd cc)
session-unstarted hold.ForeignRoot given count = quiet-session ForeignRoot given count (λ e. absurd cc)

pub writes-unstarted : (fault : HoldFault) (at : SinkView) → CountsWrites (unstarted_status fault) at at
writes-unstarted (hold.Out f) at = writes-none NoMemory at (λ _. refl)
writes-unstarted (hold.Engine engine.StoreFault) at = writes-none StoreFault at (λ _. refl)
writes-unstarted (hold.Engine (engine.Damaged id)) at = writes-none (Damaged id) at (λ _. refl)
writes-unstarted (hold.Engine engine.NoMemory) at = writes-none NoMemory at (λ _. refl)
writes-unstarted (hold.DamagedRoot id) at = writes-none (DamagedRoot id) at (λ _. refl)
writes-unstarted hold.ForeignRoot at = writes-none ForeignRoot at (λ _. refl)

-- ---- what was read

pub has-digests : {D : Type 0} {texts : Option (List ℕ → Option (List ℕ))} {name : List ℕ} {flow : Dataflow} {digest : D} {sha : List ℕ → D}
    {digests : Digests} → HasText texts name (λ text. IsAcceptedFlow text flow × (digest ≡ sha text))
    → ((text : List ℕ) → digest ≡ sha text → digests ≡ live_digests text)
    → HasText texts name (λ text. IsAcceptedFlow text flow × (digests ≡ live_digests text))
has-digests h to = record { text = h.text; there = h.there; so = (h.so.0, to h.text h.so.1) }

pub has-flow : {texts : Option (List ℕ → Option (List ℕ))} {name : List ℕ} {flow : Dataflow} {digests : Digests}
    → HasText texts name (λ text. IsAcceptedFlow text flow × (digests ≡ live_digests text)) → HasFlow texts name flow
has-flow h = record { text = h.text; there = h.there; so = h.so.0 }

-- ---- what is kept at the end

pub keeps-at_end : (digests digests2 : Digests) (engine : Engine) (arrivals : Arrivals) (records records2 : Option Records) (turn steps : ℕ)
    (flow : Dataflow) (story : Story) (lines : List ℕ) → flow_of engine ≡ flow → digests ≡ digests2 → records2 ≡ records
    → IsUnderWay digests engine arrivals records turn story story → SaysLast (flow_of engine) digests story steps lines records
    → KeepsAtEnd flow digests2 records2 story lines
keeps-at_end digests digests2 engine arrivals records records2 turn steps flow story lines f d r under says =
    subst (λ x. KeepsAtEnd x digests2 records2 story lines) f (subst (λ x. KeepsAtEnd (flow_of engine) x records2 story lines) d
    (subst (λ x. KeepsAtEnd (flow_of engine) digests x story lines) (sym r) (λ held is.
    let k = kept-again digests engine arrivals records turn steps story lines under says held is in
    (turn, (keep_of engine).next, steps, k.0, k.1))))

pub some-at_end : (flow flow2 : Dataflow) (digests digests2 : Digests) (records records2 : Option Records) → flow ≡ flow2 → digests ≡ digests2
    → records2 ≡ records → ForSome records (HoldsSome flow digests) → ForSome records2 (HoldsSome flow2 digests2)
some-at_end flow flow2 digests digests2 records records2 f d r some =
    subst (λ x. ForSome records2 (HoldsSome x digests2)) f (subst (λ x. ForSome records2 (HoldsSome flow x)) d
    (subst (λ x. ForSome x (HoldsSome flow digests)) (sym r) some))

pub one-some : {A : Type 0} (x y : A) → Some x ≡ Some y → x ≡ y
one-some x y e = cc
