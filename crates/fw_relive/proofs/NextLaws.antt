-- Calls over a store that lasts, one after another.
use Rattle.std.proofs.Common.{◌≡◌, ◌⊎◌, inl, inr, ℕ, Bool, List, Option, Some, None, refl, sym, ap, subst, ◌∙◌}
use Rattle.std.proofs.lemmas.Bool.{false≢true}
use Rattle.std.specs.Option.{ForSome}
use Rattle.std.specs.Prelude.{IsSome}
use Rattle.fw_outside.specs.Outside.{SinkView, IsText}
use Rattle.fw_flow.specs.Dataflow.{Dataflow}
use Rattle.fw_flow.specs.WellFormed.{IsWellFormed}
use Rattle.fw_flow_text.specs.Grammar.{IsAcceptedFlow}
use Rattle.fw_flow_text.proofs.ReadLaws.{one_flow}
use Rattle.fw_keep.specs.Stored.{Records}
use Rattle.fw_root.specs.declared.root.Digests.{Digests}
use Rattle.fw_run.specs.declared.status.Status.{Status}
use Rattle.fw_run.specs.declared.status.Status.TheVariants.{Done, BadWords, Refused, ReadFault, WriteFault, StoreFault, Damaged, DamagedRoot, NoMemory, ForeignRoot}
use Rattle.fw_session.specs.Story.{Story}
use Rattle.fw_lasting.specs.Starting.{MayStart}
use Rattle.fw_lasting.proofs.StartingLaws.{may-start}
use Rattle.fw_live.specs.Asked.{LineIn}
use Rattle.fw_live.specs.Call.{EndsQuiet, EndsUnbegun, StaysQuiet}
use Rattle.fw_live.specs.Words.{LiveCommand}
use Rattle.fw_relive.specs.Opening.{Restart, lines_found}
use Rattle.fw_relive.specs.Call.{AnswersFrom, EndsLasting, EndsUnopened, HasTextSo, IsFlowText, AreOfRoot, KeepsAtEnd, LastingAnswers, MayBeginOver, live_digests}
use Rattle.fw_relive.specs.LawsOfCalls.{CallsGoOn, CallsTellAgain, EmptyStoresMayBegin}

well-formed : (text : List ℕ) (flow : Dataflow) → IsAcceptedFlow text flow → IsWellFormed flow
well-formed text flow a = subst IsWellFormed (sym a.checked.value) a.checked.well_formed

pub empty-may_begin : EmptyStoresMayBegin
empty-may_begin texts command records none live text flow has = may-start flow (live_digests text) records (well-formed text flow has.declared) none

-- ---- the next call

begun-or-not : (status : Status) → EndsUnbegun status ⊎ (EndsUnbegun status → ⊥)
begun-or-not Done = inr (λ e. e)
begun-or-not BadWords = inl tt
begun-or-not (Refused refusal) = inl tt
begun-or-not ReadFault = inr (λ e. e)
begun-or-not WriteFault = inr (λ e. e)
begun-or-not StoreFault = inr (λ e. e)
begun-or-not (Damaged id) = inr (λ e. e)
begun-or-not (DamagedRoot id) = inr (λ e. e)
begun-or-not NoMemory = inr (λ e. e)
begun-or-not ForeignRoot = inr (λ e. e)

-- what is read is the same
same-command : (command : Option LiveCommand) (one two : LiveCommand) → command ≡ Some one → command ≡ Some two → one ≡ two
same-command command one two p q = cc

same-text : (texts : List ℕ → Option (List ℕ)) (name : List ℕ) (one two : List ℕ) → IsText (Some texts) name one → IsText (Some texts) name two → one ≡ two
same-text texts name one two p q = some (sym p ∙ q)
  where
    some : Some one ≡ Some two → one ≡ two
    some e = cc

read-same : (texts : List ℕ → Option (List ℕ)) (command : Option LiveCommand) (live live2 : LiveCommand) (text text2 : List ℕ) (flow flow2 : Dataflow)
    (records : Option Records) → IsFlowText (Some texts) command live text flow → IsFlowText (Some texts) command live2 text2 flow2
    → MayStart flow (live_digests text) records → MayStart flow2 (live_digests text2) records
read-same texts command live live2 text text2 flow flow2 records a b may =
    let texts_same = same-text texts live2.flow text text2
    (subst (λ (l : LiveCommand). IsText (Some texts) l.flow text) (same-command command live live2 a.words b.words) a.there) b.there in
    let flows = one_flow text2 flow flow2 (subst (λ t. IsAcceptedFlow t flow) texts_same a.declared) b.declared in
    subst (λ f. MayStart f (live_digests text2) records) flows (subst (λ t. MayStart flow (live_digests t) records) texts_same may)

pub calls-go-on : CallsGoOn
calls-go-on texts command told tells given gives ended status before after may so live text flow has = by (begun-or-not status)
  where
    stays : tells ≡ told → MayStart flow (live_digests text) tells
    stays e = subst (MayStart flow (live_digests text)) (sym e) (may live text flow has)

    by : EndsUnbegun status ⊎ (EndsUnbegun status → ⊥) → MayStart flow (live_digests text) tells
    by (inl u) = stays (so.unbegun u).1
    by (inr n) = begun (so.begun n)
      where
        begun : (EndsQuiet status × StaysQuiet given gives before after × (tells ≡ told))
            ⊎ HasTextSo (Some texts) command (λ rests text flow. EndsLasting rests flow (live_digests text) told tells given gives ended status before after)
            → MayStart flow (live_digests text) tells
        begun (inl q) = stays q.2
        begun (inr h) = read-same texts command h.live live h.text text h.flow flow tells h.of_flow has h.so.next

-- ---- what it tells

found-lines : (found : Option Restart) (steps : ℕ) (lines : List ℕ) → AreOfRoot found steps lines → lines_found found ≡ lines
found-lines None steps lines f = absurd f
found-lines (Some found) steps lines f = f.1

pub calls-tell-again : CallsTellAgain
calls-tell-again rests flow digests told tells given gives ended status before after so story lines is keeps t = over told is refl
  where
    over : (records : Option Records) → IsSome records → told ≡ records → (EndsUnopened status × StaysQuiet given gives before after)
        ⊎ ((held : Records) × (so : AnswersFrom rests flow digests held story tells given gives ended status before after)
        × (lines_found so.found ≡ lines))
    over None none e = absurd (false≢true none)
    over (Some held) some e = by (so.goes_on held story (keeps held e).0 (keeps held e).1 e (keeps held e).3 t)
      where
        by : (EndsUnopened status × StaysQuiet given gives before after) ⊎ AnswersFrom rests flow digests held story tells given gives ended status before after
            → (EndsUnopened status × StaysQuiet given gives before after)
            ⊎ ((held : Records) × (so : AnswersFrom rests flow digests held story tells given gives ended status before after)
            × (lines_found so.found ≡ lines))
        by (inl q) = inl q
        by (inr a) = inr (held, a, found-lines a.found (keeps held e).2 lines (a.starts.of_root (keeps held e).2 lines (keeps held e).4))
