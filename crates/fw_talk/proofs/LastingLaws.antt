-- What a start says, in the words of a talk.
use Rattle.std.proofs.Common.{◌≡◌, ◌⊎◌, ℕ, Bool, List, [], Option, None, Some, Result, Ok, Err, IfOk, sym, ap, ◌∙◌, subst, inl, inr}
use Rattle.std.specs.Prelude.{unwrap_or}
use Rattle.std.proofs.lemmas.Option.{none-some}
use Rattle.fw_flow.specs.Dataflow.{Dataflow}
use Rattle.fw_hold.specs.declared.fault.HoldFault.{HoldFault}
use Rattle.fw_hold.specs.Starting.{IsForeign}
use Rattle.fw_keep.specs.Stored.{Records}
use Rattle.fw_root.specs.declared.root.Digests.{Digests}
use Rattle.fw_session.specs.Story.{Story}
use Rattle.fw_lasting.specs.declared.start.Resumed.{Resumed}
use Rattle.fw_lasting.specs.KeptStory.{HoldsStory}
use Rattle.fw_lasting.specs.Starting.{GoesOnFrom, IsOfOutside, TellsAgain}
use Rattle.fw_lasting.specs.UnderWay.{SaysLast}
use Rattle.fw_talk.specs.declared.reply.Unstarted.{Unstarted as Why}
use Rattle.fw_talk.specs.declared.reply.Unstarted.TheVariants.{Missing}
use Rattle.fw_talk.specs.declared.talk.Speaker.{Speaker}
use Rattle.fw_talk.specs.declared.talk.Speaker.TheVariants.{Session, Lasting, Kept, Unstarted, FlowRefused, NoMemory}
use Rattle.fw_talk.specs.declared.talk.Talk.{Talk}
use Rattle.fw_talk.specs.Lasting.{IsOpenedAt, IsStartedOver, IsUnstarted, lines_of, reason_of}

-- a part of what is the same
pub part-same : {S T : Type 0} (made s : S) (part : S → T) → made ≡ s → part made ≡ part s
part-same made s part same = ap part same

-- what was kept of a session with lines is so of the same one with the same lines
pub kept-on : {S : Type 0} (made s : S) (Speaks : S → List ℕ → Type 0) (told lines : List ℕ) → made ≡ s → told ≡ lines → Speaks s told
    → Speaks made lines
kept-on made s Speaks told lines same is kept = subst (λ m. Speaks m lines) (sym same) (subst (λ ls. Speaks s ls) is kept)

-- a session that opened goes on from the story that the records hold
goes-on-again : (speaker : Speaker) (answer : List ℕ) (flow before : Dataflow) (digests of_root : Digests) (rests : Bool) (held : Records)
    (resumed : Option Resumed) (At : Story → Type 0) → before ≡ flow → of_root ≡ digests → (IsForeign digests held → ⊥)
    → ((story : Story) (turn next : ℕ) → HoldsStory flow digests held story turn next → (first : Story) × GoesOnFrom flow story resumed first × At first)
    → ((story : Story) (turn next : ℕ) (steps : ℕ) (lines : List ℕ) → HoldsStory flow digests held story turn next
    → SaysLast flow digests story steps lines (Some held) → TellsAgain steps lines resumed)
    → IsOpenedAt rests before of_root (lines_of resumed) At speaker answer → IsStartedOver flow digests rests held speaker answer
goes-on-again (Session live) answer flow before digests of_root rests held resumed At same texts foreign goes tells opened = absurd opened
goes-on-again (Kept records) answer flow before digests of_root rests held resumed At same texts foreign goes tells opened = absurd opened
goes-on-again (Unstarted why) answer flow before digests of_root rests held resumed At same texts foreign goes tells opened = absurd opened
goes-on-again FlowRefused answer flow before digests of_root rests held resumed At same texts foreign goes tells opened = absurd opened
goes-on-again NoMemory answer flow before digests of_root rests held resumed At same texts foreign goes tells opened = absurd opened
goes-on-again (Lasting live) answer flow before digests of_root rests held resumed At same texts foreign goes tells opened = (
  opened.0 ∙ same,
  opened.1,
  opened.2 ∙ texts,
  opened.3,
  foreign,
  λ story turn next holds.
      let h = goes story turn next holds in
      record {
        found = resumed;
        first = h.0;
        goes_on = h.1;
        at = opened.5 h.0 h.2;
        answered = opened.4;
        tells = λ steps lines says. tells story turn next steps lines holds says;
      },
)

pub started-over : {E : Type 0} (result : Result Talk E) (flow before : Dataflow) (digests of_root : Digests) (rests : Bool) (held : Records)
    (resumed : Option Resumed) (At : Story → Type 0) → before ≡ flow → of_root ≡ digests → (IsForeign digests held → ⊥)
    → ((story : Story) (turn next : ℕ) → HoldsStory flow digests held story turn next → (first : Story) × GoesOnFrom flow story resumed first × At first)
    → ((story : Story) (turn next : ℕ) (steps : ℕ) (lines : List ℕ) → HoldsStory flow digests held story turn next
    → SaysLast flow digests story steps lines (Some held) → TellsAgain steps lines resumed)
    → IfOk result (λ talk. IsOpenedAt rests before of_root (lines_of resumed) At talk.speaker talk.answer.items)
    → IfOk result (λ talk. IsStartedOver flow digests rests held talk.speaker talk.answer.items)
started-over (Ok talk) flow before digests of_root rests held resumed At same texts foreign goes tells opened =
    goes-on-again talk.speaker talk.answer.items flow before digests of_root rests held resumed At same texts foreign goes tells opened
started-over (Err e) flow before digests of_root rests held resumed At same texts foreign goes tells opened = tt

-- where the store failed a record is missing
missing : (fault : HoldFault) (why : Why) → reason_of fault ≡ Some why → IsOfOutside fault → why ≡ Missing
missing fault why is (inl failed) = ap (λ found. unwrap_or found Missing) (sym is ∙ ap reason_of failed)
missing fault why is (inr refused) = absurd (none-some why (sym (ap reason_of refused) ∙ is))

not-started : (speaker : Speaker) (answer : List ℕ) (fault : HoldFault) (flow : Dataflow) (digests : Digests) (rests : Bool) (held : Records)
    → ((story : Story) (turn next : ℕ) → HoldsStory flow digests held story turn next → IsOfOutside fault)
    → IsUnstarted fault speaker answer → IsStartedOver flow digests rests held speaker answer
not-started (Session live) answer fault flow digests rests held outside un = absurd un
not-started (Lasting live) answer fault flow digests rests held outside un = absurd un
not-started (Kept records) answer fault flow digests rests held outside un = absurd un
not-started (Unstarted why) answer fault flow digests rests held outside un =
    (un.1, λ story turn next holds. missing fault why un.0 (outside story turn next holds))
not-started FlowRefused answer fault flow digests rests held outside un = absurd un
not-started NoMemory answer fault flow digests rests held outside un = absurd un

-- a session that did not start failed by the store, where the records hold a story
pub not-started-over : {E : Type 0} (result : Result Talk E) (fault : HoldFault) (flow : Dataflow) (digests : Digests) (rests : Bool) (held : Records)
    → ((story : Story) (turn next : ℕ) → HoldsStory flow digests held story turn next → IsOfOutside fault)
    → IfOk result (λ talk. IsUnstarted fault talk.speaker talk.answer.items)
    → IfOk result (λ talk. IsStartedOver flow digests rests held talk.speaker talk.answer.items)
not-started-over (Ok talk) fault flow digests rests held outside un = not-started talk.speaker talk.answer.items fault flow digests rests held outside un
not-started-over (Err e) fault flow digests rests held outside un = tt
