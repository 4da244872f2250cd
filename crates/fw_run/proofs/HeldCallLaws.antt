-- Calls of `hold`, one after another, do one run.
use Rattle.std.proofs.Common.{◌≡◌, ◌⊎◌, inl, inr, ℕ, ◌+◌, ◌^◌, ◌<◌, ◌≤◌, List, [], ◌∷◌, length, Option, Some, None, refl, sym, ◌∙◌, ap, subst, arith, lit<}
use Rattle.std.proofs.lemmas.Bool.{false≢true}
use Rattle.std.proofs.lemmas.Option.{same_Some}
use Rattle.std.specs.FinMap as map
use Rattle.std.specs.Prelude.{IsSome}
use Rattle.fw_flow.specs.Dataflow.{Dataflow, System}
use Rattle.fw_flow_text.specs.Grammar as flows
use Rattle.fw_flow_text.proofs.ReadLaws.{one_flow}
use Rattle.fw_keep.specs.Stored.{Records, IsEmptyStore}
use Rattle.fw_generate.specs.Texts.{Texts}
use Rattle.fw_command.specs.Command.{Command, TextNames, by_lines, run}
use Rattle.fw_command.specs.Texts.{spelled_items, spelled_system}
use Rattle.fw_hold.specs.Chain.{Started, StartsLead}
use Rattle.fw_hold.specs.Going.{HoldsFound}
use Rattle.fw_hold.specs.Kept.{Found, HoldsKeptPoint, kept_at_first, system_in}
use Rattle.fw_hold.specs.Moves.{KeptPoint}
use Rattle.fw_hold.specs.Starting.{MayStart}
use Rattle.fw_run.specs.Answers.{Outside, Known}
use Rattle.fw_run.specs.Call.{KeepsFolder}
use Rattle.fw_run.specs.declared.status.Status.{Status}
use Rattle.fw_run.specs.Headline.{AreOneRightRun}
use Rattle.fw_run.specs.Held.{EndsHeld, GoesOnFrom, HasStarted, HeldAnswers, IsNoStart}
use Rattle.fw_run.specs.HeldCalls.{AnswersAreOfViews, AreCallsOver, AreStartsOf, CallsAreOneRun, DoOneRun, EmptyHoldsNoStart, HeldCall, IsCallOf, IsCallOver, LaterCallMayBegin, folder_view_of, known_of_views, no_starts, view_of, with_start}
use Rattle.fw_run.specs.HeldTexts.{AreHeldTexts, HoldsEarlier, EarlierStarts, held_texts}
use Rattle.fw_run.proofs.HeadlineLaws.{texts-headline}
use Rattle.fw_run.proofs.HeldLaws.{earlier-empty}
use Rattle.fw_run.proofs.HeldTextLaws.{held-spelled}

-- ---- over which stores a start may begin

pub empty-no_start : EmptyHoldsNoStart
empty-no_start flow texts None some e = absurd (false≢true some)
empty-no_start flow texts (Some held) some e = earlier-empty flow texts held (e held refl)

-- texts that a folder tells are one
one_texts : (folder : List ℕ → Option (List ℕ)) (names : TextNames) (flow other : Dataflow) (texts others : Texts) → AreHeldTexts (Some folder) names flow texts → AreHeldTexts (Some folder) names other others → texts ≡ others
one_texts folder names flow other texts others a b =
    let make : List ℕ → List ℕ → List ℕ → Texts = λ one two three. record { flow = one; inputs = two; schedule = three } in
    ap (λ text. make text texts.inputs texts.schedule) (same_Some texts.flow others.flow (sym a.there.0 ∙ b.there.0))
    ∙ ap (λ text. make others.flow text texts.schedule) (same_Some texts.inputs others.inputs (sym a.there.1.0 ∙ b.there.1.0))
    ∙ ap (make others.flow others.inputs) (same_Some texts.schedule others.schedule (sym a.there.1.1.0 ∙ b.there.1.1.0))

-- and so is the dataflow that they declare
one_dataflow : (folder : List ℕ → Option (List ℕ)) (names : TextNames) (flow other : Dataflow) (texts others : Texts) → AreHeldTexts (Some folder) names flow texts → AreHeldTexts (Some folder) names other others → flow ≡ other
one_dataflow folder names flow other texts others a b =
    one_flow others.flow flow other (subst (λ (t : Texts). flows.IsAcceptedFlow t.flow flow) (one_texts folder names flow other texts others a b) a.accepted.declared) b.accepted.declared

-- what is true of the ones is true of the others
of_read : (P : Dataflow → Texts → Type 0) (told : Option (List ℕ → Option (List ℕ))) (names : TextNames) (flow other : Dataflow) (texts others : Texts) → IsSome told → AreHeldTexts told names flow texts
    → AreHeldTexts told names other others → P flow texts → P other others
of_read P None names flow other texts others some a b p = absurd (false≢true some)
of_read P (Some folder) names flow other texts others some a b p =
    subst (λ (f : Dataflow). P f others) (one_dataflow folder names flow other texts others a b) (subst (P flow) (one_texts folder names flow other texts others a b) p)

may_start-left : (flow : Dataflow) (texts : Texts) (records : Option Records) (earlier : EarlierStarts) → HoldsEarlier flow texts records earlier → MayStart (held_texts flow texts) records
may_start-left flow texts records earlier left held is = inl (record {
  starts = earlier.many;
  few = left.few;
  found = earlier.found;
  kept = earlier.kept;
  holds = subst (λ (r : Records). HoldsKeptPoint (held_texts flow texts) earlier.many r earlier.found earlier.kept) (same_Some left.holds.0 held (sym left.holds.1 ∙ is)) left.holds.2;
})

pub later-may_begin : LaterCallMayBegin
later-may_begin folder words names flow texts records earlier is r left =
    inr (
      names,
      is,
      λ other others read. of_read (λ (f : Dataflow) (t : Texts). MayStart (held_texts f t) records) (Some folder) names flow other texts others refl r read
          (may_start-left flow texts records earlier left),
    )

-- ---- calls

-- what calls did from here on: the starts that they made, and to where they lead
pub record Did {F K O : Type 0} (known : Known F K O) (flow : Dataflow) (texts : Texts) (earlier : EarlierStarts) (calls : List (HeldCall F K O)) : Type 0 where
  pub starts : List Started
  pub last : KeptPoint
  pub made : AreStartsOf known flow texts earlier calls starts
  pub lead : StartsLead (spelled_system flow texts) (spelled_items flow texts) earlier.kept starts last

-- a call that made a start
went_on : {F K O : Type 0} (known : Known F K O) (names : TextNames) (flow : Dataflow) (texts : Texts) (earlier : EarlierStarts) (call : HeldCall F K O) → IsSome (known.texts call.before.folder)
    → AreHeldTexts (known.texts call.before.folder) names flow texts → (s : HasStarted known names call.before call.status call.after) → EndsHeld known flow texts call.before call.status call.after
went_on known names flow texts earlier call told read s =
    of_read (λ (f : Dataflow) (t : Texts). EndsHeld known f t call.before call.status call.after) (known.texts call.before.folder) names s.flow flow s.texts texts told s.read read s.ends

-- a call that made none left the records
no_start-left : {F K O : Type 0} (known : Known F K O) (flow : Dataflow) (texts : Texts) (earlier : EarlierStarts) (call : HeldCall F K O) → IsNoStart call.before call.status call.after
    → HoldsEarlier flow texts (known.store call.before.store).records earlier → HoldsEarlier flow texts (known.store call.after.store).records earlier
no_start-left {K = K} known flow texts earlier call n left = subst (λ (store : K). HoldsEarlier flow texts (known.store store).records earlier) (sym n.store) left

did : {F K O : Type 0} (known : Known F K O) (names : TextNames) (flow : Dataflow) (texts : Texts) (records : Option Records) (earlier : EarlierStarts) (calls : List (HeldCall F K O))
    → earlier.many + length calls < 2 ^ 61 → HoldsEarlier flow texts records earlier → AreCallsOver known names flow texts records calls → Did known flow texts earlier calls
did known names flow texts records earlier [] few left made = record { starts = []; last = earlier.kept; made = refl; lead = refl }
did {F} {K} {O} known names flow texts records earlier (call ∷ calls) few left (c, rest) =
    by c.answers.start (λ next fewer there. did known names flow texts (known.store call.after.store).records next calls fewer there rest)
  where
    here : HoldsEarlier flow texts (known.store call.before.store).records earlier
    here = subst (λ (r : Option Records). HoldsEarlier flow texts r earlier) (sym c.over) left

    by : IsNoStart call.before call.status call.after ⊎ HasStarted known names call.before call.status call.after
        → ((next : EarlierStarts) → next.many + length calls < 2 ^ 61 → HoldsEarlier flow texts (known.store call.after.store).records next → Did known flow texts next calls)
        → Did known flow texts earlier (call ∷ calls)
    by (inl n) others =
        let d = others earlier (omega (arith, few)) (no_start-left known flow texts earlier call n here) in
        record { starts = d.starts; last = d.last; made = inl (n, d.made); lead = d.lead }
    by (inr s) others =
        let ends = went_on known names flow texts earlier call c.told c.read s in
        let goes = ends.goes_on earlier here c.tells in
        let start : Started = record { moves = goes.on.moves; now = goes.on.now } in
        let found : Found = goes.on.holds.0 in
        let next = with_start earlier found start in
        let held : HoldsEarlier flow texts (known.store call.after.store).records next = record { few = omega (arith, few); holds = goes.on.holds.1 } in
        let d = others next (omega (arith, few)) held in
        record {
          starts = start ∷ d.starts;
          last = d.last;
          made = inr (start, d.starts, found, refl, record { goes = goes; moves = refl; now = refl }, held, d.made);
          lead = (goes.on.last, goes.on.made, d.lead);
        }

pub calls-one_run : {F K O : Type 0} (known : Known F K O) → CallsAreOneRun known
calls-one_run known names flow texts calls a few made =
    let d = did known names flow texts (Some map.empty) (no_starts flow texts) calls (omega (arith, few)) (earlier-empty flow texts map.empty refl) made in
    let lead = subst (λ (kept : KeptPoint). StartsLead (spelled_system flow texts) (spelled_items flow texts) kept d.starts d.last) (ap kept_at_first (held-spelled flow texts)) d.lead in
    record {
      starts = d.starts;
      last = d.last;
      made = d.made;
      lead = d.lead;
      one = (texts-headline texts flow (spelled_items flow texts) a).held d.starts d.last lead;
    }

-- ---- what is known of calls

folder-view : {F K O : Type 0} (known : Known F K O) (before after : Outside F K O) → after.folder ≡ before.folder → (view_of known after).folder ≡ (view_of known before).folder
folder-view known before after e = ap (folder_view_of known) e

ends-views : {F K O : Type 0} (known : Known F K O) (flow : Dataflow) (texts : Texts) (before : Outside F K O) (status : Status) (after : Outside F K O)
    → EndsHeld known flow texts before status after → EndsHeld known_of_views flow texts (view_of known before) status (view_of known after)
ends-views known flow texts before status after e = record {
  goes_on = e.goes_on;
  foreign = λ is tells. let f = e.foreign is tells in (f.0, ap known.out f.1, f.2);
  foreign_root = e.foreign_root;
  damaged_root = e.damaged_root;
  damaged = e.damaged;
  of_root = λ of. let r = e.of_root of in (ap known.out r.0, r.1);
}

start-views : {F K O : Type 0} (known : Known F K O) (names : TextNames) (before : Outside F K O) (status : Status) (after : Outside F K O)
    → IsNoStart before status after ⊎ HasStarted known names before status after
    → IsNoStart (view_of known before) status (view_of known after) ⊎ HasStarted known_of_views names (view_of known before) status (view_of known after)
start-views known names before status after (inl n) = inl (record { unread = n.unread; out = ap known.out n.out; store = ap known.store n.store })
start-views known names before status after (inr s) = inr (record {
  flow = s.flow;
  texts = s.texts;
  read = s.read;
  is_end = s.is_end;
  ends = ends-views known s.flow s.texts before status after s.ends;
})

keeps-views : {F K O : Type 0} (known : Known F K O) (command : Option Command) (before : Outside F K O) (status : Status) (after : Outside F K O)
    → KeepsFolder known.texts known.fetches command status before.folder after.folder
    → KeepsFolder known_of_views.texts known_of_views.fetches command status (view_of known before).folder (view_of known after).folder
keeps-views known command before status after k = record {
  texts_stay = k.texts_stay;
  nothing_read = λ none. folder-view known before after (k.nothing_read none);
  asked_no_more = λ asked is. elim (k.asked_no_more asked is) [
    | inl same ↦ inl (same.0, folder-view known before after same.1)
    | inr more ↦ inr more
  ];
}

pub answers-views : {F K O : Type 0} (known : Known F K O) → AnswersAreOfViews known
answers-views known names before status after a = record {
  start = start-views known names before status after a.start;
  refused = a.refused;
  read_fault = a.read_fault;
  folder = keeps-views known (Some (run by_lines names)) before status after a.folder;
  store_count = a.store_count;
  out_count = a.out_count;
  never_fall = a.never_fall;
  told_before = a.told_before;
  answer = a.answer;
}
