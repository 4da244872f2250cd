-- How a session that lasts goes on.
use Rattle.std.proofs.Common.{◌≡◌, ◌⊎◌, ℕ, ◌+◌, ◌-◌, ◌<◌, ◌≤◌, ◌^◌, Bool, true, false, cond, nat_lt, List, [], ◌∷◌, ◌++◌, length, map, filter, Option, Some, None, Result, Ok, Err, refl, sym, ap, subst, ◌∙◌, inl, inr, arith}
use Rattle.std.specs.Prelude.{IfOk, IfSome, IsErrOf, IsSome, OnErr}
use Rattle.std.specs.FinMap as map_of
use Rattle.std.specs.List.{AllByRecursion, Contains}
use Rattle.std.specs.Option.{ForSome}
use Rattle.std.proofs.lemmas.Bool.{false≢true}
use Rattle.std.proofs.lemmas.Option.{same_Some}
use Rattle.std.proofs.lemmas.Result.{IfOk-weaker}
use Rattle.fw_bag.specs.declared.rec.Rec.{Rec}
use Rattle.fw_border.specs.Sources.{without_last}
use Rattle.fw_came.specs.Came.{batch_bytes, batch_id}
use Rattle.fw_engine.specs.declared.engine.Engine.{Engine}
use Rattle.fw_engine.specs.Engine.{flow_of, keep_of, StandsFor}
use Rattle.fw_feeding.specs.Feeding.{with_batches}
use Rattle.fw_flow.specs.declared.step.Step.{Step}
use Rattle.fw_flow.specs.declared.step.Step.TheVariants.{Collect, Inject, Persist, Progress}
use Rattle.fw_flow.specs.Dataflow.{Dataflow, batches_of, node_ids}
use Rattle.fw_held.specs.declared.restartable.RestartableEngine.{RestartableEngine}
use Rattle.fw_hold.specs.Engine.{EntriesAreThere, KeepsEntryBytes, KeepsOutside, StandsOverOthers}
use Rattle.fw_hold.specs.Found.{ChangesOnly, IsLeftOrGone}
use Rattle.fw_hold.specs.Kept.{root_id}
use Rattle.fw_hold.proofs.RootIdLaws.{root_id-large}
use Rattle.fw_held.proofs.StoreLaws.{there-stored}
use Rattle.fw_keep.specs.Catalogue.{KeepState, has_entry, ids_of}
use Rattle.fw_keep.specs.Stored.{HasEntries, Records, bytes_under}
use Rattle.fw_keep.proofs.IdLaws.{among-self}
use Rattle.fw_lines.specs.Batches.{IsBatch}
use Rattle.fw_lemmas.proofs.Each.{each-one, each-weaker}
use Rattle.fw_lemmas.proofs.Filters.{filter-same_on}
use Rattle.fw_living.specs.declared.fault.LifeFault.{LifeFault}
use Rattle.fw_living.specs.declared.fault.LifeFault.TheVariants as life
use Rattle.fw_living.specs.Life.{came_in_story, life_faults_after, CountsKeeping, AutoGoesOn, GoesOnByAuto}
use Rattle.fw_model.specs.Auto.{AreIdle, IsFirstEnabled, acknowledgements, deliveries, notifications}
use Rattle.fw_model.specs.History.{injected_count}
use Rattle.fw_model.specs.Machine.{Machine, events}
use Rattle.fw_model.specs.Steps.{Outcome, did, idle}
use Rattle.fw_named.specs.Named.{named_ids}
use Rattle.fw_root.specs.declared.root.Digests.{Digests}
use Rattle.fw_root.specs.declared.root.Root.{Root}
use Rattle.fw_root.specs.Spelling.{root_spelling}
use Rattle.fw_running.specs.declared.fault.EngineFault.{EngineFault}
use Rattle.fw_running.specs.declared.fault.EngineFault.TheVariants as fault
use Rattle.fw_running.specs.declared.stepped.Stepped.{Stepped}
use Rattle.fw_running.specs.Faults.{faults_after_step}
use Rattle.fw_running.specs.Fed.{auto_steps_within}
use Rattle.fw_running.specs.Steps.{outcome_of}
use Rattle.fw_session.specs.declared.arrivals.Arrivals.{Arrivals}
use Rattle.fw_session.specs.Session.{came_in, is_open_in, FirstGoesOn, GoesOnBy, GoesOnFirst, GoesOnTo, IsAt, IsLeftAt, StepGoesOn}
use Rattle.fw_session.specs.Story.{Story, IsStory, system_now, came_to, after_feed, after_close, after_step, fed_batches, open_but}
use Rattle.fw_session.proofs.SessionLaws.{at-stays}
use Rattle.fw_session.proofs.StoryLaws.{story-open}
use Rattle.fw_lasting.specs.KeptStory.{HoldsStory, IsRootOfStory}
use Rattle.fw_lasting.specs.RootOver.{IsRootOver}
use Rattle.fw_lasting.specs.UnderWay.{of_sweep, CountsPutting, IsNextRoot, IsUnderWay, KeepsEither, LeavesRecords, SaysLast, StandsAgain, StillHolds, keep_again, flow_again}
use Rattle.fw_lasting.proofs.CameLaws.{came-few}
use Rattle.fw_lasting.proofs.HoldLaws.{put-closed, put-fed}
use Rattle.fw_lasting.proofs.KeepLaws.{came-stays, drawn-leave, root-put, root-stays, roots-kept, roots-left, told-over}

-- ---- steps

-- a step changes no batches, and closes no source
goes-same : (flow : Dataflow) (step : Step) (outcome : Outcome) (story next : Story) → GoesOnBy flow step outcome story next
    → (next.now.batches ≡ story.now.batches) × (next.now.opened ≡ story.now.opened)
goes-same flow step (did effect) story next (state, is) = (ap (λ (s : Story). s.now.batches) is, ap (λ (s : Story). s.now.opened) is)
goes-same flow step idle story next (none, is) = (ap (λ (s : Story). s.now.batches) is, ap (λ (s : Story). s.now.opened) is)

-- what is changed under the ids that were drawn leaves the story that is held
held-drawn : (digests : Digests) (old new : Engine) (before after : Option Records) (turn : ℕ) (kept : Story) → LeavesRecords old before new after
    → (keep_of new).next ≤ 2 ^ 63 → ForSome before (λ held. HoldsStory (flow_of old) digests held kept turn (keep_of old).next)
    → ForSome after (λ held. HoldsStory (flow_of new) digests held kept turn (keep_of new).next)
held-drawn digests old new before None turn kept l few h = λ held told. absurd (cc)
held-drawn digests old new None (Some now) turn kept l few h = λ held told. let no = l.outside.told_before refl in absurd (cc)
held-drawn digests old new (Some was) (Some now) turn kept l few h = λ held told.
    subst (λ f. HoldsStory f digests held kept turn (keep_of new).next) (sym l.flow)
    (subst (λ r. HoldsStory (flow_of old) digests r kept turn (keep_of new).next) (same_Some now held told)
    (drawn-leave (flow_of old) digests was now kept turn (keep_of old).next (keep_of new).next (keep_of new).next (h was refl) l.outside few l.never_back))

under-next : (digests : Digests) (old new : Engine) (arrivals : Arrivals) (before after : Option Records) (turn : ℕ) (kept now next : Story)
    → LeavesRecords old before new after → (keep_of new).next ≤ 2 ^ 63 → IsUnderWay digests old arrivals before turn kept now
    → IsAt new after arrivals next → (next.now.batches ≡ now.now.batches) × (next.now.opened ≡ now.now.opened)
    → IsUnderWay digests new arrivals after turn kept next
under-next digests old new arrivals before after turn kept now next l few u at same = record {
  at = at;
  holds = held-drawn digests old new before after turn kept l few u.holds;
  same_batches = same.0 ∙ u.same_batches;
  same_opened = same.1 ∙ u.same_opened;
}

-- whatever is answered, what was kept is held still
pub holds-drawn : (digests : Digests) (old new : Engine) (arrivals : Arrivals) (before after : Option Records) (turn : ℕ) (kept now : Story)
    → LeavesRecords old before new after → (keep_of new).next ≤ 2 ^ 63 → IsUnderWay digests old arrivals before turn kept now
    → StillHolds (flow_of old) digests after kept
holds-drawn digests old new arrivals before after turn kept now l few u = λ held told. (
  turn,
  (keep_of new).next,
  subst (λ f. HoldsStory f digests held kept turn (keep_of new).next) l.flow (held-drawn digests old new before after turn kept l few u.holds held told),
)

pub holds-same : (digests : Digests) (engine : Engine) (arrivals : Arrivals) (records : Option Records) (turn : ℕ) (kept now : Story)
    → IsUnderWay digests engine arrivals records turn kept now → StillHolds (flow_of engine) digests records kept
holds-same digests engine arrivals records turn kept now u = λ held told. (turn, (keep_of engine).next, u.holds held told)

-- how a step goes on is how it goes on under way
left-under : (P Q : Story → Type 0) (flow : Dataflow) (step : Step) (story : Story)
    → ((next : Story) → (next.now.batches ≡ story.now.batches) × (next.now.opened ≡ story.now.opened) → P next → Q next)
    → IsLeftAt flow step story P → IsLeftAt flow step story Q
left-under P Q flow Collect story to (outcome, (next, by, p)) = (outcome, (next, by, to next (goes-same flow Collect outcome story next by) p))
left-under P Q flow step story to p = (p.0, to story (refl, refl) p.1)

on-under : (P Q : Story → Type 0) (flow : Dataflow) (step : Step) (story : Story) (result : Result Stepped EngineFault)
    → ((next : Story) → (next.now.batches ≡ story.now.batches) × (next.now.opened ≡ story.now.opened) → P next → Q next)
    → IfOk result (λ stepped. GoesOnTo flow step (outcome_of stepped) story P) → IfOk result (λ stepped. GoesOnTo flow step (outcome_of stepped) story Q)
on-under P Q flow step story (Ok stepped) to (next, by, p) = (next, by, to next (goes-same flow step (outcome_of stepped) story next by) p)
on-under P Q flow step story (Err e) to p = tt

pub step-under : (digests : Digests) (old new : Engine) (arrivals : Arrivals) (before after : Option Records) (turn : ℕ) (kept : Story)
    (step : Step) (result : Result Stepped EngineFault) → LeavesRecords old before new after → (keep_of new).next ≤ 2 ^ 63
    → StepGoesOn (flow_of old) step result after (IsAt old before arrivals) (IsAt new after arrivals)
    → StepGoesOn (flow_of old) step result after (IsUnderWay digests old arrivals before turn kept) (IsUnderWay digests new arrivals after turn kept)
step-under digests old new arrivals before after turn kept step result l few g =
    let To : Story → Type 0 = IsUnderWay digests new arrivals after turn kept in
    record {
      ok = λ now u trusts. on-under (IsAt new after arrivals) To (flow_of old) step now result
          (λ next same at. under-next digests old new arrivals before after turn kept now next l few u at same) (g.ok now u.at trusts);
      shows = λ now u. g.shows now u.at;
      faulted = λ now u e. left-under (IsAt new after arrivals) To (flow_of old) step now
          (λ next same at. under-next digests old new arrivals before after turn kept now next l few u at same) (g.faulted now u.at e);
      unharmed = λ id now u e. let h = g.unharmed id now u.at e in
          (h.0, under-next digests old new arrivals before after turn kept now now l few u h.1 (refl, refl));
    }

-- ---- puts of others

-- what is under the ids of entries is what was there, where nothing is changed but under an id behind all of them
other-bytes : (made : RestartableEngine) (id : ℕ) (old new : Option Records) → StandsOverOthers StandsAgain keep_again made
    → (keep_of made.engine).next ≤ id → ChangesOnly id old new → KeepsEntryBytes (keep_of made.engine) old new
other-bytes made id old new over small c =
    record { told_before = c.told_before; entries = λ told i there. c.others told i (λ e. omega (arith, e, over.drawn i there, small)) }

-- a record under the id of each entry, as a list of them has it
pub has-there : (keep : KeepState) (records : Option Records) → ForSome records (HasEntries keep) → EntriesAreThere keep records
has-there keep records has = λ held told.
    each-weaker (λ id. has_entry id keep.entries ≡ true) (λ id. IsSome (map_of.get held id)) (ids_of keep.entries) (λ id there. has held told id there)
    (among-self (ids_of keep.entries))

pub other-stored : (made : RestartableEngine) (id : ℕ) (old new : Option Records) → StandsOverOthers StandsAgain keep_again made
    → (keep_of made.engine).next ≤ id → ChangesOnly id old new → ForSome old (HasEntries (keep_of made.engine)) → ForSome new (HasEntries (keep_of made.engine))
other-stored made id old new over small c there =
    there-stored (keep_of made.engine) new (over.stored old new (other-bytes made id old new over small c) (has-there (keep_of made.engine) old there))

pub other-at : (made : RestartableEngine) (arrivals : Arrivals) (id : ℕ) (old new : Option Records) (story : Story)
    → StandsOverOthers StandsAgain keep_again made → (keep_of made.engine).next ≤ id → ChangesOnly id old new
    → IsAt made.engine old arrivals story → IsAt made.engine new arrivals story
other-at made arrivals id old new story over small c at =
    at-stays made.engine made.engine old new arrivals story at refl
    (over.stands (system_now (flow_of made.engine) story) story.now.state old new (other-bytes made id old new over small c) at.stands)

-- what came to a source in two stories that have the same batches
came-same : (flow : Dataflow) (now kept : Story) (s : ℕ) → now.now.batches ≡ kept.now.batches → now.now.opened ≡ kept.now.opened
    → came_to flow now.now s ≡ came_to flow kept.now s
came-same flow now kept s b o =
    let came : (ℕ → Bool) → List (List (List Rec)) → List (List Rec) =
    λ f bs. cond (f s) (without_last (batches_of (with_batches flow bs) s)) (batches_of (with_batches flow bs) s) in
    ap (λ f. came f now.now.batches) o ∙ ap (came kept.now.opened) b

-- the next batch of a source is put: the records hold the story with it
fed-holds : (digests : Digests) (made : RestartableEngine) (came : ℕ) (old new : Option Records) (turn : ℕ) (kept : Story) (s : ℕ) (recs : List Rec)
    → (keep_of made.engine).next ≤ 2 ^ 63 → IsBatch recs → came < 2 ^ 20 - 1
    → ForSome new (λ held. map_of.get held (batch_id s came) ≡ Some (batch_bytes false recs)) → ChangesOnly (batch_id s came) old new
    → came ≡ length (came_to (flow_of made.engine) kept.now s) → kept.now.opened s ≡ true
    → ForSome old (λ held. HoldsStory (flow_of made.engine) digests held kept turn (keep_of made.engine).next)
    → ForSome new (λ held. HoldsStory (flow_of made.engine) digests held (after_feed s recs kept) turn (keep_of made.engine).next)
fed-holds digests made came old None turn kept s recs few batch room put c count opened h = λ held told. absurd (cc)
fed-holds digests made came None (Some new) turn kept s recs few batch room put c count opened h = λ held told. let no = c.told_before refl in absurd (cc)
fed-holds digests made came (Some was) (Some new) turn kept s recs few batch room put c count opened h = λ held told.
    subst (λ r. HoldsStory (flow_of made.engine) digests r (after_feed s recs kept) turn (keep_of made.engine).next) (same_Some new held told)
    (put-fed (flow_of made.engine) digests was new kept turn (keep_of made.engine).next (h was refl) s recs opened batch
    (omega (arith, room, count)) few
    (subst (λ n. map_of.get new (batch_id s n) ≡ Some (batch_bytes false recs)) count (put new refl))
    (subst (λ n. ChangesOnly (batch_id s n) (Some was) (Some new)) count c))

-- how many batches came to a source in the story that is held, and that it is open
kept-count : (digests : Digests) (made : RestartableEngine) (arrivals : Arrivals) (records : Option Records) (turn : ℕ) (kept now : Story) (s : ℕ)
    → is_open_in arrivals s ≡ true → IsUnderWay digests made.engine arrivals records turn kept now
    → (came_in arrivals s ≡ length (came_to (flow_of made.engine) kept.now s)) × (kept.now.opened s ≡ true)
kept-count digests made arrivals records turn kept now s is_open u = (
  u.at.counts s ∙ ap length (came-same (flow_of made.engine) now kept s u.same_batches u.same_opened),
  ap (λ g. g s) (sym u.same_opened) ∙ sym (u.at.opens s) ∙ is_open,
)

-- nothing is under the id of the batch that comes next
none-there : (digests : Digests) (made : RestartableEngine) (arrivals : Arrivals) (records : Option Records) (turn : ℕ) (kept now : Story) (s : ℕ)
    → is_open_in arrivals s ≡ true → IsUnderWay digests made.engine arrivals records turn kept now → (held : Records) → records ≡ Some held
    → map_of.get held (batch_id s (came_in arrivals s)) ≡ None
none-there digests made arrivals records turn kept now s is_open u held told =
    let flow = flow_of made.engine in
    let k = kept-count digests made arrivals records turn kept now s is_open u in
    let h = u.holds held told in
    let few = came-few flow kept h.of_story s in
    subst (λ n. map_of.get held (batch_id s n) ≡ None) (sym k.0)
    ((h.came s ((story-open flow kept h.of_story).input s k.1)).none (length (came_to flow kept.now s)) (omega arith) (omega (arith, few)))

-- a batch is put: where its session is at a story, and the store tells its records, nothing was in its place
pub counts-keeping : (fault2 : LifeFault) (digests : Digests) (made : RestartableEngine) (arrivals : Arrivals)
    (before after : Option Records) (turn s n m : ℕ) → is_open_in arrivals s ≡ true → (IsSome after → after ≡ before)
    → CountsPutting {T = Unit {0}} (Err fault2) (batch_id s (came_in arrivals s)) after n m
    → CountsKeeping {T = ℕ} (Err fault2) after (λ now. (kept : Story) × IsUnderWay digests made.engine arrivals before turn kept now) n m
counts-keeping fault2 digests made arrivals before after turn s n m is_open same (inl e) = inl (e ∙ either fault2)
  where
    either : (f : LifeFault) → life_faults_after {T = Unit {0}} (Err f) n ≡ life_faults_after {T = ℕ} (Err f) n
    either life.NotFed = refl
    either life.StoreFault = refl
    either life.NoMemory = refl
counts-keeping fault2 digests made arrivals before after turn s n m is_open same (inr (e, there)) = inr (e, λ told now at. in-place after told there (same told) at)
  where
    in-place : (records : Option Records) → IsSome records → IfSome records (λ held. IsSome (map_of.get held (batch_id s (came_in arrivals s))))
        → records ≡ before → {now : Story} → (kept : Story) × IsUnderWay digests made.engine arrivals before turn kept now → ⊥
    in-place None told there same at = false≢true told
    in-place (Some held) told there same {now} at = nothing (map_of.get held (batch_id s (came_in arrivals s))) there
        (none-there digests made arrivals before turn at.0 now s is_open at.1 held (sym same))
      where
        nothing : {A : Type 0} (found : Option A) → IsSome found → found ≡ None → ⊥
        nothing (Some x) some none = absurd cc
        nothing None some none = false≢true some

-- one that was put did not fail
pub put-done : {T : Type 0} (x : T) (id : ℕ) (records : Option Records) (n m : ℕ) → CountsPutting (Ok x) id records n m → m ≡ n
put-done x id records n m (inl e) = e
put-done x id records n m (inr e) = e.0

-- where the engine is not fed with it, it is held all the same
pub fed-left : (digests : Digests) (made : RestartableEngine) (before : Arrivals) (old new : Option Records) (turn : ℕ) (kept now : Story) (s : ℕ)
    (recs : List Rec) → (keep_of made.engine).next ≤ 2 ^ 63 → IsBatch recs → is_open_in before s ≡ true → came_in before s < 2 ^ 20 - 1
    → ForSome new (λ held. map_of.get held (batch_id s (came_in before s)) ≡ Some (batch_bytes false recs))
    → ChangesOnly (batch_id s (came_in before s)) old new → IsUnderWay digests made.engine before old turn kept now
    → KeepsEither (flow_of made.engine) digests new kept (after_feed s recs kept)
fed-left digests made before old new turn kept now s recs few batch is_open room put c u =
    let k = kept-count digests made before old turn kept now s is_open u in
    λ held told. (
      turn,
      (keep_of made.engine).next,
      inr (fed-holds digests made (came_in before s) old new turn kept s recs few batch room put c k.0 k.1 u.holds held told),
    )

-- the next batch of a source is put, and the engine is fed with it
pub fed-under : (digests : Digests) (made : RestartableEngine) (next : Engine) (before after : Arrivals) (old new : Option Records) (turn : ℕ)
    (kept now : Story) (s : ℕ) (recs : List Rec) → StandsOverOthers StandsAgain keep_again made → (keep_of made.engine).next ≤ 2 ^ 63
    → IsBatch recs → is_open_in before s ≡ true → came_in before s < 2 ^ 20 - 1
    → ForSome new (λ held. map_of.get held (batch_id s (came_in before s)) ≡ Some (batch_bytes false recs))
    → ChangesOnly (batch_id s (came_in before s)) old new
    → ((story : Story) → IsAt made.engine new before story → IsAt next new after (after_feed s recs story))
    → keep_of next ≡ keep_of made.engine → flow_of next ≡ flow_of made.engine → IsUnderWay digests made.engine before old turn kept now
    → IsUnderWay digests next after new turn (after_feed s recs kept) (after_feed s recs now)
fed-under digests made next before after old new turn kept now s recs over few batch is_open room put c leads keep flow u =
    let f = flow_of made.engine in
    let id = batch_id s (came_in before s) in
    let k = kept-count digests made before old turn kept now s is_open u in
    record {
      at = leads now (other-at made before id old new now over (omega (arith, few)) c u.at);
      holds = subst (λ g. ForSome new (λ held. HoldsStory g digests held (after_feed s recs kept) turn (keep_of next).next)) (sym flow)
          (subst (λ (k : KeepState). ForSome new (λ held. HoldsStory f digests held (after_feed s recs kept) turn k.next)) (sym keep)
          (fed-holds digests made (came_in before s) old new turn kept s recs few batch room put c k.0 k.1 u.holds));
      same_batches = ap (fed_batches s recs) u.same_batches;
      same_opened = u.same_opened;
    }

-- the empty batch with which a source is closed is put: the records hold the story in which it is
closed-holds : (digests : Digests) (made : RestartableEngine) (came : ℕ) (old new : Option Records) (turn : ℕ) (kept : Story) (s : ℕ)
    → (keep_of made.engine).next ≤ 2 ^ 63
    → ForSome new (λ held. map_of.get held (batch_id s came) ≡ Some (batch_bytes true [])) → ChangesOnly (batch_id s came) old new
    → came ≡ length (came_to (flow_of made.engine) kept.now s) → kept.now.opened s ≡ true
    → ForSome old (λ held. HoldsStory (flow_of made.engine) digests held kept turn (keep_of made.engine).next)
    → ForSome new (λ held. HoldsStory (flow_of made.engine) digests held (after_close s kept) turn (keep_of made.engine).next)
closed-holds digests made came old None turn kept s few put c count opened h = λ held told. absurd (cc)
closed-holds digests made came None (Some new) turn kept s few put c count opened h = λ held told. let no = c.told_before refl in absurd (cc)
closed-holds digests made came (Some was) (Some new) turn kept s few put c count opened h = λ held told.
    subst (λ r. HoldsStory (flow_of made.engine) digests r (after_close s kept) turn (keep_of made.engine).next) (same_Some new held told)
    (put-closed (flow_of made.engine) digests was new kept turn (keep_of made.engine).next (h was refl) s opened few
    (subst (λ n. map_of.get new (batch_id s n) ≡ Some (batch_bytes true [])) count (put new refl))
    (subst (λ n. ChangesOnly (batch_id s n) (Some was) (Some new)) count c))

-- where it is not closed for want of memory, that is held all the same
pub closed-left : (digests : Digests) (made : RestartableEngine) (before : Arrivals) (old new : Option Records) (turn : ℕ) (kept now : Story) (s : ℕ)
    → (keep_of made.engine).next ≤ 2 ^ 63 → is_open_in before s ≡ true
    → ForSome new (λ held. map_of.get held (batch_id s (came_in before s)) ≡ Some (batch_bytes true []))
    → ChangesOnly (batch_id s (came_in before s)) old new → IsUnderWay digests made.engine before old turn kept now
    → KeepsEither (flow_of made.engine) digests new kept (after_close s kept)
closed-left digests made before old new turn kept now s few is_open put c u =
    let k = kept-count digests made before old turn kept now s is_open u in
    λ held told. (
      turn,
      (keep_of made.engine).next,
      inr (closed-holds digests made (came_in before s) old new turn kept s few put c k.0 k.1 u.holds held told),
    )

-- the empty batch with which a source is closed is put
pub closed-under : (digests : Digests) (made : RestartableEngine) (before after : Arrivals) (old new : Option Records) (turn : ℕ) (kept now : Story)
    (s : ℕ) → StandsOverOthers StandsAgain keep_again made → (keep_of made.engine).next ≤ 2 ^ 63 → is_open_in before s ≡ true
    → ForSome new (λ held. map_of.get held (batch_id s (came_in before s)) ≡ Some (batch_bytes true []))
    → ChangesOnly (batch_id s (came_in before s)) old new
    → ((story : Story) → IsAt made.engine new before story → IsAt made.engine new after (after_close s story))
    → IsUnderWay digests made.engine before old turn kept now
    → IsUnderWay digests made.engine after new turn (after_close s kept) (after_close s now)
closed-under digests made before after old new turn kept now s over few is_open put c leads u =
    let k = kept-count digests made before old turn kept now s is_open u in
    record {
      at = leads now (other-at made before (batch_id s (came_in before s)) old new now over (omega (arith, few)) c u.at);
      holds = closed-holds digests made (came_in before s) old new turn kept s few put c k.0 k.1 u.holds;
      same_batches = u.same_batches;
      same_opened = ap (open_but s) u.same_opened;
    }

-- an error leaves this, whatever it is
pub on-err : {T E P : Type 0} (result : Result T E) → P → OnErr result P
on-err (Ok value) p = tt
on-err (Err fault) p = p

-- ---- a root is put

-- the root that is put is that of the story of now
pub root-is : (digests : Digests) (made : RestartableEngine) (arrivals : Arrivals) (old new : Option Records) (turn steps : ℕ) (lines : List ℕ)
    (kept now : Story) (root : Root) → IsNextRoot made digests turn steps lines root
    → ForSome new (λ held. map_of.get held (root_id root.mark.turn) ≡ Some (root_spelling root)) → ChangesOnly (root_id root.mark.turn) old new
    → IsUnderWay digests made.engine arrivals old turn kept now
    → ForSome new (λ held. IsRootOfStory (flow_of made.engine) digests held now root)
root-is digests made arrivals None new turn steps lines kept now root n put c u = λ held told.
    let no = c.told_before (subst (λ (r : Option Records). IsSome r) (sym told) refl) in absurd (cc)
root-is digests made arrivals (Some was) None turn steps lines kept now root n put c u = λ held told. absurd (cc)
root-is digests made arrivals (Some was) (Some new) turn steps lines kept now root n put c u = λ held told.
    let f = flow_of made.engine in
    let over : IsRootOver f now.now.batches now.now.state root (Some was) =
    told-over StandsAgain keep_again flow_again made root.mark root now.now.batches (Some was) now.now.state n.told u.at.of_story.well_formed.one_each
    u.at.stands n.marked.sound n.few in
    subst (λ r. IsRootOfStory f digests r now root) (same_Some new held told)
    (root-put f digests was new kept now turn (keep_of made.engine).next root (u.holds was refl) over n.marked.of_digests n.marked.next_turn
    (subst (λ t. map_of.get new (root_id t) ≡ Some (root_spelling root)) n.marked.next_turn (put new refl))
    (subst (λ t. ChangesOnly (root_id t) (Some was) (Some new)) n.marked.next_turn c))

-- so the session is at what its store holds
pub root-under : (digests : Digests) (made : RestartableEngine) (arrivals : Arrivals) (old new : Option Records) (turn steps : ℕ) (lines : List ℕ)
    (kept now : Story) (root : Root) → StandsOverOthers StandsAgain keep_again made → (keep_of made.engine).next ≤ 2 ^ 63
    → IsNextRoot made digests turn steps lines root
    → ForSome new (λ held. map_of.get held (root_id root.mark.turn) ≡ Some (root_spelling root)) → ChangesOnly (root_id root.mark.turn) old new
    → IsUnderWay digests made.engine arrivals old turn kept now → IsUnderWay digests made.engine arrivals new (turn + 1) now now
root-under digests made arrivals old new turn steps lines kept now root over few n put c u = record {
  at = other-at made arrivals (root_id root.mark.turn) old new now over (omega (arith, few, root_id-large root.mark.turn)) c u.at;
  holds = by old new put c u;
  same_batches = refl;
  same_opened = refl;
}
  where
    by : (old new : Option Records) → ForSome new (λ held. map_of.get held (root_id root.mark.turn) ≡ Some (root_spelling root))
        → ChangesOnly (root_id root.mark.turn) old new → IsUnderWay digests made.engine arrivals old turn kept now
        → ForSome new (λ held. HoldsStory (flow_of made.engine) digests held now (turn + 1) (keep_of made.engine).next)
    by old None put c u = λ held told. absurd (cc)
    by None (Some new) put c u = λ held told. let no = c.told_before refl in absurd (cc)
    by (Some was) (Some new) put c u = λ held told.
        let f = flow_of made.engine in
        let over : IsRootOver f now.now.batches now.now.state root (Some was) =
        told-over StandsAgain keep_again flow_again made root.mark root now.now.batches (Some was) now.now.state n.told u.at.of_story.well_formed.one_each
        u.at.stands n.marked.sound n.few in
        subst (λ r. HoldsStory f digests r now (turn + 1) (keep_of made.engine).next) (same_Some new held told)
        (subst (λ m. HoldsStory f digests new now (turn + 1) m) n.told.next
        (roots-kept f digests was new kept now turn (keep_of made.engine).next root (u.holds was refl) u.at.of_story u.same_batches u.same_opened over
        n.marked.of_digests n.marked.next_turn
        (subst (λ t. map_of.get new (root_id t) ≡ Some (root_spelling root)) n.marked.next_turn (put new refl))
        (subst (λ t. ChangesOnly (root_id t) (Some was) (Some new)) n.marked.next_turn c)))

-- where it could not be put, the store holds what it held
pub root-left : (digests : Digests) (made : RestartableEngine) (arrivals : Arrivals) (old new : Option Records) (turn steps : ℕ) (lines : List ℕ)
    (kept now : Story) (root : Root) → IsNextRoot made digests turn steps lines root → ChangesOnly (root_id root.mark.turn) old new
    → IsLeftOrGone (root_id root.mark.turn) old new → IsUnderWay digests made.engine arrivals old turn kept now
    → KeepsEither (flow_of made.engine) digests new kept now
root-left digests made arrivals old None turn steps lines kept now root n c l u = λ held told. absurd (cc)
root-left digests made arrivals None (Some new) turn steps lines kept now root n c l u = λ held told. let no = c.told_before refl in absurd (cc)
root-left digests made arrivals (Some was) (Some new) turn steps lines kept now root n c l u = λ held told.
    let f = flow_of made.engine in
    subst (λ r. (t : ℕ) × (m : ℕ) × (HoldsStory f digests r kept t m ⊎ HoldsStory f digests r now t m)) (same_Some new held told) (
      turn,
      (keep_of made.engine).next,
      inl (roots-left f digests was new kept turn (keep_of made.engine).next (u.holds was refl)
          (subst (λ t. ChangesOnly (root_id t) (Some was) (Some new)) n.marked.next_turn c)
          (subst (λ t. IsLeftOrGone (root_id t) (Some was) (Some new)) n.marked.next_turn l)),
    )

-- while nothing is put, the store holds what it held
pub none-left : (digests : Digests) (engine : Engine) (arrivals : Arrivals) (before after : Option Records) (turn : ℕ) (kept now other : Story)
    → after ≡ before → IsUnderWay digests engine arrivals before turn kept now → KeepsEither (flow_of engine) digests after kept other
none-left digests engine arrivals before after turn kept now other same u =
    λ held told. (turn, (keep_of engine).next, inl (u.holds held (sym same ∙ told)))

-- ---- a sweep behind it

-- how often the store failed in one that was not done
pub sweep-counts : (fault2 : EngineFault) (n m : ℕ) → m ≡ faults_after_step {T = Unit {0}} (Err fault2) n
    → ((id : ℕ) → IsErrOf {T = Unit {0}} (Err fault2) (fault.Damaged id) → ⊥) → m ≡ life_faults_after {T = Unit {0}} (Err (of_sweep fault2)) n
sweep-counts fault.StoreFault n m e whole = e
sweep-counts (fault.Damaged id) n m e whole = absurd (whole id refl)
sweep-counts fault.NoMemory n m e whole = e

-- what a sweep leaves of the records
pub record SweepLeaves (old : Engine) (before : Option Records) (new : Engine) (after : Option Records) : Type 0 where
  pub flow : flow_of new ≡ flow_of old
  pub next : (keep_of new).next ≡ (keep_of old).next
  pub told_before : IsSome after → IsSome before
  pub others : IsSome after → (id : ℕ) → (has_entry id (keep_of old).entries ≡ true) ⊎ ((keep_of old).next ≤ id)
      → bytes_under id after ≡ bytes_under id before

-- the root that was put stays
pub swept-root : (digests : Digests) (made : RestartableEngine) (new : Engine) (before after : Option Records) (turn steps : ℕ) (lines : List ℕ)
    (now : Story) (root : Root) → (keep_of made.engine).next ≤ 2 ^ 63 → IsNextRoot made digests turn steps lines root
    → ForSome before (λ held. IsRootOfStory (flow_of made.engine) digests held now root) → SweepLeaves made.engine before new after
    → ForSome after (λ held. IsRootOfStory (flow_of made.engine) digests held now root)
swept-root digests made new before None turn steps lines now root few n is l = λ held told. absurd (cc)
swept-root digests made new None (Some last) turn steps lines now root few n is l = λ held told. let no = l.told_before refl in absurd (cc)
swept-root digests made new (Some was) (Some last) turn steps lines now root few n is l = λ held told.
    let f = flow_of made.engine in
    subst (λ r. IsRootOfStory f digests r now root) (same_Some last held told)
    (root-stays f digests was last now root (λ id at. l.others refl id (inl (n.told.entries id at)))
    (λ id ge. l.others refl id (inr (omega (arith, few, ge)))) (is was refl))

-- so it says what was told last
pub swept-last : (digests : Digests) (made : RestartableEngine) (new : Engine) (before after : Option Records) (turn steps : ℕ) (lines : List ℕ)
    (now : Story) (root : Root) → (keep_of made.engine).next ≤ 2 ^ 63 → IsNextRoot made digests turn steps lines root
    → ForSome before (λ held. IsRootOfStory (flow_of made.engine) digests held now root) → SweepLeaves made.engine before new after
    → SaysLast (flow_of new) digests now steps lines after
swept-last digests made new before after turn steps lines now root few n is l = λ held told. (
  root,
  subst (λ g. IsRootOfStory g digests held now root) (sym l.flow)
      (swept-root digests made new before after turn steps lines now root few n is l held told),
  n.marked.as_many,
  n.marked.of_lines,
)

-- what was put stays held
pub swept-holds : (digests : Digests) (made : RestartableEngine) (new : Engine) (before after : Option Records) (turn steps : ℕ) (lines : List ℕ)
    (now : Story) (root : Root) → (keep_of made.engine).next ≤ 2 ^ 63 → IsNextRoot made digests turn steps lines root
    → ForSome before (λ held. IsRootOfStory (flow_of made.engine) digests held now root)
    → ForSome before (λ held. HoldsStory (flow_of made.engine) digests held now (turn + 1) (keep_of made.engine).next)
    → SweepLeaves made.engine before new after
    → ForSome after (λ held. HoldsStory (flow_of new) digests held now (turn + 1) (keep_of new).next)
swept-holds digests made new before None turn steps lines now root few n is h l = λ held told. absurd (cc)
swept-holds digests made new None (Some last) turn steps lines now root few n is h l = λ held told. let no = l.told_before refl in absurd (cc)
swept-holds digests made new (Some was) (Some last) turn steps lines now root few n is h l = λ held told.
    let f = flow_of made.engine in
    let k = h was refl in
    let large : (id : ℕ) → 2 ^ 63 ≤ id → map_of.get last id ≡ map_of.get was id = λ id ge. l.others refl id (inr (omega (arith, few, ge))) in
    let root_now = root-stays f digests was last now root (λ id at. l.others refl id (inl (n.told.entries id at))) large (is was refl) in
    let all : HoldsStory f digests last now (turn + 1) (keep_of new).next = record {
      of_story = k.of_story;
      came = came-stays f now was last k.of_story (λ s x i m. large (batch_id s x) (omega arith)) k.came;
      rooted = inr (root, root_now, sym n.marked.next_turn, omega (arith, n.told.next, l.next));
    } in
    subst (λ r. HoldsStory (flow_of new) digests r now (turn + 1) (keep_of new).next) (same_Some last held told)
    (subst (λ g. HoldsStory g digests last now (turn + 1) (keep_of new).next) (sym l.flow) all)

-- and the session stays where it is
pub swept-under : (digests : Digests) (made : RestartableEngine) (new : Engine) (arrivals : Arrivals) (before after : Option Records) (turn steps : ℕ)
    (lines : List ℕ) (now : Story) (root : Root) → (keep_of made.engine).next ≤ 2 ^ 63 → IsNextRoot made digests turn steps lines root
    → ForSome before (λ held. IsRootOfStory (flow_of made.engine) digests held now root) → SweepLeaves made.engine before new after
    → StandsFor (system_now (flow_of made.engine) now) new after now.now.state
    → IsUnderWay digests made.engine arrivals before (turn + 1) now now → IsUnderWay digests new arrivals after (turn + 1) now now
swept-under digests made new arrivals before after turn steps lines now root few n is l stands u = record {
  at = at-stays made.engine new before after arrivals now u.at l.flow stands;
  holds = swept-holds digests made new before after turn steps lines now root few n is u.holds l;
  same_batches = refl;
  same_opened = refl;
}

-- where it failed, what was put is held all the same
pub swept-left : (digests : Digests) (made : RestartableEngine) (new : Engine) (before after : Option Records) (turn steps : ℕ) (lines : List ℕ)
    (kept now : Story) (root : Root) → (keep_of made.engine).next ≤ 2 ^ 63 → IsNextRoot made digests turn steps lines root
    → ForSome before (λ held. IsRootOfStory (flow_of made.engine) digests held now root)
    → ForSome before (λ held. HoldsStory (flow_of made.engine) digests held now (turn + 1) (keep_of made.engine).next)
    → SweepLeaves made.engine before new after → KeepsEither (flow_of made.engine) digests after kept now
swept-left digests made new before after turn steps lines kept now root few n is h l = λ held told. (
  turn + 1,
  (keep_of new).next,
  inr (subst (λ g. HoldsStory g digests held now (turn + 1) (keep_of new).next) l.flow
      (swept-holds digests made new before after turn steps lines now root few n is h l held told)),
)

-- ---- the first step that is enabled

-- no more may be injected than came
within-same : (flow : Dataflow) (some other : ℕ → ℕ) (state : Machine) → ((s : ℕ) → some s ≡ other s)
    → auto_steps_within flow some state ≡ auto_steps_within flow other state
within-same flow some other state same =
    let fewer : (ℕ → ℕ) → ℕ → Bool = λ came s. nat_lt (injected_count s (events state.history)) (came s) in
    let each : AllByRecursion (λ s. fewer some s ≡ fewer other s) (node_ids flow) =
    each-one (λ s. fewer some s ≡ fewer other s) (node_ids flow) (λ s. ap (nat_lt (injected_count s (events state.history))) (same s)) in
    ap (λ ns. Persist ∷ (deliveries flow ++ (notifications flow ++ (Progress ∷ (acknowledgements flow ++ map Inject ns)))))
    (filter-same_on (fewer some) (fewer other) (node_ids flow) each)

first-on : (P Q : Story → Type 0) (flow : Dataflow) (arrivals : Arrivals) (story : Story) (outcome : Outcome)
    → ((s : ℕ) → came_in arrivals s ≡ came_in_story flow story s)
    → ((next : Story) → (next.now.batches ≡ story.now.batches) × (next.now.opened ≡ story.now.opened) → P next → Q next)
    → GoesOnFirst flow arrivals outcome story P → GoesOnByAuto flow outcome story Q
first-on P Q flow arrivals story (did effect) same to (step, state, p, first) = (
  step,
  state,
  to (after_step step effect state story) (refl, refl) p,
  subst (λ steps. IsFirstEnabled (system_now flow story) story.now.state steps step state effect)
      (within-same flow (came_in arrivals) (came_in_story flow story) story.now.state same) first,
)
first-on P Q flow arrivals story idle same to (p, none) = (
  to story (refl, refl) p,
  subst (λ steps. AreIdle (system_now flow story) story.now.state steps)
      (within-same flow (came_in arrivals) (came_in_story flow story) story.now.state same) none,
)

first-result : (P Q : Story → Type 0) (flow : Dataflow) (arrivals : Arrivals) (story : Story) (result : Result Stepped EngineFault)
    → ((s : ℕ) → came_in arrivals s ≡ came_in_story flow story s)
    → ((next : Story) → (next.now.batches ≡ story.now.batches) × (next.now.opened ≡ story.now.opened) → P next → Q next)
    → IfOk result (λ stepped. GoesOnFirst flow arrivals (outcome_of stepped) story P)
    → IfOk result (λ stepped. GoesOnByAuto flow (outcome_of stepped) story Q)
first-result P Q flow arrivals story (Ok stepped) same to g = first-on P Q flow arrivals story (outcome_of stepped) same to g
first-result P Q flow arrivals story (Err e) same to g = tt

pub first-under : (digests : Digests) (old new : Engine) (arrivals : Arrivals) (before after : Option Records) (turn : ℕ) (kept : Story)
    (result : Result Stepped EngineFault) → LeavesRecords old before new after → (keep_of new).next ≤ 2 ^ 63
    → FirstGoesOn (flow_of old) arrivals result (IsAt old before arrivals) (IsAt new after arrivals)
    → AutoGoesOn (flow_of old) result (IsUnderWay digests old arrivals before turn kept) (IsUnderWay digests new arrivals after turn kept)
first-under digests old new arrivals before after turn kept result l few g =
    let To : Story → Type 0 = IsUnderWay digests new arrivals after turn kept in
    record {
      ok = λ now u. first-result (IsAt new after arrivals) To (flow_of old) arrivals now result u.at.counts
          (λ next same at. under-next digests old new arrivals before after turn kept now next l few u at same) (g.ok now u.at);
      faulted = λ now u e. let f = g.faulted now u.at e in
          (f.0, under-next digests old new arrivals before after turn kept now now l few u f.1 (refl, refl));
      unharmed = g.unharmed;
    }

-- want of memory tells nothing
pub first-refused : (flow : Dataflow) (Before After : Story → Type 0) → AutoGoesOn flow (Err fault.NoMemory) Before After
first-refused flow Before After =
    record { ok = λ now u. tt; faulted = λ now u e. absurd (cc); unharmed = λ id e. absurd (cc) }
