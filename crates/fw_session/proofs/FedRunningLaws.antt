-- What an engine keeps stands for the same state, once it is fed a batch.
use Rattle.std.proofs.Common.{◌≡◌, ◌≢◌, ℕ, ◌+◌, ◌<◌, ◌≤◌, ◌^◌, ◌-◌, ◌↔◌, max, Bool, true, false, not, ◌&&◌, nat_le, nat_lt, List, [], ◌∷◌, length, get_or, filter, refl, sym, ap, subst, ◌∙◌, inl, inr, arith}
use Rattle.std.specs.List.{enumerate_from}
use Rattle.std.proofs.lemmas.Bool.{and_from, cases_eq, cases_lt, le-leb, lt-ltb}
use Rattle.std.proofs.lemmas.List.{length-append}
use Rattle.fw_time.specs.Stamp.{in_domain}
use Rattle.fw_time.specs.declared.stamp.Bounds.{Bounds}
use Rattle.fw_bag.specs.declared.rec.Rec.{Rec}
use Rattle.fw_frontier.specs.Front.{inside}
use Rattle.fw_flow.specs.Dataflow.{System, Dataflow, kind_of, is_input_kind, bounds_of, batches_of, greatest_number}
use Rattle.fw_flow.specs.WellFormed.{IsWellFormedSystem}
use Rattle.fw_model.specs.History.{injected_count}
use Rattle.fw_model.specs.Machine.{Machine, events, first_state, front_of}
use Rattle.fw_model.specs.Reached.{IsReached}
use Rattle.fw_model.specs.Steps.{HasEpoch}
use Rattle.fw_model.proofs.ChoiceLaws.{bounds-input}
use Rattle.fw_model.proofs.DomainLaws.{has_epochs}
use Rattle.fw_model.proofs.LowLaws.{input-is}
use Rattle.fw_model.proofs.RestoringLaws.{batches-outside}
use Rattle.fw_progress.specs.Counts.{batches_in, injected_in}
use Rattle.fw_progress.specs.Progress.{can_have_more}
use Rattle.fw_border.specs.Sources.{SourceState, without_last, can_be_fed}
use Rattle.fw_stands.specs.Parts.{IsSourceOf}
use Rattle.fw_running.specs.Kept.{source_of}
use Rattle.fw_feeding.specs.Feeding.{with_batches, GoOnEach, HaveLast}
use Rattle.fw_feeding.specs.FedRuns.{steps_among}
use Rattle.fw_feeding.specs.OpenRuns.{OpenRun}
use Rattle.fw_feeding.proofs.AlikeSteps.{AreMore, has-at, at-has, epochs-more}
use Rattle.fw_feeding.proofs.OpenRunLaws.{goes-more, run-few}
use Rattle.fw_feeding.proofs.FedRunLaws.{fed-run, feeds-on}
use Rattle.fw_feeding.proofs.FedSourceLaws.{last-held, fed-sources_stand}
use Rattle.fw_feeding.proofs.FedEngineLaws.{fed-engines_stand}
use Rattle.fw_session.specs.Story.{Story, IsStory, system_now, opening, fed_batches}
use Rattle.fw_session.specs.FedRunning.{FedBatchesStand, OpenSourcesCanBeFed}
use Rattle.fw_session.proofs.StoryLaws.{input-there, opening-last, story-open, feeds-batches, came-open}

-- ---- the batch of an open source that no step injects

epoch-in : (sys : System) → IsWellFormedSystem sys → (s x : ℕ) → is_input_kind (kind_of sys.flow s) ≡ true → x < length (batches_of sys s)
    → in_domain (bounds_of sys.flow s) (x ∷ []) ≡ true
epoch-in sys w s x i l =
    let few = has_epochs sys w s in
    ap (λ (b : Bounds). in_domain b (x ∷ [])) (bounds-input sys.flow s (input-is (kind_of sys.flow s) i))
    ∙ and_from (nat_le x greatest_number) true (le-leb x greatest_number (omega (arith, l, few))) refl

-- a batch that is not injected lies outside the low watermark
not-low : (sys : System) → IsWellFormedSystem sys → (state : Machine) → IsReached sys state → (s x : ℕ) → is_input_kind (kind_of sys.flow s) ≡ true
    → injected_count s (events state.history) ≤ x → x < length (batches_of sys s) → inside (front_of state.low s) (x ∷ []) ≡ false
not-low sys w state r s x i e l =
    right (in_domain (bounds_of sys.flow s) (x ∷ [])) (inside (front_of state.low s) (x ∷ [])) (epoch-in sys w s x i l)
    (batches-outside sys w r.0 r.1 state r.2 [] [] state refl s x i e l)
  where
    right : (a b : Bool) → a ≡ true → (a && b) ≡ false → b ≡ false
    right true b d e = e
    right false b d e = absurd (cc)

-- ---- epochs

epochs-grow : (flow : Dataflow) (now later : List (List (List Rec))) (s old new : ℕ) → AreMore flow now later
    → ((q : ℕ) → q ≢ s → batches_of (with_batches flow later) q ≡ batches_of (with_batches flow now) q)
    → length (batches_of (with_batches flow later) s) ≡ length (batches_of (with_batches flow now) s) + 1
    → new ≡ max old (length (batches_of (with_batches flow now) s) + 1)
    → ((x : ℕ) → (x < old) ↔ HasEpoch now x) → (x : ℕ) → (x < new) ↔ HasEpoch later x
unfolding batches_of
epochs-grow flow now later s old new more others one e known x = (
  λ l. elim (cases_lt x old) [
    | inl k ↦ epochs-more flow now later more x ((known x).0 k)
    | inr ge ↦ at-has later s x (omega (arith, l, e, ge, one))
  ],
  λ h.
      let at = has-at later x h in
      let there : x < length (get_or later at.0 []) = at.1 in
      elim (cases_eq at.0 s) [
        | inl same ↦
            let here : x < length (get_or later s []) = subst (λ q. x < length (get_or later q [])) same there in
            omega (arith, here, e, one)
        | inr n ↦
            let k = (known x).1 (at-has now at.0 x (subst (λ bs. x < length bs) (others at.0 n) there)) in
            omega (arith, k, e)
      ],
)

-- ---- the engine

-- a source to which nothing came is what it was
source-else : (flow : Dataflow) (now later : List (List (List Rec))) (state : Machine) (q : ℕ) (old new : SourceState)
    → batches_of (with_batches flow later) q ≡ batches_of (with_batches flow now) q → new ≡ old → IsSourceOf (with_batches flow now) state q old
    → IsSourceOf (with_batches flow later) state q new
source-else flow now later state q old new same e k =
    subst (IsSourceOf (with_batches flow later) state q) (sym e) (record {
      given = k.given ∙ ap length (sym same);
      injected = k.injected;
      held = k.held ∙ ap (λ bs. filter (λ batch. not (inside (front_of state.low q) (batch.0 ∷ []))) (enumerate_from 0 bs)) (sym same);
    })

pub have-last : (flow : Dataflow) (story : Story) → IsStory flow story → HaveLast flow story.now.opened story.now.batches
have-last flow story k q p =
    let bs = batches_of (system_now flow story) q in
    let n = ap length ((story-open flow story k).last q p) ∙ length-append (without_last bs) ([] ∷ []) in omega arith

pub story-run : (flow : Dataflow) (story : Story) → IsStory flow story
    → OpenRun story.now.opened (system_now flow story) (first_state (system_now flow story)) (steps_among story.actions) story.effects story.now.state
story-run flow story k = fed-run flow (opening flow).now (opening-last flow) refl story.actions story.effects story.now k.run

-- an open source did not inject all of its batches
pub story-few : (flow : Dataflow) (story : Story) → IsStory flow story → (s : ℕ) → story.now.opened s ≡ true
    → injected_count s (events story.now.state.history) < length (batches_of (system_now flow story) s)
story-few flow story k s o =
    run-few story.now.opened (system_now flow story) (have-last flow story k) (steps_among story.actions) story.effects story.now.state
    (story-run flow story k) s o

-- its last batch lies outside low
last-out : (flow : Dataflow) (story : Story) → IsStory flow story → IsReached (system_now flow story) story.now.state → (s : ℕ)
    → story.now.opened s ≡ true → (n : ℕ) → length (batches_of (system_now flow story) s) ≡ n + 1
    → inside (front_of story.now.state.low s) (n ∷ []) ≡ false
last-out flow story k r s o n e =
    let few = story-few flow story k s o in
    not-low (system_now flow story) k.well_formed story.now.state r s n ((story-open flow story k).input s o) (omega arith) (omega arith)

pub fed-batches_stand : FedBatchesStand
fed-batches_stand flow story s recs old new records k o f well stands =
    let now = story.now.batches in
    let later = fed_batches s recs now in
    let opened = story.now.opened in
    let state = story.now.state in
    let sys = with_batches flow now in
    let feeds = feeds-batches flow story k s recs o in
    let input = (story-open flow story k).input s o in
    let there = input-there flow s input in
    let on : GoOnEach opened flow now later = feeds-on flow opened now later s recs ([] ∷ []) (have-last flow story k) o feeds in
    let apart = stands.apart in
    let came = feeds.here.came in
    let many : length (batches_of sys s) ≡ length came + 1 = ap length feeds.here.before ∙ length-append came (feeds.here.last ∷ []) in
    let much : length (batches_of (with_batches flow later) s) ≡ length came + 2 = ap length feeds.here.after ∙ length-append came (recs ∷ [] ∷ []) in
    let out = last-out flow story k apart.reached s o (length came) many in
    let given : (source_of old s).given ≡ length (batches_of sys s) = (apart.sources s there).given in
    fed-engines_stand opened flow now later on well (steps_among story.actions) story.effects state (story-run flow story k) old new (record {
      stays = f.stays;
      epochs = epochs-grow flow now later s old.epochs new.epochs (goes-more opened flow now later on) feeds.others (omega arith)
          (f.epochs ∙ ap (λ n. max old.epochs (n + 1)) given) apart.epochs;
      batches = λ q l. elim (cases_eq q s) [
        | inl e ↦ subst (λ p. batches_in new.progress.counts p ≡ length (batches_of (with_batches flow later) p)) (sym e)
            (let e = apart.progress.counts.batches s there in let b = f.more in omega arith)
        | inr n ↦ f.as_many q n ∙ apart.progress.counts.batches q l ∙ ap length (sym (feeds.others q n))
      ];
      sources = λ q l. elim (cases_eq q s) [
        | inl e ↦ subst (λ p. IsSourceOf (with_batches flow later) state p (source_of new p)) (sym e)
            (subst (IsSourceOf (with_batches flow later) state s) (sym f.source)
            (fed-sources_stand flow now later state s recs ([] ∷ []) feeds.here out (source_of old s) (apart.sources s there)))
        | inr n ↦ source-else flow now later state q (source_of old q) (source_of new q) (feeds.others q n) (f.others q n) (apart.sources q l)
      ];
    }) records stands

-- ---- it can be fed

held-last : (flow : Dataflow) (story : Story) → IsStory flow story → IsReached (system_now flow story) story.now.state → (s : ℕ)
    → story.now.opened s ≡ true → (held : List (ℕ × List Rec))
    → held ≡ filter (λ batch. not (inside (front_of story.now.state.low s) (batch.0 ∷ []))) (enumerate_from 0 (batches_of (system_now flow story) s))
    → 0 < length held
held-last flow story k r s o held e =
    let bs = batches_of (system_now flow story) s in
    let came = without_last bs in
    let last = (story-open flow story k).last s o in
    let out = last-out flow story k r s o (length came) (ap length last ∙ length-append came ([] ∷ [])) in
    last-held (front_of story.now.state.low s) came [] out held
    (e ∙ ap (λ xs. filter (λ batch. not (inside (front_of story.now.state.low s) (batch.0 ∷ []))) (enumerate_from 0 xs)) last)

both : (a b : ℕ) (c d : ℕ) → a < b → c < d → (nat_lt a b && nat_lt c d) ≡ true
both a b c d l m = and_from (nat_lt a b) (nat_lt c d) (lt-ltb a b l) (lt-ltb c d m)

pub can-be-fed : OpenSourcesCanBeFed
can-be-fed flow story s running records k o room stands =
    let apart = stands.apart in
    let there = input-there flow s ((story-open flow story k).input s o) in
    let source = apart.sources s there in
    let counts = apart.progress.counts in
    let few = story-few flow story k s o in
    let all = came-open flow story k s o in
    let given = source.given in
    let injected = counts.injected s there in
    let batches = counts.batches s there in
    let held = held-last flow story k apart.reached s o (source_of running s).held source.held in
    and_from (can_be_fed (source_of running s)) (can_have_more running.progress.counts s)
    (both 0 (length (source_of running s).held) (source_of running s).given (2 ^ 64 - 1) held (small (source_of running s).given (omega arith)))
    (both (injected_in running.progress.counts s) (batches_in running.progress.counts s) (batches_in running.progress.counts s) (2 ^ 64 - 1)
    (omega arith) (small (batches_in running.progress.counts s) (omega arith)))
  where
    small : (n : ℕ) → n < 2 ^ 20 → n < 2 ^ 64 - 1
    small n l = omega arith
