-- A start from what records hold of a session.
use Rattle.std.proofs.Common.{◌≡◌, ℕ, ◌<◌, ◌≤◌, Bool, true, false, ◌==◌, cond, List, [], ◌∷◌, ◌++◌, length, get_or, Result, refl, sym, ap, subst, ◌∙◌, inl, inr, arith}
use Rattle.std.specs.Prelude.{IfOk, IsErrOf, IsSome}
use Rattle.std.proofs.lemmas.Bool.{cases_lt}
use Rattle.std.proofs.lemmas.List.{append-nil, get_or_past}
use Rattle.std.proofs.lemmas.Result.{IfOk-weaker}
use Rattle.fw_bag.specs.declared.rec.Rec.{Rec}
use Rattle.fw_border.specs.Sources.{without_last}
use Rattle.fw_flow.specs.declared.step.Step.{Step}
use Rattle.fw_flow.specs.Dataflow.{Dataflow, System, batches_of, batches_of_nodes, system_of}
use Rattle.fw_keep.specs.Catalogue.{KeepState}
use Rattle.fw_lines.specs.Batches.{batches_at}
use Rattle.fw_model.specs.History.{injected_count}
use Rattle.fw_model.specs.Machine.{Machine, events, first_state}
use Rattle.fw_model.specs.Reached.{IsReached}
use Rattle.fw_feeding.specs.Feeding.{with_batches}
use Rattle.fw_feeding.specs.FedRuns.{FedMachine, steps_among}
use Rattle.fw_feeding.specs.OpenRuns.{OpenRun}
use Rattle.fw_hold.specs.Engine.{Standings, ResumesHeld, RestoresAll}
use Rattle.fw_outside.specs.Outside.{StoreView}
use Rattle.fw_named.specs.Named.{AreNamed}
use Rattle.fw_regain.specs.RootOf.{IsRootOf}
use Rattle.fw_root.specs.declared.root.Root.{Root}
use Rattle.fw_root.specs.OfFlow.{Given}
use Rattle.fw_running.specs.declared.fault.EngineFault.{EngineFault}
use Rattle.fw_running.specs.declared.fault.EngineFault.TheVariants as fault
use Rattle.fw_running.specs.declared.stepped.Stepped.{Stepped}
use Rattle.fw_running.specs.Steps.{outcome_of}
use Rattle.fw_running.proofs.CountLaws.{batches_there}
use Rattle.fw_session.specs.Story.{Story, IsStory, system_now, came_to}
use Rattle.fw_session.proofs.FedRunningLaws.{story-run}
use Rattle.fw_session.proofs.StoryLaws.{story-open}
use Rattle.fw_lasting.specs.Given.{batches_by_node}
use Rattle.fw_lasting.specs.KeptStory.{GoesOnByStart}
use Rattle.fw_lasting.specs.RootOver.{IsRootOver}
use Rattle.fw_lasting.specs.LawsOfLasting.{ReadBatchesAreThose, ReadRootsAreForThem, StartsGoOn, StoriesWithoutStepsAreAtFirst}
use Rattle.fw_lasting.proofs.AgainLaws.{stories_start_again, story-reached}
use Rattle.fw_lasting.proofs.GivenLaws.{given-at, row-again}
use Rattle.fw_lasting.proofs.MoreLaws.{AreEnough, root-for_more}

-- ---- what is read

batches-by : (b : Bool) (bs : List (List Rec)) → (b ≡ true → bs ≡ without_last bs ++ [] ∷ [])
    → cond b (without_last bs) bs ++ cond b ([] ∷ []) [] ≡ bs
batches-by true bs l = sym (l refl)
batches-by false bs l = append-nil bs

-- the batches of a node are those that came, and behind them the empty one of an open source
batches-are : (flow : Dataflow) (story : Story) → IsStory flow story → (p : ℕ)
    → came_to flow story.now p ++ cond (story.now.opened p) ([] ∷ []) [] ≡ batches_of (system_now flow story) p
batches-are flow story k p = batches-by (story.now.opened p) (batches_of (system_now flow story) p) (λ o. (story-open flow story k).last p o)

pub read-those : ReadBatchesAreThose
unfolding batches_of
read-those flow story k given each =
    row-again flow given story.now.batches k.well_formed.one_each (λ p l. each p l ∙ batches-are flow story k p)

there-read : (flow : Dataflow) (batches : List (List (List Rec))) (given : Given) → batches_of_nodes flow given ≡ batches → (p : ℕ) → p < length flow.nodes
    → get_or batches p [] ≡ batches_at given p
unfolding batches_of
there-read flow batches given same p l = ap (λ bs. get_or bs p []) (sym same) ∙ batches_there flow given p l

enough-read : (flow : Dataflow) (story : Story) → IsStory flow story → (given : Given) → batches_of_nodes flow given ≡ story.now.batches → (count : ℕ → ℕ)
    → AreEnough flow (batches_by_node story.now.batches) given count
enough-read flow story k given same count =
    let row = batches_by_node story.now.batches in
    let here : (p : ℕ) → p < length flow.nodes → batches_at row p ≡ batches_at given p =
    λ p l. given-at story.now.batches p ∙ there-read flow story.now.batches given same p l in
    record {
      longer = λ p. elim (cases_lt p (length flow.nodes)) [
        | inl l ↦ subst (λ bs. length (batches_at row p) ≤ length bs) (here p l) (omega arith)
        | inr ge ↦ (
            let none : batches_at row p ≡ [] =
            given-at story.now.batches p ∙ get_or_past story.now.batches p [] (omega (arith, ge, k.well_formed.one_each)) in
            subst (λ bs. length bs ≤ length (batches_at given p)) (sym none) (omega arith)
            )
      ];
      whole = λ p l. ap (λ bs. count p == length bs) (here p l);
    }

pub read-for : ReadRootsAreForThem
read-for flow story k given same root records over =
    let count : ℕ → ℕ = λ s. injected_count s (events story.now.state.history) in
    root-for_more flow (batches_by_node story.now.batches) given count root (enough-read flow story k given same count) over.of_state.injected over.of_flow

-- ---- the start

no-steps : (opened : ℕ → Bool) (sys : System) (from : Machine) (steps : List Step) (last : Machine) → OpenRun opened sys from steps [] last → last ≡ from
no-steps opened sys from [] last r = r
no-steps opened sys from (step ∷ steps) last r = absurd r

pub at-first : StoriesWithoutStepsAreAtFirst
at-first flow story k none =
    let sys = system_now flow story in
    no-steps story.now.opened sys (first_state sys) (steps_among story.actions) story.now.state
    (subst (λ es. OpenRun story.now.opened sys (first_state sys) (steps_among story.actions) es story.now.state) none (story-run flow story k))

pub starts-on : {E K : Type 0} (view : K → StoreView) (Stand : Standings E) (keep_of : E → KeepState) (flow_of : E → Dataflow)
    → StartsGoOn view Stand keep_of flow_of
starts-on {E} {K} view Stand keep_of flow_of flow story given root before result after k same over resumes told =
    let sys = system_now flow story in
    let is : system_of flow given ≡ sys = ap (λ bs. with_batches flow bs) same in
    let restored : IfOk result (λ made. RestoresAll Stand sys story.now.state (outcome_of made.1) made.0 (view after).records) =
    subst (λ (s : System). IfOk result (λ made. RestoresAll Stand s story.now.state (outcome_of made.1) made.0 (view after).records)) is
    (resumes.restores story.now.state
    (subst (λ (s : System). IsReached s story.now.state) (sym is) (story-reached flow story k))
    (subst (λ (s : System). IsRootOf s story.now.state root) (sym is) over.of_state)
    (subst (λ (s : System). AreNamed s story.now.state root (view before).records) (sym is) over.named) told) in
    IfOk-weaker result (λ made. RestoresAll Stand sys story.now.state (outcome_of made.1) made.0 (view after).records) _ (λ made r. on made r) restored
  where
    on : (made : E × Stepped) → RestoresAll Stand (system_now flow story) story.now.state (outcome_of made.1) made.0 (view after).records
        → GoesOnByStart Stand flow story (outcome_of made.1) made.0 (view after).records
    on made (state, choice, leads, shown, stands) =
        let again = stories_start_again flow story k choice state leads in
        record {
          choice = choice;
          next = again.0;
          behind = again.1;
          of_story = again.2;
          shows = shown;
          stands = subst (λ (m : FedMachine). Stand (with_batches flow m.batches) made.0 (view after).records m.state) (sym again.3) stands;
        }

-- and no record of those that the root names is damaged, where they are told
pub unharmed-on : {E K : Type 0} (view : K → StoreView) (Stand : Standings E) (keep_of : E → KeepState) (flow_of : E → Dataflow) (flow : Dataflow)
    (story : Story) (given : Given) (root : Root) (before : K) (result : Result (E × Stepped) EngineFault) (after : K) → IsStory flow story
    → batches_of_nodes flow given ≡ story.now.batches → IsRootOver flow story.now.batches story.now.state root (view before).records
    → ResumesHeld view Stand keep_of flow_of flow given root before result after → IsSome (view after).records
    → (id : ℕ) → IsErrOf result (fault.Damaged id) → ⊥
unharmed-on view Stand keep_of flow_of flow story given root before result after k same over resumes told id e =
    let sys = system_now flow story in
    let is : system_of flow given ≡ sys = ap (λ bs. with_batches flow bs) same in
    resumes.unharmed id story.now.state
    (subst (λ (s : System). IsReached s story.now.state) (sym is) (story-reached flow story k))
    (subst (λ (s : System). IsRootOf s story.now.state root) (sym is) over.of_state)
    (subst (λ (s : System). AreNamed s story.now.state root (view before).records) (sym is) over.named) told e
