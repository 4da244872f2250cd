-- A session starts over what its store holds.
use Rattle.std.proofs.Common.{◌≡◌, ◌⊎◌, ℕ, ◌<◌, ◌≤◌, ◌^◌, Bool, true, false, List, [], Option, Some, None, Result, Ok, Err, length, refl, sym, ap, subst, ◌∙◌, inl, inr, arith}
use Rattle.std.specs.Prelude.{IfOk, IsErrOf, IsSome}
use Rattle.std.specs.FinMap as map_of
use Rattle.std.specs.Option.{ForSome}
use Rattle.std.proofs.lemmas.Bool.{false≢true}
use Rattle.std.proofs.lemmas.Option.{same_Some}
use Rattle.std.specs.Ordering.{nat_cmp}
use Rattle.fw_bag.specs.declared.rec.Rec.{Rec}
use Rattle.fw_came.specs.Came.{batch_id}
use Rattle.fw_engine.specs.declared.engine.Engine.{Engine}
use Rattle.fw_engine.specs.Engine.{flow_of, keep_of, StandsFor}
use Rattle.fw_feeding.specs.Feeding.{with_batches}
use Rattle.fw_flow.specs.declared.choice.Choice.{Choice}
use Rattle.fw_flow.specs.Dataflow.{Dataflow, System, batches_of_nodes, system_of}
use Rattle.fw_flow.specs.WellFormed.{IsWellFormed}
use Rattle.fw_held.specs.declared.restartable.RestartableEngine.{RestartableEngine}
use Rattle.fw_hold.specs.declared.found.FoundRoot.{FoundRoot}
use Rattle.fw_hold.specs.Engine.{KeepsOutside, ResumesHeld}
use Rattle.fw_hold.proofs.EndLaws.{IsOfPut}
use Rattle.fw_hold.specs.Found.{BeginAs, GaveNoHead, HasGreatestTurn, HasNamed, HasNoneFound, IsFoundRoot, IsRootId}
use Rattle.fw_hold.specs.Kept.{HaveNoRoot, root_id}
use Rattle.fw_hold.specs.Starting.{IsCountedHead, IsForeign, IsForeignIn, IsToldForeign}
use Rattle.fw_hold.specs.declared.fault.HoldFault.{HoldFault}
use Rattle.fw_hold.specs.declared.fault.HoldFault.TheVariants.{DamagedRoot, Engine as OfEngine, ForeignRoot, Out}
use Rattle.fw_running.specs.declared.fault.EngineFault.{EngineFault}
use Rattle.fw_running.specs.declared.fault.EngineFault.TheVariants as fault
use Rattle.fw_hold.proofs.StartLaws.{counted_is_found, foreign_found, none_found, some_found}
use Rattle.fw_hold.proofs.RootIdLaws.{root_id-either}
use Rattle.fw_keep.specs.Stored.{AreThere, Records}
use Rattle.fw_model.specs.Machine.{Machine, first_state}
use Rattle.fw_named.specs.Named.{named_ids}
use Rattle.fw_named.proofs.NamedLaws.{named-there}
use Rattle.fw_outside.specs.Outside.{StayIfTold, StoreView}
use Rattle.fw_root.specs.declared.root.Digests.{Digests}
use Rattle.fw_root.specs.declared.root.Head.{Head}
use Rattle.fw_root.specs.declared.root.Root.{Root}
use Rattle.fw_root.specs.OfFlow.{Given}
use Rattle.fw_root.specs.Sound.{IsRootFor}
use Rattle.fw_root.specs.Spelling.{root_spelling}
use Rattle.fw_root.proofs.HeadLaws.{head_of_root}
use Rattle.fw_running.specs.declared.stepped.Stepped.{Stepped}
use Rattle.fw_running.specs.Steps.{outcome_of}
use Rattle.fw_session.specs.declared.arrivals.Arrivals.{Arrivals}
use Rattle.fw_session.specs.Session.{IsAt}
use Rattle.fw_session.specs.Story.{Story, IsStory, opening, system_now, came_to}
use Rattle.fw_session.proofs.StoryLaws.{none-before, opening-story}
use Rattle.fw_lasting.specs.Again.{IsStartBehind}
use Rattle.fw_lasting.specs.declared.start.Resumed.{Resumed}
use Rattle.fw_lasting.specs.Given.{batches_by_node}
use Rattle.fw_lasting.specs.KeptStory.{GoesOnByStart, HoldsStory, HoldsWhatCame, IsRootOfStory}
use Rattle.fw_lasting.specs.Reading.{IsWhatCame}
use Rattle.fw_lasting.specs.RootOver.{IsRootOver}
use Rattle.fw_lasting.specs.Starting.{GoesOnFrom, HasStarted, HoldsSome, IsForeignFault, IsOfOutside, MayStart}
use Rattle.fw_lasting.specs.UnderWay.{IsUnderWay, SaysLast, StandsAgain, keep_again, flow_again}
use Rattle.fw_lasting.proofs.KeepLaws.{came-stays, root-stays}
use Rattle.fw_lasting.proofs.StartLaws.{at-first, read-for, starts-on}

-- records with nothing hold the opening
pub empty-opening : (flow : Dataflow) (digests : Digests) → IsWellFormed flow → HoldsStory flow digests map_of.empty (opening flow) 0 0
empty-opening flow digests w = record {
  of_story = opening-story flow w;
  came = λ s i. record {
    each = λ x l. absurd (omega (arith, l, ap length (none-before flow s)));
    none = λ x l r. map_of.get-empty nat_cmp (batch_id s x);
  };
  rooted = inl (record { even = map_of.get-empty nat_cmp (root_id 0); odd = map_of.get-empty nat_cmp (root_id 1) }, refl, refl);
}

-- so a session may start over a store that holds nothing
pub may-start : (flow : Dataflow) (digests : Digests) (records : Option Records) → IsWellFormed flow → ForSome records (λ held. held ≡ map_of.empty)
    → MayStart flow digests records
may-start flow digests records w none = λ held told. inl (
  opening flow,
  0,
  0,
  subst (λ h. HoldsStory flow digests h (opening flow) 0 0) (sym (none held told)) (empty-opening flow digests w),
)

-- what a session keeps is there for a start
pub kept-again : (digests : Digests) (engine : Engine) (arrivals : Arrivals) (records : Option Records) (turn steps : ℕ) (story : Story)
    (lines : List ℕ) → IsUnderWay digests engine arrivals records turn story story → SaysLast (flow_of engine) digests story steps lines records
    → ForSome records (λ held. (HoldsStory (flow_of engine) digests held story turn (keep_of engine).next)
    × SaysLast (flow_of engine) digests story steps lines (Some held))
kept-again digests engine arrivals records turn steps story lines u says =
    λ held told. (u.holds held told, subst (SaysLast (flow_of engine) digests story steps lines) told says)

-- ---- what is found

-- the root of a story counts by its head
story-counts : (flow : Dataflow) (digests : Digests) (held : Records) (story : Story) (root : Root) → IsRootOfStory flow digests held story root
    → (counted : IsCountedHead held (record { digests = root.mark.digests; turn = root.mark.turn })) × (counted.bytes ≡ root_spelling root)
story-counts flow digests held story root is = (
  record {
    bytes = root_spelling root;
    there = is.counted.there;
    begins = head_of_root flow (batches_by_node story.now.batches) root is.over.of_flow;
    other = λ others there. let e = is.counted.other others there in (e.0, (e.1, e.2), e.4);
  },
  refl,
)

-- what is found is a root of the story that counts
found-this : (flow : Dataflow) (digests : Digests) (held : Records) (story : Story) (root : Root) (found : FoundRoot)
    → IsRootOfStory flow digests held story root → IsFoundRoot (Some held) found → HasGreatestTurn (Some held) found.head
    → (found.bytes.items ≡ root_spelling root) × (found.head.digests ≡ digests)
found-this flow digests held story root found is at greatest =
    let c = story-counts flow digests held story root is in
    let f = counted_is_found held (record { digests = root.mark.digests; turn = root.mark.turn }) found c.0 at greatest in
    (f.0 ∙ c.1, ap (λ (d : Head). d.digests) f.1 ∙ is.of_digests)

-- what is found is the root of the story
pub found-root : (flow : Dataflow) (digests : Digests) (held : Records) (story : Story) (turn next : ℕ) (found : FoundRoot)
    → HoldsStory flow digests held story turn next → IsFoundRoot (Some held) found → HasGreatestTurn (Some held) found.head
    → (root : Root) × IsRootOfStory flow digests held story root × (turn ≡ root.mark.turn) × (root.next_id ≤ next)
    × (found.bytes.items ≡ root_spelling root) × (found.head.digests ≡ digests)
found-root flow digests held story turn next found h is greatest = elim h.rooted [
  | inl none ↦ absurd (none_found held found none.0 is)
  | inr some ↦
      let f = found-this flow digests held story some.0 found some.1 is greatest in
      (some.0, some.1, some.2, some.3, f.0, f.1)
]

-- so nothing was done where none is found
pub none-done : (flow : Dataflow) (digests : Digests) (held : Records) (story : Story) (turn next : ℕ) → HoldsStory flow digests held story turn next
    → HasNoneFound (Some held) → HaveNoRoot held × (story.effects ≡ []) × (turn ≡ 0)
none-done flow digests held story turn next h none = elim h.rooted [
  | inl first ↦ first
  | inr some ↦ absurd (some_found held some.0.mark.turn (root_spelling some.0) some.1.counted.there none)
]

-- and no root was put
pub tells-none : (flow : Dataflow) (digests : Digests) (held : Records) (story : Story) (steps : ℕ) (lines : List ℕ) → HasNoneFound (Some held)
    → SaysLast flow digests story steps lines (Some held) → ⊥
tells-none flow digests held story steps lines none f =
    let r = f held refl in some_found held r.0.mark.turn (root_spelling r.0) r.1.counted.there none

-- records that are told are what they were
pub told-still : (old new : Option Records) (held : Records) → StayIfTold old new → IsSome new → old ≡ Some held → new ≡ Some held
told-still old new held stay now told = stay now ∙ told

-- the writes that the found root names are there
pub root-named : (flow : Dataflow) (digests : Digests) (given : Given) (old new : Option Records) (found : FoundRoot) (root : Root)
    → ForSome old (λ held. HoldsSome flow digests held ⊎ IsForeign digests held) → StayIfTold old new → IsFoundRoot new found
    → HasGreatestTurn new found.head → found.head.digests ≡ digests
    → ((r : Root) → IsRootFor flow given r → found.bytes.items ≡ root_spelling r → root ≡ r)
    → ((story : Story) (held : Records) → IsStory flow story → old ≡ Some held → HoldsWhatCame flow story.now held → IsSome new
    → batches_of_nodes flow given ≡ story.now.batches) → HasNamed root new
root-named flow digests given old new found root may stay is greatest same only came = λ held told.
    let now : IsSome new = subst (λ (r : Option Records). IsSome r) (sym told) refl in
    let before : old ≡ Some held = sym (stay now) ∙ told in
    let is_here = subst (λ r. IsFoundRoot r found) told is in
    let greatest_here = subst (λ r. HasGreatestTurn r found.head) told greatest in
    elim (may held before) [
      | inl kept ↦ (
          let story = kept.0 in
          let h = kept.3 in
          let f = found-root flow digests held story kept.1 kept.2 found h is_here greatest_here in
          let over = f.1.over in
          let these = came story held h.of_story before h.came now in
          let for = read-for flow story h.of_story given these f.0 (Some held) over in
          let e : root ≡ f.0 = only f.0 for f.4 in
          subst (λ r. AreThere (named_ids r) (Some held)) (sym e) (named-there (system_now flow story) story.now.state f.0 (Some held) over.named) held refl
          )
      | inr foreign ↦ absurd (foreign_found digests old new found (held, before, foreign) stay now is greatest same)
    ]

-- ---- where it stands then

-- a start changes no batches, and closes no source
start-same : (flow : Dataflow) (story : Story) (choice : Choice) (next : Story) → IsStartBehind flow story choice next
    → (next.now.batches ≡ story.now.batches) × (next.now.opened ≡ story.now.opened)
start-same flow story choice next b = elim b.falls [
  | inl e ↦ (ap (λ (s : Story). s.now.batches) (b.restored) ∙ ap (λ (s : Story). s.now.batches) e.0, ap (λ (s : Story). s.now.opened) b.restored ∙ ap (λ (s : Story). s.now.opened) e.0)
  | inr e ↦ (ap (λ (s : Story). s.now.batches) (b.restored) ∙ ap (λ (s : Story). s.now.batches) e, ap (λ (s : Story). s.now.opened) b.restored ∙ ap (λ (s : Story). s.now.opened) e)
]

-- an engine of the flow that stands for a story, and what came of it
pub at-story : (flow : Dataflow) (engine : Engine) (records : Option Records) (arrivals : Arrivals) (given : Given) (story next : Story)
    → flow_of engine ≡ flow → IsWhatCame flow story given arrivals → IsStory flow next → next.now.opened ≡ story.now.opened
    → next.now.batches ≡ story.now.batches → StandsFor (system_now flow next) engine records next.now.state → IsAt engine records arrivals next
at-story flow engine records arrivals given story next of_flow came k o b stands =
    let there = sym of_flow in
    record {
      of_story = subst (λ f. IsStory f next) there k;
      stands = subst (λ f. StandsFor (system_now f next) engine records next.now.state) there stands;
      opens = λ s. came.opens s ∙ ap (λ g. g s) (sym o);
      counts = λ s. came.counts s ∙ ap (λ bs. length (came_to flow (record story.now { batches = bs }) s)) (sym b)
          ∙ ap (λ g. length (came_to flow (record next.now { opened = g }) s)) (sym o)
          ∙ ap (λ f. length (came_to f next.now s)) there;
      one_each = came.one_each ∙ ap (λ (f : Dataflow). length f.nodes) there;
    }

-- where there is no root it is at the story that the store holds
pub started-first : (flow : Dataflow) (digests : Digests) (engine : Engine) (records : Option Records) (arrivals : Arrivals) (given : Given) (held : Records)
    (story : Story) (turn next : ℕ) → HoldsStory flow digests held story turn next → records ≡ Some held → HasNoneFound records
    → flow_of engine ≡ flow → IsWhatCame flow story given arrivals
    → StandsFor (system_of flow given) engine records (first_state (system_of flow given))
    → HasStarted flow digests engine arrivals records 0 None story
started-first flow digests engine records arrivals given held story turn next h told none of_flow came stands =
    let first = none-done flow digests held story turn next h (subst HasNoneFound told none) in
    let sys : system_of flow given ≡ system_now flow story = ap (λ bs. with_batches flow bs) came.batches in
    let here : StandsFor (system_now flow story) engine records story.now.state =
    subst (StandsFor (system_now flow story) engine records) (sym (at-first flow story h.of_story first.1))
    (subst (λ (s : System). StandsFor s engine records (first_state s)) sys stands) in
    record {
      now = story;
      goes_on = refl;
      under_way = record {
        at = at-story flow engine records arrivals given story story of_flow came h.of_story refl refl here;
        holds = λ some t. subst (λ f. HoldsStory f digests some story 0 (keep_of engine).next) (sym of_flow)
            (subst (λ r. HoldsStory flow digests r story 0 (keep_of engine).next) (held-is held some (sym told ∙ t))
            (record { of_story = h.of_story; came = h.came; rooted = inl (first.0, first.1, refl) }));
        same_batches = refl;
        same_opened = refl;
      };
    }
  where
    held-is : (one other : Records) → Some one ≡ Some other → one ≡ other
    held-is one other e = cc

-- behind a root it is at the story behind a start
pub started-again : (flow : Dataflow) (digests : Digests) (made : RestartableEngine) (records : Option Records) (arrivals : Arrivals) (given : Given)
    (held : Records) (story : Story) (root : Root) (resumed : Resumed) → IsStory flow story → HoldsWhatCame flow story.now held
    → records ≡ Some held → IsRootOfStory flow digests held story root → flow_of made.engine ≡ flow
    → (keep_of made.engine).next ≡ root.next_id → IsWhatCame flow story given arrivals
    → GoesOnByStart StandsAgain flow story (outcome_of resumed.stepped) made records
    → HasStarted flow digests made.engine arrivals records root.mark.turn (Some resumed) story
started-again flow digests made records arrivals given held story root resumed of_story what told is of_flow ids came g =
    let behind = g.behind in
    let same = start-same flow story g.choice g.next behind in
    record {
      now = g.next;
      goes_on = (g.choice, behind, g.shows);
      under_way = record {
        at = at-story flow made.engine records arrivals given story g.next of_flow came g.of_story same.1 same.0 g.stands;
        holds = λ some t. subst (λ f. HoldsStory f digests some story root.mark.turn (keep_of made.engine).next) (sym of_flow)
            (subst (λ r. HoldsStory flow digests r story root.mark.turn (keep_of made.engine).next) (held-is held some (sym told ∙ t))
            (record { of_story = of_story; came = what; rooted = inr (root, is, refl, omega (arith, ids)) }));
        same_batches = same.0;
        same_opened = same.1;
      };
    }
  where
    held-is : (one other : Records) → Some one ≡ Some other → one ≡ other
    held-is one other e = cc

-- records that are told, and under each id of which is what was there
again-held : (flow : Dataflow) (digests : Digests) (held : Records) (story : Story) (root : Root) (after : Option Records)
    → KeepsOutside 0 0 (Some held) after → IsSome after → IsStory flow story → HoldsWhatCame flow story.now held → IsRootOfStory flow digests held story root
    → (new : Records) × (after ≡ Some new) × HoldsWhatCame flow story.now new × IsRootOfStory flow digests new story root
again-held flow digests held story root None k some of_story came is = absurd (cc)
again-held flow digests held story root (Some new) k some of_story came is =
    let same : (id : ℕ) → map_of.get new id ≡ map_of.get held id = λ id. k.others refl id (inr (omega arith)) in (
      new,
      refl,
      came-stays flow story held new of_story (λ s x i l. same (batch_id s x)) came,
      root-stays flow digests held new story root (λ id at. same id) (λ id l. same id) is,
    )

-- a start behind a root
pub begun-again : {K : Type 0} (view : K → StoreView) (flow : Dataflow) (digests : Digests) (given : Given) (arrivals : Arrivals) (old : Option Records)
    (mid after : K) (found : FoundRoot) (root : Root) (made : RestartableEngine) (stepped : Stepped) (resumed : Resumed) (held : Records) (story : Story)
    (turn next : ℕ) → old ≡ Some held → StayIfTold old (view mid).records → IsFoundRoot (view mid).records found
    → HasGreatestTurn (view mid).records found.head → ((r : Root) → IsRootFor flow given r → found.bytes.items ≡ root_spelling r → root ≡ r)
    → (IsSome (view mid).records → IsWhatCame flow story given arrivals) → HoldsStory flow digests held story turn next → resumed.stepped ≡ stepped
    → ResumesHeld view StandsAgain keep_again flow_again flow given root mid (Ok (made, stepped)) after → IsSome (view after).records
    → HasStarted flow digests made.engine arrivals (view after).records root.mark.turn (Some resumed) story
begun-again view flow digests given arrivals old mid after found root made stepped resumed held story turn next told stay is greatest only came h shown r some =
    let was : IsSome (view mid).records = r.stays.told_before some in
    let here : (view mid).records ≡ Some held = told-still old (view mid).records held stay was told in
    let c = came was in
    let f = found-root flow digests held story turn next found h (subst (λ q. IsFoundRoot q found) here is)
    (subst (λ q. HasGreatestTurn q found.head) here greatest) in
    let for = read-for flow story h.of_story given c.batches f.0 (Some held) f.1.over in
    let e : root ≡ f.0 = only f.0 for f.4 in
    let of_story : IsRootOfStory flow digests held story root = subst (λ q. IsRootOfStory flow digests held story q) (sym e) f.1 in
    let over : IsRootOver flow story.now.batches story.now.state root (view mid).records =
    subst (λ q. IsRootOver flow story.now.batches story.now.state root q) (sym here) of_story.over in
    let now = again-held flow digests held story root (view after).records (subst (λ q. KeepsOutside 0 0 q (view after).records) here r.stays) some h.of_story
    h.came of_story in
    let on : GoesOnByStart StandsAgain flow story (outcome_of stepped) made (view after).records =
    starts-on view StandsAgain keep_again flow_again flow story given root mid (Ok (made, stepped)) after h.of_story c.batches over r some in
    started-again flow digests made (view after).records arrivals given now.0 story root resumed h.of_story now.2 now.1 now.3 r.runs r.next c
    (subst (λ (s : Stepped). GoesOnByStart StandsAgain flow story (outcome_of s) made (view after).records) (sym shown) on)

-- what was kept last is what the root that is found says
pub tells-again : (flow : Dataflow) (digests : Digests) (given : Given) (old mid : Option Records) (found : FoundRoot) (root : Root) (held : Records)
    (story : Story) (steps : ℕ) (lines : List ℕ) → old ≡ Some held → StayIfTold old mid → IsFoundRoot mid found → HasGreatestTurn mid found.head
    → ((r : Root) → IsRootFor flow given r → found.bytes.items ≡ root_spelling r → root ≡ r)
    → (IsSome mid → batches_of_nodes flow given ≡ story.now.batches) → IsStory flow story → SaysLast flow digests story steps lines (Some held)
    → IsSome mid → (root.mark.steps ≡ steps) × (root.mark.lines ≡ lines)
tells-again flow digests given old mid found root held story steps lines told stay is greatest only came k f some =
    let r = f held refl in
    let here : mid ≡ Some held = told-still old mid held stay some told in
    let same = found-this flow digests held story r.0 found r.1 (subst (λ q. IsFoundRoot q found) here is)
    (subst (λ q. HasGreatestTurn q found.head) here greatest) in
    let e : root ≡ r.0 = only r.0 (read-for flow story k given (came some) r.0 (Some held) r.1.over) same.0 in
    (ap (λ (q : Root). q.mark.steps) e ∙ r.2, ap (λ (q : Root). q.mark.lines) e ∙ r.3)

-- ---- roots of other texts

-- what is told of such a root is told whatever was asked for
pub foreign-told : (S T : Type 0) (fault : HoldFault) → IsToldForeign {T = S} (Err fault) → IsToldForeign {T = T} (Err fault)
foreign-told S T ForeignRoot t = inl refl
foreign-told S T (OfEngine fault.StoreFault) t = inr (inl refl)
foreign-told S T (OfEngine fault.NoMemory) t = inr (inr refl)
foreign-told S T (OfEngine (fault.Damaged id)) t = absurd (elim t [ inl e ↦ cc | inr r ↦ elim r [ inl e ↦ cc | inr e ↦ cc ] ])
foreign-told S T (Out e) t = absurd (elim t [ inl e ↦ cc | inr r ↦ elim r [ inl e ↦ cc | inr e ↦ cc ] ])
foreign-told S T (DamagedRoot id) t = absurd (elim t [ inl e ↦ cc | inr r ↦ elim r [ inl e ↦ cc | inr e ↦ cc ] ])

-- a value is no such answer
pub foreign-ok : {T : Type 0} (value : T) → IsToldForeign (Ok value) → ⊥
foreign-ok value t = elim t [ inl e ↦ cc | inr r ↦ elim r [ inl e ↦ cc | inr e ↦ cc ] ]

-- so nothing follows behind it, where the records are told still
pub foreign-past : {S T : Type 0} (digests : Digests) (old mid new : Option Records) (value : S) (answer : Result T HoldFault)
    → (IsForeignIn digests old → IsSome mid → IsToldForeign (Ok value)) → (IsSome new → IsSome mid)
    → IsForeignIn digests old → IsSome new → IsToldForeign answer
foreign-past digests old mid new value answer by was f told = absurd (foreign-ok value (by f (was told)))

-- where a session did not start
pub foreign-fault : (T : Type 0) (fault : HoldFault) → IsToldForeign {T = T} (Err fault) → IsForeignFault fault
foreign-fault T ForeignRoot t = inl refl
foreign-fault T (OfEngine fault.StoreFault) t = inr (inl refl)
foreign-fault T (OfEngine fault.NoMemory) t = inr (inr refl)
foreign-fault T (OfEngine (fault.Damaged id)) t = absurd (elim t [ inl e ↦ cc | inr r ↦ elim r [ inl e ↦ cc | inr e ↦ cc ] ])
foreign-fault T (Out e) t = absurd (elim t [ inl e ↦ cc | inr r ↦ elim r [ inl e ↦ cc | inr e ↦ cc ] ])
foreign-fault T (DamagedRoot id) t = absurd (elim t [ inl e ↦ cc | inr r ↦ elim r [ inl e ↦ cc | inr e ↦ cc ] ])

-- ---- a store that holds a story

-- each root there begins with a head, where one counts
heads-there : (held : Records) (head : Head) → IsCountedHead held head → (id : ℕ) (bytes : List ℕ) → IsRootId id → map_of.get held id ≡ Some bytes
    → (some : Head) × BeginAs bytes some
heads-there held head counted id bytes is there = elim (root_id-either head.turn id is) [
  | inl here ↦ (head, subst (λ b. BeginAs b head) (same_Some counted.bytes bytes (sym counted.there ∙ ap (map_of.get held) (sym here) ∙ there)) counted.begins)
  | inr other ↦ (let e = counted.other bytes (ap (map_of.get held) (sym other) ∙ there) in (e.0, e.1))
]

heads-of : (flow : Dataflow) (digests : Digests) (held : Records) (story : Story) (turn next : ℕ) → HoldsStory flow digests held story turn next
    → (id : ℕ) (bytes : List ℕ) → IsRootId id → map_of.get held id ≡ Some bytes → (some : Head) × BeginAs bytes some
heads-of flow digests held story turn next h id bytes is there = elim h.rooted [
  | inl none ↦ elim is [
    | inl e ↦ absurd (let no : Some bytes ≡ None = sym there ∙ ap (map_of.get held) e ∙ none.0.even in cc)
    | inr e ↦ absurd (let no : Some bytes ≡ None = sym there ∙ ap (map_of.get held) e ∙ none.0.odd in cc)
  ]
  | inr some ↦
      heads-there held (record { digests = some.0.mark.digests; turn = some.0.mark.turn }) (story-counts flow digests held story some.0 some.1).0 id bytes is
      there
]

-- so none is damaged
pub root-undamaged : (flow : Dataflow) (digests : Digests) (old new : Option Records) (held : Records) (story : Story) (turn next id : ℕ)
    (given : Option (ℕ × List ℕ)) → old ≡ Some held → HoldsStory flow digests held story turn next → StayIfTold old new → IsSome new
    → GaveNoHead new id given → ⊥
root-undamaged flow digests old new held story turn next id given told h stay now g =
    let there = subst (λ r. GaveNoHead r id given) (told-still old new held stay now told) g in
    let b = heads-of flow digests held story turn next h id there.bytes there.of_root (there.there held refl) in
    let no : Ok (b.0, b.1.0) ≡ Err there.broken.0 = sym b.1.1 ∙ there.broken.1 in
    absurd (cc)

-- nor is one of other texts
pub root-known : (flow : Dataflow) (digests : Digests) (old new : Option Records) (held : Records) (story : Story) (turn next : ℕ) (found : FoundRoot)
    → old ≡ Some held → HoldsStory flow digests held story turn next → StayIfTold old new → IsSome new → IsFoundRoot new found
    → HasGreatestTurn new found.head → found.head.digests ≡ digests
root-known flow digests old new held story turn next found told h stay now is greatest =
    let here = told-still old new held stay now told in
    (found-root flow digests held story turn next found h (subst (λ q. IsFoundRoot q found) here is) (subst (λ q. HasGreatestTurn q found.head) here greatest)).5

-- a fault of a call of the store that names no damaged root
pub outside-put : (fault : HoldFault) → IsOfPut fault → IsOfOutside fault
outside-put (Out e) is = absurd is
outside-put (OfEngine fault.StoreFault) is = inl refl
outside-put (OfEngine (fault.Damaged id)) is = absurd is
outside-put (OfEngine fault.NoMemory) is = inr refl
outside-put (DamagedRoot id) is = absurd is
outside-put ForeignRoot is = absurd is

-- one of an engine that names no damaged record
pub outside-engine : {T : Type 0} (known : EngineFault) → ((id : ℕ) → IsErrOf {T = T} (Err known) (fault.Damaged id) → ⊥) → IsOfOutside (OfEngine known)
outside-engine fault.StoreFault sound = inl refl
outside-engine (fault.Damaged id) sound = absurd (sound id refl)
outside-engine fault.NoMemory sound = inr refl

-- nothing is written, and then nothing
pub outside-on : (old mid new : Option Records) → KeepsOutside 0 0 old mid → KeepsOutside 0 0 mid new → KeepsOutside 0 0 old new
outside-on old mid new one two = record {
  told_before = λ told. one.told_before (two.told_before told);
  others = λ told id out. two.others told id out ∙ one.others (two.told_before told) id out;
}
