-- At which stories a session is.
use Rattle.std.proofs.Common.{◌≡◌, ◌≢◌, ℕ, zero, suc, ◌+◌, ◌-◌, ◌<◌, ◌≤◌, ◌^◌, min, Bool, true, false, cond, List, [], ◌∷◌, length, map, replicate, get_or, set, Option, Result, Ok, Err, refl, sym, ap, subst, ◌∙◌, inl, inr, arith}
use Rattle.std.specs.List.{range_with_len}
use Rattle.std.specs.Prelude.{IfOk, IsErr}
use Rattle.std.proofs.lemmas.Bool.{cases_eq, cases_lt, false≢true}
use Rattle.std.proofs.lemmas.List.{length-append, length-replicate, length-set, get_or-set_same, get_or-set_other, get_or_past}
use Rattle.std.proofs.lemmas.List.FromFn.{get_or-map-range_with_len, length-map-range_with_len}
use Rattle.std.specs.declared.alloc.Global.{Global}
use Rattle.std.specs.declared.vec.Vec.{Vec}
use Rattle.fw_bag.specs.declared.rec.Rec.{Rec}
use Rattle.fw_lines.specs.Batches.{IsBatch}
use Rattle.fw_flow.specs.Dataflow.{Dataflow, kind_of, is_input_kind, node_ids, batches_of}
use Rattle.fw_flow.specs.WellFormed.{IsWellFormed, IsWellFormedSystem}
use Rattle.fw_keep.specs.Stored.{Records}
use Rattle.fw_model.specs.Machine.{first_state}
use Rattle.fw_running.specs.Fed.{can_feed, IsFedBatch}
use Rattle.fw_feeding.specs.Feeding.{with_batches}
use Rattle.fw_border.specs.Sources.{without_last}
use Rattle.fw_engine.specs.declared.engine.Engine.{Engine}
use Rattle.fw_engine.specs.Engine.{flow_of, was_refused, running_of, StandsFor}
use Rattle.fw_session.specs.declared.arrivals.Arrivals.{Arrivals}
use Rattle.fw_session.specs.Story.{Story, IsStory, system_now, opening, opening_batches, came_to, fed_batches, open_but, after_feed, after_close}
use Rattle.fw_session.specs.Session.{is_open_in, came_in, IsAt, IsAtSome, IsOpened}
use Rattle.fw_session.proofs.FedRunningLaws.{fed-batches_stand, can-be-fed}
use Rattle.fw_session.proofs.StoryLaws.{input-there, opening-story, opening-well, none-before, came-fed, came-open, story-open, feeds-batches, feeds-well, story-fed, story-closed, closes-at}

-- ---- the opening

none-came : (n s : ℕ) → get_or (replicate n zero) s zero ≡ zero
none-came zero s = refl
none-came (suc n) zero = refl
none-came (suc n) (suc s) = none-came n s

pub none-past : (flow : Dataflow) (p : ℕ) → length flow.nodes ≤ p → is_input_kind (kind_of flow p) ≡ false
none-past flow p ge = by (is_input_kind (kind_of flow p)) refl
  where
    by : (b : Bool) → is_input_kind (kind_of flow p) ≡ b → b ≡ false
    by true e = let lt = input-there flow p e in absurd (omega arith)
    by false e = refl

inputs-at : (flow : Dataflow) (p : ℕ) → get_or (map (λ q. is_input_kind (kind_of flow q)) (node_ids flow)) p false ≡ is_input_kind (kind_of flow p)
inputs-at flow p =
    let n = length flow.nodes in
    let f : ℕ → Bool = λ q. is_input_kind (kind_of flow q) in
    elim (cases_lt p n) [
      | inl lt ↦ get_or-map-range_with_len f 0 n p p false lt (omega arith)
      | inr ge ↦ get_or_past (map f (range_with_len 0 n)) p false (omega (arith, ge, length-map-range_with_len f 0 n)) ∙ sym (none-past flow p ge)
    ]

-- the session is at the opening
pub at-opened : (engine : Engine) (records : Option Records) (arrivals : Arrivals) (flow : Dataflow) → IsOpened flow engine records
    → arrivals.opened.items ≡ map (λ p. is_input_kind (kind_of flow p)) (node_ids flow) → arrivals.came.items ≡ replicate (length flow.nodes) 0
    → IsAt engine records arrivals (opening flow)
at-opened engine records arrivals flow opened o c =
    let same = sym opened.of_flow in
    record {
      of_story = subst (λ f. IsStory f (opening flow)) same (opening-story flow opened.well_formed);
      stands = subst (λ f. StandsFor (system_now f (opening flow)) engine records (opening flow).now.state) same opened.stands;
      opens = λ s. ap (λ bs. get_or bs s false) o ∙ inputs-at flow s;
      counts = λ s. ap (λ ns. get_or ns s 0) c ∙ none-came (length flow.nodes) s
          ∙ sym (subst (λ f. length (came_to f (opening flow).now s) ≡ 0) same (ap length (none-before flow s)));
      one_each = ap length c ∙ length-replicate (length flow.nodes) 0 ∙ ap (λ (f : Dataflow). length f.nodes) same;
    }

-- what an engine asks of the flow and the batches with which a session opens
pub fresh-well : (flow : Dataflow) (batches : List (List (List Rec))) → IsWellFormed flow → batches ≡ opening_batches flow
    → IsWellFormedSystem (with_batches flow batches)
fresh-well flow batches well given = subst (λ bs. IsWellFormedSystem (with_batches flow bs)) (sym given) (opening-well flow well)

-- ---- what came

came_while : Bool → List (List Rec) → List (List Rec)
came_while b bs = cond b (without_last bs) bs

count-fed : (flow : Dataflow) (story : Story) → IsStory flow story → (s : ℕ) (recs : List Rec) → story.now.opened s ≡ true
    → length (came_to flow (after_feed s recs story).now s) ≡ length (came_to flow story.now s) + 1
count-fed flow story k s recs o =
    ap length (came-fed flow story.now (fed_batches s recs story.now.batches) s recs o (feeds-batches flow story k s recs o))
    ∙ length-append (came_to flow story.now s) (recs ∷ [])

count-else : (flow : Dataflow) (story : Story) → IsStory flow story → (s : ℕ) (recs : List Rec) → story.now.opened s ≡ true → (q : ℕ) → q ≢ s
    → length (came_to flow (after_feed s recs story).now q) ≡ length (came_to flow story.now q)
unfolding came_while
count-else flow story k s recs o q n =
    ap (λ bs. length (came_while (story.now.opened q) bs)) ((feeds-batches flow story k s recs o).others q n)

-- there is room for one batch more in the count
capped : (engine : Engine) (records : Option Records) (arrivals : Arrivals) (story : Story) → IsAt engine records arrivals story → (s : ℕ)
    → is_open_in arrivals s ≡ true → min (came_in arrivals s + 1) (2 ^ 64 - 1) ≡ came_in arrivals s + 1
capped engine records arrivals story at s o =
    let all = came-open (flow_of engine) story at.of_story s (sym (at.opens s) ∙ o) in
    let few = at.of_story.well_formed.few s in
    let here = at.counts s in
    small (came_in arrivals s) (omega arith)
  where
    small : (n : ℕ) → n + 1 ≤ 2 ^ 20 → min (n + 1) (2 ^ 64 - 1) ≡ n + 1
    small n l = omega arith

-- the counts after one batch more of a source, of which so many came then
counted : (engine : Engine) (records : Option Records) (arrivals : Arrivals) (story : Story) → IsAt engine records arrivals story → (s : ℕ)
    → is_open_in arrivals s ≡ true → (items : List ℕ) → items ≡ set arrivals.came.items s (min (came_in arrivals s + 1) (2 ^ 64 - 1))
    → (next : Story) → length (came_to (flow_of engine) next.now s) ≡ length (came_to (flow_of engine) story.now s) + 1
    → ((q : ℕ) → q ≢ s → length (came_to (flow_of engine) next.now q) ≡ length (came_to (flow_of engine) story.now q))
    → (q : ℕ) → get_or items q 0 ≡ length (came_to (flow_of engine) next.now q)
counted engine records arrivals story at s o items e next one others q =
    let flow = flow_of engine in
    let came = arrivals.came.items in
    let n = came_in arrivals s + 1 in
    let there : s < length flow.nodes = input-there flow s ((story-open flow story at.of_story).input s (sym (at.opens s) ∙ o)) in
    let each : length came ≡ length flow.nodes = at.one_each in
    let is : items ≡ set came s n = e ∙ ap (λ m. set came s m) (capped engine records arrivals story at s o) in
    ap (λ ns. get_or ns q 0) is ∙ elim (cases_eq q s) [
      | inl same ↦ subst (λ p. get_or (set came s n) p 0 ≡ length (came_to flow next.now p)) (sym same)
          (get_or-set_same came s n 0 (omega arith) ∙ ap (λ m. m + 1) (at.counts s) ∙ sym one)
      | inr d ↦ get_or-set_other came s q n 0 d ∙ at.counts q ∙ sym (others q d)
    ]

-- ---- a source is fed

-- an engine that can be fed is, where there is room
pub feeds-there : (engine : Engine) (records : Option Records) (arrivals : Arrivals) (story : Story) (s : ℕ) → IsAt engine records arrivals story
    → is_open_in arrivals s ≡ true → came_in arrivals s < 2 ^ 20 - 1 → can_feed (running_of engine) s ≡ true
feeds-there engine records arrivals story s at is_open room =
    let here = at.counts s in
    can-be-fed (flow_of engine) story s (running_of engine) records at.of_story (sym (at.opens s) ∙ is_open) (omega arith) at.stands

pub fed-by : (old new : Engine) (records : Option Records) (before after : Arrivals) (story : Story) (s : ℕ) (recs : List Rec)
    → IsAt old records before story → IsFedBatch s recs (running_of old) (running_of new) → is_open_in before s ≡ true
    → came_in before s < 2 ^ 20 - 1 → IsBatch recs → after.opened ≡ before.opened
    → after.came.items ≡ set before.came.items s (min (came_in before s + 1) (2 ^ 64 - 1)) → IsAt new records after (after_feed s recs story)
fed-by old new records before after story s recs at fed is_open room batch same count =
    let flow = flow_of old in
    let k = at.of_story in
    let o : story.now.opened s ≡ true = sym (at.opens s) ∙ is_open in
    let here = at.counts s in
    let all = came-open flow story k s o in
    let well = feeds-well flow story k s recs o batch (omega arith) in
    let there = sym fed.stays.of_flow in
    let counts = counted old records before story at s is_open after.came.items count (after_feed s recs story) (count-fed flow story k s recs o)
    (count-else flow story k s recs o) in
    record {
      of_story = subst (λ f. IsStory f (after_feed s recs story)) there (story-fed flow story k s recs o well);
      stands = subst (λ f. StandsFor (system_now f (after_feed s recs story)) new records story.now.state) there
          (fed-batches_stand flow story s recs (running_of old) (running_of new) records k o fed well at.stands);
      opens = λ q. ap (λ (v : Vec Bool Global). get_or v.items q false) same ∙ at.opens q;
      counts = λ q. counts q ∙ ap (λ f. length (came_to f (after_feed s recs story).now q)) there;
      one_each = ap length count ∙ length-set before.came.items s (min (came_in before s + 1) (2 ^ 64 - 1)) ∙ at.one_each
          ∙ ap (λ (f : Dataflow). length f.nodes) there;
    }

-- where the engine stands where it stood, the session is where it was
pub at-stays : (old new : Engine) (before after : Option Records) (arrivals : Arrivals) (story : Story) → IsAt old before arrivals story
    → flow_of new ≡ flow_of old → StandsFor (system_now (flow_of old) story) new after story.now.state → IsAt new after arrivals story
at-stays old new before after arrivals story at same stands =
    let there = sym same in
    record {
      of_story = subst (λ f. IsStory f story) there at.of_story;
      stands = subst (λ f. StandsFor (system_now f story) new after story.now.state) there stands;
      opens = at.opens;
      counts = λ s. at.counts s ∙ ap (λ f. length (came_to f story.now s)) there;
      one_each = at.one_each ∙ ap (λ (f : Dataflow). length f.nodes) there;
    }

-- ---- a source is closed

-- what is open has a place
pub open-there : (opened : List Bool) (s : ℕ) → get_or opened s false ≡ true → s < length opened
open-there opened s is_open = elim (cases_lt s (length opened)) [
  | inl l ↦ l
  | inr ge ↦ absurd (false≢true (sym (get_or_past opened s false ge) ∙ is_open))
]

-- the empty batch that is then its last counts
count-closed : (flow : Dataflow) (story : Story) → IsStory flow story → (s : ℕ) → story.now.opened s ≡ true
    → length (came_to flow (after_close s story).now s) ≡ length (came_to flow story.now s) + 1
unfolding came_while
count-closed flow story k s o =
    ap (λ b. length (came_while b (batches_of (system_now flow story) s))) (closes-at s story.now.opened).here ∙ came-open flow story k s o

count-left : (flow : Dataflow) (story : Story) (s q : ℕ) → q ≢ s
    → length (came_to flow (after_close s story).now q) ≡ length (came_to flow story.now q)
unfolding came_while
count-left flow story s q d =
    ap (λ b. length (came_while b (batches_of (system_now flow story) q))) ((closes-at s story.now.opened).others q d)

pub closed-by : (engine : Engine) (records : Option Records) (before after : Arrivals) (story : Story) (s : ℕ) → IsAt engine records before story
    → is_open_in before s ≡ true → after.opened.items ≡ set before.opened.items s false
    → after.came.items ≡ set before.came.items s (min (came_in before s + 1) (2 ^ 64 - 1)) → IsAt engine records after (after_close s story)
closed-by engine records before after story s at is_open shut count =
    let flow = flow_of engine in
    let k = at.of_story in
    let o : story.now.opened s ≡ true = sym (at.opens s) ∙ is_open in
    let left = closes-at s story.now.opened in
    let opened = before.opened.items in
    record {
      of_story = story-closed flow story k s o;
      stands = at.stands;
      opens = λ q. ap (λ bs. get_or bs q false) shut ∙ elim (cases_eq q s) [
        | inl e ↦ subst (λ p. get_or (set opened s false) p false ≡ open_but s story.now.opened p) (sym e)
            (get_or-set_same opened s false false (open-there opened s is_open) ∙ sym left.here)
        | inr d ↦ get_or-set_other opened s q false false d ∙ at.opens q ∙ sym (left.others q d)
      ];
      counts = counted engine records before story at s is_open after.came.items count (after_close s story) (count-closed flow story k s o)
          (count-left flow story s);
      one_each = ap length count ∙ length-set before.came.items s (min (came_in before s + 1) (2 ^ 64 - 1)) ∙ at.one_each;
    }

-- ---- what calls tell

-- what can be fed is
pub not-fed : (b can : Bool) → b ≡ false → b ≡ can → can ≡ true → ⊥
not-fed b can n e c = false≢true (sym n ∙ e ∙ c)

pub closes-to : {E : Type 0} (engine : Engine) (records : Option Records) (before after : Arrivals) (s : ℕ) (result : Result ℕ E)
    → IfOk result (λ epoch. is_open_in before s ≡ true) → IfOk result (λ epoch. after.opened.items ≡ set before.opened.items s false)
    → IfOk result (λ epoch. after.came.items ≡ set before.came.items s (min (came_in before s + 1) (2 ^ 64 - 1)))
    → (story : Story) → IsAt engine records before story → IfOk result (λ epoch. IsAt engine records after (after_close s story))
closes-to engine records before after s (Ok epoch) o shut count story at = closed-by engine records before after story s at o shut count
closes-to engine records before after s (Err e) o shut count story at = tt

-- what leads from each story to one, or leaves all as it was, leads from some to some
pub to-some : {E : Type 0} (old new : Engine) (records : Option Records) (before after : Arrivals) (result : Result ℕ E) (next : Story → Story)
    → ((story : Story) → IsAt old records before story → IfOk result (λ epoch. IsAt new records after (next story)))
    → (IsErr result → new ≡ old) → (IsErr result → after ≡ before) → was_refused new ≡ was_refused old → IsAtSome old records before
    → IsAtSome new records after
to-some old new records before after (Ok epoch) next leads same came live at = λ l some.
    let r = at (sym live ∙ l) some in
    (next r.0, leads r.0 r.1)
to-some old new records before after (Err e) next leads same came live at = λ l some.
    let r = at (sym live ∙ l) some in (
      r.0,
      subst (λ engine. IsAt engine records after r.0) (sym (same refl))
          (subst (λ arrivals. IsAt old records arrivals r.0) (sym (came refl)) r.1),
    )

-- an engine of the batches with which a session opens
pub engine-opened : {E : Type 0} (flow : Dataflow) (batches : List (List (List Rec))) (records : Option Records) (result : Result Engine E)
    → IsWellFormed flow → batches ≡ opening_batches flow
    → IfOk result (λ engine. StandsFor (with_batches flow batches) engine records (first_state (with_batches flow batches)))
    → IfOk result (λ engine. flow_of engine ≡ flow) → IfOk result (λ engine. IsOpened flow engine records)
engine-opened flow batches records (Ok engine) well given stands same = record {
  well_formed = well;
  of_flow = same;
  stands = subst (λ bs. StandsFor (with_batches flow bs) engine records (first_state (with_batches flow bs))) given stands;
}
engine-opened flow batches records (Err e) well given stands same = tt
