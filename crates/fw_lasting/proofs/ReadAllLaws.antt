-- What is read of all sources.
use Rattle.std.proofs.Common.{◌≡◌, ◌≢◌, ℕ, zero, suc, ◌+◌, ◌<◌, ◌≤◌, ◌^◌, Bool, true, false, ◌==◌, cond, List, [], ◌∷◌, ◌++◌, length, get_or, Option, Some, None, Result, Ok, Err, refl, sym, ap, subst, ◌∙◌, inl, inr, arith}
use Rattle.std.specs.Prelude.{IfOk, IsSome}
use Rattle.std.specs.List.{AllByRecursion}
use Rattle.std.proofs.lemmas.Bool.{cases_Bool, cases_eq, cases_lt, eq-eqb, ne_eqb, false≢true}
use Rattle.std.proofs.lemmas.List.{append-nil, get_or_append_left, get_or_past, length-append}
use Rattle.fw_bag.specs.declared.rec.Rec.{Rec}
use Rattle.fw_border.specs.Sources.{without_last}
use Rattle.fw_came.specs.Source.{HoldsSource}
use Rattle.fw_feeding.specs.Feeding.{with_batches, Feeds, Closes}
use Rattle.fw_feeding.specs.FedRuns.{Action, feed, close, close_with, do_step, FedMachine, FedRun}
use Rattle.fw_flow.specs.Dataflow.{Dataflow, batches_of, batches_of_nodes, is_input_kind, kind_of}
use Rattle.fw_flow.specs.WellFormed.{IsWellFormed}
use Rattle.fw_keep.specs.Stored.{Records}
use Rattle.fw_lines.specs.Batches.{IsBatch, batches_at}
use Rattle.fw_model.specs.Steps.{Effect}
use Rattle.fw_outside.specs.Outside.{StayIfTold}
use Rattle.fw_root.specs.OfFlow.{Given}
use Rattle.fw_session.specs.declared.arrivals.Arrivals.{Arrivals}
use Rattle.fw_session.specs.Session.{came_in, is_open_in}
use Rattle.fw_session.specs.Story.{Story, IsStory, system_now, opening, came_to}
use Rattle.fw_session.proofs.StoryLaws.{input-there, one-input, story-open}
use Rattle.fw_lasting.specs.declared.source.CameTo.{CameTo}
use Rattle.fw_lasting.specs.KeptStory.{HoldsWhatCame}
use Rattle.fw_lasting.specs.Reading.{AddsTo, ForStory, ForWhatCame, ForWhatCameAt, HasReadNode, IsReadBefore, IsReadTo, IsWhatCame, MayHaveCome}
use Rattle.fw_lasting.proofs.CameLaws.{came-few}
use Rattle.fw_lasting.proofs.StartLaws.{read-those}

-- ---- each input has a batch

-- of each input there is a batch
abbrev HaveSome : Dataflow → FedMachine → Type 0
HaveSome flow now = (p : ℕ) → is_input_kind (kind_of flow p) ≡ true → 0 < length (batches_of (with_batches flow now.batches) p)

longer : (came rest : List (List Rec)) (x : List Rec) → 0 < length (came ++ x ∷ rest)
longer came rest x = omega (arith, length-append came (x ∷ rest))

fed-some : (flow : Dataflow) (now : FedMachine) (left : ℕ → Bool) → HaveSome flow now → (s : ℕ) (recs : List Rec) (rest next : List (List (List Rec)))
    → (ends : List (List Rec)) → Feeds flow s recs ends now.batches next → HaveSome flow (record now { opened = left; batches = next })
fed-some flow now left h s recs rest next ends f = λ p i. elim (cases_eq p s) [
  | inl e ↦ subst (λ q. 0 < length (batches_of (with_batches flow next) q)) (sym e)
      (subst (λ bs. 0 < length bs) (sym f.here.after) (longer f.here.came ends recs))
  | inr n ↦ subst (λ bs. 0 < length bs) (sym (f.others p n)) (h p i)
]

run-some : (flow : Dataflow) (now : FedMachine) → HaveSome flow now → (actions : List Action) (effects : List Effect) (last : FedMachine)
    → FedRun flow now actions effects last → HaveSome flow last
run-some flow now h [] [] last k = subst (HaveSome flow) (sym k) h
run-some flow now h [] (effect ∷ effects) last k = absurd k
run-some flow now h (feed s recs ∷ actions) effects last k =
    run-some flow (record now { batches = k.1 }) (fed-some flow now now.opened h s recs [] k.1 ([] ∷ []) k.2) actions effects last k.3
run-some flow now h (close s ∷ actions) effects last k = run-some flow (record now { opened = k.1 }) h actions effects last k.3
run-some flow now h (close_with s recs ∷ actions) effects last k =
    run-some flow (record now { opened = k.3; batches = k.1 }) (fed-some flow now k.3 h s recs [] k.1 [] k.2) actions effects last k.5
run-some flow now h (do_step step ∷ actions) [] last k = absurd k
run-some flow now h (do_step step ∷ actions) (effect ∷ effects) last k = run-some flow (record now { state = k.0 }) h actions effects last k.3

story-some : (flow : Dataflow) (story : Story) → IsStory flow story → HaveSome flow story.now
story-some flow story k =
    run-some flow (opening flow).now (λ p i. subst (λ bs. 0 < length bs) (sym (one-input flow p i)) (omega arith)) story.actions story.effects story.now
    k.run

-- ---- what came to an input may have come

each-without : (bs : List (List Rec)) → AllByRecursion IsBatch bs → AllByRecursion IsBatch (without_last bs)
each-without [] a = tt
each-without (b ∷ []) a = tt
each-without (b ∷ c ∷ bs) a = (a.0, each-without (c ∷ bs) a.1)

pub may-have : (flow : Dataflow) (story : Story) → IsStory flow story → (s : ℕ) → is_input_kind (kind_of flow s) ≡ true
    → MayHaveCome (came_to flow story.now s) (story.now.opened s)
may-have flow story k s i =
    let bs = batches_of (system_now flow story) s in
    record {
      batches = batches (story.now.opened s) bs (k.well_formed.batches s);
      few = came-few flow story k s;
      room = λ o. room (story.now.opened s) bs o ((story-open flow story k).last s o) (k.well_formed.few s);
      last = λ c. last (story.now.opened s) bs c (story-some flow story k s i);
    }
  where
    batches : (b : Bool) (bs : List (List Rec)) → AllByRecursion IsBatch bs → AllByRecursion IsBatch (cond b (without_last bs) bs)
    batches true bs a = each-without bs a
    batches false bs a = a

    room : (b : Bool) (bs : List (List Rec)) → b ≡ true → bs ≡ without_last bs ++ [] ∷ [] → length bs ≤ 2 ^ 20 → length (cond b (without_last bs) bs) < 2 ^ 20
    room true bs o e few = let l = ap length e ∙ length-append (without_last bs) ([] ∷ []) in omega (arith, l, few)
    room false bs o e few = absurd (false≢true o)

    last : (b : Bool) (bs : List (List Rec)) → b ≡ false → 0 < length bs → 0 < length (cond b (without_last bs) bs)
    last true bs c some = absurd (false≢true (sym c))
    last false bs c some = some

-- to a node that is no input nothing came, and it is no source
pub none-came : (flow : Dataflow) (story : Story) → IsStory flow story → (p : ℕ) → is_input_kind (kind_of flow p) ≡ false
    → (came_to flow story.now p ≡ []) × (story.now.opened p ≡ false)
none-came flow story k p i =
    let shut : story.now.opened p ≡ false = elim (cases_Bool (story.now.opened p)) [
      | inl o ↦ absurd (false≢true (sym i ∙ (story-open flow story k).input p o))
      | inr c ↦ c
    ] in
    (ap (λ b. cond b (without_last (batches_of (system_now flow story) p)) (batches_of (system_now flow story) p)) shut ∙ k.well_formed.of_inputs p i, shut)

-- ---- the way through the nodes

pub before-none : (flow : Dataflow) (records : Option Records) (fails : ℕ) (given : Given) (opened : List Bool) (came : List ℕ) → given ≡ [] → opened ≡ []
    → came ≡ [] → IsReadBefore flow 0 records records fails fails given opened came
before-none flow records fails given opened came g o c = record {
  stays = λ told. refl;
  same = refl;
  many_opened = ap length o;
  many_came = ap length c;
  read = λ story held k told h some q l. absurd (omega (arith, l));
  behind = λ story held k told h some q l. ap (λ bs. batches_at bs q) g;
}

-- what is told was told before
stays-then : (before mid after : Option Records) → StayIfTold before mid → StayIfTold mid after → StayIfTold before after
stays-then before mid after one two = λ told. let e = two told in e ∙ one (subst (λ r. IsSome r) e told)

-- one node more is read
node-read : (flow : Dataflow) (story : Story) → IsStory flow story → (place : ℕ) (old new : Given) (opened : List Bool) (came : List ℕ)
    (some : List (List Rec)) (is_open : Bool) (read : CameTo) → length opened ≡ place → length came ≡ place → some ≡ came_to flow story.now place
    → is_open ≡ story.now.opened place → batches_at old place ≡ [] → IsReadTo place some is_open read old new
    → HasReadNode flow story place new (opened ++ read.open ∷ []) (came ++ read.count ∷ [])
node-read flow story k place old new opened came some is_open read lo lc e o none r = record {
  batches = r.added place ∙ ap (λ b. cond b (batches_at old place ++ (some ++ cond is_open ([] ∷ []) [])) (batches_at old place)) (eq-eqb place place refl)
      ∙ ap (λ bs. bs ++ (some ++ cond is_open ([] ∷ []) [])) none
      ∙ ap (λ bs. bs ++ cond is_open ([] ∷ []) []) e ∙ ap (λ b. came_to flow story.now place ++ cond b ([] ∷ []) []) o;
  is_open = at-end opened place read.open false lo ∙ r.is_open ∙ o;
  count = at-end came place read.count 0 lc ∙ r.count ∙ ap length e;
}
  where
    at-end : {X : Type 0} (xs : List X) (n : ℕ) (x y : X) → length xs ≡ n → get_or (xs ++ x ∷ []) n y ≡ x
    at-end [] zero x y l = refl
    at-end [] (suc n) x y l = absurd (omega (arith, l))
    at-end (z ∷ xs) zero x y l = absurd (omega (arith, l))
    at-end (z ∷ xs) (suc n) x y l = at-end xs n x y (omega (arith, l))

-- and what was read before is as it was
node-stays : (flow : Dataflow) (story : Story) (place q : ℕ) (old new : Given) (opened : List Bool) (came : List ℕ) (more : List (List Rec))
    (is_open : Bool) (count : ℕ) → length opened ≡ place → length came ≡ place → q < place → AddsTo place old new more
    → HasReadNode flow story q old opened came → HasReadNode flow story q new (opened ++ is_open ∷ []) (came ++ count ∷ [])
node-stays flow story place q old new opened came more is_open count lo lc l a h = record {
  batches = a q ∙ ap (λ b. cond b (batches_at old q ++ more) (batches_at old q)) (ne_eqb place q (λ e. omega (arith, e, l))) ∙ h.batches;
  is_open = get_or_append_left opened (is_open ∷ []) false q (omega (arith, lo, l)) ∙ h.is_open;
  count = get_or_append_left came (count ∷ []) 0 q (omega (arith, lc, l)) ∙ h.count;
}

pub before-more : (flow : Dataflow) (place : ℕ) (before mid after : Option Records) (failed fails last : ℕ) (old new : Given) (opened : List Bool)
    (came : List ℕ) (read : CameTo) → IsReadBefore flow place before mid failed fails old opened came → StayIfTold mid after → last ≡ fails
    → ForWhatCameAt flow place mid after (λ some is_open. IsReadTo place some is_open read old new)
    → IsReadBefore flow (place + 1) before after failed last new (opened ++ read.open ∷ []) (came ++ read.count ∷ [])
before-more flow place before mid after failed fails last old new opened came read b stay same node =
    let was : IsSome after → IsSome mid = λ told. subst (λ r. IsSome r) (stay told) told in
    let now : (story : Story) (held : Records) → IsStory flow story → before ≡ Some held → HoldsWhatCame flow story.now held → IsSome after
    → IsReadTo place (came_to flow story.now place) (story.now.opened place) read old new =
    λ story held k told h some. elim (cases_Bool (is_input_kind (kind_of flow place))) [
      | inl i ↦ node.0 i (came_to flow story.now place) (story.now.opened place) held (may-have flow story k place i) (b.stays (was some) ∙ told) (h place i) some
      | inr n ↦
          let none = none-came flow story k place n in
          subst (λ cs. IsReadTo place cs (story.now.opened place) read old new) (sym none.0)
          (subst (λ o. IsReadTo place [] o read old new) (sym none.1) (node.1 n))
    ] in
    record {
      stays = stays-then before mid after b.stays stay;
      same = same ∙ b.same;
      many_opened = let l = length-append opened (read.open ∷ []) in omega (arith, l, b.many_opened);
      many_came = let l = length-append came (read.count ∷ []) in omega (arith, l, b.many_came);
      read = λ story held k told h some q l. elim (cases_eq q place) [
        | inl e ↦ subst (λ p. HasReadNode flow story p new (opened ++ read.open ∷ []) (came ++ read.count ∷ [])) (sym e)
            (node-read flow story k place old new opened came (came_to flow story.now place) (story.now.opened place) read b.many_opened b.many_came refl refl
            (b.behind story held k told h (was some) place (omega arith)) (now story held k told h some))
        | inr n ↦ node-stays flow story place q old new opened came (came_to flow story.now place ++ cond (story.now.opened place) ([] ∷ []) []) read.open read.count
            b.many_opened b.many_came (omega (arith, l, n)) (now story held k told h some).added (b.read story held k told h (was some) q (omega (arith, l, n)))
      ];
      behind = λ story held k told h some q l.
          (now story held k told h some).added q
          ∙ ap (λ t. cond t (batches_at old q ++ (came_to flow story.now place ++ cond (story.now.opened place) ([] ∷ []) [])) (batches_at old q))
          (ne_eqb place q (λ e. omega (arith, e, l)))
          ∙ b.behind story held k told h (was some) q (omega (arith, l));
    }

-- where the batches of a node are none, no story has them
pub before-broken : (flow : Dataflow) (place : ℕ) (before mid after : Option Records) (failed fails : ℕ) (given : Given) (opened : List Bool)
    (came : List ℕ) → IsReadBefore flow place before mid failed fails given opened came → StayIfTold mid after
    → ForWhatCameAt flow place mid after (λ some is_open. ⊥) → ForStory flow before after (λ story. ⊥)
before-broken flow place before mid after failed fails given opened came b stay node = λ story held k told h some.
    let was : IsSome mid = subst (λ r. IsSome r) (stay some) some in
    elim (cases_Bool (is_input_kind (kind_of flow place))) [
      | inl i ↦ node.0 i (came_to flow story.now place) (story.now.opened place) held (may-have flow story k place i) (b.stays was ∙ told) (h place i) some
      | inr n ↦ node.1 n
    ]

-- ---- the end

pub before-all : (flow : Dataflow) (place : ℕ) (before after : Option Records) (failed fails : ℕ) (given : Given) (arrivals : Arrivals)
    → place ≡ length flow.nodes → IsReadBefore flow place before after failed fails given arrivals.opened.items arrivals.came.items
    → ForStory flow before after (λ story. IsWhatCame flow story given arrivals)
before-all flow place before after failed fails given arrivals all b = λ story held k told h some.
    let each : (q : ℕ) → q < length flow.nodes → HasReadNode flow story q given arrivals.opened.items arrivals.came.items =
    λ q l. b.read story held k told h some q (omega (arith, all, l)) in
    let past : (q : ℕ) → length flow.nodes ≤ q → (came_to flow story.now q ≡ []) × (story.now.opened q ≡ false) =
    λ q ge. none-came flow story k q (elim (cases_Bool (is_input_kind (kind_of flow q))) [
      | inl i ↦ (let there = input-there flow q i in absurd (omega (arith, there, ge)))
      | inr n ↦ n
    ]) in
    record {
      batches = read-those flow story k given (λ q l. (each q l).batches);
      opens = λ q. elim (cases_lt q (length flow.nodes)) [
        | inl l ↦ (each q l).is_open
        | inr ge ↦ get_or_past arrivals.opened.items q false (omega (arith, b.many_opened, all, ge)) ∙ sym (past q ge).1
      ];
      counts = λ q. elim (cases_lt q (length flow.nodes)) [
        | inl l ↦ (each q l).count
        | inr ge ↦ get_or_past arrivals.came.items q 0 (omega (arith, b.many_came, all, ge)) ∙ sym (ap length (past q ge).0)
      ];
      one_each = b.many_came ∙ all;
    }
