-- How a story goes on, and what is true of each.
use Rattle.std.proofs.Common.{◌≡◌, ◌≢◌, ℕ, ◌+◌, ◌<◌, ◌≤◌, ◌^◌, Bool, true, false, ◌==◌, cond, List, [], ◌∷◌, ◌++◌, length, map, get_or, refl, sym, ap, subst, ◌∙◌, inl, inr, arith}
use Rattle.std.specs.List.{AllByRecursion, range_with_len}
use Rattle.std.proofs.lemmas.Bool.{cases_eq, cases_lt, false≢true, eqb-true, ne_eqb}
use Rattle.std.proofs.lemmas.List.{append-nil, append_assoc, length-append, length-set, get_or-set_same, get_or-set_other, get_or_past}
use Rattle.std.proofs.lemmas.List.FromFn.{get_or-map-range_with_len, length-map-range_with_len}
use Rattle.fw_lemmas.proofs.Numbers.{eqb-self}
use Rattle.fw_lemmas.proofs.Each.{each-append, each-prefix, each_of-map}
use Rattle.fw_bag.specs.declared.rec.Rec.{Rec}
use Rattle.fw_lines.specs.Batches.{IsBatch}
use Rattle.fw_flow.specs.declared.step.Step.{Step}
use Rattle.fw_flow.specs.declared.node.Node.{Node}
use Rattle.fw_flow.specs.Dataflow.{Dataflow, idle_node, kind_of, is_input_kind, batches_of}
use Rattle.fw_flow.specs.WellFormed.{IsWellFormed, IsWellFormedSystem}
use Rattle.fw_model.specs.Acknowledgements.{IsDenoted}
use Rattle.fw_model.specs.Machine.{Machine}
use Rattle.fw_model.specs.Steps.{Effect, did, LeadsTo}
use Rattle.fw_model.proofs.RecoveryLaws.{acknowledged-denoted}
use Rattle.fw_feeding.specs.Feeding.{with_batches, HaveLast, TakesLastPlace, Feeds, Closes}
use Rattle.fw_border.specs.Sources.{without_last}
use Rattle.fw_feeding.specs.FedRuns.{Action, feed, close, close_with, do_step, steps_among, FedMachine, FedRun}
use Rattle.fw_feeding.specs.OpenRuns.{HoldsBack}
use Rattle.fw_feeding.proofs.FedRunLaws.{fed-runs_are_runs}
use Rattle.fw_session.specs.Story.{Story, IsStory, system_now, opening, first_batches, opening_batches, came_to, given_to, fed_batches, open_but, after_feed, after_close, after_step}
use Rattle.fw_session.specs.LawsOfStories.{StoriesAreRuns, StoriesGoOn, StoriesHaveWhatCame, StoriesShowWhatIsDenoted}

-- ---- more is done behind what was

pub run-behind : (flow : Dataflow) (now : FedMachine) (actions : List Action) (effects : List Effect) (between : FedMachine)
    → FedRun flow now actions effects between → (more : List Action) (also : List Effect) (last : FedMachine) → FedRun flow between more also last
    → FedRun flow now (actions ++ more) (effects ++ also) last
run-behind flow now [] [] between k more also last r = subst (λ m. FedRun flow m more also last) k r
run-behind flow now [] (effect ∷ effects) between k more also last r = absurd k
run-behind flow now (feed s recs ∷ actions) effects between k more also last r =
    (k.0, k.1, k.2, run-behind flow (record now { batches = k.1 }) actions effects between k.3 more also last r)
run-behind flow now (close s ∷ actions) effects between k more also last r =
    (k.0, k.1, k.2, run-behind flow (record now { opened = k.1 }) actions effects between k.3 more also last r)
run-behind flow now (close_with s recs ∷ actions) effects between k more also last r =
    (k.0, k.1, k.2, k.3, k.4, run-behind flow (record now { opened = k.3; batches = k.1 }) actions effects between k.5 more also last r)
run-behind flow now (do_step step ∷ actions) [] between k more also last r = absurd k
run-behind flow now (do_step step ∷ actions) (effect ∷ effects) between k more also last r =
    (k.0, k.1, k.2, run-behind flow (record now { state = k.0 }) actions effects between k.3 more also last r)

-- ---- the last batch of an open source

last-off : {X : Type 0} (xs : List X) (x : X) → without_last (xs ++ x ∷ []) ≡ xs
last-off [] x = refl
last-off (y ∷ []) x = refl
last-off (y ∷ z ∷ xs) x = ap (λ ws. y ∷ ws) (last-off (z ∷ xs) x)

-- these batches end in an empty one
EndsEmpty : List (List Rec) → Type 0
EndsEmpty bs = bs ≡ without_last bs ++ [] ∷ []

ends-empty : (came bs : List (List Rec)) → bs ≡ came ++ [] ∷ [] → EndsEmpty bs
unfolding EndsEmpty
ends-empty came bs e = e ∙ ap (λ xs. xs ++ [] ∷ []) (sym (ap without_last e ∙ last-off came []))

-- each source that is open is an input, and its batches end in an empty one
pub record AreOpen (flow : Dataflow) (now : FedMachine) : Type 0 where
  pub input : (s : ℕ) → now.opened s ≡ true → is_input_kind (kind_of flow s) ≡ true
  pub last : (s : ℕ) → now.opened s ≡ true
      → batches_of (with_batches flow now.batches) s ≡ without_last (batches_of (with_batches flow now.batches) s) ++ [] ∷ []

fed-open : (flow : Dataflow) (now : FedMachine) → AreOpen flow now → (s : ℕ) (recs : List Rec) (next : List (List (List Rec)))
    → Feeds flow s recs ([] ∷ []) now.batches next → AreOpen flow (record now { batches = next })
unfolding EndsEmpty
fed-open flow now a s recs next f = record {
  input = a.input;
  last = λ q o. elim (cases_eq q s) [
    | inl e ↦ subst (λ p. EndsEmpty (batches_of (with_batches flow next) p)) (sym e)
        (ends-empty (f.here.came ++ recs ∷ []) (batches_of (with_batches flow next) s)
        (f.here.after ∙ sym (append_assoc f.here.came (recs ∷ []) ([] ∷ []))))
    | inr n ↦ subst EndsEmpty (sym (f.others q n)) (a.last q o)
  ];
}

was-open : (s : ℕ) (opened left : ℕ → Bool) → Closes s opened left → (q : ℕ) → left q ≡ true → opened q ≡ true
was-open s opened left c q o = elim (cases_eq q s) [
  | inl e ↦ absurd (false≢true (sym c.here ∙ ap left (sym e) ∙ o))
  | inr n ↦ sym (c.others q n) ∙ o
]

closed-open : (flow : Dataflow) (now : FedMachine) → AreOpen flow now → (s : ℕ) (left : ℕ → Bool) → Closes s now.opened left
    → AreOpen flow (record now { opened = left })
closed-open flow now a s left c = record {
  input = λ q o. a.input q (was-open s now.opened left c q o);
  last = λ q o. a.last q (was-open s now.opened left c q o);
}

filled-open : (flow : Dataflow) (now : FedMachine) → AreOpen flow now → (s : ℕ) (recs : List Rec) (next : List (List (List Rec)))
    → Feeds flow s recs [] now.batches next → (left : ℕ → Bool) → Closes s now.opened left → AreOpen flow (record now { opened = left; batches = next })
unfolding EndsEmpty
filled-open flow now a s recs next f left c = record {
  input = λ q o. a.input q (was-open s now.opened left c q o);
  last = λ q o. elim (cases_eq q s) [
    | inl e ↦ absurd (false≢true (sym c.here ∙ ap left (sym e) ∙ o))
    | inr n ↦ subst EndsEmpty (sym (f.others q n)) (a.last q (was-open s now.opened left c q o))
  ];
}

run-open : (flow : Dataflow) (now : FedMachine) → AreOpen flow now → (actions : List Action) (effects : List Effect) (last : FedMachine)
    → FedRun flow now actions effects last → AreOpen flow last
run-open flow now a [] [] last k = subst (AreOpen flow) (sym k) a
run-open flow now a [] (effect ∷ effects) last k = absurd k
run-open flow now a (feed s recs ∷ actions) effects last k =
    run-open flow (record now { batches = k.1 }) (fed-open flow now a s recs k.1 k.2) actions effects last k.3
run-open flow now a (close s ∷ actions) effects last k =
    run-open flow (record now { opened = k.1 }) (closed-open flow now a s k.1 k.2) actions effects last k.3
run-open flow now a (close_with s recs ∷ actions) effects last k =
    run-open flow (record now { opened = k.3; batches = k.1 }) (filled-open flow now a s recs k.1 k.2 k.3 k.4) actions effects last k.5
run-open flow now a (do_step step ∷ actions) [] last k = absurd k
run-open flow now a (do_step step ∷ actions) (effect ∷ effects) last k =
    run-open flow (record now { state = k.0 }) (record { input = a.input; last = a.last }) actions effects last k.3

-- ---- the opening

-- what is true of no batches and of those with which a node opens is true of those of now
at_opening : (Q : List (List Rec) → Type 0) (flow : Dataflow) (p : ℕ) → (length flow.nodes ≤ p → Q [])
    → (p < length flow.nodes → Q (first_batches flow p)) → Q (batches_of (with_batches flow (opening_batches flow)) p)
unfolding batches_of
at_opening Q flow p none some =
    let n = length flow.nodes in
    elim (cases_lt p n) [
      | inl lt ↦ subst Q (sym (get_or-map-range_with_len (first_batches flow) 0 n p p [] lt (omega arith))) (some lt)
      | inr ge ↦ subst Q (sym (get_or_past (map (first_batches flow) (range_with_len 0 n)) p [] (omega (arith, ge, length-map-range_with_len (first_batches flow) 0 n)))) (none ge)
    ]

-- past the last node there is no input
pub input-there : (flow : Dataflow) (p : ℕ) → is_input_kind (kind_of flow p) ≡ true → p < length flow.nodes
unfolding kind_of
input-there flow p k = elim (cases_lt p (length flow.nodes)) [
  | inl l ↦ l
  | inr l ↦ absurd (false≢true (sym (ap (λ (n : Node). is_input_kind n.kind) (get_or_past flow.nodes p idle_node l)) ∙ k))
]

at_input : (flow : Dataflow) (p : ℕ) (b : Bool) → is_input_kind (kind_of flow p) ≡ b → first_batches flow p ≡ cond b ([] ∷ []) []
at_input flow p b e = ap (λ c. cond c ([] ∷ []) []) e

pub one-input : (flow : Dataflow) (p : ℕ) → is_input_kind (kind_of flow p) ≡ true → batches_of (with_batches flow (opening_batches flow)) p ≡ [] ∷ []
one-input flow p k =
    at_opening (λ bs. bs ≡ [] ∷ []) flow p (λ ge. let lt = input-there flow p k in absurd (omega arith)) (λ lt. at_input flow p true k)

pub opening-open : (flow : Dataflow) → AreOpen flow (opening flow).now
unfolding EndsEmpty
opening-open flow = record {
  input = λ s o. o;
  last = λ s o. ends-empty [] (batches_of (with_batches flow (opening_batches flow)) s) (one-input flow s o);
}

pub none-else : (flow : Dataflow) (p : ℕ) → is_input_kind (kind_of flow p) ≡ false → batches_of (with_batches flow (opening_batches flow)) p ≡ []
none-else flow p k = at_opening (λ bs. bs ≡ []) flow p (λ ge. refl) (λ lt. at_input flow p false k)

one-at-most : (b : Bool) (bs : List (List Rec)) → bs ≡ cond b ([] ∷ []) [] → (length bs ≤ 2 ^ 20) × AllByRecursion IsBatch bs
one-at-most true bs e = subst (λ xs. (length xs ≤ 2 ^ 20) × AllByRecursion IsBatch xs) (sym e) (omega arith, (record { recs = tt; ascending = tt }, tt))
one-at-most false bs e = subst (λ xs. (length xs ≤ 2 ^ 20) × AllByRecursion IsBatch xs) (sym e) (omega arith, tt)

opening-one : (flow : Dataflow) (p : ℕ) → (length (batches_of (with_batches flow (opening_batches flow)) p) ≤ 2 ^ 20)
    × AllByRecursion IsBatch (batches_of (with_batches flow (opening_batches flow)) p)
opening-one flow p =
    at_opening (λ bs. (length bs ≤ 2 ^ 20) × AllByRecursion IsBatch bs) flow p (λ ge. (omega arith, tt))
    (λ lt. one-at-most (is_input_kind (kind_of flow p)) (first_batches flow p) (at_input flow p (is_input_kind (kind_of flow p)) refl))

pub opening-well : (flow : Dataflow) → IsWellFormed flow → IsWellFormedSystem (with_batches flow (opening_batches flow))
opening-well flow w = record {
  flow = w;
  one_each = length-map-range_with_len (first_batches flow) 0 (length flow.nodes);
  of_inputs = none-else flow;
  few = λ p. (opening-one flow p).0;
  batches = λ p. (opening-one flow p).1;
}

pub opening-story : (flow : Dataflow) → IsWellFormed flow → IsStory flow (opening flow)
opening-story flow w = record { run = refl; well_formed = opening-well flow w }

pub story-open : (flow : Dataflow) (story : Story) → IsStory flow story → AreOpen flow story.now
story-open flow story k = run-open flow (opening flow).now (opening-open flow) story.actions story.effects story.now k.run

-- ---- what goes on behind a story

-- the batches that are fed are those of the session
pub feeds-batches : (flow : Dataflow) (story : Story) → IsStory flow story → (s : ℕ) (recs : List Rec) → story.now.opened s ≡ true
    → Feeds flow s recs ([] ∷ []) story.now.batches (fed_batches s recs story.now.batches)
unfolding batches_of
feeds-batches flow story k s recs o =
    let a = story-open flow story k in
    let bs = story.now.batches in
    let there : s < length flow.nodes = input-there flow s (a.input s o) in
    let many : length bs ≡ length flow.nodes = k.well_formed.one_each in
    let new = without_last (get_or bs s []) ++ recs ∷ [] ∷ [] in
    record {
      here = record {
        came = without_last (get_or bs s []);
        last = [];
        before = a.last s o;
        after = get_or-set_same bs s new [] (omega arith);
      };
      others = λ q n. get_or-set_other bs s q new [] n;
    }

each-without_last : {X : Type 0} (P : X → Type 0) (xs : List X) → AllByRecursion P xs → AllByRecursion P (without_last xs)
each-without_last P [] a = tt
each-without_last P (x ∷ []) a = tt
each-without_last P (x ∷ y ∷ xs) a = (a.0, each-without_last P (y ∷ xs) a.1)

-- they make a well-formed system, where the batch is one, and there is room for it
pub feeds-well : (flow : Dataflow) (story : Story) → IsStory flow story → (s : ℕ) (recs : List Rec) → story.now.opened s ≡ true
    → IsBatch recs → length (batches_of (system_now flow story) s) + 1 ≤ 2 ^ 20
    → IsWellFormedSystem (with_batches flow (fed_batches s recs story.now.batches))
feeds-well flow story k s recs o batch room =
    let a = story-open flow story k in
    let w = k.well_formed in
    let f = feeds-batches flow story k s recs o in
    let bs = story.now.batches in
    let next = fed_batches s recs bs in
    let old = batches_of (system_now flow story) s in
    let count : length (batches_of (with_batches flow next) s) ≡ length old + 1 =
    let m = ap length f.here.after ∙ length-append f.here.came (recs ∷ [] ∷ []) in
    let n = ap length f.here.before ∙ length-append f.here.came (f.here.last ∷ []) in omega arith in
    record {
      flow = w.flow;
      one_each = length-set bs s (without_last (get_or bs s []) ++ recs ∷ [] ∷ []) ∙ w.one_each;
      of_inputs = λ p e. elim (cases_eq p s) [
        | inl same ↦ absurd (false≢true (sym e ∙ a.input p (subst (λ q. story.now.opened q ≡ true) (sym same) o)))
        | inr n ↦ f.others p n ∙ w.of_inputs p e
      ];
      few = λ p. elim (cases_eq p s) [
        | inl same ↦ subst (λ q. length (batches_of (with_batches flow next) q) ≤ 2 ^ 20) (sym same) (omega arith)
        | inr n ↦ subst (λ xs. length xs ≤ 2 ^ 20) (sym (f.others p n)) (w.few p)
      ];
      batches = λ p. elim (cases_eq p s) [
        | inl same ↦ subst (λ q. AllByRecursion IsBatch (batches_of (with_batches flow next) q)) (sym same)
            (subst (AllByRecursion IsBatch) (sym f.here.after)
            (each-append IsBatch f.here.came (recs ∷ [] ∷ [])
            (each-prefix IsBatch f.here.came (f.here.last ∷ []) (subst (AllByRecursion IsBatch) f.here.before (w.batches s)))
            (batch, (record { recs = tt; ascending = tt }, tt))))
        | inr n ↦ subst (AllByRecursion IsBatch) (sym (f.others p n)) (w.batches p)
      ];
    }

-- one action more
pub story-fed : (flow : Dataflow) (story : Story) → IsStory flow story → (s : ℕ) (recs : List Rec) → story.now.opened s ≡ true
    → IsWellFormedSystem (with_batches flow (fed_batches s recs story.now.batches)) → IsStory flow (after_feed s recs story)
story-fed flow story k s recs o well = record {
  run = subst (λ es. FedRun flow (opening flow).now (story.actions ++ feed s recs ∷ []) es (record story.now { batches = fed_batches s recs story.now.batches }))
      (append-nil story.effects)
      (run-behind flow (opening flow).now story.actions story.effects story.now k.run (feed s recs ∷ []) []
      (record story.now { batches = fed_batches s recs story.now.batches })
      (o, fed_batches s recs story.now.batches, feeds-batches flow story k s recs o, refl));
  well_formed = well;
}

pub closes-at : (s : ℕ) (opened : ℕ → Bool) → Closes s opened (open_but s opened)
closes-at s opened = record {
  here = ap (λ b. cond b false (opened s)) (eqb-self s);
  others = λ q n. ap (λ b. cond b false (opened q)) (ne_eqb q s n);
}

pub story-closed : (flow : Dataflow) (story : Story) → IsStory flow story → (s : ℕ) → story.now.opened s ≡ true → IsStory flow (after_close s story)
story-closed flow story k s o = record {
  run = subst (λ es. FedRun flow (opening flow).now (story.actions ++ close s ∷ []) es (record story.now { opened = open_but s story.now.opened }))
      (append-nil story.effects)
      (run-behind flow (opening flow).now story.actions story.effects story.now k.run (close s ∷ []) []
      (record story.now { opened = open_but s story.now.opened })
      (o, open_but s story.now.opened, closes-at s story.now.opened, refl));
  well_formed = k.well_formed;
}

pub story-stepped : (flow : Dataflow) (story : Story) → IsStory flow story → (step : Step) (effect : Effect) (next : Machine)
    → HoldsBack story.now.opened (system_now flow story) story.now.state step → LeadsTo (system_now flow story) story.now.state step next effect
    → IsStory flow (after_step step effect next story)
story-stepped flow story k step effect next back leads = record {
  run = run-behind flow (opening flow).now story.actions story.effects story.now k.run (do_step step ∷ []) (effect ∷ [])
      (record story.now { state = next }) (next, back, leads, refl);
  well_formed = k.well_formed;
}

-- ---- the laws

pub opening-last : (flow : Dataflow) → HaveLast flow (opening flow).now.opened (opening flow).now.batches
opening-last flow s o =
    let a = opening-open flow in
    let bs = batches_of (with_batches flow (opening_batches flow)) s in
    let n = ap length (a.last s o) ∙ length-append (without_last bs) ([] ∷ []) in
    omega arith

pub stories_are_runs : StoriesAreRuns
stories_are_runs flow story k end on =
    fed-runs_are_runs flow (opening flow).now.opened (opening flow).now.batches (opening-last flow) story.actions story.effects story.now k.run end on

pub stories_denoted : StoriesShowWhatIsDenoted
stories_denoted flow story k end on well family denotes =
    let sys = with_batches flow end in
    each_of-map (IsDenoted sys family) did story.effects
    (acknowledged-denoted sys family well denotes (steps_among story.actions) (map did story.effects) story.now.state (stories_are_runs flow story k end on))

-- ---- what came

next-open : (recs : List Rec) (now next : List (List Rec)) → TakesLastPlace recs ([] ∷ []) now next → without_last next ≡ without_last now ++ recs ∷ []
next-open recs now next t =
    let was : without_last now ≡ t.came = ap without_last t.before ∙ last-off t.came t.last in
    ap without_last (t.after ∙ sym (append_assoc t.came (recs ∷ []) ([] ∷ []))) ∙ last-off (t.came ++ recs ∷ []) [] ∙ ap (λ xs. xs ++ recs ∷ []) (sym was)

next-closed : (recs : List Rec) (now next : List (List Rec)) → TakesLastPlace recs [] now next → next ≡ without_last now ++ recs ∷ []
next-closed recs now next t =
    let was : without_last now ≡ t.came = ap without_last t.before ∙ last-off t.came t.last in
    t.after ∙ ap (λ xs. xs ++ recs ∷ []) (sym was)

-- what came to node s grows by what an action of node q gives
grows : (q s : ℕ) (before after given : List (List Rec)) (x : List Rec) (rest : List (List Rec)) → (q ≡ s → after ≡ before ++ x ∷ [])
    → (s ≢ q → after ≡ before) → given ≡ after ++ rest → given ≡ before ++ cond (q == s) (x ∷ rest) rest
grows q s before after given x rest here else e = by (q == s) refl
  where
    by : (b : Bool) → (q == s) ≡ b → given ≡ before ++ cond b (x ∷ rest) rest
    by true k = e ∙ ap (λ xs. xs ++ rest) (here (eqb-true q s k)) ∙ append_assoc before (x ∷ []) rest
    by false k = e ∙ ap (λ xs. xs ++ rest) (else (λ d. false≢true (sym k ∙ ap (λ m. q == m) d ∙ eqb-self q)))

pub came-fed : (flow : Dataflow) (now : FedMachine) (next : List (List (List Rec))) (q : ℕ) (recs : List Rec) → now.opened q ≡ true
    → Feeds flow q recs ([] ∷ []) now.batches next → came_to flow (record now { batches = next }) q ≡ came_to flow now q ++ recs ∷ []
came-fed flow now next q recs o f =
    let bs = batches_of (with_batches flow now.batches) q in
    let later = batches_of (with_batches flow next) q in
    ap (λ b. cond b (without_last later) later) o ∙ next-open recs bs later f.here ∙ ap (λ b. cond b (without_last bs) bs ++ recs ∷ []) (sym o)

came-run : (flow : Dataflow) (now : FedMachine) → AreOpen flow now → (actions : List Action) (effects : List Effect) (last : FedMachine)
    → FedRun flow now actions effects last → (s : ℕ) → came_to flow last s ≡ came_to flow now s ++ given_to s actions
came-run flow now a [] [] last k s = ap (λ m. came_to flow m s) k ∙ sym (append-nil (came_to flow now s))
came-run flow now a [] (effect ∷ effects) last k s = absurd k
came-run flow now a (feed q recs ∷ actions) effects last k s =
    let later : FedMachine = record now { batches = k.1 } in
    let rest = came-run flow later (fed-open flow now a q recs k.1 k.2) actions effects last k.3 s in
    grows q s (came_to flow now s) (came_to flow later s) (came_to flow last s) recs (given_to s actions)
    (λ e. subst (λ p. came_to flow later p ≡ came_to flow now p ++ recs ∷ []) e (came-fed flow now later.batches q recs k.0 k.2))
    (λ n. ap (λ bs. cond (now.opened s) (without_last bs) bs) (k.2.others s n)) rest
came-run flow now a (close q ∷ actions) effects last k s =
    let later : FedMachine = record now { opened = k.1 } in
    let rest = came-run flow later (closed-open flow now a q k.1 k.2) actions effects last k.3 s in
    let bs : ℕ → List (List Rec) = λ p. batches_of (with_batches flow now.batches) p in
    grows q s (came_to flow now s) (came_to flow later s) (came_to flow last s) [] (given_to s actions)
    (λ e. subst (λ p. came_to flow later p ≡ came_to flow now p ++ [] ∷ []) e
    (ap (λ b. cond b (without_last (bs q)) (bs q)) k.2.here ∙ a.last q k.0 ∙ ap (λ b. cond b (without_last (bs q)) (bs q) ++ [] ∷ []) (sym k.0)))
    (λ n. ap (λ b. cond b (without_last (bs s)) (bs s)) (k.2.others s n)) rest
came-run flow now a (close_with q recs ∷ actions) effects last k s =
    let later : FedMachine = record now { opened = k.3; batches = k.1 } in
    let rest = came-run flow later (filled-open flow now a q recs k.1 k.2 k.3 k.4) actions effects last k.5 s in
    let bs : ℕ → List (List Rec) = λ p. batches_of (with_batches flow now.batches) p in
    let next : ℕ → List (List Rec) = λ p. batches_of (with_batches flow k.1) p in
    grows q s (came_to flow now s) (came_to flow later s) (came_to flow last s) recs (given_to s actions)
    (λ e. subst (λ p. came_to flow later p ≡ came_to flow now p ++ recs ∷ []) e
    (ap (λ b. cond b (without_last (next q)) (next q)) k.4.here ∙ next-closed recs (bs q) (next q) k.2.here
    ∙ ap (λ b. cond b (without_last (bs q)) (bs q) ++ recs ∷ []) (sym k.0)))
    (λ n. ap (λ b. cond b (without_last (next s)) (next s)) (k.4.others s n) ∙ ap (λ xs. cond (now.opened s) (without_last xs) xs) (k.2.others s n)) rest
came-run flow now a (do_step step ∷ actions) [] last k s = absurd k
came-run flow now a (do_step step ∷ actions) (effect ∷ effects) last k s =
    came-run flow (record now { state = k.0 }) (record { input = a.input; last = a.last }) actions effects last k.3 s

pub none-before : (flow : Dataflow) (s : ℕ) → came_to flow (opening flow).now s ≡ []
none-before flow s = by (is_input_kind (kind_of flow s)) refl
  where
    by : (b : Bool) → is_input_kind (kind_of flow s) ≡ b
        → cond b (without_last (batches_of (with_batches flow (opening_batches flow)) s)) (batches_of (with_batches flow (opening_batches flow)) s) ≡ []
    by true o = ap without_last (one-input flow s o)
    by false o = none-else flow s o

pub stories_have_what_came : StoriesHaveWhatCame
stories_have_what_came flow story k s =
    came-run flow (opening flow).now (opening-open flow) story.actions story.effects story.now k.run s
    ∙ ap (λ xs. xs ++ given_to s story.actions) (none-before flow s)

-- how many batches there are of a source that is open
pub came-open : (flow : Dataflow) (story : Story) → IsStory flow story → (s : ℕ) → story.now.opened s ≡ true
    → length (batches_of (system_now flow story) s) ≡ length (came_to flow story.now s) + 1
came-open flow story k s o =
    let bs = batches_of (system_now flow story) s in
    let one : length (came_to flow story.now s) ≡ length (without_last bs) = ap (λ b. length (cond b (without_last bs) bs)) o in
    let all = ap length ((story-open flow story k).last s o) ∙ length-append (without_last bs) ([] ∷ []) in
    omega arith

pub stories_go_on : StoriesGoOn
stories_go_on flow w = (
  opening-story flow w,
  λ story k. record {
    fed = λ s recs o batch room.
        let count = came-open flow story k s o in
        story-fed flow story k s recs o (feeds-well flow story k s recs o batch (omega arith));
    closed = story-closed flow story k;
    stepped = story-stepped flow story k;
  },
)
