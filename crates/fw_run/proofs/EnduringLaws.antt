-- Runs through faults of the store: one item more, how they go on, and those in which it does not fail.
use Rattle.std.proofs.Common.{◌≡◌, inl, inr, ℕ, ◌+◌, Bool, true, false, List, [], ◌∷◌, ◌++◌, take, drop, Option, Some, None, refl, sym, ◌∙◌, ap, subst, arith, append_assoc}
use Rattle.std.proofs.lemmas.Bool.{false≢true, true≢false}
use Rattle.std.proofs.lemmas.List.{append-nil, take-append-drop}
use Rattle.std.specs.Prelude.{IsSome}
use Rattle.fw_flow.specs.declared.step.Step.{Step}
use Rattle.fw_flow.specs.declared.step.Step.TheVariants.{Inject, Deliver, Notify, Progress, Checkpoint, Persist, Fail, Recover, Collect, Ack}
use Rattle.fw_flow.specs.Dataflow.{System}
use Rattle.fw_flow.specs.WellFormed.{IsWellFormedSystem}
use Rattle.fw_schedule.specs.declared.item.Item.{Item}
use Rattle.fw_schedule.specs.declared.item.Item.TheVariants.{One, Auto}
use Rattle.fw_model.proofs.GoingOn.{runs-go_on}
use Rattle.fw_model.specs.Machine.{Machine}
use Rattle.fw_model.specs.Reached.{IsReached}
use Rattle.fw_model.specs.Steps.{Outcome, StepsTo, Run}
use Rattle.fw_keep.specs.Stored.{Records}
use Rattle.fw_run.proofs.ItemLaws.{item-run}
use Rattle.fw_run.proofs.ReportLaws.{outcomes_in-append, faults-append, shown-run, shown-faults, some_reports, reached-on}
use Rattle.fw_run.specs.Enduring.{ItemEndures, ItemsEndure, MayFail, EnduredItem, EnduredRun, IsRunKnown}
use Rattle.fw_run.specs.Items.{ItemComesTo, ComesTo, ItemRun, ItemsRun}
use Rattle.fw_run.specs.Performing.{TrustsItem}
use Rattle.fw_run.specs.Reports.{Report, came, not_taken, unswept, faults_in, outcomes_in, RunShown}
use Rattle.fw_command.specs.Command.{Showing, Course}

-- ---- how often the store may fail

-- where it never does
pub may_none : (goes_on : Bool) (faults : ℕ) → faults ≡ 0 → MayFail goes_on faults
may_none true faults e = tt
may_none false faults e = e

pub none_may : (goes_on : Bool) (faults : ℕ) → goes_on ≡ false → MayFail goes_on faults → faults ≡ 0
none_may true faults e may = absurd (true≢false e)
none_may false faults e may = may

pub any_may : (goes_on : Bool) (faults : ℕ) → goes_on ≡ true → MayFail goes_on faults
any_may true faults e = tt
any_may false faults e = absurd (false≢true e)

pub may_append : (goes_on : Bool) (reports others : List Report) → MayFail goes_on (faults_in reports) → MayFail goes_on (faults_in others)
    → MayFail goes_on (faults_in (reports ++ others))
may_append true reports others h k = tt
may_append false reports others h k = omega (arith, faults-append reports others, h, k)

-- ---- steps in which the store does not fail

-- a step that the machine takes is one in which the store does not fail
one_endures : (showing : Showing) (sys : System) (state last : Machine) (step : Step) (reports : List Report) → RunShown showing sys state (step ∷ []) reports last
    → ItemEndures showing sys state (One step) (step ∷ []) reports last
one_endures showing sys state last step [] r = absurd r
one_endures showing sys state last step (came o l ∷ []) r = (came o l, (subst (λ (m : Machine). StepsTo sys state step m o) (sym r.3) r.1, r.2, refl), refl)
one_endures showing sys state last step (came o l ∷ q ∷ reports) r = absurd r.3
one_endures showing sys state last step (not_taken ∷ reports) r = absurd r
one_endures showing sys state last step (unswept o ∷ reports) r = absurd r

-- so is each item that the machine takes
pub item_endures : (showing : Showing) (sys : System) (state last : Machine) (item : Item) (steps : List Step) (reports : List Report) → ItemComesTo sys state item steps last
    → RunShown showing sys state steps reports last → ItemEndures showing sys state item steps reports last
item_endures showing sys state last (One step) steps reports c r =
    let one = one_endures showing sys state last step reports (subst (λ (s : List Step). RunShown showing sys state s reports last) c.2 r) in
    subst (λ (s : List Step). ItemEndures showing sys state (One step) s reports last) (sym c.2) one
item_endures showing sys state last (Auto most) steps reports c r = (reports, r, inl (c, refl))

pub endured-taken : (course : Course) (sys : System) → IsWellFormedSystem sys → (state : Machine) → IsReached sys state → (item : Item) → ItemRun sys state item
    → (e : EnduredItem course sys state item) × (faults_in e.reports ≡ 0)
endured-taken course sys w state reached item r =
    let told = some_reports course.showing sys w state r.last reached r.steps r.outcomes r.run in
    let none = shown-faults course.showing sys state r.last r.steps told.0 told.1 in (
      record {
        steps = r.steps;
        reports = told.0;
        last = r.last;
        endures = item_endures course.showing sys state r.last item r.steps told.0 r.comes told.1;
        run = shown-run course.showing sys state r.last r.steps told.0 told.1;
        may = may_none course.goes_on (faults_in told.0) none;
      },
      none,
    )

-- ---- items

-- items that go on where others ended
pub endures-on : (showing : Showing) (sys : System) (state between last : Machine) (items others : List Item) (steps more : List Step) (reports further : List Report)
    → ItemsEndure showing sys state items steps reports between → ItemsEndure showing sys between others more further last
    → ItemsEndure showing sys state (items ++ others) (steps ++ more) (reports ++ further) last
endures-on showing sys state between last [] others steps more reports further c d =
    let here : ItemsEndure showing sys state others more further last = subst (λ (m : Machine). ItemsEndure showing sys m others more further last) c.2 d in
    let steps_on : ItemsEndure showing sys state others (steps ++ more) further last = subst (λ (s : List Step). ItemsEndure showing sys state others (s ++ more) further last) (sym c.0) here in
    subst (λ (r : List Report). ItemsEndure showing sys state others (steps ++ more) (r ++ further) last) (sym c.1) steps_on
endures-on showing sys state between last (item ∷ items) others steps more reports further c d =
    let rest = endures-on showing sys c.2 between last items others c.3 more c.4 further c.6 d in (
      c.0,
      c.1,
      c.2,
      c.3 ++ more,
      c.4 ++ further,
      c.5,
      rest,
      ap (λ (s : List Step). s ++ more) c.7 ∙ append_assoc c.0 c.3 more,
      ap (λ (r : List Report). r ++ further) c.8 ∙ append_assoc c.1 c.4 further,
    )

-- no items
abbrev pub endured-none : (course : Course) (sys : System) (state : Machine) → EnduredRun course sys state []
endured-none course sys state = record { steps = []; reports = []; last = state; endured = (refl, refl, refl); run = refl; may = may_none course.goes_on 0 refl }

-- the run of items with one more
abbrev pub endured-next : (course : Course) (sys : System) (state : Machine) (items : List Item) (item : Item) → (run : EnduredRun course sys state items) → EnduredItem course sys run.last item
    → EnduredRun course sys state (items ++ item ∷ [])
endured-next course sys state items item r e =
    let one : ItemsEndure course.showing sys r.last (item ∷ []) e.steps e.reports e.last =
    (e.steps, e.reports, e.last, [], [], e.endures, (refl, refl, refl), sym (append-nil e.steps), sym (append-nil e.reports)) in
    record {
      steps = r.steps ++ e.steps;
      reports = r.reports ++ e.reports;
      last = e.last;
      endured = endures-on course.showing sys state r.last e.last items (item ∷ []) r.steps e.steps r.reports e.reports r.endured one;
      run = subst (λ (os : List Outcome). Run sys state (r.steps ++ e.steps) os e.last) (sym (outcomes_in-append r.reports e.reports))
          (runs-go_on sys state r.last e.last r.steps e.steps (outcomes_in r.reports) (outcomes_in e.reports) r.run e.run);
      may = may_append course.goes_on r.reports e.reports r.may e.may;
    }

-- The run of items goes on through others, and in these the store does not fail.
pub record GoesOn (course : Course) (sys : System) (state : Machine) (items others : List Item) (reports : List Report) : Type 0 where
  pub run : EnduredRun course sys state (items ++ others)
  pub more : List Report
  pub parts : run.reports ≡ reports ++ more
  pub none : faults_in more ≡ 0

-- a run of items is one of the same items
abbrev of_same : (course : Course) (sys : System) (state : Machine) (items others : List Item) → items ≡ others → EnduredRun course sys state items → EnduredRun course sys state others
of_same course sys state items others e r = record {
  steps = r.steps;
  reports = r.reports;
  last = r.last;
  endured = subst (λ (xs : List Item). ItemsEndure course.showing sys state xs r.steps r.reports r.last) e r.endured;
  run = r.run;
  may = r.may;
}

-- so each run may go on
pub goes-on : (course : Course) (sys : System) → IsWellFormedSystem sys → (state : Machine) → IsReached sys state → (items others : List Item) → (run : EnduredRun course sys state items)
    → GoesOn course sys state items others run.reports
goes-on course sys w state reached items [] r = record {
  run = of_same course sys state items (items ++ []) (sym (append-nil items)) r;
  more = [];
  parts = sym (append-nil r.reports);
  none = refl;
}
goes-on course sys w state reached items (item ∷ others) r =
    let there = reached-on sys state r.last r.steps (outcomes_in r.reports) reached r.run in
    let found = endured-taken course sys w r.last there item (item-run sys w there.0 there.1 r.last there.2 item) in
    let next = endured-next course sys state items item r found.0 in
    let rest = goes-on course sys w state reached (items ++ item ∷ []) others next in
    record {
      run = of_same course sys state ((items ++ item ∷ []) ++ others) (items ++ item ∷ others) (append_assoc items (item ∷ []) others) rest.run;
      more = found.0.reports ++ rest.more;
      parts = rest.parts ∙ append_assoc r.reports found.0.reports rest.more;
      none = omega (arith, faults-append found.0.reports rest.more, found.1, rest.none);
    }

-- ---- runs in which the store does not fail

-- what the machine takes of items through which the store did not fail
came_item : (showing : Showing) (sys : System) (state last : Machine) (item : Item) (steps : List Step) (reports : List Report) → ItemEndures showing sys state item steps reports last
    → faults_in reports ≡ 0 → ItemComesTo sys state item steps last
came_item showing sys state last (One step) steps reports (came o l, e, same) none = (o, e.0, e.2)
came_item showing sys state last (One step) steps reports (not_taken, e, same) none = absurd (omega (arith, none, ap faults_in same))
came_item showing sys state last (One step) steps reports (unswept o, e, same) none = absurd (omega (arith, none, ap faults_in same))
came_item showing sys state last (Auto most) steps reports (shown, run, inl all) none = all.0
came_item showing sys state last (Auto most) steps reports (shown, run, inr some) none =
    absurd (omega (arith, none, ap faults_in some.3, faults-append shown (not_taken ∷ [])))

pub came_items : (showing : Showing) (sys : System) (state last : Machine) (items : List Item) (steps : List Step) (reports : List Report) → ItemsEndure showing sys state items steps reports last
    → faults_in reports ≡ 0 → ComesTo sys state items steps last
came_items showing sys state last [] steps reports e none = (e.0, e.2)
came_items showing sys state last (item ∷ items) steps reports e none =
    let parts : faults_in reports ≡ faults_in e.1 + faults_in e.4 = ap faults_in e.8 ∙ faults-append e.1 e.4 in (
      e.0,
      e.2,
      e.3,
      came_item showing sys state e.2 item e.0 e.1 e.5 (omega (arith, none, parts)),
      came_items showing sys e.2 last items e.3 e.4 e.6 (omega (arith, none, parts)),
      e.7,
    )

-- such a run is the machine's over the items
abbrev pub came_run : (course : Course) (sys : System) (state : Machine) (items : List Item) (r : EnduredRun course sys state items) → faults_in r.reports ≡ 0 → ItemsRun sys state items
came_run course sys state items r none = record {
  steps = r.steps;
  outcomes = outcomes_in r.reports;
  last = r.last;
  comes = came_items course.showing sys state r.last items r.steps r.reports r.endured none;
  run = r.run;
}

-- ---- what is known

-- what comes of items is known where what comes of more is
pub run_known-less : (course : Course) (Tells : Type 0) (sys : System) (state : Machine) (items others : List Item) → IsRunKnown course Tells sys state (items ++ others)
    → IsRunKnown course Tells sys state items
run_known-less course Tells sys state items others (inl tells) = inl tells
run_known-less course Tells sys state items others (inr none) = inr (λ earlier later e r.
    none earlier (later ++ others) (ap (λ (xs : List Item). xs ++ others) e ∙ append_assoc earlier (One Recover ∷ later) others) r)

pub run_known-take : (course : Course) (Tells : Type 0) (sys : System) (state : Machine) (n : ℕ) (items : List Item) → IsRunKnown course Tells sys state items
    → IsRunKnown course Tells sys state (take n items)
run_known-take course Tells sys state n items k =
    run_known-less course Tells sys state (take n items) (drop n items) (subst (IsRunKnown course Tells sys state) (sym (take-append-drop n items)) k)

-- a step of known items reads what was put
trusts_step : (course : Course) (Tells : Type 0) (sys : System) (state : Machine) (items : List Item) (step : Step) (records : Option Records) → (Tells → IsSome records)
    → IsRunKnown course Tells sys state (items ++ One step ∷ []) → (run : EnduredRun course sys state items) → TrustsItem sys run.last (One step) records
trusts_step course Tells sys state items (Inject s) records told k r = tt
trusts_step course Tells sys state items (Deliver e at) records told k r = tt
trusts_step course Tells sys state items (Notify p at) records told k r = tt
trusts_step course Tells sys state items Progress records told k r = tt
trusts_step course Tells sys state items (Checkpoint p) records told k r = tt
trusts_step course Tells sys state items Persist records told k r = tt
trusts_step course Tells sys state items (Fail ps) records told k r = tt
trusts_step course Tells sys state items Recover (Some held) told k r = tt
trusts_step course Tells sys state items Recover None told (inl tells) r = absurd (false≢true (told tells))
trusts_step course Tells sys state items Recover None told (inr none) r = none items [] refl r
trusts_step course Tells sys state items Collect records told k r = tt
trusts_step course Tells sys state items (Ack o) records told k r = tt

pub run_trusts : (course : Course) (Tells : Type 0) (sys : System) (state : Machine) (items : List Item) (item : Item) (records : Option Records) → (Tells → IsSome records)
    → IsRunKnown course Tells sys state (items ++ item ∷ []) → (run : EnduredRun course sys state items) → TrustsItem sys run.last item records
run_trusts course Tells sys state items (One step) records told k r = trusts_step course Tells sys state items step records told k r
run_trusts course Tells sys state items (Auto most) records told k r = tt
