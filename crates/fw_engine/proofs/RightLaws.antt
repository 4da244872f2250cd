-- What the machine shows is right in each state that it reaches.
use Rattle.std.proofs.Common.{◌≡◌, ℕ, ◌<◌, true, false, List, [], ◌∷◌, ◌++◌, Result, Ok, Err, length, refl, sym, ap, subst, ◌∙◌, inl, inr}
use Rattle.std.specs.Prelude.{IfOk}
use Rattle.std.specs.List.{AllByRecursion}
use Rattle.std.proofs.lemmas.Bool.{cases_Bool}
use Rattle.fw_time.specs.Stamp.{Stamp}
use Rattle.fw_bag.specs.declared.rec.Rec.{Rec}
use Rattle.fw_flow.specs.declared.choice.Choice.{Choice}
use Rattle.fw_flow.specs.declared.step.Step.{Step}
use Rattle.fw_flow.specs.declared.step.Step.TheVariants.{Inject, Deliver, Notify, Progress, Checkpoint, Persist, Fail, Recover, Collect, Ack}
use Rattle.fw_flow.specs.Dataflow.{System}
use Rattle.fw_flow.specs.WellFormed.{IsWellFormedSystem}
use Rattle.fw_model.specs.Acknowledgements.{IsDenoted}
use Rattle.fw_model.specs.Auto.{TakesFirst}
use Rattle.fw_model.specs.Choice.{View, kept, ever, IsCandidate, IsLargest, IsWatermark}
use Rattle.fw_model.specs.Denotation.{Family, IsDenotation}
use Rattle.fw_model.specs.Machine.{Machine, ack_count_of, first_state, is_failed}
use Rattle.fw_model.specs.Reached.{IsReached}
use Rattle.fw_model.specs.Steps.{Effect, silent, acked, cuts, lows, Outcome, did, idle, LeadsTo, StepsTo}
use Rattle.fw_model.proofs.ChoosingLaws.{failed-recovered, kept-is_ever}
use Rattle.fw_model.proofs.GoingOn.{runs-go_on}
use Rattle.fw_model.proofs.RecoveryLaws.{acknowledged-denoted}
use Rattle.fw_engine.specs.Right.{IsRightIn}

-- ---- effects

acked-silent : {A : Type 0} (o : ℕ) (at : Stamp) (recs : List Rec) → acked o at recs ≡ silent → A
acked-silent o at recs e = absurd (cc)

acked-cuts : {A : Type 0} (o : ℕ) (at : Stamp) (recs : List Rec) (choice : Choice) → acked o at recs ≡ cuts choice → A
acked-cuts o at recs choice e = absurd (cc)

acked-lows : {A : Type 0} (o : ℕ) (at : Stamp) (recs : List Rec) (choice : Choice) → acked o at recs ≡ lows choice → A
acked-lows o at recs choice e = absurd (cc)

cuts-silent : {A : Type 0} (choice : Choice) → cuts choice ≡ silent → A
cuts-silent choice e = absurd (cc)

cuts-acked : {A : Type 0} (choice : Choice) (o : ℕ) (at : Stamp) (recs : List Rec) → cuts choice ≡ acked o at recs → A
cuts-acked choice o at recs e = absurd (cc)

cuts-lows : {A : Type 0} (choice other : Choice) → cuts choice ≡ lows other → A
cuts-lows choice other e = absurd (cc)

lows-silent : {A : Type 0} (choice : Choice) → lows choice ≡ silent → A
lows-silent choice e = absurd (cc)

lows-acked : {A : Type 0} (choice : Choice) (o : ℕ) (at : Stamp) (recs : List Rec) → lows choice ≡ acked o at recs → A
lows-acked choice o at recs e = absurd (cc)

idle-did : {A : Type 0} (effect : Effect) → idle ≡ did effect → A
idle-did effect e = absurd (cc)

one_output : (o q : ℕ) (at other : Stamp) (recs also : List Rec) → acked o at recs ≡ acked q other also → q ≡ o
one_output o q at other recs also e = cc

one_stamp : (o q : ℕ) (at other : Stamp) (recs also : List Rec) → acked o at recs ≡ acked q other also → at ≡ other
one_stamp o q at other recs also e = cc

cuts-one : (one other : Choice) → cuts one ≡ cuts other → other ≡ one
cuts-one one other e = cc

lows-one : (one other : Choice) → lows one ≡ lows other → other ≡ one
lows-one one other e = cc

-- ---- what a step shows

-- an acknowledgement is the next one
acked-in_turn : (sys : System) (state : Machine) (step : Step) (next : Machine) (o : ℕ) (at : Stamp) (recs : List Rec)
    → LeadsTo sys state step next (acked o at recs) → at ≡ ack_count_of state o ∷ []
acked-in_turn sys state (Inject s) next o at recs l = acked-silent o at recs l.4
acked-in_turn sys state (Deliver e t) next o at recs l = acked-silent o at recs l.4
acked-in_turn sys state (Notify p t) next o at recs l = acked-silent o at recs l.4
acked-in_turn sys state Progress next o at recs l = acked-silent o at recs l.4
acked-in_turn sys state (Checkpoint p) next o at recs l = acked-silent o at recs l.4
acked-in_turn sys state Persist next o at recs l = acked-silent o at recs l.3
acked-in_turn sys state (Fail ps) next o at recs l = acked-silent o at recs l.5
acked-in_turn sys state Recover next o at recs l = acked-cuts o at recs l.1 l.8
acked-in_turn sys state Collect next o at recs l = acked-lows o at recs l.0 l.4
acked-in_turn sys state (Ack q) next o at recs l =
    one_stamp o q at _ recs _ l.3 ∙ ap (λ n. n ∷ []) (l.1.next ∙ ap (ack_count_of state) (one_output o q at _ recs _ l.3))

-- cuts are the largest choice of what is kept
cuts-largest : (sys : System) (state : Machine) (step : Step) (next : Machine) (choice : Choice) → LeadsTo sys state step next (cuts choice)
    → IsLargest sys state (IsCandidate sys state (is_failed state) kept) choice
cuts-largest sys state (Inject s) next choice l = cuts-silent choice l.4
cuts-largest sys state (Deliver e t) next choice l = cuts-silent choice l.4
cuts-largest sys state (Notify p t) next choice l = cuts-silent choice l.4
cuts-largest sys state Progress next choice l = cuts-silent choice l.4
cuts-largest sys state (Checkpoint p) next choice l = cuts-silent choice l.4
cuts-largest sys state Persist next choice l = cuts-silent choice l.3
cuts-largest sys state (Fail ps) next choice l = cuts-silent choice l.5
cuts-largest sys state Recover next choice l = subst (IsLargest sys state (IsCandidate sys state (is_failed state) kept)) (cuts-one choice l.1 l.8) l.5
cuts-largest sys state Collect next choice l = cuts-lows choice l.0 l.4
cuts-largest sys state (Ack q) next choice l = cuts-acked choice q _ _ l.3

-- lows are the low watermark
lows-watermark : (sys : System) (state : Machine) (step : Step) (next : Machine) (choice : Choice) → LeadsTo sys state step next (lows choice)
    → IsWatermark sys state choice
lows-watermark sys state (Inject s) next choice l = lows-silent choice l.4
lows-watermark sys state (Deliver e t) next choice l = lows-silent choice l.4
lows-watermark sys state (Notify p t) next choice l = lows-silent choice l.4
lows-watermark sys state Progress next choice l = lows-silent choice l.4
lows-watermark sys state (Checkpoint p) next choice l = lows-silent choice l.4
lows-watermark sys state Persist next choice l = lows-silent choice l.3
lows-watermark sys state (Fail ps) next choice l = lows-silent choice l.5
lows-watermark sys state Recover next choice l = cuts-lows l.1 choice (sym l.8)
lows-watermark sys state Collect next choice l = subst (IsWatermark sys state) (lows-one choice l.0 l.4) l.1
lows-watermark sys state (Ack q) next choice l = lows-acked choice q _ _ l.3

-- ---- what is right

last-of : (P : Outcome → Type 0) (earlier : List Outcome) (last : Outcome) → AllByRecursion P (earlier ++ last ∷ []) → P last
last-of P [] last all = all.0
last-of P (outcome ∷ earlier) last all = last-of P earlier last all.1

outcome-denoted : (sys : System) → IsWellFormedSystem sys → (state : Machine) → IsReached sys state → (step : Step) (next : Machine) (outcome : Outcome)
    → StepsTo sys state step next outcome → (family : Family) → IsDenotation sys family → IsDenoted sys family outcome
outcome-denoted sys w state reached step next outcome t family d =
    last-of (IsDenoted sys family) reached.1 outcome
    (acknowledged-denoted sys family w d (reached.0 ++ step ∷ []) (reached.1 ++ outcome ∷ []) next
    (runs-go_on sys (first_state sys) state next reached.0 (step ∷ []) reached.1 (outcome ∷ []) reached.2 (next, t, refl)))

pub effect-right : (sys : System) → IsWellFormedSystem sys → (state : Machine) → IsReached sys state → (step : Step) (next : Machine) (effect : Effect)
    → LeadsTo sys state step next effect → IsRightIn sys state (did effect)
effect-right sys w state reached step next effect leads = record {
  denoted = outcome-denoted sys w state reached step next (did effect) leads;
  in_turn = λ o at recs e.
      acked-in_turn sys state step next o at recs (subst (λ (outcome : Outcome). StepsTo sys state step next outcome) e leads);
  largest = λ choice e view.
      let l = cuts-largest sys state step next choice (subst (λ (outcome : Outcome). StepsTo sys state step next outcome) e leads) in
      of_view view choice l;
  watermark = λ choice e.
      lows-watermark sys state step next choice (subst (λ (outcome : Outcome). StepsTo sys state step next outcome) e leads);
}
  where
    of_view : (view : View) (choice : Choice) → IsLargest sys state (IsCandidate sys state (is_failed state) kept) choice
        → IsLargest sys state (IsCandidate sys state (is_failed state) view) choice
    of_view kept choice l = l
    of_view ever choice l = (kept-is_ever sys w reached.0 reached.1 state reached.2 (is_failed state) choice).0 l

pub idle-right : (sys : System) (state : Machine) → IsRightIn sys state idle
idle-right sys state = record {
  denoted = λ family d. tt;
  in_turn = λ o at recs e. idle-did (acked o at recs) e;
  largest = λ choice e view. idle-did (cuts choice) e;
  watermark = λ choice e. idle-did (lows choice) e;
}

-- what comes of a step
pub outcome-right : (sys : System) → IsWellFormedSystem sys → (state : Machine) → IsReached sys state → (step : Step) (next : Machine) (outcome : Outcome)
    → StepsTo sys state step next outcome → IsRightIn sys state outcome
outcome-right sys w state reached step next (did effect) t = effect-right sys w state reached step next effect t
outcome-right sys w state reached step next idle t = idle-right sys state

-- what comes of the first of some steps that is enabled
pub first-right : (sys : System) → IsWellFormedSystem sys → (state : Machine) → IsReached sys state → (steps : List Step) (next : Machine) (outcome : Outcome)
    → TakesFirst sys state steps next outcome → IsRightIn sys state outcome
first-right sys w state reached steps next (did effect) t = effect-right sys w state reached t.0 next effect t.1.leads
first-right sys w state reached steps next idle t = idle-right sys state

-- an idle recovery finds no declared node failed
pub idle-recovery : (sys : System) → IsWellFormedSystem sys → (state : Machine) → IsReached sys state → (next : Machine)
    → StepsTo sys state Recover next idle → (p : ℕ) → p < length sys.flow.nodes → is_failed state p ≡ false
idle-recovery sys w state reached next t p l = elim (cases_Bool (is_failed state p)) [
  | inl failed ↦
      let does = failed-recovered sys w reached.0 reached.1 state reached.2 p l failed in
      absurd (t.0 does.0 (cuts does.1) does.2)
  | inr live ↦ live
]
