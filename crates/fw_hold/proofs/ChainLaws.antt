-- All starts of a held run together are one run of the machine.
use Rattle.std.proofs.Common.{◌≡◌, ℕ, ◌+◌, Bool, true, false, cond, List, [], ◌∷◌, ◌++◌, refl, sym, ◌∙◌, ap, nat_lt}
use Rattle.std.specs.List.{flat_map}
use Rattle.std.proofs.lemmas.Grind.{flat_map-append}
use Rattle.std.proofs.lemmas.List.{append-nil}
use Rattle.fw_flow.specs.declared.step.Step.{Step}
use Rattle.fw_flow.specs.declared.step.Step.TheVariants.{Fail, Recover}
use Rattle.fw_flow.specs.Dataflow.{System, node_ids}
use Rattle.fw_schedule.specs.declared.item.Item.{Item}
use Rattle.fw_schedule.specs.declared.item.Item.TheVariants.{One, Auto}
use Rattle.fw_schedule.specs.Schedule.{steps_in}
use Rattle.fw_model.specs.Machine.{Machine, first_state}
use Rattle.fw_model.specs.Reached.{IsReached}
use Rattle.fw_model.specs.Steps.{Effect, cuts, Outcome, did, idle, StepsTo}
use Rattle.fw_model.proofs.GoingOn.{runs-go_on}
use Rattle.fw_regain.specs.Down.{down}
use Rattle.fw_regain.proofs.DownLaws.{go-down}
use Rattle.fw_running.specs.EffectText.{effect_text, outcome_text}
use Rattle.fw_hold.specs.Chain.{Started, StartsLead, starts_text, step_of_item, steps_passed, steps_of_move, steps_of_moves, steps_of_starts, HasRunBy, HasRunTo, StartsAreOneRun}
use Rattle.fw_hold.specs.Kept.{kept_at_first}
use Rattle.fw_hold.specs.Moves.{Move, restored, turned, passed, ended_early, SchedulePoint, KeptPoint, past_item, with_step, after_single, DoesSingle, PassesItem, Makes, MakesAll, kept_after, move_text, moves_text}

-- ---- runs

-- a run, and another from where it led
runs-both : (sys : System) (from mid to : Machine) (ones others : List Step) (one other : List ℕ) → HasRunBy sys from ones one mid → HasRunBy sys mid others other to
    → HasRunBy sys from (ones ++ others) (one ++ other) to
runs-both sys from mid to ones others one other a b = record {
  outcomes = a.outcomes ++ b.outcomes;
  run = runs-go_on sys from mid to ones others a.outcomes b.outcomes a.run b.run;
  lines = flat_map-append (outcome_text sys.flow) a.outcomes b.outcomes ∙ ap (λ t. t ++ flat_map (outcome_text sys.flow) b.outcomes) a.lines ∙ ap (λ t. one ++ t) b.lines;
}

runs-none : (sys : System) (from to : Machine) → to ≡ from → HasRunBy sys from [] [] to
runs-none sys from to e = record { outcomes = []; run = e; lines = refl }

runs-one : (sys : System) (from next to : Machine) (step : Step) (outcome : Outcome) (text : List ℕ) → StepsTo sys from step next outcome → to ≡ next
    → outcome_text sys.flow outcome ≡ text → HasRunBy sys from (step ∷ []) text to
runs-one sys from next to step outcome text steps e lines = record {
  outcomes = outcome ∷ [];
  run = (next, steps, e);
  lines = append-nil (outcome_text sys.flow outcome) ∙ lines;
}

reached-on : (sys : System) (from to : Machine) (steps : List Step) (text : List ℕ) → IsReached sys from → HasRunBy sys from steps text to → IsReached sys to
reached-on sys from to steps text r a = (r.0 ++ steps, r.1 ++ a.outcomes, runs-go_on sys (first_state sys) from to r.0 steps r.1 a.outcomes r.2 a.run)

-- ---- a move

-- a failure shows nothing
shows-nothing : (sys : System) (state next : Machine) (nodes : List ℕ) (outcome : Outcome) → StepsTo sys state (Fail nodes) next outcome → outcome_text sys.flow outcome ≡ []
shows-nothing sys state next nodes (did effect) leads = ap (effect_text sys.flow) leads.5
shows-nothing sys state next nodes idle steps = refl

state-after : (item : Item) (from : SchedulePoint) (next : Machine) → (after_single item from next).state ≡ next
state-after item from next = by (nat_lt (from.singles + 1) (steps_in item))
  where
    by : (b : Bool) → (cond b (with_step from next) (past_item (with_step from next))).state ≡ next
    by true = refl
    by false = refl

turn-runs : (sys : System) (item : Item) (from : SchedulePoint) (effect : Effect) (next to : Machine) (does : DoesSingle sys item from next effect) → to ≡ next
    → HasRunBy sys from.state (step_of_item sys item from next effect does ∷ []) (effect_text sys.flow effect) to
turn-runs sys (One step) from effect next to does e = runs-one sys from.state next to step (did effect) _ does e refl
turn-runs sys (Auto most) from effect next to does e = runs-one sys from.state next to does.1.0 (did effect) _ does.1.1.leads e refl

pass-runs : (sys : System) (item : Item) (from : SchedulePoint) (to : Machine) → PassesItem sys item from → to ≡ from.state → HasRunBy sys from.state (steps_passed item) [] to
pass-runs sys (One step) from to passes e = runs-one sys from.state from.state to step idle [] passes e refl
pass-runs sys (Auto most) from to passes e = absurd passes

-- a move is a run
move-runs : (sys : System) (items : List Item) (from : SchedulePoint) (move : Move) (to : SchedulePoint) → IsReached sys from.state → (made : Makes sys items from move to)
    → HasRunBy sys from.state (steps_of_move sys items from move to made) (move_text sys.flow move) to.state
move-runs sys items from (restored choice) to r (next, leads, e) =
    let fail = go-down sys from.state r in
    runs-both sys from.state (down sys from.state) to.state (Fail (node_ids sys.flow) ∷ []) (Recover ∷ []) [] (effect_text sys.flow (cuts choice))
    (runs-one sys from.state (down sys from.state) (down sys from.state) (Fail (node_ids sys.flow)) fail.0 [] fail.1 refl (shows-nothing sys from.state (down sys from.state) (node_ids sys.flow) fail.0 fail.1))
    (runs-one sys (down sys from.state) next to.state Recover (did (cuts choice)) _ leads (ap (λ (p : SchedulePoint). p.state) e) refl)
move-runs sys items from (turned effect) to r (item, at, (next, does, e)) =
    turn-runs sys item from effect next to.state does (ap (λ (p : SchedulePoint). p.state) e ∙ state-after item from next)
move-runs sys items from passed to r (item, at, (passes, e)) = pass-runs sys item from to.state passes (ap (λ (p : SchedulePoint). p.state) e)
move-runs sys items from ended_early to r (item, at, (ends, e)) = runs-none sys from.state to.state (ap (λ (p : SchedulePoint). p.state) e)

-- what is kept has the state of the point where the machine is
kept-here : (sys : System) (items : List Item) (kept : KeptPoint) (from : SchedulePoint) (move : Move) (to : SchedulePoint) → from.state ≡ kept.point.state → Makes sys items from move to
    → to.state ≡ (kept_after sys.flow kept move to).point.state
kept-here sys items kept from (restored choice) to e made = refl
kept-here sys items kept from (turned effect) to e made = refl
kept-here sys items kept from passed to e (item, at, (passes, f)) = ap (λ (p : SchedulePoint). p.state) f ∙ e
kept-here sys items kept from ended_early to e (item, at, (ends, f)) = ap (λ (p : SchedulePoint). p.state) f ∙ e

-- ---- moves, and starts

moves-run : (sys : System) (items : List Item) (kept : KeptPoint) (from : SchedulePoint) (moves : List Move) (now : KeptPoint) (last : SchedulePoint) → IsReached sys from.state
    → from.state ≡ kept.point.state → (made : MakesAll sys items kept from moves now last)
    → HasRunBy sys from.state (steps_of_moves sys items kept from moves now last made) (moves_text sys.flow moves) now.point.state
moves-run sys items kept from [] now last r e (k, l) = runs-none sys from.state now.point.state (ap (λ (q : KeptPoint). q.point.state) k ∙ sym e)
moves-run sys items kept from (move ∷ moves) now last r e (next, made, rest) =
    let one = move-runs sys items from move next r made in
    let after = kept_after sys.flow kept move next in
    let steps = steps_of_move sys items from move next made in
    runs-both sys from.state next.state now.point.state steps (steps_of_moves sys items after next moves now last rest) (move_text sys.flow move) (moves_text sys.flow moves) one
    (moves-run sys items after next moves now last (reached-on sys from.state next.state steps (move_text sys.flow move) r one) (kept-here sys items kept from move next e made) rest)

starts-run : (sys : System) (items : List Item) (kept : KeptPoint) (starts : List Started) (last : KeptPoint) → IsReached sys kept.point.state
    → (lead : StartsLead sys items kept starts last) → HasRunBy sys kept.point.state (steps_of_starts sys items kept starts last lead) (starts_text sys.flow starts) last.point.state
starts-run sys items kept [] last r e = runs-none sys kept.point.state last.point.state (ap (λ (q : KeptPoint). q.point.state) e)
starts-run sys items kept (start ∷ starts) last r (point, made, rest) =
    let one = moves-run sys items kept kept.point start.moves start.now point r refl made in
    let steps = steps_of_moves sys items kept kept.point start.moves start.now point made in
    runs-both sys kept.point.state start.now.point.state last.point.state steps (steps_of_starts sys items start.now starts last rest) (moves_text sys.flow start.moves) (starts_text sys.flow starts) one
    (starts-run sys items start.now starts last (reached-on sys kept.point.state start.now.point.state steps (moves_text sys.flow start.moves) r one) rest)

pub starts-run_by : StartsAreOneRun
starts-run_by sys items starts last lead = starts-run sys items (kept_at_first sys) starts last ([], [], refl) lead

-- so they have a run
pub starts-one_run : (sys : System) (items : List Item) (starts : List Started) (last : KeptPoint) → StartsLead sys items (kept_at_first sys) starts last
    → HasRunTo sys (first_state sys) (starts_text sys.flow starts) last.point.state
starts-one_run sys items starts last lead =
    let by = starts-run_by sys items starts last lead in
    record { steps = steps_of_starts sys items (kept_at_first sys) starts last lead; outcomes = by.outcomes; run = by.run; lines = by.lines }
