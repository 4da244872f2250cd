-- What a start does that finds no root and is taken to its end: what the items come to, in one run.
use Rattle.std.proofs.Common.{◌≡◌, ◌⊎◌, inl, inr, ℕ, zero, suc, ◌+◌, ◌-◌, ◌<◌, ◌≤◌, cond, List, [], ◌∷◌, ◌++◌, length, drop, slice_get, Some, refl, sym, ◌∙◌, ap, subst, arith}
use Rattle.std.proofs.lemmas.Bool.{cases_lt, lt-ltb, le-ltb}
use Rattle.fw_flow.specs.declared.step.Step.{Step}
use Rattle.fw_flow.specs.Dataflow.{System}
use Rattle.fw_schedule.specs.declared.item.Item.{Item}
use Rattle.fw_schedule.specs.declared.item.Item.TheVariants.{One, Auto}
use Rattle.fw_model.specs.Auto.{auto_steps, AreIdle, IsAutoRun, IsFirstEnabled}
use Rattle.fw_model.specs.Machine.{Machine, first_state}
use Rattle.fw_model.specs.Steps.{Effect, Outcome, did, idle, LeadsTo, Run, StepsTo}
use Rattle.fw_running.specs.EffectText.{effect_text}
use Rattle.fw_command.specs.Texts.{spelled_items, spelled_system}
use Rattle.fw_hold.specs.Going.{AreForward}
use Rattle.fw_hold.specs.Kept.{kept_at_first, system_in}
use Rattle.fw_hold.specs.Moves.{Move, restored, turned, passed, ended_early, SchedulePoint, KeptPoint, past_item, with_step, with_idle_step, after_single, DoesSingle, EndsEarly, PassesItem, MakesAll, kept_after, moves_text, point_at_first}
use Rattle.fw_hold.proofs.GoingLaws.{drop_next, next_item}
use Rattle.fw_run.specs.HeldTexts.{held_texts}
use Rattle.fw_run.specs.Items.{ComesTo}
use Rattle.fw_run.specs.Printed.{done_line, idle_count, outcomes_text}
use Rattle.fw_run.specs.Unbroken.{FirstHoldIsRun, UnbrokenIsRun}
use Rattle.fw_run.proofs.HeldTextLaws.{held-spelled}

-- ---- what is left of items

-- the items come to these steps where so many single steps of the first of them are done
abbrev pub LeftComesTo : System → Machine → List Item → ℕ → List Step → Machine → Type 0
LeftComesTo sys state [] done steps last = ComesTo sys state [] steps last
LeftComesTo sys state (One step ∷ items) done steps last = ComesTo sys state (One step ∷ items) steps last
LeftComesTo sys state (Auto most ∷ items) done steps last =
    (first : List Step) × (next : Machine) × (others : List Step) × IsAutoRun sys state (most - done) first next × ComesTo sys next items others last × (steps ≡ first ++ others)

pub left-all : (sys : System) (state : Machine) (items : List Item) (steps : List Step) (last : Machine) → LeftComesTo sys state items 0 steps last → ComesTo sys state items steps last
left-all sys state [] steps last l = l
left-all sys state (One step ∷ items) steps last l = l
left-all sys state (Auto most ∷ items) steps last l =
    let whole : most - 0 ≡ most = omega arith in
    (l.0, l.1, l.2, subst (λ n. IsAutoRun sys state n l.0 l.1) whole l.3, l.4, l.5)

-- From a point the items that are left come to steps, which the machine takes to another point; these are their lines, and they were counted.
pub record LeftRun (sys : System) (from : SchedulePoint) (items : List Item) (text : List ℕ) (to : SchedulePoint) : Type 0 where
  pub steps : List Step
  pub outcomes : List Outcome
  pub comes : LeftComesTo sys from.state items from.singles steps to.state
  pub run : Run sys from.state steps outcomes to.state
  pub lines : outcomes_text sys.flow outcomes ≡ text
  pub counted : to.steps ≡ from.steps + length outcomes
  pub idles : to.idle ≡ from.idle + idle_count outcomes

-- ---- a move before the others

one-left : (sys : System) (from : SchedulePoint) (items : List Item) (step : Step) (effect : Effect) (next : Machine) (text : List ℕ) (to : SchedulePoint)
    → LeadsTo sys from.state step next effect → LeftRun sys (past_item (with_step from next)) items text to
    → LeftRun sys from (One step ∷ items) (effect_text sys.flow effect ++ text) to
one-left sys from items step effect next text to leads r = let count = r.counted in record {
  steps = step ∷ r.steps;
  outcomes = did effect ∷ r.outcomes;
  comes = (step ∷ [], next, r.steps, (did effect, leads, refl), left-all sys next items r.steps to.state r.comes, refl);
  run = (next, leads, r.run);
  lines = ap (λ t. effect_text sys.flow effect ++ t) r.lines;
  counted = omega (arith, count);
  idles = r.idles;
}

pass-left : (sys : System) (from : SchedulePoint) (items : List Item) (step : Step) (text : List ℕ) (to : SchedulePoint)
    → StepsTo sys from.state step from.state idle → LeftRun sys (past_item (with_idle_step from)) items text to → LeftRun sys from (One step ∷ items) text to
pass-left sys from items step text to stays r = let count = r.counted in let idles = r.idles in record {
  steps = step ∷ r.steps;
  outcomes = idle ∷ r.outcomes;
  comes = (step ∷ [], from.state, r.steps, (idle, stays, refl), left-all sys from.state items r.steps to.state r.comes, refl);
  run = (from.state, stays, r.run);
  lines = r.lines;
  counted = omega (arith, count);
  idles = omega (arith, idles);
}

-- a single step of an `auto`, and others of it
more-left : (sys : System) (from : SchedulePoint) (items : List Item) (most : ℕ) (step : Step) (effect : Effect) (next : Machine) (text : List ℕ) (to : SchedulePoint)
    → from.singles < most → IsFirstEnabled sys from.state (auto_steps sys.flow) step next effect → LeftRun sys (with_step from next) (Auto most ∷ items) text to
    → LeftRun sys from (Auto most ∷ items) (effect_text sys.flow effect ++ text) to
more-left sys from items most step effect next text to few is r =
    let count = r.counted in
    let c = r.comes in
    let fewer : suc (most - (from.singles + 1)) ≡ most - from.singles = omega (arith, few) in
    record {
      steps = step ∷ r.steps;
      outcomes = did effect ∷ r.outcomes;
      comes = (step ∷ c.0, c.1, c.2, subst (λ n. IsAutoRun sys from.state n (step ∷ c.0) c.1) fewer (next, effect, is, c.3), c.4, ap (λ (ss : List Step). step ∷ ss) c.5);
      run = (next, is.leads, r.run);
      lines = ap (λ t. effect_text sys.flow effect ++ t) r.lines;
      counted = omega (arith, count);
      idles = r.idles;
    }

-- the last one that an `auto` may take
last-left : (sys : System) (from : SchedulePoint) (items : List Item) (most : ℕ) (step : Step) (effect : Effect) (next : Machine) (text : List ℕ) (to : SchedulePoint)
    → from.singles < most → most ≤ from.singles + 1 → IsFirstEnabled sys from.state (auto_steps sys.flow) step next effect
    → LeftRun sys (past_item (with_step from next)) items text to → LeftRun sys from (Auto most ∷ items) (effect_text sys.flow effect ++ text) to
last-left sys from items most step effect next text to few all is r =
    let count = r.counted in
    let one : 1 ≡ most - from.singles = omega (arith, few, all) in
    record {
      steps = step ∷ r.steps;
      outcomes = did effect ∷ r.outcomes;
      comes = (step ∷ [], next, r.steps, subst (λ n. IsAutoRun sys from.state n (step ∷ []) next) one (next, effect, is, refl), left-all sys next items r.steps to.state r.comes, refl);
      run = (next, is.leads, r.run);
      lines = ap (λ t. effect_text sys.flow effect ++ t) r.lines;
      counted = omega (arith, count);
      idles = r.idles;
    }

-- it takes none where none is left, or none is enabled
auto-none : (sys : System) (state : Machine) (n : ℕ) → (n ≡ 0) ⊎ AreIdle sys state (auto_steps sys.flow) → IsAutoRun sys state n [] state
auto-none sys state zero h = refl
auto-none sys state (suc n) (inl e) = absurd (omega (arith, e))
auto-none sys state (suc n) (inr none) = (none, refl)

early-left : (sys : System) (from : SchedulePoint) (items : List Item) (most : ℕ) (text : List ℕ) (to : SchedulePoint) → EndsEarly sys (Auto most) from
    → LeftRun sys (past_item from) items text to → LeftRun sys from (Auto most ∷ items) text to
early-left sys from items most text to ends r = record {
  steps = r.steps;
  outcomes = r.outcomes;
  comes = ([], from.state, r.steps, auto-none sys from.state (most - from.singles) (none ends), left-all sys from.state items r.steps to.state r.comes, refl);
  run = r.run;
  lines = r.lines;
  counted = r.counted;
  idles = r.idles;
}
  where
    none : EndsEarly sys (Auto most) from → (most - from.singles ≡ 0) ⊎ AreIdle sys from.state (auto_steps sys.flow)
    none (inl all) = inl (omega (arith, all))
    none (inr takes) = inr takes.0

-- ---- moves

-- behind the next item
past-left : (sys : System) (items : List Item) (from point mid : SchedulePoint) (item : Item) (text : List ℕ) (to : SchedulePoint) → slice_get items from.ended ≡ Some item
    → point.ended ≡ from.ended → mid ≡ past_item point → LeftRun sys mid (drop mid.ended items) text to → LeftRun sys (past_item point) (drop (suc from.ended) items) text to
past-left sys items from point mid item text to at same past r =
    subst (λ xs. LeftRun sys (past_item point) xs text to)
    (ap (λ n. drop (n + 1) items) same ∙ drop_next items from.ended item (drop (suc from.ended) items) (next_item items from.ended item at))
    (subst (λ (m : SchedulePoint). LeftRun sys m (drop m.ended items) text to) past r)

turn-left : (sys : System) (items : List Item) (from mid : SchedulePoint) (item : Item) (effect : Effect) (next : Machine) (text : List ℕ) (to : SchedulePoint)
    → slice_get items from.ended ≡ Some item → DoesSingle sys item from next effect → mid ≡ after_single item from next → LeftRun sys mid (drop mid.ended items) text to
    → LeftRun sys from (drop from.ended items) (effect_text sys.flow effect ++ text) to
turn-left sys items from mid (One step) effect next text to at does e r =
    let past : mid ≡ past_item (with_step from next) = e ∙ ap (λ b. cond b (with_step from next) (past_item (with_step from next))) (le-ltb (from.singles + 1) 1 (omega arith)) in
    subst (λ xs. LeftRun sys from xs (effect_text sys.flow effect ++ text) to) (sym (next_item items from.ended (One step) at))
    (one-left sys from (drop (suc from.ended) items) step effect next text to does (past-left sys items from (with_step from next) mid (One step) text to at refl past r))
turn-left sys items from mid (Auto most) effect next text to at does e r =
    let here = next_item items from.ended (Auto most) at in
    subst (λ xs. LeftRun sys from xs (effect_text sys.flow effect ++ text) to) (sym here)
    (elim (cases_lt (from.singles + 1) most) [
      | inl more ↦ (
          let within : mid ≡ with_step from next = e ∙ ap (λ b. cond b (with_step from next) (past_item (with_step from next))) (lt-ltb (from.singles + 1) most more) in
          more-left sys from (drop (suc from.ended) items) most does.1.0 effect next text to does.0 does.1.1
          (subst (λ xs. LeftRun sys (with_step from next) xs text to) here (subst (λ (m : SchedulePoint). LeftRun sys m (drop m.ended items) text to) within r)))
      | inr all ↦ (
          let past : mid ≡ past_item (with_step from next) = e ∙ ap (λ b. cond b (with_step from next) (past_item (with_step from next))) (le-ltb (from.singles + 1) most all) in
          last-left sys from (drop (suc from.ended) items) most does.1.0 effect next text to does.0 all does.1.1
          (past-left sys items from (with_step from next) mid (Auto most) text to at refl past r))
    ])

passed-left : (sys : System) (items : List Item) (from mid : SchedulePoint) (item : Item) (text : List ℕ) (to : SchedulePoint) → slice_get items from.ended ≡ Some item
    → PassesItem sys item from → mid ≡ past_item (with_idle_step from) → LeftRun sys mid (drop mid.ended items) text to → LeftRun sys from (drop from.ended items) text to
passed-left sys items from mid (One step) text to at passes e r =
    subst (λ xs. LeftRun sys from xs text to) (sym (next_item items from.ended (One step) at))
    (pass-left sys from (drop (suc from.ended) items) step text to passes (past-left sys items from (with_idle_step from) mid (One step) text to at refl e r))
passed-left sys items from mid (Auto most) text to at passes e r = absurd passes

ended-left : (sys : System) (items : List Item) (from mid : SchedulePoint) (item : Item) (text : List ℕ) (to : SchedulePoint) → slice_get items from.ended ≡ Some item
    → EndsEarly sys item from → mid ≡ past_item from → LeftRun sys mid (drop mid.ended items) text to → LeftRun sys from (drop from.ended items) text to
ended-left sys items from mid (One step) text to at ends e r = absurd ends
ended-left sys items from mid (Auto most) text to at ends e r =
    subst (λ xs. LeftRun sys from xs text to) (sym (next_item items from.ended (Auto most) at))
    (early-left sys from (drop (suc from.ended) items) most text to ends (past-left sys items from from mid (Auto most) text to at refl e r))

-- behind the last item none is left
drop_whole : (items : List Item) (n : ℕ) → n ≡ length items → drop n items ≡ []
drop_whole [] zero e = refl
drop_whole [] (suc n) e = absurd (omega (arith, e))
drop_whole (item ∷ items) zero e = absurd (omega (arith, e))
drop_whole (item ∷ items) (suc n) e = drop_whole items n (omega (arith, e))

none-left : (sys : System) (items : List Item) (from to : SchedulePoint) → to ≡ from → to.ended ≡ length items → LeftRun sys from (drop from.ended items) [] to
none-left sys items from to same end =
    let steps : to.steps ≡ from.steps = ap (λ (p : SchedulePoint). p.steps) same in
    let idles : to.idle ≡ from.idle = ap (λ (p : SchedulePoint). p.idle) same in
    let state : to.state ≡ from.state = ap (λ (p : SchedulePoint). p.state) same in
    subst (λ xs. LeftRun sys from xs [] to) (sym (drop_whole items from.ended (ap (λ (p : SchedulePoint). p.ended) (sym same) ∙ end))) (record {
      steps = [];
      outcomes = [];
      comes = (refl, state);
      run = state;
      lines = refl;
      counted = omega (arith, steps);
      idles = omega (arith, idles);
    })

-- moves that restore no node, to the end of the items, are a run over these
pub left-runs : (sys : System) (items : List Item) (kept : KeptPoint) (from : SchedulePoint) (moves : List Move) (now : KeptPoint) (to : SchedulePoint) → AreForward moves
    → MakesAll sys items kept from moves now to → to.ended ≡ length items → LeftRun sys from (drop from.ended items) (moves_text sys.flow moves) to
left-runs sys items kept from [] now to f m end = none-left sys items from to m.1 end
left-runs sys items kept from (restored choice ∷ moves) now to f m end = absurd f.0
left-runs sys items kept from (turned effect ∷ moves) now to f (mid, (item, at, (next, does, e)), rest) end =
    turn-left sys items from mid item effect next (moves_text sys.flow moves) to at does e
    (left-runs sys items (kept_after sys.flow kept (turned effect) mid) mid moves now to f.1 rest end)
left-runs sys items kept from (passed ∷ moves) now to f (mid, (item, at, (passes, e)), rest) end =
    passed-left sys items from mid item (moves_text sys.flow moves) to at passes e (left-runs sys items kept mid moves now to f.1 rest end)
left-runs sys items kept from (ended_early ∷ moves) now to f (mid, (item, at, (ends, e)), rest) end =
    ended-left sys items from mid item (moves_text sys.flow moves) to at ends e (left-runs sys items kept mid moves now to f.1 rest end)

-- ---- the start

pub unbroken_is_run : UnbrokenIsRun
unbroken_is_run texts starts counts records before after s =
    let sys = system_in texts in
    let r = left-runs sys texts.items (kept_at_first sys) (point_at_first sys) s.moves s.now s.last s.opened.1 s.made s.so.none_left in
    let steps : length r.outcomes ≡ counts.steps = omega (arith, r.counted, s.so.steps) in
    let idles : idle_count r.outcomes ≡ counts.idle = omega (arith, r.idles, s.so.idle) in (
      s.text,
      s.wrote,
      record {
        steps = r.steps;
        last = s.last.state;
        comes = left-all sys (first_state sys) texts.items r.steps s.last.state r.comes;
        outcomes = r.outcomes;
        run = r.run;
        text = ap (λ t. t ++ done_line counts.steps counts.idle) (s.opened.0 ∙ sym r.lines)
            ∙ ap (λ n. outcomes_text sys.flow r.outcomes ++ done_line n counts.idle) (sym steps)
            ∙ ap (λ n. outcomes_text sys.flow r.outcomes ++ done_line (length r.outcomes) n) (sym idles);
      },
    )

-- ---- the call

pub first_hold-run : FirstHoldIsRun
first_hold-run flow texts records before after goes =
    let sys = spelled_system flow texts in
    let items = spelled_items flow texts in
    let on = goes.on in
    let all = goes.wrote.0 in
    let same : system_in (held_texts flow texts) ≡ sys = held-spelled flow texts in
    let made : MakesAll sys items (kept_at_first sys) (point_at_first sys) on.moves on.now on.last =
    subst (λ (s : System). MakesAll sys items (kept_at_first s) (point_at_first s) on.moves on.now on.last) same on.made in
    let r = left-runs sys items (kept_at_first sys) (point_at_first sys) on.moves on.now on.last all.restored made all.none_left in
    let steps : length r.outcomes ≡ on.last.steps = omega (arith, r.counted) in
    let idles : idle_count r.outcomes ≡ on.last.idle = omega (arith, r.idles) in (
      on.text ++ done_line on.last.steps on.last.idle,
      goes.wrote.1,
      record {
        steps = r.steps;
        last = on.last.state;
        comes = left-all sys (first_state sys) items r.steps on.last.state r.comes;
        outcomes = r.outcomes;
        run = r.run;
        text = ap (λ t. t ++ done_line on.last.steps on.last.idle) (all.opened ∙ sym r.lines)
            ∙ ap (λ n. outcomes_text sys.flow r.outcomes ++ done_line n on.last.idle) (sym steps)
            ∙ ap (λ n. outcomes_text sys.flow r.outcomes ++ done_line (length r.outcomes) n) (sym idles);
      },
    )
