-- What a session answers is the text of a run.
use Rattle.std.proofs.Common.{◌≡◌, ◌≢◌, inl, inr, ℕ, Bool, List, [], ◌∷◌, ◌++◌, length, map, Option, Some, None, Result, Ok, Err, refl, sym, ap, subst, ◌∙◌}
use Rattle.std.proofs.lemmas.List.{append-nil, append_assoc}
use Rattle.std.proofs.lemmas.Grind.{flat_map-append}
use Rattle.std.specs.List.{AllByRecursion, flat_map}
use Rattle.fw_flow.specs.declared.step.Step.{Step}
use Rattle.fw_flow.specs.Dataflow.{Dataflow}
use Rattle.fw_schedule.specs.declared.item.Item.{Item}
use Rattle.fw_schedule.specs.declared.item.Item.TheVariants.{One, Auto}
use Rattle.fw_model.specs.Steps.{Effect, Outcome, did, idle}
use Rattle.fw_feeding.specs.Feeding.{with_batches}
use Rattle.fw_feeding.specs.FedRuns.{steps_among}
use Rattle.fw_running.specs.EffectText.{effect_text, outcome_text}
use Rattle.fw_run.specs.Headline.{PrintsRun}
use Rattle.fw_run.specs.Printed.{outcomes_text, done_line}
use Rattle.fw_session.specs.Session.{GoesOnBy}
use Rattle.fw_session.specs.Story.{Story, after_step, opening}
use Rattle.fw_live.specs.declared.rule.LineRule.{LineRule}
use Rattle.fw_live.specs.Answers.{Answer, Turn, refused, turned, IsAnswerTo, after_change, asks, rest_item, rests_behind, IsFaultless}
use Rattle.fw_live.specs.Asked.{Asked, Change, LineIn, none, feeds, closes, shows}
use Rattle.fw_live.specs.Life.{AreAnswers}
use Rattle.fw_live.specs.StoryText.{LivesPrintAsRuns, effects_in}
use Rattle.fw_live.specs.Taken.{Ending, all, failed, spoiled, EndsItem, EndsMaybe, EndsBoth, TakesFirsts}
use Rattle.fw_live.proofs.StoryTextLaws.{stories_print, text-of-effects}
use Rattle.fw_live.proofs.TakingLaws.{outcomes-append}

-- the lines of what a story showed
abbrev shown : Dataflow → Story → List ℕ
shown flow story = flat_map (effect_text flow) story.effects

-- this much was shown more
abbrev ShowsMore : Dataflow → Story → List ℕ → Story → Type 0
ShowsMore flow story text next = shown flow next ≡ shown flow story ++ text

shows-none : (flow : Dataflow) (story next : Story) → next ≡ story → ShowsMore flow story [] next
shows-none flow story next e = ap (shown flow) e ∙ sym (append-nil (shown flow story))

shows-both : (flow : Dataflow) (story between next : Story) (one other : List ℕ) → ShowsMore flow story one between → ShowsMore flow between other next
    → ShowsMore flow story (one ++ other) next
shows-both flow story between next one other a b = b ∙ ap (λ text. text ++ other) a ∙ append_assoc (shown flow story) one other

shows-step : (flow : Dataflow) (story next : Story) (effect : Effect) → next.effects ≡ story.effects ++ effect ∷ []
    → ShowsMore flow story (effect_text flow effect) next
shows-step flow story next effect e = ap (flat_map (effect_text flow)) e ∙ flat_map-append (effect_text flow) story.effects (effect ∷ [])
    ∙ ap (λ text. shown flow story ++ text) (append-nil (effect_text flow effect))

-- ---- steps

shows-firsts : (flow : Dataflow) (story : Story) (effects : List Effect) (next : Story) → TakesFirsts flow story effects next
    → ShowsMore flow story (flat_map (effect_text flow) effects) next
shows-firsts flow story [] next t = shows-none flow story next t
shows-firsts flow story (effect ∷ effects) next t =
    let between = after_step t.0 effect t.1 story in
    shows-both flow story between next (effect_text flow effect) (flat_map (effect_text flow) effects) (shows-step flow story between effect refl)
    (shows-firsts flow between effects next t.3)

shows-one : (flow : Dataflow) (step : Step) (outcome : Outcome) (story next : Story) → GoesOnBy flow step outcome story next
    → ShowsMore flow story (outcome_text flow outcome ++ []) next
shows-one flow step (did effect) story next g =
    subst (λ text. ShowsMore flow story text next) (sym (append-nil (effect_text flow effect)))
    (shows-step flow story next effect (ap (λ (s : Story). s.effects) g.1))
shows-one flow step idle story next g = shows-none flow story next g.1

shows-item : (flow : Dataflow) (story : Story) (item : Item) (ending : Ending) (outcomes : List Outcome) (next : Story) → ending ≢ failed
    → EndsItem flow story item ending outcomes next → ShowsMore flow story (outcomes_text flow outcomes) next
shows-item flow story (One step) all outcomes next n t =
    subst (λ xs. ShowsMore flow story (outcomes_text flow xs) next) (sym t.are) (shows-one flow step t.outcome story next t.goes_on)
shows-item flow story (Auto most) all outcomes next n t =
    subst (λ xs. ShowsMore flow story (outcomes_text flow xs) next) (sym t.are)
    (subst (λ text. ShowsMore flow story text next) (text-of-effects flow t.effects) (shows-firsts flow story t.effects next t.firsts))
shows-item flow story item failed outcomes next n t = absurd (n refl)
shows-item flow story (One step) (spoiled id) outcomes next n t =
    subst (λ xs. ShowsMore flow story (outcomes_text flow xs) next) (sym t.0) (shows-none flow story next t.1)
shows-item flow story (Auto most) (spoiled id) outcomes next n t = absurd t

shows-maybe : (flow : Dataflow) (story : Story) (item : Option Item) (ending : Ending) (outcomes : List Outcome) (next : Story) → ending ≢ failed
    → EndsMaybe flow story item ending outcomes next → ShowsMore flow story (outcomes_text flow outcomes) next
shows-maybe flow story (Some item) ending outcomes next n t = shows-item flow story item ending outcomes next n t
shows-maybe flow story None ending outcomes next n t =
    subst (λ xs. ShowsMore flow story (outcomes_text flow xs) next) (sym t.1) (shows-none flow story next t.2)

shows-pair : (flow : Dataflow) (story : Story) (first second : Option Item) (ending : Ending) (outcomes : List Outcome) (next : Story)
    → ending ≢ failed → EndsBoth flow story first second ending outcomes next → ShowsMore flow story (outcomes_text flow outcomes) next
shows-pair flow story first second ending outcomes next n (inl t) = shows-maybe flow story first ending outcomes next n t.1
shows-pair flow story first second ending outcomes next n (inr t) =
    subst (λ xs. ShowsMore flow story (outcomes_text flow xs) next) (sym t.are)
    (subst (λ text. ShowsMore flow story text next) (sym (outcomes-append flow t.before t.behind))
    (shows-both flow story t.between next (outcomes_text flow t.before) (outcomes_text flow t.behind)
    (shows-maybe flow story first all t.before t.between (λ e. absurd cc) t.takes) (shows-maybe flow t.between second ending t.behind next n t.ends)))

-- ---- answers

change-shows : (flow : Dataflow) (change : Change) (story : Story) → shown flow (after_change change story) ≡ shown flow story
change-shows flow none story = refl
change-shows flow (feeds s recs) story = refl
change-shows flow (closes s) story = refl
change-shows flow shows story = refl

effects-one : (rests : Bool) (flow : Dataflow) (story : Story) (heard : Result Asked LineRule) (answer : Answer) (next : Story)
    → IsAnswerTo rests flow story heard answer next → IsFaultless answer → ShowsMore flow story (effects_in flow (answer ∷ [])) next
effects-one rests flow story (Err rule) answer next a n =
    subst (λ x. ShowsMore flow story (effects_in flow (x ∷ [])) next) (sym a.0) (shows-none flow story next a.1)
effects-one rests flow story (Ok asked) answer next a n =
    let turn = a.0 in
    subst (λ x. ShowsMore flow story (effects_in flow (x ∷ [])) next) (sym a.1)
    (subst (λ text. ShowsMore flow story text next) (sym (append-nil (outcomes_text flow turn.outcomes)))
    (shows-pair flow (after_change asked.change story) asked.item (rest_item (rests_behind rests asked.change)) turn.ending turn.outcomes next (subst IsFaultless a.1 n) a.2.ends
    ∙ ap (λ text. text ++ outcomes_text flow turn.outcomes) (change-shows flow asked.change story)))

effects-on : (flow : Dataflow) (answer : Answer) (answers : List Answer) → effects_in flow (answer ∷ []) ++ effects_in flow answers ≡ effects_in flow (answer ∷ answers)
effects-on flow (refused rule) answers = refl
effects-on flow (turned turn) answers = ap (λ text. text ++ effects_in flow answers) (append-nil (outcomes_text flow turn.outcomes))

effects-all : (rests : Bool) (flow : Dataflow) (story : Story) (lines : List LineIn) (answers : List Answer) (last : Story)
    → AreAnswers rests flow story lines answers last → AllByRecursion IsFaultless answers → ShowsMore flow story (effects_in flow answers) last
effects-all rests flow story [] [] last a n = shows-none flow story last a
effects-all rests flow story [] (answer ∷ answers) last a n = absurd a
effects-all rests flow story (line ∷ lines) [] last a n = absurd a
effects-all rests flow story (line ∷ lines) (answer ∷ answers) last a n =
    subst (λ text. ShowsMore flow story text last) (effects-on flow answer answers)
    (shows-both flow story a.0 last (effects_in flow (answer ∷ [])) (effects_in flow answers)
    (effects-one rests flow story (asks flow story line) answer a.0 a.1 n.0) (effects-all rests flow a.0 lines answers last a.2 n.1))

pub lives_print : LivesPrintAsRuns
lives_print rests flow lines answers last a k n end on =
    subst (λ text. PrintsRun (with_batches flow end) (map One (steps_among last.actions)) (text ++ done_line (length last.effects) 0))
    (effects-all rests flow (opening flow) lines answers last a n) (stories_print flow last k end on)
