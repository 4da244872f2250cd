-- What is told behind the lines of a step: in each state to which steps lead there is something to tell, and it is one.
use Rattle.std.proofs.Common.{◌≡◌, ℕ, true, false, List, [], ◌∷◌, ◌++◌, map, length, Option, None, Result, Ok, Err, refl, sym, ◌∙◌, ap, subst}
use Rattle.std.proofs.lemmas.Bool.{true≢false}
use Rattle.std.specs.Fmt.{decimal}
use Rattle.std.specs.Prelude.{IfOk, codes}
use Rattle.std.proofs.lemmas.List.{append-nil}
use Rattle.fw_lemmas.proofs.Bools.{two_ways}
use Rattle.fw_flow.specs.declared.choice.Choice.{Choice}
use Rattle.fw_flow.specs.declared.step.Step.{Step}
use Rattle.fw_flow.specs.declared.step.Step.TheVariants.{Inject, Deliver, Notify, Progress, Checkpoint, Persist, Fail, Recover, Collect, Ack}
use Rattle.fw_flow.specs.declared.trail.Lowering.{Lowering}
use Rattle.fw_flow.specs.Dataflow.{Dataflow, System, node_ids}
use Rattle.fw_flow.specs.WellFormed.{IsWellFormedSystem}
use Rattle.fw_model.proofs.ChoiceLaws.{largest-one}
use Rattle.fw_model.proofs.ChoosingLaws.{recovery-has_choice}
use Rattle.fw_model.specs.Auto.{IsFirstEnabled, auto_steps, edge_ids}
use Rattle.fw_model.specs.Certificates.{IsCertificate}
use Rattle.fw_model.specs.Choice.{kept, IsLargest}
use Rattle.fw_model.specs.Machine.{Machine, is_failed}
use Rattle.fw_model.specs.Offers.{IsOffered, covers_of}
use Rattle.fw_model.specs.Reached.{IsReached}
use Rattle.fw_keep.specs.Stored.{Records}
use Rattle.fw_model.specs.Steps.{Effect, silent, acked, cuts, lows, Outcome, did, idle, HaveNoRecovery, LeadsTo, StepsTo, is_recovery, offers}
use Rattle.fw_running.specs.EffectText.{outcome_text}
use Rattle.fw_running.specs.Steps.{IsStepEnabled}
use Rattle.fw_headline.proofs.OneTrailLaws.{trail_of_state-one}
use Rattle.fw_headline.proofs.TrailLaws.{has_trail, trail_of_state-largest}
use Rattle.fw_headline.specs.LawsOfTrails.{IsTrailIn}
use Rattle.fw_certify.proofs.CertificateLaws.{trail-certificate}
use Rattle.fw_certify.proofs.FollowLaws.{certificate-yes}
use Rattle.fw_certify.specs.CertificateText.{certificate_text, down_lines}
use Rattle.fw_certify.specs.declared.checker.Verdict.{Verdict}
use Rattle.fw_certify.specs.declared.checker.Verdict.TheVariants.{Yes}
use Rattle.fw_choose.specs.declared.outlook.Outlook.{Outlook}
use Rattle.fw_choose.specs.declared.viewing.Lost.TheVariants as lost
use Rattle.fw_choose.specs.Outlooks.{IsOutlookOf}
use Rattle.fw_engine.specs.declared.engine.Engine.{Engine}
use Rattle.fw_engine.specs.Engine.{ForEachState, IsNoneFailed, flow_of}
use Rattle.fw_run.specs.Explained.{AreReasonsFor, IsJudgedText, IsToldBehind, judged_text, verdict_word}
use Rattle.fw_run.specs.Reports.{AreLinesOf}
use Rattle.fw_run.specs.TellingMore.{LinesAreOne}
use Rattle.fw_command.specs.Command.{Showing, by_effect, with_certificates}

-- ---- effects

cuts-one : (one other : Choice) → cuts one ≡ cuts other → one ≡ other
cuts-one one other e = ap shown_choice e
  where
    shown_choice : Effect → Choice
    shown_choice (cuts choice) = choice
    shown_choice effect = one

not-silent : (choice : Choice) → cuts choice ≡ silent → ⊥
not-silent choice e = absurd (cc)

-- only a recovery shows cuts, and these are of the largest choice
shows-cuts : (sys : System) (state next : Machine) (step : Step) (choice : Choice) → StepsTo sys state step next (did (cuts choice))
    → (step ≡ Recover) × IsLargest sys state (offers sys state) choice
shows-cuts sys state next (Inject s) choice t = absurd (not-silent choice t.4)
shows-cuts sys state next (Deliver e at) choice t = absurd (not-silent choice t.4)
shows-cuts sys state next (Notify p at) choice t = absurd (not-silent choice t.4)
shows-cuts sys state next Progress choice t = absurd (not-silent choice t.4)
shows-cuts sys state next (Checkpoint p) choice t = absurd (not-silent choice t.4)
shows-cuts sys state next Persist choice t = absurd (not-silent choice t.3)
shows-cuts sys state next (Fail ps) choice t = absurd (not-silent choice t.5)
shows-cuts sys state next Recover choice t = (refl, subst (IsLargest sys state (offers sys state)) (sym (cuts-one choice t.1 t.8)) t.5)
shows-cuts sys state next Collect choice t = absurd (not_lows t.4)
  where
    not_lows : {low : Choice} → cuts choice ≡ lows low → ⊥
    not_lows e = absurd (cc)
shows-cuts sys state next (Ack o) choice t = absurd (let e = t.3 in cc)

-- a recovery that is enabled shows cuts
recovery-shows : (sys : System) (state next : Machine) (effect : Effect) → LeadsTo sys state Recover next effect → (choice : Choice) × (effect ≡ cuts choice)
recovery-shows sys state next effect t = (t.1, t.8)

-- ---- what is told behind lines

-- with it they are the lines of what comes of a step
pub lines-with : (showing : Showing) (sys : System) (state : Machine) (outcome : Outcome) (behind : List ℕ) → IsToldBehind showing sys state outcome behind
    → AreLinesOf showing sys state outcome (outcome_text sys.flow outcome ++ behind)
lines-with by_effect sys state outcome behind told = ap (λ (b : List ℕ). outcome_text sys.flow outcome ++ b) told ∙ append-nil (outcome_text sys.flow outcome)
lines-with with_certificates sys state outcome behind told = (behind, told, refl)

-- nothing is told behind what shows no cuts
quiet-told : (showing : Showing) (sys : System) (state : Machine) (outcome : Outcome) → ((choice : Choice) → outcome ≡ did (cuts choice) → ⊥) → IsToldBehind showing sys state outcome []
quiet-told by_effect sys state outcome none = refl
quiet-told with_certificates sys state idle none = refl
quiet-told with_certificates sys state (did silent) none = refl
quiet-told with_certificates sys state (did (acked o t recs)) none = refl
quiet-told with_certificates sys state (did (cuts choice)) none = absurd (none choice refl)
quiet-told with_certificates sys state (did (lows choice)) none = refl

is_recovery-of : (step : Step) → step ≡ Recover → is_recovery step ≡ true
is_recovery-of step e = ap is_recovery e

-- so of a step that is no recovery
pub others-told : (showing : Showing) (sys : System) (state : Machine) (step : Step) → is_recovery step ≡ false → AreReasonsFor showing sys state step []
others-told showing sys state step other next outcome t = quiet-told showing sys state outcome none
  where
    none : (choice : Choice) → outcome ≡ did (cuts choice) → ⊥
    none choice e =
        let shows = shows-cuts sys state next step choice (subst (StepsTo sys state step next) e t) in
        two_ways (is_recovery step) (is_recovery-of step shows.0) other

-- and of a recovery where no node is failed
pub none-told : (sys : System) (state : Machine) (step : Step) → IsNoneFailed state → AreReasonsFor with_certificates sys state step []
none-told sys state step live next outcome t = quiet-told with_certificates sys state outcome none
  where
    none : (choice : Choice) → outcome ≡ did (cuts choice) → ⊥
    none choice e = at step (subst (StepsTo sys state step next) e t)
      where
        recovers : LeadsTo sys state Recover next (cuts choice) → ⊥
        recovers l = two_ways (is_failed state l.0) l.4 (live l.0)

        at : (s : Step) → StepsTo sys state s next (did (cuts choice)) → ⊥
        at s l = let shows = shows-cuts sys state next s choice l in recovers (subst (λ (s : Step). LeadsTo sys state s next (cuts choice)) shows.0 l)

-- ---- of a recovery

-- what an outlook tells is the reasons of the recovery
pub outlook-told : (sys : System) (state : Machine) (step : Step) (outlook : Outlook) (lines : List ℕ) → is_recovery step ≡ true → IsStepEnabled sys state Recover
    → IsOutlookOf sys state lost.Failed outlook → lines ≡ certificate_text sys.flow outlook.descent.trail → AreReasonsFor with_certificates sys state step lines
outlook-told sys state (Inject s) outlook lines is enabled o e next outcome t = absurd (true≢false (sym is))
outlook-told sys state (Deliver d at) outlook lines is enabled o e next outcome t = absurd (true≢false (sym is))
outlook-told sys state (Notify p at) outlook lines is enabled o e next outcome t = absurd (true≢false (sym is))
outlook-told sys state Progress outlook lines is enabled o e next outcome t = absurd (true≢false (sym is))
outlook-told sys state (Checkpoint p) outlook lines is enabled o e next outcome t = absurd (true≢false (sym is))
outlook-told sys state Persist outlook lines is enabled o e next outcome t = absurd (true≢false (sym is))
outlook-told sys state (Fail ps) outlook lines is enabled o e next outcome t = absurd (true≢false (sym is))
outlook-told sys state Collect outlook lines is enabled o e next outcome t = absurd (true≢false (sym is))
outlook-told sys state (Ack p) outlook lines is enabled o e next outcome t = absurd (true≢false (sym is))
outlook-told sys state Recover outlook lines is enabled o e next idle t = absurd (t.0 enabled.0 enabled.1 enabled.2)
outlook-told sys state Recover outlook lines is enabled o e next (did silent) t = absurd (not-silent t.1 (sym t.8))
outlook-told sys state Recover outlook lines is enabled o e next (did (acked p s recs)) t = absurd (let h = t.8 in cc)
outlook-told sys state Recover outlook lines is enabled o e next (did (lows low)) t = absurd (let h = t.8 in cc)
outlook-told sys state Recover outlook lines is enabled o e next (did (cuts choice)) t =
    let shows = shows-cuts sys state next Recover choice t in
    let same : outlook.descent.choice ≡ choice = largest-one sys state (is_failed state) kept outlook.descent.choice choice o.choice shows.1 in
    record { trail = outlook.descent.trail; of_state = subst (IsTrailIn sys state (is_failed state) outlook.descent.trail) same o.trail; text = e }

-- the lines of lowerings and the word on them, as they are put together
pub judged-bytes : (flow : Dataflow) (trail : List Lowering) (verdict : Verdict) (lines word : List ℕ) (count : ℕ) → lines ≡ down_lines flow trail → count ≡ length trail → word ≡ verdict_word verdict
    → lines ++ (codes "certificate " ++ (decimal count ++ (codes " " ++ (word ++ codes "\n")))) ≡ judged_text flow trail verdict
judged-bytes flow trail verdict lines word count l n w =
    ap (λ (t : List ℕ). t ++ (codes "certificate " ++ (decimal count ++ (codes " " ++ (word ++ codes "\n"))))) l
    ∙ ap (λ (k : ℕ). down_lines flow trail ++ (codes "certificate " ++ (decimal k ++ (codes " " ++ (word ++ codes "\n"))))) n
    ∙ ap (λ (t : List ℕ). down_lines flow trail ++ (codes "certificate " ++ (decimal (length trail) ++ (codes " " ++ (t ++ codes "\n"))))) w

-- of a certificate the lines are those to which the checker says yes
judged-yes : (flow : Dataflow) (trail : List Lowering) (verdict : Verdict) → verdict ≡ Yes → judged_text flow trail verdict ≡ certificate_text flow trail
judged-yes flow trail verdict e = ap (judged_text flow trail) e

-- so it is where the lines that an engine made of its outlook are those of a certificate, if it is one
pub lines-told : (T E : Type 0) (bytes : T → List ℕ) (engine : Engine) (flow : Dataflow) (step : Step) (outlook : Outlook) (result : Result T E) → flow ≡ flow_of engine
    → is_recovery step ≡ true → ((records : Option Records) → ForEachState engine records (λ sys state. IsStepEnabled sys state Recover))
    → ((records : Option Records) → ForEachState engine records (λ sys state. IsOutlookOf sys state lost.Failed outlook))
    → IfOk result (λ text. IsJudgedText flow outlook.candidates.items outlook.descent.trail outlook.descent.choice (bytes text))
    → IfOk result (λ text. (records : Option Records) → ForEachState engine records (λ sys state. AreReasonsFor with_certificates sys state step (bytes text)))
lines-told T E bytes engine flow step outlook (Err e) same is enabled of lines = tt
lines-told T E bytes engine flow step outlook (Ok text) same is enabled of lines = λ records sys state st.
    let os = outlook.candidates.items in
    let trail = outlook.descent.trail in
    let o = of records sys state st in
    let here : sys.flow ≡ flow = sym (same ∙ st.apart.flow) in
    let c = trail-certificate sys.flow os trail outlook.descent.choice o.by_data in
    let certificate = subst (λ (f : Dataflow). IsCertificate f (covers_of f os) (IsOffered f os) trail outlook.descent.choice) here c in
    let yes = certificate-yes flow os trail outlook.descent.choice lines.0 certificate lines.1 in
    outlook-told sys state step outlook (bytes text) is (enabled records sys state st) o (lines.2 ∙ judged-yes flow trail lines.0 yes ∙ ap (λ (f : Dataflow). certificate_text f trail) (sym here))

-- in each state to which steps lead there is something to tell of each step
pub some_told : (showing : Showing) (sys : System) → IsWellFormedSystem sys → (state : Machine) → IsReached sys state → (step : Step) (next : Machine) (outcome : Outcome)
    → StepsTo sys state step next outcome → (behind : List ℕ) × IsToldBehind showing sys state outcome behind
some_told by_effect sys w state reached step next outcome t = ([], refl)
some_told with_certificates sys w state reached step next idle t = ([], refl)
some_told with_certificates sys w state reached step next (did silent) t = ([], refl)
some_told with_certificates sys w state reached step next (did (acked o s recs)) t = ([], refl)
some_told with_certificates sys w state reached step next (did (lows low)) t = ([], refl)
some_told with_certificates sys w state reached step next (did (cuts choice)) t =
    let found = has_trail sys state (is_failed state) w.flow (recovery-has_choice sys w reached.0 reached.1 state reached.2 (is_failed state)) in
    let largest = trail_of_state-largest sys state (is_failed state) found.0 found.1 w.flow found.2 in
    let shows = shows-cuts sys state next step choice t in
    let same : found.1 ≡ choice = largest-one sys state (is_failed state) kept found.1 choice largest shows.1 in (
      certificate_text sys.flow found.0,
      record { trail = found.0; of_state = subst (IsTrailIn sys state (is_failed state) found.0) same found.2; text = refl },
    )

-- and it is one
told-one : (showing : Showing) (sys : System) (state : Machine) (outcome : Outcome) (one other : List ℕ) → IsToldBehind showing sys state outcome one → IsToldBehind showing sys state outcome other
    → one ≡ other
told-one by_effect sys state outcome one other o p = o ∙ sym p
told-one with_certificates sys state idle one other o p = o ∙ sym p
told-one with_certificates sys state (did silent) one other o p = o ∙ sym p
told-one with_certificates sys state (did (acked a s recs)) one other o p = o ∙ sym p
told-one with_certificates sys state (did (lows low)) one other o p = o ∙ sym p
told-one with_certificates sys state (did (cuts choice)) one other o p =
    let same = trail_of_state-one sys state (is_failed state) o.trail p.trail choice choice o.of_state p.of_state in
    o.text ∙ ap (certificate_text sys.flow) same.0 ∙ sym p.text

-- so the lines of what comes of a step are
pub lines-one : LinesAreOne
lines-one by_effect sys state outcome one other o p = o ∙ sym p
lines-one with_certificates sys state outcome one other o p =
    let same = told-one with_certificates sys state outcome o.0 p.0 o.1 p.1 in
    o.2 ∙ ap (λ (b : List ℕ). outcome_text sys.flow outcome ++ b) same ∙ sym p.2

-- ---- of steps that are taken by themselves

mapped-none : (f : ℕ → Step) → ((n : ℕ) → is_recovery (f n) ≡ false) → (ns : List ℕ) → HaveNoRecovery (map f ns)
mapped-none f none [] = tt
mapped-none f none (n ∷ ns) = (none n, mapped-none f none ns)

none-on : (steps others : List Step) → HaveNoRecovery steps → HaveNoRecovery others → HaveNoRecovery (steps ++ others)
none-on [] others h k = k
none-on (step ∷ steps) others h k = (h.0, none-on steps others h.1 k)

none-at : (earlier later : List Step) (step : Step) → HaveNoRecovery (earlier ++ step ∷ later) → is_recovery step ≡ false
none-at [] later step h = h.0
none-at (x ∷ earlier) later step h = none-at earlier later step h.1

auto-none : (flow : Dataflow) → HaveNoRecovery (auto_steps flow)
auto-none flow = (refl, none-on deliveries _ delivered (none-on notifications _ notified (refl, none-on acks _ acknowledged injected)))
  where
    deliveries : List Step
    deliveries = map (λ e. Deliver e None) (edge_ids flow)

    notifications : List Step
    notifications = map (λ p. Notify p None) (node_ids flow)

    acks : List Step
    acks = map Ack (node_ids flow)

    delivered : HaveNoRecovery deliveries
    delivered = mapped-none (λ e. Deliver e None) (λ n. refl) (edge_ids flow)

    notified : HaveNoRecovery notifications
    notified = mapped-none (λ p. Notify p None) (λ n. refl) (node_ids flow)

    acknowledged : HaveNoRecovery acks
    acknowledged = mapped-none Ack (λ n. refl) (node_ids flow)

    injected : HaveNoRecovery (map Inject (node_ids flow))
    injected = mapped-none Inject (λ n. refl) (node_ids flow)

-- their lines are those of their effects, whatever is shown
pub auto-told : (showing : Showing) (sys : System) (state next : Machine) (step : Step) (effect : Effect) → IsFirstEnabled sys state (auto_steps sys.flow) step next effect
    → AreLinesOf showing sys state (did effect) (outcome_text sys.flow (did effect))
auto-told showing sys state next step effect f =
    let other = none-at f.earlier f.later step (subst HaveNoRecovery f.among (auto-none sys.flow)) in
    subst (AreLinesOf showing sys state (did effect)) (append-nil (outcome_text sys.flow (did effect)))
    (lines-with showing sys state (did effect) [] (others-told showing sys state step other next (did effect) f.leads))
