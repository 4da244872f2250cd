-- What runs show of an output at a stamp is one bag.
use Rattle.std.proofs.Common.{◌≡◌, ℕ, ◌<◌, true, List, [], ◌∷◌, length, sym, subst, ◌∙◌, inl, inr, arith}
use Rattle.std.specs.List.{AllByRecursion}
use Rattle.fw_time.specs.Stamp.{Stamp}
use Rattle.fw_bag.specs.declared.rec.Rec.{Rec}
use Rattle.fw_flow.specs.declared.step.Step.{Step}
use Rattle.fw_flow.specs.declared.step.Step.TheVariants.{Inject, Deliver, Notify, Progress as ProgressStep, Checkpoint, Persist, Fail, Recover, Collect, Ack}
use Rattle.fw_flow.specs.Dataflow.{System, Dataflow, kind_of, receiver, in_edges, is_output_kind}
use Rattle.fw_flow.specs.WellFormed.{IsWellFormed}
use Rattle.fw_model.specs.Denotation.{Family, rounds}
use Rattle.fw_model.specs.Machine.{Machine, first_state}
use Rattle.fw_flow.specs.declared.choice.Choice.{Choice}
use Rattle.fw_model.specs.Steps.{silent, acked, cuts, lows, Outcome, LeadsTo, StepsTo, Run}
use Rattle.fw_model.specs.LawsOfChoosing.{TwoRunsShowOneBag}
use Rattle.fw_model.proofs.DenotationLaws.{denotation-exists}
use Rattle.fw_model.proofs.DependenceLaws.{in_edges-each}
use Rattle.fw_model.proofs.RunLaws.{output-degree}
use Rattle.fw_model.proofs.RecoveryLaws.{acknowledged-denoted}
use Rattle.fw_model.specs.Measure.{enough_rounds}
use Rattle.fw_model.specs.Acknowledgements.{IsDenotedEffect, IsDenoted, Shows}

-- the output is declared
record IsOutput (flow : Dataflow) (o : ℕ) : Type 0 where
  declared : o < length flow.nodes
  output : is_output_kind (kind_of flow o) ≡ true

quiet-other : (o : ℕ) (t : Stamp) (recs : List Rec) → acked o t recs ≡ silent → ⊥
quiet-other o t recs e = cc

cuts-other : (o : ℕ) (t : Stamp) (recs : List Rec) (choice : Choice) → acked o t recs ≡ cuts choice → ⊥
cuts-other o t recs choice e = cc

lows-other : (o : ℕ) (t : Stamp) (recs : List Rec) (choice : Choice) → acked o t recs ≡ lows choice → ⊥
lows-other o t recs choice e = cc

one_output : (o q : ℕ) (t s : Stamp) (recs also : List Rec) → acked o t recs ≡ acked q s also → q ≡ o
one_output o q t s recs also e = cc

-- only outputs are acknowledged
took-output : (sys : System) (state : Machine) (step : Step) (next : Machine) (o : ℕ) (t : Stamp) (recs : List Rec) → LeadsTo sys state step next (acked o t recs)
    → IsOutput sys.flow o
took-output sys state (Inject s) next o t recs k = absurd (quiet-other o t recs k.4)
took-output sys state (Deliver e at) next o t recs k = absurd (quiet-other o t recs k.4)
took-output sys state (Notify p at) next o t recs k = absurd (quiet-other o t recs k.4)
took-output sys state ProgressStep next o t recs k = absurd (quiet-other o t recs k.4)
took-output sys state (Checkpoint p) next o t recs k = absurd (quiet-other o t recs k.4)
took-output sys state Persist next o t recs k = absurd (quiet-other o t recs k.3)
took-output sys state (Fail ps) next o t recs k = absurd (quiet-other o t recs k.5)
took-output sys state Recover next o t recs k = absurd (cuts-other o t recs k.1 k.8)
took-output sys state Collect next o t recs k = absurd (lows-other o t recs k.0 k.4)
took-output sys state (Ack q) next o t recs k =
    subst (IsOutput sys.flow) (one_output o q t _ recs _ k.3) (record { declared = k.1.declared; output = k.1.output })

shown-output : (sys : System) (o : ℕ) (t : Stamp) (recs : List Rec) (steps : List Step) (outcomes : List Outcome) (state last : Machine) → Run sys state steps outcomes last
    → Shows o t recs outcomes → IsOutput sys.flow o
shown-output sys o t recs [] [] state last r k = absurd k
shown-output sys o t recs [] (x ∷ xs) state last r k = absurd r
shown-output sys o t recs (s ∷ ss) [] state last r k = absurd r
shown-output sys o t recs (s ∷ ss) (x ∷ xs) state last r (inl e) = took-output sys state s r.0 o t recs (subst (λ outcome. StepsTo sys state s r.0 outcome) e r.1)
shown-output sys o t recs (s ∷ ss) (x ∷ xs) state last r (inr k) = shown-output sys o t recs ss xs r.0 last r.2 k

shown-denoted : (sys : System) (family : Family) (o : ℕ) (t : Stamp) (recs : List Rec) (outcomes : List Outcome) → AllByRecursion (IsDenoted sys family) outcomes
    → Shows o t recs outcomes → IsDenotedEffect sys family (acked o t recs)
shown-denoted sys family o t recs [] a k = absurd k
shown-denoted sys family o t recs (x ∷ xs) a (inl e) = subst (IsDenoted sys family) e a.0
shown-denoted sys family o t recs (x ∷ xs) a (inr k) = shown-denoted sys family o t recs xs a.1 k

-- an edge leads to an output
edge-to : (P : ℕ → Type 0) (xs : List ℕ) → length xs ≡ 1 → AllByRecursion P xs → (x : ℕ) × P x
edge-to P [] l a = absurd (omega arith)
edge-to P (x ∷ xs) l a = (x, a.0)

output-edge : (flow : Dataflow) → IsWellFormed flow → (o : ℕ) → IsOutput flow o → (d : ℕ) × ((d < length flow.edges) × (receiver flow d ≡ o))
output-edge flow w o k =
    edge-to (λ d. (d < length flow.edges) × (receiver flow d ≡ o)) (in_edges flow o)
    (output-degree (kind_of flow o) k.output (length (in_edges flow o)) (w.in_degrees o k.declared)) (in_edges-each flow o)

pub runs-show_one : TwoRunsShowOneBag
runs-show_one sys w steps others outcomes also last final r s o t one two a b =
    let family = rounds sys (enough_rounds sys.flow) in
    let u = denotation-exists sys w.flow in
    let d = output-edge sys.flow w.flow o (shown-output sys o t one steps outcomes (first_state sys) last r a) in
    shown-denoted sys family o t one outcomes (acknowledged-denoted sys family w u steps outcomes last r) a d.0 d.1.0 d.1.1
    ∙ sym (shown-denoted sys family o t two also (acknowledged-denoted sys family w u others also final s) b d.0 d.1.0 d.1.1)
