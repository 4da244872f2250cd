-- The traces of the running total follow its events.
use Rattle.std.proofs.Common.{[], drop, lit<, refl, ℕ, Bool, true, ◌∷◌, ◌≡◌, arith}
use Rattle.fw_bag.specs.declared.rec.Rec.{Rec}
use Rattle.fw_frontier.specs.Frontier.{Frontier, nothing}
use Rattle.fw_flow.specs.Dataflow.{Dataflow, System, batches_of, bounds_of, kind_of, policy_of, receiver, sender}
use Rattle.fw_flow.specs.NodeFunction.{sends}
use Rattle.fw_flow.specs.declared.event.Event.TheVariants.{Deliver as Delivered, Inject as Injected, Notify as Notified}
use Rattle.fw_model.proofs.AlikeLaws.{for-outside}
use Rattle.fw_progress.specs.Trace.{IsTraceIf, TracesFollow}
use Rattle.fw_progress.specs.declared.traces.Traces.{Traces}
use Rattle.fw_examples.specs.RunningTotal.{valued_at_epoch, totals, two_epochs}
use Rattle.fw_examples.specs.Traced.{AreTracesOfTwo, two_more_sent}
use Rattle.fw_flow.specs.KeyParts.{is_carried, part_of}
use Rattle.fw_model.specs.Carried.{carried}

-- what the input and the running total send in epoch 1
abbrev pub ten : Rec
ten = (valued_at_epoch 1 10).rec

two_traced : (flow : Dataflow) (none empty sent came told out : Traces) → totals.flow ≡ flow → ((whole : Bool) (sys : System) (p : ℕ) (base : Frontier) → IsTraceIf whole sys [] p base none)
    → TracesFollow flow (Injected 0 0) [] none empty
    → TracesFollow flow (Injected 0 1) ((1 ∷ [], ten) ∷ []) empty sent
    → TracesFollow flow (Delivered 0 (valued_at_epoch 1 10)) [] sent came
    → TracesFollow flow (Notified 1 (1 ∷ [])) ((1 ∷ [], ten) ∷ []) came told
    → TracesFollow flow (Delivered 1 (valued_at_epoch 1 10)) [] told out
    → (base : Frontier) → IsTraceIf true totals two_epochs 1 base out
unfolding kind_of receiver sender sends batches_of bounds_of carried is_carried part_of
two_traced flow none empty sent came told out same first a b c d e base =
    e true totals (drop 1 two_epochs) same (λ test. refl) 1 base
    (d true totals (drop 2 two_epochs) same (λ test. refl) 1 base (c true totals (drop 3 two_epochs) same (λ test. refl) 1 base (b true totals (drop 4 two_epochs) same (λ test. refl) 1 base
    (a true totals [] same (λ test. refl) 1 base (first true totals 1 base)))))

-- where they are its traces of two epochs, they tell epoch 1, and are its traces once the input sent more
pub two_told : (traces : Traces) → ((base : Frontier) → IsTraceIf true totals two_epochs 1 base traces) → AreTracesOfTwo traces
unfolding kind_of receiver sender sends batches_of bounds_of policy_of carried is_carried part_of
two_told traces two =
    let all = two nothing in
    record {
      two = two;
      came = (all.delivered 0 (lit< tt) refl).outside.0 refl;
      told = all.notified.outside.0 refl;
      sent = for-outside _ _ _ _ _ _ (all.sent 1 (lit< tt) refl refl) (1 ∷ []) (0, omega arith, refl) refl;
      same = refl;
      two_more = λ law base. law true totals two_epochs two_more_sent 1 base traces refl (two base);
    }

pub traces_of_two : (flow : Dataflow) (none empty sent came told out : Traces) → totals.flow ≡ flow → ((whole : Bool) (sys : System) (p : ℕ) (base : Frontier) → IsTraceIf whole sys [] p base none)
    → TracesFollow flow (Injected 0 0) [] none empty
    → TracesFollow flow (Injected 0 1) ((1 ∷ [], ten) ∷ []) empty sent
    → TracesFollow flow (Delivered 0 (valued_at_epoch 1 10)) [] sent came
    → TracesFollow flow (Notified 1 (1 ∷ [])) ((1 ∷ [], ten) ∷ []) came told
    → TracesFollow flow (Delivered 1 (valued_at_epoch 1 10)) [] told out → AreTracesOfTwo out
traces_of_two flow none empty sent came told out same first a b c d e = two_told out (two_traced flow none empty sent came told out same first a b c d e)
