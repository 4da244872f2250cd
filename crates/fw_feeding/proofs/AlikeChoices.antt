-- Where two lists of batches are alike in a state's history, the same is offered, consistent and largest.
use Rattle.std.proofs.Common.{◌≡◌, ℕ, Bool, cond, List, [], ◌∷◌, sym, ap, ◌∙◌, inl, inr}
use Rattle.fw_bag.specs.declared.rec.Rec.{Rec}
use Rattle.fw_frontier.specs.Frontier.{Frontier, cover, nothing}
use Rattle.fw_frontier.specs.Front.{Front}
use Rattle.fw_flow.specs.declared.choice.Choice.{Choice}
use Rattle.fw_flow.specs.declared.choice.Cut.{Cut}
use Rattle.fw_flow.specs.declared.choice.Cut.TheVariants.{Present, At}
use Rattle.fw_flow.specs.declared.restoring.Restoring.{Restoring}
use Rattle.fw_flow.specs.declared.restoring.Restoring.TheVariants.{Batches, Bound, Anything, Checkpoints, Events}
use Rattle.fw_flow.specs.Dataflow.{Dataflow, policy_of, sender, receiver, bounds_of, node_frontier}
use Rattle.fw_flow.specs.Restoring.{way_of, can_resend}
use Rattle.fw_model.specs.Choice.{View, IsRestorable, AllLogged, IsCandidate, cut_of, notice_of, kept_of, IsConsistent, IsLargest}
use Rattle.fw_model.specs.Covers.{covers_in, set_of, stamps_from, discarded_at}
use Rattle.fw_model.specs.Machine.{Machine, SerialEvent, Write, events}
use Rattle.fw_feeding.specs.Feeding.{with_batches}
use Rattle.fw_feeding.proofs.AlikeLaws.{AreAlikeIn, alike-back, messages-alike, phi-alike}

logged-alike : (flow : Dataflow) (now later : List (List (List Rec))) (p : ℕ) (f : Frontier) (writes : List Write) (h : List SerialEvent)
    → AllLogged (with_batches flow now) p f writes h → AllLogged (with_batches flow later) p f writes h
logged-alike flow now later p f writes [] l = tt
logged-alike flow now later p f writes (v ∷ h) l = (l.0, logged-alike flow now later p f writes h l.1)

restorable-alike : (flow : Dataflow) (now later : List (List (List Rec))) (state : Machine) → AreAlikeIn flow now later (events state.history)
    → (view : View) (p : ℕ) (way : Restoring) (f : Front) → IsRestorable (with_batches flow now) state view p way f → IsRestorable (with_batches flow later) state view p way f
restorable-alike flow now later state a view p Batches f (inl k) = inl k
restorable-alike flow now later state a view p Batches f (inr k) = inr (sym (a.exhausted p) ∙ k.0, k.1)
restorable-alike flow now later state a view p Bound f k = k
restorable-alike flow now later state a view p Anything f k = k
restorable-alike flow now later state a view p Checkpoints f k = k
restorable-alike flow now later state a view p Events f k =
    (k.0, logged-alike flow now later p (node_frontier flow p f) state.writes state.history k.1)

pub candidate-alike : (flow : Dataflow) (now later : List (List (List Rec))) (state : Machine) → AreAlikeIn flow now later (events state.history)
    → (lost : ℕ → Bool) (view : View) (p : ℕ) (cut : Cut) → IsCandidate (with_batches flow now) state lost view p cut → IsCandidate (with_batches flow later) state lost view p cut
candidate-alike flow now later state a lost view p Present c = c
candidate-alike flow now later state a lost view p (At f) c =
    (c.0, restorable-alike flow now later state a view p (way_of flow p) f c.1, c.2)

pub discarded-alike : (flow : Dataflow) (now later : List (List (List Rec))) (state : Machine) → AreAlikeIn flow now later (events state.history)
    → (e : ℕ) (cut : Cut) → (covers_in (with_batches flow now) state).discarded e cut ≡ (covers_in (with_batches flow later) state).discarded e cut
discarded-alike flow now later state a e Present =
    ap (λ ms. cond (can_resend (policy_of flow (sender flow e))) nothing
    (cover (bounds_of flow (receiver flow e)) (stamps_from (set_of flow (sender flow e) Present) ms)))
    (messages-alike flow now later (events state.history) a.injected e)
discarded-alike flow now later state a e (At f) =
    ap (λ ms. cond (can_resend (policy_of flow (sender flow e))) nothing
    (discarded_at flow e (way_of flow (sender flow e))
    (cover (bounds_of flow (receiver flow e)) (stamps_from (set_of flow (sender flow e) (At f)) ms)) f))
    (messages-alike flow now later (events state.history) a.injected e)

pub consistent-alike : (flow : Dataflow) (now later : List (List (List Rec))) (state : Machine) → AreAlikeIn flow now later (events state.history)
    → (lost : ℕ → Bool) (view : View) (choice : Choice)
    → IsConsistent (with_batches flow now) state (IsCandidate (with_batches flow now) state lost view) choice
    → IsConsistent (with_batches flow later) state (IsCandidate (with_batches flow later) state lost view) choice
consistent-alike flow now later state a lost view choice c =
    let h = events state.history in
    record {
      one_cut_each = c.one_cut_each;
      one_notice_each = c.one_notice_each;
      offered = λ p l. candidate-alike flow now later state a lost view p (cut_of choice p) (c.offered p l);
      canonical = c.canonical;
      delivered = λ d l t i. sym (phi-alike flow now later h a d (kept_of flow choice (sender flow d)) t) ∙ c.delivered d l t i;
      discarded = λ e l t i. c.discarded e l t (ap (λ f. f t) (discarded-alike flow now later state a e (cut_of choice (sender flow e))) ∙ i);
      notified = c.notified;
      own = c.own;
      notices = λ d l t i. sym (phi-alike flow now later h a d (notice_of flow choice (sender flow d)) t) ∙ c.notices d l t i;
    }

pub largest-alike : (flow : Dataflow) (now later : List (List (List Rec))) (state : Machine) → AreAlikeIn flow now later (events state.history)
    → (lost : ℕ → Bool) (view : View) (choice : Choice)
    → IsLargest (with_batches flow now) state (IsCandidate (with_batches flow now) state lost view) choice
    → IsLargest (with_batches flow later) state (IsCandidate (with_batches flow later) state lost view) choice
largest-alike flow now later state a lost view choice c = record {
  consistent = consistent-alike flow now later state a lost view choice c.consistent;
  largest = λ other k. c.largest other
      (consistent-alike flow later now state (alike-back flow now later (events state.history) a) lost view other k);
}
