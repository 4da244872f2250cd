-- Where two lists of batches are alike in a state's history and the second has at least as many, a step that is enabled over the first
-- is enabled over the second, leads to the same state and shows the same.
use Rattle.std.proofs.Common.{◌≡◌, ℕ, zero, suc, ◌<◌, ◌≤◌, true, List, [], ◌∷◌, length, map, get_or, refl, ap, ◌∙◌, inl, inr, arith, Bool, not, ◌&&◌, ◌||◌}
use Rattle.std.specs.List.{list_all}
use Rattle.fw_bag.specs.declared.rec.Rec.{Rec}
use Rattle.fw_frontier.specs.Front.{Front}
use Rattle.fw_flow.specs.declared.choice.Cut.{Cut}
use Rattle.fw_flow.specs.declared.choice.Cut.TheVariants.{Present, At}
use Rattle.fw_flow.specs.declared.event.Event.{Event}
use Rattle.fw_flow.specs.Kind.{Kind}
use Rattle.fw_flow.specs.declared.kind.Kind.TheVariants.{OutputNumber}
use Rattle.fw_flow.specs.declared.step.Step.{Step}
use Rattle.fw_flow.specs.declared.step.Step.TheVariants.{Inject, Deliver, Notify, Progress, Checkpoint, Persist, Fail, Recover, Collect, Ack}
use Rattle.fw_flow.specs.Dataflow.{Dataflow, kind_of, batches_of}
use Rattle.fw_model.specs.Choice.{kept, cut_of}
use Rattle.fw_model.specs.Machine.{Machine, SerialEvent, Write, Written, checkpoint, logged_event, events, front_of, is_failed}
use Rattle.fw_model.specs.Steps.{Effect, IsSettledCut, front_of_cut, lies_below, after_collection, collected_writes, HasEpoch, HasSomethingAt, LeadsTo, is_forgotten, stands_on}
use Rattle.fw_feeding.specs.Feeding.{with_batches}
use Rattle.fw_feeding.proofs.AlikeLaws.{AreAlikeIn, alike-back, complete-alike, deliverable-alike, notifiable-alike}
use Rattle.fw_feeding.proofs.AlikeChoices.{largest-alike}

-- of each node there are at least as many later
abbrev pub AreMore : Dataflow → List (List (List Rec)) → List (List (List Rec)) → Type 0
AreMore flow now later = (s : ℕ) → length (batches_of (with_batches flow now) s) ≤ length (batches_of (with_batches flow later) s)

-- ---- epochs

pub has-at : (bs : List (List (List Rec))) (x : ℕ) → HasEpoch bs x → (s : ℕ) × (x < length (get_or bs s []))
has-at [] x e = absurd e
has-at (b ∷ bs) x (inl l) = (0, l)
has-at (b ∷ bs) x (inr e) = let k = has-at bs x e in (suc k.0, k.1)

pub at-has : (bs : List (List (List Rec))) (s x : ℕ) → x < length (get_or bs s []) → HasEpoch bs x
at-has [] s x l = absurd (omega arith)
at-has (b ∷ bs) zero x l = inl l
at-has (b ∷ bs) (suc s) x l = inr (at-has bs s x l)

pub epochs-more : (flow : Dataflow) (now later : List (List (List Rec))) → AreMore flow now later → (x : ℕ) → HasEpoch now x → HasEpoch later x
unfolding batches_of
epochs-more flow now later more x e =
    let k = has-at now x e in
    let few : x < length (get_or now k.0 []) = k.1 in
    let many : length (get_or now k.0 []) ≤ length (get_or later k.0 []) = more k.0 in
    at-has later k.0 x (omega arith)

something-more : (flow : Dataflow) (now later : List (List (List Rec))) → AreMore flow now later → (h : List Event) (kind : Kind) (o x : ℕ)
    → HasSomethingAt (with_batches flow now) h kind o x → HasSomethingAt (with_batches flow later) h kind o x
something-more flow now later more h OutputNumber o x k = k
something-more flow now later more h kind o x k = elim k [ inl e ↦ inl (epochs-more flow now later more x e) | inr d ↦ inr d ]

-- ---- what a recovery cuts, and what a collection gives up

cut-alike : (flow : Dataflow) (now later : List (List (List Rec))) (p : ℕ) (cut : Cut) (before after : Front)
    → IsSettledCut (with_batches flow now) p cut before after → IsSettledCut (with_batches flow later) p cut before after
cut-alike flow now later p Present before after k = k
cut-alike flow now later p (At f) before after k = k

below-alike : (flow : Dataflow) (now later : List (List (List Rec))) (low : List Front) (h : List SerialEvent) (p : ℕ) (written : Written)
    → lies_below (with_batches flow now) low h p written ≡ lies_below (with_batches flow later) low h p written
below-alike flow now later low h p (checkpoint g kept_low) = refl
below-alike flow now later low h p (logged_event serial) = refl

-- those that stand on a write lie below alike
standing-alike : (flow : Dataflow) (now later : List (List (List Rec))) (low : List Front) (h : List SerialEvent) (stands : Write → Bool) (writes : List Write)
    → list_all (λ (other : Write). not (stands other) || lies_below (with_batches flow now) low h other.node other.written) writes
    ≡ list_all (λ (other : Write). not (stands other) || lies_below (with_batches flow later) low h other.node other.written) writes
standing-alike flow now later low h stands [] = refl
standing-alike flow now later low h stands (write ∷ writes) =
    ap (λ b. (not (stands write) || b) && list_all (λ (other : Write). not (stands other) || lies_below (with_batches flow now) low h other.node other.written) writes)
    (below-alike flow now later low h write.node write.written)
    ∙ ap (λ b. (not (stands write) || lies_below (with_batches flow later) low h write.node write.written) && b) (standing-alike flow now later low h stands writes)

forgotten-alike : (flow : Dataflow) (now later : List (List (List Rec))) (low : List Front) (h : List SerialEvent) (writes : List Write) (write : Write)
    → is_forgotten (with_batches flow now) low h writes write ≡ is_forgotten (with_batches flow later) low h writes write
forgotten-alike flow now later low h writes write =
    ap (λ b. b && list_all (λ (other : Write). not (stands_on writes other write) || lies_below (with_batches flow now) low h other.node other.written) writes)
    (below-alike flow now later low h write.node write.written)
    ∙ ap (λ b. lies_below (with_batches flow later) low h write.node write.written && b) (standing-alike flow now later low h (λ other. stands_on writes other write) writes)

staged-alike : (one two : Write → Bool) → ((write : Write) → one write ≡ two write) → (writes : List Write)
    → map (λ (write : Write). record write { stage = after_collection (one write) write.stage }) writes
    ≡ map (λ (write : Write). record write { stage = after_collection (two write) write.stage }) writes
staged-alike one two e [] = refl
staged-alike one two e (write ∷ writes) =
    ap (λ b. record write { stage = after_collection b write.stage } ∷ map (λ (x : Write). record x { stage = after_collection (one x) x.stage }) writes) (e write)
    ∙ ap (λ ws. record write { stage = after_collection (two write) write.stage } ∷ ws) (staged-alike one two e writes)

collected-alike : (flow : Dataflow) (now later : List (List (List Rec))) (low : List Front) (h : List SerialEvent) (writes : List Write)
    → collected_writes (with_batches flow now) low h writes ≡ collected_writes (with_batches flow later) low h writes
collected-alike flow now later low h writes =
    staged-alike (is_forgotten (with_batches flow now) low h writes) (is_forgotten (with_batches flow later) low h writes) (forgotten-alike flow now later low h writes) writes

-- ---- steps

pub leads-alike : (flow : Dataflow) (now later : List (List (List Rec))) → AreMore flow now later → (state : Machine)
    → AreAlikeIn flow now later (events state.history) → (step : Step) (next : Machine) (effect : Effect)
    → LeadsTo (with_batches flow now) state step next effect → LeadsTo (with_batches flow later) state step next effect
leads-alike flow now later more state a (Inject s) next effect k =
    let batch = k.1 in
    let few : k.0 < length (batches_of (with_batches flow now) s) = batch.there in
    let many : length (batches_of (with_batches flow now) s) ≤ length (batches_of (with_batches flow later) s) = more s in
    (k.0, record { input = batch.input; next = batch.next; there = omega arith }, k.2, k.3, k.4)
leads-alike flow now later more state a (Deliver e at) next effect k =
    let h = events state.history in
    let back = alike-back flow now later h a in (
      k.0,
      record {
        enabled = deliverable-alike flow now later h a e k.0 k.1.enabled;
        asked = k.1.asked;
        least = λ other i j. k.1.least other (deliverable-alike flow later now h back e other i) j;
      },
      k.2,
      k.3,
      k.4,
    )
leads-alike flow now later more state a (Notify p at) next effect k =
    let h = events state.history in
    let back = alike-back flow now later h a in (
      k.0,
      record {
        enabled = notifiable-alike flow now later h a p k.0 k.1.enabled;
        asked = k.1.asked;
        least = λ other i j. k.1.least other (notifiable-alike flow later now h back p other i) j;
      },
      k.2,
      k.3,
      k.4,
    )
leads-alike flow now later more state a Progress next effect k =
    let grows = k.2 in (
      k.0,
      k.1,
      record {
        complete = complete-alike flow now later (events state.history) a k.0 grows.complete;
        some = grows.some;
        one_each = grows.one_each;
        each = grows.each;
        failed = grows.failed;
      },
      k.3,
      k.4,
    )
leads-alike flow now later more state a (Checkpoint p) next effect k = k
leads-alike flow now later more state a Persist next effect k = k
leads-alike flow now later more state a (Fail ps) next effect k = k
leads-alike flow now later more state a Recover next effect k =
    let choice = k.1 in
    let cut = k.6 in (
      k.0,
      choice,
      k.2,
      k.3,
      k.4,
      largest-alike flow now later state a (is_failed state) kept choice k.5,
      record {
        one_each = cut.one_each;
        each = λ p l. cut-alike flow now later p (cut_of choice p) (front_of state.settled p) (front_of k.2 p) (cut.each p l);
      },
      k.7,
      k.8,
    )
leads-alike flow now later more state a Collect next effect k =
    let choice = k.0 in
    let low = map front_of_cut choice.cuts in (
      choice,
      largest-alike flow now later state a (λ p. true) kept choice k.1,
      k.2,
      k.3 ∙ ap (λ ws. record state { low = low; writes = ws }) (collected-alike flow now later low state.history state.writes),
      k.4,
    )
leads-alike flow now later more state a (Ack o) next effect k =
    let may = k.1 in (
      k.0,
      record {
        declared = may.declared;
        output = may.output;
        live = may.live;
        next = may.next;
        settled = may.settled;
        there = something-more flow now later more (events state.history) (kind_of flow o) o k.0 may.there;
      },
      k.2,
      k.3,
    )
