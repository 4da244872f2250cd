-- Floors stay floors: the lemmas by which the low watermark stays consistent, of the state with the floor as low watermark.
use Rattle.std.proofs.Common.{◌≡◌, ℕ, ◌<◌, ◌+◌, Bool, true, false, List, [], ◌∷◌, ◌++◌, length, map, slice_set, refl, sym, ap, subst, ◌∙◌, arith}
use Rattle.std.proofs.lemmas.List.{get_or-map, length-map}
use Rattle.fw_frontier.specs.Frontier.{Within}
use Rattle.fw_frontier.specs.Front.{Front}
use Rattle.fw_flow.specs.declared.choice.Choice.{Choice}
use Rattle.fw_flow.specs.declared.choice.Cut.{Cut}
use Rattle.fw_flow.specs.declared.choice.Cut.TheVariants.{Present, At}
use Rattle.fw_flow.specs.declared.event.Event.TheVariants.{Inject as Injected, Deliver as Delivered, Notify as Notified}
use Rattle.fw_flow.specs.declared.restoring.Restoring.{Restoring}
use Rattle.fw_flow.specs.declared.restoring.Restoring.TheVariants.{Batches, Bound, Anything, Checkpoints, Events}
use Rattle.fw_flow.specs.declared.step.Step.{Step}
use Rattle.fw_flow.specs.declared.step.Step.TheVariants.{Inject, Deliver, Notify, Progress as ProgressStep, Checkpoint, Persist, Fail, Recover, Collect, Ack}
use Rattle.fw_flow.specs.Dataflow.{System, node_ids, node_frontier}
use Rattle.fw_flow.specs.Restoring.{way_of}
use Rattle.fw_flow.specs.WellFormed.{IsWellFormedSystem}
use Rattle.fw_model.specs.Denotation.{rounds}
use Rattle.fw_model.specs.Measure.{enough_rounds}
use Rattle.fw_model.specs.Choice.{kept, IsRestorable, IsCandidate, cut_of, IsConsistent, IsLargest, IsCutWithin}
use Rattle.fw_model.specs.Machine.{Machine, front_of, is_failed, ack_count_of}
use Rattle.fw_model.specs.Settled.{IsFull}
use Rattle.fw_model.specs.Steps.{Effect, cuts, LeadsTo, front_of_cut, CutsTo, recovered_state, with_event, eager_writes, checkpoint_of, without_lost, with_failed}
use Rattle.fw_model.proofs.AskedLaws.{CanRecoverAndRestore, reached-all}
use Rattle.fw_model.proofs.CheckpointLaws.{settled-grows}
use Rattle.fw_model.proofs.ChoosingLaws.{full-of}
use Rattle.fw_lemmas.proofs.Bools.{two_ways}
use Rattle.fw_lemmas.proofs.Numbers.{at_most-refl}
use Rattle.fw_model.proofs.DenotationLaws.{denotation-exists}
use Rattle.fw_model.proofs.DomainLaws.{has_epochs}
use Rattle.fw_model.proofs.LowLaws.{event-low, same-low, recovery-low, keep-append, keep-all, keep-acknowledged, keep-failed, set-grows, offered-consistent, candidate-ever, watermark-cuts, watermark-front}
use Rattle.fw_model.proofs.SameInsideLaws.{at_node, IsLowConsistent, low_cut}
use Rattle.fw_model.specs.Choosing.{choice_at}
use Rattle.fw_model.specs.Floors.{IsFloor}
use Rattle.fw_model.specs.LawsOfFloors.{LowWatermarkIsAFloor, FloorsStay, LargestChoiceHoldsFloors, WatermarkHoldsFloors, CutOfAllIsAFloor}

-- ---- the state with a floor as low watermark

abbrev raised : Machine → List Front → Machine
raised state floor = record state { low = floor }

floor_length : (sys : System) (state : Machine) (floor : List Front) (a : IsFloor sys state floor) → length floor ≡ length sys.flow.nodes
floor_length sys state floor a = sym (length-map floor (λ f. At f)) ∙ a.consistent.one_cut_each

-- the cut of each node is its front
pub floor_cut : (sys : System) (state : Machine) (floor : List Front) (a : IsFloor sys state floor) (p : ℕ) → p < length sys.flow.nodes
    → cut_of (choice_at floor a.notices) p ≡ At (front_of floor p)
floor_cut sys state floor a p l = get_or-map (λ f. At f) floor p [] Present (omega (arith, floor_length sys state floor a))

floor-offered : (sys : System) (state : Machine) (floor : List Front) → IsFloor sys state floor → (p : ℕ) → p < length sys.flow.nodes
    → IsCandidate sys state (λ q. true) kept p (At (front_of floor p))
floor-offered sys state floor a p l =
    subst (λ x. IsCandidate sys state (λ q. true) kept p x) (floor_cut sys state floor a p l) (a.consistent.offered p l)

-- what restores a node does so whatever the low watermark is
restorable-raised : (sys : System) (state : Machine) (floor : List Front) (p : ℕ) (way : Restoring) (f : Front)
    → IsRestorable sys state kept p way f → IsRestorable sys (raised state floor) kept p way f
restorable-raised sys state floor p Batches f a = a
restorable-raised sys state floor p Bound f a = a
restorable-raised sys state floor p Anything f a = a
restorable-raised sys state floor p Checkpoints f a = a
restorable-raised sys state floor p Events f a = a

restorable-lowered : (sys : System) (state : Machine) (floor : List Front) (p : ℕ) (way : Restoring) (f : Front)
    → IsRestorable sys (raised state floor) kept p way f → IsRestorable sys state kept p way f
restorable-lowered sys state floor p Batches f a = a
restorable-lowered sys state floor p Bound f a = a
restorable-lowered sys state floor p Anything f a = a
restorable-lowered sys state floor p Checkpoints f a = a
restorable-lowered sys state floor p Events f a = a

-- a floor of a state is a consistent low watermark of the raised one
raise : (sys : System) (state : Machine) (floor : List Front) (a : IsFloor sys state floor) → IsLowConsistent sys (raised state floor) a.notices
raise sys state floor a =
    let c = a.consistent in
    record {
      one_cut_each = c.one_cut_each;
      one_notice_each = c.one_notice_each;
      offered = λ p l.
          let b = floor-offered sys state floor a p l in
          subst (λ x. IsCandidate sys (raised state floor) (λ q. true) kept p x) (sym (floor_cut sys state floor a p l)) (
            b.0,
            restorable-raised sys state floor p (way_of sys.flow p) (front_of floor p) b.1,
            λ t i. i,
          );
      canonical = c.canonical;
      delivered = c.delivered;
      discarded = c.discarded;
      notified = c.notified;
      own = c.own;
      notices = c.notices;
    }

-- and the other way round, where it holds the low watermark
lower : (sys : System) (state : Machine) (floor notices : List Front) → IsLowConsistent sys (raised state floor) notices
    → ((p : ℕ) → p < length sys.flow.nodes → Within (at_node sys state.low p) (at_node sys floor p)) → IsFloor sys state floor
lower sys state floor notices c holds =
    let long : length floor ≡ length sys.flow.nodes = sym (length-map floor (λ f. At f)) ∙ c.one_cut_each in
    record {
      notices = notices;
      consistent = record {
        one_cut_each = c.one_cut_each;
        one_notice_each = c.one_notice_each;
        offered = λ p l.
            let e : cut_of (choice_at floor notices) p ≡ At (front_of floor p) = low_cut (raised state floor) notices p (omega (arith, long)) in
            let b = subst (λ x. IsCandidate sys (raised state floor) (λ q. true) kept p x) e (c.offered p l) in
            subst (λ x. IsCandidate sys state (λ q. true) kept p x) (sym e) (
              b.0,
              restorable-lowered sys state floor p (way_of sys.flow p) (front_of floor p) b.1,
              holds p l,
            );
        canonical = c.canonical;
        delivered = c.delivered;
        discarded = c.discarded;
        notified = c.notified;
        own = c.own;
        notices = c.notices;
      };
    }

-- a floor holds the low watermark
holds-low : (sys : System) (state : Machine) (floor : List Front) → IsFloor sys state floor → (p : ℕ) → p < length sys.flow.nodes
    → Within (at_node sys state.low p) (at_node sys floor p)
holds-low sys state floor a p l = (floor-offered sys state floor a p l).2

-- ---- a floor and other choices

-- whichever nodes count as failed, a floor is consistent
pub floor-consistent : (sys : System) (state : Machine) (floor : List Front) (lost : ℕ → Bool) (a : IsFloor sys state floor)
    → IsConsistent sys state (IsCandidate sys state lost kept) (choice_at floor a.notices)
floor-consistent sys state floor lost a =
    offered-consistent sys state (λ q. true) lost kept kept (choice_at floor a.notices)
    (λ q k b.
    let g = floor_cut sys state floor a q k in
    subst (λ x. IsCandidate sys state lost kept q x) (sym g) (candidate-ever sys state lost kept q (At (front_of floor q)) (floor-offered sys state floor a q k)))
    a.consistent

pub holds-floors : LargestChoiceHoldsFloors
holds-floors sys state floor lost choice a m p l =
    subst (λ x. IsCutWithin sys.flow p x (cut_of choice p)) (floor_cut sys state floor a p l)
    ((m.largest (choice_at floor a.notices) (floor-consistent sys state floor lost a)).cuts p l)

pub watermark-holds : WatermarkHoldsFloors
watermark-holds sys state floor next effect a t p l =
    let choice = t.0 in
    let w = holds-floors sys state floor (λ q. true) choice a t.1 p l in
    subst (λ (n : Machine). Within (node_frontier sys.flow p (front_of floor p)) (node_frontier sys.flow p (front_of n.low p))) (sym t.3)
    (subst (IsCutWithin sys.flow p (At (front_of floor p))) (sym (watermark-front sys state choice t.1.consistent p l)) w)

-- what the raised state offers, the state does
candidate-lowered : (sys : System) (state : Machine) (floor : List Front) (lost : ℕ → Bool) (p : ℕ) (cut : Cut)
    → Within (at_node sys state.low p) (at_node sys floor p)
    → IsCandidate sys (raised state floor) lost kept p cut → IsCandidate sys state lost kept p cut
candidate-lowered sys state floor lost p Present v a = a
candidate-lowered sys state floor lost p (At f) v a = (a.0, restorable-lowered sys state floor p (way_of sys.flow p) f a.1, λ t i. a.2 t (v t i))

-- and what holds the floor it offers too
candidate-raised : (sys : System) (state : Machine) (floor : List Front) (lost : ℕ → Bool) (p : ℕ) (cut : Cut)
    → IsCutWithin sys.flow p (At (front_of floor p)) cut
    → IsCandidate sys state lost kept p cut → IsCandidate sys (raised state floor) lost kept p cut
candidate-raised sys state floor lost p Present v a = a
candidate-raised sys state floor lost p (At f) v a = (a.0, restorable-raised sys state floor p (way_of sys.flow p) f a.1, v)

largest-raised : (sys : System) (state : Machine) (floor : List Front) (lost : ℕ → Bool) (choice : Choice) → IsFloor sys state floor
    → IsLargest sys state (IsCandidate sys state lost kept) choice
    → IsLargest sys (raised state floor) (IsCandidate sys (raised state floor) lost kept) choice
largest-raised sys state floor lost choice a m =
    let c = m.consistent in
    record {
      consistent = record {
        one_cut_each = c.one_cut_each;
        one_notice_each = c.one_notice_each;
        offered = λ p l. candidate-raised sys state floor lost p (cut_of choice p) (holds-floors sys state floor lost choice a m p l) (c.offered p l);
        canonical = c.canonical;
        delivered = c.delivered;
        discarded = c.discarded;
        notified = c.notified;
        own = c.own;
        notices = c.notices;
      };
      largest = λ other b. m.largest other (record {
        one_cut_each = b.one_cut_each;
        one_notice_each = b.one_notice_each;
        offered = λ p l. candidate-lowered sys state floor lost p (cut_of other p) (holds-low sys state floor a p l) (b.offered p l);
        canonical = b.canonical;
        delivered = b.delivered;
        discarded = b.discarded;
        notified = b.notified;
        own = b.own;
        notices = b.notices;
      });
    }

-- ---- steps

full-raised : (sys : System) (state : Machine) (floor : List Front) → IsFull sys state → IsFull sys (raised state floor)
full-raised sys state floor f = record { quiet = f.quiet; paid = f.paid }

cuts-raised : (sys : System) (state : Machine) (floor : List Front) (choice : Choice) (settled : List Front) → CutsTo sys state choice settled
    → CutsTo sys (raised state floor) choice settled
cuts-raised sys state floor choice settled c = record { one_each = c.one_each; each = c.each }

-- a step leaves a floor so
event-floor : (sys : System) (state : Machine) (floor : List Front) → IsWellFormedSystem sys → CanRecoverAndRestore sys state → IsFloor sys state floor
    → (step : Step) (next : Machine) (effect : Effect) → (step ≡ Collect → ⊥) → LeadsTo sys state step next effect → IsFloor sys next floor
event-floor sys state floor w r a (Inject s) next effect n t =
    let full = full-raised sys state floor (full-of sys (rounds sys (enough_rounds sys.flow)) state w (denotation-exists sys w.flow) r.recover.holds) in
    subst (λ m. IsFloor sys m floor) (sym t.3)
    (lower sys (with_event sys state (Injected s t.0)) floor a.notices
    (event-low sys (raised state floor) a.notices (Injected s t.0) w.flow full r.recover.lie_settled (raise sys state floor a) t.1) (holds-low sys state floor a))
event-floor sys state floor w r a (Deliver e at) next effect n t =
    let full = full-raised sys state floor (full-of sys (rounds sys (enough_rounds sys.flow)) state w (denotation-exists sys w.flow) r.recover.holds) in
    subst (λ m. IsFloor sys m floor) (sym t.3)
    (lower sys (with_event sys state (Delivered e t.0)) floor a.notices
    (event-low sys (raised state floor) a.notices (Delivered e t.0) w.flow full r.recover.lie_settled (raise sys state floor a) t.1.enabled) (holds-low sys state floor a))
event-floor sys state floor w r a (Notify p at) next effect n t =
    let full = full-raised sys state floor (full-of sys (rounds sys (enough_rounds sys.flow)) state w (denotation-exists sys w.flow) r.recover.holds) in
    subst (λ m. IsFloor sys m floor) (sym t.3)
    (lower sys (with_event sys state (Notified p t.0)) floor a.notices
    (event-low sys (raised state floor) a.notices (Notified p t.0) w.flow full r.recover.lie_settled (raise sys state floor a) t.1.enabled) (holds-low sys state floor a))
event-floor sys state floor w r a ProgressStep next effect n t =
    let writes = state.writes ++ eager_writes sys state t.1 (node_ids sys.flow) in
    subst (λ m. IsFloor sys m floor) (sym t.3)
    (lower sys (record state { settled = t.1; writes = writes }) floor a.notices
    (same-low sys (raised state floor) a.notices t.1 writes state.failed state.ack_counts w.flow (settled-grows sys state t.0 t.1 t.2)
    (keep-append state.writes (eager_writes sys state t.1 (node_ids sys.flow))) (λ p. at_most-refl (ack_count_of state p)) (raise sys state floor a))
    (holds-low sys state floor a))
event-floor sys state floor w r a (Checkpoint p) next effect n t =
    let more = checkpoint_of state p (front_of state.settled p) ∷ [] in
    subst (λ m. IsFloor sys m floor) (sym t.3)
    (lower sys (record state { writes = state.writes ++ more }) floor a.notices
    (same-low sys (raised state floor) a.notices state.settled (state.writes ++ more) state.failed state.ack_counts w.flow (λ q l s i. i)
    (keep-append state.writes more) (λ q. at_most-refl (ack_count_of state q)) (raise sys state floor a))
    (holds-low sys state floor a))
event-floor sys state floor w r a Persist next effect n t =
    subst (λ m. IsFloor sys m floor) (sym t.2)
    (lower sys (record state { writes = t.0 }) floor a.notices
    (same-low sys (raised state floor) a.notices state.settled t.0 state.failed state.ack_counts w.flow (λ q l s i. i)
    (keep-acknowledged state.writes t.0 t.1) (λ q. at_most-refl (ack_count_of state q)) (raise sys state floor a))
    (holds-low sys state floor a))
event-floor sys state floor w r a (Fail ps) next effect n t =
    subst (λ m. IsFloor sys m floor) (sym t.4)
    (lower sys (record state { failed = with_failed sys state ps; writes = without_lost ps state.writes }) floor a.notices
    (same-low sys (raised state floor) a.notices state.settled (without_lost ps state.writes) (with_failed sys state ps) state.ack_counts w.flow (λ q l s i. i)
    (keep-failed ps state.writes) (λ q. at_most-refl (ack_count_of state q)) (raise sys state floor a))
    (holds-low sys state floor a))
event-floor sys state floor w r a Recover next effect n t =
    subst (λ m. IsFloor sys m floor) (sym t.7)
    (lower sys (recovered_state sys state t.1 t.2) floor a.notices
    (recovery-low sys (raised state floor) a.notices t.1 t.2 w.flow (has_epochs sys w) r.recover.holds.legal (raise sys state floor a) (is_failed state)
    (largest-raised sys state floor (is_failed state) t.1 a t.5) (cuts-raised sys state floor t.1 t.2 t.6))
    (holds-low sys state floor a))
event-floor sys state floor w r a Collect next effect n t = absurd (n refl)
event-floor sys state floor w r a (Ack o) next effect n t =
    let x = t.0 in
    subst (λ m. IsFloor sys m floor) (sym t.2)
    (lower sys (record state { ack_counts = slice_set state.ack_counts o (x + 1) }) floor a.notices
    (same-low sys (raised state floor) a.notices state.settled state.writes state.failed (slice_set state.ack_counts o (x + 1)) w.flow (λ q l s i. i)
    (keep-all state.writes)
    (λ q. let at_bound = t.1.next in set-grows state.ack_counts o q (x + 1) (omega arith)) (raise sys state floor a))
    (holds-low sys state floor a))

pub floors-stay : FloorsStay
floors-stay sys state floor step next effect w r a n t =
    event-floor sys state floor w (reached-all sys w r.0 r.1 state r.2) a step next effect n t

pub low-floor : LowWatermarkIsAFloor
low-floor sys state w r =
    let f = (reached-all sys w r.0 r.1 state r.2).recover in
    record { notices = f.notices; consistent = f.watermark }

-- the choice of an effect that shows cuts
choice_in : Choice → Effect → Choice
choice_in d (cuts c) = c
choice_in d effect = d

pub cut-floor : CutOfAllIsAFloor
unfolding choice_in
cut-floor sys state next choice w r down t =
    let mine = t.1 in
    let same : choice ≡ mine = ap (choice_in choice) t.8 in
    let c = t.5.consistent in
    let at : (p : ℕ) (cut : Cut) → p < length sys.flow.nodes → IsCandidate sys state (is_failed state) kept p cut → IsCandidate sys state (λ q. true) kept p cut =
    λ p cut l b. at_failed p cut (down p l) b in
    let all = offered-consistent sys state (is_failed state) (λ q. true) kept kept mine (λ p l b. at p (cut_of mine p) l b) c in
    let floor : IsFloor sys state (map front_of_cut mine.cuts) = record {
      notices = mine.notices;
      consistent = subst (λ (xs : List Cut). IsConsistent sys state (IsCandidate sys state (λ p. true) kept) (record { cuts = xs; notices = mine.notices }))
          (sym (watermark-cuts sys state mine all)) all;
    } in
    subst (λ (x : Choice). IsFloor sys next (map front_of_cut x.cuts)) (sym same)
    (floors-stay sys state (map front_of_cut mine.cuts) Recover next (cuts choice) w r floor (λ e. absurd_step e) t)
  where
    at_failed : (p : ℕ) (cut : Cut) → is_failed state p ≡ true → IsCandidate sys state (is_failed state) kept p cut → IsCandidate sys state (λ q. true) kept p cut
    at_failed p Present d b = absurd (two_ways (is_failed state p) d b)
    at_failed p (At f) d b = b

    is_recover : Step → Bool
    is_recover Recover = true
    is_recover step = false

    absurd_step : Recover ≡ Collect → ⊥
    absurd_step e = two_ways true refl (ap is_recover e)
