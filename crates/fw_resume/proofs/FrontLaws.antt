-- The frontiers of nodes, one after the other; and what they tell of a state.
use Rattle.std.proofs.Common.{◌≡◌, ℕ, ◌+◌, true, Ok, Err, List, [], ◌∷◌, ◌++◌, length, get_or, refl, sym, ap, subst, ◌∙◌, inl, inr, arith}
use Rattle.std.specs.Prelude.{IfOk, Result}
use Rattle.std.specs.List.{AllByRecursion}
use Rattle.std.proofs.lemmas.Bool.{cases_eq}
use Rattle.std.proofs.lemmas.List.{get_or_push, get_or_append_left, length_push}
use Rattle.fw_time.specs.Stamp.{Stamp, in_domain}
use Rattle.fw_time.specs.declared.stamp.Bounds.{Bounds}
use Rattle.fw_frontier.specs.Front.{Front, IsCanonical, IsFrontOf, frontier_of}
use Rattle.fw_flow.specs.declared.kind.Policy.{Policy}
use Rattle.fw_flow.specs.declared.kind.Policy.TheVariants as policy
use Rattle.fw_flow.specs.Dataflow.{bounds_of, policy_of}
use Rattle.fw_keep.specs.declared.entry.Entry.{Entry}
use Rattle.fw_model.specs.Machine.{AreCanonical, front_of, no_stamps}
use Rattle.fw_policy.specs.Offering.{below_all, unlogged_stamps}
use Rattle.fw_root.specs.declared.root.NodeFronts.{NodeFronts}
use Rattle.fw_running.specs.declared.running.Running.{Running}
use Rattle.fw_running.specs.Kept.{lost_at}
use Rattle.fw_resume.specs.Fronts.{AreFrontsAt, AreFrontsTold, IsThirdBy, IsThirdOf, no_fronts}

pub fronts_none : (running : Running) (fronts : List NodeFronts) → fronts ≡ [] → AreFrontsTold running 0 fronts
fronts_none running fronts e = record { one_each = ap length e; each = λ p l. absurd (omega (arith, l)) }

pub fronts_more : (running : Running) (n : ℕ) (old new : List NodeFronts) (f : NodeFronts) → AreFrontsTold running n old → AreFrontsAt running n f → new ≡ old ++ f ∷ []
    → AreFrontsTold running (n + 1) new
fronts_more running n old new f a at e = record {
  one_each = ap length e ∙ length_push old f ∙ ap (λ k. k + 1) a.one_each;
  each = λ p l. elim (cases_eq p n) [
    | inl k ↦ subst (λ q. AreFrontsAt running q (get_or new q no_fronts)) (sym k)
        (subst (AreFrontsAt running n) (sym (ap (λ xs. get_or xs n no_fronts) e ∙ get_or_push old f no_fronts n a.one_each)) at)
    | inr k ↦ subst (AreFrontsAt running p) (sym (ap (λ xs. get_or xs p no_fronts) e ∙ get_or_append_left old (f ∷ []) no_fronts p (omega (arith, l, k, a.one_each)))) (a.each p (omega (arith, l, k)))
  ];
}

-- of a node that does not log its events the third frontier is without stamps
pub third_none : (running : Running) (p : ℕ) (x : Policy) (f : Front) → (x ≡ policy.Full → ⊥) → f ≡ no_stamps (bounds_of running.flow p) → IsThirdBy running p x f
third_none running p policy.None f n e = e
third_none running p policy.Lazy f n e = e
third_none running p policy.Logged f n e = e
third_none running p policy.Eager f n e = e
third_none running p policy.Full f n e = absurd (n refl)

-- of a node that does it is what is settled, cut so
pub third_full : {E : Type 0} (running : Running) (p : ℕ) (entries : List Entry) (lost : List Stamp) (settled : Front) (result : Result Front E)
    → entries ≡ running.parts.keep.entries → lost ≡ lost_at running p → settled ≡ front_of running.progress.settled p → policy_of running.flow p ≡ policy.Full
    → AreCanonical running.flow running.progress.settled
    → ((b : Bounds) → IsCanonical b settled → AllByRecursion (λ s. in_domain b s ≡ true) (unlogged_stamps p entries lost)
    → IfOk result (λ f. IsFrontOf b f (below_all (unlogged_stamps p entries lost) (frontier_of b settled))))
    → IfOk result (IsThirdOf running p)
third_full running p entries lost settled (Err e) a b c k can h = tt
third_full running p entries lost settled (Ok f) a b c k can h =
    let all : unlogged_stamps p entries lost ≡ unlogged_stamps p running.parts.keep.entries (lost_at running p) =
    ap (λ (es : List Entry). unlogged_stamps p es lost) a ∙ ap (unlogged_stamps p running.parts.keep.entries) b in
    let bs = bounds_of running.flow p in
    subst (λ (x : Policy). IsThirdBy running p x f) (sym k) (λ d.
    subst (λ (g : Front). IsFrontOf bs f (below_all (unlogged_stamps p running.parts.keep.entries (lost_at running p)) (frontier_of bs g))) c
    (subst (λ (ss : List Stamp). IsFrontOf bs f (below_all ss (frontier_of bs settled))) all
    (h bs (subst (IsCanonical bs) (sym c) (can p)) (subst (AllByRecursion (λ s. in_domain bs s ≡ true)) (sym all) d))))
