-- What progress leaves settled.
use Rattle.std.proofs.Common.{◌≡◌, ℕ, ◌<◌, Bool, true, false, ◌||◌, List, [], ◌∷◌, ◌++◌, length, map, refl, sym, ◌∙◌, subst, inl, inr, ◌⊎◌}
use Rattle.std.proofs.lemmas.Bool.{cases_Bool, or_left, false_from_ne_true}
use Rattle.fw_lemmas.proofs.Bools.{two_ways}
use Rattle.fw_time.specs.declared.stamp.Bounds.{Bounds}
use Rattle.fw_frontier.specs.Frontier.{Frontier, Within, join}
use Rattle.fw_frontier.specs.Front.{Front, frontier_of, same_front, IsCanonical, IsFrontOf}
use Rattle.fw_frontier.proofs.NamesLaws.{names-same}
use Rattle.fw_frontier.proofs.SameLaws.{same_front-is}
use Rattle.fw_flow.specs.declared.step.Step.TheVariants.{Progress as ProgressStep}
use Rattle.fw_flow.specs.Dataflow.{System, bounds_of, node_frontier}
use Rattle.fw_flow.specs.WellFormed.{IsWellFormedSystem}
use Rattle.fw_model.specs.Auto.{IsIdle}
use Rattle.fw_model.specs.History.{IsComplete}
use Rattle.fw_model.specs.Machine.{Machine, Write, events, family_of, front_of, is_failed}
use Rattle.fw_model.specs.Choice.{IsLogged}
use Rattle.fw_model.specs.Reached.{IsReached}
use Rattle.fw_model.specs.Steps.{GrowsTo, checkpoint_of}
use Rattle.fw_model.proofs.DescentLaws.{complete-one}
use Rattle.fw_stands.proofs.AtReached.{reached-settled}

-- ---- whether progress is enabled

-- where at each node that is not failed all that is complete is settled, the step of progress is idle
pub all_settled-idle : (sys : System) (state : Machine) (done : ℕ → Frontier) → IsComplete sys (events state.history) done
    → ((p : ℕ) → p < length sys.flow.nodes → is_failed state p ≡ false → Within (done p) (family_of sys.flow state.settled p)) → IsIdle sys state ProgressStep
all_settled-idle sys state done c within next effect t =
    let g = t.2 in
    let s = g.some in
    two_ways (node_frontier sys.flow s.0 (front_of state.settled s.0) s.1)
    (within s.0 s.2 s.3 s.1 (c.largest t.0 g.complete.admissible s.0 s.1 s.4))
    s.5

-- ---- what is settled then

-- what is settled after progress is what it is by each family that is complete
pub grows-to_complete : (sys : System) (state : Machine) (done : ℕ → Frontier) (settled : List Front) → GrowsTo sys state done settled
    → (kept : ℕ → Frontier) → IsComplete sys (events state.history) kept → GrowsTo sys state kept settled
grows-to_complete sys state done settled g kept c =
    subst (λ family. GrowsTo sys state family settled) (complete-one sys (events state.history) done kept g.complete c) g

-- a front names at least what it names of a union
joined-holds : (b : Bounds) (old new : Front) (done : Frontier) → IsFrontOf b new (join (frontier_of b old) done) → Within (frontier_of b old) (frontier_of b new)
joined-holds b old new done n t i = n.same t ∙ or_left (frontier_of b old t) (done t) i

-- what was settled is settled after progress
pub settled-holds : (sys : System) (state : Machine) (done : ℕ → Frontier) (settled : List Front) → GrowsTo sys state done settled
    → (p : ℕ) → p < length sys.flow.nodes → Within (family_of sys.flow state.settled p) (family_of sys.flow settled p)
settled-holds sys state done settled g p l = elim (cases_Bool (is_failed state p)) [
  | inl f ↦ λ t i. subst (λ front. node_frontier sys.flow p front t ≡ true) (sym (g.failed p l f)) i
  | inr f ↦ joined-holds (bounds_of sys.flow p) (front_of state.settled p) (front_of settled p) (done p) (g.each p l f)
]

-- a union with what is held is what holds it
pub joined-same : (b : Bounds) (old new : Front) (done : Frontier) → IsCanonical b old → Within done (frontier_of b old)
    → IsFrontOf b new (join (frontier_of b old) done) → new ≡ old
joined-same b old new done c within n =
    names-same b new old (join (frontier_of b old) done) n (record {
      canonical = c;
      same = λ t. sym (absorbs (frontier_of b old t) (done t) (within t));
    })
  where
    absorbs : (x y : Bool) → (y ≡ true → x ≡ true) → (x || y) ≡ x
    absorbs true y k = refl
    absorbs false true k = sym (k refl)
    absorbs false false k = refl

-- at a node at which all that is complete was settled, progress leaves what is settled as it was
pub ungrown-same : (sys : System) → IsWellFormedSystem sys → (state : Machine) → IsReached sys state
    → (done : ℕ → Frontier) (settled : List Front) → GrowsTo sys state done settled → (p : ℕ) → p < length sys.flow.nodes
    → Within (done p) (family_of sys.flow state.settled p) → front_of settled p ≡ front_of state.settled p
ungrown-same sys w state r done settled g p l within = elim (cases_Bool (is_failed state p)) [
  | inl f ↦ g.failed p l f
  | inr f ↦ joined-same (bounds_of sys.flow p) (front_of state.settled p) (front_of settled p) (done p) (reached-settled sys state w r p l) within (g.each p l f)
]

-- what is complete is settled then
pub joined-has : (b : Bounds) (old new : Front) (done : Frontier) → IsFrontOf b new (join (frontier_of b old) done) → Within done (frontier_of b new)
joined-has b old new done n t i = n.same t ∙ right (frontier_of b old t) (done t) i
  where
    right : (x y : Bool) → y ≡ true → (x || y) ≡ true
    right true y k = refl
    right false y k = k

-- at a node that is not failed and at which more is complete than was settled, progress changes what is settled
pub grown-differs : (sys : System) (state : Machine) (done : ℕ → Frontier) (settled : List Front) → GrowsTo sys state done settled
    → (p : ℕ) → p < length sys.flow.nodes → is_failed state p ≡ false → (Within (done p) (family_of sys.flow state.settled p) → ⊥)
    → same_front (front_of state.settled p) (front_of settled p) ≡ false
grown-differs sys state done settled g p l f not_within =
    false_from_ne_true (same_front (front_of state.settled p) (front_of settled p)) (λ e.
    let same = same_front-is (front_of state.settled p) (front_of settled p) e in
    not_within (λ t i. subst (λ front. node_frontier sys.flow p front t ≡ true) (sym same)
    (joined-has (bounds_of sys.flow p) (front_of state.settled p) (front_of settled p) (done p) (g.each p l f) t i)))

-- ---- what is logged

-- of writes that are put together one logs a serial where one of the first or of the others does
logged-split : (serial : ℕ) (writes more : List Write) → IsLogged serial (writes ++ more) → IsLogged serial writes ⊎ IsLogged serial more
logged-split serial [] more l = inr l
logged-split serial (x ∷ writes) more (inl l) = inl (inl l)
logged-split serial (x ∷ writes) more (inr l) = elim (logged-split serial writes more l) [ inl i ↦ inl (inr i) | inr i ↦ inr i ]

pub logged-before : (serial : ℕ) (writes more : List Write) → IsLogged serial writes → IsLogged serial (writes ++ more)
logged-before serial [] more l = absurd l
logged-before serial (x ∷ writes) more (inl l) = inl l
logged-before serial (x ∷ writes) more (inr l) = inr (logged-before serial writes more l)

-- checkpoints log nothing
checkpoints-log_none : (serial : ℕ) (state : Machine) (fronts : ℕ → Front) (ps : List ℕ) → IsLogged serial (map (λ p. checkpoint_of state p (fronts p)) ps) → ⊥
checkpoints-log_none serial state fronts [] l = l
checkpoints-log_none serial state fronts (p ∷ ps) (inl l) = l
checkpoints-log_none serial state fronts (p ∷ ps) (inr l) = checkpoints-log_none serial state fronts ps l

pub logged-without_checkpoints : (serial : ℕ) (writes : List Write) (state : Machine) (fronts : ℕ → Front) (ps : List ℕ)
    → IsLogged serial (writes ++ map (λ p. checkpoint_of state p (fronts p)) ps) → IsLogged serial writes
logged-without_checkpoints serial writes state fronts ps l =
    elim (logged-split serial writes (map (λ p. checkpoint_of state p (fronts p)) ps) l) [
      | inl i ↦ i
      | inr i ↦ absurd (checkpoints-log_none serial state fronts ps i)
    ]
