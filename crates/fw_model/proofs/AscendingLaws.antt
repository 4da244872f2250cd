-- Checkpoints lie within what is settled, and ascend in order of asking.
use Rattle.std.proofs.Common.{◌≡◌, sym, subst, ℕ, List, [], ◌∷◌, ◌++◌}
use Rattle.std.specs.List.{AllByRecursion}
use Rattle.fw_lemmas.proofs.Each.{each-weaker, each-suffix}
use Rattle.fw_frontier.specs.Front.{Front, frontier_of}
use Rattle.fw_frontier.specs.Frontier.{Within}
use Rattle.fw_flow.specs.Dataflow.{bounds_of}
use Rattle.fw_model.specs.Machine.{Write, Written, checkpoint}
use Rattle.fw_model.specs.LawsOfRestoring.{CheckpointsAscend}
use Rattle.fw_model.proofs.CheckpointLaws.{HoldsSettled}
use Rattle.fw_model.proofs.ChoosingLaws.{reached}
use Rattle.fw_model.proofs.WriteLaws.{ArePairs, LiesBelow}

pairs-at : (R : ℕ → Written → ℕ → Written → Type 0) (xs ys : List Write) (x : Write) → ArePairs R (xs ++ x ∷ ys)
    → AllByRecursion (λ (y : Write). R x.node x.written y.node y.written) ys
pairs-at R [] ys x a = a.0
pairs-at R (z ∷ xs) ys x a = pairs-at R xs ys x a.1

pub checkpoints-ascend : CheckpointsAscend
checkpoints-ascend sys w steps outcomes last r earlier later write e there f low k =
    let c = reached sys w steps outcomes last r in
    let settled = subst (HoldsSettled sys last.settled write.node) k
    (each-suffix (λ (x : Write). HoldsSettled sys last.settled x.node x.written) earlier (write ∷ later) (subst (AllByRecursion (λ (x : Write). HoldsSettled sys last.settled x.node x.written)) e c.lie_settled)).0 in
    let below = pairs-at (LiesBelow sys) earlier later write (subst (ArePairs (LiesBelow sys)) e c.ascend) in
    record {
      within_settled = settled there;
      within_later = each-weaker (λ (y : Write). LiesBelow sys write.node write.written y.node y.written)
          (λ (y : Write). (g : Front) (l : List Front) → y.node ≡ write.node → y.written ≡ checkpoint g l
          → Within (frontier_of (bounds_of sys.flow write.node) f) (frontier_of (bounds_of sys.flow write.node) g)) later
          (λ y b g l n v. subst (λ (o : Written). LiesBelow sys write.node (checkpoint f low) y.node o) v
          (subst (λ (o : Written). LiesBelow sys write.node o y.node y.written) k b) (sym n) there) below;
    }
