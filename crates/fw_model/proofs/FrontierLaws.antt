-- Phi and psi of a frontier are frontiers.
use Rattle.std.proofs.Common.{◌&&◌, ap}
use Rattle.std.proofs.lemmas.Bool.{and_parts, and_from}
use Rattle.fw_time.specs.Stamp.{in_domain}
use Rattle.fw_flow.specs.Dataflow.{greatest_of_kind, kind_of, sender, bounds_of, is_sequence_kind, bounds_of_edge}
use Rattle.fw_flow.specs.Projection.{sent_count, phi_of_kind, phi, psi_of_kind, psi}
use Rattle.fw_model.specs.LawsOfProjections.{PhiIsFrontier, PsiIsFrontier, PhiIgnoresHistory}
use Rattle.fw_model.proofs.SenderLaws.{sends_lawfully}
use Rattle.fw_lemmas.proofs.Bools.{two_ways}

-- ---- the laws

pub phi-frontier : PhiIsFrontier
unfolding phi bounds_of
phi-frontier sys h e f fr =
    let kind = kind_of sys.flow (sender sys.flow e) in
    let count = sent_count sys h (sender sys.flow e) f in
    record {
      inside_domain = λ u k. (and_parts _ (phi_of_kind (greatest_of_kind sys.flow kind) kind count f u) k).0;
      closed = λ s u i l k.
          let a = and_parts (in_domain (bounds_of_edge sys.flow e) u) (phi_of_kind (greatest_of_kind sys.flow kind) kind count f u) k in
          and_from _ (phi_of_kind (greatest_of_kind sys.flow kind) kind count f s) i ((sends_lawfully sys.flow kind).of_phi.closed count f fr s u i a.0 l a.1);
    }

pub psi-frontier : PsiIsFrontier
unfolding psi bounds_of
psi-frontier flow e f fr =
    let kind = kind_of flow (sender flow e) in
    record {
      inside_domain = λ u k. (and_parts _ (psi_of_kind (greatest_of_kind flow kind) kind f u) k).0;
      closed = λ s u i l k.
          let a = and_parts (in_domain (bounds_of_edge flow e) u) (psi_of_kind (greatest_of_kind flow kind) kind f u) k in
          and_from _ (psi_of_kind (greatest_of_kind flow kind) kind f s) i ((sends_lawfully flow kind).of_psi.closed f fr s u i a.0 l a.1);
    }

pub phi-ignores_history : PhiIgnoresHistory
unfolding phi
phi-ignores_history sys h other e f u k =
    let i = in_domain (bounds_of_edge sys.flow e) u in
    ap (λ b. i && b) ((sends_lawfully sys.flow (kind_of sys.flow (sender sys.flow e))).of_phi.counts _ _ f u (λ c. absurd (two_ways (is_sequence_kind (kind_of sys.flow (sender sys.flow e))) (ap is_sequence_kind c) k)))
