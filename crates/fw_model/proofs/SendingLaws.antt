-- Phi and psi by the send stamps of the sender, kind by kind.
use Rattle.std.proofs.Common.{◌≡◌, ◌↔◌, ℕ, Bool, true, ◌&&◌, List, Some}
use Rattle.std.proofs.lemmas.Bool.{and_parts, and_from}
use Rattle.fw_time.specs.Stamp.{Stamp, in_domain}
use Rattle.fw_frontier.specs.Frontier.{Frontier}
use Rattle.fw_flow.specs.Kind.{Kind}
use Rattle.fw_flow.specs.Dataflow.{greatest_of_kind, System, Dataflow, kind_of, sender, domain_of_kind, out_domain_of_kind, bounds_of, bounds_of_domain, send_stamp, send_stamp_of_kind, bounds_of_edge}
use Rattle.fw_flow.specs.declared.event.Event.{Event}
use Rattle.fw_flow.specs.Projection.{sent_count, phi_of_kind, phi, psi}
use Rattle.fw_model.specs.LawsOfSending.{PhiBySendStamps, PsiBySendStamps, SendStampIsMonotone}
use Rattle.fw_model.proofs.SenderLaws.{sends_lawfully}

-- ---- the laws

-- what a test beside that of the domain says, where that one is passed
pub test_in_domain : {A : Type 0} (d test : Bool) → d ≡ true → (test ≡ true) ↔ A → ((d && test) ≡ true) ↔ A
test_in_domain d test i row = (λ k. row.0 (and_parts d test k).1, λ w. and_from d test i (row.1 w))

pub phi-by_stamp : PhiBySendStamps
unfolding phi bounds_of
phi-by_stamp sys h e f p fr u i =
    test_in_domain _ _ i ((sends_lawfully sys.flow (kind_of sys.flow (sender sys.flow e))).of_phi.by_stamps (sent_count sys h (sender sys.flow e) f) f p fr u i)

pub psi-by_stamp : PsiBySendStamps
unfolding psi bounds_of
psi-by_stamp flow e f p fr u i = test_in_domain _ _ i ((sends_lawfully flow (kind_of flow (sender flow e))).of_psi.by_stamps f p fr u i)

pub phi-in_domain : (sys : System) (h : List Event) (e : ℕ) (f : Frontier) (u : Stamp) → phi sys h e f u ≡ true → in_domain (bounds_of_edge sys.flow e) u ≡ true
unfolding phi
phi-in_domain sys h e f u k =
    (and_parts _ (phi_of_kind (greatest_of_kind sys.flow (kind_of sys.flow (sender sys.flow e))) (kind_of sys.flow (sender sys.flow e)) (sent_count sys h (sender sys.flow e) f) f u) k).0

-- ---- where messages are

pub send_stamp_of_kind-in_domain : (flow : Dataflow) (kind : Kind) (t s : Stamp) → in_domain (bounds_of_domain flow (domain_of_kind flow kind)) t ≡ true
    → send_stamp_of_kind flow kind t ≡ Some s → in_domain (bounds_of_domain flow (out_domain_of_kind flow kind)) s ≡ true
send_stamp_of_kind-in_domain flow kind t s i e = (sends_lawfully flow kind).lands t s i e

pub send_stamp-in_domain : (flow : Dataflow) (p : ℕ) (t s : Stamp) → in_domain (bounds_of flow p) t ≡ true → send_stamp flow p t ≡ Some s
    → in_domain (bounds_of_domain flow (out_domain_of_kind flow (kind_of flow p))) s ≡ true
unfolding bounds_of
send_stamp-in_domain flow p t s i e = send_stamp_of_kind-in_domain flow (kind_of flow p) t s i e

-- ---- the sending map is monotone

pub send_stamp-monotone : SendStampIsMonotone
unfolding bounds_of
send_stamp-monotone flow p s t w i l e = (sends_lawfully flow (kind_of flow p)).rises s t w i l e
