-- Psi backwards, by the send stamps of the sender, and that it is the largest.
use Rattle.std.proofs.Common.{◌≡◌, ℕ, true}
use Rattle.std.proofs.lemmas.Bool.{and_parts}
use Rattle.fw_time.specs.Stamp.{Stamp, in_domain}
use Rattle.fw_time.proofs.StampLaws.{leq-refl, leq-trans}
use Rattle.fw_frontier.specs.Frontier.{Frontier}
use Rattle.fw_flow.specs.Dataflow.{kind_of, sender, greatest_of_kind, bounds_of, bounds_of_edge, Dataflow}
use Rattle.fw_flow.specs.Projection.{psi, psi_back_of_kind, psi_back}
use Rattle.fw_model.proofs.LesserLaws.{lesser-in_domain}
use Rattle.fw_model.specs.LawsOfSending.{PsiBackBySendStamps, PsiBackIsLargest}
use Rattle.fw_model.proofs.SendingLaws.{test_in_domain, psi-by_stamp, send_stamp-in_domain}
use Rattle.fw_model.proofs.SenderLaws.{sends_lawfully}

-- ---- the laws

pub psi_back-by_stamp : PsiBackBySendStamps
unfolding psi_back bounds_of
psi_back-by_stamp flow e g p fr t i = test_in_domain _ _ i ((sends_lawfully flow (kind_of flow (sender flow e))).of_back g p fr t i)

psi_back-in_domain : (flow : Dataflow) (e : ℕ) (g : Frontier) (t : Stamp) → psi_back flow e g t ≡ true → in_domain (bounds_of flow (sender flow e)) t ≡ true
unfolding psi_back bounds_of
psi_back-in_domain flow e g t k =
    let kind = kind_of flow (sender flow e) in
    (and_parts _ (psi_back_of_kind (greatest_of_kind flow kind) kind g t) k).0

psi-in_domain : (flow : Dataflow) (e : ℕ) (f : Frontier) (u : Stamp) → psi flow e f u ≡ true → in_domain (bounds_of_edge flow e) u ≡ true
unfolding psi
psi-in_domain flow e f u k = (and_parts (in_domain (bounds_of_edge flow e) u) _ k).0

pub psi_back-largest : PsiBackIsLargest
psi_back-largest flow e g p fg = (
  record {
    inside_domain = psi_back-in_domain flow e g;
    closed = λ s t i l k.
        let within = (psi_back-by_stamp flow e g p fg t (psi_back-in_domain flow e g t k)).0 k in
        (psi_back-by_stamp flow e g p fg s i).1 (λ r w m. within r w (leq-trans r s t m l));
  },
  λ f ff. (
    λ h t k.
        let i = ff.inside_domain t k in
        (psi_back-by_stamp flow e g p fg t i).1
        (λ s w l x.
        let j = lesser-in_domain flow (sender flow e) s t l i in
        let d = send_stamp-in_domain flow (sender flow e) s w j x in
        h w ((psi-by_stamp flow e f p ff w d).1 (s, w, ff.closed s t j l k, x, leq-refl w))),
    λ h u k.
        let d = psi-in_domain flow e f u k in
        let y = (psi-by_stamp flow e f p ff u d).0 k in
        let i = ff.inside_domain y.0 y.2 in
        let within = (psi_back-by_stamp flow e g p fg y.0 i).0 (h y.0 y.2) in
        fg.closed u y.1 d y.4 (within y.0 y.1 (leq-refl y.0) y.3),
  ),
)
