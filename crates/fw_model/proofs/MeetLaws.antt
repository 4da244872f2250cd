-- Phi of what is inside both of two frontiers, and of everything.
use Rattle.std.proofs.lemmas.Bool.{and_parts, and_from}
use Rattle.fw_lemmas.proofs.Bools.{same_tests}
use Rattle.fw_time.specs.Stamp.{in_domain}
use Rattle.fw_frontier.specs.Frontier.{everything, meet}
use Rattle.fw_flow.specs.Dataflow.{greatest_of_kind, kind_of, sender, domain_of_kind, out_domain_of_kind, bounds_of, bounds_of_domain}
use Rattle.fw_flow.specs.NodeFunction.{sent_by}
use Rattle.fw_flow.specs.Projection.{events_at, sent_count, phi_of_kind, phi}
use Rattle.fw_model.specs.LawsOfProjections.{PhiOfMeet, PhiOfEverything}
use Rattle.fw_model.proofs.PhiLaws.{count-monotone, phi-monotone}
use Rattle.fw_model.proofs.SenderLaws.{sends_lawfully}

-- ---- meet

pub phi-meet : PhiOfMeet
unfolding phi bounds_of
phi-meet sys h e f g ff fg u =
    let p = sender sys.flow e in
    let kind = kind_of sys.flow p in
    let i = in_domain (bounds_of_domain sys.flow (out_domain_of_kind sys.flow kind)) u in
    same_tests (phi sys h e (meet f g) u) (meet (phi sys h e f) (phi sys h e g) u)
    (λ k. and_from (phi sys h e f u) (phi sys h e g u)
    (phi-monotone sys h e (meet f g) f (λ t j. (and_parts (f t) (g t) j).0) u k)
    (phi-monotone sys h e (meet f g) g (λ t j. (and_parts (f t) (g t) j).1) u k))
    (λ k.
    let both = and_parts (phi sys h e f u) (phi sys h e g u) k in
    let a = and_parts i (phi_of_kind (greatest_of_kind sys.flow kind) kind (sent_count sys h p f) f u) both.0 in
    let b = and_parts i (phi_of_kind (greatest_of_kind sys.flow kind) kind (sent_count sys h p g) g u) both.1 in
    and_from i (phi_of_kind (greatest_of_kind sys.flow kind) kind (sent_count sys h p (meet f g)) (meet f g) u) a.0
    ((sends_lawfully sys.flow kind).of_phi.meets (λ x. sent_count sys h p x) (λ x y w. count-monotone x y w (sent_by sys p (events_at sys.flow p h))) f g ff fg u a.1 b.1))

-- ---- everything

pub phi-everything : PhiOfEverything
unfolding phi bounds_of
phi-everything sys h e u =
    let p = sender sys.flow e in
    let kind = kind_of sys.flow p in
    let i = in_domain (bounds_of_domain sys.flow (out_domain_of_kind sys.flow kind)) u in
    let all = everything (bounds_of_domain sys.flow (domain_of_kind sys.flow kind)) in
    same_tests (phi sys h e all u) i
    (λ k. (and_parts i (phi_of_kind (greatest_of_kind sys.flow kind) kind (sent_count sys h p all) all u) k).0)
    (λ k. and_from i (phi_of_kind (greatest_of_kind sys.flow kind) kind (sent_count sys h p all) all u) k ((sends_lawfully sys.flow kind).of_phi.of_all (sent_count sys h p all) u k))
