-- What the model asks of where the nodes of a kind send: of its send stamps, and of its projections.
use Rattle.std.specs.Prelude.{◌≡◌, ◌↔◌, ℕ, ◌≤◌, true, false, Option, Some}
use Rattle.fw_time.specs.declared.stamp.Bounds.{Bounds}
use Rattle.fw_time.specs.Stamp.{Stamp, leq, in_domain}
use Rattle.fw_frontier.specs.Frontier.{Frontier, IsFrontier, Within, everything, nothing, meet}
use Rattle.fw_flow.specs.Kind.{Kind}
use Rattle.fw_flow.specs.Dataflow.{Dataflow, domain_of_kind, out_domain_of_kind, bounds_of_domain, greatest_of_kind, send_stamp_of_kind}
use Rattle.fw_flow.specs.Projection.{phi_of_kind, psi_of_kind, psi_back_of_kind}
use Rattle.fw_model.specs.Sending.{SendsByStamp, SendsByCount, IsSentFrom, SendsAbove, SendsWithin}
use Rattle.fw_model.specs.Unions.{IsUnion}

-- Phi, by how much was sent: it grows with its frontier and with the count; of a frontier it is closed downward; it keeps
-- meets, where the count grows with the frontier; of everything it is everything; the count matters where it sends by count
-- alone; and where it sends by stamp, phi is what the send stamps say.
pub record IsLawfulPhi (within out : Bounds) (send : Stamp → Option Stamp) (by_stamp by_count : Type 0) (phi : ℕ → Frontier → Frontier) : Type 0 where
  pub grows : (m n : ℕ) (f g : Frontier) → Within f g → m ≤ n → (u : Stamp) → phi m f u ≡ true → phi n g u ≡ true
  pub closed : (n : ℕ) (f : Frontier) → IsFrontier within f → (s u : Stamp) → in_domain out s ≡ true → in_domain out u ≡ true → leq s u ≡ true
      → phi n f u ≡ true → phi n f s ≡ true
  pub meets : (count : Frontier → ℕ) → ((f g : Frontier) → Within f g → count f ≤ count g)
      → (f g : Frontier) → IsFrontier within f → IsFrontier within g
      → (u : Stamp) → phi (count f) f u ≡ true → phi (count g) g u ≡ true → phi (count (meet f g)) (meet f g) u ≡ true
  pub of_all : (n : ℕ) (u : Stamp) → in_domain out u ≡ true → phi n (everything within) u ≡ true
  pub counts : (m n : ℕ) (f : Frontier) (u : Stamp) → (by_count → m ≡ n) → phi m f u ≡ phi n f u
  pub by_stamps : (n : ℕ) (f : Frontier) → by_stamp → IsFrontier within f → (u : Stamp) → in_domain out u ≡ true
      → (phi n f u ≡ true) ↔ IsSentFrom within send f u

-- Psi: it grows with its frontier; of a frontier it is closed downward; it keeps unions; of nothing it is nothing; and where
-- it sends by stamp, psi is what the send stamps say.
pub record IsLawfulPsi (within out : Bounds) (send : Stamp → Option Stamp) (by_stamp : Type 0) (psi : Frontier → Frontier) : Type 0 where
  pub grows : (f g : Frontier) → Within f g → (u : Stamp) → psi f u ≡ true → psi g u ≡ true
  pub closed : (f : Frontier) → IsFrontier within f → (s u : Stamp) → in_domain out s ≡ true → in_domain out u ≡ true → leq s u ≡ true
      → psi f u ≡ true → psi f s ≡ true
  pub from_one : (family : ℕ → Frontier) (f : Frontier) → IsUnion family f → (u : Stamp) → psi f u ≡ true
      → (i : ℕ) × (psi (family i) u ≡ true)
  pub of_nothing : (u : Stamp) → psi nothing u ≡ false
  pub by_stamps : (f : Frontier) → by_stamp → IsFrontier within f → (u : Stamp) → in_domain out u ≡ true
      → (psi f u ≡ true) ↔ SendsAbove send f u

-- Of a sender with its events within one domain and its messages out in another: each event sends in the out domain, and
-- lesser events send at lesser stamps; phi, psi, and psi backwards where it sends by stamp.
pub record IsLawfulSender (within out : Bounds) (send : Stamp → Option Stamp) (by_stamp by_count : Type 0)
    (phi : ℕ → Frontier → Frontier) (psi back : Frontier → Frontier) : Type 0 where
  pub lands : (t s : Stamp) → in_domain within t ≡ true → send t ≡ Some s → in_domain out s ≡ true
  pub rises : (s t w : Stamp) → in_domain within t ≡ true → leq s t ≡ true → send t ≡ Some w
      → (v : Stamp) × (send s ≡ Some v) × (leq v w ≡ true)
  pub of_phi : IsLawfulPhi within out send by_stamp by_count phi
  pub of_psi : IsLawfulPsi within out send by_stamp psi
  pub of_back : (g : Frontier) → by_stamp → IsFrontier out g → (t : Stamp) → in_domain within t ≡ true → (back g t ≡ true) ↔ SendsWithin send g t

-- the nodes of a kind are such senders
abbrev pub SendsLawfully : Dataflow → Kind → Type 0
SendsLawfully flow kind =
    IsLawfulSender (bounds_of_domain flow (domain_of_kind flow kind)) (bounds_of_domain flow (out_domain_of_kind flow kind))
    (send_stamp_of_kind flow kind) (SendsByStamp flow kind) (SendsByCount kind)
    (phi_of_kind (greatest_of_kind flow kind) kind)
    (psi_of_kind (greatest_of_kind flow kind) kind)
    (psi_back_of_kind (greatest_of_kind flow kind) kind)
