-- Phi in its frontier and in the history.
use Rattle.std.proofs.Common.{◌≡◌, ℕ, ◌+◌, ◌≤◌, Bool, true, false, cond, ◌==◌, List, [], ◌∷◌, ◌++◌, refl, arith}
use Rattle.std.proofs.lemmas.Bool.{and_parts, and_from, cond_both}
use Rattle.fw_time.specs.Stamp.{Stamp, in_domain}
use Rattle.fw_frontier.specs.Frontier.{Frontier, Within}
use Rattle.fw_flow.specs.declared.event.Event.{Event}
use Rattle.fw_flow.specs.declared.event.Message.{Message}
use Rattle.fw_flow.specs.Dataflow.{greatest_of_kind, System, kind_of, sender, out_domain_of_kind, bounds_of_domain}
use Rattle.fw_flow.specs.NodeFunction.{event_node, sent_by, sends}
use Rattle.fw_flow.specs.Projection.{events_at, all_inside, count_from, sent_count, phi_of_kind, phi, phi_by_count}
use Rattle.fw_model.specs.LawsOfProjections.{PhiByCountIsMonotone, PhiIsMonotone, PhiGrowsWithHistory}
use Rattle.fw_model.proofs.SenderLaws.{sends_lawfully}

-- ---- counts of messages

pub all_inside-monotone : (f g : Frontier) → Within f g → (cs : List Stamp) → all_inside f cs ≡ true → all_inside g cs ≡ true
all_inside-monotone f g w [] k = refl
all_inside-monotone f g w (c ∷ cs) k =
    let a = and_parts (f c) (all_inside f cs) k in
    and_from (g c) (all_inside g cs) (w c a.0) (all_inside-monotone f g w cs a.1)

count_step : (a b : Bool) (m n : ℕ) → (a ≡ true → b ≡ true) → m ≤ n → cond a (m + 1) m ≤ cond b (n + 1) n
count_step true true m n k l = omega arith
count_step true false m n k l = let e = k refl in absurd (cc)
count_step false true m n k l = omega arith
count_step false false m n k l = l

pub count-monotone : (f g : Frontier) → Within f g → (ms : List Message) → count_from f ms ≤ count_from g ms
count-monotone f g w [] = omega arith
count-monotone f g w (m ∷ ms) = count_step (all_inside f m.causes) (all_inside g m.causes) _ _ (all_inside-monotone f g w m.causes) (count-monotone f g w ms)

count_cons : (b : Bool) (m n k : ℕ) → m ≡ n + k → cond b (m + 1) m ≡ cond b (n + 1) n + k
count_cons true m n k e = omega arith
count_cons false m n k e = e

pub count-append : (f : Frontier) (xs ys : List Message) → count_from f (xs ++ ys) ≡ count_from f xs + count_from f ys
count-append f [] ys = omega arith
count-append f (m ∷ xs) ys = count_cons (all_inside f m.causes) _ _ _ (count-append f xs ys)

sent_by-longer : (sys : System) (p : ℕ) (f : Frontier) (v : Event) (vs : List Event) → count_from f (sent_by sys p vs) ≤ count_from f (sent_by sys p (v ∷ vs))
sent_by-longer sys p f v vs = omega (arith, count-append f (sends sys p vs v) (sent_by sys p vs))

pub sent_count-longer : (sys : System) (h more : List Event) (p : ℕ) (f : Frontier) → sent_count sys h p f ≤ sent_count sys (more ++ h) p f
sent_count-longer sys h [] p f = omega arith
sent_count-longer sys h (v ∷ more) p f =
    let vs = events_at sys.flow p (more ++ h) in
    let k = sent_count-longer sys h more p f in
    cond_both (event_node sys.flow v == p) (v ∷ vs) vs (λ ws. sent_count sys h p f ≤ count_from f (sent_by sys p ws))
    (λ e. omega (arith, k, sent_by-longer sys p f v vs)) (λ e. k)

-- ---- phi grows

pub phi_by_count-monotone : PhiByCountIsMonotone
unfolding phi_by_count
phi_by_count-monotone flow m n e f g w l u k =
    let kind = kind_of flow (sender flow e) in
    let i = in_domain (bounds_of_domain flow (out_domain_of_kind flow kind)) u in
    let a = and_parts i (phi_of_kind (greatest_of_kind flow kind) kind m f u) k in
    and_from i (phi_of_kind (greatest_of_kind flow kind) kind n g u) a.0
    ((sends_lawfully flow kind).of_phi.grows m n f g w l u a.1)

pub phi-monotone : PhiIsMonotone
unfolding phi phi_by_count
phi-monotone sys h e f g w =
    let p = sender sys.flow e in
    phi_by_count-monotone sys.flow (sent_count sys h p f) (sent_count sys h p g) e f g w
    (count-monotone f g w (sent_by sys p (events_at sys.flow p h)))

pub phi-longer : PhiGrowsWithHistory
unfolding phi phi_by_count
phi-longer sys h more e f =
    let p = sender sys.flow e in
    phi_by_count-monotone sys.flow (sent_count sys h p f) (sent_count sys (more ++ h) p f) e f f (λ t q. q)
    (sent_count-longer sys h more p f)
