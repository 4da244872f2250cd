-- What counts of a sequence: the last of its numbers covers all of them, and its table says what comes from a frontier.
use Rattle.std.proofs.Common.{◌≡◌, ℕ, true, ◌&&◌, List, map, refl, sym, ◌∙◌, ap}
use Rattle.std.specs.List.{AllByRecursion}
use Rattle.fw_lemmas.proofs.Filters.{filter-all, filter-true}
use Rattle.fw_time.specs.Stamp.{Stamp, in_domain}
use Rattle.fw_frontier.specs.Frontier.{Frontier, everything, cover}
use Rattle.fw_model.proofs.CarriedLaws.{carried-each}
use Rattle.fw_model.proofs.ThinnedLaws.{thinned-covers}
use Rattle.fw_flow.specs.declared.choice.Counted.{Counted}
use Rattle.fw_flow.specs.declared.event.Event.{Event}
use Rattle.fw_flow.specs.declared.event.Message.{Message}
use Rattle.fw_flow.specs.Dataflow.{System, kind_of, sender, receiver, bounds_of, is_sequence_kind, bounds_of_domain, out_domain_of_kind}
use Rattle.fw_flow.specs.NodeFunction.{event_stamp, sent_by}
use Rattle.fw_flow.specs.Projection.{all_inside, events_at, phi, phi_by_count, sent_count}
use Rattle.fw_model.specs.Covers.{stamps_from}
use Rattle.fw_model.specs.History.{sent_messages}
use Rattle.fw_model.specs.Offers.{stamps_on_from}
use Rattle.fw_model.proofs.CauseLaws.{inside-sent}
use Rattle.fw_model.proofs.SenderLaws.{sends_lawfully}
use Rattle.fw_model.specs.EventStamps.{StandForNumbered}

-- ---- all of it

-- what stands for a sequence covers all that it sent
pub numbered-covers : (sys : System) (h : List Event) (e : ℕ) (ms : List Counted) → StandForNumbered sys h e ms
    → AllByRecursion (λ v. in_domain (bounds_of sys.flow (sender sys.flow e)) (event_stamp v) ≡ true) (events_at sys.flow (sender sys.flow e) h)
    → cover (bounds_of sys.flow (receiver sys.flow e)) (stamps_on_from e (everything (bounds_of sys.flow (sender sys.flow e))) ms)
    ≡ cover (bounds_of sys.flow (receiver sys.flow e)) (stamps_from (everything (bounds_of sys.flow (sender sys.flow e))) (sent_messages sys h e))
numbered-covers sys h e ms s d =
    let b = bounds_of sys.flow (receiver sys.flow e) in
    let p = sender sys.flow e in
    let every = everything (bounds_of sys.flow p) in
    let kept = stamps_on_from e every ms in
    let all = map (λ (m : Message). m.at) (sent_messages sys h e) in
    ap (λ (ts : List Stamp). cover b ts) (sym (filter-true kept))
    ∙ thinned-covers b (everything b) all kept s (λ t. true) (λ t i. refl)
    ∙ ap (λ (ts : List Stamp). cover b ts) (filter-true all)
    ∙ ap (λ (xs : List Message). cover b (map (λ (m : Message). m.at) xs))
    (sym (filter-all (λ (m : Message). all_inside every m.causes) (sent_messages sys h e)
    (carried-each sys.flow e (λ (m : Message). all_inside every m.causes ≡ true) (sent_by sys p (events_at sys.flow p h)) (inside-sent sys p every (events_at sys.flow p h) d))))

-- ---- what comes from a frontier

-- it is a sequence's count that plays a part
pub counted-arrive : (sys : System) (h : List Event) (e : ℕ) (c : ℕ) (f : Frontier)
    → (is_sequence_kind (kind_of sys.flow (sender sys.flow e)) ≡ true → c ≡ sent_count sys h (sender sys.flow e) f)
    → phi_by_count sys.flow c e f ≡ phi sys h e f
unfolding phi phi_by_count
counted-arrive sys h e c f k =
    let kind = kind_of sys.flow (sender sys.flow e) in
    λ i u.
    in_domain (bounds_of_domain sys.flow (out_domain_of_kind sys.flow kind)) u
    && (sends_lawfully sys.flow kind).of_phi.counts c (sent_count sys h (sender sys.flow e) f) f u (λ s. k (ap is_sequence_kind s)) i
