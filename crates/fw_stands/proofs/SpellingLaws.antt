-- What has a spelling: the stamps of each domain, and the events that are logged.
use Rattle.std.proofs.Common.{◌≡◌, ℕ, suc, ◌<◌, ◌^◌, true, nat_le, List, [], ◌∷◌, length, refl, ap, subst, inl, inr, Some, None, arith}
use Rattle.std.specs.List.{AllByRecursion}
use Rattle.std.proofs.lemmas.Bool.{and_parts, cases_lt}
use Rattle.std.proofs.lemmas.Bool.Decides.{nat_tests}
use Rattle.std.proofs.lemmas.List.{length-append, get_or_past}
use Rattle.fw_lemmas.proofs.Each.{each-append}
use Rattle.fw_time.specs.Stamp.{Stamp, leq, in_domain}
use Rattle.fw_time.proofs.DomainLaws.{domain-leq}
use Rattle.fw_flow.specs.declared.event.Event.{Event as Happened}
use Rattle.fw_flow.specs.declared.event.Event.TheVariants.{Inject as Injected, Deliver as Delivered, Notify as Notified}
use Rattle.fw_flow.specs.declared.kind.Domain.{Domain}
use Rattle.fw_flow.specs.declared.kind.Domain.TheVariants.{Epoch, Number, Loop as InLoop}
use Rattle.fw_flow.specs.declared.node.Loop.{Loop}
use Rattle.fw_flow.specs.Dataflow.{Dataflow, receiver, bounds_of, domain_of, loops_of, parent_of, max_of, greatest_in, greatest_of, System, policy_of}
use Rattle.fw_flow.specs.NodeFunction.{event_node, event_stamp}
use Rattle.fw_flow.specs.WellFormed.{IsWellFormed, IsWellFormedSystem}
use Rattle.fw_flow.proofs.Chains.{loops-unfold, loops-few}
use Rattle.fw_flow.specs.declared.kind.Policy.TheVariants as policy
use Rattle.fw_model.specs.Machine.{events, Machine}
use Rattle.fw_model.proofs.AskedLaws.{reached-all}
use Rattle.fw_model.proofs.DomainLaws.{has_epochs}
use Rattle.fw_model.proofs.LegalLaws.{legal-in_domain, enabled-in_domain}
use Rattle.fw_model.proofs.RestoringLaws.{full-declared}
use Rattle.fw_model.specs.Reached.{IsReached}
use Rattle.fw_model.specs.History.{IsEnabled}
use Rattle.fw_record.specs.declared.record.Event.TheVariants as told_event
use Rattle.fw_record.specs.declared.record.Record.TheVariants as tagged
use Rattle.fw_bytes.specs.Sound.{IsStamp}
use Rattle.fw_record.specs.Sound.{IsSound}
use Rattle.fw_record.specs.declared.record.Event.{Event}
use Rattle.fw_stands.specs.Written.{told_of}
use Rattle.fw_stands.specs.Entries.{HasRecOf64Bits}
use Rattle.fw_stands.proofs.NumberLaws.{receiver-there}

-- ---- stamps

leq-length : (s g : Stamp) → leq s g ≡ true → length s ≡ length g
leq-length [] [] e = refl
leq-length [] (d ∷ g) e = absurd cc
leq-length (c ∷ s) [] e = absurd cc
leq-length (c ∷ s) (d ∷ g) e = ap suc (leq-length s g (and_parts (nat_le c d) (leq s g) e).1)

fit-below : (s g : Stamp) → leq s g ≡ true → AllByRecursion (λ c. c < 2 ^ 32) g → AllByRecursion (λ c. c < 2 ^ 32) s
fit-below [] g e fit = tt
fit-below (c ∷ s) [] e fit = absurd cc
fit-below (c ∷ s) (d ∷ g) e fit =
    let two = and_parts (nat_le c d) (leq s g) e in
    (below c d two.0 fit.0, fit-below s g two.1 fit.1)
  where
    below : (c d : ℕ) → nat_le c d ≡ true → d < 2 ^ 32 → c < 2 ^ 32
    below c d le lt = grind (arith, nat_tests)

stamp-below : (s g : Stamp) → leq s g ≡ true → IsStamp g → IsStamp s
stamp-below s g e sound =
    let same = leq-length s g e in
    record { some = omega (arith, same, sound.some); few = omega (arith, same, sound.few); fit = fit-below s g e sound.fit }

max-few : (flow : Dataflow) → IsWellFormed flow → (l : ℕ) → max_of flow l < 2 ^ 32
unfolding max_of
max-few flow w l = elim (cases_lt l (length flow.loops)) [
  | inl k ↦ let few = (w.limits.counters l k).1 in omega arith
  | inr past ↦
      let none = ap (λ (x : Loop). x.max) (get_or_past flow.loops l (record { name = []; max = 0; parent = None }) past) in omega arith
]

greatest-length : (flow : Dataflow) (ls : List ℕ) → length (greatest_in flow ls) ≡ suc (length ls)
greatest-length flow [] = refl
greatest-length flow (l ∷ ls) =
    let a = length-append (greatest_in flow ls) (max_of flow l ∷ []) in
    let b = greatest-length flow ls in
    omega arith

greatest-fits : (flow : Dataflow) → IsWellFormed flow → (ls : List ℕ) → AllByRecursion (λ c. c < 2 ^ 32) (greatest_in flow ls)
greatest-fits flow w [] = (omega arith, tt)
greatest-fits flow w (l ∷ ls) = each-append (λ c. c < 2 ^ 32) (greatest_in flow ls) (max_of flow l ∷ []) (greatest-fits flow w ls) (max-few flow w l, tt)

greatest-sound : (flow : Dataflow) → IsWellFormed flow → (d : Domain) → IsStamp (greatest_of flow d)
greatest-sound flow w Epoch = record { some = omega arith; few = omega arith; fit = (omega arith, tt) }
greatest-sound flow w Number = record { some = omega arith; few = omega arith; fit = (omega arith, tt) }
greatest-sound flow w (InLoop l) =
    let ls = loops_of flow (parent_of flow l) in
    let a = length-append (greatest_in flow ls) (max_of flow l ∷ []) in
    let b = greatest-length flow ls in
    let x = loops-few flow (InLoop l) in
    let y = ap length (loops-unfold flow l) in
    record {
      some = omega arith;
      few = omega arith;
      fit = each-append (λ c. c < 2 ^ 32) (greatest_in flow ls) (max_of flow l ∷ []) (greatest-fits flow w ls) (max-few flow w l, tt);
    }

bounds-sound : (flow : Dataflow) → IsWellFormed flow → (p : ℕ) → IsStamp (bounds_of flow p).greatest
unfolding bounds_of
bounds-sound flow w p = greatest-sound flow w (domain_of flow p)

-- the stamps of the domain of each node of a well-formed dataflow have a spelling, and the greatest one has
pub stamps_have_spellings : (flow : Dataflow) → IsWellFormed flow → (p : ℕ)
    → IsStamp (bounds_of flow p).greatest × ((t : Stamp) → in_domain (bounds_of flow p) t ≡ true → IsStamp t)
stamps_have_spellings flow w p = (bounds-sound flow w p, λ t i. stamp-below t (bounds_of flow p).greatest (domain-leq (bounds_of flow p) t i) (bounds-sound flow w p))

-- ---- events

-- in each state to which steps of a well-formed system lead, the record of an event that may come next at a node that logs each
-- event has a spelling, if its rec has
pub logged_events_have_spellings : (sys : System) → IsWellFormedSystem sys → (state : Machine) → IsReached sys state
    → (v : Happened) → IsEnabled sys (events state.history) v → policy_of sys.flow (event_node sys.flow v) ≡ policy.Full
    → (event : Event) → told_of v ≡ Some event → HasRecOf64Bits event → IsSound (tagged.Event (event_node sys.flow v) event)
logged_events_have_spellings sys w state r v k full event told rec =
    let h = events state.history in
    let f = reached-all sys w r.0 r.1 state r.2 in
    let legal = f.recover.holds.legal in
    let inside = enabled-in_domain sys h w.flow (has_epochs sys w) (legal-in_domain sys h w.flow (has_epochs sys w) legal) v k in
    by v (full-declared sys.flow (event_node sys.flow v) full) ((stamps_have_spellings sys.flow w.flow (event_node sys.flow v)).1 (event_stamp v) inside) told
  where
    by : (u : Happened) → event_node sys.flow u < length sys.flow.nodes → IsStamp (event_stamp u) → told_of u ≡ Some event → IsSound (tagged.Event (event_node sys.flow u) event)
    by (Injected s x) l i e = absurd cc
    by (Delivered d m) l i e =
        let is : told_event.Deliver d m.at m.rec ≡ event = cc in
        let few = w.flow.limits.nodes in
        let edges = w.flow.limits.edges in
        let there = receiver-there sys.flow (receiver sys.flow d) d l refl in
        subst (λ x. HasRecOf64Bits x → IsSound (tagged.Event (receiver sys.flow d) x)) is (λ fits. (omega arith, (omega arith, i, fits))) rec
    by (Notified p t) l i e =
        let is : told_event.Notify t ≡ event = cc in
        let few = w.flow.limits.nodes in
        subst (λ x. IsSound (tagged.Event p x)) is (omega arith, i)
