-- An event of a node that is not failed leaves what was lost, and a step from a reached state leads to a reached one.
use Rattle.std.proofs.Common.{◌≡◌, ◌⊎◌, ℕ, true, false, List, [], ◌∷◌, ◌++◌, refl, sym, ap, ◌∙◌, inl, inr, ◌↔◌}
use Rattle.std.specs.List.{Contains}
use Rattle.std.proofs.lemmas.Bool.{both_ways, false≢true}
use Rattle.std.proofs.lemmas.List.Elements.{Contains-append_cases, Contains-append_right}
use Rattle.fw_flow.specs.declared.event.Event.{Event}
use Rattle.fw_flow.specs.declared.kind.Policy.{Policy}
use Rattle.fw_flow.specs.declared.kind.Policy.TheVariants as policy
use Rattle.fw_flow.specs.Dataflow.{System, policy_of}
use Rattle.fw_flow.specs.NodeFunction.{event_node}
use Rattle.fw_model.specs.Choice.{IsLogged}
use Rattle.fw_model.specs.Machine.{Machine, SerialEvent, Write, is_failed}
use Rattle.fw_model.specs.Steps.{with_event, write_of_event}
use Rattle.fw_model.proofs.LowLaws.{keep-append}
use Rattle.fw_model.proofs.ThinnedLaws.{each-contained}
use Rattle.fw_policy.specs.View.{IsUnlogged, IsLostAt}
use Rattle.fw_time.specs.Stamp.{Stamp}

-- what is in a list of one is this one
only-one : {A : Type 0} (x y : A) → Contains (x ∷ []) y → y ≡ x
only-one x y c = each-contained (λ z. z ≡ x) y (x ∷ []) c (refl, tt)

-- a serial that is logged among more writes is logged among these, or among the others
logged-cases : (serial : ℕ) (writes more : List Write) → IsLogged serial (writes ++ more) → IsLogged serial writes ⊎ IsLogged serial more
logged-cases serial [] more l = inr l
logged-cases serial (write ∷ writes) more l = elim l [
  | inl here ↦ inl (inl here)
  | inr later ↦ elim (logged-cases serial writes more later) [ inl a ↦ inl (inr a) | inr b ↦ inr b ]
]

-- the write of an event is in flight, and logs nothing yet
in_flight-logs_nothing : (serial p next : ℕ) (k : Policy) → IsLogged serial (write_of_event k p next) → ⊥
in_flight-logs_nothing serial p next policy.Full l = elim l [ inl here ↦ false≢true here.1 | inr none ↦ none ]
in_flight-logs_nothing serial p next k l = l

lost-before : (sys : System) (state : Machine) (v : Event) → is_failed state (event_node sys.flow v) ≡ false → (p : ℕ) (t : List ℕ)
    → is_failed state p ≡ true → IsUnlogged sys (with_event sys state v) p t → IsUnlogged sys state p t
lost-before sys state v n p t f u =
    let now : SerialEvent = record { serial = state.next; event = v } in
    elim (Contains-append_cases (now ∷ []) state.history u.event u.there) [
      | inl c ↦
          let is = only-one now u.event c in
          let node : event_node sys.flow v ≡ p = sym (ap (λ (w : SerialEvent). event_node sys.flow w.event) is) ∙ u.is.node in
          absurd (both_ways (is_failed state p) (sym (ap (is_failed state) node) ∙ n) f)
      | inr c ↦ record {
        event = u.event;
        there = c;
        is = u.is;
        not_logged = λ l. u.not_logged ((keep-append state.writes (write_of_event (policy_of sys.flow (event_node sys.flow v)) (event_node sys.flow v) state.next)).logged u.event.serial l);
      }
    ]

lost-after : (sys : System) (state : Machine) (v : Event) (p : ℕ) (t : List ℕ) → IsUnlogged sys state p t → IsUnlogged sys (with_event sys state v) p t
lost-after sys state v p t u = record {
  event = u.event;
  there = Contains-append_right (record { serial = state.next; event = v } ∷ []) state.history u.event u.there;
  is = u.is;
  not_logged = λ l.
      let q = event_node sys.flow v in
      elim (logged-cases u.event.serial state.writes (write_of_event (policy_of sys.flow q) q state.next) l) [
        | inl a ↦ u.not_logged a
        | inr b ↦ in_flight-logs_nothing u.event.serial q state.next (policy_of sys.flow q) b
      ];
}

-- an event of a node that is not failed leaves what was lost
pub lost-stays : (sys : System) (state : Machine) (v : Event) → is_failed state (event_node sys.flow v) ≡ false
    → (p : ℕ) (t : Stamp) → IsLostAt sys (with_event sys state v) p t ↔ IsLostAt sys state p t
lost-stays sys state v n p t = ((λ x. (x.0, lost-before sys state v n p t x.0 x.1)), (λ x. (x.0, lost-after sys state v p t x.1)))
