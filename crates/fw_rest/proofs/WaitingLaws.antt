-- Where `auto` has nothing to do, nothing waits.
use Rattle.std.proofs.Common.{◌≡◌, ◌<◌, false, List, [], ◌∷◌, refl, sym, ap, subst, inl, inr, ◌⊎◌, arith}
use Rattle.std.specs.List.{AllByRecursion, list_any}
use Rattle.std.proofs.lemmas.Bool.{cases_Bool, or_from, or_left}
use Rattle.fw_lemmas.proofs.Bools.{two_ways}
use Rattle.fw_lemmas.proofs.Each.{each-weaker}
use Rattle.fw_time.specs.Stamp.{Stamp, same}
use Rattle.fw_bag.specs.declared.rec.Rec.{Rec}
use Rattle.fw_flow.specs.declared.event.Message.{Message}
use Rattle.fw_flow.specs.WholeBags.{Timed}
use Rattle.fw_model.specs.History.{some_at, pending_messages, delivered_messages}
use Rattle.fw_model.specs.Machine.{Write, acknowledged, events, ack_count_of}
use Rattle.fw_model.specs.Steps.{silent, is_in_flight, AcknowledgesOldest}
use Rattle.fw_model.proofs.DescentLaws.{complete-exists}
use Rattle.fw_model.proofs.DomainLaws.{has_epochs}
use Rattle.fw_model.proofs.SentLaws.{timed_of, timed_message}
use Rattle.fw_model.proofs.StampLaws.{same-refl}
use Rattle.fw_model.proofs.SubBagLaws.{delivered_within}
use Rattle.fw_model.proofs.WeightLaws.{weigh, is_at, is_at-is, is_at-self, one, one-in, one-out}
use Rattle.fw_rest.specs.Rest.{IsAcknowledged}
use Rattle.fw_rest.specs.LawsOfRest.{NothingWaitsAtRest}
use Rattle.fw_rest.proofs.AckLaws.{rest-acknowledged}
use Rattle.fw_rest.proofs.DueLaws.{reached-legal}
use Rattle.fw_rest.proofs.IdleLaws.{idle-each, idle-settled, nothing_to_do-rest}
use Rattle.fw_rest.proofs.RestLaws.{rest-quiet, rest-exhausted, rest-complete}

-- ---- queues

none-at_all : (ms : List Message) → ((t : Stamp) → some_at (same t) ms ≡ false) → ms ≡ []
none-at_all [] h = refl
none-at_all (m ∷ ms) h = absurd (two_ways _ (or_left (same m.at m.at) (some_at (same m.at) ms) (same-refl m.at)) (h m.at))

-- ---- writes

-- each write is not in flight, or the oldest that is may be acknowledged
oldest_or_none : (writes : List Write) → ((next : List Write) × AcknowledgesOldest writes next) ⊎ AllByRecursion (λ (write : Write). is_in_flight write.stage ≡ false) writes
oldest_or_none [] = inr tt
oldest_or_none (x ∷ writes) = elim (cases_Bool (is_in_flight x.stage)) [
  | inl f ↦ inl (
    record x { stage = acknowledged } ∷ writes,
    record { earlier = []; oldest = x; later = writes; before = refl; in_flight = f; none_earlier = refl; after = refl },
  )
  | inr f ↦ elim (oldest_or_none writes) [
    | inr none ↦ inr (f, none)
    | inl g ↦
        let a = g.1 in
        inl (
          x ∷ g.0,
          record {
            earlier = x ∷ a.earlier;
            oldest = a.oldest;
            later = a.later;
            before = ap (λ xs. x ∷ xs) a.before;
            in_flight = a.in_flight;
            none_earlier = or_from (is_in_flight x.stage) (list_any (λ write. is_in_flight write.stage) a.earlier) f a.none_earlier;
            after = ap (λ xs. x ∷ xs) a.after;
          },
        )
  ]
]

-- ---- outputs

-- what holds of the stamp of each rec of a bag holds of each stamp at which there is one
weighed-at : (P : Stamp → Type 0) (xs : List Timed) → AllByRecursion (λ (r : Timed). P r.at) xs → (t : Stamp) (q : Rec) → 0 < weigh (one t q) xs → P t
unfolding weigh
weighed-at P [] a t q l = absurd (omega arith)
weighed-at P (x ∷ xs) a t q l = elim (cases_Bool (is_at t q x)) [
  | inl e ↦ let at : x.at ≡ t = sym (ap (λ (r : Timed). r.at) (is_at-is t q x e)) in subst P at a.0
  | inr e ↦ let z = one-out t q x e in weighed-at P xs a.1 t q (omega arith)
]

each-delivered : (ms : List Message) → AllByRecursion (λ (m : Message). 0 < weigh (one m.at m.rec) (timed_of ms)) ms
unfolding weigh
each-delivered [] = tt
each-delivered (m ∷ ms) =
    let z : one m.at m.rec (timed_message m) ≡ 1 = one-in m.at m.rec (timed_message m) (is_at-self (timed_message m)) in
    (omega arith, each-weaker (λ (x : Message). 0 < weigh (one x.at x.rec) (timed_of ms)) (λ (x : Message). 0 < weigh (one x.at x.rec) (timed_of (m ∷ ms))) ms (λ x l. omega arith) (each-delivered ms))

-- ---- the law

pub nothing-waits : NothingWaitsAtRest
nothing-waits sys family w den state reached live idle =
    let h = events state.history in
    let legal = reached-legal sys w state reached in
    let rest = nothing_to_do-rest sys state w.flow live idle in
    let each = idle-each sys state idle in
    let c = complete-exists sys h w.flow in
    let done = rest-complete sys h w.flow (has_epochs sys w) legal rest c.0 c.1 in
    record {
      queues = λ e. none-at_all (pending_messages sys h e) (rest-quiet sys h w.flow legal rest e);
      notices = λ p there t d. c.1.admissible.paid p t (done p there t d);
      inputs = λ s input. rest-exhausted sys h legal rest s input;
      settled = λ p there t d. idle-settled sys state each.progress c.0 c.1 p there (live p there) t (done p there t d);
      writes = elim (oldest_or_none state.writes) [
        | inr none ↦ none
        | inl g ↦ absurd (each.persist (record state { writes = g.0 }) silent (g.0, g.1, refl, refl))
      ];
      outputs = λ o e there output is.
          let all = rest-acknowledged sys family w den state reached live idle o there output in
          each-weaker (λ (m : Message). 0 < weigh (one m.at m.rec) (timed_of (delivered_messages h e))) (λ (m : Message). IsAcknowledged (ack_count_of state o) m.at) (delivered_messages h e)
          (λ m l.
          let few = delivered_within sys h family w legal den e m.at m.rec in
          weighed-at (IsAcknowledged (ack_count_of state o)) (family e) (all.recs e is) m.at m.rec (omega arith))
          (each-delivered (delivered_messages h e));
    }
