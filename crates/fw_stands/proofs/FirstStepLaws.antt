-- Which step is the first that is enabled, by places in the groups of steps.
use Rattle.std.proofs.Common.{◌≡◌, ℕ, zero, suc, ◌+◌, ◌<◌, ◌≤◌, true, false, if◌then◌else◌, List, [], ◌∷◌, ◌++◌, map, None, refl, sym, ap, ◌∙◌, subst, inl, inr, append_assoc, arith}
use Rattle.std.proofs.lemmas.Bool.{cases_Bool, cases_eq, or_left}
use Rattle.std.proofs.lemmas.Cmp.{tied_itself}
use Rattle.std.specs.List.{list_any, range_with_len}
use Rattle.std.specs.Ordering.{is_eq, is_gt, is_le}
use Rattle.fw_lemmas.proofs.Bools.{two_ways}
use Rattle.fw_lemmas.proofs.Filters.{any-at}
use Rattle.fw_flow.specs.declared.event.Message.{Message}
use Rattle.fw_flow.specs.declared.step.Step.{Step}
use Rattle.fw_flow.specs.declared.step.Step.TheVariants.{Persist}
use Rattle.fw_flow.specs.Dataflow.{System, is_numbered}
use Rattle.fw_flow.specs.Message.{message_cmp, is_message_among}
use Rattle.fw_flow.specs.WellFormed.{IsWellFormed}
use Rattle.fw_flow.specs.declared.event.Event.{Event}
use Rattle.fw_flow.proofs.MessageLaws.{message_total}
use Rattle.fw_model.specs.Auto.{IsIdle, AreIdle, IsFirstEnabled}
use Rattle.fw_model.specs.History.{IsLegal, pending_messages}
use Rattle.fw_model.specs.Machine.{Machine, Write}
use Rattle.fw_model.specs.SortedMessages.{sorted_messages, with_message}
use Rattle.fw_model.specs.Steps.{Effect, LeadsTo, IsNextMessage, is_in_flight}
use Rattle.fw_model.proofs.AutoLaws.{idle-append}
use Rattle.fw_model.proofs.FirstLaws.{first-next, first-least, among-same}
use Rattle.fw_model.proofs.SentLaws.{copy}
use Rattle.fw_model.proofs.SortedLaws.{IsAscendingMessages, ascending-sorted_messages, sorted_messages-weigh}
use Rattle.fw_model.proofs.WeightLaws.{weigh}

-- ---- in lists that are put together

-- the first of some steps is the first of them after others that are idle
pub first-behind : (sys : System) (state : Machine) (idles steps : List Step) (step : Step) (next : Machine) (effect : Effect) → AreIdle sys state idles
    → IsFirstEnabled sys state steps step next effect → IsFirstEnabled sys state (idles ++ steps) step next effect
first-behind sys state idles steps step next effect i f = record {
  earlier = idles ++ f.earlier;
  later = f.later;
  among = ap (λ xs. idles ++ xs) f.among ∙ sym (append_assoc idles f.earlier (step ∷ f.later));
  none_earlier = idle-append sys state idles f.earlier i f.none_earlier;
  leads = f.leads;
}

-- and before others
pub first-before : (sys : System) (state : Machine) (steps others : List Step) (step : Step) (next : Machine) (effect : Effect)
    → IsFirstEnabled sys state steps step next effect → IsFirstEnabled sys state (steps ++ others) step next effect
first-before sys state steps others step next effect f = record {
  earlier = f.earlier;
  later = f.later ++ others;
  among = ap (λ xs. xs ++ others) f.among ∙ append_assoc f.earlier (step ∷ f.later) others;
  none_earlier = f.none_earlier;
  leads = f.leads;
}

-- ---- in a group of steps, one for each place

-- a group is idle where each of its steps is
pub group-idle : (sys : System) (state : Machine) (step : ℕ → Step) (a n : ℕ) → ((i : ℕ) → a ≤ i → i < a + n → IsIdle sys state (step i))
    → AreIdle sys state (map step (range_with_len a n))
group-idle sys state step a zero k = tt
group-idle sys state step a (suc n) k = (k a (omega arith) (omega arith), group-idle sys state step (a + 1) n (λ i l m. k i (omega arith) (omega arith)))

-- the step at a place is the first one of a group where those at the places before it are idle
pub group-first : (sys : System) (state : Machine) (step : ℕ → Step) (a n j : ℕ) → a ≤ j → j < a + n → ((i : ℕ) → a ≤ i → i < j → IsIdle sys state (step i))
    → (next : Machine) (effect : Effect) → LeadsTo sys state (step j) next effect → IsFirstEnabled sys state (map step (range_with_len a n)) (step j) next effect
group-first sys state step a zero j l m k next effect t = absurd (omega arith)
group-first sys state step a (suc n) j l m k next effect t = elim (cases_eq j a) [
  | inl e ↦ record {
    earlier = [];
    later = map step (range_with_len (a + 1) n);
    among = ap (λ i. step i ∷ map step (range_with_len (a + 1) n)) (sym e);
    none_earlier = tt;
    leads = t;
  }
  | inr e ↦
      first-behind sys state (step a ∷ []) (map step (range_with_len (a + 1) n)) (step j) next effect (k a (omega arith) (omega (arith, e)), tt)
      (group-first sys state step (a + 1) n j (omega (arith, e)) (omega arith) (λ i p q. k i (omega arith) q) next effect t)
]

-- ---- which steps are idle

pub none_flying-idle : (sys : System) (state : Machine) → list_any (λ (write : Write). is_in_flight write.stage) state.writes ≡ false → IsIdle sys state Persist
none_flying-idle sys state none next effect t =
    let a = t.1 in
    two_ways (list_any (λ (write : Write). is_in_flight write.stage) state.writes)
    (ap (list_any (λ (write : Write). is_in_flight write.stage)) a.before ∙ any-at (λ (write : Write). is_in_flight write.stage) a.earlier a.oldest a.later a.in_flight)
    none

-- what is nothing in order is nothing
put-some : (m : Message) (xs : List Message) → with_message m xs ≡ [] → ⊥
put-some m [] e = absurd (cc)
put-some m (x ∷ xs) e = elim (is_le (message_cmp m x)) as (λ b. (if b then m ∷ x ∷ xs else x ∷ with_message m xs) ≡ [] → ⊥) [
  | true ↦ λ i. absurd (cc)
  | false ↦ λ i. absurd (cc)
] e

pub sorted-nothing : (xs : List Message) → sorted_messages xs ≡ [] → xs ≡ []
sorted-nothing [] e = refl
sorted-nothing (x ∷ xs) e = absurd (put-some x (sorted_messages xs) e)

pub none_pending-idle : (sys : System) (h : List Event) (e : ℕ) (m : Message) → sorted_messages (pending_messages sys h e) ≡ [] → is_message_among m (pending_messages sys h e) ≡ true → ⊥
none_pending-idle sys h e m none i =
    two_ways (is_message_among m (pending_messages sys h e)) i (ap (is_message_among m) (sorted-nothing (pending_messages sys h e) none))

-- ---- the next message

among-itself : (m : Message) (ms : List Message) → is_message_among m (m ∷ ms) ≡ true
among-itself m ms = or_left (is_eq (message_cmp m m)) (is_message_among m ms) (ap is_eq (tied_itself message_total m))

-- the first of what is pending, in order, is the next message
pub first-is_next : (sys : System) (h : List Event) → IsWellFormed sys.flow → IsLegal sys h → (e : ℕ) (m : Message) (rest : List Message)
    → sorted_messages (pending_messages sys h e) ≡ m ∷ rest → IsNextMessage sys h e None m
first-is_next sys h w l e m rest i =
    let ms = pending_messages sys h e in
    let weighs : (q : Message) → weigh (copy q) ms ≡ weigh (copy q) (m ∷ rest) = λ q. sym (sorted_messages-weigh (copy q) ms) ∙ ap (weigh (copy q)) i in
    elim (cases_Bool (is_numbered sys.flow e)) [
      | inl k ↦
          let f = first-next sys h w l e k m rest i in
          record {
            enabled = f.deliverable;
            asked = tt;
            least = λ other d a. subst (λ o. is_gt (message_cmp m o) ≡ false) (sym (f.only other d)) (ap is_gt (tied_itself message_total m));
          }
      | inr k ↦ record {
        enabled = record {
          is_pending = among-same m (m ∷ rest) ms (sym (weighs m)) (among-itself m rest);
          numbered = λ j. absurd (two_ways (is_numbered sys.flow e) j k);
        };
        asked = tt;
        least = λ other d a. first-least m rest (subst IsAscendingMessages i (ascending-sorted_messages ms)) other (among-same other ms (m ∷ rest) (weighs other) d.is_pending);
      }
    ]
