-- What a node sends, as messages: their causes, how many they are, their stamps.
use Rattle.std.proofs.Common.{◌≡◌, ℕ, ◌+◌, List, [], ◌∷◌, length, map, Option, Some, None, nat_le, refl, sym, ap, subst, ◌∙◌, arith}
use Rattle.std.specs.List.{AllByRecursion}
use Rattle.std.proofs.lemmas.Bool.{cond_both}
use Rattle.fw_time.specs.Stamp.{Stamp}
use Rattle.fw_bag.specs.declared.rec.Rec.{Rec}
use Rattle.fw_flow.specs.declared.event.Event.{Event}
use Rattle.fw_flow.specs.declared.event.Message.{Message}
use Rattle.fw_flow.specs.Kind.{Kind}
use Rattle.fw_flow.specs.declared.kind.Kind.TheVariants as kind
use Rattle.fw_flow.specs.Dataflow.{System, greatest_number, kind_of, send_stamp_of_kind}
use Rattle.fw_flow.specs.NodeFunction.{event_stamp, messages_at, messages_at_some, numbered_messages, recs_on, sends, sends_of_kind, sequence_sent}
use Rattle.fw_node.specs.Answers.{caused_by, without_causes}
use Rattle.fw_node.specs.NodeOf.{stamps_of}
use Rattle.fw_node.specs.Sends.{messages_of, sends_list}
use Rattle.fw_node.specs.declared.sends.Sends.{Sends}

-- ---- what is sent, as messages

-- of each answer that there is they have the one cause
pub messages-caused : (cause : Stamp) (s : Sends) → messages_of cause s ≡ caused_by cause (sends_list s)
messages-caused cause s = refl

caused-length : (cause : Stamp) (sent : List (Stamp × Rec)) → length (caused_by cause sent) ≡ length sent
caused-length cause [] = refl
caused-length cause (x ∷ sent) = let h = caused-length cause sent in omega arith

pub caused-at : (cause : Stamp) (sent : List (Stamp × Rec)) → map (λ (m : Message). m.at) (caused_by cause sent) ≡ map (λ (x : Stamp × Rec). x.0) sent
caused-at cause [] = refl
caused-at cause (x ∷ sent) = ap (λ ts. x.0 ∷ ts) (caused-at cause sent)

-- they are as many as recs
pub messages-length : (cause : Stamp) (s : Sends) → length (messages_of cause s) ≡ length (sends_list s)
messages-length cause s = ap length (messages-caused cause s) ∙ caused-length cause (sends_list s)

-- at their stamps
pub messages-at : (cause : Stamp) (s : Sends) → map (λ (m : Message). m.at) (messages_of cause s) ≡ stamps_of s
messages-at cause s = ap (map (λ (m : Message). m.at)) (messages-caused cause s) ∙ caused-at cause (sends_list s)

caused-recs : (cause : Stamp) (sent : List (Stamp × Rec)) → without_causes (caused_by cause sent) ≡ sent
caused-recs cause [] = refl
caused-recs cause (x ∷ xs) = ap (λ (ys : List (Stamp × Rec)). x ∷ ys) (caused-recs cause xs)

-- the recs of messages of one cause are those that are sent
pub messages-recs : (cause : Stamp) (s : Sends) → without_causes (messages_of cause s) ≡ sends_list s
messages-recs cause s = ap without_causes (messages-caused cause s) ∙ caused-recs cause (sends_list s)

-- and what holds of the cause holds of each of theirs
pub messages-each_cause : (P : Stamp → Type 0) (cause : Stamp) (s : Sends) → P cause → AllByRecursion (λ (m : Message). AllByRecursion P m.causes) (messages_of cause s)
messages-each_cause P cause s k =
    subst (AllByRecursion (λ (m : Message). AllByRecursion P m.causes)) (sym (messages-caused cause s)) (caused-each (sends_list s))
  where
    caused-each : (sent : List (Stamp × Rec)) → AllByRecursion (λ (m : Message). AllByRecursion P m.causes) (caused_by cause sent)
    caused-each [] = tt
    caused-each (x ∷ sent) = ((k, tt), caused-each sent)

-- ---- what the node function gives

-- a rec at a stamp as a message of one cause
abbrev message : Stamp → Stamp → Rec → Message
message at cause r = record { at = at; rec = r; causes = cause ∷ [] }

-- messages of one cause are known by their stamps and recs
abbrev IsOfCause : Stamp → List Message → Type 0
IsOfCause cause ms = caused_by cause (without_causes ms) ≡ ms

at-cause : (at cause : Stamp) (rs : List Rec) → IsOfCause cause (messages_at at cause rs)
at-cause at cause [] = refl
at-cause at cause (r ∷ rs) = ap (λ (ms : List Message). message at cause r ∷ ms) (at-cause at cause rs)

at_some-cause : (at : Option Stamp) (cause : Stamp) (rs : List Rec) → IsOfCause cause (messages_at_some at cause rs)
at_some-cause None cause rs = refl
at_some-cause (Some at) cause rs = at-cause at cause rs

numbered-cause : (n : ℕ) (cause : Stamp) (rs : List Rec) → IsOfCause cause (numbered_messages n cause rs)
numbered-cause n cause [] = refl
numbered-cause n cause (r ∷ rs) =
    cond_both (nat_le n greatest_number) (message (n ∷ []) cause r ∷ numbered_messages (n + 1) cause rs) [] (IsOfCause cause)
    (λ e. ap (λ (ms : List Message). message (n ∷ []) cause r ∷ ms) (numbered-cause (n + 1) cause rs)) (λ e. refl)

kind-cause : (sys : System) (k : Kind) (before : List Event) (v : Event) → IsOfCause (event_stamp v) (sends_of_kind sys k before v)
kind-cause sys kind.Sequence before v = numbered-cause (length (sequence_sent before)) (event_stamp v) (recs_on sys kind.Sequence before v)
kind-cause sys k before v = at_some-cause (send_stamp_of_kind sys.flow k (event_stamp v)) (event_stamp v) (recs_on sys k before v)

-- of each kind that there is, what a node sends at an event has the event's stamp as its one cause
pub sends-cause : (sys : System) (p : ℕ) (before : List Event) (v : Event) → IsOfCause (event_stamp v) (sends sys p before v)
unfolding sends
sends-cause sys p before v = kind-cause sys (kind_of sys.flow p) before v
