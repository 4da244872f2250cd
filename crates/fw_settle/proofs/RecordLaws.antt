-- Of what the record of a checkpoint is made, part by part.
use Rattle.std.proofs.Common.{◌≡◌, ℕ, ◌+◌, ◌<◌, ◌^◌, true, List, [], ◌∷◌, ◌++◌, map, length, get_or, take, inl, inr, ap, subst, sym, ◌∙◌, arith}
use Rattle.std.specs.Prelude.{slice_get, Option, Some, None, IfSome}
use Rattle.std.specs.List.{AllByRecursion, flat_map}
use Rattle.std.specs.List.Sorted.{IsPermutation}
use Rattle.std.proofs.lemmas.Grind.{flat_map-append}
use Rattle.std.proofs.lemmas.List.{append-nil, get_or_past, take_more}
use Rattle.std.proofs.lemmas.List.Sorted.{length_permutation}
use Rattle.std.proofs.lemmas.Option.{slice_get-get_or, slice_get_cases, slice_get_within}
use Rattle.fw_time.specs.Stamp.{in_domain}
use Rattle.fw_time.specs.declared.stamp.Bounds.{Bounds}
use Rattle.fw_frontier.specs.Front.{Front, IsCanonical}
use Rattle.fw_frontier.proofs.CanonicalLaws.{in_domain-canonical}
use Rattle.fw_flow.specs.declared.event.Message.{Message}
use Rattle.fw_flow.specs.Dataflow.{Dataflow, bounds_of}
use Rattle.fw_edge.specs.Messages.{MessagesState}
use Rattle.fw_node.specs.declared.node.Node.{Node}
use Rattle.fw_node.specs.NodeOf.{IsNodeOf}
use Rattle.fw_record.specs.declared.logged.Logged.{Logged}
use Rattle.fw_bytes.specs.Sound.{each_may_follow}
use Rattle.fw_record.specs.Sound.{may_follow_logged}
use Rattle.fw_bag.specs.Bag.{IsRec}
use Rattle.fw_rollback.specs.Edges.{nothing_there, on_edge}
use Rattle.fw_settle.specs.Checkpoints.{logged_from, logged_at, IsLogOf}
use Rattle.fw_settle.proofs.LogLaws.{each-permuted}

-- ---- the table

-- the stamps of a canonical front of a node are of the domain of its table
pub table-fits : (flow : Dataflow) (p : ℕ) (f : Front) (table : Option Node) → IfSome table (IsNodeOf flow p) → IsCanonical (bounds_of flow p) f
    → IfSome table (λ (node : Node). AllByRecursion (λ o. in_domain node.bounds o ≡ true) f)
table-fits flow p f None n c = tt
table-fits flow p f (Some node) n c =
    subst (λ (b : Bounds). AllByRecursion (λ o. in_domain b o ≡ true) f) (sym n.bounds) (in_domain-canonical (bounds_of flow p) f c)

-- ---- the log

pub log-made : (flow : Dataflow) (logs : ℕ → List Message) (p : ℕ) (all log : List Logged) → all ≡ logged_at flow logs p
    → AllByRecursion (λ (l : Logged). IsRec l.message.rec) all → length all < 2 ^ 64 → IsPermutation all log → each_may_follow may_follow_logged [] log ≡ true
    → IsLogOf flow logs p log
log-made flow logs p all log is small few same follow =
    let long = length_permutation all log same in
    record {
      same = subst (λ xs. IsPermutation xs log) is same;
      follow = follow;
      small = each-permuted (λ (l : Logged). IsRec l.message.rec) all log same small;
      few = omega (arith, long, few);
    }

-- what is logged on one edge more
pub logged-next : (logs : ℕ → List Message) (es : List ℕ) (i e : ℕ) (ms : List Message) (old new : List Logged) → i < length es → e ≡ get_or es i e
    → old ≡ logged_from logs (take i es) → ms ≡ logs e
    → new ≡ old ++ map (λ (m : Message). record { edge = e; message = m }) ms → new ≡ logged_from logs (take (i + 1) es)
logged-next logs es i e ms old new l is was of put =
    let on : ℕ → List Logged = λ d. map (λ (m : Message). record { edge = d; message = m }) (logs d) in
    put
    ∙ ap (λ xs. xs ++ map (λ (m : Message). record { edge = e; message = m }) ms) was
    ∙ ap (λ xs. logged_from logs (take i es) ++ map (λ (m : Message). record { edge = e; message = m }) xs) of
    ∙ ap (λ xs. logged_from logs (take i es) ++ xs) (sym (append-nil (on e)))
    ∙ sym (flat_map-append on (take i es) (e ∷ []))
    ∙ ap (λ d. flat_map on (take i es ++ d ∷ [])) is
    ∙ ap (flat_map on) (sym (take_more es i e l))

-- what is kept of an edge, if it is there
pub on-some : (all : List MessagesState) (e : ℕ) (log : MessagesState) → slice_get all e ≡ Some log → (on_edge all e).messages ≡ log.messages
on-some all e log got =
    let there : Some (get_or all e nothing_there) ≡ Some log = sym (slice_get-get_or all e nothing_there (slice_get_within all e log got)) ∙ got in
    let here : get_or all e nothing_there ≡ log = cc in
    ap (λ (x : MessagesState). x.messages) here

pub on-none : (all : List MessagesState) (e : ℕ) → slice_get all e ≡ None → (on_edge all e).messages ≡ []
on-none all e got = elim (slice_get_cases all e).1 [
  | inl x ↦ let c : Some x.0 ≡ None = sym x.2 ∙ got in absurd (cc)
  | inr past ↦ ap (λ (x : MessagesState). x.messages) (get_or_past all e nothing_there past.0)
]
