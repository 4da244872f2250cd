-- What each part holds of the first state.
use Rattle.std.proofs.Common.{◌≡◌, ℕ, zero, suc, ◌+◌, Bool, true, false, cond, not, nat_le, ◌||◌, ◌&&◌, List, [], ◌∷◌, length, map, filter, refl, sym, ap, ◌∙◌, inl, inr, arith, slice_index_or, nat_lt, None, Some}
use Rattle.std.proofs.lemmas.Bool.{cases_lt, and_from, le-leb}
use Rattle.std.proofs.lemmas.List.FromFn.{get_or-map-range_with_len}
use Rattle.std.specs.List.{enumerate_from}
use Rattle.fw_lemmas.proofs.Bools.{two_ways}
use Rattle.fw_lemmas.proofs.Lists.{none-mapped}
use Rattle.fw_time.specs.Stamp.{Stamp}
use Rattle.fw_bag.specs.declared.rec.Rec.{Rec}
use Rattle.fw_frontier.specs.Front.{Front, inside}
use Rattle.fw_frontier.specs.Frontier.{Frontier}
use Rattle.fw_flow.specs.declared.event.Message.{Message}
use Rattle.fw_flow.specs.Message.{messages_less}
use Rattle.fw_flow.specs.Dataflow.{System, kind_of, batches_of, bounds_of, receiver, node_ids, is_input_kind, is_output_kind, policy_of}
use Rattle.fw_flow.proofs.EdgeLaws.{kind-past}
use Rattle.fw_model.specs.Filtering.{messages_outside}
use Rattle.fw_model.specs.History.{pending_messages, sent_messages}
use Rattle.fw_model.specs.SortedMessages.{sorted_messages}
use Rattle.fw_model.proofs.CarriedLaws.{carried-none}
use Rattle.fw_model.specs.Machine.{family_of, first_state, no_stamps, front_of, is_failed, ack_count_of}
use Rattle.fw_model.proofs.ChoiceLaws.{bounds-input}
use Rattle.fw_model.proofs.LowLaws.{input-is}
use Rattle.fw_model.specs.Reached.{IsReached}
use Rattle.fw_policy.specs.View.{base_of}
use Rattle.fw_stands.specs.Parts.{is_logging, table_base, IsTraceIn, IsSourceOf, IsTableIn}
use Rattle.fw_stands.specs.Starting.{HoldsNothing}
use Rattle.fw_progress.specs.declared.traces.Traces.{Traces}
use Rattle.fw_progress.specs.Trace.{IsTraceIf}
use Rattle.fw_border.specs.Sources.{unused_source}
use Rattle.fw_node.specs.declared.node.Node.{Node}
use Rattle.fw_node.specs.TableOf.{IsTableOf}
use Rattle.fw_model.specs.Writes.{takes_checkpoints}

-- ---- one for each node

zeros : List ℕ → List ℕ
zeros xs = map (λ q. 0) xs

none-acknowledged : (xs : List ℕ) (o : ℕ) → slice_index_or (zeros xs) o 0 ≡ 0
unfolding zeros
none-acknowledged [] o = refl
none-acknowledged (x ∷ xs) zero = refl
none-acknowledged (x ∷ xs) (suc o) = none-acknowledged xs o

first-live : (sys : System) (p : ℕ) → is_failed (first_state sys) p ≡ false
first-live sys p = none-mapped (node_ids sys.flow) p

-- ---- the parts

-- the first state is reached
pub first-reached : (sys : System) → IsReached sys (first_state sys)
first-reached sys = ([], [], refl)

-- the table of no events, whatever is settled, is that of a node in the first state, if the node is no input and no output
pub first_table-stands : (sys : System) (p : ℕ) → is_input_kind (kind_of sys.flow p) ≡ false → is_output_kind (kind_of sys.flow p) ≡ false
    → (node : Node) → ((inside : Stamp → Bool) → IsTableOf sys.flow p inside node []) → IsTableIn sys (first_state sys) p (Some node)
first_table-stands sys p i o node t = record {
  there = sym (ap (λ b. not (b || (is_output_kind (kind_of sys.flow p) || is_failed (first_state sys) p))) i
      ∙ ap (λ b. not (b || is_failed (first_state sys) p)) o ∙ ap not (first-live sys p));
  of_events = t (table_base sys (first_state sys) p);
}

-- an input and an output have none
pub borders-have_none : (sys : System) (p : ℕ) → (is_input_kind (kind_of sys.flow p) || is_output_kind (kind_of sys.flow p)) ≡ true
    → IsTableIn sys (first_state sys) p None
borders-have_none sys p b = record {
  there = sym (none (is_input_kind (kind_of sys.flow p)) (is_output_kind (kind_of sys.flow p)) (is_failed (first_state sys) p) b);
  of_events = tt;
}
  where
    none : (a b c : Bool) → (a || b) ≡ true → not (a || (b || c)) ≡ false
    none true b c e = refl
    none false true c e = refl
    none false false c e = absurd (cc)

nothing-either : {A : Type 0} (b : Bool) (xs ys : List A) → xs ≡ [] → ys ≡ [] → cond b xs ys ≡ []
nothing-either true xs ys x y = x
nothing-either false xs ys x y = y

-- it is so of each system
pub first-holds_nothing : (sys : System) → HoldsNothing sys
unfolding zeros
first-holds_nothing sys = record {
  queues = λ e. nothing-either (is_failed (first_state sys) (receiver sys.flow e)) [] (sorted_messages (pending_messages sys [] e)) refl
      (ap (λ ms. sorted_messages (messages_less ms [])) (carried-none sys.flow e));
  logs = λ e.
      let kept : List Message → List Message = λ ms. sorted_messages (messages_outside (family_of sys.flow (first_state sys).low (receiver sys.flow e)) ms) in
      nothing-either (is_logging sys (first_state sys) e) (kept (sent_messages sys [] e)) [] (ap kept (carried-none sys.flow e)) refl;
  outputs = λ o. record {
    bound = sym (none-acknowledged (node_ids sys.flow) o);
    recs = λ x. sym (nothing-either (is_failed (first_state sys) o || nat_lt x (ack_count_of (first_state sys) o)) [] [] refl refl);
  };
  lost = λ p t l. two_ways (is_failed (first_state sys) p) l.0 (first-live sys p);
}

-- ---- inputs

-- each batch lies outside no stamps
all-held : (f : Front) (n : ℕ) (batches : List (List Rec)) → f ≡ (0 ∷ []) ∷ [] → enumerate_from n batches ≡ filter (λ (batch : ℕ × List Rec). not (inside f (batch.0 ∷ []))) (enumerate_from n batches)
all-held f n [] e = refl
all-held f n (b ∷ bs) e =
    let rest : List (ℕ × List Rec) = filter (λ (batch : ℕ × List Rec). not (inside f (batch.0 ∷ []))) (enumerate_from (n + 1) bs) in
    let outside : inside f (n ∷ []) ≡ false = ap (λ g. inside g (n ∷ [])) e ∙ ap (λ x. not x && true) (and_from (nat_le 0 n) true (le-leb 0 n (omega arith)) refl) in
    ap (λ xs. (n, b) ∷ xs) (all-held f (n + 1) bs e) ∙ sym (ap (λ x. cond (not x) ((n, b) ∷ rest) rest) outside)

first-low : (sys : System) (s : ℕ) → is_input_kind (kind_of sys.flow s) ≡ true → front_of (first_state sys).low s ≡ (0 ∷ []) ∷ []
first-low sys s i = elim (cases_lt s (length sys.flow.nodes)) [
  | inl l ↦
      get_or-map-range_with_len (λ p. no_stamps (bounds_of sys.flow p)) 0 (length sys.flow.nodes) s s [] l (omega arith)
      ∙ ap no_stamps (bounds-input sys.flow s (input-is (kind_of sys.flow s) i))
  | inr l ↦ absurd (two_ways (is_input_kind (kind_of sys.flow s)) i (ap is_input_kind (kind-past sys.flow s l)))
]

-- an input with all its batches is that of the first state
pub unused_source-stands : (sys : System) (s : ℕ) → is_input_kind (kind_of sys.flow s) ≡ true
    → IsSourceOf sys (first_state sys) s (unused_source (batches_of sys s))
unused_source-stands sys s i = record {
  given = refl;
  injected = refl;
  held = all-held (front_of (first_state sys).low s) 0 (batches_of sys s) (first-low sys s i);
}

-- ---- traces

-- traces of no events, thinned inside whatever base, are those of the first state
pub first_traces-stand : (sys : System) (floor : List Front) (p : ℕ) (traces : Traces) → ((whole : Bool) (base : Frontier) → IsTraceIf whole sys [] p base traces)
    → IsTraceIn sys floor (first_state sys) p traces
first_traces-stand sys floor p traces t = t (takes_checkpoints (policy_of sys.flow p)) (base_of sys floor (first_state sys) p)
