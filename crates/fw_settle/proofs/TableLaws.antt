-- The table of a node is settled.
use Rattle.std.proofs.Common.{◌≡◌, ℕ, ◌<◌, Bool, true, false, List, length, set, sym, ap, subst, ◌∙◌, inl, inr, arith}
use Rattle.std.specs.Prelude.{Option, Some, None, IfSome, Result, Ok, Err, OnOk}
use Rattle.std.proofs.lemmas.Bool.{cases_eq}
use Rattle.std.proofs.lemmas.List.{get_or-set_other, get_or-set_same}
use Rattle.std.proofs.Math.ListN.{length-set}
use Rattle.fw_lemmas.proofs.Bools.{two_ways}
use Rattle.fw_frontier.specs.Frontier.{Within}
use Rattle.fw_frontier.specs.Front.{Front}
use Rattle.fw_flow.specs.declared.event.Event.{Event}
use Rattle.fw_flow.specs.Dataflow.{Dataflow, kind_of, node_frontier, is_notified_kind}
use Rattle.fw_model.specs.Told.{AreToldInside}
use Rattle.fw_node.specs.declared.node.Node.{Node}
use Rattle.fw_node.specs.NodeOf.{IsNodeOf}
use Rattle.fw_node.specs.TableOf.{IsTableOf}
use Rattle.fw_rollback.specs.Tables.{table_at}
use Rattle.fw_running.specs.declared.running.Running.{Running}
use Rattle.fw_running.specs.Kept.{table_of, with_tables}
use Rattle.fw_running.specs.Shaped.{IsShaped}
use Rattle.fw_settle.specs.Settling.{IsTableSettled, SettlesTable, SettlesTableIf}
use Rattle.fw_settle.proofs.ShapeLaws.{shaped-tables}

-- the tables where one is another one, and both are of its node
nodes-set : (flow : Dataflow) (tables : List (Option Node)) (p : ℕ) (table : Node) → p < length tables → IsNodeOf flow p table
    → ((q : ℕ) → q < length flow.nodes → IfSome (table_at tables q) (IsNodeOf flow q))
    → (q : ℕ) → q < length flow.nodes → IfSome (table_at (set tables p (Some table)) q) (IsNodeOf flow q)
nodes-set flow tables p table l is each q there = elim (cases_eq q p) [
  | inl e ↦
      subst (λ n. IfSome (table_at (set tables p (Some table)) n) (IsNodeOf flow n)) (sym e)
      (subst (λ o. IfSome o (IsNodeOf flow p)) (sym (get_or-set_same tables p (Some table) None l)) is)
  | inr n ↦ subst (λ o. IfSome o (IsNodeOf flow q)) (sym (get_or-set_other tables p q (Some table) None n)) (each q there)
]

node-there : (flow : Dataflow) (p : ℕ) (o : Option Node) (table : Node) → IfSome o (IsNodeOf flow p) → o ≡ Some table → IsNodeOf flow p table
node-there flow p None table i e = absurd (cc)
node-there flow p (Some other) table i e = let same : other ≡ table = cc in subst (IsNodeOf flow p) same i

-- the table of a node is another one of it: what is kept fits the flow
pub table-shaped : (old new : Running) (p : ℕ) (table after : Node) → IsShaped old → p < length old.flow.nodes → new ≡ with_tables new.parts.tables old
    → table_of old p ≡ Some table → new.parts.tables ≡ set old.parts.tables p (Some after)
    → (IsNodeOf old.flow p table → IsNodeOf old.flow p after) → IsShaped new
table-shaped old new p table after s l c is e stays =
    let each = s.one_each.parts.tables in
    shaped-tables old new s c (ap length e ∙ length-set old.parts.tables p (Some after))
    (subst (λ ts. (q : ℕ) → q < length old.flow.nodes → IfSome (table_at ts q) (IsNodeOf old.flow q)) (sym e)
    (nodes-set old.flow old.parts.tables p after (omega (arith, each, l)) (stays (node-there old.flow p (table_of old p) table (s.tables p l) is)) s.tables))

-- the same tables
pub same-shaped : (old new : Running) → IsShaped old → new ≡ with_tables new.parts.tables old → new.parts.tables ≡ old.parts.tables → IsShaped new
same-shaped old new s c e =
    shaped-tables old new s c (ap length e) (subst (λ ts. (q : ℕ) → q < length old.flow.nodes → IfSome (table_at ts q) (IsNodeOf old.flow q)) (sym e) s.tables)

pub table-settles : {E : Type 0} (result : Result (Unit {0}) E) (p : ℕ) (f : Front) (old new : Running) (table after : Node) → p < length old.parts.tables
    → table_of old p ≡ Some table → new.parts.tables ≡ set old.parts.tables p (Some after)
    → ((flow : Dataflow) (q : ℕ) (settled : List ℕ → Bool) (before : List Event) → Within settled (node_frontier flow q f)
    → (is_notified_kind (kind_of flow q) ≡ true → AreToldInside (node_frontier flow q f) before) → IsTableOf flow q settled table before
    → OnOk result (IsTableOf flow q (node_frontier flow q f) after before))
    → OnOk result (SettlesTable p f old new)
table-settles (Err e) p f old new table after l is e' h = tt
table-settles (Ok x) p f old new table after l is e h = record {
  here = subst (λ o. IsTableSettled old.flow p f o (table_of new p)) (sym is)
      (subst (IsTableSettled old.flow p f (Some table)) (sym (ap (λ ts. table_at ts p) e ∙ get_or-set_same old.parts.tables p (Some after) None l))
      (λ settled before w told t. h old.flow p settled before w told t));
  others = λ q n. ap (λ ts. table_at ts q) e ∙ get_or-set_other old.parts.tables p q (Some after) None n;
}

pub no_table-settles : (p : ℕ) (f : Front) (old new : Running) → table_of old p ≡ None → new.parts.tables ≡ old.parts.tables → SettlesTable p f old new
no_table-settles p f old new none e = record {
  here = subst (λ o. IsTableSettled old.flow p f o (table_of new p)) (sym none) (ap (λ ts. table_at ts p) e ∙ none);
  others = λ q n. ap (λ ts. table_at ts q) e;
}

-- it settles where this is so
pub settles-if : {E : Type 0} (result : Result (Unit {0}) E) (is_so : Bool) (p : ℕ) (f : Front) (old new : Running) → is_so ≡ true
    → OnOk result (SettlesTable p f old new) → OnOk result (SettlesTableIf is_so p f old new)
settles-if (Err e) is_so p f old new is t = tt
settles-if (Ok x) is_so p f old new is t = record { settles = λ k. t; stays = λ isnt. absurd (two_ways is_so is isnt) }

-- and else it stays
pub stays-if : (is_so : Bool) (p : ℕ) (f : Front) (old new : Running) → is_so ≡ false → new.parts.tables ≡ old.parts.tables → SettlesTableIf is_so p f old new
stays-if is_so p f old new isnt same = record { settles = λ is. absurd (two_ways is_so is isnt); stays = λ k. same }

pub tables-there : (running : Running) (p : ℕ) → IsShaped running → p < length running.flow.nodes → p < length running.parts.tables
tables-there running p s l = let each = s.one_each.parts.tables in omega (arith, each, l)
