-- The dataflow of the generated texts, and that its text declares it.
use Rattle.std.proofs.Common.{◌≡◌, ℕ, List, [], ◌∷◌, Some, None, unwrap_or, refl, codes, lit≤}
use Rattle.fw_bag.specs.declared.select.Comparison.TheVariants.{Less}
use Rattle.fw_bag.specs.declared.select.Field.TheVariants.{Value}
use Rattle.fw_bag.specs.declared.select.NewValue.TheVariants as new
use Rattle.fw_bag.specs.declared.select.Selection.{Selection}
use Rattle.fw_bag.specs.declared.select.Term.TheVariants as term
use Rattle.fw_lines.specs.Lines.{said_by, said_lines}
use Rattle.fw_lines.specs.Spelling.{number_of}
use Rattle.fw_flow.specs.Kind.{Kind}
use Rattle.fw_flow.specs.declared.kind.Kind.TheVariants.{Concat, Enter, Feedback, Input, Leave, Ledger, OutputEpoch, OutputNumber, Select, Sequence, Sum, Total}
use Rattle.fw_flow.specs.declared.kind.Policy.{Policy}
use Rattle.fw_flow.specs.declared.kind.Policy.TheVariants as policy
use Rattle.fw_flow.specs.declared.node.Edge.{Edge}
use Rattle.fw_flow.specs.declared.node.Node.{Node}
use Rattle.fw_flow.specs.Dataflow.{Dataflow}
use Rattle.fw_lemmas.proofs.Each.{each-of_all}
use Rattle.fw_flow.specs.Declaring.{Declared}
use Rattle.fw_flow.proofs.ExpandLaws.{AreWhole, checked-whole, is_whole}
use Rattle.fw_flow.specs.Raw.{flow_of_declarations}
use Rattle.fw_flow.specs.WellFormed.{IsWellFormed}
use Rattle.fw_flow_text.specs.Grammar.{capped, IsAcceptedFlow}
use Rattle.fw_flow_text.proofs.DeclaredLaws.{read_lines, known_lines}
use Rattle.fw_flow_text.proofs.Reading.{policy_named, policy_at_end, ending_within, ending_outside, ending_of, parent_named, parent_at_end, output_kind, within_kind, leading_kind, lone_kind, input_form, output_form, select_form, regroup_form, within_form, leading_form, lone_form, node_form, has_split, any_form, node_declaration, edge_declaration, loop_of, loop_declaration, declaration_of, condition_of, value_part, assignment_part, selection_part, numeral_of, field_of, comparison_of, term_of}
use Rattle.fw_generate.specs.Texts.{flow_text}

abbrev node : List ℕ → Kind → Policy → Node
node name kind policy = record { name = name; kind = kind; policy = policy; part = None }

abbrev edge : List ℕ → ℕ → ℕ → Edge
edge name sender receiver = record { name = name; sender = sender; receiver = receiver }

-- where the value is below 700, it grows by 100
abbrev counted_up : Selection
counted_up = record {
  condition = record { field = Value; comparison = Less; term = term.Number 700 };
  assignment = Some (record { field = Value; value = new.FieldPlus Value 100 });
}

-- the dataflow that the flow's text declares
abbrev pub the_flow : Dataflow
the_flow = record {
  loops = record { name = codes "l"; max = 3; parent = None } ∷ [];
  nodes =
      node (codes "src") Input policy.None
      ∷ node (codes "ent") (Enter 0) policy.None
      ∷ node (codes "mix") (Concat (Some 0)) policy.Logged
      ∷ node (codes "inc") (Select counted_up (Some 0)) policy.Full
      ∷ node (codes "fb") (Feedback 0) policy.None
      ∷ node (codes "lv") (Leave 0) policy.None
      ∷ node (codes "add") (Sum None) policy.Lazy
      ∷ node (codes "seq") Sequence policy.Eager
      ∷ node (codes "led") Ledger policy.Logged
      ∷ node (codes "out") OutputNumber policy.None
      ∷ node (codes "run") Total policy.Lazy
      ∷ node (codes "tot") OutputEpoch policy.None
      ∷ [];
  edges =
      edge (codes "a") 0 1
      ∷ edge (codes "b") 1 2
      ∷ edge (codes "c") 4 2
      ∷ edge (codes "d") 2 3
      ∷ edge (codes "e") 3 4
      ∷ edge (codes "f") 3 5
      ∷ edge (codes "g") 5 6
      ∷ edge (codes "h") 6 7
      ∷ edge (codes "i") 7 8
      ∷ edge (codes "j") 8 9
      ∷ edge (codes "k") 5 10
      ∷ edge (codes "l") 10 11
      ∷ [];
}

-- the declarations of the text
the_declared : List Declared
the_declared = unwrap_or (read_lines [] (said_lines flow_text)) []

lines_read : read_lines [] (said_lines flow_text) ≡ Some the_declared
unfolding the_declared said_by number_of capped policy_named policy_at_end ending_within ending_outside ending_of parent_named parent_at_end output_kind within_kind leading_kind lone_kind input_form output_form select_form regroup_form within_form leading_form lone_form node_form has_split any_form node_declaration edge_declaration loop_of loop_declaration declaration_of condition_of value_part assignment_part selection_part numeral_of field_of comparison_of term_of
lines_read = refl

flow_spelled : flow_of_declarations the_declared ≡ the_flow
unfolding the_declared said_by number_of capped policy_named policy_at_end ending_within ending_outside ending_of parent_named parent_at_end output_kind within_kind leading_kind lone_kind input_form output_form select_form regroup_form within_form leading_form lone_form node_form has_split any_form node_declaration edge_declaration loop_of loop_declaration declaration_of condition_of value_part assignment_part selection_part numeral_of field_of comparison_of term_of
flow_spelled = refl

none_split : AreWhole the_declared
unfolding the_declared said_by number_of capped policy_named policy_at_end ending_within ending_outside ending_of parent_named parent_at_end output_kind within_kind leading_kind lone_kind input_form output_form select_form regroup_form within_form leading_form lone_form node_form has_split any_form node_declaration edge_declaration loop_of loop_declaration declaration_of condition_of value_part assignment_part selection_part numeral_of field_of comparison_of term_of
none_split = each-of_all (λ (d : Declared). is_whole d.declaration) the_declared refl

-- the text declares the dataflow, where that is well formed
pub flow_declared : IsWellFormed the_flow → IsAcceptedFlow flow_text the_flow
flow_declared well_formed =
    let lines = known_lines (said_lines flow_text) the_declared lines_read in
    record {
      sound = record { size = lit≤ tt; lines = lines.0 };
      declared = the_declared;
      written = lines.1;
      checked = checked-whole the_declared the_flow none_split well_formed flow_spelled;
    }
