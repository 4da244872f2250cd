-- How a certificate is printed.
use Rattle.std.specs.Prelude.{ℕ, List, ◌++◌, length, codes}
use Rattle.std.specs.Fmt.{decimal}
use Rattle.std.specs.List.{flat_map}
use Rattle.fw_flow.specs.declared.trail.Part.{Part}
use Rattle.fw_flow.specs.declared.trail.Part.TheVariants as part
use Rattle.fw_flow.specs.declared.trail.Cause.{Cause}
use Rattle.fw_flow.specs.declared.trail.Cause.TheVariants as cause
use Rattle.fw_flow.specs.declared.trail.Lowering.{Lowering}
use Rattle.fw_flow.specs.CutText.{cut_text}
use Rattle.fw_flow.specs.Dataflow.{Dataflow, node_at}
use Rattle.fw_flow.specs.DomainText.{name_of_edge}

-- `cut` or `note`: which of a node's two values was lowered
abbrev pub part_text : Part → List ℕ
part_text part.Cut = codes "cut"
part_text part.Note = codes "note"

-- `delivered EDGE`, `discarded EDGE`, `notified`, `own` or `note EDGE`: what did not hold
abbrev pub cause_text : Dataflow → Cause → List ℕ
cause_text flow (cause.Delivered d) = codes "delivered " ++ name_of_edge flow d
cause_text flow (cause.Discarded e) = codes "discarded " ++ name_of_edge flow e
cause_text flow cause.Notified = codes "notified"
cause_text flow cause.Own = codes "own"
cause_text flow (cause.Note d) = codes "note " ++ name_of_edge flow d

-- `down NODE cut VALUE by CAUSE` or `down NODE note VALUE by CAUSE`, with the value as in a line of a cut
abbrev pub down_line : Dataflow → Lowering → List ℕ
down_line flow l =
    codes "down " ++ (node_at flow l.node).name ++ codes " " ++ part_text l.part ++ codes " " ++ cut_text l.to ++ codes " by " ++ cause_text flow l.by
    ++ codes "\n"

-- a line for each of the lowerings, in order
abbrev pub down_lines : Dataflow → List Lowering → List ℕ
down_lines flow ls = flat_map (down_line flow) ls

-- `certificate NUMBER yes`: these are so many lowerings, and the checker says yes to them
abbrev pub certificate_line : ℕ → List ℕ
certificate_line count = codes "certificate " ++ decimal count ++ codes " yes\n"

-- the lines of a certificate to which the checker says yes
abbrev pub certificate_text : Dataflow → List Lowering → List ℕ
certificate_text flow ls = down_lines flow ls ++ certificate_line (length ls)
