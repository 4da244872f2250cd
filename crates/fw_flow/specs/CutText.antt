-- How a cut is printed.
use Rattle.std.specs.Prelude.{ℕ, List, codes}
use Rattle.fw_frontier.specs.FrontText.{front_text}
use Rattle.fw_flow.specs.declared.choice.Cut.{Cut}
use Rattle.fw_flow.specs.declared.choice.Cut.TheVariants.{Present, At}

-- `present`, or the frontier to which a node is cut
abbrev pub cut_text : Cut → List ℕ
cut_text Present = codes "present"
cut_text (At front) = front_text front
