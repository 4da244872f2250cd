-- What a builder answers where its declarations are refused.
use Rattle.fw_lines.specs.declared.fault.ReadFault.{ReadFault}
use Rattle.fw_lines.specs.declared.fault.ReadFault.TheVariants.{Refused, NoMemory}
use Rattle.fw_lines.specs.declared.refusal.Refusal.{Refusal}
use Rattle.fw_lines.specs.Faults.{IfRefused}
use Rattle.fw_flow.specs.Builder.{IfBroken, build_fault}

pub IfBroken-from_refused : (P : Refusal → Type 0) (fault : ReadFault) → IfRefused P fault → IfBroken P (build_fault fault)
IfBroken-from_refused P (Refused refusal) h = h
IfBroken-from_refused P NoMemory h = h
