use Rattle.std.proofs.Common.{sym, subst, refl, lit<, Contains}
use Rattle.fw_run.specs.Status.{status_numbers}
use Rattle.fw_run.proofs.Numbers.{some_refusal_number}
use Rattle.fw_run.proofs.status.Status.number.Goals as goal

pub returns-in-Refused-clause-among : goal.returns-in-Refused-clause-among
returns-in-Refused-clause-among c = subst (Contains status_numbers) (sym c.refusal_number.ensures) (some_refusal_number c.in-Refused.refusal.code)

pub returns-in-ReadFault-clause-among : goal.returns-in-ReadFault-clause-among
returns-in-ReadFault-clause-among c = (5, lit< tt, refl)

pub returns-in-WriteFault-clause-among : goal.returns-in-WriteFault-clause-among
returns-in-WriteFault-clause-among c = (6, lit< tt, refl)

pub returns-in-StoreFault-clause-among : goal.returns-in-StoreFault-clause-among
returns-in-StoreFault-clause-among c = (7, lit< tt, refl)

pub returns-in-Damaged-clause-among : goal.returns-in-Damaged-clause-among
returns-in-Damaged-clause-among c = (8, lit< tt, refl)

pub returns-in-Damaged-2-clause-among : goal.returns-in-Damaged-2-clause-among
returns-in-Damaged-2-clause-among c = (8, lit< tt, refl)

pub returns-in-NoMemory-clause-among : goal.returns-in-NoMemory-clause-among
returns-in-NoMemory-clause-among c = (9, lit< tt, refl)

pub returns-in-ForeignRoot-clause-among : goal.returns-in-ForeignRoot-clause-among
returns-in-ForeignRoot-clause-among c = (10, lit< tt, refl)
