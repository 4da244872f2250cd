use Rattle.std.proofs.Common.{refl, lit<}
use Rattle.fw_choosing.proofs.status.ChoosingStatus.number.Goals as goal

pub returns-in-FlowRefused-clause-among : goal.returns-in-FlowRefused-clause-among
returns-in-FlowRefused-clause-among c = (2, lit< tt, refl)

pub returns-in-ReadFault-clause-among : goal.returns-in-ReadFault-clause-among
returns-in-ReadFault-clause-among c = (3, lit< tt, refl)

pub returns-in-WriteFault-clause-among : goal.returns-in-WriteFault-clause-among
returns-in-WriteFault-clause-among c = (4, lit< tt, refl)

pub returns-in-NoMemory-clause-among : goal.returns-in-NoMemory-clause-among
returns-in-NoMemory-clause-among c = (5, lit< tt, refl)

pub returns-in-OffersRefused-clause-among : goal.returns-in-OffersRefused-clause-among
returns-in-OffersRefused-clause-among c = (6, lit< tt, refl)

pub returns-in-CertificateRefused-clause-among : goal.returns-in-CertificateRefused-clause-among
returns-in-CertificateRefused-clause-among c = (7, lit< tt, refl)
