use Rattle.std.proofs.Common.{take}
use Rattle.std.specs.List.{AllZip}
use Rattle.fw_resume.specs.Sends.{AreSendsTold}
use Rattle.fw_resume.proofs.sends.sends_of.Given as goal

abbrev pub invariant-loop-node : goal.invariant-loop-node
invariant-loop-node l = AllZip (AreSendsTold l.counts) (take l.node-index l.sequences) l.all.items
