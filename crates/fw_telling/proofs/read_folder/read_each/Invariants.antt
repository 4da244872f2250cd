use Rattle.std.proofs.Common.{map, take}
use Rattle.fw_telling.specs.Read.{AreTextsOf}
use Rattle.fw_telling.proofs.read_folder.read_each.Given as goal

abbrev pub invariant-loop-name : goal.invariant-loop-name
invariant-loop-name g l = AreTextsOf (g.T.NamedFiles.bytes l.files) l.limit (map (λ name. name.now) (take l.name-index l.names)) l.texts.items
