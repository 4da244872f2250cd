-- The files in the folder of a store.
use Rattle.std.specs.Prelude.{ℕ, List, [], ◌∷◌, ◌++◌}
use Rattle.std.specs.Fmt.{decimal}
use Rattle.fw_disk.specs.declared.cause.DiskPlace.{DiskPlace}
use Rattle.fw_disk.specs.declared.cause.DiskPlace.TheVariants.{Folder, Record, Beside, Run, RunBeside}

-- the name of a file: the digits of its id, with '.new' behind them where the record is written first; or 'run', or 'run.new'
abbrev pub file_name_of : DiskPlace → List ℕ
file_name_of Folder = []
file_name_of (Record id) = decimal id
file_name_of (Beside id) = decimal id ++ 46 ∷ 110 ∷ 101 ∷ 119 ∷ []
file_name_of Run = 114 ∷ 117 ∷ 110 ∷ []
file_name_of RunBeside = 114 ∷ 117 ∷ 110 ∷ 46 ∷ 110 ∷ 101 ∷ 119 ∷ []

-- its path: that of the folder, '/' and the name
abbrev pub path_of : List ℕ → DiskPlace → List ℕ
path_of folder place = folder ++ (47 ∷ []) ++ file_name_of place
