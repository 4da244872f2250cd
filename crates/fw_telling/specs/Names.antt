-- The names of the texts of a call.
use Rattle.std.specs.Prelude.{ℕ, List, [], ◌∷◌, map, option_map}
use Rattle.std.specs.Option.{option_map_or, option_or}
use Rattle.fw_command.specs.Command.{Origin, in_folder, generated, three_texts}
use Rattle.fw_command.specs.Words.{command_of, held_of}

-- the names of the texts that are in a folder, in the order in which they are read; none of generated ones
abbrev pub names_in : Origin → List (List ℕ)
names_in (in_folder flow others) = flow ∷ map (λ text. text.name) others
names_in (generated seeded) = []

-- the names of the texts that words of the top call name: of a held run, or of a command; none where the words are neither
abbrev pub names_called : List (List ℕ) → List (List ℕ)
names_called words = option_map_or names_in (option_or (option_map three_texts (held_of words)) (option_map (λ command. command.texts) (command_of words))) []
