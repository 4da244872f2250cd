-- Which texts words name.
use Rattle.std.proofs.Common.{◌≡◌, ℕ, List, [], Option, Some, None, option_map, sym, ap, ◌∙◌}
use Rattle.std.specs.Option.{option_map_or, option_or}
use Rattle.fw_command.specs.Command.{Command, TextNames, three_texts}
use Rattle.fw_command.specs.Words.{command_of, held_of}
use Rattle.fw_telling.specs.Names.{names_in, names_called}

abbrev named : Option TextNames → Option Command → List (List ℕ)
named held command = option_map_or names_in (option_or (option_map three_texts held) (option_map (λ (c : Command). c.texts) command)) []

-- those of a held run
pub called_held : (words : List (List ℕ)) (names : TextNames) → Some names ≡ held_of words → names_called words ≡ names_in (three_texts names)
called_held words names e = ap (λ held. named held (command_of words)) (sym e)

-- those of a command
pub called_command : (words : List (List ℕ)) (command : Command) → None ≡ held_of words → Some command ≡ command_of words → names_called words ≡ names_in command.texts
called_command words command e k = ap (λ held. named held (command_of words)) (sym e) ∙ ap (named None) (sym k)

-- those of words that are neither
pub called_none : (words : List (List ℕ)) → None ≡ held_of words → None ≡ command_of words → names_called words ≡ []
called_none words e k = ap (λ held. named held (command_of words)) (sym e) ∙ ap (named None) (sym k)
