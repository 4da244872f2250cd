-- The words of a session's command.
use Rattle.std.specs.Prelude.{ℕ, Bool, true, false, ◌&&◌, if◌then◌else◌, List, [], ◌∷◌, Option, Some, None, codes}
use Rattle.std.specs.Str.{bytes_eq}
use Rattle.fw_command.specs.Words.{is_operand}
use Rattle.fw_live.specs.declared.words.LiveWords.{LiveWords}

-- a session's command: the name of the flow's text, and whether each line that is accepted, but `show`, ends with steps to rest
pub record LiveCommand : Type 0 where
  pub flow : List ℕ
  pub rests : Bool

-- the command, if these are its word and an operand
abbrev pub live_by : List ℕ → List ℕ → Bool → Option LiveCommand
live_by command flow rests = if bytes_eq command (codes "live") && is_operand flow then Some (record { flow = flow; rests = rests }) else None

-- the same with `auto` behind them
abbrev pub resting_by : List ℕ → List ℕ → List ℕ → Option LiveCommand
resting_by command flow mode = if bytes_eq mode (codes "auto") then live_by command flow true else None

-- the command that words are, if they are one: `live FLOW`, or `live FLOW auto`
abbrev pub live_of : List (List ℕ) → Option LiveCommand
live_of (command ∷ flow ∷ []) = live_by command flow false
live_of (command ∷ flow ∷ mode ∷ []) = resting_by command flow mode
live_of words = None

-- whether the first of the words is `live`
abbrev pub is_live : List (List ℕ) → Bool
is_live [] = false
is_live (word ∷ words) = bytes_eq word (codes "live")

-- the command that parsed words give
abbrev pub live_in : LiveWords → LiveCommand
live_in words = record { flow = words.flow.now; rests = words.rests }
