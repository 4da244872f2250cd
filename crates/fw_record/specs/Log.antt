-- Logs as a store keeps them.
use Rattle.std.specs.Prelude.{ℕ, ◌==◌, List, map, filter}
use Rattle.fw_flow.specs.declared.event.Message.{Message}
use Rattle.fw_record.specs.declared.logged.Logged.{Logged}

-- the messages of a log on edge e
abbrev pub logged_on : ℕ → List Logged → List Message
logged_on e log = map (λ (l : Logged). l.message) (filter (λ (l : Logged). l.edge == e) log)
