-- What a root tells of what an engine keeps.
use Rattle.std.specs.Prelude.{◌≡◌, ℕ, map, length}
use Rattle.std.specs.List.{AllZip}
use Rattle.fw_root.specs.OfFlow.{nodes_as}
use Rattle.fw_root.specs.declared.of_flow.Role.TheVariants as role
use Rattle.fw_root.specs.declared.root.Root.{Root}
use Rattle.fw_running.specs.declared.running.Running.{Running}
use Rattle.fw_running.specs.Kept.{output_of, source_of}
use Rattle.fw_resume.specs.Counted.{AreOwedOf, ArePendingOf}
use Rattle.fw_resume.specs.Fronts.{AreFrontsTold}
use Rattle.fw_resume.specs.Names.{HasIdsOf}
use Rattle.fw_resume.specs.Sends.{AreSendsTold}

-- The root tells, part by part, what the engine keeps.
pub record IsToldBy (running : Running) (root : Root) : Type 0 where
  pub ids : HasIdsOf running.parts.keep root
  pub injected : root.injected ≡ map (λ (s : ℕ). (source_of running s).injected) (nodes_as running.flow role.Input)
  pub bounds : root.bounds ≡ map (λ (o : ℕ). (output_of running o).bound) (nodes_as running.flow role.Output)
  pub fronts : AreFrontsTold running (length running.flow.nodes) root.fronts
  pub pending : ArePendingOf running.progress.counts (length running.flow.edges) root.pending
  pub owed : AreOwedOf running.progress.counts (length running.flow.nodes) root.owed
  pub sends : AllZip (AreSendsTold running.progress.counts) (nodes_as running.flow role.ByCount) root.sends
