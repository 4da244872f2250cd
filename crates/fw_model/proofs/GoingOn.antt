-- A run that goes on where another ended.
use Rattle.std.proofs.Common.{[], ◌∷◌, subst}
use Rattle.fw_model.specs.Machine.{Machine}
use Rattle.fw_model.specs.Steps.{Run}
use Rattle.fw_model.specs.LawsOfRuns.{RunsGoOn}

pub runs-go_on : RunsGoOn
runs-go_on sys state between last [] more [] also r s = subst (λ (m : Machine). Run sys m more also last) r s
runs-go_on sys state between last [] more (o ∷ os) also r s = absurd r
runs-go_on sys state between last (x ∷ xs) more [] also r s = absurd r
runs-go_on sys state between last (x ∷ xs) more (o ∷ os) also r s = (r.0, r.1, runs-go_on sys r.0 between last xs more os also r.2 s)
