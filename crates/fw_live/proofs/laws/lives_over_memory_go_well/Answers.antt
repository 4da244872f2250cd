use Rattle.std.proofs.Common.{refl}
use Rattle.fw_live.proofs.CommandLaws.{lives-go_well}
use Rattle.fw_live.proofs.laws.lives_over_memory_go_well.Goals as goal

pub returns : goal.returns
returns c = lives-go_well _ (λ store. refl) (λ store. refl)
