use Rattle.std.proofs.Common.{rules}
use Rattle.std.proofs.lemmas.Map.Made.{filter_same_pairs}
use Rattle.fw_disk.proofs.TableLaws.{under-filter, is_some_left}
use Rattle.fw_disk.proofs.lines.RunLines.forget_gone.Goals as goal

pub returns : goal.returns
returns c =
    under-filter c.args.self.now.told c.retain.new.self c.retain.ensures.was_ordered
    (filter_same_pairs _ (λ e. is_some_left e.1) _ (λ k v b w g t. search rules) c.args.self.now.told.entries c.retain.new.self.entries c.retain.ensures.filtered)
