use Rattle.std.proofs.Common.{◌≡◌, rules}
use Rattle.std.proofs.lemmas.List.Sorted.{answers_always}
use Rattle.fw_keep.specs.declared.entry.Entry.{Entry}
use Rattle.fw_keep.proofs.fetch.place_of.Goals as goal

pub returns-clause-place : goal.returns-clause-place
returns-clause-place c = c.binary_search_by_key.ensures.position (λ (e : Entry). e.id) (answers_always _ (λ a r. r ≡ a.0.now.id) _ (λ f a r f' called. search rules))
