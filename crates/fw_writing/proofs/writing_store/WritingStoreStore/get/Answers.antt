use Rattle.std.proofs.Common.{◌≡◌, Some, Vec, ℕ, option_map, ap, sym, ◌∙◌, rules}
use Rattle.std.specs.declared.alloc.Global.{Global}
use Rattle.fw_outside.proofs.Records.{get-record_map}
use Rattle.fw_writing.proofs.writing_store.WritingStoreStore.get.Goals as goal

pub returns-clause-bytes : goal.returns-clause-bytes
returns-clause-bytes c =
    let handed : c.extend_from_slice.new.self.items ≡ c.in-Some.bytes.now.items = search rules in
    get-record_map c.args.self.now.records.entries c.args.id
    ∙ ap (option_map (λ (v : Vec ℕ Global). v.items)) (sym c.in-Some.ensures.value) ∙ ap Some (sym handed)
