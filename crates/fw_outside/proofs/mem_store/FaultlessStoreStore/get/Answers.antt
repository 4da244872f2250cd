use Rattle.std.proofs.Common.{◌≡◌, Some, None, Vec, ℕ, List, Option, IsSome, option_map, refl, ap, sym, subst, ◌∙◌, rules}
use Rattle.std.specs.FinMap as map
use Rattle.fw_outside.specs.Memory.{record_map}
use Rattle.std.specs.declared.alloc.Global.{Global}
use Rattle.fw_outside.proofs.Records.{get-record_map}
use Rattle.fw_outside.proofs.mem_store.FaultlessStoreStore.get.Goals as goal

pub returns-clause-bytes : goal.returns-clause-bytes
returns-clause-bytes c =
    let handed : c.extend_from_slice.new.self.items ≡ c.in-Some.bytes.now.items = search rules in
    get-record_map c.args.self.now.records.entries c.args.id
    ∙ ap (option_map (λ (v : Vec ℕ Global). v.items)) (sym c.in-Some.ensures.value) ∙ ap Some (sym handed)

-- where the store tells its records, the id is there
pub unreachable-requires : goal.unreachable-requires
unreachable-requires c =
    let absent : map.get (record_map c.args.self.now.records.entries) c.args.id ≡ None =
    get-record_map c.args.self.now.records.entries c.args.id ∙ ap (option_map (λ (v : Vec ℕ Global). v.items)) (sym c.in_default.ensures.value) in
    let P : Option (List ℕ) → Type 0 = λ o. IsSome o in
    let held : IsSome {T = List ℕ} None = subst P absent (c.requires _ refl) in
    search rules
