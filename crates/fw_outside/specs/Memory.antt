-- What the folders, stores and sinks in memory hold.
use Rattle.std.specs.Prelude.{ℕ, List, [], Vec, Option, Some, map, find, string_bytes, option_map, unwrap_or}
use Rattle.std.specs.Str.{bytes_eq}
use Rattle.std.specs.Ordering.{nat_cmp}
use Rattle.std.specs.FinMap.{FinMap, from_entries}
use Rattle.std.specs.declared.alloc.Global.{Global}
use Rattle.fw_outside.specs.declared.mem_folder.MemText.{MemText}

-- the text of the first entry of this name, if there is one
abbrev pub text_under : List MemText → List ℕ → Option (List ℕ)
text_under entries name =
    option_map (λ entry. entry.bytes.items) (find (λ entry. bytes_eq (string_bytes entry.name) name) entries)

-- the same, and an empty text under every other name
abbrev pub text_or_empty : List MemText → List ℕ → Option (List ℕ)
text_or_empty entries name = Some (unwrap_or (text_under entries name) [])

-- the records of the entries of a map
abbrev pub record_map : List (ℕ × Vec ℕ Global) → FinMap nat_cmp (List ℕ)
record_map entries = from_entries (map (λ entry. (entry.0, entry.1.items)) entries)
