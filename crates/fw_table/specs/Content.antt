-- What a table has at each time is the content of what came then.
use Rattle.std.specs.Prelude.{◌≡◌, List, [], Option, Some, None}
use Rattle.std.specs.declared.cmp.Ordering.{Ordering}
use Rattle.std.specs.BTreeMap.{BTreeMap, get}
use Rattle.fw_time.specs.Stamp.{Stamp}
use Rattle.fw_bag.specs.Arrivals.{Arrival, arrivals_at}

-- the content of a place is that of these arrivals: where there is none, nothing came
abbrev pub IsContentOf : {C : Type 0} → (C → List Arrival → Type 0) → Option C → List Arrival → Type 0
IsContentOf holds None came = came ≡ []
IsContentOf holds (Some c) came = holds c came

-- the table holds at each time the content of what came at it
abbrev pub IsTable : {T C : Type 0} → (T → T → Ordering) → (T → Stamp) → (C → List Arrival → Type 0) → BTreeMap T C → List Arrival → Type 0
IsTable {T} cmp coords holds table came = (t : T) → IsContentOf holds (get cmp table t) (arrivals_at (coords t) came)
