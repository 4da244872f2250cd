use Rattle.std.proofs.Common.{◌≡◌, ◌+◌, ◌-◌, ◌≤◌, ◌++◌, drop, filter, length, vec_len}
use Rattle.std.specs.Vec.{vec_capacity}
use Rattle.fw_keep.specs.Catalogue.{ids_of}
use Rattle.fw_keep.proofs.going.add_ids.Given as goal

abbrev pub invariant-loop-place : goal.invariant-loop-place
invariant-loop-place g l = record {
  added : l.waiting.items ++ ids_of (filter (g.G.Going.goes l.going) (drop l.place l.entries)) ≡ l.initial.waiting.items ++ ids_of (filter (g.G.Going.goes l.going) (drop l.from l.entries));
  room : vec_len l.waiting + (length l.entries - l.place) ≤ vec_capacity l.waiting;
  capacity : vec_capacity l.waiting ≡ vec_capacity l.initial.waiting;
}
