-- For the proofs of src/asked.rt: what was read of a line.
use Rattle.std.specs.Prelude.{List, [], ◌∷◌, Option, Some, None, Result, Ok, Err}
use Rattle.fw_schedule.specs.declared.item.Item.{Item}
use Rattle.fw_bag.specs.Keyed.{sorted_recs}
use Rattle.fw_live.specs.declared.asked.Asked.{Asked as Read}
use Rattle.fw_live.specs.declared.asked.Change.{Change as ReadChange}
use Rattle.fw_live.specs.declared.asked.Change.TheVariants.{Nothing, Feed, Close, Show}
use Rattle.fw_live.specs.declared.rule.LineRule.{LineRule}
use Rattle.fw_live.specs.Asked.{Asked, Change, none, feeds, closes, shows}

-- the change that was read
abbrev pub change_in : ReadChange → Change
change_in Nothing = none
change_in (Feed s recs) = feeds s (sorted_recs recs.items)
change_in (Close s) = closes s
change_in Show = shows

-- the first item, if there is one
abbrev pub first_item : List Item → Option Item
first_item [] = None
first_item (item ∷ items) = Some item

-- what was read
abbrev pub read_in : Read → Asked
read_in read = record { change = change_in read.change; item = first_item read.items }

-- the same, or the rule that is broken
abbrev pub heard_in : Result Read LineRule → Result Asked LineRule
heard_in (Ok read) = Ok (read_in read)
heard_in (Err rule) = Err rule
