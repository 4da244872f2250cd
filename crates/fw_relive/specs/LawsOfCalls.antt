-- Laws of calls over a store that lasts, one after another.
use Rattle.std.specs.Prelude.{◌≡◌, ◌⊎◌, ℕ, Bool, List, Option, Some, IsSome}
use Rattle.std.specs.FinMap as map
use Rattle.std.specs.Option.{ForSome}
use Rattle.fw_outside.specs.Outside.{SinkView}
use Rattle.fw_flow.specs.Dataflow.{Dataflow}
use Rattle.fw_keep.specs.Stored.{Records}
use Rattle.fw_root.specs.declared.root.Digests.{Digests}
use Rattle.fw_run.specs.declared.status.Status.{Status}
use Rattle.fw_session.specs.Story.{Story}
use Rattle.fw_live.specs.Asked.{LineIn}
use Rattle.fw_live.specs.Call.{StaysQuiet}
use Rattle.fw_live.specs.Words.{LiveCommand}
use Rattle.fw_relive.specs.Opening.{lines_found}
use Rattle.fw_relive.specs.Call.{AnswersFrom, EndsLasting, EndsUnopened, KeepsAtEnd, LastingAnswers, MayBeginOver}

-- over an empty store a call may begin
abbrev pub EmptyStoresMayBegin : Type 0
EmptyStoresMayBegin = (texts : Option (List ℕ → Option (List ℕ))) (command : Option LiveCommand) (records : Option Records)
    → ForSome records (λ held. held ≡ map.empty) → MayBeginOver texts command records

-- over what a call left may begin the next one with the same words, where the folder tells its texts, and has the same
abbrev pub CallsGoOn : Type 0
CallsGoOn = (texts : List ℕ → Option (List ℕ)) (command : Option LiveCommand) (told tells : Option Records) (given gives : Option (List LineIn))
    (ended : Bool) (status : Status) (before after : SinkView) → MayBeginOver (Some texts) command told
    → LastingAnswers (Some texts) command told tells given gives ended status before after → MayBeginOver (Some texts) command tells

-- a session whose store keeps a story and lines goes on from this story, and finds these lines
abbrev pub CallsTellAgain : Type 0
CallsTellAgain = (rests : Bool) (flow : Dataflow) (digests : Digests) (told tells : Option Records) (given gives : Option (List LineIn))
    (ended : Bool) (status : Status) (before after : SinkView) → EndsLasting rests flow digests told tells given gives ended status before after
    → (story : Story) (lines : List ℕ) → IsSome told → KeepsAtEnd flow digests told story lines → IsSome tells
    → (EndsUnopened status × StaysQuiet given gives before after)
    ⊎ ((held : Records) × (so : AnswersFrom rests flow digests held story tells given gives ended status before after) × (lines_found so.found ≡ lines))
