-- For the proofs of src/live.rt and src/turn.rt: what a line came to was written and counted.
use Rattle.std.specs.Prelude.{◌≡◌, ℕ, ◌+◌, Bool, List, [], ◌++◌, Option, Result, IsSome}
use Rattle.fw_flow.specs.Dataflow.{Dataflow}
use Rattle.fw_keep.specs.Stored.{Records}
use Rattle.fw_session.specs.Story.{Story}
use Rattle.fw_live.specs.declared.rule.LineRule.{LineRule}
use Rattle.fw_live.specs.declared.counts.LineCounts.{LineCounts}
use Rattle.fw_live.specs.Answers.{Answer, Turn, turned, answer_text, saturated, counts_after, counts_turned, lines_kept, turn_text, Turns, IsAnswerTo, IsUnharmed}
use Rattle.fw_live.specs.Asked.{Asked, Change, shows, allowed}
use Rattle.fw_live.specs.ShowText.{show_text}
use Rattle.fw_living.specs.Life.{came_in_story}

-- the lines of a change that feeds no source and closes none
abbrev pub look_text : Dataflow → Story → Change → List ℕ
look_text flow story shows = show_text flow story
look_text flow story change = []

-- From a story, where these lines were kept, what was asked for came to this, which was written and counted; of the next story and the lines
-- that are kept then this is true; and a store that tells its records then damaged none.
pub record HasTurned (rests : Bool) (flow : Dataflow) (story : Story) (kept : List ℕ) (asked : Asked) (before after : LineCounts)
    (old new : List ℕ) (At : Story → List ℕ → Type 0) (records : Option Records) : Type 0 where
  pub turn : Turn
  pub next : Story
  pub turns : Turns rests flow story asked turn next
  pub written : new ≡ old ++ turn_text flow turn
  pub counted : after ≡ counts_turned turn before
  pub at : At next (lines_kept flow kept (turned turn))
  pub unharmed : IsSome records → IsUnharmed (turned turn)

-- From a story, where these lines were kept, what was heard was answered so, which was written and counted; and of the next story and the
-- lines that are kept then this is true; and a store that tells its records then damaged none.
pub record HasAnswered (rests : Bool) (flow : Dataflow) (story : Story) (kept : List ℕ) (heard : Result Asked LineRule) (before after : LineCounts)
    (old new : List ℕ) (At : Story → List ℕ → Type 0) (records : Option Records) : Type 0 where
  pub answer : Answer
  pub next : Story
  pub answers : IsAnswerTo rests flow story (allowed story.now.opened (came_in_story flow story) heard) answer next
  pub written : new ≡ old ++ answer_text flow (saturated (before.lines + 1)) answer
  pub counted : after ≡ counts_after answer before
  pub at : At next (lines_kept flow kept answer)
  pub unharmed : IsSome records → IsUnharmed answer
