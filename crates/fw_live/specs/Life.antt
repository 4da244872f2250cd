-- What a session answers to the lines that come in, one after the other.
use Rattle.std.specs.Prelude.{◌≡◌, ℕ, ◌+◌, Bool, List, [], ◌∷◌, ◌++◌, None, if◌then◌else◌, codes, ◌==◌}
use Rattle.std.specs.Fmt.{decimal}
use Rattle.fw_flow.specs.Dataflow.{Dataflow}
use Rattle.fw_run.specs.Printed.{done_line}
use Rattle.fw_session.specs.Story.{Story}
use Rattle.fw_live.specs.declared.counts.LineCounts.{LineCounts}
use Rattle.fw_live.specs.Answers.{Answer, answer_text, saturated, counts_after, lines_kept, IsLineAnswer}
use Rattle.fw_live.specs.Asked.{LineIn}

-- From a story the lines are answered so, one after the other, and lead to the last one.
abbrev pub AreAnswers : Bool → Dataflow → Story → List LineIn → List Answer → Story → Type 0
AreAnswers rests flow story [] [] last = last ≡ story
AreAnswers rests flow story [] (answer ∷ answers) last = ⊥
AreAnswers rests flow story (line ∷ lines) [] last = ⊥
AreAnswers rests flow story (line ∷ lines) (answer ∷ answers) last =
    (next : Story) × IsLineAnswer rests flow story line answer next × AreAnswers rests flow next lines answers last

-- what was counted behind these answers
abbrev pub counts_behind : List Answer → LineCounts → LineCounts
counts_behind [] counts = counts
counts_behind (answer ∷ answers) counts = counts_behind answers (counts_after answer counts)

-- the lines that are kept behind these answers
abbrev pub kept_behind : Dataflow → List ℕ → List Answer → List ℕ
kept_behind flow kept [] = kept
kept_behind flow kept (answer ∷ answers) = kept_behind flow (lines_kept flow kept answer) answers

-- the lines of these answers, behind what was counted
abbrev pub answers_text : Dataflow → LineCounts → List Answer → List ℕ
answers_text flow counts [] = []
answers_text flow counts (answer ∷ answers) =
    answer_text flow (saturated (counts.lines + 1)) answer ++ answers_text flow (counts_after answer counts) answers

-- nothing was counted
abbrev pub no_counts : LineCounts
no_counts = record { lines = 0; steps = 0; idle = 0; faults = 0; damaged = None }

-- `done steps STEPS idle IDLE`, and behind it ` faults FAULTS` where there were any
abbrev pub counts_line : LineCounts → List ℕ
counts_line counts =
    if counts.faults == 0 then done_line counts.steps counts.idle
    else codes "done steps " ++ (decimal counts.steps ++ (codes " idle " ++ (decimal counts.idle ++ (codes " faults " ++ (decimal counts.faults ++ codes "\n")))))
