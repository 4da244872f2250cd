-- What `Live::answer` says, in the words of a talk.
use Rattle.std.proofs.Common.{◌≡◌, ℕ, Bool, List, [], ◌++◌, ◌+◌, Option, Some, Result, Ok, Err, IfOk, OnOk, ap, ◌∙◌}
use Rattle.std.specs.Prelude.{unwrap_or}
use Rattle.fw_flow.specs.declared.step.Step.{Step}
use Rattle.fw_flow.specs.Dataflow.{Dataflow}
use Rattle.fw_keep.specs.Stored.{Records}
use Rattle.fw_schedule.specs.declared.item.Item.{Item}
use Rattle.fw_schedule.specs.declared.item.Item.TheVariants.{One, Auto}
use Rattle.fw_session.specs.Story.{Story}
use Rattle.fw_live.specs.declared.rule.LineRule.{LineRule}
use Rattle.fw_live.specs.declared.counts.LineCounts.{LineCounts}
use Rattle.fw_live.specs.Answered.{HasAnswered}
use Rattle.fw_live.specs.Answers.{answer_text, saturated}
use Rattle.fw_live.specs.Asked.{Asked}
use Rattle.fw_live.specs.Relies.{IsItemReliedOn, IsAskedReliedOn}

-- where the store tells its records, all can be relied on
relied-item : (held : Records) (item : Item) → IsItemReliedOn (Some held) item
relied-item held (One step) = tt
relied-item held (Auto most) = tt

pub relied : (held : Records) (asked : Result Asked LineRule) → IsAskedReliedOn (Some held) asked
relied held (Ok asked) = λ item is. relied-item held item
relied held (Err rule) = tt

-- behind no bytes, and with less said of the next story
answered-at : (rests : Bool) (flow : Dataflow) (story : Story) (kept : List ℕ) (heard : Result Asked LineRule) (before after : LineCounts)
    (old new : List ℕ) (P Q : Story → List ℕ → Type 0) (records : Option Records) → old ≡ []
    → ((next : Story) (lines : List ℕ) → P next lines → Q next lines)
    → HasAnswered rests flow story kept heard before after old new P records
    → HasAnswered rests flow story kept heard before after [] new Q records
answered-at rests flow story kept heard before after old new P Q records empty less has = record {
  answer = has.answer;
  next = has.next;
  answers = has.answers;
  written = has.written ∙ ap (λ bytes. bytes ++ answer_text flow (saturated (before.lines + 1)) has.answer) empty;
  counted = has.counted;
  at = less has.next _ has.at;
  unharmed = has.unharmed;
}

-- so where a session answers, from whatever story it was at
pub goes-on : {T E : Type 0} (result : Result T E) (At : Story → List ℕ → Type 0) (rests : Bool) (flow : Dataflow) (heard : Result Asked LineRule)
    (before after : LineCounts) (old new : List ℕ) (P Q : Story → List ℕ → Type 0) (held : Records)
    → old ≡ [] → ((next : Story) (lines : List ℕ) → P next lines → Q next lines)
    → ((story : Story) (kept : List ℕ) → At story kept → IfOk result (λ x. HasAnswered rests flow story kept heard before after old new P (Some held)))
    → OnOk result ((story : Story) (kept : List ℕ) → At story kept → HasAnswered rests flow story kept heard before after [] new Q (Some held))
goes-on (Ok x) At rests flow heard before after old new P Q held empty less has =
    λ story kept at. answered-at rests flow story kept heard before after old new P Q (Some held) empty less (has story kept at)
goes-on (Err e) At rests flow heard before after old new P Q held empty less has = tt

-- what holds whatever is answered holds beside it
pub beside-two : {T E : Type 0} (result : Result T E) (A B C : Type 0) → A → B → OnOk result C → OnOk result (A × B × C)
beside-two (Ok x) A B C a b c = (a, b, c)
beside-two (Err e) A B C a b c = tt

pub beside-three : {T E : Type 0} (result : Result T E) (A B C D : Type 0) → A → B → C → OnOk result D → OnOk result (A × B × C × D)
beside-three (Ok x) A B C D a b c d = (a, b, c, d)
beside-three (Err e) A B C D a b c d = tt

-- what some has
pub of-some : {T : Type 0} (x y : T) → Some x ≡ Some y → x ≡ y
of-some x y is = ap (λ found. unwrap_or found x) is
