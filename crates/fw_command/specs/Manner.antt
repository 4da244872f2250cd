-- How the steps of a program's run are taken and told.
use Rattle.fw_command.specs.Command as told
use Rattle.fw_command.specs.Command.{Manner as Told, LastLine as Last, Seeded, at_first, by_effect, with_certificates, of_steps, of_faults, of_seed}
use Rattle.fw_command.specs.declared.manner.Course.{Course}
use Rattle.fw_command.specs.declared.manner.Showing.{Showing}
use Rattle.fw_command.specs.declared.manner.Showing.TheVariants.{Effects, Certificates}
use Rattle.fw_command.specs.declared.words.GenerateWords.{GenerateWords}
use Rattle.fw_command.specs.declared.manner.LastLine.{LastLine}
use Rattle.fw_command.specs.declared.manner.LastLine.TheVariants.{Steps, Faults, Seed}
use Rattle.fw_command.specs.declared.manner.Manner.{Manner}

-- the seed and the size that parsed words give
abbrev pub seeded_in : GenerateWords → Seeded
seeded_in words = record { seed = words.seed; size = words.size }

-- what is told last
abbrev pub last_in : LastLine → Last
last_in Steps = of_steps
last_in Faults = of_faults
last_in (Seed words) = of_seed (seeded_in words)

-- what is told of each step
abbrev pub showing_in : Showing → told.Showing
showing_in Effects = by_effect
showing_in Certificates = with_certificates

-- how the steps are taken
abbrev pub course_in : Course → told.Course
course_in course = record { goes_on = course.goes_on; showing = showing_in course.showing }

-- the manner of a command's run
abbrev pub told_in : Manner → Told
told_in manner = record {
  start = at_first;
  course = course_in manner.course;
  is_seen = manner.is_seen;
  last = last_in manner.last;
}
