use Rattle.std.proofs.Common.{◌≡◌, Some, None, sym, ◌∙◌, subst}
use Rattle.std.proofs.lemmas.Option.{same_Some}
use Rattle.fw_command.specs.Command.{TextNames}
use Rattle.fw_command.specs.Words.{text_names_in, words_in}
use Rattle.fw_run.proofs.HeldLaws.{empty_of-begin, may_hold-begin}
use Rattle.fw_run.specs.Answers.{known_by, outside_of}
use Rattle.fw_run.specs.Held.{HeldAnswers}
use Rattle.fw_run.proofs.command.run_or_hold.Goals as goal

-- names are not none
named : {A : Type 0} (x : A) → Some x ≡ None → ⊥
named x e = absurd (cc)

pub run_held-requires : goal.run_held-requires
run_held-requires g c =
    may_hold-begin (words_in c.args.words.now) (g.F.Folder.texts c.args.folder.now) (g.K.Store.view c.args.store.now).records (text_names_in c.in-Some.names) (sym c.in-Some.ensures) c.requires

pub run-requires : goal.run-requires
run-requires g c = empty_of-begin (words_in c.args.words.now) (g.F.Folder.texts c.args.folder.now) (g.K.Store.view c.args.store.now).records (sym c.in-None.ensures) c.requires

pub returns-in-Some-clause-answers : goal.returns-in-Some-clause-answers
returns-in-Some-clause-answers g c none = absurd (named (text_names_in c.in-Some.names) (c.in-Some.ensures ∙ none))

pub returns-in-Some-clause-held : goal.returns-in-Some-clause-held
returns-in-Some-clause-held g c names is =
    subst (λ (n : TextNames). HeldAnswers (known_by g.F.Folder.texts g.F.Folder.fetch_count g.F.Folder.fault_count g.K.Store.view g.O.Sink.view) n
    (outside_of c.args.folder.now c.args.store.now c.args.out.now) c.run_held.result (outside_of c.run_held.new.folder c.run_held.new.store c.run_held.new.out))
    (same_Some (text_names_in c.in-Some.names) names (c.in-Some.ensures ∙ is)) c.run_held.ensures

pub returns-in-None-clause-held : goal.returns-in-None-clause-held
returns-in-None-clause-held g c names is = absurd (named names (sym is ∙ sym c.in-None.ensures))
