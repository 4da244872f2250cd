use Rattle.fw_choose.proofs.outlook.choose.Goals as goal

pub returns-clause-of_state : goal.returns-clause-of_state
returns-clause-of_state c = λ sys records state stands. (c.in_ok-outlook.ensures.of_state sys records state stands).choice

pub returns-clause-of_held : goal.returns-clause-of_held
returns-clause-of_held c = λ sys records state held. (c.in_ok-outlook.ensures.of_held sys records state held).choice
