use Rattle.answer_text.proofs.PathLemmas.{no-slash, last-slash}
use Rattle.answer_text.proofs.paths.base_name.Goals as goal

pub returns-in-None : goal.returns-in-None
returns-in-None c = no-slash _ c.in-None.ensures

pub returns-in-Some : goal.returns-in-Some
returns-in-Some c = last-slash _ _ c.in-Some.ensures
