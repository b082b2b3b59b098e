use Rattle.solve_with_limit.specs.Answers.{build_done}
use Rattle.solve_with_limit.proofs.model.build_model_within.Goals as goal

pub returns : goal.returns
returns c = build_done c.in_ok-model.ensures
