use Rattle.std.proofs.Common.{ap, ◌*◌}
use Rattle.input_data.specs.Bytes.{day_of}
use Rattle.input_data.specs.declared.InputData.{InputData}
use Rattle.input_data.proofs.day.Day.seats.Goals as goal

pub returns : goal.returns
unfolding day_of
returns c = rw (c.word.ensures, c.word-2.ensures) (ap (λ (d : InputData). d.choosers * d.slots) c.self.view_is)
