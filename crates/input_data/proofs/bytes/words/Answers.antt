use Rattle.std.proofs.Common.{rules}
use Rattle.input_data.specs.BytesLaws.{word_from}
use Rattle.input_data.proofs.bytes.words.Goals as goal

pub returns : goal.returns
returns g c = c.table.ensures (word_from c.args.b.now c.args.at) (λ k h x p. search rules)
