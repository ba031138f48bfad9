use Rattle.std.proofs.Common.{◌≡◌}
use Rattle.line_reader.specs.declared.reader.AtEnd.TheVariants.{GoOn}
use Rattle.line_reader.proofs.reader.LineReader.take_line.Given as goal

abbrev pub invariant-loop : goal.invariant-loop
invariant-loop l = l.fn.self.at_end ≡ GoOn → l.self.at_end ≡ GoOn
