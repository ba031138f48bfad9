use Rattle.answer.proofs.Reading.{read_back}
use Rattle.answer.proofs.answer.Answer.write.Goals as goal

pub returns-clause-reads_back : goal.returns-clause-reads_back
returns-clause-reads_back c = read_back
