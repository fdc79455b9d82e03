-- Both clauses are those of the work.
use Rattle.rathunxa.proofs.rathunxa_work.Goals as goal

pub returns-clause-answers : goal.returns-clause-answers
returns-clause-answers c = c.work.ensures.answers

pub returns-clause-latest : goal.returns-clause-latest
returns-clause-latest c = c.work.ensures.latest
