use Rattle.bus_rule.proofs.Clauses.{book_said, queue_said, holders_said, moment_said, vcpus_said, contents_said, phases_said, reached_said, passes_said, faults_said}
use Rattle.bus_rule.proofs.laws.the_rule_says_eight_things.Goals as goal

pub returns-clause-book : goal.returns-clause-book
returns-clause-book c = book_said

pub returns-clause-queue : goal.returns-clause-queue
returns-clause-queue c = queue_said

pub returns-clause-holders : goal.returns-clause-holders
returns-clause-holders c = holders_said

pub returns-clause-moment : goal.returns-clause-moment
returns-clause-moment c = moment_said

pub returns-clause-vcpus : goal.returns-clause-vcpus
returns-clause-vcpus c = vcpus_said

pub returns-clause-contents : goal.returns-clause-contents
returns-clause-contents c = contents_said

pub returns-clause-phases : goal.returns-clause-phases
returns-clause-phases c = phases_said

pub returns-clause-reached : goal.returns-clause-reached
returns-clause-reached c = reached_said

pub returns-clause-passes : goal.returns-clause-passes
returns-clause-passes c = passes_said

pub returns-clause-faults : goal.returns-clause-faults
returns-clause-faults c = faults_said
