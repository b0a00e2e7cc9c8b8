use Rattle.std.proofs.lemmas.List.Elements.{All-set}
use Rattle.rv64i_step.specs.Vcpu.{IsVcpu}
use Rattle.flat_machine.proofs.vcpus.fetch_into.Goals as goal

pub returns-clause-each : goal.returns-clause-each
returns-clause-each c = All-set IsVcpu c.args.vcpus.now.items c.args.k c.fetched.new.self c.fetched.ensures.limits c.requires.each
