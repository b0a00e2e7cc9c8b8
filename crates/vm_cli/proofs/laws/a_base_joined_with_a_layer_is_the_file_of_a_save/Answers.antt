-- What base and layer join to is the machine, so its file is one file.
use Rattle.medium.specs.Members.{file_state}
use Rattle.vm_cli.proofs.Joins.{joined_file}
use Rattle.vm_cli.proofs.laws.a_base_joined_with_a_layer_is_the_file_of_a_save.Goals as goal

pub returns : goal.returns
returns g c = λ base m i is other rest shape joined file other_file empty other_empty.
    joined_file base m i (file_state g.M.Readable c.args._before.now) (file_state g.M.Readable c.args._after.now) (file_state g.M.Readable c.args._other_before.now) (file_state g.M.Readable c.args._other_after.now)
    is other rest shape joined file other_file empty other_empty
