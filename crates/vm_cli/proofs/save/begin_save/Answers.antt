-- A save that doesn't begin leaves an output that had bytes.
use Rattle.std.proofs.Common.{sym, subst}
use Rattle.medium.specs.Members.{file_state}
use Rattle.vm_cli.specs.Write.{KeepsFull}
use Rattle.vm_cli.proofs.Jobs.{full_stays}
use Rattle.vm_cli.proofs.Saves.{unsaved_full}
use Rattle.vm_cli.proofs.save.begin_save.Goals as goal

pub returns-in_err-saver-clause-kept : goal.returns-in_err-saver-clause-kept
returns-in_err-saver-clause-kept g c =
    unsaved_full c.args.machine _ _ _ _ c.in_err-saver.ensures.leaves
    (λ same. subst (λ m. KeepsFull (file_state g.M.Readable c.args.output.now) (file_state g.M.Readable m)) (sym same) (full_stays (file_state g.M.Readable c.args.output.now)))
