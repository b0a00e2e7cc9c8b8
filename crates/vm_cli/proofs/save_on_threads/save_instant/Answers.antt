-- A save that began goes on with its phase.
use Rattle.vm_cli.proofs.Saves.{crash_by, saved_by, unsaved_by}
use Rattle.vm_cli.proofs.save_on_threads.save_instant.Goals as goal

pub returns-clause-saved : goal.returns-clause-saved
returns-clause-saved g c =
    saved_by g.M.Readable c.args.machine _ c.args.output.now _ _ _ c.run_saved.result c.in_ok-stopped.ensures.begun
    c.run_saved.ensures.ended c.run_saved.ensures.file c.in_ok-stopped.ensures.loads_back

pub returns-clause-unsaved : goal.returns-clause-unsaved
returns-clause-unsaved g c =
    unsaved_by g.M.Readable c.args.machine _ _ c.args.output.now _ _ _ c.run_saved.result c.in_ok-stopped.ensures.begun c.run_saved.ensures.no_memory

pub returns-clause-crash : goal.returns-clause-crash
returns-clause-crash g c =
    crash_by g.M.Readable c.args.machine _ c.args.output.now _ _ _ c.run_saved.result c.in_ok-stopped.ensures.begun c.run_saved.ensures.file c.run_saved.ensures.no_memory
