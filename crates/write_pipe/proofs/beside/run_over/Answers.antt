-- The save is under way at the instant, over the end of the relay that saves.
use Rattle.medium.specs.Members.{file_state}
use Rattle.bg_saver.proofs.Instant.{begun_under_way}
use Rattle.bg_run.specs.Workers.{instant_of}
use Rattle.write_pipe.specs.Relayed.{written}
use Rattle.write_pipe.proofs.Relays.{written_at_instant}
use Rattle.write_pipe.proofs.beside.run_over.Goals as goal

pub returns-clause-file : goal.returns-clause-file
returns-clause-file g c =
    let i = instant_of c.args.end.now.pass in
    let r = c.in_ok-copier in
    c.run_beside-saved.ensures.file i (begun_under_way c.args.saver.now i (written r.writer) (file_state g.M.Readable c.args.medium.now) c.requires.begun
    (written_at_instant i c.args.end.now r.writer r.copier.inlet.queue c.args.pages c.requires.start c.requires.pages r.ensures.writes r.ensures.write_limits))
