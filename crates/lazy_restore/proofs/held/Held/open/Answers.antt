use Rattle.std.proofs.Common.{◌≡◌, ℕ, List, Ok, Err, ap}
use Rattle.medium.proofs.Told.{when_told}
use Rattle.loader.specs.Frame.{frame_in}
use Rattle.loader.specs.Loaded.{loaded}
use Rattle.loader.specs.Piece.{Refuses}
use Rattle.loader.specs.Stands.{HasFrame, says_frame}
use Rattle.loader.specs.declared.refusal.LoadFault.{LoadFault}
use Rattle.lazy_restore.specs.Answers.{ShowsLoaded}
use Rattle.lazy_restore.proofs.Opened.{refuses, shows_loaded}
use Rattle.lazy_restore.proofs.Stepped.{told_read}
use Rattle.lazy_restore.proofs.held.Held.open.Goals as goal

pub returns-in-Ok-of-clause-opens : goal.returns-in-Ok-of-clause-opens
returns-in-Ok-of-clause-opens g c =
    let frame = says_frame c.in-Ok.frame in
    let told = g.M.Readable.told c.args.medium.now in
    record {
      lazy = c.in-Ok-of.ensures.lazy;
      untouched = c.in-Ok-of.ensures.untouched;
      rest = c.in-Ok-of.ensures.rest;
      shows = when_told told (λ file. ShowsLoaded file c.in-Ok-of.held) (λ file is.
          shows_loaded file frame c.in-Ok-of.held (told_read (λ (f : List ℕ). frame_in f ≡ Ok frame) told file is c.in-Ok.ensures.answer)
          (told_read (λ (f : List ℕ). HasFrame f frame) told file is c.in-Ok.ensures.stands) c.in-Ok.ensures.limits c.in-Ok-of.ensures);
    }

pub returns-in-Err-clause-refused : goal.returns-in-Err-clause-refused
returns-in-Err-clause-refused g c =
    let told = g.M.Readable.told c.args.medium.now in
    record {
      refused = when_told told (λ file. Refuses (loaded file) c.in-Err.fault) (λ file is. refuses file c.in-Err.fault (told_read (λ (f : List ℕ). Refuses (frame_in f) c.in-Err.fault) told file is c.in-Err.ensures.answer));
      risen = λ is. c.in-Err.ensures.read_fault (ap (λ (f : LoadFault). Err f) is);
      leaves = c.in-Err.ensures.leaves;
    }
