use Rattle.std.proofs.Common.{◌≡◌, ℕ, List, Ok, subst}
use Rattle.mig_stream.specs.Pieces.{text_in}
use Rattle.device_state.proofs.Found.{of_told, text_has}
use Rattle.file_plan.specs.Layout.{StandsAt}
use Rattle.loader.proofs.piece.expect.Goals as goal

pub returns-in-Ok-clause-stands : goal.returns-in-Ok-clause-stands
returns-in-Ok-clause-stands g c = λ file told.
    let same : text_in file c.new.result.at c.args.text.now ≡ Ok tt =
    of_told (λ (f : List ℕ). text_in f c.new.result.at c.args.text.now ≡ Ok tt) (g.M.Readable.told c.new.result.medium.now) file (cc) c.in-Ok.ensures.answer in
    subst (λ (k : ℕ). StandsAt file k c.args.text.now) c.new.ensures.at (text_has file c.new.result.at c.args.text.now same).same
