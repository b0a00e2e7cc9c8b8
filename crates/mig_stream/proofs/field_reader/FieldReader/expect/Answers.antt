use Rattle.std.proofs.Common.{refl}
use Rattle.mig_stream.proofs.Same.{told_differs}
use Rattle.mig_stream.proofs.field_reader.FieldReader.expect.Goals as goal

pub returns-in-Ok-Some-clause-answer : goal.returns-in-Ok-Some-clause-answer
returns-in-Ok-Some-clause-answer g c =
    let d = c.in-Ok-Some in
    told_differs _ c.args.self.now.at d.i d.found _ c.args.text.now d.field-0 refl d.field-0-is d.ensures.answer
