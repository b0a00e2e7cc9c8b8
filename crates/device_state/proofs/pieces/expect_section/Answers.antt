use Rattle.std.proofs.Common.{Err, ap, arith}
use Rattle.mig_stream.specs.declared.text_fault.TextFault.{TextFault}
use Rattle.device_state.specs.Reading.{section_in}
use Rattle.device_state.specs.declared.fault.DeviceReadFault.TheVariants.{Section}
use Rattle.device_state.proofs.Told.{text_found, text_bytes, text_fails, text_differs}
use Rattle.device_state.proofs.pieces.expect_section.Goals as goal

pub returns-in-Ok-clause-answer : goal.returns-in-Ok-clause-answer
unfolding section_in
returns-in-Ok-clause-answer g c = λ file is. text_found _ file c.args.reader.now.at c.args.text.now is Section _ c.in-Ok.ensures.at c.in-Ok.ensures.answer

pub returns-in-Ok-clause-bytes : goal.returns-in-Ok-clause-bytes
returns-in-Ok-clause-bytes g c = λ file is. text_bytes _ file _ c.args.text.now is _ c.in-Ok.ensures.at (λ i. omega (arith, c.type_inv.text i)) c.in-Ok.ensures.answer

pub returns-in-Err-Field-clause-answer : goal.returns-in-Err-Field-clause-answer
unfolding section_in
returns-in-Err-Field-clause-answer g c =
    let d = c.in-Err-Field in
    λ file is. text_fails _ file c.args.reader.now.at c.args.text.now is Section _ d.fault d.field-0 d.field-0-is d.ensures.answer

pub returns-in-Err-Differs-clause-answer : goal.returns-in-Err-Differs-clause-answer
unfolding section_in
returns-in-Err-Differs-clause-answer g c =
    let d = c.in-Err-Differs in
    λ file is told. text_differs _ file c.args.reader.now.at c.args.text.now is Section _ d.at d.found d.field-0 d.field-0-is d.ensures.answer

pub returns-in-Err-Differs-clause-fault : goal.returns-in-Err-Differs-clause-fault
returns-in-Err-Differs-clause-fault g c =
    let d = c.in-Err-Differs in
    record { cause = λ same. absurd (cc); place = (d.ensures.differs d.at d.found (ap (λ (e : TextFault). Err e) d.field-0-is)).0 }
