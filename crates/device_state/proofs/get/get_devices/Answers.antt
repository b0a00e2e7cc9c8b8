use Rattle.std.proofs.Common.{ℕ, List}
use Rattle.device_state.specs.Reader.{Stands, told_of}
use Rattle.device_state.proofs.Found.{if_told}
use Rattle.device_state.proofs.WholeBack.{devices_told}
use Rattle.device_state.proofs.get.get_devices.Goals as goal

pub returns-in-Ok-clause-text : goal.returns-in-Ok-clause-text
returns-in-Ok-clause-text g c =
    let all = c.in-Ok.ensures in
    if_told (λ (file : List ℕ). Stands file c.args.reader.now.at c.get_all.new.reader.at (told_of c.in-Ok.devices)) _
    (λ file is. ((all.answer file is).0, (devices_told file c.args.reader.now.at _ (all.bytes file is) (all.answer file is).1).1))
