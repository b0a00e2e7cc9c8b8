use Rattle.device_state.proofs.WholeForth.{devices_are_read}
use Rattle.device_state.proofs.laws.a_device_text_is_read_back.Goals as goal

pub returns : goal.returns
returns c = devices_are_read
