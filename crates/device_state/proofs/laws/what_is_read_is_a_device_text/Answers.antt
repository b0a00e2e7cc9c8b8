use Rattle.device_state.proofs.WholeBack.{devices_told}
use Rattle.device_state.proofs.laws.what_is_read_is_a_device_text.Goals as goal

pub returns : goal.returns
returns c = devices_told
