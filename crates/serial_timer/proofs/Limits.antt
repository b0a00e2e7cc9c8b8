-- Each access leaves the serial device within its limits.
use Rattle.std.proofs.Common.{arith}
use Rattle.std.specs.Prelude.{ℕ}
use Rattle.std.proofs.lemmas.Grind.{common_steps}
use Rattle.std.proofs.Common.{length-drop}
use Rattle.serial_timer.specs.Serial.{SerialData, IsSerial, sent, received}

pub sent_limits : (s : SerialData) (byte : ℕ) → IsSerial s → IsSerial (sent s byte)
unfolding sent
sent_limits s byte h = grind (arith, common_steps)

pub received_limits : (s : SerialData) → IsSerial s → IsSerial (received s)
unfolding received
received_limits s h = record { bytes = h.bytes; lost = h.lost; input = omega (arith, length-drop 1 s.input) }
