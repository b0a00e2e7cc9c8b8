-- The texts of the section, one after another.
use Rattle.std.proofs.Common.{append_assoc}
use Rattle.device_state.specs.DeviceText.{serial_section}
use Rattle.device_state.proofs.put.put_serial.Goals as goal

pub returns : goal.returns
unfolding serial_section
returns c =
    rw (
      c.in_ok-put_footer.ensures,
      c.in_ok-extend_from_slice-2.ensures.items,
      c.in_ok-extend_from_slice.ensures.items,
      c.in_ok-put_be32-2.ensures,
      c.in_ok-put_be32.ensures,
      c.in_ok-put_be64.ensures,
      c.in_ok-put_start.ensures,
      c.lost.ensures.lost,
      c.bytes.ensures.bytes,
      c.input.ensures.input,
      c.bytes-2.ensures.bytes,
      c.input-2.ensures.input,
    )
    (simp append_assoc)
