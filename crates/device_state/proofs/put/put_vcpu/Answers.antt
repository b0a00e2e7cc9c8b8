-- The texts of the section, one after another.
use Rattle.std.proofs.Common.{append_assoc}
use Rattle.device_state.specs.DeviceText.{cpu_section}
use Rattle.device_state.proofs.put.put_vcpu.Goals as goal

pub returns : goal.returns
unfolding cpu_section
returns c =
    rw (
      c.in_ok-put_footer.ensures,
      c.in_ok-push.ensures.items,
      c.in_ok-put_be64-2.ensures,
      c.in_ok-put_be64.ensures,
      c.in_ok-put_regs.ensures,
      c.in_ok-put_start.ensures,
      c.code_of_state.ensures,
      c.state.ensures.value,
      c.steps.ensures.value,
      c.pc.ensures.value,
    )
    (simp append_assoc)
