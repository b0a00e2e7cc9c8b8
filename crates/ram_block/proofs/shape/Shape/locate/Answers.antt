-- A register that the device table gives serves the access.
use Rattle.ram_block.proofs.Addresses.{device_answer}
use Rattle.ram_block.proofs.shape.Shape.locate.Goals as goal

pub returns-clause-access : goal.returns-clause-access
returns-clause-access c =
    rw (c.ok_or.ensures.value, c.register_at.ensures) (device_answer c.args.self.now c.args.addr c.args.width c.args.way c.outside.result)
