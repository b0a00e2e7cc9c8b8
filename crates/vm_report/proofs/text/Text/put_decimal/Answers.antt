use Rattle.std.proofs.Common.{arith, ap, length, length-append}
use Rattle.std.specs.Fmt.{decimal}
use Rattle.vm_report.proofs.Digits.{decimal_short}
use Rattle.vm_report.proofs.text.Text.put_decimal.Goals as goal

pub put_digits-requires : goal.put_digits-requires
put_digits-requires c = omega (arith, decimal_short c.args.number (omega arith))

pub returns-clause-length : goal.returns-clause-length
returns-clause-length c =
    omega (arith, ap length c.put_digits.ensures, length-append c.args.self.now (decimal c.args.number), decimal_short c.args.number (omega arith))
