-- The digits before the last, and then the last.
use Rattle.std.proofs.Common.{arith}
use Rattle.std.proofs.lemmas.Fmt.{decimal_digit, decimal_step}
use Rattle.std.proofs.lemmas.Result.{on_ok_weaker, on_err_weaker}
use Rattle.medium.proofs.Taken.{front_alone, whole_then_front, whole_then_whole}
use Rattle.vm_cli.proofs.Fronts.{if_failed}
use Rattle.vm_cli.proofs.parts.+put_number.Goals as goal

pub returns-then-number-lt10-clause-all : goal.returns-then-number-lt10-clause-all
returns-then-number-lt10-clause-all g t c = rw (decimal_digit c.args.number c.if-number-lt10.true) c.put_digit.ensures.all

pub returns-then-number-lt10-clause-some : goal.returns-then-number-lt10-clause-some
returns-then-number-lt10-clause-some g t c = rw (decimal_digit c.args.number c.if-number-lt10.true) c.put_digit.ensures.some

pub returns-in_err-put_number-clause-some : goal.returns-in_err-put_number-clause-some
returns-in_err-put_number-clause-some g t c =
    rw (decimal_step c.args.number c.if-number-lt10.false (omega arith))
    (if_failed c.from_residual.result (front_alone _ _ _ _ c.in_err-put_number.ensures.some))

pub returns-clause-all : goal.returns-clause-all
returns-clause-all g t c =
    rw (decimal_step c.args.number c.if-number-lt10.false (omega arith))
    (on_ok_weaker c.put_digit-2.result (whole_then_whole _ _ _ _ _ c.in_ok-put_number.ensures.all) c.put_digit-2.ensures.all)

pub returns-clause-some : goal.returns-clause-some
returns-clause-some g t c =
    rw (decimal_step c.args.number c.if-number-lt10.false (omega arith))
    (on_err_weaker c.put_digit-2.result (whole_then_front _ _ _ _ _ c.in_ok-put_number.ensures.all) c.put_digit-2.ensures.some)
