use Rattle.std.proofs.Common.{◌+◌, arith}
use Rattle.std.proofs.lemmas.Int.Digits.{digits_value_more}
use Rattle.guest_asm.proofs.Digits.{small_number}
use Rattle.guest_asm.proofs.number.digits_value.Goals as goal

pub overflow_mul-value : goal.overflow_mul-value
overflow_mul-value c =
    let next = digits_value_more c.args.radix c.args.text.now c.loop-c.c-index c.loop-c-test.true in
    let small = small_number c.args.radix c.args.most c.args.text.now (c.loop-c.c-index + 1) c.requires.least c.requires.greatest c.requires.most c.requires.digits in
    grind (arith, next, small, c.loop-c.invariant, c.from.ensures)

pub overflow_add-value : goal.overflow_add-value
overflow_add-value c =
    let next = digits_value_more c.args.radix c.args.text.now c.loop-c.c-index c.loop-c-test.true in
    let small = small_number c.args.radix c.args.most c.args.text.now (c.loop-c.c-index + 1) c.requires.least c.requires.greatest c.requires.most c.requires.digits in
    grind (arith, next, small, c.loop-c.invariant, c.from.ensures, c.digit_value.ensures, c.from-in-loop-c.ensures)

pub loop-c-preserved : goal.loop-c-preserved
loop-c-preserved c =
    let next = digits_value_more c.args.radix c.args.text.now c.loop-c.c-index c.loop-c-test.true in
    grind (arith, next, c.loop-c.invariant, c.from.ensures, c.digit_value.ensures, c.from-in-loop-c.ensures)

pub returns-clause-small : goal.returns-clause-small
returns-clause-small c =
    let small = small_number c.args.radix c.args.most c.args.text.now c.loop-c.c-index c.requires.least c.requires.greatest c.requires.most c.requires.digits in
    grind (arith, small, c.loop-c.invariant)
