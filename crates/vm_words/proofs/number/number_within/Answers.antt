-- What `parse` read, against the limits.
use Rattle.std.proofs.Common.{◌<◌, ◌^◌, sym, ◌∙◌, arith}
use Rattle.vm_words.proofs.Numerals.{number_read, read_number, read_below, read_above, read_none}
use Rattle.vm_words.proofs.number.number_within.Goals as goal

pub returns-in-Ok : goal.returns-in-Ok
returns-in-Ok c =
    let small : c.args.most < 2 ^ 64 = omega arith in
    sym (number_read c.args.least c.args.most c.args.text.now c.parse.result small (sym c.if-not-is_decimal.ensures) c.parse.ensures.value.0
    ∙ read_number c.args.least c.args.most c.in-Ok.number c.parse.result c.in-Ok.is c.if-least-number.true c.if-number-most.true)

pub returns-in_default : goal.returns-in_default
returns-in_default c =
    let small : c.args.most < 2 ^ 64 = omega arith in
    sym (number_read c.args.least c.args.most c.args.text.now c.parse.result small (sym c.if-not-is_decimal.ensures) c.parse.ensures.value.0
    ∙ read_above c.args.least c.args.most c.in-Ok.number c.parse.result c.in-Ok.is c.if-number-most.false)

pub returns-in_default-2 : goal.returns-in_default-2
returns-in_default-2 c =
    let small : c.args.most < 2 ^ 64 = omega arith in
    sym (number_read c.args.least c.args.most c.args.text.now c.parse.result small (sym c.if-not-is_decimal.ensures) c.parse.ensures.value.0
    ∙ read_below c.args.least c.args.most c.in-Ok.number c.parse.result c.in-Ok.is c.if-least-number.false)

pub returns-in_default-3 : goal.returns-in_default-3
returns-in_default-3 c =
    let small : c.args.most < 2 ^ 64 = omega arith in
    sym (number_read c.args.least c.args.most c.args.text.now c.parse.result small (sym c.if-not-is_decimal.ensures) c.parse.ensures.value.0
    ∙ read_none c.args.least c.args.most c.in_default.field-0 c.parse.result c.in_default.is)
