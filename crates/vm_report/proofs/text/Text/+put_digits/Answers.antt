-- The digits before the last, and then the last.
use Rattle.std.proofs.Common.{arith, ◌∙◌, ap, sym, append_assoc, List, ℕ, ◌++◌, ◌+◌, ◌%◌, ◌/◌, [], ◌∷◌, length, length-append}
use Rattle.std.specs.Fmt.{decimal}
use Rattle.std.proofs.lemmas.Fmt.{decimal_digit, decimal_step}
use Rattle.vm_report.proofs.Digits.{decimal_shorter}
use Rattle.vm_report.proofs.text.Text.+put_digits.Goals as goal

pub push-requires : goal.push-requires
push-requires t c = omega (arith, ap length (decimal_digit c.args.number c.if-number-lt10.true))

pub returns-then-number-lt10 : goal.returns-then-number-lt10
returns-then-number-lt10 t c =
    c.push.ensures.text ∙ ap (λ (l : List ℕ). c.args.self.now ++ l) (sym (decimal_digit c.args.number c.if-number-lt10.true))

pub put_digits-requires : goal.put_digits-requires
put_digits-requires t c = omega (arith, decimal_shorter c.args.number c.if-number-lt10.false (omega arith))

pub push-requires-2 : goal.push-requires-2
push-requires-2 t c =
    omega (arith, decimal_shorter c.args.number c.if-number-lt10.false (omega arith), ap length c.put_digits.ensures, length-append c.args.self.now (decimal (c.args.number / 10)))

pub returns : goal.returns
returns t c =
    let n = c.args.number in
    c.push-2.ensures.text
    ∙ ap (λ (l : List ℕ). l ++ (48 + n % 10) ∷ []) c.put_digits.ensures
    ∙ append_assoc c.args.self.now (decimal (n / 10)) ((48 + n % 10) ∷ [])
    ∙ ap (λ (l : List ℕ). c.args.self.now ++ l) (sym (decimal_step n c.if-number-lt10.false (omega arith)))
