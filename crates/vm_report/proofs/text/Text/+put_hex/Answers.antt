-- The digits before the last, and then the last.
use Rattle.std.proofs.Common.{arith, ◌∙◌, ap, sym, append_assoc, append-nil, List, ℕ, ◌++◌, ◌-◌, ◌%◌, ◌/◌, [], ◌∷◌}
use Rattle.vm_report.specs.Hex.{hex_digit, hex_digits}
use Rattle.vm_report.proofs.Digits.{hex_none, hex_step}
use Rattle.vm_report.proofs.text.Text.+put_hex.Goals as goal

pub returns-then-count-gt0-clause-text : goal.returns-then-count-gt0-clause-text
returns-then-count-gt0-clause-text t c =
    let count = c.args.count in
    let n = c.args.number in
    c.push.ensures.text
    ∙ ap (λ (l : List ℕ). l ++ c.hex_digit.result ∷ []) c.put_hex.ensures.text
    ∙ ap (λ d. (c.args.self.now ++ hex_digits (count - 1) (n / 16)) ++ d ∷ []) c.hex_digit.ensures
    ∙ append_assoc c.args.self.now (hex_digits (count - 1) (n / 16)) (hex_digit (n % 16) ∷ [])
    ∙ ap (λ (l : List ℕ). c.args.self.now ++ l) (sym (hex_step count n c.if-count-gt0.true))

pub returns-else-count-gt0-clause-text : goal.returns-else-count-gt0-clause-text
returns-else-count-gt0-clause-text t c =
    sym (append-nil c.args.self.now) ∙ ap (λ (l : List ℕ). c.args.self.now ++ l) (sym (hex_none c.args.count c.args.number (omega arith)))
