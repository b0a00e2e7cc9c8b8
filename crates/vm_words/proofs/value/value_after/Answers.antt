-- The key is stripped, and then the `=`.
use Rattle.std.proofs.Common.{List, ℕ, codes, sym, ap, ◌∙◌}
use Rattle.std.specs.Option.{option_and_then}
use Rattle.vm_words.specs.Word.{after}
use Rattle.vm_words.proofs.Prefixes.{after-append}
use Rattle.vm_words.proofs.value.value_after.Goals as goal

pub returns-in-Some : goal.returns-in-Some
returns-in-Some c =
    c.text_after-in-Some.ensures ∙ ap (option_and_then (λ (rest : List ℕ). after rest (codes "="))) c.in-Some.ensures
    ∙ sym (after-append c.args.key.now c.args.word.now (codes "="))

pub returns-in-None : goal.returns-in-None
returns-in-None c =
    ap (option_and_then (λ (rest : List ℕ). after rest (codes "="))) c.in-None.ensures ∙ sym (after-append c.args.key.now c.args.word.now (codes "="))
