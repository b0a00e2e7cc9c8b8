-- A word that can't be split has no `=`.
use Rattle.std.proofs.Common.{◌≡◌, false, refl, lit<}
use Rattle.std.proofs.lemmas.Str.Pattern.{split_once_first}
use Rattle.vm_words.specs.Word.{has_equals}
use Rattle.vm_words.proofs.Prefixes.{no_equals}
use Rattle.vm_words.proofs.line.word_kind.Goals as goal

pub returns-in_default-clause-value : goal.returns-in_default-clause-value
returns-in_default-clause-value c =
    let hasnt : has_equals c.args.word.now ≡ false =
    no_equals c.args.word.now (rw c.in_default.is at (split_once_first 61 c.args.word.now c.split_once.result c.split_once.ensures.cases (lit< tt))) in
    rw hasnt refl
