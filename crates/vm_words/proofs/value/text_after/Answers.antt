-- What `strip_prefix` says of a text.
use Rattle.std.proofs.Common.{sym}
use Rattle.vm_words.proofs.Prefixes.{after_found, after_missing}
use Rattle.vm_words.proofs.value.text_after.Goals as goal

pub returns-in-Some : goal.returns-in-Some
returns-in-Some c = sym (after_found c.args.text.now c.args.front.now _ c.in-Some.ensures.cases)

pub returns-in-None : goal.returns-in-None
returns-in-None c = sym (after_missing c.args.text.now c.args.front.now c.in-None.ensures.cases)
