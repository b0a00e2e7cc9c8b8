use Rattle.std.proofs.Common.{length}
use Rattle.vm_cli.proofs.words.+mode_word.Given as goal

abbrev pub decreases-mode_word : goal.decreases-mode_word
decreases-mode_word l = length l.words.now
