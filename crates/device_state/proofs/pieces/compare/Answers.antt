use Rattle.std.proofs.Common.{◌∙◌, ap, rules}
use Rattle.device_state.specs.Reading.{checked}
use Rattle.device_state.specs.declared.fault.DeviceReadFault.TheVariants.{Section}
use Rattle.device_state.proofs.Found.{compared_on, compared_other, compared_to_the_end}
use Rattle.device_state.proofs.pieces.compare.Goals as goal

pub loop-i-preserved : goal.loop-i-preserved
loop-i-preserved c = c.loop-i.invariant ∙ compared_on c.args.at c.loop-i.i c.args.found.now c.args.text.now (search rules) (search rules) (search rules)

pub returns-then-found-i-clause-answer : goal.returns-then-found-i-clause-answer
returns-then-found-i-clause-answer c = λ end told. ap (checked Section end) (c.loop-i.invariant ∙ compared_other c.args.at c.loop-i.i c.args.found.now c.args.text.now (search rules) (search rules) (search rules))

pub returns-clause-answer : goal.returns-clause-answer
returns-clause-answer c = λ end. ap (checked Section end) (c.loop-i.invariant ∙ compared_to_the_end c.args.at c.loop-i.i c.args.found.now c.args.text.now (search rules))
