use Rattle.std.proofs.Common.{List, ℕ, Result, subst}
use Rattle.order_log.specs.Reading.{AnswersOrder}
use Rattle.order_log.specs.declared.fault.OrderRefusal.{OrderRefusal}
use Rattle.order_log.proofs.Pieces.{if_told}
use Rattle.order_log.proofs.ReadBack.{text_read}
use Rattle.order_log.proofs.get.get_order.Goals as goal

pub returns-clause-text : goal.returns-clause-text
returns-clause-text g c = if_told _ _ c.read_order.ensures.text

pub returns-clause-read_back : goal.returns-clause-read_back
returns-clause-read_back g c = λ o is told.
    subst (λ (found : Result (List ℕ) OrderRefusal). AnswersOrder found c.read_order.result) (text_read o c.args.vcpus c.requires.vcpus.1 is) (c.read_order.ensures.answer _ told)
