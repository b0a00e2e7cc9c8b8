use Rattle.std.proofs.Common.{sym, subst}
use Rattle.page_sweep.proofs.Removed.{absent-without}
use Rattle.write_pipe.specs.CopyEnd.{IsCopied}
use Rattle.write_pipe.proofs.copy_end.CopyEnd.take_page.Goals as goal

pub push-requires-clause-copied : goal.push-requires-clause-copied
push-requires-clause-copied g c =
    subst (λ e. IsCopied g.P.Plant.total g.P.Plant.stands e.inlet e.left (record { page = c.args.taken.page; bytes = c.take.new.into })) (sym c.copied.ensures.copied) (record {
      page = c.requires.page;
      first = c.copied.ensures.unsent;
      copied = absent-without c.args.self.now.left c.args.taken.page;
      bytes = λ pages stands. c.in-Copied.ensures.takes.bytes pages (c.requires.of_copy.stands pages stands);
    })
