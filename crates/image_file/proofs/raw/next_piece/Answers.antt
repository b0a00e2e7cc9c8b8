-- What one answer of the source moved.
use Rattle.std.proofs.Common.{ℕ, Option, List, length, arith, subst, sym}
use Rattle.image_file.specs.Image.{LeavesBehind}
use Rattle.image_file.proofs.Reading.{reads_none, took, took_on}
use Rattle.image_file.proofs.raw.next_piece.Goals as goal

pub returns-in_default-clause-read : goal.returns-in_default-clause-read
returns-in_default-clause-read g c =
    let left = g.S.Source.left c.args.source.now in record {
      left = subst (λ (o : Option (List ℕ)). LeavesBehind (length c.args.piece.now) left o) (sym c.in_default.ensures.stays) (reads_none (length c.args.piece.now) left);
      never_falls = c.in_default.ensures.cause.never_falls;
    }

pub returns-in_err-extend_from_slice-clause-read : goal.returns-in_err-extend_from_slice-clause-read
returns-in_err-extend_from_slice-clause-read g c =
    record {
      left = took_on (length c.args.piece.now) _ _ c.in-Ok.n c.read.new.buf (omega (arith, c.in-Ok.ensures.within, c.read.auto.buf)) c.in-Ok.ensures.answer;
      never_falls = c.in-Ok.ensures.cause.never_falls;
    }

pub returns-clause-moved : goal.returns-clause-moved
returns-clause-moved g c =
    took _ _ c.in-Ok.n c.read.new.buf c.args.all.now.items c.extend_from_slice.new.self.items (omega (arith, c.read.auto.buf)) c.in-Ok.ensures.answer
    c.in_ok-extend_from_slice.ensures.items

pub returns-clause-read : goal.returns-clause-read
returns-clause-read g c =
    record {
      left = took_on (length c.args.piece.now) _ _ c.in-Ok.n c.read.new.buf (omega (arith, c.in-Ok.ensures.within, c.read.auto.buf)) c.in-Ok.ensures.answer;
      never_falls = c.in-Ok.ensures.cause.never_falls;
    }
