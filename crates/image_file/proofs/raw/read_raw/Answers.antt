-- Reading goes on from the front of the source; where no more comes, all was read.
use Rattle.std.proofs.Common.{◌+◌, length, take, arith}
use Rattle.std.proofs.lemmas.List.{length-take}
use Rattle.image_file.proofs.Reading.{ended, read_more, read_none, reads_none, reads_on}
use Rattle.image_file.proofs.raw.read_raw.Goals as goal

pub returns-in_err-piece-clause-read : goal.returns-in_err-piece-clause-read
returns-in_err-piece-clause-read g c = record { left = reads_none _ _; never_falls = omega arith }

pub loop-all-init : goal.loop-all-init
loop-all-init g c = record {
  most = omega arith;
  piece = c.in_ok-piece.ensures;
  within = omega (arith, c.new-all.ensures.len);
  read = read_none (g.S.Source.left c.args.source.now) c.new-all.result.items c.new-all.ensures.items;
  count = omega arith;
}

pub returns-in_err-next_piece-clause-read : goal.returns-in_err-next_piece-clause-read
returns-in_err-next_piece-clause-read g c =
    record {
      left =
          reads_on (c.args.limit + 1) (length (take c.min-room.result c.deref_mut.result.now)) _ _ _ c.loop-all.all.items
          (omega (arith, c.loop-all.all.ok.0, length-take c.min-room.result c.deref_mut.result.now)) c.loop-all.invariant.read c.next_piece.ensures.read.left;
      never_falls = omega (arith, c.loop-all.invariant.count, c.next_piece.ensures.read.never_falls);
    }

pub returns-then-branch-eq0-clause-answer : goal.returns-then-branch-eq0-clause-answer
returns-then-branch-eq0-clause-answer g c bytes is =
    (ended c.args.limit c.in_ok-next_piece.field-0 _ _ _ c.loop-all.all.items c.next_piece.new.all.items c.loop-all.invariant.read c.in_ok-next_piece.ensures.moved
    c.if-branch-eq0.true (omega (arith, c.in_ok-next_piece.ensures.len, c.next_piece.new.all.ok.0)) bytes is).answer

pub returns-then-branch-eq0-clause-read : goal.returns-then-branch-eq0-clause-read
returns-then-branch-eq0-clause-read g c =
    record {
      left =
          reads_on (c.args.limit + 1) (length (take c.min-room.result c.deref_mut.result.now)) _ _ _ c.loop-all.all.items
          (omega (arith, c.loop-all.all.ok.0, length-take c.min-room.result c.deref_mut.result.now)) c.loop-all.invariant.read c.next_piece.ensures.read.left;
      never_falls = omega (arith, c.loop-all.invariant.count, c.next_piece.ensures.read.never_falls);
    }

pub returns-then-branch-eq0-clause-read_to_end : goal.returns-then-branch-eq0-clause-read_to_end
returns-then-branch-eq0-clause-read_to_end g c _ bytes is =
    (ended c.args.limit c.in_ok-next_piece.field-0 _ _ _ c.loop-all.all.items c.next_piece.new.all.items c.loop-all.invariant.read c.in_ok-next_piece.ensures.moved
    c.if-branch-eq0.true (omega (arith, c.in_ok-next_piece.ensures.len, c.next_piece.new.all.ok.0)) bytes is).end

pub returns-then-branch-eq0-clause-whole : goal.returns-then-branch-eq0-clause-whole
returns-then-branch-eq0-clause-whole g c _ bytes is =
    (ended c.args.limit c.in_ok-next_piece.field-0 _ _ _ c.loop-all.all.items c.next_piece.new.all.items c.loop-all.invariant.read c.in_ok-next_piece.ensures.moved
    c.if-branch-eq0.true (omega (arith, c.in_ok-next_piece.ensures.len, c.next_piece.new.all.ok.0)) bytes is).nothing

pub loop-all-preserved : goal.loop-all-preserved
loop-all-preserved g c = record {
  most = omega arith;
  piece = omega arith;
  within = omega (arith, c.in_ok-next_piece.ensures.len, c.in_ok-next_piece.ensures.within, length-take c.min-room.result c.deref_mut.result.now);
  read = read_more _ _ _ c.loop-all.all.items c.next_piece.new.all.items c.in_ok-next_piece.field-0 c.loop-all.invariant.read c.in_ok-next_piece.ensures.moved;
  count = omega (arith, c.next_piece.ensures.read.never_falls);
}
