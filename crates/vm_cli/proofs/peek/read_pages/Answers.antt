-- A page after another, up to the first that is cut.
use Rattle.std.proofs.Common.{ap, ◌∙◌, ◌++◌, ◌<◌, Err, List, ℕ, length, arith}
use Rattle.page_peek.specs.declared.fault.PageFault.{PageFault}
use Rattle.ram_block.specs.Shape.{total_pages_of}
use Rattle.medium.specs.Members.{file_state}
use Rattle.medium.proofs.Leaves.{leaves_on}
use Rattle.vm_cli.proofs.Peeks.{all_read, bytes_more, cuts_more, page_unread}
use Rattle.vm_cli.proofs.peek.read_pages.Goals as goal

pub returns-in-Err-clause-unread : goal.returns-in-Err-clause-unread
returns-in-Err-clause-unread g c =
    rw c.page_fault.ensures
    (page_unread (file_state g.M.Readable c.args.input.now) (file_state g.M.Readable c.loop-p.input) (file_state g.M.Readable c.page-in-loop-p.new.medium) c.args.peek.now c.args.first c.args.count c.loop-p.p c.page-in-loop-p.new.into c.in-Err.fault
    c.loop-p.invariant.leaves (omega (arith, c.loop-p-test.true, c.requires.within)) c.loop-p-test.true c.loop-p.invariant.cuts c.in-Err.ensures.answer
    (λ at is. (c.in-Err.ensures.truncated at (ap (λ (f : PageFault). Err f) is)).0) (λ is. c.in-Err.ensures.read_fault (ap (λ (f : PageFault). Err f) is)))

pub loop-p-preserved : goal.loop-p-preserved
loop-p-preserved g c =
    let so_far = c.loop-p.invariant in
    let inside : c.loop-p.p < total_pages_of c.args.peek.now.shape = omega (arith, c.loop-p-test.true, c.requires.within) in
    record {
      cuts = cuts_more _ (g.M.Readable.told c.loop-p.input) c.args.peek.now c.args.first c.args.count c.loop-p.p c.page-in-loop-p.new.into so_far.leaves.told inside c.loop-p-test.true so_far.cuts c.in_default.ensures.answer;
      bytes = bytes_more _ (g.M.Readable.told c.loop-p.input) c.args.peek.now c.args.first c.loop-p.p c.page-in-loop-p.new.into c.loop-p.bytes.items _ so_far.leaves.told inside so_far.from so_far.bytes c.in_default.ensures.answer
          (c.in_ok-extend_from_slice.ensures.items ∙ ap (λ (l : List ℕ). c.loop-p.bytes.items ++ l) c.bytes.ensures.bytes);
      length = omega (arith, so_far.length, so_far.from, c.in_ok-extend_from_slice.ensures.len, ap length c.bytes.ensures.bytes, c.bytes.ensures.length);
      from = omega (arith, so_far.from);
      leaves = leaves_on so_far.leaves c.in_default.ensures.leaves;
    }

pub returns-clause-pages : goal.returns-clause-pages
returns-clause-pages g c = all_read _ c.args.peek.now c.args.first c.args.count c.loop-p.p c.loop-p.bytes.items (omega (arith, c.loop-p-test.false)) c.loop-p.invariant.cuts c.loop-p.invariant.bytes
