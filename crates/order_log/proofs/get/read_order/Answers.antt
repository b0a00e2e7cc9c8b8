use Rattle.std.proofs.Common.{◌+◌, ◌≤◌, ◌∙◌, ℕ, subst, sym, ◌++◌, length, arith}
use Rattle.mig_stream.specs.Pieces.{Has}
use Rattle.mig_stream.specs.Text.{be32, be64}
use Rattle.order_log.specs.Reading.{byte_len}
use Rattle.order_log.specs.declared.format.TheConstants.{HEAD_LEN}
use Rattle.order_log.proofs.ReadBack.{text_stands}
use Rattle.order_log.proofs.get.read_order.Goals as goal

-- each piece stands where it was read, and nothing stands behind them
pub returns-clause-text : goal.returns-clause-text
returns-clause-text g c = λ file told.
    let first = c.read_format.ensures.leaves.told ∙ told in
    let second = c.read_count.ensures.leaves.told ∙ first in
    let third = c.read_bytes.ensures.leaves.told ∙ second in
    let o = c.in_ok-order.order.members in
    let number = c.in_ok-order.ensures.count in
    let count = subst (λ (n : ℕ). Has file 8 (be32 c.args.vcpus ++ be64 n)) (sym number) (c.in_ok-count.ensures.stands file first) in
    let members = subst (Has file HEAD_LEN) (sym (c.in_ok-order.ensures.packed ∙ c.deref.ensures.value)) (c.in_ok-bytes.ensures.stands file second) in
    let within = c.in_ok-expect_end.ensures.within file third in
    let ends : length file ≤ HEAD_LEN + byte_len (length o) = omega (arith, within, number, c.div_ceil.ensures) in
    text_stands file o c.args.vcpus (c.in_ok-read_format.ensures.stands file told) count members ends
