use Rattle.std.proofs.Common.{◌≡◌, ◌++◌, OnOk, rules}
use Rattle.guest_asm.specs.Bytes.{bytes_given}
use Rattle.guest_asm.specs.Steps.{GivesBytes}
use Rattle.guest_asm.proofs.Puts.{puts_given_on_ok}
use Rattle.guest_asm.proofs.piece.put_piece.Goals as goal

pub returns-then-gives_bytes-clause-piece : goal.returns-then-gives_bytes-clause-piece
returns-then-gives_bytes-clause-piece c =
    let gives : GivesBytes c.args.mnemonic = search rules in
    let put : OnOk c.put_given.result (c.put_given.new.bytes.items ≡ c.args.bytes.now.items ++ bytes_given c.args.mnemonic c.args.number) =
    search rules in
    puts_given_on_ok c.put_given.result c.args.mnemonic c.args.r c.args.number c.args.bytes.now.items c.put_given.new.bytes.items gives put
