use Rattle.std.proofs.Common.{◌≡◌, None, refl, sym, rules}
use Rattle.rv64i_decode.proofs.round_trip.encode_decoded.Goals as goal

pub returns-in_err-instr-clause-found : goal.returns-in_err-instr-clause-found
returns-in_err-instr-clause-found c =
    let t = c.in_err-instr.ensures.table in
    let none : c.from_residual.result ≡ None = search rules in
    rw none ((λ some. cc), (λ found. cc ((t found.0).1 found.1)))

pub returns-clause-same : goal.returns-clause-same
returns-clause-same c =
    let instr = c.in_ok-instr.instr in
    sym (c.encode.ensures.only c.args.word ((c.in_ok-instr.ensures.table instr).0 refl))
