use Rattle.std.proofs.Common.{◌≡◌, ◌+◌, ◌++◌, List, ℕ, length, take, drop, ◌∙◌, ap, arith}
use Rattle.std.proofs.lemmas.List.{take_at}
use Rattle.medium.proofs.Writes.{written_grown}
use Rattle.medium.proofs.write_log.place.Goals as goal

pub returns-clause-written : goal.returns-clause-written
returns-clause-written c =
    let at = c.args.at in
    let bytes = c.args.bytes.now in
    let long : length c.put.new.file ≡ c.grow.new.file.len = omega (arith, c.put.auto.file, c.deref_mut.ensures.len) in
    take_at c.put.new.file (drop (length c.put.new.file) c.grow.new.file.items) c.grow.new.file.len long
    ∙ c.put.ensures
    ∙ ap (λ (f : List ℕ). take at f ++ (bytes ++ drop (at + length bytes) f)) (c.deref_mut.ensures.value ∙ c.in_ok-grow.ensures.grown)
    ∙ written_grown at bytes c.args.file.now.items
