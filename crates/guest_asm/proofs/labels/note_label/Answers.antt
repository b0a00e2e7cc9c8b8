use Rattle.std.proofs.Common.{◌≡◌, Some, None, rules}
use Rattle.std.proofs.lemmas.Map.Text.{btree_map_updates_str}
use Rattle.guest_asm.proofs.Spots.{named}
use Rattle.guest_asm.specs.Steps.{spot_in}
use Rattle.guest_asm.proofs.labels.note_label.Goals as goal

pub returns-in_ok-insert : goal.returns-in_ok-insert
returns-in_ok-insert c = λ other.
    let label : c.args.label ≡ Some c.in-Some.name = search rules in
    let new : spot_in c.args.labels.now c.in-Some.name.now ≡ None = search rules in
    rw (label, btree_map_updates_str c.in-Some.name.now c.args.labels.now c.insert.new.self _ c.in_ok-insert.ensures.updates other)
    (named (spot_in c.args.labels.now) c.in-Some.name.now other c.args.spot new)
