-- The calls of a begin, and what a crash leaves of each.
use Rattle.std.proofs.Common.{◌∷◌, []}
use Rattle.medium.specs.Members.{file_state}
use Rattle.bg_saver.proofs.Begun.{begins, by_fault, fails_to_sync, first_byte, gate_since, look_since, none_since, sync_since}
use Rattle.bg_saver.proofs.Results.{made_sure, sync_failed, wrote}
use Rattle.bg_saver.proofs.saver.Saver.begin.Goals as goal

pub returns-in_err-saver-clause-crash : goal.returns-in_err-saver-clause-crash
returns-in_err-saver-clause-crash g c only =
    let old = file_state g.M.Readable c.args.medium.now in
    first_byte old old (none_since old (g.met.M.Readable.only_now _)) only

pub returns-in_err-len-clause-images : goal.returns-in_err-len-clause-images
returns-in_err-len-clause-images g c = look_since (file_state g.M.Readable c.args.medium.now) (g.met.M.Readable.only_now _) (file_state g.M.Readable c.len.new.self) c.in_err-len.ensures.leaves

pub returns-in_err-len-clause-crash : goal.returns-in_err-len-clause-crash
returns-in_err-len-clause-crash g c only =
    let old = file_state g.M.Readable c.args.medium.now in
    let new = file_state g.M.Readable c.len.new.self in
    first_byte old new (look_since old (g.met.M.Readable.only_now _) new c.in_err-len.ensures.leaves) only

pub returns-then-len-gt0-clause-images : goal.returns-then-len-gt0-clause-images
returns-then-len-gt0-clause-images g c = look_since (file_state g.M.Readable c.args.medium.now) (g.met.M.Readable.only_now _) (file_state g.M.Readable c.len.new.self) c.in_ok-len.ensures.leaves

pub returns-then-len-gt0-clause-crash : goal.returns-then-len-gt0-clause-crash
returns-then-len-gt0-clause-crash g c only =
    let old = file_state g.M.Readable c.args.medium.now in
    let new = file_state g.M.Readable c.len.new.self in
    first_byte old new (look_since old (g.met.M.Readable.only_now _) new c.in_ok-len.ensures.leaves) only

pub returns-in_err-write_at-clause-images : goal.returns-in_err-write_at-clause-images
returns-in_err-write_at-clause-images g c =
    gate_since (file_state g.M.Readable c.args.medium.now) (g.met.M.Readable.only_now _) (file_state g.M.Readable c.len.new.self) (file_state g.M.Readable c.write_at.new.self) c.in_ok-len.ensures.leaves
    c.in_err-write_at.ensures.images c.in_err-write_at.ensures.time

pub returns-in_err-write_at-clause-crash : goal.returns-in_err-write_at-clause-crash
returns-in_err-write_at-clause-crash g c only =
    let old = file_state g.M.Readable c.args.medium.now in
    let new = file_state g.M.Readable c.write_at.new.self in
    first_byte old new (gate_since old (g.met.M.Readable.only_now _) (file_state g.M.Readable c.len.new.self) new c.in_ok-len.ensures.leaves c.in_err-write_at.ensures.images c.in_err-write_at.ensures.time) only

pub returns-in_err-sync-clause-images : goal.returns-in_err-sync-clause-images
returns-in_err-sync-clause-images g c =
    sync_since (file_state g.M.Readable c.args.medium.now) (g.met.M.Readable.only_now _) (file_state g.M.Readable c.len.new.self) (file_state g.M.Readable c.write_at.new.self) (file_state g.M.Readable c.sync.new.self)
    c.in_ok-len.ensures.leaves c.in_ok-write_at.ensures.images c.in_ok-write_at.ensures.time c.in_err-sync.ensures.no_more c.in_err-sync.ensures.time

pub returns-in_err-sync-clause-crash : goal.returns-in_err-sync-clause-crash
returns-in_err-sync-clause-crash g c only =
    let old = file_state g.M.Readable c.args.medium.now in
    let new = file_state g.M.Readable c.sync.new.self in
    first_byte old new (sync_since old (g.met.M.Readable.only_now _) (file_state g.M.Readable c.len.new.self) (file_state g.M.Readable c.write_at.new.self) new
    c.in_ok-len.ensures.leaves c.in_ok-write_at.ensures.images c.in_ok-write_at.ensures.time c.in_err-sync.ensures.no_more c.in_err-sync.ensures.time) only

pub returns-clause-images : goal.returns-clause-images
returns-clause-images g c =
    sync_since (file_state g.M.Readable c.args.medium.now) (g.met.M.Readable.only_now _) (file_state g.M.Readable c.len.new.self) (file_state g.M.Readable c.write_at.new.self) (file_state g.M.Readable c.sync.new.self)
    c.in_ok-len.ensures.leaves c.in_ok-write_at.ensures.images c.in_ok-write_at.ensures.time c.in_ok-sync.ensures.no_more c.in_ok-sync.ensures.time

pub returns-clause-crash : goal.returns-clause-crash
returns-clause-crash g c only =
    let old = file_state g.M.Readable c.args.medium.now in
    let new = file_state g.M.Readable c.sync.new.self in
    first_byte old new (sync_since old (g.met.M.Readable.only_now _) (file_state g.M.Readable c.len.new.self) (file_state g.M.Readable c.write_at.new.self) new
    c.in_ok-len.ensures.leaves c.in_ok-write_at.ensures.images c.in_ok-write_at.ensures.time c.in_ok-sync.ensures.no_more c.in_ok-sync.ensures.time) only

pub returns-clause-leaves : goal.returns-clause-leaves
returns-clause-leaves g c =
    let w = c.in_ok-write_at.ensures in
    let y = c.in_ok-sync.ensures in
    let old = file_state g.M.Readable c.args.medium.now in
    let mid = file_state g.M.Readable c.len.new.self in
    let written = file_state g.M.Readable c.write_at.new.self in
    let new = file_state g.M.Readable c.sync.new.self in
    begins old mid c.in_ok-len.ensures.leaves c.in_ok-len.len c.in_ok-len.ensures.answer c.if-len-gt0.false c.args.stopped.now written new _
    (wrote _ 0 (0 ∷ []) mid written w.written w.cause w.syncs w.images w.time) (made_sure _ written new y.durable y.cause y.syncs y.told y.no_more y.time) c.in_ok-saver.ensures.before c.in_ok-saver.ensures.limits

pub returns-in_err-sync-clause-leaves : goal.returns-in_err-sync-clause-leaves
returns-in_err-sync-clause-leaves g c =
    let w = c.in_ok-write_at.ensures in
    let y = c.in_err-sync.ensures in
    let old = file_state g.M.Readable c.args.medium.now in
    let mid = file_state g.M.Readable c.len.new.self in
    let written = file_state g.M.Readable c.write_at.new.self in
    let new = file_state g.M.Readable c.sync.new.self in
    let fails = fails_to_sync old mid c.in_ok-len.ensures.leaves c.in_ok-len.len c.in_ok-len.ensures.answer c.if-len-gt0.false written new
    (wrote _ 0 (0 ∷ []) mid written w.written w.cause w.syncs w.images w.time) (sync_failed _ written new y.cause y.syncs y.told y.no_more y.time) in
    by_fault c.args.stopped.now _ old new _ c.from_residual-in_err-sync.ensures.1 fails
