-- The calls one after another: the heads, the tail, a sync, the gate, a sync.
use Rattle.std.proofs.Common.{◌∷◌, [], inl, inr, true, false, refl, ap, ◌∙◌}
use Rattle.ram_block.specs.Shape.{ShapeData}
use Rattle.medium.specs.Members.{file_state}
use Rattle.file_plan.specs.Plan.{tail_place}
use Rattle.file_plan.specs.declared.format.TheConstants.{GATE}
use Rattle.bg_saver.specs.Steps.{LeavesSync}
use Rattle.bg_saver.specs.Writes.{LeavesWrite, whole_tail}
use Rattle.bg_saver.proofs.Calls.{all_then_all, all_then_cut, cut_before}
use Rattle.bg_saver.proofs.Results.{made_sure, on_err, same_write, sync_failed, write_failed, wrote}
use Rattle.bg_saver.proofs.finish.write_rest.Goals as goal
use Rattle.bg_saver.proofs.finish.write_rest.Goals.{After-sync, After-sync-2, After-write_at-2}

tail_wrote : (g : _) (c : After-sync g)
    → LeavesWrite (tail_place c.args.progress.now.shape) (whole_tail c.args.progress.now) true (file_state g.M.Readable c.write_heads.new.medium) (file_state g.M.Readable c.write_at.new.self)
tail_wrote g c =
    let e = c.in_ok-write_at.ensures in
    same_write _ _ _ _ true _ _ (c.tail_at.ensures.place ∙ ap (λ (s : ShapeData). tail_place s) c.plan.ensures.plan) c.tail.ensures.text (wrote _ _ _ _ _ e.written e.cause e.syncs e.images e.time)

first_sync : (g : _) (c : After-write_at-2 g) → LeavesSync true (file_state g.M.Readable c.write_at.new.self) (file_state g.M.Readable c.sync.new.self)
first_sync g c = let e = c.in_ok-sync.ensures in made_sure _ _ _ e.durable e.cause e.syncs e.told e.no_more e.time

gate_wrote : (g : _) (c : After-sync-2 g) → LeavesWrite 0 (GATE ∷ []) true (file_state g.M.Readable c.sync.new.self) (file_state g.M.Readable c.write_at-2.new.self)
gate_wrote g c = let e = c.in_ok-write_at-2.ensures in wrote _ _ _ _ _ e.written e.cause e.syncs e.images e.time

pub returns-in_err-write_heads-clause-cut : goal.returns-in_err-write_heads-clause-cut
returns-in_err-write_heads-clause-cut g c = on_err _ _ (cut_before g.M.Readable _ _ _ _ c.in_err-write_heads.ensures.cut)

pub returns-in_err-write_at-clause-cut : goal.returns-in_err-write_at-clause-cut
returns-in_err-write_at-clause-cut g c =
    let e = c.in_err-write_at.ensures in
    let tail = same_write _ _ _ _ false _ _ (c.tail_at.ensures.place ∙ ap (λ (s : ShapeData). tail_place s) c.plan.ensures.plan) c.tail.ensures.text
    (write_failed _ _ _ _ _ e.torn e.cause e.syncs e.images e.time) in
    on_err _ _ (all_then_cut g.M.Readable _ _ _ _ _ c.in_ok-write_heads.ensures.all (inl tail))

pub returns-in_err-sync-clause-cut : goal.returns-in_err-sync-clause-cut
returns-in_err-sync-clause-cut g c =
    let e = c.in_err-sync.ensures in
    let before = (goal.at.returns-in_err-sync-clause-cut g c).After-sync in
    on_err _ _ (all_then_cut g.M.Readable _ _ _ _ _ c.in_ok-write_heads.ensures.all (inr (c.write_at.new.self, tail_wrote g before, inl (sync_failed _ _ _ e.cause e.syncs e.told e.no_more e.time))))

pub returns-in_err-write_at-2-clause-cut : goal.returns-in_err-write_at-2-clause-cut
returns-in_err-write_at-2-clause-cut g c =
    let e = c.in_err-write_at-2.ensures in
    let one = (goal.at.returns-in_err-write_at-2-clause-cut g c).After-sync in
    let two = (goal.at.returns-in_err-write_at-2-clause-cut g c).After-write_at-2 in
    on_err _ _ (all_then_cut g.M.Readable _ _ _ _ _ c.in_ok-write_heads.ensures.all
    (inr (c.write_at.new.self, tail_wrote g one, inr (c.sync.new.self, first_sync g two, inl (write_failed _ _ _ _ _ e.torn e.cause e.syncs e.images e.time)))))

pub returns-in_err-sync-2-clause-cut : goal.returns-in_err-sync-2-clause-cut
returns-in_err-sync-2-clause-cut g c =
    let e = c.in_err-sync-2.ensures in
    let one = (goal.at.returns-in_err-sync-2-clause-cut g c).After-sync in
    let two = (goal.at.returns-in_err-sync-2-clause-cut g c).After-write_at-2 in
    let three = (goal.at.returns-in_err-sync-2-clause-cut g c).After-sync-2 in
    on_err _ _ (all_then_cut g.M.Readable _ _ _ _ _ c.in_ok-write_heads.ensures.all
    (inr (c.write_at.new.self, tail_wrote g one, inr (c.sync.new.self, first_sync g two, inr (c.write_at-2.new.self, gate_wrote g three, inl (sync_failed _ _ _ e.cause e.syncs e.told e.no_more e.time))))))

pub returns-clause-all : goal.returns-clause-all
returns-clause-all g c =
    let e = c.in_ok-sync-2.ensures in
    let one = (goal.at.returns-clause-all g c).After-sync in
    let two = (goal.at.returns-clause-all g c).After-write_at-2 in
    let three = (goal.at.returns-clause-all g c).After-sync-2 in
    all_then_all g.M.Readable _ _ _ _ _ c.in_ok-write_heads.ensures.all
    (c.write_at.new.self, tail_wrote g one, (c.sync.new.self, first_sync g two, (c.write_at-2.new.self, gate_wrote g three, (c.sync-2.new.self, made_sure _ _ _ e.durable e.cause e.syncs e.told e.no_more e.time, refl))))
