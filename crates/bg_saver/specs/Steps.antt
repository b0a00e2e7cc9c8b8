-- Calls on a file one after another: all of them go well, or one fails and none comes behind it (this project's own
-- order of writes, docs/FILE_FORMAT.md).
use Rattle.std.specs.Prelude.{◌≡◌, ◌⊎◌, ℕ, zero, suc, ◌≤◌, Bool, true, false, List, [], ◌∷◌, ◌++◌, drop, IfSome, if◌then◌else◌}
use Rattle.medium.specs.Count.{HasRisen, counted}
use Rattle.medium.specs.Crash.{Only, Elapses}
use Rattle.medium.specs.Members.{file_state}
use Rattle.medium.specs.States.{FileState}
use Rattle.medium.specs.declared.readable.Readable as readable
use Rattle.file_plan.specs.Layout.{head_text}
use Rattle.file_plan.specs.Plan.{head_place, tail_place}
use Rattle.file_plan.specs.declared.format.TheConstants.{GATE}
use Rattle.bg_saver.specs.Saver.{SaverData, block_bits}
use Rattle.bg_saver.specs.Writes.{LeavesWrite, whole_tail}

-- a call: these bytes are written at this place, or all that was written is made sure of
pub data FileCall : Type 0 where
  Write : (at : ℕ) (bytes : List ℕ) → FileCall
  Sync : FileCall

-- what one sync leaves, and no other call
pub record LeavesSync (went_well : Bool) (old new : FileState) : Type 0 where
  pub told : new.told ≡ old.told
  pub never_falls : old.faults ≤ new.faults
  pub rose : went_well ≡ false → HasRisen old.faults new.faults
  pub syncs : new.syncs ≡ (if went_well then counted old.syncs else old.syncs)
  pub durable : went_well ≡ true → IfSome old.told (λ bytes. Only bytes new.may_leave)
  pub no_more : (image : List ℕ) → new.may_leave image → old.may_leave image
  pub time : Elapses old.moment new.moment old.left_since new.left_since new.may_leave

-- what one call leaves
abbrev pub LeavesCall : FileCall → Bool → FileState → FileState → Type 0
LeavesCall (Write at bytes) went_well old new = LeavesWrite at bytes went_well old new
LeavesCall Sync went_well old new = LeavesSync went_well old new

-- each call answered Ok, from the first file to the last
abbrev pub AllGoWell : {M : Type 0} → readable.Ghosts M → List FileCall → M → M → Type 0
AllGoWell {M = M} g [] old new = new ≡ old
AllGoWell {M = M} g (call ∷ calls) old new = (mid : M) × LeavesCall call true (file_state g old) (file_state g mid) × AllGoWell g calls mid new

-- some of the first calls answered Ok, the next one failed, and none came behind it
abbrev pub IsCutShort : {M : Type 0} → readable.Ghosts M → List FileCall → M → M → Type 0
IsCutShort {M = M} g [] old new = ⊥
IsCutShort {M = M} g (call ∷ calls) old new =
    LeavesCall call false (file_state g old) (file_state g new)
    ⊎ ((mid : M) × LeavesCall call true (file_state g old) (file_state g mid) × IsCutShort g calls mid new)

-- ---- The calls that finish a file

-- the head piece of a block, of the first one without the gate byte
abbrev pub head_call : SaverData → ℕ → FileCall
head_call d zero = Write 1 (drop 1 (head_text d.shape 0 (block_bits d 0)))
head_call d (suc block) = Write (head_place d.shape (suc block)) (head_text d.shape (suc block) (block_bits d (suc block)))

-- those of so many blocks, in order
abbrev pub head_calls : SaverData → ℕ → List FileCall
head_calls d zero = []
head_calls d (suc block) = head_calls d block ++ head_call d block ∷ []

-- the heads and the tail, and once they stand the gate
abbrev pub finish_calls : SaverData → List FileCall
finish_calls d =
    head_calls d d.shape.blocks
    ++ (Write (tail_place d.shape) (whole_tail d) ∷ (Sync ∷ (Write 0 (GATE ∷ []) ∷ (Sync ∷ []))))
