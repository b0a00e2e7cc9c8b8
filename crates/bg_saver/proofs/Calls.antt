-- Calls on a file, one list behind another.
use Rattle.std.proofs.Common.{◌≡◌, inl, inr, ◌⊎◌, ℕ, zero, suc, ◌+◌, ◌-◌, ◌<◌, true, false, List, [], ◌∷◌, ◌++◌, refl, subst, arith}
use Rattle.medium.specs.Members.{file_state}
use Rattle.medium.specs.declared.readable.Readable as readable
use Rattle.bg_saver.specs.Saver.{SaverData}
use Rattle.bg_saver.specs.Steps.{FileCall, LeavesCall, AllGoWell, IsCutShort, head_call, head_calls}

module _ {M : Type 0} (g : readable.Ghosts M) where
  pub all_then_all : (calls more : List FileCall) (old mid new : M) → AllGoWell g calls old mid → AllGoWell g more mid new → AllGoWell g (calls ++ more) old new
  all_then_all [] more old mid new first second = subst (λ m. AllGoWell g more m new) first second
  all_then_all (call ∷ calls) more old mid new first second = (first.0, first.1, all_then_all calls more first.0 mid new first.2 second)

  pub cut_before : (calls more : List FileCall) (old new : M) → IsCutShort g calls old new → IsCutShort g (calls ++ more) old new
  cut_before [] more old new cut = absurd cut
  cut_before (call ∷ calls) more old new (inl here) = inl here
  cut_before (call ∷ calls) more old new (inr later) = inr (later.0, later.1, cut_before calls more later.0 new later.2)

  pub all_then_cut : (calls more : List FileCall) (old mid new : M) → AllGoWell g calls old mid → IsCutShort g more mid new → IsCutShort g (calls ++ more) old new
  all_then_cut [] more old mid new first second = subst (λ m. IsCutShort g more m new) first second
  all_then_cut (call ∷ calls) more old mid new first second = inr (first.0, first.1, all_then_cut calls more first.0 mid new first.2 second)

  -- a list in two parts
  pub split_all : (calls more : List FileCall) (old new : M) → AllGoWell g (calls ++ more) old new → (mid : M) × AllGoWell g calls old mid × AllGoWell g more mid new
  split_all [] more old new all = (old, refl, all)
  split_all (call ∷ calls) more old new all =
      let rest = split_all calls more all.0 new all.2 in
      (rest.0, (all.0, all.1, rest.1), rest.2)

  pub split_cut : (calls more : List FileCall) (old new : M) → IsCutShort g (calls ++ more) old new → IsCutShort g calls old new ⊎ ((mid : M) × AllGoWell g calls old mid × IsCutShort g more mid new)
  split_cut [] more old new cut = inr (old, refl, cut)
  split_cut (call ∷ calls) more old new (inl here) = inl (inl here)
  split_cut (call ∷ calls) more old new (inr later) = elim (split_cut calls more later.0 new later.2) [
    | inl within ↦ inl (inr (later.0, later.1, within))
    | inr behind ↦ inr (behind.0, (later.0, later.1, behind.1), behind.2)
  ]

  -- the heads, block by block
  pub heads_begin : (d : SaverData) (medium : M) → AllGoWell g (head_calls d 0) medium medium
  heads_begin d medium = refl

  pub heads_go_on : (d : SaverData) (block next : ℕ) (old mid new : M) → next ≡ block + 1 → AllGoWell g (head_calls d block) old mid → LeavesCall (head_call d block) true (file_state g mid) (file_state g new)
      → AllGoWell g (head_calls d next) old new
  heads_go_on d block next old mid new is so_far call =
      let more : suc block ≡ next = omega arith in
      subst (λ n. AllGoWell g (head_calls d n) old new) more (all_then_all (head_calls d block) (head_call d block ∷ []) old mid new so_far (new, call, refl))

  cut_within : (d : SaverData) (n k : ℕ) (old new : M) → IsCutShort g (head_calls d n) old new → IsCutShort g (head_calls d (k + n)) old new
  cut_within d n zero old new cut = let same : n ≡ zero + n = omega arith in subst (λ m. IsCutShort g (head_calls d m) old new) same cut
  cut_within d n (suc k) old new cut =
      let same : suc (k + n) ≡ suc k + n = omega arith in
      subst (λ m. IsCutShort g (head_calls d m) old new) same (cut_before (head_calls d (k + n)) (head_call d (k + n) ∷ []) old new (cut_within d n k old new cut))

  pub heads_cut : (d : SaverData) (block blocks : ℕ) (old mid new : M) → block < blocks → AllGoWell g (head_calls d block) old mid → LeavesCall (head_call d block) false (file_state g mid) (file_state g new)
      → IsCutShort g (head_calls d blocks) old new
  heads_cut d block blocks old mid new lt so_far call =
      let here : IsCutShort g (head_calls d (suc block)) old new = all_then_cut (head_calls d block) (head_call d block ∷ []) old mid new so_far (inl call) in
      let all : (blocks - suc block) + suc block ≡ blocks = omega arith in
      subst (λ n. IsCutShort g (head_calls d n) old new) all (cut_within d (suc block) (blocks - suc block) old new here)
