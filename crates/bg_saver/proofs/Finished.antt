-- The calls that finish the file of a machine: each writes a piece of it, and with them all pieces are written.
use Rattle.std.proofs.Common.{◌≡◌, inl, inr, ℕ, zero, suc, ◌+◌, ◌*◌, ◌<◌, ◌≤◌, false, not, ◌&&◌, List, [], ◌∷◌, ◌++◌, length, take, drop, Option, Some, refl, sym, ap, ◌∙◌, subst, arith, append_assoc, length-append}
use Rattle.std.specs.Prelude.{slice_get, IfSome}
use Rattle.std.proofs.lemmas.Bool.{cases_lt}
use Rattle.std.proofs.lemmas.List.{ext_get_or, get_or-drop, get_or-take, length-take-le, length-drop}
use Rattle.std.proofs.lemmas.List.FromFn.{length-map-range_with_len, get_or-map-range_with_len}
use Rattle.std.proofs.lemmas.Option.{get_or_from_slice_get}
use Rattle.ram_block.specs.PageLinks.{is_listed}
use Rattle.std.proofs.Math.Nat.{mul-le-mul_left}
use Rattle.std.proofs.Math.Seq.{take-length}
use Rattle.bg_saver.proofs.Torn.{shut_refused}
use Rattle.ram_block.specs.Shape.{ShapeData, total_pages_of}
use Rattle.ram_block.specs.declared.page_buf.TheConstants.{PAGE}
use Rattle.medium.specs.Crash.{Only}
use Rattle.medium.specs.Members.{file_state}
use Rattle.medium.specs.declared.readable.Readable as readable
use Rattle.medium.proofs.Runs.{leaves_weaker, started}
use Rattle.medium.proofs.Told.{when_told}
use Rattle.flat_machine.specs.Machine.{MachineData}
use Rattle.device_state.specs.DeviceText.{Two, device_text}
use Rattle.page_cell.specs.Plant.{PlantState}
use Rattle.file_plan.specs.Layout.{Lay, StandsAt, file_of, head_text, is_saved, saved_bits, tail_text}
use Rattle.file_plan.specs.Plan.{head_len_of, head_place, page_place, tail_place}
use Rattle.file_plan.specs.UnderWay.{Covers, CoversFile, HasItsPieces, IsLaidSoFar}
use Rattle.file_plan.specs.declared.format.TheConstants.{TAIL_LEN}
use Rattle.file_plan.proofs.Heads.{length_head, length-tail}
use Rattle.file_plan.proofs.Records.{record_past_front}
use Rattle.file_plan.proofs.UnderWay.{covers_behind_gate, covers_here, covers_still, whole_behind_gate}
use Rattle.bg_saver.specs.Saver.{SaverData, IsSaver, block_bits, total_of}
use Rattle.bg_saver.specs.Save.{IsUnderWay, IsWhole, Saves, ranges_of}
use Rattle.bg_saver.specs.Steps.{FileCall, Write, Sync, AllGoWell, IsCutShort, finish_calls, head_call, head_calls}
use Rattle.bg_saver.specs.Turn.{LeavesFile, MayBeLeft, turn_at}
use Rattle.bg_saver.specs.Writes.{IsRefusedOr, IsShutNow, LeavesSince, whole_tail}
use Rattle.bg_saver.specs.declared.save_end.SaveEnd.{SaveEnd}
use Rattle.bg_saver.specs.declared.save_end.SaveEnd.TheVariants as ends
use Rattle.bg_saver.specs.declared.turn.Turn.TheVariants as turns
use Rattle.bg_saver.proofs.Calls.{split_all, split_cut}
use Rattle.bg_saver.proofs.Chains.{ArePieceCalls, IsOnWay, IsPieceCall, all_on, cut_since, end_all, end_cut, ranges_after}
use Rattle.bg_saver.proofs.Ranges.{bit_covers}

-- ---- Lists of calls

pieces_join : (i : MachineData) (calls more : List FileCall) → ArePieceCalls i calls → ArePieceCalls i more → ArePieceCalls i (calls ++ more)
pieces_join i [] more first second = second
pieces_join i (call ∷ calls) more first second = (first.0, pieces_join i calls more first.1 second)

ranges_join : (calls more : List FileCall) (ranges : List (ℕ × ℕ)) → ranges_after (calls ++ more) ranges ≡ ranges_after more (ranges_after calls ranges)
ranges_join [] more ranges = refl
ranges_join (Write at bytes ∷ calls) more ranges = ranges_join calls more ((at, length bytes) ∷ ranges)
ranges_join (Sync ∷ calls) more ranges = ranges_join calls more ranges

still_covers : (calls : List FileCall) (ranges : List (ℕ × ℕ)) (at n : ℕ) → Covers ranges at n → Covers (ranges_after calls ranges) at n
still_covers [] ranges at n covers = covers
still_covers (Write place bytes ∷ calls) ranges at n covers = still_covers calls ((place, length bytes) ∷ ranges) at n (covers_still ranges (place, length bytes) at n covers)
still_covers (Sync ∷ calls) ranges at n covers = still_covers calls ranges at n covers

-- ---- The saver when no page is left

module _ (d : SaverData) (i : MachineData) (limits : IsSaver d) (saves : Saves d i) (none : d.left ≡ []) (pieces : HasItsPieces (file_of i) i) where
  bit_is : (p : ℕ) → p < total_of d → slice_get d.bits p ≡ Some (is_saved i p)
  bit_is p lt = saves.bits p lt ∙ ap (λ (left : List ℕ). Some (not (is_listed left p) && is_saved i p)) none

  block_fits : (block : ℕ) → block < d.shape.blocks → d.shape.pages * block + d.shape.pages ≤ length d.bits
  block_fits block lt =
      let most : d.shape.pages * (block + 1) ≤ d.shape.pages * d.shape.blocks = mul-le-mul_left d.shape.pages (omega (arith, lt)) in
      omega (arith, most, limits.bits)

  block_length : (block : ℕ) → block < d.shape.blocks → length (block_bits d block) ≡ d.shape.pages
  block_length block lt = length-take-le d.shape.pages (drop (d.shape.pages * block) d.bits) (omega (arith, length-drop (d.shape.pages * block) d.bits, block_fits block lt))

  -- the bits of a block are those of the machine's file
  bits_are : (block : ℕ) → block < d.shape.blocks → block_bits d block ≡ saved_bits i block
  bits_are block lt =
      ext_get_or false (block_bits d block) (saved_bits i block)
      (block_length block lt ∙ ap (λ (s : ShapeData). s.pages) saves.shape ∙ sym (length-map-range_with_len (λ p. is_saved i (block * i.shape.pages + p)) 0 i.shape.pages))
      (λ p within.
      let small : p < d.shape.pages = omega (arith, within, block_length block lt) in
      let place : d.shape.pages * block + p < total_of d = omega (arith, small, block_fits block lt, limits.bits) in
      let small_too : p < i.shape.pages = omega (arith, small, ap (λ (s : ShapeData). s.pages) saves.shape) in
      let index : d.shape.pages * block + p ≡ block * d.shape.pages + p = omega arith in
      get_or-take d.shape.pages (drop (d.shape.pages * block) d.bits) p false small
      ∙ get_or-drop (d.shape.pages * block) d.bits p false
      ∙ get_or_from_slice_get d.bits (d.shape.pages * block + p) (is_saved i (d.shape.pages * block + p)) false (bit_is (d.shape.pages * block + p) place)
      ∙ ap (is_saved i) (index ∙ ap (λ (s : ShapeData). block * s.pages + p) saves.shape)
      ∙ sym (get_or-map-range_with_len (λ q. is_saved i (block * i.shape.pages + q)) 0 i.shape.pages p p false small_too (omega arith)))

  blocks_are : d.shape.blocks ≡ i.shape.blocks
  blocks_are = ap (λ (s : ShapeData). s.blocks) saves.shape

  head_is : (block : ℕ) → block < d.shape.blocks → head_text i.shape block (saved_bits i block) ≡ head_text d.shape block (block_bits d block)
  head_is block lt = ap (λ (s : ShapeData). head_text s block (saved_bits i block)) (sym saves.shape) ∙ ap (head_text d.shape block) (sym (bits_are block lt))

  head_size : (block : ℕ) → length (head_text d.shape block (block_bits d block)) ≡ head_len_of d.shape.pages block
  head_size block = length_head d.shape block (block_bits d block)

  some_head : (block : ℕ) → 40 < head_len_of d.shape.pages block
  some_head block = omega arith

  -- each head is a piece of the file
  head_piece : (block : ℕ) → block < d.shape.blocks → IsPieceCall i (head_call d block)
  head_piece zero lt =
      (omega arith, omega (arith, length-drop 1 (head_text d.shape 0 (block_bits d 0)), head_size 0, some_head 0), subst (λ (l : List ℕ). StandsAt (file_of i) 1 (drop 1 l)) (head_is 0 lt) pieces.behind_gate)
  head_piece (suc block) lt =
      let b = suc block in (
        omega (arith, record_past_front d.shape.pages b),
        omega (arith, head_size b, some_head b),
        subst (λ (s : ShapeData). StandsAt (file_of i) (head_place s b) (head_text d.shape b (block_bits d b))) (sym saves.shape)
            (subst (λ (l : List ℕ). StandsAt (file_of i) (head_place i.shape b) l) (head_is b lt) (pieces.heads b (subst (λ n. b < n) blocks_are lt))),
      )

  heads_pieces : (n : ℕ) → n ≤ d.shape.blocks → ArePieceCalls i (head_calls d n)
  heads_pieces zero le = tt
  heads_pieces (suc n) le = pieces_join i (head_calls d n) (head_call d n ∷ []) (heads_pieces n (omega arith)) (head_piece n (omega arith), tt)

  head_range : (block : ℕ) (ranges : List (ℕ × ℕ)) → Covers (ranges_after (head_call d block ∷ []) ranges) (head_place d.shape block) (head_len_of d.shape.pages block)
  head_range zero ranges =
      let size : 1 + length (drop 1 (head_text d.shape 0 (block_bits d 0))) ≡ head_len_of d.shape.pages 0 = omega (arith, length-drop 1 (head_text d.shape 0 (block_bits d 0)), head_size 0, some_head 0) in
      subst (λ n. Covers (ranges_after (head_call d 0 ∷ []) ranges) 0 n) size (covers_behind_gate ranges (length (drop 1 (head_text d.shape 0 (block_bits d 0)))))
  head_range (suc block) ranges =
      let b = suc block in
      subst (λ n. Covers (ranges_after (head_call d b ∷ []) ranges) (head_place d.shape b) n) (head_size b) (covers_here ranges (head_place d.shape b) (length (head_text d.shape b (block_bits d b))))

  heads_cover : (n : ℕ) (ranges : List (ℕ × ℕ)) (block : ℕ) → block < n → Covers (ranges_after (head_calls d n) ranges) (head_place d.shape block) (head_len_of d.shape.pages block)
  heads_cover zero ranges block lt = absurd (omega arith)
  heads_cover (suc n) ranges block lt =
      subst (λ (r : List (ℕ × ℕ)). Covers r (head_place d.shape block) (head_len_of d.shape.pages block)) (sym (ranges_join (head_calls d n) (head_call d n ∷ []) ranges)) (elim (cases_lt block n) [
        | inl before ↦ still_covers (head_call d n ∷ []) (ranges_after (head_calls d n) ranges) (head_place d.shape block) (head_len_of d.shape.pages block) (heads_cover n ranges block before)
        | inr last ↦
            let same : n ≡ block = omega arith in
            subst (λ b. Covers (ranges_after (head_call d n ∷ []) (ranges_after (head_calls d n) ranges)) (head_place d.shape b) (head_len_of d.shape.pages b)) same (head_range n (ranges_after (head_calls d n) ranges))
      ])

  -- ---- The heads and the tail

  abbrev tail_call : FileCall
  tail_call = Write (tail_place d.shape) (whole_tail d)

  abbrev pub piece_calls : List FileCall
  piece_calls = head_calls d d.shape.blocks ++ tail_call ∷ []

  tail_is : tail_text ++ device_text Two i ≡ whole_tail d
  tail_is = ap (λ (l : List ℕ). tail_text ++ l) (sym saves.devices)

  tail_size : length (whole_tail d) ≡ TAIL_LEN + length (device_text Two i)
  tail_size = ap length (sym tail_is) ∙ length-append tail_text (device_text Two i) ∙ ap (λ n. n + length (device_text Two i)) length-tail

  tail_stands : StandsAt (file_of i) (tail_place d.shape) (whole_tail d)
  tail_stands =
      let at : drop (tail_place d.shape) (file_of i) ≡ whole_tail d = ap (λ (s : ShapeData). drop (tail_place s) (file_of i)) saves.shape ∙ pieces.tail ∙ tail_is in
      ap (take (length (whole_tail d))) at ∙ take-length (whole_tail d)

  pub all_pieces : ArePieceCalls i piece_calls
  all_pieces =
      pieces_join i (head_calls d d.shape.blocks) (tail_call ∷ []) (heads_pieces d.shape.blocks (omega arith))
      ((omega (arith, record_past_front d.shape.pages d.shape.blocks), omega (arith, tail_size), tail_stands), tt)

  pub all_covered : CoversFile (ranges_after piece_calls (ranges_of d)) i
  all_covered =
      let joined = ranges_join (head_calls d d.shape.blocks) (tail_call ∷ []) (ranges_of d) in
      let heads = ranges_after (head_calls d d.shape.blocks) (ranges_of d) in
      subst (λ (r : List (ℕ × ℕ)). CoversFile r i) (sym joined) (record {
        heads = λ block lt.
            covers_still heads (tail_place d.shape, length (whole_tail d)) (head_place i.shape block) (head_len_of i.shape.pages block)
            (subst (λ (s : ShapeData). Covers heads (head_place s block) (head_len_of s.pages block)) saves.shape (heads_cover d.shape.blocks (ranges_of d) block (subst (λ n. block < n) (sym blocks_are) lt)));
        pages = λ p lt saved.
            let here : p < total_of d = subst (λ (s : ShapeData). p < total_pages_of s) (sym saves.shape) lt in
            covers_still heads (tail_place d.shape, length (whole_tail d)) (page_place i.shape.pages p) PAGE
            (still_covers (head_calls d d.shape.blocks) (ranges_of d) (page_place i.shape.pages p) PAGE
            (subst (λ (s : ShapeData). Covers (ranges_of d) (page_place s.pages p) PAGE) saves.shape
            (bit_covers d.shape.pages 0 p d.bits p (bit_is p here ∙ ap Some saved) (omega arith))));
        tail =
            subst (λ n. Covers ((tail_place d.shape, length (whole_tail d)) ∷ heads) (tail_place i.shape) n) tail_size
            (subst (λ (s : ShapeData). Covers ((tail_place d.shape, length (whole_tail d)) ∷ heads) (tail_place s) (length (whole_tail d))) saves.shape (covers_here heads (tail_place d.shape) (length (whole_tail d))));
      })

  calls_are : finish_calls d ≡ piece_calls ++ (Sync ∷ (Write 0 (81 ∷ []) ∷ (Sync ∷ [])))
  calls_are = sym (append_assoc (head_calls d d.shape.blocks) (tail_call ∷ []) (Sync ∷ (Write 0 (81 ∷ []) ∷ (Sync ∷ []))))

  -- ---- What the calls leave of a file under way

  module _ {M : Type 0} (g : readable.Ghosts M) (lays : Lay (file_of i) i) (old new : M) (way : IsOnWay i (ranges_of d) (file_state g old) (file_state g old)) where
    pub finished_all : AllGoWell g (finish_calls d) old new → (LeavesSince (file_state g old) (file_state g new) (IsRefusedOr i)) × ((file_state g new).told ≡ Some (file_of i)) × Only (file_of i) (file_state g new).may_leave
    finished_all all =
        let parts = split_all g piece_calls (Sync ∷ (Write 0 (81 ∷ []) ∷ (Sync ∷ []))) old new (subst (λ (calls : List FileCall). AllGoWell g calls old new) calls_are all) in
        let on = all_on g i (file_state g old) piece_calls (ranges_of d) old parts.0 all_pieces way parts.1 in
        let whole = whole_behind_gate i saves.machine on.told.0 (ranges_after piece_calls (ranges_of d)) on.told.2 all_covered in
        let end = end_all g i (file_state g old) on.told.0 lays whole parts.0 new on.told.1 on.shut on.since parts.2 in
        (end.since, end.told, end.only)

    pub finished_cut : IsCutShort g (finish_calls d) old new → LeavesSince (file_state g old) (file_state g new) (IsRefusedOr i)
    finished_cut cut = elim (split_cut g piece_calls (Sync ∷ (Write 0 (81 ∷ []) ∷ (Sync ∷ []))) old new (subst (λ (calls : List FileCall). IsCutShort g calls old new) calls_are cut)) [
      | inl within ↦ leaves_weaker (λ image shut. inl (shut_refused image shut)) (cut_since g i (file_state g old) piece_calls (ranges_of d) old new all_pieces way within)
      | inr parts ↦
          let on = all_on g i (file_state g old) piece_calls (ranges_of d) old parts.0 all_pieces way parts.1 in
          let whole = whole_behind_gate i saves.machine on.told.0 (ranges_after piece_calls (ranges_of d)) on.told.2 all_covered in
          end_cut g i (file_state g old) on.told.0 lays whole parts.0 new on.told.1 on.shut on.since parts.2
    ]

-- ---- The turn that finishes

module _ {M R : Type 0} (g : readable.Ghosts M) (d : SaverData) (i : MachineData) (plant : PlantState R) (old new : M) (now : SaverData)
    (only_now : (image : List ℕ) → (file_state g old).left_since (file_state g old).moment image → (file_state g old).may_leave image) (limits : IsSaver d) (none : d.left ≡ [])
    (pieces : HasItsPieces (file_of i) i) (lays : Lay (file_of i) i) (under_way : IsUnderWay d i plant (file_state g old)) where
  way_of : (bytes : List ℕ) → (file_state g old).told ≡ Some bytes → IsOnWay i (ranges_of d) (file_state g old) (file_state g old)
  way_of bytes is =
      let laid : IsLaidSoFar bytes i (ranges_of d) = subst (λ (o : Option (List ℕ)). IfSome o (λ b. IsLaidSoFar b i (ranges_of d))) is under_way.told in
      let shut : IsShutNow (file_state g old) = subst (λ (o : Option (List ℕ)). IfSome o (λ b. IsShutNow (file_state g old))) is under_way.shut in
      record { told = (bytes, is, laid); shut = shut; since = started only_now shut }

  pub finish_complete : (end : SaveEnd) → turn_at end ≡ turns.Complete → LeavesFile g d old new end → IsWhole i (file_state g old).told (file_state g new)
  finish_complete ends.Complete is file = when_told (file_state g old).told _ (λ bytes told.
      let all = finished_all d i limits under_way.saves none pieces g lays old new (way_of bytes told) file in
      (all.1, all.2))
  finish_complete ends.Failed is file = absurd (cc is)

  finish_since : (end : SaveEnd) → LeavesFile g d old new end → (bytes : List ℕ) → (file_state g old).told ≡ Some bytes → LeavesSince (file_state g old) (file_state g new) (IsRefusedOr i)
  finish_since ends.Complete file bytes told = (finished_all d i limits under_way.saves none pieces g lays old new (way_of bytes told) file).0
  finish_since ends.Failed file bytes told = finished_cut d i limits under_way.saves none pieces g lays old new (way_of bytes told) file

  pub finish_crash : (end : SaveEnd) → LeavesFile g d old new end → IfSome (file_state g old).told (λ bytes. LeavesSince (file_state g old) (file_state g new) (MayBeLeft d.left i))
  finish_crash end file = when_told (file_state g old).told _ (λ bytes told.
      subst (λ (left : List ℕ). LeavesSince (file_state g old) (file_state g new) (MayBeLeft left i)) (sym none) (finish_since end file bytes told))
