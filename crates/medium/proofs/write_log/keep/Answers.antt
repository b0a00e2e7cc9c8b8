use Rattle.std.proofs.Common.{◌≡◌, ◌<◌, ◌+◌, ◌-◌, take, drop, List, ℕ, Bool, length, map, true, false, get_or, ap, sym, ◌∙◌, arith, ◌∷◌}
use Rattle.std.proofs.lemmas.List.{drop_more}
use Rattle.medium.specs.declared.write_log.Write.{Write}
use Rattle.medium.specs.Bytes.{written}
use Rattle.medium.specs.Log.{span, kept_after}
use Rattle.medium.proofs.Log.{ends_drop}
use Rattle.medium.proofs.write_log.keep.Goals as goal
use Rattle.medium.proofs.write_log.keep.Goals.{then-kept-i+in_ok-place, else-kept-i}

abbrev no_write : Write
no_write = record { at = 0; len = 0; synced = false }

-- the file after the step at i
module _ (log : List Write) (kept : List Bool) (i : ℕ) (present file : List ℕ) (in_log : i < length log) (in_kept : i < length kept) where
  abbrev w : Write
  w = get_or log i no_write

  parts : kept_after (map span (drop i log)) (drop i kept) present file ≡ kept_after (map span (w ∷ drop (i + 1) log)) (get_or kept i false ∷ drop (i + 1) kept) present file
  parts =
      ap (λ (l : List Write). kept_after (map span l) (drop i kept) present file) (drop_more log i no_write in_log)
      ∙ ap (λ (k : List Bool). kept_after (map span (w ∷ drop (i + 1) log)) k present file) (drop_more kept i false in_kept)

  kept_step : get_or kept i false ≡ true → kept_after (map span (drop i log)) (drop i kept) present file ≡ kept_after (map span (drop (i + 1) log)) (drop (i + 1) kept) present (written w.at (take (w.at + w.len - w.at) (drop w.at present)) file)
  kept_step is =
      let long : w.len ≡ w.at + w.len - w.at = omega arith in
      parts
      ∙ ap (λ (k : Bool). kept_after (map span (w ∷ drop (i + 1) log)) (k ∷ drop (i + 1) kept) present file) is
      ∙ ap (λ (n : ℕ). kept_after (map span (drop (i + 1) log)) (drop (i + 1) kept) present (written w.at (take n (drop w.at present)) file)) long

  lost_step : get_or kept i false ≡ false → kept_after (map span (drop i log)) (drop i kept) present file ≡ kept_after (map span (drop (i + 1) log)) (drop (i + 1) kept) present file
  lost_step is = parts ∙ ap (λ (k : Bool). kept_after (map span (w ∷ drop (i + 1) log)) (k ∷ drop (i + 1) kept) present file) is

pub loop-i-preserved : goal.loop-i-preserved
loop-i-preserved c =
    let log = c.args.log.now in
    let kept = c.args.kept.now in
    let present = c.args.present.now in
    let i = c.loop-i.i in
    let in_log = c.loop-i-test.true in
    let in_kept : i < length kept = omega (arith, in_log, c.requires.members) in
    let ends = ends_drop (length present) (i + 1) log c.requires.ends in
    let rest : List ℕ → List ℕ = λ f. kept_after (map span (drop (i + 1) log)) (drop (i + 1) kept) present f in
    elim c.if-kept-i.branch [
      | then-kept-i+in_ok-place w ↦ (
        ap (λ v. rest v.items) w.file-is ∙ ap rest w.in_ok-place.ensures.written
            ∙ sym (kept_step log kept i present c.loop-i.file.items in_log in_kept w.if-kept-i.true) ∙ c.loop-i.invariant.0,
        ends,
      )
      | else-kept-i w ↦ (
        ap (λ v. rest v.items) w.file-is
            ∙ sym (lost_step log kept i present c.loop-i.file.items in_log in_kept w.if-kept-i.false) ∙ c.loop-i.invariant.0,
        ends,
      )
    ]
