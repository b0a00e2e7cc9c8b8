-- The bit of a page stands in the bitmap of its block.
use Rattle.std.proofs.Common.{◌≡◌, inl, inr, ℕ, ◌+◌, ◌*◌, ◌/◌, ◌%◌, ◌<◌, true, length, sym, ap, ◌∙◌, arith}
use Rattle.std.specs.Prelude.{slice_set}
use Rattle.std.proofs.lemmas.Bool.{cases_lt, cond-false}
use Rattle.std.proofs.Math.Nat.{div-lt_iff_lt-mul, mod-lt, mod-eq-sub-mul-div, mul-div-le}
use Rattle.page_bitmap.specs.Bitmap.{BitmapData}
use Rattle.bg_saver.proofs.JoinedBits.{set_joined}
use Rattle.bg_saver.proofs.progress.set_bit.Goals as goal

some_page : (p count pages : ℕ) → p < count * pages → 0 < pages
some_page p count pages lt = elim (cases_lt 0 pages) [
  | inl some ↦ some
  | inr none ↦ let zero : pages ≡ 0 = omega arith in let all : count * pages ≡ count * 0 = ap (λ n. count * n) zero in absurd (omega (arith, lt, all))
]

pub returns-then-not-zeros-clause-bits : goal.returns-then-not-zeros-clause-bits
returns-then-not-zeros-clause-bits c =
    let items = c.args.bitmaps.now.items in
    let some : 0 < c.args.pages = some_page c.args.p (length items) c.args.pages c.requires.page in
    let place : c.args.p ≡ c.args.pages * (c.args.p / c.args.pages) + c.args.p % c.args.pages =
    omega (arith, mod-eq-sub-mul-div c.args.p c.args.pages, mul-div-le c.args.p c.args.pages) in
    let set = ap (λ (b : BitmapData). b.bits) c.set.ensures.bits
    ∙ ap (λ (b : BitmapData). slice_set b.bits (c.args.p % c.args.pages) true) c.index_mut.ensures.value in
    set_joined c.args.pages items (c.args.p / c.args.pages) (c.args.p % c.args.pages) c.args.p c.set.new.self c.index_mut.result.now c.requires.each
    ((div-lt_iff_lt-mul some).1 c.requires.page) (mod-lt c.args.p some) place set
    ∙ sym (cond-false _ _ _ c.if-not-zeros.true)
