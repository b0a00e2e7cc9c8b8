-- Each byte was taken, without its bits past the last page.
use Rattle.std.proofs.Common.{◌≡◌, ℕ, ◌≤◌, length, sym, ap, ◌∙◌, subst, arith, refl}
use Rattle.page_bitmap.specs.Bitmap.{BitmapData, bits_of, byte_len_of}
use Rattle.page_bitmap.proofs.Bits.{length-bits_of}
use Rattle.page_bitmap.proofs.Packed.{cut_all, cut_bits, cut_packed}
use Rattle.page_bitmap.proofs.ReadBack.{bits_of-bytes_of}
use Rattle.page_bitmap.proofs.bitmap.Bitmap.get_bytes.Goals as goal

pub invariant_of-self : goal.invariant_of-self
invariant_of-self c =
    let f = c.loop-i.self-inside in
    let n : f.pages ≡ c.args.self.now.pages = c.loop-i.invariant.same_pages ∙ ap (λ (d : BitmapData). d.pages) c.self.view_is in
    let len : length c.args.bytes.now ≡ byte_len_of f.pages = c.requires ∙ sym (ap byte_len_of n) in
    let past : byte_len_of f.pages ≤ c.loop-i.i = subst (λ (m : ℕ). m ≤ c.loop-i.i) len (omega arith) in
    cut_packed f.pages c.args.bytes.now f.bytes.items (cut_all _ _ _ _ c.loop-i.invariant.cut past)

pub returns-clause-bits : goal.returns-clause-bits
returns-clause-bits c =
    let f = c.loop-i.self-inside in
    let n : f.pages ≡ c.args.self.now.pages = c.loop-i.invariant.same_pages ∙ ap (λ (d : BitmapData). d.pages) c.self.view_is in
    let len : length c.args.bytes.now ≡ byte_len_of f.pages = c.requires ∙ sym (ap byte_len_of n) in
    let past : byte_len_of f.pages ≤ c.loop-i.i = subst (λ (m : ℕ). m ≤ c.loop-i.i) len (omega arith) in
    rw (← n, cut_bits f.pages c.args.bytes.now f.bytes.items (cut_all _ _ _ _ c.loop-i.invariant.cut past)) refl

pub returns-clause-read_back : goal.returns-clause-read_back
returns-clause-read_back c = λ put len same.
    ap (λ (d : BitmapData). d.bits) (returns-clause-bits c)
    ∙ ap (bits_of c.args.self.now.pages) same
    ∙ bits_of-bytes_of c.args.self.now.pages put len

pub returns-clause-kept : goal.returns-clause-kept
returns-clause-kept c = length-bits_of _ _
