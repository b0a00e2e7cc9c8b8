use Rattle.std.proofs.Common.{◌≡◌, List, ℕ, ◌++◌, length, sym, subst, ap, ◌∙◌, arith}
use Rattle.std.specs.List.{flat_map}
use Rattle.snap_layer.specs.Layer.{Joined, front_text, layer_of, page_text}
use Rattle.snap_layer.proofs.Joins.{layer_joins}
use Rattle.snap_layer.proofs.Pieces.{layer_put}
use Rattle.snap_layer.proofs.put.put_layer.Goals as goal

pub returns-clause-text : goal.returns-clause-text
returns-clause-text c =
    let base = c.args.base.now in
    let now = c.args.now.now in
    let pages = c.in_ok-pages.pages.items in
    let count : c.len.result ≡ length pages = omega arith in
    let front : c.put_front.new.out.items ≡ front_text base (length pages) =
    c.in_ok-put_front.ensures ∙ ap (λ (l : List ℕ). l ++ front_text base c.len.result) c.new-out.ensures.items ∙ ap (front_text base) count in
    let entries : c.put_pages.new.out.items ≡ c.put_front.new.out.items ++ flat_map (page_text now) pages =
    c.in_ok-put_pages.ensures ∙ ap (λ (l : List ℕ). c.put_front.new.out.items ++ flat_map (page_text now) l) c.deref.ensures.value in
    let text = c.in_ok-extend_from_slice.ensures.items ∙ ap (λ (l : List ℕ). c.put_pages.new.out.items ++ l) (c.deref-2.ensures.value ∙ c.in_ok-put_devices.ensures) in
    layer_put base now pages c.put_front.new.out.items c.put_pages.new.out.items c.extend_from_slice.new.self.items c.in_ok-pages.ensures.pages front entries text

pub returns-clause-joined : goal.returns-clause-joined
returns-clause-joined c =
    let text : c.extend_from_slice.new.self.items ≡ layer_of c.args.base.now c.args.now.now = returns-clause-text c in
    subst (λ (l : List ℕ). Joined c.args.base.now l c.args.now.now) (sym text)
    (layer_joins c.args.base.now c.args.now.now c.in_ok-pages.ensures.limits c.requires.rest c.requires.shape)
