-- The pages that aren't all zeros, by the list of pages and by the flat RAM.
use Rattle.std.proofs.Common.{◌≡◌, ℕ, ◌+◌, Bool, cond, List, [], length, map, All, sym, ap, ◌∙◌, arith}
use Rattle.std.specs.List.{count_by, range_with_len}
use Rattle.std.proofs.lemmas.List.Folds.{fold-map}
use Rattle.std.proofs.lemmas.List.FromFn.{fill_by_all}
use Rattle.ram_block.specs.Shape.{total_pages_of}
use Rattle.ram_block.specs.declared.page_buf.TheConstants.{PAGE}
use Rattle.flat_machine.specs.Machine.{MachineData}
use Rattle.flat_machine.specs.Page.{joined, page_at}
use Rattle.flat_machine.proofs.Pages.{page_at-joined}
use Rattle.vm_report.specs.Ram.{is_nonzero, nonzero_pages}

count_by-map : {X Y : Type 0} (p : Y → Bool) (f : X → Y) (xs : List X) → count_by p (map f xs) ≡ count_by (λ x. p (f x)) xs
count_by-map p f xs = fold-map (λ n y. n + cond (p y) 1 0) f 0 xs

pub nonzero_by_pages : (m : MachineData) (pages : List (List ℕ)) → joined pages ≡ m.ram → length pages ≡ total_pages_of m.shape →
    All (λ page. length page ≡ PAGE) pages → count_by is_nonzero pages ≡ nonzero_pages m
nonzero_by_pages m pages ram count whole =
    let all : pages ≡ map (page_at m.ram) (range_with_len 0 (total_pages_of m.shape)) =
    fill_by_all (page_at m.ram) pages (total_pages_of m.shape) [] count
    (λ k inside. sym (page_at-joined pages k [] whole (omega arith)) ∙ ap (λ (r : List ℕ). page_at r k) ram) in
    ap (count_by is_nonzero) all ∙ count_by-map is_nonzero (page_at m.ram) (range_with_len 0 (total_pages_of m.shape))
