-- A list of pages as links by page number (this project's own, docs/ARCHITECTURE.md).
use Rattle.std.specs.Prelude.{ℕ, zero, suc, ◌==◌, Bool, nat_eq, List, [], ◌∷◌, length, Option, Some, None, slice_index, if◌then◌else◌}
use Rattle.std.specs.List.{list_any}

-- whether page p is in the list
abbrev pub is_listed : List ℕ → ℕ → Bool
is_listed q p = list_any (nat_eq p) q

-- the first of the list, or p where it is empty
abbrev pub first_or : ℕ → List ℕ → ℕ
first_or p [] = p
first_or p (a ∷ q) = a

-- the page after p, p where it is last, and the number of pages where p isn't in the list
abbrev pub link_of : ℕ → List ℕ → ℕ → ℕ
link_of pages [] p = pages
link_of pages (a ∷ q) p = if p == a then first_or p q else link_of pages q p

-- the pages met from p on along the links, at most n of them
abbrev pub walk : ℕ → List ℕ → ℕ → List ℕ
walk zero links p = []
walk (suc n) links p = p ∷ (if slice_index links p == p then [] else walk n links (slice_index links p))

-- the list that the links and the page that they start from stand for
abbrev pub walked : Option ℕ → List ℕ → List ℕ
walked None links = []
walked (Some p) links = walk (length links) links p
