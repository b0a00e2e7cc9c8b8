-- All passes joined to the saver's.
use Rattle.std.proofs.Common.{◌≡◌, ℕ, suc, List, [], ◌∷◌, ◌++◌, drop, map, reverse, take, Some, sym, ◌∙◌, ap}
use Rattle.std.specs.List.{slice_get}
use Rattle.std.proofs.lemmas.List.{append_assoc, map-append, reverse-append}
use Rattle.bus_rule.specs.Plays.{CanJoin, after_join, with_joined}
use Rattle.bus_rule.specs.Tells.{PassMe}
use Rattle.bus_rule.specs.Views.{Book, PassData, Role, Saving, Task, Working}
use Rattle.bus_rule.proofs.Ends.{get_there}
use Rattle.bus_rule.proofs.Lists.{take_place}
use Rattle.page_bus.specs.Joining.{joined_with, task_of_pass}
use Rattle.page_bus.specs.Passes.{VcpuPassData, book_of, task_of}
use Rattle.page_bus.proofs.Lists.{drop_head}

-- the next of a list of which so many were taken, while the rest lies in reverse
pub next_left : {A : Type 0} (n : ℕ) (left rest all : List A) (p : A) → left ≡ rest ++ p ∷ [] → reverse left ≡ drop n all → (slice_get all n ≡ Some p) × (drop (suc n) all ≡ reverse rest)
next_left n left rest all p is was =
    drop_head n all p (reverse rest) (sym was ∙ ap reverse is ∙ reverse-append rest (p ∷ []))

pub take_more : {A : Type 0} (n : ℕ) (all : List A) (p : A) → slice_get all n ≡ Some p → take (suc n) all ≡ take n all ++ p ∷ []
take_more n all p at = take_place all n p (get_there all n p at)

pub can_join : (me own : PassMe) (from : PassData) (tasks : List Task) (out : List _) → me ≡ (joined_with from tasks, out) → own.0.role ≡ Working (task_of own.0) → own.0.held ≡ [] →
    (b : Book) × (t : Task) × CanJoin me.0 own.0 b t
can_join me own from tasks out is role held =
    (record (book_of from) { joined = (book_of from).joined ++ tasks }, task_of own.0, record { role = ap (λ (m : PassMe). m.0.role) is; other_role = role; none_held = held })

pub join_more : (me own after : PassMe) (from : PassData) (out : List _) (n : ℕ) (all : List VcpuPassData) (p : VcpuPassData) →
    me ≡ (joined_with from (map task_of_pass (take n all)), out) → own.0.role ≡ Working (task_of own.0) → task_of own.0 ≡ task_of_pass p → slice_get all n ≡ Some p →
    after ≡ (after_join me.0 own.0, me.1) → after ≡ (joined_with from (map task_of_pass (take (suc n) all)), out)
join_more me own after from out n all p is role task at joined =
    joined
    ∙ ap (λ (m : PassMe). (after_join m.0 own.0, m.1)) is
    ∙ ap (λ (r : Role). (record (joined_with from (map task_of_pass (take n all))) { role = with_joined (joined_with from (map task_of_pass (take n all))).role r }, out)) (role ∙ ap Working task)
    ∙ ap (λ (ts : List Task). (record from { role = Saving (record (book_of from) { joined = ts }) }, out))
    (append_assoc (book_of from).joined (map task_of_pass (take n all)) (task_of_pass p ∷ [])
    ∙ ap (λ ts. (book_of from).joined ++ ts) (sym (map-append task_of_pass (take n all) (p ∷ [])) ∙ ap (map task_of_pass) (sym (take_more n all p at))))
