-- A text that is written in several calls: what an output took of all of it.
use Rattle.std.proofs.Common.{◌≡◌, ℕ, ◌+◌, min, List, ◌++◌, length, take, Option, Some, None, Result, Ok, Err, OnErr, OnOk, option_map, sym, ap, subst, ◌∙◌, arith, append_assoc}
use Rattle.std.proofs.lemmas.List.{take_min, take-append-le}
use Rattle.std.proofs.Math.Seq.{take-append-add, take-length}
use Rattle.medium.specs.Bytes.{AddsFront, BecomesTold}

-- two texts that are taken whole, one after the other, are both joined, taken whole
pub whole_then_whole : (first second : List ℕ) (old mid new : Option (List ℕ)) → mid ≡ option_map (λ before. before ++ first) old
    → new ≡ option_map (λ before. before ++ second) mid → new ≡ option_map (λ before. before ++ (first ++ second)) old
whole_then_whole first second (Some before) mid new one two = two ∙ ap (option_map (λ (x : List ℕ). x ++ second)) one ∙ ap Some (append_assoc before first second)
whole_then_whole first second None mid new one two = two ∙ ap (option_map (λ (x : List ℕ). x ++ second)) one

-- a front of the first text is a front of both joined
front_of_first : (first second bytes new : List ℕ) → AddsFront first bytes new → AddsFront (first ++ second) bytes new
front_of_first first second bytes new some =
    let n = min some.0 (length first) in
    (n, some.1 ∙ ap (λ (l : List ℕ). bytes ++ l) (sym (take_min some.0 first) ∙ sym (take-append-le n first second (omega arith))))

-- the first text, and a front of the second, is a front of both joined
front_past_first : (first second bytes new : List ℕ) → AddsFront second (bytes ++ first) new → AddsFront (first ++ second) bytes new
front_past_first first second bytes new some =
    (length first + some.0, some.1 ∙ append_assoc bytes first (take some.0 second) ∙ ap (λ (l : List ℕ). bytes ++ l) (sym (take-append-add first second some.0)))

-- an output that took a front of the first text took a front of both joined
pub front_alone : (first second : List ℕ) (old new : Option (List ℕ)) → BecomesTold (AddsFront first) old new → BecomesTold (AddsFront (first ++ second)) old new
front_alone first second (Some bytes) (Some new) told = front_of_first first second bytes new told
front_alone first second (Some bytes) None told = absurd told
front_alone first second None new told = told

-- the same of one that tells its bytes
after_first : (first second bytes : List ℕ) (new : Option (List ℕ)) → BecomesTold (AddsFront second) (Some (bytes ++ first)) new → BecomesTold (AddsFront (first ++ second)) (Some bytes) new
after_first first second bytes (Some new) told = front_past_first first second bytes new told
after_first first second bytes None told = absurd told

-- an output that took the first text whole, and then a front of the second, took a front of both joined
pub whole_then_front : (first second : List ℕ) (old mid new : Option (List ℕ)) → mid ≡ option_map (λ before. before ++ first) old
    → BecomesTold (AddsFront second) mid new → BecomesTold (AddsFront (first ++ second)) old new
whole_then_front first second (Some bytes) mid new one two = after_first first second bytes new (subst (λ (o : Option (List ℕ)). BecomesTold (AddsFront second) o new) one two)
whole_then_front first second None mid new one two = subst (λ (o : Option (List ℕ)). BecomesTold (AddsFront second) o new) one two

-- a text that is taken whole is a front of it
pub whole_is_front : (text : List ℕ) (old new : Option (List ℕ)) → new ≡ option_map (λ before. before ++ text) old → BecomesTold (AddsFront text) old new
whole_is_front text (Some bytes) new is =
    let whole : text ≡ take (length text) text = sym (take-length text) in
    subst (λ (o : Option (List ℕ)). BecomesTold (AddsFront text) (Some bytes) o) (sym is) (length text, ap (λ (l : List ℕ). bytes ++ l) whole)
whole_is_front text None new is = is

-- so whatever a call answered, a front was taken
pub front_of : {T E : Type 0} (result : Result T E) (text : List ℕ) (old new : Option (List ℕ)) → OnOk result (new ≡ option_map (λ before. before ++ text) old)
    → OnErr result (BecomesTold (AddsFront text) old new) → BecomesTold (AddsFront text) old new
front_of (Ok value) text old new whole some = whole_is_front text old new whole
front_of (Err fault) text old new whole some = some
