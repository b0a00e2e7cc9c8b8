-- A log of writes tells the events, and goes on telling them after one more write and after a mark.
use Rattle.std.proofs.Common.{◌≡◌, ℕ, ◌+◌, ◌-◌, ◌<◌, ◌≤◌, zero, suc, Bool, true, false, cond, List, [], ◌∷◌, ◌++◌, length, get_or, set, take, drop, map, refl, sym, ◌∙◌, ap, subst, arith, length-append}
use Rattle.std.proofs.lemmas.List.{take_all, drop_all, take-append-le, drop-append-le, map_push, length-drop, length-take-le}
use Rattle.medium.specs.declared.write_log.Write.{Write}
use Rattle.medium.specs.Bytes.{written}
use Rattle.medium.specs.History.{Event, Wrote, Synced, bytes_after, bytes_synced, pending, synced, count_writes, bytes_written}
use Rattle.medium.specs.Log.{entered, events_of, replayed, HasBytes, EndsBy, total, marked, span, IsRecord}
use Rattle.medium.specs.Laws.{length-written}

-- what one more write makes of the events
nil_if_none : (xs : List ℕ) → length xs ≡ 0 → xs ≡ []
nil_if_none [] none = refl
nil_if_none (x ∷ xs) none = absurd (omega arith)

pub events_push : (log : List Write) (joined bytes : List ℕ) (past : List Event) (at : ℕ) → length joined ≡ total log → HasBytes log joined
    → events_of (log ++ record { at = at; len = length bytes; synced = false } ∷ []) (joined ++ bytes) past ≡ Wrote at bytes ∷ events_of log joined past
events_push [] joined bytes past at sum has =
    let none = nil_if_none joined sum in
    ap (λ (bs : List ℕ). Wrote at (take (length bytes) (bs ++ bytes)) ∷ past) none
    ∙ ap (λ (bs : List ℕ). Wrote at bs ∷ past) (take_all (length bytes) bytes (omega arith))
events_push (w ∷ log) joined bytes past at sum has =
    let more = log ++ record { at = at; len = length bytes; synced = false } ∷ [] in
    ap (λ (bs : List ℕ). events_of more bs (entered w (take w.len (joined ++ bytes)) past)) (drop-append-le w.len joined bytes has.0)
    ∙ ap (λ (bs : List ℕ). events_of more (drop w.len joined ++ bytes) (entered w bs past)) (take-append-le w.len joined bytes has.0)
    ∙ events_push log (drop w.len joined) bytes (entered w (take w.len joined) past) at (omega (arith, length-drop w.len joined)) has.1

-- a mark
synced_entered : (b : Bool) (at : ℕ) (bytes : List ℕ) (past : List Event) → synced (cond b (Synced ∷ Wrote at bytes ∷ past) (Wrote at bytes ∷ past)) ≡ Synced ∷ Wrote at bytes ∷ past
synced_entered true at bytes past = refl
synced_entered false at bytes past = refl

events_mark : (w : Write) (log : List Write) (joined : List ℕ) (past : List Event) → events_of (marked (w ∷ log)) joined past ≡ synced (events_of (w ∷ log) joined past)
events_mark w [] joined past = sym (synced_entered w.synced w.at (take w.len joined) past)
events_mark w (v ∷ log) joined past = events_mark v log (drop w.len joined) (entered w (take w.len joined) past)

pub events_marked : (log : List Write) (joined : List ℕ) → events_of (marked log) joined [] ≡ synced (events_of log joined [])
events_marked [] joined = refl
events_marked (w ∷ log) joined = events_mark w log joined []

-- the bytes after the events are those after the writes
bytes_entered : (b : Bool) (first : List ℕ) (at : ℕ) (bytes : List ℕ) (past : List Event) → bytes_after first (cond b (Synced ∷ Wrote at bytes ∷ past) (Wrote at bytes ∷ past)) ≡ written at bytes (bytes_after first past)
bytes_entered true first at bytes past = refl
bytes_entered false first at bytes past = refl

bytes_events : (first : List ℕ) (log : List Write) (joined : List ℕ) (past : List Event) → bytes_after first (events_of log joined past) ≡ replayed log joined (bytes_after first past)
bytes_events first [] joined past = refl
bytes_events first (w ∷ log) joined past =
    bytes_events first log (drop w.len joined) (entered w (take w.len joined) past)
    ∙ ap (replayed log (drop w.len joined)) (bytes_entered w.synced first w.at (take w.len joined) past)

replayed_more : (log : List Write) (joined bytes file : List ℕ) → HasBytes log joined → replayed log (joined ++ bytes) file ≡ replayed log joined file
replayed_more [] joined bytes file has = refl
replayed_more (w ∷ log) joined bytes file has =
    ap (λ (bs : List ℕ). replayed log bs (written w.at (take w.len (joined ++ bytes)) file)) (drop-append-le w.len joined bytes has.0)
    ∙ ap (λ (bs : List ℕ). replayed log (drop w.len joined ++ bytes) (written w.at bs file)) (take-append-le w.len joined bytes has.0)
    ∙ replayed_more log (drop w.len joined) bytes (written w.at (take w.len joined) file) has.1

replayed-marked : (log : List Write) (joined file : List ℕ) → replayed (marked log) joined file ≡ replayed log joined file
replayed-marked [] joined file = refl
replayed-marked (w ∷ []) joined file = refl
replayed-marked (w ∷ v ∷ log) joined file = replayed-marked (v ∷ log) (drop w.len joined) (written w.at (take w.len joined) file)

pub has_take : (n : ℕ) (log : List Write) (joined : List ℕ) → HasBytes log joined → HasBytes (take n log) joined
has_take zero log joined has = tt
has_take (suc n) [] joined has = tt
has_take (suc n) (w ∷ log) joined has = (has.0, has_take n log (drop w.len joined) has.1)

has_push : (log : List Write) (joined bytes : List ℕ) (w : Write) → length joined ≡ total log → w.len ≡ length bytes → HasBytes log joined → HasBytes (log ++ w ∷ []) (joined ++ bytes)
has_push [] joined bytes w sum is has = (omega (arith, length-append joined bytes), tt)
has_push (v ∷ log) joined bytes w sum is has = (
  omega (arith, length-append joined bytes, has.0),
  subst (HasBytes (log ++ w ∷ [])) (sym (drop-append-le v.len joined bytes has.0)) (has_push log (drop v.len joined) bytes w (omega (arith, length-drop v.len joined, has.0)) is has.1),
)

has-marked : (log : List Write) (joined : List ℕ) → HasBytes log joined → HasBytes (marked log) joined
has-marked [] joined has = tt
has-marked (w ∷ []) joined has = has
has-marked (w ∷ v ∷ log) joined has = (has.0, has-marked (v ∷ log) (drop w.len joined) has.1)

total-push : (log : List Write) (w : Write) → total (log ++ w ∷ []) ≡ total log + w.len
total-push [] w = omega arith
total-push (v ∷ log) w = omega (arith, total-push log w)

total-marked : (log : List Write) → total (marked log) ≡ total log
total-marked [] = refl
total-marked (w ∷ []) = refl
total-marked (w ∷ v ∷ log) = ap (λ (n : ℕ). w.len + n) (total-marked (v ∷ log))

pub length-marked : (log : List Write) → length (marked log) ≡ length log
length-marked [] = refl
length-marked (w ∷ []) = refl
length-marked (w ∷ v ∷ log) = ap suc (length-marked (v ∷ log))

spans-marked : (log : List Write) → map span (marked log) ≡ map span log
spans-marked [] = refl
spans-marked (w ∷ []) = refl
spans-marked (w ∷ v ∷ log) = ap (λ (xs : List (ℕ × ℕ)). span w ∷ xs) (spans-marked (v ∷ log))

-- ranges that end by n
pub ends_later : (m n : ℕ) (ranges : List (ℕ × ℕ)) → m ≤ n → EndsBy m ranges → EndsBy n ranges
ends_later m n [] le ends = tt
ends_later m n (range ∷ ranges) le ends = (omega (arith, ends.0), ends_later m n ranges le ends.1)

ends_push : (n : ℕ) (ranges : List (ℕ × ℕ)) (range : ℕ × ℕ) → EndsBy n ranges → range.0 + range.1 ≤ n → EndsBy n (ranges ++ range ∷ [])
ends_push n [] range ends le = (le, tt)
ends_push n (r ∷ ranges) range ends le = (ends.0, ends_push n ranges range ends.1 le)

pub ends_take : (n k : ℕ) (log : List Write) → EndsBy n (map span log) → EndsBy n (map span (take k log))
ends_take n zero log ends = tt
ends_take n (suc k) [] ends = tt
ends_take n (suc k) (w ∷ log) ends = (ends.0, ends_take n k log ends.1)

pub ends_drop : (n k : ℕ) (log : List Write) → EndsBy n (map span log) → EndsBy n (map span (drop k log))
ends_drop n zero log ends = ends
ends_drop n (suc k) [] ends = tt
ends_drop n (suc k) (w ∷ log) ends = ends_drop n k log ends.1

-- a sync
pending-synced : (past : List Event) → pending (synced past) ≡ []
pending-synced [] = refl
pending-synced (Wrote at bytes ∷ past) = refl
pending-synced (Synced ∷ past) = refl

pub bytes-synced : (first : List ℕ) (past : List Event) → bytes_after first (synced past) ≡ bytes_after first past
bytes-synced first [] = refl
bytes-synced first (Wrote at bytes ∷ past) = refl
bytes-synced first (Synced ∷ past) = refl

bytes_synced-synced : (first : List ℕ) (past : List Event) → bytes_synced first (synced past) ≡ bytes_after first past
bytes_synced-synced first [] = refl
bytes_synced-synced first (Wrote at bytes ∷ past) = refl
bytes_synced-synced first (Synced ∷ past) = refl

-- nothing was written yet
pub record_new : (bytes : List ℕ) → IsRecord bytes bytes [] [] 0
record_new bytes = record { bytes_are = refl; has_bytes = tt; ends_by = tt; total_is = refl; within = omega arith; synced_are = refl; since = refl }

-- one more write
pub record_push : (first file : List ℕ) (log : List Write) (joined : List ℕ) (durable at : ℕ) (bytes : List ℕ) → IsRecord first file log joined durable
    → IsRecord first (written at bytes file) (log ++ record { at = at; len = length bytes; synced = false } ∷ []) (joined ++ bytes) durable
record_push first file log joined durable at bytes so_far =
    let w : Write = record { at = at; len = length bytes; synced = false } in
    let events = events_push log joined bytes [] at so_far.total_is so_far.has_bytes in
    let long = length-written at bytes file in
    let few : durable ≤ length log = so_far.within in
    record {
      bytes_are = ap (written at bytes) so_far.bytes_are ∙ sym (ap (bytes_after first) events);
      has_bytes = has_push log joined bytes w so_far.total_is refl so_far.has_bytes;
      ends_by = subst (EndsBy (length (written at bytes file))) (sym (map_push span log w)) (ends_push _ _ (span w) (ends_later (length file) _ _ (omega arith) so_far.ends_by) (omega arith));
      total_is = omega (arith, length-append joined bytes, total-push log w, so_far.total_is);
      within = omega (arith, length-append log (w ∷ []));
      synced_are =
          ap (bytes_synced first) events ∙ so_far.synced_are
          ∙ sym (replayed_more (take durable log) joined bytes first (has_take durable log joined so_far.has_bytes))
          ∙ ap (λ (l : List Write). replayed l (joined ++ bytes) first) (sym (take-append-le durable log (w ∷ []) few));
      since =
          ap pending events ∙ ap (λ (rs : List (ℕ × ℕ)). rs ++ span w ∷ []) so_far.since
          ∙ sym (map_push span (drop durable log) w)
          ∙ ap (map span) (sym (drop-append-le durable log (w ∷ []) few));
    }

-- a mark
pub record_mark : (first file : List ℕ) (log : List Write) (joined : List ℕ) (durable : ℕ) → IsRecord first file log joined durable → IsRecord first file (marked log) joined (length log)
record_mark first file log joined durable so_far =
    let events = events_marked log joined in
    let long = length-marked log in
    record {
      bytes_are = so_far.bytes_are ∙ sym (ap (bytes_after first) events ∙ bytes-synced first (events_of log joined []));
      has_bytes = has-marked log joined so_far.has_bytes;
      ends_by = subst (EndsBy (length file)) (sym (spans-marked log)) so_far.ends_by;
      total_is = so_far.total_is ∙ sym (total-marked log);
      within = omega arith;
      synced_are =
          ap (bytes_synced first) events ∙ bytes_synced-synced first (events_of log joined [])
          ∙ bytes_events first log joined []
          ∙ sym (replayed-marked log joined first)
          ∙ ap (λ (l : List Write). replayed l joined first) (sym (take_all (length log) (marked log) (omega arith)));
      since =
          ap pending events ∙ pending-synced (events_of log joined [])
          ∙ ap (map span) (sym (drop_all (length log) (marked log) (omega arith)));
    }

-- how many writes, and how many bytes
counts_entered : (b : Bool) (at : ℕ) (bytes : List ℕ) (past : List Event) → count_writes (cond b (Synced ∷ Wrote at bytes ∷ past) (Wrote at bytes ∷ past)) ≡ count_writes past + 1
counts_entered true at bytes past = refl
counts_entered false at bytes past = refl

counts_from : (log : List Write) (joined : List ℕ) (past : List Event) → count_writes (events_of log joined past) ≡ count_writes past + length log
counts_from [] joined past = omega arith
counts_from (w ∷ log) joined past = omega (arith, counts_from log (drop w.len joined) (entered w (take w.len joined) past), counts_entered w.synced w.at (take w.len joined) past)

pub count_of : (log : List Write) (joined : List ℕ) → count_writes (events_of log joined []) ≡ length log
count_of log joined = omega (arith, counts_from log joined [])

bytes_in : (b : Bool) (at : ℕ) (bytes : List ℕ) (past : List Event) → bytes_written (cond b (Synced ∷ Wrote at bytes ∷ past) (Wrote at bytes ∷ past)) ≡ bytes_written past + length bytes
bytes_in true at bytes past = refl
bytes_in false at bytes past = refl

written_from : (log : List Write) (joined : List ℕ) (past : List Event) → HasBytes log joined → bytes_written (events_of log joined past) ≡ bytes_written past + total log
written_from [] joined past has = omega arith
written_from (w ∷ log) joined past has =
    omega (arith, written_from log (drop w.len joined) (entered w (take w.len joined) past) has.1, bytes_in w.synced w.at (take w.len joined) past, length-take-le w.len joined has.0)

pub written_of : (log : List Write) (joined : List ℕ) → HasBytes log joined → bytes_written (events_of log joined []) ≡ total log
written_of log joined has = omega (arith, written_from log joined [] has)

pub written_is : (first file : List ℕ) (log : List Write) (joined : List ℕ) (durable : ℕ) → IsRecord first file log joined durable → bytes_written (events_of log joined []) ≡ length joined
written_is first file log joined durable is = written_of log joined is.has_bytes ∙ sym is.total_is

-- a mark by a write into the log
pub marked_is : (log : List Write) (d : Write) → 0 < length log
    → set log (length log - 1) (record { at = (get_or log (length log - 1) d).at; len = (get_or log (length log - 1) d).len; synced = true }) ≡ marked log
marked_is [] d some = absurd (omega arith)
marked_is (w ∷ []) d some = refl
marked_is (w ∷ v ∷ log) d some =
    let less : suc (suc (length log)) - 1 ≡ suc (suc (length log) - 1) = omega arith in
    rw less (ap (λ (l : List Write). w ∷ l) (marked_is (v ∷ log) d (omega arith)))
