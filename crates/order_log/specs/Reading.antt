-- What an order file says, piece by piece, or the first refusal (this project's own, docs/FILE_FORMAT.md).
use Rattle.std.specs.Prelude.{◌≡◌, ⊤, ℕ, ◌+◌, ◌/◌, ◌%◌, ◌==◌, nat_le, nat_lt, List, [], ◌∷◌, length, take, slice_index, Result, Ok, Err}
use Rattle.flat_machine.specs.Order.{OrderData}
use Rattle.mig_stream.specs.Pieces.{piece_in}
use Rattle.mig_stream.specs.declared.field_fault.FieldFault.{FieldFault}
use Rattle.mig_stream.specs.declared.field_fault.FieldFault.TheVariants as fields
use Rattle.mig_stream.specs.Checks.{and_then, check, number32_in, number64_in, read_from}
use Rattle.order_log.specs.declared.fault.OrderFault.{OrderFault}
use Rattle.order_log.specs.declared.fault.OrderFault.TheVariants.{Refused, ReadFault, NoMemory}
use Rattle.order_log.specs.declared.fault.OrderRefusal.{OrderRefusal}
use Rattle.order_log.specs.declared.fault.OrderRefusal.TheVariants.{Truncated, Magic, Version, Vcpus, Count, Member, Pad, Trailing}
use Rattle.order_log.specs.declared.format.TheConstants.{MAGIC, VERSION, HEAD_LEN, MAX_EVENTS}

-- the magic and the version
unfoldable pub format_in : List ℕ → Result (Unit {0}) OrderRefusal
format_in file =
    and_then (number32_in Truncated file 0) (λ magic. and_then (check (magic == MAGIC) (Magic magic)) (λ _.
    and_then (number32_in Truncated file 4) (λ version. check (version == VERSION) (Version version))))

-- how many members there are, in a file for so many vCPUs
unfoldable pub count_in : List ℕ → ℕ → Result ℕ OrderRefusal
count_in file vcpus =
    and_then (number32_in Truncated file 8) (λ v. and_then (check (v == vcpus) (Vcpus v)) (λ _.
    and_then (number64_in Truncated file 12) (λ count. and_then (check (nat_le count MAX_EVENTS) (Count count)) (λ _. Ok count))))

-- how many bytes so many members have
abbrev pub byte_len : ℕ → ℕ
byte_len count = (count + 1) / 2

-- the bytes of so many members, which are one piece
abbrev pub bytes_in : List ℕ → ℕ → Result (List ℕ) OrderRefusal
bytes_in file count = read_from Truncated (λ bytes. bytes) (piece_in file HEAD_LEN (byte_len count))

-- the numbers of four bits of bytes: the low ones of a byte, then its high ones
unfoldable pub halves : List ℕ → List ℕ
halves [] = []
halves (byte ∷ bytes) = byte % 16 ∷ byte / 16 ∷ halves bytes

-- each member names a vCPU, or the first that doesn't, with the place of its byte; so many members came before
unfoldable pub members_name : ℕ → ℕ → List ℕ → Result (Unit {0}) OrderRefusal
members_name vcpus before [] = Ok tt
members_name vcpus before (k ∷ o) = and_then (check (nat_lt k vcpus) (Member (HEAD_LEN + before / 2) k)) (λ _. members_name vcpus (before + 1) o)

-- the four bits behind the last of so many members are 0, where there are any
abbrev pub pad_in : List ℕ → ℕ → Result (Unit {0}) OrderRefusal
pad_in bytes count = check (slice_index (halves bytes) count == 0) (Pad (slice_index (halves bytes) count))

-- the members, of which the bytes are these
unfoldable pub members_in : ℕ → ℕ → List ℕ → Result (List ℕ) OrderRefusal
members_in vcpus count bytes =
    and_then (members_name vcpus 0 (take count (halves bytes))) (λ _.
    and_then (pad_in bytes count) (λ _. Ok (take count (halves bytes))))

-- the file ends by this place
abbrev pub end_in : List ℕ → ℕ → Result (Unit {0}) OrderRefusal
end_in file end = check (nat_le (length file) end) (Trailing end)

-- the order of a file for so many vCPUs
unfoldable pub order_in : List ℕ → ℕ → Result (List ℕ) OrderRefusal
order_in file vcpus =
    and_then (format_in file) (λ _.
    and_then (count_in file vcpus) (λ count.
    and_then (bytes_in file count) (λ bytes.
    and_then (members_in vcpus count bytes) (λ o.
    and_then (end_in file (HEAD_LEN + byte_len count)) (λ _. Ok o)))))

-- the fault of a piece that could not be read
abbrev pub cut_fault : FieldFault → OrderFault
cut_fault (fields.Truncated at) = Refused (Truncated at)
cut_fault fields.ReadFault = ReadFault

-- a reader's fault is the refusal, unless reading failed or memory was refused
abbrev pub Refuses : {A : Type 0} → Result A OrderRefusal → OrderFault → Type 0
Refuses found (Refused refusal) = found ≡ Err refusal
Refuses found ReadFault = ⊤
Refuses found NoMemory = ⊤

-- a reader's answer, seen as what it says, is what stands in the file
abbrev pub AnswersAs : {T A : Type 0} → (T → A) → Result A OrderRefusal → Result T OrderFault → Type 0
AnswersAs says found (Ok value) = found ≡ Ok (says value)
AnswersAs says found (Err fault) = Refuses found fault

abbrev pub Answers : {A : Type 0} → Result A OrderRefusal → Result A OrderFault → Type 0
Answers found result = AnswersAs (λ value. value) found result

-- the same of an order
abbrev pub AnswersOrder : Result (List ℕ) OrderRefusal → Result OrderData OrderFault → Type 0
AnswersOrder found result = AnswersAs (λ o. o.members) found result
