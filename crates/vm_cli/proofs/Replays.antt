-- A replay of what a record wrote: its order, its report, and that nothing calls for another end.
use Rattle.std.proofs.Common.{◌≡◌, ℕ, List, [], true, false, Option, Some, None, Result, Ok, Err, option_map, refl, sym, ◌∙◌, ap, subst}
use Rattle.std.specs.Prelude.{IfSome, IsSome, unwrap_or}
use Rattle.flat_machine.specs.Machine.{MachineData, Rest, boot}
use Rattle.flat_machine.specs.Run.{run}
use Rattle.flat_machine.proofs.Padded.{boot_rests}
use Rattle.image_file.specs.Image.{image_of}
use Rattle.image_file.specs.declared.image_refusal.ImageRefusal.{ImageRefusal}
use Rattle.order_log.specs.Reading.{order_in}
use Rattle.order_log.specs.Replay.{halted_place}
use Rattle.order_log.specs.Text.{IsOrder, text_of}
use Rattle.order_log.specs.declared.fault.OrderRefusal.{OrderRefusal}
use Rattle.order_log.specs.declared.fault.OrderRefusal.TheVariants.{Halted}
use Rattle.order_log.proofs.ReadBack.{text_read}
use Rattle.order_log.proofs.Runs.{halts_nowhere}
use Rattle.ram_block.specs.Shape.{ShapeData}
use Rattle.vm_cli.specs.Jobs.Boot.{image_fault}
use Rattle.vm_cli.specs.Jobs.Common.{Prints}
use Rattle.vm_cli.specs.Jobs.Replay.{order_fault, replay_fault, replay_steps, replay_verdict}
use Rattle.vm_cli.specs.Outside.{End, Outside}
use Rattle.vm_cli.specs.Replayed.{LeavesToReplay, PrintsTheSame, ReplaysWell}
use Rattle.vm_cli.specs.Steps.{called_for, verdict_or}
use Rattle.vm_cli.specs.declared.answer.Fault.{Fault}
use Rattle.vm_cli.specs.declared.answer.Fault.TheVariants as faults
use Rattle.vm_cli.proofs.Causes.{told_fact}
use Rattle.vm_cli.proofs.Records.{boot_order}
use Rattle.vm_report.specs.Report.{report}

-- ---- What is told

not_none : (P : Type 0) → false ≡ true → P
not_none P same = absurd (cc same)

-- the list that was read
list_in : {F : Type 0} → Result (List ℕ) F → List ℕ
list_in (Ok l) = l
list_in (Err fault) = []

same_ok : {F : Type 0} (one other : List ℕ) (read : Result (List ℕ) F) → read ≡ Ok one → read ≡ Ok other → other ≡ one
unfolding list_in
same_ok one other read is also = ap list_in (sym also ∙ is)

-- one image is accepted as one list of bytes
same_image : (shape : ShapeData) (left other : Option (List ℕ)) (image other_image : List ℕ) → IsSome left → other ≡ left
    → IfSome left (λ bytes. image_of bytes shape ≡ Ok image) → IfSome other (λ bytes. image_of bytes shape ≡ Ok other_image) → other_image ≡ image
same_image shape None other image other_image some same accepted also = not_none _ some
same_image shape (Some bytes) other image other_image some same accepted also =
    same_ok image other_image (image_of bytes shape) accepted (told_fact (λ b. image_of b shape ≡ Ok other_image) other bytes also same)

-- a file that was filled tells its bytes
filled : (bytes : List ℕ) (told : Option (List ℕ)) (now : Option (List ℕ)) → IsSome told → IfSome told (λ before. (before ≡ []) × (now ≡ Some bytes)) → now ≡ Some bytes
filled bytes None now some is = not_none _ some
filled bytes (Some before) now some is = is.1

-- ---- The order

-- the machine at boot is at rest
rests : (shape : ShapeData) (image serial : List ℕ) → Rest (boot shape image serial)
unfolding boot
rests shape image serial = boot_rests (boot shape image serial) shape.vcpus refl refl

-- the order of a record is one that its file is read as
is_order : (shape : ShapeData) (n : ℕ) (serial : List ℕ) (old new other : Outside) (end : End) → LeavesToReplay shape n serial old new other end → IsOrder shape.vcpus end.first
is_order shape n serial old new other end left =
    let it = left.records in
    boot_order shape it.image serial (boot shape it.image serial) n end.first it.after refl left.limits.is_shape left.limits.run_most (rests shape it.image serial) it.ran

is_read : (shape : ShapeData) (n : ℕ) (serial : List ℕ) (old new other : Outside) (end : End) → LeavesToReplay shape n serial old new other end
    → order_in (text_of end.first shape.vcpus) shape.vcpus ≡ Ok end.first
is_read shape n serial old new other end left = text_read end.first shape.vcpus left.limits.is_shape.vcpus.1 (is_order shape n serial old new other end left)

-- the file that is replayed
is_told : (shape : ShapeData) (n : ℕ) (serial : List ℕ) (old new other : Outside) (end : End) → LeavesToReplay shape n serial old new other end
    → other.input.told ≡ Some (text_of end.first shape.vcpus)
is_told shape n serial old new other end left =
    left.same_order ∙ filled (text_of end.first shape.vcpus) old.output.told new.output.told left.output_told left.records.wrote.written

pub replayed_order : (shape : ShapeData) (n : ℕ) (serial : List ℕ) (old new other other_now : Outside) (end replayed : End) → LeavesToReplay shape n serial old new other end
    → ReplaysWell shape serial other other_now replayed → replayed.first ≡ end.first
replayed_order shape n serial old new other other_now end replayed left well =
    let read = well.replays.read in
    let text : text_of end.first shape.vcpus ≡ text_of replayed.first shape.vcpus =
    told_fact (λ file. file ≡ text_of replayed.first shape.vcpus) other.input.told (text_of end.first shape.vcpus) read.text (is_told shape n serial old new other end left) in
    same_ok end.first replayed.first (order_in (text_of end.first shape.vcpus) shape.vcpus) (is_read shape n serial old new other end left)
    (ap (λ (file : List ℕ). order_in file shape.vcpus) text ∙ text_read replayed.first shape.vcpus left.limits.is_shape.vcpus.1 read.members)

-- ---- The report

-- the same order of the same machine
same_after : (shape : ShapeData) (serial image other_image o other_o : List ℕ) (after other_after : MachineData) → other_image ≡ image → other_o ≡ o
    → run (boot shape image serial) o ≡ Some after → run (boot shape other_image serial) other_o ≡ Some other_after → other_after ≡ after
same_after shape serial image other_image o other_o after other_after same order ran also =
    ap (λ (m : Option MachineData). unwrap_or m after)
    (sym also ∙ ap (λ (i : List ℕ). run (boot shape i serial) other_o) same ∙ ap (run (boot shape image serial)) order ∙ ran)

pub replayed_report : (shape : ShapeData) (n : ℕ) (serial : List ℕ) (old new other other_now : Outside) (end replayed : End) → LeavesToReplay shape n serial old new other end
    → ReplaysWell shape serial other other_now replayed → PrintsTheSame old.console new.console other.console other_now.console
replayed_report shape n serial old new other other_now end replayed left well =
    let it = left.records in
    let again = well.replays in
    let image = same_image shape old.image.left other.image.left it.image again.image left.image_told left.same_image it.taken.accepted again.taken.accepted in
    let order = replayed_order shape n serial old new other other_now end replayed left well in
    let after = same_after shape serial it.image again.image end.first replayed.first it.after again.after image order it.ran.ran again.ran in
    let printed = subst (λ (f : Option Fault). Prints f (report None again.after) other.console other_now.console) well.ended again.printed in
    record {
      text = report None it.after;
      printed = subst (λ (f : Option Fault). Prints f (report None it.after) old.console new.console) left.ended it.printed;
      again = subst (λ (m : MachineData). Prints None (report None m) other.console other_now.console) after printed;
    }

-- ---- The end that is called for

-- no step calls for a refusal
none_refuses : (boots reads makes : Option (Option Fault)) → boots ≡ Some None → reads ≡ Some None → makes ≡ Some None → verdict_or boots (verdict_or reads (verdict_or makes (Some None))) ≡ Some None
none_refuses boots reads makes one two three =
    ap (λ (v : Option (Option Fault)). verdict_or v (verdict_or reads (verdict_or makes (Some None)))) one
    ∙ ap (λ (v : Option (Option Fault)). verdict_or v (verdict_or makes (Some None))) two ∙ ap (λ (v : Option (Option Fault)). verdict_or v (Some None)) three

image_told : (shape : ShapeData) (left : Option (List ℕ)) (image : List ℕ) → IsSome left → IfSome left (λ bytes. image_of bytes shape ≡ Ok image)
    → option_map (λ bytes. image_fault (image_of bytes shape)) left ≡ Some None
image_told shape None image some accepted = not_none _ some
image_told shape (Some bytes) image some accepted = ap (λ (r : Result (List ℕ) ImageRefusal). Some (image_fault r)) accepted

events_told : (shape : ShapeData) (serial : List ℕ) (left : Option (List ℕ)) (image o file : List ℕ) → IsSome left → IfSome left (λ bytes. image_of bytes shape ≡ Ok image)
    → order_in file shape.vcpus ≡ Ok o → halted_place (boot shape image serial) o ≡ None → replay_verdict shape serial left (Some file) ≡ Some None
events_told shape serial None image o file some accepted read made = not_none _ some
events_told shape serial (Some bytes) image o file some accepted read made =
    ap (λ (i : Result (List ℕ) ImageRefusal). Some (replay_fault shape serial i (order_in file shape.vcpus))) accepted
    ∙ ap (λ (r : Result (List ℕ) OrderRefusal). Some (replay_fault shape serial (Ok image) r)) read
    ∙ ap (λ (place : Option ℕ). Some (option_map (λ p. faults.OrderRefused (Halted p)) place)) made

pub replayed_end : (shape : ShapeData) (n : ℕ) (serial : List ℕ) (old new other : Outside) (end : End) → LeavesToReplay shape n serial old new other end
    → called_for (replay_steps shape serial other.image other.input) ≡ Some None
replayed_end shape n serial old new other end left =
    let it = left.records in
    let file = text_of end.first shape.vcpus in
    let read = is_read shape n serial old new other end left in
    let told = is_told shape n serial old new other end left in
    let made = halts_nowhere 0 (Some (boot shape it.image serial)) end.first it.after it.ran.ran in
    none_refuses _ _ _
    (ap (option_map (λ bytes. image_fault (image_of bytes shape))) left.same_image ∙ image_told shape old.image.left it.image left.image_told it.taken.accepted)
    (ap (option_map (λ f. order_fault (order_in f shape.vcpus))) told ∙ ap (λ (r : Result (List ℕ) OrderRefusal). Some (order_fault r)) read)
    (ap (λ (l : Option (List ℕ)). replay_verdict shape serial l other.input.told) left.same_image
    ∙ ap (replay_verdict shape serial old.image.left) told
    ∙ events_told shape serial old.image.left it.image end.first file left.image_told it.taken.accepted read made)
