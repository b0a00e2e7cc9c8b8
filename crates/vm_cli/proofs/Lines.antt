-- The line of a fault behind what a job printed.
use Rattle.std.proofs.Common.{◌≡◌, inl, inr, ◌≤◌, ℕ, List, ◌++◌, take, Option, Some, None, option_map, sym, ap, subst, ◌∙◌, arith, append_assoc}
use Rattle.medium.proofs.Taken.{whole_is_front, whole_then_whole}
use Rattle.medium.specs.Bytes.{AddsFront, BecomesTold}
use Rattle.medium.specs.States.{FileState, SinkState}
use Rattle.flat_machine.specs.Machine.{MachineData}
use Rattle.vm_cli.specs.FaultLine.{fault_line}
use Rattle.vm_cli.specs.Jobs.Common.{PrintsBehind, PrintsLine, PrintsReport, TakesReport, TakesWhole}
use Rattle.vm_cli.specs.Jobs.Save.{ReportsFailed}
use Rattle.vm_cli.specs.Outside.{End}
use Rattle.vm_cli.specs.Parts.{AddsBehind, AddsFronts}
use Rattle.vm_cli.specs.declared.answer.Fault.{Fault}
use Rattle.vm_cli.specs.declared.answer.Fault.TheVariants as faults
use Rattle.vm_cli.specs.Served.{SavePhases}

-- ---- Texts one behind the other

-- a front of one text, and behind it a front of another
two_fronts : (text line before : List ℕ) (mid new : Option (List ℕ)) → BecomesTold (AddsFront text) (Some before) mid → BecomesTold (AddsFront line) mid new → BecomesTold (AddsFronts text line) (Some before) new
two_fronts text line before (Some taken) (Some all) one two =
    (one.0, two.0, two.1 ∙ ap (λ (l : List ℕ). l ++ take two.0 line) one.1 ∙ append_assoc before (take one.0 text) (take two.0 line))
two_fronts text line before (Some taken) None one two = absurd two
two_fronts text line before None new one two = absurd one

pub fronts : (text line : List ℕ) (old mid new : Option (List ℕ)) → BecomesTold (AddsFront text) old mid → BecomesTold (AddsFront line) mid new → BecomesTold (AddsFronts text line) old new
fronts text line (Some before) mid new one two = two_fronts text line before mid new one two
fronts text line None mid new one two = subst (λ (o : Option (List ℕ)). BecomesTold (AddsFront line) o new) one two

-- a text whole, and a front of another
behind_told : (text line before : List ℕ) (new : Option (List ℕ)) → BecomesTold (AddsFront line) (Some (before ++ text)) new → BecomesTold (AddsBehind text line) (Some before) new
behind_told text line before (Some all) two = (two.0, two.1 ∙ append_assoc before text (take two.0 line))
behind_told text line before None two = absurd two

behind_whole : (text line : List ℕ) (old mid new : Option (List ℕ)) → mid ≡ option_map (λ before. before ++ text) old → BecomesTold (AddsFront line) mid new → BecomesTold (AddsBehind text line) old new
behind_whole text line (Some before) mid new one two = behind_told text line before new (subst (λ (o : Option (List ℕ)). BecomesTold (AddsFront line) o new) one two)
behind_whole text line None mid new one two = subst (λ (o : Option (List ℕ)). BecomesTold (AddsFront line) o new) one two

-- ---- The line

-- the line of a fault was printed, after some calls on the console
pub record LineBehind (fault : Fault) (old mid new : SinkState) : Type 0 where
  pub more : mid.faults ≤ new.faults
  pub started : old.faults ≤ mid.faults
  pub line : PrintsLine fault mid new

line_front : (fault : Fault) (mid new : SinkState) → PrintsLine fault mid new → BecomesTold (AddsFront (fault_line fault)) mid.taken new.taken
line_front fault mid new (inl whole) = whole_is_front (fault_line fault) mid.taken new.taken whole
line_front fault mid new (inr (front, rose)) = front

pub printed_report : (fault : Fault) (text : List ℕ) (old mid new : SinkState) → LineBehind fault old mid new → TakesReport fault text old mid → PrintsReport fault text old new
printed_report fault text old mid new line (inr (front, rose)) =
    inr (fronts text (fault_line fault) old.taken mid.taken new.taken front (line_front fault mid new line.line), omega (arith, rose, line.more))
printed_report fault text old mid new line (inl whole) = elim (line.line) as (λ _. PrintsReport fault text old new) [
  | inl all ↦ inl (whole_then_whole text (fault_line fault) old.taken mid.taken new.taken whole all)
  | inr (front, rose) ↦ inr (fronts text (fault_line fault) old.taken mid.taken new.taken (whole_is_front text old.taken mid.taken whole) front, omega (arith, rose, line.started))
]

pub printed_behind : (fault : Fault) (text : List ℕ) (old mid new : SinkState) → LineBehind fault old mid new → TakesWhole fault text old mid → PrintsBehind fault text old new
printed_behind fault text old mid new line whole = elim (line.line) as (λ _. PrintsBehind fault text old new) [
  | inl all ↦ inl (whole_then_whole text (fault_line fault) old.taken mid.taken new.taken whole all)
  | inr (front, rose) ↦ inr (behind_whole text (fault_line fault) old.taken mid.taken new.taken whole front, omega (arith, rose, line.started))
]

-- the report of a save that failed
pub reported_later : (b : MachineData) (phases : SavePhases) (old new : FileState) (console mid console_now : SinkState) (fault : Fault) (end : End) → LineBehind fault console mid console_now
    → ReportsFailed TakesReport b phases old new console mid end → end.fault ≡ Some fault → ReportsFailed PrintsReport b phases old new console console_now end
reported_later b phases old new console mid console_now fault end line reported is =
    let same : fault ≡ faults.FileFault = cc (sym is ∙ reported.failed.fault) in
    record {
      failed = reported.failed;
      printed = printed_report faults.FileFault _ console mid console_now (subst (λ (f : Fault). LineBehind f console mid console_now) same line) reported.printed;
    }
