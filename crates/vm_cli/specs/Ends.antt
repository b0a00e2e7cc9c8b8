-- What both top calls promise of every line of words, over the outside before and after (this project's own,
-- docs/PROMISES.md).
use Rattle.std.specs.Prelude.{◌≡◌, ◌⊎◌, ℕ, List, Some, None}
use Rattle.vm_cli.specs.Images.{IsCrashSafe}
use Rattle.vm_cli.specs.Jobs.Common.{Prints, PrintsBehind, PrintsLine, PrintsReport}
use Rattle.vm_cli.specs.Outside.{End, Outside, Same, faults_of}
use Rattle.vm_cli.specs.Steps.{EndsAsCalledFor, HasCause}
use Rattle.vm_cli.specs.Words.{served_line}
use Rattle.vm_cli.specs.Work.{Does, Fails, HasNoOtherOrders, IsNotConsole, IsUnwritten, IsWorkDone, Keeps, StopsEarly, steps_of}
use Rattle.vm_cli.specs.declared.answer.Fault.{Fault}
use Rattle.vm_cli.specs.declared.words.Caller.{Caller}

pub record Ends (caller : Caller) (words : List (List ℕ)) (old new : Outside) (same : Same) (end : End) : Type 0 where
  -- each end has its cause, and comes where the words, the image, the input and the output call for it
  pub cause : HasCause (faults_of old) (faults_of new) (steps_of caller words old) end.fault
  pub complete : EndsAsCalledFor (faults_of old) (faults_of new) (steps_of caller words old) end.fault
  pub done : IsWorkDone end.fault → Does Prints (served_line words) old new end
  -- a job that ends with a fault prints its line alone, or behind the report of a save that went on
  pub failed : (fault : Fault) → end.fault ≡ Some fault → IsNotConsole fault
      → (StopsEarly (served_line words) old new same end × PrintsLine fault old.console new.console) ⊎ Fails PrintsReport PrintsBehind (served_line words) fault old new end
  pub orders : HasNoOtherOrders (served_line words) end
  pub kept : Keeps (served_line words) old new same end.fault
  -- what is done lasts by the clauses of the jobs; before an output is written there is no other file in it
  pub crash : IsUnwritten (served_line words) end.fault → IsCrashSafe None old.output new.output
