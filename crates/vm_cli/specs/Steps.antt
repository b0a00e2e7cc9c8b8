-- The steps of a job, in the order of its work, and which end of it they call for (this project's own,
-- docs/COMMAND_LINE.md).
use Rattle.std.specs.Prelude.{◌≡◌, ◌⊎◌, ℕ, Bool, true, List, [], ◌∷◌, Option, Some, None, IfSome}
use Rattle.medium.specs.Count.{HasRisen}
use Rattle.vm_cli.specs.declared.answer.Fault.{Fault}
use Rattle.vm_cli.specs.declared.answer.Fault.TheVariants.{ImageFault, FileFault, ConsoleFault, NoMemory}

-- an object on which a step makes calls
pub data Object : Type 0 where
  Image : Object
  Input : Object
  Output : Object
  Console : Object

-- the fault of a job in which a call on the object failed
abbrev pub fault_of_call : Object → Fault
fault_of_call Image = ImageFault
fault_of_call Input = FileFault
fault_of_call Output = FileFault
fault_of_call Console = ConsoleFault

-- how many calls on each object have failed
pub record Faults : Type 0 where
  pub image : ℕ
  pub input : ℕ
  pub output : ℕ
  pub console : ℕ

-- a call on the object failed: its count rose
abbrev pub HasFailed : Faults → Faults → Object → Type 0
HasFailed old new Image = HasRisen old.image new.image
HasFailed old new Input = HasRisen old.input new.input
HasFailed old new Output = HasRisen old.output new.output
HasFailed old new Console = HasRisen old.console new.console

-- One step: the object on which it makes calls, the faults by which it may refuse what it is given, and which of them,
-- if any, the bytes of the outside call for, where they are told.
pub record Step : Type 0 where
  pub calls : Option Object
  pub may_refuse : Fault → Bool
  pub verdict : Option (Option Fault)

-- ---- Causes

-- nothing that is told calls for a refusal
abbrev pub Passes : Step → Type 0
Passes step = IfSome step.verdict (λ refusal. refusal ≡ None)

abbrev pub AllPass : List Step → Type 0
AllPass [] = Unit {0}
AllPass (step ∷ steps) = Passes step × AllPass steps

-- the fault is that of a call of the step that failed
abbrev pub IsOfCall : Faults → Faults → Option Object → Fault → Type 0
IsOfCall old new None fault = ⊥
IsOfCall old new (Some object) fault = (fault ≡ fault_of_call object) × HasFailed old new object

-- the fault is a refusal of the step, and the one that is called for where that is told
abbrev pub IsRefusal : Step → Fault → Type 0
IsRefusal step fault = (step.may_refuse fault ≡ true) × IfSome step.verdict (λ refusal. refusal ≡ Some fault)

-- the fault is that of one of the steps, and all before it passed
abbrev pub IsOfStep : Faults → Faults → List Step → Fault → Type 0
IsOfStep old new [] fault = ⊥
IsOfStep old new (step ∷ steps) fault =
    IsOfCall old new step.calls fault ⊎ IsRefusal step fault ⊎ (Passes step × IsOfStep old new steps fault)

-- how a job of these steps ended has its cause; want of memory is the one fault without
abbrev pub HasCause : Faults → Faults → List Step → Option Fault → Type 0
HasCause old new steps None = AllPass steps
HasCause old new steps (Some fault) = (fault ≡ NoMemory) ⊎ IsOfStep old new steps fault

-- ---- Which end comes where

-- a verdict, or what the steps behind it call for where it is none
abbrev pub verdict_or : Option (Option Fault) → Option (Option Fault) → Option (Option Fault)
verdict_or None later = None
verdict_or (Some (Some refusal)) later = Some (Some refusal)
verdict_or (Some None) later = later

-- the end that the bytes of the outside call for: the first refusal, or none; where bytes that decide it aren't told, it
-- isn't known
abbrev pub called_for : List Step → Option (Option Fault)
called_for [] = Some None
called_for (step ∷ steps) = verdict_or step.verdict (called_for steps)

-- memory ran out, or a call on an object failed
abbrev pub IsExcused : Faults → Faults → Option Fault → Type 0
IsExcused old new end =
    (end ≡ Some NoMemory) ⊎ ((object : Object) × (end ≡ Some (fault_of_call object)) × HasFailed old new object)

-- the job ended as is called for, or is excused
abbrev pub EndsAsCalledFor : Faults → Faults → List Step → Option Fault → Type 0
EndsAsCalledFor old new steps end = IfSome (called_for steps) (λ wanted. (end ≡ wanted) ⊎ IsExcused old new end)
