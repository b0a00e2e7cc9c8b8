-- What a job sees of the outside at a moment, and how it ends (this project's own, docs/COMMAND_LINE.md).
use Rattle.std.specs.Prelude.{ℕ, List, Option}
use Rattle.medium.specs.Members.{file_state, sink_state, source_state}
use Rattle.medium.specs.States.{FileState, SinkState, SourceState}
use Rattle.medium.specs.declared.readable.Readable as readable
use Rattle.medium.specs.declared.sink.Sink as sink
use Rattle.medium.specs.declared.source.Source as source
use Rattle.vm_cli.specs.Steps.{Faults}
use Rattle.vm_cli.specs.declared.answer.Fault.{Fault}
use Rattle.vm_cli.specs.declared.orders.Orders.{Orders}

-- the four objects of the outside, as they show themselves
pub record Outside : Type 1 where
  pub image : SourceState
  pub input : FileState
  pub output : FileState
  pub console : SinkState

-- by their states
abbrev pub outside_of : SourceState → FileState → FileState → SinkState → Outside
outside_of image input output console = record { image = image; input = input; output = output; console = console }

-- by their ghost members
abbrev pub outside : {S M K : Type 0} → source.Ghosts S → readable.Ghosts M → sink.Ghosts K → S → M → M → K → Outside
outside of_source of_file of_sink image input output console =
    outside_of (source_state of_source image) (file_state of_file input) (file_state of_file output) (sink_state of_sink console)

-- how many calls on each have failed
abbrev pub faults_of : Outside → Faults
faults_of it = record { image = it.image.faults; input = it.input.faults; output = it.output.faults; console = it.console.faults }

-- that an object is the very one that it was: no call was made on it
pub record Same : Type 1 where
  pub image : Type 0
  pub input : Type 0
  pub output : Type 0
  pub console : Type 0

-- the fault of a job, if it ended with one, and the orders of its two phases
pub record End : Type 0 where
  pub fault : Option Fault
  pub first : List ℕ
  pub second : List ℕ

-- by the orders that a job leaves
abbrev pub end_of : Option Fault → Orders → End
end_of fault orders = record { fault = fault; first = orders.first.members; second = orders.second.members }
