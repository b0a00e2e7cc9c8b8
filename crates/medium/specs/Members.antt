-- The state of an object of the outside, by the ghost members of its trait.
use Rattle.medium.specs.declared.readable.Readable as readable
use Rattle.medium.specs.declared.source.Source as source
use Rattle.medium.specs.declared.sink.Sink as sink
use Rattle.medium.specs.States.{FileState, SourceState, SinkState, file_by}

-- of a file
abbrev pub file_state : {M : Type 0} → readable.Ghosts M → M → FileState
file_state g m = file_by g.told g.faults g.syncs g.may_leave g.moment g.left_since m

-- of an input
abbrev pub source_state : {S : Type 0} → source.Ghosts S → S → SourceState
source_state g s = record { left = g.left s; faults = g.faults s }

-- of an output
abbrev pub sink_state : {S : Type 0} → sink.Ghosts S → S → SinkState
sink_state g s = record { taken = g.taken s; faults = g.faults s }
