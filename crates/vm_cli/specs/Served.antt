-- The jobs that are served, as plain data (this project's own, docs/COMMAND_LINE.md).
use Rattle.std.specs.Prelude.{ℕ, List}
use Rattle.ram_block.specs.Shape.{ShapeData}
use Rattle.vm_words.specs.declared.turns.TurnOf.{TurnOf}

-- how the two phases of a save go: by rounds and then by turns, on one thread, or each vCPU on a thread of its own
pub data Way : Type 0 where
  Sliced : (turns : List TurnOf) → Way
  OnThreads : Way

-- the two phases of a save: how many instructions each vCPU has in them, and how they go
pub record SavePhases : Type 0 where
  pub stop : ℕ
  pub run : ℕ
  pub way : Way

pub data Served : Type 0 where
  -- the machine of an image, with this serial input, saved while it runs
  Save : (shape : ShapeData) (serial : List ℕ) (phases : SavePhases) → Served
  -- a text made into bytes
  Assembly : Served
  -- the machine of a file loaded, and its shape printed
  CheckFile : Served
  -- the machine of a file loaded, run on for so many instructions of each vCPU, and reported
  Restore : (run : ℕ) → Served
  -- the same, where each page is read at its first touch
  LazyRestore : (run : ℕ) → Served
  -- so many bytes of RAM printed from a place on, which counts from the start of RAM, of a file whose machine has this shape
  Peek : (shape : ShapeData) (at len : ℕ) → Served
  -- the guest that a seed gives, saved while it runs, and its file loaded
  Workload : (seed : ℕ) → Served
  -- the machine of a file run on for so many instructions of each vCPU, and written as a layer over that of the file
  Layer : (run : ℕ) → Served
  -- the machine of a file and a layer joined, and saved
  Join : Served
  -- the machine of an image, with this serial input, run on threads for so many instructions of each vCPU, and the order
  -- of its events written
  Record : (shape : ShapeData) (run : ℕ) (serial : List ℕ) → Served
  -- the machine of an image, with this serial input, run in the order that a file has, and reported
  Replay : (shape : ShapeData) (serial : List ℕ) → Served
