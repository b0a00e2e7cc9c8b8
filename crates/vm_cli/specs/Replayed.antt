-- What a replay of a record's order does (this project's own, docs/COMMAND_LINE.md).
use Rattle.std.specs.Prelude.{◌≡◌, ℕ, List, ◌++◌, None, option_map, IsSome}
use Rattle.medium.specs.States.{SinkState}
use Rattle.ram_block.specs.Shape.{ShapeData}
use Rattle.vm_words.specs.Limits.{IsRun}
use Rattle.vm_cli.specs.Jobs.Common.{Prints}
use Rattle.vm_cli.specs.Jobs.Record.{Records}
use Rattle.vm_cli.specs.Jobs.Replay.{Replays}
use Rattle.vm_cli.specs.Outside.{End, Outside}

-- A record ended well, and its order is to be replayed: the images of both tell the same bytes, the output of the record told
-- its bytes, and the input of the replay tells those that the record left there.
pub record LeavesToReplay (shape : ShapeData) (n : ℕ) (serial : List ℕ) (old new other : Outside) (end : End) : Type 0 where
  pub limits : IsRun shape n serial
  pub ended : end.fault ≡ None
  pub records : Records Prints shape n serial old new end
  pub image_told : IsSome old.image.left
  pub same_image : other.image.left ≡ old.image.left
  pub output_told : IsSome old.output.told
  pub same_order : other.input.told ≡ new.output.told

-- a replay that ended well
pub record ReplaysWell (shape : ShapeData) (serial : List ℕ) (old new : Outside) (end : End) : Type 0 where
  pub ended : end.fault ≡ None
  pub replays : Replays Prints shape serial old new end

-- behind what each of two consoles had stands one list of bytes: what was printed is the same, byte for byte
pub record PrintsTheSame (old new other other_now : SinkState) : Type 0 where
  pub text : List ℕ
  pub printed : new.taken ≡ option_map (λ before. before ++ text) old.taken
  pub again : other_now.taken ≡ option_map (λ before. before ++ text) other.taken
