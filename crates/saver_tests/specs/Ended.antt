-- How a save has ended, by the answer of a turn (this project's own, docs/ARCHITECTURE.md).
use Rattle.std.specs.Prelude.{Option, Some}
use Rattle.bg_saver.specs.declared.save_end.SaveEnd.{SaveEnd}
use Rattle.bg_saver.specs.declared.save_end.SaveEnd.TheVariants as ends
use Rattle.bg_saver.specs.declared.turn.Turn.{Turn}
use Rattle.bg_saver.specs.declared.turn.Turn.TheVariants as turns

abbrev pub end_after : Turn → Option SaveEnd → Option SaveEnd
end_after turns.Complete before = Some ends.Complete
end_after turns.Failed before = Some ends.Failed
end_after turns.Again before = before
end_after (turns.Saved p) before = before
end_after (turns.Skipped p) before = before
