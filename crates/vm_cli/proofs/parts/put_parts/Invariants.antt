use Rattle.std.proofs.Common.{◌≡◌, ◌≤◌, ◌++◌, take, option_map}
use Rattle.vm_cli.specs.Parts.{parts_text}
use Rattle.vm_cli.proofs.parts.put_parts.Given as goal

abbrev pub invariant-loop-part : goal.invariant-loop-part
invariant-loop-part g l = record {
  taken : g.K.Sink.taken l.console ≡ option_map (λ before. before ++ parts_text (take l.part-index l.parts)) (g.K.Sink.taken l.fn.console);
  never_falls : g.K.Sink.faults l.fn.console ≤ g.K.Sink.faults l.console;
}
