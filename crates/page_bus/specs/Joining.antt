-- The passes of vCPUs, joined to the saver's.
use Rattle.std.specs.Prelude.{List, ◌++◌}
use Rattle.bus_rule.specs.Views.{Task, PassData, Saving}
use Rattle.page_bus.specs.Passes.{VcpuPassData, task_of, book_of}
use Rattle.page_bus.specs.Traced.{TracedData, traced_of}

-- what a pass knows of its vCPU, and what of that is kept
abbrev pub task_of_pass : VcpuPassData → Task
task_of_pass p = task_of p.view

abbrev pub traced_of_pass : VcpuPassData → TracedData
traced_of_pass p = traced_of (task_of p.view)

-- the saver's pass has taken in these
abbrev pub joined_with : PassData → List Task → PassData
joined_with p tasks = record p { role = Saving (record (book_of p) { joined = (book_of p).joined ++ tasks }) }
