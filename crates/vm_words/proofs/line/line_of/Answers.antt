-- The words are none, or a name and the rest of a line.
use Rattle.std.proofs.Common.{map, string_bytes, sym, ap, ◌∙◌, Ok}
use Rattle.vm_words.specs.Command.{command_named}
use Rattle.vm_words.proofs.JobLimits.{job_limits}
use Rattle.vm_words.proofs.Jobs.{job_of_none, job_unknown, job_faulty, job_right}
use Rattle.vm_words.proofs.NoFaults.{passes}
use Rattle.vm_words.proofs.line.line_of.Goals as goal

pub returns-in_default-clause-usage : goal.returns-in_default-clause-usage
returns-in_default-clause-usage c = job_of_none string_bytes c.args.words.now c.in_default.ensures.cases

pub returns-in_default-named-clause-usage : goal.returns-in_default-named-clause-usage
returns-in_default-named-clause-usage c =
    job_unknown string_bytes c.args.words.now c.in-Some.name.now c.in-Some.rest.now c.in-Some.ensures.cases.0
    (ap command_named (sym c.as_str.ensures.value) ∙ sym c.named.ensures ∙ c.in_default-named.is)

pub returns-in-Some-first_fault-clause-usage : goal.returns-in-Some-first_fault-clause-usage
returns-in-Some-first_fault-clause-usage c =
    job_faulty string_bytes c.args.words.now c.in-Some.name.now c.in-Some.rest.now c.in-Some-named.command (c.in-Some-first_fault.index, c.in-Some-first_fault.kind) c.in-Some.ensures.cases.0
    (ap command_named (sym c.as_str.ensures.value) ∙ sym c.named.ensures ∙ c.in-Some-named.is)
    (sym c.first_fault.ensures.fault ∙ c.in-Some-first_fault.is)

pub returns-in-Ok-clause-job : goal.returns-in-Ok-clause-job
returns-in-Ok-clause-job c =
    job_right string_bytes c.args.words.now c.in-Some.name.now c.in-Some.rest.now c.in-Some-named.command c.in-Some.ensures.cases.0
    (ap command_named (sym c.as_str.ensures.value) ∙ sym c.named.ensures ∙ c.in-Some-named.is)
    (sym c.first_fault.ensures.fault ∙ c.in_default-first_fault.is)
    ∙ ap Ok (sym c.in-Ok.ensures)

pub returns-in-Ok-clause-limits : goal.returns-in-Ok-clause-limits
returns-in-Ok-clause-limits c =
    let rest = map string_bytes c.in-Some.rest.now in
    rw c.in-Ok.ensures (job_limits c.in-Some-named.command rest (passes c.in-Some-named.command rest (sym c.first_fault.ensures.fault ∙ c.in_default-first_fault.is)))
