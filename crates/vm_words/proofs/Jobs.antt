-- The job that words give, case by case.
use Rattle.std.proofs.Common.{◌≡◌, ℕ, List, ◌∷◌, Option, Some, None, Ok, Err, refl, ap, ◌∙◌, slice_get, map}
use Rattle.std.specs.Option.{option_map_or}
use Rattle.std.proofs.lemmas.List.{nil_from_length}
use Rattle.std.proofs.Common.{length}
use Rattle.vm_words.specs.declared.fault.UsageKind.{UsageKind}
use Rattle.vm_words.specs.declared.fault.UsageKind.TheVariants.{NoCommand, Command}
use Rattle.vm_words.specs.declared.command.CommandName.{CommandName}
use Rattle.vm_words.specs.Command.{command_named}
use Rattle.vm_words.specs.Job.{job, job_of, job_given}
use Rattle.vm_words.specs.Line.{faults}

-- no word
pub job_of_none : {X : Type 0} (f : X → List ℕ) (words : List X) → length words ≡ 0 → job (map f words) ≡ Err (0, NoCommand)
unfolding job
job_of_none f words none = rw (nil_from_length words none) refl

-- no command
pub job_unknown : {X : Type 0} (f : X → List ℕ) (words : List X) (name : X) (rest : List X) → words ≡ name ∷ rest → command_named (f name) ≡ None → job (map f words) ≡ Err (0, Command)
unfolding job
job_unknown f words name rest is unknown = rw (is, unknown) refl

-- a command, and the rest of its line
job_known : {X : Type 0} (f : X → List ℕ) (words : List X) (name : X) (rest : List X) (command : CommandName) → words ≡ name ∷ rest → command_named (f name) ≡ Some command → job (map f words) ≡ job_of (map f rest) command
unfolding job
job_known f words name rest command is known = rw (is, known) refl

-- a fault of the line
pub job_faulty : {X : Type 0} (f : X → List ℕ) (words : List X) (name : X) (rest : List X) (command : CommandName) (fault : ℕ × UsageKind) → words ≡ name ∷ rest → command_named (f name) ≡ Some command → slice_get (faults command (map f rest)) 0 ≡ Some fault → job (map f words) ≡ Err fault
job_faulty f words name rest command fault is known first =
    job_known f words name rest command is known ∙ ap (λ (o : Option (ℕ × UsageKind)). option_map_or Err o (Ok (job_given command (map f rest)))) first

-- none
pub job_right : {X : Type 0} (f : X → List ℕ) (words : List X) (name : X) (rest : List X) (command : CommandName) → words ≡ name ∷ rest → command_named (f name) ≡ Some command → slice_get (faults command (map f rest)) 0 ≡ None → job (map f words) ≡ Ok (job_given command (map f rest))
job_right f words name rest command is known first =
    job_known f words name rest command is known ∙ ap (λ (o : Option (ℕ × UsageKind)). option_map_or Err o (Ok (job_given command (map f rest)))) first
