-- What becomes of a line. Assumes nothing.
use Rattle.std.specs.Prelude.{ℕ, List, Some, None, Ok, Err, ◌≢◌}
use Rattle.lines.specs.declared.vector.Vector.{Vector}
use Rattle.lines.specs.Lines.{LineSays}
use Rattle.answers.specs.declared.comparing.Outcome.{Outcome}
use Rattle.answers.specs.declared.comparing.Outcome.TheVariants.{PassedOver, Agrees, Differs, Malformed}
use Rattle.answers.specs.Answers.{Answers}

-- a line agrees where it expects the right answer to its question
abbrev pub Compares : List ℕ → Outcome → Type 0
Compares line PassedOver = LineSays line (Ok None)
Compares line (Malformed fault) = LineSays line (Err fault)
Compares line Agrees = (v : Vector) × LineSays line (Ok (Some v)) × Answers v.query v.expected
Compares line (Differs came) = (v : Vector) × LineSays line (Ok (Some v)) × Answers v.query came × (came ≢ v.expected)
