-- What the names of a line stand for. Assumes nothing.
use Rattle.std.specs.Prelude.{ℕ, Bool, true, false, cond, List, Some, None, codes, Option}
use Rattle.std.specs.Str.{bytes_eq}
use Rattle.draws.specs.Fairness.{compares_fair, carries_fair}
use Rattle.draws.specs.Rules.{Says, Fair, compares, carries}
use Rattle.draws.specs.declared.rules.Neighbour.{Neighbour}
use Rattle.draws.specs.declared.rules.Neighbour.TheVariants.{Near, Far}
use Rattle.formats.specs.declared.split.Operation.{Operation}
use Rattle.formats.specs.declared.split.Operation.TheVariants.{Sum, Difference, Product, Quotient}
use Rattle.unit.specs.declared.modes.Mode.{Mode}
use Rattle.unit.specs.declared.modes.Mode.TheVariants.{Down, Nearest, Stochastic}
use Rattle.unit.specs.Modes.{mode_name}
use Rattle.lines.specs.declared.names.RuleName.{RuleName}
use Rattle.lines.specs.declared.names.RuleName.TheVariants.{Comparison, Carry}

-- the operation of a name
abbrev pub operation_named : List ℕ → Option Operation
operation_named text =
    cond (bytes_eq text (codes "add")) (Some Sum)
    (cond (bytes_eq text (codes "sub")) (Some Difference)
    (cond (bytes_eq text (codes "mul")) (Some Product)
    (cond (bytes_eq text (codes "div")) (Some Quotient)
    None)))

-- the rule of a name
abbrev pub rule_named : List ℕ → Option RuleName
rule_named text =
    cond (bytes_eq text (codes "comparison")) (Some Comparison)
    (cond (bytes_eq text (codes "carry")) (Some Carry)
    None)

-- the mode of the name that it is printed by
abbrev pub mode_named : List ℕ → Option Mode
mode_named text =
    cond (bytes_eq text (mode_name Down)) (Some Down)
    (cond (bytes_eq text (mode_name Nearest)) (Some Nearest)
    (cond (bytes_eq text (mode_name Stochastic)) (Some Stochastic)
    None))

-- the neighbour of a name
abbrev pub neighbour_named : List ℕ → Option Neighbour
neighbour_named text =
    cond (bytes_eq text (codes "near")) (Some Near)
    (cond (bytes_eq text (codes "far")) (Some Far)
    None)

-- whether a result was clamped
abbrev pub clamp_named : List ℕ → Option Bool
clamp_named text =
    cond (bytes_eq text (codes "0")) (Some false)
    (cond (bytes_eq text (codes "1")) (Some true)
    None)

-- what the rule of a name says
abbrev pub rule_says : RuleName → Says
rule_says Comparison = compares
rule_says Carry = carries

-- both rules are fair
pub rule_fair : (name : RuleName) → Fair (rule_says name)
rule_fair Comparison = compares_fair
rule_fair Carry = carries_fair
