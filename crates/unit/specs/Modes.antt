-- The rounding modes by their numbers and names. Assumes nothing.
use Rattle.std.specs.Prelude.{ℕ, List, codes}
use Rattle.unit.specs.declared.modes.Mode.{Mode}
use Rattle.unit.specs.declared.modes.Mode.TheVariants.{Down, Nearest, Stochastic}

-- by which settings are made
abbrev pub mode_number : Mode → ℕ
mode_number Down = 0
mode_number Nearest = 1
mode_number Stochastic = 2

-- as it is printed
abbrev pub mode_name : Mode → List ℕ
mode_name Down = codes "down"
mode_name Nearest = codes "nearest"
mode_name Stochastic = codes "stochastic"
