-- A mode is known by its number. Assumes nothing.
use Rattle.std.proofs.Common.{◌≡◌, refl, arith}
use Rattle.unit.specs.declared.modes.Mode.{Mode}
use Rattle.unit.specs.declared.modes.Mode.TheVariants.{Down, Nearest, Stochastic}
use Rattle.unit.specs.Modes.{mode_number}

-- modes of one number are one mode
pub same_mode : (a b : Mode) → mode_number a ≡ mode_number b → a ≡ b
same_mode Down Down e = refl
same_mode Down Nearest e = absurd (omega arith)
same_mode Down Stochastic e = absurd (omega arith)
same_mode Nearest Down e = absurd (omega arith)
same_mode Nearest Nearest e = refl
same_mode Nearest Stochastic e = absurd (omega arith)
same_mode Stochastic Down e = absurd (omega arith)
same_mode Stochastic Nearest e = absurd (omega arith)
same_mode Stochastic Stochastic e = refl
