-- Settings that are refused, and the number they are refused by. Assumes nothing.
use Rattle.std.specs.Prelude.{ℕ, Bool, cond, ◌&&◌, Some, None, Option, nat_le}
use Rattle.draws.specs.DrawBits.{bits_in_range}
use Rattle.unit.specs.declared.faults.SettingsFault.{SettingsFault}
use Rattle.unit.specs.declared.faults.SettingsFault.TheVariants.{DrawBitsOutOfRange, ShiftOutOfRange, ModeOutOfRange}

-- k, n or the mode is out of range
abbrev pub settings_refusal : SettingsFault → ℕ
settings_refusal DrawBitsOutOfRange = 2
settings_refusal ShiftOutOfRange = 2
settings_refusal ModeOutOfRange = 2

-- the unit divides by 2 ^ n, n from 1 to 32
abbrev pub shift_in_range : ℕ → Bool
shift_in_range n = nat_le 1 n && nat_le n 32

-- what is out of range: k is looked at first, then n, then the mode's number
abbrev pub settings_fault : ℕ → ℕ → ℕ → Option SettingsFault
settings_fault mode n k =
    cond (bits_in_range k) (cond (shift_in_range n) (cond (nat_le mode 2) None (Some ModeOutOfRange)) (Some ShiftOutOfRange)) (Some DrawBitsOutOfRange)
