-- The draw of a word: as many of its highest bits as are asked for. Assumes nothing.
use Rattle.std.specs.Prelude.{ℕ, ◌-◌, ◌/◌, ◌^◌, Bool, ◌&&◌, nat_le}

-- a number of draw bits: 1 to 32
abbrev pub bits_in_range : ℕ → Bool
bits_in_range k = nat_le 1 k && nat_le k 32

-- a 32-bit word divided by 2 ^ (32 - k), fraction dropped
abbrev pub draw : ℕ → ℕ → ℕ
draw k word = word / 2 ^ (32 - k)
