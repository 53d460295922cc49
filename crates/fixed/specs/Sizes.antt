-- The sizes of fixed point. Assumes nothing.
use Rattle.std.specs.Prelude.{ℕ, ◌+◌, Bool, ◌&&◌, nat_le}

-- s sign bits (0 or 1), i integer bits and p fractional bits: 2 to 32 in all
abbrev pub sizes_in_range : ℕ → ℕ → ℕ → Bool
sizes_in_range s i p = nat_le s 1 && (nat_le 2 (s + i + p) && nat_le (s + i + p) 32)
