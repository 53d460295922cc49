-- The numbers that texts write. Assumes nothing.
use Rattle.std.specs.Prelude.{ℕ, ◌+◌, ◌-◌, ◌*◌, ◌^◌, cond, ◌&&◌, List, [], ◌∷◌, length, drop, ℤ, pos, neg_ℤ, Some, None, Option, ◌==◌, nat_le, nat_lt, slice_index}
use Rattle.std.specs.Str.{bytes_eq}
use Rattle.lines.specs.Texts.{then}

-- what a byte is as a digit: 0 to 9, A to F or a to f, and 16 where it is none
abbrev pub digit_value : ℕ → ℕ
digit_value b =
    cond (nat_le 48 b && nat_le b 57) (b - 48) (cond (nat_le 65 b && nat_le b 70) (b - 55) (cond (nat_le 97 b && nat_le b 102) (b - 87) 16))

-- the number that digits write after those that wrote n, unless one of them is no digit of the base
abbrev pub written : ℕ → ℕ → List ℕ → Option ℕ
written base n [] = Some n
written base n (b ∷ bs) = cond (nat_lt (digit_value b) base) (written base (n * base + digit_value b) bs) None

-- a number, unless it is too large
abbrev pub up_to : ℕ → Option ℕ → Option ℕ
up_to most (Some n) = cond (nat_le n most) (Some n) None
up_to most None = None

-- the number that a text of one digit or more writes, if it is at most `most`
abbrev pub numeral : ℕ → ℕ → List ℕ → Option ℕ
numeral base most text = cond (length text == 0) None (up_to most (written base 0 text))

-- a decimal
abbrev pub unsigned : List ℕ → Option ℕ
unsigned text = numeral 10 (2 ^ 64 - 1) text

-- a decimal of a 32-bit number
abbrev pub short_unsigned : List ℕ → Option ℕ
short_unsigned text = numeral 10 (2 ^ 32 - 1) text

-- a decimal, after `-` where it is negative
abbrev pub signed : List ℕ → Option ℤ
signed text =
    cond (slice_index text 0 == 45)
    (then (numeral 10 (2 ^ 63) (drop 1 text)) (λ n. Some (neg_ℤ (pos n))))
    (then (numeral 10 (2 ^ 63 - 1) text) (λ n. Some (pos n)))

-- a hexadecimal, after `0x`
abbrev pub after_0x : List ℕ → Option ℕ
after_0x text = cond (slice_index text 0 == 48 && slice_index text 1 == 120) (numeral 16 (2 ^ 32 - 1) (drop 2 text)) None

-- a hexadecimal, or none where its name stands in its place
abbrev pub code_or : List ℕ → List ℕ → Option (Option ℕ)
code_or none text = cond (bytes_eq text none) (Some None) (then (after_0x text) (λ code. Some (Some code)))
