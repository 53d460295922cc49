-- The worked examples in fixed point hold. Assumes nothing.
use Rattle.std.proofs.Common.{◌≡◌, ℕ, ◌*◌, ◌/◌, ◌<◌, true, false, ℤ, pos, negsuc, ◌+ℤ◌, ◌≤ℤ◌, ◌<ℤ◌, sym, refl, ap, arith, lit<, lit≤}
use Rattle.std.proofs.lemmas.Int.{ints}
use Rattle.whole.specs.Sums.{sum, below}
use Rattle.whole.specs.Division.{Divided}
use Rattle.draws.specs.Rules.{compares}
use Rattle.formats.specs.declared.split.Operation.TheVariants.{Product}
use Rattle.formats.specs.declared.split.Split.{Split}
use Rattle.formats.specs.Meaning.{Lawful}
use Rattle.formats.specs.Exact.{Exact, exact}
use Rattle.formats.specs.Splits.{Splits}
use Rattle.formats.specs.Search.{split_of}
use Rattle.formats.proofs.Determined.{determined}
use Rattle.operations.specs.Rounding.{chosen}
use Rattle.fixed.specs.Fixed.{code_of, fixed}
use Rattle.fixed.specs.Ranges.{fixed_lawful}
use Rattle.fixed.proofs.Places.{placed_above, placed_under, placed_between}
use Rattle.examples.specs.Fixed.{FixedExamples}

-- s8.7 keeps the laws
s8_7_lawful : Lawful (fixed 1 8 7)
s8_7_lawful = fixed_lawful 1 8 7 (lit≤ tt)

-- a split of x at k = 8 is the split of x
the_split : (x : Exact) (s : Split) → Splits (fixed 1 8 7) 8 x s → split_of (fixed 1 8 7) 8 x ≡ s
the_split x s h = sym ((determined.one (fixed 1 8 7) s8_7_lawful 8 x).only s h)

-- x between the number of q units and the next, r / d units above the first
module _ (x : Exact) (q : ℤ) (r : ℕ) (parts : Divided x.numerator x.denominator q r) where
  lies_between : negsuc 32767 ≤ℤ q → (q +ℤ pos 1) <ℤ pos 32768 → 0 < r →
      split_of (fixed 1 8 7) 8 x ≡ record { parts = (code_of 65536 q, code_of 65536 (q +ℤ pos 1), 256 * r / x.denominator); clamped = false }
  lies_between low high some =
      the_split x _
      (placed_between x q r parts 1 8 7 8 (record { low = low; high = omega (arith, ints) }) (record { low = omega (arith, ints); high = high }) some (code_of 65536 q) (code_of 65536 (q +ℤ pos 1)) (256 * r / x.denominator) refl refl refl)

  -- x above the greatest number, and x below the least
  lies_above : pos 32767 <ℤ q → split_of (fixed 1 8 7) 8 x ≡ record { parts = (0x7FFF, 0x7FFF, 0); clamped = true }
  lies_above more =
      the_split x _
      (placed_above x q r parts 1 8 7 8 (pos 32767) (record { low = omega (arith, ints); high = omega (arith, ints) }) (omega (arith, ints)) more 0x7FFF refl)

  lies_under : q <ℤ negsuc 32767 → split_of (fixed 1 8 7) 8 x ≡ record { parts = (0x8000, 0x8000, 0); clamped = true }
  lies_under less =
      the_split x _
      (placed_under x q r parts 1 8 7 8 (negsuc 32767) (record { low = omega (arith, ints); high = omega (arith, ints) }) (omega (arith, ints)) less 0x8000 refl)

-- 129 * 129 is 130 * 128 and 1
square : split_of (fixed 1 8 7) 8 (exact (fixed 1 8 7) (record { operation = Product; left = 0x0081; right = 0x0081 })) ≡ record { parts = (0x0082, 0x0083, 2); clamped = false }
square =
    lies_between (record { numerator = pos 16641; denominator = 128 }) (pos 130) 1 (record { whole = refl; rest = lit< tt }) (omega (arith, ints)) (omega (arith, ints)) (lit< tt)

pub fixed_examples : FixedExamples
fixed_examples = record {
  square = (refl, square);
  square_sum = ap (λ (s : Split). sum (λ t. (chosen compares 8 s t).code) (below 256)) square;
  below_zero = (
    refl,
    lies_between (record { numerator = negsuc 0; denominator = 128 }) (negsuc 0) 127 (record { whole = refl; rest = lit< tt }) (omega (arith, ints)) (omega (arith, ints)) (lit< tt),
  );
  past_greatest = (refl, lies_above (record { numerator = pos 32768; denominator = 1 }) (pos 32768) 0 (record { whole = refl; rest = lit< tt }) (omega (arith, ints)));
  past_least = (refl, lies_under (record { numerator = negsuc 32768; denominator = 1 }) (negsuc 32768) 0 (record { whole = refl; rest = lit< tt }) (omega (arith, ints)));
  third = (
    refl,
    lies_between (record { numerator = pos 16384; denominator = 384 }) (pos 42) 256 (record { whole = refl; rest = lit< tt }) (omega (arith, ints)) (omega (arith, ints)) (lit< tt),
  );
}
