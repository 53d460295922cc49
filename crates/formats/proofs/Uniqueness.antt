-- An exact result has at most one split, and a code at most one number next above it and one next below. Assumes nothing.
use Rattle.std.proofs.Common.{◌≡◌, ℕ, ℤ, ◌≤ℤ◌, ◌<ℤ◌, Some, None, Ok, Option, sym, refl, ap, ◌∙◌, ap₂, arith}
use lib.Signed.{clash_ℤ}
use Rattle.std.proofs.lemmas.Int.{ints}
use Rattle.whole.proofs.Integers.{cancel-<}
use Rattle.formats.specs.declared.split.Split.{Split}
use Rattle.formats.specs.Meaning.{Meaning}
use Rattle.formats.specs.Exact.{Exact}
use Rattle.formats.specs.Neighbours.{Greatest, Least, NextAbove, NextBelow, Neighbours, Under, Over, AtMost, AtLeast}
use Rattle.formats.specs.Questions.{AnswersAbove, AnswersBelow}
use Rattle.formats.specs.Splits.{Splits, above, under, within, clamped_at, between}

-- two values that are at most each other are one
level : (v w : ℤ) → v ≤ℤ w → w ≤ℤ v → v ≡ w
level v w h l = omega (arith, ints)

-- a format has one greatest value, and one least
pub greatest_only : (M : Meaning) (v w : ℤ) → Greatest M v → Greatest M w → v ≡ w
greatest_only M v w g h = level v w (h.most v g.attained) (g.most w h.attained)

pub least_only : (M : Meaning) (v w : ℤ) → Least M v → Least M w → v ≡ w
least_only M v w g h = level v w (g.least w h.attained) (h.least v g.attained)

-- a value has one next value above it, and one below it
pub next_above_only : (M : Meaning) (z v w : ℤ) → NextAbove M z v → NextAbove M z w → v ≡ w
next_above_only M z v w g h = level v w (g.nearest w h.attained h.larger) (h.nearest v g.attained g.larger)

pub next_below_only : (M : Meaning) (z v w : ℤ) → NextBelow M z v → NextBelow M z w → v ≡ w
next_below_only M z v w g h = level v w (h.nearest v g.attained g.smaller) (g.nearest w h.attained h.smaller)

-- so what a format answers above a code is one, and below it
pub above_only : (M : Meaning) (c : ℕ) (a b : Option ℕ) → AnswersAbove M c (Ok a) → AnswersAbove M c (Ok b) → a ≡ b
above_only M c (Some d) (Some e) g h = ap Some (g.3 ∙ ap M.result (next_above_only M (M.value c) g.1 h.1 g.2 h.2) ∙ sym h.3)
above_only M c (Some d) None g h = absurd (omega (arith, ints, g.2.larger, h.1.most g.1 g.2.attained))
above_only M c None (Some e) g h = absurd (omega (arith, ints, h.2.larger, g.1.most h.1 h.2.attained))
above_only M c None None g h = refl

pub below_only : (M : Meaning) (c : ℕ) (a b : Option ℕ) → AnswersBelow M c (Ok a) → AnswersBelow M c (Ok b) → a ≡ b
below_only M c (Some d) (Some e) g h = ap Some (g.3 ∙ ap M.result (next_below_only M (M.value c) g.1 h.1 g.2 h.2) ∙ sym h.3)
below_only M c (Some d) None g h = absurd (omega (arith, ints, g.2.smaller, h.1.least g.1 g.2.attained))
below_only M c None (Some e) g h = absurd (omega (arith, ints, h.2.smaller, g.1.least h.1 h.2.attained))
below_only M c None None g h = refl

-- an exact result has one pair of neighbours
pub neighbours_only : (M : Meaning) (x : Exact) (lo hi lo' hi' : ℤ) → Neighbours M x lo hi → Neighbours M x lo' hi' → (lo ≡ lo') × (hi ≡ hi')
neighbours_only M x lo hi lo' hi' g h = (
  level lo lo' (h.low_next lo g.low g.low_below) (g.low_next lo' h.low h.low_below),
  level hi hi' (g.high_next hi' h.high h.high_above) (h.high_next hi g.high g.high_above),
)

-- a value under x is smaller than each that is at least x, and one over x is larger than each that is at most x
pub under_less : (x : Exact) (v w : ℤ) → Under v x → AtLeast w x → v <ℤ w
under_less x v w h l = cancel-< x.denominator v w (omega (arith, ints))

pub over_more : (x : Exact) (v w : ℤ) → Over v x → AtMost w x → w <ℤ v
over_more x v w h l = cancel-< x.denominator w v (omega (arith, ints))

module _ (M : Meaning) (k : ℕ) (x : Exact) where
  -- x above the greatest number is neither below the least nor between two
  above_under : {X : Type 0} (v w : ℤ) → Greatest M v → Under v x → Least M w → Over w x → X
  above_under v w g h l o = clash_ℤ (under_less x v w h (omega (arith, ints))) (g.most w l.attained)

  above_within : {X : Type 0} (v lo hi : ℤ) → Greatest M v → Under v x → Neighbours M x lo hi → X
  above_within v lo hi g h n = clash_ℤ (under_less x v hi h n.high_above) (g.most hi n.high)

  -- x below the least number is not between two
  under_within : {X : Type 0} (v lo hi : ℤ) → Least M v → Over v x → Neighbours M x lo hi → X
  under_within v lo hi g h n = clash_ℤ (over_more x v lo h n.low_below) (g.least lo n.low)

  -- two splits of one result are equal
  pub unique : (s t : Split) → Splits M k x s → Splits M k x t → s ≡ t
  unique s t (above v g h e) (above w i j f) = e ∙ ap (clamped_at M) (greatest_only M v w g i) ∙ sym f
  unique s t (above v g h e) (under w i j f) = above_under v w g h i j
  unique s t (above v g h e) (within lo hi n f) = above_within v lo hi g h n
  unique s t (under v g h e) (above w i j f) = above_under w v i j g h
  unique s t (under v g h e) (under w i j f) = e ∙ ap (clamped_at M) (least_only M v w g i) ∙ sym f
  unique s t (under v g h e) (within lo hi n f) = under_within v lo hi g h n
  unique s t (within lo hi n e) (above w i j f) = above_within w lo hi i j n
  unique s t (within lo hi n e) (under w i j f) = under_within w lo hi i j n
  unique s t (within lo hi n e) (within lo' hi' m f) =
      let both = neighbours_only M x lo hi lo' hi' n m in
      e ∙ ap₂ (between M k x) both.0 both.1 ∙ sym f
