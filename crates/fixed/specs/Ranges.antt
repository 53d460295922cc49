-- Fixed point of any size is a lawful format. Assumes nothing.
use Rattle.std.specs.Prelude.{◌≡◌, ℕ, suc, ◌+◌, ◌-◌, ◌^◌, ◌<◌, ◌≤◌, Bool, true, false, cond, ltb, ℤ, pos, negsuc, ◌+ℤ◌, ◌-ℤ◌, ◌≤ℤ◌, ◌<ℤ◌, nat_lt, unsigned_abs, refl}
use Rattle.std.proofs.Common.{ap, subst, ◌∙◌, arith, pow_mono}
use Rattle.std.proofs.lemmas.Int.{ints}
use Rattle.std.proofs.lemmas.Nat.{pow_pos}
use Rattle.std.proofs.lemmas.Bool.Decides.{nat_tests}
use Rattle.formats.specs.Meaning.{Value, Lawful}
use Rattle.formats.specs.Neighbours.{Greatest, Least, NextAbove, NextBelow}
use Rattle.fixed.specs.Fixed.{Inside, InsideFixed, value_of, code_of, complement, fixed}
use Rattle.fixed.specs.Stated.{OneCode}

-- there is a number that is not negative, and no more of them than numbers
pub some_codes : (i p : ℕ) → 0 < 2 ^ (i + p)
some_codes i p = pow_pos (i + p)

pub most_codes : (s i p : ℕ) → 2 ^ (i + p) ≤ 2 ^ (s + i + p)
most_codes s i p = let wider : i + p ≤ s + i + p = omega arith in pow_mono wider

module _ (C H u : ℕ) (some : 0 < H) (most : H ≤ C) where
  -- the value of a number lies inside
  pub value_inside : (c : ℕ) → nat_lt c C ≡ true → Inside C H (value_of C H c)
  value_inside c t = by_half (nat_lt c H) refl
    where
      by_half : (b : Bool) → nat_lt c H ≡ b → Inside C H (cond b (pos c) (pos c -ℤ pos C))
      by_half true e = let lt : c < H = grind (arith, nat_tests) in record { low = omega (arith, ints); high = omega (arith, ints) }
      by_half false e =
          let le : H ≤ c = grind (arith, nat_tests) in
          let lt : c < C = grind (arith, nat_tests) in
          record { low = omega (arith, ints); high = omega (arith, ints) }

  -- the code of a value inside is a number
  pub code_number : (v : ℤ) → Inside C H v → nat_lt (code_of C v) C ≡ true
  code_number (pos n) h = let lt : n < C = omega (arith, ints, h.high) in grind (arith, nat_tests)
  code_number (negsuc n) h = let lt : C - suc n < C = omega arith in grind (arith, nat_tests)

  -- of that value
  pub code_value : (v : ℤ) → Inside C H v → value_of C H (code_of C v) ≡ v
  code_value (pos n) h =
      let lt : n < H = omega (arith, ints, h.high) in
      let below : ltb n H ≡ true = grind (arith, nat_tests) in
      ap (λ (b : Bool). cond b (pos n) (pos n -ℤ pos C)) below
  code_value (negsuc n) h =
      let le : H ≤ C - suc n = omega (arith, ints, h.low) in
      let above : ltb (C - suc n) H ≡ false = grind (arith, nat_tests) in
      ap (λ (b : Bool). cond b (pos (C - suc n)) (pos (C - suc n) -ℤ pos C)) above ∙ omega (arith, ints, h.low)

  -- each value has one code
  pub value_code : (c : ℕ) → nat_lt c C ≡ true → code_of C (value_of C H c) ≡ c
  value_code c t = by_half (nat_lt c H) refl
    where
      lacking : H ≤ c → c < C → pos c -ℤ pos C ≡ negsuc (C - suc c)
      lacking le lt = omega (arith, ints)

      by_half : (b : Bool) → nat_lt c H ≡ b → code_of C (cond b (pos c) (pos c -ℤ pos C)) ≡ c
      by_half true e = refl
      by_half false e =
          let le : H ≤ c = grind (arith, nat_tests) in
          let lt : c < C = grind (arith, nat_tests) in
          ap (code_of C) (lacking le lt) ∙ omega arith

  -- what lies inside is the value of a number
  pub inside_value : (v : ℤ) → Inside C H v → Value (complement C H u) v
  inside_value v h = (code_of C v, code_number v h, code_value v h)

  -- and nothing else is
  pub only_inside : (v : ℤ) → Value (complement C H u) v → Inside C H v
  only_inside v h = subst (Inside C H) h.2 (value_inside h.0 h.1)

  -- 0 lies inside
  pub zero_inside : Inside C H (pos 0)
  zero_inside = record { low = omega (arith, ints); high = omega (arith, ints) }

  pub lawful : C ≤ 2 ^ 32 → Lawful (complement C H u)
  lawful fits = record {
    words = λ c t. let lt : c < C = grind (arith, nat_tests) in omega arith;
    zero_number = code_number (pos 0) zero_inside;
    zero_value = code_value (pos 0) zero_inside;
    result_number = λ v h. code_number v (only_inside v h);
    result_value = λ v h. code_value v (only_inside v h);
  }

  pub one_code : OneCode (complement C H u)
  one_code = record { zero = refl; own = value_code }

  -- the ends
  pub greatest : (v : ℤ) → Inside C H v → (pos H ≤ℤ (v +ℤ pos 1)) → Greatest (complement C H u) v
  greatest v h end = record { attained = inside_value v h; most = λ w a. omega (arith, ints, (only_inside w a).high) }

  pub least : (v : ℤ) → Inside C H v → (v ≤ℤ (pos H -ℤ pos C)) → Least (complement C H u) v
  least v h end = record { attained = inside_value v h; least = λ w a. omega (arith, ints, (only_inside w a).low) }

  -- the next number is one unit away
  pub next_above : (v : ℤ) → Inside C H (v +ℤ pos 1) → NextAbove (complement C H u) v (v +ℤ pos 1)
  next_above v h = record { attained = inside_value (v +ℤ pos 1) h; larger = omega (arith, ints); nearest = λ z a more. omega (arith, ints, more) }

  pub next_below : (v : ℤ) → Inside C H (v -ℤ pos 1) → NextBelow (complement C H u) v (v -ℤ pos 1)
  next_below v h = record { attained = inside_value (v -ℤ pos 1) h; smaller = omega (arith, ints); nearest = λ z a less. omega (arith, ints, less) }

-- the code of a value by its sign
pub code_natural : (C : ℕ) (v : ℤ) → pos 0 ≤ℤ v → code_of C v ≡ unsigned_abs v
code_natural C (pos n) h = refl
code_natural C (negsuc n) h = absurd (omega (arith, ints))

pub code_negative : (C : ℕ) (v : ℤ) → v <ℤ pos 0 → (pos 0 -ℤ pos C) ≤ℤ v → code_of C v ≡ unsigned_abs (v +ℤ pos C)
code_negative C (pos n) h low = absurd (omega (arith, ints))
code_negative C (negsuc n) h low = omega (arith, ints)

-- the code of a value, at given sizes, is a number of that value
pub fixed_code_number : (s i p : ℕ) (v : ℤ) → InsideFixed s i p v → (c : ℕ) → c ≡ (fixed s i p).result v → (fixed s i p).number c ≡ true
fixed_code_number s i p v h c e =
    ap (fixed s i p).number e ∙ code_number (2 ^ (s + i + p)) (2 ^ (i + p)) p (some_codes i p) (most_codes s i p) v h

pub fixed_code_value : (s i p : ℕ) (v : ℤ) → InsideFixed s i p v → (c : ℕ) → c ≡ (fixed s i p).result v → (fixed s i p).value c ≡ v
fixed_code_value s i p v h c e =
    ap (fixed s i p).value e ∙ code_value (2 ^ (s + i + p)) (2 ^ (i + p)) p (some_codes i p) (most_codes s i p) v h

-- fixed point keeps the laws of formats
pub fixed_lawful : (s i p : ℕ) → s + i + p ≤ 32 → Lawful (fixed s i p)
fixed_lawful s i p few = lawful (2 ^ (s + i + p)) (2 ^ (i + p)) p (some_codes i p) (most_codes s i p) (pow_mono few)
