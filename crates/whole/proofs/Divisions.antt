-- The laws of division rounded down. Assumes nothing.
use Rattle.std.proofs.Common.{◌≡◌, ℕ, suc, ◌+◌, ◌-◌, ◌*◌, ◌/◌, ◌%◌, ◌<◌, ◌≤◌, ℤ, pos, negsuc, ◌+ℤ◌, ◌*ℤ◌, sym, refl, ap, ◌∙◌, suc-mul, add-mul, arith}
use lib.IntN.{+ℤ_one, suc_ℤ-*ℤ}
use lib.Signed.{shr_z}
use Rattle.std.proofs.lemmas.Int.{ints}
use Rattle.std.proofs.lemmas.Nat.{div-add-mod', mod_below, div_below, div-mul-add, mod-mul-add}
use Rattle.whole.specs.Division.{floor, modulo, Divided, Divides}

-- the floor and the remainder are a quotient and a rest
pub floor_holds : (x : ℤ) (d : ℕ) → 0 < d → Divided x d (floor x d) (modulo x d)
floor_holds (pos a) d h = record { whole = ap pos (sym (div-add-mod' a d)); rest = mod_below a d h }
floor_holds (negsuc a) d h =
    record { whole = omega (arith, ints, div-add-mod' a d, mod_below a d h, suc-mul (a / d) d); rest = omega arith }

-- of a number at least 0 there are no others
natural_only : (a d r : ℕ) (q : ℤ) → Divided (pos a) d q r → (q ≡ pos (a / d)) × (r ≡ a % d)
natural_only a d r (pos q) e =
    let whole : q * d + r ≡ a = omega (arith, ints, e.whole) in
    (ap pos (sym (div-mul-add q d r e.rest) ∙ ap (λ (m : ℕ). m / d) whole), sym (mod-mul-add q d r e.rest) ∙ ap (λ (m : ℕ). m % d) whole)
natural_only a d r (negsuc q) e = absurd (omega (arith, ints, e.whole, e.rest, suc-mul q d))

-- nor of one below 0
negative_only : (a d r : ℕ) (q : ℤ) → Divided (negsuc a) d q r → (q ≡ negsuc (a / d)) × (r ≡ (d - 1) - a % d)
negative_only a d r (pos q) e = absurd (omega (arith, ints, e.whole))
negative_only a d r (negsuc q) e =
    let lt : (d - 1) - r < d = omega (arith, e.rest) in
    let whole : q * d + ((d - 1) - r) ≡ a = omega (arith, ints, e.whole, e.rest, suc-mul q d) in
    let low : a % d ≡ (d - 1) - r = ap (λ (m : ℕ). m % d) (sym whole) ∙ mod-mul-add q d ((d - 1) - r) lt in
    (ap negsuc (sym (div-mul-add q d ((d - 1) - r) lt) ∙ ap (λ (m : ℕ). m / d) whole), omega (arith, e.rest))

-- so no others are a quotient and a rest
pub floor_only : (x : ℤ) (d : ℕ) (q : ℤ) (r : ℕ) → Divided x d q r → (q ≡ floor x d) × (r ≡ modulo x d)
floor_only (pos a) d q r e = natural_only a d r q e
floor_only (negsuc a) d q r e = negative_only a d r q e

-- both together
pub divides : (x : ℤ) (d : ℕ) → 0 < d → Divides x d
divides x d h = record { holds = floor_holds x d h; only = floor_only x d }

-- a shift that copies the sign bit rounds down
pub shift_floor : (x : ℤ) (d : ℕ) → shr_z x d ≡ floor x d
shift_floor (pos a) d = refl
shift_floor (negsuc a) d = refl

-- the remainder of what a lacks of m * d
pub lacking_mod : (m d a : ℕ) → 0 < d → a < m * d → (m * d - suc a) % d ≡ (d - 1) - a % d
lacking_mod m d a h lt =
    let q : ℕ = m - suc (a / d) in
    let fits : a / d < m = div_below a d m h lt in
    let parts : m ≡ suc (a / d) + q = omega arith in
    let low : a % d < d = mod_below a d h in
    let whole : m * d ≡ suc (a / d) * d + q * d = ap (λ (t : ℕ). t * d) parts ∙ add-mul (suc (a / d)) q d in
    let split : q * d + ((d - 1) - a % d) ≡ m * d - suc a = omega (arith, div-add-mod' a d, suc-mul (a / d) d) in
    sym (ap (λ (t : ℕ). t % d) split) ∙ mod-mul-add q d ((d - 1) - a % d) (omega arith)

-- one more, times d
next_times : (q : ℤ) (d : ℕ) → (q +ℤ pos 1) *ℤ pos d ≡ q *ℤ pos d +ℤ pos d
next_times q d = ap (λ (z : ℤ). z *ℤ pos d) (+ℤ_one q) ∙ suc_ℤ-*ℤ q (pos d)

-- h more than x, divided by 2 * h: the floor stays where the remainder is below h
pub floor_stays : (x : ℤ) (h : ℕ) → modulo x (2 * h) < h → floor (x +ℤ pos h) (2 * h) ≡ floor x (2 * h)
floor_stays x h lt =
    let e = floor_holds x (2 * h) (omega arith) in
    let whole : x +ℤ pos h ≡ floor x (2 * h) *ℤ pos (2 * h) +ℤ pos (modulo x (2 * h) + h) = omega (arith, ints, e.whole) in
    sym (floor_only (x +ℤ pos h) (2 * h) (floor x (2 * h)) (modulo x (2 * h) + h) (record { whole = whole; rest = omega arith })).0

-- and is one more where it is not
pub floor_rises : (x : ℤ) (h : ℕ) → 0 < h → h ≤ modulo x (2 * h) → floor (x +ℤ pos h) (2 * h) ≡ floor x (2 * h) +ℤ pos 1
floor_rises x h some le =
    let e = floor_holds x (2 * h) (omega arith) in
    let q : ℤ = floor x (2 * h) in
    let whole : x +ℤ pos h ≡ (q +ℤ pos 1) *ℤ pos (2 * h) +ℤ pos (modulo x (2 * h) - h) = omega (arith, ints, e.whole, next_times q (2 * h)) in
    sym (floor_only (x +ℤ pos h) (2 * h) (q +ℤ pos 1) (modulo x (2 * h) - h) (record { whole = whole; rest = omega (arith, e.rest) })).0
