-- Products and orders of whole numbers. Assumes nothing.
use Rattle.std.proofs.Common.{◌≡◌, ℕ, zero, suc, ◌*◌, ◌<◌, ℤ, pos, negsuc, ◌+ℤ◌, ◌-ℤ◌, ◌*ℤ◌, neg_ℤ, nat_abs, ◌≤ℤ◌, ◌<ℤ◌, sym, refl, ap, ◌∙◌, ap₂, arith}
use native.Mathlib.Nat as NatL
use lib.IntN.{+ℤ_idr, +ℤ_assoc, +ℤ-suc_ℤ, suc_ℤ-*ℤ, *ℤ_comm, zero-*ℤ, *ℤ-zero}
use lib.Signed.{clash_ℤ}
use Rattle.std.proofs.lemmas.Int.{ints, by_lt_z}

-- a sum times c, for a second summand that is not below 0
add-mul-pos : (a c : ℤ) (n : ℕ) → (a +ℤ pos n) *ℤ c ≡ a *ℤ c +ℤ pos n *ℤ c
add-mul-pos a c zero = ap (λ (x : ℤ). x *ℤ c) (+ℤ_idr a) ∙ sym (ap (λ (x : ℤ). a *ℤ c +ℤ x) (zero-*ℤ c) ∙ +ℤ_idr (a *ℤ c))
add-mul-pos a c (suc n) =
    ap (λ (x : ℤ). x *ℤ c) (+ℤ-suc_ℤ a (pos n)) ∙ suc_ℤ-*ℤ (a +ℤ pos n) c ∙ ap (λ (x : ℤ). x +ℤ c) (add-mul-pos a c n)
    ∙ +ℤ_assoc (a *ℤ c) (pos n *ℤ c) c ∙ ap (λ (x : ℤ). a *ℤ c +ℤ x) (sym (suc_ℤ-*ℤ (pos n) c))

-- signs move out of a product
pub neg-mul : (a b : ℤ) → neg_ℤ a *ℤ b ≡ neg_ℤ (a *ℤ b)
neg-mul (pos zero) b = zero-*ℤ b ∙ ap neg_ℤ (sym (zero-*ℤ b))
neg-mul (pos (suc a)) (pos b) = refl
neg-mul (pos (suc a)) (negsuc b) = omega (arith, ints)
neg-mul (negsuc a) (pos b) = omega (arith, ints)
neg-mul (negsuc a) (negsuc b) = refl

pub mul-neg : (a b : ℤ) → a *ℤ neg_ℤ b ≡ neg_ℤ (a *ℤ b)
mul-neg a b = *ℤ_comm a (neg_ℤ b) ∙ neg-mul b a ∙ ap neg_ℤ (*ℤ_comm b a)

-- products distribute over sums
pub add-mul : (a b c : ℤ) → (a +ℤ b) *ℤ c ≡ a *ℤ c +ℤ b *ℤ c
add-mul a (pos n) c = add-mul-pos a c n
add-mul a (negsuc n) c =
    omega (arith, ints, neg-mul (neg_ℤ a +ℤ pos (suc n)) c, add-mul-pos (neg_ℤ a) c (suc n), neg-mul a c, neg-mul (pos (suc n)) c, flip)
  where
    flip : neg_ℤ (neg_ℤ a +ℤ pos (suc n)) *ℤ c ≡ (a +ℤ negsuc n) *ℤ c
    flip = ap (λ (x : ℤ). x *ℤ c) (omega (arith, ints))

pub mul-add : (a b c : ℤ) → a *ℤ (b +ℤ c) ≡ a *ℤ b +ℤ a *ℤ c
mul-add a b c = *ℤ_comm a (b +ℤ c) ∙ add-mul b c a ∙ ap₂ (λ (x y : ℤ). x +ℤ y) (*ℤ_comm b a) (*ℤ_comm c a)

-- and are associative
mul_assoc_pos : (n : ℕ) (b c : ℤ) → (pos n *ℤ b) *ℤ c ≡ pos n *ℤ (b *ℤ c)
mul_assoc_pos zero b c = ap (λ (x : ℤ). x *ℤ c) (zero-*ℤ b) ∙ zero-*ℤ c ∙ sym (zero-*ℤ (b *ℤ c))
mul_assoc_pos (suc n) b c =
    ap (λ (x : ℤ). x *ℤ c) (suc_ℤ-*ℤ (pos n) b) ∙ add-mul (pos n *ℤ b) b c ∙ ap (λ (x : ℤ). x +ℤ b *ℤ c) (mul_assoc_pos n b c) ∙ sym (suc_ℤ-*ℤ (pos n) (b *ℤ c))

pub mul_assoc : (a b c : ℤ) → (a *ℤ b) *ℤ c ≡ a *ℤ (b *ℤ c)
mul_assoc (pos n) b c = mul_assoc_pos n b c
mul_assoc (negsuc n) b c =
    ap (λ (x : ℤ). x *ℤ c) (neg-mul (pos (suc n)) b) ∙ neg-mul (pos (suc n) *ℤ b) c ∙ ap neg_ℤ (mul_assoc_pos (suc n) b c) ∙ sym (neg-mul (pos (suc n)) (b *ℤ c))

pub mul_left_comm : (a b c : ℤ) → a *ℤ (b *ℤ c) ≡ b *ℤ (a *ℤ c)
mul_left_comm a b c = sym (mul_assoc a b c) ∙ ap (λ (x : ℤ). x *ℤ c) (*ℤ_comm a b) ∙ mul_assoc b a c

pub mul-one : (a : ℤ) → a *ℤ pos 1 ≡ a
mul-one (pos a) = ap pos (NatL.mul-one a)
mul-one (negsuc a) = ap (λ (x : ℕ). neg_ℤ (pos x)) (NatL.mul-one (suc a))

-- Products multiplied out and sorted: what is left of an identity is linear.
pub ruleset expand = (add-mul, mul-add, neg-mul, mul-neg, mul_assoc, mul_left_comm, *ℤ_comm, mul-one, *ℤ-zero, zero-*ℤ)

-- a factor that is not below 0 keeps an order
pub mul-≤ : (d : ℕ) (v w : ℤ) → v ≤ℤ w → (v *ℤ pos d) ≤ℤ (w *ℤ pos d)
mul-≤ d v w h =
    let whole : w ≡ v +ℤ pos (nat_abs (w -ℤ v)) = omega (arith, ints) in
    let product : w *ℤ pos d ≡ v *ℤ pos d +ℤ pos (nat_abs (w -ℤ v) * d) = ap (λ (x : ℤ). x *ℤ pos d) whole ∙ add-mul v (pos (nat_abs (w -ℤ v))) (pos d) in
    omega (arith, ints)

-- a positive one keeps a strict order
pub mul-< : (d : ℕ) → 0 < d → (v w : ℤ) → v <ℤ w → (v *ℤ pos d) <ℤ (w *ℤ pos d)
mul-< d some v w h =
    let least : (v +ℤ pos 1) ≤ℤ w = omega (arith, ints) in
    let kept : ((v +ℤ pos 1) *ℤ pos d) ≤ℤ (w *ℤ pos d) = mul-≤ d (v +ℤ pos 1) w least in
    omega (arith, ints, add-mul v (pos 1) (pos d))

-- and can be taken away
pub cancel-< : (d : ℕ) (v w : ℤ) → (v *ℤ pos d) <ℤ (w *ℤ pos d) → v <ℤ w
cancel-< d v w h = by_lt_z v w (λ g. g) (λ g. clash_ℤ h (mul-≤ d w v g))

pub cancel-≤ : (d : ℕ) → 0 < d → (v w : ℤ) → (v *ℤ pos d) ≤ℤ (w *ℤ pos d) → v ≤ℤ w
cancel-≤ d some v w h = by_lt_z w v (λ g. clash_ℤ (mul-< d some w v g) h) (λ g. g)
