use Rattle.std.proofs.Common.{◌≡◌, ◌-◌, ◌^◌, pos, ◌+ℤ◌, arith, w64, rules}
use Rattle.std.proofs.lemmas.Int.{to_z-of_z}
use Rattle.std.proofs.lemmas.Nat.{one_shl}
use Rattle.whole.specs.Division.{modulo}
use Rattle.unit.proofs.Halves.{nearest_below, nearest_above}
use Rattle.unit.proofs.settings.Settings.nearest.Goals as goal

pub returns-then-rest-half : goal.returns-then-rest-half
returns-then-rest-half c =
    let x = c.args.x in
    let s = c.args.self.now in
    let (q, r) = c.floor_and_rest-floor.result in
    let x_read = to_z-of_z w64 x c.ranges.x in
    let q_read = to_z-of_z w64 q (search rules) in
    let half = one_shl (s.n - 1) 64 (omega (arith, s.high)) in
    let rest : r ≡ modulo x (2 ^ s.n) = cc in
    let near = nearest_below x s.n s.low (rw (← rest, ← half, ← c.shift.ensures.value) c.if-rest-half.true) in
    cc

pub returns-else-rest-half : goal.returns-else-rest-half
returns-else-rest-half c =
    let x = c.args.x in
    let s = c.args.self.now in
    let (q, r) = c.floor_and_rest-floor.result in
    let x_read = to_z-of_z w64 x c.ranges.x in
    let q_read = to_z-of_z w64 q (search rules) in
    let half = one_shl (s.n - 1) 64 (omega (arith, s.high)) in
    let next_read = to_z-of_z w64 (q +ℤ pos 1) (search rules) in
    let rest : r ≡ modulo x (2 ^ s.n) = cc in
    let near = nearest_above x s.n s.low (rw (← rest, ← half, ← c.shift.ensures.value) c.if-rest-half.false) in
    cc
