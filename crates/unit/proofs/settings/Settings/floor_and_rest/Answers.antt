use Rattle.std.proofs.Common.{◌^◌, arith, w64}
use Rattle.std.proofs.lemmas.Int.{to_z-of_z}
use Rattle.std.proofs.lemmas.Nat.{one_shl}
use Rattle.unit.proofs.Bits.{shifted, floor_room, low_bits}
use Rattle.unit.proofs.settings.Settings.floor_and_rest.Goals as goal

pub returns-clause-rest : goal.returns-clause-rest
returns-clause-rest c =
    let x = c.args.x in
    let s = c.args.self.now in
    let x_read = to_z-of_z w64 x c.ranges.x in
    let mask = one_shl s.n 64 (omega (arith, s.high)) in
    let low = low_bits x s.n s.high c.ranges.x in
    cc

pub returns-clause-room : goal.returns-clause-room
returns-clause-room c =
    let x = c.args.x in
    let s = c.args.self.now in
    rw (c.shift-n.ensures.value, shifted x (2 ^ s.n) c.ranges.x) (floor_room x s.n s.low c.ranges.x)
