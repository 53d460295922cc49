use Rattle.std.proofs.Common.{◌^◌, ◌<◌, lt_of_lt_of_le, mul_comm, arith, pow_mono}
use Rattle.std.proofs.lemmas.Nat.{shl_whole}
use Rattle.unit.proofs.settings.Settings.far_count.Goals as goal

pub returns : goal.returns
returns c =
    let rest = c.args.rest in
    let k = c.args.self.now.k in
    let small : rest < 2 ^ 32 = lt_of_lt_of_le c.requires (pow_mono c.args.self.now.high) in
    let whole = shl_whole rest 32 k.bits 64 small (omega (arith, k.high)) in
    let turned = mul_comm rest (2 ^ k.bits) in
    cc
