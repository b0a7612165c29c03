-- The places of samples are places.
use Rattle.std.specs.Prelude.{◌≡◌, ℕ, ◌+◌, ◌-◌, ◌*◌, ◌^◌, ◌<◌, ◌≤◌}
use Rattle.std.proofs.Common.{arith}
use Rattle.std.proofs.lemmas.Nat.{pow_pos}
use Rattle.std.proofs.Math.Pow.{pow_mono}
use Rattle.tms_tree.specs.Place.{IsPlace}
use Rattle.tms_tree.proofs.Touching.{doubled}

pub is_place : (x y z place line d : ℕ) → z ≤ 14 → x < 2 ^ (z + 1) → y < 2 ^ z → place ≤ 64 → line ≤ 64
    → d ≡ 64 * 2 ^ z → IsPlace (record { p = 64 * x + place; q = 64 * y + 64 - line; d = d })
is_place x y z place line d level column row east south e =
    let some : 0 < 2 ^ z = pow_pos z in
    let most : 2 ^ z ≤ 2 ^ 14 = pow_mono level in
    let two = doubled z in
    record { positive = omega arith; fine = omega arith; turn = omega arith; pole = omega arith }
