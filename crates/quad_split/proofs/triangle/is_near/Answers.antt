-- The comparison of what the prover sees as equal numbers.
use Rattle.std.proofs.Common.{◌≡◌, ◌∙◌, ap, arith, FitsSigned, w64}
use Rattle.std.specs.Prelude.{ℤ, pos, ◌-ℤ◌, ◌*ℤ◌, int_le}
use Rattle.std.proofs.lemmas.Int.{ints, to_z-of_z}
use Rattle.mesh_plane.specs.Surface.{gap_under, size_of}
use Rattle.quad_split.proofs.triangle.is_near.Goals as goal

compared : (gap room gap' room' : ℤ) → gap ≡ gap' → room ≡ room' → int_le gap room ≡ int_le gap' room'
compared gap room gap' room' e f = cc

pub abs-requires : goal.abs-requires
abs-requires c =
    let product : FitsSigned w64 c.weighted.result = omega (arith, ints, c.weighted.ensures.size) in
    let difference : FitsSigned w64 (c.args.lift -ℤ c.weighted.result) =
    omega (arith, ints, c.requires.lift, c.weighted.ensures.size) in
    simp to_z-of_z (omega (arith, ints, c.requires.lift, c.weighted.ensures.size))

pub returns : goal.returns
returns c =
    let t = c.args.tri.now in let tol = c.ranges.tol in let metres = c.ranges.metres in
    let lift : FitsSigned w64 c.args.lift = omega (arith, ints, c.requires.lift) in
    let under : FitsSigned w64 c.area-under.result = omega (arith, ints, c.area-under.ensures.size) in
    let product : FitsSigned w64 c.weighted.result = omega (arith, ints, c.weighted.ensures.size) in
    let difference : FitsSigned w64 (c.args.lift -ℤ c.weighted.result) =
    omega (arith, ints, c.requires.lift, c.weighted.ensures.size) in
    let area_is : c.area-under.result ≡ gap_under t (pos 1) = c.area-under.ensures.value in
    let product_is : c.weighted.result ≡ c.args.metres *ℤ c.area-under.result = simp to_z-of_z at c.weighted.ensures.value in
    let room_is : c.room.result ≡ pos c.args.tol *ℤ c.area-under.result = simp to_z-of_z at c.room.ensures.value in
    let gap_is : c.abs.result ≡ size_of (c.args.lift -ℤ c.weighted.result) = simp to_z-of_z at c.abs.ensures.value in
    let gap : FitsSigned w64 c.abs.result = omega (arith, ints, gap_is, c.requires.lift, c.weighted.ensures.size) in
    let room : FitsSigned w64 c.room.result = omega (arith, ints, c.room.ensures.size) in
    let over : c.abs.result ≡ size_of (c.args.lift -ℤ c.args.metres *ℤ gap_under t (pos 1)) =
    gap_is ∙ ap (λ (z : ℤ). size_of (c.args.lift -ℤ z)) (product_is ∙ ap (λ (u : ℤ). c.args.metres *ℤ u) area_is) in
    let most : c.room.result ≡ pos c.args.tol *ℤ gap_under t (pos 1) =
    room_is ∙ ap (λ (u : ℤ). pos c.args.tol *ℤ u) area_is in
    simp to_z-of_z (compared c.abs.result c.room.result _ _ over most)
