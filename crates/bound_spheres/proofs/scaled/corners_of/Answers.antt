use Rattle.std.proofs.Common.{◌≡◌, sym, subst, rules, FitsSigned, List, [], ◌∷◌, All}
use Rattle.std.proofs.lemmas.Int.{to_z-of_z}
use mir.Syntax.{w64}
use Rattle.bound_spheres.specs.declared.scaled.Vector.{Vector}
use Rattle.bound_spheres.specs.Horizon.{IsVectorWithin, scaled_corners, vector}
use Rattle.bound_spheres.proofs.Scaling.{corners_are, corners_within}
use Rattle.bound_spheres.proofs.scaled.corners_of.Goals as goal

pub returns : goal.returns
returns c =
    let box = c.args.corners.now in
    let west = c.equatorial_low-west.result in
    let east = c.equatorial_high-east.result in
    let near = c.equatorial_low-near.result in
    let far = c.equatorial_high-far.result in
    let low = c.polar_low-low.result in
    let high = c.polar_high-high.result in
    let west_fits : FitsSigned w64 west = search rules in
    let east_fits : FitsSigned w64 east = search rules in
    let near_fits : FitsSigned w64 near = search rules in
    let far_fits : FitsSigned w64 far = search rules in
    let low_fits : FitsSigned w64 low = search rules in
    let high_fits : FitsSigned w64 high = search rules in
    let west_near_low : c.corner.result ≡ vector west near low = simp to_z-of_z at c.corner.ensures in
    let west_near_high : c.corner-2.result ≡ vector west near high = simp to_z-of_z at c.corner-2.ensures in
    let west_far_low : c.corner-3.result ≡ vector west far low = simp to_z-of_z at c.corner-3.ensures in
    let west_far_high : c.corner-4.result ≡ vector west far high = simp to_z-of_z at c.corner-4.ensures in
    let east_near_low : c.corner-5.result ≡ vector east near low = simp to_z-of_z at c.corner-5.ensures in
    let east_near_high : c.corner-6.result ≡ vector east near high = simp to_z-of_z at c.corner-6.ensures in
    let east_far_low : c.corner-7.result ≡ vector east far low = simp to_z-of_z at c.corner-7.ensures in
    let east_far_high : c.corner-8.result ≡ vector east far high = simp to_z-of_z at c.corner-8.ensures in
    let x_lo : FitsSigned w64 box.x_lo = search rules in
    let x_hi : FitsSigned w64 box.x_hi = search rules in
    let y_lo : FitsSigned w64 box.y_lo = search rules in
    let y_hi : FitsSigned w64 box.y_hi = search rules in
    let z_lo : FitsSigned w64 box.z_lo = search rules in
    let z_hi : FitsSigned w64 box.z_hi = search rules in
    let corners : List Vector =
    c.corner.result ∷ c.corner-2.result ∷ c.corner-3.result ∷ c.corner-4.result ∷ c.corner-5.result ∷ c.corner-6.result
    ∷ c.corner-7.result ∷ c.corner-8.result ∷ [] in
    let exact : corners ≡ scaled_corners box =
    rw (
      west_near_low,
      west_near_high,
      west_far_low,
      west_far_high,
      east_near_low,
      east_near_high,
      east_far_low,
      east_far_high,
    )
    (corners_are box west east near far low high
    (simp to_z-of_z at c.equatorial_low-west.ensures.exact) (simp to_z-of_z at c.equatorial_high-east.ensures.exact)
    (simp to_z-of_z at c.equatorial_low-near.ensures.exact) (simp to_z-of_z at c.equatorial_high-far.ensures.exact)
    (simp to_z-of_z at c.polar_low-low.ensures.exact) (simp to_z-of_z at c.polar_high-high.ensures.exact)) in
    record { exact = exact; size = subst (λ found. All (IsVectorWithin 21) found) (sym exact) (corners_within box c.requires) }
