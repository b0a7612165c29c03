-- A blend by units that have a factor in common.
use Rattle.std.proofs.Common.{◌≡◌, ℕ, ◌*◌, ◌-◌, ◌/◌, ◌%◌, ◌<◌, ◌∙◌, sym, ap, refl, arith}
use Rattle.std.proofs.lemmas.Int.{ints}
use Rattle.std.proofs.Math.Nat.{div-add-mod, mul-le-mul}
use lib.IntN.{ℤ, pos, ◌+ℤ◌, ◌*ℤ◌}
use Rattle.terrain_base.specs.Division.{IsFloor}
use Rattle.terrain_base.proofs.Quotients.{floor_is, floor_once}
use Rattle.terrain_base.specs.declared.post.Post.TheVariants.{Metres}
use Rattle.cell_mosaic.specs.Blend.{blend_of, heights_round, rounded, weighted, weighted_sum}
use Rattle.cell_mosaic.proofs.Sums.{average_is}
use Rattle.cell_mosaic.proofs.Shorts.{no_voids}

-- a factor of the sum and of the unit is taken off
floor_thinned : (s q : ℤ) (u : ℕ) → IsFloor ((s *ℤ pos 2) +ℤ pos u) (pos (2 * u)) q
    → IsFloor (((s *ℤ pos 1024) *ℤ pos 2) +ℤ pos (1024 * u)) (pos (2 * (1024 * u))) q
floor_thinned s q u f = record { low = omega (arith, ints, f.low); high = omega (arith, ints, f.high) }

rounded_thinned : (s : ℤ) (u : ℕ) → 0 < u → rounded (s *ℤ pos 1024) (1024 * u) ≡ rounded s u
rounded_thinned s u h =
    floor_once (((s *ℤ pos 1024) *ℤ pos 2) +ℤ pos (1024 * u)) (pos (2 * (1024 * u))) _ _ (omega (arith, ints, h))
    (floor_is (((s *ℤ pos 1024) *ℤ pos 2) +ℤ pos (1024 * u)) (pos (2 * (1024 * u))) (omega (arith, ints, h)))
    (floor_thinned s (rounded s u) u (floor_is ((s *ℤ pos 2) +ℤ pos u) (pos (2 * u)) (omega (arith, ints, h))))

part_thinned : (metres : ℤ) (x y : ℕ) → metres *ℤ pos ((32 * x) * (32 * y)) ≡ (metres *ℤ pos (x * y)) *ℤ pos 1024
part_thinned metres x y = omega (arith, ints)

four_thinned : (a b c d : ℤ)
    → (a *ℤ pos 1024) +ℤ ((b *ℤ pos 1024) +ℤ ((c *ℤ pos 1024) +ℤ ((d *ℤ pos 1024) +ℤ pos 0)))
    ≡ (a +ℤ (b +ℤ (c +ℤ (d +ℤ pos 0)))) *ℤ pos 1024
four_thinned a b c d = omega (arith, ints)

sum_thinned : (sw se nw ne : ℤ) (e eu n nu : ℕ)
    → weighted_sum (weighted (heights_round sw se nw ne) (32 * e) (32 * eu) (32 * n) (32 * nu))
    ≡ weighted_sum (weighted (heights_round sw se nw ne) e eu n nu) *ℤ pos 1024
sum_thinned sw se nw ne e eu n nu =
    let west : 32 * eu - 32 * e ≡ 32 * (eu - e) = omega arith in
    let south : 32 * nu - 32 * n ≡ 32 * (nu - n) = omega arith in
    rw (
      west,
      south,
      part_thinned sw (eu - e) (nu - n),
      part_thinned se e (nu - n),
      part_thinned nw (eu - e) n,
      part_thinned ne e n,
    )
    (four_thinned (sw *ℤ pos ((eu - e) * (nu - n))) (se *ℤ pos (e * (nu - n))) (nw *ℤ pos ((eu - e) * n))
    (ne *ℤ pos (e * n)))

positive_product : (eu nu : ℕ) → 0 < eu → 0 < nu → 0 < eu * nu
positive_product eu nu h k = omega (arith, mul-le-mul h k)

blend_thinned : (sw se nw ne : ℤ) (e eu n nu : ℕ) → 0 < eu → 0 < nu
    → blend_of (heights_round sw se nw ne) (32 * e) (32 * eu) (32 * n) (32 * nu)
    ≡ blend_of (heights_round sw se nw ne) e eu n nu
unfolding blend_of
blend_thinned sw se nw ne e eu n nu h k =
    let wide = weighted (heights_round sw se nw ne) (32 * e) (32 * eu) (32 * n) (32 * nu) in
    let thin = weighted (heights_round sw se nw ne) e eu n nu in
    let unit_is : 32 * eu * (32 * nu) ≡ 1024 * (eu * nu) = omega arith in
    sym (average_is wide (32 * eu * (32 * nu)) _ (no_voids sw se nw ne (32 * e) (32 * eu) (32 * n) (32 * nu)) refl)
    ∙ ap Metres (rw (unit_is, sum_thinned sw se nw ne e eu n nu)
    (rounded_thinned (weighted_sum thin) (eu * nu) (positive_product eu nu h k)))
    ∙ average_is thin (eu * nu) _ (no_voids sw se nw ne e eu n nu) refl

of_parts : (n : ℕ) → n % 32 ≡ 0 → 32 * (n / 32) ≡ n
of_parts n h = omega (arith, h, div-add-mod n 32)

pub blend_of_parts : (sw se nw ne : ℤ) (e eu n nu : ℕ) → 0 < eu → 0 < nu
    → e % 32 ≡ 0 → eu % 32 ≡ 0 → n % 32 ≡ 0 → nu % 32 ≡ 0
    → blend_of (heights_round sw se nw ne) (e / 32) (eu / 32) (n / 32) (nu / 32)
    ≡ blend_of (heights_round sw se nw ne) e eu n nu
blend_of_parts sw se nw ne e eu n nu h k e_parts eu_parts n_parts nu_parts =
    let eu_is = of_parts eu eu_parts in
    let nu_is = of_parts nu nu_parts in
    let thinned = blend_thinned sw se nw ne (e / 32) (eu / 32) (n / 32) (nu / 32)
    (omega (arith, h, eu_is)) (omega (arith, k, nu_is)) in
    sym (rw (of_parts e e_parts, eu_is, of_parts n n_parts, nu_is) at thinned)
