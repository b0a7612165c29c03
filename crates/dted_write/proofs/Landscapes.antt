-- The posts of a landscape are in range.
use Rattle.std.proofs.Common.{◌≡◌, ℕ, pos, ◌+◌, ◌*◌, ◌%◌, ◌<◌, ◌≤◌, Bool, true, false, if◌then◌else◌, subst, arith}
use Rattle.std.proofs.lemmas.Int.{ints}
use Rattle.terrain_base.specs.declared.square.Square.{Square}
use Rattle.terrain_base.specs.declared.level.CellLevel.{CellLevel}
use Rattle.terrain_base.specs.declared.post.Post.TheVariants.{Void, Metres}
use Rattle.terrain_base.specs.Height.{IsHeight}
use Rattle.terrain_base.specs.Level.{lat_step_of, lon_step_of, rows_of, columns_of}
use Rattle.dted_cell.specs.Cell.{IsCell}
use Rattle.dted_write.specs.Post.{IsPost}
use Rattle.dted_write.specs.Cell.{columns_from, cell_text}
use Rattle.dted_write.specs.Generate.{knot_height, knot_of, beyond_knot, height_at, is_hole, generated_post}
use Rattle.dted_write.proofs.Knots.{east_within, north_within, weighted_most}
use Rattle.dted_write.proofs.Law.{written}

knot_low : (number east north : ℕ) → knot_height number east north ≤ 2000
unfolding knot_height
knot_low number east north = omega arith

near : (seconds : ℕ) → seconds ≤ 3600 → beyond_knot seconds ≤ 450
near seconds h = omega (arith, h)

-- a mean of heights up to 2000 metres is no higher
height_low : (number : ℕ) (square : Square) (e n : ℕ) → e ≤ 3600 → n ≤ 3600 → height_at number square e n ≤ 2000
unfolding height_at
height_low number square e n h k =
    let west = (8 * square.lon + knot_of e) % 2880 in
    let east = (8 * square.lon + knot_of e + 1) % 2880 in
    let south = 8 * square.lat + knot_of n in
    let north = 8 * square.lat + knot_of n + 1 in
    let most = (weighted_most (knot_height number west south) (knot_height number east south)
    (knot_height number west north) (knot_height number east north) (beyond_knot e) (beyond_knot n)
    (knot_low number west south) (knot_low number east south) (knot_low number west north)
    (knot_low number east north) (near e h) (near n k)).most in
    omega (arith, most)

low_post : (hole : Bool) (height : ℕ) → height ≤ 2000 → IsPost (if hole then Void else Metres (pos height))
low_post true height h m same = cc same
low_post false height h m same =
    let equal : pos height ≡ m = cc same in
    subst IsHeight equal (record { above = omega (arith, ints, h); below = omega (arith, ints, h) })

pub generated_in_range : (number : ℕ) (square : Square) (level : CellLevel) (col row : ℕ)
    → col < columns_of square level → row < rows_of level → IsPost (generated_post number square level col row)
unfolding generated_post
generated_in_range number square level col row h k =
    low_post (is_hole number (col * lon_step_of square level) (row * lat_step_of level)) _
    (height_low number square (col * lon_step_of square level) (row * lat_step_of level)
    (east_within square level col h) (north_within level row k))

pub landscape_is_cell : (number : ℕ) (square : Square) (level : CellLevel)
    → IsCell (cell_text square level (generated_post number square level)) square level
    (columns_from square level (generated_post number square level))
landscape_is_cell number square level =
    written square level (generated_post number square level) (generated_in_range number square level)
