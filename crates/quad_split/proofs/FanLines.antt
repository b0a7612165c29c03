-- The corners of a node's triangles lie at its grid lines, and its test is that of its four sides.
use Rattle.std.proofs.Common.{◌≡◌, ◌∙◌, ℕ, suc, ◌+◌, ◌/◌, ◌^◌, sym, ap, ◌&&◌, List, ◌++◌}
use Rattle.std.specs.Prelude.{ℤ}
use Rattle.std.specs.List.{list_all}
use Rattle.std.proofs.lemmas.List.Folds.{list_all-append}
use Rattle.mesh_plane.specs.declared.corner.Corner.{Corner}
use Rattle.mesh_plane.specs.Triangles.{Triple, tri_of}
use Rattle.mesh_plane.specs.Quadtree.{line_of}
use Rattle.quad_split.specs.Fan.{side_triangles}
use Rattle.quad_split.specs.Fits.{follows, fits_at}
use Rattle.quad_split.specs.Window.{sides_follow, corner_at, fan_at, grid_point}
use Rattle.quad_split.specs.declared.triangle.GridPoint.{GridPoint}
use Rattle.quad_split.specs.declared.fan.Fan.{Fan}
use Rattle.quad_split.specs.declared.fan.FanSide.{FanSide}
use Rattle.quad_split.proofs.NodeLines.{middle_line, last_line}

point_same : (i j k l : ℕ) → i ≡ k → j ≡ l → grid_point i j ≡ grid_point k l
point_same i j k l e f = rw (e, f)

side_same : (c a m b d e n f : GridPoint) → c ≡ d → a ≡ e → m ≡ n → b ≡ f
    → record { centre = c; a = a; middle = m; b = b }
    ≡ (let s : FanSide = record { centre = d; a = e; middle = n; b = f } in s)
side_same c a m b d e n f h i j k = rw (h, i, j, k)

fan_same : (s e n w s' e' n' w' : FanSide) → s ≡ s' → e ≡ e' → n ≡ n' → w ≡ w'
    → record { south = s; east = e; north = n; west = w }
    ≡ (let f : Fan = record { south = s'; east = e'; north = n'; west = w' } in f)
fan_same s e n w s' e' n' w' a b c d = rw (a, b, c, d)

pub fan_is : (k x y i j side : ℕ) → side ≡ 2 ^ suc k → i ≡ line_of (suc k) x → j ≡ line_of (suc k) y
    → let half = side / 2 in let centre = grid_point (i + half) (j + half) in
    let south_west = grid_point i j in let south_east = grid_point (i + side) j in
    let north_east = grid_point (i + side) (j + side) in let north_west = grid_point i (j + side) in
    record {
      south = record { centre = centre; a = south_west; middle = grid_point (i + half) j; b = south_east };
      east = record { centre = centre; a = south_east; middle = grid_point (i + side) (j + half); b = north_east };
      north = record { centre = centre; a = north_east; middle = grid_point (i + half) (j + side); b = north_west };
      west = record { centre = centre; a = north_west; middle = grid_point i (j + half); b = south_west };
    } ≡ fan_at k x y
fan_is k x y i j side p hi hj =
    let mi = middle_line i side k x p hi in let mj = middle_line j side k y p hj in
    let li = last_line i side (suc k) x p hi in let lj = last_line j side (suc k) y p hj in
    let centre = point_same _ _ _ _ mi mj in
    let south_west = point_same _ _ _ _ hi hj in let south_east = point_same _ _ _ _ li hj in
    let north_east = point_same _ _ _ _ li lj in let north_west = point_same _ _ _ _ hi lj in
    fan_same _ _ _ _ _ _ _ _
    (side_same _ _ _ _ _ _ _ _ centre south_west (point_same _ _ _ _ mi hj) south_east)
    (side_same _ _ _ _ _ _ _ _ centre south_east (point_same _ _ _ _ li mj) north_east)
    (side_same _ _ _ _ _ _ _ _ centre north_east (point_same _ _ _ _ mi lj) north_west)
    (side_same _ _ _ _ _ _ _ _ centre north_west (point_same _ _ _ _ hi mj) south_west)

-- the test of the node is that of its four sides
pub sides_fit : (grid : List ℤ) (tol k x y : ℕ) → sides_follow grid tol (fan_at k x y)
    ≡ fits_at grid tol (suc k) x y
unfolding fits_at
sides_fit grid tol k x y =
    let fan = fan_at k x y in
    let ts = λ (s : FanSide). side_triangles (corner_at grid s.centre) (corner_at grid s.a) (corner_at grid s.middle) (corner_at grid s.b) in
    joined (ts fan.south) (ts fan.east) (ts fan.north) (ts fan.west)
  where
    joined : (a b c d : List (Triple Corner))
        → (list_all (λ t. follows grid tol (tri_of t)) a && (list_all (λ t. follows grid tol (tri_of t)) b
        && (list_all (λ t. follows grid tol (tri_of t)) c && list_all (λ t. follows grid tol (tri_of t)) d)))
        ≡ list_all (λ t. follows grid tol (tri_of t)) (a ++ (b ++ (c ++ d)))
    joined a b c d =
        let f = λ (t : Triple Corner). follows grid tol (tri_of t) in
        let p = list_all-append f c d in let q = list_all-append f b (c ++ d) in
        let r = list_all-append f a (b ++ (c ++ d)) in
        sym (r ∙ ap (λ v. list_all f a && v) (q ∙ ap (λ v. list_all f b && v) p))
