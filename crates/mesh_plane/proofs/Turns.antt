-- Turns: twice the area of the triangle of three points.
use Rattle.std.proofs.Common.{◌≡◌, ℕ, ◌+◌, ◌*◌, refl, List, [], ◌∷◌}
use Rattle.std.specs.Prelude.{ℤ, pos, ◌+ℤ◌, ◌-ℤ◌, ◌*ℤ◌}
use Rattle.polynomial.proofs.Expressions.{Expr, var, num, add, sub, mul}
use Rattle.polynomial.proofs.NormalForm.{by_ring}
use Rattle.mesh_plane.specs.declared.corner.Corner.{Corner}
use Rattle.mesh_plane.specs.Plane.{Point, point, place_at, side_of}

-- above 0 where p lies to the left of the line from a to b
abbrev pub turn : Point → Point → Point → ℤ
turn a b p = (b.u -ℤ a.u) *ℤ (p.v -ℤ a.v) -ℤ (b.v -ℤ a.v) *ℤ (p.u -ℤ a.u)

-- a turn as an expression, for `by_ring`
abbrev pub turned : (au av bu bv x y : Expr) → Expr
turned au av bu bv x y = sub (mul (sub bu au) (sub y av)) (mul (sub bv av) (sub x au))

-- that of three points, where the point i is the variables 2 * i and 2 * i + 1
abbrev pub turned_points : ℕ → ℕ → ℕ → Expr
turned_points i j k =
    turned (var (2 * i)) (var (2 * i + 1)) (var (2 * j)) (var (2 * j + 1)) (var (2 * k)) (var (2 * k + 1))

-- what those variables stand for
abbrev pub points : List Point → List ℤ
points [] = []
points (p ∷ ps) = p.u ∷ p.v ∷ points ps

-- the line the other way round
pub turned_back : (a b p : Point) → turn b a p ≡ pos 0 -ℤ turn a b p
turned_back a b p =
    by_ring (turned_points 1 0 2) (sub (num 0) (turned_points 0 1 2)) (points (a ∷ b ∷ p ∷ [])) refl

-- the three sides at any point add up to the doubled area
pub three_sides : (a b c p : Point) → (turn a b p +ℤ turn b c p) +ℤ turn c a p ≡ turn a b c
three_sides a b c p =
    by_ring (add (add (turned_points 0 1 3) (turned_points 1 2 3)) (turned_points 2 0 3))
    (turned_points 0 1 2)
    (points (a ∷ b ∷ c ∷ p ∷ [])) refl

-- one corner on
pub turned_on : (a b c : Point) → turn b c a ≡ turn a b c
turned_on a b c = by_ring (turned_points 1 2 0) (turned_points 0 1 2) (points (a ∷ b ∷ c ∷ [])) refl

-- at an end of its line
pub turn_at_first : (a b : Point) → turn a b a ≡ pos 0
turn_at_first a b = by_ring (turned_points 0 1 0) (num 0) (points (a ∷ b ∷ [])) refl

pub turn_at_second : (a b : Point) → turn a b b ≡ pos 0
turn_at_second a b = by_ring (turned_points 0 1 1) (num 0) (points (a ∷ b ∷ [])) refl

-- the side at the scale s, as a turn of the corners where they lie at that scale
pub side_scaled : (a b : Corner) (s x y : ℤ)
    → s *ℤ side_of a b s x y ≡ turn (place_at s a) (place_at s b) (point x y)
side_scaled a b s x y =
    by_ring
    (mul (var 4)
    (sub (mul (sub (var 2) (var 0)) (sub (var 6) (mul (var 4) (var 1))))
    (mul (sub (var 3) (var 1)) (sub (var 5) (mul (var 4) (var 0))))))
    (turned (mul (var 4) (var 0)) (mul (var 4) (var 1)) (mul (var 4) (var 2)) (mul (var 4) (var 3)) (var 5)
    (var 6))
    (a.u ∷ a.v ∷ b.u ∷ b.v ∷ s ∷ x ∷ y ∷ []) refl
