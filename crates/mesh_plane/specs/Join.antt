-- Two lists of triangles on the two sides of a line.
use Rattle.std.specs.Prelude.{◌≡◌, ℤ, pos, ◌≤ℤ◌, List, ◌++◌, All}
use Rattle.mesh_plane.specs.declared.corner.Corner.{Corner}
use Rattle.mesh_plane.specs.declared.corner.Tri.{Tri}
use Rattle.mesh_plane.specs.Plane.{side_of}
use Rattle.mesh_plane.specs.Cover.{HeldOnce}

-- the corners lie at different places
abbrev pub AreApart : Corner → Corner → Type 0
AreApart d e = ¬ ((d.u ≡ e.u) × (d.v ≡ e.v))

-- all three corners lie on the line from d to e or to the left of it
pub record IsLeftOf (d e : Corner) (t : Tri) : Type 0 where
  pub a : pos 0 ≤ℤ side_of d e (pos 1) t.a.u t.a.v
  pub b : pos 0 ≤ℤ side_of d e (pos 1) t.b.u t.b.v
  pub c : pos 0 ≤ℤ side_of d e (pos 1) t.c.u t.c.v

-- where neither list holds a point strictly twice, both together do not
abbrev pub JoinLaw : Type 0
JoinLaw = (ts us : List Tri) (d e : Corner) → AreApart d e → All (IsLeftOf d e) ts → All (IsLeftOf e d) us
    → (s x y : ℤ) → pos 1 ≤ℤ s → HeldOnce s x y ts → HeldOnce s x y us → HeldOnce s x y (ts ++ us)
