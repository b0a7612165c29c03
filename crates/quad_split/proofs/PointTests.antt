-- The test of one grid point, by the sides of the triangle there.
use Rattle.std.proofs.Common.{◌≡◌, ℕ, ap, sym, ◌∙◌, refl, true, Bool, List}
use Rattle.std.specs.Prelude.{ℤ, pos, ◌+ℤ◌, ◌-ℤ◌, ◌*ℤ◌, int_le}
use Rattle.terrain_base.specs.Grid.{line_position, height_in}
use Rattle.mesh_plane.specs.declared.corner.Tri.{Tri}
use Rattle.mesh_plane.specs.Plane.{side_of}
use Rattle.mesh_plane.specs.Surface.{gap_under, size_of}
use Rattle.quad_split.specs.Fits.{HoldsPoint, follows_at, is_near_plane}
use Rattle.quad_split.proofs.Meanings.{at_test, holds_test}

pub not_held : (grid : List ℤ) (tol : ℕ) (t : Tri) (i j : ℕ) → (HoldsPoint t i j → ⊥) → true ≡ follows_at grid tol t i j
not_held grid tol t i j f = sym ((at_test grid tol t i j).1 (λ h. absurd (f h)))

held : (grid : List ℤ) (tol : ℕ) (t : Tri) (i j : ℕ) → HoldsPoint t i j
    → follows_at grid tol t i j ≡ is_near_plane grid tol t i j
unfolding follows_at
held grid tol t i j h = rw ((holds_test t i j).1 h) refl

near_by : (grid : List ℤ) (tol : ℕ) (t : Tri) (i j : ℕ) (ab bc ca metres : ℤ)
    → ab ≡ side_of t.a t.b (pos 1) (pos (line_position i)) (pos (line_position j))
    → bc ≡ side_of t.b t.c (pos 1) (pos (line_position i)) (pos (line_position j))
    → ca ≡ side_of t.c t.a (pos 1) (pos (line_position i)) (pos (line_position j)) → metres ≡ height_in grid i j
    → int_le (size_of (((t.a.h *ℤ bc +ℤ t.b.h *ℤ ca) +ℤ t.c.h *ℤ ab) -ℤ metres *ℤ gap_under t (pos 1)))
    (pos tol *ℤ gap_under t (pos 1))
    ≡ is_near_plane grid tol t i j
unfolding is_near_plane
near_by grid tol t i j ab bc ca metres e f g h = rw (e, f, g, h) refl

pub held_near : (grid : List ℤ) (tol : ℕ) (t : Tri) (i j : ℕ) (ab bc ca metres lift : ℤ) (near : Bool)
    → ab ≡ side_of t.a t.b (pos 1) (pos (line_position i)) (pos (line_position j))
    → bc ≡ side_of t.b t.c (pos 1) (pos (line_position i)) (pos (line_position j))
    → ca ≡ side_of t.c t.a (pos 1) (pos (line_position i)) (pos (line_position j)) → metres ≡ height_in grid i j
    → lift ≡ (t.a.h *ℤ bc +ℤ t.b.h *ℤ ca) +ℤ t.c.h *ℤ ab
    → near ≡ int_le (size_of (lift -ℤ metres *ℤ gap_under t (pos 1))) (pos tol *ℤ gap_under t (pos 1))
    → HoldsPoint t i j → near ≡ follows_at grid tol t i j
held_near grid tol t i j ab bc ca metres lift near e f g h l n k =
    n ∙ ap (λ (z : ℤ). int_le (size_of (z -ℤ metres *ℤ gap_under t (pos 1))) (pos tol *ℤ gap_under t (pos 1))) l
    ∙ near_by grid tol t i j ab bc ca metres e f g h ∙ sym (held grid tol t i j k)
