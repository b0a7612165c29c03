-- The verdicts of an audit.
use Rattle.std.proofs.Common.{◌≡◌, ℕ, ◌<◌, ◌≤◌, ◌^◌, sym, subst, ap, ◌∙◌, arith, List, length}
use Rattle.std.specs.Prelude.{All}
use Rattle.std.specs.List.Sorted.{IsStrictlyIncreasing}
use Rattle.mesh_codec.specs.Mesh.{Mesh, IsMesh}
use Rattle.mesh_plane.specs.declared.corner.Tri.{Tri}
use Rattle.mesh_plane.specs.Plane.{IsTileTri, IsCounterClockwise}
use Rattle.mesh_check.specs.declared.verdict.Finding.TheVariants.{NotCounterClockwise}
use Rattle.mesh_check.specs.declared.verdict.Verdict.{Verdict}
use Rattle.mesh_check.specs.declared.verdict.Verdict.TheVariants.{Found}
use Rattle.mesh_check.specs.Members.{ArePlaced}
use Rattle.mesh_check.specs.Findings.{IsFirstTurnedBack, IsShown}
use Rattle.mesh_check.specs.Spans.{AreSpans}
use Rattle.mesh_check.specs.Level.{IsCodeTri}
use Rattle.mesh_check.specs.Sweep.{Course, levels_in, IsCourse}
use Rattle.mesh_check.specs.CodeMesh.{tri_of, triangles_of, levels_of, AreLevels, IsVerdict}
use Rattle.mesh_check.proofs.MeshPlaced.{all_on_tile, code_tris, placed}
use Rattle.mesh_check.proofs.Moved.{back, placed_moved, shown_moved}
use Rattle.mesh_check.proofs.OneFinding.{exact}
use Rattle.mesh_check.proofs.Towers.{map_length}

module _ (mesh : Mesh) (is : IsMesh mesh) (ts : List Tri) (e : ts ≡ triangles_of mesh) where
  pub tris_on_tile : All IsTileTri ts
  tris_on_tile = subst (λ (us : List Tri). All IsTileTri us) (sym e) (all_on_tile mesh is)

  pub tris_few : length ts < 2 ^ 32
  tris_few =
      let a : length ts ≡ length (triangles_of mesh) = ap (λ (us : List Tri). length us) e in
      let b : length (triangles_of mesh) ≡ length mesh.triangles = map_length (tri_of mesh) mesh.triangles in
      omega (arith, a, b, is.few_triangles)

  pub turned_back_verdict : length mesh.vertices ≤ 16384 → (number : ℕ) → IsFirstTurnedBack ts number → IsVerdict mesh
      (Found (NotCounterClockwise number))
  turned_back_verdict few number h =
      let k = subst (λ (us : List Tri). IsFirstTurnedBack us number) e h in
      exact (levels_of mesh) (triangles_of mesh) (placed mesh is) (length mesh.vertices)
      (Found (NotCounterClockwise number)) (few, k.0, k.1)

  module _ (course : Course) (f : course.triangles.items ≡ ts) (are : AreLevels mesh course.levels.items) where
    pub course_ready : IsStrictlyIncreasing course.levels.items → AreSpans ts course.spans.items
        → All IsCounterClockwise ts → IsCourse course
    course_ready rises spans turned = record {
      ascending = rises;
      placed = subst (λ (us : List Tri). ArePlaced (levels_in course) us) (sym (f ∙ e))
          (placed_moved (levels_of mesh) (levels_in course) (back (levels_in course) (levels_of mesh) are)
          (triangles_of mesh) (placed mesh is));
      codes = subst (λ (us : List Tri). All IsCodeTri us) (sym (f ∙ e))
          (code_tris mesh is (subst (λ (us : List Tri). All IsCounterClockwise us) e turned));
      few = subst (λ (us : List Tri). length us < 2 ^ 32) (sym f) tris_few;
      spans = subst (λ (us : List Tri). AreSpans us course.spans.items) (sym f) spans;
    }

    pub swept_verdict : (verdict : Verdict) → IsShown (levels_in course) course.triangles.items
        (length mesh.vertices) verdict → IsVerdict mesh verdict
    swept_verdict verdict s =
        exact (levels_of mesh) (triangles_of mesh) (placed mesh is) (length mesh.vertices) verdict
        (shown_moved (levels_in course) (levels_of mesh) are (triangles_of mesh) (length mesh.vertices) verdict
        (subst (λ (us : List Tri). IsShown (levels_in course) us (length mesh.vertices) verdict) (f ∙ e) s))
