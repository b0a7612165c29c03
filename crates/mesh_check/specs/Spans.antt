-- From which level to which one each triangle reaches.
use Rattle.std.specs.Prelude.{◌≡◌, ◌≢◌, ◌⊎◌, ◌↔◌, ℕ, ◌<◌, ◌≤◌, ℤ, pos, ◌≤ℤ◌, Bool, leb, List, ◌++◌, length, take}
use Rattle.std.specs.Prelude.{slice_index_or, filter, All, Any, AllPairs}
use Rattle.std.specs.List.Sorted.{IsNonDecreasingBy}
use Rattle.mesh_plane.specs.declared.corner.Tri.{Tri}
pub use Rattle.mesh_check.specs.declared.span.Span.{Span}
pub use Rattle.mesh_check.specs.declared.active.Active.{Active}

-- its low is the least v of the triangle's corners, and its high the greatest
pub record IsSpan (t : Tri) (s : Span) : Type 0 where
  pub low : (v : ℤ) → (pos s.low ≤ℤ v) ↔ ((t.a.v ≤ℤ v) ⊎ ((t.b.v ≤ℤ v) ⊎ (t.c.v ≤ℤ v)))
  pub high : (v : ℤ) → (v ≤ℤ pos s.high) ↔ ((v ≤ℤ t.a.v) ⊎ ((v ≤ℤ t.b.v) ⊎ (v ≤ℤ t.c.v)))

-- the span of the triangle of its number
pub record IsSpanAt (triangles : List Tri) (s : Span) : Type 0 where
  pub numbered : s.number < length triangles
  pub is : (d : Tri) → IsSpan (slice_index_or triangles s.number d) s

-- the spans of the first so many triangles, in the order of their numbers
pub record AreFirstSpans (triangles : List Tri) (many : ℕ) (spans : List Span) : Type 0 where
  pub count : length spans ≡ many
  pub each : All (IsSpanAt triangles) spans
  pub numbered : (k : ℕ) (d : Span) → k < length spans → (slice_index_or spans k d).number ≡ k

-- the spans of all triangles, each once, by their low ends
pub record AreSpans (triangles : List Tri) (spans : List Span) : Type 0 where
  pub count : length spans ≡ length triangles
  pub each : All (IsSpanAt triangles) spans
  pub once : AllPairs (λ r s. r.number ≢ s.number) spans
  pub all : (number : ℕ) → number < length triangles → Any (λ s. s.number ≡ number) spans
  pub ascending : IsNonDecreasingBy (λ s. s.low) spans

-- whether the triangle reaches up to the level
abbrev pub reaches_up : ℕ → Span → Bool
reaches_up v s = leb v s.high

-- of the triangles that have begun, those that reach up to the level
pub record AreBegun (spans : List Span) (active : Active) (v : ℕ) : Type 0 where
  pub are : active.spans.items ≡ filter (reaches_up v) (take active.next spans)
  pub within : active.next ≤ length spans
  pub begun : All (λ s. s.low ≤ v) (take active.next spans)

-- spans up to a place are taken up, all of which begin at the level or below it
pub record AreTaken (spans : List Span) (old new : Active) (low place : ℕ) : Type 0 where
  pub next : new.next ≡ place
  pub within : place ≤ length spans
  pub taken : List Span
  pub after : take place spans ≡ take old.next spans ++ taken
  pub items : new.spans.items ≡ old.spans.items ++ taken
  pub begun : All (λ s. s.low ≤ low) taken

-- from the place on, all triangles begin above the level
abbrev pub IsRest : List Span → ℕ → ℕ → Type 0
IsRest spans low place = (d : Span) → place < length spans → low < (slice_index_or spans place d).low

-- the triangles that begin at the lower level or below it, and reach up to the upper one
pub record AreThrough (spans : List Span) (active : Active) (low high : ℕ) : Type 0 where
  pub are : active.spans.items ≡ filter (reaches_up high) (take active.next spans)
  pub within : active.next ≤ length spans
  pub begun : All (λ s. s.low ≤ low) (take active.next spans)
  pub rest : IsRest spans low active.next
