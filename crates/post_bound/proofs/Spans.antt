-- Below level 8 the greatest difference of a vertex and an extreme keeps every post.
use Rattle.std.proofs.Common.{◌≡◌, ◌⊎◌, ℕ, suc, ◌<◌, max, Bool, true, false, cond, arith, refl, sym, subst, ap, ◌∙◌, inl, inr, ⊎_elim, List, [], ◌∷◌, map, length, get_or, Option, Some, None}
use Rattle.std.specs.Prelude.{ℤ, pos, ◌-ℤ◌, ◌*ℤ◌, ◌≤ℤ◌, ◌<ℤ◌, int_le, unsigned_abs, All, Contains, nat_lt, if◌then◌else◌}
use Rattle.std.specs.FinMap.{get, entries, get-entries, find}
use Rattle.std.specs.Ordering.{eq_by_cmp}
use Rattle.std.proofs.lemmas.Int.{ints, fold-int_min_bounds, fold-int_max_bounds, fold-int_min_reached, fold-int_max_reached}
use Rattle.std.proofs.lemmas.Nat.{pow_pos}
use Rattle.std.proofs.lemmas.List.{length-map, get_or-map}
use Rattle.std.proofs.lemmas.List.Elements.{All-contains, Contains-get_or}
use Rattle.std.proofs.lemmas.Map.Views.{tells_apart}
use Rattle.common_laws.proofs.Extremes.{max_is_one}
use Rattle.common_laws.proofs.Sizes.{size_of_near}
use Rattle.polynomial.proofs.Expressions.{var, sub, mul}
use Rattle.polynomial.proofs.NormalForm.{by_ring}
use Rattle.polynomial.proofs.Signs.{times_nonneg, weaken}
use Rattle.terrain_base.specs.declared.cell_key.CellKey.{CellKey}
use Rattle.terrain_base.specs.declared.indexes.Indexes.{Indexes}
use Rattle.terrain_base.specs.declared.tile.TileId.{TileId}
use Rattle.terrain_base.specs.declared.post.Extremes.{Extremes}
use Rattle.terrain_base.specs.declared.post.Post.TheVariants.{Void, Metres}
use Rattle.terrain_base.specs.declared.summary.Summary.{Summary}
use Rattle.terrain_base.specs.CellKey.{key_cmp}
use Rattle.terrain_base.specs.Height.{IsHeight}
use Rattle.terrain_base.specs.Level.{rows_of, columns_of}
use Rattle.terrain_base.proofs.KeyOrder.{keys_exact}
use Rattle.dted_cell.specs.Cell.{extremes_in, post_in, columns_in, rows_in, level_in, HasHeight}
use Rattle.dted_cell.specs.Trouble.{IsCellAt}
use Rattle.dted_cell.proofs.Extremes.{bounding, no_extremes}
use Rattle.tms_tree.specs.Touch.{touches_of}
use Rattle.cell_mosaic.specs.Cells.{Cells, post_or_void}
use Rattle.mesh_plane.specs.declared.corner.Tri.{Tri}
use Rattle.mesh_plane.specs.Plane.{IsCounterClockwise}
use Rattle.mesh_plane.specs.Surface.{lift_of, gap_under}
use Rattle.mesh_plane.specs.SurfaceLaw.{AreHeightsWithin, IsSurfaceNear}
use Rattle.mesh_plane.proofs.SurfaceLaws.{surface_law}
use Rattle.tile_mesh.specs.declared.point.MeshPoint.{MeshPoint}
use Rattle.tile_mesh.specs.Mesh.{Mesh, mesh_of_grid}
use Rattle.tile_mesh.specs.Numbering.{ArePoints}
use Rattle.tile_mesh.specs.Plane.{triangle_of, triangles_in}
use Rattle.tile_mesh.proofs.MeshNumbers.{numbered_law}
use Rattle.tile_mesh.proofs.VertexHeights.{heights_in_range}
use Rattle.post_bound.specs.Greatest.{greatest_of}
use Rattle.post_bound.specs.Bound.{KeepsBound, post_bound_of}
use Rattle.post_bound.specs.Span.{least_metres, most_metres, or_zero, span_of_extremes, span_of_cell, span_bound_of, IsSpan}
use Rattle.cell_mosaic.specs.Summaries.{summary_of, summaries_of}
use Rattle.post_bound.specs.Rule.{bound_of}
use Rattle.post_bound.specs.Laws.{SpanBoundLaw, SpanKeepsLaw, BoundKeepsLaw}
use Rattle.post_bound.proofs.Among.{all_turning}
use Rattle.post_bound.proofs.Far.{post_touches}
use Rattle.post_bound.proofs.Greatest.{at_least, attained}
use Rattle.post_bound.proofs.Meshes.{of_vertex, nth_triangle, swept_mesh}
use Rattle.post_bound.proofs.Numbers.{post_bound_law, at_one}
use Rattle.post_bound.proofs.Swept.{area_above, surface_near}

-- ---- the least and the greatest vertex
metres_at : (points : List MeshPoint) (point : MeshPoint) → Contains points point → Contains (map (λ p. p.metres) points) point.metres
metres_at points point i = (
  i.0,
  (let lt = i.1 in omega (arith, lt, length-map points (λ (p : MeshPoint). p.metres))),
  get_or-map (λ (p : MeshPoint). p.metres) points i.0 point point.metres i.1 ∙ ap (λ (p : MeshPoint). p.metres) i.2,
)

pub least_of : (points : List MeshPoint) (point : MeshPoint) → Contains points point → least_metres points ≤ℤ point.metres
least_of points point i =
    let metres = map (λ (p : MeshPoint). p.metres) points in
    All-contains (λ z. least_metres points ≤ℤ z) metres point.metres (fold-int_min_bounds (pos 16000) metres (least_metres points) refl).1 (metres_at points point i)

pub most_of : (points : List MeshPoint) (point : MeshPoint) → Contains points point → point.metres ≤ℤ most_metres points
most_of points point i =
    let metres = map (λ (p : MeshPoint). p.metres) points in
    All-contains (λ z. z ≤ℤ most_metres points) metres point.metres (fold-int_max_bounds (pos 0 -ℤ pos 16000) metres (most_metres points) refl).1 (metres_at points point i)

-- a number of metres of the list is that of a vertex
point_of : (points : List MeshPoint) (z : ℤ) → Contains (map (λ p. p.metres) points) z → (point : MeshPoint) × Contains points point × (point.metres ≡ z)
point_of points z i =
    let none : MeshPoint = record { i = 0; j = 0; metres = z } in
    let short : i.0 < length points = let lt = i.1 in omega (arith, lt, length-map points (λ (p : MeshPoint). p.metres)) in
    let point = get_or points i.0 none in
    (point, Contains-get_or points i.0 none short, sym (get_or-map (λ (p : MeshPoint). p.metres) points i.0 none z short) ∙ i.2)

module _ (points : List MeshPoint) (some : 0 < length points) (heights : All (λ p. IsHeight p.metres) points) where
  abbrev first : MeshPoint
  first = get_or points 0 (record { i = 0; j = 0; metres = pos 0 })

  first_in : Contains points first
  first_in = Contains-get_or points 0 (record { i = 0; j = 0; metres = pos 0 }) some

  lowest_is : (point : MeshPoint) × Contains points point × (point.metres ≡ least_metres points)
  lowest_is =
      ⊎_elim
      (λ (e : least_metres points ≡ pos 16000).
      let within = heights 0 (record { i = 0; j = 0; metres = pos 0 }) some in
      let least = least_of points first first_in in
      (first, first_in, omega (arith, ints, e, within.below, least)))
      (λ (i : Contains (map (λ p. p.metres) points) (least_metres points)). point_of points (least_metres points) i)
      (fold-int_min_reached (pos 16000) (map (λ p. p.metres) points) (least_metres points) refl)

  highest_is : (point : MeshPoint) × Contains points point × (point.metres ≡ most_metres points)
  highest_is =
      ⊎_elim
      (λ (e : most_metres points ≡ pos 0 -ℤ pos 16000).
      let within = heights 0 (record { i = 0; j = 0; metres = pos 0 }) some in
      let most = most_of points first first_in in
      (first, first_in, omega (arith, ints, e, within.above, most)))
      (λ (i : Contains (map (λ p. p.metres) points) (most_metres points)). point_of points (most_metres points) i)
      (fold-int_max_reached (pos 0 -ℤ pos 16000) (map (λ p. p.metres) points) (most_metres points) refl)

-- ---- numbers from 0 on
zero_or : (n : ℤ) (b : Bool) → int_le n (pos 0) ≡ b → n ≤ℤ pos (if b then 0 else unsigned_abs n)
zero_or n true e = grind (arith, ints, e)
zero_or n false e = grind (arith, ints, e)

pub or_zero_least : (n : ℤ) → n ≤ℤ pos (or_zero n)
or_zero_least n = zero_or n (int_le n (pos 0)) refl

or_itself : (n : ℤ) (b : Bool) → int_le n (pos 0) ≡ b → ((if b then 0 else unsigned_abs n) ≡ 0) ⊎ (pos (if b then 0 else unsigned_abs n) ≡ n)
or_itself n true e = inl refl
or_itself n false e = inr (grind (arith, ints, e))

pub or_zero_is : (n : ℤ) → (or_zero n ≡ 0) ⊎ (pos (or_zero n) ≡ n)
or_zero_is n = or_itself n (int_le n (pos 0)) refl

-- ---- one cell
span_yes : (tile : TileId) (least most : ℤ) (cell : Summary) → touches_of tile cell.square ≡ true → span_of_cell tile least most cell ≡ span_of_extremes least most cell.extremes
span_yes tile least most cell e = at_one (touches_of tile cell.square) (span_of_extremes least most cell.extremes) e

span_some : (least most : ℤ) (o : Option Extremes) (e : Extremes) → o ≡ Some e → span_of_extremes least most o ≡ span_of_extremes least most (Some e)
span_some least most o e is = ap (span_of_extremes least most) is

-- the greatest span is at least both of a cell that touches the tile
pub span_bounds : (summaries : List Summary) (tile : TileId) (mesh : Mesh) (cell : Summary) (e : Extremes) → Contains summaries cell
    → touches_of tile cell.square ≡ true → cell.extremes ≡ Some e
    → ((e.greatest -ℤ least_metres mesh.points) ≤ℤ pos (span_bound_of summaries tile mesh)) × ((most_metres mesh.points -ℤ e.least) ≤ℤ pos (span_bound_of summaries tile mesh))
unfolding span_bound_of
span_bounds summaries tile mesh cell e i touching is =
    let least = least_metres mesh.points in let most = most_metres mesh.points in
    let within = at_least (span_of_cell tile least most) summaries cell i in
    let span = span_yes tile least most cell touching ∙ span_some least most cell.extremes e is in
    let over = or_zero_least (e.greatest -ℤ least) in let under = or_zero_least (most -ℤ e.least) in
    (omega (arith, ints, within, span, over), omega (arith, ints, within, span, under))

-- ---- the greatest of all
module _ (summaries : List Summary) (tile : TileId) (mesh : Mesh) (some : 0 < length mesh.points) (heights : All (λ p. IsHeight p.metres) mesh.points) where
  keeps_spans : (n : ℤ) → IsSpan summaries tile mesh n → n ≤ℤ pos (span_bound_of summaries tile mesh)
  keeps_spans n s =
      let both = span_bounds summaries tile mesh s.cell s.extremes s.among s.touches s.has in
      let least = least_of mesh.points s.point s.vertex in let most = most_of mesh.points s.point s.vertex in
      ⊎_elim (λ (e : n ≡ s.extremes.greatest -ℤ s.point.metres). omega (arith, ints, e, both.0, least))
      (λ (e : n ≡ s.point.metres -ℤ s.extremes.least). omega (arith, ints, e, both.1, most)) s.is

  of_cell : (cell : Summary) (b : Bool) (o : Option Extremes) → Contains summaries cell → touches_of tile cell.square ≡ b → cell.extremes ≡ o → (n : ℕ)
      → n ≡ (if b then span_of_extremes (least_metres mesh.points) (most_metres mesh.points) o else 0) → (n ≡ 0) ⊎ IsSpan summaries tile mesh (pos n)
  of_cell cell false o i touching is n e = inl e
  of_cell cell true None i touching is n e = inl e
  of_cell cell true (Some extremes) i touching is n e =
      let least = least_metres mesh.points in let most = most_metres mesh.points in
      let low = lowest_is mesh.points some heights in let high = highest_is mesh.points some heights in
      let over = or_zero (extremes.greatest -ℤ least) in let under = or_zero (most -ℤ extremes.least) in
      ⊎_elim
      (λ (is_over : max over under ≡ over). ⊎_elim
      (λ (none : over ≡ 0). inl (e ∙ is_over ∙ none))
      (λ (whole : pos over ≡ extremes.greatest -ℤ least). inr (record {
        cell = cell;
        point = low.0;
        extremes = extremes;
        among = i;
        vertex = low.1;
        touches = touching;
        has = is;
        is = inl (ap pos (e ∙ is_over) ∙ whole ∙ ap (λ z. extremes.greatest -ℤ z) (sym low.2));
      })) (or_zero_is (extremes.greatest -ℤ least)))
      (λ (is_under : max over under ≡ under). ⊎_elim
      (λ (none : under ≡ 0). inl (e ∙ is_under ∙ none))
      (λ (whole : pos under ≡ most -ℤ extremes.least). inr (record {
        cell = cell;
        point = high.0;
        extremes = extremes;
        among = i;
        vertex = high.1;
        touches = touching;
        has = is;
        is = inr (ap pos (e ∙ is_under) ∙ whole ∙ ap (λ z. z -ℤ extremes.least) (sym high.2));
      })) (or_zero_is (most -ℤ extremes.least)))
      (max_is_one over under)

  attained_span : (span_bound_of summaries tile mesh ≡ 0) ⊎ IsSpan summaries tile mesh (pos (span_bound_of summaries tile mesh))
  unfolding span_bound_of
  attained_span =
      let spans = span_of_cell tile (least_metres mesh.points) (most_metres mesh.points) in
      ⊎_elim (λ (e : greatest_of spans summaries ≡ 0). inl e)
      (λ (w : (cell : Summary) × Contains summaries cell × (greatest_of spans summaries ≡ spans cell)).
      of_cell w.0 (touches_of tile w.0.square) w.0.extremes w.1 refl refl (greatest_of spans summaries) w.2)
      (attained spans summaries)

pub span_bound_law : SpanBoundLaw
span_bound_law summaries tile grid z in_range =
    let mesh = mesh_of_grid grid z in
    let numbered = numbered_law grid z in
    let heights = heights_in_range z mesh (record { grid = grid; in_range = in_range; mesh = refl }) in record {
      keeps = keeps_spans summaries tile mesh numbered.some heights;
      attained = attained_span summaries tile mesh numbered.some heights;
    }

-- ---- a post's cell among the summaries
one_found : (key : CellKey) (bytes : List ℕ) (x : CellKey × List ℕ) (es : List (CellKey × List ℕ)) → (find key_cmp key es ≡ Some bytes → Contains es (key, bytes))
    → (b : Bool) → eq_by_cmp key_cmp key x.0 ≡ b → cond b (Some x.1) (find key_cmp key es) ≡ Some bytes → Contains (x ∷ es) (key, bytes)
one_found key bytes x es rest true same is =
    let first : key ≡ x.0 = tells_apart keys_exact key x.0 same in
    let second : x.1 ≡ bytes = cc in
    (0, omega arith, λ i. (sym first i, second i))
one_found key bytes x es rest false same is = let r = rest is in (suc r.0, (let lt = r.1 in omega (arith, lt)), r.2)

found : (key : CellKey) (bytes : List ℕ) (es : List (CellKey × List ℕ)) → find key_cmp key es ≡ Some bytes → Contains es (key, bytes)
found key bytes [] e = absurd (cc)
found key bytes (x ∷ es) e = one_found key bytes x es (found key bytes es) (eq_by_cmp key_cmp key x.0) refl e

in_map : {A B : Type 0} (f : A → B) (xs : List A) (x : A) → Contains xs x → Contains (map f xs) (f x)
in_map f xs x i = (i.0, (let lt = i.1 in omega (arith, lt, length-map xs f)), get_or-map f xs i.0 x (f x) i.1 ∙ ap f i.2)

pub summary_among : (cells : Cells) (key : CellKey) (bytes : List ℕ) → get cells key ≡ Some bytes → Contains (summaries_of cells) (summary_of key bytes)
summary_among cells key bytes is =
    in_map (λ (e : CellKey × List ℕ). summary_of e.0 e.1) (entries cells) (key, bytes) (found key bytes (entries cells) (sym (get-entries cells key) ∙ is))

pub record OfBytes (cell : Option (List ℕ)) (col row : ℕ) (metres : ℤ) : Type 0 where
  pub bytes : List ℕ
  pub cell_is : cell ≡ Some bytes
  pub post : post_in bytes col row ≡ Metres metres

of_bytes : (cell : Option (List ℕ)) (col row : ℕ) (metres : ℤ) → post_or_void cell col row ≡ Metres metres → OfBytes cell col row metres
of_bytes None col row metres e = let differs : Void ≡ Metres metres = e in absurd (cc)
of_bytes (Some bytes) col row metres e = record { bytes = bytes; cell_is = refl; post = e }

-- a post lies between its cell's extremes
pub record Between (extremes : Option Extremes) (metres : ℤ) : Type 0 where
  pub of : Extremes
  pub is : extremes ≡ Some of
  pub least : of.least ≤ℤ metres
  pub greatest : metres ≤ℤ of.greatest

between_of : (bytes : List ℕ) (metres : ℤ) (o : Option Extremes) → o ≡ extremes_in bytes → HasHeight bytes metres → Between o metres
between_of bytes metres None e has =
    let all_void = (no_extremes bytes None e).0 refl in
    let differs : Void ≡ Metres metres = sym (all_void has.0 has.1 has.2 has.3) ∙ has.4 in absurd (cc)
between_of bytes metres (Some of) e has =
    let bounds = bounding bytes (Some of) e in
    let both = bounds.between metres has in
    record { of = of; is = refl; least = both.0; greatest = both.1 }

has_height : (key : CellKey) (bytes : List ℕ) (col row : ℕ) (metres : ℤ) → IsCellAt key bytes → col < columns_of key.square key.level → row < rows_of key.level
    → post_in bytes col row ≡ Metres metres → HasHeight bytes metres
unfolding columns_in rows_in
has_height key bytes col row metres cell in_col in_row post = (
  col,
  row,
  subst (λ q. col < columns_of q (level_in bytes)) (sym cell.square) (subst (λ l. col < columns_of key.square l) (sym cell.level) in_col),
  subst (λ l. row < rows_of l) (sym cell.level) in_row,
  post,
)

-- ---- the surface lies between its vertices
span_near : (lift area low high least greatest n metres : ℤ) → pos 0 <ℤ area → (low *ℤ area) ≤ℤ lift → lift ≤ℤ (high *ℤ area)
    → (greatest -ℤ low) ≤ℤ n → (high -ℤ least) ≤ℤ n → least ≤ℤ metres → metres ≤ℤ greatest
    → pos (unsigned_abs (lift -ℤ metres *ℤ area)) ≤ℤ (n *ℤ area)
span_near lift area low high least greatest n metres above from to over under least_is greatest_is =
    let room_over = times_nonneg (n -ℤ (high -ℤ metres)) area (omega (arith, ints, under, least_is)) (weaken above) in
    let room_under = times_nonneg (n -ℤ (metres -ℤ low)) area (omega (arith, ints, over, greatest_is)) (weaken above) in
    let spread_over = by_ring (mul (sub (var 0) (sub (var 1) (var 2))) (var 3)) (sub (mul (var 0) (var 3)) (sub (mul (var 1) (var 3)) (mul (var 2) (var 3))))
    (n ∷ high ∷ metres ∷ area ∷ []) refl in
    let spread_under = by_ring (mul (sub (var 0) (sub (var 1) (var 2))) (var 3)) (sub (mul (var 0) (var 3)) (sub (mul (var 1) (var 3)) (mul (var 2) (var 3))))
    (n ∷ metres ∷ low ∷ area ∷ []) refl in
    size_of_near (lift -ℤ metres *ℤ area) (n *ℤ area) (omega (arith, ints, to, room_over, spread_over)) (omega (arith, ints, from, room_under, spread_under))

-- where all corners are from low to high metres, a post from least to greatest metres is at most n from the surface
pub span_law : (ts : List Tri) (low high least greatest n s u v metres : ℤ) → pos 1 ≤ℤ s → All IsCounterClockwise ts
    → All (AreHeightsWithin low high) ts → (greatest -ℤ low) ≤ℤ n → (high -ℤ least) ≤ℤ n
    → least ≤ℤ metres → metres ≤ℤ greatest → IsSurfaceNear ts s u v metres n
span_law ts low high least greatest n s u v metres one turning within over_is under_is least_is greatest_is over under surface =
    let shown = surface.shown in
    let t = shown.1 in
    let among : Contains ts t = (shown.0, shown.2, shown.3) in
    let area = area_above ts t s one turning among in
    let heights : AreHeightsWithin low high t = subst (AreHeightsWithin low high) among.2 (within among.0 t among.1) in
    let lift = surface_law.between t s u v low high heights shown.4.0 in
    surface_near t s u v over under metres n area surface.above_zero shown.4.1
    (span_near (lift_of t s u v) (gap_under t s) low high least greatest n metres area lift.0 lift.1 over_is under_is least_is greatest_is)

corners_within : (mesh : Mesh) → All (ArePoints (length mesh.points)) mesh.triangles → All (AreHeightsWithin (least_metres mesh.points) (most_metres mesh.points)) (triangles_in mesh)
corners_within mesh numbers k d h =
    let low = least_metres mesh.points in let high = most_metres mesh.points in
    let none : Indexes = record { a = 0; b = 0; c = 0 } in
    let long : k < length mesh.triangles = subst (λ (n : ℕ). k < n) (length-map mesh.triangles (triangle_of mesh.points)) h in
    let same = nth_triangle mesh.points mesh.triangles k d none long in
    let is = numbers k none long in
    let within : All (λ p. (low ≤ℤ p.metres) × (p.metres ≤ℤ high)) mesh.points =
    λ i e lt. (least_of mesh.points _ (Contains-get_or mesh.points i e lt), most_of mesh.points _ (Contains-get_or mesh.points i e lt)) in
    let at = λ (n : ℕ) (lt : n < length mesh.points). of_vertex (λ p. (low ≤ℤ p.metres) × (p.metres ≤ℤ high)) mesh.points within n lt in
    subst (AreHeightsWithin low high) (sym same) (record { a = at _ is.a; b = at _ is.b; c = at _ is.c })

pub span_keeps_law : SpanKeepsLaw
span_keeps_law cells tile grid z sound in_range =
    let mesh = mesh_of_grid grid z in
    let swept = swept_mesh z mesh (record { grid = grid; in_range = in_range; mesh = refl }) in
    let turning = all_turning (triangles_in mesh) swept.triangles in record {
      near = λ u v metres h.
          let p = h.post in
          let of = of_bytes (get cells h.key) p.col p.row metres p.height in
          let cell = (sound h.key of.bytes of.cell_is).cell in
          let between = between_of of.bytes metres (extremes_in of.bytes) refl (has_height h.key of.bytes p.col p.row metres cell p.in_col p.in_row of.post) in
          let touching = post_touches cells tile h.key h.turns u v metres p (pow_pos tile.z) in
          let both = span_bounds (summaries_of cells) tile mesh (summary_of h.key of.bytes) between.of (summary_among cells h.key of.bytes of.cell_is) touching between.is in
          span_law (triangles_in mesh) (least_metres mesh.points) (most_metres mesh.points) between.of.least between.of.greatest (pos (span_bound_of (summaries_of cells) tile mesh))
          (pos 648000) u v metres (omega (arith, ints)) turning (corners_within mesh swept.numbers) both.0 both.1 between.least between.greatest;
    }

-- ---- at every level
by_level : (b : Bool) (cells : Cells) (tile : TileId) (ts : List Tri) (below above : ℕ) → KeepsBound cells tile ts below → KeepsBound cells tile ts above
    → KeepsBound cells tile ts (if b then below else above)
by_level true cells tile ts below above p q = p
by_level false cells tile ts below above p q = q

pub bound_keeps_law : BoundKeepsLaw
unfolding bound_of
bound_keeps_law cells tile grid sound in_range =
    let mesh = mesh_of_grid grid tile.z in
    let swept = swept_mesh tile.z mesh (record { grid = grid; in_range = in_range; mesh = refl }) in
    by_level (nat_lt tile.z 8) cells tile (triangles_in mesh) (span_bound_of (summaries_of cells) tile mesh) (post_bound_of cells tile mesh)
    (span_keeps_law cells tile grid tile.z sound in_range) (post_bound_law cells tile mesh swept.triangles).keeps
