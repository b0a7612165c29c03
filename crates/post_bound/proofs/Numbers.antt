-- The greatest gap at all posts of the cells that touch a tile is the bound.
use Rattle.std.proofs.Common.{◌≡◌, ℕ, ◌≤◌, ◌<◌, Bool, true, false, ◌&&◌, cond, arith, refl, sym, subst, ap, ◌∙◌, List, [], ◌∷◌, Option, Some, None, is_some}
use Rattle.std.specs.Prelude.{ℤ, pos, negsuc, ◌+ℤ◌, ◌-ℤ◌, ◌*ℤ◌, ◌≤ℤ◌, ◌<ℤ◌, unsigned_abs, All, Contains, if◌then◌else◌}
use Rattle.std.specs.FinMap.{get, keys, get-retain_keys, contains_key-keys}
use Rattle.std.proofs.lemmas.Int.{ints, by_lt_z}
use Rattle.std.proofs.lemmas.Nat.{pow_pos}
use Rattle.std.proofs.lemmas.List.Elements.{All-contains}
use Rattle.std.proofs.lemmas.Map.Views.{tells_apart, Contains-from_any}
use Rattle.common_laws.proofs.Orders.{test_from_at_most, at_most_from_test}
use Rattle.polynomial.proofs.Expressions.{var, num, sub, add, mul}
use Rattle.polynomial.proofs.NormalForm.{by_ring}
use Rattle.polynomial.proofs.Signs.{times_nonneg, factor_nonneg, weaken}
use Rattle.terrain_base.specs.declared.cell_key.CellKey.{CellKey}
use Rattle.terrain_base.specs.declared.tile.TileId.{TileId}
use Rattle.terrain_base.specs.declared.post.Post.{Post}
use Rattle.terrain_base.specs.declared.post.Post.TheVariants.{Void, Metres}
use Rattle.terrain_base.specs.Division.{ceil_of}
use Rattle.terrain_base.specs.Level.{rows_of, columns_of}
use Rattle.terrain_base.proofs.KeyOrder.{keys_exact}
use Rattle.terrain_base.proofs.Quotients.{ceil_is}
use Rattle.tms_tree.specs.Touch.{touches_of}
use Rattle.cell_mosaic.specs.Cells.{Cells, post_at, post_or_void}
use Rattle.mesh_plane.specs.declared.corner.Tri.{Tri}
use Rattle.mesh_plane.specs.Plane.{TriangleHolds, IsTilePoint}
use Rattle.mesh_plane.specs.Surface.{Surface, lift_of, gap_over, gap_under}
use Rattle.mesh_plane.specs.SurfaceLaw.{IsTriIn}
use Rattle.mesh_plane.specs.Fan.{Rect}
use Rattle.mesh_plane.proofs.SurfaceLaws.{surface_law}
use Rattle.tile_mesh.specs.Mesh.{Mesh}
use Rattle.tile_mesh.specs.Plane.{triangles_in}
use Rattle.lattice_sweep.specs.Plane.{IsTerrainTri}
use Rattle.lattice_sweep.proofs.Bounds.{grown as more}
use Rattle.post_bound.specs.Posts.{seconds_east, seconds_north, across, along, IsPostOf, HasPostAt}
use Rattle.post_bound.specs.Greatest.{greatest_of, greatest_below}
use Rattle.post_bound.specs.Bound.{KeepsBound, near, is_held, gap_at, gap_of_post, gap_of_cell, post_bound_of}
use Rattle.post_bound.specs.Laws.{PostBoundLaw}
use Rattle.post_bound.proofs.Among.{all_turning, natural}
use Rattle.post_bound.proofs.Far.{one_turn, post_touches}
use Rattle.post_bound.proofs.Greatest.{at_least, at_most, below_least, below_most}
use Rattle.post_bound.proofs.Swept.{area_above, surface_near}

-- ---- quotients rounded up
pub ceil_enough : (over under : ℤ) → pos 0 ≤ℤ over → pos 0 <ℤ under → over ≤ℤ (pos (unsigned_abs (ceil_of over under)) *ℤ under)
ceil_enough over under h p =
    let q = ceil_of over under in
    let is = ceil_is over under p in
    let least = factor_nonneg under q p (omega (arith, ints, h, is.high, by_ring (mul (var 0) (var 1)) (mul (var 1) (var 0)) (under ∷ q ∷ []) refl)) in
    subst (λ (z : ℤ). over ≤ℤ (z *ℤ under)) (sym (natural q least)) is.high

pub ceil_within : (over under : ℤ) (n : ℕ) → pos 0 ≤ℤ over → pos 0 <ℤ under → over ≤ℤ (pos n *ℤ under) → unsigned_abs (ceil_of over under) ≤ n
ceil_within over under n h p l =
    let q = ceil_of over under in
    let is = ceil_is over under p in
    let least = factor_nonneg under q p (omega (arith, ints, h, is.high, by_ring (mul (var 0) (var 1)) (mul (var 1) (var 0)) (under ∷ q ∷ []) refl)) in
    by_lt_z (pos n) q
    (λ beyond. absurd (omega (
      arith,
      ints,
      l,
      is.low,
      times_nonneg (q -ℤ (pos n +ℤ pos 1)) under (omega (arith, ints, beyond)) (weaken p),
      by_ring (mul (sub (var 0) (add (var 1) (num 1))) (var 2)) (sub (mul (var 0) (var 2)) (add (mul (var 1) (var 2)) (var 2))) (q ∷ pos n ∷ under ∷ []) refl,
    )))
    (λ most. omega (arith, ints, most, natural q least))

-- ---- whether a triangle holds a point
both : (a b c : Bool) → a ≡ true → b ≡ true → c ≡ true → (a && (b && c)) ≡ true
both true true c p q r = r
both true false c p q r = q
both false b c p q r = p

parts : (a b c : Bool) → (a && (b && c)) ≡ true → (a ≡ true) × (b ≡ true) × (c ≡ true)
parts true true c e = (refl, refl, e)
parts true false c e = absurd (cc)
parts false b c e = absurd (cc)

pub held_yes : (u v : ℤ) (t : Tri) → TriangleHolds (pos 648000) u v t → is_held u v t ≡ true
held_yes u v t h = both _ _ _ (test_from_at_most _ _ h.ab) (test_from_at_most _ _ h.bc) (test_from_at_most _ _ h.ca)

pub held_holds : (u v : ℤ) (t : Tri) → is_held u v t ≡ true → TriangleHolds (pos 648000) u v t
held_holds u v t e =
    let p = parts _ _ _ e in
    record { ab = at_most_from_test _ _ p.0; bc = at_most_from_test _ _ p.1; ca = at_most_from_test _ _ p.2 }

pub at_one : (b : Bool) (n : ℕ) → b ≡ true → (if b then n else 0) ≡ n
at_one true n e = refl
at_one false n e = absurd (cc)

at_each : (b : Bool) (n m : ℕ) → (b ≡ true → n ≤ m) → (if b then n else 0) ≤ m
at_each true n m h = h refl
at_each false n m h = omega arith

-- ---- a triangle on the tile holds points of the tile alone
abbrev whole_tile : Rect
whole_tile = record { west = pos 0; south = pos 0; east = pos 32767; north = pos 32767 }

pub held_inside : (t : Tri) (u v : ℤ) → IsTerrainTri t → TriangleHolds (pos 648000) u v t → IsTilePoint (pos 648000) u v
held_inside t u v is h =
    let on = is.on_tile in
    let within : IsTriIn whole_tile t = record {
      a = record { west = on.a.west; south = on.a.south; east = on.a.east; north = on.a.north };
      b = record { west = on.b.west; south = on.b.south; east = on.b.east; north = on.b.north };
      c = record { west = on.c.west; south = on.c.south; east = on.c.east; north = on.c.north };
    } in
    let box = surface_law.box whole_tile t (pos 648000) u v is.counter_clockwise within h in
    record { west = box.west; east = omega (arith, ints, box.east); south = box.south; north = omega (arith, ints, box.north) }

-- ---- the cells that touch the tile
module _ (cells : Cells) (tile : TileId) where
  pub near_cell : (key : CellKey) → get (near tile cells) key ≡ cond (touches_of tile key.square) (get cells key) None
  near_cell key =
      get-retain_keys cells (λ k. touches_of tile k.square) key (λ x e. ap (λ (k : CellKey). touches_of tile k.square) (sym (keys_exact key x e)))

  same_post : (key : CellKey) (b : Bool) (col row : ℕ) → b ≡ true → get (near tile cells) key ≡ cond b (get cells key) None
      → post_at (near tile cells) key col row ≡ post_at cells key col row
  same_post key true col row e is = ap (λ o. post_or_void o col row) is
  same_post key false col row e is = absurd (cc)

  -- they have the same posts
  pub near_post : (key : CellKey) (col row : ℕ) → touches_of tile key.square ≡ true → post_at (near tile cells) key col row ≡ post_at cells key col row
  near_post key col row e = same_post key (touches_of tile key.square) col row e (near_cell key)

  metres_of : (key : CellKey) (b : Bool) (col row : ℕ) (metres : ℤ) → get (near tile cells) key ≡ cond b (get cells key) None
      → post_at (near tile cells) key col row ≡ Metres metres → post_at cells key col row ≡ Metres metres
  metres_of key true col row metres is e = sym (ap (λ o. post_or_void o col row) is) ∙ e
  metres_of key false col row metres is e =
      let none : post_at (near tile cells) key col row ≡ Void = ap (λ o. post_or_void o col row) is in
      let differs : Void ≡ Metres metres = sym none ∙ e in absurd (cc)

  pub near_metres : (key : CellKey) (col row : ℕ) (metres : ℤ) → post_at (near tile cells) key col row ≡ Metres metres → post_at cells key col row ≡ Metres metres
  near_metres key col row metres e = metres_of key (touches_of tile key.square) col row metres (near_cell key) e

is_held_cell : (o : Option (List ℕ)) (col row : ℕ) (metres : ℤ) → post_or_void o col row ≡ Metres metres → is_some o ≡ true
is_held_cell None col row metres e = let differs : Void ≡ Metres metres = e in absurd (cc)
is_held_cell (Some bytes) col row metres e = refl

pub key_among : (cells : Cells) (key : CellKey) (col row : ℕ) (metres : ℤ) → post_at cells key col row ≡ Metres metres → Contains (keys cells) key
key_among cells key col row metres e =
    Contains-from_any (tells_apart keys_exact) key (keys cells) (sym (contains_key-keys cells key) ∙ is_held_cell (get cells key) col row metres e)

three_turns : (turns : ℤ) → (pos 0 -ℤ pos 1) ≤ℤ turns → turns ≤ℤ pos 1 → Contains (negsuc 0 ∷ pos 0 ∷ pos 1 ∷ []) turns
three_turns turns least most =
    by_lt_z turns (pos 0)
    (λ west. (0, omega arith, let e : negsuc 0 ≡ turns = omega (arith, ints, west, least) in e))
    (λ here. by_lt_z turns (pos 1)
    (λ mid. (1, omega arith, let e : pos 0 ≡ turns = omega (arith, ints, mid, here) in e))
    (λ east. (2, omega arith, let e : pos 1 ≡ turns = omega (arith, ints, east, most) in e)))

-- ---- the bound
module _ (cells : Cells) (tile : TileId) (mesh : Mesh) (all : All IsTerrainTri (triangles_in mesh)) where
  abbrev ts : List Tri
  ts = triangles_in mesh

  abbrev rest : Cells
  rest = near tile cells

  abbrev bound : ℕ
  bound = greatest_of (gap_of_cell tile ts rest) (keys rest)

  terrain : (t : Tri) → Contains ts t → IsTerrainTri t
  terrain t i = All-contains IsTerrainTri ts t all i

  over_least : (t : Tri) (u v metres : ℤ) → pos 0 ≤ℤ gap_over t (pos 648000) u v metres
  over_least t u v metres = omega (arith, ints)

  -- the gap at a triangle that holds the post is at most the greatest
  gap_within : (key : CellKey) (turns u v metres : ℤ) (t : Tri) → IsPostOf cells tile key turns u v metres → Contains ts t → gap_at u v metres t ≤ bound
  gap_within key turns u v metres t p i =
      let col = p.col in let row = p.row in
      let touching = post_touches cells tile key turns u v metres p (pow_pos tile.z) in
      let post : post_at rest key col row ≡ Metres metres = near_post cells tile key col row touching ∙ p.height in
      let near_turns = one_turn cells tile key turns u v metres p (pow_pos tile.z) key.square.lon_in_range tile.x_in_range in
      let at = λ (turn : ℤ). greatest_of (gap_at (across tile (seconds_east key col) turn) (along tile (seconds_north key row)) metres) ts in
      let of_triangle : gap_at (across tile (seconds_east key col) turns) (along tile (seconds_north key row)) metres t ≤ at turns =
      at_least (gap_at (across tile (seconds_east key col) turns) (along tile (seconds_north key row)) metres) ts t i in
      let of_turn : at turns ≤ gap_of_post tile ts key col row (Metres metres) =
      at_least at (negsuc 0 ∷ pos 0 ∷ pos 1 ∷ []) turns (three_turns turns near_turns.0 near_turns.1) in
      let of_row : gap_of_post tile ts key col row (post_at rest key col row)
      ≤ greatest_below (rows_of key.level) (λ r. gap_of_post tile ts key col r (post_at rest key col r)) =
      below_least (rows_of key.level) (λ r. gap_of_post tile ts key col r (post_at rest key col r)) row p.in_row in
      let of_col : greatest_below (rows_of key.level) (λ r. gap_of_post tile ts key col r (post_at rest key col r)) ≤ gap_of_cell tile ts rest key =
      below_least (columns_of key.square key.level) (λ c. greatest_below (rows_of key.level) (λ r. gap_of_post tile ts key c r (post_at rest key c r))) col p.in_col in
      let of_cell : gap_of_cell tile ts rest key ≤ bound = at_least (gap_of_cell tile ts rest) (keys rest) key (key_among rest key col row metres post) in
      let at_post : gap_of_post tile ts key col row (Metres metres) ≤ bound =
      subst (λ (q : Post). gap_of_post tile ts key col row q ≤ bound) post (omega (arith, of_row, of_col, of_cell)) in
      subst (λ (x : ℤ). gap_at x v metres t ≤ bound) (sym p.east)
      (subst (λ (y : ℤ). gap_at (across tile (seconds_east key col) turns) y metres t ≤ bound) (sym p.north) (omega (arith, of_triangle, of_turn, at_post)))

  keeps_greatest : KeepsBound cells tile ts bound
  keeps_greatest = record {
    near = λ u v metres h over under s.
        let a = s.shown in
        let t = a.1 in
        let among : Contains ts t = (a.0, a.2, a.3) in
        let area = area_above ts t (pos 648000) (omega (arith, ints)) (all_turning ts all) among in
        let whole = unsigned_abs (ceil_of (gap_over t (pos 648000) u v metres) (gap_under t (pos 648000))) in
        let least : whole ≤ bound =
        subst (λ (n : ℕ). n ≤ bound) (at_one (is_held u v t) whole (held_yes u v t a.4.0)) (gap_within h.key h.turns u v metres t h.post among) in
        let enough = ceil_enough (gap_over t (pos 648000) u v metres) (gap_under t (pos 648000)) (over_least t u v metres) area in
        let raised = more (unsigned_abs (lift_of t (pos 648000) u v -ℤ metres *ℤ gap_under t (pos 648000))) whole bound (gap_under t (pos 648000)) (weaken area) least enough in
        surface_near t (pos 648000) u v over under metres (pos bound) area s.above_zero a.4.1 raised;
  }

  -- and a bound that is kept is at least each gap
  module _ (n : ℕ) (k : KeepsBound cells tile ts n) where
    at_triangle : (key : CellKey) (col row : ℕ) (turns metres : ℤ) (t : Tri) → col < columns_of key.square key.level → row < rows_of key.level
        → post_at cells key col row ≡ Metres metres → Contains ts t
        → gap_at (across tile (seconds_east key col) turns) (along tile (seconds_north key row)) metres t ≤ n
    at_triangle key col row turns metres t in_col in_row post i =
        let u = across tile (seconds_east key col) turns in let v = along tile (seconds_north key row) in
        let over = gap_over t (pos 648000) u v metres in let under = gap_under t (pos 648000) in
        at_each (is_held u v t) (unsigned_abs (ceil_of over under)) n (λ yes.
        let holds = held_holds u v t yes in
        let area = area_above ts t (pos 648000) (omega (arith, ints)) (all_turning ts all) i in
        let has : HasPostAt cells tile u v metres = record {
          key = key;
          turns = turns;
          post = record {
            col = col;
            row = row;
            in_col = in_col;
            in_row = in_row;
            height = post;
            east = refl;
            north = refl;
            inside = held_inside t u v (terrain t i) holds;
          };
        } in
        let here : Surface ts (pos 648000) u v (lift_of t (pos 648000) u v) under = record {
          above_zero = area;
          shown = (i.0, t, i.1, i.2, (holds, refl));
        } in
        ceil_within over under n (over_least t u v metres) area (k.near u v metres has (lift_of t (pos 648000) u v) under here))

    at_post : (key : CellKey) (col row : ℕ) (post : Post) → col < columns_of key.square key.level → row < rows_of key.level
        → post_at rest key col row ≡ post → gap_of_post tile ts key col row post ≤ n
    at_post key col row Void in_col in_row is = omega arith
    at_post key col row (Metres metres) in_col in_row is =
        at_most (λ turn. greatest_of (gap_at (across tile (seconds_east key col) turn) (along tile (seconds_north key row)) metres) ts) n (negsuc 0 ∷ pos 0 ∷ pos 1 ∷ [])
        (λ turn there. at_most (gap_at (across tile (seconds_east key col) turn) (along tile (seconds_north key row)) metres) n ts
        (λ t i. at_triangle key col row turn metres t in_col in_row (near_metres cells tile key col row metres is) i))

    least_greatest : bound ≤ n
    least_greatest =
        at_most (gap_of_cell tile ts rest) n (keys rest) (λ key there.
        below_most (columns_of key.square key.level) (λ c. greatest_below (rows_of key.level) (λ r. gap_of_post tile ts key c r (post_at rest key c r))) n
        (λ col in_col. below_most (rows_of key.level) (λ r. gap_of_post tile ts key col r (post_at rest key col r)) n
        (λ row in_row. at_post key col row (post_at rest key col row) in_col in_row refl)))

pub post_bound_law : PostBoundLaw
unfolding post_bound_of
post_bound_law cells tile mesh all = record {
  keeps = keeps_greatest cells tile mesh all;
  least = λ n k. least_greatest cells tile mesh all n k;
}
