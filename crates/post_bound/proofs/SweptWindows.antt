-- What a window sweeps is what the definition says of its posts.
use Rattle.std.proofs.Common.{◌≡◌, ℕ, ◌+◌, ◌*◌, ◌^◌, ◌≤◌, ◌<◌, arith, sym, ap, ◌∙◌, subst, List, length}
use Rattle.std.specs.Prelude.{ℤ, pos, ◌+ℤ◌, ◌-ℤ◌, ◌*ℤ◌, ◌≤ℤ◌}
use Rattle.std.proofs.lemmas.Int.{ints}
use Rattle.terrain_base.specs.declared.cell_key.CellKey.{CellKey}
use Rattle.terrain_base.specs.declared.tile.TileId.{TileId}
use Rattle.terrain_base.specs.Level.{lat_step_of, lon_step_of}
use Rattle.cell_mosaic.specs.Cells.{Cells}
use Rattle.mesh_plane.specs.declared.corner.Tri.{Tri}
use Rattle.lattice_sweep.specs.declared.axis.Axis.{Axis}
use Rattle.lattice_sweep.specs.Axis.{point_of, Has, IsCut}
use Rattle.lattice_sweep.specs.Sweep.{HeldGap}
use Rattle.post_bound.specs.Posts.{seconds_east, seconds_north, across, along}
use Rattle.post_bound.specs.Window.{WindowGap, OfTriangles, AreColumns, AreRows, WindowLaw}
use Rattle.post_bound.proofs.Swept.{coarse}

module _ (cells : Cells) (tile : TileId) (ts : List Tri) (key : CellKey) (turns : ℤ) (deep : 6 ≤ tile.z)
    (east north e n : Axis) (columns : AreColumns tile key turns east) (rows : AreRows tile key north)
    (c : IsCut east (pos 0) (pos 331765875) e) (d : IsCut north (pos 0) (pos 331765875) n) where
  -- the definition's place is 64 times the axis' point
  across_is : (col : ℕ) → across tile (seconds_east key col) turns ≡ pos 64 *ℤ point_of east col
  across_is col =
      let step = lon_step_of key.square key.level in
      let x = pos (3600 * key.square.lon + col * step) +ℤ turns *ℤ pos 1296000 in
      let y = (pos (3600 * key.square.lon) +ℤ turns *ℤ pos 1296000) +ℤ pos (col * step) in
      let same : x ≡ y = omega (arith, ints) in
      ap (λ (z : ℤ). (z *ℤ pos (2 ^ tile.z) -ℤ pos (648000 * tile.x)) *ℤ pos 32767) same
      ∙ coarse y tile.z tile.x deep ∙ ap (λ (z : ℤ). pos 64 *ℤ z) (sym (columns.points col))

  along_is : (row : ℕ) → along tile (seconds_north key row) ≡ pos 64 *ℤ point_of north row
  along_is row =
      let step = lat_step_of key.level in
      let x = pos (3600 * key.square.lat + row * step) in
      let y = pos (3600 * key.square.lat) +ℤ pos (row * step) in
      let same : x ≡ y = omega (arith, ints) in
      ap (λ (z : ℤ). (z *ℤ pos (2 ^ tile.z) -ℤ pos (648000 * tile.y)) *ℤ pos 32767) same
      ∙ coarse y tile.z tile.y deep ∙ ap (λ (z : ℤ). pos 64 *ℤ z) (sym (rows.points row))

  cancel : (x y : ℤ) → pos 64 *ℤ x ≡ pos 64 *ℤ y → x ≡ y
  cancel x y h = omega (arith, ints, h)

  small : (u : ℤ) → pos 0 ≤ℤ (pos 64 *ℤ u) → (pos 64 *ℤ u) ≤ℤ (pos 32767 *ℤ pos 648000) → (pos 0 ≤ℤ u) × (u ≤ℤ pos 331765875)
  small u h k = (omega (arith, ints, h), omega (arith, ints, k))

  large : (u : ℤ) → pos 0 ≤ℤ u → u ≤ℤ pos 331765875 → (pos 0 ≤ℤ (pos 64 *ℤ u)) × ((pos 64 *ℤ u) ≤ℤ (pos 32767 *ℤ pos 648000))
  large u h k = (omega (arith, ints, h), omega (arith, ints, k))

  -- each gap that was swept is the definition's
  pub swept_gap : (gap : ℕ) (under : ℤ) → OfTriangles cells key ts e n (length ts) gap under → WindowGap cells tile ts key turns gap under
  swept_gap gap under i =
      let w = i.here.at in let col = w.col in let row = w.row in
      let hc = (c.numbers col).0 w.has_col in let hr = (d.numbers row).0 w.has_row in
      let u = point_of east col in let v = point_of north row in
      let lu = large u hc.1.0 hc.1.1 in let lv = large v hr.1.0 hr.1.1 in
      let at : HeldGap cells key col row i.tri u v gap =
      subst (λ (x : ℤ). HeldGap cells key col row i.tri x v gap) (c.points col)
      (subst (λ (y : ℤ). HeldGap cells key col row i.tri (point_of e col) y gap) (d.points row) w.here) in record {
        tri = i.tri;
        u = u;
        v = v;
        metres = at.metres;
        among = (i.index, i.has, i.is);
        post = record {
          col = col;
          row = row;
          in_col = subst (λ (k : ℕ). col < k) columns.to hc.0.to;
          in_row = subst (λ (k : ℕ). row < k) rows.to hr.0.to;
          height = at.post;
          east = sym (across_is col);
          north = sym (along_is row);
          inside = record { west = lu.0; east = lu.1; south = lv.0; north = lv.1 };
        };
        held = at.held;
        area = i.here.area;
        size = at.size;
      }

  -- and each of the definition's gaps was swept
  pub gap_swept : (gap : ℕ) (under : ℤ) → WindowGap cells tile ts key turns gap under → OfTriangles cells key ts e n (length ts) gap under
  gap_swept gap under w =
      let p = w.post in let col = p.col in let row = p.row in
      let eu : w.u ≡ point_of east col = cancel w.u (point_of east col) (p.east ∙ across_is col) in
      let ev : w.v ≡ point_of north row = cancel w.v (point_of north row) (p.north ∙ along_is row) in
      let su = small w.u p.inside.west p.inside.east in let sv = small w.v p.inside.south p.inside.north in
      let in_col : col < east.to = subst (λ (k : ℕ). col < k) (sym columns.to) p.in_col in
      let in_row : row < north.to = subst (λ (k : ℕ). row < k) (sym rows.to) p.in_row in
      let hc : Has e col = (c.numbers col).1 (
        record { from = omega (arith, columns.from); to = in_col },
        (subst (λ (z : ℤ). pos 0 ≤ℤ z) eu su.0, subst (λ (z : ℤ). z ≤ℤ pos 331765875) eu su.1),
      ) in
      let hr : Has n row = (d.numbers row).1 (
        record { from = omega (arith, rows.from); to = in_row },
        (subst (λ (z : ℤ). pos 0 ≤ℤ z) ev sv.0, subst (λ (z : ℤ). z ≤ℤ pos 331765875) ev sv.1),
      ) in
      let here : HeldGap cells key col row w.tri w.u w.v gap = record {
        metres = w.metres;
        post = p.height;
        held = w.held;
        size = w.size;
      } in
      let at : HeldGap cells key col row w.tri (point_of e col) (point_of n row) gap =
      subst (λ (x : ℤ). HeldGap cells key col row w.tri x (point_of n row) gap) (eu ∙ sym (c.points col))
      (subst (λ (y : ℤ). HeldGap cells key col row w.tri w.u y gap) (ev ∙ sym (d.points row)) here) in record {
        tri = w.tri;
        index = w.among.0;
        before = w.among.1;
        has = w.among.1;
        is = w.among.2;
        here = record {
          area = w.area;
          at = record { col = col; row = row; has_col = hc; has_row = hr; before = hc.to; here = at };
        };
      }

pub window_law : WindowLaw
window_law cells tile ts key turns east north e n gap under deep columns rows c d = (
  swept_gap cells tile ts key turns deep east north e n columns rows c d gap under,
  gap_swept cells tile ts key turns deep east north e n columns rows c d gap under,
)
