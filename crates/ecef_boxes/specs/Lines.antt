-- Meridians and parallels: what the boxes of one grid line share.
use Rattle.std.specs.Prelude.{◌≡◌, ℕ, pos, ◌*◌, ◌^◌, ◌<◌, ◌≤◌, ◌-ℤ◌}
use Rattle.tms_tree.specs.declared.place.Place.{Place}
use Rattle.whole_interval.specs.HalfTurn.{half_turn_of}
use Rattle.ecef_boxes.specs.Box.{radii_of}
use Rattle.ecef_boxes.specs.declared.line.Meridian.{Meridian}
use Rattle.ecef_boxes.specs.declared.line.Parallel.{Parallel}

-- the meridian 180 * p / d degrees east of 180 degrees west
abbrev pub meridian_of : (p d : ℕ) → Meridian
meridian_of p d = record { p = p; d = d; turn = half_turn_of (pos p -ℤ pos d) d }

-- the parallel 180 * q / d degrees north of the south pole
abbrev pub parallel_of : (q d : ℕ) → Parallel
parallel_of q d = record {
  q = q;
  d = d;
  turn = half_turn_of (pos (2 * q) -ℤ pos d) (2 * d);
  radii = radii_of (half_turn_of (pos (2 * q) -ℤ pos d) (2 * d)).sine;
}

-- its numbers are those of a place, and its bounds those that belong to them
pub record IsMeridian (a : Meridian) : Type 0 where
  pub positive : 0 < a.d
  pub fine : a.d ≤ 2 ^ 29
  pub turn : a.p ≤ 2 * a.d
  pub bounds : a ≡ meridian_of a.p a.d

-- its numbers are those of a place, and its bounds those that belong to them
pub record IsParallel (a : Parallel) : Type 0 where
  pub positive : 0 < a.d
  pub fine : a.d ≤ 2 ^ 29
  pub pole : a.q ≤ a.d
  pub bounds : a ≡ parallel_of a.q a.d

-- the place where they cross
abbrev pub crossing : Meridian → Parallel → Place
crossing meridian parallel = record { p = meridian.p; q = parallel.q; d = meridian.d }
