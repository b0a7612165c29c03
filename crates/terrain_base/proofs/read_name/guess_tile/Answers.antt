use Rattle.std.proofs.Common.{arith}
use Rattle.terrain_base.proofs.NameTexts.{level_found, column_found, parse_found, same_some, no_some}
use Rattle.terrain_base.proofs.TileNumbers.{small_z, small_x, small_y, tile_found}
use Rattle.terrain_base.proofs.read_name.guess_tile.Goals as goal

pub returns-in_err-z : goal.returns-in_err-z
returns-in_err-z c wanted e = absurd (rw c.in_err-z.was at (level_found wanted _ _ c.split_once.ensures.cases e))

pub returns-in_err-x : goal.returns-in_err-x
returns-in_err-x c wanted e =
    let level = rw c.in_ok-z.was at (level_found wanted _ _ c.split_once.ensures.cases e) in
    absurd (rw c.in_err-x.was at (column_found wanted _ _ c.split_once-2.ensures.cases level.1))

pub returns-in_err-ok : goal.returns-in_err-ok
returns-in_err-ok c wanted e =
    let level = rw c.in_ok-z.was at (level_found wanted _ _ c.split_once.ensures.cases e) in
    let z = parse_found 8 wanted.z _ _ _ (small_z wanted) (omega (arith, small_z wanted)) level.0 c.parse.ensures.value.0 c.ok.ensures.value in
    absurd (no_some _ _ c.in_err-ok.was z)

pub returns-in_err-ok-2 : goal.returns-in_err-ok-2
returns-in_err-ok-2 c wanted e =
    let level = rw c.in_ok-z.was at (level_found wanted _ _ c.split_once.ensures.cases e) in
    let column = rw c.in_ok-x.was at (column_found wanted _ _ c.split_once-2.ensures.cases level.1) in
    let x = parse_found 32 wanted.x _ _ _ (omega (arith, small_x wanted)) (omega (arith, small_x wanted)) column.0 c.parse-2.ensures.value.0 c.ok-2.ensures.value in
    absurd (no_some _ _ c.in_err-ok-2.was x)

pub returns-in_err-ok-3 : goal.returns-in_err-ok-3
returns-in_err-ok-3 c wanted e =
    let level = rw c.in_ok-z.was at (level_found wanted _ _ c.split_once.ensures.cases e) in
    let column = rw c.in_ok-x.was at (column_found wanted _ _ c.split_once-2.ensures.cases level.1) in
    let y = parse_found 32 wanted.y _ _ _ (omega (arith, small_y wanted)) (omega (arith, small_y wanted)) column.1 c.parse-3.ensures.value.0 c.ok-3.ensures.value in
    absurd (no_some _ _ c.in_err-ok-3.was y)

pub returns : goal.returns
returns c wanted e =
    let level = rw c.in_ok-z.was at (level_found wanted _ _ c.split_once.ensures.cases e) in
    let column = rw c.in_ok-x.was at (column_found wanted _ _ c.split_once-2.ensures.cases level.1) in
    let z = parse_found 8 wanted.z _ _ _ (small_z wanted) (omega (arith, small_z wanted)) level.0 c.parse.ensures.value.0 c.ok.ensures.value in
    let x = parse_found 32 wanted.x _ _ _ (omega (arith, small_x wanted)) (omega (arith, small_x wanted)) column.0 c.parse-2.ensures.value.0 c.ok-2.ensures.value in
    let y = parse_found 32 wanted.y _ _ _ (omega (arith, small_y wanted)) (omega (arith, small_y wanted)) column.1 c.parse-3.ensures.value.0 c.ok-3.ensures.value in
    tile_found _ _ _ _ wanted c.of.ensures.some c.of.ensures.value (same_some _ _ _ c.in_ok-ok.was z) (same_some _ _ _ c.in_ok-ok-2.was x) (same_some _ _ _ c.in_ok-ok-3.was y)
