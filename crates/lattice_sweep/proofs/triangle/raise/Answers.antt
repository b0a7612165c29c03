-- The window cut to the triangle's box gives the same gaps.
use Rattle.std.proofs.Common.{ℕ, ◌*◌, ◌<◌, ◌≤◌, arith, subst, FitsSigned, w64}
use Rattle.std.specs.Prelude.{unsigned_abs}
use Rattle.std.proofs.lemmas.Int.{ints, to_z-of_z}
use Rattle.lattice_sweep.proofs.Boxes.{side_cut, posts_cut}
use Rattle.lattice_sweep.proofs.Triangles.{kept_bound, raised_bound, whole_few}
use Rattle.lattice_sweep.proofs.triangle.raise.Goals as goal

pub sweep-requires-clause-window : goal.sweep-requires-clause-window
sweep-requires-clause-window g c =
    let w = c.args.window.now in let is = c.requires.window in record {
      east = side_cut w.east c.cut-columns.result _ _ is.east c.cut-columns.ensures.cut c.cut-columns.ensures.axis;
      north = side_cut w.north c.cut-rows.result _ _ is.north c.cut-rows.ensures.cut c.cut-rows.ensures.axis;
      posts = posts_cut _ w.key w.east w.north c.cut-columns.result c.cut-rows.result _ _ _ _ c.cut-columns.ensures.cut c.cut-rows.ensures.cut is.posts;
    }

pub returns-then-worst-from-clause-value : goal.returns-then-worst-from-clause-value
returns-then-worst-from-clause-value g c told is =
    let area = c.area-area.result in let worst = c.in_ok-worst.worst in
    let area_fits : FitsSigned w64 area = omega (arith, ints, c.area-area.ensures.size) in
    let west_fits : FitsSigned w64 c.least-west.result = omega (arith, ints, c.least-west.ensures.low, c.least-west.ensures.high) in
    let east_fits : FitsSigned w64 c.greatest-east.result = omega (arith, ints, c.greatest-east.ensures.low, c.greatest-east.ensures.high) in
    let south_fits : FitsSigned w64 c.least-south.result = omega (arith, ints, c.least-south.ensures.low, c.least-south.ensures.high) in
    let north_fits : FitsSigned w64 c.greatest-north.result = omega (arith, ints, c.greatest-north.ensures.low, c.greatest-north.ensures.high) in
    let t = c.args.tri.now in let on = c.requires.tri.on_tile in
    let au : FitsSigned w64 t.a.u = omega (arith, ints, on.a) in let av : FitsSigned w64 t.a.v = omega (arith, ints, on.a) in
    let bu : FitsSigned w64 t.b.u = omega (arith, ints, on.b) in let bv : FitsSigned w64 t.b.v = omega (arith, ints, on.b) in
    let cu : FitsSigned w64 t.c.u = omega (arith, ints, on.c) in let cv : FitsSigned w64 t.c.v = omega (arith, ints, on.c) in
    let columns = simp to_z-of_z at c.cut-columns.ensures.cut in
    let rows = simp to_z-of_z at c.cut-rows.ensures.cut in
    let west = simp to_z-of_z at c.least-west.ensures.value in
    let east = simp to_z-of_z at c.greatest-east.ensures.value in
    let south = simp to_z-of_z at c.least-south.ensures.value in
    let north = simp to_z-of_z at c.greatest-north.ensures.value in
    let within : worst ≤ c.args.bound * unsigned_abs area = subst (λ (b : ℕ). worst ≤ b * unsigned_abs area) c.from.ensures (simp to_z-of_z at c.if-worst-from.true) in
    kept_bound told c.args.window.now t c.cut-columns.result c.cut-rows.result c.least-west.result c.greatest-east.result c.least-south.result c.greatest-north.result
    area worst c.args.bound c.requires.tri west east south north columns rows c.area-area.ensures.value c.area-area.ensures.above_zero
    (c.in_ok-worst.ensures.value told is) within

pub overflow_cast-result : goal.overflow_cast-result
overflow_cast-result g c =
    let area_fits : FitsSigned w64 c.area-area.result = omega (arith, ints, c.area-area.ensures.size) in
    let quotient = simp to_z-of_z at c.div_ceil.ensures in
    let few = whole_few c.in_ok-worst.worst c.div_ceil.result c.area-area.result _ c.area-area.ensures.above_zero c.area-area.ensures.value c.in_ok-worst.ensures.size quotient in
    omega (arith, few)

pub returns-clause-value : goal.returns-clause-value
returns-clause-value g c told is =
    let area = c.area-area.result in let worst = c.in_ok-worst.worst in
    let area_fits : FitsSigned w64 area = omega (arith, ints, c.area-area.ensures.size) in
    let west_fits : FitsSigned w64 c.least-west.result = omega (arith, ints, c.least-west.ensures.low, c.least-west.ensures.high) in
    let east_fits : FitsSigned w64 c.greatest-east.result = omega (arith, ints, c.greatest-east.ensures.low, c.greatest-east.ensures.high) in
    let south_fits : FitsSigned w64 c.least-south.result = omega (arith, ints, c.least-south.ensures.low, c.least-south.ensures.high) in
    let north_fits : FitsSigned w64 c.greatest-north.result = omega (arith, ints, c.greatest-north.ensures.low, c.greatest-north.ensures.high) in
    let t = c.args.tri.now in let on = c.requires.tri.on_tile in
    let au : FitsSigned w64 t.a.u = omega (arith, ints, on.a) in let av : FitsSigned w64 t.a.v = omega (arith, ints, on.a) in
    let bu : FitsSigned w64 t.b.u = omega (arith, ints, on.b) in let bv : FitsSigned w64 t.b.v = omega (arith, ints, on.b) in
    let cu : FitsSigned w64 t.c.u = omega (arith, ints, on.c) in let cv : FitsSigned w64 t.c.v = omega (arith, ints, on.c) in
    let columns = simp to_z-of_z at c.cut-columns.ensures.cut in
    let rows = simp to_z-of_z at c.cut-rows.ensures.cut in
    let west = simp to_z-of_z at c.least-west.ensures.value in
    let east = simp to_z-of_z at c.greatest-east.ensures.value in
    let south = simp to_z-of_z at c.least-south.ensures.value in
    let north = simp to_z-of_z at c.greatest-north.ensures.value in
    let quotient = simp to_z-of_z at c.div_ceil.ensures in
    let beyond : c.args.bound * unsigned_abs area < worst = subst (λ (b : ℕ). b * unsigned_abs area < worst) c.from.ensures (simp to_z-of_z at c.if-worst-from.false) in
    raised_bound told c.args.window.now t c.cut-columns.result c.cut-rows.result c.least-west.result c.greatest-east.result c.least-south.result c.greatest-north.result
    area worst c.args.bound c.requires.tri west east south north columns rows c.area-area.ensures.value c.area-area.ensures.above_zero
    (c.in_ok-worst.ensures.value told is) c.div_ceil.result beyond quotient

pub returns-clause-few : goal.returns-clause-few
returns-clause-few g c =
    let area_fits : FitsSigned w64 c.area-area.result = omega (arith, ints, c.area-area.ensures.size) in
    let quotient = simp to_z-of_z at c.div_ceil.ensures in
    whole_few c.in_ok-worst.worst c.div_ceil.result c.area-area.result _ c.area-area.ensures.above_zero c.area-area.ensures.value c.in_ok-worst.ensures.size quotient
