-- A rising form, a falling one and a level one.
use Rattle.std.proofs.Common.{ℕ, ◌+◌, ◌≤◌, ◌<◌, arith, sym, subst, FitsSigned, w64}
use Rattle.std.specs.Prelude.{◌↔◌, ℤ, pos, ◌-ℤ◌, ◌≤ℤ◌}
use Rattle.std.proofs.lemmas.Int.{ints, to_z-of_z}
use Rattle.lattice_sweep.proofs.Climbs.{by_form, form_at, rising, falling, level}
use Rattle.lattice_sweep.proofs.rows.kept.Goals as goal

pub returns-then-rise-gt0-clause-rows : goal.returns-then-rise-gt0-clause-rows
returns-then-rise-gt0-clause-rows c i =
    let start = c.args.start in let rise = c.args.rise in let base = c.args.base in
    let start_fits = c.ranges.start in let rise_fits = c.ranges.rise in
    let b = c.before-then-rise-gt0.result in
    let steps = simp to_z-of_z at c.before-then-rise-gt0.ensures.steps in
    by_form (c.since.ensures.numbers i)
    (λ has. subst (λ (n : ℕ). (pos 0 ≤ℤ form_at start rise base i) ↔ (n + b ≤ i)) (sym c.from.ensures)
    (rising start rise base b steps i (omega (arith, c.requires.base, has.from))))

pub returns-then-rise-lt0-clause-rows : goal.returns-then-rise-lt0-clause-rows
returns-then-rise-lt0-clause-rows c i =
    let start = c.args.start in let rise = c.args.rise in let base = c.args.base in
    let start_fits = c.ranges.start in let rise_fits = c.ranges.rise in
    let less_start_fits : FitsSigned w64 (pos 0 -ℤ start) = omega (arith, ints, c.requires.start) in
    let less_rise_fits : FitsSigned w64 (pos 0 -ℤ rise) = omega (arith, ints, c.requires.rise) in
    let b = c.before-then-rise-lt0.result in
    let steps = simp to_z-of_z at c.before-then-rise-lt0.ensures.steps in
    by_form (c.until.ensures.numbers i)
    (λ has. subst (λ (n : ℕ). (pos 0 ≤ℤ form_at start rise base i) ↔ (i < n + b)) (sym c.from-then-rise-lt0.ensures)
    (falling start rise base b steps i (omega (arith, c.requires.base, has.from))))

pub returns-then-start-lt0-clause-rows : goal.returns-then-start-lt0-clause-rows
returns-then-start-lt0-clause-rows c i =
    let start = c.args.start in let rise = c.args.rise in let base = c.args.base in
    let is_level = level start rise base (omega (arith, ints, c.if-rise-gt0.false, c.if-rise-lt0.false)) i in
    by_form (c.until-then-start-lt0.ensures.numbers i)
    (λ has. (
      λ above. absurd (let at_start = subst (λ (z : ℤ). pos 0 ≤ℤ z) is_level above in omega (arith, ints, at_start, c.if-start-lt0.true)),
      λ below. absurd (omega (arith, below)),
    ))
