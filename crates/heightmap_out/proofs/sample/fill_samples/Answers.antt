use Rattle.std.proofs.Common.{◌≡◌, ◌∙◌, ap, length-set, arith, rules, FitsSigned, w16}
use Rattle.std.proofs.lemmas.Int.{to_z-of_z}
use Rattle.cell_mosaic.proofs.Sums.{height_fits}
use Rattle.cell_mosaic.proofs.Keeping.{told_next, leaves_then, leaves_ok}
use Rattle.resample.specs.Height.{height_at}
use Rattle.heightmap_out.specs.Sample.{number_of, sample_at}
use Rattle.heightmap_out.proofs.Samples.{are_samples, first_more}
use Rattle.heightmap_out.proofs.sample.fill_samples.Goals as goal

pub loop-k-preserved : goal.loop-k-preserved
loop-k-preserved g c =
    let before = c.loop-k.invariant in
    let given = c.in_ok-metres.ensures in
    let fill = c.args.params.now.fill in
    let tile = c.args.tile in
    let k = c.loop-k.k in
    let metres = c.in_ok-metres.metres in
    let fits : FitsSigned w16 metres = height_fits metres given.height in
    let fill_fits : FitsSigned w16 fill = search rules in
    let number : c.number.result ≡ number_of metres = simp to_z-of_z at c.number.ensures in (
      leaves_ok (tt {0}) (leaves_then before.0 given.leaves),
      λ told is.
          let height : metres ≡ height_at fill told c.sample_place-place.result = simp to_z-of_z at given.value told
          (told_next before.0 told is) in
          let sample : c.number.result ≡ sample_at fill told tile k = number
          ∙ ap number_of (height ∙ ap (height_at fill told) c.sample_place-place.ensures.value) in
          first_more fill told tile c.loop-k.out k c.number.result
          (omega (arith, before.2, c.loop-k-test.true)) sample (before.1 told is),
      length-set c.loop-k.out k c.number.result ∙ before.2,
    )

pub returns-clause-value : goal.returns-clause-value
returns-clause-value g c told is =
    are_samples c.args.params.now.fill told c.args.tile c.loop-k.out c.loop-k.invariant.2
    (λ k below. c.loop-k.invariant.1 told is k (omega (arith, below, c.loop-k-test.false)))
