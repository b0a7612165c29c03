use Rattle.std.proofs.Common.{eqb, ap, ◌∙◌, arith, w16}
use Rattle.std.proofs.lemmas.List.Sums.{count_by-le-length}
use lib.Count.{ones}
use Rattle.std.proofs.lemmas.Simd.{bitmask_splat, ones-mask_l}
use Rattle.dted_cell.proofs.elevations.voids_among.Goals as goal

pub returns-clause-exact : goal.returns-clause-exact
returns-clause-exact c = ap ones (bitmask_splat w16 eqb c.args.words 8 65535 c.fits-words.0 (omega arith)) ∙ ones-mask_l (λ x. eqb x 65535) c.args.words

pub returns-clause-few : goal.returns-clause-few
returns-clause-few c =
    let exact = ap ones (bitmask_splat w16 eqb c.args.words 8 65535 c.fits-words.0 (omega arith)) ∙ ones-mask_l (λ x. eqb x 65535) c.args.words in
    omega (arith, exact, count_by-le-length (λ x. eqb x 65535) c.args.words, c.fits-words.0)
