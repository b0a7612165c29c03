use Rattle.std.proofs.Common.{◌≡◌, ◌+◌, ◌-◌, drop, take, ap, ◌∙◌, arith, w8}
use Rattle.std.proofs.lemmas.Simd.{chunk-fits, length-chunk}
use Rattle.dted_cell.specs.Words.{words_of}
use Rattle.dted_cell.proofs.Lanes.{eight_words}
use Rattle.dted_cell.proofs.elevations.words_at.Goals as goal

pub returns-clause-exact : goal.returns-clause-exact
returns-clause-exact c =
    let bytes = c.args.bytes.now in
    let size : 16 ≡ c.args.at + 16 - c.args.at = omega arith in
    eight_words (take 16 (drop c.args.at bytes)) (length-chunk c.args.at 16 bytes c.requires) (chunk-fits w8 c.args.at 16 bytes c.type_inv.bytes)
    ∙ ap (λ n. words_of (take n (drop c.args.at bytes))) size
