use Rattle.std.proofs.Common.{◌+◌, ◌*◌, ◌≤◌, length, sym, subst}
use Rattle.hgt_cells.proofs.Files.{sample_within}
use Rattle.hgt_cells.proofs.view.HgtView.sample.Goals as goal

pub number-requires : goal.number-requires
number-requires c =
    let bytes = c.args.self.now.bytes.now in
    subst (λ n. 2 * (n * c.args.line + c.args.place) + 2 ≤ length bytes) (sym c.lines.ensures.value)
    (sample_within bytes c.args.line c.args.place c.args.self.now.file.size c.requires.line c.requires.place)
