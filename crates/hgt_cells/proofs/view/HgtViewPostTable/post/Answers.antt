use Rattle.std.proofs.Common.{◌≡◌, ◌-◌, ◌*◌, ◌/◌, ap, ◌∙◌}
use Rattle.terrain_base.specs.Level.{lon_step_of, rows_of, zone_factor_of}
use Rattle.hgt_cells.specs.Sample.{post_of}
use Rattle.hgt_cells.specs.File.{level_in, lines_in, sample_in}
use Rattle.hgt_cells.specs.Cell.{hgt_post}
use Rattle.hgt_cells.proofs.Posts.{factor_is}
use Rattle.hgt_cells.proofs.view.HgtViewPostTable.post.Goals as goal

pub returns-clause-value : goal.returns-clause-value
unfolding hgt_post
returns-clause-value c =
    let view = c.args.self.now in
    let bytes = view.bytes.now in
    let row = c.args.row in
    let level : c.level-level.result ≡ level_in bytes = c.level-level.ensures in
    let lines : c.rows.result ≡ lines_in bytes = c.rows.ensures ∙ ap rows_of level in
    let factor : c.lon_step.result / c.lat_step.result ≡ zone_factor_of view.square.lat =
    ap (λ n. n / c.lat_step.result) c.lon_step.ensures
    ∙ ap (λ n. lon_step_of view.square c.level-level.result / n) c.lat_step.ensures
    ∙ factor_is view.square c.level-level.result in
    c.post_at.ensures.value
    ∙ ap (λ n. post_of (sample_in bytes (n - 1 - row) (c.args.col * (c.lon_step.result / c.lat_step.result))))
    lines ∙ ap (λ n. post_of (sample_in bytes (lines_in bytes - 1 - row) (c.args.col * n))) factor
