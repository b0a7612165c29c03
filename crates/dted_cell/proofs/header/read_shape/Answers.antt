use Rattle.std.proofs.Common.{◌≡◌, ◌*◌, ◌||◌, ◌==◌, not, true, refl, sym, ap, ◌∙◌}
use Rattle.terrain_base.specs.Level.{columns_of, rows_of}
use Rattle.dted_cell.proofs.Shapes.{off_by, square_by, no_level, level_is, spacing_is, counts_are, differs, agrees, or_first, or_second, off_stands, spacing_stands, counts_stand, none_stands}
use Rattle.dted_cell.proofs.header.read_shape.Goals as goal
use Rattle.dted_cell.proofs.header.read_shape.Goals.{then-fields-columns-via-then-fields-columns, then-fields-columns-via-else-fields-columns+then-fields-rows}

pub returns-in_default-clause-refusal : goal.returns-in_default-clause-refusal
returns-in_default-clause-refusal c =
    let text = c.args.text.now in
    let fields = c.in_ok-fields.ensures in
    sym (off_stands text fields.refusal (off_by text c.in_ok-fields.fields fields.says c.in_default.ensures))

pub returns-in_default-level-clause-refusal : goal.returns-in_default-level-clause-refusal
returns-in_default-level-clause-refusal c =
    let text = c.args.text.now in
    let fields = c.in_ok-fields.ensures in
    let square = square_by text c.in_ok-fields.fields fields.says c.in-Some.square c.in-Some.ensures in
    sym (spacing_stands text fields.refusal square.0 (no_level text c.in_ok-fields.fields fields.says c.in_default-level.ensures))

pub returns-then-fields-lon_step-clause-refusal : goal.returns-then-fields-lon_step-clause-refusal
returns-then-fields-lon_step-clause-refusal c =
    let text = c.args.text.now in
    let fields = c.in_ok-fields.ensures in
    let square = square_by text c.in_ok-fields.fields fields.says c.in-Some.square c.in-Some.ensures in
    let spacing = spacing_is text c.in_ok-fields.fields fields.says c.in-Some.square c.in-Some-level.level square.1 c.in-Some-level.ensures in
    sym (spacing_stands text fields.refusal square.0 (sym spacing ∙ differs _ _ (rw c.lon_step.ensures at c.if-fields-lon_step.true)))

pub returns-then-fields-columns-clause-refusal : goal.returns-then-fields-columns-clause-refusal
returns-then-fields-columns-clause-refusal c =
    let text = c.args.text.now in
    let fields = c.in_ok-fields.ensures in
    let square = square_by text c.in_ok-fields.fields fields.says c.in-Some.square c.in-Some.ensures in
    let spacing = spacing_is text c.in_ok-fields.fields fields.says c.in-Some.square c.in-Some-level.level square.1 c.in-Some-level.ensures in
    let counts = counts_are text c.in_ok-fields.fields fields.says c.in-Some.square c.in-Some-level.level square.1 c.in-Some-level.ensures in
    let wrong : (not (c.in_ok-fields.fields.lattice.columns == columns_of c.in-Some.square c.in-Some-level.level) || not (c.in_ok-fields.fields.lattice.rows == rows_of c.in-Some-level.level)) ≡ true = elim c.then-fields-columns.branch [
      | then-fields-columns-via-then-fields-columns w ↦ or_first _ _ (differs c.in_ok-fields.fields.lattice.columns (columns_of c.in-Some.square c.in-Some-level.level) (rw c.columns.ensures at w.if-fields-columns.true))
      | then-fields-columns-via-else-fields-columns+then-fields-rows w ↦ or_second _ _ (differs c.in_ok-fields.fields.lattice.rows (rows_of c.in-Some-level.level) (rw w.rows.ensures at w.if-fields-rows.true))
    ] in
    sym (counts_stand text fields.refusal square.0 (sym spacing ∙ agrees _ _ (c.if-fields-lon_step.false ∙ ap (λ n. 10 * n) c.lon_step.ensures)) (sym counts ∙ wrong))

pub returns-clause-refusal : goal.returns-clause-refusal
returns-clause-refusal c =
    let text = c.args.text.now in
    let fields = c.in_ok-fields.ensures in
    let square = square_by text c.in_ok-fields.fields fields.says c.in-Some.square c.in-Some.ensures in
    let spacing = spacing_is text c.in_ok-fields.fields fields.says c.in-Some.square c.in-Some-level.level square.1 c.in-Some-level.ensures in
    let counts = counts_are text c.in_ok-fields.fields fields.says c.in-Some.square c.in-Some-level.level square.1 c.in-Some-level.ensures in
    sym (none_stands text fields.refusal square.0 (sym spacing ∙ agrees _ _ (c.if-fields-lon_step.false ∙ ap (λ n. 10 * n) c.lon_step.ensures))
    (sym counts ∙ rw (agrees _ _ (c.if-fields-columns.false ∙ c.columns.ensures), agrees _ _ (c.if-fields-rows.false ∙ c.rows.ensures)) refl))

pub returns-clause-square : goal.returns-clause-square
returns-clause-square c = (square_by c.args.text.now c.in_ok-fields.fields c.in_ok-fields.ensures.says c.in-Some.square c.in-Some.ensures).1

pub returns-clause-level : goal.returns-clause-level
returns-clause-level c = level_is c.args.text.now c.in_ok-fields.fields c.in_ok-fields.ensures.says c.in-Some-level.level c.in-Some-level.ensures
