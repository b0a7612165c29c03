use Rattle.std.specs.Prelude.{Err, refl}
use Rattle.std.proofs.Common.{inr, ap, sym, subst, ◌∙◌}
use Rattle.manifest_lines.specs.Manifest.{Fits}
use Rattle.manifest_lines.specs.Reading.{IsRefusedBy}
use Rattle.manifest_lines.proofs.Readers.{one_text, good_parts, text_of_parts, true-not_false, if_err, rows_refused}
use Rattle.manifest_lines.proofs.read.read_parts.Goals as goal

pub returns-in_err-rows-clause-refused : goal.returns-in_err-rows-clause-refused
returns-in_err-rows-clause-refused g c =
    if_err c.from_residual.result c.in_err-rows.field-0.0 (IsRefusedBy g.R.Row.grammar c.args.version c.args.bytes.now) c.from_residual.ensures.1
    (rows_refused g.R.Row.grammar g.met.R.Row.sound c.args.version c.in-Ok.head.params c.in-Ok.head.state c.in-Ok.head.count c.in-Ok.head.rest.now c.args.bytes.now
    (record { named = c.in-Ok.ensures.named; few = c.in-Ok.ensures.few; same = c.in-Ok.ensures.head })
    c.in_err-rows.field-0.0 (λ line is. c.in_err-rows.ensures.refused line (ap Err is)))

pub returns-then-fits-clause-ok : goal.returns-then-fits-clause-ok
returns-then-fits-clause-ok g c =
    let lines = good_parts g.R.Row.grammar c.args.version c.in-Ok.head.params c.in-Ok.head.state c.in-Ok.head.count c.in_ok-rows.rows.items c.in-Ok.head.rest.now c.in-Ok.ensures.named c.in_ok-rows.ensures.rows.0 c.in_ok-rows.ensures.rows.1 c.in-Ok.ensures.few in
    let text = text_of_parts g.R.Row.grammar c.args.version c.in-Ok.head.params c.in-Ok.head.state c.in-Ok.head.count c.in_ok-rows.rows.items c.in-Ok.head.rest.now c.args.bytes.now c.in-Ok.ensures.head c.in_ok-rows.ensures.rows.0 c.in_ok-rows.ensures.rows.1 in
    record {
      text = text;
      good = record { lines = lines; fits = subst (Fits c.in-Ok.head.state) c.deref.ensures.value (c.fits.ensures.0 c.if-fits.true) };
      only = λ other good same. one_text g.R.Row.grammar g.met.R.Row.sound c.args.version other _ good.lines lines (sym same ∙ text);
    }

pub returns-else-fits-clause-refused : goal.returns-else-fits-clause-refused
returns-else-fits-clause-refused g c =
    inr (record {
      contents = record { params = c.in-Ok.head.params; state = c.in-Ok.head.state; rows = c.in_ok-rows.rows.items };
      lines = good_parts g.R.Row.grammar c.args.version c.in-Ok.head.params c.in-Ok.head.state c.in-Ok.head.count c.in_ok-rows.rows.items c.in-Ok.head.rest.now c.in-Ok.ensures.named c.in_ok-rows.ensures.rows.0 c.in_ok-rows.ensures.rows.1 c.in-Ok.ensures.few;
      text = text_of_parts g.R.Row.grammar c.args.version c.in-Ok.head.params c.in-Ok.head.state c.in-Ok.head.count c.in_ok-rows.rows.items c.in-Ok.head.rest.now c.args.bytes.now c.in-Ok.ensures.head c.in_ok-rows.ensures.rows.0 c.in_ok-rows.ensures.rows.1;
      unfit = λ f. true-not_false _ (c.fits.ensures.1 (subst (Fits c.in-Ok.head.state) (sym c.deref.ensures.value) f)) c.if-fits.false;
      fourth = refl;
    })
