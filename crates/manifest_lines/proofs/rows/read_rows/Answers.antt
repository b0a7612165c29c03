use Rattle.std.specs.Prelude.{◌≡◌, ◌≢◌, ◌++◌, ◌∷◌, [], length, map, ◌+◌}
use Rattle.std.specs.List.Sorted.{IsStrictlySortedBy}
use Rattle.std.proofs.Common.{arith, ap, sym, subst, ◌∙◌, length-append}
use Rattle.manifest_lines.specs.Line.{ended}
use Rattle.manifest_lines.specs.Manifest.{AreRowsOf}
use Rattle.manifest_lines.specs.Rows.{IsBadRow}
use Rattle.manifest_lines.proofs.RowLists.{bad_next, bad_end, seen_more}
use Rattle.manifest_lines.proofs.rows.read_rows.Goals as goal

pub loop-line-init : goal.loop-line-init
unfolding IsStrictlySortedBy
loop-line-init g c = rw c.new-rows.ensures.items (record { ascend = (tt, tt); number = omega arith; same = λ i. c.args.bytes.now })

pub returns-in_default-clause-refused : goal.returns-in_default-clause-refused
returns-in_default-clause-refused g c line is =
    let G = g.R.Row.grammar in
    let here = bad_next G g.met.R.Row.sound c.args.version c.args.count c.loop-line.line c.args.bytes.now c.loop-line.rest.now c.loop-line.rows.items c.loop-line.invariant.ascend c.loop-line.invariant.number (omega arith) c.loop-line.invariant.same
    (λ next after up. c.in_default.ensures.none next after (subst (λ rs. AreRowsOf G c.args.version (rs ++ next ∷ [])) (sym c.deref.ensures.value) up)) in
    let same : c.loop-line.line ≡ line = cc in
    subst (λ n. IsBadRow G c.args.version c.args.count n c.args.bytes.now) same here

pub loop-line-preserved : goal.loop-line-preserved
loop-line-preserved g c =
    let G = g.R.Row.grammar in
    record {
      ascend = subst (AreRowsOf G c.args.version) (sym c.in_ok-push_row.ensures.ok) (subst (λ rs. AreRowsOf G c.args.version (rs ++ c.in-Some.taken.0 ∷ [])) c.deref.ensures.value c.in-Some.ensures.next);
      number = omega (arith, ap length c.in_ok-push_row.ensures.ok, length-append c.loop-line.rows.items (c.in-Some.taken.0 ∷ []), c.loop-line.invariant.number);
      same = seen_more G c.args.bytes.now c.loop-line.rest.now c.in-Some.taken.1.now c.loop-line.rows.items c.in-Some.taken.0 c.loop-line.invariant.same c.in-Some.ensures.some ∙ ap (λ rs. ended (map G.text rs) ++ c.in-Some.taken.1.now) (sym c.in_ok-push_row.ensures.ok);
    }

pub returns-else-is_empty-clause-refused : goal.returns-else-is_empty-clause-refused
returns-else-is_empty-clause-refused g c line is =
    let G = g.R.Row.grammar in
    let some : c.loop-line.rest.now ≢ [] = λ e. absurd (grind (arith, ap length e)) in
    let here = bad_end G g.met.R.Row.sound c.args.version c.args.count c.args.bytes.now c.loop-line.rest.now c.loop-line.rows.items c.loop-line.invariant.ascend (omega arith) c.loop-line.invariant.same some in
    let same : 6 + c.args.count ≡ line = cc in
    subst (λ n. IsBadRow G c.args.version c.args.count n c.args.bytes.now) same here
