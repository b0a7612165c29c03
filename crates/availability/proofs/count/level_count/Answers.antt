use Rattle.std.specs.Prelude.{◌≡◌}
use Rattle.std.specs.List.{sum_by}
use Rattle.std.proofs.Common.{arith, ap, ◌∙◌}
use Rattle.availability.specs.Count.{columns_of, level_count_of}
use Rattle.availability.proofs.Counts.{level_is, level_few}
use Rattle.availability.proofs.count.level_count.Goals as goal

pub column_count-requires-clause-few : goal.column_count-requires-clause-few
column_count-requires-clause-few c =
    let value : sum_by columns_of c.deref.result.now ≡ level_count_of c.args.cap c.args.summaries.now c.args.z =
    ap (sum_by columns_of) c.deref.ensures.value ∙ level_is c.args.cap c.args.summaries.now c.args.z c.in_ok-list.list.items c.in_ok-list.ensures.meaning in
    let few = level_few c.args.cap c.args.summaries.now c.args.z c.requires in
    omega (arith, value, few)

pub returns : goal.returns
returns c =
    let value : c.column_count.result ≡ level_count_of c.args.cap c.args.summaries.now c.args.z =
    c.column_count.ensures ∙ ap (sum_by columns_of) c.deref.ensures.value
    ∙ level_is c.args.cap c.args.summaries.now c.args.z c.in_ok-list.list.items c.in_ok-list.ensures.meaning in
    let few = level_few c.args.cap c.args.summaries.now c.args.z c.requires in
    record { value = value; few = omega (arith, value, few) }
