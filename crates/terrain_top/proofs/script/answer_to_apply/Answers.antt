use Rattle.std.proofs.Common.{refl, ap, map, ◌∙◌, inr}
use Rattle.std.specs.FinMap.{get}
use Rattle.top_words.specs.Meant.{line_meant}
use Rattle.top_reply.specs.File.{Bytes, NoFile, found_in, script_limit}
use Rattle.terrain_top.proofs.Scripts.{script_begins, script_stops, script_ends, no_script, found_as}
use Rattle.terrain_top.proofs.script.answer_to_apply.Goals as goal

pub returns-in_err-bytes-clause-comes : goal.returns-in_err-bytes-clause-comes
returns-in_err-bytes-clause-comes g c = λ s library course h is applied.
    let found = found_in c.args.script.now script_limit (get library c.args.script.now) in
    script_begins library s course _ _ c.from_residual.result found c.in_err-bytes.field-0.0 applied refl refl refl c.in_err-bytes.ensures.asks.only c.from_residual.ensures.1

pub returns-in_err-lines-in-Bytes-clause-comes : goal.returns-in_err-lines-in-Bytes-clause-comes
returns-in_err-lines-in-Bytes-clause-comes g c = λ s library course h is applied.
    let found = found_in c.args.script.now script_limit (get library c.args.script.now) in
    script_begins library s course _ _ c.from_residual-in_err-lines-in-Bytes.result found _ applied refl refl refl (inr refl) c.from_residual-in_err-lines-in-Bytes.ensures.1

pub returns-in_err-tally-in-Bytes-clause-comes : goal.returns-in_err-tally-in-Bytes-clause-comes
returns-in_err-tally-in-Bytes-clause-comes g c = λ s library course h is applied.
    let found = found_in c.args.script.now script_limit (get library c.args.script.now) in
    let read = found_as _ library (g.Li.Library.holds c.args.files.now) (λ books. found_in c.args.script.now script_limit (get books c.args.script.now)) is c.in_ok-bytes.ensures.read in
    script_stops library s course _ _ c.from_residual-in_err-tally-in-Bytes.result found c.deref.result.now (map line_meant c.deref-in-Bytes.result.now) c.in_err-tally-in-Bytes.field-0.0 applied
    (ap Bytes c.deref.ensures.value ∙ rw c.in-Bytes.is at read) (rw c.deref-in-Bytes.ensures.value c.in_ok-lines-in-Bytes.ensures)
    (c.in_err-tally-in-Bytes.ensures.goes s library h (c.open_file.ensures.asks.same ∙ is)) c.from_residual-in_err-tally-in-Bytes.ensures.1

pub returns-in-All-clause-comes : goal.returns-in-All-clause-comes
returns-in-All-clause-comes g c = λ s library course h is applied.
    let found = found_in c.args.script.now script_limit (get library c.args.script.now) in
    let read = found_as _ library (g.Li.Library.holds c.args.files.now) (λ books. found_in c.args.script.now script_limit (get books c.args.script.now)) is c.in_ok-bytes.ensures.read in
    let lines = c.in_ok-tally-in-Bytes.ensures.goes s library h (c.open_file.ensures.asks.same ∙ is) in
    script_ends library s course _ _ c.ended.result found c.deref.result.now (map line_meant c.deref-in-Bytes.result.now) c.do_lines.new.opened c.in-All.tally applied
    (ap Bytes c.deref.ensures.value ∙ rw c.in-Bytes.is at read) (rw c.deref-in-Bytes.ensures.value c.in_ok-lines-in-Bytes.ensures)
    (rw c.in-All.is at lines) c.ended.ensures.says c.ended.ensures.memory

pub returns-in-Bytes-clause-comes : goal.returns-in-Bytes-clause-comes
returns-in-Bytes-clause-comes g c = λ s library course h is applied.
    let lines = c.in_ok-tally-in-Bytes.ensures.goes s library h (c.open_file.ensures.asks.same ∙ is) in
    absurd (rw c.in-Ended.is at lines)

pub returns-clause-comes : goal.returns-clause-comes
returns-clause-comes g c = λ s library course h is applied.
    let found = found_in c.args.script.now script_limit (get library c.args.script.now) in
    let read = found_as _ library (g.Li.Library.holds c.args.files.now) (λ books. found_in c.args.script.now script_limit (get books c.args.script.now)) is c.in_ok-bytes.ensures.read in
    no_script library s course _ _ c.refused.result found c.deref-in-NoFile.result.now applied (ap NoFile c.deref-in-NoFile.ensures ∙ rw c.in-NoFile.is at read) refl refl refl refl c.refused.ensures.says c.refused.ensures.memory
