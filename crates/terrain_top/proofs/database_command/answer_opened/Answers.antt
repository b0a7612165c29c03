use Rattle.std.proofs.Common.{refl, sym, arith}
use Rattle.top_words.specs.Meant.{edit_meant}
use Rattle.top_words.specs.Words.{Change, Apply, Rebuild, Check}
use Rattle.top_reply.proofs.EachCourse.{has_opened}
use Rattle.terrain_top.proofs.Scripts.{on_ok}
use Rattle.top_reply.specs.Database.{rebuilt_course}
use Rattle.top_reply.specs.Edits.{edit_course, edit_reply}
use Rattle.terrain_top.proofs.Asked.{asked_comes, asked_has}
use Rattle.terrain_top.proofs.Coming.{comes_as, turn_comes}
use Rattle.terrain_top.proofs.Whole.{edit_turns}
use Rattle.terrain_top.proofs.database_command.answer_opened.Goals as goal

pub returns-in-Ask-clause-comes : goal.returns-in-Ask-clause-comes
returns-in-Ask-clause-comes g c = λ s held library course h is tells of.
    asked_comes c.in-Ask.query s held course _ _ c.answer_to_query.result (rw c.in-Ask.is at of) (λ reply asked. c.answer_to_query.ensures.says s held reply h is asked)
    c.answer_to_query.ensures.store.only c.answer_to_query.ensures.same c.answer_to_query.ensures.quiet refl (omega arith)

pub returns-in-Change-clause-comes : goal.returns-in-Change-clause-comes
returns-in-Change-clause-comes g c = λ s held library course h is tells of.
    let reply = edit_reply (edit_meant c.in-Change.edit) library s in
    comes_as (edit_course reply) course _ _ c.answer_to_edit.result (sym (rw c.in-Change.is at of))
    (turn_comes (edit_course reply) _ _ c.answer_to_edit.result (edit_turns reply _ _ _ _ c.answer_to_edit.new.opened _ _ c.answer_to_edit.result (c.answer_to_edit.ensures.goes s library h (rw c.in-Change.is at tells))) refl)

pub returns-in-Apply-clause-comes : goal.returns-in-Apply-clause-comes
returns-in-Apply-clause-comes g c = λ s held library course h is tells of.
    c.answer_to_apply.ensures.comes s library course h (rw c.in-Apply.is at tells) (rw c.in-Apply.is at of)

pub returns-in-Rebuild-clause-comes : goal.returns-in-Rebuild-clause-comes
returns-in-Rebuild-clause-comes g c = λ s held library course h is tells of.
    comes_as (rebuilt_course s held) course _ _ c.answer_to_rebuild.result (sym (rw c.in-Rebuild.is at of))
    (turn_comes (rebuilt_course s held) _ _ c.answer_to_rebuild.result (c.answer_to_rebuild.ensures.goes s held h is) refl)

pub returns-in-Check-clause-comes : goal.returns-in-Check-clause-comes
returns-in-Check-clause-comes g c = λ s held library course h is tells of.
    turn_comes course _ _ c.answer_to_check.result (c.answer_to_check.ensures.goes s held course h is (rw c.in-Check.is at of)) refl

pub returns-in-Ask-clause-has : goal.returns-in-Ask-clause-has
returns-in-Ask-clause-has g c = λ s held library h is.
    rw c.in-Ask.is (asked_has c.in-Ask.query s held library c.answer_to_query.result (c.answer_to_query.ensures.has s held h is))

pub returns-in-Change-clause-has : goal.returns-in-Change-clause-has
returns-in-Change-clause-has g c = λ s held library h is.
    rw c.in-Change.is (on_ok c.answer_to_edit.result (has_opened (Change (edit_meant c.in-Change.edit)) library s held refl))

pub returns-in-Apply-clause-has : goal.returns-in-Apply-clause-has
returns-in-Apply-clause-has g c = λ s held library h is.
    rw c.in-Apply.is (on_ok c.answer_to_apply.result (has_opened (Apply c.in-Apply.script.now) library s held refl))

pub returns-in-Rebuild-clause-has : goal.returns-in-Rebuild-clause-has
returns-in-Rebuild-clause-has g c = λ s held library h is.
    rw c.in-Rebuild.is (on_ok c.answer_to_rebuild.result (has_opened Rebuild library s held refl))

pub returns-in-Check-clause-has : goal.returns-in-Check-clause-has
returns-in-Check-clause-has g c = λ s held library h is.
    rw c.in-Check.is (on_ok c.answer_to_check.result (has_opened Check library s held refl))
