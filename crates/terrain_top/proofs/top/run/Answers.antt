use Rattle.std.proofs.Common.{refl, subst, sym, map, None, Some, string_bytes}
use Rattle.top_reply.proofs.Running.{headline, stops_standing, stops_reading, fronts}
use Rattle.top_reply.proofs.Valid.{valid_ends}
use Rattle.top_reply.specs.Top.{IsMeant}
use Rattle.terrain_top.proofs.Commands.{meant_goes, meant_has}
use Rattle.terrain_top.proofs.top.run.Goals as goal

pub returns-clause-usage : goal.returns-clause-usage
returns-clause-usage g c = λ answer.
    let by_meaning = c.run_meant.ensures.usage answer in (
      λ usage. subst (IsMeant (map string_bytes c.args.words.now)) (by_meaning.0 usage) c.command_of.ensures.means,
      λ none. by_meaning.1 (sym (c.command_of.ensures.one None none)),
    )

pub returns-clause-headline : goal.returns-clause-headline
returns-clause-headline g c = λ meaning is.
    headline c.files_are_good.ensures meaning _ _ _ _ c.run_meant.result refl (meant_goes meaning _ _ _ _ _ c.run_meant.result (c.command_of.ensures.one meaning is) c.run_meant.ensures.replies)
    (λ held library store files answers. meant_has meaning _ _ _ held library c.run_meant.result (c.command_of.ensures.one meaning is) c.run_meant.ensures.told store files answers)

pub returns-clause-stops : goal.returns-clause-stops
returns-clause-stops g c = λ meaning is.
    stops_standing meaning _ _ _ _ c.run_meant.result refl (meant_goes meaning _ _ _ _ _ c.run_meant.result (c.command_of.ensures.one meaning is) c.run_meant.ensures.replies)

pub returns-clause-reading : goal.returns-clause-reading
returns-clause-reading g c = λ meaning is.
    stops_reading meaning _ _ _ _ c.run_meant.result refl (meant_goes meaning _ _ _ _ _ c.run_meant.result (c.command_of.ensures.one meaning is) c.run_meant.ensures.replies)

pub returns-clause-fronts : goal.returns-clause-fronts
returns-clause-fronts g c = λ meaning is.
    fronts meaning _ _ _ _ c.run_meant.result (meant_goes meaning _ _ _ _ _ c.run_meant.result (c.command_of.ensures.one meaning is) c.run_meant.ensures.replies)

pub returns-clause-valid : goal.returns-clause-valid
returns-clause-valid g c = λ command is held library store files valid answers.
    let one = c.command_of.ensures.one (Some command) is in
    let has = meant_has (Some command) _ _ _ held library c.run_meant.result one c.run_meant.ensures.told store files answers in
    valid_ends command _ _ _ _ c.run_meant.result held library has (meant_goes (Some command) _ _ _ _ _ c.run_meant.result one c.run_meant.ensures.replies) store files valid answers
