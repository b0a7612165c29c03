use Rattle.terrain_base.proofs.NameTexts.{utf8_found, stem_found}
use Rattle.terrain_base.proofs.read_name.guess.Goals as goal

pub returns-in_err-ok : goal.returns-in_err-ok
returns-in_err-ok c wanted e = absurd (rw c.in_err-ok.was at (utf8_found _ wanted _ _ _ c.from_utf8.ensures.cases c.ok.ensures.value e))

pub returns-in_err-stem : goal.returns-in_err-stem
returns-in_err-stem c wanted e =
    let text = rw c.in_ok-ok.was at (utf8_found _ wanted _ _ _ c.from_utf8.ensures.cases c.ok.ensures.value e) in
    absurd (rw c.in_err-stem.was at (stem_found wanted _ _ c.split_once.ensures.cases text))

pub returns : goal.returns
returns c wanted e =
    let text = rw c.in_ok-ok.was at (utf8_found _ wanted _ _ _ c.from_utf8.ensures.cases c.ok.ensures.value e) in
    let parts = rw c.in_ok-stem.was at (stem_found wanted _ _ c.split_once.ensures.cases text) in
    c.guess_parts.ensures wanted parts.0 parts.1
