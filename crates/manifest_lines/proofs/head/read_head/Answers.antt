use Rattle.std.specs.Prelude.{FitsSigned}
use Rattle.std.specs.Int.{w16}
use Rattle.std.proofs.Common.{rules, sym}
use Rattle.std.proofs.lemmas.Int.{to_z-of_z}
use Rattle.manifest_lines.proofs.Heads.{bad_version, bad_cap, bad_fill, bad_state, bad_count, good_head}
use Rattle.manifest_lines.proofs.head.read_head.Goals as goal

pub returns-in_default-clause-refused : goal.returns-in_default-clause-refused
returns-in_default-clause-refused g c =
    bad_version g.R.Row.grammar g.met.R.Row.sound c.args.version c.args.bytes.now c.in_default.ensures.none

pub returns-in_default-take_number-clause-refused : goal.returns-in_default-take_number-clause-refused
returns-in_default-take_number-clause-refused g c =
    bad_cap g.R.Row.grammar g.met.R.Row.sound c.args.version c.args.bytes.now c.in-Some.rest.now c.in-Some.ensures.some c.in_default-take_number.ensures.none

pub returns-in_default-take_fill-clause-refused : goal.returns-in_default-take_fill-clause-refused
returns-in_default-take_fill-clause-refused g c =
    let cap = c.in-Some-take_number.ensures.some in
    bad_fill g.R.Row.grammar g.met.R.Row.sound c.args.version c.in-Some-take_number.cap c.in-Some-take_number.rest.now c.args.bytes.now
    (record { start = c.in-Some.rest.now; version = c.in-Some.ensures.some; cap_in_range = cap.0; cap_line = cap.1 })
    c.in_default-take_fill.ensures.none

pub returns-in_default-take_state-clause-refused : goal.returns-in_default-take_state-clause-refused
returns-in_default-take_state-clause-refused g c =
    let cap = c.in-Some-take_number.ensures.some in
    let fill = c.in-Some-take_fill.ensures.some in
    bad_state g.R.Row.grammar g.met.R.Row.sound c.args.version c.in-Some-take_number.cap _ c.in-Some-take_fill.rest.now c.args.bytes.now
    (record {
      start = c.in-Some-take_number.rest.now;
      before = record { start = c.in-Some.rest.now; version = c.in-Some.ensures.some; cap_in_range = cap.0; cap_line = cap.1 };
      height = fill.0;
      fill_line = fill.1;
    })
    c.in_default-take_state.ensures.none

pub returns-in_default-take_number-2-clause-refused : goal.returns-in_default-take_number-2-clause-refused
returns-in_default-take_number-2-clause-refused g c =
    let cap = c.in-Some-take_number.ensures.some in
    let fill = c.in-Some-take_fill.ensures.some in
    let state = c.in-Some-take_state.ensures.some in
    bad_count g.R.Row.grammar g.met.R.Row.sound c.args.version c.in-Some-take_number.cap _ c.in-Some-take_state.state c.in-Some-take_state.rest.now c.args.bytes.now
    (record {
      start = c.in-Some-take_fill.rest.now;
      before = record {
        start = c.in-Some-take_number.rest.now;
        before = record { start = c.in-Some.rest.now; version = c.in-Some.ensures.some; cap_in_range = cap.0; cap_line = cap.1 };
        height = fill.0;
        fill_line = fill.1;
      };
      named = state.0;
      state_line = state.1;
    })
    c.in_default-take_number-2.ensures.none

pub returns-clause-head : goal.returns-clause-head
returns-clause-head g c =
    let cap = c.in-Some-take_number.ensures.some in
    let fill = c.in-Some-take_fill.ensures.some in
    let state = c.in-Some-take_state.ensures.some in
    let count = c.in-Some-take_number-2.ensures.some in
    let fits : FitsSigned w16 c.in-Some-take_fill.fill = search rules in
    good_head g.R.Row.grammar c.args.version c.in-Some-take_number.cap c.in-Some-take_number-2.count c.in-Some-take_fill.fill _ c.in-Some-take_state.state c.in-Some-take_state.rest.now c.in-Some-take_number-2.rest.now c.args.bytes.now
    (record {
      start = c.in-Some-take_fill.rest.now;
      before = record {
        start = c.in-Some-take_number.rest.now;
        before = record { start = c.in-Some.rest.now; version = c.in-Some.ensures.some; cap_in_range = cap.0; cap_line = cap.1 };
        height = fill.0;
        fill_line = fill.1;
      };
      named = state.0;
      state_line = state.1;
    })
    count.1 (sym (to_z-of_z w16 c.in-Some-take_fill.fill fits))
