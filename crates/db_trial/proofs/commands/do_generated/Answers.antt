use Rattle.db_trial.proofs.Cells.{adds_one, removes, replaces}
use Rattle.db_trial.proofs.Steps.{called, did_as}
use Rattle.db_trial.proofs.commands.do_generated.Goals as goal

pub returns-then-kind-eq3-clause-did : goal.returns-then-kind-eq3-clause-did
returns-then-kind-eq3-clause-did g c = λ s k.
    did_as s _ _ _ _ _ _ (removes c.args.drawn _ c.if-kind-eq3.true c.key_of.ensures) c.told.ensures
    (called (record { keeps = k; edited = c.remove.ensures.edited s k.stands.holds; ends = c.remove.ensures.ends s k.stands; refused = c.remove.ensures.refused; turned = c.remove.ensures.turned }))

pub returns-then-kind-eq2-clause-did : goal.returns-then-kind-eq2-clause-did
returns-then-kind-eq2-clause-did g c = λ s k.
    did_as s _ _ _ _ _ _ (replaces c.args.drawn _ c.if-kind-eq2.true c.in_ok-cell.ensures.key c.in_ok-cell.ensures.cell) c.told-then-kind-eq2.ensures
    (called (record { keeps = k; edited = c.replace.ensures.edited s k.stands.holds; ends = c.replace.ensures.ends s k.stands; refused = c.replace.ensures.refused; turned = c.replace.ensures.turned }))

pub returns-clause-did : goal.returns-clause-did
returns-clause-did g c = λ s k.
    did_as s _ _ _ _ _ _ (adds_one c.args.drawn _ c.if-kind-eq3.false c.if-kind-eq2.false c.in_ok-cell.ensures.key c.in_ok-cell.ensures.cell) c.told-2.ensures
    (called (record { keeps = k; edited = c.add.ensures.edited s k.stands.holds; ends = c.add.ensures.ends s k.stands; refused = c.add.ensures.refused; turned = c.add.ensures.turned }))
