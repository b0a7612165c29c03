use Rattle.std.proofs.Common.{arith, ◌∙◌, ap, sym, ◌-◌, ◌/◌, ◌+◌, length, length-set, true}
use Rattle.edge_decimate.specs.KeptPoints.{kept_between}
use Rattle.edge_decimate.proofs.Halves.{apart}
use Rattle.edge_decimate.proofs.Bits.{marks, marks_length}
use Rattle.edge_decimate.proofs.halving.+mark.Goals as goal

pub mark-requires : goal.mark-requires
mark-requires t c =
    let l = apart _ _ _ _ (sym c.if-all_near.ensures) in
    (omega arith, (c.requires.full, (omega arith, (omega arith, c.requires.room))))

pub mark-requires-2 : goal.mark-requires-2
mark-requires-2 t c =
    let l = apart _ _ _ _ (sym c.if-all_near.ensures) in (
      omega arith,
      (
        c.requires.full,
        (
          omega arith,
          (
            c.requires.end,
            length-set c.mark.new.bits
                ((c.args.a + c.args.b) / 2) true ∙ ap length c.mark.ensures
                ∙ marks_length c.args.bits.now (kept_between
                ((c.args.a + c.args.b) / 2 - c.args.a) c.args.line.now c.args.tol c.args.a
                ((c.args.a + c.args.b) / 2)) ∙ c.requires.room,
          ),
        ),
      ),
    )

pub returns : goal.returns
returns t c = c.mark-2.ensures ∙ rw c.mark.ensures (marks _ _ _ _ _ (sym c.if-all_near.ensures))
