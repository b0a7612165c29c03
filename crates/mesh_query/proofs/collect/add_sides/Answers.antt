-- Six crossings more, or fewer.
use Rattle.std.proofs.Common.{List, ◌++◌, ◌∷◌, [], subst}
use Rattle.mesh_query.specs.Found.{at_place}
use Rattle.mesh_query.specs.Added.{DirectedSide, side, AreCrossings}
use Rattle.mesh_query.proofs.Adding.{six_more}
use Rattle.mesh_query.proofs.collect.add_sides.Goals as goal

pub returns : goal.returns
returns c =
    let t = c.args.tri.now in
    let one = side t.a t.b in let two = side t.b t.a in let three = side t.b t.c in let four = side t.c t.b in
    let five = side t.c t.a in let six = side t.a t.c in
    λ sides h.
    subst (λ (xs : List DirectedSide). AreCrossings (at_place c.args.from.now) (at_place c.args.to.now) xs
    c.add_crossing-6.new.found.items)
    (six_more sides one two three four five six)
    (c.in_ok-add_crossing-6.ensures (((((sides ++ one ∷ []) ++ two ∷ []) ++ three ∷ []) ++ four ∷ []) ++ five ∷ [])
    (c.in_ok-add_crossing-5.ensures ((((sides ++ one ∷ []) ++ two ∷ []) ++ three ∷ []) ++ four ∷ [])
    (c.in_ok-add_crossing-4.ensures (((sides ++ one ∷ []) ++ two ∷ []) ++ three ∷ [])
    (c.in_ok-add_crossing-3.ensures ((sides ++ one ∷ []) ++ two ∷ [])
    (c.in_ok-add_crossing-2.ensures (sides ++ one ∷ []) (c.in_ok-add_crossing.ensures sides h))))))
