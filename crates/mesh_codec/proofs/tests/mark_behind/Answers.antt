use Rattle.std.proofs.Common.{◌≡◌, ℕ, ◌≤◌, ◌++◌, ◌∷◌, [], List, Option, Some, None, IfSome}
use Rattle.terrain_base.specs.FirstUse.{IsByFirstUse}
use Rattle.mesh_codec.specs.Text.{mark_after}
use Rattle.mesh_codec.proofs.Marks.{numbered_next}
use Rattle.mesh_codec.proofs.tests.mark_behind.Goals as goal

behind_is : (result : Option ℕ) (mark a second b third c : ℕ) → a ≤ mark → second ≡ mark_after mark a → b ≤ second → third ≡ mark_after second b
    → IfSome result (λ next. c ≤ third) → IfSome result (λ next. next ≡ mark_after third c)
    → IfSome result (λ next. (before : List ℕ) → IsByFirstUse mark before → IsByFirstUse next (((before ++ a ∷ []) ++ b ∷ []) ++ c ∷ []))
behind_is None mark a second b third c p e q f r g = tt
behind_is (Some next) mark a second b third c p e q f r g = λ before n.
    let first : IsByFirstUse second (before ++ a ∷ []) = rw e (numbered_next mark a before p n) in
    let middle : IsByFirstUse third ((before ++ a ∷ []) ++ b ∷ []) = rw f (numbered_next second b (before ++ a ∷ []) q first) in
    rw g (numbered_next third c ((before ++ a ∷ []) ++ b ∷ []) r middle)

pub returns : goal.returns
returns c =
    behind_is c.mark_over-3.result c.args.mark c.args.triangle.now.a c.in_ok-second.second c.args.triangle.now.b c.in_ok-third.third c.args.triangle.now.c
    c.in_ok-second.ensures.within c.in_ok-second.ensures.mark c.in_ok-third.ensures.within c.in_ok-third.ensures.mark c.mark_over-3.ensures.within c.mark_over-3.ensures.mark
