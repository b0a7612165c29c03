use Rattle.std.specs.Prelude.{take, length, Some}
use Rattle.std.proofs.Common.{arith, ap, ◌∙◌, get_or}
use Rattle.terrain_base.proofs.KeyTexts.{length-key, key_square, key_level, square_is}
use Rattle.terrain_base.proofs.KeyOrder.{same_key}
use Rattle.terrain_base.proofs.key_text.guess.Goals as goal

pub returns-then-text-ne9 : goal.returns-then-text-ne9
returns-then-text-ne9 c wanted e = absurd (omega (arith, ap length e, length-key wanted))

pub returns : goal.returns
returns c wanted e =
    let front = ap (take 7) e ∙ key_square wanted in
    let level = c.level_of-level.ensures wanted.level (ap (λ xs. get_or xs 8 0) e ∙ key_level wanted) in
    ap (λ k. Some k) (same_key (record { square = c.in_ok-square.square; level = c.level_of-level.result }) wanted (square_is c.in_ok-square.square wanted.square _ c.in_ok-square.ensures.some front) level)
