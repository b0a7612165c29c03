-- The text of a square is ASCII.
use Rattle.std.proofs.Common.{ℕ, Bool, true, false, ◌<◌, ◌++◌, codes, arith, nat_le, ◌-◌}
use Rattle.std.specs.Prelude.{if◌then◌else◌}
use Rattle.std.specs.List.{AllByRecursion}
use Rattle.std.specs.Str.{IsAscii}
use Rattle.std.proofs.lemmas.List.Elements.{All-from_recursion}
use Rattle.std.proofs.lemmas.Str.Ascii.{IsAscii-from_all}
use Rattle.terrain_base.specs.declared.square.Square.{Square}
use Rattle.terrain_base.specs.SquareText.{two_digits, three_digits, square_text}

by_hemispheres : (a b : Bool) (j k m n : ℕ)
    → AllByRecursion (λ c. c < 128)
    ((if a then codes "n" ++ two_digits j else (codes "s" ++ two_digits k)) ++ (if b then codes "e" ++ three_digits m else (codes "w" ++ three_digits n)))
by_hemispheres true true j k m n = (omega arith, (omega arith, (omega arith, (omega arith, (omega arith, (omega arith, (omega arith, tt)))))))
by_hemispheres true false j k m n = (omega arith, (omega arith, (omega arith, (omega arith, (omega arith, (omega arith, (omega arith, tt)))))))
by_hemispheres false true j k m n = (omega arith, (omega arith, (omega arith, (omega arith, (omega arith, (omega arith, (omega arith, tt)))))))
by_hemispheres false false j k m n = (omega arith, (omega arith, (omega arith, (omega arith, (omega arith, (omega arith, (omega arith, tt)))))))

pub square_is_ascii : (square : Square) → IsAscii (square_text square)
square_is_ascii square =
    IsAscii-from_all (square_text square)
    (All-from_recursion (λ c. c < 128) (square_text square)
    (by_hemispheres (nat_le 90 square.lat) (nat_le 180 square.lon) (square.lat - 90) (90 - square.lat) (square.lon - 180) (180 - square.lon)))
