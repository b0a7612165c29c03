-- Tests: what the kit's lemmas on them leave out.
use Rattle.std.proofs.Common.{◌≡◌, ◌≤◌, Bool, true, false, ◌&&◌, cond, T, refl, sym, arith}
use Rattle.std.proofs.lemmas.Bool.{false_from_ne_true, both_ways}

-- two tests of which each holds where the other does are one
pub same_from_both : (a b : Bool) → (a ≡ true → b ≡ true) → (b ≡ true → a ≡ true) → a ≡ b
same_from_both true b f g = sym (f refl)
same_from_both false b f g = sym (false_from_ne_true b (λ e. both_ways false refl (g e)))

-- a conjunction as a type: its left part, its right part, and the whole of them
pub left_holds : (a b : Bool) → T (a && b) → T a
left_holds true b h = tt
left_holds false b h = absurd h

pub right_holds : (a b : Bool) → T (a && b) → T b
right_holds true b h = h
right_holds false b h = absurd h

pub both_hold : (a b : Bool) → T a → T b → T (a && b)
both_hold true b h k = k
both_hold false b h k = absurd h

-- a test counted as a number
pub one_at_most : (b : Bool) → cond b 1 0 ≤ 1
one_at_most true = omega arith
one_at_most false = omega arith
