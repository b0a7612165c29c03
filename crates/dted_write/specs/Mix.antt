-- A mixing of 64 bits (the output function of the generator SplitMix64).
use Rattle.std.specs.Prelude.{ℕ, ◌+◌, ◌*◌, ◌/◌, ◌%◌, ◌^◌, bit_xor}

-- a number with its own bits, moved down, laid over it by exclusive or
abbrev pub folded : ℕ → ℕ → ℕ
folded n places = bit_xor n (n / 2 ^ places)

-- add 9E3779B97F4A7C15, then fold and multiply twice, by BF58476D1CE4E5B9 and 94D049BB133111EB, and fold, all
-- modulo 2^64
unfoldable pub mixed : ℕ → ℕ
mixed n =
    let a = (n + 11400714819323198485) % 2 ^ 64 in
    let b = (folded a 30 * 13787848793156543929) % 2 ^ 64 in
    let c = (folded b 27 * 10723151780598845931) % 2 ^ 64 in
    folded c 31
