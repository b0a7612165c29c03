-- The greatest of numbers.
use Rattle.std.specs.Prelude.{ℕ, max, List, fold}
use Rattle.std.specs.List.{range_with_len}

-- the greatest number that `f` gives for an element, 0 where there is none
abbrev pub greatest_of : {A : Type 0} → (A → ℕ) → List A → ℕ
greatest_of f xs = fold (λ most x. max most (f x)) 0 xs

-- the same for the numbers below `n`
abbrev pub greatest_below : ℕ → (ℕ → ℕ) → ℕ
greatest_below n f = greatest_of f (range_with_len 0 n)
