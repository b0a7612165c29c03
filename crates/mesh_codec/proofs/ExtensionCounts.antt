-- How many extensions there are at most.
use Rattle.std.proofs.Common.{ℕ, zero, suc, ◌≤◌, Bool, true, false, cond, List, [], ◌∷◌, length, nat_lt, arith}
use Rattle.mesh_codec.specs.Extension.{ExtensionData, extension_at, extension_end, some_extensions, extensions_from}

by_choice : (b : Bool) (extension : ExtensionData) (more : List ExtensionData) (n : ℕ) → length more ≤ n → length (cond b (extension ∷ more) []) ≤ suc n
by_choice true extension more n h = omega (arith, h)
by_choice false extension more n h = omega arith

at_most : (n : ℕ) (bytes : List ℕ) (at : ℕ) → length (some_extensions n bytes at) ≤ n
at_most zero bytes at = omega arith
at_most (suc n) bytes at = by_choice (nat_lt at (length bytes)) (extension_at bytes at) (some_extensions n bytes (extension_end bytes at)) n (at_most n bytes (extension_end bytes at))

pub few_from : (bytes : List ℕ) (at : ℕ) → length (extensions_from bytes at) ≤ length bytes
unfolding extensions_from
few_from bytes at = at_most (length bytes) bytes at
