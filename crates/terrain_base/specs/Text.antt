-- A short text in an array.
use Rattle.std.specs.Prelude.{ℕ, ◌-◌, List, ◌++◌, length, replicate}

-- the text, with zeros up to 24 bytes
abbrev pub in_room : List ℕ → List ℕ
in_room text = text ++ replicate (24 - length text) 0
