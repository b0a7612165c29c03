-- A file outside, as the commands that read one find it.
use Rattle.std.specs.Prelude.{◌≡◌, ℕ, ◌<◌, List, [], ◌∷◌, length, codes, decimal, Option, Some, None, nat_lt, slice_index, if◌then◌else◌}
use Rattle.std.specs.FinMap.{get}
use Rattle.terrain_base.specs.Library.{LibraryFiles}
use Rattle.report_text.specs.Words.{joined}
use Rattle.top_reply.specs.Reply.{Reply, refused_reply}

-- its bytes, or the cause why there are none
pub data Found : Type 0 where
  Bytes : (bytes : List ℕ) → Found
  NoFile : (cause : List ℕ) → Found

-- no file has the name
abbrev pub absent_text : List ℕ → List ℕ
absent_text file = joined (codes "F1 absent " ∷ file ∷ [])

-- the file has more bytes than the limit
abbrev pub too_long_text : List ℕ → ℕ → List ℕ
too_long_text file limit = joined (codes "F2 too long " ∷ file ∷ codes " limit " ∷ decimal limit ∷ [])

-- by what the library holds under the file's name, and its limit
abbrev pub found_in : List ℕ → ℕ → Option (List ℕ) → Found
found_in file limit None = NoFile (absent_text file)
found_in file limit (Some bytes) =
    if nat_lt limit (length bytes) then NoFile (too_long_text file limit) else Bytes bytes

-- the reply to a file, by that to its bytes
abbrev pub reply_by : (List ℕ → Reply) → Found → Reply
reply_by read (Bytes bytes) = read bytes
reply_by read (NoFile cause) = refused_reply cause

-- the same, where the reply to the bytes is a relation
abbrev pub IsReplyBy : (List ℕ → Reply → Type 0) → Found → Reply → Type 0
IsReplyBy Is (Bytes bytes) reply = Is bytes reply
IsReplyBy Is (NoFile cause) reply = reply ≡ refused_reply cause

abbrev pub file_reply : List ℕ → ℕ → (List ℕ → Reply) → Option (List ℕ) → Reply
file_reply file limit read held = reply_by read (found_in file limit held)

-- ---- the most bytes that a file may have

-- a cell's
abbrev pub cell_limit : ℕ
cell_limit = 33554432

-- a tile's
abbrev pub tile_limit : ℕ
tile_limit = 16777216

-- a script's
abbrev pub script_limit : ℕ
script_limit = 1048576

-- ---- what a library holds

-- files are lists of bytes
abbrev pub HoldsBytes : LibraryFiles → Type 0
HoldsBytes library = (file bytes : List ℕ) → get library file ≡ Some bytes → (k : ℕ) → slice_index bytes k < 256
