-- What an iterator of tiles has given, and what it gives still.
use Rattle.std.proofs.Common.{◌≡◌, List, [], ◌∷◌, ◌++◌, Option, None, refl, sym, ap, subst, ◌∙◌}
use Rattle.std.proofs.lemmas.List.{append-nil}
use Rattle.std.proofs.lemmas.Iterator.Consumers.{YieldsList-from_first}
use Rattle.std.specs.Iterator.{Yields, YieldsFirst}
use Rattle.terrain_base.specs.declared.tile.TileId.{TileId}
use Rattle.db_files.specs.Serving.{GivesTiles}

-- of these tiles those were given, and the others come still
pub record IsLeft {I : Type 0} (steps : I → Option TileId → I → Type 0) (tiles given : List TileId) (it : I) : Type 0 where
  pub rest : List TileId
  pub whole : tiles ≡ given ++ rest
  pub gives : GivesTiles steps it rest

pub left_of : {I : Type 0} (steps : I → Option TileId → I → Type 0) (tiles given : List TileId) (s t : I) → GivesTiles steps s tiles → Yields steps s given t → IsLeft steps tiles given t
left_of steps tiles [] s t gives same = record { rest = tiles; whole = refl; gives = subst (λ u. GivesTiles steps u tiles) same gives }
left_of steps [] (x ∷ given) s t gives y = absurd (gives x y.0 y.1)
left_of steps (z ∷ tiles) (x ∷ given) s t gives y =
    let one = gives.1 x y.0 y.1 in
    let later = left_of steps tiles given y.0 t one.1 y.2 in
    record { rest = later.rest; whole = λ i. sym one.0 i ∷ later.whole i; gives = later.gives }

none_left : {I : Type 0} (steps : I → Option TileId → I → Type 0) (rest : List TileId) (t u : I) → GivesTiles steps t rest → steps t None u → rest ≡ []
none_left steps [] t u gives step = refl
none_left steps (x ∷ rest) t u gives step = absurd (gives.0 u step)

-- where none comes all were given
pub all_given : {I : Type 0} (steps : I → Option TileId → I → Type 0) (tiles given : List TileId) (s t u : I) → GivesTiles steps s tiles → Yields steps s given t → steps t None u → tiles ≡ given
all_given steps tiles given s t u gives y step =
    let left = left_of steps tiles given s t gives y in
    left.whole ∙ ap (λ rest. given ++ rest) (none_left steps left.rest t u left.gives step) ∙ append-nil given

-- an iterator that is seen as the list of what it gives
pub first_gives : (tiles : List TileId) → GivesTiles (YieldsFirst (λ (left : List TileId). left)) tiles tiles
first_gives tiles = (YieldsList-from_first (λ tile. tile) (λ left. left) tiles refl).runs
