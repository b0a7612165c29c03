-- Tiles that exist, and their two files.
use Rattle.std.proofs.Common.{◌≡◌, ℕ, ◌≤◌, ◌+◌, Bool, true, false, ◌&&◌, cond, List, [], ◌∷◌, ◌++◌, length, Some, refl, sym, ap, ◌∙◌, append_assoc, arith}
use Rattle.std.specs.List.{filter, list_all}
use Rattle.std.proofs.lemmas.List.{length-append}
use Rattle.std.proofs.lemmas.List.Folds.{list_all-append}
use Rattle.terrain_base.specs.declared.name.Key.{Key}
use Rattle.terrain_base.specs.declared.name.Key.TheVariants.{Terrain, Note}
use Rattle.terrain_base.specs.declared.params.Params.{Params}
use Rattle.terrain_base.specs.declared.summary.Summary.{Summary}
use Rattle.terrain_base.specs.declared.tile.TileId.{TileId}
use Rattle.cell_mosaic.specs.Summaries.{summaries_of}
use Rattle.tile_rule.specs.Tile.{terrain_of, note_of}
use Rattle.tile_deps.specs.Tiles as tiles
use Rattle.database.specs.Commands.{tile_names, existing}
use Rattle.database.specs.State.{State, file_of, where_it_is, tile_exists}
use Rattle.db_check.specs.Tiles.{AllExist}
use Rattle.db_files.proofs.TileSteps.{names_append}

-- ---- files

-- what is wanted under a name
pub file_as : (s : State) (n : Key) {name : Key} {wanted text : List ℕ} → name ≡ n → wanted ≡ text
    → file_of s n ≡ Some text → file_of s name ≡ Some wanted
file_as s n named same is = ap (file_of s) named ∙ is ∙ ap Some (sym same)

pub terrain_file : (s : State) (t : TileId) {params : Params} → params ≡ s.params → tile_exists s t ≡ true
    → file_of s (Terrain t) ≡ Some (terrain_of params s.cells t)
terrain_file s t same there = ap (λ b. where_it_is b (terrain_of s.params s.cells t)) there
    ∙ ap (λ p. Some (terrain_of p s.cells t)) (sym same)

pub note_file : (s : State) (t : TileId) {params : Params} → params ≡ s.params → tile_exists s t ≡ true
    → file_of s (Note t) ≡ Some (note_of params s.cells t)
note_file s t same there = ap (λ b. where_it_is b (note_of s.params s.cells t)) there
    ∙ ap (λ p. Some (note_of p s.cells t)) (sym same)

-- two names more
pub two_names : (names : List Key) (a b : Key) {first second : Key} → first ≡ a → second ≡ b
    → (names ++ first ∷ []) ++ second ∷ [] ≡ names ++ a ∷ b ∷ []
two_names names a b {first} {second} p q = append_assoc names (first ∷ []) (second ∷ [])
    ∙ (λ i. names ++ p i ∷ q i ∷ [])

-- ---- tiles of a list

-- one tile more
pub names_more : (names : List Key) (given : List TileId) (t : TileId)
    → (names ++ tile_names given) ++ Terrain t ∷ Note t ∷ [] ≡ names ++ tile_names (given ++ t ∷ [])
names_more names given t = append_assoc names (tile_names given) (Terrain t ∷ Note t ∷ [])
    ∙ ap (λ ns. names ++ ns) (sym (names_append given (t ∷ [])))

both : (a b : Bool) → (a && (b && true)) ≡ true → (a ≡ true) × (b ≡ true)
both true true e = (refl, refl)
both true false e = absurd (cc)
both false b e = absurd (cc)

-- where these and one more exist, they do and it does
pub exist_more : (s : State) (given : List TileId) (t : TileId) → AllExist s (given ++ t ∷ [])
    → AllExist s given × (tile_exists s t ≡ true)
exist_more s given t all = both (list_all (tile_exists s) given) (tile_exists s t)
    (sym (list_all-append (tile_exists s) given (t ∷ [])) ∙ all)

kept_pass : (p : TileId → Bool) (t : TileId) (ts : List TileId) (b : Bool) → p t ≡ b → list_all p (filter p ts) ≡ true
    → list_all p (cond b (t ∷ filter p ts) (filter p ts)) ≡ true
kept_pass p t ts true is all = rw is all
kept_pass p t ts false is all = all

filter_passes : (p : TileId → Bool) (ts : List TileId) → list_all p (filter p ts) ≡ true
filter_passes p [] = refl
filter_passes p (t ∷ ts) = kept_pass p t ts (p t) refl (filter_passes p ts)

-- the tiles that exist do
pub existing_exist : (s : State) → AllExist s (existing s)
unfolding tiles.existing
existing_exist s = filter_passes (tile_exists s) (tiles.all_tiles s.params.cap)

pub existing_in : (s : State) {params : Params} {rows : List Summary} → params ≡ s.params
    → rows ≡ summaries_of s.cells → tiles.existing params.cap rows ≡ existing s
existing_in s p r = λ i. tiles.existing ((p i).cap) (r i)

-- ---- how many

-- those that were given and one more are no more than all
pub length_part : (all given : List TileId) (t : TileId) (rest : List TileId) → all ≡ (given ++ t ∷ []) ++ rest
    → length given + 1 ≤ length all
length_part all given t rest whole =
    let joined : length all ≡ length (given ++ t ∷ []) + length rest = ap length whole
    ∙ length-append (given ++ t ∷ []) rest in
    let more = length-append given (t ∷ []) in
    omega arith
