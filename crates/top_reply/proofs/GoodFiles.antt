-- The files of a state are a good database.
use Rattle.std.proofs.Common.{◌≡◌, ℕ, Bool, true, false, List, Some, sym, ap, subst, ◌∙◌}
use Rattle.std.specs.FinMap.{get}
use Rattle.terrain_base.specs.declared.name.Key.TheVariants.{Terrain, Note}
use Rattle.terrain_base.specs.declared.tile.TileId.{TileId}
use Rattle.terrain_base.specs.Step.{Files}
use Rattle.tile_rule.specs.Laws.{GoodLaw, EastLaw, NorthLaw}
use Rattle.tile_rule.specs.Seams.{MeetEast, MeetNorth}
use Rattle.tile_rule.specs.Tile.{terrain_of, note_of}
use Rattle.database.specs.State.{State, AreFiles, tile_exists, where_it_is}
use Rattle.top_reply.specs.Laws.{FilesAreGood}

-- what is held where a tile may be is the tile's
there : (exists : Bool) (bytes held : List ℕ) → where_it_is exists bytes ≡ Some held → bytes ≡ held
there true bytes held is = cc
there false bytes held is = absurd (cc)

terrain_held : (s : State) (files : Files) → AreFiles files s → (tile : TileId) (terrain : List ℕ)
    → get files (Terrain tile) ≡ Some terrain → terrain_of s.params s.cells tile ≡ terrain
terrain_held s files are tile terrain held =
    there (tile_exists s tile) (terrain_of s.params s.cells tile) terrain (sym (are.each (Terrain tile)) ∙ held)

pub good_files : GoodLaw → EastLaw → NorthLaw → FilesAreGood
good_files good east north = λ s files state are. record {
  tiles = λ tile exists. record {
    terrain = terrain_of s.params s.cells tile;
    note = note_of s.params s.cells tile;
    terrain_is = are.each (Terrain tile)
        ∙ ap (λ there. where_it_is there (terrain_of s.params s.cells tile)) exists;
    note_is = are.each (Note tile) ∙ ap (λ there. where_it_is there (note_of s.params s.cells tile)) exists;
    good = good s.params s.cells tile state.sound;
  };
  east = λ tile other terrain terrain' beside held held'.
      subst (λ a. MeetEast a terrain') (terrain_held s files are tile terrain held)
      (subst (λ b. MeetEast (terrain_of s.params s.cells tile) b) (terrain_held s files are other terrain' held')
      (east s.params s.cells tile other state.sound beside));
  north = λ tile other terrain terrain' beside held held'.
      subst (λ a. MeetNorth a terrain') (terrain_held s files are tile terrain held)
      (subst (λ b. MeetNorth (terrain_of s.params s.cells tile) b) (terrain_held s files are other terrain' held')
      (north s.params s.cells tile other state.sound beside));
}
