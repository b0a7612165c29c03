-- What serves the tiles of a state, and how many names are held.
use Rattle.std.proofs.Common.{◌≡◌, List, Option, Some, length, sym, ◌∙◌}
use Rattle.std.proofs.lemmas.List.{length-map}
use Rattle.std.specs.FinMap.{keys, len, entries, len-entries}
use Rattle.terrain_base.specs.Step.{Files}
use Rattle.terrain_base.specs.declared.params.Params.{Params}
use Rattle.terrain_base.specs.declared.summary.Summary.{Summary}
use Rattle.cell_mosaic.specs.Cells.{Cells}
use Rattle.cell_cache.specs.Cached.{HoldsCells}
use Rattle.database.specs.State.{State}
use Rattle.db_files.specs.Serving.{Serves}
use Rattle.db_engine.specs.Holding.{HoldsState}
use Rattle.db_engine.specs.Opened.{Contents}

-- the source tells the cells that an opened database holds
pub serves_held : (told : Option Cells) {held now : Option Files} {o : Contents} {s : State} {params : Params}
    {rows : List Summary} (h : HoldsState held o s) → now ≡ held → params ≡ o.params → rows ≡ o.rows
    → ((files : Files) → now ≡ Some files → HoldsCells files s.cells → told ≡ Some s.cells) → Serves told params rows s
serves_held told h same p r tells = record {
  told_is = tells h.files (same ∙ h.held_is)
      (record { sound = h.reads.state.sound; named = λ k bytes at. h.reads.cells k bytes at });
  params_is = p ∙ h.params_is;
  rows_is = r ∙ h.rows_is;
}

-- as many names as files
pub length_keys : (files : Files) → length (keys files) ≡ len files
length_keys files = length-map (entries files) _ ∙ sym (len-entries files)
