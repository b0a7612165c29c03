-- What an opened database is seen as.
use Rattle.std.specs.Prelude.{Bool, List}
use Rattle.terrain_base.specs.declared.params.Params.{Params}
use Rattle.terrain_base.specs.declared.summary.Summary.{Summary}

-- its params, its cells in short, and whether it may be used
pub record Contents : Type 0 where
  pub params : Params
  pub rows : List Summary
  pub live : Bool

abbrev pub contents_of : Params → List Summary → Bool → Contents
contents_of params rows live = record { params = params; rows = rows; live = live }
