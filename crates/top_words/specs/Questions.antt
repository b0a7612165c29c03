-- What words ask of the surface of a stored tile, once their spots and eyes are read.
use Rattle.std.specs.Prelude.{◌≡◌, ◌≢◌, ℕ, List, codes, Option, Some}
use Rattle.terrain_base.specs.declared.tile.TileId.{TileId}
use Rattle.mesh_query.specs.declared.spot.Spot.{Spot}
use Rattle.mesh_query.specs.Way.{place}
use Rattle.sight_line.specs.declared.eye.Eye.{Eye}
use Rattle.tile_query.specs.declared.question.Question.{Question}
use Rattle.tile_query.specs.declared.question.Question.TheVariants.{Profile, Sight, View}
use Rattle.top_words.specs.declared.command.Query.{Query}
use Rattle.top_words.specs.declared.command.Query.TheVariants as query
use Rattle.top_words.specs.Words.{Ask, Command, Database, IsGoodQuery, query_words}

-- the words behind the folder ask this of a database
pub record IsAsked (words : List (List ℕ)) (query : Query) : Type 0 where
  pub are : words ≡ query_words query
  pub good : IsGoodQuery query

-- the word and the eye ask for what the eye sees
pub record IsViewOf (word : List ℕ) (eye : Option Eye) (question : Question) : Type 0 where
  pub word_is : word ≡ codes "view"
  pub at : Eye
  pub eye_is : eye ≡ Some at
  pub question_is : question ≡ View at

-- the word and two spots that differ ask for a profile
pub record IsProfileOf (word : List ℕ) (from to : Option Spot) (question : Question) : Type 0 where
  pub word_is : word ≡ codes "profile"
  pub start : Spot
  pub end : Spot
  pub from_is : from ≡ Some start
  pub to_is : to ≡ Some end
  pub apart : place start ≢ place end
  pub question_is : question ≡ Profile start end

-- the word and two eyes over spots that differ ask whether one sees the other
pub record IsSightOf (word : List ℕ) (from to : Option Eye) (question : Question) : Type 0 where
  pub word_is : word ≡ codes "sight"
  pub start : Eye
  pub end : Eye
  pub from_is : from ≡ Some start
  pub to_is : to ≡ Some end
  pub apart : place start.spot ≢ place end.spot
  pub question_is : question ≡ Sight start end

-- the command asks this of this tile
pub record IsSurfaceOf (tile : Option TileId) (question : Option Question) (command : Command) : Type 0 where
  pub where_it_is : TileId
  pub what : Question
  pub tile_is : tile ≡ Some where_it_is
  pub question_is : question ≡ Some what
  pub command_is : command ≡ Database (Ask (query.Surface where_it_is what))
