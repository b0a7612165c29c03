-- Words that ask of the surface of a stored tile, once their parts are read.
use Rattle.std.proofs.Common.{◌≡◌, ◌≢◌, ◌∙◌, ℕ, List, [], ◌∷◌, length, codes, Option, Some, None, IfSome, ap, sym, subst, refl, arith, get_or, ◌<◌, ◌*◌, ◌^◌, ◌-◌, ◌/◌, decimal}
use Rattle.std.specs.Prelude.{min}
use Rattle.std.specs.Option.{option_map}
use Rattle.terrain_base.specs.declared.tile.TileId.{TileId}
use Rattle.mesh_query.specs.declared.spot.Spot.{Spot}
use Rattle.mesh_query.specs.Way.{place}
use Rattle.sight_line.specs.declared.eye.Eye.{Eye}
use Rattle.tile_query.specs.declared.question.Question.{Question}
use Rattle.tile_query.specs.declared.question.Question.TheVariants as question
use Rattle.top_words.specs.declared.command.Command as coded
use Rattle.top_words.specs.declared.command.Query.{Query}
use Rattle.top_words.specs.declared.command.Query.TheVariants as query
use Rattle.top_words.specs.Arguments.{IsEyeText, IsPlaceText, IsSpotText, IsTileText}
use Rattle.top_words.specs.Meant.{meant}
use Rattle.tile_query.specs.Question.{IsGoodPlace, IsTileOfPlace}
use Rattle.terrain_base.proofs.TileNumbers.{same_tile}
use Rattle.top_words.specs.Questions.{IsAsked, IsProfileOf, IsSightOf, IsSurfaceOf, IsViewOf}
use Rattle.top_words.specs.Words.{Edit, Add, Replace, Remove, DatabaseCommand, Ask, Change, Apply, Rebuild, Check, Command, Init, Database, ReadCell, Audit, Migrate, Convert, Trial, IsSpelled}

abbrev pub asks : TileId → Question → Command
asks tile what = Database (Ask (query.Surface tile what))

word_at : (k : ℕ) {a b : List (List ℕ)} → a ≡ b → get_or a k [] ≡ get_or b k []
word_at k e = ap (λ words. get_or words k []) e

-- ---- a command of more than four words asks of a surface

pub record OfSurface (command : Command) : Type 0 where
  pub tile : TileId
  pub what : Question
  pub command_is : command ≡ asks tile what

pub of_long : (words : List (List ℕ)) (command : Command) → 4 < length words → IsSpelled words command → OfSurface command
of_long words (Database (Ask (query.Surface tile what))) more is = record { tile = tile; what = what; command_is = refl }
of_long words (Database (Ask query.List)) more is = let same = ap length is.are in absurd (omega (arith, more, same))
of_long words (Database (Ask (query.Inspect tile))) more is = let same = ap length is.are in absurd (omega (arith, more, same))
of_long words (Database (Ask (query.Deps tile))) more is = let same = ap length is.are in absurd (omega (arith, more, same))
of_long words (Database (Ask (query.Heightmap tile))) more is = let same = ap length is.are in absurd (omega (arith, more, same))
of_long words (Database (Change (Add file))) more is = let same = ap length is.are in absurd (omega (arith, more, same))
of_long words (Database (Change (Replace file))) more is = let same = ap length is.are in absurd (omega (arith, more, same))
of_long words (Database (Change (Remove key))) more is = let same = ap length is.are in absurd (omega (arith, more, same))
of_long words (Database (Apply script)) more is = let same = ap length is.are in absurd (omega (arith, more, same))
of_long words (Database Rebuild) more is = let same = ap length is.are in absurd (omega (arith, more, same))
of_long words (Database Check) more is = let same = ap length is.are in absurd (omega (arith, more, same))
of_long words (Init params) more is = let same = ap length is.are in absurd (omega (arith, more, same))
of_long words (ReadCell file) more is = let same = ap length is.are in absurd (omega (arith, more, same))
of_long words (Audit file) more is = let same = ap length is.are in absurd (omega (arith, more, same))
of_long words Migrate more is = let same = ap length is.are in absurd (omega (arith, more, same))
of_long words (Convert file) more is = let same = ap length is.are in absurd (omega (arith, more, same))
of_long words (Trial count number) more is = let same = ap length is.are in absurd (omega (arith, more, same))

-- and has one of three lengths
pub long_count : (words : List (List ℕ)) (command : Command) → 4 < length words → IsSpelled words command
    → length words ≢ 7 → length words ≢ 8 → length words ≢ 10 → ⊥
long_count words command more is seven eight ten =
    let of = of_long words command more is in
    by_what of.tile of.what (subst (IsSpelled words) of.command_is is)
  where
    by_what : (tile : TileId) (what : Question) → IsSpelled words (asks tile what) → ⊥
    by_what tile (question.Height east north) is = let same = ap length is.are in omega (arith, more, same)
    by_what tile (question.Profile start end) is = eight (ap length is.are)
    by_what tile (question.Sight start end) is = ten (ap length is.are)
    by_what tile (question.View eye) is = seven (ap length is.are)

-- ---- a height

-- the question is for a height
pub record IsForHeight (level east_word north_word : List ℕ) (asked : Query) : Type 0 where
  pub tile : TileId
  pub east : ℕ
  pub north : ℕ
  pub level_is : level ≡ decimal tile.z
  pub east_is : east_word ≡ decimal east
  pub north_is : north_word ≡ decimal north
  pub good : IsGoodPlace tile east north
  pub query_is : asked ≡ query.Surface tile (question.Height east north)

pub height_asked : (z e n : List ℕ) (asked : Query) → IsAsked (codes "height" ∷ z ∷ e ∷ n ∷ []) asked
    → IsForHeight z e n asked
height_asked z e n (query.Surface tile (question.Height east north)) is = record {
  tile = tile;
  east = east;
  north = north;
  level_is = word_at 1 is.are;
  east_is = word_at 2 is.are;
  north_is = word_at 3 is.are;
  good = is.good;
  query_is = refl;
}
height_asked z e n (query.Surface tile (question.Profile start end)) is = absurd (omega (arith, ap length is.are))
height_asked z e n (query.Surface tile (question.Sight start end)) is = absurd (omega (arith, ap length is.are))
height_asked z e n (query.Surface tile (question.View eye)) is = absurd (omega (arith, ap length is.are))
height_asked z e n query.List is = absurd (omega (arith, ap length is.are))
height_asked z e n (query.Inspect tile) is = absurd (omega (arith, ap length (word_at 0 is.are)))
height_asked z e n (query.Deps tile) is = absurd (omega (arith, ap length (word_at 0 is.are)))
height_asked z e n (query.Heightmap tile) is = absurd (omega (arith, ap length (word_at 0 is.are)))

-- the texts are those of a level and a place
pub height_text : {z e n : List ℕ} {asked : Query} (parts : IsForHeight z e n asked)
    → IsPlaceText z e n parts.tile.z parts.east parts.north
height_text parts = record {
  level_is = parts.level_is;
  east_is = parts.east_is;
  north_is = parts.north_is;
  level_in_range = parts.tile.z_in_range;
  east_in_range = parts.good.east_in_range;
  north_in_range = parts.good.north_in_range;
}

-- a place lies in one tile of a level
pub height_found : {z e n : List ℕ} {asked : Query} (tile : TileId) (east north : ℕ)
    → (parts : IsForHeight z e n asked) → tile.z ≡ parts.tile.z → east ≡ parts.east → north ≡ parts.north
    → IsTileOfPlace tile east north → Some (query.Surface tile (question.Height east north)) ≡ Some asked
height_found tile east north parts zs es ns of =
    let other = parts.good.tile_is in
    let columns : tile.x ≡ parts.tile.x = of.column ∙ (λ i. (es i * 2 ^ zs i) / 648000) ∙ sym other.column in
    let rows : tile.y ≡ parts.tile.y =
    of.row ∙ (λ i. min ((ns i * 2 ^ zs i) / 648000) (2 ^ zs i - 1)) ∙ sym other.row in
    let tiles = same_tile tile parts.tile zs rows columns in
    ap (λ q. Some q) ((λ i. query.Surface (tiles i) (question.Height (es i) (ns i))) ∙ sym parts.query_is)

-- ---- what an eye sees

module _ (w z x y u v a : List ℕ) where
  abbrev view_words : List (List ℕ)
  view_words = w ∷ z ∷ x ∷ y ∷ u ∷ v ∷ a ∷ []

  pub view_right : (tile : Option TileId) (eye : Option Eye) (what : Option Question) (r : Option coded.Command)
      → IfSome tile (IsTileText z x y) → IfSome eye (IsEyeText u v a) → IfSome what (IsViewOf w eye)
      → IfSome r (λ command. IsSurfaceOf tile what (meant command))
      → IfSome r (λ command. IsSpelled view_words (meant command))
  view_right tile eye what None tile_right eye_right what_right right = tt
  view_right tile eye what (Some command) tile_right eye_right what_right of =
      let t = subst (λ o. IfSome o (IsTileText z x y)) of.tile_is tile_right in
      let q = subst (λ o. IfSome o (IsViewOf w eye)) of.question_is what_right in
      let e = subst (λ o. IfSome o (IsEyeText u v a)) q.eye_is eye_right in
      subst (IsSpelled view_words) (sym (of.command_is ∙ ap (asks of.where_it_is) q.question_is))
      (record {
        are = λ i. q.word_is i ∷ t.level i ∷ t.column i ∷ t.row i ∷ e.u_is i ∷ e.v_is i ∷ e.metres_is i ∷ [];
        good = e.good;
      })

  -- the command is for what an eye sees
  pub record IsForView (command : Command) : Type 0 where
    pub tile : TileId
    pub eye : Eye
    pub word_is : w ≡ codes "view"
    pub tile_text : IsTileText z x y tile
    pub eye_text : IsEyeText u v a eye
    pub command_is : command ≡ asks tile (question.View eye)

  for_view : (tile : TileId) (what : Question) → IsSpelled view_words (asks tile what) → IsForView (asks tile what)
  for_view tile (question.View eye) is = record {
    tile = tile;
    eye = eye;
    word_is = word_at 0 is.are;
    tile_text = record { level = word_at 1 is.are; column = word_at 2 is.are; row = word_at 3 is.are };
    eye_text = record { u_is = word_at 4 is.are; v_is = word_at 5 is.are; metres_is = word_at 6 is.are; good = is.good };
    command_is = refl;
  }
  for_view tile (question.Height east north) is = absurd (omega (arith, ap length is.are))
  for_view tile (question.Profile start end) is = absurd (omega (arith, ap length is.are))
  for_view tile (question.Sight start end) is = absurd (omega (arith, ap length is.are))

  pub view_spelled : (command : Command) → IsSpelled view_words command → IsForView command
  view_spelled command is =
      let of = of_long view_words command (omega arith) is in
      subst IsForView (sym of.command_is) (for_view of.tile of.what (subst (IsSpelled view_words) of.command_is is))

  pub view_all : (tile : Option TileId) (eye : Option Eye) (what : Option Question) (r : Option coded.Command)
      → ((t : TileId) → IsTileText z x y t → tile ≡ Some t) → ((e : Eye) → IsEyeText u v a e → eye ≡ Some e)
      → ((q : Question) → IsViewOf w eye q → what ≡ Some q)
      → ((command : Command) → IsSurfaceOf tile what command → option_map meant r ≡ Some command)
      → (command : Command) → IsSpelled view_words command → option_map meant r ≡ Some command
  view_all tile eye what r tile_all eye_all what_all all command is =
      let parts = view_spelled command is in
      let seen = eye_all parts.eye parts.eye_text in
      all command (record {
        where_it_is = parts.tile;
        what = question.View parts.eye;
        tile_is = tile_all parts.tile parts.tile_text;
        question_is = what_all (question.View parts.eye)
            (record { word_is = parts.word_is; at = parts.eye; eye_is = seen; question_is = refl });
        command_is = parts.command_is;
      })

-- ---- a profile

module _ (w z x y u v s t : List ℕ) where
  abbrev profile_words : List (List ℕ)
  profile_words = w ∷ z ∷ x ∷ y ∷ u ∷ v ∷ s ∷ t ∷ []

  pub profile_right : (tile : Option TileId) (from to : Option Spot) (what : Option Question) (r : Option coded.Command)
      → IfSome tile (IsTileText z x y) → IfSome from (IsSpotText u v) → IfSome to (IsSpotText s t)
      → IfSome what (IsProfileOf w from to) → IfSome r (λ command. IsSurfaceOf tile what (meant command))
      → IfSome r (λ command. IsSpelled profile_words (meant command))
  profile_right tile from to what None tile_right from_right to_right what_right right = tt
  profile_right tile from to what (Some command) tile_right from_right to_right what_right of =
      let texts = subst (λ o. IfSome o (IsTileText z x y)) of.tile_is tile_right in
      let q = subst (λ o. IfSome o (IsProfileOf w from to)) of.question_is what_right in
      let a = subst (λ o. IfSome o (IsSpotText u v)) q.from_is from_right in
      let b = subst (λ o. IfSome o (IsSpotText s t)) q.to_is to_right in
      subst (IsSpelled profile_words) (sym (of.command_is ∙ ap (asks of.where_it_is) q.question_is))
      (record {
        are = λ i. q.word_is i ∷ texts.level i ∷ texts.column i ∷ texts.row i ∷ a.u_is i ∷ a.v_is i ∷ b.u_is i ∷ b.v_is i
            ∷ [];
        good = record { from_is = a.good; to_is = b.good; apart = q.apart };
      })

  -- the command is for a profile
  pub record IsForProfile (command : Command) : Type 0 where
    pub tile : TileId
    pub start : Spot
    pub end : Spot
    pub word_is : w ≡ codes "profile"
    pub tile_text : IsTileText z x y tile
    pub start_text : IsSpotText u v start
    pub end_text : IsSpotText s t end
    pub apart : place start ≢ place end
    pub command_is : command ≡ asks tile (question.Profile start end)

  for_profile : (tile : TileId) (what : Question) → IsSpelled profile_words (asks tile what) → IsForProfile (asks tile what)
  for_profile tile (question.Profile start end) is = record {
    tile = tile;
    start = start;
    end = end;
    word_is = word_at 0 is.are;
    tile_text = record { level = word_at 1 is.are; column = word_at 2 is.are; row = word_at 3 is.are };
    start_text = record { u_is = word_at 4 is.are; v_is = word_at 5 is.are; good = is.good.from_is };
    end_text = record { u_is = word_at 6 is.are; v_is = word_at 7 is.are; good = is.good.to_is };
    apart = is.good.apart;
    command_is = refl;
  }
  for_profile tile (question.Height east north) is = absurd (omega (arith, ap length is.are))
  for_profile tile (question.Sight start end) is = absurd (omega (arith, ap length is.are))
  for_profile tile (question.View eye) is = absurd (omega (arith, ap length is.are))

  pub profile_spelled : (command : Command) → IsSpelled profile_words command → IsForProfile command
  profile_spelled command is =
      let of = of_long profile_words command (omega arith) is in
      subst IsForProfile (sym of.command_is) (for_profile of.tile of.what (subst (IsSpelled profile_words) of.command_is is))

  pub profile_all : (tile : Option TileId) (from to : Option Spot) (what : Option Question) (r : Option coded.Command)
      → ((t : TileId) → IsTileText z x y t → tile ≡ Some t) → ((a : Spot) → IsSpotText u v a → from ≡ Some a)
      → ((b : Spot) → IsSpotText s t b → to ≡ Some b) → ((q : Question) → IsProfileOf w from to q → what ≡ Some q)
      → ((command : Command) → IsSurfaceOf tile what command → option_map meant r ≡ Some command)
      → (command : Command) → IsSpelled profile_words command → option_map meant r ≡ Some command
  profile_all tile from to what r tile_all from_all to_all what_all all command is =
      let parts = profile_spelled command is in
      all command (record {
        where_it_is = parts.tile;
        what = question.Profile parts.start parts.end;
        tile_is = tile_all parts.tile parts.tile_text;
        question_is = what_all (question.Profile parts.start parts.end) (record {
          word_is = parts.word_is;
          start = parts.start;
          end = parts.end;
          from_is = from_all parts.start parts.start_text;
          to_is = to_all parts.end parts.end_text;
          apart = parts.apart;
          question_is = refl;
        });
        command_is = parts.command_is;
      })

-- ---- whether one eye sees another

module _ (w z x y u v a s t b : List ℕ) where
  abbrev sight_words : List (List ℕ)
  sight_words = w ∷ z ∷ x ∷ y ∷ u ∷ v ∷ a ∷ s ∷ t ∷ b ∷ []

  pub sight_right : (tile : Option TileId) (from to : Option Eye) (what : Option Question) (r : Option coded.Command)
      → IfSome tile (IsTileText z x y) → IfSome from (IsEyeText u v a) → IfSome to (IsEyeText s t b)
      → IfSome what (IsSightOf w from to) → IfSome r (λ command. IsSurfaceOf tile what (meant command))
      → IfSome r (λ command. IsSpelled sight_words (meant command))
  sight_right tile from to what None tile_right from_right to_right what_right right = tt
  sight_right tile from to what (Some command) tile_right from_right to_right what_right of =
      let texts = subst (λ o. IfSome o (IsTileText z x y)) of.tile_is tile_right in
      let q = subst (λ o. IfSome o (IsSightOf w from to)) of.question_is what_right in
      let here = subst (λ o. IfSome o (IsEyeText u v a)) q.from_is from_right in
      let there = subst (λ o. IfSome o (IsEyeText s t b)) q.to_is to_right in
      subst (IsSpelled sight_words) (sym (of.command_is ∙ ap (asks of.where_it_is) q.question_is))
      (record {
        are = λ i. q.word_is i ∷ texts.level i ∷ texts.column i ∷ texts.row i
            ∷ here.u_is i ∷ here.v_is i ∷ here.metres_is i ∷ there.u_is i ∷ there.v_is i ∷ there.metres_is i ∷ [];
        good = (here.good, there.good, q.apart);
      })

  -- the command is for whether one eye sees another
  pub record IsForSight (command : Command) : Type 0 where
    pub tile : TileId
    pub start : Eye
    pub end : Eye
    pub word_is : w ≡ codes "sight"
    pub tile_text : IsTileText z x y tile
    pub start_text : IsEyeText u v a start
    pub end_text : IsEyeText s t b end
    pub apart : place start.spot ≢ place end.spot
    pub command_is : command ≡ asks tile (question.Sight start end)

  for_sight : (tile : TileId) (what : Question) → IsSpelled sight_words (asks tile what) → IsForSight (asks tile what)
  for_sight tile (question.Sight start end) is = record {
    tile = tile;
    start = start;
    end = end;
    word_is = word_at 0 is.are;
    tile_text = record { level = word_at 1 is.are; column = word_at 2 is.are; row = word_at 3 is.are };
    start_text = record { u_is = word_at 4 is.are; v_is = word_at 5 is.are; metres_is = word_at 6 is.are; good = is.good.0 };
    end_text = record { u_is = word_at 7 is.are; v_is = word_at 8 is.are; metres_is = word_at 9 is.are; good = is.good.1 };
    apart = is.good.2;
    command_is = refl;
  }
  for_sight tile (question.Height east north) is = absurd (omega (arith, ap length is.are))
  for_sight tile (question.Profile start end) is = absurd (omega (arith, ap length is.are))
  for_sight tile (question.View eye) is = absurd (omega (arith, ap length is.are))

  pub sight_spelled : (command : Command) → IsSpelled sight_words command → IsForSight command
  sight_spelled command is =
      let of = of_long sight_words command (omega arith) is in
      subst IsForSight (sym of.command_is) (for_sight of.tile of.what (subst (IsSpelled sight_words) of.command_is is))

  pub sight_all : (tile : Option TileId) (from to : Option Eye) (what : Option Question) (r : Option coded.Command)
      → ((t : TileId) → IsTileText z x y t → tile ≡ Some t) → ((e : Eye) → IsEyeText u v a e → from ≡ Some e)
      → ((e : Eye) → IsEyeText s t b e → to ≡ Some e) → ((q : Question) → IsSightOf w from to q → what ≡ Some q)
      → ((command : Command) → IsSurfaceOf tile what command → option_map meant r ≡ Some command)
      → (command : Command) → IsSpelled sight_words command → option_map meant r ≡ Some command
  sight_all tile from to what r tile_all from_all to_all what_all all command is =
      let parts = sight_spelled command is in
      all command (record {
        where_it_is = parts.tile;
        what = question.Sight parts.start parts.end;
        tile_is = tile_all parts.tile parts.tile_text;
        question_is = what_all (question.Sight parts.start parts.end) (record {
          word_is = parts.word_is;
          start = parts.start;
          end = parts.end;
          from_is = from_all parts.start parts.start_text;
          to_is = to_all parts.end parts.end_text;
          apart = parts.apart;
          question_is = refl;
        });
        command_is = parts.command_is;
      })
