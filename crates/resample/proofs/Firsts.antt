-- The first height among the values of squares.
use Rattle.std.proofs.Common.{◌≡◌, ℕ, ◌+◌, ◌<◌, ℤ, Bool, true, false, cond, List, [], ◌∷◌, map, drop, length, get_or, refl, sym, ap, ◌∙◌, arith}
use Rattle.std.specs.List.{filter}
use Rattle.std.proofs.lemmas.List.{at_drop_more, at_drop_all}
use Rattle.terrain_base.specs.declared.square.Square.{Square}
use Rattle.terrain_base.specs.declared.post.Post.{Post}
use Rattle.terrain_base.specs.declared.post.Post.TheVariants.{Void, Metres}
use Rattle.tms_tree.specs.declared.place.Place.{Place}
use Rattle.cell_mosaic.specs.Cells.{Cells, has_cell}
use Rattle.cell_mosaic.specs.Candidates.{candidates_of}
use Rattle.cell_mosaic.specs.Value.{value_at}
use Rattle.cell_mosaic.proofs.Values.{no_cells}
use Rattle.resample.specs.Height.{first_height, height_at}

-- the values at the place in the cells of the squares, a void where there is none
abbrev pub values_at : Cells → Place → List Square → List Post
values_at cells place squares = map (λ square. value_at cells square place) squares

-- one more value in front of two lists that give the same
in_front : (fill : ℤ) (post : Post) (posts more : List Post) → first_height fill posts ≡ first_height fill more → first_height fill (post ∷ posts) ≡ first_height fill (post ∷ more)
in_front fill Void posts more e = e
in_front fill (Metres metres) posts more e = refl

-- a void in front changes nothing
void_first : (fill : ℤ) (post : Post) (posts : List Post) → post ≡ Void → first_height fill (post ∷ posts) ≡ first_height fill posts
void_first fill post posts is = rw is refl

-- one that has no cell is passed over
passed : (fill : ℤ) (here : Bool) (cells : Cells) (square : Square) (place : Place) (squares : List Square) → has_cell cells square ≡ here
    → first_height fill (values_at cells place (filter (has_cell cells) squares)) ≡ first_height fill (values_at cells place squares)
    → first_height fill (values_at cells place (cond here (square ∷ filter (has_cell cells) squares) (filter (has_cell cells) squares))) ≡ first_height fill (values_at cells place (square ∷ squares))
passed fill false cells square place squares e rest = rest ∙ sym (void_first fill (value_at cells square place) (values_at cells place squares) (no_cells cells square place e))
passed fill true cells square place squares e rest = in_front fill (value_at cells square place) (values_at cells place (filter (has_cell cells) squares)) (values_at cells place squares) rest

held_only : (fill : ℤ) (cells : Cells) (place : Place) (squares : List Square) → first_height fill (values_at cells place (filter (has_cell cells) squares)) ≡ first_height fill (values_at cells place squares)
held_only fill cells place [] = refl
held_only fill cells place (square ∷ squares) = passed fill (has_cell cells square) cells square place squares refl (held_only fill cells place squares)

height_by_values : (fill : ℤ) (cells : Cells) (place : Place) → height_at fill cells place ≡ first_height fill (values_at cells place (candidates_of place))
unfolding height_at
height_by_values fill cells place = held_only fill cells place (candidates_of place)

-- the height by the list of the candidates
pub height_by_list : (fill : ℤ) (cells : Cells) (place : Place) (squares : List Square) → squares ≡ candidates_of place → first_height fill (values_at cells place squares) ≡ height_at fill cells place
height_by_list fill cells place squares is = ap (λ l. first_height fill (values_at cells place l)) is ∙ sym (height_by_values fill cells place)

-- ---- a step from the front
pub first_step : (fill : ℤ) (cells : Cells) (place : Place) (squares : List Square) (k : ℕ) (square : Square) → k < length squares → square ≡ get_or squares k square
    → first_height fill (values_at cells place (drop k squares)) ≡ first_height fill (value_at cells square place ∷ values_at cells place (drop (k + 1) squares))
first_step fill cells place squares k square h is =
    at_drop_more (λ l. first_height fill (values_at cells place l)) squares k square h
    ∙ ap (λ s. first_height fill (value_at cells s place ∷ values_at cells place (drop (k + 1) squares))) (sym is)

pub first_none : (fill : ℤ) (cells : Cells) (place : Place) (squares : List Square) (k : ℕ) → length squares ≡ k → first_height fill (values_at cells place (drop k squares)) ≡ fill
first_none fill cells place squares k h = at_drop_all (λ l. first_height fill (values_at cells place l)) squares k (omega (arith, h))

-- the value at the first square that is left is the height
pub height_found : (fill : ℤ) (cells : Cells) (place : Place) (squares : List Square) (k : ℕ) (square : Square) (metres : ℤ) → squares ≡ candidates_of place → k < length squares → square ≡ get_or squares k square
    → first_height fill (values_at cells place (drop k squares)) ≡ first_height fill (values_at cells place squares) → value_at cells square place ≡ Metres metres → metres ≡ height_at fill cells place
height_found fill cells place squares k square metres is below at rest value =
    sym (ap (λ post. first_height fill (post ∷ values_at cells place (drop (k + 1) squares))) value)
    ∙ sym (first_step fill cells place squares k square below at)
    ∙ rest
    ∙ height_by_list fill cells place squares is

-- where none is left the height is the fill
pub height_filled : (fill : ℤ) (cells : Cells) (place : Place) (squares : List Square) (k : ℕ) → squares ≡ candidates_of place → length squares ≡ k
    → first_height fill (values_at cells place (drop k squares)) ≡ first_height fill (values_at cells place squares) → fill ≡ height_at fill cells place
height_filled fill cells place squares k is end rest = sym (first_none fill cells place squares k end) ∙ rest ∙ height_by_list fill cells place squares is
