-- The value at a place between four posts, by bilinear weights.
use Rattle.std.specs.Prelude.{ℕ, ◌-◌, ◌*◌, ◌==◌, max, ℤ, pos, ◌+ℤ◌, ◌-ℤ◌, ◌*ℤ◌, ◌≤ℤ◌, Bool, not, nat_lt, List, [], ◌∷◌, map, Option, Some, None, if◌then◌else◌}
use Rattle.std.specs.List.{filter, find, fold, list_any}
use Rattle.terrain_base.specs.declared.post.Post.{Post}
use Rattle.terrain_base.specs.declared.post.Post.TheVariants.{Void, Metres}
use Rattle.terrain_base.specs.Division.{floor_of}
use Rattle.dted_cell.specs.Cell.{is_void_post}
use Rattle.cell_mosaic.specs.declared.quad.Quad.{Quad}
use Rattle.cell_mosaic.specs.declared.weighted.Weighted.{Weighted}

-- the weight of each post, south-west, south-east, north-west, north-east: the product of the parts of the way from the
-- opposite sides, as a numerator over the product of the units
abbrev pub weighted : Quad → ℕ → ℕ → ℕ → ℕ → List Weighted
weighted quad east east_unit north north_unit =
    record { post = quad.sw; weight = (east_unit - east) * (north_unit - north) }
    ∷ record { post = quad.se; weight = east * (north_unit - north) }
    ∷ record { post = quad.nw; weight = (east_unit - east) * north }
    ∷ record { post = quad.ne; weight = east * north }
    ∷ []

-- those whose weight is not 0
abbrev pub counted : List Weighted → List Weighted
counted posts = filter (λ one. nat_lt 0 one.weight) posts

abbrev pub has_no_height : Weighted → Bool
has_no_height one = is_void_post one.post

-- those that are not void
abbrev pub known : List Weighted → List Weighted
known posts = filter (λ one. not (has_no_height one)) posts

-- the sum of the heights, each as often as its weight says
abbrev pub times : Post → ℕ → ℤ
times Void weight = pos 0
times (Metres metres) weight = metres *ℤ pos weight

-- at most 16000 metres for each unit of the weight, above 0 or below
pub record IsWithinWeight (weight : ℕ) (product : ℤ) : Type 0 where
  pub above : (pos 0 -ℤ pos (16000 * weight)) ≤ℤ product
  pub below : product ≤ℤ pos (16000 * weight)

abbrev pub weighted_sum : List Weighted → ℤ
weighted_sum [] = pos 0
weighted_sum (one ∷ posts) = times one.post one.weight +ℤ weighted_sum posts

-- the whole number of sum/unit + 1/2, rounded down
abbrev pub rounded : ℤ → ℕ → ℤ
rounded sum unit = floor_of ((sum *ℤ pos 2) +ℤ pos unit) (pos (2 * unit))

abbrev pub greatest_weight : List Weighted → ℕ
greatest_weight posts = fold max 0 (map (λ one. one.weight) posts)

abbrev pub post_of_first : Option Weighted → Post
post_of_first None = Void
post_of_first (Some one) = one.post

-- the post of the greatest weight, the first of these; void where there is none
abbrev pub heaviest : List Weighted → Post
heaviest posts = post_of_first (find (λ one. one.weight == greatest_weight posts) posts)

-- posts of weight 0 are ignored. Without a void among the rest it is the weighted sum, rounded, a half up; else the
-- one of greatest weight that is not void
abbrev pub value_of : List Weighted → ℕ → Post
value_of posts unit =
    if list_any has_no_height (counted posts) then heaviest (known (counted posts))
    else Metres (rounded (weighted_sum (counted posts)) unit)

-- the value at the fractions east/east_unit and north/north_unit of the way from the south-west post
unfoldable pub blend_of : Quad → ℕ → ℕ → ℕ → ℕ → Post
blend_of quad east east_unit north north_unit =
    value_of (weighted quad east east_unit north north_unit) (east_unit * north_unit)

-- four heights as posts
abbrev pub heights_round : ℤ → ℤ → ℤ → ℤ → Quad
heights_round sw se nw ne = record { sw = Metres sw; se = Metres se; nw = Metres nw; ne = Metres ne }
