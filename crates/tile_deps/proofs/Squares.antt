-- The squares of an index are those of its cells, in order.
use Rattle.std.specs.Prelude.{◌≡◌, ◌↔◌, ◌<◌, ◌==◌, ◌+◌, None, true, false, List, [], ◌∷◌, map, length}
use Rattle.std.specs.List.{dedup, Contains}
use Rattle.std.specs.List.Sorted.{IsSorted}
use Rattle.std.specs.Ordering.{eq_by_cmp, is_lt}
use Rattle.std.specs.Cmp.{IsEquivalence}
use Rattle.std.specs.declared.cmp.Ordering.{Ordering}
use Rattle.std.specs.declared.cmp.Ordering.TheVariants.{Less, Equal, Greater}
use Rattle.std.proofs.Common.{arith, inl, inr, refl, sym, ap, subst, ◌∙◌}
use Rattle.std.proofs.lemmas.Bool.{and_from, and_parts, eq-eqb, eqb-true}
use Rattle.std.proofs.lemmas.Cmp.{eq_by_cmp_equiv}
use Rattle.std.proofs.lemmas.List.{get_or-map, length-map}
use Rattle.std.proofs.lemmas.List.Kept.{AllPairs-filter, Contains-dedup, Contains-from_dedup, IsStrictlySortedBy-dedup}
use Rattle.std.proofs.lemmas.Map.Keys.{Less-from_sorted}
use Rattle.std.proofs.lemmas.Map.Views.{tells_apart}
use Rattle.common_laws.proofs.Booleans.{same_from_both}
use Rattle.terrain_base.specs.SquareOrder.{square_cmp}
use Rattle.terrain_base.specs.declared.level.CellLevel.TheVariants.{Zero}
use Rattle.terrain_base.specs.declared.square.Square.{Square}
use Rattle.terrain_base.specs.declared.summary.Summary.{Summary}
use Rattle.terrain_base.specs.declared.tile.TileId.{TileId}
use Rattle.terrain_base.proofs.SquareOrder.{squares_exact, squares_total}
use Rattle.terrain_base.proofs.SquareTexts.{same_square as equal_squares}
use Rattle.tms_tree.specs.Touch.{Touches, touches_of}
use Rattle.tms_tree.proofs.Touching.{touches_law}
use Rattle.tile_deps.specs.Laws.{DoNotDescend, SquaresAscend}
use Rattle.tile_deps.specs.Squares.{same_square, squares_of, touching}
use Rattle.tile_deps.proofs.Listed.{first_there, later_there, there_cases, none_there, kept_there, there_kept}

-- ---- equal squares

tells : (a b : Square) → same_square a b ≡ true → a ≡ b
tells a b h =
    let both = and_parts (a.lat == b.lat) (a.lon == b.lon) h in
    equal_squares a b (eqb-true a.lat b.lat both.0) (eqb-true a.lon b.lon both.1)

told : (a b : Square) → a ≡ b → same_square a b ≡ true
told a b e = and_from _ _ (eq-eqb a.lat b.lat (ap (λ s. s.lat) e)) (eq-eqb a.lon b.lon (ap (λ s. s.lon) e))

by_order : (a b : Square) → same_square a b ≡ eq_by_cmp square_cmp a b
by_order a b =
    same_from_both _ _ (λ h. ap (eq_by_cmp square_cmp a) (sym (tells a b h)) ∙ (eq_by_cmp_equiv squares_total).refl a)
    (λ h. told a b (tells_apart squares_exact a b h))

equivalence : IsEquivalence same_square
equivalence = record {
  refl = λ a. told a a refl;
  symm = λ a b. same_from_both _ _ (λ h. told b a (sym (tells a b h))) (λ h. told a b (sym (tells b a h)));
  congr = λ a b c h. ap (λ s. same_square s c) (tells a b h);
}

-- ---- the squares of the cells

mapped_there : (cells : List Summary) (cell : Summary) → Contains cells cell → Contains (map (λ c. c.square) cells) cell.square
mapped_there [] cell h = absurd (none_there cell h)
mapped_there (first ∷ cells) cell h =
    elim (there_cases first cell cells h) [
      | inl e ↦ subst (λ c. Contains (map (λ c. c.square) (first ∷ cells)) c.square) e (first_there first.square (map (λ c. c.square) cells))
      | inr g ↦ later_there first.square cell.square (map (λ c. c.square) cells) (mapped_there cells cell g)
    ]

there_mapped : (cells : List Summary) (square : Square) → Contains (map (λ c. c.square) cells) square → (cell : Summary) × Contains cells cell × (cell.square ≡ square)
there_mapped [] square h = absurd (none_there square h)
there_mapped (first ∷ cells) square h =
    elim (there_cases first.square square (map (λ c. c.square) cells) h) [
      | inl e ↦ (first, first_there first cells, e)
      | inr g ↦ let rest = there_mapped cells square g in (rest.0, later_there first rest.0 cells rest.1, rest.2)
    ]

pub squares_are : (cells : List Summary) (square : Square) → Contains (squares_of cells) square ↔ ((cell : Summary) × Contains cells cell × (cell.square ≡ square))
unfolding squares_of
squares_are cells square = (
  λ h. there_mapped cells square (Contains-from_dedup same_square (map (λ c. c.square) cells) square h),
  λ h. Contains-dedup equivalence tells (map (λ c. c.square) cells) square (subst (Contains (map (λ c. c.square) cells)) h.2 (mapped_there cells h.0 h.1)),
)

-- ---- their order

not_less : (o : Ordering) → (o ≡ Less → ⊥) → is_lt o ≡ false
not_less Less h = absurd (h refl)
not_less Equal h = refl
not_less Greater h = refl

sorted : (cells : List Summary) → DoNotDescend cells → IsSorted square_cmp (map (λ c. c.square) cells)
sorted cells h k d _ inside =
    let other : Summary = record { square = d; level = Zero; extremes = None } in
    let all = length-map cells (λ c. c.square) in
    let later : k + 1 < length cells = omega (arith, inside, all) in
    let earlier : k < length cells = omega (arith, later) in
    rw (get_or-map (λ c. c.square) cells (k + 1) other d later, get_or-map (λ c. c.square) cells k other d earlier) (not_less _ (h k (k + 1) other (omega arith) later))

pub squares_ascend : (cells : List Summary) → DoNotDescend cells → SquaresAscend (squares_of cells)
unfolding squares_of
squares_ascend cells h i j d lt inside =
    Less-from_sorted square_cmp (dedup same_square (map (λ c. c.square) cells)) i j d (IsStrictlySortedBy-dedup squares_total by_order (map (λ c. c.square) cells) (sorted cells h)) lt inside

-- ---- those that touch a tile

pub touching_are : (tile : TileId) (squares : List Square) (square : Square) → Contains (touching tile squares) square ↔ (Contains squares square × Touches tile square)
touching_are tile squares square = (
  λ h. let both = there_kept (touches_of tile) squares square h in (both.0, (touches_law tile square).0 both.1),
  λ h. kept_there (touches_of tile) squares square h.0 ((touches_law tile square).1 h.1),
)

pub touching_ascend : (tile : TileId) (squares : List Square) → SquaresAscend squares → SquaresAscend (touching tile squares)
touching_ascend tile squares h = AllPairs-filter (λ a b. square_cmp a b ≡ Less) (touches_of tile) squares h
