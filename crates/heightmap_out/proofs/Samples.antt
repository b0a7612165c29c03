-- The samples, as they are set one by one.
use Rattle.std.proofs.Common.{
  ◌≡◌,
  ◌≢◌,
  ◌⊎◌,
  ℕ,
  ◌+◌,
  ◌<◌,
  ℤ,
  List,
  length,
  get_or,
  set,
  inl,
  inr,
  sym,
  ap,
  ◌∙◌,
  arith,
  get_or-set_other,
  get_or-set_same,
}
use Rattle.std.proofs.lemmas.Bool.{cases_order}
use Rattle.std.proofs.lemmas.List.FromFn.{fill_by_all}
use Rattle.terrain_base.specs.declared.tile.TileId.{TileId}
use Rattle.cell_mosaic.specs.Cells.{Cells}
use Rattle.heightmap_out.specs.Sample.{sample_at, samples_of}

-- so many first samples are set
abbrev pub HasFirst : ℤ → Cells → TileId → List ℕ → ℕ → Type 0
HasFirst fill cells tile samples count = (k : ℕ) → k < count → get_or samples k 0 ≡ sample_at fill cells tile k

pub are_samples : (fill : ℤ) (cells : Cells) (tile : TileId) (samples : List ℕ) → length samples ≡ 4225
    → HasFirst fill cells tile samples 4225 → samples ≡ samples_of fill cells tile
unfolding samples_of
are_samples fill cells tile samples full all = fill_by_all (sample_at fill cells tile) samples 4225 0 full all

pub first_more : (fill : ℤ) (cells : Cells) (tile : TileId) (samples : List ℕ) (count number : ℕ)
    → count < length samples → number ≡ sample_at fill cells tile count → HasFirst fill cells tile samples count
    → HasFirst fill cells tile (set samples count number) (count + 1)
first_more fill cells tile samples count number inside is before k below = elim (cases_order k count) [
  | inl e ↦ ap (λ (m : ℕ). get_or (set samples count number) m 0) e ∙ get_or-set_same samples count number 0 inside
      ∙ is ∙ ap (sample_at fill cells tile) (sym e)
  | inr s ↦ get_or-set_other samples count k number 0 (other s) ∙ before k (omega (arith, other s))
]
  where
    other : (k < count) ⊎ (count < k) → k ≢ count
    other (inl less) e = omega arith
    other (inr more) e = omega arith
