-- A tile that was made is read again.
use Rattle.std.proofs.Common.{
  ◌≡◌,
  ℕ,
  ℤ,
  ◌+◌,
  ◌-◌,
  ◌*◌,
  ◌/◌,
  ◌%◌,
  ◌<◌,
  ◌≤◌,
  List,
  [],
  ◌∷◌,
  length,
  get_or,
  refl,
  ap,
  ◌∙◌,
  arith,
}
use Rattle.std.specs.List.{flat_map}
use Rattle.std.proofs.Math.Seq.{get_or-append_right}
use Rattle.std.proofs.Math.ListN.{get_or-append}
use Rattle.std.proofs.lemmas.Bool.Decides.{nat_tests}
use Rattle.std.proofs.lemmas.List.FromFn.{get_or-map-range_with_len, length-map-range_with_len}
use Rattle.terrain_base.specs.declared.params.Params.{Params}
use Rattle.terrain_base.specs.declared.tile.TileId.{TileId}
use Rattle.cell_mosaic.specs.Cells.{Cells}
use Rattle.cell_mosaic.specs.Summaries.{summaries_of}
use Rattle.resample.specs.Height.{height_at}
use Rattle.heightmap_out.specs.Sample.{place_at, sample_of, sample_at, samples_of}
use Rattle.heightmap_out.specs.Mask.{mask_of}
use Rattle.heightmap_out.specs.Tile.{bytes_of, heightmap_text, heightmap_of}
use Rattle.heightmap_out.specs.View.{sample_in, mask_in}
use Rattle.heightmap_out.specs.Laws.{ReadsBack}
use Rattle.heightmap_out.proofs.Numbers.{number_small}
use Rattle.heightmap_out.proofs.Texts.{length_samples, text_length, low_at, high_at}

module _ (samples : List ℕ) (mask : ℕ) (full : length samples ≡ 4225) where
  low_in : (k : ℕ) → k < 4225 → get_or (heightmap_text samples mask) (2 * k) 0 ≡ get_or samples k 0 % 256
  unfolding heightmap_text
  low_in k below = get_or-append (flat_map bytes_of samples) (mask ∷ 0 ∷ []) 0 (2 * k)
      (omega (arith, length_samples samples, full)) ∙ low_at samples k (omega (arith, full))

  high_in : (k : ℕ) → k < 4225 → get_or (heightmap_text samples mask) (2 * k + 1) 0 ≡ get_or samples k 0 / 256 % 256
  unfolding heightmap_text
  high_in k below = get_or-append (flat_map bytes_of samples) (mask ∷ 0 ∷ []) 0 (2 * k + 1)
      (omega (arith, length_samples samples, full)) ∙ high_at samples k (omega (arith, full))

  text_mask : mask_in (heightmap_text samples mask) ≡ mask
  unfolding heightmap_text mask_in
  text_mask =
      let at : 8450 - length (flat_map bytes_of samples) ≡ 0 = omega (arith, length_samples samples, full) in
      get_or-append_right (flat_map bytes_of samples) (mask ∷ 0 ∷ []) 8450 0
      (omega (arith, length_samples samples, full)) ∙ rw at refl

  text_sample : (line place number : ℕ) → line ≤ 64 → place ≤ 64 → number < 65536
      → get_or samples (65 * line + place) 0 ≡ number → sample_in (heightmap_text samples mask) line place ≡ number
  unfolding sample_in
  text_sample line place number l p small is =
      let k = 65 * line + place in
      let low = low_in k (omega arith) ∙ ap (λ n. n % 256) is in
      let high = high_in k (omega arith) ∙ ap (λ n. n / 256 % 256) is in
      rw (low, high) (omega (arith, small))

full_samples : (fill : ℤ) (cells : Cells) (tile : TileId) → length (samples_of fill cells tile) ≡ 4225
unfolding samples_of
full_samples fill cells tile = length-map-range_with_len (sample_at fill cells tile) 0 4225

sample_there : (fill : ℤ) (cells : Cells) (tile : TileId) (line place : ℕ) → line ≤ 64 → place ≤ 64
    → get_or (samples_of fill cells tile) (65 * line + place) 0 ≡ sample_of fill cells tile line place
unfolding samples_of
sample_there fill cells tile line place l p =
    let k = 65 * line + place in
    let at_line : k / 65 ≡ line = omega arith in
    let at_place : k % 65 ≡ place = omega arith in
    get_or-map-range_with_len (sample_at fill cells tile) 0 4225 k k 0 (omega arith) (omega arith)
    ∙ (λ t. sample_of fill cells tile (at_line t) (at_place t))

pub reads_back : (params : Params) (cells : Cells) (tile : TileId) → ReadsBack params cells tile
unfolding heightmap_of
reads_back params cells tile =
    let samples = samples_of params.fill cells tile in
    let mask = mask_of params.cap (summaries_of cells) tile in
    let full = full_samples params.fill cells tile in
    let long : length (heightmap_text samples mask) ≡ 8452 = text_length samples mask full in
    record {
      long = grind (arith, nat_tests, long);
      samples = λ line place l p. text_sample samples mask full line place
          (sample_of params.fill cells tile line place) l p
          (number_small (height_at params.fill cells (place_at tile line place)))
          (sample_there params.fill cells tile line place l p);
      mask = text_mask samples mask full;
    }
