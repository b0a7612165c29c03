-- The numbers of samples.
use Rattle.std.proofs.Common.{◌≡◌, ℤ, pos, negsuc, ◌<◌, ◌≤ℤ◌, ◌+ℤ◌, ◌*ℤ◌, arith}
use Rattle.std.proofs.lemmas.Int.{ints}
use Rattle.heightmap_out.specs.Sample.{number_of}
use Rattle.heightmap_out.specs.Laws.{StandsForHeights}

pub number_small : (metres : ℤ) → number_of metres < 65536
unfolding number_of
number_small metres = grind (arith, ints)

number_within : (metres : ℤ) → negsuc 999 ≤ℤ metres → metres ≤ℤ pos 12107
    → pos (number_of metres) ≡ pos 5 *ℤ (metres +ℤ pos 1000)
unfolding number_of
number_within metres least most = grind (arith, ints, least, most)

number_below : (metres : ℤ) → metres ≤ℤ negsuc 999 → number_of metres ≡ 0
unfolding number_of
number_below metres low = grind (arith, ints, low)

number_above : (metres : ℤ) → pos 12107 ≤ℤ metres → number_of metres ≡ 65535
unfolding number_of
number_above metres high = grind (arith, ints, high)

pub stands_for_heights : StandsForHeights
stands_for_heights = record { within = number_within; below = number_below; above = number_above }
