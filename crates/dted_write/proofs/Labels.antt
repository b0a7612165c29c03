-- The accuracy description, by its parts.
use Rattle.std.proofs.Common.{◌≡◌, ◌++◌, codes, refl}
use Rattle.dted_write.specs.Header.{blanks, accuracy}

pub accuracy_is : codes "ACC" ++ blanks 2697 ≡ accuracy
unfolding accuracy
accuracy_is = refl
