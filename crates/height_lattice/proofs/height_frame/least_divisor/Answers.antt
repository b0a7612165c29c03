use Rattle.std.proofs.Common.{refl, arith}
use Rattle.std.proofs.lemmas.Nat.Gcd.{dvd_of_mod-eq-zero}
use Rattle.height_lattice.proofs.Divisors.{from_0, from_2, from_8, from_32}
use Rattle.height_lattice.proofs.Divisors.{from_152, from_218, from_1058, from_4682}
use Rattle.height_lattice.proofs.height_frame.least_divisor.Goals as goal

pub returns-in-0-to-1-clause-divides : goal.returns-in-0-to-1-clause-divides
returns-in-0-to-1-clause-divides c = dvd_of_mod-eq-zero 1 refl

pub returns-in-0-to-1-clause-shortest : goal.returns-in-0-to-1-clause-shortest
returns-in-0-to-1-clause-shortest c = λ r d h. from_0 r d

pub returns-in-2-to-7-clause-divides : goal.returns-in-2-to-7-clause-divides
returns-in-2-to-7-clause-divides c = dvd_of_mod-eq-zero 7 refl

pub returns-in-2-to-7-clause-shortest : goal.returns-in-2-to-7-clause-shortest
returns-in-2-to-7-clause-shortest c = λ r d h. from_2 r d (omega arith)

pub returns-in-8-to-31-clause-divides : goal.returns-in-8-to-31-clause-divides
returns-in-8-to-31-clause-divides c = dvd_of_mod-eq-zero 31 refl

pub returns-in-8-to-31-clause-shortest : goal.returns-in-8-to-31-clause-shortest
returns-in-8-to-31-clause-shortest c = λ r d h. from_8 r d (omega arith)

pub returns-in-32-to-151-clause-divides : goal.returns-in-32-to-151-clause-divides
returns-in-32-to-151-clause-divides c = dvd_of_mod-eq-zero 151 refl

pub returns-in-32-to-151-clause-shortest : goal.returns-in-32-to-151-clause-shortest
returns-in-32-to-151-clause-shortest c = λ r d h. from_32 r d (omega arith)

pub returns-in-152-to-217-clause-divides : goal.returns-in-152-to-217-clause-divides
returns-in-152-to-217-clause-divides c = dvd_of_mod-eq-zero 217 refl

pub returns-in-152-to-217-clause-shortest : goal.returns-in-152-to-217-clause-shortest
returns-in-152-to-217-clause-shortest c = λ r d h. from_152 r d (omega arith)

pub returns-in-218-to-1057-clause-divides : goal.returns-in-218-to-1057-clause-divides
returns-in-218-to-1057-clause-divides c = dvd_of_mod-eq-zero 1057 refl

pub returns-in-218-to-1057-clause-shortest : goal.returns-in-218-to-1057-clause-shortest
returns-in-218-to-1057-clause-shortest c = λ r d h. from_218 r d (omega arith)

pub returns-in-1058-to-4681-clause-divides : goal.returns-in-1058-to-4681-clause-divides
returns-in-1058-to-4681-clause-divides c = dvd_of_mod-eq-zero 4681 refl

pub returns-in-1058-to-4681-clause-shortest : goal.returns-in-1058-to-4681-clause-shortest
returns-in-1058-to-4681-clause-shortest c = λ r d h. from_1058 r d (omega arith)

pub returns-in_default-clause-shortest : goal.returns-in_default-clause-shortest
returns-in_default-clause-shortest c = λ r d h. from_4682 r d (omega arith)
