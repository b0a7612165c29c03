-- The functions for a frame and for the codes in it.
use Rattle.std.proofs.Common.{◌≡◌, ℕ, ◌*◌, ◌/◌, ◌<◌, ◌≤◌, arith, true, false, nat_le, refl, ap, sym, ◌∙◌}
use Rattle.std.specs.Prelude.{ℤ, pos, neg_ℤ, ◌+ℤ◌, ◌-ℤ◌, ◌*ℤ◌, ◌≤ℤ◌, unsigned_abs, if◌then◌else◌}
use Rattle.std.specs.Int.{◌∣◌}
use Rattle.std.proofs.lemmas.Int.{ints}
use Rattle.std.proofs.lemmas.Bool.Decides.{nat_tests}
use Rattle.std.proofs.lemmas.Nat.Gcd.{dvd_of_mod-eq-zero}
use Rattle.height_lattice.specs.declared.height_frame.HeightFrame.{HeightFrame}
use Rattle.height_lattice.specs.HeightCode.{IsCode, code_of}
use Rattle.height_lattice.specs.HeightFrame.{IsFrame, IsWithin, range_of, frame_of}
use Rattle.height_lattice.proofs.Divisors.{from_0, from_2, from_8, from_32, from_152, from_218, from_1058, from_4682}
use Rattle.height_lattice.proofs.Codes.{product, code_small}

record IsRange (n r : ℕ) : Type 0 where
  divides : r ∣ 32767
  reaches : n ≤ r
  shortest : (k : ℕ) → k ∣ 32767 → n ≤ k → r ≤ k

yes : (n a : ℕ) → nat_le n a ≡ true → n ≤ a
yes n a e = grind (arith, nat_tests)

no : (n a : ℕ) → nat_le n a ≡ false → a < n
no n a e = grind (arith, nat_tests)

pick : (n a r : ℕ) → (n ≤ a → IsRange n a) → (a < n → IsRange n r) → IsRange n (if nat_le n a then a else r)
pick n a r f g = elim (nat_le n a) as (λ b. nat_le n a ≡ b → IsRange n (if b then a else r)) [
  | true ↦ λ e. f (yes n a e)
  | false ↦ λ e. g (no n a e)
] refl

range_is : (n : ℕ) → n ≤ 32767 → IsRange n (range_of n)
unfolding range_of
range_is n h =
    pick n 1 _ (λ l. record { divides = dvd_of_mod-eq-zero 1 refl; reaches = l; shortest = λ k d m. from_0 k d }) (λ a.
    pick n 7 _ (λ l. record { divides = dvd_of_mod-eq-zero 7 refl; reaches = l; shortest = λ k d m. from_2 k d (omega (arith, a, m)) }) (λ b.
    pick n 31 _ (λ l. record { divides = dvd_of_mod-eq-zero 31 refl; reaches = l; shortest = λ k d m. from_8 k d (omega (arith, b, m)) }) (λ c.
    pick n 151 _ (λ l. record { divides = dvd_of_mod-eq-zero 151 refl; reaches = l; shortest = λ k d m. from_32 k d (omega (arith, c, m)) }) (λ e.
    pick n 217 _ (λ l. record { divides = dvd_of_mod-eq-zero 217 refl; reaches = l; shortest = λ k d m. from_152 k d (omega (arith, e, m)) }) (λ f.
    pick n 1057 _ (λ l. record { divides = dvd_of_mod-eq-zero 1057 refl; reaches = l; shortest = λ k d m. from_218 k d (omega (arith, f, m)) }) (λ g.
    pick n 4681 _ (λ l. record { divides = dvd_of_mod-eq-zero 4681 refl; reaches = l; shortest = λ k d m. from_1058 k d (omega (arith, g, m)) }) (λ i.
    record { divides = dvd_of_mod-eq-zero 32767 refl; reaches = h; shortest = λ k d m. from_4682 k d (omega (arith, i, m)) })))))))

-- ---- frames
pub frame_is : (least greatest : ℤ) → least ≤ℤ greatest → greatest ≤ℤ (least +ℤ pos 32767) → IsFrame least greatest (frame_of least greatest)
unfolding frame_of
frame_is least greatest h k =
    let n = unsigned_abs (greatest -ℤ least) in
    let few : n ≤ 32767 = omega (arith, ints, h, k) in
    let r = range_is n few in
    record {
      base = refl;
      divides = r.divides;
      reaches = (let e = r.reaches in omega (arith, ints, h, e));
      shortest = λ range d g. r.shortest range d (omega (arith, ints, h, g));
    }

-- ---- codes
pub code_of_is : (frame : HeightFrame) (metres : ℤ) → frame.range ∣ 32767 → frame.base ≤ℤ metres → IsCode frame metres (code_of frame metres)
unfolding code_of
code_of_is frame metres d low =
    let a = unsigned_abs (metres -ℤ frame.base) in
    let up : pos a ≡ metres -ℤ frame.base = omega (arith, ints, low) in
    let whole : a * (32767 / frame.range) * frame.range ≡ a * 32767 = product a frame.range d in
    ap pos whole ∙ (let e : pos (a * 32767) ≡ pos a *ℤ pos 32767 = omega (arith, ints) in e ∙ ap (λ x. x *ℤ pos 32767) up)

pub code_of_small : (frame : HeightFrame) (metres : ℤ) → frame.range ∣ 32767 → IsWithin frame metres → code_of frame metres ≤ 32767
code_of_small frame metres d within = code_small frame metres (code_of frame metres) d within (code_of_is frame metres d within.low)

-- ---- one frame
same_by : (base : ℤ) (range : ℕ) (frame : HeightFrame) → frame.base ≡ base → frame.range ≡ range
    → ◌≡◌ {A = HeightFrame} frame (record { base = base; range = range })
same_by base range frame e f = rw (sym e, sym f) refl

pub same_frame : (least greatest : ℤ) (frame other : HeightFrame) → IsFrame least greatest frame
    → IsFrame least greatest other → frame ≡ other
same_frame least greatest frame other p q =
    let up = p.shortest other.range q.divides q.reaches in
    let down = q.shortest frame.range p.divides p.reaches in
    same_by other.base other.range frame (p.base ∙ sym q.base) (omega (arith, up, down))

pub not_far : (least greatest : ℤ) → neg_ℤ (pos 16000) ≤ℤ least → greatest ≤ℤ pos 16000 → greatest ≤ℤ (least +ℤ pos 32767)
not_far least greatest low high = omega (arith, ints, low, high)
